-- `fcs::reduce::fold` meets its contract: its formula, tried at the 64 powers of 2.
-- Assumes nothing.
use Rattle.fcs.proofs.Xor.{◌⊕◌}
use Rattle.fcs.proofs.Turns.{flip, taken, turn, turns}
use Rattle.fcs.proofs.Form.{Form, it, ◌xor◌, shl, shr, ◌then◌, agree}
use Rattle.fcs.proofs.Shortcut.{Right, shortcut}
use Rattle.fcs.proofs.reduce.fold.Goals as goal

abbrev a : Form
a = it xor shl 64 16 it

abbrev q : Form
q = a xor shl 64 32 a xor shl 64 44 it

abbrev folded : Form
folded = q then (it xor shr 20 it xor shr 48 it)

right : Right folded 64 128 64
unfolding agree turns turn taken flip ◌⊕◌
right = tt

pub returns : goal.returns
returns c = shortcut folded 64 128 64 right c.args.y c.ranges.y.fits
