-- `fcs::reduce::last` meets its contract: its formula, tried at the 16 powers of 2.
-- Assumes nothing.
use Rattle.fcs.specs.Fcs.{bit_steps}
use Rattle.fcs.specs.Word.{reduced}
use Rattle.fcs.proofs.Xor.{◌⊕◌}
use Rattle.fcs.proofs.Turns.{flip, taken, turn, turns}
use Rattle.fcs.proofs.Form.{Form, it, ◌xor◌, shl, shr, ◌then◌, agree}
use Rattle.fcs.proofs.Shortcut.{Right, shortcut}
use Rattle.fcs.proofs.reduce.last.Goals as goal

abbrev a : Form
a = it xor shl 16 4 it

abbrev q : Form
q = a xor shl 16 8 a xor shl 16 11 it

abbrev left : Form
left = q then (it xor shr 5 it xor shr 12 it)

right : Right left 0 16 16
unfolding agree turns turn taken flip ◌⊕◌
right = tt

pub returns : goal.returns
unfolding reduced bit_steps
returns c = shortcut left 0 16 16 right c.args.l c.ranges.l.fits
