-- `fcs::reduce::to_32` meets its contract: its formula, tried at the 64 powers of 2.
-- Assumes nothing.
use Rattle.fcs.proofs.Xor.{◌⊕◌}
use Rattle.fcs.proofs.Turns.{flip, taken, turn, turns}
use Rattle.fcs.proofs.Form.{Form, it, ◌xor◌, shl, shr, low, agree}
use Rattle.fcs.proofs.Shortcut.{Right, shortcut}
use Rattle.fcs.proofs.reduce.to_32.Goals as goal

abbrev l : Form
l = low 32 it

abbrev a : Form
a = l xor shl 32 8 l

abbrev q : Form
q = a xor shl 32 16 a xor shl 32 22 l

abbrev left : Form
left = shr 32 it xor q xor shr 10 q xor shr 24 q

right : Right left 32 64 64
unfolding agree turns turn taken flip ◌⊕◌
right = tt

pub returns : goal.returns
returns c = shortcut left 32 64 64 right c.args.y c.ranges.y.fits
