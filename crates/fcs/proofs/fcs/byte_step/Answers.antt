-- `fcs::fcs::byte_step` meets its contract: its formula of the register and the byte together, tried at the 16 powers of 2.
-- Assumes nothing.
use Rattle.std.proofs.Common.{sym, ◌∙◌, ◌^◌, ◌<◌, arith}
use Rattle.fcs.specs.Fcs.{bit_steps}
use Rattle.fcs.specs.Word.{reduced}
use Rattle.fcs.proofs.Xor.{◌⊕◌, ⊕_lt}
use Rattle.fcs.proofs.Turns.{flip, taken, turn, turns}
use Rattle.fcs.proofs.Form.{Form, it, ◌xor◌, shl, shr, low, agree}
use Rattle.fcs.proofs.Register.{reduced_turns, byte_step_lem}
use Rattle.fcs.proofs.Shortcut.{Right, shortcut}
use Rattle.fcs.proofs.fcs.byte_step.Goals as goal

abbrev l : Form
l = low 8 it

abbrev y : Form
y = low 8 (l xor shl 16 4 l)

abbrev left : Form
left = shr 8 it xor shl 16 8 y xor shl 16 3 y xor shr 4 y

right : Right left 0 8 16
unfolding agree turns turn taken flip ◌⊕◌
right = tt

pub returns : goal.returns
unfolding reduced bit_steps ◌⊕◌
returns c =
    let r = c.args.r in
    let b = c.args.b in
    let fits : r ⊕ b < 2 ^ 16 = ⊕_lt 16 r b c.ranges.r.fits (omega (arith, c.ranges.b.fits)) in
    shortcut left 0 8 16 right (r ⊕ b) fits ∙ reduced_turns 8 (r ⊕ b) ∙ sym (byte_step_lem r b c.ranges.b.fits)
