-- `fcs::reduce::to_16` meets its contract: its formula, with what `last` ensures, tried at the 32 powers of 2.
-- Assumes nothing.
use Rattle.std.proofs.Common.{ℕ, ◌/◌, ◌^◌, bit_and, bit_xor, ap, ◌∙◌}
use Rattle.fcs.specs.Word.{reduced}
use Rattle.fcs.proofs.Xor.{◌⊕◌}
use Rattle.fcs.proofs.Turns.{flip, taken, turn, turns}
use Rattle.fcs.proofs.Form.{Form, it, ◌xor◌, shr, low, turned, agree}
use Rattle.fcs.proofs.Register.{reduced_turns}
use Rattle.fcs.proofs.Shortcut.{Right, shortcut}
use Rattle.fcs.proofs.reduce.to_16.Goals as goal

abbrev left : Form
left = shr 16 it xor turned 16 (low 16 it)

right : Right left 16 32 32
unfolding agree turns turn taken flip ◌⊕◌
right = tt

pub returns : goal.returns
returns c =
    let y : ℕ = c.args.y in
    ap (λ (x : ℕ). reduced 16 (bit_xor (y / 2 ^ 16) x)) (c.last.ensures ∙ reduced_turns 16 (bit_and y 0xffff))
    ∙ shortcut left 16 32 32 right y c.ranges.y.fits
