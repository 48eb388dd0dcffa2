-- `fcs::block::Block::folded` meets its contract, by the formula of `Four`.
-- Assumes nothing.
use Rattle.std.proofs.Common.{sym, ap, ◌∙◌, arith}
use Rattle.fcs.specs.Word.{four}
use Rattle.fcs.proofs.Xor.{◌⊕◌}
use Rattle.fcs.proofs.Turns.{turns}
use Rattle.fcs.proofs.Register.{reduced_turns}
use Rattle.fcs.proofs.Four.{four_turns, next_four}
use Rattle.fcs.proofs.block.Block.folded.Goals as goal

pub returns : goal.returns
unfolding ◌⊕◌
returns c =
    let s = c.args.self in
    four_turns _ _ _ _
    ∙ next_four s.a s.b s.c s.d (omega arith) (omega arith) (omega arith) (omega arith)
    ∙ ap (turns 256) (sym (four_turns s.a s.b s.c s.d))
    ∙ sym (reduced_turns 256 (four s.a s.b s.c s.d))
