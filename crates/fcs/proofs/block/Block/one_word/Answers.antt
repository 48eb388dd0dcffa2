-- `fcs::block::Block::one_word` meets its contract, by what `fold` ensures of each word.
-- Assumes nothing.
use Rattle.fcs.proofs.Xor.{◌⊕◌}
use Rattle.fcs.proofs.Four.{one_of_four}
use Rattle.fcs.proofs.block.Block.one_word.Goals as goal

pub returns : goal.returns
unfolding ◌⊕◌
returns c =
    let s = c.args.self in
    one_of_four s.a s.b s.c s.d c.fold.result c.fold-2.result c.fold-3.result c.fold.ensures c.fold-2.ensures c.fold-3.ensures
