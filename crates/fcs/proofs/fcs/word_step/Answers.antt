-- `fcs::fcs::word_step` meets its contract: the word is folded, and eight bytes go into the register that it stands for.
-- Assumes nothing.
use Rattle.fcs.proofs.Xor.{◌⊕◌}
use Rattle.fcs.proofs.Bytes.{word_more}
use Rattle.fcs.proofs.fcs.word_step.Goals as goal

pub returns : goal.returns
unfolding ◌⊕◌
returns c =
    word_more c.args.bytes.now c.fits-bytes c.args.y c.fold.result c.told-bytes c.fold.ensures c.from_le_bytes.ensures
