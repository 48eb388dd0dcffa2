-- `fcs::block::Block::with_bytes` meets its contract: thirty-two bytes go into the four words that are 256 steps on.
-- Assumes nothing.
use Rattle.std.proofs.Common.{◌≡◌, ◌∙◌, ap, ℕ, List, [], get_or, ◌/◌, w64}
use Rattle.std.specs.Int.{from_le_bytes}
use Rattle.std.specs.Simd.{first_chunks}
use Rattle.fcs.specs.Word.{four}
use Rattle.fcs.proofs.Xor.{◌⊕◌}
use Rattle.fcs.proofs.Four.{with_data}
use Rattle.fcs.proofs.Bytes.{four_words}
use Rattle.fcs.proofs.block.Block.with_bytes.Goals as goal

pub returns : goal.returns
unfolding ◌⊕◌
returns c =
    let s = c.args.self in
    let f = c.folded-a.result in
    let bytes = c.args.bytes.now in
    let words : c.as_chunks.result.0.now ≡ first_chunks 8 4 bytes = c.as_chunks.ensures.front ∙ ap (λ (n : ℕ). first_chunks 8 (n / 8) bytes) c.told-bytes in
    let word : (i : ℕ) → from_le_bytes w64 (get_or c.as_chunks.result.0.now i []) ≡ from_le_bytes w64 (get_or (first_chunks 8 4 bytes) i []) =
    λ i. ap (λ (ws : List (List ℕ)). from_le_bytes w64 (get_or ws i [])) words in
    with_data (four s.a s.b s.c s.d) f.a f.b f.c f.d _ _ _ _ c.folded-a.ensures
    ∙ four_words bytes c.fits-bytes c.told-bytes (four s.a s.b s.c s.d) (c.from_le_bytes.ensures ∙ word 0) (c.from_le_bytes-2.ensures ∙ word 1) (c.from_le_bytes-3.ensures ∙ word 2) (c.from_le_bytes-4.ensures ∙ word 3)
