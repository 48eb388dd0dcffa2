-- `fcs::fcs::fcs` meets its contract: after the blocks, and then after the words, the register is that after the bytes in them.
-- Assumes nothing.
use Rattle.std.proofs.Common.{rules, ◌≡◌, ℕ, ◌/◌, length, refl, ap, ◌∙◌}
use Rattle.std.specs.List.{fold}
use Rattle.std.proofs.lemmas.Fn.{fold_over, slice_gives, fronts}
use Rattle.fcs.specs.Fcs.{fcs_from, fcs_of}
use Rattle.fcs.specs.Word.{reduced, four}
use Rattle.fcs.proofs.Bytes.{no_bytes, part_more, then_rest}
use Rattle.fcs.proofs.fcs.fcs.Goals as goal

pub returns : goal.returns
unfolding fcs_of
returns c =
    let bytes = c.args.bytes.now in
    let tail = c.as_chunks.result.1.now in
    let s = c.fold-block.result in
    let blocks : four s.a s.b s.c s.d ≡ fold fcs_from 0 c.iter.result.rest.now =
    fold_over fronts (λ y. y.now) _ (λ ys s. four s.a s.b s.c s.d ≡ fold fcs_from 0 ys) _
    (λ ys a x b q j k. let e = part_more 0 (four a.a a.b a.c a.d) (four b.a b.b b.c b.d) ys x.now j in search rules)
    _ _ _ _ (slice_gives c.iter.result) no_bytes c.fold-block.ensures.ran in
    let words : reduced 64 c.fold-word.result ≡ fold fcs_from (reduced 64 c.one_word.result) c.iter-2.result.rest.now =
    fold_over fronts (λ y. y.now) _ (λ ys y. reduced 64 y ≡ fold fcs_from (reduced 64 c.one_word.result) ys) _
    (λ ys a x b q j k. let e = part_more (reduced 64 c.one_word.result) (reduced 64 a) (reduced 64 b) ys x.now j in search rules)
    _ _ _ _ (slice_gives c.iter-2.result) refl c.fold-word.ensures.ran in
    c.rest_steps.ensures
    ∙ ap (λ (r : ℕ). fcs_from r c.as_chunks-2.result.1.now) c.register.ensures
    ∙ then_rest 8 (length tail / 8) _ _ tail words (c.iter-2.ensures.rest ∙ c.as_chunks-2.ensures.front) c.as_chunks-2.ensures.back
    ∙ ap (λ (r : ℕ). fcs_from r tail) c.one_word.ensures
    ∙ then_rest 32 (length bytes / 32) 0 _ bytes blocks (c.iter.ensures.rest ∙ c.as_chunks.ensures.front) c.as_chunks.ensures.back
