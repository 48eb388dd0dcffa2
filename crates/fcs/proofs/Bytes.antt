-- Bytes taken at once: in the register the number that they make does what the bytes do one after the other.
-- Assumes nothing.
use mathlib.Core.Path.{◌≡◌, refl, sym, ap, ap₂, ◌∙◌, subst}
use mathlib.Core.List.{List, [], ◌∷◌, ◌++◌}
use Prim.Native.Nat.{ℕ, zero, suc, ◌+◌, ◌*◌, ◌^◌, ◌<◌, ◌≤◌}
use native.Mathlib.Nat.{add_comm}
use native.Mathlib.Omega.{arith}
use lib.Arith.{digits_lt}
use lib.Pow.{pow-add}
use lib.ListN.{length, get_or, take, drop, drop_of_length-le}
use Rattle.std.specs.List.{fold}
use Rattle.std.proofs.lemmas.List.Sums.{fold_push}
use Rattle.std.proofs.lemmas.List.{get_or-take, get_or-drop, length-drop}
use lib.Seq.{take_all}
use Rattle.std.specs.Int.{w64, from_le_bytes}
use Rattle.std.specs.Simd.{first_chunks}
use Rattle.fcs.specs.Fcs.{bit_step, bit_steps, byte_step, fcs_from}
use Rattle.fcs.specs.Word.{reduced, four}
use Rattle.fcs.proofs.Xor.{◌⊕◌, ⊕_assoc, ⊕_comm, ⊕_zero, ⊕_shifted}
use Rattle.fcs.proofs.Turns.{turns, turns_linear, turns_add, turns_shifted}
use Rattle.fcs.proofs.Four.{folded_in, standing}
use Rattle.fcs.proofs.Register.{reduced_turns, byte_step_lem, from_more, from_chunks}

-- the first n bytes of a list as one number, the first lowest
unfoldable number : ℕ → List ℕ → ℕ
number zero bs = 0
number (suc n) bs = number n bs + get_or bs n 0 * 2 ^ (8 * n)

-- what `u64::from_le_bytes` makes of eight
number_is : (bs : List ℕ) → from_le_bytes w64 bs ≡ number 8 bs
unfolding number
number_is bs = omega arith

number_take : (n m : ℕ) (bs : List ℕ) → n ≤ m → number n (take m bs) ≡ number n bs
unfolding number
number_take zero m bs h = refl
number_take (suc n) m bs h =
    ap₂ (λ (x b : ℕ). x + b * 2 ^ (8 * n)) (number_take n m bs (omega arith)) (get_or-take m bs n 0 (omega arith))

module _ (bs : List ℕ) (byte : (i : ℕ) → get_or bs i 0 < 256) where
  number_lt : (n : ℕ) → number n bs < 2 ^ (8 * n)
  unfolding number
  number_lt zero = omega arith
  number_lt (suc n) =
      let grown : 2 ^ (8 * suc n) ≡ 256 * 2 ^ (8 * n) = ap (λ (k : ℕ). 2 ^ k) (omega arith) ∙ pow-add 2 8 (8 * n) in
      subst (λ (x : ℕ). x < 2 ^ (8 * suc n)) (add_comm (get_or bs n 0 * 2 ^ (8 * n)) (number n bs))
      (subst (λ (x : ℕ). get_or bs n 0 * 2 ^ (8 * n) + number n bs < x) (sym grown) (digits_lt (byte n) (number_lt n)))

  -- in the register, one byte more above the others is the next step
  byte_more : (r n : ℕ) → byte_step (turns (8 * n) (r ⊕ number n bs)) (get_or bs n 0) ≡ turns (8 * suc n) (r ⊕ number (suc n) bs)
  unfolding number
  byte_more r n =
      let b : ℕ = get_or bs n 0 in
      let low : ℕ = number n bs in
      let put : low ⊕ b * 2 ^ (8 * n) ≡ low + b * 2 ^ (8 * n) =
      ⊕_comm low (b * 2 ^ (8 * n)) ∙ ⊕_shifted b (8 * n) low (number_lt n) ∙ add_comm (b * 2 ^ (8 * n)) low in
      let in_turn : turns (8 * n) (r ⊕ low) ⊕ b ≡ turns (8 * n) (r ⊕ (low + b * 2 ^ (8 * n))) =
      ap (λ (x : ℕ). turns (8 * n) (r ⊕ low) ⊕ x) (sym (turns_shifted (8 * n) b))
      ∙ sym (turns_linear (8 * n) (r ⊕ low) (b * 2 ^ (8 * n)))
      ∙ ap (turns (8 * n)) (⊕_assoc r low (b * 2 ^ (8 * n)) ∙ ap (λ (x : ℕ). r ⊕ x) put) in
      byte_step_lem (turns (8 * n) (r ⊕ low)) b (byte n)
      ∙ ap (turns 8) in_turn
      ∙ sym (turns_add (8 * n) 8 (r ⊕ (low + b * 2 ^ (8 * n))))
      ∙ ap (λ (k : ℕ). turns k (r ⊕ (low + b * 2 ^ (8 * n)))) (omega arith)

  -- the first n bytes, from the register r
  first_bytes : (r n : ℕ) → n ≤ length bs → fcs_from r (take n bs) ≡ turns (8 * n) (r ⊕ number n bs)
  unfolding number turns fcs_from
  first_bytes r zero h = sym (⊕_zero r)
  first_bytes r (suc n) h =
      from_more r bs n (omega arith)
      ∙ ap (λ (s : ℕ). byte_step s (get_or bs n 0)) (first_bytes r n (omega arith))
      ∙ byte_more r n

  -- the first eight bytes, from the register r
  pub eight : (r : ℕ) {w : ℕ} → 8 ≤ length bs → w ≡ from_le_bytes w64 (take 8 bs) → turns 64 (r ⊕ w) ≡ fcs_from r (take 8 bs)
  eight r n e = ap (λ (x : ℕ). turns 64 (r ⊕ x)) (e ∙ number_is (take 8 bs) ∙ number_take 8 8 bs (omega arith)) ∙ sym (first_bytes r 8 n)

  -- eight bytes more: z stands for the register that y stands for 64 steps on
  pub word_more : (y z : ℕ) {w : ℕ} → length bs ≡ 8 → reduced 64 z ≡ reduced 128 y → w ≡ from_le_bytes w64 bs
      → reduced 64 (z ⊕ w) ≡ fcs_from (reduced 64 y) bs
  word_more y z {w} n folded e =
      let all : take 8 bs ≡ bs = take_all 8 bs (omega arith) in
      reduced_turns 64 (z ⊕ w)
      ∙ folded_in y z w folded
      ∙ ap (λ (r : ℕ). turns 64 (r ⊕ w)) (sym (reduced_turns 64 y))
      ∙ eight (reduced 64 y) (omega arith) (e ∙ ap (from_le_bytes w64) (sym all))
      ∙ ap (fcs_from (reduced 64 y)) all

bytes_drop : (n : ℕ) (bs : List ℕ) → ((i : ℕ) → get_or bs i 0 < 256) → (i : ℕ) → get_or (drop n bs) i 0 < 256
bytes_drop n bs byte i = subst (λ (b : ℕ). b < 256) (sym (get_or-drop n bs i 0)) (byte (n + i))

-- thirty-two bytes into the register r, as four words
module _ (bs : List ℕ) (byte : (i : ℕ) → get_or bs i 0 < 256) (n : length bs ≡ 32) where
  abbrev pub word : ℕ → List ℕ
  word i = get_or (first_chunks 8 4 bs) i []

  pub four_words : (r : ℕ) {u v w x : ℕ} → u ≡ from_le_bytes w64 (word 0) → v ≡ from_le_bytes w64 (word 1)
      → w ≡ from_le_bytes w64 (word 2) → x ≡ from_le_bytes w64 (word 3) → standing (r ⊕ u) v w x ≡ fcs_from r bs
  unfolding fcs_from
  four_words r {u} {v} {w} {x} eu ev ew ex =
      let bs₁ : List ℕ = drop 8 bs in
      let bs₂ : List ℕ = drop 8 bs₁ in
      let bs₃ : List ℕ = drop 8 bs₂ in
      let n₁ : length bs₁ ≡ 24 = length-drop 8 bs ∙ omega (arith, n) in
      let n₂ : length bs₂ ≡ 16 = length-drop 8 bs₁ ∙ omega (arith, n₁) in
      let n₃ : length bs₃ ≡ 8 = length-drop 8 bs₂ ∙ omega (arith, n₂) in
      let byte₁ : (i : ℕ) → get_or bs₁ i 0 < 256 = bytes_drop 8 bs byte in
      let byte₂ : (i : ℕ) → get_or bs₂ i 0 < 256 = bytes_drop 8 bs₁ byte₁ in
      let byte₃ : (i : ℕ) → get_or bs₃ i 0 < 256 = bytes_drop 8 bs₂ byte₂ in
      ap (λ (s : ℕ). turns 64 (turns 64 (turns 64 (s ⊕ v) ⊕ w) ⊕ x)) (eight bs byte r (omega arith) eu)
      ∙ ap (λ (s : ℕ). turns 64 (turns 64 (s ⊕ w) ⊕ x)) (eight bs₁ byte₁ _ (omega arith) ev)
      ∙ ap (λ (s : ℕ). turns 64 (s ⊕ x)) (eight bs₂ byte₂ _ (omega arith) ew)
      ∙ eight bs₃ byte₃ _ (omega arith) ex
      ∙ ap (fcs_from (fold fcs_from r (first_chunks 8 4 bs))) (sym (drop_of_length-le bs {i = 32} (omega arith)))
      ∙ from_chunks 8 4 r bs

-- four words of zeros stand for the register before the first byte
pub no_bytes : four 0 0 0 0 ≡ 0
unfolding four reduced bit_steps bit_step
no_bytes = refl

-- the bytes of one more part
pub part_more : (init r s : ℕ) (parts : List (List ℕ)) (bs : List ℕ) → r ≡ fold fcs_from init parts → s ≡ fcs_from r bs
    → s ≡ fold fcs_from init (parts ++ bs ∷ [])
part_more init r s parts bs e f = f ∙ ap (λ (x : ℕ). fcs_from x bs) e ∙ sym (fold_push fcs_from init parts bs)

-- n bytes a time, and then the rest
pub then_rest : (n k init r : ℕ) (bs : List ℕ) {parts : List (List ℕ)} {rest : List ℕ} → r ≡ fold fcs_from init parts
    → parts ≡ first_chunks n k bs → rest ≡ drop (k * n) bs → fcs_from r rest ≡ fcs_from init bs
then_rest n k init r bs e p q = ap₂ fcs_from (e ∙ ap (fold fcs_from init) p) q ∙ from_chunks n k init bs
