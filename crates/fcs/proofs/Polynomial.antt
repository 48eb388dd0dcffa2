-- `CheckIsRemainder`: the register's bits, in the order in which they are sent, are the remainder of the message so far, and a data bit
-- keeps it so. The bit doubles the message and is added to it; the register moves by one place, which doubles the remainder, and the
-- generator is taken where a term x^16 arises. `GeneratorDivides`: the remainder stands behind the message, so that it goes. `Example` is
-- computed.
-- Assumes nothing.
use mathlib.Core.Path.{◌≡◌, refl, sym, ap, ap₂, ◌∙◌, subst}
use mathlib.Core.List.{List, [], ◌∷◌, ◌++◌}
use Prim.Native.Nat.{ℕ, zero, suc, ◌+◌, ◌*◌, ◌/◌, ◌%◌, ◌^◌, ◌<◌}
use native.Mathlib.Nat.{mod-lt}
use native.Mathlib.Omega.{arith}
use lib.Bits.{differ}
use Rattle.fcs.specs.Fcs.{generator, bit_step, bit_steps, byte_step, fcs_from, fcs_of}
use Rattle.fcs.specs.Polynomial.{divisor, low_times, times, Remainder, sent_bits, sent, polynomial}
use Rattle.fcs.specs.Polynomial.{CheckIsRemainder, GeneratorDivides, Example}
use Rattle.fcs.proofs.Xor.{digit, differ_lt, ◌⊕◌, ⊕_assoc, ⊕_comm, ⊕_zero, ⊕_self, ⊕_shl, ⊕_shifted, ⊕_scaled, ⊕_swap, ⊕_cancel}
use Rattle.fcs.proofs.Product.{times_more}
use Rattle.fcs.proofs.Coefficients.{carried, alone, joined, leading_zero, sent_append, sent_register, mirrored, mirrored_suc}
use Rattle.fcs.proofs.Coefficients.{mirrored_lt, mirrored_linear, mirrored_half, followed}
use Rattle.fcs.proofs.Register.{bit_step_lt, byte_step_lt}

-- the generator without its x^16 is what the register's step takes
mirrored_generator : (d : ℕ) → d < 2 → d * divisor ≡ d * 2 ^ 16 ⊕ mirrored 16 (d * generator)
unfolding sent_bits polynomial ◌⊕◌
mirrored_generator d h =
    digit (λ (d : ℕ). d * divisor ≡ d * 2 ^ 16 ⊕ mirrored 16 (d * generator)) refl refl d h

-- one data bit of a register
module _ (r b : ℕ) (hr : r < 2 ^ 16) (hb : b < 2) where
  -- the bit that leaves, what stays, and whether the generator is taken
  abbrev c : ℕ
  c = r % 2

  abbrev w : ℕ
  w = mirrored 15 (r / 2)

  abbrev d : ℕ
  d = differ c b

  d_lt : d < 2
  d_lt = differ_lt c b (mod-lt r (omega arith)) hb

  next : mirrored 16 (bit_step r b) ≡ w * 2 ⊕ mirrored 16 (d * generator)
  unfolding bit_step ◌⊕◌
  next =
      mirrored_linear 16 (r / 2) (d * generator)
      ∙ ap (λ (x : ℕ). x ⊕ mirrored 16 (d * generator)) (mirrored_half 15 (r / 2) (omega arith))

  -- where the generator is taken, its x^16 is more than what the register has
  reduces : d * divisor ⊕ mirrored 16 (bit_step r b) ≡ d * 2 ^ 16 ⊕ w * 2
  reduces =
      ap₂ ◌⊕◌ (mirrored_generator d d_lt) next
      ∙ ⊕_swap (d * 2 ^ 16) (mirrored 16 (d * generator)) (w * 2) (mirrored 16 (d * generator))
      ∙ ap (λ (x : ℕ). d * 2 ^ 16 ⊕ w * 2 ⊕ x) (⊕_self (mirrored 16 (d * generator)))
      ∙ ⊕_zero (d * 2 ^ 16 ⊕ w * 2)

  -- that term arises from the register's highest coefficient, doubled, and from the data bit
  doubled : mirrored 16 r * 2 ≡ c * 2 ^ 16 ⊕ w * 2
  doubled =
      ap (λ (x : ℕ). x * 2) (mirrored_suc 15 r ∙ sym (⊕_shifted c 15 w (mirrored_lt 15 (r / 2))))
      ∙ ⊕_shl (c * 2 ^ 15) w 1 ∙ ap (λ (x : ℕ). x ⊕ w * 2) (omega arith)

  arises : d * 2 ^ 16 ⊕ w * 2 ≡ mirrored 16 r * 2 ⊕ b * 2 ^ 16
  arises =
      ap (λ (x : ℕ). x ⊕ w * 2) (⊕_scaled c b (2 ^ 16) (mod-lt r (omega arith)) hb)
      ∙ ⊕_assoc (c * 2 ^ 16) (b * 2 ^ 16) (w * 2)
      ∙ ap (λ (x : ℕ). c * 2 ^ 16 ⊕ x) (⊕_comm (b * 2 ^ 16) (w * 2))
      ∙ sym (⊕_assoc (c * 2 ^ 16) (w * 2) (b * 2 ^ 16))
      ∙ ap (λ (x : ℕ). x ⊕ b * 2 ^ 16) (sym doubled)

-- the register r has the remainder of the message m
abbrev Has : ℕ → ℕ → Type 0
Has r m = Remainder (m * 2 ^ 16) (mirrored 16 r)

has_bit : (r m b : ℕ) → r < 2 ^ 16 → b < 2 → Has r m → Has (bit_step r b) (m * 2 + b)
unfolding ◌⊕◌
has_bit r m b hr hb h =
    let q : ℕ = h.quotient in
    let d : ℕ = differ (r % 2) b in
    let t : ℕ = times q divisor in
    let twice : m * 2 * 2 ^ 16 ≡ (t ⊕ mirrored 16 r) * 2 = (omega arith) ∙ ap (λ (x : ℕ). x * 2) h.division in
    record {
      quotient = q * 2 + d;
      division =
          ap (λ (x : ℕ). x * 2 ^ 16) (sym (⊕_shifted m 1 b hb))
          ∙ ⊕_shl (m * 2) b 16
          ∙ ap (λ (x : ℕ). x ⊕ b * 2 ^ 16) (twice ∙ ⊕_shl t (mirrored 16 r) 1)
          ∙ ⊕_assoc (t * 2) (mirrored 16 r * 2) (b * 2 ^ 16)
          ∙ ap (λ (x : ℕ). t * 2 ⊕ x) (sym (reduces r b hr hb ∙ arises r b hr hb))
          ∙ sym (⊕_assoc (t * 2) (d * divisor) (mirrored 16 (bit_step r b)))
          ∙ ap (λ (x : ℕ). x ⊕ mirrored 16 (bit_step r b)) (sym (times_more q d divisor (d_lt r b hr hb)));
      degree = mirrored_lt 16 (bit_step r b);
    }

has_bits : (n r m b : ℕ) → r < 2 ^ 16 → Has r m → Has (bit_steps n r b) (polynomial (m ∷ sent_bits n b))
unfolding sent_bits bit_steps
has_bits zero r m b hr h = subst (Has r) (sym (alone m)) h
has_bits (suc n) r m b hr h =
    let bit : b % 2 < 2 = mod-lt b (omega arith) in
    subst (Has (bit_steps (suc n) r b)) (sym (carried m (b % 2) (sent_bits n (b / 2))))
    (has_bits n (bit_step r (b % 2)) (m * 2 + b % 2) (b / 2) (bit_step_lt r (b % 2) bit hr) (has_bit r m (b % 2) hr bit h))

has_bytes : (r m : ℕ) (bs : List ℕ) → r < 2 ^ 16 → Has r m → Has (fcs_from r bs) (polynomial (m ∷ sent bs))
unfolding sent fcs_from byte_step
has_bytes r m [] hr h = subst (Has r) (sym (alone m)) h
has_bytes r m (b ∷ bs) hr h =
    subst (Has (fcs_from r (b ∷ bs))) (sym (joined m (sent_bits 8 b) (sent bs)))
    (has_bytes (byte_step r b) (polynomial (m ∷ sent_bits 8 b)) bs (byte_step_lt r b hr) (has_bits 8 r m b hr h))

-- before the first byte
has_nothing : Has 0 0
unfolding sent_bits polynomial low_times times
has_nothing = record { quotient = 0; division = refl; degree = omega arith }

pub check_is_remainder : CheckIsRemainder
unfolding fcs_of
check_is_remainder bs =
    subst (Has (fcs_of bs)) (leading_zero (sent bs)) (has_bytes 0 0 bs (omega arith) has_nothing)

pub generator_divides : GeneratorDivides
unfolding ◌⊕◌
generator_divides bs =
    let r : ℕ = fcs_of bs in
    let h : Has r (polynomial (sent bs)) = check_is_remainder bs in
    let t : ℕ = times h.quotient divisor in
    record {
      quotient = h.quotient;
      division =
          ap polynomial (sent_append bs (r % 256 ∷ r / 256 ∷ []) ∙ ap (λ (ds : List ℕ). sent bs ++ ds) (sent_register r))
          ∙ followed (sent bs) r
          ∙ ap (λ (x : ℕ). x ⊕ mirrored 16 r) h.division
          ∙ ⊕_cancel t (mirrored 16 r) ∙ sym (⊕_zero t);
      degree = omega arith;
    }

pub example : Example
unfolding sent_bits sent bit_step bit_steps byte_step fcs_from fcs_of low_times times
example = record { message = refl; check = refl; bits = refl; product = refl }
