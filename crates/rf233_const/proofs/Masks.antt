-- What `&` does to a mask of one bit, as a law about `/` and `%`. Assumes nothing.
use mathlib.Core.Path.{◌≡◌, ◌∙◌, sym, ap}
use Prim.Native.Nat.{ℕ, ◌^◌}
use native.Mathlib.Nat.{eq_of_mul-eq-mul_right}
use lib.Bits.{bit_and, and_high}
use lib.Pow.{pow_pos, high_ones}
use lib.Dec.{eqb}
use borrow.Author.Tests.{eq-eqb, ne_eqb, eqb-true, eqb-false}
use Rattle.rf233_const.specs.Bits.{bit_field, field_at, bit_set}
use Rattle.laws.proofs.Logic.{by_value}

-- Two fields at one place are equal exactly if their values are.
at_one_place : (k a b : ℕ) → eqb (field_at k a) (field_at k b) ≡ eqb a b
at_one_place k a b =
    by_value (eqb a b) (eqb (field_at k a) (field_at k b))
    (λ e. eq-eqb _ _ (ap (field_at k) (eqb-true a b e)))
    (λ e. ne_eqb _ _ (λ q. eqb-false a b e (eq_of_mul-eq-mul_right (2 ^ k) (pow_pos k) a b q)))

-- A number holds the whole of a mask of bit k exactly if that bit is set.
pub bit_tested : (k n : ℕ) → eqb (bit_and n (field_at k 1)) (field_at k 1) ≡ bit_set k n
bit_tested k n =
    ap (λ (m : ℕ). eqb (bit_and n m) (field_at k 1)) (sym (high_ones 1 k))
    ∙ ap (λ (m : ℕ). eqb m (field_at k 1)) (and_high n 1 k)
    ∙ at_one_place k (bit_field k 1 n) 1
