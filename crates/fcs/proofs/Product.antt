-- The product of polynomials over GF(2): it is the sum of what the lowest term gives and of what the others give, it is linear for xor,
-- and a multiple of the generator that has a degree below 16 is 0. So a polynomial has one remainder (`OneRemainder`).
-- Assumes nothing.
use mathlib.Core.Path.{◌≡◌, refl, sym, ap, ap₂, ◌∙◌, subst}
use Prim.Native.Nat.{ℕ, zero, suc, ◌+◌, ◌*◌, ◌/◌, ◌%◌, ◌^◌, ◌<◌, ◌≤◌}
use native.Mathlib.Nat.{mod-lt, le_refl, not-suc-le-zero, zero-mul}
use native.Mathlib.Decide.{le_ind}
use native.Mathlib.Omega.{arith}
use lib.Arith.{half_le, bin_ind, digits_div, digits_mod}
use lib.Pow.{shr_le}
use Rattle.fcs.specs.Polynomial.{divisor, low_times, times, OneRemainder}
use Rattle.fcs.proofs.Xor.{◌⊕◌, ⊕_comm, ⊕_zero, ⊕_zero_left, ⊕_self, ⊕_lt, ⊕_shr, ⊕_shl, ⊕_scaled, ⊕_odd, ⊕_swap, ⊕_same}
use Rattle.fcs.proofs.Turns.{Linear}

-- terms above the highest one change nothing
one_more : (n a b : ℕ) → a ≤ n → low_times (suc n) a b ≡ low_times n a b
unfolding low_times ◌⊕◌
one_more zero zero b h = ap (λ (x : ℕ). x ⊕ 0) (zero-mul b)
one_more zero (suc a) b h = absurd (not-suc-le-zero h)
one_more (suc n) a b h = ap (λ (x : ℕ). a % 2 * b ⊕ x * 2) (one_more n (a / 2) b (half_le h))

any_more : (n a b : ℕ) → a ≤ n → low_times n a b ≡ times a b
unfolding times
any_more n a b h = le_ind (λ (m : ℕ). low_times m a b ≡ low_times a a b) refl (λ m k e. one_more m a b k ∙ e) n h

-- the lowest term, and the others
times_step : (a b : ℕ) → times a b ≡ a % 2 * b ⊕ times (a / 2) b * 2
unfolding low_times times ◌⊕◌
times_step a b =
    sym (one_more a a b (le_refl a)) ∙ ap (λ (x : ℕ). a % 2 * b ⊕ x * 2) (any_more a (a / 2) b (shr_le a 1))

-- one term more in the quotient
pub times_more : (q d p : ℕ) → d < 2 → times (q * 2 + d) p ≡ times q p * 2 ⊕ d * p
times_more q d p h =
    times_step (q * 2 + d) p
    ∙ ap₂ (λ (x y : ℕ). x * p ⊕ times y p * 2) (digits_mod q h) (digits_div q h)
    ∙ ⊕_comm (d * p) (times q p * 2)

times_zero : (b : ℕ) → times 0 b ≡ 0
unfolding low_times times
times_zero b = refl

times_linear : (p : ℕ) → Linear (λ x. times x p)
times_linear p =
    bin_ind (λ (a : ℕ). (b : ℕ) → times (a ⊕ b) p ≡ times a p ⊕ times b p)
    (λ b. ap (λ (x : ℕ). times x p) (⊕_zero_left b) ∙ sym (ap (λ (x : ℕ). x ⊕ times b p) (times_zero p) ∙ ⊕_zero_left (times b p)))
    (λ a ih b.
    times_step (a ⊕ b) p
    ∙ ap₂ (λ (x y : ℕ). x * p ⊕ times y p * 2) (⊕_odd a b) (⊕_shr a b 1)
    ∙ ap₂ (λ (x y : ℕ). x ⊕ y * 2) (⊕_scaled (a % 2) (b % 2) p (mod-lt a (omega arith)) (mod-lt b (omega arith))) (ih (b / 2))
    ∙ ap (λ (x : ℕ). a % 2 * p ⊕ b % 2 * p ⊕ x) (⊕_shl (times (a / 2) p) (times (b / 2) p) 1)
    ∙ ⊕_swap (a % 2 * p) (b % 2 * p) (times (a / 2) p * 2) (times (b / 2) p * 2)
    ∙ sym (ap₂ ◌⊕◌ (times_step a p) (times_step b p)))

-- a multiple below x^16 is that by 0
module _ (a : ℕ) (ih : times (a / 2) divisor < 2 ^ 16 → a / 2 ≡ 0) (h : times a divisor < 2 ^ 16) where
  -- the lowest term of a gives nothing above x^16, so the others give nothing there
  rest_small : times (a / 2) divisor < 2 ^ 16
  rest_small =
      let none : a % 2 * divisor / 2 ^ 17 ≡ 0 = omega arith in
      let over : times (a / 2) divisor * 2 / 2 ^ 17 ≡ 0 =
      sym (⊕_zero_left (times (a / 2) divisor * 2 / 2 ^ 17))
      ∙ ap (λ (x : ℕ). x ⊕ times (a / 2) divisor * 2 / 2 ^ 17) (sym none)
      ∙ sym (⊕_shr (a % 2 * divisor) (times (a / 2) divisor * 2) 17)
      ∙ ap (λ (x : ℕ). x / 2 ^ 17) (sym (times_step a divisor))
      ∙ omega arith in
      omega arith

  small_step : a ≡ 0
  small_step =
      let half : a / 2 ≡ 0 = ih rest_small in
      let whole : times a divisor ≡ a % 2 * divisor =
      times_step a divisor
      ∙ ap (λ (x : ℕ). a % 2 * divisor ⊕ x * 2) (ap (λ (x : ℕ). times x divisor) half ∙ times_zero divisor)
      ∙ ⊕_zero (a % 2 * divisor) in
      omega arith

small_multiple : (a : ℕ) → times a divisor < 2 ^ 16 → a ≡ 0
small_multiple = bin_ind (λ (a : ℕ). times a divisor < 2 ^ 16 → a ≡ 0) (λ h. refl) small_step

-- two remainders differ by a multiple below x^16
pub one_remainder : OneRemainder
unfolding ◌⊕◌
one_remainder m r s p q =
    let a : ℕ = p.quotient in
    let b : ℕ = q.quotient in
    let both : times a divisor ⊕ r ≡ times b divisor ⊕ s = sym p.division ∙ q.division in
    let apart : times (a ⊕ b) divisor ≡ r ⊕ s =
    times_linear divisor a b
    ∙ ⊕_same (times a divisor ⊕ times b divisor) (r ⊕ s) (r ⊕ s)
    (⊕_swap (times a divisor) (times b divisor) r s
    ∙ ap (λ (x : ℕ). x ⊕ (times b divisor ⊕ s)) both
    ∙ ⊕_self (times b divisor ⊕ s) ∙ sym (⊕_self (r ⊕ s))) in
    let none : a ⊕ b ≡ 0 =
    small_multiple (a ⊕ b) (subst (λ (x : ℕ). x < 2 ^ 16) (sym apart) (⊕_lt 16 r s p.degree q.degree)) in
    ⊕_same r s s (sym apart ∙ ap (λ (x : ℕ). times x divisor) none ∙ times_zero divisor ∙ sym (⊕_self s))
