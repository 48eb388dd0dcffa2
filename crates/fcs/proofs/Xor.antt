-- The laws of xor that the check's proofs use: a sum without carries, in which each number is its own opposite.
-- Assumes nothing.
use mathlib.Core.Path.{◌≡◌, refl, sym, ap, ap₂, ◌∙◌}
use Prim.Native.Nat.{ℕ, zero, suc, ◌+◌, ◌*◌, ◌/◌, ◌%◌, ◌^◌, ◌<◌}
use native.Mathlib.Nat.{mod-lt, add-zero, zero-mul}
use native.Mathlib.Numerals.{add-one}
use native.Mathlib.Omega.{arith}
use lib.Arith.{digits_mod}
use lib.Pow.{pow_pos, split, mod-mod-pow, field}
use lib.Bits.{bit_xor, differ, xor_step, xor_assoc, xor_comm, xor_zero_r, xor_self, xor_shr, xor_mod, xor_lt, xor_block, xor_shifted}

-- a number below 2 is 0 or 1
pub digit : (P : ℕ → Type 0) → P 0 → P 1 → (x : ℕ) → x < 2 → P x
digit P p q zero h = p
digit P p q (suc zero) h = q
digit P p q (suc (suc x)) h = absurd (omega arith)

pub differ_lt : (x y : ℕ) → x < 2 → y < 2 → differ x y < 2
differ_lt x y hx hy =
    digit (λ (x : ℕ). differ x y < 2) hy (digit (λ (y : ℕ). differ 1 y < 2) (omega arith) (omega arith) y hy) x hx

-- the lowest digit of a number's lowest digits, and the others
pub low_odd : (n b : ℕ) → b % 2 ^ suc n % 2 ≡ b % 2
low_odd n b = ap (λ (k : ℕ). b % 2 ^ k % 2) (sym (add-one n)) ∙ mod-mod-pow b n 1

pub low_half : (n b : ℕ) → b % 2 ^ suc n / 2 ≡ b / 2 % 2 ^ n
low_half n b = ap (λ (k : ℕ). b % 2 ^ k / 2) (sym (add-one n)) ∙ field b n 1

-- the lowest digit of a xor
xor_odd : (a b : ℕ) → bit_xor a b % 2 ≡ differ (a % 2) (b % 2)
xor_odd a b =
    ap (λ (x : ℕ). x % 2) (xor_step a b)
    ∙ digits_mod (bit_xor (a / 2) (b / 2)) (differ_lt (a % 2) (b % 2) (mod-lt a (omega arith)) (mod-lt b (omega arith)))

-- xor under a name of its own, which no proof looks into unless it says so
infixl 60 ◌⊕◌
unfoldable pub ◌⊕◌ : ℕ → ℕ → ℕ
a ⊕ b = bit_xor a b

pub ⊕_assoc : (a b c : ℕ) → (a ⊕ b) ⊕ c ≡ a ⊕ (b ⊕ c)
unfolding ◌⊕◌
⊕_assoc = xor_assoc

pub ⊕_comm : (a b : ℕ) → a ⊕ b ≡ b ⊕ a
unfolding ◌⊕◌
⊕_comm = xor_comm

pub ⊕_zero : (a : ℕ) → a ⊕ 0 ≡ a
unfolding ◌⊕◌
⊕_zero = xor_zero_r

pub ⊕_self : (a : ℕ) → a ⊕ a ≡ 0
unfolding ◌⊕◌
⊕_self = xor_self

pub ⊕_lt : (k a b : ℕ) → a < 2 ^ k → b < 2 ^ k → a ⊕ b < 2 ^ k
unfolding ◌⊕◌
⊕_lt = xor_lt

pub ⊕_shr : (a b k : ℕ) → (a ⊕ b) / 2 ^ k ≡ a / 2 ^ k ⊕ b / 2 ^ k
unfolding ◌⊕◌
⊕_shr = xor_shr

pub ⊕_mod : (a b k : ℕ) → (a ⊕ b) % 2 ^ k ≡ a % 2 ^ k ⊕ b % 2 ^ k
unfolding ◌⊕◌
⊕_mod = xor_mod

pub ⊕_odd : (a b : ℕ) → (a ⊕ b) % 2 ≡ differ (a % 2) (b % 2)
unfolding ◌⊕◌
⊕_odd = xor_odd

pub ⊕_shl : (a b k : ℕ) → (a ⊕ b) * 2 ^ k ≡ a * 2 ^ k ⊕ b * 2 ^ k
unfolding ◌⊕◌
⊕_shl a b k =
    sym (add-zero ((a ⊕ b) * 2 ^ k))
    ∙ sym (xor_block k a b 0 0 (pow_pos k) (pow_pos k))
    ∙ ap₂ ◌⊕◌ (add-zero (a * 2 ^ k)) (add-zero (b * 2 ^ k))

-- a number is the sum of its parts above and below a place
pub ⊕_shifted : (a k b : ℕ) → b < 2 ^ k → a * 2 ^ k ⊕ b ≡ a * 2 ^ k + b
unfolding ◌⊕◌
⊕_shifted = xor_shifted

pub ⊕_split : (a k : ℕ) → a ≡ a / 2 ^ k * 2 ^ k ⊕ a % 2 ^ k
⊕_split a k = sym (⊕_shifted (a / 2 ^ k) k (a % 2 ^ k) (mod-lt a (pow_pos k)) ∙ split a k)

pub ⊕_zero_left : (a : ℕ) → 0 ⊕ a ≡ a
unfolding ◌⊕◌
⊕_zero_left a = refl

-- a number taken where one of two digits is 1, but not both
pub ⊕_scaled : (x y p : ℕ) → x < 2 → y < 2 → differ x y * p ≡ x * p ⊕ y * p
⊕_scaled x y p hx hy =
    digit (λ (x : ℕ). differ x y * p ≡ x * p ⊕ y * p) (sym (ap (λ (n : ℕ). n ⊕ y * p) (zero-mul p) ∙ ⊕_zero_left (y * p)))
    (digit (λ (y : ℕ). differ 1 y * p ≡ 1 * p ⊕ y * p) (sym (ap (λ (n : ℕ). 1 * p ⊕ n) (zero-mul p) ∙ ⊕_zero (1 * p)))
    (zero-mul p ∙ sym (⊕_self (1 * p))) y hy) x hx

-- the middle two of four change places
pub ⊕_swap : (a b c d : ℕ) → (a ⊕ b) ⊕ (c ⊕ d) ≡ (a ⊕ c) ⊕ (b ⊕ d)
⊕_swap a b c d = rw (⊕_assoc a b (c ⊕ d), ← ⊕_assoc b c d, ⊕_comm b c, ⊕_assoc c b d, ← ⊕_assoc a c (b ⊕ d))

-- what stands twice goes
pub ⊕_cancel : (a b : ℕ) → (a ⊕ b) ⊕ b ≡ a
⊕_cancel a b = rw (⊕_assoc a b b, ⊕_self b, ⊕_zero a)

pub ⊕_same : (a b c : ℕ) → a ⊕ c ≡ b ⊕ c → a ≡ b
⊕_same a b c h = sym (⊕_cancel a c) ∙ ap (λ (x : ℕ). x ⊕ c) h ∙ ⊕_cancel b c
