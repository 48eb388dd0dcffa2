-- The register's turn with no data: one place towards bit 0, and the generator where a 1 leaves. It is linear for xor, it undoes a
-- doubling, it keeps a register below 2 ^ 16, and no two registers have the same next one.
-- Assumes nothing.
use mathlib.Core.Path.{◌≡◌, refl, sym, ap, ap₂, ◌∙◌, subst}
use Prim.Native.Nat.{ℕ, zero, suc, ◌+◌, ◌-◌, ◌*◌, ◌/◌, ◌%◌, ◌^◌, ◌<◌}
use native.Mathlib.Nat.{mod-lt, add-zero, zero-add, suc-add, zero-mul, one-mul, pow-suc, mul_assoc}
use native.Mathlib.Omega.{arith}
use lib.Arith.{lt-one}
use lib.Pow.{pow_pos, shr_lt, split}
use lib.Bits.{differ, xor_step, xor_zero_r, xor_block}
use Rattle.fcs.specs.Fcs.{generator}
use Rattle.fcs.proofs.Xor.{digit, ◌⊕◌, ⊕_assoc, ⊕_comm, ⊕_zero, ⊕_zero_left, ⊕_self, ⊕_lt, ⊕_shr, ⊕_odd, ⊕_split}
use Rattle.fcs.proofs.Xor.{⊕_scaled, ⊕_swap, ⊕_same}

-- a function that takes a xor to the xor of its values
abbrev pub Linear : (ℕ → ℕ) → Type 0
Linear f = (x y : ℕ) → f (x ⊕ y) ≡ f x ⊕ f y

pub at_zero : (f : ℕ → ℕ) → Linear f → f 0 ≡ 0
at_zero f l = ap f (sym (⊕_self 0)) ∙ l 0 0 ∙ ⊕_self (f 0)

-- two linear functions that agree at the first k powers of 2 agree below 2 ^ k
pub basis : (f g : ℕ → ℕ) → Linear f → Linear g → (k : ℕ) → ((j : ℕ) → j < k → f (2 ^ j) ≡ g (2 ^ j)) → (u : ℕ) → u < 2 ^ k → f u ≡ g u
basis f g lf lg zero h u b = ap f (lt-one b) ∙ at_zero f lf ∙ sym (ap g (lt-one b) ∙ at_zero g lg)
basis f g lf lg (suc k) h u b =
    let top : f (u / 2 ^ k * 2 ^ k) ≡ g (u / 2 ^ k * 2 ^ k) =
    digit (λ (d : ℕ). f (d * 2 ^ k) ≡ g (d * 2 ^ k))
    (ap f (zero-mul (2 ^ k)) ∙ at_zero f lf ∙ sym (ap g (zero-mul (2 ^ k)) ∙ at_zero g lg))
    (ap f (one-mul (2 ^ k)) ∙ h k (omega arith) ∙ sym (ap g (one-mul (2 ^ k))))
    (u / 2 ^ k) (shr_lt 1 k (subst (λ (n : ℕ). u < 2 ^ n) (omega arith) b)) in
    ap f (⊕_split u k) ∙ lf (u / 2 ^ k * 2 ^ k) (u % 2 ^ k)
    ∙ ap₂ ◌⊕◌ top (basis f g lf lg k (λ j l. h j (omega arith)) (u % 2 ^ k) (mod-lt u (pow_pos k)))
    ∙ sym (ap g (⊕_split u k) ∙ lg (u / 2 ^ k * 2 ^ k) (u % 2 ^ k))

-- the lowest digit, and the digit at place k, turned from 0 to 1 or from 1 to 0
abbrev toggled : ℕ → ℕ
toggled h = h + 1 - h % 2 * 2

unfoldable pub flip : ℕ → ℕ → ℕ
flip k x = toggled (x / 2 ^ k) * 2 ^ k + x % 2 ^ k

-- the generator taken by its three digits, which antt computes in fewer steps than a xor
unfoldable pub taken : ℕ → ℕ → ℕ
taken zero x = x
taken (suc d) x = flip 15 (flip 10 (flip 3 x))

unfoldable pub turn : ℕ → ℕ
turn x = taken (x % 2) (x / 2)

toggled_xor : (h : ℕ) → h ⊕ 1 ≡ toggled h
unfolding ◌⊕◌
toggled_xor h =
    xor_step h 1
    ∙ ap (λ (x : ℕ). x * 2 + differ (h % 2) 1) (xor_zero_r (h / 2))
    ∙ ap (λ (x : ℕ). h / 2 * 2 + x) (digit (λ (d : ℕ). differ d 1 ≡ 1 - d) refl refl (h % 2) (mod-lt h (omega arith)))
    ∙ omega arith

flip_xor : (k x : ℕ) → x ⊕ 2 ^ k ≡ flip k x
unfolding flip ◌⊕◌
flip_xor k x =
    ap₂ ◌⊕◌ (sym (split x k)) (sym (add-zero (1 * 2 ^ k) ∙ one-mul (2 ^ k)))
    ∙ xor_block k (x / 2 ^ k) 1 (x % 2 ^ k) 0 (mod-lt x (pow_pos k)) (pow_pos k)
    ∙ ap₂ (λ (p q : ℕ). p * 2 ^ k + q) (toggled_xor (x / 2 ^ k)) (xor_zero_r (x % 2 ^ k))

generator_flips : (x : ℕ) → flip 15 (flip 10 (flip 3 x)) ≡ generator ⊕ x
unfolding ◌⊕◌
generator_flips x =
    sym (flip_xor 15 (flip 10 (flip 3 x)))
    ∙ ap (λ (y : ℕ). y ⊕ 2 ^ 15) (sym (flip_xor 10 (flip 3 x)) ∙ ap (λ (y : ℕ). y ⊕ 2 ^ 10) (sym (flip_xor 3 x)))
    ∙ ⊕_assoc (x ⊕ 2 ^ 3) (2 ^ 10) (2 ^ 15)
    ∙ ⊕_assoc x (2 ^ 3) (2 ^ 10 ⊕ 2 ^ 15)
    ∙ ⊕_comm x generator

taken_xor : (d x : ℕ) → d < 2 → taken d x ≡ d * generator ⊕ x
unfolding taken
taken_xor d x h = digit (λ (d : ℕ). taken d x ≡ d * generator ⊕ x) (sym (⊕_zero_left x)) (generator_flips x) d h

turn_is : (x : ℕ) → turn x ≡ x % 2 * generator ⊕ x / 2
unfolding turn
turn_is x = taken_xor (x % 2) (x / 2) (mod-lt x (omega arith))

unfoldable pub turns : ℕ → ℕ → ℕ
turns zero x = x
turns (suc n) x = turns n (turn x)

-- a turn of a xor, with the generator taken where the lowest digits differ
pub turn_xor : (x y : ℕ) → turn (x ⊕ y) ≡ differ (x % 2) (y % 2) * generator ⊕ (x / 2 ⊕ y / 2)
turn_xor x y = turn_is (x ⊕ y) ∙ ap₂ (λ (p q : ℕ). p * generator ⊕ q) (⊕_odd x y) (⊕_shr x y 1)

pub turn_linear : Linear turn
turn_linear x y =
    turn_xor x y
    ∙ ap (λ (p : ℕ). p ⊕ (x / 2 ⊕ y / 2)) (⊕_scaled (x % 2) (y % 2) generator (mod-lt x (omega arith)) (mod-lt y (omega arith)))
    ∙ ⊕_swap (x % 2 * generator) (y % 2 * generator) (x / 2) (y / 2)
    ∙ sym (ap₂ ◌⊕◌ (turn_is x) (turn_is y))

pub turns_linear : (n : ℕ) → Linear (turns n)
unfolding turns
turns_linear zero x y = refl
turns_linear (suc n) x y = ap (turns n) (turn_linear x y) ∙ turns_linear n (turn x) (turn y)

pub turns_add : (m n x : ℕ) → turns (m + n) x ≡ turns n (turns m x)
unfolding turns
turns_add zero n x = ap (λ (k : ℕ). turns k x) (zero-add n)
turns_add (suc m) n x = ap (λ (k : ℕ). turns k x) (suc-add m n) ∙ turns_add m n (turn x)

turn_double : (x : ℕ) → turn (x * 2) ≡ x
turn_double x =
    let half : x * 2 / 2 ≡ x = omega arith in
    let even : x * 2 % 2 ≡ 0 = omega arith in
    turn_is (x * 2) ∙ ap₂ (λ (p q : ℕ). p * generator ⊕ q) even half ∙ ⊕_zero_left x

pub turns_shifted : (n x : ℕ) → turns n (x * 2 ^ n) ≡ x
unfolding turns
turns_shifted zero x = omega arith
turns_shifted (suc n) x =
    ap (λ (y : ℕ). turns n (turn y)) (ap (λ (p : ℕ). x * p) (pow-suc 2 n) ∙ sym (mul_assoc x (2 ^ n) 2))
    ∙ ap (turns n) (turn_double (x * 2 ^ n))
    ∙ turns_shifted n x

-- n turns of a number: its digits above n, and the turns of those below
pub turns_split : (n x : ℕ) → turns n x ≡ x / 2 ^ n ⊕ turns n (x % 2 ^ n)
turns_split n x =
    ap (turns n) (⊕_split x n) ∙ turns_linear n (x / 2 ^ n * 2 ^ n) (x % 2 ^ n)
    ∙ ap (λ (y : ℕ). y ⊕ turns n (x % 2 ^ n)) (turns_shifted n (x / 2 ^ n))

turn_lt : (x : ℕ) → x < 2 ^ 16 → turn x < 2 ^ 16
turn_lt x h =
    subst (λ (y : ℕ). y < 2 ^ 16) (sym (turn_is x)) (⊕_lt 16 (x % 2 * generator) (x / 2) (omega arith) (omega arith))

pub turns_lt : (n x : ℕ) → x < 2 ^ 16 → turns n x < 2 ^ 16
unfolding turns
turns_lt zero x h = h
turns_lt (suc n) x h = turns_lt n (turn x) (turn_lt x h)

-- the generator has bit 15, and a register moved by one place has not: bit 15 of the next register tells what left
turn_top : (x : ℕ) → x < 2 ^ 16 → turn x / 2 ^ 15 ≡ x % 2
turn_top x h =
    let none : x / 2 / 2 ^ 15 ≡ 0 = omega arith in
    let one : x % 2 * generator / 2 ^ 15 ≡ x % 2 = omega arith in
    ap (λ (y : ℕ). y / 2 ^ 15) (turn_is x)
    ∙ ⊕_shr (x % 2 * generator) (x / 2) 15 ∙ ap₂ ◌⊕◌ one none ∙ ⊕_zero (x % 2)

turn_injective : (x y : ℕ) → x < 2 ^ 16 → y < 2 ^ 16 → turn x ≡ turn y → x ≡ y
turn_injective x y hx hy e =
    let odd : x % 2 ≡ y % 2 = sym (turn_top x hx) ∙ ap (λ (z : ℕ). z / 2 ^ 15) e ∙ turn_top y hy in
    let half : x / 2 ≡ y / 2 = ⊕_same (x / 2) (y / 2) (x % 2 * generator)
    (⊕_comm (x / 2) (x % 2 * generator) ∙ sym (turn_is x) ∙ e ∙ turn_is y ∙ ap (λ (d : ℕ). d * generator ⊕ y / 2) (sym odd) ∙ ⊕_comm
    (x % 2 * generator) (y / 2)) in
    omega arith

pub turns_injective : (n x y : ℕ) → x < 2 ^ 16 → y < 2 ^ 16 → turns n x ≡ turns n y → x ≡ y
unfolding turns
turns_injective zero x y hx hy e = e
turns_injective (suc n) x y hx hy e =
    turn_injective x y hx hy (turns_injective n (turn x) (turn y) (turn_lt x hx) (turn_lt y hy) e)
