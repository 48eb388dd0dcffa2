-- Formulas of one number made of xors, shifts, masks and turns. Each is linear for xor, so two that agree at the powers of 2 agree
-- everywhere: whether a shortcut is right is one computed test.
-- Assumes nothing.
use mathlib.Core.Path.{◌≡◌, refl, sym, ap, ap₂, ◌∙◌}
use mathlib.Core.Bool.{Bool}
use Prim.Native.Nat.{ℕ, ◌-◌, ◌*◌, ◌/◌, ◌%◌, ◌^◌, ◌<◌}
use lib.Dec.{T, eqb, eqb→eq}
use lib.Bits.{bit_and, bit_xor, and_mask}
use Rattle.fcs.proofs.Xor.{◌⊕◌, ⊕_shr, ⊕_mod, ⊕_shl, ⊕_swap}
use Rattle.laws.proofs.Logic.{all_below, below_at}
use Rattle.fcs.proofs.Turns.{Linear, basis, turns, turns_linear}

infixl 20 ◌xor◌
infixl 10 ◌then◌
-- it: the number; shl w k: moved up by k places in a word of w bits; shr k: moved down; low k: the lowest k bits, by a mask; rem k: the
-- same by a remainder, which antt computes at once; turned n: n turns on; then: the second formula of the first one's value
pub data Form : Type 0 where
  it : Form
  ◌xor◌ : Form → Form → Form
  shl : ℕ → ℕ → Form → Form
  shr : ℕ → Form → Form
  low : ℕ → Form → Form
  rem : ℕ → Form → Form
  turned : ℕ → Form → Form
  ◌then◌ : Form → Form → Form

abbrev pub value : Form → ℕ → ℕ
value it x = x
value (a xor b) x = bit_xor (value a x) (value b x)
value (shl w k a) x = value a x * 2 ^ k % 2 ^ w
value (shr k a) x = value a x / 2 ^ k
value (low k a) x = bit_and (value a x) (2 ^ k - 1)
value (rem k a) x = value a x % 2 ^ k
value (turned n a) x = turns n (value a x)
value (a then b) x = value b (value a x)

-- the operations are linear
low_linear : (k : ℕ) → Linear (λ x. bit_and x (2 ^ k - 1))
low_linear k x y = and_mask (x ⊕ y) k ∙ ⊕_mod x y k ∙ sym (ap₂ ◌⊕◌ (and_mask x k) (and_mask y k))

linear : (f : Form) → Linear (value f)
unfolding ◌⊕◌
linear it x y = refl
linear (a xor b) x y = ap₂ ◌⊕◌ (linear a x y) (linear b x y) ∙ ⊕_swap (value a x) (value a y) (value b x) (value b y)
linear (shl w k a) x y =
    ap (λ (z : ℕ). z * 2 ^ k % 2 ^ w) (linear a x y) ∙ ap (λ (z : ℕ). z % 2 ^ w) (⊕_shl (value a x) (value a y) k)
    ∙ ⊕_mod (value a x * 2 ^ k) (value a y * 2 ^ k) w
linear (shr k a) x y = ap (λ (z : ℕ). z / 2 ^ k) (linear a x y) ∙ ⊕_shr (value a x) (value a y) k
linear (low k a) x y = ap (λ (z : ℕ). bit_and z (2 ^ k - 1)) (linear a x y) ∙ low_linear k (value a x) (value a y)
linear (rem k a) x y = ap (λ (z : ℕ). z % 2 ^ k) (linear a x y) ∙ ⊕_mod (value a x) (value a y) k
linear (turned n a) x y = ap (turns n) (linear a x y) ∙ turns_linear n (value a x) (value a y)
linear (a then b) x y = ap (value b) (linear a x y) ∙ linear b (value a x) (value a y)

-- the two formulas agree at 2 ^ j
unfoldable pub agree : Form → Form → ℕ → Bool
agree f g j = eqb (value f (2 ^ j)) (value g (2 ^ j))

-- tried at the first k powers of 2, they agree below 2 ^ k
pub same : (f g : Form) (k : ℕ) → T (all_below (agree f g) k) → (x : ℕ) → x < 2 ^ k → value f x ≡ value g x
unfolding agree
same f g k t x h =
    basis (value f) (value g) (linear f) (linear g) k
    (λ j l. eqb→eq (value f (2 ^ j)) (value g (2 ^ j)) (below_at (agree f g) k t j l)) x h
