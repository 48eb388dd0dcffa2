-- Four words that stand for the register: what 256 steps make of them, by one formula. As one number of 256 bits the four words are
-- its parts, so the formula is tried at the 256 powers of 2.
-- Assumes nothing.
use mathlib.Core.Path.{◌≡◌, sym, ap, ◌∙◌}
use Prim.Native.Nat.{ℕ, ◌+◌, ◌*◌, ◌/◌, ◌%◌, ◌^◌, ◌<◌}
use lib.Arith.{digits_lt}
use lib.Dec.{T}
use lib.Pow.{high, low}
use Rattle.fcs.specs.Word.{reduced, four}
use Rattle.fcs.proofs.Xor.{◌⊕◌, ⊕_swap, ⊕_zero, ⊕_zero_left}
use Rattle.laws.proofs.Logic.{all_below}
use Rattle.fcs.proofs.Turns.{flip, taken, turn, turns, turns_linear, turns_add}
use Rattle.fcs.proofs.Form.{Form, it, ◌xor◌, shl, shr, rem, turned, value, agree, same}
use Rattle.fcs.proofs.Register.{reduced_turns}

-- the four words of the number
abbrev w₀ : Form
w₀ = rem 64 it

abbrev w₁ : Form
w₁ = rem 64 (shr 64 it)

abbrev w₂ : Form
w₂ = rem 64 (shr 64 (shr 64 it))

abbrev w₃ : Form
w₃ = shr 64 (shr 64 (shr 64 it))

-- the code's four words after 256 steps
abbrev p : Form
p = w₀ xor w₁

abbrev m : Form
m = p xor w₂

abbrev q : Form
q = m xor shl 64 48 w₀

abbrev l : Form
l = m xor w₃ xor shr 16 w₀ xor shl 64 48 w₁

-- the register that four words stand for
abbrev stands : Form → Form → Form → Form → Form
stands a b c d = turned 64 (turned 64 (turned 64 (turned 64 a xor b) xor c) xor d)

abbrev held : Form
held = stands w₀ w₁ w₂ w₃

abbrev next : Form
next = stands (w₀ xor l xor shr 16 p xor shl 64 48 q) (p xor shr 16 q xor shl 64 48 l) (q xor shr 16 l) l

-- the test
right : T (all_below (agree next (turned 256 held)) 256)
unfolding agree turns turn taken flip ◌⊕◌
right = tt

-- the register that four words stand for, and the one that the code's next four do
abbrev pub standing : ℕ → ℕ → ℕ → ℕ → ℕ
standing a b c d = turns 64 (turns 64 (turns 64 (turns 64 a ⊕ b) ⊕ c) ⊕ d)

abbrev pub following : ℕ → ℕ → ℕ → ℕ → ℕ
following a b c d =
    let p : ℕ = a ⊕ b in
    let m : ℕ = p ⊕ c in
    let q : ℕ = m ⊕ (a * 2 ^ 48 % 2 ^ 64) in
    let l : ℕ = m ⊕ d ⊕ (a / 2 ^ 16) ⊕ (b * 2 ^ 48 % 2 ^ 64) in
    standing (a ⊕ l ⊕ (p / 2 ^ 16) ⊕ (q * 2 ^ 48 % 2 ^ 64)) (p ⊕ (q / 2 ^ 16) ⊕ (l * 2 ^ 48 % 2 ^ 64)) (q ⊕ (l / 2 ^ 16)) l

pub four_turns : (a b c d : ℕ) → four a b c d ≡ standing a b c d
unfolding four ◌⊕◌
four_turns a b c d =
    let one : reduced 64 a ≡ turns 64 a = reduced_turns 64 a in
    let two : reduced 64 (reduced 64 a ⊕ b) ≡ turns 64 (turns 64 a ⊕ b) = reduced_turns 64 (reduced 64 a ⊕ b) ∙ ap
    (λ (x : ℕ). turns 64 (x ⊕ b)) one in
    let three : reduced 64 (reduced 64 (reduced 64 a ⊕ b) ⊕ c) ≡ turns 64 (turns 64 (turns 64 a ⊕ b) ⊕ c) =
    reduced_turns 64 (reduced 64 (reduced 64 a ⊕ b) ⊕ c) ∙ ap (λ (x : ℕ). turns 64 (x ⊕ c)) two in
    reduced_turns 64 (reduced 64 (reduced 64 (reduced 64 a ⊕ b) ⊕ c) ⊕ d) ∙ ap (λ (x : ℕ). turns 64 (x ⊕ d)) three

-- a word folded into the next
pub folded_in : (y z w : ℕ) → reduced 64 z ≡ reduced 128 y → turns 64 (z ⊕ w) ≡ turns 64 (turns 64 y ⊕ w)
folded_in y z w e =
    turns_linear 64 z w
    ∙ ap (λ (x : ℕ). x ⊕ turns 64 w) (sym (reduced_turns 64 z) ∙ e ∙ reduced_turns 128 y ∙ turns_add 64 64 y)
    ∙ sym (turns_linear 64 (turns 64 y) w)

-- one word for four, each folded into the next
pub one_of_four : (a b c d x y z : ℕ) → reduced 64 x ≡ reduced 128 a → reduced 64 y ≡ reduced 128 (x ⊕ b)
    → reduced 64 z ≡ reduced 128 (y ⊕ c)
    → reduced 64 (z ⊕ d) ≡ four a b c d
one_of_four a b c d x y z e₁ e₂ e₃ =
    reduced_turns 64 (z ⊕ d)
    ∙ folded_in (y ⊕ c) z d e₃
    ∙ ap (λ (u : ℕ). turns 64 (u ⊕ d)) (folded_in (x ⊕ b) y c e₂ ∙ ap (λ (u : ℕ). turns 64 (u ⊕ c)) (folded_in a x b e₁))
    ∙ sym (four_turns a b c d)

-- the register that four words stand for is linear in them
word_linear : (x y u v : ℕ) → turns 64 ((x ⊕ y) ⊕ (u ⊕ v)) ≡ turns 64 (x ⊕ u) ⊕ turns 64 (y ⊕ v)
word_linear x y u v = ap (turns 64) (⊕_swap x y u v) ∙ turns_linear 64 (x ⊕ u) (y ⊕ v)

standing_linear : (a b c d u v w x : ℕ) → standing (a ⊕ u) (b ⊕ v) (c ⊕ w) (d ⊕ x) ≡ standing a b c d ⊕ standing u v w x
standing_linear a b c d u v w x =
    ap (λ (r : ℕ). turns 64 (turns 64 (turns 64 (r ⊕ (b ⊕ v)) ⊕ (c ⊕ w)) ⊕ (d ⊕ x))) (turns_linear 64 a u)
    ∙ ap (λ (r : ℕ). turns 64 (turns 64 (r ⊕ (c ⊕ w)) ⊕ (d ⊕ x))) (word_linear (turns 64 a) (turns 64 u) b v)
    ∙ ap (λ (r : ℕ). turns 64 (r ⊕ (d ⊕ x))) (word_linear (turns 64 (turns 64 a ⊕ b)) (turns 64 (turns 64 u ⊕ v)) c w)
    ∙ word_linear (turns 64 (turns 64 (turns 64 a ⊕ b) ⊕ c)) (turns 64 (turns 64 (turns 64 u ⊕ v) ⊕ w)) d x

standing_first : (r : ℕ) → standing r 0 0 0 ≡ turns 256 r
standing_first r =
    ap (λ (x : ℕ). turns 64 (turns 64 (turns 64 x ⊕ 0) ⊕ 0)) (⊕_zero (turns 64 r))
    ∙ ap (λ (x : ℕ). turns 64 (turns 64 x ⊕ 0)) (⊕_zero (turns 64 (turns 64 r)))
    ∙ ap (turns 64) (⊕_zero (turns 64 (turns 64 (turns 64 r))))
    ∙ sym (turns_add 192 64 r ∙ ap (turns 64) (turns_add 128 64 r ∙ ap (turns 64) (turns_add 64 64 r)))

-- four words of data into the register r, of which the words a, b, c and d are 256 steps on
pub with_data : (r a b c d u v w x : ℕ) → four a b c d ≡ reduced 256 r → four (a ⊕ u) (b ⊕ v) (c ⊕ w) (d ⊕ x) ≡ standing (r ⊕ u) v w x
with_data r a b c d u v w x e =
    four_turns (a ⊕ u) (b ⊕ v) (c ⊕ w) (d ⊕ x)
    ∙ standing_linear a b c d u v w x
    ∙ ap (λ (s : ℕ). s ⊕ standing u v w x) (sym (four_turns a b c d) ∙ e ∙ reduced_turns 256 r ∙ sym (standing_first r))
    ∙ sym (standing_linear r 0 0 0 u v w x)
    ∙ (λ i. standing (r ⊕ u) (⊕_zero_left v i) (⊕_zero_left w i) (⊕_zero_left x i))

module _ (a b c d : ℕ) (ha : a < 2 ^ 64) (hb : b < 2 ^ 64) (hc : c < 2 ^ 64) (hd : d < 2 ^ 64) where
  -- the four words as one number, and what is above each
  abbrev above₂ : ℕ
  above₂ = d * 2 ^ 64 + c

  abbrev above₁ : ℕ
  above₁ = above₂ * 2 ^ 64 + b

  abbrev whole : ℕ
  whole = above₁ * 2 ^ 64 + a

  whole_lt : whole < 2 ^ 256
  whole_lt = digits_lt (digits_lt (digits_lt hd hc) hb) ha

  above₁_is : whole / 2 ^ 64 ≡ above₁
  above₁_is = high above₁ 64 ha

  above₂_is : whole / 2 ^ 64 / 2 ^ 64 ≡ above₂
  above₂_is = ap (λ (x : ℕ). x / 2 ^ 64) above₁_is ∙ high above₂ 64 hb

  part₀ : value w₀ whole ≡ a
  part₀ = low above₁ 64 ha

  part₁ : value w₁ whole ≡ b
  part₁ = ap (λ (x : ℕ). x % 2 ^ 64) above₁_is ∙ low above₂ 64 hb

  part₂ : value w₂ whole ≡ c
  part₂ = ap (λ (x : ℕ). x % 2 ^ 64) above₂_is ∙ low d 64 hc

  part₃ : value w₃ whole ≡ d
  part₃ = ap (λ (x : ℕ). x / 2 ^ 64) above₂_is ∙ high d 64 hc

  pub next_four : following a b c d ≡ turns 256 (standing a b c d)
  unfolding ◌⊕◌
  next_four =
      (λ i. following (sym part₀ i) (sym part₁ i) (sym part₂ i) (sym part₃ i))
      ∙ same next (turned 256 held) 256 right whole whole_lt
      ∙ (λ i. turns 256 (standing (part₀ i) (part₁ i) (part₂ i) (part₃ i)))
