-- Laws of decimal digits: what one more digit does, and when a word says no number. Assumes nothing.
use Rattle.std.proofs.Common.{
  ◌≡◌,
  sym,
  ◌∙◌,
  ℕ,
  ◌+◌,
  ◌*◌,
  ◌-◌,
  ◌^◌,
  ◌≤◌,
  ◌<◌,
  true,
  false,
  List,
  [],
  ◌∷◌,
  None,
  Some,
  length,
  get_or,
  drop,
  arith,
  add-one,
  drop-cons,
}
use mathlib.Core.Bool.{and-false}
use borrow.Author.Tests.{lt-ltb, le-ltb}
use lib.ListN.{drop_of_length-le}
use Rattle.script.specs.Decimal.{is_digit, all_digits, value_from, decimal_of}

-- more digits say no less
at_least : (v : ℕ) (w : List ℕ) → v ≤ value_from v w
unfolding value_from
at_least v [] = omega arith
at_least v (b ∷ w) = omega (arith, at_least (v * 10 + (b - 48)) w)

-- an empty word says no number, nor one with another byte than digits
pub none_empty : (w : List ℕ) → length w ≡ 0 → None ≡ decimal_of w
unfolding decimal_of
none_empty w h = rw (le-ltb 0 (length w) (omega arith))

none_other : (w : List ℕ) → all_digits w ≡ false → None ≡ decimal_of w
unfolding decimal_of
none_other w h = rw (h, and-false)

-- the digits before place i of a word say v
module _ (w : List ℕ) (i v : ℕ) (digits : all_digits (drop i w) ≡ all_digits w) (value : value_from v (drop i w) ≡ value_from 0 w) where
  -- one more byte
  module _ (within : i < length w) where
    next : drop i w ≡ get_or w i 0 ∷ drop (i + 1) w
    next = rw (add-one, drop-cons w i 0)

    -- it is no digit
    pub other_byte : is_digit (get_or w i 0) ≡ false → None ≡ decimal_of w
    unfolding all_digits
    other_byte h = none_other w (sym digits ∙ rw (next, h))

    -- with it the number is too large
    pub too_large : 2 ^ 64 ≤ v * 10 + (get_or w i 0 - 48) → None ≡ decimal_of w
    unfolding value_from decimal_of
    too_large h =
        let off = rw next at value in
        let large : 2 ^ 64 ≤ value_from 0 w = omega (arith, off, h, at_least (v * 10 + (get_or w i 0 - 48)) (drop (i + 1) w)) in
        rw (le-ltb _ _ large, and-false (all_digits w), and-false)

    -- it is a digit
    pub digit_off : is_digit (get_or w i 0) ≡ true → all_digits (drop (i + 1) w) ≡ all_digits w
    unfolding all_digits
    digit_off h = rw (next, h) at digits

    pub value_off : (n : ℕ) → n ≡ v * 10 + (get_or w i 0 - 48) → value_from n (drop (i + 1) w) ≡ value_from 0 w
    unfolding value_from
    value_off n e = rw e (rw next at value)

  -- the word has no more
  pub said : length w ≤ i → 0 < length w → v < 2 ^ 64 → Some v ≡ decimal_of w
  unfolding decimal_of all_digits value_from
  said h k l =
      let gone = drop_of_length-le w h in
      let all = rw gone at digits in
      let says = rw gone at value in
      rw (lt-ltb _ _ k, ← all, ← says, lt-ltb _ _ l)

-- the laws that `digits` asks for
pub ruleset digit_laws = (none_empty, other_byte, too_large, digit_off, value_off, said)
