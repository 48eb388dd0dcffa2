-- Decimal digits: what number a word says.
use Rattle.std.specs.Prelude.{ℕ, ◌+◌, ◌*◌, ◌-◌, ◌^◌, Bool, true, false, ◌&&◌, List, [], ◌∷◌, leb, ltb, length, Option, Some, None}

-- a byte is one of `0` to `9`
abbrev pub is_digit : ℕ → Bool
is_digit b = leb 48 b && leb b 57

-- each byte is
unfoldable pub all_digits : List ℕ → Bool
all_digits [] = true
all_digits (b ∷ w) = is_digit b && all_digits w

-- the digits of w after those that say v: each makes what stands before it worth ten times as much
unfoldable pub value_from : ℕ → List ℕ → ℕ
value_from v [] = v
value_from v (b ∷ w) = value_from (v * 10 + (b - 48)) w

-- the number v, where the test holds
abbrev pub number_if : Bool → ℕ → Option ℕ
number_if true v = Some v
number_if false v = None

-- digits, one or more, that say a number below 2 ^ 64
unfoldable pub decimal_of : List ℕ → Option ℕ
decimal_of w = number_if (ltb 0 (length w) && (all_digits w && ltb (value_from 0 w) (2 ^ 64))) (value_from 0 w)
