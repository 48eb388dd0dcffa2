-- The words of a line, separated by one space each, and the numbers that they say.
use Rattle.std.specs.Prelude.{ℕ, Bool, cond, List, [], ◌∷◌, eqb, leb, Option, Result, Err, option_and_then, ok_or}
use Rattle.std.specs.Result.{result_map_both}
use Rattle.script.specs.declared.line.Malformed.{Malformed}
use Rattle.script.specs.Decimal.{number_if, decimal_of}

-- no line is read
abbrev pub malformed : Malformed
malformed = record {}

-- b put before the first of the words
abbrev pub longer : ℕ → List (List ℕ) → List (List ℕ)
longer b [] = []
longer b (w ∷ ws) = (b ∷ w) ∷ ws

-- a line's words: one more than it has spaces
unfoldable pub words_of : List ℕ → List (List ℕ)
words_of [] = [] ∷ []
words_of (b ∷ s) = cond (eqb b 32) ([] ∷ words_of s) (longer b (words_of s))

-- the words after the first
abbrev pub others : List (List ℕ) → List (List ℕ)
others [] = []
others (w ∷ ws) = ws

-- the number that a word says, where it is at most `greatest`
abbrev pub at_most : ℕ → Option ℕ → Option ℕ
at_most greatest d = option_and_then (λ v. number_if (leb v greatest) v) d

unfoldable pub number_in : ℕ → List ℕ → Option ℕ
number_in greatest w = at_most greatest (decimal_of w)

-- the number that the next word says, where there is one
unfoldable pub next_number : ℕ → List (List ℕ) → Result ℕ Malformed
next_number greatest [] = Err malformed
next_number greatest (w ∷ ws) = ok_or (number_in greatest w) malformed

-- the number that the only word that is left says
unfoldable pub last_number : ℕ → List (List ℕ) → Result ℕ Malformed
last_number greatest [] = Err malformed
last_number greatest (w ∷ []) = ok_or (number_in greatest w) malformed
last_number greatest (w ∷ (v ∷ ws)) = Err malformed

-- the flag, 1 or 0, that it says
unfoldable pub last_flag : List (List ℕ) → Result Bool Malformed
last_flag ws = result_map_both (λ v. eqb v 1) (λ e. e) (last_number 1 ws)
