-- The choice that a test makes, membership in a short list of numbers, and a range.
use Rattle.std.specs.Prelude.{ℕ, Bool, true, false, ◌&&◌, ◌||◌, List, [], ◌∷◌, eqb, leb}

-- a where the test holds, else b
unfoldable pub pick {ℓ} : {A : Type ℓ} → Bool → A → A → A
pick true a b = a
pick false a b = b

-- n is in the list
abbrev pub one_of : List ℕ → ℕ → Bool
one_of [] n = false
one_of (k ∷ ks) n = eqb n k || one_of ks n

-- a value from low to high
abbrev pub within : ℕ → ℕ → ℕ → Bool
within low high n = leb low n && leb n high
