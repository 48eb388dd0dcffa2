-- The line of receive buffers (request 2026-07): a list of at most four, in the order of lending. What a step does with it is said of the
-- list; the code's form of it, an enum, and the list are led into each other here and nowhere else.
use Rattle.std.specs.Prelude.{ℕ, Bool, true, false, ◌||◌, List, [], ◌∷◌, ◌++◌, Option, None, Some}
use Rattle.rf233.specs.declared.driver.Buffers.{Buffers}
use Rattle.rf233.specs.declared.driver.Lent.{Lent}
use Rattle.rf233.specs.declared.line.Line.{Line}
use Rattle.rf233.specs.declared.line.Line.TheVariants.{Empty, One, Two, Three, Four}

-- how many receive buffers the driver may have
abbrev pub line_room : ℕ
line_room = 4

-- the buffers of the code's line, the oldest first
abbrev pub listed : Line → List Lent
listed Empty = []
listed (One a) = a ∷ []
listed (Two a b) = a ∷ b ∷ []
listed (Three a b c) = a ∷ b ∷ c ∷ []
listed (Four a b c d) = a ∷ b ∷ c ∷ d ∷ []

-- the code's line of these; a fifth has no place in it
abbrev pub line_of : List Lent → Line
line_of [] = Empty
line_of (a ∷ []) = One a
line_of (a ∷ b ∷ []) = Two a b
line_of (a ∷ b ∷ c ∷ []) = Three a b c
line_of (a ∷ b ∷ c ∷ d ∷ more) = Four a b c d

-- the line of a record
abbrev pub line : Buffers → List Lent
line r = listed r.rx_line

-- the oldest
abbrev pub front : List Lent → Option Lent
front [] = None
front (x ∷ l) = Some x

-- those behind it
abbrev pub behind : List Lent → List Lent
behind [] = []
behind (x ∷ l) = l

-- one more, at the end
abbrev pub append : List Lent → Lent → List Lent
append l x = l ++ (x ∷ [])

-- the oldest goes to the end
abbrev pub rotate : List Lent → List Lent
rotate [] = []
rotate (x ∷ l) = append l x

-- there is one
abbrev pub some : List Lent → Bool
some [] = false
some (x ∷ l) = true

-- one of them passes a test
abbrev pub any_of : (Lent → Bool) → List Lent → Bool
any_of t [] = false
any_of t (x ∷ l) = t x || any_of t l

-- their numbers
abbrev pub names : List Lent → List ℕ
names [] = []
names (x ∷ l) = x.buffer ∷ names l
