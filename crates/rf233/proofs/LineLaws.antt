-- The line of receive buffers: the code's form of it and the list are the same, as long as there are no more than four; what the four
-- operations leave; how often it names a buffer. Assumes nothing.
use Prim.Native.Nat.{ℕ, zero, suc, ◌+◌, ◌≤◌}
use mathlib.Core.Path.{◌≡◌, refl, sym, ◌∙◌}
use mathlib.Core.Bool.{Bool, true, false, ◌||◌, or-false, or_assoc}
use Rattle.std.specs.Prelude.{Some}
use mathlib.Core.List.{List, [], ◌∷◌}
use native.Mathlib.Omega.{arith}
use lib.Dec.{eqb, ltb, lit≤}
use lib.ListN.{length}
use borrow.Author.Tests.{ltb-true}
use Rattle.rf233.specs.Line.{line_room, listed, line_of, front, behind, append, rotate, some, any_of, names}
use Rattle.rf233.specs.Place.{copies, first_place}
use Rattle.laws.proofs.Logic.{none_right, or_left_comm}
use Rattle.rf233.specs.Record.{one, times}
use Rattle.rf233.specs.declared.driver.Lent.{Lent}
use Rattle.rf233.specs.declared.line.Line.{Line}
use Rattle.rf233.specs.declared.line.Line.TheVariants.{Empty, One, Two, Three, Four}

-- a line is no longer than four
pub listed_most : (l : Line) → length (listed l) ≤ line_room
listed_most Empty = lit≤ tt
listed_most (One a) = lit≤ tt
listed_most (Two a b) = lit≤ tt
listed_most (Three a b c) = lit≤ tt
listed_most (Four a b c d) = lit≤ tt

-- and a list that is no longer is a line
pub listed_is : (l : List Lent) → length l ≤ line_room → listed (line_of l) ≡ l
listed_is [] h = refl
listed_is (a ∷ []) h = refl
listed_is (a ∷ b ∷ []) h = refl
listed_is (a ∷ b ∷ c ∷ []) h = refl
listed_is (a ∷ b ∷ c ∷ d ∷ []) h = refl
listed_is (a ∷ b ∷ c ∷ d ∷ e ∷ more) h = absurd (omega arith)

-- whether there is one, and which is the oldest, is so of longer lists too
pub some_is : (l : List Lent) → some (listed (line_of l)) ≡ some l
some_is [] = refl
some_is (a ∷ []) = refl
some_is (a ∷ b ∷ []) = refl
some_is (a ∷ b ∷ c ∷ []) = refl
some_is (a ∷ b ∷ c ∷ d ∷ more) = refl

pub front_is : (l : List Lent) → front (listed (line_of l)) ≡ front l
front_is [] = refl
front_is (a ∷ []) = refl
front_is (a ∷ b ∷ []) = refl
front_is (a ∷ b ∷ c ∷ []) = refl
front_is (a ∷ b ∷ c ∷ d ∷ more) = refl

-- an oldest one is there and goes to the end, or there is none
pub some_rotate : (l : List Lent) → some (rotate l) ≡ some l
some_rotate [] = refl
some_rotate (x ∷ []) = refl
some_rotate (x ∷ y ∷ l) = refl

-- ---- how long a line is

pub length_append : (l : List Lent) (x : Lent) → length (append l x) ≡ length l + 1
length_append [] x = refl
length_append (y ∷ l) x = omega (arith, length_append l x)

pub length_rotate : (l : List Lent) → length (rotate l) ≡ length l
length_rotate [] = refl
length_rotate (x ∷ l) = omega (arith, length_append l x)

pub length_behind : (l : List Lent) → length (behind l) ≤ length l
length_behind [] = omega arith
length_behind (x ∷ l) = omega arith

-- ---- how often a buffer is in it

pub times_append : (b : ℕ) (l : List Lent) (x : Lent) → times b (names (append l x)) ≡ times b (names l) + one (eqb x.buffer b)
times_append b [] x = omega arith
times_append b (y ∷ l) x = omega (arith, times_append b l x)

pub times_rotate : (b : ℕ) (l : List Lent) → times b (names (rotate l)) ≡ times b (names l)
times_rotate b [] = refl
times_rotate b (x ∷ l) = omega (arith, times_append b l x)

-- the first of some places, one of them given by a number
pub first_copied : (n p : ℕ) (l : List ℕ) → ltb 0 n ≡ true → first_place (copies n p l) ≡ p
first_copied zero p l e = absurd (omega (arith, ltb-true 0 0 e))
first_copied (suc n) p l e = refl

-- ---- a test over it

pub any_append : (t : Lent → Bool) (l : List Lent) (x : Lent) → any_of t (append l x) ≡ any_of t l || (t x || false)
any_append t [] x = refl
any_append t (y ∷ l) x = rw (any_append t l x) (sym (or_assoc (t y) (any_of t l) (t x || false)))

pub any_rotate : (t : Lent → Bool) (l : List Lent) → any_of t (rotate l) ≡ any_of t l
any_rotate t [] = refl
any_rotate t (x ∷ l) = any_append t l x ∙ or_left_comm (any_of t l) (t x) false ∙ rw or-false refl

pub any_behind : (t : Lent → Bool) (l : List Lent) → any_of t l ≡ false → any_of t (behind l) ≡ false
any_behind t [] e = refl
any_behind t (x ∷ l) e = none_right (t x) (any_of t l) e

-- ---- a line with its front away, or at its end, and the oldest with what is behind it

pub listed_behind : (l : Line) → listed (line_of (behind (listed l))) ≡ behind (listed l)
listed_behind l = listed_is (behind (listed l)) (omega (arith, length_behind (listed l), listed_most l))

pub listed_rotate : (l : Line) → listed (line_of (rotate (listed l))) ≡ rotate (listed l)
listed_rotate l = listed_is (rotate (listed l)) (omega (arith, length_rotate (listed l), listed_most l))

pub front_behind : (l : List Lent) (x : Lent) → front l ≡ Some x → l ≡ x ∷ behind l
front_behind [] x e = cc
front_behind (y ∷ l) x e = let z : y ≡ x = cc in rw z refl

-- after a lending there is one
pub some_append : (l : List Lent) (x : Lent) → some (append l x) ≡ true
some_append [] x = refl
some_append (y ∷ l) x = refl
