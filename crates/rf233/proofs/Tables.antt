-- A table's rule, from one test of the whole table: what a list of a function's values has at each place, and, of a table of writes as
-- cases, that what it has for a state is what the state's tree writes. Assumes nothing.
use mathlib.Core.Path.{◌≡◌, refl, subst, sym, ap, ◌∙◌}
use mathlib.Core.Bool.{Bool, true, false, ◌||◌, true≢false}
use mathlib.Core.List.{List, [], ◌∷◌, map}
use Prim.Native.Nat.{ℕ, zero, suc, ◌+◌, ◌-◌, ◌≤◌, ◌<◌}
use native.Mathlib.Omega.{arith}
use lib.Dec.{eqb}
use lib.ListN.{length, get_or, drop}
use borrow.Author.Tests.{eqb-true}
use Rattle.rf233.specs.Choice.{one_of}
use Rattle.rf233.specs.Case.{own_case, case_of, perform, tree_at}
use Rattle.rf233.specs.Rows.{eval, write}
use Rattle.rf233.specs.State.{state_no}
use Rattle.rf233.specs.Write.{table_write}
use Rattle.rf233.specs.declared.arrived.Arrived.{Arrived}
use Rattle.rf233.specs.declared.driver.Driver.{Driver}
use Rattle.rf233.specs.declared.write.Write.{Write}
use Rattle.rf233.proofs.Keys.{range}

-- a row of a table is the same whatever is given for those past its end
pub same_row : (ws : List Write) (v w : Write) (k : ℕ) → k < length ws → get_or ws k v ≡ get_or ws k w
same_row [] v w k h = absurd (omega arith)
same_row (x ∷ ws) v w zero h = refl
same_row (x ∷ ws) v w (suc k) h = same_row ws v w k (omega arith)

-- the list of what f gives for the numbers from lo on has at place k what f gives for lo + k
pub listed : {A : Type 0} (f : ℕ → A) (lo len k : ℕ) (d : A) → k < len → get_or (map f (range lo len)) k d ≡ f (lo + k)
listed f lo zero k d h = absurd (omega arith)
listed f lo (suc len) zero d h = ap f (omega arith)
listed f lo (suc len) (suc k) d h = listed f (suc lo) len k d (omega arith) ∙ ap f (omega arith)

-- so two functions that agree on that list agree at each n among the numbers
pub in_range_lem : {A : Type 0} (f g : ℕ → A) (lo len n : ℕ) → map f (range lo len) ≡ map g (range lo len) → lo ≤ n → n < lo + len
    → f n ≡ g n
in_range_lem f g lo len n h p q =
    let k : ℕ = n - lo in
    let e : lo + k ≡ n = omega arith in
    let l : k < len = omega arith in
    subst (λ (m : ℕ). f m ≡ g m) e (sym (listed f lo len k (f n) l) ∙ ap (λ (xs : List _). get_or xs k (f n)) h ∙ listed g lo len k (f n) l)

-- of two tests the first passes, or the second does
first_or : {C : Type 0} (t : Bool) {u : Bool} → (t ≡ true → C) → (u ≡ true → C) → t || u ≡ true → C
first_or true f g e = f refl
first_or false f g e = g e

-- and on any list of numbers, at each number that is in it
pub in_list : {A : Type 0} (f g : ℕ → A) (l : List ℕ) (n : ℕ) → map f l ≡ map g l → one_of l n ≡ true → f n ≡ g n
in_list f g [] n h e = absurd (true≢false (sym e))
in_list f g (k ∷ l) n h e =
    let first : f k ≡ g k = ap (λ (xs : List _). get_or xs 0 (f k)) h in
    first_or (eqb n k) (λ i. subst (λ m. f m ≡ g m) (sym (eqb-true n k i)) first) (in_list f g l n (ap (drop 1) h)) e

-- and two that agree at each of the numbers have the same list
pub same_list : {A : Type 0} (f g : ℕ → A) (lo len : ℕ) → ((n : ℕ) → lo ≤ n → n < lo + len → f n ≡ g n)
    → map f (range lo len) ≡ map g (range lo len)
same_list f g lo zero h = refl
same_list f g lo (suc len) h =
    rw (h lo (omega arith) (omega arith), same_list f g (suc lo) len (λ n p q. h n (omega arith) (omega arith)))

-- the table, whose row k is `at k`, has the writes of the states from lo on, where state n has row n - off
pub table_case : (at : ℕ → Write) (off lo len : ℕ) → map tree_at (range lo len) ≡ map (λ n. write (at (n - off))) (range lo len)
    → (a : Arrived) (d : Driver) (n : ℕ) → n ≡ state_no d.state → lo ≤ n → n < lo + len → table_write (at (n - off)) d ≡ own_case a d
unfolding case_of eval perform
table_case at off lo len h a d n e p q = rw (← e, in_range_lem tree_at (λ n. write (at (n - off))) lo len n h p q)
