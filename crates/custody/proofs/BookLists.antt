-- What the code finds by going through a list is what the definition of the book says of it: how many buffers are at a place, whether there
-- is an action among six, and what the first of the actions move. Assumes nothing.
use Rattle.std.proofs.Common.{◌≡◌, ℕ, zero, suc, ◌<◌, ◌≤◌, Bool, ◌||◌, eqb, List, [], ◌∷◌, map, length, get_or, take, sym, refl, ap, ◌∙◌}
use Rattle.std.proofs.Common.{add-one, arith}
use Rattle.std.proofs.lemmas.List.{get_or-map, take_all}
use Rattle.std.proofs.lemmas.List.Sums.{length-filter, count_by_more_yes, count_by_more_no}
use Rattle.std.specs.List.{count_by, filter, list_any}
use Rattle.rf233.specs.Place.{place_no}
use Rattle.rf233.specs.declared.action.Action.{Action}
use Rattle.rf233.specs.declared.action.Action.TheVariants.{Nothing}
use Rattle.rf233.specs.declared.place.Place.{Place}
use Rattle.rf233.specs.declared.place.Place.TheVariants.{Client}
use Rattle.rf233.proofs.Conditions.{by_flag}
use Rattle.custody.specs.Book.{Page, filled, noted, noted_all, is_act, acts}

-- the count of the buffers at a place is that of a test of each
filled_counts : (p : ℕ) (l : List Place) (n : ℕ) → n ≤ length l
    → filled p (map place_no l) n ≡ count_by (λ x. eqb (place_no x) p) (take n l)
unfolding filled
filled_counts p l zero h = refl
filled_counts p l (suc n) h =
    let t : Place → Bool = λ x. eqb (place_no x) p in
    let e = filled_counts p l n (omega arith) in
    by_flag (t (get_or l n Client))
    (λ y. rw (get_or-map place_no l n Client, y, e, ← add-one n) (omega (arith, count_by_more_yes t l n Client (omega arith) y)))
    (λ y. rw (get_or-map place_no l n Client, y, e, ← add-one n) (omega (arith, count_by_more_no t l n Client (omega arith) y)))

pub filled_filter : (p : ℕ) (l : List Place) → length l ≡ 19 → length (filter (λ x. eqb (place_no x) p) l) ≡ filled p (map place_no l) 19
filled_filter p l h =
    length-filter (λ x. eqb (place_no x) p) l
    ∙ (ap (count_by (λ x. eqb (place_no x) p)) (sym (take_all 19 l (omega arith))) ∙ sym (filled_counts p l 19 (omega arith)))

-- an action that is not `Nothing` is among them
pub acts_any : (l : List Action) → acts l ≡ list_any is_act l
acts_any [] = refl
acts_any (x ∷ more) = ap (λ b. is_act x || b) (acts_any more)

-- one action more, at the end
pub noted_more : (l : List Action) (n : ℕ) (k : Page) → n < length l
    → noted_all (take (suc n) l) k ≡ noted (get_or l n Nothing) (noted_all (take n l) k)
noted_more [] n k h = absurd (omega arith)
noted_more (x ∷ l) zero k h = refl
noted_more (x ∷ l) (suc n) k h = noted_more l n (noted x k) (omega arith)
