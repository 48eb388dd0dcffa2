-- Demand 3, `Custody` of specs/Claim.antt: one claim about any list of calls on any new driver, with any pool at each call. By induction
-- on the list, from the invariant that every call keeps, and from what was seen of the transfers (`told` of BookOffers.antt). Assumes
-- nothing.
use Rattle.std.proofs.Common.{◌≡◌, ℕ, ◌<◌, true, not, eqb, leb, List, [], ◌∷◌, length, get_or, refl, ap, ◌∙◌, arith, le-leb}
use Rattle.std.proofs.Common.{leb-true, None}
use Rattle.std.specs.Prelude.{cond}
use mathlib.Core.Bool.{or-false}
use Rattle.rf233.specs.Config.{channel_fits}
use Rattle.rf233.specs.DeclineClaim.{offer_of}
use Rattle.rf233.specs.Transfer.{kind_no, under_way}
use Rattle.rf233.specs.declared.driver.Buffers.{Buffers}
use Rattle.rf233.specs.declared.driver.Under.{Under}
use Rattle.rf233.specs.declared.driver.Under.TheVariants.{FrameRead, FrameWrite, Waits, Idle, Register}
use Rattle.custody.specs.Claim.{World, Event, next, run, new_world, only, Kept, Custody}
use Rattle.rf233.specs.Create.{new_call, new_driver}
use Rattle.custody.specs.Book.{new_page, write_no, read_no}
use Rattle.rf233.specs.Place.{client_place, first_place, place_of}
use Rattle.rf233.specs.Choice.{within}
use Rattle.rf233.specs.Guard.{pool_fault}
use Rattle.rf233.specs.declared.answer.Outcome.{Outcome}
use Rattle.custody.specs.ResumedIsDeclined.{unoffered}
use Rattle.custody.proofs.BookOffers.{Told, told}
use Rattle.custody.proofs.Custody.{Inv}
use Rattle.custody.proofs.Calls.{keeps}
use Rattle.custody.proofs.NewDriver.{Holds, newly}
use Rattle.custody.proofs.ResumedIsDeclined.{newly_agrees}
use Rattle.custody.proofs.UnderKind.{under_write, under_read}
use Rattle.custody.proofs.Undescribed.{sound}
use Rattle.rf233.proofs.Fit.{fit}
use Rattle.laws.proofs.Logic.{left, is_true, both_left}
use Rattle.rf233.proofs.ChoiceLaws.{branch}
use Rattle.custody.proofs.Match.{match_new, fitted, own_kept, counted_in_record}

-- every call keeps it, and so does a list of calls
next_holds : (w : World) (e : Event) → Holds w → Holds (next w e)
unfolding next
next_holds w e v = keeps w.book w.driver v e.call e.pool

run_holds : (w : World) (es : List Event) → Holds w → Holds (run w es)
unfolding run
run_holds w [] v = v
run_holds w (e ∷ es) v = run_holds (next w e) es (next_holds w e v)

-- the transfer that the record has names the buffers that it took
names_them : (u : Under) (b : Buffers)
    → (under_write u ≡ write_no (cond (under_way u) (offer_of u b) None))
    × (under_read u ≡ read_no (cond (under_way u) (offer_of u b) None))
names_them Idle b = (refl, refl)
names_them Register b = (refl, refl)
names_them (FrameRead x) b = (refl, refl)
names_them (FrameWrite x) b = (refl, refl)
names_them (Waits o) b = (refl, refl)

-- what the invariant says of the book and the record, and with what was seen of the transfers the kinds
kept : (w : World) → Holds w → Told w → Kept w
kept w v t =
    let m = v.match in
    let b = w.driver.buffers in
    record {
      faultless = m.faultless;
      placed = λ b h. (fitted w.driver.buffers w.book m b h).0;
      own = own_kept w.driver.buffers w.book m;
      kind = t.kinds.0 ∙ ap kind_no t.agrees.going;
      write = m.going.write ∙ (names_them b.under b).0;
      read = m.going.read ∙ (names_them b.under b).1;
      waits = t.kinds.1 ∙ ap kind_no t.agrees.waits;
      counted = counted_in_record w.driver.buffers w.book m;
    }

-- DEMAND 3
pub custody : Custody
custody l c es =
    let w = new_world l c in
    kept (run w es) (run_holds w es (newly l c)) (told w unoffered es (newly l c) (newly_agrees l c) (refl, refl))

-- so the query's answer is where the book has the buffer
first_only : (p : ℕ) → first_place (only p) ≡ p
first_only p = grind arith

pub query_is_the_book : (l c : ℕ) (es : List Event) (b : ℕ) → b < 19
    → place_of (run (new_world l c) es).driver.buffers b ≡ get_or (run (new_world l c) es).book.places b client_place
unfolding place_of
query_is_the_book l c es b h =
    ap first_place ((custody l c es).placed b h) ∙ first_only (get_or (run (new_world l c) es).book.places b client_place)

-- from a new driver 12 is given exactly for a pool that is not 3,040 bytes long
pub twelve_is_the_pool : (l c : ℕ) (es : List Event) (p : List ℕ) → pool_fault (run (new_world l c) es).driver p ≡ not (eqb (length p) 3040)
twelve_is_the_pool l c es p =
    rw (sound (run (new_world l c) es).book (run (new_world l c) es).driver (run_holds (new_world l c) es (newly l c)))
    (or-false (not (eqb (length p) 3040)))
