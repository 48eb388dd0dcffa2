-- `resumed_is_declined` of specs/ResumedIsDeclined.antt: what was seen of the transfers agrees with the driver's record after any list of
-- calls (`every`), so that the transfer of a resume, which the record has, is the one that was declined. Assumes nothing.
use Rattle.std.proofs.Common.{◌≡◌, ℕ, Bool, true, false, not, ◌||◌, ◌&&◌, T, List, [], ◌∷◌, Option, None, Some, refl, sym, ap, ◌∙◌, cond}
use Rattle.std.proofs.Common.{eqb, arith, subst}
use Rattle.std.specs.Prelude.{is_some}
use borrow.Author.Tests.{not-false, eq-eqb}
use mathlib.Core.Path.{ap₂}
use Rattle.rf233.specs.Action.{actions}
use Rattle.rf233.specs.Answer.{answer_no, answer_of, refused}
use Rattle.rf233.specs.Arrived.{arrived_of}
use Rattle.rf233.specs.Calls.{Call, ending, yields}
use Rattle.rf233.specs.Calls.Call.{complete, declined, reset, resume}
use Rattle.rf233.specs.Completion.{completed}
use Rattle.rf233.specs.Create.{new_call, new_driver}
use Rattle.rf233.specs.Decline.{begun_again, resumed, waiting}
use Rattle.rf233.specs.Decline as decline
use Rattle.rf233.specs.DeclineClaim.{offer_of, offered, under_way_offer, waiting_offer}
use Rattle.rf233.specs.Described.{described}
use Rattle.rf233.specs.Starter.{begun, register_transfer}
use Rattle.rf233.specs.Step.{quiet, step_of}
use Rattle.rf233.specs.Transfer.{free_to_start, to_complete, to_resume, under_way, waits, kind_value}
use Rattle.rf233.specs.declared.action.Action.{Action}
use Rattle.rf233.specs.declared.answer.Outcome.{Outcome}
use Rattle.rf233.specs.declared.driver.Buffers.{Buffers}
use Rattle.rf233.specs.declared.driver.Driver.{Driver}
use Rattle.rf233.specs.declared.driver.Under.{Under}
use Rattle.rf233.specs.declared.driver.Under.TheVariants.{Idle}
use Rattle.rf233.specs.declared.starter.Started.{Started}
use Rattle.rf233.specs.declared.transfer.Transfer.{Transfer}
use Rattle.rf233.specs.declared.transfer.TransferKind.{TransferKind}
use Rattle.rf233.specs.declared.transfer.TransferKind.TheVariants as transfer
use Rattle.custody.specs.Book.{Page, entered, new_page}
use Rattle.custody.specs.Claim.{Event, fed}
use Rattle.custody.specs.ResumedIsDeclined.{Offers, ResumedIsDeclined, begins, declines, is_it, resumes, same_transfer, saw, seen, stepped}
use Rattle.custody.specs.ResumedIsDeclined.{unoffered}
use Rattle.laws.proofs.Logic.{clash}
use Rattle.rf233.proofs.Accepted.{done_completed}
use Rattle.rf233.proofs.ChoiceLaws.{either}
use Rattle.rf233.proofs.Conditions.{by_flag}
use Rattle.rf233.proofs.EveryCall.{Lays, every_call, laid, left_keeps, reset_actions}
use Rattle.rf233.proofs.Facts.{waits_waiting}
use Rattle.rf233.proofs.OfferLaws.{declined_offer, laid_offer, resume_offers}
use Rattle.rf233.proofs.OfferLaws as offers
use Rattle.rf233.proofs.OwnBuffers.{found_none, idle_is, register_refrains}
use Rattle.custody.proofs.Calls.{keeps}
use Rattle.custody.proofs.Custody.{Inv}
use Rattle.custody.proofs.NewDriver.{newly}
use Rattle.custody.proofs.OfferSteps.{After, Agrees, Resting, completion_offers, reads_start, writes_start}
use Rattle.custody.proofs.Undescribed.{sound}

-- a call that neither ends a transfer nor offers one again may begin one
stepped_same : (c : Call) (t : Option Transfer) (s : Offers) → ending c ≡ false → stepped c t s ≡ begins t s
stepped_same c t s n = grind arith

laid_under : (c : Call) (r : Buffers) → (laid c r).under ≡ r.under
laid_under c r = grind arith

-- of a transfer under way none waits, and the other way round; one is offered
not_both : (u : Under) → under_way u ≡ true → waits u ≡ false
not_both u i = grind arith

nor_both : (u : Under) → waits u ≡ true → under_way u ≡ false
nor_both u i = grind arith

ended_waits : (u : Under) → under_way u ≡ true → under_way (waiting u) ≡ false
ended_waits u i = grind arith

some_offer : (u : Under) (b : Buffers) → under_way u ≡ true → is_some (offer_of u b) ≡ true
some_offer u b i = grind arith

-- a transfer is itself
same_self : (t : Transfer) → same_transfer t t ≡ true
same_self t =
    rw (
      eq-eqb _ _ (refl {a = kind_value t.kind}),
      eq-eqb _ _ (refl {a = t.write}),
      eq-eqb _ _ (refl {a = t.read}),
      eq-eqb _ _ (refl {a = t.first}),
      eq-eqb _ _ (refl {a = t.second}),
      eq-eqb _ _ (refl {a = t.write_len}),
      eq-eqb _ _ (refl {a = t.read_len}),
    ) refl

-- ---- a list of calls

module _ (p : Page) (s : Offers) (d : Driver) (v : Inv p d) (g : Agrees s d.buffers) where
  abbrev Leaves : Call → Outcome → Type 0
  Leaves c o = Agrees (saw c o.reply s) o.driver.buffers

  -- a call that is turned down
  turned : (c : Call) (n : ℕ) (e : Driver) → eqb (answer_no (answer_of n)) 0 ≡ false → e.buffers ≡ d.buffers → Leaves c (refused n e)
  unfolding saw
  turned c n e z b = rw (z, b) g

  -- a driver on which a call has laid something down, and what it then asks for
  module _ (c : Call) (e : Driver) (y : Lays c d e) where
    under : e.buffers.under ≡ d.buffers.under
    under = ap (λ (b : Buffers). b.under) y.buffers ∙ laid_under c d.buffers

    same : offered e.buffers ≡ offered d.buffers
    same = ap offered y.buffers ∙ laid_offer c d (sound p d v) y.unsent

    stands : Agrees s e.buffers
    stands =
        record {
          going = g.going ∙ ap₂ (λ w t. cond w t None) (ap under_way (sym under)) (sym same);
          waits = g.waits ∙ ap₂ (λ w t. cond w t None) (ap waits (sym under)) (sym same);
          right = g.right;
        }

    rested : (l : List Action) → Leaves c (quiet e (actions l))
    unfolding saw
    rested l = rw (stepped_same c None s y.ends_none) stands

    -- with none under way or waiting
    resting : e.buffers.under ≡ Idle → Resting s
    resting i =
        let i' = sym under ∙ i in
        record { going = g.going ∙ rw i' refl; waits = g.waits ∙ rw i' refl; right = g.right }

    asked : (n : TransferKind) (x z : ℕ)
        → (Resting s → e.buffers.under ≡ Idle → After s (step_of (register_transfer n x z e) (actions [])))
        → Leaves c (step_of (register_transfer n x z e) (actions []))
    unfolding saw
    asked n x z starts =
        rw (stepped_same c (begun (register_transfer n x z e).answer) s y.ends_none)
        (by_flag (free_to_start e.buffers) (λ f. let i = idle_is e.buffers.under f in starts (resting i) i)
        (λ f. subst (λ (t : Started). Agrees (begins (begun t.answer) s) t.driver.buffers) (sym (register_refrains e n x z f))
        (rw (found_none e.buffers.under) stands)))

  completion : (xs : List ℕ) → to_complete d.buffers ≡ true → Leaves (complete xs) (completed (arrived_of xs) d)
  unfolding saw
  completion xs i =
      let a = arrived_of xs in
      rw (done_completed a d)
      (completion_offers (record s { going = None })
      (record { going = refl; waits = g.waits ∙ rw (not_both d.buffers.under i) refl; right = g.right }) a d)

  -- the transfer under way waits
  declines_so : to_complete d.buffers ≡ true → Leaves declined (quiet (decline.declines d) (actions []))
  unfolding saw
  declines_so i = go (offered d.buffers) refl (some_offer d.buffers.under d.buffers i)
    where
      go : (o : Option Transfer) → offered d.buffers ≡ o → is_some o ≡ true
          → Agrees (declines s.going s) (decline.declines d).buffers
      go None q t = clash false refl t
      go (Some x) q t =
          let u = d.buffers.under in
          let going : s.going ≡ Some x = g.going ∙ rw (i, q) refl in
          rw going
          (record {
            going = rw (ended_waits u i) refl;
            waits = rw (waits_waiting u i) (sym q ∙ sym (declined_offer d i));
            right = g.right;
          })

  -- the transfer that waits is offered again
  resumes_so : described d ≡ false → to_resume d.buffers ≡ true → Leaves resume (resumed d)
  unfolding saw
  resumes_so e i = go (offered d.buffers) refl (resume_offers d e i)
    where
      go : (o : Option Transfer) → offered d.buffers ≡ o → offers.Offers o (begun_again d)
          → Agrees (resumes (begun (begun_again d).answer) s) (begun_again d).driver.buffers
      go None q f = clash false refl f.some
      go (Some x) q f =
          let waited : s.waits ≡ Some x = g.waits ∙ rw (i, q) refl in
          rw f.begins
          (record {
            going = rw f.has (sym f.keeps);
            waits = rw (not_both (begun_again d).driver.buffers.under f.has) refl;
            right = rw (g.right, waited, same_self x) refl;
          })

  pub every : (c : Call) (l : List ℕ) → Leaves c (yields d c l)
  every c l =
      every_call d l (λ c t. Leaves c t.outcome) (record {
        refuses = λ c n e t z same.
            turned c n e z (ap (λ (e : Driver). e.buffers) same ∙ left_keeps (λ d. d.buffers) c (answer_no (answer_of n)) d refl);
        rests = λ c e q y. rested c e y [];
        reads = λ c x z e q y. asked c e y transfer.RegisterRead x z (λ h i. reads_start s h e i x z);
        writes = λ c x z e q y. asked c e y transfer.RegisterWrite x z (λ h i. writes_start s h e i x z);
        resets = λ v e q y. rested (reset v) e y reset_actions;
        completes = λ xs q e i. completion xs i;
        declines = λ e i. declines_so i;
        resumes = λ q e i. resumes_so e i;
      }) c

along : (p : Page) (s : Offers) (d : Driver) (es : List Event) → Inv p d → Agrees s d.buffers → (seen d s es).wrong ≡ false
unfolding seen
along p s d [] v g = g.right
along p s d (e ∷ es) v g =
    let o = yields d e.call e.pool in
    along (entered (fed e.call) o.reply p) (saw e.call o.reply s) o.driver es (keeps p d v e.call e.pool) (every p s d v g e.call e.pool)

-- a new driver has offered nothing
pub newly_agrees : (l c : ℕ) → Agrees unoffered (new_call l c).driver.buffers
unfolding new_call
newly_agrees l c = either (λ (o : Outcome). Agrees unoffered o.driver.buffers) _ _ _ (at_first l c) (at_first 129 26)
  where
    at_first : (l c : ℕ) → Agrees unoffered (new_driver l c).buffers
    at_first l c = record { going = refl; waits = refl; right = refl }

pub resumed_is_declined : ResumedIsDeclined
resumed_is_declined l c es = along new_page unoffered (new_call l c).driver es (newly l c) (newly_agrees l c)
