-- A firing and a completion keep the invariant of Custody.antt, whatever is under way, and so does a register transfer that is asked for.
-- Assumes nothing.
use Rattle.std.proofs.Common.{rules}
use Rattle.std.proofs.Common.{arith}
use Rattle.std.proofs.Common.{◌≡◌, ℕ, true, false, not, T, eqb, [], sym, refl, ap, ◌∙◌, subst, None, Bool, ◌-◌, ◌%◌}
use Rattle.std.specs.Prelude.{◌||◌, cond}
use borrow.Author.Tests.{not-false}
use Rattle.rf233.specs.Action.{actions}
use Rattle.rf233.specs.Choice.{pick, within}
use Rattle.rf233.specs.Completion.{buffers_back, length_taken, transfer_over, completed, places_back}
use Rattle.rf233.specs.Decline.{waiting, resumed, waits_no_more, again}
use Rattle.rf233.specs.Decline as decline
use Rattle.rf233.specs.Driver.{with_under}
use Rattle.rf233.specs.Interrupt.{handle_interrupt}
use Rattle.rf233.specs.Record.{tx_under_way, rx_under_way}
use Rattle.rf233.specs.Starter.{register_transfer, command_kind}
use Rattle.rf233.specs.Step.{step_of}
use Rattle.rf233.specs.Transfer.{kind_value, under_way, free_to_start, to_complete, to_resume, waits}
use Rattle.rf233.specs.declared.driver.Command.{Command}
use Rattle.rf233.specs.declared.driver.Offer.TheVariants as offer
use Rattle.rf233.specs.declared.transfer.TransferKind.{TransferKind}
use Rattle.rf233.specs.declared.arrived.Arrived.{Arrived}
use Rattle.rf233.specs.declared.driver.Buffers.{Buffers}
use Rattle.rf233.specs.declared.driver.Driver.{Driver}
use Rattle.rf233.specs.declared.driver.Under.{Under}
use Rattle.rf233.specs.declared.driver.Under.TheVariants.{Idle, Register, FrameRead, FrameWrite, Waits}
use Rattle.custody.specs.Book.{Fed as fed, Page, ended, called}
use Rattle.laws.proofs.Logic.{clash}
use Rattle.rf233.proofs.Conditions.{by_flag}
use Rattle.rf233.proofs.DeclineLaws.{by_command, n_again}
use Rattle.rf233.proofs.EveryStep.{completion_by}
use Rattle.rf233.proofs.Facts.{kind, is_none, of, under, over_is, Facts, placed, facts, declined_is}
use Rattle.rf233.proofs.Fit.{fit, joins, return_fits, taken_fits, joined, decline_fits, ok_again, again_fits}
use Rattle.rf233.proofs.OwnBuffers.{idle_is, register_refrains, found_none}
use Rattle.custody.proofs.Custody.{Inv, After, Lengths, register_keeps, reading_keeps, writing_keeps}
use Rattle.custody.proofs.Match as match
use Rattle.custody.proofs.Match.{Match}
use Rattle.custody.proofs.Phases.{Rest, asks, fires, ends, kept}
use Rattle.custody.proofs.UnderKind.{kind_of}
use Rattle.custody.proofs.Undescribed.{besides_none}

-- ---- a completion

-- whatever is then under way, or waits, that has no client's buffer
lengths_back : (u v : Under) (b : Buffers) → tx_under_way v ≡ None → rx_under_way v ≡ None → b.under ≡ u → Lengths b
    → Lengths (with_under v (places_back u b))
lengths_back Idle v b s t e g = search rules
lengths_back Register v b s t e g = search rules
lengths_back (FrameRead x) v b s t e g = search rules
lengths_back (FrameWrite x) v b s t e g = search rules
lengths_back (Waits o) v b s t e g = search rules

-- one is under way
busy_now : (u : Under) → under_way u ≡ true → T (not (is_none (kind u)))
busy_now u i = grind arith

pub returned_keeps : (k : Page) (d : Driver) → Inv k d → to_complete d.buffers ≡ true → Rest (called fed.completes k) (transfer_over d)
returned_keeps k d v i =
    let u = d.buffers.under in
    record {
      inv = record {
        match = match.ends d.buffers k v.match i (besides_none d v.fitted);
        fitted = subst (λ c. T (fit c)) (sym (over_is d (placed u d.buffers i))) (return_fits.gives (of d) v.fitted (busy_now u i) tt);
        lengths = lengths_back u Idle d.buffers refl refl refl v.lengths;
      };
      free = refl;
    }

-- with what a frame read brought of a length
pub taken_keeps : (k : Page) (a : Arrived) (d : Driver) → Inv k d → Inv k (length_taken a d)
taken_keeps k a d v = record { match = v.match; fitted = taken_fits a d v.fitted; lengths = v.lengths }

pub completed_keeps : (k : Page) (a : Arrived) (d : Driver) → Inv k d → to_complete d.buffers ≡ true
    → After (called fed.completes k) (completed a d)
completed_keeps k a d v i =
    let over = called fed.completes k in
    completion_by (After over) (Rest over) (kept over) (ends over) a d
    (returned_keeps k (length_taken a d) (taken_keeps k a d v) i)

-- ---- a decline and a resume

no_client : (u : Under) → (tx_under_way (waiting u) ≡ None) × (rx_under_way (waiting u) ≡ None)
no_client u = grind arith

pub declined_keeps : (k : Page) (d : Driver) → Inv k d → to_complete d.buffers ≡ true → Inv (called fed.declines k) (decline.declines d)
declined_keeps k d v i =
    let u = d.buffers.under in
    let n = no_client u in
    record {
      match = match.parks d.buffers k v.match i (besides_none d v.fitted);
      fitted = subst (λ c. T (fit c)) (sym (declined_is d i)) (decline_fits.gives (of d) v.fitted (busy_now u i) tt);
      lengths = lengths_back u (waiting u) d.buffers n.0 n.1 refl v.lengths;
    }

pub resumed_keeps : (k : Page) (d : Driver) → Inv k d → to_resume d.buffers ≡ true → After (called fed.resumes k) (resumed d)
resumed_keeps k d v i =
    by_offer d.buffers.under i (match.unparks d.buffers k v.match i) (again_fits.gives (of d) v.fitted tt (rw i tt))
  where
    lengths : Lengths (waits_no_more d).buffers
    lengths =
        let g = v.lengths in
        record { whole = g.whole; present = g.present; tx = g.tx; tx_under = refl; rx = g.rx; rx_under = refl }

    by_offer : (u : Under) → waits u ≡ true → Match (waits_no_more d).buffers (called fed.resumes k)
        → T (ok_again (kind u) (of (waits_no_more d)))
        → After (called fed.resumes k) (step_of (again u (waits_no_more d)) (actions []))
    by_offer (Waits offer.Register) w m f =
        let c = d.buffers.command in
        register_keeps (called fed.resumes k) (waits_no_more d) m lengths refl (actions []) (command_kind c) _ _
        (by_command (λ n. kind_of (kind_value n) ≡ 1) refl refl c) (by_command (λ n. eqb (kind_value n) 0 ≡ false) refl refl c) f
    by_offer (Waits offer.FrameRead) w m f =
        let g = v.lengths in
        let b = d.buffers in
        reading_keeps (called fed.resumes k) (waits_no_more d) m lengths refl (actions []) ((b.spi_buf_len - 2) % 256)
        (rw (n_again b.spi_buf_whole b.spi_buf_len g.whole g.present) g.present) f
    by_offer (Waits offer.FrameWrite) w m f = writing_keeps (called fed.resumes k) (waits_no_more d) m lengths refl (actions []) f
    by_offer Idle w m f = clash false refl w
    by_offer Register w m f = clash false refl w
    by_offer (FrameRead x) w m f = clash false refl w
    by_offer (FrameWrite x) w m f = clash false refl w

-- ---- whatever is under way

-- the kind of transfer that a request joins
joins_busy : (u : Under) → under_way u || waits u ≡ true → joins (kind u) ≡ kind u
joins_busy u i = grind arith

same_joined : (c : Facts) → joins c.transfer ≡ c.transfer → joined c ≡ c
same_joined c e = ap (λ k. facts k c.state c.tx c.rx c.sends c.handles c.in_range c.parked) e

module _ (k : Page) (d : Driver) (v : Inv k d) where
  -- the invariant of a driver with the same record
  pub others : (e : Driver) → e.buffers ≡ d.buffers → T (fit (of e)) → Inv k e
  others e q o =
      record { match = subst (λ b. Match b k) (sym q) v.match; fitted = o; lengths = subst Lengths (sym q) v.lengths }

  -- a register transfer is asked for
  pub asks_any : (e : Driver) → e.buffers ≡ d.buffers → (n : TransferKind) (x y : ℕ) → kind_of (kind_value n) ≡ 1
      → eqb (kind_value n) 0 ≡ false
      → T (fit (joined (of e)))
      → After k (step_of (register_transfer n x y e) (actions []))
  asks_any e q n x y z w o =
      let u = d.buffers.under in
      by_flag (free_to_start d.buffers)
      (λ i. asks k d e (record { inv = v; free = i }) q n x y z w
      (let away = ap (λ (b : Buffers). b.under) q ∙ idle_is u i in rw away at o))
      (λ i. subst (λ s. After k (step_of s (actions []))) (sym (register_refrains e n x y (ap free_to_start q ∙ i)))
      (rw (found_none e.buffers.under) (others e q (subst (λ c. T (fit c))
      (same_joined (of e) (ap (λ b. joins (kind b.under)) q ∙ (joins_busy u (not-false (under_way u || waits u) i)
      ∙ ap (λ b. kind b.under) (sym q)))) o))))

  -- a firing; during a transfer it is remembered
  remembers : free_to_start d.buffers ≡ false → After k (handle_interrupt d)
  unfolding handle_interrupt pick
  remembers i = rw i (others _ refl v.fitted)

  pub fires_any : After k (handle_interrupt d)
  fires_any = by_flag (free_to_start d.buffers) (λ i. fires k d (record { inv = v; free = i })) remembers
