-- `received_length` of specs/ReceivedLength.antt. At each point what was seen agrees with the driver (`Agrees` of LengthSteps.antt): a
-- completion keeps that (LengthCompletion.antt), and so does what a call lays down. Beside it goes the invariant of Custody.antt.
-- Assumes nothing.
use Rattle.std.proofs.Common.{◌≡◌, ℕ, true, false, ◌||◌, T, eqb, List, [], ◌∷◌, ◌++◌, sym, refl, ap, ◌∙◌, subst}
use Rattle.std.proofs.Common.{arith, get_or, ◌-◌, ◌%◌}
use borrow.Author.Tests.{eqb-true}
use mathlib.Core.Bool.{or-false, not, and-false}
use Rattle.std.specs.Prelude.{None, ◌&&◌}
use Rattle.rf233.specs.Action.{actions}
use Rattle.rf233.specs.Answer.{answer_no, answer_of, refused}
use Rattle.rf233.specs.Arrived.{arrived_of}
use Rattle.rf233.specs.Calls.{Call, ending, yields}
use Rattle.rf233.specs.Calls.Call.{complete, reset, declined, resume}
use Rattle.rf233.specs.Choice.{within}
use Rattle.rf233.specs.Completion.{completed, length_taken}
use Rattle.rf233.specs.Create.{new_call, new_driver}
use Rattle.rf233.specs.Decline.{waiting, declines, resumed, again, waits_no_more, begun_again}
use Rattle.rf233.specs.Described.{frame_no, described}
use Rattle.rf233.specs.Driver.{with_buffers}
use Rattle.rf233.specs.Line.{front, line, some}
use Rattle.rf233.specs.OneBuffer.{Moved, in_turn, reading}
use Rattle.rf233.specs.OneBuffer.Moved.{hands_back, lends, stays, turns}
use Rattle.rf233.specs.Record.{buffer_in}
use Rattle.rf233.specs.Starter.{register_transfer, begun}
use Rattle.rf233.specs.State.{state_frame, state_no}
use Rattle.rf233.specs.Step.{quiet, step_of}
use Rattle.rf233.specs.Transfer.{free_to_start, kind_value, to_complete, to_resume, waits}
use Rattle.rf233.specs.declared.answer.Outcome.{Outcome}
use Rattle.rf233.specs.declared.driver.Buffers.{Buffers}
use Rattle.rf233.specs.declared.driver.Driver.{Driver}
use Rattle.rf233.specs.declared.driver.Lent.{Lent}
use Rattle.rf233.specs.declared.driver.Offer.{Offer}
use Rattle.rf233.specs.declared.driver.Offer.TheVariants as offer
use Rattle.rf233.specs.declared.driver.Under.{Under}
use Rattle.rf233.specs.declared.driver.Under.TheVariants.{Idle, Register, FrameRead, FrameWrite, Waits}
use Rattle.rf233.specs.declared.starter.Started.{Started}
use Rattle.rf233.specs.declared.transfer.TransferKind.{TransferKind}
use Rattle.rf233.specs.declared.transfer.TransferKind.TheVariants as transfer
use Rattle.custody.specs.Book.{Page, ended, entered, new_page}
use Rattle.custody.specs.Book as book
use Rattle.custody.specs.Claim.{Event, fed}
use Rattle.custody.specs.ReceivedLength.{ReceivedLength, Reads, called, over, saw, seen, unread}
use Rattle.laws.proofs.Logic.{clash, is_true, left}
use Rattle.rf233.proofs.Accepted.{done_completed}
use Rattle.rf233.proofs.ChoiceLaws.{either}
use Rattle.rf233.proofs.Conditions.{by_flag}
use Rattle.rf233.proofs.DeclineLaws.{by_command, n_again}
use Rattle.rf233.proofs.EveryCall.{Lays, every_call, laid, left_keeps, reset_actions}
use Rattle.rf233.proofs.Facts.{frame_of, kind, of, frame_no_lem}
use Rattle.rf233.proofs.Fit.{buffer_there, fit, fit_frame}
use Rattle.rf233.proofs.OneBuffer.{laid_moved, declined_turn, resumed_turn}
use Rattle.rf233.proofs.OwnBuffers.{idle_is, register_refrains}
use Rattle.rf233.proofs.RowLaws.{again_by}
use Rattle.custody.proofs.Calls.{keeps}
use Rattle.custody.proofs.Custody.{Inv}
use Rattle.custody.proofs.Events.{returned_keeps, taken_keeps}
use Rattle.custody.proofs.LengthCompletion.{back_agrees, here, names_read, back_length}
use Rattle.custody.proofs.LengthCompletion as rows
use Rattle.custody.proofs.LengthRows.{read_going, two_more, write_going}
use Rattle.custody.proofs.LengthSteps.{
  Agrees,
  Onward,
  asks,
  frame_length,
  frame_over,
  going_of,
  goes_on,
  length_over,
  rests,
  Stands,
  no_read_going,
  AgreesAt,
  Goes,
  first,
  register_going,
}
use Rattle.custody.proofs.NewDriver.{newly}

-- ---- what a call lays down

-- no call but a completion moves the first of the receive buffers
same_front : {c : Call} {l m : List Lent} → Moved c l m → ending c ≡ false → T (some l) → front m ≡ front l
same_front stays n t = refl
same_front {l = []} (lends b k e) n t = absurd t
same_front {l = y ∷ l} (lends b k e) n t = refl
same_front (hands_back xs e) n t = clash (ending (complete xs)) (sym (ap ending e) ∙ n) refl
same_front (turns xs e) n t = clash (ending (complete xs)) (sym (ap ending e) ∙ n) refl

-- from the end of a length read to the announcement there is one
some_turn : (d : Driver) → T (fit (of d)) → T (length_over (state_no d.state)) → T (some (in_turn d.buffers))
some_turn d o t = go d.buffers.under (buffer_there.gives (of d) o tt t)
  where
    held : (l m : List Lent) → T (some m) → T (some (l ++ m))
    held [] m t = t
    held (x ∷ l) m t = tt

    go : (u : Under) → T (some (line d.buffers) || (eqb (frame_of (kind u)) 1 && not (waits u))) → T (some (reading u ++ line d.buffers))
    go Idle t = rw or-false at t
    go Register t = rw or-false at t
    go (FrameRead x) t = tt
    go (FrameWrite x) t = rw or-false at t
    go (Waits o) t = rw (and-false, or-false) at t

-- a call that neither ends a transfer nor offers one again ends no read
called_same : (c : Call) (s : Reads) → ending c ≡ false → called c s ≡ s
called_same c s n = grind arith

laid_under : (c : Call) (r : Buffers) → (laid c r).under ≡ r.under
laid_under c r = grind arith

laid_length : (c : Call) (r : Buffers) → (laid c r).spi_buf_len ≡ r.spi_buf_len
laid_length c r = grind arith

wider : (n : ℕ) → T (length_over n) → T (within 63 68 n)
wider n t = grind arith

read_within : (n : ℕ) → state_frame n ≡ 1 → T (within 63 68 n)
read_within n e = names_read n e (λ z. rw z tt) (λ z. rw z tt)

-- a transfer that waits is none that is under way, and of the same kind
waiting_none : (u : Under) (n : ℕ) → None ≡ going_of (waiting u) n
waiting_none Idle n = refl
waiting_none Register n = refl
waiting_none (FrameRead x) n = refl
waiting_none (FrameWrite x) n = refl
waiting_none (Waits o) n = refl

waiting_frame : (u : Under) → frame_no (waiting u) ≡ frame_no u
waiting_frame u = grind arith

-- ---- a list of calls

module _ (p : Page) (s : Reads) (d : Driver) (v : Inv p d) (g : Agrees s d) where
  -- what a call that yields this is claimed to leave, where the invariant holds after it
  abbrev Leaves : Call → Outcome → Type 0
  Leaves c o = T (fit (of o.driver)) → Agrees (saw c o.reply s) o.driver

  -- a call that is turned down
  turned : (c : Call) (n : ℕ) (e : Driver) → eqb (answer_no (answer_of n)) 0 ≡ false → e.state ≡ d.state → e.buffers ≡ d.buffers
      → e.reception ≡ d.reception → Leaves c (refused n e)
  unfolding saw
  turned c n e z q b r = rw z (λ o. goes_on d e g (here q b r) None (rw (b, q) g.going))

  -- a driver on which a call has laid something down, and what it then asks for
  module _ (c : Call) (e : Driver) (y : Lays c d e) where
    under : e.buffers.under ≡ d.buffers.under
    under = ap (λ (b : Buffers). b.under) y.buffers ∙ laid_under c d.buffers

    state_so : T (within 63 68 (state_no e.state)) → state_no e.state ≡ state_no d.state
    state_so t = ap state_no (y.state t)

    onward : Onward d e
    onward =
        let here_too : (h : T (length_over (state_no e.state))) → state_no e.state ≡ state_no d.state = λ h.
        state_so (wider (state_no e.state) h) in
        record {
          length = λ h. subst (λ n. T (length_over n)) (here_too h) h;
          frame = λ h. subst (λ n. T (frame_over n)) (here_too (frame_length (state_no e.state) h)) h;
          same_first = λ h.
              ap buffer_in (ap (λ b. front (in_turn b)) y.buffers
              ∙ same_front (laid_moved c d y.room) y.ends_none
              (some_turn d v.fitted (subst (λ n. T (length_over n)) (here_too h) h)));
          reception = y.reception;
        }

    -- during a frame read, also one that waits, the state is as before
    same_state : T (fit (of e)) → frame_no e.buffers.under ≡ 1 → state_no e.state ≡ state_no d.state
    same_state o q =
        let k = state_no e.state in
        let named = eqb (frame_of (kind e.buffers.under)) (state_frame k) in
        let f = left named _ (fit_frame.gives (of e) o tt tt) in
        let names = sym (eqb-true _ (state_frame k) (is_true named f)) ∙ (sym (frame_no_lem e.buffers.under) ∙ q) in
        state_so (read_within k names)

    -- the read under way is as before
    going_in : (u : Under) → T (fit (of e)) → e.buffers.under ≡ u → going_of u (state_no d.state) ≡ going_of u (state_no e.state)
    going_in Idle o q = refl
    going_in Register o q = refl
    going_in (FrameRead x) o q = ap (going_of (FrameRead x)) (sym (same_state o (rw q refl)))
    going_in (FrameWrite x) o q = refl
    going_in (Waits w) o q = refl

    going : T (fit (of e)) → Stands s e
    going o =
        record {
          same = g.going.same ∙ (ap (λ u. going_of u (state_no d.state)) (sym under) ∙ going_in e.buffers.under o refl);
          short = λ q.
              ap (λ l. eqb l 2) (ap (λ (b : Buffers). b.spi_buf_len) y.buffers ∙ laid_length c d.buffers)
              ∙ (g.going.short (ap frame_no (sym under) ∙ q) ∙ ap (λ n. eqb n 63) (sym (same_state o q)));
        }

    rested : Leaves c (quiet e (actions []))
    unfolding saw
    rested = rw (called_same c s y.ends_none) (λ o. rests s d e g onward (going o))

    was_reset : Leaves c (quiet e (actions reset_actions))
    unfolding saw
    was_reset = rw (called_same c s y.ends_none) (λ o. goes_on d e g onward None (going o))

    asked : (n : TransferKind) (a b : ℕ) → eqb (kind_value n) 3 ≡ false → Leaves c (step_of (register_transfer n a b e) (actions []))
    unfolding saw
    asked n a b z =
        rw (called_same c s y.ends_none)
        (λ o. asks s d e g onward
        (by_flag (free_to_start e.buffers)
        (λ f.
        let i = idle_is e.buffers.under f in
        rw i (no_read_going (g.going.same ∙ ap (λ u. going_of u (state_no d.state)) (sym under ∙ i))))
        (λ f. going (subst (λ (t : Started). T (fit (of t.driver))) (register_refrains e n a b f) o))) n a b z)

  completion : (xs : List ℕ) → to_complete d.buffers ≡ true → Leaves (complete xs) (completed (arrived_of xs) d)
  unfolding saw
  completion xs i o =
      let a = arrived_of xs in
      let byte = get_or xs 1 0 in
      rw (done_completed a d)
      (rows.completes (book.called book.completes p) (over byte s.going s) a d (record {
        rest = returned_keeps p (length_taken a d) (taken_keeps p a d v) i;
        agrees = back_agrees p s byte a d refl v i g;
      }))

  -- a frame read that is declined is no longer under way
  declines_so : described d ≡ false → to_complete d.buffers ≡ true → Leaves declined (quiet (declines d) (actions []))
  unfolding saw
  declines_so e i o =
      let u = d.buffers.under in
      let n = state_no d.state in
      let l = d.buffers.spi_buf_len in
      subst (λ w. AgreesAt (record s { going = None }) (waiting u) n w (first (declines d)) d.reception) (sym (back_length u d.buffers))
      (subst (λ b. AgreesAt (record s { going = None }) (waiting u) n l b d.reception)
      (ap (λ q. buffer_in (front q)) (sym (declined_turn d e i))) (record {
        going = record { same = waiting_none u n; short = λ q. g.going.short (sym (waiting_frame u) ∙ q) };
        length = g.length;
        frame = g.frame;
        right = g.right;
      }))

  -- and is again once it is offered again
  resumes_so : to_resume d.buffers ≡ true → Leaves resume (resumed d)
  unfolding saw
  resumes_so i o =
      let e = waits_no_more d in
      let u = d.buffers.under in
      let after = λ (P : Driver → Type 0) (p : (b : Buffers) → P (with_buffers b e)). again_by P e p u in
      goes_on d (resumed d).driver g (record {
        length = after (λ f. T (length_over (state_no f.state)) → T (length_over (state_no d.state))) (λ b t. t);
        frame = after (λ f. T (frame_over (state_no f.state)) → T (frame_over (state_no d.state))) (λ b t. t);
        same_first = λ t. ap (λ q. buffer_in (front q)) (resumed_turn d i);
        reception = after (λ f. f.reception ≡ d.reception) (λ b. refl);
      }) (begun (begun_again d).answer) (again_going u refl i)
    where
      again_going : (u : Under) → d.buffers.under ≡ u → waits u ≡ true → Goes s (again u (waits_no_more d))
      again_going (Waits w) q h =
          let e = waits_no_more d in
          let none : s.going ≡ None = g.going.same ∙ rw q refl in
          by w q e refl none
        where
          by : (w : Offer) → d.buffers.under ≡ Waits w → (e : Driver) → e ≡ waits_no_more d → s.going ≡ None
              → Goes s (again (Waits w) (waits_no_more d))
          by offer.Register q e z n =
              register_going s _ (no_read_going n) _ _ _ (by_command (λ n. eqb (kind_value n) 3 ≡ false) refl refl d.buffers.command)
          by offer.FrameRead q e z n =
              let b = d.buffers in
              let m = (b.spi_buf_len - 2) % 256 in
              read_going s _ refl n (front (line b)) m
              (sym (two_more m) ∙ (ap (λ l. eqb l 2) (n_again b.spi_buf_whole b.spi_buf_len v.lengths.whole v.lengths.present)
              ∙ g.going.short (rw q refl)))
          by offer.FrameWrite q e z n = write_going s _ refl n d.buffers.tx_buf
      again_going Idle q h = clash false refl h
      again_going Register q h = clash false refl h
      again_going (FrameRead x) q h = clash false refl h
      again_going (FrameWrite x) q h = clash false refl h

  every : (c : Call) (l : List ℕ) → Leaves c (yields d c l)
  every c l =
      every_call d l (λ c t. Leaves c t.outcome) (record {
        refuses = λ c n e t z same.
            let k = answer_no (answer_of n) in
            turned c n e z (ap (λ (e : Driver). e.state) same ∙ left_keeps (λ d. d.state) c k d refl)
            (ap (λ (e : Driver). e.buffers) same ∙ left_keeps (λ d. d.buffers) c k d refl)
            (ap (λ (e : Driver). e.reception) same ∙ left_keeps (λ d. d.reception) c k d refl);
        rests = λ c e q y. rested c e y;
        reads = λ c x z e q y. asked c e y transfer.RegisterRead x z refl;
        writes = λ c x z e q y. asked c e y transfer.RegisterWrite x z refl;
        resets = λ v e q y. was_reset (reset v) e y;
        completes = λ xs q e i. completion xs i;
        declines = λ e i. declines_so e i;
        resumes = λ q e i. resumes_so i;
      }) c

along : (p : Page) (s : Reads) (d : Driver) (es : List Event) → Inv p d → Agrees s d → (seen d s es).wrong ≡ false
unfolding seen
along p s d [] v g = g.right
along p s d (e ∷ es) v g =
    let o = yields d e.call e.pool in
    let w = keeps p d v e.call e.pool in
    along (entered (fed e.call) o.reply p) (saw e.call o.reply s) o.driver es w (every p s d v g e.call e.pool w.fitted)

-- a new driver has read nothing
newly_agrees : (l c : ℕ) → Agrees unread (new_call l c).driver
unfolding new_call
newly_agrees l c = either (λ (o : Outcome). Agrees unread o.driver) _ _ _ (at_first l c) (at_first 129 26)
  where
    at_first : (l c : ℕ) → Agrees unread (new_driver l c)
    at_first l c = record { going = no_read_going refl; length = λ t. absurd t; frame = λ t q. absurd t; right = refl }

pub received_length : ReceivedLength
received_length l c es = along new_page unread (new_call l c).driver es (newly l c) (newly_agrees l c)
