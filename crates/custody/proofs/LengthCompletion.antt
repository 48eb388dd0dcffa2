-- A completion keeps what `received_length` needs (`Agrees` of LengthSteps.antt): the return of the buffers, with what a frame read brought
-- of a length (`back_agrees`), and the phases behind it (`completes`). Assumes nothing.
use Rattle.std.proofs.Common.{◌≡◌, ℕ, Bool, true, false, ◌&&◌, T, eqb, ltb, cond, sym, refl, ap, ◌∙◌, subst}
use Rattle.std.proofs.Common.{arith}
use Rattle.std.specs.Prelude.{None, Some}
use borrow.Author.Tests.{eqb-true, not-false}
use mathlib.Core.Path.{ap₂}
use Rattle.rf233.specs.Case.{case_of, own_case}
use Rattle.rf233.specs.Choice.{pick}
use Rattle.rf233.specs.Completion.{completed, length_taken, transfer_over, places_back}
use Rattle.rf233.specs.Described.{frame_no}
use Rattle.rf233.specs.Driver.{flag, flagged, with_state}
use Rattle.rf233.specs.Driver.Flag.{interrupt_handling, interrupt_pending}
use Rattle.rf233.specs.Interrupt.{handle_interrupt, interrupt_state}
use Rattle.rf233.specs.Line.{front}
use Rattle.rf233.specs.OneBuffer.{in_turn}
use Rattle.rf233.specs.Reception.{frame_read_over}
use Rattle.rf233.specs.Record.{buffer_in}
use Rattle.rf233.specs.State.{state_frame, state_no}
use Rattle.rf233.specs.Transfer.{to_complete, under_way}
use Rattle.rf233.specs.declared.arrived.Arrived.{Arrived}
use Rattle.rf233.specs.declared.driver.Buffers.{Buffers}
use Rattle.rf233.specs.declared.driver.Driver.{Driver}
use Rattle.rf233.specs.declared.driver.Lent.{Lent}
use Rattle.rf233.specs.declared.driver.Under.{Under}
use Rattle.rf233.specs.declared.driver.Under.TheVariants.{Idle, Register, FrameRead, FrameWrite, Waits}
use Rattle.rf233.specs.declared.reception.Reception.{Reception}
use Rattle.rf233.specs.declared.state.InternalState.{InternalState}
use Rattle.rf233.specs.declared.state.InternalState.TheVariants.{
  CONFIG_SHORT0_SET,
  ON_PLL_SET,
  READY,
  RX,
  RX_START_READING,
  RX_TURNING_OFF,
  TX_DONE,
  TX_STATUS_PRECHECK1,
}
use Rattle.rf233.specs.declared.transfer.TransferKind.TheVariants as transfer
use Rattle.custody.specs.Book.{Page}
use Rattle.custody.specs.ReceivedLength.{Reads, over}
use Rattle.laws.proofs.Logic.{is_false, is_true, left, right}
use Rattle.rf233.proofs.ChoiceLaws.{either}
use Rattle.rf233.proofs.EveryStep.{Ends, Kept, commit_by, completion_by}
use Rattle.rf233.proofs.Facts.{done_no, done_no_lem, frame_no_lem, frame_of, kind, of}
use Rattle.rf233.proofs.Fit.{fit_frame}
use Rattle.rf233.proofs.InTurn.{back_turn}
use Rattle.rf233.proofs.OwnBuffers.{idle_is}
use Rattle.rf233.proofs.Trees.{row_of}
use Rattle.custody.proofs.Custody.{Inv}
use Rattle.custody.proofs.Events.{returned_keeps, taken_keeps}
use Rattle.custody.proofs.LengthRows.{Ready, idle, perform_agrees, row_told, none_going}
use Rattle.custody.proofs.LengthSteps.{
  After,
  Agrees,
  AgreesAt,
  Onward,
  asks,
  first,
  frame_length,
  going_of,
  goes_on,
  length_over,
  rests,
  no_read_going,
  GoingAt,
}
use Rattle.custody.proofs.Phases as phases

-- ---- the return of the buffers

-- which state names which frame transfer
record NamesNone (n : ℕ) : Type 0 where
  not_34 : eqb n 34 ≡ false
  not_63 : eqb n 63 ≡ false
  not_65 : eqb n 65 ≡ false

names_none : (n : ℕ) → state_frame n ≡ 0 → NamesNone n
names_none n e = go (eqb n 34) (eqb n 63) (eqb n 65) refl refl refl
  where
    go : (x y z : Bool) → eqb n 34 ≡ x → eqb n 63 ≡ y → eqb n 65 ≡ z → NamesNone n
    go true y z p q r = absurd (omega (arith, rw p at e))
    go false true z p q r = absurd (omega (arith, rw (p, q) at e))
    go false false true p q r = absurd (omega (arith, rw (p, q, r) at e))
    go false false false p q r = record { not_34 = p; not_63 = q; not_65 = r }

names_write : (n : ℕ) → state_frame n ≡ 2 → n ≡ 34
names_write n e = go (eqb n 34) (eqb n 63) (eqb n 65) refl refl refl
  where
    go : (x y z : Bool) → eqb n 34 ≡ x → eqb n 63 ≡ y → eqb n 65 ≡ z → n ≡ 34
    go true y z p q r = eqb-true n 34 p
    go false true z p q r = absurd (omega (arith, rw (p, q) at e))
    go false false true p q r = absurd (omega (arith, rw (p, q, r) at e))
    go false false false p q r = absurd (omega (arith, rw (p, q, r) at e))

pub names_read : {A : Type 0} (n : ℕ) → state_frame n ≡ 1 → (n ≡ 63 → A) → (n ≡ 65 → A) → A
names_read {A} n e s t = go (eqb n 34) (eqb n 63) (eqb n 65) refl refl refl
  where
    go : (x y z : Bool) → eqb n 34 ≡ x → eqb n 63 ≡ y → eqb n 65 ≡ z → A
    go true y z p q r = absurd (omega (arith, rw p at e))
    go false true z p q r = s (eqb-true n 63 q)
    go false false true p q r = t (eqb-true n 65 r)
    go false false false p q r = absurd (omega (arith, rw (p, q, r) at e))

-- what was seen agrees with the record once the buffers are back and a length byte is taken. Of transfer u in state n it is known that the
-- state names it, and that no interrupt is handled during a frame's
module _ (s : Reads) (n w b byte : ℕ) (h : Bool) (e : Reception) where
  abbrev Back : Under → Type 0
  Back u = AgreesAt (over byte (going_of u n) s) Idle (done_no h n) w b (frame_read_over n byte e)

  same_no : NamesNone n → done_no h n ≡ n
  same_no z = rw (z.not_34, z.not_63, z.not_65) (go h)
    where
      go : (v : Bool) → cond v n n ≡ n
      go true = refl
      go false = refl

  same_kept : NamesNone n → frame_read_over n byte e ≡ e
  unfolding pick
  same_kept z = rw (z.not_63, z.not_65)

  back_at : (u : Under) → T (under_way u) → state_frame n ≡ frame_no u → (T (ltb 0 (frame_no u)) → h ≡ false)
      → AgreesAt s u n w b e → (going_buffer : (x : Lent) → u ≡ FrameRead x → b ≡ x.buffer) → Back u
  unfolding pick
  back_at Idle t f c g x = absurd t
  back_at Register t f c g x =
      let z = names_none n f in
      rw (same_no z, same_kept z) (record { going = no_read_going g.going.same; length = g.length; frame = g.frame; right = g.right })
  back_at (FrameWrite y) t f c g x =
      rw (names_write n f, c tt)
      (record { going = no_read_going g.going.same; length = λ t. absurd t; frame = λ t q. absurd t; right = g.right })
  back_at (FrameRead y) t f c g x =
      names_read n f
      (λ z. rw (z, c tt) (record {
        going = no_read_going refl;
        length = λ t. ap (λ b. Some (record { buffer = b; byte = byte })) (sym (x y refl));
        frame = λ t q. absurd t;
        right = g.right;
      }))
      (λ z. rw (z, c tt) (record {
        going = no_read_going refl;
        length = λ t. (rw z at g.length) tt;
        frame = λ t q.
            let same = eqb-true byte e.length (not-false (eqb byte e.length) q) in
            ap₂ (λ b n. Some (record { buffer = b; byte = n })) (sym (x y refl)) same;
        right = g.right;
      }))
  back_at (Waits o) t f c g x = absurd t

-- where one of two does not hold, and the other does
not_both : (a b : Bool) → a && b ≡ false → T a → b ≡ false
not_both true b e t = e
not_both false b e t = absurd t

-- the length of spi_buf stays
pub back_length : (u : Under) (b : Buffers) → (places_back u b).spi_buf_len ≡ b.spi_buf_len
back_length u b = grind arith

-- the buffer of a frame read is the first in turn
read_first : (r : Buffers) (x : Lent) → r.under ≡ FrameRead x → buffer_in (front (in_turn r)) ≡ x.buffer
read_first r x e = rw e

pub back_agrees : (p : Page) (s : Reads) (byte : ℕ) (a : Arrived) (d : Driver) → a.result ≡ byte → Inv p d → to_complete d.buffers ≡ true
    → Agrees s d → Agrees (over byte s.going s) (transfer_over (length_taken a d))
back_agrees p s byte a d r v i g =
    let b = d.buffers in
    let n = state_no d.state in
    let h = flag interrupt_handling d.flags in
    let e = transfer_over (length_taken a d) in
    let t = over byte s.going s in
    let turn : in_turn e.buffers ≡ in_turn b = back_turn b v.match.room in
    let f = fit_frame.gives (of d) v.fitted tt tt in
    let named = eqb (frame_of (kind b.under)) (state_frame n) in
    let names = frame_no_lem b.under ∙ eqb-true (frame_of (kind b.under)) (state_frame n) (is_true named (left named _ f)) in
    let clear = is_false (ltb 0 (frame_of (kind b.under)) && h) (right named _ f) in
    let l = b.spi_buf_len in
    let back : AgreesAt t Idle (done_no h n) l (first d) (frame_read_over n byte d.reception) =
    subst (λ w. AgreesAt (over byte w s) Idle (done_no h n) l (first d) (frame_read_over n byte d.reception)) (sym g.going.same)
    (back_at s n l (first d) byte h d.reception b.under (rw i tt) (sym names)
    (λ z. not_both (ltb 0 (frame_of (kind b.under))) h clear (rw (← frame_no_lem b.under) z)) g (λ x q. read_first b x q)) in
    subst (λ k. AgreesAt t Idle k e.buffers.spi_buf_len (first e) e.reception) (sym (done_no_lem h d.state))
    (subst (λ w. AgreesAt t Idle (done_no h n) w (first e) e.reception) (sym (back_length b.under b))
    (subst (λ q. AgreesAt t Idle (done_no h n) l (buffer_in (front q)) e.reception) (sym turn)
    (subst (λ r. AgreesAt t Idle (done_no h n) l (first d) (frame_read_over n r d.reception)) (sym r) back)))

-- ---- the phases

-- a step out of the reception
away : {d e : Driver} → length_over (state_no e.state) ≡ false → e.reception ≡ d.reception → Onward d e
away {d} {e} z r =
    record {
      length = λ h. absurd (rw z at h);
      frame = λ h. absurd (rw z at (frame_length (state_no e.state) h));
      same_first = λ h. absurd (rw z at h);
      reception = r;
    }

-- a step that leaves state, record and reception
pub here : {d e : Driver} → e.state ≡ d.state → e.buffers ≡ d.buffers → e.reception ≡ d.reception → Onward d e
here {d} {e} q b r =
    record {
      length = λ h. rw q at h;
      frame = λ h. rw q at h;
      same_first = λ h. ap (λ b. buffer_in (front (in_turn b))) b;
      reception = r;
    }

module _ (p : Page) (s : Reads) where
  -- the read under way, in whatever state: none
  none_in : (d : Driver) → Ready p s d → (n : ℕ) → GoingAt s.going d.buffers.under n d.buffers.spi_buf_len
  none_in d g n = rw (idle p s d g) (no_read_going (none_going p s d g))

  other_state : (d : Driver) → Ready p s d → (m : InternalState) → length_over (state_no m) ≡ false → Agrees s (with_state m d)
  other_state d g m z = goes_on d (with_state m d) g.agrees (away z refl) None (none_in d g (state_no m))

  own_agrees : (a : Arrived) (d : Driver) → Ready p s d → After s (own_case a d)
  unfolding case_of
  own_agrees a d g = perform_agrees p s a d g (row_of a d) (row_told a d)

  fires : (d : Driver) → Ready p s d → After s (handle_interrupt d)
  unfolding handle_interrupt
  fires d g =
      let n = state_no d.state in
      either (After s) _ _ _
      (either (After s) _ _ _
      (asks s d (with_state RX_TURNING_OFF d) g.agrees (away refl refl) (none_in d g 60) transfer.RegisterWrite _ _ refl)
      (asks s d (flagged interrupt_handling true d) g.agrees (here refl refl refl) (none_in d g n) transfer.RegisterRead _ _ refl))
      (rests s d (flagged interrupt_pending true d) g.agrees (here refl refl refl) (none_in d g n))

  ready_ends : Ends (After s) (Ready p s)
  ready_ends =
      record {
        fires = fires;
        sends = λ d g t.
            asks s d (with_state TX_STATUS_PRECHECK1 d) g.agrees (away refl refl) (none_in d g 33) transfer.RegisterRead _ _ refl;
        waits = λ d g. asks s d (with_state READY d) g.agrees (away refl refl) (none_in d g 29) transfer.RegisterRead _ _ refl;
        commits = λ d g.
            commit_by (After s) d
            (asks s d (with_state CONFIG_SHORT0_SET d) g.agrees (away refl refl) (none_in d g 45) transfer.RegisterWrite _ _ refl)
            (rests s d d g.agrees (here refl refl refl) (none_in d g (state_no d.state)));
        case = own_agrees;
      }

  -- where the interrupt's bits lead
  moved : (a : Arrived) (d : Driver) → Ready p s d → Agrees s (with_state (interrupt_state a d.state) d)
  unfolding interrupt_state
  moved a d g =
      let P : InternalState → Type 0 = λ m. Agrees s (with_state m d) in
      either P _ _ _ (other_state d g RX refl)
      (either P _ _ _ (other_state d g ON_PLL_SET refl) (either P _ _ _ (other_state d g TX_DONE refl) g.agrees))

  ready_kept : Kept (Ready p s)
  ready_kept =
      let kept = phases.kept p in
      record {
        flags = λ f d t h g. record { rest = kept.flags f d t h g.rest; agrees = g.agrees };
        moves = λ a d g. record { rest = kept.moves a d g.rest; agrees = moved a d g };
        reads = λ d h g. record { rest = kept.reads d h g.rest; agrees = other_state d g RX_START_READING refl };
      }

  pub completes : (a : Arrived) (d : Driver) → Ready p s (transfer_over (length_taken a d)) → After s (completed a d)
  completes a d g = completion_by (After s) (Ready p s) ready_kept ready_ends a d g
