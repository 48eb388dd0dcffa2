-- The starred cases on a frame's length, as request 2026-13 has altered them: the length read, the detour behind it, the second length
-- byte, and what is announced. From the law that only the end of a frame read alters what is kept of a reception (ReceptionLaws.antt).
-- Assumes nothing.
use mathlib.Core.Path.{◌≡◌, refl, sym, ap}
use mathlib.Core.Bool.{Bool, true, false, not, ◌&&◌, and-false, or-true}
use mathlib.Core.List.{List, [], ◌∷◌}
use Prim.Native.Nat.{ℕ, ◌-◌}
use native.Mathlib.Omega.{arith}
use lib.Dec.{eqb, leb}
use lib.ListN.{get_or}
use borrow.Author.Tests.{leb-true, ne_eqb, eq-eqb}
use Rattle.rf233_const.specs.Bits.{bit_set}
use Rattle.std.specs.Prelude.{Option, Some}
use Rattle.rf233.specs.Action.{actions}
use Rattle.rf233.specs.Arrived.{arrived_of}
use Rattle.rf233.specs.Case.{case_of, perform, trees, tree_at}
use Rattle.rf233.specs.Choice.{pick, within}
use Rattle.rf233.specs.Guard.{refusing}
use Rattle.rf233.specs.Completion.{
  completed,
  ready_bookkeeping,
  pending_interrupt,
  waiting_commit,
  frame_done,
  length_taken,
  transfer_over,
  interrupt_result,
  frame_end,
}
use Rattle.rf233.specs.Described.{described}
use Rattle.rf233.specs.Driver.{flagged, flags_of, set_flag}
use Rattle.rf233.specs.Driver.Flag.{receiving, crc_valid, interrupt_handling, sleep_pending}
use Rattle.rf233.specs.Interrupt.{interrupt_state}
use Rattle.rf233.specs.Kernel.{completing, completion_call}
use Rattle.rf233.specs.Line.{line, front, behind}
use Rattle.rf233.specs.Record.{lent}
use Rattle.rf233.specs.Rows.{eval, holds}
use Rattle.rf233.specs.declared.driver.Flags.{Flags}
use Rattle.rf233.specs.Starter.{register_transfer, frame_read_into}
use Rattle.rf233.specs.Reception.{compared}
use Rattle.rf233.specs.State.{state_no}
use Rattle.rf233.specs.Transfer.{transfer_of}
use Rattle.rf233.specs.declared.action.Action.TheVariants.{Received}
use Rattle.rf233.specs.declared.arrived.Arrived.{Arrived}
use Rattle.rf233.specs.declared.driver.Driver.{Driver}
use Rattle.rf233.specs.declared.driver.Lent.{Lent}
use Rattle.rf233.specs.declared.driver.Under.TheVariants.{Register, FrameRead}
use Rattle.rf233.specs.declared.reception.Reception.{Reception}
use Rattle.rf233.specs.declared.transfer.Transfer.{Transfer}
use Rattle.rf233.specs.declared.transfer.TransferKind.TheVariants as kind
use Rattle.laws.proofs.Logic.{both_left}
use Rattle.rf233.proofs.ChoiceLaws.{either}
use Rattle.rf233.proofs.Conditions.{by_flag}
use Rattle.rf233.proofs.LineLaws.{front_is, listed_behind}
use Rattle.rf233.proofs.OwnBuffers.{buf_home, frame_home}
use Rattle.rf233.proofs.ReceptionLaws.{completion_keeps}
use Rattle.rf233.proofs.Sound.{held_right}
use Rattle.rf233.proofs.Starred.{
  In,
  Accepts,
  Completes,
  Detours,
  ReadOut,
  NotReadOut,
  DetourReadOut,
  DetourNotReadOut,
  Frame,
  Checked,
  SpoiledBy,
  EndsReception,
}
use Rattle.rf233.proofs.StarredSteps.{unguarded, accepted_step, accepts, sends, still, straight}

-- ---- the length read

pub read_out : (n : ℕ) → leb 11 n ≡ true → leb n 127 ≡ true → ReadOut n
unfolding case_of tree_at trees eval holds perform frame_read_into frame_done pick
read_out n e f d xs p b l h r =
    rw (straight h 64 refl (rw h.state) refl, h.state, r, e, f, h.is_under_way, front_is (lent b l ∷ line d.buffers))
    (record { transfer = ap (λ (k : ℕ). Some (transfer_of kind.FrameRead 18 b 0x20 n k l)) (omega arith); state = refl })

pub not_read_out : (n : ℕ) → leb 11 n && leb n 127 ≡ false → NotReadOut n
unfolding case_of tree_at trees eval holds perform register_transfer frame_done pick
not_read_out n e d xs p b l h r =
    let own = frame_home d h.passes.fit (lent b l) h.is_under_way in
    rw (straight h 64 refl (rw h.state) refl, h.state, r, e)
    (by_flag d.flags.transmitting (λ t. rw (t, h.is_under_way, own.0, own.1)) (λ t. rw (t, h.is_under_way, own.0, own.1)))

pub held : (d : Driver) (xs p : List ℕ) → Accepts d xs p → In 63 d
    → (completion_call d xs p).outcome.driver.reception.length ≡ get_or xs 1 0
unfolding pick
held d xs p h s = rw (accepted_step h, completion_keeps (arrived_of xs) d, s)

pub stays : (d : Driver) (xs p : List ℕ) → Accepts d xs p → eqb (state_no d.state) 63 ≡ false
    → (completion_call d xs p).outcome.driver.reception.length ≡ d.reception.length
unfolding pick
stays d xs p h s =
    let e = d.reception in
    let r = get_or xs 1 0 in
    rw (accepted_step h, completion_keeps (arrived_of xs) d, s)
    (either (λ (v : Reception). v.length ≡ e.length) (eqb (state_no d.state) 65) (compared r e) e refl refl)

-- ---- a detour in 64: the case of the same state, by the held length

detour : (a : Arrived) (d : Driver) (xs p : List ℕ) → Detours 64 d xs p → a.result ≡ get_or xs 1 0
    → completed a d ≡ case_of 64 a (flagged receiving false (transfer_over (length_taken a d)))
unfolding completed interrupt_result interrupt_state frame_end ready_bookkeeping pending_interrupt waiting_commit frame_done pick
detour a d xs p h r =
    rw (h.handling, h.state, r, h.no_start, h.no_frame_lem, and-false (bit_set 3 (get_or xs 1 0)), h.state, h.pending, and-false)

pub detoured : (n : ℕ) → leb 11 n ≡ true → leb n 127 ≡ true → DetourReadOut n
unfolding completion_call completing case_of tree_at trees eval holds perform frame_read_into pick
detoured n e f d xs p b l h x v =
    let own = buf_home d h.passes.fit (rw h.is_under_way) in
    rw (unguarded d p _ h.passes, h.arrived, detour (arrived_of xs) d xs p h refl, h.state, v, e, f, h.is_under_way)
    (record {
      transfer = rw (x, own) (ap (λ (k : ℕ). Some (transfer_of kind.FrameRead 18 b 0x20 n k l)) (omega arith));
      state = rw (x, own);
    })

pub detour_not_out : (n : ℕ) → leb 11 n && leb n 127 ≡ false → DetourNotReadOut n
unfolding completion_call completing case_of tree_at trees eval holds perform register_transfer pick
detour_not_out n e d xs p h v =
    rw (unguarded d p _ h.passes, h.arrived, detour (arrived_of xs) d xs p h refl, h.state, v, e, h.is_under_way)
    (by_flag d.flags.transmitting (λ t. rw t) (λ t. rw t))

-- ---- the second length byte

-- no interrupt is handled while a frame is read out
same_flags : (f : Flags) → f.interrupt_handling ≡ false → set_flag interrupt_handling false f ≡ f
same_flags f e =
    ap (λ v. flags_of f.radio_on f.transmitting f.receiving f.crc_valid v f.interrupt_pending f.config_pending f.sleep_pending
    f.wake_pending f.power_client_pending) (sym e)

framed : (v : Bool) (d : Driver) (xs p : List ℕ) (x : Lent) → Completes (FrameRead x) 65 d xs p
    → eqb (get_or xs 1 0) d.reception.length ≡ not v
    → Frame d.flags v x (completion_call d xs p)
unfolding case_of tree_at trees eval holds perform register_transfer frame_done pick
framed v d xs p x h e =
    let own = frame_home d h.passes.fit x h.is_under_way in
    rw (straight h 66 refl (rw h.state) refl, h.state, e, h.is_under_way, own.0, own.1)
    (record {
      spoils = go v;
      shows_nothing = refl {a = actions []};
      held = front_is (x ∷ line d.buffers);
      asks = refl {a = Some (transfer_of kind.RegisterRead 16 17 0x86 0 2 2)};
      state = refl {a = 67};
      flags = same_flags d.flags h.handling;
    })
  where
    go : (v : Bool) → not (not v) ≡ v
    go true = refl
    go false = refl

pub differs : (d : Driver) (xs p : List ℕ) (x : Lent) → Completes (FrameRead x) 65 d xs p → eqb (get_or xs 1 0) d.reception.length ≡ false
    → Frame d.flags true x (completion_call d xs p)
differs = framed true

pub same : (d : Driver) (xs p : List ℕ) (x : Lent) → Completes (FrameRead x) 65 d xs p → get_or xs 1 0 ≡ d.reception.length
    → Frame d.flags false x (completion_call d xs p)
same d xs p x h e = framed false d xs p x h (eq-eqb (get_or xs 1 0) d.reception.length e)

-- in 65 the held length is 11 at least
pub below_range : (n : ℕ) → leb n 10 ≡ true → SpoiledBy n
below_range n l d xs p x h e =
    let held = held_right d h.passes.fit (rw h.state) in
    let low = leb-true 11 d.reception.length (both_left (leb 11 d.reception.length) _ held) in
    differs d xs p x h (ne_eqb (get_or xs 1 0) d.reception.length (λ q. omega (arith, leb-true n 10 l)))

-- ---- what is announced

pub checked_lem : (d : Driver) (xs p : List ℕ) → Completes Register 67 d xs p
    → Checked d.flags d.reception.spoiled (get_or xs 1 0) (completion_call d xs p)
unfolding case_of tree_at trees eval perform register_transfer frame_done pick
checked_lem d xs p h =
    rw (straight h 67 refl (rw h.state h.state) refl, h.state)
    (record {
      command = sends _ _ (still (accepts h refl)) refl (rw h.is_under_way) (rw h.is_under_way);
      flags = rw h.is_under_way (ap (set_flag crc_valid (bit_set 7 (get_or xs 1 0))) (same_flags d.flags h.handling));
      spoils = rw h.is_under_way;
    })

-- ---- what is announced

-- TRX_STATUS is read, as either way of the next state does
abbrev status_read : Option Transfer
status_read = Some (transfer_of kind.RegisterRead 16 17 0x81 0 2 2)

-- the flags that 68 clears
cleared : (f : Flags) → f.interrupt_handling ≡ false
    → set_flag sleep_pending false (set_flag receiving false (set_flag interrupt_handling false f))
    ≡ set_flag sleep_pending false (set_flag receiving false f)
cleared f e = ap (λ g. set_flag sleep_pending false (set_flag receiving false g)) (same_flags f e)

pub silent : (d : Driver) (xs p : List ℕ) → Completes Register 68 d xs p → d.reception.spoiled ≡ true
    → EndsReception d.flags (line d.buffers) (actions []) (completion_call d xs p)
unfolding case_of tree_at trees eval holds perform register_transfer frame_done pick
silent d xs p h s =
    let none = refl {a = actions []} in
    let asks = refl {a = status_read} in
    let f = cleared d.flags h.handling in
    let l = refl {a = line d.buffers} in
    by_flag d.flags.transmitting
    (λ t. rw (straight h 68 refl (rw h.state h.state) refl, h.state, s, t, h.is_under_way)
    (record { remain = l; shows = none; asks = asks; flags = rw t at f }))
    (λ t. rw (straight h 68 refl (rw h.state h.state) refl, h.state, s, t, h.is_under_way)
    (record { remain = l; shows = none; asks = asks; flags = rw t at f }))

pub told_length : (d : Driver) (xs p : List ℕ) (x : Lent) → Completes Register 68 d xs p → d.reception.spoiled ≡ false
    → d.clients.rx_client ≡ true → front (line d.buffers) ≡ Some x
    → EndsReception d.flags (behind (line d.buffers)) (actions (Received x.buffer (d.reception.length - 2) d.flags.crc_valid ∷ []))
    (completion_call d xs p)
unfolding case_of tree_at trees eval holds perform register_transfer frame_done pick
told_length d xs p x h s c g =
    let l = listed_behind d.buffers.rx_line in
    let told = refl {a = actions (Received x.buffer (d.reception.length - 2) d.flags.crc_valid ∷ [])} in
    let asks = refl {a = status_read} in
    let f = cleared d.flags h.handling in
    by_flag d.flags.transmitting
    (λ t. rw (straight h 68 refl (rw h.state h.state) refl, h.state, s, c, t, h.is_under_way, g)
    (record { remain = l; shows = told; asks = asks; flags = rw t at f }))
    (λ t. rw (straight h 68 refl (rw h.state h.state) refl, h.state, s, c, t, h.is_under_way, g)
    (record { remain = l; shows = told; asks = asks; flags = rw t at f }))

-- ---- refusal 12

pub outside_lem : (d : Driver) (xs p : List ℕ) → within 65 68 (state_no d.state) ≡ true → within 11 127 d.reception.length ≡ false
    → completion_call d xs p ≡ refusing 12 d p
unfolding completion_call described pick
outside_lem d xs p s e = rw (s, e) (simp or-true)
