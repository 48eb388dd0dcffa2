-- The order of a completion (document 01, "What a step does"): buffer return, and with it what a frame read brought of a length, interrupt
-- result, READY bookkeeping, pending interrupt, waiting commit, the state's own case. Each phase stands behind the one that it hands on to.
use Rattle.std.specs.Prelude.{ℕ, Bool, true, false, not, ◌&&◌, ◌||◌, [], ◌∷◌, eqb, Some}
use Rattle.rf233_const.specs.declared.register.RF233Register.TheVariants.{MIN, TRX_STATUS}
use Rattle.rf233.specs.Case.{own_case}
use Rattle.rf233.specs.Choice.{pick, one_of}
use Rattle.rf233.specs.Commit.{start_commit}
use Rattle.rf233.specs.Driver.{flag, flagged, assigning, with_state, with_buffers, with_reception, in_no}
use Rattle.rf233.specs.Driver.{with_registers, with_spi_buf, with_tx, with_line, with_under}
use Rattle.rf233.specs.Driver.Assignment.{put}
use Rattle.rf233.specs.Driver.Flag.{
  radio_on,
  transmitting,
  receiving,
  interrupt_handling,
  interrupt_pending,
  config_pending,
  wake_pending,
  power_client_pending,
}
use Rattle.rf233.specs.Interrupt.{handle_interrupt, rx_start, trx_end, interrupt_state}
use Rattle.rf233.specs.Line.{line, some}
use Rattle.rf233.specs.Reception.{frame_read_over}
use Rattle.rf233.specs.State.{state_no}
use Rattle.rf233.specs.Step.{transition_read}
use Rattle.rf233.specs.declared.answer.Outcome.{Outcome}
use Rattle.rf233.specs.declared.arrived.Arrived.{Arrived}
use Rattle.rf233.specs.declared.driver.Buffers.{Buffers}
use Rattle.rf233.specs.declared.driver.Driver.{Driver}
use Rattle.rf233.specs.declared.driver.Under.{Under}
use Rattle.rf233.specs.declared.driver.Under.TheVariants.{Idle, Register, FrameRead, FrameWrite, Waits}
use Rattle.rf233.specs.declared.state.InternalState.{InternalState}
use Rattle.rf233.specs.declared.state.InternalState.TheVariants.{READY, TX_STATUS_PRECHECK1}
use Rattle.rf233.specs.declared.state.InternalState.TheVariants as state

-- waiting commit: in READY it starts, and READY's own case is not taken in that step (request 2026-02)
unfoldable pub waiting_commit : Arrived → Driver → Outcome
waiting_commit a d = pick (flag config_pending d.flags && in_no 29 d) (start_commit d) (own_case a d)

-- a pending interrupt is put off in 60, 62, 66 and 67
abbrev pub puts_off : ℕ → Bool
puts_off n = one_of (60 ∷ 62 ∷ 66 ∷ 67 ∷ []) n

-- pending interrupt: elsewhere it is handled, and the step ends there
unfoldable pub pending_interrupt : Arrived → Driver → Outcome
pending_interrupt a d =
    pick (flag interrupt_pending d.flags && not (puts_off (state_no d.state)))
    (handle_interrupt (flagged interrupt_pending false d))
    (waiting_commit a d)

-- the radio is on and nothing waits to wake it; if it was off, the power listener is to be told
abbrev pub now_on : Driver → Driver
now_on d =
    let told = not (flag radio_on d.flags) || flag power_client_pending d.flags in
    assigning 0 (put wake_pending false ∷ put power_client_pending told ∷ put radio_on true ∷ []) d

-- READY bookkeeping
unfoldable pub ready_bookkeeping : Arrived → Driver → Outcome
ready_bookkeeping a d = pick (in_no 29 d) (pending_interrupt a (now_on d)) (pending_interrupt a d)

-- the end of a frame that was being received: it is read out, or what waits is sent, or the driver waits; a read that is started here
-- ends the step
unfoldable pub frame_end : Arrived → Driver → Outcome
frame_end a d =
    let e = flagged receiving false d in
    pick (trx_end a && flag receiving d.flags)
    (pick (some (line d.buffers)) (ready_bookkeeping a (with_state state.RX_START_READING e))
    (pick (flag transmitting d.flags) (transition_read MIN TX_STATUS_PRECHECK1 e) (transition_read TRX_STATUS READY e)))
    (ready_bookkeeping a d)

-- interrupt result; SLEEP_TRX_OFF and SLEEP pass it over
unfoldable pub interrupt_result : Arrived → Driver → Outcome
interrupt_result a d =
    pick (one_of (30 ∷ 31 ∷ []) (state_no d.state)) (ready_bookkeeping a d)
    (frame_end a (flagged receiving (rx_start a || flag receiving d.flags) (with_state (interrupt_state a d.state) d)))

-- buffer return: own buffers to their own places, a frame write's other buffer to the transmit place, a frame read's to the front of the
-- line
abbrev pub places_back : Under → Buffers → Buffers
places_back Idle b = b
places_back Register b = with_registers true b
places_back (FrameRead x) b = with_line (x ∷ line b) (with_spi_buf true b)
places_back (FrameWrite x) b = with_tx (Some x) (with_spi_buf true b)
places_back (Waits o) b = b

-- the record with the buffers of the transfer under way back in their places, and u under way or waiting then
abbrev pub buffers_back : Under → Buffers → Buffers
buffers_back u b = with_under u (places_back b.under b)

-- the state once a frame transfer is over; while an interrupt is handled, the transfer was a register's
unfoldable pub frame_done : Bool → InternalState → InternalState
frame_done h s =
    pick h s
    (pick (eqb (state_no s) 34) state.TX_WRITING_FRAME_DONE
    (pick (eqb (state_no s) 63) state.RX_READING_FRAME_LEN_DONE (pick (eqb (state_no s) 65) state.RX_READING_FRAME_DONE s)))

-- the driver once the transfer is over: its buffers back, and no interrupt being handled
abbrev pub transfer_over : Driver → Driver
transfer_over d =
    flagged interrupt_handling false
    (with_state (frame_done (flag interrupt_handling d.flags) d.state)
    (with_buffers (buffers_back Idle d.buffers) d))

-- the driver with what a frame read brought of a reception (request 2026-13)
abbrev pub length_taken : Arrived → Driver → Driver
length_taken a d = with_reception (frame_read_over (state_no d.state) a.result d.reception) d

-- a completion, once its bytes have been copied
unfoldable pub completed : Arrived → Driver → Outcome
completed a d =
    let e = transfer_over (length_taken a d) in
    pick (flag interrupt_handling d.flags) (interrupt_result a e) (ready_bookkeeping a e)
