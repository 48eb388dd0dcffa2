-- The Rust's `RadioData`: what a frame to send and a buffer to receive into yield. The order of refusals is document 01's.
use Rattle.std.specs.Prelude.{ℕ, ◌+◌, Bool, true, not, ◌&&◌, ◌||◌, List, [], leb, ltb, set, Some, is_some}
use Rattle.rf233_const.specs.declared.register.RF233Register.TheVariants.{TRX_STATUS}
use Rattle.rf233.specs.Action.{actions}
use Rattle.rf233.specs.Step.{quiet, transition_read}
use Rattle.rf233.specs.Answer.{refused}
use Rattle.rf233.specs.Choice.{pick}
use Rattle.rf233.specs.Driver.{flag, flagged, with_buffers, with_tx, with_line, with_tx_len, in_no}
use Rattle.rf233.specs.Driver.Flag.{radio_on, transmitting, receiving}
use Rattle.rf233.specs.Guard.{Called, refusing, stepping, guarded}
use Rattle.rf233.specs.Line.{line_room, line, append}
use Rattle.rf233.specs.Pool.{start_of}
use Rattle.rf233.specs.Record.{lent, record_has, tx_under_way, receive_count}
use Rattle.rf233.specs.declared.answer.Outcome.{Outcome}
use Rattle.rf233.specs.declared.driver.Driver.{Driver}
use Rattle.rf233.specs.declared.state.InternalState.TheVariants.{TX_STATUS_PRECHECK1}

-- refusal 7: a buffer that is no client's, or longer than a buffer of the pool
abbrev pub handle_bad : ℕ → ℕ → Bool
handle_bad b l = ltb 15 b || ltb 160 l

-- refusal 2: a transmit buffer is held or under way, or the driver is transmitting
abbrev pub tx_busy : Driver → Bool
tx_busy d = is_some d.buffers.tx_buf || (is_some (tx_under_way d.buffers.under) || flag transmitting d.flags)

-- refusal 10: the driver has four receive buffers, in the line or under way
abbrev pub rx_full : Driver → Bool
rx_full d = leb line_room (receive_count d.buffers)

-- `transmit` of n bytes in buffer b of length l, once nothing stands against it: in READY, while nothing is being received, the send
-- begins at once
unfoldable pub begin_transmit : Driver → ℕ → ℕ → ℕ → Outcome
begin_transmit d b l n =
    let e = flagged transmitting true (with_buffers (with_tx_len (n + 2) (with_tx (Some (lent b l)) d.buffers)) d) in
    pick (not (flag receiving d.flags) && in_no 29 d) (transition_read TRX_STATUS TX_STATUS_PRECHECK1 e)
    (quiet e (actions []))

-- its refusals in order: 12, 7, 1, 2, 3, 4, 8; it writes byte 1 of the buffer
unfoldable pub transmit_call : Driver → ℕ → ℕ → ℕ → List ℕ → Called
transmit_call d b l n p =
    guarded d p
    (pick (handle_bad b l) (refusing 7 d p)
    (pick (not (flag radio_on d.flags)) (refusing 1 d p)
    (pick (tx_busy d) (refusing 2 d p)
    (pick (leb l (n + 4)) (refusing 3 d p)
    (pick (ltb 125 n) (refusing 4 d p)
    (pick (record_has d.buffers b) (refusing 8 d p)
    (stepping (begin_transmit d b l n) (set p (start_of b + 1) (n + 2)))))))))

-- the receive buffer's refusals in order: 7, 9, 10, 8; it goes to the end of the line
unfoldable pub receive_buffer_call : Driver → ℕ → ℕ → Outcome
receive_buffer_call d b l =
    pick (handle_bad b l) (refused 7 d)
    (pick (ltb l 129) (refused 9 d)
    (pick (rx_full d) (refused 10 d)
    (pick (record_has d.buffers b) (refused 8 d)
    (quiet (with_buffers (with_line (append (line d.buffers) (lent b l)) d.buffers) d) (actions [])))))
