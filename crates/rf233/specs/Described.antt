-- What refusal 12 describes of a driver value (document 01, "Who can cause which refusal"), clause by clause.
use Rattle.std.specs.Prelude.{ℕ, zero, suc, ◌+◌, Bool, false, not, ◌&&◌, ◌||◌, List, [], ◌∷◌, eqb, leb, ltb, length}
use Rattle.std.specs.Prelude.{Option, None, Some, is_some}
use Rattle.rf233.specs.Choice.{one_of, within}
use Rattle.rf233.specs.Line.{line_room, line, some, any_of, names}
use Rattle.rf233.specs.Record.{times, count_of, record_has, tx_under_way, rx_under_way, receive_count}
use Rattle.rf233.specs.Reception.{in_range}
use Rattle.rf233.specs.State.{state_no, state_frame}
use Rattle.rf233.specs.declared.driver.Buffers.{Buffers}
use Rattle.rf233.specs.declared.driver.Driver.{Driver}
use Rattle.rf233.specs.declared.driver.Lent.{Lent}
use Rattle.rf233.specs.declared.driver.Offer.TheVariants as offer
use Rattle.rf233.specs.declared.driver.Under.{Under}
use Rattle.rf233.specs.declared.reception.Reception.{Reception}
use Rattle.rf233.specs.declared.driver.Under.TheVariants.{Idle, Register, FrameRead, FrameWrite, Waits}

-- some buffer below n is recorded twice
abbrev pub twice_below : Buffers → ℕ → Bool
twice_below r zero = false
twice_below r (suc n) = twice_below r n || ltb 1 (count_of r n)

-- clause: a buffer of 0 to 18 recorded in two places
abbrev pub recorded_twice : Buffers → Bool
recorded_twice r = twice_below r 19

-- clause: an own buffer recorded in none
abbrev pub own_nowhere : Buffers → Bool
own_nowhere r = not (record_has r 16) || (not (record_has r 17) || not (record_has r 18))

-- a buffer above 15
abbrev pub is_above : Lent → Bool
is_above x = ltb 15 x.buffer

-- a place that names one
abbrev pub slot_above : Option Lent → Bool
slot_above None = false
slot_above (Some x) = is_above x

-- the client's side of a frame transfer, as a place
abbrev pub under_slot : Under → Option Lent
under_slot Idle = None
under_slot Register = None
under_slot (FrameRead x) = Some x
under_slot (FrameWrite x) = Some x
under_slot (Waits o) = None

-- clause: a client's place, or the line, that names a buffer above 15
abbrev pub client_above : Buffers → Bool
client_above r = slot_above r.tx_buf || (any_of is_above (line r) || slot_above (under_slot r.under))

-- a transmit buffer, with this n, whose length is out of bounds: n 2 to 127 and the buffer's length n + 3 to 160
abbrev pub tx_length_bad : Option Lent → ℕ → Bool
tx_length_bad None n = false
tx_length_bad (Some x) n = not (within 2 127 n && within (n + 3) 160 x.length)

-- a receive buffer's length out of bounds: 129 to 160
abbrev pub receive_length_bad : Lent → Bool
receive_length_bad x = not (within 129 160 x.length)

-- the receive buffer under way, likewise
abbrev pub rx_length_bad : Option Lent → Bool
rx_length_bad None = false
rx_length_bad (Some x) = receive_length_bad x

-- clause: a length out of bounds. Of spi_buf 129 to 160, and its present length 2 to that; of a transmit buffer and each receive buffer,
-- held or under way. A frame transfer's own two lengths are these very values, so nothing more is to be asked of them.
abbrev pub length_bad : Buffers → Bool
length_bad r =
    not (within 129 160 r.spi_buf_whole)
    || (not (within 2 r.spi_buf_whole r.spi_buf_len)
    || (tx_length_bad r.tx_buf r.tx_len
    || (tx_length_bad (tx_under_way r.under) r.tx_len || (any_of receive_length_bad (line r) || rx_length_bad (rx_under_way r.under)))))

-- clause: a transmit buffer held while another is under way in a frame write
abbrev pub held_besides : Buffers → Bool
held_besides r = is_some r.tx_buf && is_some (tx_under_way r.under)

-- clause: more receive buffers than there is place for, the one under way counted
abbrev pub crowded : Buffers → Bool
crowded r = ltb line_room (receive_count r)

-- no frame transfer, a frame read, a frame write; one that waits counts as under way
abbrev pub frame_no : Under → ℕ
frame_no Idle = 0
frame_no Register = 0
frame_no (FrameRead x) = 1
frame_no (FrameWrite x) = 2
frame_no (Waits offer.Register) = 0
frame_no (Waits offer.FrameRead) = 1
frame_no (Waits offer.FrameWrite) = 2

-- clause: a frame transfer that is not of the kind the state names, or with interrupt handling set; or such a state without its transfer
abbrev pub frame_unfit : Under → ℕ → Bool → Bool
frame_unfit u n handling = not (eqb (frame_no u) (state_frame n)) || (ltb 0 (frame_no u) && handling)

-- clause: 33 or 43 without a transmit buffer held; 62, 64 or 68 with an empty line
abbrev pub buffer_missing : Buffers → ℕ → Bool
buffer_missing r n =
    (one_of (33 ∷ 43 ∷ []) n && not (is_some r.tx_buf)) || (one_of (62 ∷ 64 ∷ 68 ∷ []) n && not (some (line r)))

-- clause (request 2026-13): 65 to 68 with a held length that is no frame's
abbrev pub held_length_bad : Reception → ℕ → Bool
held_length_bad e n = within 65 68 n && not (in_range e)

-- clause (request 2026-05): a transfer that waits without its buffers in their places, 16 and 17 or 18 and the client's
abbrev pub unplaced : Under → Buffers → Bool
unplaced Idle r = false
unplaced Register r = false
unplaced (FrameRead x) r = false
unplaced (FrameWrite x) r = false
unplaced (Waits offer.Register) r = not r.spi_tx || not r.spi_rx
unplaced (Waits offer.FrameRead) r = not r.spi_buf || not (some (line r))
unplaced (Waits offer.FrameWrite) r = not r.spi_buf || not (is_some r.tx_buf)

-- a driver value that refusal 12 describes
unfoldable pub described : Driver → Bool
described d =
    let r = d.buffers in
    let n = state_no d.state in
    recorded_twice r || (own_nowhere r || (client_above r || (length_bad r || (held_besides r || (crowded r
    || (frame_unfit r.under n d.flags.interrupt_handling || (buffer_missing r n
    || (held_length_bad d.reception n || unplaced r.under r))))))))

-- The parts in which `is_described` asks this, place by place: `described` is made of them (`regrouped` in proofs/Regrouped.antt).

-- the buffer that a place names, as a list of none or one
abbrev pub named_in : Option Lent → List ℕ
named_in None = []
named_in (Some x) = x.buffer ∷ []

-- two lists name the same buffer
abbrev pub meets : List ℕ → List ℕ → Bool
meets [] m = false
meets (c ∷ l) m = ltb 0 (times c m) || meets l m

-- a list names a buffer again
abbrev pub repeats : List ℕ → Bool
repeats [] = false
repeats (c ∷ l) = ltb 0 (times c l) || repeats l

-- a receive buffer that is no client's, or with a length out of bounds
abbrev pub receive_bad : Lent → Bool
receive_bad x = is_above x || receive_length_bad x

-- of the line: a buffer that is no client's, or with a length out of bounds, or twice in it, or to transmit too
abbrev pub line_bad : List Lent → Option Lent → Bool
line_bad l tx = any_of receive_bad l || (repeats (names l) || meets (named_in tx) (names l))

-- an own buffer in its own place while the transfer has it, or out of it while it does not
abbrev pub own_wrong : Under → Buffers → Bool
own_wrong Idle r = not r.spi_tx || (not r.spi_rx || not r.spi_buf)
own_wrong Register r = r.spi_tx || (r.spi_rx || not r.spi_buf)
own_wrong (FrameRead x) r = r.spi_buf || (not r.spi_tx || not r.spi_rx)
own_wrong (FrameWrite x) r = r.spi_buf || (not r.spi_tx || not r.spi_rx)
own_wrong (Waits o) r = not r.spi_tx || (not r.spi_rx || not r.spi_buf)

-- of a frame transfer, the own buffers and the state apart: interrupt handling set; no place for its client's buffer to come back to; that
-- buffer not a client's, with a length out of bounds, or held in another place too
abbrev pub frame_bad : Under → Option Lent → List Lent → ℕ → Bool → Bool
frame_bad Idle tx l n handling = false
frame_bad Register tx l n handling = false
frame_bad (FrameRead x) tx l n handling =
    let held = meets (named_in tx) (x.buffer ∷ []) || meets (names l) (x.buffer ∷ []) in
    handling || (leb line_room (length l) || (receive_bad x || held))
frame_bad (FrameWrite x) tx l n handling =
    handling || (is_some tx || ((is_above x || tx_length_bad (Some x) n) || meets (names l) (x.buffer ∷ [])))
frame_bad (Waits o) tx l n handling = ltb 0 (frame_no (Waits o)) && handling

-- all of it: the two lengths of spi_buf, each place, the transfer under way or waiting, the state
abbrev pub by_place : Driver → Bool
by_place d =
    let r = d.buffers in
    let n = state_no d.state in
    not (within 129 160 r.spi_buf_whole) || (not (within 2 r.spi_buf_whole r.spi_buf_len)
    || ((slot_above r.tx_buf || tx_length_bad r.tx_buf r.tx_len) || (line_bad (line r) r.tx_buf
    || (((own_wrong r.under r || frame_bad r.under r.tx_buf (line r) r.tx_len d.flags.interrupt_handling) || unplaced r.under r)
    || (not (eqb (frame_no r.under) (state_frame n)) || (buffer_missing r n || held_length_bad d.reception n))))))
