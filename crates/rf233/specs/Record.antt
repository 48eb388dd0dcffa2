-- The driver's record of its buffers: what each place has, and at how many places a buffer is.
use Rattle.std.specs.Prelude.{ℕ, ◌+◌, Bool, true, false, ◌&&◌, ◌||◌, List, [], ◌∷◌, eqb, ltb, length, Option, None, Some, is_some}
use Rattle.rf233.specs.Line.{line, names}
use Rattle.rf233.specs.declared.driver.Buffers.{Buffers}
use Rattle.rf233.specs.declared.driver.Lent.{Lent}
use Rattle.rf233.specs.declared.driver.Under.{Under}
use Rattle.rf233.specs.declared.driver.Under.TheVariants.{Idle, Register, FrameRead, FrameWrite, Waits}

-- buffer b, lent at length l
abbrev pub lent : ℕ → ℕ → Lent
lent b l = record { buffer = b; length = l }

-- the buffer in a place. Where the Rust says `unwrap` the place is full: for every driver value that 12 does not describe the row that is
-- carried out finds it so (`unwrap_holds` in proofs/FullPlace.antt), and no notice names the 0 of an empty place
abbrev pub buffer_in : Option Lent → ℕ
buffer_in None = 0
buffer_in (Some x) = x.buffer

-- the place has buffer b
abbrev pub slot_has : Option Lent → ℕ → Bool
slot_has None b = false
slot_has (Some x) b = eqb x.buffer b

-- the transfer under way has buffer b: of a register transfer 16 and 17, of a frame transfer 18 and the client's; one that waits has none
abbrev pub under_has : Under → ℕ → Bool
under_has Idle b = false
under_has Register b = eqb 16 b || eqb 17 b
under_has (FrameRead x) b = eqb 18 b || eqb x.buffer b
under_has (FrameWrite x) b = eqb 18 b || eqb x.buffer b
under_has (Waits o) b = false

-- b is an own buffer, in its own place
abbrev pub own_has : Buffers → ℕ → Bool
own_has r b = (r.spi_tx && eqb 16 b) || ((r.spi_rx && eqb 17 b) || (r.spi_buf && eqb 18 b))

-- 1 where the test holds
abbrev pub one : Bool → ℕ
one true = 1
one false = 0

-- how often a list names buffer b
abbrev pub times : ℕ → List ℕ → ℕ
times b [] = 0
times b (c ∷ l) = one (eqb c b) + times b l

-- at how many places the record has buffer b: its own, transmit, the line's, the transfer under way
unfoldable pub count_of : Buffers → ℕ → ℕ
count_of r b = one (own_has r b) + one (slot_has r.tx_buf b) + times b (names (line r)) + one (under_has r.under b)

-- the driver has buffer b
abbrev pub record_has : Buffers → ℕ → Bool
record_has r b = ltb 0 (count_of r b)

-- the transmit buffer under way, as a place
abbrev pub tx_under_way : Under → Option Lent
tx_under_way Idle = None
tx_under_way Register = None
tx_under_way (FrameRead x) = None
tx_under_way (FrameWrite x) = Some x
tx_under_way (Waits o) = None

-- the receive buffer under way, as a place
abbrev pub rx_under_way : Under → Option Lent
rx_under_way Idle = None
rx_under_way Register = None
rx_under_way (FrameRead x) = Some x
rx_under_way (FrameWrite x) = None
rx_under_way (Waits o) = None

-- how many receive buffers the driver has: those in the line and the one under way
abbrev pub receive_count : Buffers → ℕ
receive_count r = length (line r) + one (is_some (rx_under_way r.under))
