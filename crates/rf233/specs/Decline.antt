-- When the SPI layer declines a transfer (request 2026-05): its buffers return and it waits, and a resume offers it again.
use Rattle.std.specs.Prelude.{ℕ, ◌+◌, ◌-◌, ◌%◌, List, [], set}
use Rattle.rf233.specs.Action.{actions}
use Rattle.rf233.specs.Completion.{buffers_back}
use Rattle.rf233.specs.Driver.{with_buffers, with_under}
use Rattle.rf233.specs.Pool.{start_of}
use Rattle.rf233.specs.Record.{buffer_in}
use Rattle.rf233.specs.Starter.{refrains, command_kind, command_first, command_second, register_transfer, frame_read, frame_write}
use Rattle.rf233.specs.Step.{step_of}
use Rattle.rf233.specs.declared.answer.Outcome.{Outcome}
use Rattle.rf233.specs.declared.driver.Buffers.{Buffers}
use Rattle.rf233.specs.declared.driver.Driver.{Driver}
use Rattle.rf233.specs.declared.driver.Offer.TheVariants as offer
use Rattle.rf233.specs.declared.driver.Under.{Under}
use Rattle.rf233.specs.declared.driver.Under.TheVariants.{Idle, Register, FrameRead, FrameWrite, Waits}
use Rattle.rf233.specs.declared.starter.Started.{Started}

-- the transfer under way, once it waits: it names no client's buffer any more
abbrev pub waiting : Under → Under
waiting Idle = Idle
waiting Register = Waits offer.Register
waiting (FrameRead x) = Waits offer.FrameRead
waiting (FrameWrite x) = Waits offer.FrameWrite
waiting (Waits o) = Waits o

-- a decline: the buffers return to their places as at a completion, and the transfer waits; nothing else of the driver is altered
abbrev pub declines : Driver → Driver
declines d = with_buffers (buffers_back (waiting d.buffers.under) d.buffers) d

-- the starter of a transfer that waited, on the driver in which it waits no more: a register transfer by what the driver kept of it, a
-- frame read by the length of spi_buf that the first offer left, a frame write by the n that `transmit` left. A length that 12 does not
-- describe is below 256, so that the remainder alters none
abbrev pub again : Under → Driver → Started
again Idle d = refrains d
again Register d = refrains d
again (FrameRead x) d = refrains d
again (FrameWrite x) d = refrains d
again (Waits offer.Register) d =
    let c = d.buffers.command in register_transfer (command_kind c) (command_first c) (command_second c) d
again (Waits offer.FrameRead) d = frame_read ((d.buffers.spi_buf_len - 2) % 256) d
again (Waits offer.FrameWrite) d = frame_write d

-- the driver with no transfer waiting
abbrev pub waits_no_more : Driver → Driver
waits_no_more d = with_buffers (with_under Idle d.buffers) d

-- a resume: the transfer that waits is offered again
abbrev pub begun_again : Driver → Started
begun_again d = again d.buffers.under (waits_no_more d)

abbrev pub resumed : Driver → Outcome
resumed d = step_of (begun_again d) (actions [])

-- the pool with the n of a frame write that waits in byte 1 of its buffer, where `transmit` wrote it
abbrev pub length_again_of : Under → Buffers → List ℕ → List ℕ
length_again_of Idle b p = p
length_again_of Register b p = p
length_again_of (FrameRead x) b p = p
length_again_of (FrameWrite x) b p = p
length_again_of (Waits offer.Register) b p = p
length_again_of (Waits offer.FrameRead) b p = p
length_again_of (Waits offer.FrameWrite) b p = set p (start_of (buffer_in b.tx_buf) + 1) b.tx_len

abbrev pub length_again : Buffers → List ℕ → List ℕ
length_again b p = length_again_of b.under b p
