-- The starters of document 01's four transfers: what each sends, its lengths, the buffers that it takes, and its answer: that it began, or
-- found a transfer under way, or one waiting (request 2026-05). One that lacks a buffer, which 12 describes, answers as if one were under
-- way.
use Rattle.std.specs.Prelude.{ℕ, ◌+◌, false, ◌&&◌, Option, None, Some}
use Rattle.rf233_const.specs.Command as command
use Rattle.rf233_const.specs.Register.{register_address}
use Rattle.rf233_const.specs.declared.register.RF233Register.{RF233Register}
use Rattle.rf233.specs.Choice.{pick}
use Rattle.rf233.specs.Driver.{with_buffers, with_registers, with_spi_buf, with_spi_buf_len, with_tx, with_line, with_under, with_command}
use Rattle.rf233.specs.Line.{line, front, behind}
use Rattle.rf233.specs.Transfer.{transfer_of, free_to_start}
use Rattle.rf233.specs.declared.driver.Buffers.{Buffers}
use Rattle.rf233.specs.declared.driver.Command.{Command}
use Rattle.rf233.specs.declared.driver.Command.TheVariants as kept
use Rattle.rf233.specs.declared.driver.Driver.{Driver}
use Rattle.rf233.specs.declared.driver.Lent.{Lent}
use Rattle.rf233.specs.declared.driver.Under.{Under}
use Rattle.rf233.specs.declared.driver.Under.TheVariants.{Idle, Register, FrameRead, FrameWrite, Waits}
use Rattle.rf233.specs.declared.starter.Started.{Started}
use Rattle.rf233.specs.declared.starter.StarterAnswer.{StarterAnswer}
use Rattle.rf233.specs.declared.starter.StarterAnswer.TheVariants.{Began, UnderWay, Waiting}
use Rattle.rf233.specs.declared.transfer.Transfer.{Transfer}
use Rattle.rf233.specs.declared.transfer.TransferKind.{TransferKind}
use Rattle.rf233.specs.declared.transfer.TransferKind.TheVariants as kind

-- the record once a transfer has taken its buffers: 16 and 17, or 18 and the one at the front of the line or in the transmit place
abbrev pub buffers_away : Under → Buffers → Buffers
buffers_away Idle b = b
buffers_away Register b = with_under Register (with_registers false b)
buffers_away (FrameRead x) b = with_under (FrameRead x) (with_line (behind (line b)) (with_spi_buf false b))
buffers_away (FrameWrite x) b = with_under (FrameWrite x) (with_tx None (with_spi_buf false b))
buffers_away (Waits o) b = b

-- what a starter found that does not begin
abbrev pub found : Under → StarterAnswer
found Idle = UnderWay
found Register = UnderWay
found (FrameRead x) = UnderWay
found (FrameWrite x) = UnderWay
found (Waits o) = Waiting

-- a transfer is under way or waits, and nothing begins
abbrev pub refrains : Driver → Started
refrains d = record { answer = found d.buffers.under; driver = d }

-- a transfer begins, and the record is then b
abbrev pub begins : Transfer → Buffers → Driver → Started
begins t b d = record { answer = Began t; driver = with_buffers b d }

-- the transfer that goes out by a starter's answer: the one that began; where one was found under way, or waiting, none
abbrev pub begun : StarterAnswer → Option Transfer
begun (Began t) = Some t
begun UnderWay = None
begun Waiting = None

-- what the driver keeps of a register transfer: whether it reads or writes, and its two bytes
abbrev pub command_of : TransferKind → ℕ → ℕ → Command
command_of kind.RegisterRead first second = kept.Read first second
command_of kind.RegisterWrite first second = kept.Write first second
command_of kind.FrameRead first second = kept.Read first second
command_of kind.FrameWrite first second = kept.Read first second

-- the kind of the register transfer that the driver keeps, and its two bytes
abbrev pub command_kind : Command → TransferKind
command_kind (kept.Read first second) = kind.RegisterRead
command_kind (kept.Write first second) = kind.RegisterWrite

abbrev pub command_first : Command → ℕ
command_first (kept.Read first second) = first
command_first (kept.Write first second) = first

abbrev pub command_second : Command → ℕ
command_second (kept.Read first second) = second
command_second (kept.Write first second) = second

-- a register transfer: two bytes from buffer 16, two into buffer 17; the driver keeps the two
unfoldable pub register_transfer : TransferKind → ℕ → ℕ → Driver → Started
register_transfer k first second d =
    let b = d.buffers in
    pick ((free_to_start b && b.spi_tx) && b.spi_rx)
    (begins (transfer_of k 16 17 first second 2 2) (with_command (command_of k first second) (buffers_away Register b)) d)
    (refrains d)

-- register read: 0x80 + register, 0
abbrev pub register_read : RF233Register → Driver → Started
register_read reg d = register_transfer kind.RegisterRead (command.register_read (register_address reg)) 0 d

-- register write: 0xC0 + register, value
abbrev pub register_write : RF233Register → ℕ → Driver → Started
register_write reg v d = register_transfer kind.RegisterWrite (command.register_write (register_address reg)) v d

-- frame read of n into this buffer, which there is where a row asks for it (`unwrap_holds` in proofs/FullPlace.antt): 0x20 and whatever
-- stands in buffer 18, 2 + n bytes, the length that 18 then has; into that buffer, at its own length
unfoldable pub frame_read_into : Option Lent → ℕ → Driver → Started
frame_read_into None n d = refrains d
frame_read_into (Some x) n d =
    let b = d.buffers in
    pick (free_to_start b && b.spi_buf)
    (begins (transfer_of kind.FrameRead 18 x.buffer command.frame_read n (n + 2) x.length)
    (with_spi_buf_len (n + 2) (buffers_away (FrameRead x) b)) d)
    (refrains d)

-- frame read of n, into the buffer at the front of the line
abbrev pub frame_read : ℕ → Driver → Started
frame_read n d = frame_read_into (front (line d.buffers)) n d

-- frame write of n from this place, likewise full: 0x60, n and the frame from the buffer there, 2 + n bytes; into buffer 18, at the length
-- that it has
unfoldable pub frame_write_from : Option Lent → Driver → Started
frame_write_from None d = refrains d
frame_write_from (Some x) d =
    let b = d.buffers in
    let n = b.tx_len in
    pick (free_to_start b && b.spi_buf)
    (begins (transfer_of kind.FrameWrite x.buffer 18 command.frame_write n (n + 2) b.spi_buf_len) (buffers_away (FrameWrite x) b) d)
    (refrains d)

-- frame write of the transmit buffer
abbrev pub frame_write : Driver → Started
frame_write d = frame_write_from d.buffers.tx_buf d
