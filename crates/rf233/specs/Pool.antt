-- The pool: 3,040 lent bytes, 19 buffers of 160, of which buffer b begins at byte 160 times b (document 01). What a transfer writes into
-- it, and what a completion copies into it.
use Rattle.std.specs.Prelude.{ℕ, ◌+◌, ◌*◌, min, List, ◌++◌, ltb, length, set, take, drop, Option, None, Some}
use Rattle.rf233.specs.Choice.{pick}
use Rattle.rf233.specs.Transfer.{kind_value}
use Rattle.rf233.specs.declared.driver.Buffers.{Buffers}
use Rattle.rf233.specs.declared.driver.Under.{Under}
use Rattle.rf233.specs.declared.driver.Under.TheVariants.{Idle, Register, FrameRead, FrameWrite, Waits}
use Rattle.rf233.specs.declared.transfer.Transfer.{Transfer}

-- the pool's length
abbrev pub pool_length : ℕ
pool_length = 3040

-- where buffer b begins
abbrev pub start_of : ℕ → ℕ
start_of b = b * 160

-- the pool with the command bytes of a transfer: byte 0 of the buffer that is sent, and of a register transfer byte 1 too
unfoldable pub command_written : Option Transfer → List ℕ → List ℕ
command_written None p = p
command_written (Some t) p =
    pick (ltb (kind_value t.kind) 3) (set (set p (start_of t.write) t.first) (start_of t.write + 1) t.second)
    (set p (start_of t.write) t.first)

-- the pool with arrived bytes copied into the beginning of buffer b
abbrev pub copied : ℕ → List ℕ → List ℕ → List ℕ
copied b xs p = take (start_of b) p ++ (xs ++ drop (start_of b + length xs) p)

-- the buffer that the transfer under way reads into
abbrev pub read_buffer : Under → ℕ
read_buffer Idle = 17
read_buffer Register = 17
read_buffer (FrameRead x) = x.buffer
read_buffer (FrameWrite x) = 18
read_buffer (Waits o) = 17

-- the write length of the transfer under way, as document 01's table has it
abbrev pub write_length : Under → Buffers → ℕ
write_length Idle b = 0
write_length Register b = 2
write_length (FrameRead x) b = b.spi_buf_len
write_length (FrameWrite x) b = b.tx_len + 2
write_length (Waits o) b = 0

-- its read length
abbrev pub read_length : Under → Buffers → ℕ
read_length Idle b = 0
read_length Register b = 2
read_length (FrameRead x) b = x.length
read_length (FrameWrite x) b = b.spi_buf_len
read_length (Waits o) b = 0

-- the shorter of the two
abbrev pub shorter : Buffers → ℕ
shorter b = min (write_length b.under b) (read_length b.under b)
