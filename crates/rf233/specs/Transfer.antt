-- A transfer as it goes out, and the three tests of the record: whether one may begin, whether there is one to complete, and whether one
-- waits to be offered again.
use Rattle.std.specs.Prelude.{ℕ, Bool, true, false, not, ◌||◌, Option, None, Some}
use Rattle.rf233.specs.declared.driver.Buffers.{Buffers}
use Rattle.rf233.specs.declared.driver.Under.{Under}
use Rattle.rf233.specs.declared.driver.Under.TheVariants.{Idle, Register, FrameRead, FrameWrite, Waits}
use Rattle.rf233.specs.declared.transfer.Transfer.{Transfer}
use Rattle.rf233.specs.declared.transfer.TransferKind.{TransferKind}
use Rattle.rf233.specs.declared.transfer.TransferKind.TheVariants as kind

-- document 01's number of a kind
abbrev pub kind_value : TransferKind → ℕ
kind_value kind.RegisterRead = 1
kind_value kind.RegisterWrite = 2
kind_value kind.FrameRead = 3
kind_value kind.FrameWrite = 4

-- the number of a call's transfer: 0 where there is none
abbrev pub kind_no : Option Transfer → ℕ
kind_no None = 0
kind_no (Some t) = kind_value t.kind

-- a transfer of a kind, from one buffer into another, by its first byte, its second (or n) and the two lengths
abbrev pub transfer_of : TransferKind → ℕ → ℕ → ℕ → ℕ → ℕ → ℕ → Transfer
transfer_of k w r first second wl rl =
    record { kind = k; write = w; read = r; first = first; second = second; write_len = wl; read_len = rl }

-- a transfer is under way
abbrev pub under_way : Under → Bool
under_way Idle = false
under_way Register = true
under_way (FrameRead x) = true
under_way (FrameWrite x) = true
under_way (Waits o) = false

-- a transfer waits, which the SPI layer declined
abbrev pub waits : Under → Bool
waits Idle = false
waits Register = false
waits (FrameRead x) = false
waits (FrameWrite x) = false
waits (Waits o) = true

-- a starter may begin a transfer: a waiting one counts as under way (request 2026-05)
abbrev pub free_to_start : Buffers → Bool
free_to_start b = not (under_way b.under || waits b.under)

-- there is a transfer for a completion to end, or for the SPI layer to decline
abbrev pub to_complete : Buffers → Bool
to_complete b = under_way b.under

-- there is a transfer for a resume to offer again
abbrev pub to_resume : Buffers → Bool
to_resume b = waits b.under
