-- The kind and the buffers of the transfer under way and of the one that waits, as the agreement of Match.antt goes by them. Assumes
-- nothing.
use Rattle.std.specs.Prelude.{ℕ, cond, ◌==◌}
use Rattle.rf233.specs.declared.driver.Offer.TheVariants as offer
use Rattle.rf233.specs.declared.driver.Under.{Under}
use Rattle.rf233.specs.declared.driver.Under.TheVariants.{Idle, Register, FrameRead, FrameWrite, Waits}

-- a kind without the direction of a register transfer
abbrev pub kind_of : ℕ → ℕ
kind_of k = cond (k == 2) 1 k

-- the kind of the transfer under way
abbrev pub under_kind : Under → ℕ
under_kind Idle = 0
under_kind Register = 1
under_kind (FrameRead x) = 3
under_kind (FrameWrite x) = 4
under_kind (Waits o) = 0

-- the buffer that it sends
abbrev pub under_write : Under → ℕ
under_write Idle = 0
under_write Register = 16
under_write (FrameRead x) = 18
under_write (FrameWrite x) = x.buffer
under_write (Waits o) = 0

-- the buffer that it reads into
abbrev pub under_read : Under → ℕ
under_read Idle = 0
under_read Register = 17
under_read (FrameRead x) = x.buffer
under_read (FrameWrite x) = 18
under_read (Waits o) = 0

-- the kind of the transfer that waits
abbrev pub waiting_kind : Under → ℕ
waiting_kind Idle = 0
waiting_kind Register = 0
waiting_kind (FrameRead x) = 0
waiting_kind (FrameWrite x) = 0
waiting_kind (Waits offer.Register) = 1
waiting_kind (Waits offer.FrameRead) = 3
waiting_kind (Waits offer.FrameWrite) = 4
