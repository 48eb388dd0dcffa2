-- What the driver keeps of a reception over its reads (request 2026-13). The length is held from the length read over any detour; exactly
-- one that differs, in the frame read, spoils the reception.
use Rattle.std.specs.Prelude.{ℕ, Bool, not, eqb}
use Rattle.rf233.specs.Choice.{pick, within}
use Rattle.rf233.specs.declared.reception.Reception.{Reception}

-- the held length is a frame's: MIN_FRAME_SIZE to MAX_FRAME_SIZE (document 01: 11 and 127 are read out, 10 and 128 are not)
abbrev pub in_range : Reception → Bool
in_range e = within 11 127 e.length

-- the length read brought this byte: it is held
abbrev pub holding : ℕ → Reception → Reception
holding byte e = record e { length = byte }

-- the frame read brought this byte: the frame is spoiled if it is not the held length
abbrev pub compared : ℕ → Reception → Reception
compared byte e = record e { spoiled = not (eqb byte e.length) }

-- what is kept once the transfer of state n is over and brought this byte 1; the length read's state is 63, the frame read's 65
abbrev pub frame_read_over : ℕ → ℕ → Reception → Reception
frame_read_over n byte e = pick (eqb n 63) (holding byte e) (pick (eqb n 65) (compared byte e) e)
