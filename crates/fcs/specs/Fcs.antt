-- The frame check sequence (FCS) of IEEE 802.15.4, bit by bit: a register that starts at 0 and takes bit 0 of each byte first. Its bits are
-- those of the remainder modulo x^16 + x^12 + x^5 + 1 (`check_is_remainder`, stated in `Polynomial`).
-- Assumes nothing.
use Rattle.std.specs.Prelude.{ℕ, zero, suc, ◌*◌, ◌/◌, ◌%◌, List, [], ◌∷◌}
use Rattle.std.specs.Int.Bits.{bit_xor, differ}

-- The generator without its x^16. Bit 0 of the register stands for x^15 and bit 15 for 1, as bit 0 of a byte goes first: x^12 is bit 3,
-- x^5 bit 10, 1 bit 15.
abbrev pub generator : ℕ
generator = 0x8408

-- One data bit: the register moves one place towards bit 0; where the bit that leaves it differs from the data bit, the generator is taken
-- away (xor).
unfoldable pub bit_step : ℕ → ℕ → ℕ
bit_step r d = bit_xor (r / 2) (differ (r % 2) d * generator)

-- The n lowest bits of a byte, bit 0 first.
unfoldable pub bit_steps : ℕ → ℕ → ℕ → ℕ
bit_steps zero r b = r
bit_steps (suc n) r b = bit_steps n (bit_step r (b % 2)) (b / 2)

-- One byte: its eight bits.
unfoldable pub byte_step : ℕ → ℕ → ℕ
byte_step r b = bit_steps 8 r b

-- The bytes of a list, in their order, from the register r.
unfoldable pub fcs_from : ℕ → List ℕ → ℕ
fcs_from r [] = r
fcs_from r (b ∷ bs) = fcs_from (byte_step r b) bs

-- The check of a list of bytes: the register after all of them, from 0.
unfoldable pub fcs_of : List ℕ → ℕ
fcs_of bs = fcs_from 0 bs
