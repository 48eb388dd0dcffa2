-- Registers that wider words stand for.
-- Assumes nothing.
use Rattle.std.specs.Prelude.{ℕ}
use Rattle.std.specs.Int.Bits.{bit_xor}
use Rattle.fcs.specs.Fcs.{bit_steps}

-- The register that a number of n bits stands for, once its bits have left it: n steps with no data.
unfoldable pub reduced : ℕ → ℕ → ℕ
reduced n x = bit_steps n x 0

-- The register that four words of 64 bits stand for, the first leaving it first.
unfoldable pub four : ℕ → ℕ → ℕ → ℕ → ℕ
four a b c d = reduced 64 (bit_xor (reduced 64 (bit_xor (reduced 64 (bit_xor (reduced 64 a) b)) c)) d)
