-- The check in the words of IEEE 802.15.4: the bits of a message are the coefficients of a polynomial over GF(2), and the bits of its check
-- are those of the remainder of this polynomial times x^16, divided by x^16 + x^12 + x^5 + 1.
-- A polynomial is a number here: its bit i is the coefficient of x^i. So a sum is a xor, a product with x^k is one with 2^k, and a degree
-- below k is a number below 2^k.
-- Assumes nothing.
use Rattle.std.specs.Prelude.{◌≡◌, ℕ, zero, suc, ◌+◌, ◌*◌, ◌/◌, ◌%◌, ◌^◌, ◌<◌, List, [], ◌∷◌, ◌++◌, length}
use Rattle.std.specs.Int.Bits.{bit_xor}
use Rattle.fcs.specs.Fcs.{fcs_of}

-- The generator, by which the message is divided. (`Fcs.generator` is the same without x^16, as a register has it.)
abbrev pub divisor : ℕ
divisor = 2 ^ 16 + 2 ^ 12 + 2 ^ 5 + 1

-- The n lowest terms of a, times b. As a = a₀ + x·a', this is a₀·b + x·(a'·b).
unfoldable pub low_times : ℕ → ℕ → ℕ → ℕ
low_times zero a b = 0
low_times (suc n) a b = bit_xor (a % 2 * b) (low_times n (a / 2) b * 2)

-- The product of two polynomials. A number a has no more than a bits, so no term is left out.
unfoldable pub times : ℕ → ℕ → ℕ
times a b = low_times a a b

-- r is the remainder of m: m is the sum of a multiple of the generator and of r, and r has a lower degree than the generator.
pub record Remainder (m r : ℕ) : Type 0 where
  pub quotient : ℕ
  pub division : m ≡ bit_xor (times quotient divisor) r
  pub degree : r < 2 ^ 16

-- There is one remainder at most.
abbrev pub OneRemainder : Type 0
OneRemainder = (m r s : ℕ) → Remainder m r → Remainder m s → r ≡ s

-- The n lowest bits of a number in the order in which they are sent: bit 0 first.
unfoldable pub sent_bits : ℕ → ℕ → List ℕ
sent_bits zero b = []
sent_bits (suc n) b = b % 2 ∷ sent_bits n (b / 2)

-- The bits of a list of bytes in the order in which they are sent.
unfoldable pub sent : List ℕ → List ℕ
sent [] = []
sent (b ∷ bs) = sent_bits 8 b ++ sent bs

-- The polynomial of k bits, b₀ x^(k-1) + b₁ x^(k-2) + … : the bit that is sent first is the highest coefficient.
unfoldable pub polynomial : List ℕ → ℕ
polynomial [] = 0
polynomial (b ∷ bs) = b * 2 ^ length bs + polynomial bs

-- Whatever the bytes, the 16 bits of their check, in the order in which they are sent, are the remainder of their polynomial times x^16.
abbrev pub CheckIsRemainder : Type 0
CheckIsRemainder = (bs : List ℕ) → Remainder (polynomial (sent bs) * 2 ^ 16) (polynomial (sent_bits 16 (fcs_of bs)))

-- A list with its check behind it, low byte first, is a multiple of the generator: its remainder is 0.
abbrev pub GeneratorDivides : Type 0
GeneratorDivides = (bs : List ℕ) → Remainder (polynomial (sent (bs ++ fcs_of bs % 256 ∷ fcs_of bs / 256 ∷ []))) 0

-- The standard's example, an acknowledgement: its three bytes and their bits as they are sent, its check (the bytes E4 79) and the bits of
-- that. And a product: x + 1 times x^2 + x + 1 is x^3 + 1.
pub record Example : Type 0 where
  pub message : sent (0x02 ∷ 0x00 ∷ 0x6a ∷ [])
      ≡ 0 ∷ 1 ∷ 0 ∷ 0 ∷ 0 ∷ 0 ∷ 0 ∷ 0 ∷ 0 ∷ 0 ∷ 0 ∷ 0 ∷ 0 ∷ 0 ∷ 0 ∷ 0 ∷ 0 ∷ 1 ∷ 0 ∷ 1 ∷ 0 ∷ 1 ∷ 1 ∷ 0 ∷ []
  pub check : fcs_of (0x02 ∷ 0x00 ∷ 0x6a ∷ []) ≡ 0x79e4
  pub bits : sent_bits 16 0x79e4 ≡ 0 ∷ 0 ∷ 1 ∷ 0 ∷ 0 ∷ 1 ∷ 1 ∷ 1 ∷ 1 ∷ 0 ∷ 0 ∷ 1 ∷ 1 ∷ 1 ∷ 1 ∷ 0 ∷ []
  pub product : times 3 7 ≡ 9
