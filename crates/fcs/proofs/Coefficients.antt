-- The bits that are sent, and their polynomial: of bits that stand one behind the other, and of n bits of a number. The latter is below
-- 2 ^ n, it is linear for xor, and a move of the number by one place towards bit 0 doubles it.
-- Assumes nothing.
use mathlib.Core.Path.{◌≡◌, refl, sym, ap, ap₂, ◌∙◌, subst, subst₂}
use mathlib.Core.List.{List, [], ◌∷◌, ◌++◌, append_assoc, append-nil}
use Prim.Native.Nat.{ℕ, zero, suc, ◌+◌, ◌*◌, ◌/◌, ◌%◌, ◌^◌, ◌<◌}
use native.Mathlib.Nat.{mod-lt, pow-suc, add_assoc, add-mul, suc-add, mul_assoc, mul_comm, zero-add, zero-mul}
use native.Mathlib.Numerals.{one-add}
use native.Mathlib.Omega.{arith}
use lib.Arith.{digits_lt, lt-one}
use lib.Pow.{shr-shr}
use lib.Bits.{xor_block}
use lib.ListN.{length}
use Rattle.fcs.specs.Polynomial.{sent_bits, sent, polynomial}
use Rattle.fcs.proofs.Xor.{low_odd, low_half, ◌⊕◌, ⊕_shr, ⊕_mod, ⊕_shifted}
use Rattle.fcs.proofs.Turns.{Linear}

-- the two highest coefficients in one: the polynomial is the same number
pub carried : (m b : ℕ) (bs : List ℕ) → polynomial (m ∷ b ∷ bs) ≡ polynomial ((m * 2 + b) ∷ bs)
unfolding polynomial
carried m b bs =
    let x : ℕ = 2 ^ length bs in
    ap (λ (y : ℕ). m * y + (b * x + polynomial bs)) (pow-suc 2 (length bs) ∙ mul_comm x 2)
    ∙ ap (λ (y : ℕ). y + (b * x + polynomial bs)) (sym (mul_assoc m 2 x))
    ∙ sym (add_assoc (m * 2 * x) (b * x) (polynomial bs))
    ∙ ap (λ (y : ℕ). y + polynomial bs) (sym (add-mul (m * 2) b x))

pub alone : (m : ℕ) → polynomial (m ∷ []) ≡ m
unfolding polynomial
alone m = omega arith

-- bits behind bits: the first ones make the highest coefficient
pub joined : (m : ℕ) (cs bs : List ℕ) → polynomial (m ∷ cs ++ bs) ≡ polynomial (polynomial (m ∷ cs) ∷ bs)
joined m [] bs = ap (λ (x : ℕ). polynomial (x ∷ bs)) (sym (alone m))
joined m (c ∷ cs) bs =
    carried m c (cs ++ bs) ∙ joined (m * 2 + c) cs bs ∙ ap (λ (x : ℕ). polynomial (x ∷ bs)) (sym (carried m c cs))

pub leading_zero : (bs : List ℕ) → polynomial (0 ∷ bs) ≡ polynomial bs
unfolding polynomial
leading_zero bs = ap (λ (x : ℕ). x + polynomial bs) (zero-mul (2 ^ length bs)) ∙ zero-add (polynomial bs)

-- a number's bits in two parts, the m lowest first
sent_split : (m n r : ℕ) → sent_bits (m + n) r ≡ sent_bits m (r % 2 ^ m) ++ sent_bits n (r / 2 ^ m)
unfolding sent_bits
sent_split zero n r = ap₂ sent_bits (zero-add n) (omega arith)
sent_split (suc m) n r =
    let above : r / 2 / 2 ^ m ≡ r / 2 ^ suc m = shr-shr r 1 m ∙ ap (λ (k : ℕ). r / 2 ^ k) (one-add m) in
    ap (λ (k : ℕ). sent_bits k r) (suc-add m n)
    ∙ ap (λ (bs : List ℕ). r % 2 ∷ bs) (sent_split m n (r / 2))
    ∙ (λ i. sym (low_odd m r) i ∷ sent_bits m (sym (low_half m r) i) ++ sent_bits n (above i))

pub sent_append : (cs bs : List ℕ) → sent (cs ++ bs) ≡ sent cs ++ sent bs
unfolding sent
sent_append [] bs = refl
sent_append (c ∷ cs) bs =
    ap (λ (ds : List ℕ). sent_bits 8 c ++ ds) (sent_append cs bs) ∙ sym (append_assoc (sent_bits 8 c) (sent cs) (sent bs))

-- the two bytes of a register are its 16 bits
pub sent_register : (r : ℕ) → sent (r % 256 ∷ r / 256 ∷ []) ≡ sent_bits 16 r
unfolding sent
sent_register r =
    ap (λ (ds : List ℕ). sent_bits 8 (r % 256) ++ ds) (append-nil (sent_bits 8 (r / 256))) ∙ sym (sent_split 8 8 r)

sent_length : (n b : ℕ) → length (sent_bits n b) ≡ n
unfolding sent_bits
sent_length zero b = refl
sent_length (suc n) b = ap suc (sent_length n (b / 2))

-- n bits of a register as a polynomial: bit 0 is the highest coefficient
abbrev pub mirrored : ℕ → ℕ → ℕ
mirrored n r = polynomial (sent_bits n r)

pub mirrored_suc : (n r : ℕ) → mirrored (suc n) r ≡ r % 2 * 2 ^ n + mirrored n (r / 2)
unfolding sent_bits polynomial
mirrored_suc n r = ap (λ (k : ℕ). r % 2 * 2 ^ k + mirrored n (r / 2)) (sent_length n (r / 2))

pub mirrored_lt : (n r : ℕ) → mirrored n r < 2 ^ n
unfolding sent_bits polynomial
mirrored_lt zero r = omega arith
mirrored_lt (suc n) r =
    subst₂ (λ (x y : ℕ). x < y) (sym (mirrored_suc n r)) (mul_comm 2 (2 ^ n) ∙ sym (pow-suc 2 n))
    (digits_lt (mod-lt r (omega arith)) (mirrored_lt n (r / 2)))

pub mirrored_linear : (n : ℕ) → Linear (mirrored n)
unfolding sent_bits polynomial ◌⊕◌
mirrored_linear zero a b = refl
mirrored_linear (suc n) a b =
    mirrored_suc n (a ⊕ b)
    ∙ ap₂ (λ (x y : ℕ). x * 2 ^ n + mirrored n y) (⊕_mod a b 1) (⊕_shr a b 1)
    ∙ ap (λ (x : ℕ). (a % 2 ⊕ b % 2) * 2 ^ n + x) (mirrored_linear n (a / 2) (b / 2))
    ∙ sym (xor_block n (a % 2) (b % 2) (mirrored n (a / 2)) (mirrored n (b / 2)) (mirrored_lt n (a / 2)) (mirrored_lt n (b / 2)))
    ∙ sym (ap₂ ◌⊕◌ (mirrored_suc n a) (mirrored_suc n b))

-- a highest bit of 0 is a lowest coefficient of 0
pub mirrored_half : (n r : ℕ) → r < 2 ^ n → mirrored (suc n) r ≡ mirrored n r * 2
unfolding sent_bits polynomial
mirrored_half zero r h = ap (mirrored 1) (lt-one h)
mirrored_half (suc n) r h =
    let half : r / 2 < 2 ^ n = omega (arith, subst (λ (x : ℕ). r < x) (pow-suc 2 n) h) in
    mirrored_suc (suc n) r
    ∙ ap₂ (λ (x y : ℕ). r % 2 * x + y) (pow-suc 2 n) (mirrored_half n (r / 2) half)
    ∙ ap (λ (x : ℕ). x + mirrored n (r / 2) * 2) (sym (mul_assoc (r % 2) (2 ^ n) 2))
    ∙ sym (add-mul (r % 2 * 2 ^ n) (mirrored n (r / 2)) 2)
    ∙ ap (λ (x : ℕ). x * 2) (sym (mirrored_suc n r))

-- 16 bits behind others: a product with x^16, and a sum
pub followed : (bs : List ℕ) (r : ℕ) → polynomial (bs ++ sent_bits 16 r) ≡ polynomial bs * 2 ^ 16 ⊕ mirrored 16 r
unfolding polynomial
followed bs r =
    sym (leading_zero (bs ++ sent_bits 16 r))
    ∙ joined 0 bs (sent_bits 16 r)
    ∙ ap₂ (λ (m k : ℕ). m * 2 ^ k + mirrored 16 r) (leading_zero bs) (sent_length 16 r)
    ∙ sym (⊕_shifted (polynomial bs) 16 (mirrored 16 r) (mirrored_lt 16 r))
