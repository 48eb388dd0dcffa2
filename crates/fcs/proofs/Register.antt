-- The definition of the check in terms of turns: n data bits go into the register at once, by a xor, before n turns. From that: the
-- bound of the check, the check of a list in two parts, and of a list that grows by a byte.
-- Assumes nothing.
use mathlib.Core.Path.{◌≡◌, refl, sym, ap, ap₂, ◌∙◌, subst}
use mathlib.Core.List.{List, [], ◌∷◌, ◌++◌}
use Prim.Native.Nat.{ℕ, zero, suc, ◌*◌, ◌/◌, ◌%◌, ◌^◌, ◌<◌}
use native.Mathlib.Nat.{mod-lt, pow-suc, zero-mul}
use native.Mathlib.Omega.{arith}
use lib.Arith.{lt-one}
use lib.Pow.{pow_pos}
use lib.Bits.{differ}
use lib.ListN.{length, get_or, take, drop}
use lib.Seq.{take-suc}
use Rattle.std.proofs.lemmas.List.{drop-drop, take-append-drop}
use Rattle.std.specs.List.{fold}
use Rattle.std.specs.Simd.{first_chunks}
use Rattle.fcs.specs.Fcs.{generator, bit_step, bit_steps, byte_step, fcs_from, fcs_of}
use Rattle.fcs.specs.Word.{reduced}
use Rattle.fcs.proofs.Xor.{differ_lt, low_odd, low_half, ◌⊕◌, ⊕_assoc, ⊕_comm, ⊕_zero, ⊕_lt}
use Rattle.fcs.proofs.Turns.{turn, turns, turn_xor}

bit_step_lem : (r b : ℕ) → bit_step r (b % 2) ⊕ b / 2 ≡ turn (r ⊕ b)
unfolding bit_step ◌⊕◌
bit_step_lem r b =
    ap (λ (x : ℕ). x ⊕ b / 2) (⊕_comm (r / 2) (differ (r % 2) (b % 2) * generator))
    ∙ ⊕_assoc (differ (r % 2) (b % 2) * generator) (r / 2) (b / 2)
    ∙ sym (turn_xor r b)

pub bit_steps_lem : (n r b : ℕ) → b < 2 ^ n → bit_steps n r b ≡ turns n (r ⊕ b)
unfolding bit_steps turns
bit_steps_lem zero r b h = sym (ap (λ (x : ℕ). r ⊕ x) (lt-one h) ∙ ⊕_zero r)
bit_steps_lem (suc n) r b h =
    let low : b / 2 < 2 ^ n = omega (arith, subst (λ (m : ℕ). b < m) (pow-suc 2 n) h) in
    bit_steps_lem n (bit_step r (b % 2)) (b / 2) low ∙ ap (turns n) (bit_step_lem r b)

-- with no data they are turns
pub reduced_turns : (n x : ℕ) → reduced n x ≡ turns n x
unfolding reduced
reduced_turns n x = bit_steps_lem n x 0 (pow_pos n) ∙ ap (turns n) (⊕_zero x)

pub byte_step_lem : (r b : ℕ) → b < 256 → byte_step r b ≡ turns 8 (r ⊕ b)
unfolding byte_step
byte_step_lem r b h = bit_steps_lem 8 r b h

pub bit_step_lt : (r b : ℕ) → b < 2 → r < 2 ^ 16 → bit_step r b < 2 ^ 16
unfolding bit_step ◌⊕◌
bit_step_lt r b hb h =
    let d : differ (r % 2) b < 2 = differ_lt (r % 2) b (mod-lt r (omega arith)) hb in
    ⊕_lt 16 (r / 2) (differ (r % 2) b * generator) (omega arith) (omega arith)

bit_steps_lt : (n r b : ℕ) → r < 2 ^ 16 → bit_steps n r b < 2 ^ 16
unfolding bit_steps
bit_steps_lt zero r b h = h
bit_steps_lt (suc n) r b h = bit_steps_lt n (bit_step r (b % 2)) (b / 2) (bit_step_lt r (b % 2) (mod-lt b (omega arith)) h)

pub byte_step_lt : (r b : ℕ) → r < 2 ^ 16 → byte_step r b < 2 ^ 16
unfolding byte_step
byte_step_lt r b h = bit_steps_lt 8 r b h

-- of a number that is no byte the lowest n bits are taken
bit_steps_low : (n r b : ℕ) → bit_steps n r b ≡ bit_steps n r (b % 2 ^ n)
unfolding bit_steps
bit_steps_low zero r b = refl
bit_steps_low (suc n) r b =
    bit_steps_low n (bit_step r (b % 2)) (b / 2)
    ∙ ap₂ (λ (d h : ℕ). bit_steps n (bit_step r d) h) (sym (low_odd n b)) (sym (low_half n b))

pub byte_step_low : (r b : ℕ) → byte_step r b ≡ byte_step r (b % 256)
unfolding byte_step
byte_step_low r b = bit_steps_low 8 r b

pub fcs_from_lt : (r : ℕ) (bs : List ℕ) → r < 2 ^ 16 → fcs_from r bs < 2 ^ 16
unfolding fcs_from byte_step
fcs_from_lt r [] h = h
fcs_from_lt r (b ∷ bs) h = fcs_from_lt (byte_step r b) bs (bit_steps_lt 8 r b h)

-- the check fits two bytes, whatever the list
pub fcs_lt : (bs : List ℕ) → fcs_of bs < 65536
unfolding fcs_of
fcs_lt bs = fcs_from_lt 0 bs (omega arith)

pub fcs_from_append : (r : ℕ) (xs ys : List ℕ) → fcs_from r (xs ++ ys) ≡ fcs_from (fcs_from r xs) ys
unfolding fcs_from
fcs_from_append r [] ys = refl
fcs_from_append r (x ∷ xs) ys = fcs_from_append (byte_step r x) xs ys

-- the check of a list in two parts goes on with the second from the check of the first
pub fcs_append : (xs ys : List ℕ) → fcs_of (xs ++ ys) ≡ fcs_from (fcs_of xs) ys
unfolding fcs_of
fcs_append xs ys = fcs_from_append 0 xs ys

-- the bytes behind one another: a byte a time, or n bytes a time and then what is left
pub from_is_fold : (r : ℕ) (bs : List ℕ) → fcs_from r bs ≡ fold byte_step r bs
unfolding fcs_from
from_is_fold r [] = refl
from_is_fold r (b ∷ bs) = from_is_fold (byte_step r b) bs

pub from_chunks : (n k r : ℕ) (bs : List ℕ) → fcs_from (fold fcs_from r (first_chunks n k bs)) (drop (k * n) bs) ≡ fcs_from r bs
unfolding fcs_from
from_chunks n zero r bs = ap (λ (m : ℕ). fcs_from r (drop m bs)) (zero-mul n)
from_chunks n (suc k) r bs =
    let s : ℕ = fcs_from r (take n bs) in
    ap (fcs_from (fold fcs_from s (first_chunks n k (drop n bs))))
    (ap (λ (m : ℕ). drop m bs) (omega arith) ∙ sym (drop-drop (k * n) n bs))
    ∙ from_chunks n k s (drop n bs)
    ∙ sym (fcs_from_append r (take n bs) (drop n bs))
    ∙ ap (fcs_from r) (take-append-drop n bs)

-- one byte more
pub from_more : (r : ℕ) (bs : List ℕ) (i : ℕ) → i < length bs
    → fcs_from r (take (suc i) bs) ≡ byte_step (fcs_from r (take i bs)) (get_or bs i 0)
unfolding fcs_from
from_more r bs i h = ap (fcs_from r) (take-suc bs i 0 h) ∙ fcs_from_append r (take i bs) (get_or bs i 0 ∷ [])
