-- `power_to_setting` meets its contract. A power that fits a signed byte is, plus 128, a number below 256 (`place`), and the power of that
-- entry of the table is the power itself (`power_at`). The casts and the sum lose nothing: each value fits, so it is read back from its
-- bits. Assumes nothing.
use Prim.Native.Nat.{ℕ, suc, ◌+◌, ◌-◌, ◌<◌}
use mathlib.Core.Path.{◌≡◌, refl, sym, ◌∙◌, ap}
use native.Mathlib.Omega.{arith}
use borrow.Author.Tests.{le-ltb}
use lib.IntN.{ℤ, pos, negsuc, nat_abs, ◌+ℤ◌, ◌-ℤ◌, +ℤ_assoc, +ℤ_idr}
use mir.Syntax.{w8, w16}
use Rattle.std.proofs.Common.{FitsSigned, to_z, of_z}
use mir.Facts.{sfits_widen, to_z-of_z}
use Rattle.rf233.specs.Power.{power_at, power_to_setting}
use Rattle.rf233.proofs.power.power_to_setting.Goals as goal

-- the place of a power in the table: the power plus 128
record Place (p : ℤ) : Type 0 where
  at : ℕ
  is : p +ℤ pos 128 ≡ pos at
  below : at < 256

place : {p : ℤ} → FitsSigned w8 p → Place p
place {p} f = from p f
  where
    from : (p : ℤ) → FitsSigned w8 p → Place p
    from (pos n) f = record { at = n + 128; is = refl; below = omega (arith, f.sfits) }
    from (negsuc n) f = record { at = 128 - suc n; is = rw (le-ltb 128 (suc n) (omega (arith, f.sfits))); below = omega arith }

-- the power of the entry there is the power itself
power_at_lem : {p : ℤ} (s : Place p) → power_at s.at ≡ p
power_at_lem {p} s = ap (λ z. z -ℤ pos 128) (sym s.is) ∙ +ℤ_assoc p (pos 128) (negsuc 127) ∙ +ℤ_idr p

-- sixteen bits hold what eight do
widened : {p : ℤ} → FitsSigned w8 p → FitsSigned w16 (to_z w8 (of_z w8 p))
widened f = rw (to_z-of_z f) (sfits_widen tt f)

-- the sum as the code makes it
abbrev sum_of : ℤ → ℤ
sum_of p = to_z w16 (of_z w16 (to_z w8 (of_z w8 p))) +ℤ pos 128

-- it is the power's place, it fits, and so it is read back from its bits
sum : {p : ℤ} (f : FitsSigned w8 p) → sum_of p ≡ pos (place f).at
sum f = rw (to_z-of_z (widened f), to_z-of_z f) (place f).is

sum_fits : {p : ℤ} → FitsSigned w8 p → FitsSigned w16 (sum_of p)
sum_fits f = rw (sum f) (record { sfits = omega (arith, (place f).below) })

read_back : {p : ℤ} (f : FitsSigned w8 p) → to_z w16 (of_z w16 (sum_of p)) ≡ pos (place f).at
read_back f = to_z-of_z (sum_fits f) ∙ sum f

pub returns : goal.returns
returns c =
    let f = c.ranges.power in
    c.setting_at.ensures ∙ ap (λ z. power_to_setting (power_at (nat_abs z))) (read_back f) ∙ ap power_to_setting (power_at_lem (place f))
