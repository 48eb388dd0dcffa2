-- A test of the status as the condition of a row, and both ways of a test. Assumes nothing.
use mathlib.Core.Path.{◌≡◌, refl}
use mathlib.Core.Bool.{Bool, true, false}
use mathlib.Core.List.{List}
use Prim.Native.Nat.{ℕ}
use Rattle.rf233.specs.Choice.{one_of}
use Rattle.rf233.specs.Rows.{holds}
use Rattle.rf233.specs.Rows.Test.{status_in}
use Rattle.rf233.specs.declared.arrived.Arrived.{Arrived}
use Rattle.rf233.specs.declared.driver.Driver.{Driver}

-- what a branch on the status is told is the condition that a row asks
pub status_is_lem : (a : Arrived) (d : Driver) {v : Bool} (l : List ℕ) → one_of l a.status ≡ v → holds (status_in l) a d ≡ v
unfolding holds
status_is_lem a d l e = e

-- both ways of a flag that the code asks in a function of its own
pub by_flag : {C : Type 0} (v : Bool) → (v ≡ true → C) → (v ≡ false → C) → C
by_flag true t f = t refl
by_flag false t f = f refl
