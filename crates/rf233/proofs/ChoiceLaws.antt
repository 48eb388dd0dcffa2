-- Laws of a choice (`pick`). Assumes nothing.
use mathlib.Core.Path.{◌≡◌, refl}
use mathlib.Core.Bool.{Bool, true, false, not}
use lib.Dec.{T}
use Rattle.rf233.specs.Choice.{pick}

-- what holds of both of a choice's ends holds of the choice
pub branch {ℓ κ} : {A : Type ℓ} (P : A → Type κ) (c : Bool) (a b : A) → (T c → P a) → (T (not c) → P b) → P (pick c a b)
unfolding pick
branch P true a b y n = y tt
branch P false a b y n = n tt

-- and where the test does not matter
pub either {ℓ κ} : {A : Type ℓ} (P : A → Type κ) (c : Bool) (a b : A) → P a → P b → P (pick c a b)
either P c a b p q = branch P c a b (λ t. p) (λ t. q)

-- a function of a choice is the choice of its values
pub of_choice {ℓ κ} : {A : Type ℓ} {B : Type κ} (f : A → B) (c : Bool) (a b : A) → f (pick c a b) ≡ pick c (f a) (f b)
unfolding pick
of_choice f true a b = refl
of_choice f false a b = refl

-- a choice between the same is that
pub same_choice {ℓ} : {A : Type ℓ} (c : Bool) (a : A) → pick c a a ≡ a
unfolding pick
same_choice true a = refl
same_choice false a = refl
