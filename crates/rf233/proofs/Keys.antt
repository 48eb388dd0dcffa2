-- The states' numbers: each is below 69 (`state_below`), by a test of every variant; and lists of numbers in a row (`range`). Assumes
-- nothing.
use mathlib.Core.Path.{ap, subst}
use mathlib.Core.Bool.{Bool, true, false, ◌&&◌}
use mathlib.Core.List.{List, [], ◌∷◌}
use mathlib.Core.Logic.{inl, inr}
use Prim.Native.Nat.{ℕ, zero, suc, ◌<◌}
use lib.Dec.{T, ltb, ltb→lt}
use denote.Struct.Field.{Field}
use denote.Enum.Declared.{Choice}
use Rattle.laws.proofs.Logic.{left, right}
use Rattle.rf233.specs.contracts.state.InternalState.{enum}
use Rattle.rf233.specs.State.{state_no}
use Rattle.rf233.specs.declared.state.InternalState.{InternalState}

-- a test of every variant of an enum whose variants hold nothing: computed
abbrev all : (Fss : List (List Field)) → (Choice Fss → Bool) → Bool
all [] f = true
all ([] ∷ Fss) f = f (inl tt) && all Fss (λ c. f (inr c))
all ((F ∷ Fs) ∷ Fss) f = false

at_all : (Fss : List (List Field)) (f : Choice Fss → Bool) → T (all Fss f) → (c : Choice Fss) → T (f c)
at_all [] f t c = absurd c
at_all ([] ∷ Fss) f t (inl tt) = left (f (inl tt)) (all Fss (λ c. f (inr c))) t
at_all ([] ∷ Fss) f t (inr c) = at_all Fss (λ c. f (inr c)) (right (f (inl tt)) (all Fss (λ c. f (inr c))) t) c
at_all ((F ∷ Fs) ∷ Fss) f t c = absurd t

-- a state's number is below 69
pub state_below : (s : InternalState) → state_no s < 69
state_below s =
    subst (λ n. n < 69) (ap state_no (enum.eta s))
    (ltb→lt _ _ (at_all enum.parts (λ c. ltb (state_no (enum.make c)) 69) tt (enum.as_values s)))

-- the numbers from k on, n of them
abbrev pub range : ℕ → ℕ → List ℕ
range k zero = []
range k (suc n) = k ∷ range (suc k) n
