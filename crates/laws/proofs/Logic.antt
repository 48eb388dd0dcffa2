-- General laws of Booleans: of tests that are joined, of tests that are grouped otherwise, and of a test that is computed over all
-- Booleans or all numbers below n.
-- The library's laws of `&&` and `||` as equations (`Rattle.std.proofs.lemmas.Bool`) give both halves as a pair; those here cite them and
-- name one half. Of `T` and of a test over all numbers below n it offers none.
-- Assumes nothing.
use Prim.Native.Nat.{ℕ, zero, suc, ◌<◌}
use mathlib.Core.Path.{◌≡◌, refl, sym, subst}
use mathlib.Core.Bool.{Bool, true, false, not, ◌&&◌, ◌||◌, cond, or-true}
use native.Mathlib.Omega.{arith}
use native.Mathlib.Nat.{not-suc-le-zero}
use lib.Dec.{T, eqb}
use borrow.Author.Tests.{eqb-true, eqb-false}
use Rattle.std.proofs.lemmas.Bool.{and_parts, or_parts, both_ways as never_both}

-- both tests pass: the first, the second, and both again
pub left : (a b : Bool) → T (a && b) → T a
left true b t = tt
left false b t = t

pub right : (a b : Bool) → T (a && b) → T b
right true b t = t
right false b t = absurd t

pub pair : (a b : Bool) → T a → T b → T (a && b)
pair true b s t = t
pair false b s t = s

-- the same as equations
pub both_left : (a b : Bool) → a && b ≡ true → a ≡ true
both_left a b e = (and_parts a b e).0

pub both_right : (a b : Bool) → a && b ≡ true → b ≡ true
both_right a b e = (and_parts a b e).1

-- one of two tests passes
pub or_left : (a b : Bool) → T a → T (a || b)
or_left true b t = tt
or_left false b t = absurd t

pub or_right : (a b : Bool) → T b → T (a || b)
or_right true b t = tt
or_right false b t = t

pub or_case : {A : Type 0} (a b : Bool) → T (a || b) → (T a → A) → (T b → A) → A
or_case true b t f g = f tt
or_case false b t f g = g t

-- the order of three tests does not matter
pub or_left_comm : (a b c : Bool) → a || (b || c) ≡ b || (a || c)
or_left_comm true b c = simp or-true
or_left_comm false b c = refl

-- neither of two tests passes
pub nor_left : (a b : Bool) → T (not (a || b)) → T (not a)
nor_left true b t = t
nor_left false b t = tt

pub nor_right : (a b : Bool) → T (not (a || b)) → T (not b)
nor_right true b t = absurd t
nor_right false b t = t

-- the same as equations
pub none_left : (a b : Bool) → a || b ≡ false → a ≡ false
none_left a b e = (or_parts a b e).0

pub none_right : (a b : Bool) → a || b ≡ false → b ≡ false
none_right a b e = (or_parts a b e).1

-- a test and what it is equal to
pub is_true : (a : Bool) → T a → a ≡ true
is_true true t = refl
is_true false t = absurd t

pub is_false : (a : Bool) → T (not a) → a ≡ false
is_false true n = absurd n
is_false false n = refl

pub is_value : (v b : Bool) → T (cond v b (not b)) → b ≡ v
is_value true true t = refl
is_value true false t = absurd t
is_value false true t = absurd t
is_value false false t = refl

-- true is not false
pub clash {ℓ} : {A : Type ℓ} (b : Bool) → b ≡ false → b ≡ true → A
clash b e f = absurd (never_both b e f)

-- tests that follow from each other are equal
pub both_ways : (a b : Bool) → (T a → T b) → (T b → T a) → a ≡ b
both_ways true true f g = refl
both_ways true false f g = absurd (f tt)
both_ways false true f g = absurd (g tt)
both_ways false false f g = refl

pub by_value : (t x : Bool) → (t ≡ true → x ≡ true) → (t ≡ false → x ≡ false) → x ≡ t
by_value true x p q = p refl
by_value false x p q = q refl

-- b passes where a does
abbrev pub imp : Bool → Bool → Bool
imp true b = b
imp false b = true

pub apply : (a b : Bool) → T (imp a b) → T a → T b
apply true b i t = i
apply false b i t = absurd t

pub applied : (a b : Bool) → (T a → T b) → T (imp a b)
applied true b f = f tt
applied false b f = tt

-- a test over both Booleans
abbrev pub all : (Bool → Bool) → Bool
all f = f true && f false

pub all_at : (f : Bool → Bool) → T (all f) → (b : Bool) → T (f b)
all_at f t true = left (f true) (f false) t
all_at f t false = right (f true) (f false) t

-- a test over the numbers below n
abbrev pub all_below : (ℕ → Bool) → ℕ → Bool
all_below f zero = true
all_below f (suc n) = f n && all_below f n

pub below_at : (f : ℕ → Bool) (n : ℕ) → T (all_below f n) → (s : ℕ) → s < n → T (f s)
below_at f zero t s h = absurd (not-suc-le-zero h)
below_at f (suc n) t s h = go (eqb s n) refl (below_at f n (right (f n) (all_below f n) t) s)
  where
    go : (e : Bool) → eqb s n ≡ e → (s < n → T (f s)) → T (f s)
    go true e r = subst (λ x. T (f x)) (sym (eqb-true s n e)) (left (f n) (all_below f n) t)
    go false e r = r (omega (arith, eqb-false s n e))

-- ---- tests joined by "or", in whatever order and grouping

-- the test of a number, or one of two
pub data Tests : Type 0 where
  test : ℕ → Tests
  any_of : Tests → Tests → Tests

-- where the test of number n is f n
abbrev pub passed : (ℕ → Bool) → Tests → Bool
passed f (test n) = f n
passed f (any_of x y) = passed f x || passed f y

-- the test of number n is among them
abbrev pub has : ℕ → Tests → Bool
has n (test m) = eqb n m
has n (any_of x y) = has n x || has n y

-- the tests of x are among those of y
abbrev pub among : Tests → Tests → Bool
among (test n) y = has n y
among (any_of x z) y = among x y && among z y

has_passes : (f : ℕ → Bool) (n : ℕ) (y : Tests) → T (has n y) → T (f n) → T (passed f y)
has_passes f n (test m) h t = subst (λ k. T (f k)) (eqb-true n m (is_true (eqb n m) h)) t
has_passes f n (any_of x y) h t =
    or_case (has n x) (has n y) h (λ i. or_left (passed f x) (passed f y) (has_passes f n x i t))
    (λ i. or_right (passed f x) (passed f y) (has_passes f n y i t))

among_passes : (f : ℕ → Bool) (x y : Tests) → T (among x y) → T (passed f x) → T (passed f y)
among_passes f (test n) y a t = has_passes f n y a t
among_passes f (any_of x z) y a t =
    or_case (passed f x) (passed f z) t (λ i. among_passes f x y (left (among x y) (among z y) a) i)
    (λ i. among_passes f z y (right (among x y) (among z y) a) i)

-- the same tests, however they are grouped: computed
pub regrouped : (f : ℕ → Bool) (x y : Tests) → T (among x y) → T (among y x) → passed f x ≡ passed f y
regrouped f x y a b = both_ways (passed f x) (passed f y) (among_passes f x y a) (among_passes f y x b)
