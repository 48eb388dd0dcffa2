-- Laws of words: a text's words are what stands before its first space, and the words behind it. Assumes nothing.
use Rattle.std.proofs.Common.{
  ◌≡◌,
  refl,
  ℕ,
  suc,
  ◌+◌,
  ◌-◌,
  Bool,
  true,
  false,
  cond,
  not,
  List,
  [],
  ◌∷◌,
  length,
  take,
  drop,
  add-one,
  ◌==◌,
  nat_lt,
  arith,
  Option,
  Some,
  None,
}
use borrow.Author.Tests.{lt-ltb, le-ltb, ltb-true, ltb-false}
use Rattle.std.proofs.lemmas.Slice.{between_to_end}
use Rattle.std.specs.Prelude.{position}
use Rattle.std.specs.List.{position_or_len}
use Rattle.script.specs.Words.{words_of, longer}

-- the words of a text whose first space is at this place, or which has none
abbrev cut_of : List ℕ → Option ℕ → List (List ℕ)
cut_of s None = s ∷ []
cut_of s (Some n) = take n s ∷ words_of (drop (n + 1) s)

-- a byte before a text
module _ (b : ℕ) (s : List ℕ) where
  -- where the first space is behind it
  by_length : (k : ℕ) (m : Bool) → nat_lt k (length s) ≡ m → words_of s ≡ cut_of s (cond m (Some k) None)
      → longer b (words_of s) ≡ cut_of (b ∷ s) (cond (nat_lt (1 + k) (suc (length s))) (Some (1 + k)) None)
  by_length k true e h =
      let up : 1 + k ≡ suc k = omega arith in
      rw (h, lt-ltb (1 + k) (suc (length s)) (omega (arith, ltb-true _ _ e))) (rw (up, add-one k, add-one (suc k)))
  by_length k false e h = rw (h, le-ltb (1 + k) (suc (length s)) (omega (arith, ltb-false _ _ e)))

  by_space : (t : Bool) (k : ℕ) → words_of s ≡ cut_of s (cond (nat_lt k (length s)) (Some k) None)
      → cond t ([] ∷ words_of s) (longer b (words_of s))
      ≡ (let n = cond (not t) (1 + k) 0 in cut_of (b ∷ s) (cond (nat_lt n (suc (length s))) (Some n) None))
  by_space true k h = rw (lt-ltb 0 (suc (length s)) (omega arith))
  by_space false k h = by_length k (nat_lt k (length s)) refl h

cut_is : (s : List ℕ) → words_of s ≡ cut_of s (position (λ b. b == 32) s)
unfolding words_of
cut_is [] = refl
cut_is (b ∷ s) = by_space b s (b == 32) (position_or_len (λ b. b == 32) s) (cut_is s)

pub one_word : (s : List ℕ) → position (λ b. b == 32) s ≡ None → words_of s ≡ s ∷ []
one_word s e = rw e at (cut_is s)

pub more_words : (s : List ℕ) (n : ℕ) → position (λ b. b == 32) s ≡ Some n
    → words_of s ≡ take n s ∷ words_of (take (length s - (n + 1)) (drop (n + 1) s))
more_words s n e = rw (between_to_end s (n + 1) (length s) (omega arith)) (rw e at (cut_is s))

-- the laws that `cut` asks for
pub ruleset cut_laws = (one_word, more_words)
