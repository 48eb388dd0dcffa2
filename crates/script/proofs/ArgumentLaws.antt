-- Laws of what stands after a name: the next word is read as a number or a byte, and the others are left. Assumes nothing.
use Rattle.std.proofs.Common.{
  ◌≡◌,
  refl,
  sym,
  ◌∙◌,
  ap,
  ℤ,
  pos,
  ◌-ℤ◌,
  ℕ,
  suc,
  true,
  false,
  take,
  drop,
  option_map,
  ◌+◌,
  ◌-◌,
  ◌≤◌,
  ◌<◌,
  List,
  [],
  ◌∷◌,
  length,
  set,
  leb,
  eqb,
  add-one,
  arith,
  Ok,
  Err,
  Result,
  Option,
  Some,
  None,
  ok_or,
}
use Rattle.std.proofs.lemmas.List.{take_at}
use Rattle.std.proofs.lemmas.List.Edits.{sets, sets-eq}
use mathlib.Core.Bool.{Bool, cond, ◌&&◌, and-false, true≢false, and-eq-true_iff}
use borrow.Author.Tests.{le-leb, lt-leb}
use Rattle.script.specs.declared.line.Line.{Line}
use Rattle.script.specs.declared.line.Malformed.{Malformed}
use Rattle.script.specs.Words.{malformed, others, number_in, next_number, last_number}
use Rattle.std.specs.Prelude.{bytes_eq}
use Rattle.script.specs.Decimal.{decimal_of}
use Rattle.script.specs.Arguments.{
  Takes,
  read_number,
  read_numbers,
  all_bytes,
  bytes_said,
  are_bytes,
  count_of,
  read_bytes,
  read_placed,
  read_signed,
  read_power,
}

-- ---- numbers

-- a number that is there, and one that is not
there : (d : Option ℕ) (v : ℕ) (read : ℕ → Result Line Malformed) → ok_or d malformed ≡ Ok v → read_number d read ≡ read v
there None v read e = cc
there (Some u) v read e = cc

missing : (d : Option ℕ) (m : Malformed) (read : ℕ → Result Line Malformed) → ok_or d malformed ≡ Err m → read_number d read ≡ Err m
missing None m read e = cc
missing (Some u) m read e = cc

-- the next word is read as a number, and the others are left
module _ (g : ℕ) (gs : List ℕ) (read : Takes (g ∷ gs)) where
  pub first_read : (ws : List (List ℕ)) (v : ℕ) → next_number g ws ≡ Ok v
      → read_numbers (g ∷ gs) read ws ≡ read_numbers gs (read v) (others ws)
  unfolding read_numbers next_number
  first_read [] v e = cc
  first_read (w ∷ ws) v e = there (number_in g w) v _ e

  pub none_read : (ws : List (List ℕ)) (m : Malformed) → next_number g ws ≡ Err m → read_numbers (g ∷ gs) read ws ≡ Err m
  unfolding read_numbers next_number
  none_read [] m e = cc
  none_read (w ∷ ws) m e = missing (number_in g w) m _ e

-- the last word is
module _ (g : ℕ) (read : ℕ → Line) where
  pub last_read : (ws : List (List ℕ)) (v : ℕ) → last_number g ws ≡ Ok v → read_numbers (g ∷ []) read ws ≡ Ok (read v)
  unfolding read_numbers last_number
  last_read [] v e = cc
  last_read (w ∷ []) v e = there (number_in g w) v _ e
  last_read (w ∷ (u ∷ ws)) v e = cc

  pub no_last : (ws : List (List ℕ)) (m : Malformed) → last_number g ws ≡ Err m → read_numbers (g ∷ []) read ws ≡ Err m
  unfolding read_numbers last_number
  no_last [] m e = cc
  no_last (w ∷ []) m e = missing (number_in g w) m _ e
  no_last (w ∷ (u ∷ ws)) m e = by_number (number_in g w)
    where
      by_number : (d : Option ℕ) → read_number d (λ v. Err malformed) ≡ Err m
      by_number None = cc
      by_number (Some v) = cc

-- two numbers, and three
module _ (g h : ℕ) (read : Takes (g ∷ h ∷ [])) (ws : List (List ℕ)) (v : ℕ) (e : next_number g ws ≡ Ok v) where
  pub two_read : (u : ℕ) → last_number h (others ws) ≡ Ok u → read_numbers (g ∷ h ∷ []) read ws ≡ Ok (read v u)
  two_read u f = rw (first_read g (h ∷ []) read ws v e, last_read h (read v) (others ws) u f)

  pub no_second : (m : Malformed) → last_number h (others ws) ≡ Err m → read_numbers (g ∷ h ∷ []) read ws ≡ Err m
  no_second m f = rw (first_read g (h ∷ []) read ws v e, no_last h (read v) (others ws) m f)

module _ (g h k : ℕ) (read : Takes (g ∷ h ∷ k ∷ [])) (ws : List (List ℕ)) (v : ℕ) (e : next_number g ws ≡ Ok v) where
  pub second_missing : (m : Malformed) → next_number h (others ws) ≡ Err m → read_numbers (g ∷ h ∷ k ∷ []) read ws ≡ Err m
  second_missing m f = rw (first_read g (h ∷ k ∷ []) read ws v e, none_read h (k ∷ []) (read v) (others ws) m f)

  module _ (u : ℕ) (f : next_number h (others ws) ≡ Ok u) where
    pub three_read : (t : ℕ) → last_number k (others (others ws)) ≡ Ok t → read_numbers (g ∷ h ∷ k ∷ []) read ws ≡ Ok (read v u t)
    three_read t i = rw (first_read g (h ∷ k ∷ []) read ws v e, two_read h k (read v) (others ws) u f t i)

    pub no_third : (m : Malformed) → last_number k (others (others ws)) ≡ Err m → read_numbers (g ∷ h ∷ k ∷ []) read ws ≡ Err m
    no_third m i = rw (first_read g (h ∷ k ∷ []) read ws v e, no_second h k (read v) (others ws) u f m i)

-- ---- bytes

-- bytes were read, so many, and these words are left: they say bytes where all do
module _ (all ws : List (List ℕ)) (count : ℕ) (same : all_bytes ws ≡ all_bytes all) (counted : count + length ws ≡ length all) where
  -- how many all say, where no word is left
  module _ (most room : ℕ) where
    pub all_read : ws ≡ [] → count ≤ most → count ≤ room → Ok count ≡ count_of most room all
    unfolding count_of are_bytes all_bytes
    all_read e h k =
        let is : count ≡ length all = omega (arith, counted, ap length e) in
        rw (← same, e, ← is, le-leb _ _ h, le-leb _ _ k)

  -- and where one is
  module _ (w : List ℕ) (rest : List (List ℕ)) (first : ws ≡ w ∷ rest) where
    left : length ws ≡ suc (length rest)
    left = ap length first

    module _ (most room : ℕ) where
      -- it says no byte, or there is none too many, or no room for it
      pub bad_word : number_in 255 w ≡ None → Err malformed ≡ count_of most room all
      unfolding count_of are_bytes all_bytes
      bad_word e = rw (← same, first, e)

      pub too_many : most ≤ count → Err malformed ≡ count_of most room all
      unfolding count_of are_bytes
      too_many h =
          let more : most < length all = omega (arith, counted, left, h) in
          rw (lt-leb _ _ more, and-false (all_bytes all))

      pub no_room : room ≤ count → Err malformed ≡ count_of most room all
      unfolding count_of are_bytes
      no_room h =
          let more : room < length all = omega (arith, counted, left, h) in
          rw (lt-leb _ _ more, and-false (leb (length all) most), and-false (all_bytes all))

    -- it says a byte
    module _ (v : ℕ) (e : number_in 255 w ≡ Some v) where
      pub byte_off : all_bytes rest ≡ all_bytes all
      unfolding all_bytes
      byte_off = rw (first, e) at same

      pub laid_off : (buffer : List ℕ) → sets (set buffer count v) (count + 1) (bytes_said rest) ≡ sets buffer count (bytes_said ws)
      unfolding bytes_said
      laid_off buffer = rw (first, e, add-one count)

-- what a count tells of the test behind it
module _ (m : Malformed) where
  told : (b : Bool) (l n : ℕ) → cond b (Ok l) (Err m) ≡ Ok n → (b ≡ true) × (l ≡ n)
  told true l n e = (refl, cc)
  told false l n e = (cc, cc)

  told_wrong : (b : Bool) (l : ℕ) (e : Malformed) → cond b (Ok l) (Err m) ≡ Err e → b ≡ false
  told_wrong true l e f = cc
  told_wrong false l e f = refl

-- they say as many bytes as they are
said_length : (ws : List (List ℕ)) → length (bytes_said ws) ≡ length ws
unfolding bytes_said
said_length [] = refl
said_length (w ∷ ws) = ap suc (said_length ws)

module _ (most room : ℕ) (ws : List (List ℕ)) (n : ℕ) (e : count_of most room ws ≡ Ok n) where
  tells : (are_bytes most room ws ≡ true) × (length ws ≡ n)
  unfolding count_of
  tells = told malformed (are_bytes most room ws) (length ws) n e

  pub counted_bytes : n ≡ length (bytes_said ws)
  counted_bytes = sym (said_length ws ∙ tells.1)

-- the bytes that were laid are those that they say
pub laid_bytes : (bs before : List ℕ) (n : ℕ) → n ≡ length bs → n ≤ length before → take n (sets before 0 bs) ≡ bs
laid_bytes bs before n e h = rw (sets-eq bs before 0 (omega arith)) (take_at bs _ n (sym e))

-- words that say bytes, by their count
module _ (least most room : ℕ) (read : List ℕ → Line) (ws : List (List ℕ)) where
  pub not_bytes : (m : Malformed) → count_of most room ws ≡ Err m → read_bytes least most read room ws ≡ Err m
  unfolding count_of read_bytes
  not_bytes m e = rw (told_wrong malformed (are_bytes most room ws) (length ws) m e)

  module _ (n : ℕ) (e : count_of most room ws ≡ Ok n) where
    pub too_few : n < least → read_bytes least most read room ws ≡ Err malformed
    unfolding read_bytes
    too_few h =
        let t = tells most room ws n e in
        rw (t.0, t.1, lt-leb least n h)

    pub enough : least ≤ n → read_bytes least most read room ws ≡ Ok (read (bytes_said ws))
    unfolding read_bytes
    enough h =
        let t = tells most room ws n e in
        rw (t.0, t.1, le-leb least n h)

-- a place, and the bytes after it
module _ (area room : ℕ) (read : ℕ → List ℕ → Line) where
  pub not_placed : (ws : List (List ℕ)) (m : Malformed) → next_number area ws ≡ Err m → read_placed area read room ws ≡ Err m
  unfolding next_number read_placed
  not_placed [] m e = cc
  not_placed (w ∷ ws) m e = missing (number_in area w) m _ e

  pub placed_at : (ws : List (List ℕ)) (at : ℕ) → next_number area ws ≡ Ok at
      → read_placed area read room ws ≡ read_bytes 0 (area - at) (read at) room (others ws)
  unfolding next_number read_placed
  placed_at [] at e = absurd (let never : ◌≡◌ {A = ℕ} 0 1 = cc e in omega arith)
  placed_at (w ∷ ws) at e = there (number_in area w) at _ e

-- the bytes are not
pub bad_bytes : (area room : ℕ) (read : ℕ → List ℕ → Line) (ws : List (List ℕ)) (at : ℕ) → next_number area ws ≡ Ok at → (m : Malformed)
    → count_of (area - at) room (others ws) ≡ Err m → read_placed area read room ws ≡ Err m
bad_bytes area room read ws at e m f = placed_at area room read ws at e ∙ not_bytes 0 (area - at) room (read at) (others ws) m f

-- ---- a power

module _ (read : ℤ → Line) where
  -- a word that begins with a minus, and one that does not
  pub minus : (w : List ℕ) → bytes_eq (take 1 w) (45 ∷ []) ≡ true
      → read_signed read w ≡ option_map (λ size. read (pos 0 -ℤ pos size)) (number_in 128 (drop 1 w))
  unfolding read_signed
  minus [] e = absurd (true≢false (sym e))
  minus (b ∷ w) e = rw (((and-eq-true_iff (eqb b 45) true).0 e).0)

  pub plus : (w : List ℕ) → bytes_eq (take 1 w) (45 ∷ []) ≡ false
      → read_signed read w ≡ option_map (λ size. read (pos size)) (number_in 127 w)
  unfolding read_signed number_in decimal_of
  plus [] e = refl
  plus (b ∷ w) e = by_minus (eqb b 45) e
    where
      by_minus : (t : Bool) → t && true ≡ false → cond t (option_map (λ size. read (pos 0 -ℤ pos size)) (number_in 128 w))
          (option_map (λ size. read (pos size)) (number_in 127 (b ∷ w))) ≡ option_map (λ size. read (pos size)) (number_in 127 (b ∷ w))
      by_minus true e = absurd (true≢false e)
      by_minus false e = refl

  -- the only word is read as a power; no word and several are not
  pub one_power : (ws : List (List ℕ)) (w : List ℕ) → ws ≡ w ∷ [] → read_power read ws ≡ ok_or (read_signed read w) malformed
  unfolding read_power
  one_power ws w e = rw e

  pub no_power : (ws : List (List ℕ)) → (length ws ≡ 1 → ⊥) → read_power read ws ≡ Err malformed
  unfolding read_power
  no_power [] h = refl
  no_power (w ∷ []) h = absurd (h refl)
  no_power (w ∷ (v ∷ ws)) h = refl

-- ---- what the functions ask for

-- numbers, one behind the other
pub ruleset number_laws = (none_read, last_read, no_last, two_read, no_second, second_missing, three_read, no_third)

-- so many bytes and no others
pub ruleset bytes_laws = (not_bytes, too_few, enough, counted_bytes, laid_bytes)

-- a power
pub ruleset power_laws = (minus, plus, one_power, no_power)
