-- What is recorded twice or nowhere, found without counting (`uncounted`): where no client's place names an own buffer, a client's buffer
-- is recorded twice exactly if it stands twice in the list of those that the places and the line name (`clients`), and
-- an own buffer once exactly if it is in its own place while no transfer has it. Assumes nothing.
use Prim.Native.Nat.{ℕ, zero, suc, ◌+◌, ◌<◌}
use mathlib.Core.Path.{◌≡◌, refl, ap, subst}
use mathlib.Core.Bool.{Bool, true, false, not, ◌&&◌, ◌||◌, and-true, and-false, or-true, or-false, or_assoc}
use mathlib.Core.List.{List, [], ◌∷◌, ◌++◌}
use native.Mathlib.Omega.{arith}
use lib.Dec.{T, eqb, ltb, lit<, lt→ltb, ltb→lt}
use borrow.Author.Tests.{eqb-true, eqb-false, eq-eqb, ne_eqb, ltb-true, ltb-false, lt-ltb}
use Rattle.std.specs.Prelude.{Option, None, Some}
use Rattle.rf233.proofs.Conditions.{by_flag}
use Rattle.laws.proofs.Logic.{none_left, none_right, both_ways, or_left, or_right, or_case, or_left_comm}
use Rattle.rf233.proofs.OwnBuffers.{only_16, only_17, only_18, slot_below, line_below}
use Rattle.rf233.specs.Line.{line, any_of, names}
use Rattle.rf233.specs.Record.{slot_has, under_has, own_has, one, times, count_of, record_has}
use Rattle.rf233.specs.Described.{
  is_above,
  slot_above,
  under_slot,
  twice_below,
  recorded_twice,
  own_nowhere,
  client_above,
  named_in,
  meets,
  repeats,
  own_wrong,
}
use Rattle.rf233.specs.declared.driver.Buffers.{Buffers}
use Rattle.rf233.specs.declared.driver.Lent.{Lent}
use Rattle.rf233.specs.declared.driver.Under.{Under}
use Rattle.rf233.specs.declared.driver.Under.TheVariants.{Idle, Register, FrameRead, FrameWrite, Waits}

-- ---- a list that names a buffer twice

-- the buffers that the client's places and the line name
abbrev pub clients_named : Buffers → List ℕ
clients_named r = named_in r.tx_buf ++ (names (line r) ++ named_in (under_slot r.under))

-- a buffer that a list names more than once stands again behind one of its elements
names_again : (l : List ℕ) (k : ℕ) → 1 < times k l → T (repeats l)
names_again [] k h = absurd (omega arith)
names_again (c ∷ l) k h =
    by_flag (eqb c k)
    (λ e. or_left (ltb 0 (times c l)) (repeats l)
    (lt→ltb 0 (times c l) (rw (eqb-true c k e) (omega (arith, rw e at h)))))
    (λ e. or_right (ltb 0 (times c l)) (repeats l) (names_again l k (omega (arith, rw e at h))))

-- and the other way round
again_named : {A : Type 0} (l : List ℕ) → T (repeats l) → ((k : ℕ) → 1 < times k l → A) → A
again_named [] t f = absurd t
again_named (c ∷ l) t f =
    or_case (ltb 0 (times c l)) (repeats l) t
    (λ x. f c (rw (eq-eqb c c refl) (omega (arith, ltb→lt 0 (times c l) x))))
    (λ x. again_named l x (λ k h. f k (omega (arith, h))))

times_append : (k : ℕ) (l m : List ℕ) → times k (l ++ m) ≡ times k l + times k m
times_append k [] m = omega arith
times_append k (c ∷ l) m = omega (arith, times_append k l m)

-- a place names what it has
named_times : (s : Option Lent) (k : ℕ) → times k (named_in s) ≡ one (slot_has s k)
named_times None k = refl
named_times (Some x) k = omega arith

some_append : (a b : ℕ) → ltb 0 (a + b) ≡ ltb 0 a || ltb 0 b
some_append zero b = let e : 0 + b ≡ b = omega arith in ap (ltb 0) e
some_append (suc a) b = rw (lt-ltb 0 (suc a + b) (omega arith), lt-ltb 0 (suc a) (omega arith))

-- the order of tests
two_two : (a b c d : Bool) → (a || b) || (c || d) ≡ (a || c) || (b || d)
two_two a b c d = simp (or_assoc, or_left_comm)

two_three : (a b c d e : Bool) → (a || b) || (c || (d || e)) ≡ (b || c) || ((a || d) || e)
two_three a b c d e = simp (or_assoc, or_left_comm)

-- in two lists joined: one of them names a buffer again, or both name the same
meets_append : (l m n : List ℕ) → meets l (m ++ n) ≡ meets l m || meets l n
meets_append [] m n = refl
meets_append (c ∷ l) m n =
    rw (times_append c m n, some_append (times c m) (times c n), meets_append l m n)
    (two_two (ltb 0 (times c m)) (ltb 0 (times c n)) (meets l m) (meets l n))

pub repeats_append : (l m : List ℕ) → repeats (l ++ m) ≡ meets l m || (repeats l || repeats m)
repeats_append [] m = refl
repeats_append (c ∷ l) m =
    rw (times_append c l m, some_append (times c l) (times c m), repeats_append l m)
    (two_three (ltb 0 (times c l)) (ltb 0 (times c m)) (meets l m) (repeats l) (repeats m))

-- a place names no buffer twice, and meets another's as `same_buffer` asks
named_once : (s : Option Lent) → repeats (named_in s) ≡ false
named_once None = refl
named_once (Some x) = refl

pub meets_slot : (c : ℕ) (s : Option Lent) → meets (c ∷ []) (named_in s) ≡ slot_has s c
meets_slot c None = refl
meets_slot c (Some x) = go (eqb x.buffer c)
  where
    go : (v : Bool) → ltb 0 (one v + 0) || false ≡ v
    go true = refl
    go false = refl

pub meets_empty : (l : List ℕ) → meets l [] ≡ false
meets_empty [] = refl
meets_empty (c ∷ l) = meets_empty l

-- the client's places and the line, two by two
pub pairs : (x z : Option Lent) (l : List ℕ)
    → (meets (named_in x) l || meets (named_in x) (named_in z)) || (meets l (named_in z) || repeats l)
    ≡ repeats (named_in x ++ (l ++ named_in z))
pairs x z l =
    rw (
      repeats_append (named_in x) (l ++ named_in z),
      repeats_append l (named_in z),
      meets_append (named_in x) l (named_in z),
      named_once x,
      named_once z,
      or-false,
    )

-- ---- own buffers

-- an own buffer is counted in its own place and under way
own_twice : (a g : Bool) → ltb 1 (one a + 0 + 0 + one g) ≡ a && g
own_twice true true = refl
own_twice true false = refl
own_twice false true = refl
own_twice false false = refl

own_none : (a g : Bool) → not (ltb 0 (one a + 0 + 0 + one g)) ≡ not (a || g)
own_none true true = refl
own_none true false = refl
own_none false true = refl
own_none false false = refl

module _ (r : Buffers) where
  abbrev twice : ℕ → Bool
  twice k = ltb 1 (count_of r k)

  -- which buffer it is
  found : {A : Type 0} (n : ℕ) → T (twice_below r n) → ((k : ℕ) → k < n → T (twice k) → A) → A
  found zero t f = absurd t
  found (suc n) t f =
      or_case (twice_below r n) (twice n) t (λ x. found n x (λ k h y. f k (omega arith) y)) (λ x. f n (omega arith) x)

  is_below : (n k : ℕ) → k < n → T (twice k) → T (twice_below r n)
  is_below zero k h t = absurd (omega arith)
  is_below (suc n) k h t =
      by_flag (eqb k n) (λ e. or_right (twice_below r n) (twice n) (subst (λ z. T (twice z)) (eqb-true k n e) t))
      (λ e. or_left (twice_below r n) (twice n) (is_below n k (omega (arith, eqb-false k n e)) t))

  abbrev tx : Option Lent
  tx = r.tx_buf

  abbrev rx : List Lent
  rx = line r

  abbrev going : Option Lent
  going = under_slot r.under

  -- of a client's buffer the transfer under way has what its client's place has
  under_client : (u : Under) (k : ℕ) → k < 16 → under_has u k ≡ slot_has (under_slot u) k
  under_client Idle k h = refl
  under_client Register k h = rw (ne_eqb 16 k (λ e. omega arith), ne_eqb 17 k (λ e. omega arith))
  under_client (FrameRead x) k h = rw (ne_eqb 18 k (λ e. omega arith))
  under_client (FrameWrite x) k h = rw (ne_eqb 18 k (λ e. omega arith))
  under_client (Waits o) k h = refl

  -- a client's buffer is recorded as often as the places name it
  count_client : (k : ℕ) → k < 16 → count_of r k ≡ times k (clients_named r)
  unfolding count_of
  count_client k h =
      rw (
        ne_eqb 16 k (λ e. omega arith),
        ne_eqb 17 k (λ e. omega arith),
        ne_eqb 18 k (λ e. omega arith),
        and-false r.spi_tx,
        and-false r.spi_rx,
        and-false r.spi_buf,
        under_client r.under k h,
        times_append k (named_in tx) (names rx ++ named_in going),
        times_append k (names rx) (named_in going),
        named_times tx k,
        named_times going k,
      )
      (omega arith)

  -- no client's place names an own buffer
  module _ (above : client_above r ≡ false) where
    tx_low : slot_above tx ≡ false
    tx_low = none_left (slot_above tx) _ above

    rx_low : any_of is_above rx ≡ false
    rx_low = none_left (any_of is_above rx) _ (none_right (slot_above tx) _ above)

    going_low : slot_above going ≡ false
    going_low = none_right (any_of is_above rx) _ (none_right (slot_above tx) _ above)

    -- what the places name is below 16
    named_low : (s : Option Lent) (k : ℕ) → slot_above s ≡ false → 0 < times k (named_in s) → k < 16
    named_low None k e h = absurd (omega arith)
    named_low (Some x) k e h =
        by_flag (eqb x.buffer k) (λ q. omega (arith, ltb-false 15 x.buffer e, eqb-true x.buffer k q))
        (λ q. absurd (omega (arith, rw q at h)))

    line_low : (l : List Lent) (k : ℕ) → any_of is_above l ≡ false → 0 < times k (names l) → k < 16
    line_low l k e h =
        by_flag (ltb 15 k) (λ q. absurd (omega (arith, line_below l k (ltb-true 15 k q) e))) (λ q. omega (arith, ltb-false 15 k q))

    all_low : (k : ℕ) → 0 < times k (clients_named r) → k < 16
    all_low k h =
        let x = times_append k (named_in tx) (names rx ++ named_in going) in
        let y = times_append k (names rx) (named_in going) in
        by_flag (ltb 0 (times k (named_in tx))) (λ e. named_low tx k tx_low (ltb-true 0 (times k (named_in tx)) e))
        (λ e. by_flag (ltb 0 (times k (names rx))) (λ f. line_low rx k rx_low (ltb-true 0 (times k (names rx)) f))
        (λ f. named_low going k going_low
        (omega (arith, x, y, ltb-false 0 (times k (named_in tx)) e, ltb-false 0 (times k (names rx)) f))))

    clients : twice_below r 16 ≡ repeats (clients_named r)
    clients =
        both_ways (twice_below r 16) (repeats (clients_named r))
        (λ t. found 16 t (λ k h x. names_again (clients_named r) k (rw (count_client k h) at (ltb→lt 1 (count_of r k) x))))
        (λ t. again_named (clients_named r) t
        (λ k h. let i = all_low k (omega arith) in is_below 16 k i (lt→ltb 1 (count_of r k) (rw (count_client k i) h))))

    count_own : (k : ℕ) → 15 < k → count_of r k ≡ one (own_has r k) + 0 + 0 + one (under_has r.under k)
    unfolding count_of
    count_own k h = rw (slot_below tx k h tx_low, line_below rx k h rx_low)

    twice_own : (k : ℕ) (a : Bool) → 15 < k → own_has r k ≡ a → twice k ≡ a && under_has r.under k
    twice_own k a h e = rw (count_own k h, e, own_twice)

    nowhere_own : (k : ℕ) (a : Bool) → 15 < k → own_has r k ≡ a → not (record_has r k) ≡ not (a || under_has r.under k)
    nowhere_own k a h e = rw (count_own k h, e, own_none)

  -- each own buffer once, by the transfer under way
  owns : (u : Under) → slot_above (under_slot u) ≡ false → (m rest : Bool)
      → (((m || (r.spi_tx && under_has u 16)) || (r.spi_rx && under_has u 17)) || (r.spi_buf && under_has u 18))
      || ((not (r.spi_tx || under_has u 16) || (not (r.spi_rx || under_has u 17) || not (r.spi_buf || under_has u 18))) || rest)
      ≡ m || (own_wrong u r || rest)
  owns Idle low m rest = simp (and-false, or-false, or_assoc)
  owns Register low m rest = simp (and-true, and-false, or-true, or-false, or_assoc)
  owns (FrameRead x) low m rest =
      rw (
        slot_below (Some x) 16 (lit< tt) low,
        slot_below (Some x) 17 (lit< tt) low,
      )
      (simp (and-true, and-false, or-true, or-false, or_assoc))
  owns (FrameWrite x) low m rest =
      rw (
        slot_below (Some x) 16 (lit< tt) low,
        slot_below (Some x) 17 (lit< tt) low,
      )
      (simp (and-true, and-false, or-true, or-false, or_assoc))
  owns (Waits o) low m rest = simp (and-false, or-false, or_assoc)

  pub uncounted : (rest : Bool) → recorded_twice r || (own_nowhere r || (client_above r || rest)) ≡ client_above r
      || (repeats (clients_named r) || (own_wrong r.under r || rest))
  uncounted rest =
      by_flag (client_above r) (λ e. rw e (simp or-true))
      (λ e.
      let t = only_16 r.spi_tx r.spi_rx r.spi_buf in
      let x = only_17 r.spi_tx r.spi_rx r.spi_buf in
      let s = only_18 r.spi_tx r.spi_rx r.spi_buf in
      rw (
        e,
        clients e,
        twice_own e 16 _ (lit< tt) t,
        twice_own e 17 _ (lit< tt) x,
        twice_own e 18 _ (lit< tt) s,
        nowhere_own e 16 _ (lit< tt) t,
        nowhere_own e 17 _ (lit< tt) x,
        nowhere_own e 18 _ (lit< tt) s,
      )
      (owns r.under (going_low e) (repeats (clients_named r)) rest))
