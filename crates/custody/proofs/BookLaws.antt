-- Laws for the book of custody: what numbers say of the places at which the record has a buffer, that the book keeps in step where one or
-- two buffers move, how many buffers a place has, and what the record's tests say. Assumes nothing.
use Rattle.std.proofs.Common.{◌≡◌, ℕ, zero, suc, ◌+◌, ◌*◌, ◌<◌, ◌≤◌, Bool, true, false, ◌||◌, T, eqb, ltb, List, [], ◌∷◌}
use Rattle.std.proofs.Common.{length, get_or, set, refl, ◌∙◌, arith, length-set, get_or-set_other, get_or-set_same, ltb-false, eq-eqb}
use Rattle.std.proofs.Common.{ne_eqb, eqb-true}
use borrow.Author.Tests.{eqb-false}
use lib.Dec.{lit<}
use Rattle.rf233.proofs.Conditions.{by_flag}
use Rattle.custody.specs.Book.{filled}
use Rattle.custody.specs.Claim.{only}
use Rattle.std.specs.Prelude.{Option, None, is_some}
use Rattle.rf233.specs.Described.{is_above}
use Rattle.rf233.specs.Line.{any_of, names}
use Rattle.rf233.specs.Record.{one, times}
use Rattle.laws.proofs.Logic.{none_left, none_right}
use Rattle.rf233.specs.declared.driver.Lent.{Lent}
use Rattle.rf233.specs.Choice.{one_of}
use Rattle.rf233.specs.Place.{client_place, own_place, transmit_place, receive_place, transfer_place, when, copies}
use Rattle.custody.proofs.UnderKind.{kind_of}

-- the places of a buffer: its own, transmit, n times the line, under way; how many they are, and the sum of their numbers
abbrev four : Bool → Bool → ℕ → Bool → List ℕ
four o t n w = when o own_place (when t transmit_place (copies n receive_place (when w transfer_place [])))

abbrev pub count_by : Bool → Bool → ℕ → Bool → ℕ
count_by o t n w = one o + one t + n + one w

abbrev pub sum_by : Bool → Bool → ℕ → Bool → ℕ
sum_by o t n w = one o * own_place + one t * transmit_place + n * receive_place + one w * transfer_place

-- where there is one at most the sum says which: it is the place's number
pub fit : (o t : Bool) (n : ℕ) (w : Bool) → count_by o t n w ≤ 1
    → (four o t n w ≡ only (sum_by o t n w)) × (one (eqb (sum_by o t n w) transmit_place) ≡ one t)
    × (one (eqb (sum_by o t n w) receive_place) ≡ n)
fit o t zero w h = grind arith
fit o t (suc zero) w h = grind arith
fit o t (suc (suc n)) w h = absurd (omega arith)

-- and where it is its own place or the transfer's, the sum is that place's number
pub own_or_under : (o t : Bool) (n : ℕ) (w : Bool) → 1 ≤ one o + one w → count_by o t n w ≤ 1
    → T (one_of (own_place ∷ transfer_place ∷ []) (sum_by o t n w))
own_or_under o t zero w i h = grind arith
own_or_under o t (suc n) w i h = absurd (omega arith)

pub same : (c : ℕ) → eqb c c ≡ true
same c = eq-eqb c c refl

-- buffer c put from place q to place p
put : (l : List ℕ) (c p q : ℕ) → c < length l → get_or l c client_place ≡ q → (b : ℕ)
    → get_or (set l c p) b client_place + one (eqb c b) * q ≡ get_or l b client_place + one (eqb c b) * p
put l c p q s e b = grind (arith, get_or-set_same, get_or-set_other)

-- a sum over the buffers below n; of equal numbers, and with one more for buffer c
unfoldable pub sum : (ℕ → ℕ) → ℕ → ℕ
sum f zero = 0
sum f (suc n) = sum f n + f n

sum_same : (f g : ℕ → ℕ) (n : ℕ) → ((b : ℕ) → b < n → f b ≡ g b) → sum f n ≡ sum g n
unfolding sum
sum_same f g zero e = refl
sum_same f g (suc n) e = rw (sum_same f g n (λ b h. e b (omega arith)), e n (omega arith))

sum_more : (f g : ℕ → ℕ) (c n : ℕ) → c < n → ((b : ℕ) → f b ≡ g b + one (eqb c b)) → sum f n ≡ sum g n + 1
unfolding sum
sum_more f g c zero h e = absurd (omega arith)
sum_more f g c (suc n) h e =
    by_flag (eqb c n)
    (λ z. let y = eqb-true c n z in
    omega (arith, rw z at (e n), sum_same f g n (λ b i. omega (arith, rw (ne_eqb c b (λ x. omega arith)) at (e b)))))
    (λ z. let y = eqb-false c n z in omega (arith, rw z at (e n), sum_more f g c n (omega arith) e))

-- Buffer b is at n b places, and the numbers of these places make s b. The book's places l and its counts a, h and d are right: each
-- buffer is at one place at most, which is the one that l has, and of 0 to 15 as many are at a place as were accepted and did not go back
pub record Booked (n s : ℕ → ℕ) (l : List ℕ) (a h d : ℕ) : Type 0 where
  pub sized : length l ≡ 19
  pub placed : (b : ℕ) → b < 19 → (n b ≤ 1) × (get_or l b client_place ≡ s b)
  pub counted : a ≡ h + d + sum n 16

-- p for buffer w, q for buffer r, 0 for any other
abbrev pub both : ℕ → ℕ → ℕ → ℕ → ℕ → ℕ
both w p r q b = one (eqb w b) * p + one (eqb r b) * q

-- n and s become n' and s' with buffer c at place p besides
pub record More (c p : ℕ) (n s n' s' : ℕ → ℕ) : Type 0 where
  pub counts : (b : ℕ) → n' b ≡ n b + one (eqb c b)
  pub moves : (b : ℕ) → s' b ≡ s b + one (eqb c b) * p
  pub nowhere : n c ≡ 0 → s c ≡ 0

module _ {n s n' s' : ℕ → ℕ} {l : List ℕ} {a h d : ℕ} where
  -- where no buffer moves
  pub none_moved : Booked n s l a h d → ((b : ℕ) → n' b ≡ n b) → ((b : ℕ) → s' b ≡ s b) → Booked n' s' l a h d
  none_moved m u v =
      record {
        sized = m.sized;
        placed = λ b i. omega (arith, m.placed b i, u b, v b);
        counted = m.counted ∙ rw (sum_same n' n 16 (λ b i. u b));
      }

  -- THE LAW OF TWO BUFFERS: w goes from p to p' and r from q to q', and each buffer is at as many places as before
  pub two_moved : Booked n s l a h d → (w r p q p' q' : ℕ) → w < 19 → r < 19 → eqb w r ≡ false
      → get_or l w client_place ≡ p → get_or l r client_place ≡ q → ((b : ℕ) → n' b ≡ n b)
      → ((b : ℕ) → s' b + both w p r q b ≡ s b + both w p' r q' b) → Booked n' s' (set (set l w p') r q') a h d
  two_moved m w r p q p' q' i j e f g u v =
      let first = put l w p' p (omega (arith, m.sized)) f in
      let held : get_or (set l w p') r client_place ≡ q = omega (arith, rw e at (first r)) in
      let second = put (set l w p') r q' q (rw length-set (omega (arith, m.sized))) held in
      record {
        sized = simp length-set m.sized;
        placed = λ b i. omega (arith, m.placed b i, u b, v b, first b, second b);
        counted = m.counted ∙ rw (sum_same n' n 16 (λ b i. u b));
      }

  -- THE LAW OF ONE BUFFER: c comes from the client to p, or goes from p to the client
  pub comes : {c p : ℕ} → More c p n s n' s' → Booked n s l a h d → c < 16 → n c ≡ 0
      → (get_or l c client_place ≡ client_place) × Booked n' s' (set l c p) (a + 1) h d
  comes {c} {p} v m i e =
      let f : get_or l c client_place ≡ 0 = omega (arith, m.placed c (omega arith), v.nowhere e) in (
        f,
        record {
          sized = rw length-set m.sized;
          placed = λ b j. (
            by_flag (eqb c b) (λ y. rw (← eqb-true c b y) (omega (arith, rw (same c) at (v.counts c))))
                (λ y. omega (arith, m.placed b j, rw y at (v.counts b))),
            omega (arith, m.placed b j, v.moves b, put l c p 0 (omega (arith, m.sized)) f b),
          );
          counted = omega (arith, m.counted, sum_more n' n c 16 i v.counts);
        },
      )

  pub goes : {c p : ℕ} → More c p n s n' s' → Booked n' s' l a h d → c < 16 → (x y : ℕ) → x + y ≡ 1
      → (get_or l c client_place ≡ p) × Booked n s (set l c client_place) a (h + x) (d + y)
  goes {c} {p} v m i x y e =
      let j = m.placed c (omega arith) in
      let g = rw (same c) at (v.counts c) in
      let f : get_or l c client_place ≡ p = omega (arith, rw (same c) at (v.moves c), v.nowhere (omega arith)) in (
        f,
        record {
          sized = rw length-set m.sized;
          placed = λ b j. omega (arith, m.placed b j, v.counts b, v.moves b, put l c 0 p (omega (arith, m.sized)) f b);
          counted = omega (arith, m.counted, sum_more n' n c 16 i v.counts);
        },
      )

-- how many buffers are at a place: no more than there are; none where none is there; as many as a list names, each below n
one_most : (v : Bool) → one v ≤ 1
one_most v = grind arith

pub filled_most : (p : ℕ) (l : List ℕ) (n : ℕ) → filled p l n ≤ n
unfolding filled
filled_most p l zero = omega arith
filled_most p l (suc n) = omega (arith, filled_most p l n, one_most (eqb (get_or l n client_place) p))

pub filled_none : (p : ℕ) (l : List ℕ) (n : ℕ) → ((b : ℕ) → b < n → one (eqb (get_or l b client_place) p) ≡ 0) → filled p l n ≡ 0
unfolding filled
filled_none p l zero h = refl
filled_none p l (suc n) h = rw (filled_none p l n (λ b i. h b (omega arith)), h n (omega arith))

filled_sum : (p : ℕ) (l : List ℕ) (n : ℕ) → filled p l n ≡ sum (λ b. one (eqb (get_or l b client_place) p)) n
unfolding filled sum
filled_sum p l zero = refl
filled_sum p l (suc n) = rw (filled_sum p l n)

sum_none : (n : ℕ) → sum (λ b. 0) n ≡ 0
unfolding sum
sum_none zero = refl
sum_none (suc n) = omega (arith, sum_none n)

sum_times : (l : List Lent) (n : ℕ) → 15 < n → any_of is_above l ≡ false → sum (λ b. times b (names l)) n ≡ length l
sum_times [] n h e = sum_none n
sum_times (x ∷ l) n h e =
    let low = ltb-false 15 x.buffer (none_left (is_above x) (any_of is_above l) e) in
    omega (
      arith,
      sum_more (λ b. times b (names (x ∷ l))) (λ b. times b (names l)) x.buffer n (omega arith) (λ b. omega arith),
      sum_times l n h (none_right (is_above x) (any_of is_above l) e),
    )

pub filled_line : (l : List ℕ) (x : List Lent) → any_of is_above x ≡ false
    → ((b : ℕ) → b < 19 → one (eqb (get_or l b client_place) receive_place) ≡ times b (names x)) → filled receive_place l 19 ≡ length x
filled_line l x e f =
    filled_sum receive_place l 19 ∙ (sum_same _ (λ b. times b (names x)) 19 f ∙ sum_times x 19 (lit< tt) e)

-- what is the same for both directions of a register transfer is told by the kind without its direction
pub as_kind : {A : Type 0} (f : ℕ → A) (n : ℕ) → f 2 ≡ f 1 → f n ≡ f (kind_of n)
as_kind f n e = grind arith

-- no buffer in a place
pub empty_is : (s : Option Lent) → is_some s ≡ false → s ≡ None
empty_is s e = grind arith

-- of at most one a test makes the same number
pub some_one : (n : ℕ) → n ≤ 1 → one (ltb 0 n) ≡ n
some_one n h = grind arith

-- a client's buffer is below 16
pub low : (c : ℕ) → ltb 15 c ≡ false → c < 16
low c e = omega (arith, ltb-false 15 c e)
