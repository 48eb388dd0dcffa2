-- The driver's record and the book agree: `Match`, and each move of buffers keeps it: a transfer that begins or ends, a buffer lent or
-- handed back. From the laws of one and of two buffers; from this alone there is no fault. Assumes nothing.
use Rattle.std.proofs.Common.{◌≡◌, ℕ, zero, suc, ◌+◌, ◌<◌, ◌≤◌, Bool, true, false, not, ◌&&◌, ◌||◌, T, eqb, ltb, leb, [], ◌∷◌, get_or, sym}
use Rattle.std.proofs.Common.{refl, ◌∙◌, arith, eqb→eq, leb→le, ltb-false, le-ltb, lt-ltb, ne_eqb, eqb-true, subst}
use mathlib.Core.Bool.{and-true, or-false, or_assoc}
use mathlib.Core.List.{List}
use mathlib.Core.Path.{ap}
use lib.Dec.{lit≤}
use lib.ListN.{length}
use Rattle.std.proofs.Math.Bool.{or_comm}
use borrow.Author.Tests.{eqb-false, leb-false}
use Rattle.rf233.specs.Decline.{waiting}
use Rattle.rf233.specs.declared.driver.Offer.{Offer}
use Rattle.rf233.specs.declared.driver.Offer.TheVariants as offer
use Rattle.rf233.proofs.Conditions.{by_flag}
use Rattle.laws.proofs.Logic.{left, right, none_left, none_right, or_left_comm, below_at, clash}
use Rattle.rf233.proofs.OwnBuffers.{of_two, of_three, of_first, idle_is}
use Rattle.custody.proofs.BookLaws.{count_by, sum_by, fit, own_or_under, sum, Booked, both, More}
use Rattle.custody.proofs.BookLaws.{none_moved, two_moved, comes, goes, filled_none, filled_line, as_kind, empty_is, some_one, low, same}
use Rattle.rf233.proofs.LineLaws.{listed_is, listed_behind, listed_rotate, front_behind, length_append, length_rotate, times_append}
use Rattle.rf233.proofs.LineLaws.{times_rotate, any_append, any_rotate}
use Rattle.custody.specs.Book.{Fed as fed}
use Rattle.custody.specs.Book.{Page, new_page, missing, write_from, read_from, filled, room, full, brought, ended, given, names_own, taken}
use Rattle.custody.specs.Book.{acts, turned_down, called}
use Rattle.custody.specs.Claim.{only, held_below}
use Rattle.std.specs.Prelude.{Option, None, Some, is_some}
use Rattle.rf233.specs.Transfer.{kind_no}
use Rattle.rf233.specs.Line.{line_room, line, front, behind, append, any_of, names}
use Rattle.rf233.specs.Record.{one, slot_has, under_has, times, count_of, record_has, tx_under_way, rx_under_way, receive_count}
use Rattle.rf233.specs.Choice.{one_of}
use Rattle.rf233.specs.Completion.{buffers_back, places_back}
use Rattle.rf233.specs.Case.{without_tx, without_front, rotated}
use Rattle.rf233.specs.Create.{new_driver}
use Rattle.rf233.specs.Described.{is_above, slot_above, under_slot, twice_below, recorded_twice, own_nowhere, held_besides, crowded}
use Rattle.rf233.specs.Starter.{buffers_away}
use Rattle.rf233.specs.Transfer.{under_way, free_to_start, to_complete, to_resume, waits}
use Rattle.rf233.specs.Driver.{with_tx, with_line, with_tx_len, with_under}
use Rattle.rf233.specs.declared.answer.Reply.{Reply}
use Rattle.rf233.specs.declared.driver.Buffers.{Buffers}
use Rattle.rf233.specs.declared.driver.Lent.{Lent}
use Rattle.rf233.specs.declared.driver.Under.{Under}
use Rattle.rf233.specs.declared.driver.Under.TheVariants.{Idle, Register, FrameRead, FrameWrite, Waits}
use Rattle.rf233.specs.Place.{client_place, own_place, transmit_place, receive_place, transfer_place, places_of}
use Rattle.custody.proofs.UnderKind.{kind_of, under_kind, under_write, under_read, waiting_kind}

-- no frame transfer is under way
abbrev no_frame : Under → Bool
no_frame u = ltb (under_kind u) 3

-- the own buffers are in their places exactly while no transfer has them
pub record Own (a b c : Bool) (u : Under) : Type 0 where
  pub tx : a ≡ not (eqb (under_kind u) 1)
  pub rx : b ≡ not (eqb (under_kind u) 1)
  pub buf : c ≡ no_frame u

-- b is an own buffer, in its place while u is under way
abbrev own_place_in : Under → ℕ → Bool
own_place_in u b = (not (eqb (under_kind u) 1) && eqb 16 b) || ((not (eqb (under_kind u) 1) && eqb 17 b) || (no_frame u && eqb 18 b))

-- with t in the transmit place, x in the line and u under way: at how many places buffer b is, and the sum of the places' numbers
abbrev count : Option Lent → List Lent → Under → ℕ → ℕ
count t x u b = count_by (own_place_in u b) (slot_has t b) (times b (names x)) (under_has u b)

abbrev spots : Option Lent → List Lent → Under → ℕ → ℕ
spots t x u b = sum_by (own_place_in u b) (slot_has t b) (times b (names x)) (under_has u b)

-- a client's place or the line has a buffer that is not a client's
abbrev high : Option Lent → List Lent → Under → Bool
high t x u = slot_above t || (any_of is_above x || slot_above (under_slot u))

-- how many receive buffers there are, with x in the line and u under way
abbrev receives : List Lent → Under → ℕ
receives x u = length x + one (is_some (rx_under_way u))

-- the transfer under way, or the one that waits, is the one that the book has
pub record Going (u : Under) (n w r z : ℕ) : Type 0 where
  pub kind : kind_of n ≡ under_kind u
  pub write : w ≡ under_write u
  pub read : r ≡ under_read u
  pub waits : kind_of z ≡ waiting_kind u

-- a record agrees with the book: by the own buffers' places, the transmit place, the line and the transfer under way
pub record Matched (a b c : Bool) (t : Option Lent) (x : List Lent) (u : Under) (k : Page) : Type 0 where
  pub faultless : k.fault ≡ false
  pub booked : Booked (count t x u) (spots t x u) k.places k.accepted k.handed k.dropped
  pub going : Going u k.kind k.write k.read k.waits
  pub own : Own a b c u
  pub below : high t x u ≡ false
  pub room : receives x u ≤ line_room

-- the record r, as if u were under way; its lengths are not looked at
abbrev MatchWith : Under → Buffers → Page → Type 0
MatchWith u r k = Matched r.spi_tx r.spi_rx r.spi_buf r.tx_buf (line r) u k

abbrev pub Match : Buffers → Page → Type 0
Match r k = MatchWith r.under r k

-- a buffer that the book has at a place is not missing there
there : (k : Page) (c q : ℕ) → c < 19 → get_or k.places c client_place ≡ q → missing c q k.places ≡ false
there k c q i e = grind arith

-- ---- a transfer's two buffers

-- the transmit place and the line: t and x while transfer u has not taken its buffers, t' and x' while it has them
data Takes : Under → Option Lent → List Lent → Option Lent → List Lent → Type 0 where
  register : {t : Option Lent} {x : List Lent} → Takes Register t x t x
  reading : {t : Option Lent} {x : List Lent} {y : Lent} → Takes (FrameRead y) t (y ∷ x) t x
  writing : {x : List Lent} {y : Lent} → Takes (FrameWrite y) (Some y) x None x

-- the two compared, by the kind of transfer: its beginning and its end both go by this
record Differ (u : Under) (t : Option Lent) (x : List Lent) (t' : Option Lent) (x' : List Lent) : Type 0 where
  lows : (under_write u < 19) × (under_read u < 19)
  apart : eqb (under_write u) (under_read u) ≡ false
  has : (under_has u (under_write u) ≡ true) × (under_has u (under_read u) ≡ true)
  kinds : (eqb (under_kind u) 0 ≡ false) × (ltb 4 (under_kind u) ≡ false) × (names_own (under_kind u) (under_write u) (under_read u) ≡ true)
  waits : waiting_kind u ≡ 0
  counts : (b : ℕ) → count t' x' u b ≡ count t x Idle b
  moves : (b : ℕ) → spots t' x' u b + both (under_write u) (write_from (under_kind u)) (under_read u) (read_from (under_kind u)) b
      ≡ spots t x Idle b + both (under_write u) transfer_place (under_read u) transfer_place b

differ : {u : Under} {t t' : Option Lent} {x x' : List Lent} → Takes u t x t' x' → high t' x' u ≡ false → Differ u t x t' x'
differ register e =
    record {
      lows = omega arith;
      apart = refl;
      has = (refl, refl);
      kinds = (refl, refl, refl);
      waits = refl;
      counts = λ b. omega (arith, of_three b, of_two 16 17 b refl);
      moves = λ b. omega (arith, of_three b, of_two 16 17 b refl);
    }
differ (reading {t} {x} {y}) e =
    let c = y.buffer in
    let h = low c (none_right (any_of is_above x) (ltb 15 c) (none_right (slot_above t) _ e)) in
    let d = ne_eqb 18 c (λ z. omega arith) in
    record {
      lows = omega arith;
      apart = d;
      has = (refl, rw (d, same c));
      kinds = (refl, refl, refl);
      waits = refl;
      counts = λ b. omega (arith, of_three b, of_first b, of_two 18 c b d);
      moves = λ b. omega (arith, of_three b, of_first b, of_two 18 c b d);
    }
differ (writing {x} {y}) e =
    let c = y.buffer in
    let h = low c (none_right (any_of is_above x) (ltb 15 c) e) in
    let d = ne_eqb 18 c (λ z. omega arith) in
    record {
      lows = omega arith;
      apart = ne_eqb c 18 (λ z. omega arith);
      has = (rw (d, same c), refl);
      kinds = (refl, refl, refl);
      waits = refl;
      counts = λ b. omega (arith, of_three b, of_first b, of_two 18 c b d);
      moves = λ b. omega (arith, of_three b, of_first b, of_two 18 c b d);
    }

high_same : {u : Under} {t t' : Option Lent} {x x' : List Lent} → Takes u t x t' x' → high t' x' u ≡ high t x Idle
high_same register = refl
high_same (reading {t} {x} {y}) = ap (λ v. slot_above t || v) (or_comm (any_of is_above x) (is_above y) ∙ sym (rw or-false))
high_same (writing {x} {y}) = sym (or_left_comm (ltb 15 y.buffer) (any_of is_above x) false ∙ rw or-false)

-- and there are as many receive buffers
receives_same : {u : Under} {t t' : Option Lent} {x x' : List Lent} → Takes u t x t' x' → receives x' u ≡ receives x Idle
receives_same register = refl
receives_same reading = omega arith
receives_same writing = refl

-- what the transfer under way has, the book has with it
with_it : (t : Option Lent) (x : List Lent) (u : Under) (b : ℕ) → under_has u b ≡ true → count t x u b ≤ 1 → spots t x u b ≡ 4
with_it t x u b e h = rw e (omega (arith, rw e at h))

module _ {a b c a' b' c' : Bool} {u : Under} {t t' : Option Lent} {x x' : List Lent} {k : Page} (s : Takes u t x t' x') where
  -- it begins where none is under way
  begins_at : Matched a b c t x Idle k → Own a' b' c' u → (n : ℕ) → kind_of n ≡ under_kind u
      → Matched a' b' c' t' x' u (taken n (under_write u) (under_read u) k)
  begins_at m o n e =
      let l = k.places in
      let w = under_write u in
      let r = under_read u in
      let v = differ s (high_same s ∙ m.below) in
      let i = m.booked.placed w v.lows.0 in
      let j = m.booked.placed r v.lows.1 in
      let back = ne_eqb r w (λ z. eqb-false w r v.apart (sym z)) in
      let y = with_it t' x' u w v.has.0 (omega (arith, v.counts w)) in
      let z = with_it t' x' u r v.has.1 (omega (arith, v.counts r)) in
      let p : get_or k.places w client_place ≡ write_from (under_kind u) = omega (arith, rw (same w, back) at (v.moves w)) in
      let q : get_or k.places r client_place ≡ read_from (under_kind u) = omega (arith, rw (same r, v.apart) at (v.moves r)) in
      record {
        faultless =
            rw (
              m.faultless,
              as_kind (λ n. eqb n 0) k.kind refl,
              m.going.kind,
              as_kind (λ n. eqb n 0) k.waits refl,
              m.going.waits,
              as_kind (λ n. ltb 4 n || (not (names_own n w r) || (missing w (write_from n) l || missing r (read_from n) l))) n refl,
              e,
              v.kinds.1,
              v.kinds.2,
              there k w _ v.lows.0 p,
              there k r _ v.lows.1 q,
            );
        booked = two_moved m.booked w r _ _ 4 4 v.lows.0 v.lows.1 v.apart p q v.counts v.moves;
        going = record { kind = e; write = refl; read = refl; waits = m.going.waits ∙ sym v.waits };
        own = o;
        below = high_same s ∙ m.below;
        room = omega (arith, receives_same s, m.room);
      }

  -- it ends, and none waits then
  ends_at : Matched a b c t' x' u k → Own a' b' c' Idle → Matched a' b' c' t x Idle (ended 0 k)
  ends_at m o =
      let w = under_write u in
      let r = under_read u in
      let v = differ s m.below in
      let i = m.booked.placed w v.lows.0 in
      let j = m.booked.placed r v.lows.1 in
      let p : get_or k.places w client_place ≡ 4 = i.1 ∙ with_it t' x' u w v.has.0 i.0 in
      let q : get_or k.places r client_place ≡ 4 = j.1 ∙ with_it t' x' u r v.has.1 j.0 in
      rw (
        as_kind (λ n. eqb n 0) k.kind refl,
        as_kind write_from k.kind refl,
        as_kind read_from k.kind refl,
        m.going.kind,
        m.going.write,
        m.going.read,
        v.kinds.0,
      )
      (record {
        faultless = m.faultless;
        booked =
            two_moved m.booked w r 4 4 _ _ v.lows.0 v.lows.1 v.apart p q (λ b. sym (v.counts b)) (λ b. sym (v.moves b));
        going = record { kind = refl; write = refl; read = refl; waits = refl };
        own = o;
        below = sym (high_same s) ∙ m.below;
        room = omega (arith, receives_same s, m.room);
      })

-- none is of kind 0
none_of : (n : ℕ) → kind_of n ≡ 0 → n ≡ 0
none_of n e = grind arith

-- while a transfer is under way none waits, and its kind is not 0
none_waits : (u : Under) → under_way u ≡ true → waiting_kind u ≡ 0
none_waits u i = grind arith

-- once it is over it may wait
may_wait : {a b c : Bool} {t : Option Lent} {x : List Lent} (k : Page) (o : Offer) (z : ℕ) → kind_of z ≡ waiting_kind (Waits o)
    → Matched a b c t x Idle (ended 0 k) → Matched a b c t x (Waits o) (ended z k)
may_wait k o z e m =
    by_flag (eqb k.kind 0) (λ h. clash (ended 0 k).fault m.faultless (rw h refl))
    (λ h.
    let n = rw h at m in
    rw h (record {
      faultless = n.faultless;
      booked = n.booked;
      going = record { kind = refl; write = refl; read = refl; waits = e };
      own = record { tx = n.own.tx; rx = n.own.rx; buf = n.own.buf };
      below = n.below;
      room = n.room;
    }))

-- the client's buffer of transfer u is in its place, or at the front of the line
abbrev pub Ready : Under → Buffers → Type 0
Ready Idle r = ⊥
Ready Register r = Unit
Ready (FrameRead x) r = front (line r) ≡ Some x
Ready (FrameWrite x) r = r.tx_buf ≡ Some x
Ready (Waits o) r = ⊥

-- ---- a client's buffer

-- the transmit place and the line: t and x without client's buffer c, t' and x' with it at place p
record Lending (c p : ℕ) (u : Under) (t : Option Lent) (x : List Lent) (t' : Option Lent) (x' : List Lent) : Type 0 where
  more : More c p (count t x u) (spots t x u) (count t' x' u) (spots t' x' u)
  highs : high t' x' u ≡ ltb 15 c || high t x u
  grows : length x ≤ length x'

lent_tx : {u : Under} {x : List Lent} (y : Lent) → Lending y.buffer transmit_place u None x (Some y) x
lent_tx y = record { more = omega arith; highs = refl; grows = omega arith }

-- at the end of the line it comes, at the front it goes
lent_rx : {u : Under} {t : Option Lent} {x : List Lent} (y : Lent) → Lending y.buffer receive_place u t x t (append x y)
lent_rx {u} {t} {x} y =
    let g = slot_above (under_slot u) in
    record {
      more =
          record {
            counts = λ b. omega (arith, times_append b x y);
            moves = λ b. omega (arith, times_append b x y);
            nowhere = λ h. omega arith;
          };
      highs =
          ap (λ v. slot_above t || (v || g)) (any_append is_above x y ∙ or_left_comm (any_of is_above x) (is_above y) false)
          ∙ highs_rx (slot_above t) (is_above y) (any_of is_above x) g;
      grows = omega (arith, length_append x y);
    }
  where
    highs_rx : (t c v g : Bool) → t || ((c || (v || false)) || g) ≡ c || (t || (v || g))
    highs_rx t c v g = rw or-false (rw (or_assoc c v g) (or_left_comm t c (v || g)))

front_rx : {u : Under} {t : Option Lent} {x : List Lent} (y : Lent) → Lending y.buffer receive_place u t x t (y ∷ x)
front_rx {u} {t} {x} y =
    record {
      more = omega arith;
      highs = rw (or_assoc (is_above y) (any_of is_above x) (slot_above (under_slot u))) (or_left_comm (slot_above t) (is_above y) _);
      grows = omega arith;
    }

module _ {a b d : Bool} {c p : ℕ} {u : Under} {t t' : Option Lent} {x x' : List Lent} {k : Page} (v : Lending c p u t x t' x') where
  -- it comes, from the client
  lends_at : Matched a b d t x u k → c < 16 → count t x u c ≡ 0 → full p k ≡ false → receives x' u ≤ line_room
      → Matched a b d t' x' u (brought c p k)
  lends_at m h e f r =
      let (g, s) = comes v.more m.booked h e in
      record {
        faultless = rw (m.faultless, there k c 0 (omega arith) g, f);
        booked = s;
        going = m.going;
        own = m.own;
        below = rw (v.highs, le-ltb 15 c (omega arith)) m.below;
        room = r;
      }

  -- it goes, to the client
  gives_at : Matched a b d t' x' u k → (i j : ℕ) → i + j ≡ 1 → Matched a b d t x u (given c p i j k)
  gives_at m i j e =
      let o : ltb 15 c || high t x u ≡ false = sym v.highs ∙ m.below in
      let h = low c (none_left (ltb 15 c) (high t x u) o) in
      let (g, s) = goes v.more m.booked h i j e in
      record {
        faultless = rw (m.faultless, there k c p (omega arith) g);
        booked = s;
        going = m.going;
        own = m.own;
        below = none_right (ltb 15 c) (high t x u) o;
        room = omega (arith, v.grows, m.room);
      }

-- whether a transfer took a buffer from the transmit or the receive place
took : (u : Under) → (eqb (write_from (under_kind u)) 2 || eqb (read_from (under_kind u)) 2 ≡ is_some (tx_under_way u))
    × (eqb (write_from (under_kind u)) 3 || eqb (read_from (under_kind u)) 3 ≡ is_some (rx_under_way u))
took u = grind arith

-- an own buffer is in its place or under way
abbrev own_or : Under → ℕ → ℕ
own_or u b = one (own_place_in u b) + one (under_has u b)

own_in : (u : Under) → (1 ≤ own_or u 16) × (1 ≤ own_or u 17) × (1 ≤ own_or u 18)
own_in u = grind arith

-- 16, 17 and 18 are the numbers from 16 on that are below 19
from_three : (P : ℕ → Type 0) → P 16 → P 17 → P 18 → (b : ℕ) → 16 ≤ b → b < 19 → P b
from_three P x y z b least most =
    by_flag (eqb b 16) (λ e. rw (eqb-true b 16 e) x)
    (λ e. by_flag (eqb b 17) (λ f. rw (eqb-true b 17 f) y)
    (λ f. let last : b ≡ 18 = omega (arith, eqb-false b 16 e, eqb-false b 17 f) in rw last z))

-- ---- the moves, of a record

module _ (r : Buffers) (k : Page) (m : Match r k) where
  -- a transfer begins, of either direction where it is a register's
  pub begins : (u : Under) (n : ℕ) → Ready u r → kind_of n ≡ under_kind u → free_to_start r ≡ true
      → Match (buffers_away u r) (taken n (under_write u) (under_read u) k)
  begins u n y e i = go u y e (rw (idle_is r.under i) at m)
    where
      go : (u : Under) → Ready u r → kind_of n ≡ under_kind u → MatchWith Idle r k
          → Match (buffers_away u r) (taken n (under_write u) (under_read u) k)
      go Idle y e m = absurd y
      go Register y e m = begins_at register m (record { tx = refl; rx = refl; buf = m.own.buf }) n e
      go (FrameRead x) y e m =
          let l = behind (line r) in
          let first : Matched r.spi_tx r.spi_rx r.spi_buf r.tx_buf (x ∷ l) Idle k = rw (← front_behind (line r) x y) m in
          rw (listed_behind r.rx_line)
          (begins_at (reading {x = l}) first (record { tx = m.own.tx; rx = m.own.rx; buf = refl }) n e)
      go (FrameWrite x) y e m = begins_at (rw y writing) m (record { tx = m.own.tx; rx = m.own.rx; buf = refl }) n e
      go (Waits o) y e m = absurd y

  -- the transfer ends; the transmit place is empty where a frame write's buffer comes back to it
  ends_none : to_complete r ≡ true → held_besides r ≡ false → Match (buffers_back Idle r) (ended 0 k)
  ends_none i h = go r.under i h m
    where
      go : (u : Under) → under_way u ≡ true
          → is_some r.tx_buf && is_some (tx_under_way u) ≡ false
          → MatchWith u r k → MatchWith Idle (places_back u r) (ended 0 k)
      go Idle i h m = let z : ◌≡◌ {A = ℕ} 0 1 = cc in absurd (omega arith)
      go Register i h m = ends_at register m (record { tx = refl; rx = refl; buf = m.own.buf })
      go (FrameRead x) i h m =
          rw (listed_is (x ∷ line r) (omega (arith, m.room)))
          (ends_at reading m (record { tx = m.own.tx; rx = m.own.rx; buf = refl }))
      go (FrameWrite x) i h m =
          ends_at (rw (empty_is r.tx_buf (rw and-true at h)) writing) m
          (record { tx = m.own.tx; rx = m.own.rx; buf = refl })
      go (Waits o) i h m = let z : ◌≡◌ {A = ℕ} 0 1 = cc in absurd (omega arith)

  -- so it does at a completion, where none waits, and at a decline, where it waits itself
  pub ends : to_complete r ≡ true → held_besides r ≡ false → Match (buffers_back Idle r) (called fed.completes k)
  ends i h =
      subst (λ z. Match (buffers_back Idle r) (ended z k)) (sym (none_of k.waits (m.going.waits ∙ none_waits r.under i))) (ends_none i h)

  pub parks : to_complete r ≡ true → held_besides r ≡ false → Match (buffers_back (waiting r.under) r) (called fed.declines k)
  parks i h = go r.under i m.going.kind (ends_none i h)
    where
      go : (u : Under) → under_way u ≡ true → kind_of k.kind ≡ under_kind u → MatchWith Idle (places_back r.under r) (ended 0 k)
          → MatchWith (waiting u) (places_back r.under r) (ended k.kind k)
      go Register i e n = may_wait k offer.Register k.kind e n
      go (FrameRead x) i e n = may_wait k offer.FrameRead k.kind e n
      go (FrameWrite x) i e n = may_wait k offer.FrameWrite k.kind e n
      go Idle i e n = clash false refl i
      go (Waits o) i e n = clash false refl i

  -- a transfer that waits does so no more
  pub unparks : to_resume r ≡ true → Match (with_under Idle r) (called fed.resumes k)
  unparks i = go r.under i m
    where
      go : (u : Under) → waits u ≡ true → MatchWith u r k → MatchWith Idle r (called fed.resumes k)
      go (Waits o) i m =
          record {
            faultless = m.faultless;
            booked = m.booked;
            going = record { kind = m.going.kind; write = m.going.write; read = m.going.read; waits = refl };
            own = record { tx = m.own.tx; rx = m.own.rx; buf = m.own.buf };
            below = m.below;
            room = m.room;
          }
      go Idle i m = clash false refl i
      go Register i m = clash false refl i
      go (FrameRead x) i m = clash false refl i
      go (FrameWrite x) i m = clash false refl i

  -- what the agreement says of the record: at how many places it has a buffer, and at which
  count_is : (b : ℕ) → count_of r b ≡ count r.tx_buf (line r) r.under b
  unfolding count_of
  count_is b = rw (m.own.tx, m.own.rx, m.own.buf)

  pub fitted : (b : ℕ) → b < 19
      → (places_of r b ≡ only (get_or k.places b client_place))
      × (one (eqb (get_or k.places b client_place) transmit_place) ≡ one (slot_has r.tx_buf b))
      × (one (eqb (get_or k.places b client_place) receive_place) ≡ times b (names (line r)))
  fitted b h =
      rw (m.own.tx, m.own.rx, m.own.buf, (m.booked.placed b h).1)
      (fit (own_place_in r.under b) (slot_has r.tx_buf b) (times b (names (line r))) (under_has r.under b) (m.booked.placed b h).0)

  -- what it does not have is at no place
  free : (b : ℕ) → record_has r b ≡ false → count r.tx_buf (line r) r.under b ≡ 0
  free b e = omega (arith, count_is b, ltb-false 0 (count_of r b) e)

  -- the sum, by the driver's record
  pub counted_in_record : k.accepted ≡ k.handed + k.dropped + held_below r 16
  unfolding sum
  counted_in_record = rw (held 16 (omega arith)) m.booked.counted
    where
      held : (n : ℕ) → n ≤ 16 → held_below r n ≡ sum (count r.tx_buf (line r) r.under) n
      held zero h = refl
      held (suc n) h = rw (held n (omega arith), count_is n, some_one _ (m.booked.placed n (omega arith)).0)

  -- two clauses of refusal 12 do not hold
  pub once : recorded_twice r ≡ false
  once = twice_none 19 (omega arith)
    where
      twice_none : (n : ℕ) → n ≤ 19 → twice_below r n ≡ false
      twice_none zero h = refl
      twice_none (suc n) h = rw (twice_none n (omega arith), count_is n, le-ltb 1 _ (m.booked.placed n (omega arith)).0)

  own_has_lem : (b : ℕ) → 1 ≤ own_or r.under b → record_has r b ≡ true
  own_has_lem b h = lt-ltb 0 (count_of r b) (omega (arith, count_is b))

  -- an own buffer is at one place, its own or the transfer's
  own_placed : (b : ℕ) → b < 19 → 1 ≤ own_or r.under b → T (one_of (own_place ∷ transfer_place ∷ []) (get_or k.places b client_place))
  own_placed b h o =
      rw (m.booked.placed b h).1
      (own_or_under (own_place_in r.under b) (slot_has r.tx_buf b) (times b (names (line r))) (under_has r.under b) o
      (m.booked.placed b h).0)

  pub own_kept : (b : ℕ) → 16 ≤ b → b < 19 → T (one_of (own_place ∷ transfer_place ∷ []) (get_or k.places b client_place))
  own_kept b least most =
      let o = own_in r.under in
      own_placed b most (from_three (λ b. 1 ≤ own_or r.under b) o.0 o.1 o.2 b least most)

  pub somewhere : own_nowhere r ≡ false
  somewhere = let o = own_in r.under in rw (own_has_lem 16 o.0, own_has_lem 17 o.1, own_has_lem 18 o.2)

  -- the buffer in the transmit place goes back to its client, handed or dropped
  pub gives_tx : (x : Lent) (i j : ℕ) → r.tx_buf ≡ Some x → i + j ≡ 1 → Match (without_tx r) (given x.buffer transmit_place i j k)
  gives_tx x i j e s = gives_at (lent_tx x) (rw e at m) i j s

  -- the buffer at the front of the line goes back to its client, or to the end of the line
  pub gives_rx : (x : Lent) → front (line r) ≡ Some x → Match (without_front r) (given x.buffer receive_place 1 0 k)
  gives_rx x e =
      rw (listed_behind r.rx_line) (gives_at (front_rx {x = behind (line r)} x) (rw (← front_behind (line r) x e) m) 1 0 refl)

  pub turns : Match (rotated r) k
  turns =
      let l = line r in
      rw (listed_rotate r.rx_line)
      (record {
        faultless = m.faultless;
        booked = none_moved m.booked (λ b. omega (arith, times_rotate b l)) (λ b. omega (arith, times_rotate b l));
        going = m.going;
        own = m.own;
        below = rw (any_rotate is_above l) m.below;
        room = omega (arith, length_rotate l, m.room);
      })

  -- whether there is room at a place that has n buffers, by whether the transfer under way took one from there
  full_is : (p n : ℕ) (v : Bool) → filled p k.places 19 ≡ n
      → eqb (write_from (under_kind r.under)) p || eqb (read_from (under_kind r.under)) p ≡ v → full p k ≡ leb (room p) (n + one v)
  full_is p n v e f = rw (e, as_kind (λ n. eqb (write_from n) p || eqb (read_from n) p) k.kind refl, m.going.kind, f)

  -- a client's buffer is lent for sending, or for receiving
  pub lends_tx : (x : Lent) (n : ℕ) → x.buffer < 16 → is_some r.tx_buf ≡ false → is_some (tx_under_way r.under) ≡ false
      → record_has r x.buffer ≡ false
      → Match (with_tx_len n (with_tx (Some x) r)) (brought x.buffer transmit_place k)
  lends_tx x n h e u f =
      let t = empty_is r.tx_buf e in
      lends_at (lent_tx x) (rw t at m) h (rw t at (free x.buffer f))
      (full_is transmit_place 0 false (filled_none transmit_place k.places 19 (λ b i. rw t at (fitted b i).1)) ((took r.under).0 ∙ u))
      m.room

  pub lends_rx : (x : Lent) → x.buffer < 16 → leb line_room (receive_count r) ≡ false → record_has r x.buffer ≡ false
      → Match (with_line (append (line r) x) r) (brought x.buffer receive_place k)
  lends_rx x h e f =
      let l = line r in
      let few = leb-false line_room (receive_count r) e in
      let low = none_left (any_of is_above l) _ (none_right (slot_above r.tx_buf) _ m.below) in
      rw (listed_is (append l x) (omega (arith, length_append l x)))
      (lends_at (lent_rx x) m h (free x.buffer f)
      (full_is receive_place (length l) _ (filled_line k.places l low (λ b i. (fitted b i).2)) (took r.under).1 ∙ e)
      (omega (arith, length_append l x)))

  -- there is no more in the line than it has room for
  pub spacious : crowded r ≡ false
  spacious = le-ltb line_room (receive_count r) m.room

  -- what a refusal leaves
  pub refuses : (y : Reply) → acts y.actions.items ≡ false → kind_no y.transfer ≡ 0 → Match r (turned_down y k)
  refuses y e f = rw (e, f, or-false) m

-- a new driver and a new book agree: each buffer is tried
abbrev newly : ℕ → Bool
newly n = leb (count None [] Idle n) 1 && eqb (get_or new_page.places n client_place) (spots None [] Idle n)

pub match_new : (l c : ℕ) → Match (new_driver l c).buffers new_page
unfolding sum
match_new l c =
    record {
      faultless = refl;
      booked =
          record {
            sized = refl;
            placed = λ n h.
                let v = leb (count None [] Idle n) 1 in
                let t = below_at newly 19 tt n h in
                (leb→le _ 1 (left v _ t), eqb→eq _ _ (right v _ t));
            counted = refl;
          };
      going = record { kind = refl; write = refl; read = refl; waits = refl };
      own = record { tx = refl; rx = refl; buf = refl };
      below = refl;
      room = lit≤ tt;
    }
