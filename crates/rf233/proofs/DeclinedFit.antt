-- What refusal 12 asks of a driver with a transfer under way or waiting, place by place (`twelve_asks`); and that it describes the driver
-- as little once the transfer waits (`waiting_fit`). From `regrouped`. Assumes nothing.
use Rattle.std.proofs.Common.{◌≡◌, ℕ, true, false, not, ◌||◌, ◌&&◌, ◌+◌, ◌≤◌, eqb, leb, ltb, List, [], ◌∷◌, None, Some, refl, sym, ap, ◌∙◌}
use Rattle.std.proofs.Common.{arith, length, Bool}
use Rattle.std.specs.Prelude.{is_some}
use borrow.Author.Tests.{not-false, eqb-true, leb-false}
use mathlib.Core.Bool.{or-false, or-true, and-false}
use Rattle.rf233.specs.Choice.{within, one_of}
use Rattle.rf233.specs.Completion.{buffers_back, places_back}
use Rattle.rf233.specs.Decline.{declines, waiting}
use Rattle.rf233.specs.Described.{
  buffer_missing,
  by_place,
  described,
  frame_bad,
  frame_no,
  held_length_bad,
  is_above,
  line_bad,
  meets,
  named_in,
  own_wrong,
  receive_bad,
  repeats,
  slot_above,
  tx_length_bad,
  unplaced,
}
use Rattle.rf233.specs.Driver.{with_buffers, with_under}
use Rattle.rf233.specs.Line.{any_of, line, line_of, line_room, listed, names, some}
use Rattle.rf233.specs.Record.{one, times}
use Rattle.rf233.specs.State.{state_frame, state_no}
use Rattle.rf233.specs.Transfer.{to_complete, under_way}
use Rattle.rf233.specs.declared.driver.Buffers.{Buffers}
use Rattle.rf233.specs.declared.driver.Driver.{Driver}
use Rattle.rf233.specs.declared.driver.Lent.{Lent}
use Rattle.rf233.specs.declared.driver.Offer.TheVariants as offer
use Rattle.rf233.specs.declared.driver.Under.{Under}
use Rattle.rf233.specs.declared.driver.Under.TheVariants.{Idle, Register, FrameRead, FrameWrite, Waits}
use Rattle.laws.proofs.Logic.{clash, none_left, none_right}
use Rattle.rf233.proofs.Conditions.{by_flag}
use Rattle.rf233.proofs.LineLaws.{listed_is}
use Rattle.rf233.proofs.Regrouped.{regrouped}

-- the parts that 12 asks of the places of a driver, by the transfer u
pub record Asked (u : Under) (d : Driver) : Type 0 where
  pub whole : within 129 160 d.buffers.spi_buf_whole ≡ true
  pub present : within 2 d.buffers.spi_buf_whole d.buffers.spi_buf_len ≡ true
  pub tx : slot_above d.buffers.tx_buf || tx_length_bad d.buffers.tx_buf d.buffers.tx_len ≡ false
  pub rx : line_bad (line d.buffers) d.buffers.tx_buf ≡ false
  pub own : own_wrong u d.buffers ≡ false
  pub frame : frame_bad u d.buffers.tx_buf (line d.buffers) d.buffers.tx_len d.flags.interrupt_handling ≡ false
  pub placed : unplaced u d.buffers ≡ false
  pub state : not (eqb (frame_no u) (state_frame (state_no d.state))) ≡ false
  pub there : buffer_missing d.buffers (state_no d.state) ≡ false
  pub long : held_length_bad d.reception (state_no d.state) ≡ false

pub twelve_asks : (d : Driver) → described d ≡ false → Asked d.buffers.under d
twelve_asks d e =
    let b = d.buffers in
    let n = state_no d.state in
    let w = not (within 129 160 b.spi_buf_whole) in
    let l = not (within 2 b.spi_buf_whole b.spi_buf_len) in
    let t = slot_above b.tx_buf || tx_length_bad b.tx_buf b.tx_len in
    let r = line_bad (line b) b.tx_buf in
    let o = own_wrong b.under b in
    let f = frame_bad b.under b.tx_buf (line b) b.tx_len d.flags.interrupt_handling in
    let p = unplaced b.under b in
    let s = not (eqb (frame_no b.under) (state_frame n)) in
    let m = buffer_missing b n in
    let z = regrouped d ∙ e in
    let z₁ = none_right w _ z in
    let z₂ = none_right l _ z₁ in
    let z₃ = none_right t _ z₂ in
    let z₄ = none_right r _ z₃ in
    let going = none_left ((o || f) || p) _ z₄ in
    let z₅ = none_right ((o || f) || p) _ z₄ in
    let z₆ = none_right s _ z₅ in
    record {
      whole = not-false (within 129 160 b.spi_buf_whole) (none_left w _ z);
      present = not-false (within 2 b.spi_buf_whole b.spi_buf_len) (none_left l _ z₁);
      tx = none_left t _ z₂;
      rx = none_left r _ z₃;
      own = none_left o f (none_left (o || f) p going);
      frame = none_right o f (none_left (o || f) p going);
      placed = none_right (o || f) p going;
      state = none_left s _ z₅;
      there = none_left m _ z₆;
      long = none_right m _ z₆;
    }

-- and that they are all it asks
pub fit_asked : (d : Driver) → Asked d.buffers.under d → described d ≡ false
fit_asked d a = sym (regrouped d) ∙ rw (a.whole, a.present, a.tx, a.rx, a.own, a.frame, a.placed, a.state, a.there, a.long) refl

-- ---- a line with one more in front

-- a list meets one buffer exactly if it names it
meets_one : (l : List ℕ) (c : ℕ) → meets l (c ∷ []) ≡ false → times c l ≡ 0
meets_one [] c e = refl
meets_one (k ∷ l) c e = grind (arith, meets_one l c)

meets_more : (s : List ℕ) (c : ℕ) (l : List ℕ) → meets s (c ∷ []) ≡ false → meets s l ≡ false → meets s (c ∷ l) ≡ false
meets_more [] c l e f = refl
meets_more (k ∷ s) c l e f = grind (arith, meets_more s c l)

-- a buffer that nothing else names may stand in front
line_more : (x : Lent) (l : List Lent) (tx : List ℕ) → receive_bad x ≡ false → meets tx (x.buffer ∷ []) ≡ false
    → meets (names l) (x.buffer ∷ []) ≡ false → any_of receive_bad l || (repeats (names l) || meets tx (names l)) ≡ false
    → any_of receive_bad (x ∷ l) || (repeats (names (x ∷ l)) || meets tx (names (x ∷ l))) ≡ false
line_more x l tx b t m e =
    let low = none_left (any_of receive_bad l) _ e in
    let rest = none_right (any_of receive_bad l) _ e in
    rw (
      b,
      low,
      meets_one (names l) x.buffer m,
      none_left (repeats (names l)) (meets tx (names l)) rest,
      meets_more tx x.buffer (names l) t (none_right (repeats (names l)) (meets tx (names l)) rest),
    ) refl

-- a buffer is missing no more where there is one in the line, and in the transmit place
line_full : (a b t r : Bool) → (a && not t) || (b && not r) ≡ false → (a && not t) || (b && not true) ≡ false
line_full a b t r e = grind arith

place_full : (a b t r : Bool) → (a && not t) || (b && not r) ≡ false → (a && not true) || (b && not r) ≡ false
place_full a b t r e = grind arith

-- ---- the transfer waits

module _ (d : Driver) where
  abbrev b : Buffers
  b = d.buffers

  -- the driver with the buffers of u back, u waiting
  abbrev parked : Under → Driver
  parked u = with_buffers (with_under (waiting u) (places_back u b)) d

  waits_so : (u : Under) → under_way u ≡ true → Asked u d → Asked (waiting u) (parked u)
  waits_so Register i a =
      record {
        whole = a.whole;
        present = a.present;
        tx = a.tx;
        rx = a.rx;
        own = none_right b.spi_rx _ (none_right b.spi_tx _ a.own);
        frame = refl;
        placed = refl;
        state = a.state;
        there = a.there;
        long = a.long;
      }
  waits_so (FrameRead x) i a =
      let l = line b in
      let tx = named_in b.tx_buf in
      let h = d.flags.interrupt_handling in
      let full = leb line_room (length l) in
      let bad = receive_bad x in
      let names_it = meets tx (x.buffer ∷ []) in
      let in_line = meets (names l) (x.buffer ∷ []) in
      let f = none_right h _ a.frame in
      let g = none_right full _ f in
      let k = none_right bad _ g in
      let there : listed (line_of (x ∷ l)) ≡ x ∷ l =
      listed_is (x ∷ l) (omega (arith, leb-false line_room (length l) (none_left full _ f))) in
      record {
        whole = a.whole;
        present = a.present;
        tx = a.tx;
        rx = rw there (line_more x l tx (none_left bad _ g) (none_left names_it in_line k) (none_right names_it in_line k) a.rx);
        own = rw or-false (none_right b.spi_buf _ a.own);
        frame = none_left h _ a.frame;
        placed = rw there refl;
        state = a.state;
        there = rw there (line_full (one_of (33 ∷ 43 ∷ []) (state_no d.state)) _ (is_some b.tx_buf) (some l) a.there);
        long = a.long;
      }
  waits_so (FrameWrite x) i a =
      let l = line b in
      let h = d.flags.interrupt_handling in
      let held = is_some b.tx_buf in
      let f = none_right held _ (none_right h _ a.frame) in
      let bad = is_above x || tx_length_bad (Some x) b.tx_len in
      let in_line = meets (names l) (x.buffer ∷ []) in
      let low = any_of receive_bad l in
      let rest = none_right low _ a.rx in
      record {
        whole = a.whole;
        present = a.present;
        tx = none_left bad in_line f;
        rx =
            rw (
              none_left low _ a.rx,
              none_left (repeats (names l)) _ rest,
              meets_one (names l) x.buffer (none_right bad in_line f),
            ) refl;
        own = rw or-false (none_right b.spi_buf _ a.own);
        frame = none_left h _ a.frame;
        placed = refl;
        state = a.state;
        there = place_full (one_of (33 ∷ 43 ∷ []) (state_no d.state)) _ held (some l) a.there;
        long = a.long;
      }
  waits_so Idle i a = clash false refl i
  waits_so (Waits o) i a = clash false refl i

-- 12 describes a driver as little once its transfer waits
pub waiting_fit : (d : Driver) → described d ≡ false → to_complete d.buffers ≡ true → described (declines d) ≡ false
waiting_fit d e i = fit_asked (declines d) (waits_so d d.buffers.under i (twelve_asks d e))
