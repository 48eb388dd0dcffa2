-- Refusal 12 describes no driver that meets the invariant of Custody.antt: from a new driver it is given only for the pool's length.
-- Assumes nothing.
use Rattle.std.proofs.Common.{refl}
use Rattle.std.proofs.Common.{arith}
use Rattle.std.proofs.Common.{◌≡◌, false, not, ◌&&◌, ◌||◌, T, eqb, ltb}
use Rattle.rf233.specs.Line.{some, line}
use Rattle.rf233.specs.Transfer.{waits}
use Rattle.rf233.specs.declared.driver.Offer.TheVariants as offer
use Rattle.rf233.specs.declared.driver.Under.{Under}
use Rattle.rf233.specs.declared.driver.Under.TheVariants.{FrameRead, FrameWrite, Waits, Idle, Register}
use Rattle.custody.specs.Book.{Page}
use Rattle.std.specs.Prelude.{is_some}
use Rattle.rf233.specs.Described.{length_bad, held_besides, described, buffer_missing, held_length_bad, unplaced}
use Rattle.rf233.specs.State.{state_no, state_frame}
use Rattle.rf233.specs.declared.driver.Buffers.{Buffers}
use Rattle.rf233.specs.declared.driver.Driver.{Driver}
use Rattle.laws.proofs.Logic.{left, right, is_true, is_false, none_right, none_left}
use Rattle.custody.proofs.Custody.{Inv, Lengths}
use Rattle.rf233.proofs.Facts.{kind, frame_of, frame_no_lem, of, Facts}
use Rattle.rf233.proofs.Fit.{fit, tx_empty, fit_frame, fit_places, home_missing}
use Rattle.custody.proofs.Match.{once, somewhere, spacious, Own}

-- no transmit buffer is held beside another under way
pub besides_none : (d : Driver) → T (fit (of d)) → held_besides d.buffers ≡ false
besides_none d o =
    let t = is_some d.buffers.tx_buf in
    let x = tx_empty.gives (of d) o tt in
    grind arith

lengths_good : (b : Buffers) → Lengths b → length_bad b ≡ false
lengths_good b g = rw (g.whole, g.present, g.tx, g.tx_under, g.rx, g.rx_under)

-- a transfer that waits has its buffers in their places
placed_lem : (u : Under) (b : Buffers) (c : Facts) → c.tx ≡ is_some b.tx_buf → c.rx ≡ some (line b) → Own b.spi_tx b.spi_rx b.spi_buf u
    → waits u && home_missing (kind u) c ≡ false → unplaced u b ≡ false
placed_lem Idle b c t r o h = refl
placed_lem Register b c t r o h = refl
placed_lem (FrameRead x) b c t r o h = refl
placed_lem (FrameWrite x) b c t r o h = refl
placed_lem (Waits offer.Register) b c t r o h = rw (o.tx, o.rx) refl
placed_lem (Waits offer.FrameRead) b c t r o h = rw (o.buf, ← r) h
placed_lem (Waits offer.FrameWrite) b c t r o h = rw (o.buf, ← t) h

-- from a new driver 12 is given only for the pool's length
pub sound : (k : Page) (d : Driver) → Inv k d → described d ≡ false
unfolding described
sound k d v =
    let f = fit_frame.gives (of d) v.fitted tt tt in
    let p = fit_places.gives (of d) v.fitted tt tt in
    let n = state_no d.state in
    let u = d.buffers.under in
    let e = eqb (frame_of (kind u)) (state_frame n) in
    let h = ltb 0 (frame_of (kind u)) && d.flags.interrupt_handling in
    let missing = buffer_missing d.buffers n in
    let long = held_length_bad d.reception n in
    let home = waits u && home_missing (kind u) (of d) in
    let none = is_false (missing || (long || home)) p in
    let all = none_right missing (long || home) none in
    rw (
      once d.buffers k v.match,
      somewhere d.buffers k v.match,
      v.match.below,
      lengths_good d.buffers v.lengths,
      besides_none d v.fitted,
      spacious d.buffers k v.match,
      frame_no_lem u,
      is_true e (left e (not h) f),
      is_false h (right e (not h) f),
      none_left missing (long || home) none,
      none_left long home all,
      placed_lem u d.buffers (of d) refl refl v.match.own (none_right long home all),
    )
