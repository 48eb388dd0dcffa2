-- The control facts of a driver, by which it is steered: one record of them, and what a row, the return of the buffers and the next state
-- make of them, each as one equation. Assumes nothing.
use Prim.Native.Nat.{ℕ}
use borrow.Author.Tests.{not-false}
use mathlib.Core.Path.{◌≡◌, refl, ap, ◌∙◌, subst}
use mathlib.Core.Bool.{Bool, true, false, ◌||◌, cond, or-false, or_assoc, not}
use mathlib.Core.List.{List, [], ◌∷◌}
use lib.Dec.{eqb}
use native.Mathlib.Omega.{arith}
use Rattle.rf233_const.specs.Bits.{bit_set}
use Rattle.rf233_const.specs.Flags.{rx_crc_valid_bit}
use Rattle.rf233.specs.Case.{handed, entering, without_tx, without_front, rotated}
use Rattle.rf233.specs.Choice.{pick}
use Rattle.rf233.specs.Completion.{buffers_back, frame_done, length_taken, transfer_over, places_back}
use Rattle.rf233.specs.Decline.{waiting, declines}
use Rattle.rf233.specs.Described.{frame_no, unplaced}
use Rattle.rf233.specs.Driver.{Flag, Assignment, flag_no, flag, set_flag, assigning, with_flags, with_buffers}
use Rattle.rf233.specs.Driver.Assignment.{put, put_crc}
use Rattle.rf233.specs.Driver.Flag.{transmitting, interrupt_handling, crc_valid}
use Rattle.std.specs.Prelude.{is_some}
use Rattle.rf233.specs.Line.{line, rotate, some}
use Rattle.rf233.specs.Reception.{in_range, compared}
use Rattle.rf233.specs.Rows.{Shown, Next}
use Rattle.rf233.specs.Rows.Next.{same, to}
use Rattle.rf233.specs.Rows.Shown.{plain, power_changed, config_done, sent_back, dropped_back, received_back, received_kept}
use Rattle.rf233.specs.State.{state_no}
use Rattle.rf233.specs.Transfer.{waits, under_way, to_complete}
use Rattle.rf233.specs.declared.arrived.Arrived.{Arrived}
use Rattle.rf233.specs.declared.driver.Buffers.{Buffers}
use Rattle.rf233.specs.declared.driver.Driver.{Driver}
use Rattle.rf233.specs.declared.driver.Offer.TheVariants as offer
use Rattle.rf233.specs.declared.driver.Under.{Under}
use Rattle.rf233.specs.declared.driver.Under.TheVariants.{Idle, Register, FrameRead, FrameWrite, Waits}
use Rattle.rf233.specs.declared.reception.Reception.{Reception}
use Rattle.rf233.specs.declared.state.InternalState.{InternalState}
use Rattle.laws.proofs.Logic.{none_right}
use Rattle.rf233.proofs.ChoiceLaws.{either}
use Rattle.rf233.proofs.LineLaws.{some_is, some_rotate}

-- no transfer, a register transfer, a frame read, a frame write
pub data Kind : Type 0 where
  nothing access reading writing : Kind

abbrev pub kind : Under → Kind
kind Idle = nothing
kind Register = access
kind (FrameRead x) = reading
kind (FrameWrite x) = writing
kind (Waits offer.Register) = access
kind (Waits offer.FrameRead) = reading
kind (Waits offer.FrameWrite) = writing

abbrev pub is_none : Kind → Bool
is_none nothing = true
is_none access = false
is_none reading = false
is_none writing = false

abbrev pub frame_of : Kind → ℕ
frame_of nothing = 0
frame_of access = 0
frame_of reading = 1
frame_of writing = 2

-- the number that refusal 12 asks of the frame transfer
pub frame_no_lem : (u : Under) → frame_no u ≡ frame_of (kind u)
frame_no_lem Idle = refl
frame_no_lem Register = refl
frame_no_lem (FrameRead x) = refl
frame_no_lem (FrameWrite x) = refl
frame_no_lem (Waits offer.Register) = refl
frame_no_lem (Waits offer.FrameRead) = refl
frame_no_lem (Waits offer.FrameWrite) = refl

-- the control facts: the kind of transfer under way or waiting, the state's number, whether there is a buffer in the transmit place and one
-- in the line, whether the driver is transmitting, whether it handles an interrupt, whether the held length is a frame's, and whether the
-- transfer waits
pub record Facts : Type 0 where
  pub transfer : Kind
  pub state : ℕ
  pub tx : Bool
  pub rx : Bool
  pub sends : Bool
  pub handles : Bool
  pub in_range : Bool
  pub parked : Bool

-- the facts of these eight
abbrev pub facts : Kind → ℕ → Bool → Bool → Bool → Bool → Bool → Bool → Facts
facts k n t r s h g w = record { transfer = k; state = n; tx = t; rx = r; sends = s; handles = h; in_range = g; parked = w }

-- the facts of a driver
abbrev pub of : Driver → Facts
of d =
    facts (kind d.buffers.under) (state_no d.state) (is_some d.buffers.tx_buf) (some (line d.buffers))
    (flag transmitting d.flags) (flag interrupt_handling d.flags) (in_range d.reception) (waits d.buffers.under)

-- the same with another transfer under way, in another state, with other places, with other flags, with another held length
abbrev pub under : Kind → Facts → Facts
under k c = facts k c.state c.tx c.rx c.sends c.handles c.in_range false

abbrev pub at : ℕ → Facts → Facts
at n c = facts c.transfer n c.tx c.rx c.sends c.handles c.in_range c.parked

abbrev pub holding : Bool → Bool → Facts → Facts
holding t r c = facts c.transfer c.state t r c.sends c.handles c.in_range c.parked

abbrev pub flags : Bool → Bool → Facts → Facts
flags s h c = facts c.transfer c.state c.tx c.rx s h c.in_range c.parked

abbrev pub ranging : Bool → Facts → Facts
ranging g c = facts c.transfer c.state c.tx c.rx c.sends c.handles g c.parked

-- ---- a row

-- the value of a flag after the assignments, v before them; only the CRC's own flag is set from a byte
abbrev pub final : Flag → List Assignment → Bool → Bool
final x [] v = v
final x (put g w ∷ more) v = final x more (cond (eqb (flag_no g) (flag_no x)) w v)
final x (put_crc ∷ more) v = final x more v

-- the facts once a row's actions have handed back the buffers that they name, as if there were no more than one in the line
abbrev pub handed_back : List Shown → Facts → Facts
handed_back [] c = c
handed_back (plain x ∷ more) c = handed_back more c
handed_back (power_changed ∷ more) c = handed_back more c
handed_back (config_done ∷ more) c = handed_back more c
handed_back (sent_back ∷ more) c = handed_back more (holding false c.rx c)
handed_back (dropped_back ∷ more) c = handed_back more (holding false c.rx c)
handed_back (received_back ∷ more) c = handed_back more (holding c.tx false c)
handed_back (received_kept ∷ more) c = handed_back more c

abbrev pub next_no : Next → ℕ → ℕ
next_no same n = n
next_no (to s) n = state_no s

-- the facts with a row's flags set and its state entered, and once its buffers are handed back
abbrev pub settled : List Assignment → Next → Facts → Facts
settled l m c = at (next_no m c.state) (flags (final transmitting l c.sends) (final interrupt_handling l c.handles) c)

abbrev pub prepared : List Assignment → Next → List Shown → Facts → Facts
prepared l m sh c = handed_back sh (settled l m c)

assigned_is : (r : ℕ) (l : List Assignment) (d : Driver)
    → of (assigning r l d)
    ≡ flags (final transmitting l (flag transmitting d.flags)) (final interrupt_handling l (flag interrupt_handling d.flags)) (of d)
assigned_is r [] d = refl
assigned_is r (put x v ∷ more) d = assigned_is r more (with_flags (set_flag x v d.flags) d)
assigned_is r (put_crc ∷ more) d = assigned_is r more (with_flags (set_flag crc_valid (bit_set rx_crc_valid_bit r) d.flags) d)

entering_is : (m : Next) (d : Driver) → of (entering m d) ≡ at (next_no m (state_no d.state)) (of d)
entering_is same d = refl
entering_is (to s) d = refl

pub settled_is : (r : ℕ) (l : List Assignment) (m : Next) (d : Driver) → of (entering m (assigning r l d)) ≡ settled l m (of d)
settled_is r l m d = entering_is m (assigning r l d) ∙ ap (at (next_no m (state_no d.state))) (assigned_is r l d)

-- the same facts, and more in the line where v holds: what is there once its front has left is not steered by
abbrev pub fuller : Bool → Facts → Facts
fuller v c = holding c.tx (c.rx || v) c

-- c, or c with more in the line
pub record Fuller (c e : Facts) : Type 0 where
  pub more : Bool
  pub same : e ≡ fuller more c

no_fuller : (c : Facts) → Fuller c c
no_fuller c = record { more = false; same = rw or-false refl }

two_fuller : {c e f : Facts} → Fuller c e → Fuller e f → Fuller c f
two_fuller {c} p q = record { more = p.more || q.more; same = q.same ∙ ap (fuller q.more) p.same ∙ rw (or_assoc c.rx p.more q.more) refl }

handed_fuller : (sh : List Shown) (c : Facts) (v : Bool) → Fuller (handed_back sh c) (handed_back sh (fuller v c))
handed_fuller [] c v = record { more = v; same = refl }
handed_fuller (plain x ∷ more) c v = handed_fuller more c v
handed_fuller (power_changed ∷ more) c v = handed_fuller more c v
handed_fuller (config_done ∷ more) c v = handed_fuller more c v
handed_fuller (sent_back ∷ more) c v = handed_fuller more (holding false c.rx c) v
handed_fuller (dropped_back ∷ more) c v = handed_fuller more (holding false c.rx c) v
handed_fuller (received_back ∷ more) c v = no_fuller (handed_back more (holding c.tx false c))
handed_fuller (received_kept ∷ more) c v = handed_fuller more c v

-- the line with its front at the end is as full as before
rotated_is : (d : Driver) → of (with_buffers (rotated d.buffers) d) ≡ of d
rotated_is d =
    let l = line d.buffers in
    rw (some_is (rotate l) ∙ some_rotate l) refl

handed_is : (sh : List Shown) (d : Driver) → Fuller (handed_back sh (of d)) (of (with_buffers (handed sh d.buffers) d))
handed_is [] d = no_fuller (of d)
handed_is (plain x ∷ more) d = handed_is more d
handed_is (power_changed ∷ more) d = handed_is more d
handed_is (config_done ∷ more) d = handed_is more d
handed_is (sent_back ∷ more) d = handed_is more (with_buffers (without_tx d.buffers) d)
handed_is (dropped_back ∷ more) d = handed_is more (with_buffers (without_tx d.buffers) d)
handed_is (received_back ∷ more) d =
    let e = with_buffers (without_front d.buffers) d in
    two_fuller (handed_fuller more (holding (of d).tx false (of d)) (of e).rx) (handed_is more e)
handed_is (received_kept ∷ more) d =
    let e = with_buffers (rotated d.buffers) d in
    subst (λ c. Fuller (handed_back more c) (of (with_buffers (handed more e.buffers) e))) (rotated_is d) (handed_is more e)

-- of the driver before a row's access
pub prepared_is : (r : ℕ) (l : List Assignment) (m : Next) (sh : List Shown) (d : Driver)
    → let e = entering m (assigning r l d) in Fuller (prepared l m sh (of d)) (of (with_buffers (handed sh e.buffers) e))
prepared_is r l m sh d =
    let e = entering m (assigning r l d) in
    subst (λ c. Fuller (handed_back sh c) (of (with_buffers (handed sh e.buffers) e))) (settled_is r l m d) (handed_is sh e)

-- ---- the return of the buffers

-- the number of the state once a frame transfer is over
abbrev pub done_no : Bool → ℕ → ℕ
done_no h n = cond h n (cond (eqb n 34) 35 (cond (eqb n 63) 64 (cond (eqb n 65) 66 n)))

pub done_no_lem : (h : Bool) (s : InternalState) → state_no (frame_done h s) ≡ done_no h (state_no s)
unfolding frame_done pick
done_no_lem true s = refl
done_no_lem false s = go (eqb (state_no s) 34) (eqb (state_no s) 63) (eqb (state_no s) 65) refl refl refl
  where
    go : (x y z : Bool) → eqb (state_no s) 34 ≡ x → eqb (state_no s) 63 ≡ y → eqb (state_no s) 65 ≡ z
        → state_no (frame_done false s) ≡ done_no false (state_no s)
    go true y z p q r = rw p
    go false true z p q r = rw (p, q)
    go false false true p q r = rw (p, q, r)
    go false false false p q r = rw (p, q, r)

-- the facts once the buffers are back: the place or the line that a frame transfer's buffer came from has it again, and no interrupt is
-- handled
abbrev pub back : Facts → Facts
back c =
    facts nothing (done_no c.handles c.state) (eqb (frame_of c.transfer) 2 || c.tx) (eqb (frame_of c.transfer) 1 || c.rx)
    c.sends false c.in_range false

-- the record's part of it
record Returned (u : Under) (b c : Buffers) : Type 0 where
  tx : is_some c.tx_buf ≡ eqb (frame_of (kind u)) 2 || is_some b.tx_buf
  rx : some (line c) ≡ eqb (frame_of (kind u)) 1 || some (line b)

returned : (u : Under) (b : Buffers) → unplaced u b ≡ false → Returned u b (places_back u b)
returned Idle b e = record { tx = refl; rx = refl }
returned Register b e = record { tx = refl; rx = refl }
returned (FrameRead x) b e = record { tx = refl; rx = some_is (x ∷ line b) }
returned (FrameWrite x) b e = record { tx = refl; rx = refl }
returned (Waits offer.Register) b e = record { tx = refl; rx = refl }
returned (Waits offer.FrameRead) b e = record { tx = refl; rx = not-false (some (line b)) (none_right (not b.spi_buf) _ e) }
returned (Waits offer.FrameWrite) b e = record { tx = not-false (is_some b.tx_buf) (none_right (not b.spi_buf) _ e); rx = refl }

-- while it is under way no place is asked for
pub placed : (u : Under) (b : Buffers) → under_way u ≡ true → unplaced u b ≡ false
placed u b i = grind arith

pub over_is : (d : Driver) → unplaced d.buffers.under d.buffers ≡ false → of (transfer_over d) ≡ back (of d)
over_is d e =
    let r = returned d.buffers.under d.buffers e in
    rw (r.tx, r.rx, done_no_lem (flag interrupt_handling d.flags) d.state)

-- the facts once the transfer waits instead: the same places, and the state and the flags as they are
abbrev pub parking : Facts → Facts
parking c =
    facts c.transfer c.state (eqb (frame_of c.transfer) 2 || c.tx) (eqb (frame_of c.transfer) 1 || c.rx) c.sends c.handles c.in_range true

kind_waiting : (u : Under) → kind (waiting u) ≡ kind u
kind_waiting u = grind arith

pub waits_waiting : (u : Under) → under_way u ≡ true → waits (waiting u) ≡ true
waits_waiting u i = grind arith

pub declined_is : (d : Driver) → to_complete d.buffers ≡ true → of (declines d) ≡ parking (of d)
declined_is d i =
    let u = d.buffers.under in
    let r = returned u d.buffers (placed u d.buffers i) in
    rw (r.tx, r.rx, kind_waiting u, waits_waiting u i)

-- ---- what a frame read brings

-- only in 63 does the held length become another
pub taken_is : (a : Arrived) (d : Driver) → eqb (state_no d.state) 63 ≡ false → of (length_taken a d) ≡ of d
unfolding pick
taken_is a d z =
    let e = d.reception in
    ap (λ g. ranging g (of d))
    (rw z (either (λ (v : Reception). in_range v ≡ in_range e) (eqb (state_no d.state) 65) (compared a.result e) e refl refl))
