-- What holds of a driver that refusal 12 does not describe, and of the pool: the transfer under way reads into a buffer of the pool, and
-- its shorter length is at most a buffer's. Assumes nothing.
use mathlib.Core.Path.{◌≡◌}
use mathlib.Core.Bool.{true, false, not}
use Prim.Native.Nat.{ℕ, ◌+◌, ◌*◌, ◌≤◌, min}
use native.Mathlib.Omega.{arith}
use lib.Dec.{eqb, leb, lit≤}
use borrow.Author.Tests.{leb-true, ltb-false, eqb-true, not-false}
use mathlib.Core.List.{List}
use lib.ListN.{length}
use Rattle.rf233.specs.Pool.{read_buffer, write_length, read_length, shorter}
use Rattle.rf233.specs.Line.{line_room, line, any_of}
use Rattle.rf233.specs.Described.{is_above, slot_above, under_slot, client_above, recorded_twice, own_nowhere, length_bad, held_besides}
use Rattle.rf233.specs.Described.{crowded, frame_unfit, buffer_missing, described, held_length_bad}
use Rattle.rf233.specs.Reception.{in_range}
use Rattle.rf233.specs.State.{state_no}
use Rattle.rf233.specs.Record.{receive_count}
use Rattle.rf233.specs.Choice.{within}
use Rattle.rf233.specs.Guard.{pool_fault}
use Rattle.rf233.specs.declared.driver.Buffers.{Buffers}
use Rattle.rf233.specs.declared.driver.Driver.{Driver}
use Rattle.rf233.specs.declared.driver.Under.{Under}
use Rattle.rf233.specs.declared.driver.Under.TheVariants.{Idle, Register, FrameRead, FrameWrite, Waits}
use Rattle.laws.proofs.Logic.{none_left, none_right, both_right}

-- a pool that 12 does not describe is 3,040 bytes long
pub pool_right : (d : Driver) (p : List ℕ) → pool_fault d p ≡ false → length p ≡ 3040
pool_right d p e = eqb-true (length p) 3040 (not-false (eqb (length p) 3040) (none_left (not (eqb (length p) 3040)) (described d) e))

pub driver_right : (d : Driver) (p : List ℕ) → pool_fault d p ≡ false → described d ≡ false
driver_right d p e = none_right (not (eqb (length p) 3040)) (described d) e

-- the clauses that are used here
client_right : (d : Driver) → described d ≡ false → client_above d.buffers ≡ false
unfolding described
client_right d e =
    let r = d.buffers in
    none_left (client_above r) _ (none_right (own_nowhere r) _ (none_right (recorded_twice r) _ e))

lengths_right : (d : Driver) → described d ≡ false → length_bad d.buffers ≡ false
unfolding described
lengths_right d e =
    let r = d.buffers in
    none_left (length_bad r) _ (none_right (client_above r) _ (none_right (own_nowhere r) _ (none_right (recorded_twice r) _ e)))

in_pool : (u : Under) → slot_above (under_slot u) ≡ false → read_buffer u * 160 + 160 ≤ 3040
in_pool Idle e = lit≤ tt
in_pool Register e = lit≤ tt
in_pool (FrameRead x) e = omega (arith, ltb-false 15 x.buffer e)
in_pool (FrameWrite x) e = lit≤ tt
in_pool (Waits o) e = lit≤ tt

-- the buffer read into lies within the pool
pub read_fits : (d : Driver) → described d ≡ false → read_buffer d.buffers.under * 160 + 160 ≤ 3040
read_fits d e =
    in_pool d.buffers.under
    (none_right (any_of is_above (line d.buffers)) _ (none_right (slot_above d.buffers.tx_buf) _ (client_right d e)))

within_high : (low high n : ℕ) → within low high n ≡ true → n ≤ high
within_high low high n e = leb-true n high (both_right (leb low n) (leb n high) e)

short : (u : Under) (b : Buffers) → b.spi_buf_len ≤ 160 → min (write_length u b) (read_length u b) ≤ 160
short Idle b h = lit≤ tt
short Register b h = lit≤ tt
short (FrameRead x) b h = omega arith
short (FrameWrite x) b h = omega arith
short (Waits o) b h = lit≤ tt

-- the shorter length is at most a buffer's
pub shorter_fits : (d : Driver) → described d ≡ false → shorter d.buffers ≤ 160
shorter_fits d e =
    let r = d.buffers in
    let whole = r.spi_buf_whole in
    let now = r.spi_buf_len in
    let l = lengths_right d e in
    let h = within_high 129 160 whole (not-false (within 129 160 whole) (none_left (not (within 129 160 whole)) _ l)) in
    let k = within_high 2 whole now
    (not-false (within 2 whole now) (none_left (not (within 2 whole now)) _ (none_right (not (within 129 160 whole)) _ l))) in
    short r.under r (omega arith)

-- the driver has no more receive buffers than there is place for
pub uncrowded : (d : Driver) → described d ≡ false → receive_count d.buffers ≤ line_room
unfolding described
uncrowded d e =
    let r = d.buffers in
    let clauses = none_right (own_nowhere r) _ (none_right (recorded_twice r) _ e) in
    let held = none_right (length_bad r) _ (none_right (client_above r) _ clauses) in
    omega (arith, ltb-false line_room (receive_count r) (none_left (crowded r) _ (none_right (held_besides r) _ held)))

-- while a frame is read out and announced the held length is a frame's
pub held_right : (d : Driver) → described d ≡ false → within 65 68 (state_no d.state) ≡ true → in_range d.reception ≡ true
unfolding described
held_right d e s =
    let r = d.buffers in
    let n = state_no d.state in
    let clauses = none_right (own_nowhere r) _ (none_right (recorded_twice r) _ e) in
    let counts = none_right (crowded r) _ (none_right (held_besides r) _
    (none_right (length_bad r) _ (none_right (client_above r) _ clauses))) in
    let bad = none_right (buffer_missing r n) _ (none_right (frame_unfit r.under n d.flags.interrupt_handling) _ counts) in
    not-false (in_range d.reception) (rw s at (none_left (held_length_bad d.reception n) _ bad))
