-- The own buffers of a driver that refusal 12 does not describe: each is in its own place where no transfer has it, and only there; what
-- of the driver may change without 12 coming to describe it; a new driver. Assumes nothing.
use Rattle.std.proofs.Common.{◌+◌}
use mathlib.Core.Path.{◌≡◌, refl, sym, ◌∙◌}
use mathlib.Core.Bool.{Bool, true, false, not, ◌&&◌, ◌||◌, and-false}
use mathlib.Core.List.{List, [], ◌∷◌}
use Prim.Native.Nat.{ℕ, ◌≤◌, ◌<◌}
use native.Mathlib.Omega.{arith}
use lib.Dec.{eqb, leb, ltb, lit<}
use borrow.Author.Tests.{ne_eqb, ltb-true, ltb-false, leb-true, le-leb, not-false}
use Rattle.std.specs.Prelude.{Option, None, Some}
use Rattle.rf233.specs.Choice.{pick, one_of, within}
use Rattle.rf233.specs.Create.{new_driver}
use Rattle.rf233.specs.Driver.{with_command}
use Rattle.rf233.specs.Line.{line, any_of, names}
use Rattle.rf233.specs.Described.{described, is_above, slot_above, client_above, recorded_twice, own_nowhere, twice_below, frame_no}
use Rattle.rf233.specs.Record.{count_of, slot_has, under_has, own_has, one, record_has, times}
use Rattle.rf233.specs.State.{state_no, state_frame}
use Rattle.rf233.specs.Starter.{buffers_away, refrains, register_transfer, begun, found}
use Rattle.rf233.specs.Transfer.{under_way, free_to_start, waits}
use Rattle.rf233.specs.declared.driver.Buffers.{Buffers}
use Rattle.rf233.specs.declared.driver.Command.{Command}
use Rattle.rf233.specs.declared.driver.Driver.{Driver}
use Rattle.rf233.specs.declared.driver.Lent.{Lent}
use Rattle.rf233.specs.declared.driver.Under.{Under}
use Rattle.rf233.specs.declared.driver.Under.TheVariants.{Idle, Register, FrameRead}
use Rattle.rf233.specs.declared.transfer.TransferKind.{TransferKind}
use Rattle.laws.proofs.Logic.{none_left, none_right, both_left}

-- an own buffer's place, from what the record has
pub only_16 : (t r s : Bool) → (t && true) || ((r && false) || (s && false)) ≡ t
only_16 true r s = refl
only_16 false r s = simp and-false

pub only_17 : (t r s : Bool) → (t && false) || ((r && true) || (s && false)) ≡ r
only_17 t true s = simp and-false
only_17 t false s = simp and-false

pub only_18 : (t r s : Bool) → (t && false) || ((r && false) || (s && true)) ≡ s
only_18 t r true = simp and-false
only_18 t r false = simp and-false

-- that a buffer is one of two, of the three own ones, of the first two of these, as a number
pub of_two : (m n b : ℕ) → eqb m n ≡ false → one (eqb m b || eqb n b) ≡ one (eqb m b) + one (eqb n b)
of_two m n b h = grind arith

pub of_three : (b : ℕ) → one (eqb 16 b || (eqb 17 b || eqb 18 b)) ≡ one (eqb 16 b) + (one (eqb 17 b) + one (eqb 18 b))
of_three b = grind arith

pub of_first : (b : ℕ) → one (eqb 16 b || (eqb 17 b || false)) ≡ one (eqb 16 b) + one (eqb 17 b)
of_first b = grind arith

one_none : (b : Bool) → one b ≤ 0 → b ≡ false
one_none true h = absurd (omega arith)
one_none false h = refl

one_some : (b : Bool) → 0 < one b → b ≡ true
one_some true h = refl
one_some false h = absurd (omega arith)

-- a client's place has no own buffer
pub slot_below : (x : Option Lent) (k : ℕ) → 15 < k → slot_above x ≡ false → slot_has x k ≡ false
slot_below None k h e = refl
slot_below (Some x) k h e = ne_eqb x.buffer k (λ q. omega (arith, ltb-false 15 x.buffer e))

-- nor has the line
pub line_below : (l : List Lent) (k : ℕ) → 15 < k → any_of is_above l ≡ false → times k (names l) ≡ 0
line_below [] k h e = refl
line_below (x ∷ l) k h e =
    let other = ne_eqb x.buffer k (λ q. omega (arith, ltb-false 15 x.buffer (none_left (is_above x) (any_of is_above l) e))) in
    rw other (omega (arith, line_below l k h (none_right (is_above x) (any_of is_above l) e)))

module _ (r : Buffers) (k : ℕ) where
  -- not recorded twice, and under way: not in its own place
  away : ltb 1 (count_of r k) ≡ false → under_has r.under k ≡ true → own_has r k ≡ false
  unfolding count_of
  away e u = one_none (own_has r k) (omega (arith, rw u at (ltb-false 1 (count_of r k) e)))

  -- recorded, and not under way: in its own place
  home : 15 < k → client_above r ≡ false → ltb 0 (count_of r k) ≡ true → under_has r.under k ≡ false → own_has r k ≡ true
  unfolding count_of
  home h c e u =
      one_some (own_has r k)
      (omega (
        arith,
        rw (
          u,
          slot_below r.tx_buf k h (none_left (slot_above r.tx_buf) _ c),
          line_below (line r) k h
              (none_left (any_of is_above (line r)) _ (none_right (slot_above r.tx_buf) _ c)),
        ) at (ltb-true 0 (count_of r k) e),
      ))

-- the own buffers of a driver that 12 does not describe
module _ (d : Driver) (f : described d ≡ false) where
  twice : recorded_twice d.buffers ≡ false
  unfolding described
  twice = none_left (recorded_twice d.buffers) _ f

  nowhere : own_nowhere d.buffers ≡ false
  unfolding described
  nowhere = none_left (own_nowhere d.buffers) _ (none_right (recorded_twice d.buffers) _ f)

  above : client_above d.buffers ≡ false
  unfolding described
  above = none_left (client_above d.buffers) _ (none_right (own_nowhere d.buffers) _ (none_right (recorded_twice d.buffers) _ f))

  pub tx_home : under_has d.buffers.under 16 ≡ false → d.buffers.spi_tx ≡ true
  tx_home u =
      let r = d.buffers in
      sym (only_16 r.spi_tx r.spi_rx r.spi_buf) ∙ home r 16 (lit< tt) above
      (not-false (record_has r 16) (none_left (not (record_has r 16)) _ nowhere)) u

  pub rx_home : under_has d.buffers.under 17 ≡ false → d.buffers.spi_rx ≡ true
  rx_home u =
      let r = d.buffers in
      sym (only_17 r.spi_tx r.spi_rx r.spi_buf)
      ∙ home r 17 (lit< tt) above (not-false (record_has r 17)
      (none_left (not (record_has r 17)) _ (none_right (not (record_has r 16)) _ nowhere))) u

  pub buf_home : under_has d.buffers.under 18 ≡ false → d.buffers.spi_buf ≡ true
  buf_home u =
      let r = d.buffers in
      sym (only_18 r.spi_tx r.spi_rx r.spi_buf)
      ∙ home r 18 (lit< tt) above (not-false (record_has r 18)
      (none_right (not (record_has r 17)) _ (none_right (not (record_has r 16)) _ nowhere))) u

  -- while a register transfer is under way, the record with another one under way is the same but for the command
  pub same_record : (x : Buffers) (c : Command) → d.buffers.under ≡ Register
      → x ≡ with_command c (buffers_away Register d.buffers) → x ≡ with_command c d.buffers
  same_record x c u e =
      let b = d.buffers in
      let t = sym (only_16 b.spi_tx b.spi_rx b.spi_buf) ∙ away b 16
      (none_right (twice_below b 16) _ (none_left (twice_below b 17) _ (none_left (twice_below b 18) _ twice))) (rw u) in
      let r = sym (only_17 b.spi_tx b.spi_rx b.spi_buf) ∙ away b 17
      (none_right (twice_below b 17) _ (none_left (twice_below b 18) _ twice)) (rw u) in
      e ∙ rw (t, r, u)

  -- a frame read leaves the buffers of a register transfer at home
  pub frame_home : (x : Lent) → d.buffers.under ≡ FrameRead x → (d.buffers.spi_tx ≡ true) × (d.buffers.spi_rx ≡ true)
  frame_home x u =
      let r = d.buffers in
      let e = none_right (any_of is_above (line r)) _ (none_right (slot_above r.tx_buf) _ above) in
      let c = ltb-false 15 x.buffer (rw u at e) in
      (tx_home (rw (u, ne_eqb x.buffer 16 (λ q. omega arith))), rx_home (rw (u, ne_eqb x.buffer 17 (λ q. omega arith))))

-- no transfer is under way or waits; one is under way, and it is no frame transfer
pub idle_is : (u : Under) → not (under_way u || waits u) ≡ true → u ≡ Idle
idle_is u e = grind arith

pub register_is : (u : Under) → under_way u ≡ true → eqb (frame_no u) 0 ≡ true → u ≡ Register
register_is u e f = grind arith

-- what a starter found that does not begin gives no transfer
pub found_none : (u : Under) → begun (found u) ≡ None
found_none u = grind arith

-- where none may begin, a register transfer does not
pub register_refrains : (d : Driver) (k : TransferKind) (x y : ℕ) → free_to_start d.buffers ≡ false → register_transfer k x y d ≡ refrains d
unfolding register_transfer pick
register_refrains d k x y i = rw i

-- a state that names no frame transfer, takes no buffer and asks nothing of the held length
pub record Plain (n : ℕ) : Type 0 where
  pub names : state_frame n ≡ 0
  pub sends : one_of (33 ∷ 43 ∷ []) n ≡ false
  pub receives : one_of (62 ∷ 64 ∷ 68 ∷ []) n ≡ false
  pub reads_out : within 65 68 n ≡ false

-- from one such state to another, the record the same but for the command, 12 describes the driver as little as before
pub moved : (n m : ℕ) (d e : Driver) (x : Command) → Plain n → Plain m → state_no d.state ≡ n → state_no e.state ≡ m
    → d.buffers.under ≡ Register → e.buffers ≡ with_command x d.buffers → described e ≡ described d
unfolding described count_of
moved n m d e x c f s t u b = rw (b, u, s, t, c.names, c.sends, c.receives, f.names, f.sends, f.receives, c.reads_out, f.reads_out)

-- a new driver
pub new_fit : (l c : ℕ) → within 129 160 l ≡ true → described (new_driver l c) ≡ false
unfolding described count_of
new_fit l c h =
    let m = leb-true 129 l (both_left (leb 129 l) (leb l 160) h) in
    rw (h, le-leb 2 l (omega arith), le-leb l l (omega arith))
