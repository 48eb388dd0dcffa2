-- The receive buffers in turn: an access leaves them as they are, whether it takes the front or not, and once the transfer is over they
-- are the line. Assumes nothing.
use Prim.Native.Nat.{ℕ, ◌+◌, ◌≤◌}
use mathlib.Core.Path.{◌≡◌, refl, sym, ap, ◌∙◌}
use mathlib.Core.Bool.{false, ◌&&◌}
use mathlib.Core.List.{List, [], ◌∷◌, ◌++◌}
use native.Mathlib.Omega.{arith}
use lib.Dec.{leb}
use lib.ListN.{length}
use borrow.Author.Tests.{leb-false}
use Rattle.std.specs.Prelude.{Option, None, Some, is_some}
use Rattle.std.proofs.lemmas.List.{append_assoc}
use Rattle.rf233.specs.Case.{accessed}
use Rattle.rf233.specs.Completion.{buffers_back, places_back}
use Rattle.rf233.specs.Decline.{again}
use Rattle.rf233.specs.Driver.{with_line}
use Rattle.rf233.specs.Line.{line_room, line, front, append}
use Rattle.rf233.specs.OneBuffer.{reading, in_turn}
use Rattle.rf233.specs.Record.{one, rx_under_way, receive_count}
use Rattle.rf233.specs.Rows.{Access}
use Rattle.rf233.specs.Rows.Access.{none, reads, writes, reads_length, reads_frame, writes_frame}
use Rattle.rf233.specs.Starter.{frame_read_into, frame_write_from, register_transfer}
use Rattle.rf233.specs.Transfer.{free_to_start}
use Rattle.rf233.specs.declared.action.Actions.{Actions}
use Rattle.rf233.specs.declared.arrived.Arrived.{Arrived}
use Rattle.rf233.specs.declared.driver.Buffers.{Buffers}
use Rattle.rf233.specs.declared.driver.Driver.{Driver}
use Rattle.rf233.specs.declared.driver.Lent.{Lent}
use Rattle.rf233.specs.declared.driver.Offer.TheVariants as offer
use Rattle.rf233.specs.declared.driver.Under.{Under}
use Rattle.rf233.specs.declared.driver.Under.TheVariants.{Idle, Register, FrameRead, FrameWrite, Waits}
use Rattle.rf233.specs.declared.starter.Started.{Started}
use Rattle.rf233.specs.declared.transfer.TransferKind.{TransferKind}
use Rattle.laws.proofs.Logic.{left, is_true}
use Rattle.rf233.proofs.ChoiceLaws.{branch, either}
use Rattle.rf233.proofs.LineLaws.{listed_is, listed_behind, front_behind, length_append}
use Rattle.rf233.proofs.OwnBuffers.{idle_is}

-- what a starter leaves
abbrev turn_of : Started → List Lent
turn_of s = in_turn s.driver.buffers

-- a register transfer, asked for whatever is under way
pub register_turn : (n : TransferKind) (x y : ℕ) (e : Driver) → in_turn (register_transfer n x y e).driver.buffers ≡ in_turn e.buffers
unfolding register_transfer
register_turn n x y e =
    let b = e.buffers in
    branch (λ s. turn_of s ≡ in_turn b) _ _ _
    (λ t.
    let f = left (free_to_start b) b.spi_tx (left (free_to_start b && b.spi_tx) b.spi_rx t) in
    rw (idle_is b.under (is_true (free_to_start b) f)) refl)
    (λ t. refl)

module _ (e : Driver) (i : e.buffers.under ≡ Idle) where
  read_turn : (s : Option Lent) (n : ℕ) → front (line e.buffers) ≡ s → turn_of (frame_read_into s n e) ≡ in_turn e.buffers
  unfolding frame_read_into
  read_turn None n f = refl
  read_turn (Some x) n f =
      let b = e.buffers in
      either (λ s. turn_of s ≡ in_turn b) _ _ _
      (ap (λ l. x ∷ l) (listed_behind b.rx_line) ∙ (sym (front_behind (line b) x f) ∙ rw i refl)) refl

  write_turn : (s : Option Lent) → turn_of (frame_write_from s e) ≡ in_turn e.buffers
  unfolding frame_write_from
  write_turn None = refl
  write_turn (Some x) = either (λ s. turn_of s ≡ in_turn e.buffers) _ _ _ (rw i refl) refl

  -- whatever a row starts
  pub access_turn : (x : Access) (a : Arrived) (l : Actions) → in_turn (accessed x a l e).driver.buffers ≡ in_turn e.buffers
  access_turn none a l = refl
  access_turn (reads r) a l = register_turn _ _ _ e
  access_turn (writes r v) a l = register_turn _ _ _ e
  access_turn reads_length a l = read_turn (front (line e.buffers)) 0 refl
  access_turn reads_frame a l = read_turn (front (line e.buffers)) e.reception.length refl
  access_turn writes_frame a l = write_turn e.buffers.tx_buf

-- a transfer that waited, once it does so no more
pub again_turn : (u : Under) (e : Driver) → e.buffers.under ≡ Idle → in_turn (again u e).driver.buffers ≡ in_turn e.buffers
again_turn Idle e i = refl
again_turn Register e i = refl
again_turn (FrameRead x) e i = refl
again_turn (FrameWrite x) e i = refl
again_turn (Waits offer.Register) e i = register_turn _ _ _ e
again_turn (Waits offer.FrameRead) e i = read_turn e i (front (line e.buffers)) _ refl
again_turn (Waits offer.FrameWrite) e i = write_turn e i e.buffers.tx_buf

-- the transfer is over, or waits
pub back_turn : (r : Buffers) → receive_count r ≤ line_room → line (places_back r.under r) ≡ in_turn r
back_turn r h = go r.under h
  where
    go : (u : Under) → length (line r) + one (is_some (rx_under_way u)) ≤ line_room → line (places_back u r) ≡ reading u ++ line r
    go Idle h = refl
    go Register h = refl
    go (FrameRead x) h = listed_is (x ∷ line r) (omega arith)
    go (FrameWrite x) h = refl
    go (Waits o) h = refl

-- a buffer is lent where there is room for it
pub append_turn : (r : Buffers) (x : Lent) → leb line_room (receive_count r) ≡ false
    → in_turn (with_line (append (line r) x) r) ≡ append (in_turn r) x
append_turn r x f =
    let l = line r in
    rw (listed_is (append l x) (omega (arith, length_append l x, leb-false line_room (receive_count r) f)))
    (sym (append_assoc (reading r.under) l (x ∷ [])))
