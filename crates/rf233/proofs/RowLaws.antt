-- What a row's actions, its next state and its access leave of the driver. Assumes nothing.
use mathlib.Core.Path.{◌≡◌, refl}
use mathlib.Core.List.{List, [], ◌∷◌}
use Prim.Native.Nat.{ℕ}
use Rattle.std.specs.Prelude.{Option, None, Some}
use Rattle.rf233.specs.Case.{accessed, entering, handed, rotated, without_front, without_tx}
use Rattle.rf233.specs.Decline.{again}
use Rattle.rf233.specs.Driver.{Assignment, assigning, with_buffers}
use Rattle.rf233.specs.Line.{line, front}
use Rattle.rf233.specs.Rows.{Access, Next, Shown}
use Rattle.rf233.specs.Rows.Access.{none, reads, writes, reads_length, reads_frame, writes_frame}
use Rattle.rf233.specs.Rows.Next.{same, to}
use Rattle.rf233.specs.Rows.Shown.{plain, power_changed, config_done, sent_back, dropped_back, received_back, received_kept}
use Rattle.rf233.specs.Starter.{register_transfer, frame_read_into, frame_write_from}
use Rattle.rf233.specs.declared.action.Actions.{Actions}
use Rattle.rf233.specs.declared.arrived.Arrived.{Arrived}
use Rattle.rf233.specs.declared.driver.Buffers.{Buffers}
use Rattle.rf233.specs.declared.driver.Driver.{Driver}
use Rattle.rf233.specs.declared.driver.Lent.{Lent}
use Rattle.rf233.specs.declared.driver.Offer.TheVariants as offer
use Rattle.rf233.specs.declared.driver.Under.{Under}
use Rattle.rf233.specs.declared.driver.Under.TheVariants.{FrameRead, FrameWrite, Waits, Idle, Register}
use Rattle.rf233.specs.declared.starter.Started.{Started}
use Rattle.rf233.specs.declared.transfer.TransferKind.{TransferKind}
use Rattle.rf233.proofs.ChoiceLaws.{either}

-- what an emptied transmit place, a front that is away and one at the end of the line leave, the actions of a row leave
pub handed_keeps : (P : Buffers → Type 0) → ((b : Buffers) → P b → P (without_tx b)) → ((b : Buffers) → P b → P (without_front b))
    → ((b : Buffers) → P b → P (rotated b)) → (sh : List Shown) (b : Buffers) → P b → P (handed sh b)
handed_keeps P t r q [] b p = p
handed_keeps P t r q (plain x ∷ more) b p = handed_keeps P t r q more b p
handed_keeps P t r q (power_changed ∷ more) b p = handed_keeps P t r q more b p
handed_keeps P t r q (config_done ∷ more) b p = handed_keeps P t r q more b p
handed_keeps P t r q (sent_back ∷ more) b p = handed_keeps P t r q more (without_tx b) (t b p)
handed_keeps P t r q (dropped_back ∷ more) b p = handed_keeps P t r q more (without_tx b) (t b p)
handed_keeps P t r q (received_back ∷ more) b p = handed_keeps P t r q more (without_front b) (r b p)
handed_keeps P t r q (received_kept ∷ more) b p = handed_keeps P t r q more (rotated b) (q b p)

-- the state that a row enters leaves the record, and its flags the listeners and what is kept of a reception too
pub entering_record : (m : Next) (d : Driver) → (entering m d).buffers ≡ d.buffers
entering_record same d = refl
entering_record (to s) d = refl

pub entering_clients : (m : Next) (r : ℕ) (l : List Assignment) (d : Driver) → (entering m (assigning r l d)).clients ≡ d.clients
entering_clients same r l d = refl
entering_clients (to s) r l d = refl

pub entering_reception : (m : Next) (r : ℕ) (l : List Assignment) (d : Driver) → (entering m (assigning r l d)).reception ≡ d.reception
entering_reception same r l d = refl
entering_reception (to s) r l d = refl

-- a starter, and so an access, alters the record alone: what holds of the driver whatever its record is, holds after it
module _ (P : Driver → Type 0) (d : Driver) (any : (b : Buffers) → P (with_buffers b d)) where
  pub register_by : (k : TransferKind) (x y : ℕ) → P (register_transfer k x y d).driver
  unfolding register_transfer
  register_by k x y = either (λ (s : Started). P s.driver) _ _ _ (any _) (any _)

  read_by : (s : Option Lent) (n : ℕ) → P (frame_read_into s n d).driver
  unfolding frame_read_into
  read_by None n = any _
  read_by (Some x) n = either (λ (s : Started). P s.driver) _ _ _ (any _) (any _)

  write_by : (s : Option Lent) → P (frame_write_from s d).driver
  unfolding frame_write_from
  write_by None = any _
  write_by (Some x) = either (λ (s : Started). P s.driver) _ _ _ (any _) (any _)

  pub access_by : (x : Access) (a : Arrived) (l : Actions) → P (accessed x a l d).driver
  access_by none a l = any _
  access_by (reads r) a l = register_by _ _ _
  access_by (writes r v) a l = register_by _ _ _
  access_by reads_length a l = read_by (front (line d.buffers)) 0
  access_by reads_frame a l = read_by (front (line d.buffers)) d.reception.length
  access_by writes_frame a l = write_by d.buffers.tx_buf

  pub again_by : (u : Under) → P (again u d).driver
  again_by Idle = any _
  again_by Register = any _
  again_by (FrameRead x) = any _
  again_by (FrameWrite x) = any _
  again_by (Waits offer.Register) = register_by _ _ _
  again_by (Waits offer.FrameRead) = read_by (front (line d.buffers)) _
  again_by (Waits offer.FrameWrite) = write_by d.buffers.tx_buf
