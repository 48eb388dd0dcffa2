-- What was seen of the transfers that go out (specs/ResumedIsDeclined.antt) agrees with the driver's record (`Agrees`), and every step
-- behind a completion keeps it (`completion_offers`): what a starter offers the record then has. Assumes nothing.
use Rattle.std.proofs.Common.{◌≡◌, ℕ, Bool, true, false, not, ◌||◌, ◌&&◌, ◌+◌, List, [], ◌∷◌, Option, None, Some, refl, sym, ap, ◌∙◌, cond}
use Rattle.std.proofs.Common.{arith, ◌-◌}
use Rattle.std.specs.Prelude.{is_some}
use Rattle.rf233.specs.Action.{actions}
use Rattle.rf233.specs.Case.{accessed, case_of, entering, handed, own_case, perform, shown}
use Rattle.rf233.specs.Completion.{completed, length_taken, transfer_over}
use Rattle.rf233.specs.DeclineClaim.{offered, under_way_offer, waiting_offer}
use Rattle.rf233.specs.Driver.{assigning, with_buffers}
use Rattle.rf233.specs.Interrupt.{handle_interrupt}
use Rattle.rf233.specs.Line.{front, line}
use Rattle.rf233.specs.Rows.{Access, Row, Shown}
use Rattle.rf233.specs.Rows.Access.{none, reads, writes, reads_length, reads_frame, writes_frame}
use Rattle.rf233.specs.Rows.Row.{does}
use Rattle.rf233.specs.Starter.{begun, frame_read_into, frame_write_from, refrains, register_transfer}
use Rattle.rf233.specs.Step.{quiet, step_of}
use Rattle.rf233.specs.declared.action.Actions.{Actions}
use Rattle.rf233.specs.declared.answer.Outcome.{Outcome}
use Rattle.rf233.specs.declared.arrived.Arrived.{Arrived}
use Rattle.rf233.specs.declared.driver.Buffers.{Buffers}
use Rattle.rf233.specs.declared.driver.Driver.{Driver}
use Rattle.rf233.specs.declared.driver.Lent.{Lent}
use Rattle.rf233.specs.declared.driver.Under.TheVariants.{Idle}
use Rattle.rf233.specs.declared.starter.Started.{Started}
use Rattle.rf233.specs.declared.transfer.TransferKind.TheVariants as transfer
use Rattle.custody.specs.ResumedIsDeclined.{Offers, begins}
use Rattle.rf233.proofs.ChoiceLaws.{either}
use Rattle.rf233.proofs.EveryStep.{Ends, Kept, commit_by, completion_by}
use Rattle.rf233.proofs.OwnBuffers.{found_none}
use Rattle.rf233.proofs.RowLaws.{entering_record, handed_keeps}
use Rattle.rf233.proofs.Trees.{row_of}

-- the transfer under way and the one that waits are those of the record
pub record Agrees (s : Offers) (b : Buffers) : Type 0 where
  pub going : s.going ≡ under_way_offer b
  pub waits : s.waits ≡ waiting_offer b
  pub right : s.wrong ≡ false

-- a step's transfer, once it is seen
abbrev pub After : Offers → Outcome → Type 0
After s o = Agrees (begins o.reply.transfer s) o.driver.buffers

-- nothing is under way or waits
pub record Resting (s : Offers) : Type 0 where
  pub going : s.going ≡ None
  pub waits : s.waits ≡ None
  pub right : s.wrong ≡ false

module _ (s : Offers) (h : Resting s) where
  -- a driver with nothing under way or waiting
  at_rest : (b : Buffers) → b.under ≡ Idle → Agrees s b
  at_rest b i = rw i (record { going = h.going; waits = h.waits; right = h.right })

  abbrev Starts : Started → Type 0
  Starts t = Agrees (begins (begun t.answer) s) t.driver.buffers

  -- no transfer waited for
  none_waited : s.wrong || is_some s.waits ≡ false
  none_waited = rw (h.right, h.waits) refl

  module _ (e : Driver) (i : e.buffers.under ≡ Idle) where
    refrained : Starts (refrains e)
    refrained = rw (found_none e.buffers.under) (at_rest e.buffers i)

    pub reads_start : (x y : ℕ) → Starts (register_transfer transfer.RegisterRead x y e)
    unfolding register_transfer
    reads_start x y = either Starts _ _ _ (record { going = refl; waits = h.waits; right = none_waited }) refrained

    pub writes_start : (x y : ℕ) → Starts (register_transfer transfer.RegisterWrite x y e)
    unfolding register_transfer
    writes_start x y = either Starts _ _ _ (record { going = refl; waits = h.waits; right = none_waited }) refrained

    frame_starts : (x : Option Lent) (n : ℕ) → Starts (frame_read_into x n e)
    unfolding frame_read_into
    frame_starts None n = refrained
    frame_starts (Some x) n =
        let m : n + 2 - 2 ≡ n = omega arith in
        either Starts _ _ _ (record { going = rw m refl; waits = h.waits; right = none_waited }) refrained

    sends_start : (x : Option Lent) → Starts (frame_write_from x e)
    unfolding frame_write_from
    sends_start None = refrained
    sends_start (Some x) = either Starts _ _ _ (record { going = refl; waits = h.waits; right = none_waited }) refrained

    access_starts : (x : Access) (a : Arrived) (l : Actions) → After s (accessed x a l e)
    access_starts none a l = at_rest e.buffers i
    access_starts (reads r) a l = reads_start _ _
    access_starts (writes r v) a l = writes_start _ _
    access_starts reads_length a l = frame_starts (front (line e.buffers)) 0
    access_starts reads_frame a l = frame_starts (front (line e.buffers)) e.reception.length
    access_starts writes_frame a l = sends_start e.buffers.tx_buf

  -- ---- the phases of a completion, with nothing under way or waiting

  abbrev AtRest : Driver → Type 0
  AtRest d = d.buffers.under ≡ Idle

  row_starts : (r : Row) (a : Arrived) (d : Driver) → AtRest d → After s (perform r a d)
  unfolding perform
  row_starts (does l x m sh) a d i =
      let e = entering m (assigning a.result l d) in
      let idle = ap (λ (b : Buffers). b.under) (entering_record m (assigning a.result l d)) ∙ i in
      access_starts (with_buffers (handed sh e.buffers) e)
      (handed_keeps (λ b. b.under ≡ Idle) (λ b q. q) (λ b q. q) (λ b q. q) sh e.buffers idle) x a (actions (shown a e sh))

  case_starts : (a : Arrived) (d : Driver) → AtRest d → After s (own_case a d)
  unfolding case_of
  case_starts a d i = row_starts (row_of a d) a d i

  fires : (d : Driver) → AtRest d → After s (handle_interrupt d)
  unfolding handle_interrupt
  fires d i = either (After s) _ _ _ (either (After s) _ _ _ (writes_start _ i _ _) (reads_start _ i _ _)) (at_rest d.buffers i)

  offer_ends : Ends (After s) AtRest
  offer_ends =
      record {
        fires = fires;
        sends = λ d i t. reads_start _ i _ _;
        waits = λ d i. reads_start _ i _ _;
        commits = λ d i. commit_by (After s) d (writes_start _ i _ _) (at_rest d.buffers i);
        case = case_starts;
      }

  pub completion_offers : (a : Arrived) (d : Driver) → After s (completed a d)
  completion_offers a d =
      completion_by (After s) AtRest (record { flags = λ f d t u i. i; moves = λ a d i. i; reads = λ d t i. i }) offer_ends a d refl
