-- One walk through the phases of a completion: what holds of the steps in which they end (`Ends`), with a fact G of the driver that the
-- phases keep (`Kept`), holds of every completion (`completion_by`). For what holds of every step that shows nothing, and of every
-- state's own case: `every_firing`, `every_completion`. Assumes nothing.
use mathlib.Core.Path.{◌≡◌, refl}
use mathlib.Core.List.{[]}
use lib.Dec.{T}
use Rattle.rf233_const.specs.declared.register.RF233Register.TheVariants.{MIN, TRX_STATUS}
use Rattle.rf233.specs.Action.{actions}
use Rattle.rf233.specs.Case.{accessed, own_case}
use Rattle.rf233.specs.Commit.{first_write, start_commit}
use Rattle.rf233.specs.Completion.{
  waiting_commit,
  pending_interrupt,
  ready_bookkeeping,
  frame_end,
  interrupt_result,
  length_taken,
  transfer_over,
  completed,
}
use Rattle.rf233.specs.Driver.{flag, with_flags, with_state}
use Rattle.rf233.specs.Driver.Flag.{transmitting, interrupt_handling}
use Rattle.rf233.specs.Interrupt.{handle_interrupt, interrupt_state}
use Rattle.std.specs.Prelude.{Option}
use Rattle.rf233.specs.Line.{line, some}
use Rattle.rf233.specs.Rows.{Access}
use Rattle.rf233.specs.Rows.Access.{none, reads, writes, reads_length, reads_frame, writes_frame}
use Rattle.rf233.specs.Step.{done_step, quiet, transition_read, by_answer}
use Rattle.rf233.specs.Write.{table_write}
use Rattle.rf233.specs.declared.action.Actions.{Actions}
use Rattle.rf233.specs.declared.answer.Outcome.{Outcome}
use Rattle.rf233.specs.declared.arrived.Arrived.{Arrived}
use Rattle.rf233.specs.declared.driver.Driver.{Driver}
use Rattle.rf233.specs.declared.driver.Flags.{Flags}
use Rattle.rf233.specs.declared.state.InternalState.TheVariants.{
  READY,
  RX_START_READING,
  TX_STATUS_PRECHECK1,
}
use Rattle.rf233.specs.declared.starter.StarterAnswer.{StarterAnswer}
use Rattle.rf233.specs.declared.starter.StarterAnswer.TheVariants.{Began, UnderWay, Waiting}
use Rattle.rf233.specs.declared.transfer.Transfer.{Transfer}
use Rattle.rf233.proofs.ChoiceLaws.{branch, either}

-- a fact of the driver that the phases of a completion keep: whatever flags but `transmitting` and `interrupt_handling` become; where the
-- interrupt's bits lead; in RX_START_READING where a receive buffer is in the line
pub record Kept (G : Driver → Type 0) : Type 0 where
  pub flags : (f : Flags) (d : Driver) → flag transmitting f ≡ flag transmitting d.flags
      → flag interrupt_handling f ≡ flag interrupt_handling d.flags
      → G d → G (with_flags f d)
  pub moves : (a : Arrived) (d : Driver) → G d → G (with_state (interrupt_state a d.state) d)
  pub reads : (d : Driver) → T (some (line d.buffers)) → G d → G (with_state RX_START_READING d)

-- what holds of the steps in which a completion ends: a firing that was pending; the end of a frame, with a send waiting and without; a
-- waiting commit; the state's own case
pub record Ends (P : Outcome → Type 0) (G : Driver → Type 0) : Type 0 where
  pub fires : (d : Driver) → G d → P (handle_interrupt d)
  pub sends : (d : Driver) → G d → T (flag transmitting d.flags) → P (transition_read MIN TX_STATUS_PRECHECK1 d)
  pub waits : (d : Driver) → G d → P (transition_read TRX_STATUS READY d)
  pub commits : (d : Driver) → G d → P (start_commit d)
  pub case : (a : Arrived) (d : Driver) → G d → P (own_case a d)

module _ (P : Outcome → Type 0) (G : Driver → Type 0) (kept : Kept G) (ends : Ends P G) where
  commit : (a : Arrived) (d : Driver) → G d → P (waiting_commit a d)
  unfolding waiting_commit
  commit a d g = either P _ _ _ (ends.commits d g) (ends.case a d g)

  pending : (a : Arrived) (d : Driver) → G d → P (pending_interrupt a d)
  unfolding pending_interrupt
  pending a d g = either P _ _ _ (ends.fires _ (kept.flags _ d refl refl g)) (commit a d g)

  ready : (a : Arrived) (d : Driver) → G d → P (ready_bookkeeping a d)
  unfolding ready_bookkeeping
  ready a d g = either P _ _ _ (pending a _ (kept.flags _ d refl refl g)) (pending a d g)

  frame : (a : Arrived) (d : Driver) → G d → P (frame_end a d)
  unfolding frame_end
  frame a d g =
      let e = kept.flags _ d refl refl g in
      either P _ _ _
      (branch P _ _ _ (λ h. ready a _ (kept.reads _ h e))
      (λ h. branch P _ _ _ (λ s. ends.sends _ e s) (λ s. ends.waits _ e))) (ready a d g)

  result : (a : Arrived) (d : Driver) → G d → P (interrupt_result a d)
  unfolding interrupt_result
  result a d g = either P _ _ _ (ready a d g) (frame a _ (kept.flags _ _ refl refl (kept.moves a d g)))

  pub completion_by : (a : Arrived) (d : Driver) → G (transfer_over (length_taken a d)) → P (completed a d)
  unfolding completed
  completion_by a d g = either P _ _ _ (result a _ g) (ready a _ g)

-- what holds of the steps that a starter's answer decides between holds of the one that it decides for
by_any : (P : Outcome → Type 0) (s : StarterAnswer) (x y : Outcome) → P x → P y → P (by_answer s x y y)
unfolding by_answer
by_any P (Began t) x y p q = p
by_any P UnderWay x y p q = q
by_any P Waiting x y p q = q

-- so of a commit's start: what holds of its first write and of the driver as it is
pub commit_by : (P : Outcome → Type 0) (d : Driver) → P (table_write first_write d) → P (quiet d (actions [])) → P (start_commit d)
unfolding start_commit
commit_by P d p q = by_any P _ _ _ p q

-- what holds of every step that shows nothing
abbrev pub OfSilent : (Outcome → Type 0) → Type 0
OfSilent P = (d : Driver) (t : Option Transfer) → P (done_step d t (actions []))

module _ (P : Outcome → Type 0) (silent : OfSilent P) where
  pub every_firing : (d : Driver) → P (handle_interrupt d)
  unfolding handle_interrupt
  every_firing d = either P _ _ _ (either P _ _ _ (silent _ _) (silent _ _)) (silent _ _)

  -- with a fact that the state's own case may use
  pub silent_ends : (G : Driver → Type 0) → ((a : Arrived) (d : Driver) → G d → P (own_case a d)) → Ends P G
  silent_ends G case =
      record {
        fires = λ d g. every_firing d;
        sends = λ d g s. silent _ _;
        waits = λ d g. silent _ _;
        commits = λ d g. commit_by P d (silent _ _) (silent _ _);
        case = case;
      }

  pub every_completion : ((a : Arrived) (d : Driver) → P (own_case a d)) → (a : Arrived) (d : Driver) → P (completed a d)
  every_completion case a d =
      completion_by P (λ e. Unit {0}) (record { flags = λ f e s h g. tt; moves = λ b e g. tt; reads = λ e h g. tt })
      (silent_ends (λ e. Unit {0}) (λ b e g. case b e)) a d tt

-- what holds of every step with these actions holds of every access
pub every_access : (P : Outcome → Type 0) (a : Arrived) (l : Actions) (d : Driver)
    → ((e : Driver) (t : Option Transfer) → P (done_step e t l)) → (x : Access) → P (accessed x a l d)
every_access P a l d s none = s _ _
every_access P a l d s (reads r) = s _ _
every_access P a l d s (writes r v) = s _ _
every_access P a l d s reads_length = s _ _
every_access P a l d s reads_frame = s _ _
every_access P a l d s writes_frame = s _ _
