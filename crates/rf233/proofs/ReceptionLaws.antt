-- What is kept of a reception alters at the end of a frame read alone: the phases behind the return of the buffers leave it
-- (`completion_keeps`). Assumes nothing.
use mathlib.Core.List.{[]}
use mathlib.Core.Path.{◌≡◌, refl, ◌∙◌}
use Prim.Native.Nat.{ℕ}
use Rattle.rf233.specs.Case.{own_case, case_of, perform}
use Rattle.rf233.specs.Completion.{length_taken, completed}
use Rattle.rf233.specs.Interrupt.{handle_interrupt}
use Rattle.rf233.specs.Rows.{Row}
use Rattle.rf233.specs.Rows.Row.{does}
use Rattle.rf233.specs.Action.{actions}
use Rattle.rf233.specs.Step.{step_of}
use Rattle.rf233.specs.Starter.{register_transfer}
use Rattle.rf233.specs.declared.answer.Outcome.{Outcome}
use Rattle.rf233.specs.declared.arrived.Arrived.{Arrived}
use Rattle.rf233.specs.declared.driver.Driver.{Driver}
use Rattle.rf233.specs.declared.reception.Reception.{Reception}
use Rattle.rf233.specs.declared.transfer.TransferKind.{TransferKind}
use Rattle.rf233.proofs.ChoiceLaws.{either}
use Rattle.rf233.proofs.EveryStep.{commit_by, completion_by}
use Rattle.rf233.proofs.RowLaws.{entering_reception, access_by, register_by}
use Rattle.rf233.proofs.Trees.{row_of}

module _ (r : Reception) where
  -- a step leaves r
  abbrev pub Stays : Outcome → Type 0
  Stays o = o.driver.reception ≡ r

  asks_stay : (k : TransferKind) (x y : ℕ) (d : Driver) → d.reception ≡ r → Stays (step_of (register_transfer k x y d) (actions []))
  asks_stay k x y d e = register_by (λ d. d.reception ≡ r) d (λ b. e) k x y

  row_stays : (x : Row) (a : Arrived) (d : Driver) → d.reception ≡ r → Stays (perform x a d)
  unfolding perform
  row_stays (does l x m sh) a d e = access_by (λ d. d.reception ≡ r) _ (λ b. entering_reception m a.result l d ∙ e) x a _

  own_stays : (a : Arrived) (d : Driver) → d.reception ≡ r → Stays (own_case a d)
  unfolding case_of
  own_stays a d e = row_stays (row_of a d) a d e

  firing_stays : (d : Driver) → d.reception ≡ r → Stays (handle_interrupt d)
  unfolding handle_interrupt
  firing_stays d e = either Stays _ _ _ (either Stays _ _ _ (asks_stay _ _ _ _ e) (asks_stay _ _ _ _ e)) e

  phases_stay : (a : Arrived) (d : Driver) → (length_taken a d).reception ≡ r → Stays (completed a d)
  phases_stay a d e =
      completion_by Stays (λ d. d.reception ≡ r) (record { flags = λ f d s h g. g; moves = λ a d g. g; reads = λ d h g. g })
      (record {
        fires = firing_stays;
        sends = λ d g s. asks_stay _ _ _ _ g;
        waits = λ d g. asks_stay _ _ _ _ g;
        commits = λ d g. commit_by Stays d (asks_stay _ _ _ _ g) g;
        case = own_stays;
      }) a d e

-- what the phases find at the return of the buffers they leave
pub completion_keeps : (a : Arrived) (d : Driver) → (completed a d).driver.reception ≡ (length_taken a d).reception
completion_keeps a d = phases_stay (length_taken a d).reception a d refl
