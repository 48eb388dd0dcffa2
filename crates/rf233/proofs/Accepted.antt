-- What an accepted event yields: an accepted completion is the step `completed` on the copied bytes, an accepted firing `handle_interrupt`;
-- what an accepted completion had; and that a step's own answer is always done. Assumes nothing.
use mathlib.Core.Path.{◌≡◌, refl, sym, ap, ◌∙◌}
use mathlib.Core.Bool.{Bool, true, false, not}
use borrow.Author.Tests.{not-false}
use mathlib.Core.List.{List}
use Prim.Native.Nat.{ℕ}
use lib.Dec.{eqb}
use Rattle.rf233.proofs.EveryStep.{OfSilent, every_firing, every_completion, every_access}
use Rattle.rf233.specs.Answer.{answer_no}
use Rattle.rf233.specs.Guard.{Called, accepted, pool_fault}
use Rattle.rf233.specs.Kernel.{completing, completion_call, fired_call, arrived_bad}
use Rattle.rf233.specs.Arrived.{arrived_of}
use Rattle.rf233.specs.Choice.{pick}
use Rattle.rf233.specs.Interrupt.{handle_interrupt}
use Rattle.rf233.specs.Completion.{completed}
use Rattle.rf233.specs.Case.{perform, case_of, own_case, tree_at}
use Rattle.rf233.specs.Rows.{Row, eval}
use Rattle.rf233.specs.Rows.Row.{does}
use Rattle.rf233.specs.Transfer.{to_complete}
use Rattle.rf233.specs.declared.answer.Answer.TheVariants.{Done}
use Rattle.rf233.specs.declared.answer.Outcome.{Outcome}
use Rattle.rf233.specs.declared.arrived.Arrived.{Arrived}
use Rattle.rf233.specs.declared.driver.Driver.{Driver}
use Rattle.laws.proofs.Logic.{clash}

-- the answer is done
abbrev pub IsDone : Outcome → Type 0
IsDone o = o.reply.answer ≡ Done

done_perform : (r : Row) (a : Arrived) (d : Driver) → IsDone (perform r a d)
unfolding perform
done_perform (does l x n s) a d = every_access IsDone a _ _ (λ e t. refl) x

done_own : (a : Arrived) (d : Driver) → IsDone (own_case a d)
unfolding case_of
done_own a d = done_perform (eval (tree_at _) a d) a d

done_silent : OfSilent IsDone
done_silent d t = refl

pub done_handle : (d : Driver) → IsDone (handle_interrupt d)
done_handle = every_firing IsDone done_silent

pub done_completed : (a : Arrived) (d : Driver) → IsDone (completed a d)
done_completed = every_completion IsDone done_silent done_own

-- what is accepted went past a test that refuses
pub past : (t : Bool) (r s : Called) → accepted r ≡ false → accepted (pick t r s) ≡ true → pick t r s ≡ s
unfolding pick
past true r s e a = clash (accepted r) e a
past false r s e a = refl

-- an accepted firing is the interrupt's step
pub fired_accepted : (d : Driver) (p : List ℕ) → accepted (fired_call d p) ≡ true → (fired_call d p).outcome ≡ handle_interrupt d
unfolding fired_call
fired_accepted d p e = ap (λ (c : Called). c.outcome) (past (pool_fault d p) _ _ refl e)

-- an accepted completion is the step of its bytes
pub completion_accepted : (d : Driver) (xs p : List ℕ) → accepted (completion_call d xs p) ≡ true
    → (completion_call d xs p).outcome ≡ completed (arrived_of xs) d
unfolding completion_call completing
completion_accepted d xs p e =
    let e₁ = past (pool_fault d p) _ _ refl e in
    let e₂ = past (not (to_complete d.buffers)) _ _ refl (ap accepted (sym e₁) ∙ e) in
    let e₃ = past (arrived_bad xs d.buffers) _ _ refl (ap accepted (sym e₂) ∙ (ap accepted (sym e₁) ∙ e)) in
    ap (λ (c : Called). c.outcome) (e₁ ∙ (e₂ ∙ e₃))

-- a completion that is accepted had a pool, a transfer to complete, and bytes that it can bring
pub not_refused : (t : Bool) (r s : Called) → accepted r ≡ false → accepted (pick t r s) ≡ true → t ≡ false
unfolding pick
not_refused true r s e a = clash (accepted r) e a
not_refused false r s e a = refl

pub had_pool : (d : Driver) (xs p : List ℕ) → accepted (completion_call d xs p) ≡ true → pool_fault d p ≡ false
unfolding completion_call
had_pool d xs p e = not_refused (pool_fault d p) _ _ refl e

pub had_transfer : (d : Driver) (xs p : List ℕ) → accepted (completion_call d xs p) ≡ true → to_complete d.buffers ≡ true
unfolding completion_call
had_transfer d xs p e =
    not-false (to_complete d.buffers)
    (not_refused (not (to_complete d.buffers)) _ _ refl (ap accepted (sym (past (pool_fault d p) _ _ refl e)) ∙ e))

pub had_bytes : (d : Driver) (xs p : List ℕ) → accepted (completion_call d xs p) ≡ true → arrived_bad xs d.buffers ≡ false
unfolding completion_call
had_bytes d xs p e =
    let e₁ = past (pool_fault d p) _ _ refl e in
    let e₂ = past (not (to_complete d.buffers)) _ _ refl (ap accepted (sym e₁) ∙ e) in
    not_refused (arrived_bad xs d.buffers) _ _ refl (ap accepted (sym e₂) ∙ (ap accepted (sym e₁) ∙ e))

-- a step that is done is accepted
pub done_is_accepted : (o : Outcome) → IsDone o → eqb (answer_no o.reply.answer) 0 ≡ true
done_is_accepted o e = ap (λ x. eqb (answer_no x) 0) e
