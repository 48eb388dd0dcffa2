-- Each step in which a completion ends, and a firing, keeps the invariant of Custody.antt where a transfer may begin: `ends`, for the one
-- walk through the phases (`completion_by` of rf233). From the row test of Fit.antt and the moves of Match.antt. Assumes nothing.
use Rattle.std.proofs.Common.{◌≡◌, ℕ, true, false, not, ◌&&◌, T, eqb, leb, [], length, sym, refl, ap, ◌∙◌, subst, le_trans, leb→le}
use Rattle.rf233.specs.Action.{actions}
use Rattle.rf233.specs.Case.{perform, accessed, case_of, own_case, shown, handed, entering}
use Rattle.rf233.specs.Commit.{start_commit}
use Rattle.rf233.specs.Driver.{assigning, flagged, with_buffers, with_state}
use Rattle.rf233.specs.Driver.Flag.{interrupt_handling}
use Rattle.rf233.specs.Interrupt.{handle_interrupt, interrupt_state}
use Rattle.rf233.specs.Rows.{Row}
use Rattle.rf233.specs.Rows.Row.{does}
use Rattle.rf233.specs.Starter.{register_transfer}
use Rattle.rf233.specs.State.{state_no}
use Rattle.rf233.specs.Step.{step_of, quiet, by_answer}
use Rattle.rf233.specs.Transfer.{kind_value, free_to_start}
use Rattle.rf233.specs.declared.transfer.TransferKind.{TransferKind}
use Rattle.rf233.specs.declared.transfer.TransferKind.TheVariants as transfer
use Rattle.rf233.specs.declared.action.Actions.{Actions}
use Rattle.rf233.specs.declared.answer.Outcome.{Outcome}
use Rattle.rf233.specs.declared.arrived.Arrived.{Arrived}
use Rattle.rf233.specs.declared.driver.Driver.{Driver}
use Rattle.rf233.specs.declared.driver.Under.TheVariants.{Register}
use Rattle.rf233.specs.declared.state.InternalState.{InternalState}
use Rattle.rf233.specs.declared.state.InternalState.TheVariants.{
  READY,
  CONFIG_SHORT0_SET,
  RX_TURNING_OFF,
  TX_STATUS_PRECHECK1,
}
use Rattle.custody.specs.Book.{Page, noted, noted_all}
use Rattle.laws.proofs.Logic.{left, right}
use Rattle.rf233.proofs.ChoiceLaws.{branch}
use Rattle.rf233.proofs.EveryStep.{Kept, Ends, every_access}
use Rattle.rf233.proofs.Facts.{kind, is_none, of, under, settled, settled_is, prepared_is}
use Rattle.rf233.proofs.Facts.Kind.{access}
use Rattle.rf233.proofs.Fit.{fit, ok_shown, ok_row, row_fits, to_45, to_60, to_handling, to_62, to_33, to_29, to_59, to_28}
use Rattle.rf233.proofs.Fit.{to_42, fuller_access}
use Rattle.rf233.proofs.OwnBuffers.{idle_is}
use Rattle.rf233.proofs.RowLaws.{entering_record}
use Rattle.rf233.proofs.Trees.{row_of}
use Rattle.custody.proofs.Actions.{padded_same, fewer, hands}
use Rattle.custody.proofs.Custody.{
  Inv,
  After,
  Lengths,
  with_transfer,
  handed_lengths,
  handed_free,
  lengths_register,
  register_begins,
  register_keeps,
  access_keeps,
}
use Rattle.custody.proofs.Match.{Match, begins}
use Rattle.custody.proofs.UnderKind.{kind_of}

-- the invariant, where a transfer may begin
pub record Rest (k : Page) (d : Driver) : Type 0 where
  pub inv : Inv k d
  pub free : free_to_start d.buffers ≡ true

module _ (k : Page) where
  -- no transfer is under way
  pub rests : (d : Driver) → Rest k d → T (is_none (kind d.buffers.under))
  rests d v = rw (idle_is d.buffers.under v.free) tt

  -- another driver with the same record
  pub rested : (d e : Driver) → Rest k d → e.buffers ≡ d.buffers → T (fit (of e)) → Rest k e
  rested d e v q o =
      record {
        inv = record {
          match = subst (λ b. Match b k) (sym q) v.inv.match;
          fitted = o;
          lengths = subst Lengths (sym q) v.inv.lengths;
        };
        free = ap free_to_start q ∙ v.free;
      }

  -- a register transfer is asked for
  pub asks : (d e : Driver) → Rest k d → e.buffers ≡ d.buffers → (n : TransferKind) (x y : ℕ) → kind_of (kind_value n) ≡ 1
      → eqb (kind_value n) 0 ≡ false
      → T (fit (under access (of e)))
      → After k (step_of (register_transfer n x y e) (actions []))
  asks d e v q =
      register_keeps k e (subst (λ b. Match b k) (sym q) v.inv.match) (subst Lengths (sym q) v.inv.lengths)
      (ap free_to_start q ∙ v.free) (actions [])

  -- a row that passes the test
  perform_keeps : (a : Arrived) (d : Driver) → Rest k d → (r : Row) → T (ok_row (of d) r)
      → After k (perform r a d)
  unfolding perform
  perform_keeps a d v (does l x m sh) o =
      let e = entering m (assigning a.result l d) in
      let c = with_buffers (handed sh e.buffers) e in
      let y = actions (shown a e sh) in
      let q = entering_record m (assigning a.result l d) in
      let p = ok_shown sh (settled l m (of d)) in
      let few = left (leb (length sh) 6 && p) _ o in
      let six = leb→le (length sh) 6 (left (leb (length sh) 6) p few) in
      let there : T (ok_shown sh (of e)) =
      subst (λ z. T (ok_shown sh z)) (sym (settled_is a.result l m d)) (right (leb (length sh) 6) p few) in
      let given =
      hands a e sh e.buffers k (of e) (record { tx_of = λ y. (y, refl); rx_of = λ y. (y, refl) }) there
      (subst (λ b. Match b k) (sym q) v.inv.match) in
      let kept =
      access_keeps (noted_all (shown a e sh) k) c given (handed_lengths sh e.buffers (subst Lengths (sym q) v.inv.lengths))
      (handed_free sh e.buffers (ap free_to_start q ∙ v.free)) y a x
      (fuller_access x (prepared_is a.result l m sh d) (right (leb (length sh) 6 && p) _ o)) in
      let z = accessed x a y c in
      subst (λ n. Inv (with_transfer z n) z.driver)
      (sym (ap (λ (w : Actions). noted_all w.items k) (every_access (λ (o : Outcome). o.reply.actions ≡ y) a y c (λ e t. refl) x)
      ∙ padded_same (λ k x. noted x k) (λ k. refl) 6 6 (shown a e sh) k (le_trans (fewer a e sh) six))) kept

  own_keeps : (a : Arrived) (d : Driver) → Rest k d → After k (own_case a d)
  unfolding case_of
  own_keeps a d v =
      perform_keeps a d v (row_of a d) (row_fits a d v.inv.fitted (rests d v))

  -- a firing
  pub fires : (d : Driver) → Rest k d → After k (handle_interrupt d)
  unfolding handle_interrupt
  fires d v =
      let o = v.inv.fitted in
      branch (After k) _ _ _
      (λ y. branch (After k) _ _ _
      (λ z. asks d (with_state RX_TURNING_OFF d) v refl transfer.RegisterWrite _ _ refl refl (to_60.gives (of d) o (rests d v) tt))
      (λ z. asks d (flagged interrupt_handling true d) v refl transfer.RegisterRead _ _ refl refl
      (to_handling.gives (of d) o (rests d v) tt)))
      (λ y. absurd (subst (λ t. T (not t)) v.free y))

  -- a commit starts: the first write begins, and the state is 45
  pub commits : (d : Driver) → Rest k d → After k (start_commit d)
  unfolding start_commit by_answer
  commits d v =
      let e = with_state CONFIG_SHORT0_SET d in
      subst (λ s. After k (by_answer s.answer (step_of s (actions [])) (quiet d (actions [])) (quiet d (actions []))))
      (sym (register_begins k e v.inv.match v.inv.lengths v.free transfer.RegisterWrite _ _))
      (record {
        match = begins d.buffers k v.inv.match Register 2 tt refl v.free;
        fitted = to_45.gives (of d) v.inv.fitted (rests d v) tt;
        lengths = lengths_register _ d.buffers v.inv.lengths;
      })

  -- the steps in which a completion ends
  pub ends : Ends (After k) (Rest k)
  ends =
      record {
        fires = fires;
        sends = λ d v s.
            asks d (with_state TX_STATUS_PRECHECK1 d) v refl transfer.RegisterRead _ _ refl refl
            (to_33.gives (of d) v.inv.fitted (rests d v) s);
        waits = λ d v.
            asks d (with_state READY d) v refl transfer.RegisterRead _ _ refl refl (to_29.gives (of d) v.inv.fitted (rests d v) tt);
        commits = commits;
        case = own_keeps;
      }

  -- where the interrupt's bits lead
  moves : (a : Arrived) (d : Driver) → Rest k d → T (fit (of (with_state (interrupt_state a d.state) d)))
  unfolding interrupt_state
  moves a d v =
      let o = v.inv.fitted in
      let P : InternalState → Type 0 = λ s. T (fit (of (with_state s d))) in
      branch P _ _ _ (λ y. to_59.gives (of d) o (rests d v) tt)
      (λ y. branch P _ _ _ (λ z. to_28.gives (of d) o (rests d v) (left (eqb (state_no d.state) 27) _ z))
      (λ z. branch P _ _ _ (λ w. to_42.gives (of d) o (rests d v) (left (eqb (state_no d.state) 40) _ w)) (λ w. o)))

  -- the phases keep it
  pub kept : Kept (Rest k)
  kept =
      record {
        flags = λ f d s h v. rested d _ v refl (rw (s, h) v.inv.fitted);
        moves = λ a d v. rested d _ v refl (moves a d v);
        reads = λ d h v. rested d _ v refl (to_62.gives (of d) v.inv.fitted (rests d v) h);
      }
