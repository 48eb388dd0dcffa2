-- `one_buffer_as_before` of specs/OneBuffer.antt. That nothing else touches the receive buffers is one walk over the calls (`every_call`),
-- with one over the phases of a completion, and a test of the rows of all states: none moves the front of the line twice (`rows_once`).
-- Assumes nothing.
use Prim.Native.Nat.{ℕ, ◌+◌, ◌≤◌}
use mathlib.Core.Path.{◌≡◌, refl, sym, ap, ◌∙◌, subst}
use mathlib.Core.Bool.{Bool, true, false}
use mathlib.Core.List.{List, [], ◌∷◌, ◌++◌}
use native.Mathlib.Omega.{arith}
use lib.Dec.{T}
use lib.ListN.{length}
use Rattle.std.specs.Prelude.{Option, None, Some, is_some}
use Rattle.rf233.specs.Action.{actions}
use Rattle.rf233.specs.Answer.{answer_no, answer_of}
use Rattle.rf233.specs.Calls.{Call, yields}
use Rattle.rf233.specs.Calls.Call.{
  start,
  stop,
  commit,
  fire,
  query,
  complete,
  transmit,
  receive_buffer,
  reset,
  address,
  pan,
  channel,
  address_long,
  power,
  listener,
  declined,
  resume,
}
use Rattle.rf233.specs.Case.{case_of, entering, handed, own_case, perform, rotated, shown, trees, tree_at, without_front, without_tx}
use Rattle.rf233.specs.Completion.{completed, transfer_over}
use Rattle.rf233.specs.Data.{rx_full}
use Rattle.rf233.specs.Decline.{waiting, declines, resumed}
use Rattle.rf233.specs.Described.{described}
use Rattle.rf233.specs.Driver.{assigning, with_buffers}
use Rattle.rf233.specs.Interrupt.{handle_interrupt}
use Rattle.rf233.specs.Line.{line, front, behind, rotate}
use Rattle.rf233.specs.OneBuffer.{Moved, OneBuffer, as_list, in_turn, reading}
use Rattle.rf233.specs.OneBuffer.Moved.{stays, lends, hands_back, turns}
use Rattle.rf233.specs.Record.{lent, one, receive_count, rx_under_way}
use Rattle.rf233.specs.Rows.{Row, Shown}
use Rattle.rf233.specs.Rows.Row.{does}
use Rattle.rf233.specs.Rows.Shown.{plain, power_changed, config_done, sent_back, dropped_back, received_back, received_kept}
use Rattle.rf233.specs.Starter.{register_transfer}
use Rattle.rf233.specs.Step.{step_of}
use Rattle.rf233.specs.Transfer.{waits, under_way, to_complete, to_resume}
use Rattle.rf233.specs.declared.answer.Outcome.{Outcome}
use Rattle.rf233.specs.declared.arrived.Arrived.{Arrived}
use Rattle.rf233.specs.declared.driver.Buffers.{Buffers}
use Rattle.rf233.specs.declared.driver.Driver.{Driver}
use Rattle.rf233.specs.declared.driver.Lent.{Lent}
use Rattle.rf233.specs.declared.driver.Under.{Under}
use Rattle.rf233.specs.declared.driver.Under.TheVariants.{Idle, Register, FrameRead, FrameWrite, Waits}
use Rattle.rf233.specs.declared.transfer.TransferKind.{TransferKind}
use Rattle.laws.proofs.Logic.{all_below}
use Rattle.rf233.proofs.ChoiceLaws.{either}
use Rattle.rf233.specs.Arrived.{arrived_of}
use Rattle.rf233.proofs.EveryCall.{Lays, every_call, laid, left_keeps, lending}
use Rattle.rf233.proofs.RowLaws.{entering_record, handed_keeps}
use Rattle.rf233.proofs.EveryStep.{Ends, Kept, commit_by, completion_by}
use Rattle.rf233.proofs.Sound.{uncrowded}
use Rattle.rf233.proofs.InTurn.{access_turn, append_turn, back_turn, register_turn, again_turn}
use Rattle.rf233.proofs.LineLaws.{listed_behind, listed_rotate}
use Rattle.rf233.proofs.Trees.{leaves, row_of, row_of_lem, unknown}

-- ---- a row

-- no action of a row moves the front of the line; one at most does
abbrev unmoved : List Shown → Bool
unmoved [] = true
unmoved (plain x ∷ more) = unmoved more
unmoved (power_changed ∷ more) = unmoved more
unmoved (config_done ∷ more) = unmoved more
unmoved (sent_back ∷ more) = unmoved more
unmoved (dropped_back ∷ more) = unmoved more
unmoved (received_back ∷ more) = false
unmoved (received_kept ∷ more) = false

abbrev once : List Shown → Bool
once [] = true
once (plain x ∷ more) = once more
once (power_changed ∷ more) = once more
once (config_done ∷ more) = once more
once (sent_back ∷ more) = once more
once (dropped_back ∷ more) = once more
once (received_back ∷ more) = unmoved more
once (received_kept ∷ more) = unmoved more

abbrev row_once : Row → Bool
row_once (does l x n s) = once s

-- THE TEST OF THE ROWS
rows_once : T (all_below (λ n. leaves unknown row_once (tree_at n)) 69)
unfolding tree_at trees
rows_once = tt

unmoved_line : (s : List Shown) (b : Buffers) → T (unmoved s) → line (handed s b) ≡ line b
unmoved_line [] b t = refl
unmoved_line (plain x ∷ s) b t = unmoved_line s b t
unmoved_line (power_changed ∷ s) b t = unmoved_line s b t
unmoved_line (config_done ∷ s) b t = unmoved_line s b t
unmoved_line (sent_back ∷ s) b t = unmoved_line s (without_tx b) t
unmoved_line (dropped_back ∷ s) b t = unmoved_line s (without_tx b) t
unmoved_line (received_back ∷ s) b t = absurd t
unmoved_line (received_kept ∷ s) b t = absurd t

module _ (xs : List ℕ) where
  abbrev Completed : List Lent → List Lent → Type 0
  Completed = Moved (complete xs)

  handed_moved : (s : List Shown) (b : Buffers) → T (once s) → Completed (line b) (line (handed s b))
  handed_moved [] b t = stays
  handed_moved (plain x ∷ s) b t = handed_moved s b t
  handed_moved (power_changed ∷ s) b t = handed_moved s b t
  handed_moved (config_done ∷ s) b t = handed_moved s b t
  handed_moved (sent_back ∷ s) b t = handed_moved s (without_tx b) t
  handed_moved (dropped_back ∷ s) b t = handed_moved s (without_tx b) t
  handed_moved (received_back ∷ s) b t =
      subst (Completed (line b)) (sym (unmoved_line s (without_front b) t ∙ listed_behind b.rx_line)) (hands_back xs refl)
  handed_moved (received_kept ∷ s) b t =
      subst (Completed (line b)) (sym (unmoved_line s (rotated b) t ∙ listed_rotate b.rx_line)) (turns xs refl)

  handed_idle : (s : List Shown) (b : Buffers) → b.under ≡ Idle → (handed s b).under ≡ Idle
  handed_idle = handed_keeps (λ b. b.under ≡ Idle) (λ b e. e) (λ b e. e) (λ b e. e)

  -- ---- a completion of a driver whose receive buffers in turn are q

  module _ (q : List Lent) where
    -- the transfer is over, and they are the line
    record Ready (d : Driver) : Type 0 where
      idle : d.buffers.under ≡ Idle
      turn : line d.buffers ≡ q

    abbrev Leaves : Outcome → Type 0
    Leaves o = Completed q (in_turn o.driver.buffers)

    in_turn_is : (d : Driver) → Ready d → in_turn d.buffers ≡ q
    in_turn_is d g = rw g.idle g.turn

    stood : (e : Driver) → in_turn e.buffers ≡ q → Completed q (in_turn e.buffers)
    stood e s = subst (Completed q) (sym s) stays

    asked : (n : TransferKind) (x y : ℕ) (e : Driver) → in_turn e.buffers ≡ q → Leaves (step_of (register_transfer n x y e) (actions []))
    asked n x y e s = subst (Completed q) (sym (register_turn n x y e ∙ s)) stays

    row_leaves : (r : Row) (a : Arrived) (d : Driver) → Ready d → T (row_once r) → Leaves (perform r a d)
    unfolding perform
    row_leaves (does l x m s) a d g t =
        let e = entering m (assigning a.result l d) in
        let b = entering_record m (assigning a.result l d) in
        let c = with_buffers (handed s e.buffers) e in
        let idle = handed_idle s e.buffers (ap (λ (r : Buffers). r.under) b ∙ g.idle) in
        subst (Completed q) (sym (access_turn c idle x a (actions (shown a e s)) ∙ rw idle refl))
        (subst (λ l. Completed l (line (handed s e.buffers))) (ap line b ∙ g.turn) (handed_moved s e.buffers t))

    case_leaves : (a : Arrived) (d : Driver) → Ready d → Leaves (own_case a d)
    unfolding case_of
    case_leaves a d g = row_leaves (row_of a d) a d g (row_of_lem (λ n. row_once) rows_once a d)

    fires : (d : Driver) → Ready d → Leaves (handle_interrupt d)
    unfolding handle_interrupt
    fires d g =
        let s = in_turn_is d g in
        either Leaves _ _ _
        (either Leaves _ _ _ (asked _ _ _ _ s) (asked _ _ _ _ s))
        (stood d s)

    ready_ends : Ends Leaves Ready
    ready_ends =
        record {
          fires = fires;
          sends = λ d g s. asked _ _ _ _ (in_turn_is d g);
          waits = λ d g. asked _ _ _ _ (in_turn_is d g);
          commits = λ d g.
              commit_by Leaves d (asked _ _ _ _ (in_turn_is d g)) (stood d (in_turn_is d g));
          case = case_leaves;
        }

    ready_kept : Kept Ready
    ready_kept =
        record {
          flags = λ f d s h g. record { idle = g.idle; turn = g.turn };
          moves = λ a d g. record { idle = g.idle; turn = g.turn };
          reads = λ d h g. record { idle = g.idle; turn = g.turn };
        }

  back_idle : (d : Driver) → (transfer_over d).buffers.under ≡ Idle
  back_idle d = grind arith

  completion_moves : (a : Arrived) (d : Driver) → described d ≡ false
      → Completed (in_turn d.buffers) (in_turn (completed a d).driver.buffers)
  completion_moves a d f =
      let q = in_turn d.buffers in
      completion_by (Leaves q) (Ready q) (ready_kept q) (ready_ends q) a d
      (record { idle = back_idle d; turn = back_turn d.buffers (uncrowded d f) })

-- ---- the calls

-- what a call lays down
pub laid_moved : (c : Call) (d : Driver) → (T (lending c) → rx_full d ≡ false) → Moved c (in_turn d.buffers) (in_turn (laid c d.buffers))
laid_moved start d r = stays
laid_moved stop d r = stays
laid_moved commit d r = stays
laid_moved fire d r = stays
laid_moved query d r = stays
laid_moved declined d r = stays
laid_moved resume d r = stays
laid_moved (complete xs) d r = stays
laid_moved (transmit b l n) d r = stays
laid_moved (receive_buffer b l) d r =
    let x = lent b l in
    subst (Moved (receive_buffer b l) (in_turn d.buffers)) (sym (append_turn d.buffers x (r tt))) (lends b l refl)
laid_moved (reset v) d r = stays
laid_moved (address a) d r = stays
laid_moved (pan a) d r = stays
laid_moved (channel c) d r = stays
laid_moved (address_long l) d r = stays
laid_moved (power t) d r = stays
laid_moved (listener x v) d r = stays

-- a transfer that waits has no receive buffer
pub reading_waits : (u : Under) → waits u ≡ true → reading u ≡ []
reading_waits u i = grind arith

reading_waiting : (u : Under) → under_way u ≡ true → reading (waiting u) ≡ []
reading_waiting u i = grind arith

module _ (d : Driver) where
  abbrev Moves : Call → Driver → Type 0
  Moves c e = Moved c (in_turn d.buffers) (in_turn e.buffers)

  begun : (c : Call) (e : Driver) → Lays c d e → Moves c e
  begun c e y = subst (λ b. Moved c (in_turn d.buffers) (in_turn b)) (sym y.buffers) (laid_moved c d y.room)

  -- a decline puts a frame read's buffer in front again, and a resume takes the front
  pub declined_turn : described d ≡ false → to_complete d.buffers ≡ true → in_turn (declines d).buffers ≡ in_turn d.buffers
  declined_turn e i = rw (reading_waiting d.buffers.under i) (back_turn d.buffers (uncrowded d e))

  pub resumed_turn : to_resume d.buffers ≡ true → in_turn (resumed d).driver.buffers ≡ in_turn d.buffers
  resumed_turn i = again_turn d.buffers.under _ refl ∙ rw (reading_waits d.buffers.under i) refl

  moves : (c : Call) (p : List ℕ) → Moves c (yields d c p).driver
  moves c p =
      every_call d p (λ c t. Moves c t.outcome.driver) (record {
        refuses = λ c n e t z same.
            subst (λ b. Moved c (in_turn d.buffers) (in_turn b))
            (sym (ap (λ (e : Driver). e.buffers) same ∙ left_keeps (λ d. d.buffers) c (answer_no (answer_of n)) d refl)) stays;
        rests = λ c e q y. begun c e y;
        reads = λ c x z e q y. subst (Moved c (in_turn d.buffers)) (sym (register_turn _ _ _ e)) (begun c e y);
        writes = λ c x z e q y. subst (Moved c (in_turn d.buffers)) (sym (register_turn _ _ _ e)) (begun c e y);
        resets = λ v e q y. begun (reset v) e y;
        completes = λ xs q e i. completion_moves xs (arrived_of xs) d e;
        declines = λ e i. subst (Moved declined (in_turn d.buffers)) (sym (declined_turn e i)) stays;
        resumes = λ q e i. subst (Moved resume (in_turn d.buffers)) (sym (resumed_turn i)) stays;
      }) c

-- ---- one buffer

single : (l : List Lent) → length l ≤ 1 → l ≡ as_list (front l)
single [] h = refl
single (x ∷ []) h = refl
single (x ∷ y ∷ l) h = absurd (omega arith)

turn_length : (r : Buffers) → length (in_turn r) ≡ receive_count r
turn_length r = go r.under
  where
    go : (u : Under) → length (reading u ++ line r) ≡ length (line r) + one (is_some (rx_under_way u))
    go Idle = omega arith
    go Register = omega arith
    go (FrameRead x) = omega arith
    go (FrameWrite x) = omega arith
    go (Waits o) = omega arith

found : (s : Option Lent) → front (as_list s) ≡ s
found None = refl
found (Some x) = refl

taken : (s : Option Lent) → behind (as_list s) ≡ as_list None
taken None = refl
taken (Some x) = refl

left : (s : Option Lent) → rotate (as_list s) ≡ as_list s
left None = refl
left (Some x) = refl

pub one_buffer_as_before : OneBuffer
one_buffer_as_before =
    record {
      place = λ r h. single (in_turn r) (omega (arith, turn_length r));
      put = λ x. refl;
      found = found;
      taken = taken;
      left = left;
      moved = moves;
    }
