-- Where the Rust says `unwrap`, the place is full: `unwrap_holds`. Of a driver value that refusal 12 does not describe, whatever it is, a
-- completion carries a row out only where each place that the row takes a buffer from is full, so that no notice names the 0 of
-- `buffer_in None`, and no frame transfer lacks its buffer. From one test over the rows of all states (`rows_take`), and one over states
-- and kinds of transfer for the return of the buffers (`return_keeps`). Assumes nothing.
use Prim.Native.Nat.{ℕ}
use mathlib.Core.Path.{◌≡◌, sym, subst}
use mathlib.Core.Bool.{Bool, true, false, not, ◌&&◌, ◌||◌}
use mathlib.Core.List.{List, [], ◌∷◌}
use lib.Dec.{T, eqb, ltb}
use borrow.Author.Tests.{not-false}
use Rattle.laws.proofs.Logic.{
  left,
  right,
  is_true,
  nor_left,
  nor_right,
  none_left,
  none_right,
  imp,
  apply,
  all_below,
}
use Rattle.rf233.specs.Case.{own_case, trees, tree_at}
use Rattle.rf233.specs.Choice.{one_of}
use Rattle.rf233.specs.Completion.{transfer_over, completed}
use Rattle.rf233.specs.Described.{
  recorded_twice,
  own_nowhere,
  client_above,
  length_bad,
  held_besides,
  crowded,
  frame_no,
  frame_unfit,
  buffer_missing,
  held_length_bad,
  unplaced,
  described,
}
use Rattle.rf233.specs.Interrupt.{interrupt_state}
use Rattle.rf233.specs.Line.{line, some}
use Rattle.std.specs.Prelude.{is_some}
use Rattle.rf233.specs.Rows.{Access, Shown, Row}
use Rattle.rf233.specs.Rows.Access.{none, reads, writes, reads_length, reads_frame, writes_frame}
use Rattle.rf233.specs.Rows.Row.{does}
use Rattle.rf233.specs.Rows.Shown.{plain, power_changed, config_done, sent_back, dropped_back, received_back, received_kept}
use Rattle.rf233.specs.State.{state_no, state_frame}
use Rattle.rf233.specs.declared.answer.Outcome.{Outcome}
use Rattle.rf233.specs.declared.arrived.Arrived.{Arrived}
use Rattle.rf233.specs.declared.driver.Buffers.{Buffers}
use Rattle.rf233.specs.declared.driver.Driver.{Driver}
use Rattle.rf233.specs.declared.state.InternalState.{InternalState}
use Rattle.rf233.proofs.ChoiceLaws.{either}
use Rattle.rf233.proofs.EveryStep.{OfSilent, Kept, silent_ends, completion_by}
use Rattle.rf233.proofs.Facts.{Facts, kind, frame_of, frame_no_lem, of, back, over_is}
use Rattle.rf233.proofs.Fit as fit
use Rattle.rf233.proofs.Fit.{framed, all_facts, facts_at}
use Rattle.rf233.proofs.Trees.{leaves, unknown, row_of, row_of_lem}
use Rattle.rf233.proofs.Keys.{state_below}

-- what a row takes: from the transmit place by a sent or dropped buffer or a frame write, from the front of the line by a received buffer,
-- handed over or kept, or a frame read
abbrev shown_tx : List Shown → Bool
shown_tx [] = false
shown_tx (plain x ∷ more) = shown_tx more
shown_tx (power_changed ∷ more) = shown_tx more
shown_tx (config_done ∷ more) = shown_tx more
shown_tx (sent_back ∷ more) = true
shown_tx (dropped_back ∷ more) = true
shown_tx (received_back ∷ more) = shown_tx more
shown_tx (received_kept ∷ more) = shown_tx more

abbrev shown_rx : List Shown → Bool
shown_rx [] = false
shown_rx (plain x ∷ more) = shown_rx more
shown_rx (power_changed ∷ more) = shown_rx more
shown_rx (config_done ∷ more) = shown_rx more
shown_rx (sent_back ∷ more) = shown_rx more
shown_rx (dropped_back ∷ more) = shown_rx more
shown_rx (received_back ∷ more) = true
shown_rx (received_kept ∷ more) = true

abbrev access_tx : Access → Bool
access_tx none = false
access_tx (reads r) = false
access_tx (writes r v) = false
access_tx reads_length = false
access_tx reads_frame = false
access_tx writes_frame = true

abbrev access_rx : Access → Bool
access_rx none = false
access_rx (reads r) = false
access_rx (writes r v) = false
access_rx reads_length = true
access_rx reads_frame = true
access_rx writes_frame = false

abbrev pub takes_tx : Row → Bool
takes_tx (does l x n s) = shown_tx s || access_tx x

abbrev pub takes_rx : Row → Bool
takes_rx (does l x n s) = shown_rx s || access_rx x

-- the states that document 01 names: 33 and 43 take the transmit buffer; 62, 64 and 68 the buffer at the front of the line
abbrev named_tx : ℕ → Bool
named_tx n = one_of (33 ∷ 43 ∷ []) n

abbrev named_rx : ℕ → Bool
named_rx n = one_of (62 ∷ 64 ∷ 68 ∷ []) n

abbrev row_takes : ℕ → Row → Bool
row_takes n x = imp (takes_tx x) (named_tx n) && imp (takes_rx x) (named_rx n)

-- THE TEST OF THE ROWS: they take buffers in no other states
rows_take : T (all_below (λ n. leaves unknown (row_takes n) (tree_at n)) 69)
unfolding tree_at trees
rows_take = tt

-- where the row takes a buffer from there is one
pub record Full (x : Row) (d : Driver) : Type 0 where
  pub transmit : T (takes_tx x) → T (is_some d.buffers.tx_buf)
  pub receive : T (takes_rx x) → T (some (line d.buffers))

-- no buffer is missing where the state takes one
abbrev missing : ℕ → Bool → Bool → Bool
missing n t r = (named_tx n && not t) || (named_rx n && not r)

abbrev Holds : Driver → Type 0
Holds d = T (not (buffer_missing d.buffers (state_no d.state)))

-- where a test is asked and nothing is missing, the place is full
asked_full : (c t : Bool) → T (not (c && not t)) → T c → T t
asked_full true true n y = tt
asked_full true false n y = n
asked_full false t n y = absurd y

full : (a : Arrived) (d : Driver) → Holds d → Full (row_of a d) d
full a d h =
    let n = state_no d.state in
    let x = row_of a d in
    let t = is_some d.buffers.tx_buf in
    let r = some (line d.buffers) in
    let takes = row_of_lem row_takes rows_take a d in
    record {
      transmit =
          λ y. asked_full (named_tx n) t (nor_left (named_tx n && not t) (named_rx n && not r) h)
          (apply (takes_tx x) (named_tx n) (left (imp (takes_tx x) (named_tx n)) (imp (takes_rx x) (named_rx n)) takes) y);
      receive =
          λ y. asked_full (named_rx n) r (nor_right (named_tx n && not t) (named_rx n && not r) h)
          (apply (takes_rx x) (named_rx n) (right (imp (takes_tx x) (named_tx n)) (imp (takes_rx x) (named_rx n)) takes) y);
    }

-- the phases keep it: the states that they lead to take no buffer, or find it
kept : Kept Holds
unfolding interrupt_state
kept =
    record {
      flags = λ f d s t h. h;
      moves = λ a d h.
          let H : InternalState → Type 0 = λ s. T (not (buffer_missing d.buffers (state_no s))) in
          either H _ _ _ tt (either H _ _ _ tt (either H _ _ _ tt h));
      reads = λ d f h. rw (is_true (some (line d.buffers)) f) tt;
    }

-- the return of the buffers: where nothing is missing, and the state names the frame transfer and no interrupt is handled during one,
-- nothing is missing once they are back
abbrev gone : Facts → Bool
gone c = missing c.state c.tx c.rx

abbrev return_test : Facts → Bool
return_test c = imp (not (ltb 0 (frame_of c.transfer) && c.handles)) (imp (not (gone c)) (not (gone (back c))))

-- THE TEST OF THE RETURN
return_keeps : T (all_below (all_facts fit.any return_test) 69)
return_keeps = tt

-- two clauses of refusal 12
module _ (d : Driver) (e : described d ≡ false) where
  abbrev b : Buffers
  b = d.buffers

  abbrev n : ℕ
  n = state_no d.state

  abbrev h : Bool
  h = d.flags.interrupt_handling

  last_clauses : frame_unfit b.under n h || (buffer_missing b n || (held_length_bad d.reception n || unplaced b.under b)) ≡ false
  unfolding described
  last_clauses =
      none_right (crowded b) _
      (none_right (held_besides b) _
      (none_right (length_bad b) _ (none_right (client_above b) _ (none_right (own_nowhere b) _ (none_right (recorded_twice b) _ e)))))

  unfit : frame_unfit b.under n h ≡ false
  unfit = none_left (frame_unfit b.under n h) _ last_clauses

  missing_none : buffer_missing b n ≡ false
  missing_none = none_left (buffer_missing b n) _ (none_right (frame_unfit b.under n h) _ last_clauses)

  pub frame_named : eqb (frame_no b.under) (state_frame n) ≡ true
  frame_named = not-false (eqb (frame_no b.under) (state_frame n)) (none_left (not (eqb (frame_no b.under) (state_frame n))) _ unfit)

  home : unplaced b.under b ≡ false
  home =
      none_right (held_length_bad d.reception n) _
      (none_right (buffer_missing b n) _ (none_right (frame_unfit b.under n h) _ last_clauses))

  over : Holds (transfer_over d)
  over =
      let c = of d in
      let with-frame = ltb 0 (frame_no b.under) && h in
      let found : T (not (gone c)) = rw missing_none tt in
      let framed-so : T (framed c) = rw (← frame_no_lem b.under, frame_named) tt in
      let clear : T (not (ltb 0 (frame_of (kind b.under)) && h)) =
      rw (← frame_no_lem b.under, none_right (not (eqb (frame_no b.under) (state_frame n))) with-frame unfit) tt in
      subst (λ c. T (not (gone c))) (sym (over_is d home))
      (apply (not (gone c)) (not (gone (back c)))
      (apply (not (ltb 0 (frame_of (kind b.under)) && h)) _
      (facts_at fit.any return_test return_keeps c (state_below d.state) tt framed-so) clear) found)

-- whatever holds of every step that shows nothing, and of a row carried out with its places full, holds of every completion of a driver
-- value that 12 does not describe
pub unwrap_holds : (P : Outcome → Type 0) → OfSilent P → ((a : Arrived) (d : Driver) → Full (row_of a d) d → P (own_case a d))
    → (a : Arrived) (d : Driver) → described d ≡ false → P (completed a d)
unwrap_holds P silent row a d e =
    completion_by P Holds kept (silent_ends P silent Holds (λ a d h. row a d (full a d h))) a d (over d e)
