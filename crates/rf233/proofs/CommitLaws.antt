-- Laws of a commit. Its start, by whether a transfer is under way: `commit_begins`, `commit_waits`. A completion in READY for which it
-- waited: `ready_starts`. Its states 45 to 57, from one computed test of each of their properties: `commit_step`, the write of a state's
-- row sent by any completion there, and `commit_done`, the end in 58. Assumes nothing.
use mathlib.Core.Path.{◌≡◌, refl, subst, ◌∙◌}
use mathlib.Core.Bool.{Bool, true, false, not, ◌&&◌, ◌||◌}
use mathlib.Core.List.{List, [], ◌∷◌}
use Prim.Native.Nat.{ℕ, ◌+◌, ◌<◌}
use native.Mathlib.Omega.{arith}
use lib.Dec.{eqb}
use lib.ListN.{get_or}
use borrow.Author.Tests.{not-true}
use Rattle.std.specs.Prelude.{Some}
use Rattle.rf233_const.specs.Bits.{bit_set}
use Rattle.rf233_const.specs.Command as command
use Rattle.rf233_const.specs.Register.{register_address}
use Rattle.rf233_const.specs.declared.register.RF233Register.TheVariants.{TRX_STATUS}
use Rattle.rf233.specs.Action.{actions}
use Rattle.rf233.specs.Case.{case_of, perform, trees, tree_at}
use Rattle.rf233.specs.Choice.{pick, one_of, within}
use Rattle.rf233.specs.Commit.{first_write, start_commit, commit_row}
use Rattle.rf233.specs.CommitClaim.{row_sends, shows_no_frame}
use Rattle.rf233.specs.Completion.{
  completed,
  interrupt_result,
  frame_end,
  ready_bookkeeping,
  pending_interrupt,
  waiting_commit,
  frame_done,
  length_taken,
  transfer_over,
  now_on,
}
use Rattle.rf233.specs.Driver.{with_state, with_buffers, flagged, with_command}
use Rattle.rf233.specs.Driver.Flag.{receiving}
use Rattle.rf233.specs.Guard.{Called, stepping}
use Rattle.rf233.specs.Interrupt.{interrupt_state}
use Rattle.rf233.specs.Kernel.{completion_call}
use Rattle.rf233.specs.Rows.{eval, write}
use Rattle.rf233.specs.Starter.{buffers_away, register_transfer, found, command_of, refrains}
use Rattle.rf233.specs.State.{state_no, state_frame}
use Rattle.rf233.specs.Step.{done_step, quiet, by_answer, step_of}
use Rattle.rf233.specs.Transfer.{transfer_of, free_to_start}
use Rattle.rf233.specs.Write.{value_of}
use Rattle.rf233.specs.declared.answer.Outcome.{Outcome}
use Rattle.rf233.specs.declared.arrived.Arrived.{Arrived}
use Rattle.rf233.specs.declared.driver.Buffers.{Buffers}
use Rattle.rf233.specs.declared.driver.Command.{Command}
use Rattle.rf233.specs.declared.driver.Driver.{Driver}
use Rattle.rf233.specs.declared.driver.Settings.{Settings}
use Rattle.rf233.specs.declared.driver.Under.{Under}
use Rattle.rf233.specs.declared.driver.Under.TheVariants.{Register, FrameRead, FrameWrite, Waits, Idle}
use Rattle.rf233.specs.declared.state.InternalState.TheVariants.{CONFIG_SHORT0_SET}
use Rattle.rf233.specs.declared.transfer.TransferKind.TheVariants as kind
use Rattle.rf233.specs.declared.write.Value.TheVariants.{AddrLow}
use Rattle.laws.proofs.Logic.{both_left, both_right, clash}
use Rattle.rf233.specs.Arrived.{arrived_of}
use Rattle.rf233.proofs.Conditions.{by_flag}
use Rattle.rf233.proofs.OwnBuffers.{Plain, register_refrains, same_record}
use Rattle.rf233.proofs.PoolLaws.{command_written_length}
use Rattle.rf233.proofs.Starred.{Accepts, In, Completes}
use Rattle.rf233.proofs.StarredSteps.{sends, brought, still, accepted_step, straight, unmoved, write_case, Goes}
use Rattle.rf233.proofs.Tables.{in_range_lem}

-- the record once the first write has begun
abbrev first_command : Settings → Command
first_command s = command_of kind.RegisterWrite 0xE0 (value_of AddrLow s)

abbrev first_away : Settings → Buffers → Buffers
first_away s b = with_command (first_command s) (buffers_away Register b)

-- the start of a commit: with no transfer under way the first write begins
pub commit_begins : (d : Driver) → free_to_start d.buffers ≡ true → d.buffers.spi_tx ≡ true → d.buffers.spi_rx ≡ true
    → start_commit d
    ≡ done_step (with_buffers (first_away d.settings d.buffers) (with_state CONFIG_SHORT0_SET d)) (Some (row_sends first_write d.settings))
    (actions [])
unfolding start_commit by_answer register_transfer pick
commit_begins d f t r = rw (f, t, r)

-- while one is under way nothing changes
pub commit_waits : (d : Driver) → free_to_start d.buffers ≡ false → start_commit d ≡ quiet d (actions [])
unfolding start_commit by_answer
commit_waits d f =
    rw (register_refrains (with_state CONFIG_SHORT0_SET d) kind.RegisterWrite _ _ f)
    (waits_by d.buffers.under)
  where
    waits_by : (u : Under) → by_answer (found u) (step_of (refrains (with_state CONFIG_SHORT0_SET d)) (actions [])) (quiet d (actions []))
        (quiet d (actions [])) ≡ quiet d (actions [])
    waits_by Idle = refl
    waits_by Register = refl
    waits_by (FrameRead x) = refl
    waits_by (FrameWrite x) = refl
    waits_by (Waits o) = refl

-- ---- the states 45 to 57

-- state 45 + j is a plain one, as is the next, and its case is the write of row j, which leads there
pub record CommitState (j : ℕ) : Type 0 where
  pub plain : Plain (45 + j)
  pub next_plain : Plain (46 + j)
  pub not_ready : eqb (45 + j) 29 ≡ false
  pub tree : tree_at (45 + j) ≡ write (commit_row j)
  pub next : state_no (commit_row j).next ≡ 46 + j

plain_at : (j : ℕ) → j < 14 → Plain (45 + j)
plain_at j h =
    record {
      names = in_range_lem (λ j. state_frame (45 + j)) (λ j. 0) 0 14 j refl (omega arith) h;
      sends = in_range_lem (λ j. one_of (33 ∷ 43 ∷ []) (45 + j)) (λ j. false) 0 14 j refl (omega arith) h;
      receives = in_range_lem (λ j. one_of (62 ∷ 64 ∷ 68 ∷ []) (45 + j)) (λ j. false) 0 14 j refl (omega arith) h;
      reads_out = in_range_lem (λ j. within 65 68 (45 + j)) (λ j. false) 0 14 j refl (omega arith) h;
    }

pub commit_state : (j : ℕ) → j < 13 → CommitState j
unfolding tree_at trees
commit_state j h =
    record {
      plain = plain_at j (omega arith);
      next_plain = subst Plain (omega arith) (plain_at (1 + j) (omega arith));
      not_ready = in_range_lem (λ j. eqb (45 + j) 29) (λ j. false) 0 13 j refl (omega arith) h;
      tree = in_range_lem (λ j. tree_at (45 + j)) (λ j. write (commit_row j)) 0 13 j refl (omega arith) h;
      next = in_range_lem (λ j. state_no (commit_row j).next) (λ j. 46 + j) 0 13 j refl (omega arith) h;
    }

-- a completion there sends it
pub commit_step : {d : Driver} {xs p : List ℕ} (j : ℕ) → j < 13 → Completes Register (45 + j) d xs p
    → Goes (command.register_write (register_address (commit_row j).register)) (value_of (commit_row j).value d.settings) (46 + j) d
    (completion_call d xs p)
commit_step {d} {xs} {p} j h e =
    let s = commit_state j h in
    let w = commit_row j in
    subst
    (λ n. Goes (command.register_write (register_address w.register)) (value_of w.value d.settings) n d (completion_call d xs p))
    s.next (write_case {r = w.register} {v = w.value} {s = w.next} s.plain s.not_ready s.tree e)

-- the end: in CONFIG_DONE TRX_STATUS is read into READY, and no commit is pending any more
pub record Done (c : Called) : Type 0 where
  pub reads : c.outcome.reply.transfer
      ≡ Some (transfer_of kind.RegisterRead 16 17 (command.register_read (register_address TRX_STATUS)) 0 2 2)
  pub ready : In 29 c.outcome.driver
  pub over : c.outcome.driver.flags.config_pending ≡ false

pub commit_done : {d : Driver} {xs p : List ℕ} → Completes Register 58 d xs p → Done (completion_call d xs p)
unfolding case_of tree_at trees eval perform register_transfer pick
commit_done {d} {xs} {p} h =
    rw (straight h 58 refl (rw (unmoved 58 d.state (search) h.state) h.state) refl, h.is_under_way)
    (record { reads = refl; ready = refl; over = refl })

-- ---- a completion in READY for which a commit waited

-- the step is the start of the commit, from a driver with the buffers back, these settings, and no interrupt handled or pending
pub record StartsFrom (d : Driver) (o : Outcome) : Type 0 where
  pub from : Driver
  pub is : o ≡ start_commit from
  pub buffers : from.buffers ≡ (transfer_over d).buffers
  pub settings : from.settings ≡ d.settings
  pub handling : from.flags.interrupt_handling ≡ false
  pub pending : from.flags.interrupt_pending ≡ false

-- what `shows_no_frame` says while an interrupt is handled
no_start : (h s e r : Bool) → h ≡ true → not h || (not s && not (e && r)) ≡ true → s ≡ false
no_start true s e r i o = not-true s (both_left (not s) _ o)
no_start false s e r i o = clash false refl i

no_end : (h s e r : Bool) → h ≡ true → not h || (not s && not (e && r)) ≡ true → e && r ≡ false
no_end true s e r i o = not-true (e && r) (both_right (not s) _ o)
no_end false s e r i o = clash false refl i

module _ (a : Arrived) (d : Driver) (xs : List ℕ) (result : a.result ≡ get_or xs 1 0) (state : In 29 d)
    (commit : d.flags.config_pending ≡ true) (pending : d.flags.interrupt_pending ≡ false)
  where
    -- of another register transfer
    after_access : d.flags.interrupt_handling ≡ false → StartsFrom d (completed a d)
    unfolding completed ready_bookkeeping pending_interrupt waiting_commit pick
    after_access h =
        record {
          from = now_on (transfer_over (length_taken a d));
          is = rw (h, unmoved 29 d.state (search) state, state, pending, commit);
          buffers = refl;
          settings = refl;
          handling = refl;
          pending = pending;
        }

    -- of the read of IRQ_STATUS
    after_interrupt : d.flags.interrupt_handling ≡ true → bit_set 2 (get_or xs 1 0) ≡ false
        → bit_set 3 (get_or xs 1 0) && d.flags.receiving ≡ false
        → StartsFrom d (completed a d)
    unfolding completed interrupt_result interrupt_state frame_end ready_bookkeeping pending_interrupt waiting_commit frame_done pick
    after_interrupt h b e =
        record {
          from = now_on (flagged receiving d.flags.receiving (transfer_over (length_taken a d)));
          is = rw (h, state, result, b, e, state, pending, commit);
          buffers = refl;
          settings = refl;
          handling = refl;
          pending = pending;
        }

    pub ready_starts : shows_no_frame d xs ≡ true → StartsFrom d (completed a d)
    ready_starts o =
        let r = get_or xs 1 0 in
        let f = d.flags.receiving in
        by_flag d.flags.interrupt_handling
        (λ h. after_interrupt h (no_start _ (bit_set 2 r) (bit_set 3 r) f h o) (no_end _ (bit_set 2 r) (bit_set 3 r) f h o)) after_access

-- it sends the first write
module _ {d : Driver} {xs p : List ℕ} (h : Accepts d xs p) (under : d.buffers.under ≡ Register)
    (starts : StartsFrom d (completed (arrived_of xs) d))
  where
    ready_is : completion_call d xs p
        ≡ stepping (done_step (with_buffers (first_away d.settings d.buffers) (with_state CONFIG_SHORT0_SET starts.from))
        (Some (row_sends first_write d.settings)) (actions [])) (brought d xs p)
    ready_is =
        let e = starts.from in
        let b = starts.buffers in
        rw (
          accepted_step h,
          starts.is,
          commit_begins e (rw b) (rw (b, under)) (rw (b, under)),
          b,
          under,
          starts.settings,
        )

    pub ready_goes : Goes 0xE0 (value_of AddrLow d.settings) 45 d (completion_call d xs p)
    ready_goes =
        rw ready_is
        (record {
          sent = sends _ _ (still h) refl refl refl;
          pool = command_written_length _ _ ∙ still h;
          buffers = same_record d h.passes.fit _ _ under refl;
          settings = starts.settings;
          handling = starts.handling;
          pending = starts.pending;
        })

    pub ready_silent : (completion_call d xs p).outcome.reply.actions ≡ actions []
    ready_silent = rw ready_is
