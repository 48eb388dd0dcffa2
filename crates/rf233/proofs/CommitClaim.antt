-- A commit that is not interrupted writes its fourteen registers, and is then over: `commit_claim`. Each step leaves a driver in the state
-- of its row, with a register transfer under way and no interrupt (`Writing`); from the laws of CommitLaws.antt. Assumes nothing.
use mathlib.Core.Path.{◌≡◌, refl, sym, ap, subst, ◌∙◌}
use mathlib.Core.Bool.{true, false}
use mathlib.Core.List.{List}
use Prim.Native.Nat.{ℕ, zero, suc, ◌+◌, ◌<◌}
use native.Mathlib.Omega.{arith}
use borrow.Author.Tests.{eqb-true, eq-eqb}
use Rattle.std.specs.Prelude.{Some}
use Rattle.rf233.specs.Choice.{pick}
use Rattle.rf233.specs.CommitClaim.{
  commit_writes,
  row_sends,
  shows_no_frame,
  Starts,
  Between,
  Uninterrupted,
  WritesAll,
  CommitClaim,
}
use Rattle.rf233.specs.CommitClaim.Starts.{called, waited}
use Rattle.rf233.specs.Config.{begin_commit, commit_call}
use Rattle.rf233.specs.Driver.{flagged}
use Rattle.rf233.specs.Driver.Flag.{config_pending}
use Rattle.rf233.specs.Guard.{Called, after, accepted, pool_fault}
use Rattle.rf233.specs.Kernel.{completion_call}
use Rattle.rf233.specs.State.{state_no}
use Rattle.rf233.specs.Transfer.{free_to_start}
use Rattle.rf233.specs.Write.{row_at}
use Rattle.rf233.specs.declared.driver.Buffers.{Buffers}
use Rattle.rf233.specs.declared.driver.Driver.{Driver}
use Rattle.rf233.specs.declared.driver.Under.TheVariants.{Register}
use Rattle.rf233.specs.Arrived.{arrived_of}
use Rattle.rf233.proofs.Accepted.{not_refused, had_pool, had_transfer, had_bytes}
use Rattle.rf233.proofs.CommitLaws.{commit_begins, commit_step, Done, commit_done, ready_starts, ready_goes}
use Rattle.rf233.proofs.FullPlace.{frame_named}
use Rattle.rf233.proofs.OwnBuffers.{tx_home, rx_home, idle_is, register_is}
use Rattle.rf233.proofs.Sound.{pool_right, driver_right}
use Rattle.rf233.proofs.Starred.{Accepts, In, Completes}
use Rattle.rf233.proofs.StarredSteps.{Goes}

-- a register transfer is under way in state n, and no interrupt is handled or pending
record Writing (n : ℕ) (d : Driver) : Type 0 where
  state : In n d
  is_under_way : d.buffers.under ≡ Register
  handling : d.flags.interrupt_handling ≡ false
  pending : d.flags.interrupt_pending ≡ false

-- whatever comes between two steps leaves it so
between : {n : ℕ} {d e : Driver} → Between d e → Writing n d → Writing n e
between b w =
    record {
      state = ap state_no b.state ∙ w.state;
      is_under_way = b.is_under_way ∙ w.is_under_way;
      handling = b.handling ∙ w.handling;
      pending = b.pending ∙ w.pending;
    }

-- what an accepted completion had
accepts : (d : Driver) (xs p : List ℕ) → accepted (completion_call d xs p) ≡ true → Accepts d xs p
accepts d xs p e =
    record {
      passes = record { pool = pool_right d p (had_pool d xs p e); fit = driver_right d p (had_pool d xs p e) };
      has_transfer = had_transfer d xs p e;
      arrived = had_bytes d xs p e;
    }

completes : {n : ℕ} {d : Driver} {xs p : List ℕ} → Writing n d → Accepts d xs p → Completes Register n d xs p
completes w a =
    record {
      passes = a.passes;
      state = w.state;
      is_under_way = w.is_under_way;
      arrived = a.arrived;
      handling = w.handling;
      pending = w.pending;
    }

-- a step that sends a write leaves it so
goes : {first second n : ℕ} {d : Driver} {c : Called} → d.buffers.under ≡ Register → Goes first second n d c → Writing n (after c)
goes u g =
    record {
      state = g.sent.state;
      is_under_way = ap (λ (b : Buffers). b.under) g.buffers ∙ u;
      handling = g.handling;
      pending = g.pending;
    }

-- step k of a commit: what it sends, and what it leaves
record Sent (k : ℕ) (d : Driver) (c : Called) : Type 0 where
  transfer : c.outcome.reply.transfer ≡ Some (row_sends (row_at commit_writes k) d.settings)
  writing : Writing (45 + k) (after c)

-- ---- the start

module _ (d : Driver) (ready : In 29 d) where
  from_call : (p : List ℕ) → accepted (commit_call d p) ≡ true → free_to_start d.buffers ≡ true → d.flags.config_pending ≡ false
      → d.flags.interrupt_handling ≡ false → d.flags.interrupt_pending ≡ false
      → Sent 0 d (commit_call d p)
  unfolding commit_call begin_commit pick
  from_call p e f c h i =
      let right = not_refused (pool_fault d p) _ _ refl e in
      let fit = driver_right d p right in
      let u = idle_is d.buffers.under f in
      rw (
        right,
        c,
        ready,
        commit_begins (flagged config_pending true d) f (tx_home d fit (rw u)) (rx_home d fit (rw u)),
      )
      (record { transfer = refl; writing = record { state = refl; is_under_way = refl; handling = h; pending = i } })

  from_completion : (xs p : List ℕ) → accepted (completion_call d xs p) ≡ true → d.flags.config_pending ≡ true
      → d.flags.interrupt_pending ≡ false → shows_no_frame d xs ≡ true
      → Sent 0 d (completion_call d xs p)
  from_completion xs p e c i o =
      let a = accepts d xs p e in
      let named = rw ready at (frame_named d a.passes.fit) in
      let u = register_is d.buffers.under a.has_transfer named in
      let g = ready_goes a u (ready_starts (arrived_of xs) d xs refl ready c i o) in
      record { transfer = g.sent.transfer; writing = goes u g }

start : {d : Driver} {c : Called} → Starts d c → Sent 0 d c
start {d} (called p e r f c h i) = from_call d (eqb-true (state_no d.state) 29 r) p e f c h i
start {d} (waited xs p e r c i o) = from_completion d (eqb-true (state_no d.state) 29 r) xs p e c i o

-- ---- the steps

module _ (on : ℕ → Driver) (xs ps : ℕ → List ℕ) (step : ℕ → Called) (run : Uninterrupted on xs ps step) where
  -- the completion of step k + 1, from what step k left
  completion : (k : ℕ) → k < 14 → Writing (45 + k) (after (step k)) → Completes Register (45 + k) (on (suc k)) (xs k) (ps k)
  completion k h w =
      completes (between (run.between k h) w)
      (accepts (on (suc k)) (xs k) (ps k) (ap accepted (sym (run.completes k h)) ∙ run.accepts k h))

  steps : (k : ℕ) → k < 14 → Sent k (on k) (step k)
  steps zero h = start run.starts
  steps (suc k) h =
      let c = completion k (omega arith) (steps k (omega arith)).writing in
      let g = commit_step k (omega arith) c in
      let e = after (completion_call (on (suc k)) (xs k) (ps k)) in
      subst (Sent (suc k) (on (suc k))) (sym (run.completes k (omega arith)))
      (record { transfer = g.sent.transfer; writing = subst (λ n. Writing n e) (omega arith) (goes c.is_under_way g) })

  all_written : WritesAll on step
  all_written =
      let done : Done (step 14) =
      subst Done (sym (run.completes 13 (omega arith))) (commit_done (completion 13 (omega arith) (steps 13 (omega arith)).writing)) in
      record { writes = λ k h. (steps k h).transfer; reads = done.reads; ready = eq-eqb _ 29 done.ready; over = done.over }

pub commit_claim : CommitClaim
commit_claim = record { registers = refl; all = all_written }
