-- The starred rows on a commit (Starred.antt), as request 2026-02 has them: a completion in READY with a commit waiting, after a register
-- transfer and after a read of IRQ_STATUS (`both_bytes`), the whole run of the writes (`whole`, which is one of the runs of which
-- `commit_claim` speaks), and a commit called in READY during a transfer (`during`, `busy`). From the laws of CommitLaws.antt. Assumes
-- nothing.
use mathlib.Core.Path.{◌≡◌, refl, ap, subst, ◌∙◌}
use mathlib.Core.Bool.{true, false, and-false}
use mathlib.Core.List.{List, [], map}
use Prim.Native.Nat.{ℕ, zero, suc, ◌+◌, ◌/◌, ◌%◌, ◌<◌}
use native.Mathlib.Decide.{dec_le}
use native.Mathlib.Nat.{lt_of_not-le}
use native.Mathlib.Omega.{arith}
use lib.ListN.{length, get_or}
use borrow.Author.Tests.{eq-eqb, eqb-true}
use Rattle.std.specs.Prelude.{Some, option_map}
use Rattle.rf233_const.specs.Bits.{bit_set}
use Rattle.rf233.specs.Action.{actions}
use Rattle.rf233.specs.Choice.{pick}
use Rattle.rf233.specs.CommitClaim.{commit_writes, row_sends, shows_no_frame, Uninterrupted, WritesAll}
use Rattle.rf233.specs.CommitClaim.Starts.{waited}
use Rattle.rf233.specs.Completion.{completed}
use Rattle.rf233.specs.Config.{begin_commit, commit_call}
use Rattle.rf233.specs.Driver.{flagged}
use Rattle.rf233.specs.Driver.Flag.{config_pending}
use Rattle.rf233.specs.Guard.{Called}
use Rattle.rf233.specs.Kernel.{completion_call}
use Rattle.rf233.specs.Pool.{command_written}
use Rattle.rf233.specs.Step.{quiet}
use Rattle.rf233.specs.Transfer.{free_to_start}
use Rattle.rf233.specs.Write.{value_of, row_at}
use Rattle.rf233.specs.declared.driver.Driver.{Driver}
use Rattle.rf233.specs.declared.driver.Settings.{Settings}
use Rattle.rf233.specs.declared.driver.Under.TheVariants.{Register}
use Rattle.rf233.specs.declared.transfer.Transfer.{Transfer}
use Rattle.rf233.specs.declared.transfer.TransferKind.TheVariants as kind
use Rattle.rf233.specs.declared.write.Value.TheVariants.{AddrLow}
use Rattle.rf233.specs.Arrived.{arrived_of}
use Rattle.rf233.proofs.CommitClaim.{commit_claim}
use Rattle.rf233.proofs.CommitLaws.{
  commit_waits,
  commit_state,
  commit_step,
  StartsFrom,
  ready_starts,
  ready_goes,
  ready_silent,
}
use Rattle.rf233.proofs.Keys.{range}
use Rattle.rf233.proofs.OwnBuffers.{moved}
use Rattle.rf233.proofs.Starred.{Accepts, Passes12, In, Completes, Detours, Sends, run, bytes_sent, BothBytes, commit_sends}
use Rattle.rf233.proofs.StarredSteps.{unguarded, accepts, is_accepted, Goes, next}
use Rattle.rf233.proofs.Tables.{in_range_lem, same_list}

-- the second byte of a write, from what is known of the settings
pub second : {first x y n : ℕ} {c : Called} → x ≡ y → Sends kind.RegisterWrite first x n c → Sends kind.RegisterWrite first y n c
second {first} {n = n} {c = c} e s = subst (λ (z : ℕ). Sends kind.RegisterWrite first z n c) e s

abbrev pub high : ℕ → ℕ
high x = x / 256

abbrev pub low : ℕ → ℕ
low x = x % 256

-- a completion in READY that leaves the driver there, with the address 0xABCD
pub record InReady (d : Driver) (xs p : List ℕ) : Type 0 where
  pub accepts : Accepts d xs p
  pub state : In 29 d
  pub is_under_way : d.buffers.under ≡ Register
  pub pending : d.flags.interrupt_pending ≡ false
  pub no_frame_lem : shows_no_frame d xs ≡ true
  pub address : d.settings.addr ≡ 0xABCD

-- of a register transfer
pub of_access : {d : Driver} {xs p : List ℕ} → Completes Register 29 d xs p → d.settings.addr ≡ 0xABCD → InReady d xs p
of_access h a =
    record {
      accepts = accepts h refl;
      state = h.state;
      is_under_way = h.is_under_way;
      pending = h.pending;
      no_frame_lem = rw h.handling;
      address = a;
    }

-- of a read of IRQ_STATUS
pub of_interrupt : {d : Driver} {xs p : List ℕ} → Detours 29 d xs p → d.settings.addr ≡ 0xABCD → InReady d xs p
of_interrupt {xs = xs} h a =
    record {
      accepts = record { passes = h.passes; has_transfer = rw h.is_under_way; arrived = h.arrived };
      state = h.state;
      is_under_way = h.is_under_way;
      pending = h.pending;
      no_frame_lem = rw (h.handling, h.no_start, h.no_frame_lem, and-false (bit_set 3 (get_or xs 1 0)));
      address = a;
    }

-- a commit waits
module _ {d : Driver} {xs p : List ℕ} (h : InReady d xs p) (waiting : d.flags.config_pending ≡ true) where
  starts : StartsFrom d (completed (arrived_of xs) d)
  starts = ready_starts (arrived_of xs) d xs refl h.state waiting h.pending h.no_frame_lem

  first_goes : Goes 0xE0 (value_of AddrLow d.settings) 45 d (completion_call d xs p)
  first_goes = ready_goes h.accepts h.is_under_way starts

  -- the completion behind it finds what it needs
  second_completes : (ys : List ℕ) → length ys ≡ 2
      → Completes Register 45 (completion_call d xs p).outcome.driver ys (completion_call d xs p).pool
  second_completes ys l = next ys (search) (search) h.accepts.passes.fit h.state h.is_under_way first_goes l

  pub both_bytes : BothBytes (completion_call d xs p)
  both_bytes =
      let address = ap (λ (s : Settings). s.addr) first_goes.settings ∙ h.address in
      record {
        low = second (ap low h.address) first_goes.sent;
        shows_nothing = ready_silent h.accepts h.is_under_way starts;
        high = λ ys l. second (ap high address) (commit_step 0 (omega arith) (second_completes ys l)).sent;
      }

-- called in READY during a transfer, a commit only waits
pub during : (d : Driver) (p : List ℕ) → Passes12 d p → In 29 d → d.flags.config_pending ≡ false → free_to_start d.buffers ≡ false
    → commit_call d p ≡ record { outcome = quiet (flagged config_pending true d) (actions []); pool = p }
unfolding commit_call begin_commit command_written pick
during d p h s c u = rw (unguarded d p _ h, c, s, commit_waits (flagged config_pending true d) u)

-- and the driver that it leaves, which 12 describes as little as before, starts it once READY completes
pub busy : {d : Driver} {xs p : List ℕ} → InReady d xs p → d.flags.config_pending ≡ false
    → BothBytes (completion_call (commit_call d p).outcome.driver xs (commit_call d p).pool)
busy {d} {xs} {p} h c =
    let e = flagged config_pending true d in
    let a = h.accepts in
    let fit = moved 29 29 d e d.buffers.command (search) (search) h.state h.state h.is_under_way refl ∙ a.passes.fit in
    let ready : InReady e xs p =
    record {
      accepts = record { passes = record { pool = a.passes.pool; fit = fit }; has_transfer = a.has_transfer; arrived = a.arrived };
      state = h.state;
      is_under_way = h.is_under_way;
      pending = h.pending;
      no_frame_lem = h.no_frame_lem;
      address = h.address;
    } in
    rw (during d p a.passes h.state c (rw h.is_under_way)) (both_bytes ready refl)

-- the whole run of a waiting commit
module _ (ys : ℕ → List ℕ) (two : (k : ℕ) → length (ys k) ≡ 2) {d : Driver} {xs p : List ℕ} (h : InReady d xs p)
    (waiting : d.flags.config_pending ≡ true)
  where
    abbrev at : ℕ → Called
    at k = run ys k (completion_call d xs p)

    -- the driver that call k is made on
    abbrev on : ℕ → Driver
    on zero = d
    on (suc k) = (at k).outcome.driver

    -- after call k the settings are as before, and the next completion finds what it needs
    record Reached (k : ℕ) (c : Called) : Type 0 where
      settings : c.outcome.driver.settings ≡ d.settings
      completes : Completes Register (45 + k) c.outcome.driver (ys k) c.pool

    reached : (k : ℕ) → k < 14 → Reached k (at k)
    unfolding run
    reached zero l = record { settings = (first_goes h waiting).settings; completes = second_completes h waiting (ys 0) (two 0) }
    reached (suc k) l =
        let r = reached k (omega arith) in
        let s = commit_state k (omega arith) in
        let c = r.completes in
        let g = commit_step k (omega arith) c in
        let e = next (ys (suc k)) s.plain s.next_plain c.passes.fit c.state c.is_under_way g (two (suc k)) in
        record {
          settings = g.settings ∙ r.settings;
          completes = subst (λ n. Completes Register n (at (suc k)).outcome.driver (ys (suc k)) (at (suc k)).pool) (omega arith) e;
        }

    -- so it is a commit that is not interrupted, as the claim has it
    pub uninterrupted : Uninterrupted on ys (λ k. (at k).pool) at
    unfolding run
    uninterrupted =
        record {
          starts = waited xs p (is_accepted h.accepts) (eq-eqb _ 29 h.state) waiting h.pending h.no_frame_lem;
          between = λ k l. record { state = refl; is_under_way = refl; handling = refl; pending = refl };
          completes = λ k l. refl;
          accepts = λ k l. is_accepted (accepts (reached k l).completes refl);
        }

    abbrev written : WritesAll on at
    written = commit_claim.all on ys (λ k. (at k).pool) at uninterrupted

    on_settings : (k : ℕ) → k < 15 → (on k).settings ≡ d.settings
    on_settings zero l = refl
    on_settings (suc k) l = (reached k (omega arith)).settings

    abbrev bytes : Transfer → ℕ × ℕ
    bytes t = (t.first, t.second)

    -- the bytes of row k, and entry k of the list
    abbrev of_row : ℕ → ℕ × ℕ
    of_row k = bytes (row_sends (row_at commit_writes k) d.settings)

    abbrev entry : ℕ → ℕ × ℕ
    entry k = get_or (commit_sends d.settings) k (0, 0)

    entry_is : (k : ℕ) → k < 15 → bytes_sent (at k) ≡ Some (entry k)
    entry_is k l =
        elim (dec_le k 13) [
          | yes q ↦ ap (option_map bytes) (written.writes k (omega arith))
              ∙ ap (λ (s : Settings). Some (bytes (row_sends (row_at commit_writes k) s))) (on_settings k l)
              ∙ ap Some (in_range_lem of_row entry 0 14 k (rw h.address) (omega arith) (omega arith))
          | no q ↦ subst (λ n. bytes_sent (at n) ≡ Some (entry n)) (omega (arith, lt_of_not-le q)) (ap (option_map bytes) written.reads)
        ]

    pub whole : (map (λ k. bytes_sent (at k)) (range 0 15) ≡ map Some (commit_sends d.settings)) × In 29 (at 14).outcome.driver
    whole =
        (same_list (λ k. bytes_sent (at k)) (λ k. Some (entry k)) 0 15 (λ k _ l. entry_is k (omega arith)), eqb-true _ 29 written.ready)
