-- What a commit writes (request 2026-02): from its first write on, a commit that is not interrupted writes fourteen registers, each once
-- and in order, with the values of the settings at that step; then it is over.
use Rattle.std.specs.Prelude.{ℕ, suc, ◌<◌, ◌≡◌, Bool, true, false, not, ◌&&◌, ◌||◌, List, [], ◌∷◌, map, get_or, Some}
use Rattle.rf233_const.specs.Bits.{bit_set}
use Rattle.rf233_const.specs.Command as command
use Rattle.rf233_const.specs.Register.{register_address}
use Rattle.rf233_const.specs.declared.register.RF233Register.TheVariants.{TRX_STATUS}
use Rattle.rf233.specs.Commit.{first_write, commit_table}
use Rattle.rf233.specs.Config.{commit_call}
use Rattle.rf233.specs.Driver.{in_no}
use Rattle.rf233.specs.Guard.{Called, after, accepted}
use Rattle.rf233.specs.Kernel.{completion_call}
use Rattle.rf233.specs.Transfer.{transfer_of, free_to_start}
use Rattle.rf233.specs.Write.{value_of, row_at}
use Rattle.rf233.specs.declared.driver.Driver.{Driver}
use Rattle.rf233.specs.declared.driver.Settings.{Settings}
use Rattle.rf233.specs.declared.transfer.Transfer.{Transfer}
use Rattle.rf233.specs.declared.transfer.TransferKind.TheVariants as kind
use Rattle.rf233.specs.declared.write.Write.{Write}

-- the fourteen writes: SHORT_ADDR_0, and the thirteen rows of the table behind it
abbrev pub commit_writes : List Write
commit_writes = first_write ∷ commit_table

-- what a row's write sends by these settings: 0xC0 + register, value
abbrev pub row_sends : Write → Settings → Transfer
row_sends w s = transfer_of kind.RegisterWrite 16 17 (command.register_write (register_address w.register)) (value_of w.value s) 2 2

-- while an interrupt is handled, the byte read from IRQ_STATUS shows neither that a frame begins (bit 2) nor that one that is being
-- received ends (bit 3)
abbrev pub shows_no_frame : Driver → List ℕ → Bool
shows_no_frame d xs =
    not d.flags.interrupt_handling || (not (bit_set 2 (get_or xs 1 0)) && not (bit_set 3 (get_or xs 1 0) && d.flags.receiving))

-- a step on d, in READY and with no interrupt pending, that starts a commit: the call, while no transfer is under way, or the completion
-- until which the commit waited
pub data Starts (d : Driver) : Called → Type 0 where
  called : (p : List ℕ) → accepted (commit_call d p) ≡ true → in_no 29 d ≡ true → free_to_start d.buffers ≡ true
      → d.flags.config_pending ≡ false → d.flags.interrupt_handling ≡ false → d.flags.interrupt_pending ≡ false
      → Starts d (commit_call d p)
  waited : (xs p : List ℕ) → accepted (completion_call d xs p) ≡ true → in_no 29 d ≡ true → d.flags.config_pending ≡ true
      → d.flags.interrupt_pending ≡ false → shows_no_frame d xs ≡ true
      → Starts d (completion_call d xs p)

-- what may happen between two steps: whatever leaves the state, the transfer under way and the two flags of an interrupt as they are
pub record Between (d e : Driver) : Type 0 where
  pub state : e.state ≡ d.state
  pub is_under_way : e.buffers.under ≡ d.buffers.under
  pub handling : e.flags.interrupt_handling ≡ d.flags.interrupt_handling
  pub pending : e.flags.interrupt_pending ≡ d.flags.interrupt_pending

-- a commit that is not interrupted: step k is made on the driver `on k`, step 0 starts the commit, and the fourteen behind it are accepted
-- completions, with any bytes and pools that are accepted
pub record Uninterrupted (on : ℕ → Driver) (xs ps : ℕ → List ℕ) (step : ℕ → Called) : Type 0 where
  pub starts : Starts (on 0) (step 0)
  pub between : (k : ℕ) → k < 14 → Between (after (step k)) (on (suc k))
  pub completes : (k : ℕ) → k < 14 → step (suc k) ≡ completion_call (on (suc k)) (xs k) (ps k)
  pub accepts : (k : ℕ) → k < 14 → accepted (step (suc k)) ≡ true

-- steps 0 to 13 send the fourteen writes, each with the settings of the driver that it is made on; step 14 reads TRX_STATUS into READY, and
-- no commit is pending any more
pub record WritesAll (on : ℕ → Driver) (step : ℕ → Called) : Type 0 where
  pub writes : (k : ℕ) → k < 14 → (step k).outcome.reply.transfer ≡ Some (row_sends (row_at commit_writes k) (on k).settings)
  pub reads : (step 14).outcome.reply.transfer
      ≡ Some (transfer_of kind.RegisterRead 16 17 (command.register_read (register_address TRX_STATUS)) 0 2 2)
  pub ready : in_no 29 (after (step 14)) ≡ true
  pub over : (after (step 14)).flags.config_pending ≡ false

-- the claim, and the registers of the fourteen by their addresses, each once
pub record CommitClaim : Type 0 where
  pub registers : map (λ w. register_address w.register) commit_writes
      ≡ 0x20 ∷ 0x21 ∷ 0x22 ∷ 0x23 ∷ 0x24 ∷ 0x25 ∷ 0x26 ∷ 0x27 ∷ 0x28 ∷ 0x29 ∷ 0x2A ∷ 0x2B ∷ 0x05 ∷ 0x08 ∷ []
  pub all : (on : ℕ → Driver) (xs ps : ℕ → List ℕ) (step : ℕ → Called) → Uninterrupted on xs ps step → WritesAll on step
