-- The startup count (request 2026-04, which makes document 01's "at most 30 completions" exact): from `start` on a new driver, after any
-- settings, with completions, one firing after PLL_ON was sent whose IRQ_STATUS has bit 0 and not bit 2, and no other accepted call, the
-- driver is in READY with radio on after exactly 30 completions if the status that arrived with the first TRX_STATUS read is 0, exactly 29
-- if not. Until then something is accepted at every point, so that READY is reached. Refused calls of any kind may stand anywhere.
use Rattle.std.specs.Prelude.{ℕ, ◌+◌, ◌≤◌, ◌≡◌, Bool, true, false, not, ◌&&◌, ◌||◌, List}
use Rattle.std.specs.Prelude.{[], ◌∷◌, eqb, length, get_or, ℤ}
use Rattle.std.specs.Prelude.{Option, None, Some, is_some, is_none}
use Rattle.rf233_const.specs.Bits.{bit_set}
use Rattle.rf233_const.specs.Command as command
use Rattle.rf233_const.specs.Register.{register_address}
use Rattle.rf233_const.specs.Status.{chip_status}
use Rattle.rf233_const.specs.TrxState.{command_value}
use Rattle.rf233_const.specs.declared.register.RF233Register.{RF233Register}
use Rattle.rf233_const.specs.declared.register.RF233Register.TheVariants.{IRQ_STATUS, TRX_STATE, TRX_STATUS}
use Rattle.rf233_const.specs.declared.trx_state.RF233TrxCmd.TheVariants.{PLL_ON}
use Rattle.rf233.specs.Choice.{pick}
use Rattle.rf233.specs.Config.{start_call}
use Rattle.rf233.specs.Create.{new_call}
use Rattle.rf233.specs.Driver.{in_no}
use Rattle.rf233.specs.Guard.{after, accepted}
use Rattle.rf233.specs.Kernel.{completion_call, fired_call}
use Rattle.rf233.specs.Pool.{pool_length}
use Rattle.rf233.specs.Transfer.{to_complete}
use Rattle.rf233.specs.declared.answer.Outcome.{Outcome}
use Rattle.rf233.specs.declared.driver.Client.{Client}
use Rattle.rf233.specs.declared.driver.Driver.{Driver}
use Rattle.rf233.specs.declared.transfer.Transfer.{Transfer}
use Rattle.rf233.specs.Calls.{Call, made}
use Rattle.rf233.specs.Refusal.{answered}

-- ---- what is seen from outside

-- what the calls and answers since `start` show; the driver is not looked at. A completion ends the transfer that went out last
pub record Seen : Type 0 where
  -- how many completions were accepted
  pub completions : ℕ
  -- the firing has come
  pub fired : Bool
  -- the transfers that went out, the last one first
  pub sent : List Transfer
  -- the status that arrived with the first TRX_STATUS read, once that is completed
  pub status : Option ℕ

-- the transfer is a read of this register: its first byte is 0x80 + register
abbrev pub reads : RF233Register → Transfer → Bool
reads r t = eqb t.first (command.register_read (register_address r))

-- the transfer that went out last is a read of this register
abbrev pub last_reads : RF233Register → List Transfer → Bool
last_reads r [] = false
last_reads r (t ∷ l) = reads r t

-- the transfer sends PLL_ON: 0xC0 + TRX_STATE, PLL_ON
abbrev pub turns_pll_on : Transfer → Bool
turns_pll_on t = eqb t.first (command.register_write (register_address TRX_STATE)) && eqb t.second (command_value PLL_ON)

-- PLL_ON was sent
abbrev pub pll_on_sent : List Transfer → Bool
pll_on_sent [] = false
pll_on_sent (t ∷ l) = turns_pll_on t || pll_on_sent l

-- the first TRX_STATUS read went out and is not completed
abbrev pub first_status_out : Seen → Bool
first_status_out s = is_none s.status && last_reads TRX_STATUS s.sent

-- the read of IRQ_STATUS that the firing led to went out and is not completed
abbrev pub interrupt_out : Seen → Bool
interrupt_out s = s.fired && last_reads IRQ_STATUS s.sent

-- the condition on the bytes of a completion: what is read from IRQ_STATUS after the firing has bit 0 and not bit 2
abbrev pub shows_lock : Seen → List ℕ → Bool
shows_lock s xs = not (interrupt_out s) || (bit_set 0 (get_or xs 1 0) && not (bit_set 2 (get_or xs 1 0)))

-- the transfers that went out, with the one that a call began
abbrev pub also_sent : Option Transfer → List Transfer → List Transfer
also_sent None l = l
also_sent (Some t) l = t ∷ l

-- what was seen after `start`, after an accepted completion with these bytes, and after the firing; a status is byte 0 with mask 0x1F
abbrev pub at_start : Outcome → Seen
at_start o = record { completions = 0; fired = false; sent = also_sent o.reply.transfer []; status = None }

abbrev pub at_completion : List ℕ → Outcome → Seen → Seen
at_completion xs o s =
    record {
      completions = s.completions + 1;
      fired = s.fired;
      sent = also_sent o.reply.transfer s.sent;
      status = pick (first_status_out s) (Some (chip_status (get_or xs 0 0))) s.status;
    }

abbrev pub at_firing : Outcome → Seen → Seen
at_firing o s = record s { fired = true; sent = also_sent o.reply.transfer s.sent }

-- ---- the runs

-- a setting: an address, the PAN, channel or power, a listener made present or absent
pub data Setting : Call → Type 0 where
  address : (a : ℕ) → Setting (Call.address a)
  address_long : (l : List ℕ) → Setting (Call.address_long l)
  pan : (a : ℕ) → Setting (Call.pan a)
  channel : (c : ℕ) → Setting (Call.channel c)
  power : (t : ℤ) → Setting (Call.power t)
  listener : (x : Client) (v : Bool) → Setting (Call.listener x v)

-- a new driver, 15's too, after any list of settings, and of calls that were refused
pub data Prepared (l c : ℕ) : Driver → Type 0 where
  new : Prepared l c (new_call l c).driver
  set : {d : Driver} {x : Call} → Prepared l c d → (p : List ℕ) → Setting x → Prepared l c (after (made d x p))
  refuses : {d : Driver} → Prepared l c d → (x : Call) (p : List ℕ) → accepted (made d x p) ≡ false → Prepared l c (after (made d x p))

-- a run from one point, what was seen and the driver, to another. Pools are any, bytes are any that `shows_lock` admits
pub data Run (from : Seen) (on : Driver) : Seen → Driver → Type 0 where
  here : Run from on from on
  completes : {s : Seen} {d : Driver} → Run from on s d → (xs p : List ℕ) → accepted (completion_call d xs p) ≡ true
      → shows_lock s xs ≡ true → Run from on (at_completion xs (completion_call d xs p).outcome s) (after (completion_call d xs p))
  fires : {s : Seen} {d : Driver} → Run from on s d → (p : List ℕ) → accepted (fired_call d p) ≡ true → s.fired ≡ false
      → pll_on_sent s.sent ≡ true → Run from on (at_firing (fired_call d p).outcome s) (after (fired_call d p))
  refuses : {s : Seen} {d : Driver} → Run from on s d → (x : Call) (p : List ℕ) → accepted (made d x p) ≡ false
      → Run from on s (after (made d x p))

-- the runs from `start` on this driver with this pool
abbrev pub Starting : Driver → List ℕ → Seen → Driver → Type 0
Starting d p s e = Run (at_start (start_call d p).outcome) (after (start_call d p)) s e

-- ---- the claim

-- N, by the status that arrived with the first TRX_STATUS read: 30 if it is 0, else 29; 30 at most until it has arrived
abbrev pub needed : Option ℕ → ℕ
needed None = 30
needed (Some x) = pick (eqb x 0) 30 29

-- N completions were accepted
abbrev pub is_over : Seen → Bool
is_over s = is_some s.status && eqb s.completions (needed s.status)

-- READY with radio on
abbrev pub is_ready : Driver → Bool
is_ready d = in_no 29 d && d.flags.radio_on

-- what is accepted next: while a transfer is under way, a completion with any two bytes; with none under way, in 27 and while the firing
-- has not come, the firing; with any whole pool
pub data GoesOn (s : Seen) (d : Driver) : Type 0 where
  by_completion : to_complete d.buffers ≡ true
      → ((xs p : List ℕ) → length xs ≡ 2 → length p ≡ pool_length → accepted (completion_call d xs p) ≡ true) → GoesOn s d
  by_firing : to_complete d.buffers ≡ false → in_no 27 d ≡ true → s.fired ≡ false
      → ((p : List ℕ) → length p ≡ pool_length → accepted (fired_call d p) ≡ true) → GoesOn s d

-- a run goes on from this point to the Nth completion
pub record Arrives (s : Seen) (d : Driver) : Type 0 where
  pub last : Seen
  pub driver : Driver
  pub run : Run s d last driver
  pub over : is_over last ≡ true

-- what holds at every point of a run from `start`
pub record StartupCount (s : Seen) (d : Driver) : Type 0 where
  -- READY with radio on after the Nth accepted completion, and after no earlier one
  pub exact : is_ready d ≡ is_over s
  -- then the firing has come, no transfer is under way, and a further completion is 11, so that N is the most
  pub firing : is_over s ≡ true → s.fired ≡ true
  pub rests : is_over s ≡ true → to_complete d.buffers ≡ false
  pub further : is_over s ≡ true → (xs p : List ℕ) → length p ≡ pool_length → answered (completion_call d xs p) ≡ 11
  pub bounded : s.completions ≤ needed s.status
  -- until then something is accepted, and READY is reached
  pub progress : is_over s ≡ false → GoesOn s d
  pub arrives : Arrives s d
  -- while the firing has not come, PLL_ON was sent exactly in state 27
  pub pll_on : s.fired ≡ false → pll_on_sent s.sent ≡ in_no 27 d
  -- the first TRX_STATUS read is completed in state 2, and the IRQ_STATUS read of the firing while an interrupt is handled
  pub first_status : first_status_out s ≡ in_no 2 d
  pub interrupt : interrupt_out s ≡ d.flags.interrupt_handling

-- the claim, for every new driver, settings and refused calls before `start`: it is accepted with a whole pool, and its runs count. A reset
-- there, of which the request does not speak, would leave the driver as it is
pub record StartupClaim : Type 0 where
  pub starts : (l c : ℕ) (d : Driver) → Prepared l c d → (p : List ℕ) → length p ≡ pool_length → accepted (start_call d p) ≡ true
  pub resets : (l c : ℕ) (d : Driver) → Prepared l c d → (v : Bool) (p : List ℕ) → after (made d (Call.reset v) p) ≡ d
  pub counts : (l c : ℕ) (d e : Driver) (p : List ℕ) (s : Seen) → Prepared l c d → accepted (start_call d p) ≡ true → Starting d p s e
      → StartupCount s e
