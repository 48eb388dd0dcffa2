-- What is claimed of declines and resumes (request 2026-05): what each starter says of what it found; that a decline and the resume behind
-- it change nothing; and what any other call does while a transfer waits. Over whole lists of calls, `ResumedIsDeclined` of custody.
use Rattle.std.specs.Prelude.{◌≡◌, ℕ, true, false, ◌-◌, ◌+◌, List, [], eqb, get_or, length, Option, None, Some, ◌&&◌, cond}
use mathlib.Core.Bool.{not}
use Rattle.rf233_const.specs.Command as command
use Rattle.rf233.specs.Action.{actions}
use Rattle.rf233.specs.Calls.{Call, ending, made, with_pool}
use Rattle.rf233.specs.Decline.{declines}
use Rattle.rf233.specs.Described.{described}
use Rattle.rf233.specs.Guard.{Called}
use Rattle.rf233.specs.Kernel.{declined_call, resume_call}
use Rattle.rf233.specs.Line.{front, line}
use Rattle.rf233.specs.Pool.{pool_length, start_of}
use Rattle.rf233.specs.Starter.{command_kind, command_first, command_second, frame_read, frame_write, register_transfer}
use Rattle.rf233.specs.Step.{done_step, quiet}
use Rattle.rf233.specs.Transfer.{free_to_start, kind_value, to_complete, to_resume, transfer_of}
use Rattle.rf233.specs.declared.answer.Outcome.{Outcome}
use Rattle.rf233.specs.declared.driver.Buffers.{Buffers}
use Rattle.rf233.specs.declared.driver.Command.{Command}
use Rattle.rf233.specs.declared.driver.Driver.{Driver}
use Rattle.rf233.specs.declared.driver.Lent.{Lent}
use Rattle.rf233.specs.declared.driver.Offer.TheVariants as offer
use Rattle.rf233.specs.declared.driver.Under.{Under}
use Rattle.rf233.specs.declared.driver.Under.TheVariants.{Idle, Register, FrameRead, FrameWrite, Waits}
use Rattle.rf233.specs.declared.starter.Started.{Started}
use Rattle.rf233.specs.declared.starter.StarterAnswer.TheVariants.{Began, UnderWay, Waiting}
use Rattle.rf233.specs.declared.transfer.Transfer.{Transfer}
use Rattle.rf233.specs.declared.transfer.TransferKind.{TransferKind}
use Rattle.rf233.specs.declared.transfer.TransferKind.TheVariants as kind

-- ---- the transfer that the record has

-- a frame read into this buffer, and a frame write of n from it, where spi_buf has this length
abbrev pub read_offer : Option Lent → ℕ → Option Transfer
read_offer None l = None
read_offer (Some x) l = Some (transfer_of kind.FrameRead 18 x.buffer command.frame_read (l - 2) l x.length)

abbrev pub write_offer : Option Lent → ℕ → ℕ → Option Transfer
write_offer None n l = None
write_offer (Some x) n l = Some (transfer_of kind.FrameWrite x.buffer 18 command.frame_write n (n + 2) l)

-- the register transfer that is kept
abbrev pub register_offer : Command → Option Transfer
register_offer c = Some (transfer_of (command_kind c) 16 17 (command_first c) (command_second c) 2 2)

-- the transfer under way or waiting: its kind, buffers, command bytes and lengths, as it was offered
abbrev pub offer_of : Under → Buffers → Option Transfer
offer_of Idle b = None
offer_of Register b = register_offer b.command
offer_of (FrameRead x) b = read_offer (Some x) b.spi_buf_len
offer_of (FrameWrite x) b = write_offer (Some x) b.tx_len b.spi_buf_len
offer_of (Waits offer.Register) b = register_offer b.command
offer_of (Waits offer.FrameRead) b = read_offer (front (line b)) b.spi_buf_len
offer_of (Waits offer.FrameWrite) b = write_offer b.tx_buf b.tx_len b.spi_buf_len

abbrev pub offered : Buffers → Option Transfer
offered b = offer_of b.under b

-- the one under way, and the one that waits
abbrev pub under_way_offer : Buffers → Option Transfer
under_way_offer b = cond (to_complete b) (offered b) None

abbrev pub waiting_offer : Buffers → Option Transfer
waiting_offer b = cond (to_resume b) (offered b) None

-- ---- what a starter says

-- the starters, with what they are asked for
pub data Starter : Type 0 where
  register : TransferKind → ℕ → ℕ → Starter
  reads : ℕ → Starter
  writes : Starter

abbrev pub asked : Starter → Driver → Started
asked (register k first second) d = register_transfer k first second d
asked (reads n) d = frame_read n d
asked writes d = frame_write d

-- what is claimed of each, on any driver value. A register transfer is asked for as a read or a write
pub record StarterSays : Type 0 where
  -- one under way, or waiting: it says which, and leaves the driver as it is
  pub under_way : (s : Starter) (d : Driver) → to_complete d.buffers ≡ true → asked s d ≡ record { answer = UnderWay; driver = d }
  pub waiting : (s : Starter) (d : Driver) → to_resume d.buffers ≡ true → asked s d ≡ record { answer = Waiting; driver = d }
  -- it begins only where there is none, and the record then has the very transfer that it offered
  pub began : (s : Starter) (d : Driver) (t : Transfer) → (asked s d).answer ≡ Began t → free_to_start d.buffers ≡ true
  pub read : (d : Driver) (x y : ℕ) (t : Transfer) → (register_transfer kind.RegisterRead x y d).answer ≡ Began t
      → offered (register_transfer kind.RegisterRead x y d).driver.buffers ≡ Some t
  pub write : (d : Driver) (x y : ℕ) (t : Transfer) → (register_transfer kind.RegisterWrite x y d).answer ≡ Began t
      → offered (register_transfer kind.RegisterWrite x y d).driver.buffers ≡ Some t
  pub frame_reads : (d : Driver) (n : ℕ) (t : Transfer) → (frame_read n d).answer ≡ Began t
      → offered (frame_read n d).driver.buffers ≡ Some t
  pub frame_writes : (d : Driver) (t : Transfer) → (frame_write d).answer ≡ Began t → offered (frame_write d).driver.buffers ≡ Some t

-- ---- decline then resume

-- the command bytes of a transfer stand in the pool: both of a register transfer, byte 0 of a frame read, both of a frame write
abbrev pub commands : Transfer → List ℕ → Type 0
commands t p =
    (get_or p (start_of t.write) 0 ≡ t.first)
    × (eqb (kind_value t.kind) 3 ≡ false → get_or p (start_of t.write + 1) 0 ≡ t.second)

-- from one pool to another no other byte is altered, nor byte 1 of a frame read
abbrev pub others_same : Transfer → List ℕ → List ℕ → Type 0
others_same t q p =
    (i : ℕ) → eqb i (start_of t.write) ≡ false → eqb i (start_of t.write + 1) && not (eqb (kind_value t.kind) 3) ≡ false
    → get_or p i 0 ≡ get_or q i 0

-- there is a transfer, and this is so of it
abbrev pub is_offered : (Transfer → Type 0) → Option Transfer → Type 0
is_offered P None = ⊥
is_offered P (Some t) = P t

-- of a driver value with a transfer under way, a decline with pool p and a resume with pool q
pub record Again (d : Driver) (p q : List ℕ) : Type 0 where
  -- the decline is accepted, and alters no byte
  pub declined : declined_call d p ≡ with_pool (quiet (declines d) (actions [])) p
  -- 12 does not describe the driver while the transfer waits
  pub waits : described (declines d) ≡ false
  -- the resume leaves the same driver, and offers the same transfer, with its bytes and lengths
  pub resumed : (resume_call (declines d) q).outcome ≡ done_step d (offered d.buffers) (actions [])
  -- the command bytes are written anew, and no other byte is altered
  pub commands_written : is_offered (λ t. commands t (resume_call (declines d) q).pool) (offered d.buffers)
  pub others_kept : is_offered (λ t. others_same t q (resume_call (declines d) q).pool) (offered d.buffers)

-- decline then resume changes nothing, whatever driver value 12 does not describe, with any two whole pools
abbrev pub DeclinedThenResumed : Type 0
DeclinedThenResumed =
    (d : Driver) (p q : List ℕ) → described d ≡ false → to_complete d.buffers ≡ true → length p ≡ pool_length → length q ≡ pool_length
    → Again d p q

-- ---- any other call while a transfer waits

-- what a call yields, with the driver that it leaves in its waiting form
abbrev pub waiting_form : Called → Called
waiting_form c = record c { outcome = record c.outcome { driver = declines c.outcome.driver } }

-- whatever driver value 12 does not describe, with a transfer under way: each call but a completion, a decline and a resume begins nothing;
-- and made while the transfer waits instead, it gives the same answer and actions, and leaves the waiting form of what it leaves there. The
-- query of a place, which is no such call, tells them apart
abbrev pub WhileWaiting : Type 0
WhileWaiting =
    (d : Driver) (c : Call) (p : List ℕ) → described d ≡ false → to_complete d.buffers ≡ true → ending c ≡ false
    → (made (declines d) c p ≡ waiting_form (made d c p)) × ((made d c p).outcome.reply.transfer ≡ None)
