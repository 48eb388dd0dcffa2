-- `oldest-first` (request 2026-07): the receive buffers are used in the order in which they were lent. One claim about any list of calls on
-- any new driver, kept from calls and answers alone, as the book is, and beside it, since the book keeps no order.
use Rattle.std.specs.Prelude.{◌≡◌, ℕ, Bool, true, false, cond, not, ◌&&◌, ◌||◌, List, [], ◌∷◌, ◌++◌, ◌==◌, Option, None, Some}
use Rattle.std.specs.List.{fold}
use Rattle.rf233.specs.Answer.{answer_no}
use Rattle.rf233.specs.Calls.{Call, yields}
use Rattle.rf233.specs.Calls.Call.{
  start,
  stop,
  commit,
  fire,
  query,
  declined,
  resume,
  complete,
  transmit,
  receive_buffer,
  reset,
  address,
  pan,
  channel,
  address_long,
  power,
  listener,
}
use Rattle.rf233.specs.Create.{new_call}
use Rattle.rf233.specs.Transfer.{kind_value}
use Rattle.rf233.specs.declared.action.Action.{Action}
use Rattle.rf233.specs.declared.action.Action.TheVariants as action
use Rattle.rf233.specs.declared.answer.Reply.{Reply}
use Rattle.rf233.specs.declared.driver.Client.{Client}
use Rattle.rf233.specs.declared.driver.Client.TheVariants.{Transmit, Receive, Config, Power}
use Rattle.rf233.specs.declared.driver.Driver.{Driver}
use Rattle.rf233.specs.declared.transfer.Transfer.{Transfer}
use Rattle.custody.specs.Claim.{Event}

-- the receive buffers that were accepted and not yet handed back, the oldest first; whether a frame read or a received notice named another
-- than the oldest
pub record Queue : Type 0 where
  pub accepted : List ℕ
  pub wrong : Bool

-- buffer b is not the oldest
abbrev pub not_oldest : ℕ → List ℕ → Bool
not_oldest b [] = true
not_oldest b (c ∷ q) = not (b == c)

-- all but the oldest
abbrev pub but_oldest : List ℕ → List ℕ
but_oldest [] = []
but_oldest (c ∷ q) = q

-- a received notice hands buffer b back, which is to be the oldest
abbrev pub handed_back : ℕ → Queue → Queue
handed_back b q = record { accepted = but_oldest q.accepted; wrong = q.wrong || not_oldest b q.accepted }

-- an action
abbrev pub told : Queue → Action → Queue
told q action.Nothing = q
told q (action.Power v) = q
told q (action.Sent b a f) = q
told q (action.Received b l v) = handed_back b q
told q action.ConfigDone = q
told q (action.Dropped b) = q
told q action.IrqMakeInput = q
told q action.IrqClear = q
told q action.IrqSetFloatingState = q
told q action.IrqEnableInterrupts = q
told q action.IrqDisableInterrupts = q
told q action.SleepMakeOutput = q
told q action.SleepSet = q
told q action.SleepClear = q
told q action.ResetMakeOutput = q
told q (action.ResetClear n) = q
told q action.ResetSet = q

-- a call's transfer: a frame read reads into the oldest
abbrev pub read_into : Option Transfer → Queue → Queue
read_into None q = q
read_into (Some t) q = cond (kind_value t.kind == 3) (record q { wrong = q.wrong || not_oldest t.read q.accepted }) q

-- a step: its actions in order, then its transfer
abbrev pub stepped : Reply → Queue → Queue
stepped y q = read_into y.transfer (fold told q y.actions.items)

-- what was seen: the queue; whether the receive listener is there, and a receive buffer was lent; whether one was lent without the
-- listener, or the listener made absent after
pub record Seen : Type 0 where
  pub queue : Queue
  pub listens : Bool
  pub lent : Bool
  pub unheard : Bool

-- at first nothing was lent, and no listener is there
abbrev pub unseen : Seen
unseen = record { queue = record { accepted = []; wrong = false }; listens = false; lent = false; unheard = false }

-- a buffer is accepted
abbrev pub accepts : ℕ → Seen → Seen
accepts b s =
    record s {
      queue = record s.queue { accepted = s.queue.accepted ++ (b ∷ []) };
      lent = true;
      unheard = s.unheard || not s.listens;
    }

-- a listener is made present or absent
abbrev pub attends : Client → Bool → Seen → Seen
attends Transmit v s = s
attends Receive v s = record s { listens = v; unheard = s.unheard || (s.lent && not v) }
attends Config v s = s
attends Power v s = s

-- an accepted call
abbrev pub called : Call → Seen → Seen
called start s = s
called stop s = s
called commit s = s
called fire s = s
called query s = s
called declined s = s
called resume s = s
called (complete xs) s = s
called (transmit b l n) s = s
called (receive_buffer b l) s = accepts b s
called (reset v) s = s
called (address a) s = s
called (pan a) s = s
called (channel c) s = s
called (address_long l) s = s
called (power t) s = s
called (listener x v) s = attends x v s

-- a call and what it yielded; a refused one changes nothing
unfoldable pub saw : Call → Reply → Seen → Seen
saw c y s =
    let t = called c s in
    cond (answer_no y.answer == 0) (record t { queue = stepped y t.queue }) s

-- a list of calls, one after another
unfoldable pub seen : Driver → Seen → List Event → Seen
seen d s [] = s
seen d s (e ∷ es) = let o = yields d e.call e.pool in seen o.driver (saw e.call o.reply s) es

-- in any list in which the receive listener is made present before the first lending and never made absent after, the buffer of each frame
-- read and of each received notice is the oldest accepted one that was not yet handed back
abbrev pub OldestFirst : Type 0
OldestFirst = (l c : ℕ) (es : List Event) → let s = seen (new_call l c).driver unseen es in s.unheard ≡ false → s.queue.wrong ≡ false
