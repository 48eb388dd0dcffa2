-- `received-length` (request 2026-13): the length of each received notice is the one that the radio sent, in both its reads. One claim
-- about any list of calls on any new driver, kept from calls and answers alone, as the book is, and beside it, since the book keeps no
-- bytes.
use Rattle.std.specs.Prelude.{◌≡◌, ℕ, ◌+◌, Bool, false, cond, not, ◌&&◌, ◌||◌, List, [], ◌∷◌, ◌==◌, slice_index_or}
use Rattle.std.specs.Prelude.{Option, None, Some}
use Rattle.std.specs.List.{fold}
use Rattle.rf233.specs.Answer.{answer_no}
use Rattle.rf233.specs.Calls.{Call, yields}
use Rattle.rf233.specs.Calls.Call.{
  start,
  stop,
  commit,
  fire,
  query,
  complete,
  transmit,
  receive_buffer,
  reset,
  address,
  pan,
  channel,
  address_long,
  power,
  listener,
  declined,
  resume,
}
use Rattle.rf233.specs.Choice.{within}
use Rattle.rf233.specs.Create.{new_call}
use Rattle.rf233.specs.Transfer.{kind_value}
use Rattle.rf233.specs.declared.action.Action.{Action}
use Rattle.rf233.specs.declared.action.Action.TheVariants as action
use Rattle.rf233.specs.declared.answer.Reply.{Reply}
use Rattle.rf233.specs.declared.driver.Driver.{Driver}
use Rattle.rf233.specs.declared.transfer.Transfer.{Transfer}
use Rattle.custody.specs.Claim.{Event}

-- a frame read under way: the buffer that it reads into, and whether it reads the length alone (a frame read of n = 0)
pub record Going : Type 0 where
  pub buffer : ℕ
  pub of_length : Bool

-- a frame read that is over: the buffer that it read into, and byte 1 of what arrived
pub record Read : Type 0 where
  pub buffer : ℕ
  pub byte : ℕ

-- what was seen: the frame read under way; the last length read and the last frame read of n above 0 that are over; whether a received
-- notice told another length
pub record Reads : Type 0 where
  pub going : Option Going
  pub length : Option Read
  pub frame : Option Read
  pub wrong : Bool

-- at first nothing was read
abbrev pub unread : Reads
unread = record { going = None; length = None; frame = None; wrong = false }

-- a completion ends the read under way, with this byte 1
abbrev pub over : ℕ → Option Going → Reads → Reads
over byte None s = s
over byte (Some g) s =
    let r = Some (record { buffer = g.buffer; byte = byte }) in
    cond g.of_length (record s { going = None; length = r }) (record s { going = None; frame = r })

-- an accepted call; a frame read that is declined is no longer under way, and is again once it is offered again
abbrev pub called : Call → Reads → Reads
called start s = s
called stop s = s
called commit s = s
called fire s = s
called query s = s
called declined s = record s { going = None }
called resume s = s
called (complete xs) s = over (slice_index_or xs 1 0) s.going s
called (transmit b l n) s = s
called (receive_buffer b l) s = s
called (reset v) s = s
called (address a) s = s
called (pan a) s = s
called (channel c) s = s
called (address_long l) s = s
called (power t) s = s
called (listener x v) s = s

-- a read went into buffer b and brought n
abbrev pub brought : ℕ → ℕ → Option Read → Bool
brought b n None = false
brought b n (Some r) = r.buffer == b && r.byte == n

-- a received notice of buffer b tells the length l: 9 to 125, and with the 2 of the check both reads brought it, into that buffer
abbrev pub right : ℕ → ℕ → Reads → Bool
right b l s = within 9 125 l && (brought b (l + 2) s.length && brought b (l + 2) s.frame)

-- an action
abbrev pub told : Reads → Action → Reads
told s action.Nothing = s
told s (action.Power v) = s
told s (action.Sent b a f) = s
told s (action.Received b l v) = record s { wrong = s.wrong || not (right b l s) }
told s action.ConfigDone = s
told s (action.Dropped b) = s
told s action.IrqMakeInput = s
told s action.IrqClear = s
told s action.IrqSetFloatingState = s
told s action.IrqEnableInterrupts = s
told s action.IrqDisableInterrupts = s
told s action.SleepMakeOutput = s
told s action.SleepSet = s
told s action.SleepClear = s
told s action.ResetMakeOutput = s
told s (action.ResetClear n) = s
told s action.ResetSet = s

-- a call's transfer: a frame read begins
abbrev pub begins : Option Transfer → Reads → Reads
begins None s = s
begins (Some t) s =
    cond (kind_value t.kind == 3) (record s { going = Some (record { buffer = t.read; of_length = t.second == 0 }) }) s

-- a step: its actions in order, then its transfer
abbrev pub stepped : Reply → Reads → Reads
stepped y s = begins y.transfer (fold told s y.actions.items)

-- a call and what it yielded; a refused one changes nothing
unfoldable pub saw : Call → Reply → Reads → Reads
saw c y s = cond (answer_no y.answer == 0) (stepped y (called c s)) s

-- a list of calls, one after another
unfoldable pub seen : Driver → Reads → List Event → Reads
seen d s [] = s
seen d s (e ∷ es) = let o = yields d e.call e.pool in seen o.driver (saw e.call o.reply s) es

-- each received notice tells the length that both its reads brought
abbrev pub ReceivedLength : Type 0
ReceivedLength = (l c : ℕ) (es : List Event) → (seen (new_call l c).driver unread es).wrong ≡ false
