-- `resumed-is-declined` (request 2026-05): a resume offers the very transfer that waits. One claim about any list of calls on any new
-- driver, kept from calls and answers alone, as the book is, and beside it, since the book keeps no bytes and no lengths.
use Rattle.std.specs.Prelude.{◌≡◌, ℕ, Bool, false, true, cond, not, ◌&&◌, ◌||◌, List, [], ◌∷◌, ◌==◌, is_some, Option, None, Some}
use Rattle.rf233.specs.Answer.{answer_no}
use Rattle.rf233.specs.Calls.{Call, yields}
use Rattle.rf233.specs.Calls.Call.{
  start,
  stop,
  commit,
  fire,
  query,
  declined,
  resume,
  complete,
  transmit,
  receive_buffer,
  reset,
  address,
  pan,
  channel,
  address_long,
  power,
  listener,
}
use Rattle.rf233.specs.Create.{new_call}
use Rattle.rf233.specs.Transfer.{kind_value}
use Rattle.rf233.specs.declared.answer.Reply.{Reply}
use Rattle.rf233.specs.declared.driver.Driver.{Driver}
use Rattle.rf233.specs.declared.transfer.Transfer.{Transfer}
use Rattle.custody.specs.Claim.{Event}

-- what was seen: the transfer under way, as it was offered; the last one declined, while it waits; whether a resume came with another or
-- with none, or another call began a transfer between
pub record Offers : Type 0 where
  pub going : Option Transfer
  pub waits : Option Transfer
  pub wrong : Bool

-- at first nothing was offered
abbrev pub unoffered : Offers
unoffered = record { going = None; waits = None; wrong = false }

-- the same kind, buffers, command bytes (of a frame transfer the first, and n) and lengths
abbrev pub same_transfer : Transfer → Transfer → Bool
same_transfer t u =
    kind_value t.kind == kind_value u.kind
    && (t.write == u.write
    && (t.read == u.read && (t.first == u.first && (t.second == u.second && (t.write_len == u.write_len && t.read_len == u.read_len)))))

-- this transfer is the one that waits
abbrev pub is_it : Transfer → Option Transfer → Bool
is_it t None = false
is_it t (Some u) = same_transfer t u

-- the transfer under way is declined, and waits; with none under way nothing changes
abbrev pub declines : Option Transfer → Offers → Offers
declines None s = s
declines (Some t) s = record s { going = None; waits = Some t }

-- a call's transfer begins, if there is one; none may while one waits
abbrev pub begins : Option Transfer → Offers → Offers
begins None s = s
begins (Some t) s = record s { going = Some t; wrong = s.wrong || is_some s.waits }

-- a resume ends the waiting; its transfer is the one that waited
abbrev pub resumes : Option Transfer → Offers → Offers
resumes None s = record s { waits = None; wrong = true }
resumes (Some t) s = record { going = Some t; waits = None; wrong = s.wrong || not (is_it t s.waits) }

-- an accepted call and what it yielded
abbrev pub stepped : Call → Option Transfer → Offers → Offers
stepped start t s = begins t s
stepped stop t s = begins t s
stepped commit t s = begins t s
stepped fire t s = begins t s
stepped query t s = begins t s
stepped declined t s = begins t (declines s.going s)
stepped resume t s = resumes t s
stepped (complete xs) t s = begins t (record s { going = None })
stepped (transmit b l n) t s = begins t s
stepped (receive_buffer b l) t s = begins t s
stepped (reset v) t s = begins t s
stepped (address a) t s = begins t s
stepped (pan a) t s = begins t s
stepped (channel c) t s = begins t s
stepped (address_long l) t s = begins t s
stepped (power p) t s = begins t s
stepped (listener x v) t s = begins t s

-- a call and what it yielded; a refused one changes nothing
unfoldable pub saw : Call → Reply → Offers → Offers
saw c y s = cond (answer_no y.answer == 0) (stepped c y.transfer s) s

-- a list of calls, one after another
unfoldable pub seen : Driver → Offers → List Event → Offers
seen d s [] = s
seen d s (e ∷ es) = let o = yields d e.call e.pool in seen o.driver (saw e.call o.reply s) es

-- each accepted resume has a transfer, the last one declined, and no other transfer began between
abbrev pub ResumedIsDeclined : Type 0
ResumedIsDeclined = (l c : ℕ) (es : List Event) → (seen (new_call l c).driver unoffered es).wrong ≡ false
