-- Demand 3 (document 01, "The book of custody"): one claim about any list of calls on any new driver, 15's too, with any pool at each call.
-- What a call yields is the definition that the public call promises (specs/Calls.antt of rf233), so that the claim speaks of the code.
use Rattle.std.specs.Prelude.{◌≡◌, ℕ, zero, suc, ◌+◌, ◌<◌, ◌≤◌, false, cond, T, List, [], ◌∷◌, ◌==◌, slice_index_or}
use Rattle.rf233.specs.Choice.{one_of}
use Rattle.rf233.specs.Calls.{Call, yields}
use Rattle.rf233.specs.Calls.Call.{
  start,
  stop,
  commit,
  fire,
  query,
  declined,
  resume,
  complete,
  transmit,
  receive_buffer,
  reset,
  address,
  pan,
  channel,
  address_long,
  power,
  listener,
}
use Rattle.rf233.specs.DeclineClaim.{under_way_offer, waiting_offer}
use Rattle.rf233.specs.Transfer.{kind_no}
use Rattle.custody.specs.Book.{Page, Fed, new_page, entered, write_no, read_no}
use Rattle.custody.specs.Book.Fed.{lends_transmit, lends_receive, completes, declines, resumes, other}
use Rattle.rf233.specs.Create.{new_call}
use Rattle.rf233.specs.Place.{client_place, own_place, transfer_place, places_of}
use Rattle.rf233.specs.Record.{record_has, one}
use Rattle.rf233.specs.declared.driver.Buffers.{Buffers}
use Rattle.rf233.specs.declared.driver.Driver.{Driver}

-- what the book looks at of a call's arguments
abbrev pub fed : Call → Fed
fed start = other
fed stop = other
fed commit = other
fed fire = other
fed query = other
fed declined = declines
fed resume = resumes
fed (complete xs) = completes
fed (transmit b l n) = lends_transmit b
fed (receive_buffer b l) = lends_receive b
fed (reset v) = other
fed (address a) = other
fed (pan a) = other
fed (channel c) = other
fed (address_long l) = other
fed (power t) = other
fed (listener x v) = other

-- a call and the pool that it is lent
pub record Event : Type 0 where
  pub call : Call
  pub pool : List ℕ

-- a driver, and the book of what it was called with and yielded; the book never sees the driver
pub record World : Type 0 where
  pub driver : Driver
  pub book : Page

-- one call: the driver after it, and the book with what it yielded entered
unfoldable pub next : World → Event → World
next w e =
    let o = yields w.driver e.call e.pool in
    record { driver = o.driver; book = entered (fed e.call) o.reply w.book }

-- a list of calls, one after another
unfoldable pub run : World → List Event → World
run w [] = w
run w (e ∷ es) = run (next w e) es

-- a new driver of any length and channel, 15's too, and a new book
abbrev pub new_world : ℕ → ℕ → World
new_world l c = record { driver = (new_call l c).driver; book = new_page }

-- the place p, and no other; with the client a buffer is at none
abbrev pub only : ℕ → List ℕ
only p = cond (p == client_place) [] (p ∷ [])

-- how many of the buffers below n the record has
abbrev pub held_below : Buffers → ℕ → ℕ
held_below r zero = 0
held_below r (suc n) = held_below r n + one (record_has r n)

-- what is claimed at the end of the list
pub record Kept (w : World) : Type 0 where
  -- no fault
  pub faultless : w.book.fault ≡ false
  -- the driver's record has each buffer where the book has it and nowhere else
  pub placed : (b : ℕ) → b < 19 → places_of w.driver.buffers b ≡ only (slice_index_or w.book.places b client_place)
  -- 16, 17 and 18 are each in their own place or in the transfer under way
  pub own : (b : ℕ) → 16 ≤ b → b < 19 → T (one_of (own_place ∷ transfer_place ∷ []) (slice_index_or w.book.places b client_place))
  -- a transfer is under way in the record exactly when in the book, of that kind and with the same buffers
  pub kind : w.book.kind ≡ kind_no (under_way_offer w.driver.buffers)
  pub write : w.book.write ≡ write_no (under_way_offer w.driver.buffers)
  pub read : w.book.read ≡ read_no (under_way_offer w.driver.buffers)
  -- one waits in the record exactly when in the book, with that kind
  pub waits : w.book.waits ≡ kind_no (waiting_offer w.driver.buffers)
  -- accepted = handed back + dropped + those of 0 to 15 in the driver's record
  pub counted : w.book.accepted ≡ w.book.handed + w.book.dropped + held_below w.driver.buffers 16

-- demand 3
abbrev pub Custody : Type 0
Custody = (l c : ℕ) (es : List Event) → Kept (run (new_world l c) es)
