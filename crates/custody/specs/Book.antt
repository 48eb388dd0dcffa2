-- Document 01, "The book of custody": fed with each call's arguments, answer, actions and transfer, never with the driver's record. A
-- fault stays once found; what is found faulty is entered all the same, so that there is nothing to choose.
use Rattle.std.specs.Prelude.{ℕ, zero, suc, ◌+◌, Bool, true, false, cond, not, ◌&&◌, ◌||◌, List, [], ◌∷◌, ◌++◌, replicate, ◌==◌, nat_le}
use Rattle.std.specs.Prelude.{nat_lt, slice_index_or, slice_set, Option, None, Some}
use Rattle.std.specs.List.{fold}
use Rattle.rf233.specs.Answer.{answer_no}
use Rattle.rf233.specs.Line.{line_room}
use Rattle.rf233.specs.Record.{one}
use Rattle.rf233.specs.Place.{client_place, own_place, transmit_place, receive_place, transfer_place}
use Rattle.rf233.specs.Transfer.{kind_no}
use Rattle.rf233.specs.declared.action.Action.{Action}
use Rattle.rf233.specs.declared.action.Action.TheVariants as action
use Rattle.rf233.specs.declared.answer.Answer.{Answer}
use Rattle.rf233.specs.declared.answer.Reply.{Reply}
use Rattle.rf233.specs.declared.transfer.Transfer.{Transfer}

-- each of the 19 buffers' places; the transfer under way by its kind (0 none) and its two buffers; the kind of the one that waits (0 none;
-- request 2026-05); the three counts; the fault
pub record Page : Type 0 where
  pub places : List ℕ
  pub kind : ℕ
  pub write : ℕ
  pub read : ℕ
  pub waits : ℕ
  pub accepted : ℕ
  pub handed : ℕ
  pub dropped : ℕ
  pub fault : Bool

-- at first 16, 17 and 18 are in their own places, 0 to 15 with the client; no transfer; counts 0
abbrev pub new_page : Page
new_page =
    record {
      places = replicate 16 client_place ++ (own_place ∷ own_place ∷ own_place ∷ []);
      kind = 0;
      write = 0;
      read = 0;
      waits = 0;
      accepted = 0;
      handed = 0;
      dropped = 0;
      fault = false;
    }

-- a call, as far as the book looks at its arguments
pub data Fed : Type 0 where
  lends_transmit lends_receive : ℕ → Fed
  completes declines resumes other : Fed

-- buffer b is not at place p; one above 18 is not at any
abbrev pub missing : ℕ → ℕ → List ℕ → Bool
missing b p l = nat_lt 18 b || not (slice_index_or l b client_place == p)

-- the place that a transfer of a kind takes the buffer from that it sends
abbrev pub write_from : ℕ → ℕ
write_from k = cond (k == 4) transmit_place own_place

-- and the one that it reads into
abbrev pub read_from : ℕ → ℕ
read_from k = cond (k == 3) receive_place own_place

-- how many of the buffers below n are at place p
unfoldable pub filled : ℕ → List ℕ → ℕ → ℕ
filled p l zero = 0
filled p l (suc n) = filled p l n + one (slice_index_or l n client_place == p)

-- the buffers at a client's place, the one counted that the transfer under way took from there
abbrev pub occupied : ℕ → Page → ℕ
occupied p k = filled p k.places 19 + one (write_from k.kind == p || read_from k.kind == p)

-- how many buffers a place takes from the client: transmit 1, receive 4 (request 2026-07), any other none
abbrev pub room : ℕ → ℕ
room p = cond (p == transmit_place) 1 (cond (p == receive_place) line_room 0)

-- the place takes no more
abbrev pub full : ℕ → Page → Bool
full p k = nat_le (room p) (occupied p k)

-- `transmit` or receive buffer: from the client to the transmit or receive place, which takes it; accepted + 1. No other entry adds to
-- what is counted there, so only this one asks for room
abbrev pub brought : ℕ → ℕ → Page → Page
brought b p k =
    record k {
      places = slice_set k.places b p;
      accepted = k.accepted + 1;
      fault = k.fault || (missing b client_place k.places || full p k);
    }

-- when a transfer ends its two buffers go back to the places that a transfer of that kind takes them from
abbrev pub end_places : ℕ → ℕ → ℕ → List ℕ → List ℕ
end_places k w r l = slice_set (slice_set l w (write_from k)) r (read_from k)

-- the transfer under way ends, and one of kind z waits then (0 none); with none under way it cannot
abbrev pub ended : ℕ → Page → Page
ended z k =
    cond (k.kind == 0) (record k { kind = 0; write = 0; read = 0; fault = true })
    (record k { places = end_places k.kind k.write k.read k.places; kind = 0; write = 0; read = 0; waits = z })

-- what the call itself does
abbrev pub called : Fed → Page → Page
called (lends_transmit b) k = brought b transmit_place k
called (lends_receive b) k = brought b receive_place k
called completes k = ended k.waits k
-- the transfer under way waits
called declines k = ended k.kind k
-- and does so no more: what is offered again begins as any other
called resumes k = record k { waits = 0 }
called other k = k

-- a notice or a drop: buffer b goes from place p to the client; m and n are added to handed back and dropped
abbrev pub given : ℕ → ℕ → ℕ → ℕ → Page → Page
given b p m n k =
    record k {
      places = slice_set k.places b client_place;
      handed = k.handed + m;
      dropped = k.dropped + n;
      fault = k.fault || missing b p k.places;
    }

-- an action: a sent notice or a drop from the transmit place, a received notice from the receive place; others nothing
abbrev pub noted : Action → Page → Page
noted action.Nothing k = k
noted (action.Power v) k = k
noted (action.Sent b a f) k = given b transmit_place 1 0 k
noted (action.Received b l v) k = given b receive_place 1 0 k
noted action.ConfigDone k = k
noted (action.Dropped b) k = given b transmit_place 0 1 k
noted action.IrqMakeInput k = k
noted action.IrqClear k = k
noted action.IrqSetFloatingState k = k
noted action.IrqEnableInterrupts k = k
noted action.IrqDisableInterrupts k = k
noted action.SleepMakeOutput k = k
noted action.SleepSet k = k
noted action.SleepClear k = k
noted action.ResetMakeOutput k = k
noted (action.ResetClear n) k = k
noted action.ResetSet k = k

-- the actions in order
abbrev pub noted_all : List Action → Page → Page
noted_all l k = fold (λ k x. noted x k) k l

-- it names the right own buffers: 16 and 17 (register), 18 (frame)
abbrev pub names_own : ℕ → ℕ → ℕ → Bool
names_own k w r = cond (k == 3) (w == 18) (cond (k == 4) (r == 18) (w == 16 && r == 17))

-- a transfer, none being under way and none waiting: it takes the two buffers that it names
abbrev pub taken : ℕ → ℕ → ℕ → Page → Page
taken n w r k =
    record k {
      places = slice_set (slice_set k.places w transfer_place) r transfer_place;
      kind = n;
      write = w;
      read = r;
      fault = k.fault || (not (k.kind == 0) || (not (k.waits == 0) || (nat_lt 4 n || (not (names_own n w r)
          || (missing w (write_from n) k.places || missing r (read_from n) k.places)))));
    }

-- the two buffers of a call's transfer: 0 where there is none
abbrev pub write_no : Option Transfer → ℕ
write_no None = 0
write_no (Some t) = t.write

abbrev pub read_no : Option Transfer → ℕ
read_no None = 0
read_no (Some t) = t.read

-- the transfer of a call, if it started one
abbrev pub begun : ℕ → ℕ → ℕ → Page → Page
begun n w r k = cond (n == 0) k (taken n w r k)

-- an action that is not `Nothing`
abbrev pub is_act : Action → Bool
is_act action.Nothing = false
is_act (action.Power v) = true
is_act (action.Sent b a f) = true
is_act (action.Received b l v) = true
is_act action.ConfigDone = true
is_act (action.Dropped b) = true
is_act action.IrqMakeInput = true
is_act action.IrqClear = true
is_act action.IrqSetFloatingState = true
is_act action.IrqEnableInterrupts = true
is_act action.IrqDisableInterrupts = true
is_act action.SleepMakeOutput = true
is_act action.SleepSet = true
is_act action.SleepClear = true
is_act action.ResetMakeOutput = true
is_act (action.ResetClear n) = true
is_act action.ResetSet = true

-- such an action is among them
abbrev pub acts : List Action → Bool
acts [] = false
acts (x ∷ more) = is_act x || acts more

-- refused: nothing changes; an action among l or a transfer, n the number of its kind, given with it is a fault
abbrev pub turned_down_by : List Action → ℕ → Page → Page
turned_down_by l n k = record k { fault = k.fault || (acts l || nat_lt 0 n) }

abbrev pub turned_down : Reply → Page → Page
turned_down y k = turned_down_by y.actions.items (kind_no y.transfer) k

-- a call and what it yielded, entered: the call, its actions, its transfer. The transfer is told by its numbers (n its kind's, 0 none), any
-- of them, so that one of a kind that there is not can be entered, and is found faulty
abbrev pub entered_by : Fed → Answer → List Action → ℕ → ℕ → ℕ → Page → Page
entered_by f a l n w r k = cond (answer_no a == 0) (begun n w r (noted_all l (called f k))) (turned_down_by l n k)

-- a call and a reply of the driver
unfoldable pub entered : Fed → Reply → Page → Page
entered f y k = entered_by f y.answer y.actions.items (kind_no y.transfer) (write_no y.transfer) (read_no y.transfer) k
