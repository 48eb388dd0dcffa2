-- The book's kinds are those of the transfers that were seen (`seen_kinds`): both go by the same calls and answers, and neither looks at
-- the driver. So after any list of calls the book's kinds are those of the record (`told`). Assumes nothing.
use Rattle.std.proofs.Common.{◌≡◌, ℕ, true, false, cond, eqb, List, [], ◌∷◌, Option, None, Some, refl, sym, ap, ◌∙◌, arith}
use Rattle.std.specs.List.{fold}
use Rattle.rf233.specs.Answer.{answer_no}
use Rattle.rf233.specs.Calls.{Call, yields}
use Rattle.rf233.specs.Calls.Call.{
  start,
  stop,
  commit,
  fire,
  query,
  declined,
  resume,
  complete,
  transmit,
  receive_buffer,
  reset,
  address,
  pan,
  channel,
  address_long,
  power,
  listener,
}
use Rattle.rf233.specs.Transfer.{kind_no, kind_value}
use Rattle.rf233.specs.declared.action.Action.{Action}
use Rattle.rf233.specs.declared.answer.Reply.{Reply}
use Rattle.rf233.specs.declared.transfer.Transfer.{Transfer}
use Rattle.rf233.specs.declared.transfer.TransferKind.{TransferKind}
use Rattle.custody.specs.Book.{Page, begun, called, ended, entered, noted, noted_all, read_no, taken, turned_down, write_no}
use Rattle.custody.specs.Book as book
use Rattle.custody.specs.Claim.{Event, World, fed, next, run}
use Rattle.custody.specs.ResumedIsDeclined.{Offers, begins, declines, resumes, saw, seen, stepped}
use Rattle.rf233.proofs.Conditions.{by_flag}
use Rattle.custody.proofs.Calls.{keeps}
use Rattle.custody.proofs.NewDriver.{Holds}
use Rattle.custody.proofs.OfferSteps.{Agrees}
use Rattle.custody.proofs.ResumedIsDeclined.{every}

-- the book has the kinds of the transfers seen
abbrev pub Kinds : Page → Offers → Type 0
Kinds k s = (k.kind ≡ kind_no s.going) × (k.waits ≡ kind_no s.waits)

-- no kind is 0
some_kind : (k : TransferKind) → eqb (kind_value k) 0 ≡ false
some_kind k = grind arith

-- actions leave them
noted_kinds : (x : Action) (k : Page) → ((noted x k).kind ≡ k.kind) × ((noted x k).waits ≡ k.waits)
noted_kinds x k = grind arith

all_kinds : (l : List Action) (k : Page) → ((noted_all l k).kind ≡ k.kind) × ((noted_all l k).waits ≡ k.waits)
all_kinds [] k = (refl, refl)
all_kinds (x ∷ l) k =
    let m = all_kinds l (noted x k) in
    let n = noted_kinds x k in (m.0 ∙ n.0, m.1 ∙ n.1)

-- the transfer of a call begins in both
abbrev entering : Option Transfer → Page → Page
entering t k = begun (kind_no t) (write_no t) (read_no t) k

begins_kinds : (t : Option Transfer) (k : Page) (s : Offers) → Kinds k s → Kinds (entering t k) (begins t s)
begins_kinds None k s h = h
begins_kinds (Some t) k s h = rw (some_kind t.kind) (refl, h.1)

-- the transfer under way ends in both, or waits; with none it does not
ended_kinds : (k : Page) → ((ended k.waits k).kind ≡ 0) × ((ended k.waits k).waits ≡ k.waits)
ended_kinds k = by_flag (eqb k.kind 0) (λ e. rw e (refl, refl)) (λ e. rw e (refl, refl))

declined_kinds : (g : Option Transfer) (k : Page) (s : Offers) → s.going ≡ g → k.kind ≡ kind_no g → k.waits ≡ kind_no s.waits
    → Kinds (ended k.kind k) (declines g s)
declined_kinds None k s q e w = let z : eqb k.kind 0 ≡ true = rw e refl in rw z (sym (ap kind_no q), w)
declined_kinds (Some t) k s q e w = let z : eqb k.kind 0 ≡ false = rw e (some_kind t.kind) in rw z (refl, e)

-- a resume's transfer
resumed_kinds : (t : Option Transfer) (k : Page) (s : Offers) → k.kind ≡ kind_no s.going → k.waits ≡ 0 → Kinds (entering t k) (resumes t s)
resumed_kinds None k s h z = (h, z)
resumed_kinds (Some t) k s h z = rw (some_kind t.kind) (refl, z)

-- an accepted call
module _ (y : Reply) (k : Page) (s : Offers) (h : Kinds k s) where
  abbrev Goes : Page → Offers → Type 0
  Goes m q = Kinds (entering y.transfer (noted_all y.actions.items m)) q

  acts : (m : Page) (q : Offers) → Kinds m q → Goes m (begins y.transfer q)
  acts m q e =
      let a = all_kinds y.actions.items m in begins_kinds y.transfer _ q (a.0 ∙ e.0, a.1 ∙ e.1)

  stepped_kinds : (c : Call) → Goes (called (fed c) k) (stepped c y.transfer s)
  stepped_kinds start = acts k s h
  stepped_kinds stop = acts k s h
  stepped_kinds commit = acts k s h
  stepped_kinds fire = acts k s h
  stepped_kinds query = acts k s h
  stepped_kinds declined = acts (ended k.kind k) (declines s.going s) (declined_kinds s.going k s refl h.0 h.1)
  stepped_kinds resume =
      let a = all_kinds y.actions.items (called book.resumes k) in
      resumed_kinds y.transfer _ s (a.0 ∙ h.0) a.1
  stepped_kinds (complete xs) = let e = ended_kinds k in acts (ended k.waits k) (record s { going = None }) (e.0, e.1 ∙ h.1)
  stepped_kinds (transmit b l n) = acts (called (book.lends_transmit b) k) s h
  stepped_kinds (receive_buffer b l) = acts (called (book.lends_receive b) k) s h
  stepped_kinds (reset v) = acts k s h
  stepped_kinds (address a) = acts k s h
  stepped_kinds (pan a) = acts k s h
  stepped_kinds (channel c) = acts k s h
  stepped_kinds (address_long l) = acts k s h
  stepped_kinds (power t) = acts k s h
  stepped_kinds (listener x v) = acts k s h

pub seen_kinds : (c : Call) (y : Reply) (k : Page) (s : Offers) → Kinds k s → Kinds (entered (fed c) y k) (saw c y s)
unfolding entered saw
seen_kinds c y k s h =
    by_flag (eqb (answer_no y.answer) 0) (λ e. rw e (stepped_kinds y k s h c)) (λ e. rw e h)

-- ---- a list of calls

-- what was seen, agreeing with the book and the record
pub record Told (w : World) : Type 0 where
  pub offers : Offers
  pub agrees : Agrees offers w.driver.buffers
  pub kinds : Kinds w.book offers

pub told : (w : World) (s : Offers) (es : List Event) → Holds w → Agrees s w.driver.buffers → Kinds w.book s → Told (run w es)
unfolding run next
told w s [] v g h = record { offers = s; agrees = g; kinds = h }
told w s (e ∷ es) v g h =
    let o = yields w.driver e.call e.pool in
    told (next w e) (saw e.call o.reply s) es (keeps w.book w.driver v e.call e.pool)
    (every w.book s w.driver v g e.call e.pool) (seen_kinds e.call o.reply w.book s h)
