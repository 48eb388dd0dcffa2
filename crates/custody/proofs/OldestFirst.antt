-- `oldest_first` of specs/OldestFirst.antt. At each point the queue that was seen is the driver's receive buffers in turn, as long as none
-- was lent without a listener (`Good`): a step keeps that (InOrder.antt), and so does what a call lays down. Beside it goes the invariant
-- of Custody.antt. Assumes nothing.
use Rattle.std.proofs.Common.{◌≡◌, ℕ, Bool, true, false, not, ◌&&◌, ◌||◌, T, eqb, leb, cond, List, [], ◌∷◌, ◌++◌}
use Rattle.std.proofs.Common.{sym, refl, ap, ◌∙◌, subst, arith}
use Rattle.std.specs.List.{fold}
use Rattle.std.specs.Prelude.{Option, None, Some}
use Rattle.rf233.specs.Action.{actions}
use Rattle.rf233.specs.Answer.{answer_no, answer_of, refused}
use Rattle.rf233.specs.Arrived.{arrived_of}
use Rattle.rf233.specs.Calls.{Call, yields}
use Rattle.rf233.specs.Calls.Call.{
  start,
  stop,
  commit,
  fire,
  query,
  complete,
  transmit,
  receive_buffer,
  reset,
  address,
  pan,
  channel,
  address_long,
  power,
  listener,
  declined,
  resume,
}
use Rattle.rf233.specs.Completion.{completed, length_taken, transfer_over}
use Rattle.rf233.specs.Create.{new_call}
use Rattle.rf233.specs.Data.{rx_full}
use Rattle.rf233.specs.Decline.{declines, resumed, waits_no_more}
use Rattle.rf233.specs.Described.{described}
use Rattle.rf233.specs.Driver.{with_line}
use Rattle.rf233.specs.Line.{append, names, line, line_room, some}
use Rattle.rf233.specs.Record.{lent, receive_count}
use Rattle.rf233.specs.Starter.{register_transfer}
use Rattle.rf233.specs.Step.{quiet, step_of}
use Rattle.rf233.specs.Transfer.{kind_value, to_complete, to_resume}
use Rattle.rf233.specs.declared.action.Action.{Action}
use Rattle.rf233.specs.declared.answer.Outcome.{Outcome}
use Rattle.rf233.specs.declared.answer.Reply.{Reply}
use Rattle.rf233.specs.declared.arrived.Arrived.{Arrived}
use Rattle.rf233.specs.declared.driver.Buffers.{Buffers}
use Rattle.rf233.specs.declared.driver.Client.TheVariants.{Config, Power, Receive, Transmit}
use Rattle.rf233.specs.declared.driver.Clients.{Clients}
use Rattle.rf233.specs.declared.driver.Driver.{Driver}
use Rattle.rf233.specs.declared.driver.Lent.{Lent}
use Rattle.rf233.specs.declared.transfer.Transfer.{Transfer}
use Rattle.rf233.specs.declared.transfer.TransferKind.{TransferKind}
use Rattle.rf233.specs.declared.transfer.TransferKind.TheVariants as transfer
use Rattle.custody.specs.Book.{Page, ended, entered, new_page}
use Rattle.custody.specs.Book as book
use Rattle.custody.specs.Claim.{Event, fed}
use Rattle.custody.specs.OldestFirst.{OldestFirst, Queue, Seen, called, not_oldest, read_into, saw, seen, stepped, told, unseen}
use Rattle.laws.proofs.Logic.{none_left, none_right}
use Rattle.rf233.proofs.Accepted.{done_completed}
use Rattle.rf233.proofs.ChoiceLaws.{either}
use Rattle.rf233.proofs.EveryCall.{attending, every_call, laid, Lays, left_keeps, lending, reset_actions}
use Rattle.rf233.specs.OneBuffer.{in_turn}
use Rattle.rf233.proofs.InTurn.{append_turn, back_turn}
use Rattle.rf233.proofs.OneBuffer.{declined_turn, reading_waits}
use Rattle.custody.proofs.Calls.{keeps}
use Rattle.custody.proofs.Custody.{Inv}
use Rattle.custody.proofs.Events.{returned_keeps, taken_keeps}
use Rattle.custody.proofs.InOrder.{Ready, Went, asks, rests, right_queue, again_went}
use Rattle.custody.proofs.InOrder as order
use Rattle.custody.proofs.NewDriver.{newly}

-- ---- a list of calls

-- what holds of a driver and of what was seen, as long as no buffer was lent without a listener
record Good (s : Seen) (d : Driver) : Type 0 where
  queue : s.queue ≡ right_queue (in_turn d.buffers)
  listens : s.listens ≡ d.clients.rx_client
  quiet : T s.lent → T s.listens
  none : s.lent ≡ false → s.queue.accepted ≡ []

-- where there is one in turn the listener is there
hears : {s : Seen} {d : Driver} → Good s d → T (some (in_turn d.buffers)) → T d.clients.rx_client
hears {s} {d} g t =
    subst T g.listens (g.quiet (go s.lent refl))
  where
    empty : (l : List Lent) → names l ≡ [] → T (some l) → ⊥
    empty [] e t = t
    empty (x ∷ l) e t = cc

    go : (v : Bool) → s.lent ≡ v → T s.lent
    go true e = rw e tt
    go false e = absurd (empty (in_turn d.buffers) (sym (ap (λ (q : Queue). q.accepted) g.queue) ∙ g.none e) t)

-- a queue that is empty stays so
told_none : (x : Action) (q : Queue) → q.accepted ≡ [] → (told q x).accepted ≡ []
told_none x q e = grind arith

all_none : (l : List Action) (q : Queue) → q.accepted ≡ [] → (fold told q l).accepted ≡ []
all_none [] q e = e
all_none (x ∷ l) q e = all_none l (told q x) (told_none x q e)

read_none : (t : Option Transfer) (q : Queue) → (read_into t q).accepted ≡ q.accepted
read_none None q = refl
read_none (Some t) q = go (eqb (kind_value t.kind) 3)
  where
    go : (v : Bool) → (cond v (record q { wrong = q.wrong || not_oldest t.read q.accepted }) q).accepted ≡ q.accepted
    go true = refl
    go false = refl

stepped_none : (y : Reply) (q : Queue) → q.accepted ≡ [] → (stepped y q).accepted ≡ []
stepped_none y q e = read_none y.transfer (fold told q y.actions.items) ∙ all_none y.actions.items q e

-- a buffer at the end
names_append : (l m : List Lent) → names (l ++ m) ≡ names l ++ names m
names_append [] m = refl
names_append (x ∷ l) m = ap (λ k. x.buffer ∷ k) (names_append l m)

append_in_turn : (r : Buffers) (x : Lent) → leb line_room (receive_count r) ≡ false
    → names (in_turn (with_line (append (line r) x) r)) ≡ names (in_turn r) ++ (x.buffer ∷ [])
append_in_turn r x f = ap names (append_turn r x f) ∙ names_append (in_turn r) (x ∷ [])

module _ (p : Page) (s : Seen) (d : Driver) (v : Inv p d) (g : Good s d) where
  -- what a call that yields this is claimed to leave
  abbrev Leaves : Call → Outcome → Type 0
  Leaves c o = (saw c o.reply s).unheard ≡ false → Good (saw c o.reply s) o.driver

  -- a call that is turned down
  turned : (c : Call) (n : ℕ) (e : Driver) → eqb (answer_no (answer_of n)) 0 ≡ false → e.buffers ≡ d.buffers → e.clients ≡ d.clients
      → Leaves c (refused n e)
  unfolding saw
  turned c n e z b k =
      rw z (λ h. record {
        queue = g.queue ∙ sym (ap (λ r. right_queue (in_turn r)) b);
        listens = g.listens ∙ sym (ap (λ (k : Clients). k.rx_client) k);
        quiet = g.quiet;
        none = g.none;
      })

  -- what the call itself leaves, where nobody is left unheard by it
  record Begins (c : Call) : Type 0 where
    queue : (called c s).queue ≡ right_queue (in_turn (laid c d.buffers))
    listens : (called c s).listens ≡ (attending c d.clients).rx_client
    quiet : T (called c s).lent → T (called c s).listens
    none : (called c s).lent ≡ false → (called c s).queue.accepted ≡ []

  as_before : (c : Call) → called c s ≡ s → laid c d.buffers ≡ d.buffers → (attending c d.clients).rx_client ≡ d.clients.rx_client
      → Begins c
  as_before c e b k =
      record {
        queue = rw (e, b) g.queue;
        listens = rw (e, k) g.listens;
        quiet = rw e g.quiet;
        none = rw e g.none;
      }

  lent_so : (x y : Bool) → x && not y ≡ false → T x → T y
  lent_so true true e t = tt
  lent_so true false e t = cc
  lent_so false y e t = absurd t

  begins : (c : Call) → (T (lending c) → rx_full d ≡ false) → (called c s).unheard ≡ false → Begins c
  begins start r h = as_before start refl refl refl
  begins stop r h = as_before stop refl refl refl
  begins commit r h = as_before commit refl refl refl
  begins fire r h = as_before fire refl refl refl
  begins query r h = as_before query refl refl refl
  begins declined r h = as_before declined refl refl refl
  begins resume r h = as_before resume refl refl refl
  begins (complete xs) r h = as_before (complete xs) refl refl refl
  begins (transmit b l n) r h =
      record { queue = g.queue; listens = g.listens; quiet = g.quiet; none = g.none }
  begins (receive_buffer b l) r h =
      record {
        queue =
            ap (λ (q : Queue). record { accepted = q.accepted ++ (b ∷ []); wrong = q.wrong }) g.queue
            ∙ ap (λ k. record { accepted = k; wrong = false }) (sym (append_in_turn d.buffers (lent b l) (r tt)));
        listens = g.listens;
        quiet = λ t. lent_so true s.listens (none_right s.unheard (not s.listens) h) tt;
        none = λ e. cc;
      }
  begins (reset v) r h = as_before (reset v) refl refl refl
  begins (address a) r h = as_before (address a) refl refl refl
  begins (pan a) r h = as_before (pan a) refl refl refl
  begins (channel c) r h = as_before (channel c) refl refl refl
  begins (address_long l) r h = as_before (address_long l) refl refl refl
  begins (power t) r h = as_before (power t) refl refl refl
  begins (listener Transmit v) r h = as_before (listener Transmit v) refl refl refl
  begins (listener Receive v) r h =
      record { queue = g.queue; listens = refl; quiet = lent_so s.lent v (none_right s.unheard (s.lent && not v) h); none = g.none }
  begins (listener Config v) r h = as_before (listener Config v) refl refl refl
  begins (listener Power v) r h = as_before (listener Power v) refl refl refl

  -- a step that is done
  goes : (c : Call) (o : Outcome) → eqb (answer_no o.reply.answer) 0 ≡ true → Went (in_turn (laid c d.buffers)) (attending c d.clients) o
      → (T (lending c) → rx_full d ≡ false) → Leaves c o
  unfolding saw
  goes c o z w r =
      rw z (λ h.
      let m = begins c r h in
      record {
        queue = ap (stepped o.reply) m.queue ∙ w.queue;
        listens = m.listens ∙ sym (ap (λ (k : Clients). k.rx_client) w.clients);
        quiet = m.quiet;
        none = λ e. stepped_none o.reply (called c s).queue (m.none e);
      })

  -- a driver on which a call has laid something down, and what it then asks for
  module _ (c : Call) (e : Driver) (y : Lays c d e) where
    turn : in_turn e.buffers ≡ in_turn (laid c d.buffers)
    turn = ap in_turn y.buffers

    asked : (n : TransferKind) (a b : ℕ) → eqb (kind_value n) 3 ≡ false → Leaves c (step_of (register_transfer n a b e) (actions []))
    asked n a b z = goes c _ refl (asks _ _ e turn y.clients n a b z) y.room

    rested : Leaves c (quiet e (actions []))
    rested = goes c _ refl (rests _ _ e turn y.clients) y.room

    was_reset : Leaves c (quiet e (actions reset_actions))
    was_reset = goes c _ refl (record { queue = rw (← turn) refl; clients = y.clients }) y.room

  completion : (xs : List ℕ) (a : Arrived) → to_complete d.buffers ≡ true → Leaves (complete xs) (completed a d)
  completion xs a i =
      let r = d.buffers in
      let over = book.called book.completes p in
      let ready : Ready over (in_turn r) d.clients (hears g) (transfer_over (length_taken a d)) =
      record { rest = returned_keeps p (length_taken a d) (taken_keeps p a d v) i; turn = back_turn r v.match.room; clients = refl } in
      goes (complete xs) (completed a d) (rw (done_completed a d) refl) (order.completes over (in_turn r) d.clients (hears g) a d ready)
      (λ t. absurd t)

  -- a decline leaves the receive buffers in turn, and a resume reads into the first of them
  declines_so : described d ≡ false → to_complete d.buffers ≡ true → Leaves declined (quiet (declines d) (actions []))
  declines_so e i =
      goes declined _ refl (record { queue = ap right_queue (sym (declined_turn d e i)); clients = refl }) (λ t. absurd t)

  resumes_so : to_resume d.buffers ≡ true → Leaves resume (resumed d)
  resumes_so i =
      let e = waits_no_more d in
      goes resume (resumed d) refl
      (subst (λ q. Went q d.clients (resumed d)) (sym (rw (reading_waits d.buffers.under i) refl))
      (again_went d.clients e refl refl d.buffers.under))
      (λ t. absurd t)

  every : (c : Call) (l : List ℕ) → Leaves c (yields d c l)
  every c l =
      every_call d l (λ c t. Leaves c t.outcome) (record {
        refuses = λ c n e t z same.
            turned c n e z (ap (λ (e : Driver). e.buffers) same ∙ left_keeps (λ d. d.buffers) c (answer_no (answer_of n)) d refl)
            (ap (λ (e : Driver). e.clients) same ∙ left_keeps (λ d. d.clients) c (answer_no (answer_of n)) d refl);
        rests = λ c e q y. rested c e y;
        reads = λ c x z e q y. asked c e y transfer.RegisterRead x z refl;
        writes = λ c x z e q y. asked c e y transfer.RegisterWrite x z refl;
        resets = λ v e q y. was_reset (reset v) e y;
        completes = λ xs q e i. completion xs (arrived_of xs) i;
        declines = λ e i. declines_so e i;
        resumes = λ q e i. resumes_so i;
      }) c

-- whoever is unheard stays so
called_earlier : (c : Call) (s : Seen) → (called c s).unheard ≡ false → s.unheard ≡ false
called_earlier start s h = h
called_earlier stop s h = h
called_earlier commit s h = h
called_earlier fire s h = h
called_earlier query s h = h
called_earlier declined s h = h
called_earlier resume s h = h
called_earlier (complete xs) s h = h
called_earlier (transmit b l n) s h = h
called_earlier (receive_buffer b l) s h = none_left s.unheard (not s.listens) h
called_earlier (reset v) s h = h
called_earlier (address a) s h = h
called_earlier (pan a) s h = h
called_earlier (channel c) s h = h
called_earlier (address_long l) s h = h
called_earlier (power t) s h = h
called_earlier (listener Transmit v) s h = h
called_earlier (listener Receive v) s h = none_left s.unheard (s.lent && not v) h
called_earlier (listener Config v) s h = h
called_earlier (listener Power v) s h = h

earlier : (c : Call) (y : Reply) (s : Seen) → (saw c y s).unheard ≡ false → s.unheard ≡ false
unfolding saw
earlier c y s h = go (eqb (answer_no y.answer) 0) refl
  where
    go : (v : Bool) → eqb (answer_no y.answer) 0 ≡ v → s.unheard ≡ false
    go true e = called_earlier c s (rw e at h)
    go false e = rw e at h

along : (p : Page) (s : Seen) (d : Driver) (es : List Event) → Inv p d → (s.unheard ≡ false → Good s d) → (seen d s es).unheard ≡ false
    → (seen d s es).queue.wrong ≡ false
unfolding seen
along p s d [] v g h = ap (λ (q : Queue). q.wrong) (g h).queue
along p s d (e ∷ es) v g h =
    let o = yields d e.call e.pool in
    along (entered (fed e.call) o.reply p) (saw e.call o.reply s) o.driver es (keeps p d v e.call e.pool)
    (λ u. every p s d v (g (earlier e.call o.reply s u)) e.call e.pool u) h

-- a new driver has no buffer in turn, and no listener
newly_good : (l c : ℕ) → Good unseen (new_call l c).driver
unfolding new_call
newly_good l c =
    either (λ (o : Outcome). Good unseen o.driver) _ _ _ (record { queue = refl; listens = refl; quiet = λ t. absurd t; none = λ e. refl })
    (record { queue = refl; listens = refl; quiet = λ t. absurd t; none = λ e. refl })

pub oldest_first : OldestFirst
oldest_first l c es = along new_page unseen (new_call l c).driver es (newly l c) (λ h. newly_good l c)
