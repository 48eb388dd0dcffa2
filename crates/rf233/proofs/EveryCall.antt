-- One walk through the definitions of the calls: what holds of refusals, of register transfers and quiet steps without an action, of a
-- reset and of completions (`OfCalls`) holds of every call (`every_call`), whatever the driver value, the arguments and the pool. Of the
-- driver with which such a step begins it is known what the call laid down (`Lays`). Assumes nothing.
use Rattle.std.proofs.Common.{◌≡◌, ℕ, ◌+◌, true, false, not, T, eqb, leb, List, [], ◌∷◌, set, refl}
use borrow.Author.Tests.{not-false}
use Rattle.rf233.specs.Decline.{resumed}
use Rattle.rf233.specs.Decline as decline
use Rattle.laws.proofs.Logic.{is_false, none_left, none_right}
use mathlib.Core.Bool.{◌||◌}
use Rattle.std.proofs.Common.{ap}
use Rattle.rf233.specs.declared.reception.Reception.{Reception}
use Rattle.rf233.specs.Action.{actions}
use Rattle.rf233.specs.Answer.{answer_no, answer_of}
use Rattle.rf233.specs.Arrived.{arrived_of}
use Rattle.rf233.specs.Completion.{completed}
use Rattle.rf233.specs.Config.{begin_start, start_call, begin_stop, stop_call, begin_commit, commit_call, reset_call, set_power}
use Rattle.rf233.specs.Config.{set_channel}
use Rattle.rf233.specs.Data.{begin_transmit, rx_full, transmit_call, receive_buffer_call, tx_busy}
use Rattle.rf233.specs.Driver.{listening, with_tx, with_line, with_tx_len}
use Rattle.rf233.specs.Line.{line, append}
use Rattle.rf233.specs.Record.{lent}
use Rattle.rf233.specs.declared.driver.Buffers.{Buffers}
use Rattle.rf233.specs.declared.driver.Clients.{Clients}
use Rattle.std.specs.Prelude.{Bool, Some}
use Rattle.rf233.specs.Described.{described}
use Rattle.rf233.specs.Choice.{within}
use Rattle.rf233.specs.Guard.{Called, refusing, stepping, pool_fault}
use Rattle.rf233.specs.Interrupt.{handle_interrupt}
use Rattle.rf233.specs.Kernel.{fired_call, completing, completion_call, declined_call, resume_call}
use Rattle.rf233.specs.Pool.{start_of}
use Rattle.rf233.specs.Starter.{register_transfer}
use Rattle.rf233.specs.State.{state_no}
use Rattle.rf233.specs.Step.{step_of, quiet}
use Rattle.rf233.specs.Transfer.{to_complete, to_resume}
use Rattle.rf233.specs.declared.action.Action.{Action}
use Rattle.rf233.specs.declared.action.Action.TheVariants.{ResetMakeOutput, SleepMakeOutput, ResetClear, ResetSet, SleepClear}
use Rattle.rf233.specs.declared.answer.Outcome.{Outcome}
use Rattle.rf233.specs.declared.driver.Driver.{Driver}
use Rattle.rf233.specs.declared.transfer.TransferKind.TheVariants as transfer
use Rattle.rf233.proofs.ChoiceLaws.{branch, either}
use Rattle.rf233.proofs.EveryStep.{commit_by}
use Rattle.rf233.proofs.Sound.{driver_right}
use Rattle.rf233.specs.Calls.{Call, made, with_pool, ending}
use Rattle.rf233.specs.Calls.Call.{
  start,
  stop,
  commit,
  fire,
  query,
  complete,
  transmit,
  receive_buffer,
  reset,
  address,
  pan,
  channel,
  address_long,
  power,
  listener,
  declined,
  resume,
}
use Rattle.rf233.specs.Refusal.{left_by, withdraws}
use Rattle.rf233.specs.Driver.{flagged}
use Rattle.rf233.specs.Driver.Flag.{sleep_pending}
use Rattle.std.specs.Prelude.{cond}

-- the five of a reset
abbrev pub reset_actions : List Action
reset_actions = ResetMakeOutput ∷ SleepMakeOutput ∷ ResetClear 10000 ∷ ResetSet ∷ SleepClear ∷ []

-- the record with a buffer that a call lends; any other call leaves it
abbrev pub laid : Call → Buffers → Buffers
laid start r = r
laid stop r = r
laid commit r = r
laid fire r = r
laid query r = r
laid declined r = r
laid resume r = r
laid (complete xs) r = r
laid (transmit b l n) r = with_tx_len (n + 2) (with_tx (Some (lent b l)) r)
laid (receive_buffer b l) r = with_line (append (line r) (lent b l)) r
laid (reset v) r = r
laid (address a) r = r
laid (pan a) r = r
laid (channel c) r = r
laid (address_long l) r = r
laid (power t) r = r
laid (listener x v) r = r

-- the listeners after a call
abbrev pub attending : Call → Clients → Clients
attending start k = k
attending stop k = k
attending commit k = k
attending fire k = k
attending query k = k
attending declined k = k
attending resume k = k
attending (complete xs) k = k
attending (transmit b l n) k = k
attending (receive_buffer b l) k = k
attending (reset v) k = k
attending (address a) k = k
attending (pan a) k = k
attending (channel c) k = k
attending (address_long l) k = k
attending (power t) k = k
attending (listener x v) k = listening x v k

-- a call lends a buffer to receive into
abbrev pub lending : Call → Bool
lending start = false
lending stop = false
lending commit = false
lending fire = false
lending query = false
lending declined = false
lending resume = false
lending (complete xs) = false
lending (transmit b l n) = false
lending (receive_buffer b l) = true
lending (reset v) = false
lending (address a) = false
lending (pan a) = false
lending (channel c) = false
lending (address_long l) = false
lending (power t) = false
lending (listener x v) = false

-- a call lends a buffer to send
abbrev pub sending : Call → Bool
sending start = false
sending stop = false
sending commit = false
sending fire = false
sending query = false
sending declined = false
sending resume = false
sending (complete xs) = false
sending (transmit b l n) = true
sending (receive_buffer b l) = false
sending (reset v) = false
sending (address a) = false
sending (pan a) = false
sending (channel c) = false
sending (address_long l) = false
sending (power t) = false
sending (listener x v) = false

-- the driver e with which a call's step begins, made on d: in one of the states 63 to 68, where a frame is read and announced, only if d is
-- in it; a buffer is lent to receive into only where there is room, and to send only where there is none. Of a completion, a decline and a
-- resume nothing is said
pub record Lays (c : Call) (d e : Driver) : Type 0 where
  pub buffers : e.buffers ≡ laid c d.buffers
  pub clients : e.clients ≡ attending c d.clients
  pub reception : e.reception ≡ d.reception
  pub state : T (within 63 68 (state_no e.state)) → e.state ≡ d.state
  pub room : T (lending c) → rx_full d ≡ false
  pub unsent : T (sending c) → tx_busy d ≡ false
  pub ends_none : ending c ≡ false

-- what it says of the driver's parts, as one
abbrev parts : Driver → Buffers × (Clients × Reception)
parts e = (e.buffers, (e.clients, e.reception))

abbrev laid_parts : Call → Driver → Buffers × (Clients × Reception)
laid_parts c d = (laid c d.buffers, (attending c d.clients, d.reception))

of_parts : {c : Call} {d e : Driver} → parts e ≡ laid_parts c d → (T (within 63 68 (state_no e.state)) → e.state ≡ d.state)
    → (T (sending c) → tx_busy d ≡ false) → lending c || ending c ≡ false → Lays c d e
of_parts {c} q s t n =
    record {
      buffers = ap (λ x. x.0) q;
      clients = ap (λ x. x.1.0) q;
      reception = ap (λ x. x.1.1) q;
      state = s;
      room = λ t. absurd (rw (none_left (lending c) _ n) at t);
      unsent = t;
      ends_none = none_right (lending c) _ n;
    }

-- a call that lends no buffer, and neither ends a transfer nor offers one again; its state stays, or is another
lays : {c : Call} {d e : Driver} → parts e ≡ laid_parts c d → e.state ≡ d.state → sending c || (lending c || ending c) ≡ false → Lays c d e
lays {c} q s n =
    of_parts q (λ t. s) (λ t. absurd (rw (none_left (sending c) _ n) at t)) (none_right (sending c) _ n)

moves : {c : Call} {d e : Driver} → parts e ≡ laid_parts c d → within 63 68 (state_no e.state) ≡ false
    → sending c || (lending c || ending c) ≡ false
    → Lays c d e
moves {c} q s n =
    of_parts q (λ t. absurd (rw s at t)) (λ t. absurd (rw (none_left (sending c) _ n) at t)) (none_right (sending c) _ n)

-- a refusal leaves whatever a withdrawn stop leaves
pub left_keeps : {A : Type 0} (f : Driver → A) (c : Call) (n : ℕ) (d : Driver) → f (flagged sleep_pending false d) ≡ f d
    → f (left_by c n d) ≡ f d
left_keeps f c n d e = go (withdraws c n)
  where
    go : (w : Bool) → f (cond w (flagged sleep_pending false d) d) ≡ f d
    go true = e
    go false = refl

-- the numbers that a call may answer, `new` apart
abbrev pub of_call : ℕ → Bool
of_call n = leb n 14 || eqb n 22

-- on this driver, with this pool
pub record OfCalls (d : Driver) (p : List ℕ) (P : Call → Called → Type 0) : Type 0 where
  -- a refusal by any of a call's numbers, 1 to 14 and 22, that leaves the driver that it may
  pub refuses : (c : Call) (n : ℕ) (e : Driver) → T (of_call (answer_no (answer_of n))) → eqb (answer_no (answer_of n)) 0 ≡ false
      → e ≡ left_by c (answer_no (answer_of n)) d → P c (refusing n e p)
  -- a step that starts nothing, and the two register transfers, whatever the pool is then
  pub rests : (c : Call) (e : Driver) (q : List ℕ) → Lays c d e → P c (with_pool (quiet e (actions [])) q)
  pub reads : (c : Call) (x y : ℕ) (e : Driver) (q : List ℕ) → Lays c d e
      → P c (with_pool (step_of (register_transfer transfer.RegisterRead x y e) (actions [])) q)
  pub writes : (c : Call) (x y : ℕ) (e : Driver) (q : List ℕ) → Lays c d e
      → P c (with_pool (step_of (register_transfer transfer.RegisterWrite x y e) (actions [])) q)
  pub resets : (v : Bool) (e : Driver) (q : List ℕ) → Lays (reset v) d e → P (reset v) (with_pool (quiet e (actions reset_actions)) q)
  -- a completion of a driver value that refusal 12 does not describe
  pub completes : (xs q : List ℕ) → described d ≡ false → to_complete d.buffers ≡ true
      → P (complete xs) (with_pool (completed (arrived_of xs) d) q)
  -- a decline and a resume of one, likewise
  pub declines : described d ≡ false → to_complete d.buffers ≡ true → P declined (with_pool (quiet (decline.declines d) (actions [])) p)
  pub resumes : (q : List ℕ) → described d ≡ false → to_resume d.buffers ≡ true → P resume (with_pool (resumed d) q)

module _ (d : Driver) (p : List ℕ) (P : Call → Called → Type 0) (of : OfCalls d p P) where
  -- a step, its transfer's command bytes written
  abbrev Steps : Call → Outcome → Type 0
  Steps c o = P c (stepping o p)

  -- a call that takes no pool
  abbrev Alone : Call → Outcome → Type 0
  Alone c o = P c (with_pool o p)

  of_start : P start (start_call d p)
  unfolding start_call begin_start
  of_start =
      either (P start) _ _ _ (of.refuses start 12 d tt refl refl)
      (either (P start) _ _ _
      (either (Steps start) _ _ _ (of.reads start _ _ _ _ (moves refl refl refl)) (of.reads start _ _ _ _ (lays refl refl refl)))
      (of.refuses start 6 _ tt refl refl))

  of_stop : P stop (stop_call d p)
  unfolding stop_call begin_stop
  of_stop =
      either (P stop) _ _ _ (of.refuses stop 12 d tt refl refl)
      (either (P stop) _ _ _ (of.refuses stop 6 d tt refl refl)
      (either (Steps stop) _ _ _ (of.writes stop _ _ _ _ (moves refl refl refl)) (of.rests stop _ _ (lays refl refl refl))))

  of_commit : P commit (commit_call d p)
  unfolding commit_call begin_commit
  of_commit =
      either (P commit) _ _ _ (of.refuses commit 12 d tt refl refl)
      (either (Steps commit) _ _ _ (of.rests commit d _ (lays refl refl refl))
      (either (Steps commit) _ _ _
      (commit_by (Steps commit) _ (of.writes commit _ _ _ _ (moves refl refl refl)) (of.rests commit _ _ (lays refl refl refl)))
      (of.rests commit _ _ (lays refl refl refl))))

  of_fired : P fire (fired_call d p)
  unfolding fired_call handle_interrupt
  of_fired =
      either (P fire) _ _ _ (of.refuses fire 12 d tt refl refl)
      (either (Steps fire) _ _ _
      (either (Steps fire) _ _ _ (of.writes fire _ _ _ _ (moves refl refl refl)) (of.reads fire _ _ _ _ (lays refl refl refl)))
      (of.rests fire _ _ (lays refl refl refl)))

  of_completion : (xs : List ℕ) → P (complete xs) (completion_call d xs p)
  unfolding completion_call completing
  of_completion xs =
      let c = complete xs in
      branch (P c) (pool_fault d p) _ _ (λ t. of.refuses c 12 d tt refl refl)
      (λ t. branch (P c) (not (to_complete d.buffers)) _ _ (λ i. of.refuses c 11 d tt refl refl)
      (λ i. either (P c) _ _ _ (of.refuses c 13 d tt refl refl)
      (of.completes xs _ (driver_right d p (is_false (pool_fault d p) t))
      (not-false (to_complete d.buffers) (is_false (not (to_complete d.buffers)) i)))))

  of_declined : P declined (declined_call d p)
  unfolding declined_call
  of_declined =
      branch (P declined) (pool_fault d p) _ _ (λ t. of.refuses declined 12 d tt refl refl)
      (λ t. branch (P declined) (not (to_complete d.buffers)) _ _ (λ i. of.refuses declined 11 d tt refl refl)
      (λ i. of.declines (driver_right d p (is_false (pool_fault d p) t))
      (not-false (to_complete d.buffers) (is_false (not (to_complete d.buffers)) i))))

  of_resume : P resume (resume_call d p)
  unfolding resume_call
  of_resume =
      branch (P resume) (pool_fault d p) _ _ (λ t. of.refuses resume 12 d tt refl refl)
      (λ t. branch (P resume) (not (to_resume d.buffers)) _ _ (λ i. of.refuses resume 22 d tt refl refl)
      (λ i. of.resumes _ (driver_right d p (is_false (pool_fault d p) t))
      (not-false (to_resume d.buffers) (is_false (not (to_resume d.buffers)) i))))

  of_transmit : (b l n : ℕ) → P (transmit b l n) (transmit_call d b l n p)
  unfolding transmit_call begin_transmit
  of_transmit b l n =
      let c = transmit b l n in
      either (P c) _ _ _ (of.refuses c 12 d tt refl refl)
      (either (P c) _ _ _ (of.refuses c 7 d tt refl refl)
      (either (P c) _ _ _ (of.refuses c 1 d tt refl refl)
      (branch (P c) (tx_busy d) _ _ (λ t. of.refuses c 2 d tt refl refl)
      (λ t. let unsent : T (sending c) → tx_busy d ≡ false = λ s. is_false (tx_busy d) t in
      either (P c) _ _ _ (of.refuses c 3 d tt refl refl)
      (either (P c) _ _ _ (of.refuses c 4 d tt refl refl)
      (either (P c) _ _ _ (of.refuses c 8 d tt refl refl)
      (either (λ o. P c (stepping o (set p (start_of b + 1) (n + 2)))) _ _ _
      (of.reads c _ _ _ _ (of_parts refl (λ s. absurd s) unsent refl))
      (of.rests c _ _ (of_parts refl (λ s. refl) unsent refl)))))))))

  of_receive_buffer : (b l : ℕ) → Alone (receive_buffer b l) (receive_buffer_call d b l)
  unfolding receive_buffer_call
  of_receive_buffer b l =
      let c = receive_buffer b l in
      either (Alone c) _ _ _ (of.refuses c 7 d tt refl refl)
      (either (Alone c) _ _ _ (of.refuses c 9 d tt refl refl)
      (branch (Alone c) (rx_full d) _ _ (λ t. of.refuses c 10 d tt refl refl)
      (λ t. either (Alone c) _ _ _ (of.refuses c 8 d tt refl refl)
      (of.rests c _ _ (record {
        buffers = refl;
        clients = refl;
        reception = refl;
        state = λ s. refl;
        room = λ r. is_false (rx_full d) t;
        unsent = λ r. absurd r;
        ends_none = refl;
      })))))

  pub every_call : (c : Call) → P c (made d c p)
  unfolding made reset_call set_power set_channel
  every_call start = of_start
  every_call stop = of_stop
  every_call commit = of_commit
  every_call fire = of_fired
  every_call query = of.rests query d _ (lays refl refl refl)
  every_call declined = of_declined
  every_call resume = of_resume
  every_call (complete xs) = of_completion xs
  every_call (transmit b l n) = of_transmit b l n
  every_call (receive_buffer b l) = of_receive_buffer b l
  every_call (reset v) =
      either (Alone (reset v)) _ _ _ (of.resets v _ _ (lays refl refl refl)) (of.refuses (reset v) 14 d tt refl refl)
  every_call (address a) = of.rests (address a) _ _ (lays refl refl refl)
  every_call (pan a) = of.rests (pan a) _ _ (lays refl refl refl)
  every_call (channel c) =
      either (Alone (channel c)) _ _ _ (of.rests (channel c) _ _ (lays refl refl refl)) (of.refuses (channel c) 5 d tt refl refl)
  every_call (address_long l) = of.rests (address_long l) _ _ (lays refl refl refl)
  every_call (power t) =
      either (Alone (power t)) _ _ _ (of.rests (power t) _ _ (lays refl refl refl)) (of.refuses (power t) 5 d tt refl refl)
  every_call (listener x v) = of.rests (listener x v) _ _ (lays refl refl refl)
