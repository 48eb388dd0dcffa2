-- What any call but a completion, a decline and a resume does while a transfer waits: `while_waiting` of specs/DeclineClaim.antt. Each of
-- the call's tests has the same outcome as with the transfer under way, and each of its ends there is the waiting form of the end here; a
-- starter finds none free either way (`asks_same`). Assumes nothing.
use Rattle.std.proofs.Common.{◌≡◌, ℕ, Bool, true, false, not, ◌||◌, ◌&&◌, ◌+◌, T, eqb, leb, ltb, List, [], ◌∷◌, Option, None, Some, refl}
use Rattle.std.proofs.Common.{sym, ap, ◌∙◌, arith, length, ◌<◌}
use Rattle.std.specs.Prelude.{is_some}
use borrow.Author.Tests.{leb-false, not-false, ne_eqb, ltb-false}
use mathlib.Core.Bool.{or-true}
use Rattle.rf233.specs.Action.{actions}
use Rattle.rf233.specs.Answer.{refused}
use Rattle.rf233.specs.Calls.{Call, ending, made, with_pool}
use Rattle.rf233.specs.Calls.Call.{
  start,
  stop,
  commit,
  fire,
  query,
  declined,
  resume,
  complete,
  transmit,
  receive_buffer,
  reset,
  address,
  pan,
  channel,
  address_long,
  power,
  listener,
}
use Rattle.rf233.specs.Choice.{pick}
use Rattle.rf233.specs.Commit.{start_commit}
use Rattle.rf233.specs.Completion.{places_back}
use Rattle.rf233.specs.Config.{begin_commit, begin_start, begin_stop, commit_call, reset_call, set_channel, set_power, start_call}
use Rattle.rf233.specs.Config.{stop_call, set_address, set_pan, set_address_long}
use Rattle.rf233.specs.Data.{begin_transmit, receive_buffer_call, rx_full, transmit_call, tx_busy}
use Rattle.rf233.specs.Decline.{declines, waiting}
use Rattle.rf233.specs.DeclineClaim.{WhileWaiting, waiting_form}
use Rattle.rf233.specs.Described.{described, receive_bad, is_above, tx_length_bad}
use Rattle.rf233.specs.Driver.{with_under, with_buffers, with_tx, with_tx_len, with_line, with_state, flagged, with_settings, with_channel}
use Rattle.rf233.specs.Driver.{with_tx_power}
use Rattle.rf233.specs.Driver.Flag.{interrupt_pending, sleep_pending, config_pending, transmitting, radio_on, wake_pending}
use Rattle.rf233.specs.Guard.{Called, guarded, pool_fault, refusing, stepping}
use Rattle.rf233.specs.Interrupt.{handle_interrupt}
use Rattle.rf233.specs.Kernel.{fired_call}
use Rattle.rf233.specs.Line.{append, line, line_of, line_room, listed, names}
use Rattle.rf233.specs.Listeners.{set_client}
use Rattle.rf233.specs.Record.{count_of, lent, one, own_has, receive_count, record_has, rx_under_way, slot_has, times, tx_under_way}
use Rattle.rf233.specs.Record.{under_has}
use Rattle.rf233.specs.Starter.{refrains, register_transfer}
use Rattle.rf233.specs.Step.{quiet, step_of}
use Rattle.rf233.specs.Transfer.{free_to_start, to_complete, under_way, waits}
use Rattle.rf233.specs.declared.answer.Outcome.{Outcome}
use Rattle.rf233.specs.declared.driver.Buffers.{Buffers}
use Rattle.rf233.specs.declared.driver.Driver.{Driver}
use Rattle.rf233.specs.declared.driver.Lent.{Lent}
use Rattle.rf233.specs.declared.driver.Under.{Under}
use Rattle.rf233.specs.declared.driver.Under.TheVariants.{Idle, Register, FrameRead, FrameWrite, Waits}
use Rattle.rf233.specs.declared.state.InternalState.TheVariants.{SLEEP_TRX_OFF, SLEEP_WAKE, TX_STATUS_PRECHECK1}
use Rattle.rf233.specs.declared.transfer.TransferKind.{TransferKind}
use Rattle.laws.proofs.Logic.{clash, none_left, none_right}
use Rattle.rf233.proofs.ChoiceLaws.{branch, either}
use Rattle.rf233.proofs.CommitLaws.{commit_waits}
use Rattle.rf233.proofs.DeclinedFit.{Asked, twelve_asks, waiting_fit}
use Rattle.rf233.proofs.DeclinedThenResumed.{no_buffer}
use Rattle.rf233.proofs.LineLaws.{length_append, listed_is}
use Rattle.rf233.proofs.OwnBuffers.{found_none, register_refrains, of_three, of_two, of_first}

-- a step with the driver that it leaves in its waiting form
abbrev form : Outcome → Outcome
form o = record o { driver = declines o.driver }

-- two ends of a call: the one while the transfer waits is the waiting form of the other, which begins nothing
record Same (c e : Called) : Type 0 where
  form_is : c ≡ waiting_form e
  quietly : e.outcome.reply.transfer ≡ None

-- two steps likewise
record SameStep (o q : Outcome) : Type 0 where
  form_is : o ≡ form q
  quietly : q.reply.transfer ≡ None

-- the same test leads to the same of two ends
chosen : (t : Bool) {a b c e : Called} → Same a c → Same b e → Same (pick t a b) (pick t c e)
unfolding pick
chosen true x y = x
chosen false x y = y

chosen_step : (t : Bool) {a b c e : Outcome} → SameStep a c → SameStep b e → SameStep (pick t a b) (pick t c e)
unfolding pick
chosen_step true x y = x
chosen_step false x y = y

-- where it is known how it comes out
by_test : (t : Bool) {a b c e : Called} → Same a c → (t ≡ false → Same b e) → Same (pick t a b) (pick t c e)
unfolding pick
by_test true x y = x
by_test false x y = y refl

by_test_step : (t : Bool) {a b c e : Outcome} → SameStep a c → (t ≡ false → SameStep b e) → SameStep (pick t a b) (pick t c e)
unfolding pick
by_test_step true x y = x
by_test_step false x y = y refl

-- a step that begins nothing, its command bytes not written
stepped : {o q : Outcome} (p : List ℕ) → SameStep o q → Same (stepping o p) (stepping q p)
stepped {o} {q} p s =
    record { form_is = ap (λ o. stepping o p) s.form_is; quietly = s.quietly }

alone : {o q : Outcome} (p : List ℕ) → SameStep o q → Same (with_pool o p) (with_pool q p)
alone {o} {q} p s = record { form_is = ap (λ o. with_pool o p) s.form_is; quietly = s.quietly }

-- quiet steps and refusals of a driver and of its waiting form
rests : (d : Driver) → SameStep (quiet (declines d) (actions [])) (quiet d (actions []))
rests d = record { form_is = refl; quietly = refl }

turned : (n : ℕ) (d : Driver) (p : List ℕ) → Same (refusing n (declines d) p) (refusing n d p)
turned n d p = record { form_is = refl; quietly = refl }

turned_step : (n : ℕ) (d : Driver) → SameStep (refused n (declines d)) (refused n d)
turned_step n d = record { form_is = refl; quietly = refl }

-- ---- what a starter finds

not_free : (u : Under) → under_way u ≡ true
    → (not (under_way u || waits u) ≡ false) × (not (under_way (waiting u) || waits (waiting u)) ≡ false)
not_free u i = grind arith

-- a register transfer that is asked for begins in neither
asks_same : (d : Driver) → to_complete d.buffers ≡ true → (k : TransferKind) (x y : ℕ)
    → SameStep (step_of (register_transfer k x y (declines d)) (actions [])) (step_of (register_transfer k x y d) (actions []))
asks_same d i k x y =
    let f = not_free d.buffers.under i in
    rw (
      register_refrains d k x y f.0,
      register_refrains (declines d) k x y f.1,
      found_none d.buffers.under,
      found_none (waiting d.buffers.under),
    ) (rests d)

commit_same : (d : Driver) → to_complete d.buffers ≡ true → SameStep (start_commit (declines d)) (start_commit d)
commit_same d i =
    let f = not_free d.buffers.under i in
    rw (commit_waits d f.0, commit_waits (declines d) f.1) (rests d)

fires_same : (d : Driver) → to_complete d.buffers ≡ true → SameStep (handle_interrupt (declines d)) (handle_interrupt d)
unfolding handle_interrupt pick
fires_same d i = let f = not_free d.buffers.under i in rw (f.0, f.1) (rests (flagged interrupt_pending true d))

-- ---- what lending asks of the record

module _ (d : Driver) (e : described d ≡ false) (i : to_complete d.buffers ≡ true) where
  abbrev b : Buffers
  b = d.buffers

  -- 12 describes neither
  guards : (p : List ℕ) {x y : Called} → Same x y → Same (guarded (declines d) p x) (guarded d p y)
  guards p s = rw (waiting_fit d e i, e) (chosen _ (turned 12 d p) s)

  abbrev parked : Under → Buffers
  parked u = with_under (waiting u) (places_back u b)

  -- a frame read's buffer has its place in the line
  there : (x : Lent) → Asked (FrameRead x) d → listed (line_of (x ∷ line b)) ≡ x ∷ line b
  there x a =
      let l = line b in
      let full = leb line_room (length l) in
      let room = leb-false line_room (length l) (none_left full _ (none_right d.flags.interrupt_handling _ a.frame)) in
      listed_is (x ∷ l) (omega (arith, room))

  -- a client's buffer is none of the own ones
  low_read : (x : Lent) → Asked (FrameRead x) d → eqb 18 x.buffer ≡ false
  low_read x a =
      let full = leb line_room (length (line b)) in
      let bad = none_left (receive_bad x) _ (none_right full _ (none_right d.flags.interrupt_handling _ a.frame)) in
      ne_eqb 18 x.buffer (λ q. omega (arith, q, ltb-false 15 x.buffer (none_left (is_above x) _ bad)))

  low_write : (x : Lent) → Asked (FrameWrite x) d → eqb 18 x.buffer ≡ false
  low_write x a =
      let f = none_right (is_some b.tx_buf) _ (none_right d.flags.interrupt_handling _ a.frame) in
      let bad = none_left (is_above x || tx_length_bad (Some x) b.tx_len) _ f in
      ne_eqb 18 x.buffer (λ q. omega (arith, q, ltb-false 15 x.buffer (none_left (is_above x) _ bad)))

  -- each buffer is recorded as often
  count_same : (u : Under) → under_way u ≡ true → Asked u d → (k : ℕ) → count_of (parked u) k ≡ count_of (with_under u b) k
  unfolding count_of
  count_same Register j a k =
      let t = none_left b.spi_tx _ a.own in
      let rest = none_right b.spi_tx _ a.own in
      let r = none_left b.spi_rx _ rest in
      let s = not-false b.spi_buf (none_right b.spi_rx _ rest) in
      rw (t, r, s) (omega (arith, of_three k, of_two 16 17 k refl))
  count_same (FrameRead x) j a k =
      let s = none_left b.spi_buf _ a.own in
      let rest = none_right b.spi_buf _ a.own in
      let t = not-false b.spi_tx (none_left (not b.spi_tx) _ rest) in
      let r = not-false b.spi_rx (none_right (not b.spi_tx) _ rest) in
      rw (there x a, t, r, s) (omega (arith, of_three k, of_first k, of_two 18 x.buffer k (low_read x a)))
  count_same (FrameWrite x) j a k =
      let s = none_left b.spi_buf _ a.own in
      let rest = none_right b.spi_buf _ a.own in
      let t = not-false b.spi_tx (none_left (not b.spi_tx) _ rest) in
      let r = not-false b.spi_rx (none_right (not b.spi_tx) _ rest) in
      let n = none_left (is_some b.tx_buf) _ (none_right d.flags.interrupt_handling _ a.frame) in
      rw (no_buffer b.tx_buf n, t, r, s) (omega (arith, of_three k, of_first k, of_two 18 x.buffer k (low_write x a)))
  count_same Idle j a k = clash false refl j
  count_same (Waits o) j a k = clash false refl j

  has_same : (k : ℕ) → record_has (declines d).buffers k ≡ record_has b k
  has_same k = ap (ltb 0) (count_same b.under i (twelve_asks d e) k)

  -- a frame write that waits has its buffer in the transmit place, a frame read in the line
  busy_same : tx_busy (declines d) ≡ tx_busy d
  busy_same = go b.under i
    where
      go : (u : Under) → under_way u ≡ true
          → is_some (parked u).tx_buf || (is_some (tx_under_way (waiting u)) || d.flags.transmitting)
          ≡ is_some b.tx_buf || (is_some (tx_under_way u) || d.flags.transmitting)
      go Register j = refl
      go (FrameRead x) j = refl
      go (FrameWrite x) j = sym (or-true (is_some b.tx_buf))
      go Idle j = clash false refl j
      go (Waits o) j = clash false refl j

  receives_same : (u : Under) → under_way u ≡ true → Asked u d → receive_count (parked u) ≡ receive_count (with_under u b)
  receives_same Register j a = refl
  receives_same (FrameRead x) j a = rw (there x a) (omega arith)
  receives_same (FrameWrite x) j a = refl
  receives_same Idle j a = clash false refl j
  receives_same (Waits o) j a = clash false refl j

  full_same : rx_full (declines d) ≡ rx_full d
  full_same = ap (leb line_room) (receives_same b.under i (twelve_asks d e))

  -- ---- the calls

  -- a buffer laid in the transmit place, where no frame write has one
  laid_tx : (s : Option Lent) (n : ℕ) → is_some (tx_under_way b.under) ≡ false
      → with_tx_len n (with_tx s (declines d).buffers) ≡ (declines (with_buffers (with_tx_len n (with_tx s b)) d)).buffers
  laid_tx s n t = go b.under i t
    where
      go : (u : Under) → under_way u ≡ true → is_some (tx_under_way u) ≡ false
          → with_tx_len n (with_tx s (parked u)) ≡ with_under (waiting u) (places_back u (with_tx_len n (with_tx s b)))
      go Register j t = refl
      go (FrameRead x) j t = refl
      go (FrameWrite x) j t = clash true t refl
      go Idle j t = clash false refl j
      go (Waits o) j t = clash false refl j

  -- and one at the end of the line, where there is room
  laid_rx : (y : Lent) → leb line_room (receive_count b) ≡ false
      → with_line (append (line (declines d).buffers) y) (declines d).buffers
      ≡ (declines (with_buffers (with_line (append (line b) y) b) d)).buffers
  laid_rx y f = go b.under i (twelve_asks d e) (leb-false line_room (receive_count b) f)
    where
      go : (u : Under) → under_way u ≡ true → Asked u d → length (line b) + one (is_some (rx_under_way u)) < line_room
          → with_line (append (line (parked u)) y) (parked u)
          ≡ with_under (waiting u) (places_back u (with_line (append (line b) y) b))
      go Register j a h = refl
      go (FrameRead x) j a h =
          let l = line b in
          rw (there x a, listed_is (append l y) (omega (arith, length_append l y, h))) refl
      go (FrameWrite x) j a h = refl
      go Idle j a h = clash false refl j
      go (Waits o) j a h = clash false refl j

  start_same : (p : List ℕ) → Same (start_call (declines d) p) (start_call d p)
  unfolding start_call begin_start
  start_same p =
      let a = flagged sleep_pending false d in
      guards p (chosen _ (stepped p (chosen_step _ (asks_same (with_state SLEEP_WAKE a) i _ _ _)
      (asks_same (flagged wake_pending true a) i _ _ _))) (turned 6 a p))

  stop_same : (p : List ℕ) → Same (stop_call (declines d) p) (stop_call d p)
  unfolding stop_call begin_stop
  stop_same p =
      guards p (chosen _ (turned 6 d p) (stepped p (chosen_step _ (asks_same (with_state SLEEP_TRX_OFF (flagged radio_on false d)) i _ _ _)
      (rests (flagged sleep_pending true d)))))

  commit_call_same : (p : List ℕ) → Same (commit_call (declines d) p) (commit_call d p)
  unfolding commit_call begin_commit
  commit_call_same p =
      let a = flagged config_pending true d in
      guards p (stepped p (chosen_step _ (rests d) (chosen_step _ (commit_same a i) (rests a))))

  fire_same : (p : List ℕ) → Same (fired_call (declines d) p) (fired_call d p)
  unfolding fired_call
  fire_same p = guards p (stepped p (fires_same d i))

  begin_same : (c l n : ℕ) → tx_busy d ≡ false → SameStep (begin_transmit (declines d) c l n) (begin_transmit d c l n)
  unfolding begin_transmit
  begin_same c l n f =
      let none = none_left (is_some (tx_under_way b.under)) _ (none_right (is_some b.tx_buf) _ f) in
      let a = flagged transmitting true (with_buffers (with_tx_len (n + 2) (with_tx (Some (lent c l)) b)) d) in
      rw (laid_tx (Some (lent c l)) (n + 2) none) (chosen_step _ (asks_same (with_state TX_STATUS_PRECHECK1 a) i _ _ _) (rests a))

  transmit_same : (c l n : ℕ) (p : List ℕ) → Same (transmit_call (declines d) c l n p) (transmit_call d c l n p)
  unfolding transmit_call
  transmit_same c l n p =
      guards p (chosen _ (turned 7 d p) (chosen _ (turned 1 d p) (rw busy_same (by_test (tx_busy d) (turned 2 d p)
      (λ f. chosen _ (turned 3 d p) (chosen _ (turned 4 d p) (rw (has_same c) (chosen _ (turned 8 d p)
      (stepped _ (begin_same c l n f))))))))))

  receive_same : (c l : ℕ) → SameStep (receive_buffer_call (declines d) c l) (receive_buffer_call d c l)
  unfolding receive_buffer_call
  receive_same c l =
      chosen_step _ (turned_step 7 d) (chosen_step _ (turned_step 9 d) (rw full_same (by_test_step (rx_full d) (turned_step 10 d)
      (λ f. rw (has_same c) (chosen_step _ (turned_step 8 d)
      (rw (laid_rx (lent c l) f) (rests (with_buffers (with_line (append (line b) (lent c l)) b) d))))))))

  any_same : (c : Call) (p : List ℕ) → ending c ≡ false → Same (made (declines d) c p) (made d c p)
  unfolding made reset_call set_power set_channel
  any_same start p n = start_same p
  any_same stop p n = stop_same p
  any_same commit p n = commit_call_same p
  any_same fire p n = fire_same p
  any_same query p n = alone p (rests d)
  any_same declined p n = clash true n refl
  any_same resume p n = clash true n refl
  any_same (complete xs) p n = clash true n refl
  any_same (transmit c l k) p n = transmit_same c l k p
  any_same (receive_buffer c l) p n = alone p (receive_same c l)
  any_same (reset v) p n = alone p (chosen_step v (record { form_is = refl; quietly = refl }) (turned_step 14 d))
  any_same (address a) p n = alone p (rests (set_address d a))
  any_same (pan a) p n = alone p (rests (set_pan d a))
  any_same (channel c) p n = alone p (chosen_step _ (rests (with_settings (with_channel c d.settings) d)) (turned_step 5 d))
  any_same (address_long l) p n = alone p (rests (set_address_long d l))
  any_same (power t) p n = alone p (chosen_step _ (rests (with_settings (with_tx_power t d.settings) d)) (turned_step 5 d))
  any_same (listener x v) p n = alone p (rests (set_client x d v))

pub while_waiting : WhileWaiting
while_waiting d c p e i n = let s = any_same d e i c p n in (s.form_is, s.quietly)
