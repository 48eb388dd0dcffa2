-- Demand 1: any call gets an answer, and one that is turned down starts no transfer, has no action, and alters neither driver nor pool,
-- save that `start`'s ALREADY (6) withdraws a waiting stop. It is said of the calls of Calls.antt, as demand 3 is, so that a new call joins
-- both. And refusal 8's purpose: a buffer that the driver has is not lent again.
use Rattle.std.specs.Prelude.{◌≡◌, ℕ, Bool, true, false, cond, T, List, [], ◌∷◌, ◌==◌, ◌≢◌, None}
use Rattle.rf233.specs.Action.{actions}
use Rattle.rf233.specs.Answer.{answer_no, refused}
use Rattle.rf233.specs.Choice.{one_of}
use Rattle.rf233.specs.Create.{new_driver, new_call}
use Rattle.rf233.specs.Driver.{flagged}
use Rattle.rf233.specs.Driver.Flag.{sleep_pending}
use Rattle.rf233.specs.Guard.{Called}
use Rattle.rf233.specs.Record.{record_has}
use Rattle.rf233.specs.declared.driver.Driver.{Driver}
use Rattle.rf233.specs.Calls.{Call, made}
use Rattle.rf233.specs.Calls.Call.{
  start,
  stop,
  commit,
  fire,
  query,
  declined,
  resume,
  complete,
  transmit,
  receive_buffer,
  reset,
  address,
  pan,
  channel,
  address_long,
  power,
  listener,
}

-- a refusal of this number withdraws a waiting stop
abbrev pub withdraws : Call → ℕ → Bool
withdraws start n = n == 6
withdraws stop n = false
withdraws commit n = false
withdraws fire n = false
withdraws query n = false
withdraws declined n = false
withdraws resume n = false
withdraws (complete xs) n = false
withdraws (transmit b l k) n = false
withdraws (receive_buffer b l) n = false
withdraws (reset v) n = false
withdraws (address a) n = false
withdraws (pan a) n = false
withdraws (channel c) n = false
withdraws (address_long l) n = false
withdraws (power t) n = false
withdraws (listener x v) n = false

-- the driver that it leaves
abbrev pub left_by : Call → ℕ → Driver → Driver
left_by c n d = cond (withdraws c n) (flagged sleep_pending false d) d

-- what a call yields that is turned down: no transfer, no action, the driver e, the pool p
pub record TurnedDown (t : Called) (e : Driver) (p : List ℕ) : Type 0 where
  pub transfer : t.outcome.reply.transfer ≡ None
  pub actions : t.outcome.reply.actions ≡ actions []
  pub driver : t.outcome.driver ≡ e
  pub pool : t.pool ≡ p

-- the number of a call's answer
abbrev pub answered : Called → ℕ
answered t = answer_no t.outcome.reply.answer

-- demand 1, of every driver value, call, argument and pool
abbrev pub RefusedAltersNothing : Type 0
RefusedAltersNothing =
    (d : Driver) (c : Call) (p : List ℕ) → (answered (made d c p) ≢ 0)
    → TurnedDown (made d c p) (left_by c (answered (made d c p)) d) p

-- and of `new`, which has no driver and no pool to alter: what it refuses is 15, with the driver of 129 and channel 26 beside it
abbrev pub RefusedNew : Type 0
RefusedNew = (l c : ℕ) → (answer_no (new_call l c).reply.answer ≢ 0) → new_call l c ≡ refused 15 (new_driver 129 26)

-- a buffer that the driver has is not lent again, whatever the driver value, the lengths and the pool: the answer is one of the call's
-- refusals, in document 01's order, of which 8 is the last
abbrev pub HeldIsRefused : Type 0
HeldIsRefused =
    (d : Driver) (b l : ℕ) (p : List ℕ) → record_has d.buffers b ≡ true
    → ((n : ℕ) → T (one_of (12 ∷ 7 ∷ 1 ∷ 2 ∷ 3 ∷ 4 ∷ 8 ∷ []) (answered (made d (transmit b l n) p))))
    × T (one_of (7 ∷ 9 ∷ 10 ∷ 8 ∷ []) (answered (made d (receive_buffer b l) p)))
