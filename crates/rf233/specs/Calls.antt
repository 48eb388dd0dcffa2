-- The calls of demands 1 and 3 as values, with their arguments, and what each yields: the definition that the public call promises (Config,
-- Data, Kernel, Listeners). A new call joins here, and with it every claim over calls.
use Rattle.std.specs.Prelude.{ℕ, Bool, true, false, List, [], ℤ}
use Rattle.rf233.specs.Action.{actions}
use Rattle.rf233.specs.Config.{start_call, stop_call, commit_call, reset_call, set_address, set_address_long, set_pan, set_power}
use Rattle.rf233.specs.Config.{set_channel}
use Rattle.rf233.specs.Data.{transmit_call, receive_buffer_call}
use Rattle.rf233.specs.Guard.{Called}
use Rattle.rf233.specs.Kernel.{fired_call, completion_call, declined_call, resume_call}
use Rattle.rf233.specs.Listeners.{set_client}
use Rattle.rf233.specs.Step.{quiet}
use Rattle.rf233.specs.declared.answer.Outcome.{Outcome}
use Rattle.rf233.specs.declared.driver.Client.{Client}
use Rattle.rf233.specs.declared.driver.Driver.{Driver}

-- a call, with its arguments; `query` stands for `initialize` and the methods that only read
pub data Call : Type 0 where
  start stop commit fire query declined resume : Call
  complete : List ℕ → Call
  transmit : ℕ → ℕ → ℕ → Call
  receive_buffer : ℕ → ℕ → Call
  reset : Bool → Call
  address pan channel : ℕ → Call
  address_long : List ℕ → Call
  power : ℤ → Call
  listener : Client → Bool → Call

-- what was yielded, with this pool after it
abbrev pub with_pool : Outcome → List ℕ → Called
with_pool o p = record { outcome = o; pool = p }

-- a call made on a driver, with this pool: what it yields, and the pool after it
unfoldable pub made : Driver → Call → List ℕ → Called
made d start p = start_call d p
made d stop p = stop_call d p
made d commit p = commit_call d p
made d fire p = fired_call d p
made d declined p = declined_call d p
made d resume p = resume_call d p
made d query p = with_pool (quiet d (actions [])) p
made d (complete xs) p = completion_call d xs p
made d (transmit b l n) p = transmit_call d b l n p
made d (receive_buffer b l) p = with_pool (receive_buffer_call d b l) p
made d (reset v) p = with_pool (reset_call d v) p
made d (address a) p = with_pool (quiet (set_address d a) (actions [])) p
made d (pan a) p = with_pool (quiet (set_pan d a) (actions [])) p
made d (channel c) p = with_pool (set_channel d c) p
made d (address_long l) p = with_pool (quiet (set_address_long d l) (actions [])) p
made d (power t) p = with_pool (set_power d t) p
made d (listener x v) p = with_pool (quiet (set_client x d v) (actions [])) p

-- what it yields
abbrev pub yields : Driver → Call → List ℕ → Outcome
yields d c p = (made d c p).outcome

-- a call ends a transfer, or offers one again: a completion, a decline, a resume
abbrev pub ending : Call → Bool
ending start = false
ending stop = false
ending commit = false
ending fire = false
ending query = false
ending declined = true
ending resume = true
ending (complete xs) = true
ending (transmit b l n) = false
ending (receive_buffer b l) = false
ending (reset v) = false
ending (address a) = false
ending (pan a) = false
ending (channel c) = false
ending (address_long l) = false
ending (power t) = false
ending (listener x v) = false
