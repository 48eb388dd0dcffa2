-- `pool_unread`: what a call yields, answer, transfer, actions and driver, depends on the pool by its length alone, which refusal 12 asks.
-- Two pools of one length go through the same choices. Assumes nothing.
use mathlib.Core.Path.{◌≡◌, refl}
use mathlib.Core.Bool.{Bool, true, false}
use mathlib.Core.List.{List}
use Prim.Native.Nat.{ℕ}
use lib.ListN.{length}
use Rattle.rf233.specs.Calls.{Call, made, yields}
use Rattle.rf233.specs.Calls.Call.{
  start,
  stop,
  commit,
  fire,
  query,
  complete,
  transmit,
  receive_buffer,
  reset,
  address,
  pan,
  channel,
  address_long,
  power,
  listener,
  declined,
  resume,
}
use Rattle.rf233.specs.Choice.{pick}
use Rattle.rf233.specs.Config.{start_call, stop_call, commit_call}
use Rattle.rf233.specs.Data.{transmit_call}
use Rattle.rf233.specs.Guard.{Called, guarded, refusing}
use Rattle.rf233.specs.Kernel.{completing, completion_call, fired_call, declined_call, resume_call}
use Rattle.rf233.specs.declared.driver.Driver.{Driver}

-- the same but for the pool
abbrev Same : Called → Called → Type 0
Same a b = a.outcome ≡ b.outcome

-- two choices by one test
both : (t : Bool) (a a' b b' : Called) → Same a a' → Same b b' → Same (pick t a b) (pick t a' b')
unfolding pick
both true a a' b b' x y = x
both false a a' b b' x y = y

module _ (d : Driver) (p q : List ℕ) (e : length p ≡ length q) where
  guards : (a b : Called) → Same a b → Same (guarded d p a) (guarded d q b)
  guards a b x = rw e (both _ (refusing 12 d p) (refusing 12 d q) a b refl x)

  same_start : Same (start_call d p) (start_call d q)
  unfolding start_call
  same_start = guards _ _ (both _ _ _ _ _ refl refl)

  same_stop : Same (stop_call d p) (stop_call d q)
  unfolding stop_call
  same_stop = guards _ _ (both _ _ _ _ _ refl refl)

  same_commit : Same (commit_call d p) (commit_call d q)
  unfolding commit_call
  same_commit = guards _ _ refl

  same_fire : Same (fired_call d p) (fired_call d q)
  unfolding fired_call
  same_fire = guards _ _ refl

  same_completion : (xs : List ℕ) → Same (completion_call d xs p) (completion_call d xs q)
  unfolding completion_call completing
  same_completion xs = guards _ _ (both _ _ _ _ _ refl (both _ _ _ _ _ refl refl))

  same_declined : Same (declined_call d p) (declined_call d q)
  unfolding declined_call
  same_declined = guards _ _ (both _ _ _ _ _ refl refl)

  same_resume : Same (resume_call d p) (resume_call d q)
  unfolding resume_call
  same_resume = guards _ _ (both _ _ _ _ _ refl refl)

  same_transmit : (b l n : ℕ) → Same (transmit_call d b l n p) (transmit_call d b l n q)
  unfolding transmit_call
  same_transmit b l n =
      guards _ _ (both _ _ _ _ _ refl (both _ _ _ _ _ refl (both _ _ _ _ _ refl (both _ _ _ _ _ refl (both _ _ _ _ _ refl
      (both _ _ _ _ _ refl refl))))))

  same_yield : (c : Call) → yields d c p ≡ yields d c q
  unfolding made
  same_yield start = same_start
  same_yield stop = same_stop
  same_yield commit = same_commit
  same_yield fire = same_fire
  same_yield query = refl
  same_yield declined = same_declined
  same_yield resume = same_resume
  same_yield (complete xs) = same_completion xs
  same_yield (transmit b l n) = same_transmit b l n
  same_yield (receive_buffer b l) = refl
  same_yield (reset v) = refl
  same_yield (address a) = refl
  same_yield (pan a) = refl
  same_yield (channel c) = refl
  same_yield (address_long l) = refl
  same_yield (power t) = refl
  same_yield (listener x v) = refl

pub pool_unread : (d : Driver) (c : Call) (p q : List ℕ) → length p ≡ length q → yields d c p ≡ yields d c q
pool_unread d c p q e = same_yield d p q e c
