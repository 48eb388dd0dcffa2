-- Demand 1, `refused_alters_nothing`: each call ends in a refusal that leaves everything as it is or in a step whose answer is 0
-- (`every_call`). And a buffer that the driver has is not lent again: `held_is_refused`, by the orders of the refusals. Assumes nothing.
use Rattle.std.proofs.Common.{◌≡◌, ℕ, true, T, List, [], ◌∷◌, refl, ap}
use Rattle.rf233.specs.Answer.{answer_no, refused}
use Rattle.rf233.specs.Choice.{one_of}
use Rattle.rf233.specs.Create.{new_driver, new_call}
use Rattle.rf233.specs.Data.{transmit_call, receive_buffer_call}
use Rattle.rf233.specs.Guard.{Called}
use Rattle.rf233.specs.Record.{record_has}
use Rattle.rf233.specs.declared.answer.Outcome.{Outcome}
use Rattle.rf233.specs.declared.driver.Driver.{Driver}
use Rattle.rf233.proofs.Accepted.{IsDone, done_completed}
use Rattle.rf233.proofs.ChoiceLaws.{branch, either}
use Rattle.rf233.specs.Calls.{Call, made, with_pool}
use Rattle.rf233.specs.Calls.Call.{complete, reset, declined, resume}
use Rattle.rf233.specs.Refusal.{TurnedDown, left_by, answered, RefusedAltersNothing, RefusedNew, HeldIsRefused}
use Rattle.rf233.specs.Arrived.{arrived_of}
use Rattle.rf233.proofs.EveryCall.{every_call}

module _ (d : Driver) (p : List ℕ) where
  -- what is claimed of a call that yields t
  abbrev Claimed : Call → Called → Type 0
  Claimed c t = (answered t ≡ 0 → ⊥) → TurnedDown t (left_by c (answered t) d) p

  -- a step that is done
  done : (c : Call) (t : Called) → IsDone t.outcome → Claimed c t
  done c t e h = absurd (h (ap answer_no e))

  claimed : (c : Call) → Claimed c (made d c p)
  claimed =
      every_call d p Claimed (record {
        refuses = λ c n e t z same h. record { transfer = refl; actions = refl; driver = same; pool = refl };
        rests = λ c e q s. done c _ refl;
        reads = λ c x y e q s. done c _ refl;
        writes = λ c x y e q s. done c _ refl;
        resets = λ v e q s. done (reset v) _ refl;
        completes = λ xs q e i. done (complete xs) _ (done_completed (arrived_of xs) d);
        declines = λ e i. done declined _ refl;
        resumes = λ q e i. done resume _ refl;
      })

-- DEMAND 1
pub refused_alters_nothing : RefusedAltersNothing
refused_alters_nothing d c p = claimed d p c

pub refused_new : RefusedNew
unfolding new_call
refused_new l c =
    either (λ (o : Outcome). (answer_no o.reply.answer ≡ 0 → ⊥) → o ≡ refused 15 (new_driver 129 26)) _ _ _ (λ h. absurd (h refl))
    (λ h. refl)

-- ---- a buffer that the driver has

-- the answer is one of these numbers
abbrev By : List ℕ → Called → Type 0
By l t = T (one_of l (answered t))

module _ (d : Driver) (b : ℕ) (p : List ℕ) (held : record_has d.buffers b ≡ true) where
  abbrev OfTransmit : Called → Type 0
  OfTransmit = By (12 ∷ 7 ∷ 1 ∷ 2 ∷ 3 ∷ 4 ∷ 8 ∷ [])

  transmit_refuses : (l n : ℕ) → OfTransmit (transmit_call d b l n p)
  unfolding transmit_call
  transmit_refuses l n =
      either OfTransmit _ _ _ tt
      (either OfTransmit _ _ _ tt
      (either OfTransmit _ _ _ tt
      (either OfTransmit _ _ _ tt
      (either OfTransmit _ _ _ tt
      (either OfTransmit _ _ _ tt (branch OfTransmit (record_has d.buffers b) _ _ (λ t. tt) (λ t. absurd (rw held at t))))))))

  abbrev OfReceive : Outcome → Type 0
  OfReceive o = By (7 ∷ 9 ∷ 10 ∷ 8 ∷ []) (with_pool o p)

  receive_refuses : (l : ℕ) → OfReceive (receive_buffer_call d b l)
  unfolding receive_buffer_call
  receive_refuses l =
      either OfReceive _ _ _ tt
      (either OfReceive _ _ _ tt
      (either OfReceive _ _ _ tt (branch OfReceive (record_has d.buffers b) _ _ (λ t. tt) (λ t. absurd (rw held at t)))))

pub held_is_refused : HeldIsRefused
unfolding made
held_is_refused d b l p held = (transmit_refuses d b p held l, receive_refuses d b p held l)
