-- What a call yields, with the pool after it, and whether it was accepted; refusal 12, asked before anything else; and the end of a step,
-- whose command bytes are written.
use Rattle.std.specs.Prelude.{ℕ, Bool, not, ◌||◌, List, eqb, length}
use Rattle.rf233.specs.Answer.{answer_no, refused}
use Rattle.rf233.specs.Choice.{pick}
use Rattle.rf233.specs.Described.{described}
use Rattle.rf233.specs.Pool.{pool_length, command_written}
use Rattle.rf233.specs.declared.answer.Outcome.{Outcome}
use Rattle.rf233.specs.declared.driver.Driver.{Driver}

-- what a call yields, and the pool after it
pub record Called : Type 0 where
  pub outcome : Outcome
  pub pool : List ℕ

-- the driver that a call leaves
abbrev pub after : Called → Driver
after c = c.outcome.driver

-- the call was accepted
abbrev pub accepted : Called → Bool
accepted c = eqb (answer_no c.outcome.reply.answer) 0

-- the refusal of this number leaves the pool as it is
abbrev pub refusing : ℕ → Driver → List ℕ → Called
refusing n d p = record { outcome = refused n d; pool = p }

-- a step writes its transfer's command bytes
abbrev pub stepping : Outcome → List ℕ → Called
stepping o p = record { outcome = o; pool = command_written o.reply.transfer p }

-- refusal 12: the pool is not 3,040 bytes long, or the driver value is described
abbrev pub pool_fault : Driver → List ℕ → Bool
pool_fault d p = not (eqb (length p) pool_length) || described d

-- refusal 12 comes first
abbrev pub guarded : Driver → List ℕ → Called → Called
guarded d p c = pick (pool_fault d p) (refusing 12 d p) c
