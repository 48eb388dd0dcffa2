-- A step that is done, one that starts nothing, the steps of a register transfer (the Rust's `state_transition_read`,
-- `state_transition_write`), the step that follows from a starter's answer, and a step with its actions.
use Rattle.std.specs.Prelude.{ℕ, [], Option, None}
use Rattle.rf233_const.specs.declared.register.RF233Register.{RF233Register}
use Rattle.rf233.specs.Action.{actions}
use Rattle.rf233.specs.Driver.{with_state}
use Rattle.rf233.specs.Starter.{begun, register_read, register_write}
use Rattle.rf233.specs.declared.action.Actions.{Actions}
use Rattle.rf233.specs.declared.answer.Answer.TheVariants.{Done}
use Rattle.rf233.specs.declared.answer.Outcome.{Outcome}
use Rattle.rf233.specs.declared.driver.Driver.{Driver}
use Rattle.rf233.specs.declared.starter.Started.{Started}
use Rattle.rf233.specs.declared.starter.StarterAnswer.{StarterAnswer}
use Rattle.rf233.specs.declared.starter.StarterAnswer.TheVariants.{Began, UnderWay, Waiting}
use Rattle.rf233.specs.declared.state.InternalState.{InternalState}
use Rattle.rf233.specs.declared.transfer.Transfer.{Transfer}

-- a step that is done, of these parts
abbrev pub done_step : Driver → Option Transfer → Actions → Outcome
done_step d t l = record { driver = d; reply = record { answer = Done; transfer = t; actions = l } }

-- the step of a starter, which its answer decides, with these actions
abbrev pub step_of : Started → Actions → Outcome
step_of s l = done_step s.driver (begun s.answer) l

-- a step that starts nothing
abbrev pub quiet : Driver → Actions → Outcome
quiet d l = done_step d None l

-- by a starter's answer: the first where it began, the second where it found a transfer under way, the third where one waits
unfoldable pub by_answer : StarterAnswer → Outcome → Outcome → Outcome → Outcome
by_answer (Began t) x y z = x
by_answer UnderWay x y z = y
by_answer Waiting x y z = z

-- a register read, and the next state
abbrev pub transition_read : RF233Register → InternalState → Driver → Outcome
transition_read r n d = step_of (register_read r (with_state n d)) (actions [])

-- a register write, and the next state
abbrev pub transition_write : RF233Register → ℕ → InternalState → Driver → Outcome
transition_write r v n d = step_of (register_write r v (with_state n d)) (actions [])

-- the step with these actions
abbrev pub with_actions : Actions → Outcome → Outcome
with_actions l o = record o { reply = record o.reply { actions = l } }
