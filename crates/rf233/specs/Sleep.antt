-- Turning off and waking, the states 30 to 32.
use Rattle.std.specs.Prelude.{List, [], ◌∷◌}
use Rattle.rf233_const.specs.declared.register.RF233Register.TheVariants.{TRX_STATUS}
use Rattle.rf233_const.specs.declared.trx_state.RF233TrxCmd.TheVariants as cmd
use Rattle.rf233.specs.Driver.Flag.{wake_pending}
use Rattle.rf233.specs.Rows.{Tree, stay, commands}
use Rattle.rf233.specs.Rows.Access.{none, reads}
use Rattle.rf233.specs.Rows.Next.{to}
use Rattle.rf233.specs.Rows.Row.{does}
use Rattle.rf233.specs.Rows.Shown.{plain, power_changed}
use Rattle.rf233.specs.Rows.Test.{is_set}
use Rattle.rf233.specs.Rows.Tree.{leaf, ask}
use Rattle.rf233.specs.declared.action.Action.TheVariants.{IrqEnableInterrupts, IrqDisableInterrupts, SleepSet, SleepClear}
use Rattle.rf233.specs.declared.state.InternalState.TheVariants.{READY, SLEEP, SLEEP_WAKE}

-- the cases of the states 30 to 32
abbrev pub sleep_trees : List Tree
sleep_trees =
    ask (is_set wake_pending) (leaf (does [] (reads TRX_STATUS) (to SLEEP_WAKE) (plain SleepSet ∷ [])))
    (leaf (does [] none (to SLEEP) (plain SleepSet ∷ power_changed ∷ plain IrqDisableInterrupts ∷ [])))
    ∷ stay
    ∷ leaf (does [] (commands cmd.RX_AACK_ON) (to READY) (plain SleepClear ∷ plain IrqEnableInterrupts ∷ []))
    ∷ []
