-- READY, state 29: a waiting stop turns the radio off, a radio that woke is told of.
use Rattle.std.specs.Prelude.{false, List, [], ◌∷◌}
use Rattle.rf233_const.specs.declared.trx_state.RF233TrxCmd.TheVariants as cmd
use Rattle.rf233.specs.Choice.{pick}
use Rattle.rf233.specs.Driver.{client}
use Rattle.rf233.specs.Driver.Assignment.{put}
use Rattle.rf233.specs.Driver.Flag.{radio_on, sleep_pending, power_client_pending}
use Rattle.rf233.specs.Rows.{Tree, stay, commands}
use Rattle.rf233.specs.Rows.Access.{none}
use Rattle.rf233.specs.Rows.Next.{same, to}
use Rattle.rf233.specs.Rows.Row.{does}
use Rattle.rf233.specs.Rows.Shown.{power_changed}
use Rattle.rf233.specs.Rows.Test.{is_set}
use Rattle.rf233.specs.Rows.Tree.{leaf, ask}
use Rattle.rf233.specs.declared.action.Action.{Action}
use Rattle.rf233.specs.declared.action.Action.TheVariants.{Power}
use Rattle.rf233.specs.declared.driver.Client.TheVariants as listener
use Rattle.rf233.specs.declared.driver.Driver.{Driver}
use Rattle.rf233.specs.declared.state.InternalState.TheVariants.{SLEEP_TRX_OFF}

-- the power listener, where there is one, is told whether the radio is on
abbrev pub power_told : Driver → List Action
power_told d = pick (client listener.Power d.clients) (Power d.flags.radio_on ∷ []) []

-- the case of state 29
abbrev pub ready_trees : List Tree
ready_trees =
    ask (is_set sleep_pending)
    (leaf (does (put sleep_pending false ∷ put radio_on false ∷ []) (commands cmd.OFF) (to SLEEP_TRX_OFF) []))
    (ask (is_set power_client_pending) (leaf (does (put power_client_pending false ∷ []) none same (power_changed ∷ []))) stay)
    ∷ []
