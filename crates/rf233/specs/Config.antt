-- The Rust's `RadioConfig`: what start, stop, commit, reset, the settings and the queries yield, for good and bad input alike. The order of
-- refusals is document 01's ("Who can cause which refusal").
use Rattle.std.specs.Prelude.{ℕ, Bool, true, false, not, List, [], ◌∷◌, ℤ}
use Rattle.rf233_const.specs.TrxState.{command_value}
use Rattle.rf233_const.specs.declared.register.RF233Register.TheVariants.{PART_NUM, TRX_STATUS, TRX_STATE}
use Rattle.rf233_const.specs.declared.trx_state.RF233TrxCmd.TheVariants as cmd
use Rattle.rf233.specs.Action.{actions}
use Rattle.rf233.specs.Step.{step_of, quiet, transition_read, transition_write}
use Rattle.rf233.specs.Answer.{refused}
use Rattle.rf233.specs.Choice.{pick, one_of, within}
use Rattle.rf233.specs.Commit.{start_commit}
use Rattle.rf233.specs.Driver.{flag, flagged, in_no, with_addr, with_addr_long, with_pan, with_tx_power, with_channel, with_settings}
use Rattle.rf233.specs.Driver.Flag.{radio_on, transmitting, config_pending, sleep_pending, wake_pending}
use Rattle.rf233.specs.Guard.{Called, refusing, stepping, guarded}
use Rattle.rf233.specs.Power.{power_fits}
use Rattle.rf233.specs.State.{state_no}
use Rattle.rf233.specs.Starter.{register_read}
use Rattle.rf233.specs.declared.action.Action.TheVariants.{ResetMakeOutput, SleepMakeOutput, ResetClear, ResetSet, SleepClear}
use Rattle.rf233.specs.declared.answer.Outcome.{Outcome}
use Rattle.rf233.specs.declared.driver.Driver.{Driver}
use Rattle.rf233.specs.declared.state.InternalState.TheVariants.{SLEEP_WAKE, SLEEP_TRX_OFF}

-- a start that is not refused: from SLEEP the radio is woken; on a new driver PART_NUM is read
unfoldable pub begin_start : Driver → Outcome
begin_start d =
    pick (in_no 31 d) (transition_read TRX_STATUS SLEEP_WAKE d)
    (step_of (register_read PART_NUM (flagged wake_pending true d)) (actions []))

-- `start`: 12; 6 outside 0 and 31, which withdraws a waiting stop
unfoldable pub start_call : Driver → List ℕ → Called
start_call d p =
    let e = flagged sleep_pending false d in
    guarded d p (pick (one_of (0 ∷ 31 ∷ []) (state_no d.state)) (stepping (begin_start e) p) (refusing 6 e p))

-- a stop that is not refused: in 27 and 29 the radio is turned off, elsewhere the stop waits
unfoldable pub begin_stop : Driver → Outcome
begin_stop d =
    pick (one_of (27 ∷ 29 ∷ []) (state_no d.state))
    (transition_write TRX_STATE (command_value cmd.OFF) SLEEP_TRX_OFF (flagged radio_on false d))
    (quiet (flagged sleep_pending true d) (actions []))

-- `stop`: 12; 6 in 30 and 31
unfoldable pub stop_call : Driver → List ℕ → Called
stop_call d p = guarded d p (pick (one_of (30 ∷ 31 ∷ []) (state_no d.state)) (refusing 6 d p) (stepping (begin_stop d) p))

-- a commit that is pending already changes nothing; in READY it starts, elsewhere it waits
unfoldable pub begin_commit : Driver → Outcome
begin_commit d =
    let e = flagged config_pending true d in
    pick (flag config_pending d.flags) (quiet d (actions []))
    (pick (in_no 29 d) (start_commit e) (quiet e (actions [])))

-- commit: 12
unfoldable pub commit_call : Driver → List ℕ → Called
commit_call d p = guarded d p (stepping (begin_commit d) p)

-- `reset`: 14 where the kernel could not configure the SPI
unfoldable pub reset_call : Driver → Bool → Outcome
reset_call d configured =
    pick configured
    (quiet (flagged transmitting false d)
    (actions (ResetMakeOutput ∷ SleepMakeOutput ∷ ResetClear 10000 ∷ ResetSet ∷ SleepClear ∷ [])))
    (refused 14 d)

-- a channel of the 2.4 GHz band: 11 to 26
abbrev pub channel_fits : ℕ → Bool
channel_fits c = within 11 26 c

-- `set_tx_power`: 5 outside its range
unfoldable pub set_power : Driver → ℤ → Outcome
set_power d t = pick (power_fits t) (quiet (with_settings (with_tx_power t d.settings) d) (actions [])) (refused 5 d)

-- `set_channel`: 5 outside its range
unfoldable pub set_channel : Driver → ℕ → Outcome
set_channel d c = pick (channel_fits c) (quiet (with_settings (with_channel c d.settings) d) (actions [])) (refused 5 d)

-- `set_address` takes any value
abbrev pub set_address : Driver → ℕ → Driver
set_address d a = with_settings (with_addr a d.settings) d

-- `set_address_long` takes any value
abbrev pub set_address_long : Driver → List ℕ → Driver
set_address_long d l = with_settings (with_addr_long l d.settings) d

-- `set_pan` takes any value
abbrev pub set_pan : Driver → ℕ → Driver
set_pan d p = with_settings (with_pan p d.settings) d

-- `busy`: in any state but READY and SLEEP
abbrev pub is_busy : Driver → Bool
is_busy d = not (one_of (29 ∷ 31 ∷ []) (state_no d.state))
