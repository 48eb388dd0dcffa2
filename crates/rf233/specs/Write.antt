-- The register writes of startup and commit: the values, constants and those taken from the driver's settings, and a table's row.
use Rattle.std.specs.Prelude.{ℕ, ◌/◌, ◌%◌, List, [], get_or}
use Rattle.rf233_const.specs.TrxState.{command_value}
use Rattle.rf233_const.specs.declared.register.RF233Register.{RF233Register}
use Rattle.rf233_const.specs.declared.register.RF233Register.TheVariants.{TRX_STATE}
use Rattle.rf233.specs.Action.{actions}
use Rattle.rf233.specs.Driver.{with_state}
use Rattle.rf233.specs.Power.{power_to_setting}
use Rattle.rf233.specs.Starter.{register_write}
use Rattle.rf233.specs.Step.{step_of}
use Rattle.rf233.specs.declared.answer.Outcome.{Outcome}
use Rattle.rf233.specs.declared.driver.Driver.{Driver}
use Rattle.rf233.specs.declared.driver.Settings.{Settings}
use Rattle.rf233.specs.declared.starter.Started.{Started}
use Rattle.rf233.specs.declared.state.InternalState.{InternalState}
use Rattle.rf233.specs.declared.state.InternalState.TheVariants.{START}
use Rattle.rf233.specs.declared.write.Value.{Value}
use Rattle.rf233.specs.declared.write.Value.TheVariants.{Constant, Command, Channel, Power, PanHigh, PanLow, AddrHigh, AddrLow, Long}
use Rattle.rf233.specs.declared.write.Write.{Write}

-- the byte that a marker stands for
abbrev pub value_of : Value → Settings → ℕ
value_of (Constant v) s = v
-- a command to the radio
value_of (Command c) s = command_value c
-- CCA_MODE 0 above the channel
value_of Channel s = s.channel
value_of Power s = power_to_setting s.tx_power
value_of PanHigh s = s.pan / 256
value_of PanLow s = s.pan % 256
value_of AddrHigh s = s.addr / 256
value_of AddrLow s = s.addr % 256
-- byte k of the long address
value_of (Long k) s = get_or s.addr_long k 0

-- a row of a table: register, value, next state
abbrev pub row : RF233Register → Value → InternalState → Write
row r v n = record { register = r; value = v; next = n }

-- row k of a table
abbrev pub row_at : List Write → ℕ → Write
row_at ws k = get_or ws k (row TRX_STATE Channel START)

-- the starter of a row's write, in its next state
abbrev pub row_starter : Write → Driver → Started
row_starter w d = register_write w.register (value_of w.value d.settings) (with_state w.next d)

-- the write of a table's row, and its next state
abbrev pub table_write : Write → Driver → Outcome
table_write w d = step_of (row_starter w d) (actions [])
