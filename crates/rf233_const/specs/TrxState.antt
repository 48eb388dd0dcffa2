-- The register TRX_STATE (AT86RF233 datasheet, register 0x02): TRX_CMD[4:0] is written, TRAC_STATUS[7:5] is read.
use Rattle.std.specs.Prelude.{ℕ}
use Rattle.rf233_const.specs.Bits.{bit_field, field_at}
use Rattle.rf233_const.specs.declared.trx_state.RF233TrxCmd.{RF233TrxCmd}
use Rattle.rf233_const.specs.declared.trx_state.RF233TrxCmd.TheVariants.{
  TX_START,
  RX_ON,
  OFF,
  PLL_ON,
  RX_AACK_ON,
  TX_ARET_ON,
}

-- The value of each command. The datasheet calls OFF TRX_OFF.
abbrev pub command_value : RF233TrxCmd → ℕ
command_value TX_START = 0x02
command_value RX_ON = 0x06
command_value OFF = 0x08
command_value PLL_ON = 0x09
command_value RX_AACK_ON = 0x16
command_value TX_ARET_ON = 0x19

-- TRAC_STATUS of a byte read from TRX_STATE, left at its place.
abbrev pub trac_bits : ℕ → ℕ
trac_bits result = field_at 5 (bit_field 5 3 result)

-- SUCCESS, the first of the values of TRAC_STATUS that the driver tells apart or names, at that place.
abbrev pub trac_success : ℕ
trac_success = field_at 5 0

-- SUCCESS_DATA_PENDING.
abbrev pub trac_success_data_pending : ℕ
trac_success_data_pending = field_at 5 1

-- CHANNEL_ACCESS_FAILURE.
abbrev pub trac_channel_access_failure : ℕ
trac_channel_access_failure = field_at 5 3
