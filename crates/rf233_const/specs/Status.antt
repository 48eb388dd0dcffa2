-- The radio's state as TRX_STATUS shows it (AT86RF233 datasheet, register 0x01, TRX_STATUS[4:0]).
use Rattle.std.specs.Prelude.{ℕ}
use Rattle.rf233_const.specs.Bits.{bit_field}
use Rattle.rf233_const.specs.declared.status.ExternalState.{ExternalState}
use Rattle.rf233_const.specs.declared.status.ExternalState.TheVariants.{
  ON,
  BUSY_RX,
  BUSY_TX,
  RX_ON,
  TRX_OFF,
  PLL_ON,
  SLEEP,
  PREP_DEEP_SLEEP,
  BUSY_RX_AACK,
  BUSY_TX_ARET,
  RX_AACK_ON,
  TX_ARET_ON,
  STATE_TRANSITION_IN_PROGRESS,
}

-- The value of each state. The datasheet calls ON P_ON.
abbrev pub status_value : ExternalState → ℕ
status_value ON = 0x00
status_value BUSY_RX = 0x01
status_value BUSY_TX = 0x02
status_value RX_ON = 0x06
status_value TRX_OFF = 0x08
status_value PLL_ON = 0x09
status_value SLEEP = 0x0F
status_value PREP_DEEP_SLEEP = 0x10
status_value BUSY_RX_AACK = 0x11
status_value BUSY_TX_ARET = 0x12
status_value RX_AACK_ON = 0x16
status_value TX_ARET_ON = 0x19
status_value STATE_TRANSITION_IN_PROGRESS = 0x1F

-- The status in the first byte that arrives in a transfer: its lower five bits (document 01: mask 0x1F).
abbrev pub chip_status : ℕ → ℕ
chip_status first = bit_field 0 5 first
