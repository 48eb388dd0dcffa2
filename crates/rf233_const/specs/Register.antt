-- Register addresses, from the register summary of the AT86RF233 datasheet. MIN and MAX are the Rust file's own bounds of the
-- address range (docs/DIFFERENCES.md says which other names have no entry in the summary).
use Rattle.std.specs.Prelude.{ℕ}
use Rattle.rf233_const.specs.declared.register.RF233Register.{RF233Register}
use Rattle.rf233_const.specs.declared.register.RF233Register.TheVariants.{
  MIN,
  TRX_STATUS,
  TRX_STATE,
  TRX_CTRL_0,
  TRX_CTRL_1,
  PHY_TX_PWR,
  PHY_RSSI,
  PHY_ED_LEVEL,
  PHY_CC_CCA,
  CCA_THRES,
  RX_CTRL,
  SFD_VALUE,
  TRX_CTRL_2,
  ANT_DIV,
  IRQ_MASK,
  IRQ_STATUS,
  VCTRL,
  BATMON,
  XOSC_CTRL,
  CC_CTRL_0,
  CC_CTRL_1,
  RX_SYN,
  TRX_RPC,
  XAH_CTRL_1,
  FTN_CTRL,
  XAH_CTRL_2,
  PLL_CF,
  PLL_DCU,
  PART_NUM,
  VERSION_NUM,
  MAN_ID_0,
  MAN_ID_1,
  SHORT_ADDR_0,
  SHORT_ADDR_1,
  PAN_ID_0,
  PAN_ID_1,
  IEEE_ADDR_0,
  IEEE_ADDR_1,
  IEEE_ADDR_2,
  IEEE_ADDR_3,
  IEEE_ADDR_4,
  IEEE_ADDR_5,
  IEEE_ADDR_6,
  IEEE_ADDR_7,
  XAH_CTRL_0,
  CSMA_SEED_0,
  CSMA_SEED_1,
  CSMA_BE,
  TST_CTRL_DIGI,
  PHY_TX_TIME,
  TST_AGC,
  TST_SDM,
  MAX,
}

-- The address of each register.
abbrev pub register_address : RF233Register → ℕ
register_address MIN = 0x00
register_address TRX_STATUS = 0x01
register_address TRX_STATE = 0x02
register_address TRX_CTRL_0 = 0x03
register_address TRX_CTRL_1 = 0x04
register_address PHY_TX_PWR = 0x05
register_address PHY_RSSI = 0x06
register_address PHY_ED_LEVEL = 0x07
register_address PHY_CC_CCA = 0x08
register_address CCA_THRES = 0x09
register_address RX_CTRL = 0x0A
register_address SFD_VALUE = 0x0B
register_address TRX_CTRL_2 = 0x0C
register_address ANT_DIV = 0x0D
register_address IRQ_MASK = 0x0E
register_address IRQ_STATUS = 0x0F
register_address VCTRL = 0x10
register_address BATMON = 0x11
register_address XOSC_CTRL = 0x12
register_address CC_CTRL_0 = 0x13
register_address CC_CTRL_1 = 0x14
register_address RX_SYN = 0x15
register_address TRX_RPC = 0x16
register_address XAH_CTRL_1 = 0x17
register_address FTN_CTRL = 0x18
register_address XAH_CTRL_2 = 0x19
register_address PLL_CF = 0x1A
register_address PLL_DCU = 0x1B
register_address PART_NUM = 0x1C
register_address VERSION_NUM = 0x1D
register_address MAN_ID_0 = 0x1E
register_address MAN_ID_1 = 0x1F
register_address SHORT_ADDR_0 = 0x20
register_address SHORT_ADDR_1 = 0x21
register_address PAN_ID_0 = 0x22
register_address PAN_ID_1 = 0x23
register_address IEEE_ADDR_0 = 0x24
register_address IEEE_ADDR_1 = 0x25
register_address IEEE_ADDR_2 = 0x26
register_address IEEE_ADDR_3 = 0x27
register_address IEEE_ADDR_4 = 0x28
register_address IEEE_ADDR_5 = 0x29
register_address IEEE_ADDR_6 = 0x2A
register_address IEEE_ADDR_7 = 0x2B
register_address XAH_CTRL_0 = 0x2C
register_address CSMA_SEED_0 = 0x2D
register_address CSMA_SEED_1 = 0x2E
register_address CSMA_BE = 0x2F
register_address TST_CTRL_DIGI = 0x36
register_address PHY_TX_TIME = 0x3B
register_address TST_AGC = 0x3C
register_address TST_SDM = 0x3D
register_address MAX = 0x3E
