-- Flags and field values of single registers, from the AT86RF233 datasheet's register tables. Each line names the register's field
-- by the datasheet's name; docs/DIFFERENCES.md lists where the Rust's name differs.
use Rattle.std.specs.Prelude.{ℕ}
use Rattle.rf233_const.specs.Bits.{field_at}
use Rattle.rf233_const.specs.TrxState.{trac_success_data_pending, trac_channel_access_failure}
use Rattle.rf233_const.specs.declared.flags.RegisterFlags.{RegisterFlags}

-- The bit of PHY_RSSI that says that the last frame's check was valid: RX_CRC_VALID.
abbrev pub rx_crc_valid_bit : ℕ
rx_crc_valid_bit = 7

-- The flags of registers that the driver names, each by its bits.
abbrev pub register_flags : RegisterFlags
register_flags =
    record {
      -- TRX_CTRL_1: PA_EXT_EN is bit 7; SPI_CMD_MODE, bits 3 and 2, is 1 for TRX_STATUS; TX_AUTO_CRC_ON is bit 5
      trx_ctrl_1_dig34_rxtx_indicator = field_at 7 1;
      trx_ctrl_1_spi_cmd_trx_status = field_at 2 1;
      trx_ctrl_1_auto_crc = field_at 5 1;
      -- PHY_TX_PWR: TX_PWR, bits 3 to 0, is 0 for 4 dBm
      phy_tx_pwr_4 = field_at 0 0;
      -- PHY_CC_CCA: CCA_MODE, bits 6 and 5
      phy_cc_cca_mode_cs_or_ed = field_at 5 0;
      phy_cc_cca_mode_ed = field_at 5 1;
      phy_cc_cca_mode_cs = field_at 5 2;
      phy_cc_cca_mode_cs_and_ed = field_at 5 3;
      phy_rssi_rx_crc_valid = field_at rx_crc_valid_bit 1;
      -- TRX_CTRL_2: RX_SAFE_MODE is bit 7; OQPSK_DATA_RATE, bits 2 to 0, is 0 for 250 kb/s
      trx_ctrl_2_rx_safe_mode = field_at 7 1;
      trx_ctrl_2_data_rate_250 = field_at 0 0;
      -- IRQ_MASK: TRX_UR, TRX_END, RX_START, PLL_LOCK
      irq_trxbuf_access_violation = field_at 6 1;
      irq_trx_done = field_at 3 1;
      irq_rx_start = field_at 2 1;
      irq_pll_lock = field_at 0 1;
      -- XAH_CTRL_1
      xah_ctrl_1_aack_prom_mode = field_at 1 1;
      xah_ctrl_1_aack_upld_res_ft = field_at 4 1;
      xah_ctrl_1_aack_fltr_res_ft = field_at 5 1;
      -- CSMA_SEED_1: AACK_FVN_MODE, bits 7 and 6, is 3 to accept every frame version
      aack_fvn_mode = field_at 6 3;
      -- TRX_STATE: TRAC_STATUS, bits 7 to 5, all of them, and two of its values
      trx_trac_mask = field_at 5 0b111;
      trx_trac_success_data_pending = trac_success_data_pending;
      trx_trac_channel_access_failure = trac_channel_access_failure;
    }
