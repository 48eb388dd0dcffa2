-- What startup writes to the registers that are set to constants, from the fields that the datasheet gives them, and the default
-- addresses.
use Rattle.std.specs.Prelude.{◌+◌, [], ◌∷◌}
use Rattle.rf233_const.specs.Bits.{field_at}
use Rattle.rf233_const.specs.declared.settings.StartupValues.{StartupValues}
use Rattle.rf233_const.specs.declared.settings.DefaultAddresses.{DefaultAddresses}

-- The constants that startup writes.
abbrev pub startup_values : StartupValues
startup_values =
    record {
      -- PA_EXT_EN, TX_AUTO_CRC_ON, SPI_CMD_MODE 1
      trx_ctrl_1 = field_at 7 1 + field_at 5 1 + field_at 2 1;
      -- RX_SAFE_MODE, 250 kb/s
      trx_ctrl_2 = field_at 7 1 + field_at 0 0;
      -- CCA_MODE 0, CHANNEL 26
      phy_cc_cca = field_at 5 0 + field_at 0 26;
      phy_tx_pwr = field_at 0 0;
      default_phy_channel = 26;
      -- TRX_UR, TRX_END, RX_START, PLL_LOCK
      irq_mask = field_at 6 1 + field_at 3 1 + field_at 2 1 + field_at 0 1;
      -- AACK_FLTR_RES_FT, AACK_UPLD_RES_FT, AACK_PROM_MODE
      xah_ctrl_1 = field_at 5 1 + field_at 4 1 + field_at 1 1;
      xah_ctrl_0 = 0;
      -- the two bytes of the default short address, added
      csma_seed_0 = 0x11 + 0x22;
      -- AACK_FVN_MODE 3
      csma_seed_1 = field_at 6 3;
      -- every bit
      trx_rpc = field_at 0 0xFF;
    }

-- The default addresses.
abbrev pub default_addresses : DefaultAddresses
default_addresses =
    record {
      pan_id = 0x22 ∷ 0x22 ∷ [];
      ieee_addr = 0x11 ∷ 0x22 ∷ 0x33 ∷ 0x44 ∷ 0x55 ∷ 0x66 ∷ 0x77 ∷ 0x88 ∷ [];
      short_addr = 0x11 ∷ 0x22 ∷ [];
    }
