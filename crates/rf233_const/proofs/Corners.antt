-- Document 01, "Corners in rf233_const.rs", and the first bytes of its four transfers, as one checked table: each line is a value that
-- document 01 writes and the definition that the code equals. `startup_values`, `register_read_command` and the other functions of
-- src/ promise these definitions. Assumes nothing.
use mathlib.Core.Path.{◌≡◌}
use Rattle.rf233_const.specs.Command.{register_read, register_write, frame_read, frame_write}
use Rattle.rf233_const.specs.Register.{register_address}
use Rattle.rf233_const.specs.Settings.{startup_values}
use Rattle.rf233_const.specs.declared.register.RF233Register.TheVariants.{
  PART_NUM,
  TRX_STATUS,
  PAN_ID_0,
  PAN_ID_1,
  SHORT_ADDR_0,
}

pub record CornersHold : Type 0 where
  pub trx_ctrl_1_is : startup_values.trx_ctrl_1 ≡ 0xA4
  pub trx_ctrl_2_is : startup_values.trx_ctrl_2 ≡ 0x80
  pub irq_mask_is : startup_values.irq_mask ≡ 0x4D
  pub xah_ctrl_1_is : startup_values.xah_ctrl_1 ≡ 0x32
  pub csma_seed_0_is : startup_values.csma_seed_0 ≡ 0x33
  pub csma_seed_1_is : startup_values.csma_seed_1 ≡ 0xC0
  pub trx_rpc_is : startup_values.trx_rpc ≡ 0xFF
  -- the commands that document 01's corners show
  pub read_part_num : register_read (register_address PART_NUM) ≡ 0x9C
  pub read_trx_status : register_read (register_address TRX_STATUS) ≡ 0x81
  pub write_pan_id_0 : register_write (register_address PAN_ID_0) ≡ 0xE2
  pub write_pan_id_1 : register_write (register_address PAN_ID_1) ≡ 0xE3
  pub write_short_addr_0 : register_write (register_address SHORT_ADDR_0) ≡ 0xE0
  pub read_frame : frame_read ≡ 0x20
  pub write_frame : frame_write ≡ 0x60

pub corners : CornersHold
corners = search
