-- Startup, the states 0 to 28: the table of its writes (document 01: "The startup writes form a constant table of register, value and next
-- state"), and the case of each state.
use Rattle.std.specs.Prelude.{ℕ, List, [], ◌∷◌, ◌++◌, map, take, drop}
use Rattle.rf233_const.specs.Settings.{startup_values}
use Rattle.rf233_const.specs.declared.register.RF233Register.TheVariants as register
use Rattle.rf233_const.specs.declared.status.ExternalState.TheVariants as external
use Rattle.rf233_const.specs.declared.trx_state.RF233TrxCmd.TheVariants as cmd
use Rattle.rf233.specs.Rows.{Shown, Tree, status_is, stay, read, write}
use Rattle.rf233.specs.Rows.Access.{writes}
use Rattle.rf233.specs.Rows.Next.{to}
use Rattle.rf233.specs.Rows.Row.{does}
use Rattle.rf233.specs.Rows.Shown.{plain}
use Rattle.rf233.specs.Rows.Tree.{leaf, ask}
use Rattle.rf233.specs.Write.{row, row_at}
use Rattle.rf233.specs.declared.action.Action.TheVariants.{IrqMakeInput, IrqClear, IrqSetFloatingState, IrqEnableInterrupts}
use Rattle.rf233.specs.declared.state.InternalState.TheVariants as state
use Rattle.rf233.specs.declared.write.Value.TheVariants.{Constant, Command, Channel, Power, PanHigh, PanLow, AddrHigh, AddrLow, Long}
use Rattle.rf233.specs.declared.write.Write.{Write}

-- every write of a startup, in order
abbrev pub startup_table : List Write
startup_table =
    -- 2: a radio that is on is turned off
    row register.TRX_STATE (Command cmd.OFF) state.START_TURNING_OFF
    -- 2 and 3
    ∷ row register.TRX_CTRL_1 (Constant startup_values.trx_ctrl_1) state.START_CTRL1_SET
    -- 4 to 24
    ∷ row register.PHY_CC_CCA Channel state.START_CCA_SET
    ∷ row register.PHY_TX_PWR Power state.START_PWR_SET
    ∷ row register.TRX_CTRL_2 (Constant startup_values.trx_ctrl_2) state.START_CTRL2_SET
    ∷ row register.IRQ_MASK (Constant startup_values.irq_mask) state.START_IRQMASK_SET
    ∷ row register.XAH_CTRL_1 (Constant startup_values.xah_ctrl_1) state.START_XAH1_SET
    ∷ row register.XAH_CTRL_0 (Constant startup_values.xah_ctrl_0) state.START_XAH0_SET
    -- the datasheet puts the low byte of the PAN in PAN_ID_0 (request 2026-02)
    ∷ row register.PAN_ID_0 PanLow state.START_PANID0_SET
    ∷ row register.PAN_ID_1 PanHigh state.START_PANID1_SET
    ∷ row register.IEEE_ADDR_0 (Long 0) state.START_IEEE0_SET
    ∷ row register.IEEE_ADDR_1 (Long 1) state.START_IEEE1_SET
    ∷ row register.IEEE_ADDR_2 (Long 2) state.START_IEEE2_SET
    ∷ row register.IEEE_ADDR_3 (Long 3) state.START_IEEE3_SET
    ∷ row register.IEEE_ADDR_4 (Long 4) state.START_IEEE4_SET
    ∷ row register.IEEE_ADDR_5 (Long 5) state.START_IEEE5_SET
    ∷ row register.IEEE_ADDR_6 (Long 6) state.START_IEEE6_SET
    ∷ row register.IEEE_ADDR_7 (Long 7) state.START_IEEE7_SET
    ∷ row register.SHORT_ADDR_0 AddrLow state.START_SHORT0_SET
    ∷ row register.SHORT_ADDR_1 AddrHigh state.START_SHORT1_SET
    ∷ row register.CSMA_SEED_0 (Constant startup_values.csma_seed_0) state.START_CSMA_0_SEEDED
    ∷ row register.CSMA_SEED_1 (Constant startup_values.csma_seed_1) state.START_CSMA_1_SEEDED
    ∷ row register.TRX_RPC (Constant startup_values.trx_rpc) state.START_RPC_SET
    -- 26
    ∷ row register.TRX_STATE (Command cmd.PLL_ON) state.ON_PLL_WAITING
    -- 28
    ∷ row register.TRX_STATE (Command cmd.RX_AACK_ON) state.READY
    ∷ []

-- row k of the table, of 25
abbrev pub startup_row : ℕ → Write
startup_row = row_at startup_table

-- the pin is made ready for interrupts
abbrev pub irq_ready : List Shown
irq_ready = plain IrqMakeInput ∷ plain IrqClear ∷ plain IrqSetFloatingState ∷ plain IrqEnableInterrupts ∷ []

-- a row's write, with the pin made ready before it
abbrev pub write_ready : Write → Tree
write_ready w = leaf (does [] (writes w.register w.value) (to w.next) irq_ready)

-- the cases of the states 0 to 28
abbrev pub startup_trees : List Tree
startup_trees =
    read register.IRQ_STATUS state.START_PART_READ
    ∷ read register.TRX_STATUS state.START_STATUS_READ
    ∷ ask (status_is external.ON) (write (startup_row 0)) (write (startup_row 1))
    ∷ write_ready (startup_row 1)
    ∷ (map write (take 21 (drop 2 startup_table))
    ++ (read register.TRX_STATUS state.ON_STATUS_READ ∷ write (startup_row 23) ∷ stay ∷ write (startup_row 24) ∷ []))
