-- A firing, the bits of IRQ_STATUS that the driver looks at, and the state that they lead to.
use Rattle.std.specs.Prelude.{Bool, true, ◌&&◌, [], eqb}
use Rattle.rf233_const.specs.Bits.{bit_set}
use Rattle.rf233_const.specs.Interrupt.{interrupt_bit}
use Rattle.rf233_const.specs.TrxState.{command_value}
use Rattle.rf233_const.specs.declared.interrupt.InteruptFlags.TheVariants.{IRQ_0_PLL_LOCK, IRQ_2_RX_START, IRQ_3_TRX_END}
use Rattle.rf233_const.specs.declared.register.RF233Register.TheVariants.{IRQ_STATUS, TRX_STATE}
use Rattle.rf233_const.specs.declared.trx_state.RF233TrxCmd.TheVariants as cmd
use Rattle.rf233.specs.Action.{actions}
use Rattle.rf233.specs.Step.{step_of, quiet, transition_write}
use Rattle.rf233.specs.Choice.{pick}
use Rattle.rf233.specs.Driver.{flagged, in_no}
use Rattle.rf233.specs.Driver.Flag.{interrupt_handling, interrupt_pending}
use Rattle.rf233.specs.State.{state_no}
use Rattle.rf233.specs.Transfer.{free_to_start}
use Rattle.rf233.specs.Starter.{register_read}
use Rattle.rf233.specs.declared.answer.Outcome.{Outcome}
use Rattle.rf233.specs.declared.arrived.Arrived.{Arrived}
use Rattle.rf233.specs.declared.driver.Driver.{Driver}
use Rattle.rf233.specs.declared.state.InternalState.{InternalState}
use Rattle.rf233.specs.declared.state.InternalState.TheVariants.{ON_PLL_SET, RX, RX_TURNING_OFF, TX_DONE}

-- a firing with no transfer under way reads IRQ_STATUS, in RX it stops reception first; during a transfer it is remembered
unfoldable pub handle_interrupt : Driver → Outcome
handle_interrupt d =
    pick (free_to_start d.buffers)
    (pick (in_no 59 d) (transition_write TRX_STATE (command_value cmd.PLL_ON) RX_TURNING_OFF d)
    (step_of (register_read IRQ_STATUS (flagged interrupt_handling true d)) (actions [])))
    (quiet (flagged interrupt_pending true d) (actions []))

-- bit 0 of IRQ_STATUS, in the result byte
abbrev pub pll_lock : Arrived → Bool
pll_lock a = bit_set (interrupt_bit IRQ_0_PLL_LOCK) a.result

-- bit 2
abbrev pub rx_start : Arrived → Bool
rx_start a = bit_set (interrupt_bit IRQ_2_RX_START) a.result

-- bit 3
abbrev pub trx_end : Arrived → Bool
trx_end a = bit_set (interrupt_bit IRQ_3_TRX_END) a.result

-- the state that the interrupt leads to, before the end of a frame is looked at
unfoldable pub interrupt_state : Arrived → InternalState → InternalState
interrupt_state a s =
    pick (rx_start a) RX
    (pick (eqb (state_no s) 27 && pll_lock a) ON_PLL_SET (pick (eqb (state_no s) 40 && trx_end a) TX_DONE s))
