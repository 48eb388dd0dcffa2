-- Reception, the states 59 to 68, and the notice of a received frame.
use Rattle.std.specs.Prelude.{◌-◌, true, false, List, [], ◌∷◌}
use Rattle.rf233_const.specs.declared.register.RF233Register.TheVariants.{IRQ_STATUS, TRX_STATUS, PHY_RSSI}
use Rattle.rf233_const.specs.declared.trx_state.RF233TrxCmd.TheVariants as cmd
use Rattle.rf233.specs.Choice.{pick}
use Rattle.rf233.specs.Driver.{flag}
use Rattle.rf233.specs.Driver.Assignment.{put, put_crc}
use Rattle.rf233.specs.Driver.Flag.{transmitting, receiving, interrupt_handling, sleep_pending}
use Rattle.rf233.specs.Line.{line, front}
use Rattle.rf233.specs.Record.{buffer_in}
use Rattle.rf233.specs.Rows.{Shown, Tree, stay, read, onward, commands}
use Rattle.rf233.specs.Rows.Access.{reads, reads_length, reads_frame}
use Rattle.rf233.specs.Rows.Next.{to}
use Rattle.rf233.specs.Rows.Row.{does}
use Rattle.rf233.specs.Rows.Shown.{received_back, received_kept}
use Rattle.rf233.specs.Rows.Test.{length_fits, is_spoiled, listens}
use Rattle.rf233.specs.Rows.Tree.{leaf, ask}
use Rattle.rf233.specs.Step.{transition_read}
use Rattle.rf233.specs.declared.action.Action.{Action}
use Rattle.rf233.specs.declared.action.Action.TheVariants.{Received}
use Rattle.rf233.specs.declared.answer.Outcome.{Outcome}
use Rattle.rf233.specs.declared.driver.Client.TheVariants as listener
use Rattle.rf233.specs.declared.driver.Driver.{Driver}
use Rattle.rf233.specs.declared.state.InternalState.{InternalState}
use Rattle.rf233.specs.declared.state.InternalState.TheVariants.{READY, TX_STATUS_PRECHECK1}
use Rattle.rf233.specs.declared.state.InternalState.TheVariants as state

-- the notice of a received frame, in the buffer at the front of the line: the held length without the check's two bytes
abbrev pub received : Driver → Action
received d = Received (buffer_in (front (line d.buffers))) (d.reception.length - 2) d.flags.crc_valid

-- TRX_STATUS is read, and the next state is the beginning of a send where one waits
unfoldable pub onward_read : Driver → Outcome
onward_read d =
    pick (flag transmitting d.flags) (transition_read TRX_STATUS TX_STATUS_PRECHECK1 d) (transition_read TRX_STATUS READY d)

-- 68: reception is over, and a waiting stop is withdrawn. Of a spoiled frame nothing is told, and its buffer stays at the front of the line
-- (request 2026-13). Else the listener is handed the buffer; with none it goes to the end of the line
abbrev reception_over : List Shown → InternalState → Tree
reception_over l n = leaf (does (put receiving false ∷ put sleep_pending false ∷ []) (reads TRX_STATUS) (to n) l)

-- the cases of the states 59 to 68
abbrev pub receive_trees : List Tree
receive_trees =
    stay
    ∷ leaf (does (put interrupt_handling true ∷ []) (reads IRQ_STATUS) (to state.RX_READY_TO_READ) [])
    ∷ stay
    ∷ leaf (does [] reads_length (to state.RX_READING_FRAME_LEN) [])
    ∷ stay
    ∷ ask length_fits (leaf (does [] reads_frame (to state.RX_READING_FRAME) [])) (onward (read TRX_STATUS))
    ∷ stay
    ∷ read PHY_RSSI state.RX_READING_FRAME_FCS_DONE
    ∷ leaf (does (put_crc ∷ []) (commands cmd.RX_AACK_ON) (to state.RX_ENABLING_RECEPTION) [])
    ∷ ask is_spoiled (onward (reception_over []))
    (ask (listens listener.Receive) (onward (reception_over (received_back ∷ []))) (onward (reception_over (received_kept ∷ []))))
    ∷ []
