-- Transmission, the states 33 to 44, and the notice of a sent frame.
use Rattle.std.specs.Prelude.{ℕ, Bool, true, false, List, [], ◌∷◌, eqb, Option}
use Rattle.rf233_const.specs.TrxState.{trac_bits, trac_success, trac_channel_access_failure}
use Rattle.rf233_const.specs.declared.register.RF233Register.TheVariants.{TRX_STATUS, TRX_STATE}
use Rattle.rf233_const.specs.declared.status.ExternalState.TheVariants as external
use Rattle.rf233_const.specs.declared.trx_state.RF233TrxCmd.TheVariants as cmd
use Rattle.rf233.specs.Driver.Assignment.{put}
use Rattle.rf233.specs.Driver.Flag.{transmitting, receiving}
use Rattle.rf233.specs.Record.{buffer_in}
use Rattle.rf233.specs.Rows.{Access, Shown, Tree, status_is, status_busy, stay, enter, read, order, commands}
use Rattle.rf233.specs.Rows.Access.{none, reads, writes_frame}
use Rattle.rf233.specs.Rows.Next.{to}
use Rattle.rf233.specs.Rows.Row.{does}
use Rattle.rf233.specs.Rows.Shown.{sent_back, dropped_back}
use Rattle.rf233.specs.Rows.Test.{listens}
use Rattle.rf233.specs.Rows.Tree.{leaf, ask}
use Rattle.rf233.specs.declared.action.Action.{Action}
use Rattle.rf233.specs.declared.action.Action.TheVariants.{Sent}
use Rattle.rf233.specs.declared.driver.Client.TheVariants as listener
use Rattle.rf233.specs.declared.driver.Lent.{Lent}
use Rattle.rf233.specs.declared.state.InternalState.{InternalState}
use Rattle.rf233.specs.declared.state.InternalState.TheVariants.{READY, RX}
use Rattle.rf233.specs.declared.state.InternalState.TheVariants as state

-- acknowledged exactly at TRAC_STATUS SUCCESS
abbrev pub acknowledged : ℕ → Bool
acknowledged result = eqb (trac_bits result) trac_success

-- failed exactly at CHANNEL_ACCESS_FAILURE
abbrev pub failed : ℕ → Bool
failed result = eqb (trac_bits result) trac_channel_access_failure

-- the notice of a sent frame, whose buffer is in this place
abbrev pub send_done : Option Lent → ℕ → Action
send_done x result = Sent (buffer_in x) (acknowledged result) (failed result)

-- 38: the radio is on its way to transmitting
abbrev sends : Access → InternalState → Tree
sends x n = leaf (does (put transmitting true ∷ []) x (to n) [])

-- 43: the frame was sent, and its buffer goes back
abbrev sent_then : Shown → Tree
sent_then s = leaf (does (put transmitting false ∷ []) (reads TRX_STATUS) (to READY) (s ∷ []))

-- the cases of the states 33 to 44
abbrev pub transmit_trees : List Tree
transmit_trees =
    ask status_busy (enter state.TX_PENDING) (leaf (does [] writes_frame (to state.TX_WRITING_FRAME) []))
    ∷ stay
    ∷ read TRX_STATUS state.TX_STATUS_PRECHECK2
    ∷ ask status_busy (leaf (does (put receiving true ∷ []) none (to RX) [])) (order cmd.PLL_ON state.TX_PLL_START)
    ∷ read TRX_STATUS state.TX_PLL_WAIT
    ∷ ask (status_is external.STATE_TRANSITION_IN_PROGRESS) (sends (reads TRX_STATUS) state.TX_PLL_WAIT)
    (ask (status_is external.PLL_ON) (sends (commands cmd.TX_ARET_ON) state.TX_ARET_ON)
    (sends (commands cmd.PLL_ON) state.TX_PLL_WAIT))
    ∷ order cmd.TX_START state.TX_TRANSMITTING
    ∷ stay
    ∷ read TRX_STATE state.TX_RETURN_TO_RX
    ∷ order cmd.RX_AACK_ON state.TX_READ_ACK
    ∷ ask (status_is external.RX_AACK_ON) (ask (listens listener.Transmit) (sent_then sent_back) (sent_then dropped_back))
    (read TRX_STATUS state.TX_RETURN_TO_RX)
    ∷ stay
    ∷ []
