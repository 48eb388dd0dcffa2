-- How a state's own case is written down (document 01, "What a step does"): a small decision tree, whose tests are named conditions and
-- whose leaves are rows. A row says which flags are set, what is started, the next state, and the actions in order. The trees of the states
-- stand in Startup, Ready, Sleep, Transmit, Commit and Receive; Case has them all, and carries a row out.
use Rattle.std.specs.Prelude.{ℕ, Bool, List, [], ◌∷◌}
use Rattle.rf233_const.specs.Status as status
use Rattle.rf233_const.specs.declared.register.RF233Register.{RF233Register}
use Rattle.rf233_const.specs.declared.register.RF233Register.TheVariants.{TRX_STATE}
use Rattle.rf233_const.specs.declared.status.ExternalState.{ExternalState}
use Rattle.rf233_const.specs.declared.status.ExternalState.TheVariants as external
use Rattle.rf233_const.specs.declared.trx_state.RF233TrxCmd.{RF233TrxCmd}
use Rattle.rf233.specs.Choice.{pick, one_of}
use Rattle.rf233.specs.Driver.{Flag, Assignment, flag, client}
use Rattle.rf233.specs.Driver.Flag.{transmitting}
use Rattle.rf233.specs.Reception.{in_range}
use Rattle.rf233.specs.declared.action.Action.{Action}
use Rattle.rf233.specs.declared.arrived.Arrived.{Arrived}
use Rattle.rf233.specs.declared.driver.Client.{Client}
use Rattle.rf233.specs.declared.driver.Driver.{Driver}
use Rattle.rf233.specs.declared.state.InternalState.{InternalState}
use Rattle.rf233.specs.declared.state.InternalState.TheVariants.{READY, TX_STATUS_PRECHECK1}
use Rattle.rf233.specs.declared.write.Value.{Value}
use Rattle.rf233.specs.declared.write.Value.TheVariants.{Command}
use Rattle.rf233.specs.declared.write.Write.{Write}

-- a condition: on the status that arrived, on the held length, on whether the frame is spoiled, on a flag, on a listener
pub data Test : Type 0 where
  status_in : List ℕ → Test
  length_fits is_spoiled : Test
  is_set : Flag → Test
  listens : Client → Test

-- what a row starts: nothing, a register access, a frame read of the length alone, of as many bytes as the held length says, a frame write
pub data Access : Type 0 where
  none : Access
  reads : RF233Register → Access
  writes : RF233Register → Value → Access
  reads_length reads_frame writes_frame : Access

-- what a row shows: an action as it stands; a notice to the power or the config listener, if it is there; a buffer handed back, with
-- values from the driver and the arrived bytes; of a received buffer that nobody listens for, nothing: it goes to the end of the line
pub data Shown : Type 0 where
  plain : Action → Shown
  power_changed config_done sent_back dropped_back received_back received_kept : Shown

-- the state stays, or is this one
pub data Next : Type 0 where
  same : Next
  to : InternalState → Next

-- a row: flags set, access, next state, actions
pub data Row : Type 0 where
  does : List Assignment → Access → Next → List Shown → Row

-- a row, or a condition that leads to one of two trees
pub data Tree : Type 0 where
  leaf : Row → Tree
  ask : Test → Tree → Tree → Tree

-- whether a condition holds
unfoldable pub holds : Test → Arrived → Driver → Bool
holds (status_in l) a d = one_of l a.status
holds length_fits a d = in_range d.reception
holds is_spoiled a d = d.reception.spoiled
holds (is_set f) a d = flag f d.flags
holds (listens c) a d = client c d.clients

-- the row that the conditions lead to
unfoldable pub eval : Tree → Arrived → Driver → Row
eval (leaf r) a d = r
eval (ask t u v) a d = pick (holds t a d) (eval u a d) (eval v a d)

-- the status is this one
abbrev pub status_is : ExternalState → Test
status_is s = status_in (status.status_value s ∷ [])

-- the receiver is busy
abbrev pub status_busy : Test
status_busy =
    status_in (status.status_value external.BUSY_RX_AACK ∷ status.status_value external.BUSY_TX_ARET
    ∷ status.status_value external.BUSY_RX ∷ [])

-- nothing is done
abbrev pub stay : Tree
stay = leaf (does [] none same [])

-- nothing is started; the state is n
abbrev pub enter : InternalState → Tree
enter n = leaf (does [] none (to n) [])

-- a register is read
abbrev pub read : RF233Register → InternalState → Tree
read r n = leaf (does [] (reads r) (to n) [])

-- the write of a table's row
abbrev pub write : Write → Tree
write w = leaf (does [] (writes w.register w.value) (to w.next) [])

-- a command to the radio, as what a row starts
abbrev pub commands : RF233TrxCmd → Access
commands c = writes TRX_STATE (Command c)

-- a command to the radio
abbrev pub order : RF233TrxCmd → InternalState → Tree
order c n = leaf (does [] (commands c) (to n) [])

-- the next of two states, by whether a frame waits to be sent
abbrev pub onward : (InternalState → Tree) → Tree
onward f = ask (is_set transmitting) (f TX_STATUS_PRECHECK1) (f READY)
