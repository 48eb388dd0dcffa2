-- Each state's own case: the trees of the 69 states, and what carries a row out (document 01, "What a step does").
use Rattle.std.specs.Prelude.{ℕ, List, [], ◌∷◌, ◌++◌, get_or, None}
use Rattle.rf233.specs.Action.{actions}
use Rattle.rf233.specs.Step.{quiet, step_of}
use Rattle.rf233.specs.Choice.{pick}
use Rattle.rf233.specs.Commit.{commit_trees}
use Rattle.rf233.specs.Driver.{client, assigning, with_state, with_buffers, with_tx, with_line}
use Rattle.rf233.specs.Line.{line, behind, rotate}
use Rattle.rf233.specs.Ready.{ready_trees}
use Rattle.rf233.specs.Receive.{received, receive_trees}
use Rattle.rf233.specs.Record.{buffer_in}
use Rattle.rf233.specs.Rows.{Access, Shown, Next, Row, Tree, eval, stay}
use Rattle.rf233.specs.Rows.Access.{none, reads, writes, reads_length, reads_frame, writes_frame}
use Rattle.rf233.specs.Rows.Next.{same, to}
use Rattle.rf233.specs.Rows.Row.{does}
use Rattle.rf233.specs.Rows.Shown.{plain, power_changed, config_done, sent_back, dropped_back, received_back, received_kept}
use Rattle.rf233.specs.Sleep.{sleep_trees}
use Rattle.rf233.specs.Startup.{startup_trees}
use Rattle.rf233.specs.State.{state_no}
use Rattle.rf233.specs.Starter.{register_read, register_write, frame_read, frame_write}
use Rattle.rf233.specs.Transmit.{send_done, transmit_trees}
use Rattle.rf233.specs.Write.{value_of}
use Rattle.rf233.specs.declared.action.Action.{Action}
use Rattle.rf233.specs.declared.action.Action.TheVariants.{Power, ConfigDone, Dropped}
use Rattle.rf233.specs.declared.action.Actions.{Actions}
use Rattle.rf233.specs.declared.answer.Outcome.{Outcome}
use Rattle.rf233.specs.declared.arrived.Arrived.{Arrived}
use Rattle.rf233.specs.declared.driver.Buffers.{Buffers}
use Rattle.rf233.specs.declared.driver.Client.TheVariants as listener
use Rattle.rf233.specs.declared.driver.Driver.{Driver}

-- the case of each state, in the order of document 01's numbers
unfoldable pub trees : List Tree
trees = startup_trees ++ (ready_trees ++ (sleep_trees ++ (transmit_trees ++ (commit_trees ++ receive_trees))))

-- the case of state n
unfoldable pub tree_at : ℕ → Tree
tree_at n = get_or trees n stay

-- an action of a row put before others, from the driver after its assignments and before the buffer leaves its place
abbrev pub show : Arrived → Driver → Shown → List Action → List Action
show a d (plain x) l = x ∷ l
show a d power_changed l = pick (client listener.Power d.clients) (Power d.flags.radio_on ∷ l) l
show a d config_done l = pick (client listener.Config d.clients) (ConfigDone ∷ l) l
show a d sent_back l = send_done d.buffers.tx_buf a.result ∷ l
show a d dropped_back l = Dropped (buffer_in d.buffers.tx_buf) ∷ l
show a d received_back l = received d ∷ l
show a d received_kept l = l

-- the actions of a row, in order
abbrev pub shown : Arrived → Driver → List Shown → List Action
shown a d [] = []
shown a d (s ∷ more) = show a d s (shown a d more)

-- the record with the transmit place emptied
abbrev pub without_tx : Buffers → Buffers
without_tx b = with_tx None b

-- the record without the front of the line
abbrev pub without_front : Buffers → Buffers
without_front b = with_line (behind (line b)) b

-- the record with the front of the line at its end
abbrev pub rotated : Buffers → Buffers
rotated b = with_line (rotate (line b)) b

-- the record once the buffers that a row's actions hand back have left their places, and one that is kept has gone to the end of the line
abbrev pub handed : List Shown → Buffers → Buffers
handed [] b = b
handed (plain x ∷ more) b = handed more b
handed (power_changed ∷ more) b = handed more b
handed (config_done ∷ more) b = handed more b
handed (sent_back ∷ more) b = handed more (without_tx b)
handed (dropped_back ∷ more) b = handed more (without_tx b)
handed (received_back ∷ more) b = handed more (without_front b)
handed (received_kept ∷ more) b = handed more (rotated b)

-- the step of an access, with these actions
abbrev pub accessed : Access → Arrived → Actions → Driver → Outcome
accessed none a l d = quiet d l
accessed (reads r) a l d = step_of (register_read r d) l
accessed (writes r v) a l d = step_of (register_write r (value_of v d.settings) d) l
accessed reads_length a l d = step_of (frame_read 0 d) l
accessed reads_frame a l d = step_of (frame_read d.reception.length d) l
accessed writes_frame a l d = step_of (frame_write d) l

-- the driver in the next state
abbrev pub entering : Next → Driver → Driver
entering same d = d
entering (to n) d = with_state n d

-- a row carried out: flags, state, buffers handed back, access, actions
unfoldable pub perform : Row → Arrived → Driver → Outcome
perform (does l x n s) a d =
    let e = entering n (assigning a.result l d) in
    accessed x a (actions (shown a e s)) (with_buffers (handed s e.buffers) e)

-- the case of state number n
unfoldable pub case_of : ℕ → Arrived → Driver → Outcome
case_of n a d = perform (eval (tree_at n) a d) a d

-- the state's own case
abbrev pub own_case : Arrived → Driver → Outcome
own_case a d = case_of (state_no d.state) a d
