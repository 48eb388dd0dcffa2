-- What a line of a script asks for: one of the calls that the claims of custody and of traces speak of, a new driver, or neither. And what
-- is then done.
use Rattle.std.specs.Prelude.{ℕ, List, [], take}
use Rattle.rf233.specs.Calls.{Call, made, with_pool}
use Rattle.rf233.specs.Calls.Call.{
  start,
  stop,
  commit,
  fire,
  query,
  declined,
  resume,
  complete,
  transmit,
  receive_buffer,
  reset,
  address,
  pan,
  channel,
  address_long,
  power,
  listener,
}
use Rattle.rf233.specs.Action.{actions}
use Rattle.rf233.specs.Create.{new_call}
use Rattle.rf233.specs.Guard.{Called}
use Rattle.rf233.specs.Step.{quiet}
use Rattle.rf233.specs.declared.driver.Client.TheVariants as listeners
use Rattle.rf233.specs.declared.driver.Driver.{Driver}
use Rattle.script.specs.declared.line.Line.{Line}
use Rattle.script.specs.declared.line.Line.TheVariants as line

-- a call; a new driver of a length of spi_buf and a channel; or, of a line that stands around the calls, nothing of the driver
pub data Asked : Type 0 where
  calls : Call → Asked
  makes : ℕ → ℕ → Asked
  nothing : Asked

-- what a line asks for, where the bytes that it names stand first among xs. A completion brings as many of them as the line counts; all,
-- where there are fewer
unfoldable pub asked : Line → List ℕ → Asked
asked (line.New l c) xs = makes l c
asked line.Start xs = calls start
asked line.Stop xs = calls stop
asked line.ConfigCommit xs = calls commit
asked line.Fired xs = calls fire
asked line.Declined xs = calls declined
asked line.Resume xs = calls resume
asked (line.Transmit b l n) xs = calls (transmit b l n)
asked (line.SetReceiveBuffer b l) xs = calls (receive_buffer b l)
asked (line.ReadWriteDone n) xs = calls (complete (take n xs))
asked (line.Reset v) xs = calls (reset v)
asked (line.SetAddress a) xs = calls (address a)
asked (line.SetPan p) xs = calls (pan p)
asked (line.SetAddressLong l) xs = calls (address_long l)
asked (line.SetTxPower t) xs = calls (power t)
asked (line.SetChannel c) xs = calls (channel c)
asked (line.SetPowerClient v) xs = calls (listener listeners.Power v)
asked (line.SetTransmitClient v) xs = calls (listener listeners.Transmit v)
asked (line.SetReceiveClient v) xs = calls (listener listeners.Receive v)
asked (line.SetConfigClient v) xs = calls (listener listeners.Config v)
asked line.Initialize xs = calls query
asked line.IsOn xs = calls query
asked line.Busy xs = calls query
asked line.GetAddress xs = calls query
asked line.GetAddressLong xs = calls query
asked line.GetPan xs = calls query
asked line.GetTxPower xs = calls query
asked line.GetChannel xs = calls query
asked (line.Pool a n) xs = nothing
asked (line.PoolLength n) xs = nothing
asked line.Mark xs = nothing
asked line.Back xs = nothing

-- what it yields on a driver with this pool, and the pool after it; where nothing is asked of the driver, nothing changes
unfoldable pub performed : Driver → Asked → List ℕ → Called
performed d (calls c) p = made d c p
performed d (makes l c) p = with_pool (new_call l c) p
performed d nothing p = with_pool (quiet d (actions [])) p
