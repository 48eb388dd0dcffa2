-- The actions of a row: those that it names outright, and the notices that it makes of the driver and of what arrived. Where the former
-- pass a test, which is asked of the row alone, and so does each of the notices, every action of the row does (`all_pass`).
-- Assumes nothing.
use Rattle.std.proofs.Common.{Bool, true, ◌&&◌, T, List, [], ◌∷◌}
use Rattle.std.specs.List.{list_all}
use Rattle.laws.proofs.Logic.{left, right, pair}
use Rattle.rf233.specs.Case.{shown}
use Rattle.rf233.specs.Receive.{received}
use Rattle.rf233.specs.Record.{buffer_in}
use Rattle.rf233.specs.Rows.{Shown}
use Rattle.rf233.specs.Rows.Shown.{plain, power_changed, config_done, sent_back, dropped_back, received_back, received_kept}
use Rattle.rf233.specs.Transmit.{send_done}
use Rattle.rf233.specs.declared.action.Action.{Action}
use Rattle.rf233.specs.declared.action.Action.TheVariants.{Power, ConfigDone, Dropped}
use Rattle.rf233.specs.declared.arrived.Arrived.{Arrived}
use Rattle.rf233.specs.declared.driver.Driver.{Driver}
use Rattle.rf233.proofs.ChoiceLaws.{either}

-- each of the actions passes the test
abbrev pub passes : (Action → Bool) → List Action → Bool
passes = list_all

-- those that a row names outright do
abbrev pub plainly : (Action → Bool) → List Shown → Bool
plainly f [] = true
plainly f (plain x ∷ more) = f x && plainly f more
plainly f (power_changed ∷ more) = plainly f more
plainly f (config_done ∷ more) = plainly f more
plainly f (sent_back ∷ more) = plainly f more
plainly f (dropped_back ∷ more) = plainly f more
plainly f (received_back ∷ more) = plainly f more
plainly f (received_kept ∷ more) = plainly f more

-- and so does whatever notice a row makes
pub record Notices (f : Action → Bool) (a : Arrived) (d : Driver) : Type 0 where
  pub power : T (f (Power d.flags.radio_on))
  pub config : T (f ConfigDone)
  pub sent : T (f (send_done d.buffers.tx_buf a.result))
  pub dropped : T (f (Dropped (buffer_in d.buffers.tx_buf)))
  pub received : T (f (received d))

module _ (f : Action → Bool) (a : Arrived) (d : Driver) (n : Notices f a d) where
  abbrev Pass : List Action → Type 0
  Pass l = T (passes f l)

  pub all_pass : (s : List Shown) → T (plainly f s) → Pass (shown a d s)
  all_pass [] t = tt
  all_pass (plain x ∷ s) t = pair (f x) _ (left (f x) _ t) (all_pass s (right (f x) _ t))
  all_pass (power_changed ∷ s) t = either Pass _ _ _ (pair (f _) _ n.power (all_pass s t)) (all_pass s t)
  all_pass (config_done ∷ s) t = either Pass _ _ _ (pair (f _) _ n.config (all_pass s t)) (all_pass s t)
  all_pass (sent_back ∷ s) t = pair (f _) _ n.sent (all_pass s t)
  all_pass (dropped_back ∷ s) t = pair (f _) _ n.dropped (all_pass s t)
  all_pass (received_back ∷ s) t = pair (f _) _ n.received (all_pass s t)
  all_pass (received_kept ∷ s) t = all_pass s t
