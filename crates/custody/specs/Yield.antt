-- A step's yield (document 01: at most one transfer and at most six actions): said of every call on every driver value.
use Rattle.std.specs.Prelude.{◌≡◌, ℕ, ◌+◌, ◌<◌, ◌≤◌, true, List, [], ◌∷◌, length, slice_index_or}
use Rattle.rf233.specs.Record.{one}
use Rattle.rf233.specs.Transfer.{kind_no}
use Rattle.rf233.specs.declared.action.Action.TheVariants.{Nothing}
use Rattle.rf233.specs.declared.action.Action.{Action}
use Rattle.rf233.specs.declared.answer.Reply.{Reply}
use Rattle.rf233.specs.declared.driver.Driver.{Driver}
use Rattle.custody.specs.Book.{is_act}
use Rattle.rf233.specs.Calls.{Call, yields}

-- how many of the places hold an action, one that is not `Nothing`
abbrev pub act_count : List Action → ℕ
act_count [] = 0
act_count (x ∷ more) = one (is_act x) + act_count more

-- what a reply holds. It has one place for a transfer, and so at most one
pub record Yield (y : Reply) : Type 0 where
  -- of one of the four kinds, or none (0)
  pub transfer : kind_no y.transfer ≤ 4
  -- six places for actions
  pub places : length y.actions.items ≡ 6
  -- the count is at most six, and is that of the actions that are not `Nothing`
  pub most : y.actions.count ≤ 6
  pub counted : y.actions.count ≡ act_count y.actions.items
  -- which stand in the first places
  pub first : (k : ℕ) → k < y.actions.count → is_act (slice_index_or y.actions.items k Nothing) ≡ true

abbrev pub SixActions : Type 0
SixActions = (d : Driver) (c : Call) (p : List ℕ) → Yield (yields d c p).reply
