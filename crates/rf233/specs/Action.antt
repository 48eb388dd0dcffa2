-- Document 01: a step yields at most six actions, in order. A list of them as the code holds it: how many, and six places, filled up
-- with `Nothing`.
use Rattle.std.specs.Prelude.{ℕ, List, ◌++◌, length, take, replicate}
use Rattle.rf233.specs.declared.action.Action.{Action}
use Rattle.rf233.specs.declared.action.Action.TheVariants.{Nothing}
use Rattle.rf233.specs.declared.action.Actions.{Actions}

-- six places, and how many of them count
abbrev pub padded : ℕ → List Action → Actions
padded n l = record { count = n; items = l }

-- the list of these actions, of which there are at most six
abbrev pub actions : List Action → Actions
actions l = padded (length l) (take 6 (l ++ replicate 6 Nothing))
