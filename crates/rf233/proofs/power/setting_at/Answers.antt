-- `setting_at` meets its contract, the table's rule. The table in the code is the list of the settings for the powers from -128 on: a test
-- that is computed over the whole table. One law (`listed`) says what such a list has at each place. Assumes nothing.
use Rattle.std.proofs.Common.{ℕ, ap, ◌∙◌, zero-add}
use Rattle.rf233.specs.Power.{power_at, power_to_setting}
use Rattle.rf233.proofs.Tables.{listed}
use Rattle.rf233.proofs.power.setting_at.Goals as goal

-- what entry k has to be
abbrev rule : ℕ → ℕ
rule k = power_to_setting (power_at k)

pub returns : goal.returns
returns c = listed rule 0 256 c.args.k 0 c.ranges.k.fits ∙ ap rule (zero-add c.args.k)
