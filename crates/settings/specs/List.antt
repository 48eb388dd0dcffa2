-- The list of settings (request 2026-03): "the setting for each of the 256 values of a signed byte".
use Rattle.std.specs.Prelude.{ℕ}
use Rattle.rf233.specs.Power.{power_at, power_to_setting}
use Rattle.settings.specs.declared.list.Entry.{Entry}

-- what line k has, counted from 0: the power k - 128, and document 01's setting for it
abbrev pub entry_at : ℕ → Entry
entry_at k = record { power = power_at k; setting = power_to_setting (power_at k) }
