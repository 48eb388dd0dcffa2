-- Transmit power (AT86RF233 datasheet, PHY_TX_PWR, TX_PWR[3:0]): what each setting radiates, in dBm rounded to a whole number, and the
-- setting that document 01 gives for a wish.
use Rattle.std.specs.Prelude.{ℕ, zero, suc, Bool, cond, ◌&&◌, List, [], ◌∷◌, ℤ, pos, negsuc, ◌-ℤ◌, get_or}
use Rattle.std.specs.Int.Signed.{le_z}

-- a number below zero
abbrev pub minus : ℕ → ℤ
minus zero = pos 0
minus (suc n) = negsuc n

-- what the settings 0 to 15 radiate
abbrev pub levels : List ℤ
levels =
    pos 4 ∷ pos 4 ∷ pos 3 ∷ pos 3 ∷ pos 2 ∷ pos 2 ∷ pos 1 ∷ pos 0
    ∷ minus 1 ∷ minus 2 ∷ minus 3 ∷ minus 4 ∷ minus 6 ∷ minus 8 ∷ minus 12 ∷ minus 17 ∷ []

-- a setting past the last is answered with -127
abbrev pub setting_to_power : ℕ → ℤ
setting_to_power n = get_or levels n (minus 127)

-- a setting, and the least wish that it serves
pub data Serves : Type 0 where
  from : ℤ → ℕ → Serves

-- the settings in use, strongest first
abbrev pub served : List Serves
served =
    from (pos 4) 0x00 ∷ from (pos 3) 0x03 ∷ from (pos 2) 0x05 ∷ from (pos 1) 0x06 ∷ from (pos 0) 0x07
    ∷ from (minus 1) 0x08 ∷ from (minus 2) 0x09 ∷ from (minus 3) 0x0A ∷ from (minus 4) 0x0B
    ∷ from (minus 6) 0x0C ∷ from (minus 8) 0x0D ∷ from (minus 12) 0x0E ∷ []

-- the first setting that serves the wish, or the weakest
abbrev pub first_serving : List Serves → ℤ → ℕ
first_serving [] p = 0x0F
first_serving (from least n ∷ more) p = cond (le_z least p) n (first_serving more p)

-- the setting for a wish
abbrev pub power_to_setting : ℤ → ℕ
power_to_setting p = first_serving served p

-- the power that entry k of the table of 256 settings is for (request 2026-03: "indexed by power plus 128")
abbrev pub power_at : ℕ → ℤ
power_at k = pos k -ℤ pos 128

-- document 01, refusal 5: a wish from -17 to 4 is taken
abbrev pub power_fits : ℤ → Bool
power_fits p = le_z (minus 17) p && le_z p (pos 4)
