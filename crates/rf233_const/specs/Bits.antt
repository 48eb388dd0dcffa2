-- Bit fields as the datasheet's register tables have them: bits are numbered from 0, the lowest.
use Rattle.std.specs.Prelude.{ℕ, ◌*◌, ◌/◌, ◌%◌, ◌^◌, Bool, eqb}

-- The value of the field of w bits whose lowest is bit k.
abbrev pub bit_field : ℕ → ℕ → ℕ → ℕ
bit_field k w x = x / 2 ^ k % 2 ^ w

-- A field's value put at its place: the number whose field from bit k is v and whose other bits are 0.
abbrev pub field_at : ℕ → ℕ → ℕ
field_at k v = v * 2 ^ k

-- Whether bit k is 1.
abbrev pub bit_set : ℕ → ℕ → Bool
bit_set k x = eqb (bit_field k 1 x) 1
