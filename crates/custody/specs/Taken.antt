-- What the code's book has of a transfer, as the numbers of the definition.
use Rattle.std.specs.Prelude.{ℕ, ◌+◌, Option, None, Some}
use Rattle.rf233.specs.Transfer.{kind_value}
use Rattle.custody.specs.declared.taken.Kind.{Kind}
use Rattle.custody.specs.declared.taken.Kind.TheVariants.{Known, Unknown}
use Rattle.custody.specs.declared.taken.Taken.{Taken}

-- the number of a kind: document 01's, or one above 4 where there is no such kind
abbrev pub kind_number : Kind → ℕ
kind_number (Known k) = kind_value k
kind_number (Unknown n) = n + 5

-- 0 where there is no kind
abbrev pub number_or_none : Option Kind → ℕ
number_or_none None = 0
number_or_none (Some k) = kind_number k

-- the kind of a transfer and its two buffers, 0 where there is none
abbrev pub taken_kind : Option Taken → ℕ
taken_kind None = 0
taken_kind (Some t) = kind_number t.kind

abbrev pub taken_write : Option Taken → ℕ
taken_write None = 0
taken_write (Some t) = t.write

abbrev pub taken_read : Option Taken → ℕ
taken_read None = 0
taken_read (Some t) = t.read
