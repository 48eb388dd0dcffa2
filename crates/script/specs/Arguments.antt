-- What may stand after a line's name: its form, what a line of the form is read as, and the bytes that it names.
use Rattle.std.specs.Prelude.{
  ℕ,
  ◌-◌,
  ◌^◌,
  Bool,
  true,
  cond,
  ◌&&◌,
  List,
  [],
  ◌∷◌,
  eqb,
  leb,
  ℤ,
  pos,
  ◌-ℤ◌,
  length,
  Option,
  Some,
  None,
  is_some,
  unwrap_or,
  option_map,
  ok_or,
  Result,
  Ok,
  Err,
}
use Rattle.std.specs.Result.{result_map_both}
use Rattle.script.specs.declared.line.Line.{Line}
use Rattle.script.specs.declared.line.Malformed.{Malformed}
use Rattle.script.specs.Words.{malformed, others, number_in, last_flag}

-- any number below 2 ^ 64
abbrev pub any : ℕ
any = 2 ^ 64 - 1

-- a line that takes so many numbers
abbrev pub Takes : List ℕ → Type 0
Takes [] = Line
Takes (greatest ∷ others) = ℕ → Takes others

-- what stands after a name, and what it is read as
pub data Form : Type 0 where
  -- a number for each greatest value, and no other word
  numbers : (greatest : List ℕ) → Takes greatest → Form
  -- one number, 1 or 0
  flag : (Bool → Line) → Form
  -- a power, -128 to 127
  power : (ℤ → Line) → Form
  -- bytes, so many at least and at most
  bytes : ℕ → ℕ → (List ℕ → Line) → Form
  -- a place in an area of so many bytes, and bytes that do not go past its end
  placed : ℕ → (ℕ → List ℕ → Line) → Form
  -- no line has this form
  none : Form

-- what a number is read as, where there is one
abbrev pub read_number : Option ℕ → (ℕ → Result Line Malformed) → Result Line Malformed
read_number None read = Err malformed
read_number (Some v) read = read v

-- a number for each greatest value
unfoldable pub read_numbers : (greatest : List ℕ) → Takes greatest → List (List ℕ) → Result Line Malformed
read_numbers [] line [] = Ok line
read_numbers [] line (w ∷ ws) = Err malformed
read_numbers (g ∷ gs) read [] = Err malformed
read_numbers (g ∷ gs) read (w ∷ ws) = read_number (number_in g w) (λ v. read_numbers gs (read v) ws)

-- a word that says a power: a minus and a size of at most 128, or a number of at most 127
unfoldable pub read_signed : (ℤ → Line) → List ℕ → Option Line
read_signed read [] = None
read_signed read (b ∷ w) =
    cond (eqb b 45)
    (option_map (λ size. read (pos 0 -ℤ pos size)) (number_in 128 w))
    (option_map (λ size. read (pos size)) (number_in 127 (b ∷ w)))

-- one such word
unfoldable pub read_power : (ℤ → Line) → List (List ℕ) → Result Line Malformed
read_power read [] = Err malformed
read_power read (w ∷ []) = ok_or (read_signed read w) malformed
read_power read (w ∷ (v ∷ ws)) = Err malformed

-- every word says a byte
unfoldable pub all_bytes : List (List ℕ) → Bool
all_bytes [] = true
all_bytes (w ∷ ws) = is_some (number_in 255 w) && all_bytes ws

-- the bytes that they say
unfoldable pub bytes_said : List (List ℕ) → List ℕ
bytes_said [] = []
bytes_said (w ∷ ws) = unwrap_or (number_in 255 w) 0 ∷ bytes_said ws

-- the words say bytes, at most so many, and there is room for them
unfoldable pub are_bytes : ℕ → ℕ → List (List ℕ) → Bool
are_bytes most room ws = all_bytes ws && (leb (length ws) most && leb (length ws) room)

-- how many bytes they say
unfoldable pub count_of : ℕ → ℕ → List (List ℕ) → Result ℕ Malformed
count_of most room ws = cond (are_bytes most room ws) (Ok (length ws)) (Err malformed)

-- bytes, so many at least and at most
unfoldable pub read_bytes : ℕ → ℕ → (List ℕ → Line) → ℕ → List (List ℕ) → Result Line Malformed
read_bytes least most read room ws =
    cond (are_bytes most room ws && leb least (length ws)) (Ok (read (bytes_said ws))) (Err malformed)

-- a place, and bytes up to the area's end
unfoldable pub read_placed : ℕ → (ℕ → List ℕ → Line) → ℕ → List (List ℕ) → Result Line Malformed
read_placed area read room [] = Err malformed
read_placed area read room (w ∷ ws) = read_number (number_in area w) (λ at. read_bytes 0 (area - at) (read at) room ws)

-- what the words after a name are read as, where there is room for so many bytes
abbrev pub read_as : Form → ℕ → List (List ℕ) → Result Line Malformed
read_as (numbers greatest read) room ws = read_numbers greatest read ws
read_as (flag read) room ws = result_map_both read (λ e. e) (last_flag ws)
read_as (power read) room ws = read_power read ws
read_as (bytes least most read) room ws = read_bytes least most read room ws
read_as (placed area read) room ws = read_placed area read room ws
read_as none room ws = Err malformed

-- the bytes that they name
abbrev pub named : Form → List (List ℕ) → List ℕ
named (numbers greatest read) ws = []
named (flag read) ws = []
named (power read) ws = []
named (bytes least most read) ws = bytes_said ws
named (placed area read) ws = bytes_said (others ws)
named none ws = []
