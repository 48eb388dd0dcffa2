-- The lines of a script: the table of names and forms, and what a line is read as.
use Prim.Native.String.{String}
use Rattle.std.specs.Prelude.{
  ℕ,
  Bool,
  true,
  cond,
  List,
  [],
  ◌∷◌,
  ◌++◌,
  eqb,
  ltb,
  length,
  codes,
  bytes_eq,
  Option,
  Some,
  None,
  Result,
  Ok,
  Err,
}
use Rattle.script.specs.declared.line.Malformed.{Malformed}
use Rattle.script.specs.declared.line.Line.{Line}
use Rattle.script.specs.declared.line.Line.TheVariants.{
  New,
  Start,
  Stop,
  ConfigCommit,
  Fired,
  Declined,
  Resume,
  Transmit,
  SetReceiveBuffer,
  ReadWriteDone,
  Reset,
  SetAddress,
  SetPan,
  SetAddressLong,
  SetTxPower,
  SetChannel,
  SetPowerClient,
  SetTransmitClient,
  SetReceiveClient,
  SetConfigClient,
  Initialize,
  IsOn,
  Busy,
  GetAddress,
  GetAddressLong,
  GetPan,
  GetTxPower,
  GetChannel,
  Pool,
  PoolLength,
  Mark,
  Back,
}
use Rattle.script.specs.Words.{malformed, words_of}
use Rattle.script.specs.Arguments.{any, Form, numbers, flag, power, bytes, placed, none, read_as, named}

-- a name, and the form of what stands after it
pub record Row : Type 0 where
  pub name : List ℕ
  pub form : Form

abbrev pub row : String → Form → Row
row name form = record { name = codes name; form = form }

-- calls
abbrev pub call_rows : List Row
call_rows =
    row "new" (numbers (any ∷ 255 ∷ []) New)
    ∷ row "start" (numbers [] Start)
    ∷ row "stop" (numbers [] Stop)
    ∷ row "config_commit" (numbers [] ConfigCommit)
    ∷ row "fired" (numbers [] Fired)
    ∷ row "declined" (numbers [] Declined)
    ∷ row "resume" (numbers [] Resume)
    ∷ row "read_write_done" (bytes 0 160 (λ bs. ReadWriteDone (length bs)))
    ∷ row "transmit" (numbers (any ∷ any ∷ any ∷ []) Transmit)
    ∷ row "set_receive_buffer" (numbers (any ∷ any ∷ []) SetReceiveBuffer)
    ∷ row "reset" (flag Reset)
    ∷ []

-- settings
abbrev pub setting_rows : List Row
setting_rows =
    row "set_address" (numbers (65535 ∷ []) SetAddress)
    ∷ row "set_pan" (numbers (65535 ∷ []) SetPan)
    ∷ row "set_address_long" (bytes 8 8 SetAddressLong)
    ∷ row "set_tx_power" (power SetTxPower)
    ∷ row "set_channel" (numbers (255 ∷ []) SetChannel)
    ∷ []

-- whether a listener is present
abbrev pub listener_rows : List Row
listener_rows =
    row "set_power_client" (flag SetPowerClient)
    ∷ row "set_transmit_client" (flag SetTransmitClient)
    ∷ row "set_receive_client" (flag SetReceiveClient)
    ∷ row "set_config_client" (flag SetConfigClient)
    ∷ []

-- calls that take nothing and return something, and `initialize`
abbrev pub query_rows : List Row
query_rows =
    row "initialize" (numbers [] Initialize)
    ∷ row "is_on" (numbers [] IsOn)
    ∷ row "busy" (numbers [] Busy)
    ∷ row "get_address" (numbers [] GetAddress)
    ∷ row "get_address_long" (numbers [] GetAddressLong)
    ∷ row "get_pan" (numbers [] GetPan)
    ∷ row "get_tx_power" (numbers [] GetTxPower)
    ∷ row "get_channel" (numbers [] GetChannel)
    ∷ []

-- lines that are not calls
abbrev pub around_rows : List Row
around_rows =
    row "pool" (placed 4096 (λ at bs. Pool at (length bs)))
    ∷ row "pool_length" (numbers (4096 ∷ []) PoolLength)
    ∷ row "mark" (numbers [] Mark)
    ∷ row "back" (numbers [] Back)
    ∷ []

-- each part of the table with those after it
abbrev pub from_queries : List Row
from_queries = query_rows ++ around_rows

abbrev pub from_listeners : List Row
from_listeners = listener_rows ++ from_queries

abbrev pub from_settings : List Row
from_settings = setting_rows ++ from_listeners

abbrev pub table : List Row
table = call_rows ++ from_settings

-- the form of a name; one that is not in the table has none
unfoldable pub form_of : List Row → List ℕ → Form
form_of [] name = none
form_of (r ∷ rows) name = cond (bytes_eq name r.name) r.form (form_of rows name)

-- a line's words: its name, and those after it
abbrev pub read_words : ℕ → List (List ℕ) → Result Line Malformed
read_words room [] = Err malformed
read_words room (name ∷ ws) = read_as (form_of table name) room ws

abbrev pub named_words : List (List ℕ) → List ℕ
named_words [] = []
named_words (name ∷ ws) = named (form_of table name) ws

-- an empty line, or one that begins with `#`
abbrev pub is_passed : List ℕ → Bool
is_passed [] = true
is_passed (b ∷ s) = eqb b 35

-- a line that was read, and is not passed over
abbrev pub some_line : Result Line Malformed → Result (Option Line) Malformed
some_line (Ok line) = Ok (Some line)
some_line (Err e) = Err e

-- what a line, without its line feed, is read as, where there is room for so many bytes; none, where it is passed over
unfoldable pub line_of : ℕ → List ℕ → Result (Option Line) Malformed
line_of room line =
    cond (ltb 1024 (length line)) (Err malformed) (cond (is_passed line) (Ok None) (some_line (read_words room (words_of line))))

-- the bytes that it names
unfoldable pub bytes_of : List ℕ → List ℕ
bytes_of line = cond (is_passed line) [] (named_words (words_of line))
