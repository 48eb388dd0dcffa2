-- The lines of what a call yields, byte for byte and without the line feed: numbers in decimal, one space between words.
use Rattle.std.specs.Prelude.{ℕ, Bool, true, false, List, [], ◌++◌, codes, decimal, ◌+◌, ◌*◌, length, cond, leb, slice_range, ◌==◌}
use Rattle.std.specs.Fmt.{signed_decimal}
use Rattle.std.specs.List.{flat_map}
use Rattle.rf233.specs.Answer.{answer_no}
use Rattle.rf233.specs.State.{state_no}
use Rattle.rf233.specs.Transfer.{kind_value}
use Rattle.rf233.specs.declared.action.Action.{Action}
use Rattle.rf233.specs.declared.action.Action.TheVariants as action
use Rattle.rf233.specs.declared.transfer.Transfer.{Transfer}
use Rattle.script.specs.declared.report.Head.{Head}
use Rattle.script.specs.declared.report.Value.{Value}
use Rattle.script.specs.declared.report.Value.TheVariants as value

-- a flag: 1 or 0
abbrev pub flag_text : Bool → List ℕ
flag_text true = codes "1"
flag_text false = codes "0"

-- a space and a number
abbrev pub field : ℕ → List ℕ
field n = codes " " ++ decimal n

-- a space and a number for each
abbrev pub fields_text : List ℕ → List ℕ
fields_text ns = flat_map field ns

-- `PLACE ANSWER FROM TO`
abbrev pub head_text : Head → List ℕ
head_text h = decimal h.place ++ (field (answer_no h.answer) ++ (field (state_no h.from) ++ field (state_no h.to)))

-- n bytes of the pool from a place; none where it ends before the last of them
abbrev pub part : ℕ → ℕ → List ℕ → List ℕ
part start n pool = cond (leb (start + n) (length pool)) (slice_range pool start (start + n)) []

-- the bytes that the pool has in the buffer that a transfer sends from
abbrev pub sent_bytes : Transfer → List ℕ → List ℕ
sent_bytes t pool = part (t.write * 160) t.write_len pool

-- `transfer KIND WRITE READ BYTE...`, of the number of a kind, the two lengths and the bytes sent
abbrev pub started_text : ℕ → ℕ → ℕ → List ℕ → List ℕ
started_text kind write_len read_len sent =
    codes "transfer" ++ (field kind ++ (field write_len ++ (field read_len ++ fields_text sent)))

-- of a transfer of the driver
abbrev pub transfer_text : Transfer → List ℕ → List ℕ
transfer_text t pool = started_text (kind_value t.kind) t.write_len t.read_len (sent_bytes t pool)

-- and of one by its numbers, with the buffer that it sends from: of kind 0, none, there is no line
abbrev pub numbered_text : ℕ → ℕ → ℕ → ℕ → List ℕ → List ℕ
numbered_text kind write write_len read_len pool =
    cond (kind == 0) [] (started_text kind write_len read_len (part (write * 160) write_len pool))

-- the line of an action; `Nothing` has none
abbrev pub action_text : Action → List ℕ
action_text action.Nothing = []
action_text (action.Power on) = codes "power " ++ flag_text on
action_text (action.Sent buffer ack fail) = codes "sent" ++ (field buffer ++ (codes " " ++ (flag_text ack ++ (codes " " ++ flag_text fail))))
action_text (action.Received buffer length crc) = codes "received" ++ (field buffer ++ (field length ++ (codes " " ++ flag_text crc)))
action_text action.ConfigDone = codes "config_done"
action_text (action.Dropped buffer) = codes "dropped" ++ field buffer
action_text action.IrqMakeInput = codes "irq make_input"
action_text action.IrqClear = codes "irq clear"
action_text action.IrqSetFloatingState = codes "irq set_floating_state"
action_text action.IrqEnableInterrupts = codes "irq enable_interrupts"
action_text action.IrqDisableInterrupts = codes "irq disable_interrupts"
action_text action.SleepMakeOutput = codes "sleep make_output"
action_text action.SleepSet = codes "sleep set"
action_text action.SleepClear = codes "sleep clear"
action_text action.ResetMakeOutput = codes "reset make_output"
action_text (action.ResetClear count) = codes "reset clear" ++ field count
action_text action.ResetSet = codes "reset set"

-- `value N...`: a power may have a minus, the long address is eight numbers
abbrev pub value_text : Value → List ℕ
value_text (value.Number n) = codes "value" ++ field n
value_text (value.Flag flag) = codes "value " ++ flag_text flag
value_text (value.Power power) = codes "value " ++ signed_decimal power
value_text (value.Address bytes) = codes "value" ++ fields_text bytes
