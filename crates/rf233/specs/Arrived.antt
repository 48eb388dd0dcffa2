-- What a completion brings to a step (document 01: "Status is byte 0 with mask 0x1F, result is byte 1").
use Rattle.std.specs.Prelude.{ℕ, List, get_or}
use Rattle.rf233_const.specs.Status.{chip_status}
use Rattle.rf233.specs.declared.arrived.Arrived.{Arrived}

-- status and result of the arrived bytes
abbrev pub arrived_of : List ℕ → Arrived
arrived_of xs = record { status = chip_status (get_or xs 0 0); result = get_or xs 1 0 }
