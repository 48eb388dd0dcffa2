-- The numbers of a reply are those that the definition of the book reads of it. Assumes nothing.
use Rattle.std.proofs.Common.{◌≡◌, refl}
use Rattle.std.specs.Prelude.{Option, None, Some}
use Rattle.rf233.specs.Transfer.{kind_no}
use Rattle.rf233.specs.declared.transfer.Transfer.{Transfer}
use Rattle.custody.specs.Book.{write_no, read_no}
use Rattle.custody.specs.Numbered.{numbered_transfer}

-- a transfer's kind and its two buffers
pub same_numbers : (t : Option Transfer)
    → ((numbered_transfer t).kind ≡ kind_no t)
    × ((numbered_transfer t).write ≡ write_no t)
    × ((numbered_transfer t).read ≡ read_no t)
same_numbers None = (refl, refl, refl)
same_numbers (Some t) = (refl, refl, refl)
