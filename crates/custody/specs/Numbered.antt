-- A reply by its numbers: the kind of its transfer is its number, 0 where there is none.
use Rattle.std.specs.Prelude.{Option, None, Some}
use Rattle.rf233.specs.Transfer.{kind_value}
use Rattle.rf233.specs.declared.answer.Reply.{Reply}
use Rattle.rf233.specs.declared.transfer.Transfer.{Transfer}
use Rattle.custody.specs.declared.numbered.NumberedReply.{NumberedReply}
use Rattle.custody.specs.declared.numbered.NumberedTransfer.{NumberedTransfer}

-- the numbers of a transfer
abbrev pub numbered_transfer : Option Transfer → NumberedTransfer
numbered_transfer None = record { kind = 0; write = 0; read = 0; first = 0; second = 0; write_len = 0; read_len = 0 }
numbered_transfer (Some t) =
    record {
      kind = kind_value t.kind;
      write = t.write;
      read = t.read;
      first = t.first;
      second = t.second;
      write_len = t.write_len;
      read_len = t.read_len;
    }

-- and of what a call yields
abbrev pub numbered : Reply → NumberedReply
numbered y = record { answer = y.answer; transfer = numbered_transfer y.transfer; actions = y.actions }
