-- `done_line` meets its contract: its words are read as bytes, and as many as it has. Assumes nothing.
use Rattle.std.proofs.Common.{sym, ◌∙◌, ap, length, Ok, arith}
use Rattle.script.specs.declared.line.Line.TheVariants.{ReadWriteDone}
use Rattle.script.proofs.ArgumentLaws.{enough, counted_bytes}
use Rattle.script.proofs.arguments.done_line.Goals as goal

pub returns-clause-read : goal.returns-clause-read
returns-clause-read c =
    let ws = c.args.words in
    let e = sym c.byte_words.ensures.count ∙ c.in_ok-count.was in
    ap (λ n. Ok (ReadWriteDone n)) (counted_bytes 160 _ ws _ e)
    ∙ sym (enough 0 160 _ (λ bs. ReadWriteDone (length bs)) ws _ e (omega arith))
