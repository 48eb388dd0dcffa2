-- `pool_line` meets its contract: its first word is read as a place, and the others as bytes. Assumes nothing.
use Rattle.std.proofs.Common.{rules, sym, ◌∙◌, ap, ◌-◌, length, Ok, arith}
use Rattle.script.specs.declared.line.Line.TheVariants.{Pool}
use Rattle.script.specs.Words.{others}
use Rattle.script.proofs.ArgumentLaws.{placed_at, enough, counted_bytes, bad_bytes}
use Rattle.script.proofs.arguments.pool_line.Goals as goal

pub returns-clause-read : goal.returns-clause-read
returns-clause-read c =
    let ws = c.args.words in
    let at = c.in_ok-at.at in
    let placed = placed_at 4096 _ (λ at bs. Pool at (length bs)) ws at (sym c.number.ensures.number ∙ c.in_ok-at.was) in
    let e = sym c.byte_words.ensures.count ∙ c.in_ok-count.was in
    let e' = rw c.number.ensures.others at e in
    ap (λ n. Ok (Pool at n)) (counted_bytes (4096 - at) _ (others ws) _ e')
    ∙ sym (placed ∙ enough 0 (4096 - at) _ (λ bs. Pool at (length bs)) (others ws) _ e' (omega arith))

pub returns-in_err-count-clause-read : goal.returns-in_err-count-clause-read
returns-in_err-count-clause-read c =
    let ws = c.args.words in
    let first = sym c.number.ensures.number ∙ c.in_ok-at.was in
    let e = sym c.byte_words.ensures.count ∙ c.in_err-count.was in
    let no = bad_bytes 4096 _ (λ at bs. Pool at (length bs)) ws c.in_ok-at.at first _ (rw c.number.ensures.others at e) in
    search (rules, no)
