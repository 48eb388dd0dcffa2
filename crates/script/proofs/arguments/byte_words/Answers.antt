-- `byte_words` meets its contract: the laws of the words that are left, at what the loop keeps. Assumes nothing.
use Rattle.std.proofs.Common.{sym, ◌∙◌, ap, length, arith}
use lib.ListN.{length-set}
use Rattle.script.specs.Arguments.{bytes_said}
use Rattle.script.proofs.ArgumentLaws.{all_read, bad_word, byte_off, laid_off}
use Rattle.script.proofs.arguments.byte_words.Goals as goal

pub returns-in_default-clause-count : goal.returns-in_default-clause-count
returns-in_default-clause-count c =
    let l = c.loop-word in
    bad_word c.args.words l.word-iterator l.count l.invariant.same_words l.invariant.counted _ _ c.in-Some.ensures.steps _ _
    (sym c.number_in.ensures.number ∙ c.in_default.is)

pub loop-word-preserved : goal.loop-word-preserved
loop-word-preserved c =
    let l = c.loop-word in
    let first = c.in-Some.ensures.steps in
    let says = sym c.number_in.ensures.number ∙ c.in-Some-number_in.is in
    record {
      can_next = tt;
      is_finite = tt;
      room = simp length-set l.invariant.room;
      same_words = byte_off c.args.words l.word-iterator l.count l.invariant.same_words l.invariant.counted _ _ first _ says;
      counted = omega (arith, l.invariant.counted, ap length first);
      at_most = omega (arith, c.if-most-count.false);
      within = omega (arith, c.if-bytes-count.false, l.invariant.room);
      laid =
          laid_off c.args.words l.word-iterator l.count l.invariant.same_words l.invariant.counted _ _ first _ says l.bytes
          ∙ l.invariant.laid;
    }

pub returns-clause-count : goal.returns-clause-count
returns-clause-count c =
    let l = c.loop-word in
    all_read c.args.words l.word-iterator l.count l.invariant.same_words l.invariant.counted _ _ c.in-None.ensures.steps.0
    l.invariant.at_most l.invariant.within

pub returns-clause-laid : goal.returns-clause-laid
unfolding bytes_said
returns-clause-laid c = rw c.in-None.ensures.steps.0 at c.loop-word.invariant.laid
