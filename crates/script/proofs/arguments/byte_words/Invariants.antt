-- The loop of `byte_words`: the words that are left say bytes where all do, they are as many fewer as bytes were laid, and laying theirs
-- too leaves what laying all does. Assumes nothing.
use Rattle.std.proofs.Common.{◌≡◌, ◌≤◌, ◌+◌, length}
use Rattle.std.proofs.lemmas.List.Edits.{sets}
use Rattle.script.specs.Arguments.{all_bytes, bytes_said}
use Rattle.script.proofs.arguments.byte_words.Given as goal

abbrev pub invariant-loop-word : goal.invariant-loop-word
invariant-loop-word l = record {
  can_next : (goal.iterator-loop-word).can_next l.word-iterator;
  is_finite : (goal.iterator-loop-word).is_finite l.word-iterator;
  room : length l.bytes ≡ length l.initial.bytes;
  same_words : all_bytes l.word-iterator ≡ all_bytes l.fn.words;
  counted : l.count + length l.word-iterator ≡ length l.fn.words;
  at_most : l.count ≤ l.most;
  within : l.count ≤ length l.initial.bytes;
  laid : sets l.bytes l.count (bytes_said l.word-iterator) ≡ sets l.initial.bytes 0 (bytes_said l.fn.words);
}
