-- The loop of `digits`: what is left of the word has only digits where the whole has, and says the word's number after what is read.
use Rattle.std.proofs.Common.{◌≡◌, ◌<◌, ◌^◌, length, drop}
use Rattle.script.specs.Decimal.{all_digits, value_from}
use Rattle.script.proofs.words.digits.Given as goal

abbrev pub invariant-loop-byte : goal.invariant-loop-byte
invariant-loop-byte l = record {
  some : 0 < length l.word;
  same_digits : all_digits (drop l.byte-index l.word) ≡ all_digits l.word;
  same_value : value_from l.value (drop l.byte-index l.word) ≡ value_from 0 l.word;
  fits : l.value < 2 ^ 64;
}
