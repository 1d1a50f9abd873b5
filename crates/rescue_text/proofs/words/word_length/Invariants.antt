use Rattle.std.proofs.Common.{◌≡◌, ◌+◌, length, drop}
use Rattle.rescue_text.specs.Lines.{word}
use Rattle.rescue_text.proofs.words.word_length.Given as goal

abbrev pub invariant-loop-byte : goal.invariant-loop-byte
invariant-loop-byte l = record {
  place : l.end ≡ l.byte-index;
  longer : length (word l.text) ≡ l.byte-index + length (word (drop l.byte-index l.text));
}
