use Rattle.std.proofs.Common.{◌≡◌, ◌<◌, ◌^◌, drop}
use Rattle.std.specs.Char.{is_digit}
use Rattle.std.specs.List.{list_all}
use Rattle.std.specs.Str.Parse.{digits_value, digits_value_after}
use Rattle.rescue_text.proofs.number.read_numeral.Given as goal

abbrev pub invariant-loop-byte : goal.invariant-loop-byte
invariant-loop-byte l = record {
  small : l.value < 2 ^ 64;
  digits : list_all (λ byte. is_digit byte l.radix) (drop l.byte-index l.digits) ≡ list_all (λ byte. is_digit byte l.radix) l.digits;
  same : digits_value_after l.radix l.value (drop l.byte-index l.digits) ≡ digits_value l.radix l.digits;
}
