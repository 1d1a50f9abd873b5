use Rattle.std.proofs.Common.{◌≡◌, ◌<◌, length}
use Rattle.slot_math.specs.Ways.{ends, IsStart}
use Rattle.slot_math.proofs.Fronts.{GoesOn}
use Rattle.slot_math.proofs.space.Space.unrank.Given as goal

abbrev pub invariant-loop : goal.invariant-loop
invariant-loop l = record {
  long : length l.slots.items ≡ l.counter;
  start : IsStart l.self l.slots.items;
  on : GoesOn l.self l.slots.items l.rank l.rest;
  within : l.rest < length (ends l.self l.slots.items);
}
