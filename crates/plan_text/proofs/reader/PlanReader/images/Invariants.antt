use Rattle.std.proofs.Common.{◌≡◌, ◌<◌, ◌≤◌, ◌∷◌, All, length, map}
use Rattle.raid_params.specs.declared.limits.TheConstants.{MOST}
use Rattle.plan_text.specs.Parts.{sectors_end}
use Rattle.plan_text.proofs.ImageLines.{images_line, length_line}
use Rattle.plan_text.proofs.Refusals.{Went}
use Rattle.plan_text.proofs.reader.PlanReader.images.Given as goal

abbrev pub invariant-loop : goal.invariant-loop
invariant-loop l = record {
  many : length l.lengths.items ≡ l.counter;
  short : All (λ n. n < sectors_end l.each) l.lengths.items;
  some : 1 ≤ l.count;
  most : l.count ≤ MOST;
  went : Went l.fn.self l.self (images_line l.count ∷ map length_line l.lengths.items);
}
