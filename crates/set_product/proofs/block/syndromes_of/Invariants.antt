use Rattle.std.proofs.Common.{◌≡◌, ◌≤◌, length, filter, take}
use Rattle.raid_params.specs.Validity.{has_syndrome}
use Rattle.set_product.proofs.block.syndromes_of.Given as goal

abbrev pub invariant-loop-syndrome : goal.invariant-loop-syndrome
invariant-loop-syndrome l = record {
  kept : l.kept.items ≡ filter (has_syndrome l.level) (take l.syndrome-index l.plan.bounds.syndromes.items);
  few : length l.kept.items ≤ l.syndrome-index;
}
