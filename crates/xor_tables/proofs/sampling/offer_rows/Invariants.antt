use Rattle.std.proofs.Common.{◌≡◌, ℕ, ◌+◌, List}
use Rattle.row_samples.specs.Spreads.{AreSampled, LieBelow}
use Rattle.xor_tables.specs.Xors.{HoldRows}
use Rattle.xor_tables.proofs.sampling.offer_rows.Given as goal

abbrev pub invariant-loop-j : goal.invariant-loop-j
invariant-loop-j l = record {
  telling_images : l.sampler.telling.kept.images ≡ l.fn.sampler.telling.kept.images;
  others_images : l.sampler.others.kept.images ≡ l.fn.sampler.others.kept.images;
  below : LieBelow (l.first + l.j) l.sampler;
  kept : (bytes : List (List ℕ)) (offset : ℕ) → HoldRows bytes l.fn.sampler.telling.kept.images (offset + l.first) l.count l.regions →
      AreSampled bytes l.fn.sampler.telling.kept.images offset l.fn.sampler → AreSampled bytes l.fn.sampler.telling.kept.images offset l.sampler;
}
