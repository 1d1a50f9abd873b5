use Rattle.std.proofs.Common.{◌≡◌, ◌≤◌, ◌*◌, ◌-◌, IfSome, length}
use Rattle.outside.specs.Attached.{told_all}
use Rattle.outside.specs.Seen.{OnlyReads}
use Rattle.member_regions.specs.Regions.{IsRoomFor}
use Rattle.row_samples.specs.Spreads.{AreSampled, LieBelow}
use Rattle.member_regions.specs.declared.regions.TheConstants.{BLOCK}
use Rattle.xor_tables.specs.Early.{AreAllFew, CountFirst}
use Rattle.xor_tables.proofs.early_table.read_rows.Given as goal

abbrev pub invariant-loop-first : goal.invariant-loop-first
invariant-loop-first g l = record {
  faults : (g.I.Images.seen l.images).faults ≡ (g.I.Images.seen l.fn.images).faults;
  reads : OnlyReads (g.I.Images.seen l.fn.images) (g.I.Images.seen l.images) (length l.plan.lengths.items * l.first);
  told : IfSome (told_all (g.I.Images.seen l.fn.images).attached) (λ bytes. CountFirst bytes l.plan l.paces l.offset l.first l.tables.items);
  few : AreAllFew l.first l.tables.items;
  within : l.first ≤ l.rows;
  room : IsRoomFor (length l.plan.lengths.items) BLOCK l.regions;
  long : length l.tables.items ≡ length l.paces;
  telling_images : l.sampler.telling.kept.images ≡ length l.plan.lengths.items;
  others_images : l.sampler.others.kept.images ≡ length l.plan.lengths.items;
  below : LieBelow l.first l.sampler;
  rows : IfSome (told_all (g.I.Images.seen l.fn.images).attached) (λ bytes. AreSampled bytes (length l.plan.lengths.items) l.offset l.sampler);
}

abbrev pub decreases-loop-first : goal.decreases-loop-first
decreases-loop-first g l = l.rows - l.first
