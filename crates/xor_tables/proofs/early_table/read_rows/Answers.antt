use Rattle.std.proofs.Common.{◌≤◌, ◌+◌, ℕ, All, List, IfSome, length, rules, arith, refl, sym, ap, subst, ◌∙◌}
use Rattle.outside.proofs.Reading.{reads_none, reads_up}
use Rattle.outside.specs.Attached.{told_all}
use Rattle.outside.specs.Seen.{Image}
use Rattle.member_regions.proofs.IfTold.{if_any, if_both, if_told}
use Rattle.search_plan.specs.Plans.{AgreeWith}
use Rattle.search_plan.specs.Rows.{tested_with}
use Rattle.xor_tables.specs.Early.{AreEarlyTables, AreKnown, CountFirst}
use Rattle.xor_tables.specs.Xors.{most_tested, AreSumsOf, HoldRows, RowTable}
use Rattle.xor_tables.proofs.Ordered.{plan_near, reads_more, reads_within}
use Rattle.row_samples.proofs.Begun.{none_lie}
use Rattle.row_samples.specs.Spreads.{AreSampled}
use Rattle.xor_tables.proofs.Paces.{paces_are}
use Rattle.xor_tables.proofs.Sampled.{begins_sampled}
use Rattle.xor_tables.proofs.Settled.{all_known, first_counts, known_tables}
use Rattle.xor_tables.proofs.early_table.read_rows.Goals as goal

pub returns-then-tables_suffice-clause-told : goal.returns-then-tables_suffice-clause-told
returns-then-tables_suffice-clause-told g c =
    let known : AreKnown c.args.plan.now c.args.paces.now c.args.offset c.loop-first.first c.loop-first.tables.items
    = subst (λ (l : List RowTable). AreKnown c.args.plan.now c.args.paces.now c.args.offset c.loop-first.first l) c.deref.ensures.value (c.tables_suffice.ensures c.if-tables_suffice.true) in
    if_told (told_all (g.I.Images.seen c.args.images.now).attached)
    (λ bytes. CountFirst bytes c.args.plan.now c.args.paces.now c.args.offset c.loop-first.first c.loop-first.tables.items)
    (λ bytes. AreEarlyTables bytes c.args.plan.now c.args.paces.now c.args.offset c.loop-first.tables.items)
    (λ bytes counts. known_tables bytes c.args.plan.now c.args.paces.now c.args.offset c.loop-first.first c.loop-first.tables.items c.loop-first.invariant.long counts known)
    c.loop-first.invariant.told

pub loop-first-init : goal.loop-first-init
loop-first-init g c = record {
  faults = refl;
  reads = reads_up (g.I.Images.seen c.args.images.now) (g.I.Images.seen c.args.images.now) (reads_none (g.I.Images.seen c.args.images.now)) (omega arith);
  told = if_any (told_all (g.I.Images.seen c.args.images.now).attached) (λ bytes. CountFirst bytes c.args.plan.now c.args.paces.now c.args.offset 0 c.args.tables.now.items)
      (λ bytes. first_counts bytes c.args.plan.now c.args.paces.now c.args.offset c.args.tables.now.items c.requires.tables (c.requires.none bytes));
  few = c.requires.few;
  within = omega arith;
  room = c.requires.room;
  long = c.requires.tables;
  telling_images = c.requires.none_kept.telling_images;
  others_images = c.requires.none_kept.others_images;
  below = none_lie 0 (length c.args.plan.now.lengths.items) c.args.sampler.now c.requires.none_kept;
  rows = begins_sampled (g.I.Images.seen c.args.images.now).attached c.args.plan.now c.args.offset c.args.sampler.now c.requires.images c.requires.none_kept;
}

pub returns-clause-told : goal.returns-clause-told
returns-clause-told g c =
    let all : AreKnown c.args.plan.now c.args.paces.now c.args.offset c.loop-first.first c.loop-first.tables.items
    = all_known c.args.plan.now c.args.paces.now c.args.offset c.loop-first.first c.most_rows-rows.result c.loop-first.tables.items c.requires.paces
    (subst (All (λ chunk. tested_with c.args.plan.now chunk c.args.offset ≤ c.most_rows-rows.result)) c.as_slice.ensures.value c.most_rows-rows.ensures.most) c.loop-first-test.false in
    if_told (told_all (g.I.Images.seen c.args.images.now).attached)
    (λ bytes. CountFirst bytes c.args.plan.now c.args.paces.now c.args.offset c.loop-first.first c.loop-first.tables.items)
    (λ bytes. AreEarlyTables bytes c.args.plan.now c.args.paces.now c.args.offset c.loop-first.tables.items)
    (λ bytes counts. known_tables bytes c.args.plan.now c.args.paces.now c.args.offset c.loop-first.first c.loop-first.tables.items c.loop-first.invariant.long counts all)
    c.loop-first.invariant.told

pub tables_suffice-requires-clause-paces : goal.tables_suffice-requires-clause-paces
tables_suffice-requires-clause-paces g c = paces_are c.args.plan.now c.args.paces.now c.requires.plan c.requires.paces

pub add_block-requires-clause-paces : goal.add_block-requires-clause-paces
add_block-requires-clause-paces g c = paces_are c.args.plan.now c.args.paces.now c.requires.plan c.requires.paces

pub row_sums-requires-clause-images : goal.row_sums-requires-clause-images
row_sums-requires-clause-images g c =
    subst (λ (l : List Image). AgreeWith c.args.plan.now l) (sym c.loop-first.invariant.reads.attached) c.requires.images

pub returns-in_err-sums-clause-reads : goal.returns-in_err-sums-clause-reads
returns-in_err-sums-clause-reads g c =
    let within : c.loop-first.first + c.min-count.result ≤ most_tested c.args.plan.now c.args.plan.now.bounds.chunks.items c.args.offset = let value = c.most_rows-rows.ensures.value ∙ ap (λ (l : List ℕ). most_tested c.args.plan.now l c.args.offset) c.as_slice.ensures.value in omega arith in
    reads_within (g.I.Images.seen c.args.images.now) (g.I.Images.seen c.row_sums.new.images) (length c.args.plan.now.lengths.items) (c.loop-first.first + c.min-count.result)
    (most_tested c.args.plan.now c.args.plan.now.bounds.chunks.items c.args.offset) (length c.args.plan.now.lengths.items) refl within
    (reads_more (g.I.Images.seen c.args.images.now) (g.I.Images.seen c.loop-first.images) (g.I.Images.seen c.row_sums.new.images)
    (length c.args.plan.now.lengths.items) c.loop-first.first c.min-count.result c.loop-first.invariant.reads c.row_sums.ensures.reads)

pub loop-first-preserved : goal.loop-first-preserved
loop-first-preserved g c =
    let now : IfSome (told_all (g.I.Images.seen c.loop-first.images).attached) (λ bytes.
    AreSumsOf bytes (length c.args.plan.now.lengths.items) (c.args.offset + c.loop-first.first) c.min-count.result c.in_ok-sums.sums) = c.in_ok-sums.ensures.told in
    let held : IfSome (told_all (g.I.Images.seen c.loop-first.images).attached) (λ bytes.
    HoldRows bytes (length c.args.plan.now.lengths.items) (c.args.offset + c.loop-first.first) c.min-count.result c.row_sums.new.regions) = c.in_ok-sums.ensures.hold in
    let P : ℕ → Type 0 = λ n. (bytes : List (List ℕ)) (offset : ℕ) → HoldRows bytes n (offset + c.loop-first.first) c.min-count.result c.row_sums.new.regions →
    AreSampled bytes n offset c.loop-first.sampler → AreSampled bytes n offset c.offer_rows.new.sampler in
    let offers : P (length c.args.plan.now.lengths.items) = subst P c.loop-first.invariant.telling_images c.offer_rows.ensures.kept in
    record {
      faults = search rules;
      reads = reads_more (g.I.Images.seen c.args.images.now) (g.I.Images.seen c.loop-first.images) (g.I.Images.seen c.row_sums.new.images)
          (length c.args.plan.now.lengths.items) c.loop-first.first c.min-count.result c.loop-first.invariant.reads c.row_sums.ensures.reads;
      told = if_both (told_all (g.I.Images.seen c.args.images.now).attached)
          (λ bytes. CountFirst bytes c.args.plan.now c.args.paces.now c.args.offset c.loop-first.first c.loop-first.tables.items)
          (λ bytes. AreSumsOf bytes (length c.args.plan.now.lengths.items) (c.args.offset + c.loop-first.first) c.min-count.result c.in_ok-sums.sums)
          (λ bytes. CountFirst bytes c.args.plan.now c.args.paces.now c.args.offset (c.loop-first.first + c.min-count.result) c.add_block.new.tables.items)
          (λ bytes before sums. c.add_block.ensures.counts bytes sums before)
          c.loop-first.invariant.told
          (rw (← c.loop-first.invariant.reads.attached) now);
      few = c.add_block.ensures.few;
      within = omega arith;
      room = c.row_sums.ensures.room;
      long = c.add_block.ensures.long ∙ c.loop-first.invariant.long;
      telling_images = c.offer_rows.ensures.telling_images ∙ c.loop-first.invariant.telling_images;
      others_images = c.offer_rows.ensures.others_images ∙ c.loop-first.invariant.others_images;
      below = c.offer_rows.ensures.below;
      rows = if_both (told_all (g.I.Images.seen c.args.images.now).attached)
          (λ bytes. AreSampled bytes (length c.args.plan.now.lengths.items) c.args.offset c.loop-first.sampler)
          (λ bytes. HoldRows bytes (length c.args.plan.now.lengths.items) (c.args.offset + c.loop-first.first) c.min-count.result c.row_sums.new.regions)
          (λ bytes. AreSampled bytes (length c.args.plan.now.lengths.items) c.args.offset c.offer_rows.new.sampler)
          (λ bytes are hold. offers bytes c.args.offset hold are)
          c.loop-first.invariant.rows
          (rw (← c.loop-first.invariant.reads.attached) held);
    }

pub offer_rows-requires-clause-room : goal.offer_rows-requires-clause-room
offer_rows-requires-clause-room g c =
    let many = c.row_sums.ensures.room.many in
    let long = c.row_sums.ensures.room.long in
    let same = c.loop-first.invariant.telling_images in
    record { many = omega arith; long = omega arith }

pub offer_rows-requires-clause-rows : goal.offer_rows-requires-clause-rows
offer_rows-requires-clause-rows g c =
    let near = plan_near c.args.plan.now c.requires.plan in
    let within = c.most_rows-rows.ensures.within in
    omega arith

pub overflow_add-offset : goal.overflow_add-offset
overflow_add-offset g c =
    let near = plan_near c.args.plan.now c.requires.plan in
    let below = c.loop-first-test.true in
    let within = c.most_rows-rows.ensures.within in
    omega arith

pub add_block-requires-clause-rows : goal.add_block-requires-clause-rows
add_block-requires-clause-rows g c =
    let near = plan_near c.args.plan.now c.requires.plan in
    let within = c.most_rows-rows.ensures.within in
    omega arith
