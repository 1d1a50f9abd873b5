use Rattle.std.proofs.Common.{◌≡◌, ◌≤◌, ◌+◌, ℕ, List, IfSome, length, rules, arith, refl, sym, subst}
use Rattle.outside.proofs.Reading.{reads_none, reads_up}
use Rattle.outside.specs.Attached.{told_all}
use Rattle.outside.specs.Seen.{Image}
use Rattle.address_map.proofs.Heads.{chunk_above}
use Rattle.member_regions.proofs.IfTold.{if_any, if_both, if_told}
use Rattle.search_plan.specs.Plans.{AgreeWith}
use Rattle.xor_tables.specs.Paces.{span}
use Rattle.xor_tables.specs.Xors.{AreSumsOf, CountRows, IsXorTable}
use Rattle.search_plan.specs.Rows.{tested_with}
use Rattle.xor_tables.proofs.Ordered.{reads_more, reads_within}
use Rattle.xor_tables.proofs.xor_table.tally_rows.Goals as goal

pub tested_rows-rows-requires : goal.tested_rows-rows-requires
tested_rows-rows-requires g c = record { chunk = chunk_above c.args.pace.chunk c.requires.pace.chunk }

pub loop-first-init : goal.loop-first-init
loop-first-init g c = record {
  faults = refl;
  reads = reads_up (g.I.Images.seen c.args.images.now) (g.I.Images.seen c.args.images.now) (reads_none (g.I.Images.seen c.args.images.now)) (omega arith);
  told = if_any (told_all (g.I.Images.seen c.args.images.now).attached) (λ bytes. CountRows bytes (length c.args.plan.now.lengths.items) (span c.args.pace) c.args.offset 0 c.new-tally.result)
      (λ bytes. c.new-tally.ensures.counts bytes (length c.args.plan.now.lengths.items) (span c.args.pace) c.args.offset);
  few = c.new-tally.ensures.few;
  within = omega arith;
  room = c.requires.room;
}

pub row_sums-requires-clause-images : goal.row_sums-requires-clause-images
row_sums-requires-clause-images g c =
    subst (λ (l : List Image). AgreeWith c.args.plan.now l) (sym c.loop-first.invariant.reads.attached) c.requires.images

pub returns-in_err-sums-clause-reads : goal.returns-in_err-sums-clause-reads
returns-in_err-sums-clause-reads g c =
    let within : c.loop-first.first + c.min-count.result ≤ tested_with c.args.plan.now c.args.pace.chunk c.args.offset = let value = c.tested_rows-rows.ensures.value in omega arith in
    reads_within (g.I.Images.seen c.args.images.now) (g.I.Images.seen c.row_sums.new.images) (length c.args.plan.now.lengths.items) (c.loop-first.first + c.min-count.result)
    (tested_with c.args.plan.now c.args.pace.chunk c.args.offset) (length c.args.plan.now.lengths.items) refl within
    (reads_more (g.I.Images.seen c.args.images.now) (g.I.Images.seen c.loop-first.images) (g.I.Images.seen c.row_sums.new.images)
    (length c.args.plan.now.lengths.items) c.loop-first.first c.min-count.result c.loop-first.invariant.reads c.row_sums.ensures.reads)

pub loop-first-preserved : goal.loop-first-preserved
loop-first-preserved g c =
    let now : IfSome (told_all (g.I.Images.seen c.loop-first.images).attached) (λ bytes.
    AreSumsOf bytes (length c.args.plan.now.lengths.items) (c.args.offset + c.loop-first.first) c.min-count.result c.in_ok-sums.sums) = c.in_ok-sums.ensures.told in
    let P : ℕ → Type 0 = λ n. (bytes : List (List ℕ)) → AreSumsOf bytes n (c.args.offset + c.loop-first.first) c.min-count.result c.in_ok-sums.sums →
    CountRows bytes n (span c.args.pace) c.args.offset c.loop-first.first c.loop-first.tally → CountRows bytes n (span c.args.pace) c.args.offset (c.loop-first.first + c.min-count.result) c.add_rows.new.self in
    let grows : P (length c.args.plan.now.lengths.items) = subst P c.len.ensures.value (λ bytes. (let Q : ℕ → Type 0 = λ n. AreSumsOf bytes c.len.result (c.args.offset + c.loop-first.first) c.min-count.result c.in_ok-sums.sums →
    CountRows bytes c.len.result n c.args.offset c.loop-first.first c.loop-first.tally → CountRows bytes c.len.result n c.args.offset (c.loop-first.first + c.min-count.result) c.add_rows.new.self in
    subst Q c.span-span.ensures.is (c.add_rows.ensures.counts bytes c.args.offset))) in
    record {
      faults = search rules;
      reads = reads_more (g.I.Images.seen c.args.images.now) (g.I.Images.seen c.loop-first.images) (g.I.Images.seen c.row_sums.new.images)
          (length c.args.plan.now.lengths.items) c.loop-first.first c.min-count.result c.loop-first.invariant.reads c.row_sums.ensures.reads;
      told = if_both (told_all (g.I.Images.seen c.args.images.now).attached)
          (λ bytes. CountRows bytes (length c.args.plan.now.lengths.items) (span c.args.pace) c.args.offset c.loop-first.first c.loop-first.tally)
          (λ bytes. AreSumsOf bytes (length c.args.plan.now.lengths.items) (c.args.offset + c.loop-first.first) c.min-count.result c.in_ok-sums.sums)
          (λ bytes. CountRows bytes (length c.args.plan.now.lengths.items) (span c.args.pace) c.args.offset (c.loop-first.first + c.min-count.result) c.add_rows.new.self)
          (λ bytes before sums. grows bytes sums before)
          c.loop-first.invariant.told
          (rw (← c.loop-first.invariant.reads.attached) now);
      few = c.add_rows.ensures.few;
      within = omega arith;
      room = c.row_sums.ensures.room;
    }

pub returns-clause-told : goal.returns-clause-told
returns-clause-told g c =
    let all : c.loop-first.first ≡ tested_with c.args.plan.now c.args.pace.chunk c.args.offset
    = let within = c.loop-first.invariant.within in let end = c.loop-first-test.false in let value = c.tested_rows-rows.ensures.value in omega arith in
    if_told (told_all (g.I.Images.seen c.args.images.now).attached)
    (λ bytes. CountRows bytes (length c.args.plan.now.lengths.items) (span c.args.pace) c.args.offset c.loop-first.first c.loop-first.tally)
    (λ bytes. IsXorTable bytes c.args.plan.now c.args.pace c.args.offset c.loop-first.tally)
    (λ bytes counts. subst (λ (n : ℕ). CountRows bytes (length c.args.plan.now.lengths.items) (span c.args.pace) c.args.offset n c.loop-first.tally) all counts)
    c.loop-first.invariant.told

pub returns-clause-reads : goal.returns-clause-reads
returns-clause-reads g c =
    let within : c.loop-first.first ≤ tested_with c.args.plan.now c.args.pace.chunk c.args.offset = let few = c.loop-first.invariant.within in let value = c.tested_rows-rows.ensures.value in omega arith in
    reads_within (g.I.Images.seen c.args.images.now) (g.I.Images.seen c.loop-first.images) (length c.args.plan.now.lengths.items) c.loop-first.first
    (tested_with c.args.plan.now c.args.pace.chunk c.args.offset) (length c.args.plan.now.lengths.items) refl within c.loop-first.invariant.reads
