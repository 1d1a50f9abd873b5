use Rattle.std.proofs.Common.{rules, ℕ, ◌≡◌, ◌+◌, ◌*◌, ◌%◌, ◌≤◌, IfSome, arith, refl, sym, ap, subst, ◌∙◌}
use Rattle.outside.specs.Attached.{told_all}
use Rattle.outside.specs.Seen.{OnlyReads}
use Rattle.outside.proofs.Reading.{reads_none, reads_up}
use Rattle.member_regions.proofs.IfTold.{if_any, if_both, if_told}
use Rattle.near_mirror.specs.declared.types.NearHead.{NearHead}
use Rattle.near_tables.specs.Reading.{rests_of, sectors_read}
use Rattle.near_tables.specs.Tables.{CountsFirst, IsTornTable, lane_depth}
use Rattle.near_tables.proofs.Pairs.{lane_late}
use Rattle.near_tables.proofs.Reach.{limit_short, reads_more, reads_no_more, spent_more, spent_most, spent_of}
use Rattle.near_tables.proofs.Strips.{depth_zero, table_whole}
use Rattle.near_tables.proofs.torn_table.TornTable.add_strips.Goals as goal

pub loop-sector-init : goal.loop-sector-init
loop-sector-init g c =
    record {
      sector = depth_zero c.args.strips.now.head c.requires.over.head;
      late = omega arith;
      short = limit_short (g.I.Images.seen c.args.images.now).attached c.args.strips.now c.requires.over;
      within = omega arith;
      faults = refl;
      reads = reads_up (g.I.Images.seen c.args.images.now) (g.I.Images.seen c.args.images.now) (reads_none (g.I.Images.seen c.args.images.now)) (omega arith);
      told = if_any (told_all (g.I.Images.seen c.args.images.now).attached)
          (λ bytes. CountsFirst bytes c.args.strips.now.many c.args.strips.now.head c.args.strips.now.end c.args.strips.now.limit 0 c.args.self.now) c.requires.none;
      keeps = record { many = refl; head = refl; end = refl; limit = refl };
      room = c.requires.room;
    }

pub returns-in_err-add_strip-clause-reads : goal.returns-in_err-add_strip-clause-reads
returns-in_err-add_strip-clause-reads g c =
    let keeps = c.loop-sector.invariant.keeps in
    let head : c.loop-sector.strips.head ≡ c.args.strips.now.head = keeps.head in
    let chunk : c.loop-sector.strips.head.chunk ≡ c.args.strips.now.head.chunk = ap (λ (h : NearHead). h.chunk) head in
    let inside : c.loop-sector.at % c.args.strips.now.head.chunk + c.count_at-count.result ≤ c.args.strips.now.head.chunk = rw (← chunk) c.count_at-count.ensures.row in
    let more = spent_more c.args.strips.now.head c.args.strips.now.limit c.loop-sector.at c.count_at-count.result inside in
    let most = spent_most c.args.strips.now.head c.args.strips.now.limit (c.loop-sector.at + c.count_at-count.result) c.requires.over.head in
    let reads : OnlyReads (g.I.Images.seen c.loop-sector.images) (g.I.Images.seen c.add_strip.new.images)
    (c.args.strips.now.many * rests_of c.args.strips.now.head c.args.strips.now.limit c.loop-sector.at c.count_at-count.result c.args.strips.now.head.layout.copies) = rw (← keeps.many, ← keeps.limit, ← head) c.add_strip.ensures.reads in
    reads_no_more (g.I.Images.seen c.args.images.now) (g.I.Images.seen c.add_strip.new.images) c.args.strips.now.many
    (spent_of c.args.strips.now.head c.args.strips.now.limit c.loop-sector.at + rests_of c.args.strips.now.head c.args.strips.now.limit c.loop-sector.at c.count_at-count.result c.args.strips.now.head.layout.copies)
    (sectors_read c.args.strips.now.head c.args.strips.now.limit) (omega arith)
    (reads_more (g.I.Images.seen c.args.images.now) (g.I.Images.seen c.loop-sector.images) (g.I.Images.seen c.add_strip.new.images) c.args.strips.now.many (spent_of c.args.strips.now.head c.args.strips.now.limit c.loop-sector.at)
    (rests_of c.args.strips.now.head c.args.strips.now.limit c.loop-sector.at c.count_at-count.result c.args.strips.now.head.layout.copies) c.loop-sector.invariant.reads reads)

pub loop-sector-preserved : goal.loop-sector-preserved
loop-sector-preserved g c =
    let keeps = c.loop-sector.invariant.keeps in
    let keeps' = c.add_strip.ensures.keeps in
    let head : c.loop-sector.strips.head ≡ c.args.strips.now.head = keeps.head in
    let chunk : c.loop-sector.strips.head.chunk ≡ c.args.strips.now.head.chunk = ap (λ (h : NearHead). h.chunk) head in
    let limit : c.loop-sector.strips.limit ≡ c.args.strips.now.limit = keeps.limit in
    let inside : c.loop-sector.at % c.args.strips.now.head.chunk + c.count_at-count.result ≤ c.args.strips.now.head.chunk = rw (← chunk) c.count_at-count.ensures.row in
    let within = c.count_at-count.ensures.within in
    let late = lane_late c.args.strips.now.head 0 c.loop-sector.at c.requires.over.head in
    let sector = c.loop-sector.invariant.sector in
    let more = spent_more c.args.strips.now.head c.args.strips.now.limit c.loop-sector.at c.count_at-count.result inside in
    let reads : OnlyReads (g.I.Images.seen c.loop-sector.images) (g.I.Images.seen c.add_strip.new.images)
    (c.args.strips.now.many * rests_of c.args.strips.now.head c.args.strips.now.limit c.loop-sector.at c.count_at-count.result c.args.strips.now.head.layout.copies) = rw (← keeps.many, ← keeps.limit, ← head) c.add_strip.ensures.reads in
    let now : IfSome (told_all (g.I.Images.seen c.loop-sector.images).attached) (λ bytes.
    CountsFirst bytes c.loop-sector.strips.many c.loop-sector.strips.head c.loop-sector.strips.end c.loop-sector.strips.limit c.loop-sector.at c.loop-sector.self →
    CountsFirst bytes c.loop-sector.strips.many c.loop-sector.strips.head c.loop-sector.strips.end c.loop-sector.strips.limit (c.loop-sector.at + c.count_at-count.result) c.add_strip.new.self) = c.in_ok-add_strip.ensures.told in
    record {
      sector = c.sector_at-sector.ensures ∙ ap (λ (h : NearHead). lane_depth h 0 (c.loop-sector.at + c.count_at-count.result)) (keeps'.head ∙ head);
      late = (let late = lane_late c.args.strips.now.head 0 (c.loop-sector.at + c.count_at-count.result) c.requires.over.head in let here = c.sector_at-sector.ensures ∙ ap (λ (h : NearHead). lane_depth h 0 (c.loop-sector.at + c.count_at-count.result)) (keeps'.head ∙ head) in omega arith);
      short = c.loop-sector.invariant.short;
      within = omega arith;
      faults = search rules;
      reads = subst (λ (n : ℕ). OnlyReads (g.I.Images.seen c.args.images.now) (g.I.Images.seen c.add_strip.new.images) (c.args.strips.now.many * n)) (sym more)
          (reads_more (g.I.Images.seen c.args.images.now) (g.I.Images.seen c.loop-sector.images) (g.I.Images.seen c.add_strip.new.images) c.args.strips.now.many (spent_of c.args.strips.now.head c.args.strips.now.limit c.loop-sector.at)
          (rests_of c.args.strips.now.head c.args.strips.now.limit c.loop-sector.at c.count_at-count.result c.args.strips.now.head.layout.copies) c.loop-sector.invariant.reads reads);
      told = if_both (told_all (g.I.Images.seen c.args.images.now).attached)
          (λ bytes. CountsFirst bytes c.args.strips.now.many c.args.strips.now.head c.args.strips.now.end c.args.strips.now.limit c.loop-sector.at c.loop-sector.self)
          (λ bytes. CountsFirst bytes c.args.strips.now.many c.args.strips.now.head c.args.strips.now.end c.args.strips.now.limit c.loop-sector.at c.loop-sector.self → CountsFirst bytes c.args.strips.now.many c.args.strips.now.head c.args.strips.now.end c.args.strips.now.limit (c.loop-sector.at + c.count_at-count.result) c.add_strip.new.self)
          (λ bytes. CountsFirst bytes c.args.strips.now.many c.args.strips.now.head c.args.strips.now.end c.args.strips.now.limit (c.loop-sector.at + c.count_at-count.result) c.add_strip.new.self)
          (λ bytes before step. step before)
          c.loop-sector.invariant.told
          (rw (← c.loop-sector.invariant.reads.attached, ← keeps.many, ← head, ← keeps.end, ← limit) now);
      keeps = record { many = keeps'.many ∙ keeps.many; head = keeps'.head ∙ keeps.head; end = keeps'.end ∙ keeps.end; limit = keeps'.limit ∙ keeps.limit };
      room = c.add_strip.ensures.room;
    }

pub returns-clause-told : goal.returns-clause-told
returns-clause-told g c =
    let keeps = c.loop-sector.invariant.keeps in
    let limit : c.loop-sector.strips.limit ≡ c.args.strips.now.limit = keeps.limit in
    let end = c.loop-sector-test.false in
    let sector = c.loop-sector.invariant.sector in
    if_told (told_all (g.I.Images.seen c.args.images.now).attached)
    (λ bytes. CountsFirst bytes c.args.strips.now.many c.args.strips.now.head c.args.strips.now.end c.args.strips.now.limit c.loop-sector.at c.loop-sector.self)
    (λ bytes. IsTornTable bytes c.args.strips.now.many c.args.strips.now.head c.args.strips.now.end c.args.strips.now.limit c.loop-sector.self)
    (λ bytes counts. table_whole bytes c.args.strips.now.many c.args.strips.now.head c.args.strips.now.end c.args.strips.now.limit c.loop-sector.at c.loop-sector.self c.requires.over.head c.loop-sector.invariant.within (omega arith) counts)
    c.loop-sector.invariant.told

pub returns-clause-reads : goal.returns-clause-reads
returns-clause-reads g c =
    reads_no_more (g.I.Images.seen c.args.images.now) (g.I.Images.seen c.loop-sector.images) c.args.strips.now.many (spent_of c.args.strips.now.head c.args.strips.now.limit c.loop-sector.at)
    (sectors_read c.args.strips.now.head c.args.strips.now.limit) (spent_most c.args.strips.now.head c.args.strips.now.limit c.loop-sector.at c.requires.over.head) c.loop-sector.invariant.reads
