use Rattle.std.proofs.Common.{rules, ◌≡◌, ◌≢◌, ℕ, ◌+◌, ◌*◌, ◌<◌, [], IfSome, length, sym, subst, ap, arith, ◌∙◌}
use Rattle.std.proofs.lemmas.List.{length-set}
use Rattle.outside.specs.Attached.{told_all}
use Rattle.outside.specs.Seen.{OnlyReads}
use Rattle.member_regions.proofs.IfTold.{if_both}
use Rattle.member_regions.specs.Regions.{IsRoomFor, Room}
use Rattle.member_regions.specs.declared.regions.TheConstants.{BLOCK}
use Rattle.slot_math.proofs.Lists.{each_set}
use Rattle.near_tables.specs.Reading.{HoldsLane, HoldStrip, rest_of, rests_of}
use Rattle.near_tables.specs.Tables.{lane_depth, lane_sector}
use Rattle.near_tables.specs.Torn.{part_start}
use Rattle.near_tables.proofs.Reach.{reads_more, reads_no_more, rests_more, rests_up}
use Rattle.near_tables.proofs.lane_reading.Strips.read_lanes.Goals as goal

pub returns-in_err-read_strip-clause-reads : goal.returns-in_err-read_strip-clause-reads
returns-in_err-read_strip-clause-reads g c =
    let keeps = c.loop-lane.invariant.keeps in
    let lt = c.loop-lane-test.true in
    let rest : c.rest_at-rest.result ≡ rest_of c.args.self.now.head c.args.self.now.limit c.args.at c.args.count c.loop-lane.lane = rw (← keeps.head, ← keeps.limit) c.rest_at-rest.ensures in
    let more = rests_more c.args.self.now.head c.args.self.now.limit c.args.at c.args.count c.loop-lane.lane in
    let least = rests_up c.args.self.now.head c.args.self.now.limit c.args.at c.args.count (c.loop-lane.lane + 1) c.args.self.now.head.layout.copies (omega arith) in
    reads_no_more (g.I.Images.seen c.args.images.now) (g.I.Images.seen c.read_strip.new.images) c.args.self.now.many
    (rests_of c.args.self.now.head c.args.self.now.limit c.args.at c.args.count c.loop-lane.lane + c.rest_at-rest.result) (rests_of c.args.self.now.head c.args.self.now.limit c.args.at c.args.count c.args.self.now.head.layout.copies) (omega arith)
    (reads_more (g.I.Images.seen c.args.images.now) (g.I.Images.seen c.loop-lane.images) (g.I.Images.seen c.read_strip.new.images) c.args.self.now.many (rests_of c.args.self.now.head c.args.self.now.limit c.args.at c.args.count c.loop-lane.lane) c.rest_at-rest.result
    c.loop-lane.invariant.reads c.read_strip.ensures.reads)

pub loop-lane-preserved : goal.loop-lane-preserved
loop-lane-preserved g c =
    let none : Room = record { members = 0; stride = 0; bytes = [] } in
    let keeps = c.loop-lane.invariant.keeps in
    let room = c.loop-lane.invariant.room in
    let lt = c.loop-lane-test.true in
    let copies : c.loop-lane.self.head.layout.copies ≡ c.args.self.now.head.layout.copies = ap (λ h. h.layout.copies) keeps.head in
    let index : c.from.result ≡ c.loop-lane.lane = c.from.ensures in
    let within : c.from.result < length c.loop-lane.self.lanes.items = let long = room.lanes in omega arith in
    let rest : c.rest_at-rest.result ≡ rest_of c.args.self.now.head c.args.self.now.limit c.args.at c.args.count c.loop-lane.lane = rw (← keeps.head, ← keeps.limit) c.rest_at-rest.ensures in
    let start : c.part_start.result ≡ c.args.self.now.head.offset + part_start c.args.self.now.head c.args.self.now.end c.loop-lane.lane = rw (← keeps.head, ← keeps.end) c.part_start.ensures in
    let depth : c.depth_in.result ≡ lane_depth c.args.self.now.head c.loop-lane.lane c.args.at = rw (← keeps.head) c.depth_in.ensures.depth in
    let sector : c.part_start.result + c.depth_in.result ≡ c.args.self.now.head.offset + lane_sector c.args.self.now.head c.args.self.now.end c.loop-lane.lane c.args.at = omega arith in
    let more = rests_more c.args.self.now.head c.args.self.now.limit c.args.at c.args.count c.loop-lane.lane in
    let total : rests_of c.args.self.now.head c.args.self.now.limit c.args.at c.args.count c.loop-lane.lane + c.rest_at-rest.result ≡ rests_of c.args.self.now.head c.args.self.now.limit c.args.at c.args.count (c.loop-lane.lane + 1) = omega arith in
    let now : IfSome (told_all (g.I.Images.seen c.loop-lane.images).attached) (λ bytes. HoldStrip bytes c.args.self.now.many (c.part_start.result + c.depth_in.result) c.rest_at-rest.result c.read_strip.new.regions) = c.in_ok-read_strip.ensures.told in
    record {
      faults = search rules;
      reads = subst (λ (n : ℕ). OnlyReads (g.I.Images.seen c.args.images.now) (g.I.Images.seen c.read_strip.new.images) (c.args.self.now.many * n)) total
          (reads_more (g.I.Images.seen c.args.images.now) (g.I.Images.seen c.loop-lane.images) (g.I.Images.seen c.read_strip.new.images) c.args.self.now.many (rests_of c.args.self.now.head c.args.self.now.limit c.args.at c.args.count c.loop-lane.lane) c.rest_at-rest.result
          c.loop-lane.invariant.reads c.read_strip.ensures.reads);
      told = if_both (told_all (g.I.Images.seen c.args.images.now).attached)
          (λ bytes. (a : ℕ) → a < c.loop-lane.lane → HoldsLane bytes c.args.self.now.many c.args.self.now.head c.args.self.now.end c.args.self.now.limit c.args.at c.args.count c.loop-lane.self.lanes.items a)
          (λ bytes. HoldStrip bytes c.args.self.now.many (c.part_start.result + c.depth_in.result) c.rest_at-rest.result c.read_strip.new.regions)
          _
          (λ bytes before hold a below. each_set {X = Room}
          (λ n regions. HoldStrip bytes c.args.self.now.many (c.args.self.now.head.offset + lane_sector c.args.self.now.head c.args.self.now.end n c.args.at) (rest_of c.args.self.now.head c.args.self.now.limit c.args.at c.args.count n) regions)
          c.loop-lane.self.lanes.items (c.loop-lane.lane + 1) c.from.result c.read_strip.new.regions none within
          (subst (λ (n : ℕ). HoldStrip bytes c.args.self.now.many (c.args.self.now.head.offset + lane_sector c.args.self.now.head c.args.self.now.end n c.args.at) (rest_of c.args.self.now.head c.args.self.now.limit c.args.at c.args.count n) c.read_strip.new.regions) (sym index)
          (subst (λ (n : ℕ). HoldStrip bytes c.args.self.now.many (c.args.self.now.head.offset + lane_sector c.args.self.now.head c.args.self.now.end c.loop-lane.lane c.args.at) n c.read_strip.new.regions) rest
          (subst (λ (s : ℕ). HoldStrip bytes c.args.self.now.many s c.rest_at-rest.result c.read_strip.new.regions) sector hold)))
          (λ i low ne. before i (let other : i ≢ c.from.result = ne in omega arith)) a below)
          c.loop-lane.invariant.told
          (rw (← c.loop-lane.invariant.reads.attached) now);
      keeps = record { many = keeps.many; head = keeps.head; end = keeps.end; limit = keeps.limit };
      room = record {
        lanes = length-set c.loop-lane.self.lanes.items c.from.result c.read_strip.new.regions ∙ room.lanes;
        blocks = λ lane below. each_set {X = Room} (λ n regions. IsRoomFor c.loop-lane.self.many BLOCK regions) c.loop-lane.self.lanes.items c.loop-lane.self.head.layout.copies c.from.result c.read_strip.new.regions none within
            (rw (keeps.many) c.read_strip.ensures.room) (λ i low ne. room.blocks i low) lane below;
      };
    }
