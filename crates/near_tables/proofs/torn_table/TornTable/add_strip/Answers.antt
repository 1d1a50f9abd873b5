use Rattle.std.proofs.Common.{◌+◌, ◌<◌, ℕ, [], IfSome, length, get_or, arith, sym, ap, subst}
use Rattle.outside.specs.Attached.{told_all}
use Rattle.member_regions.proofs.IfTold.{if_told}
use Rattle.near_tables.specs.Counting.{AddsPair}
use Rattle.near_tables.specs.Reading.{HoldsLane}
use Rattle.near_tables.specs.Tables.{CountsFirst, TornCounts}
use Rattle.near_tables.proofs.Pairs.{lane_late}
use Rattle.near_tables.proofs.Reach.{limit_short}
use Rattle.near_tables.proofs.Strips.{table_more, written_whole}
use Rattle.near_tables.proofs.torn_table.TornTable.add_strip.Goals as goal

pub returns-clause-told : goal.returns-clause-told
returns-clause-told g c =
    let keeps = c.read_lanes.ensures.keeps in
    let value = c.deref_mut.ensures.value in
    let long = c.self.invariant in
    let same = c.add_lanes.ensures.long in
    let whole = written_whole c.self.inside.counts.len c.self.inside.counts.items c.add_lanes.new.counts (omega arith) (omega (arith, c.deref_mut.ensures.len, ap length value)) in
    let late = lane_late c.args.strips.now.head 0 c.args.at c.requires.over.head in
    let sector = c.requires.sector in
    let within = c.requires.within in
    let short = limit_short (g.I.Images.seen c.args.images.now).attached c.args.strips.now c.requires.over in
    let adds : (pair : ℕ) → pair < 16 → AddsPair c.args.strips.now.many c.args.strips.now.head c.args.strips.now.limit c.args.at c.args.count c.read_lanes.new.self.lanes.items pair (get_or c.self.inside.counts.items pair []) (get_or c.add_lanes.new.counts pair [])
    = λ pair lt. rw (← keeps.many, ← keeps.head, ← keeps.limit, ← value) (c.add_lanes.ensures.adds pair lt) in
    subst (λ (t : TornCounts). IfSome (told_all (g.I.Images.seen c.args.images.now).attached) (λ bytes.
    CountsFirst bytes c.args.strips.now.many c.args.strips.now.head c.args.strips.now.end c.args.strips.now.limit c.args.at c.args.self.now →
    CountsFirst bytes c.args.strips.now.many c.args.strips.now.head c.args.strips.now.end c.args.strips.now.limit (c.args.at + c.args.count) t)) whole
    (if_told (told_all (g.I.Images.seen c.args.images.now).attached)
    (λ bytes. (lane : ℕ) → lane < c.args.strips.now.head.layout.copies → HoldsLane bytes c.args.strips.now.many c.args.strips.now.head c.args.strips.now.end c.args.strips.now.limit c.args.at c.args.count c.read_lanes.new.self.lanes.items lane)
    (λ bytes. CountsFirst bytes c.args.strips.now.many c.args.strips.now.head c.args.strips.now.end c.args.strips.now.limit c.args.at c.args.self.now →
    CountsFirst bytes c.args.strips.now.many c.args.strips.now.head c.args.strips.now.end c.args.strips.now.limit (c.args.at + c.args.count) c.add_lanes.new.counts)
    (λ bytes hold before. table_more bytes c.args.strips.now.many c.args.strips.now.head c.args.strips.now.end c.args.strips.now.limit c.args.at c.args.count c.read_lanes.new.self.lanes.items c.self.inside.counts.items c.add_lanes.new.counts
    c.requires.over.head c.requires.row (omega arith) hold adds
    (subst (λ (t : TornCounts). CountsFirst bytes c.args.strips.now.many c.args.strips.now.head c.args.strips.now.end c.args.strips.now.limit c.args.at t) (sym c.self.view_is) before))
    c.in_ok-read_lanes.ensures.told)
