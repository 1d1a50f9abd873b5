use Rattle.std.proofs.Common.{ℕ, ◌≤◌, ◌+◌, ◌-◌, ◌^◌, refl, sym, ap, ◌∙◌, arith, Some}
use Rattle.raid_params.specs.declared.limits.TheConstants.{MOST}
use Rattle.candidate_enum.specs.Survivors.{question}
use Rattle.candidate_enum.specs.Counts.{ways_on}
use Rattle.candidate_enum.specs.Left.{left_children, overlaps}
use Rattle.candidate_enum.proofs.Looks.{counted_image, image_within, look_fits, look_on, look_passed}
use Rattle.candidate_enum.proofs.search.Search.next_image.Goals as goal

pub ways-ways-requires-clause-within : goal.ways-ways-requires-clause-within
ways-ways-requires-clause-within g c =
    let q = question c.args.self.now.space (g.F.Family.admits c.args.self.now.family.now) c.args.self.now.from c.args.self.now.stop in
    image_within q c.args.walk.now.slots.items c.args.walk.now.free c.args.walk.now.empty c.len.result c.requires.kept c.requires.parent.short c.len.ensures.value

pub loop-image-init : goal.loop-image-init
loop-image-init g c =
    let q = question c.args.self.now.space (g.F.Family.admits c.args.self.now.family.now) c.args.self.now.from c.args.self.now.stop in
    let p = c.args.walk.now.slots.items in
    record {
      within = c.next_free-image.ensures.high;
      free = c.next_free-image.ensures.free;
      looked = look_on q p (left_children q p c.args.first c.args.walk.now.rank) c.args.first c.next_free-image.result c.args.walk.now.rank c.args.walk.now.free c.args.walk.now.empty c.requires.search c.requires.kept
          (record { same = refl; parent = c.requires.parent }) c.next_free-image.ensures.low c.next_free-image.ensures.high c.next_free-image.ensures.others;
    }

pub meets_range-requires : goal.meets_range-requires
meets_range-requires g c =
    let q = question c.args.self.now.space (g.F.Family.admits c.args.self.now.family.now) c.args.self.now.from c.args.self.now.stop in
    let p = c.args.walk.now.slots.items in
    let n = counted_image q p (left_children q p c.args.first c.args.walk.now.rank) c.loop-image.at c.args.walk.now.free c.args.walk.now.empty c.loop-image.image c.ways-ways.result c.requires.search c.requires.kept c.loop-image.invariant.looked c.loop-image-test.true (c.loop-image.invariant.free c.loop-image-test.true)
    (c.ways-ways.ensures ∙ ap (λ (k : ℕ). ways_on q.space (q.space.members - k - 1) c.args.walk.now.empty) c.len.ensures.value) in
    look_fits q p (left_children q p c.args.first c.args.walk.now.rank) c.loop-image.image c.loop-image.at c.ways-ways.result (Some c.loop-image.image) c.requires.search c.loop-image.invariant.looked n

pub returns-then-meets_range-clause-found : goal.returns-then-meets_range-clause-found
returns-then-meets_range-clause-found g c = λ _.
    let q = question c.args.self.now.space (g.F.Family.admits c.args.self.now.family.now) c.args.self.now.from c.args.self.now.stop in
    let p = c.args.walk.now.slots.items in
    let n = counted_image q p (left_children q p c.args.first c.args.walk.now.rank) c.loop-image.at c.args.walk.now.free c.args.walk.now.empty c.loop-image.image c.ways-ways.result c.requires.search c.requires.kept c.loop-image.invariant.looked c.loop-image-test.true (c.loop-image.invariant.free c.loop-image-test.true)
    (c.ways-ways.ensures ∙ ap (λ (k : ℕ). ways_on q.space (q.space.members - k - 1) c.args.walk.now.empty) c.len.ensures.value) in
    ap (overlaps q.from q.stop c.loop-image.at) (sym n.lists) ∙ sym c.meets_range.ensures ∙ c.if-meets_range.true

pub overflow_add-at : goal.overflow_add-at
overflow_add-at g c =
    let q = question c.args.self.now.space (g.F.Family.admits c.args.self.now.family.now) c.args.self.now.from c.args.self.now.stop in
    let p = c.args.walk.now.slots.items in
    let n = counted_image q p (left_children q p c.args.first c.args.walk.now.rank) c.loop-image.at c.args.walk.now.free c.args.walk.now.empty c.loop-image.image c.ways-ways.result c.requires.search c.requires.kept c.loop-image.invariant.looked c.loop-image-test.true (c.loop-image.invariant.free c.loop-image-test.true)
    (c.ways-ways.ensures ∙ ap (λ (k : ℕ). ways_on q.space (q.space.members - k - 1) c.args.walk.now.empty) c.len.ensures.value) in
    let fits : c.loop-image.at + c.ways-ways.result ≤ (MOST + 1) ^ MOST = look_fits q p (left_children q p c.args.first c.args.walk.now.rank) c.loop-image.image c.loop-image.at c.ways-ways.result (Some c.loop-image.image) c.requires.search c.loop-image.invariant.looked n in
    omega arith

pub loop-image-preserved : goal.loop-image-preserved
loop-image-preserved g c =
    let q = question c.args.self.now.space (g.F.Family.admits c.args.self.now.family.now) c.args.self.now.from c.args.self.now.stop in
    let p = c.args.walk.now.slots.items in
    let n = counted_image q p (left_children q p c.args.first c.args.walk.now.rank) c.loop-image.at c.args.walk.now.free c.args.walk.now.empty c.loop-image.image c.ways-ways.result c.requires.search c.requires.kept c.loop-image.invariant.looked c.loop-image-test.true (c.loop-image.invariant.free c.loop-image-test.true)
    (c.ways-ways.ensures ∙ ap (λ (k : ℕ). ways_on q.space (q.space.members - k - 1) c.args.walk.now.empty) c.len.ensures.value) in
    let past = look_passed q p (left_children q p c.args.first c.args.walk.now.rank) c.loop-image.image c.loop-image.at c.ways-ways.result (Some c.loop-image.image) c.requires.search c.loop-image.invariant.looked n (sym c.meets_range.ensures ∙ c.if-meets_range.false) in
    let next = c.next_free-image-in-loop-image in
    record {
      within = next.ensures.high;
      free = next.ensures.free;
      looked = look_on q p (left_children q p c.args.first c.args.walk.now.rank) (c.loop-image.image + 1) next.result (c.loop-image.at + c.ways-ways.result) c.args.walk.now.free c.args.walk.now.empty c.requires.search c.requires.kept
          past next.ensures.low next.ensures.high next.ensures.others;
    }
