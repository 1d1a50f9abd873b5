use Rattle.std.proofs.Common.{ℕ, ◌≤◌, ◌<◌, ◌+◌, ◌-◌, ◌^◌, length, refl, sym, ap, ◌∙◌, arith, None}
use Rattle.raid_params.specs.declared.limits.TheConstants.{MOST}
use Rattle.candidate_enum.specs.Survivors.{question}
use Rattle.candidate_enum.specs.Counts.{ways_on}
use Rattle.candidate_enum.specs.Left.{left_children, Looked}
use Rattle.candidate_enum.proofs.Looks.{counted_empty, empty_within, few_empty, look_fits, look_found, look_passed, look_done, over_empty}
use Rattle.candidate_enum.proofs.search.Search.next_empty.Goals as goal

pub returns-then-walk-self-clause-passed : goal.returns-then-walk-self-clause-passed
returns-then-walk-self-clause-passed g c = λ _.
    let q = question c.args.self.now.space (g.F.Family.admits c.args.self.now.family.now) c.args.self.now.from c.args.self.now.stop in
    let p = c.args.walk.now.slots.items in
    let old = left_children q p c.args.self.now.space.images c.args.walk.now.rank in
    over_empty q p old c.args.walk.now.rank c.args.walk.now.free c.args.walk.now.empty c.requires.search c.requires.kept (record { same = refl; parent = c.requires.parent }) c.if-walk-self.true

pub overflow_add-walk : goal.overflow_add-walk
overflow_add-walk g c =
    let short : length c.args.walk.now.slots.items < c.args.self.now.space.members = c.requires.parent.short in
    let few : c.args.walk.now.empty + 1 < 2 ^ 64
    = few_empty c.args.walk.now.slots.items c.args.walk.now.free c.args.walk.now.empty c.args.self.now.space.members c.requires.kept (omega arith) c.requires.search.members in
    omega arith

pub ways-ways-requires-clause-within : goal.ways-ways-requires-clause-within
ways-ways-requires-clause-within g c =
    let q = question c.args.self.now.space (g.F.Family.admits c.args.self.now.family.now) c.args.self.now.from c.args.self.now.stop in
    empty_within q c.args.walk.now.slots.items c.args.walk.now.free c.args.walk.now.empty c.len.result c.requires.kept c.requires.parent.short c.len.ensures.value

pub meets_range-requires : goal.meets_range-requires
meets_range-requires g c =
    let q = question c.args.self.now.space (g.F.Family.admits c.args.self.now.family.now) c.args.self.now.from c.args.self.now.stop in
    let p = c.args.walk.now.slots.items in
    let rank = c.args.walk.now.rank in
    let images = c.args.self.now.space.images in
    let old = left_children q p images rank in
    let l : Looked q p old images rank = record { same = refl; parent = c.requires.parent } in
    let n = counted_empty q p old rank c.args.walk.now.free c.args.walk.now.empty c.ways-ways.result c.requires.kept l
    (c.ways-ways.ensures ∙ ap (λ (k : ℕ). ways_on q.space (q.space.members - k - 1) (c.args.walk.now.empty + 1)) c.len.ensures.value) in
    look_fits q p old images rank c.ways-ways.result None c.requires.search l n

pub returns-then-meets_range-clause-found : goal.returns-then-meets_range-clause-found
returns-then-meets_range-clause-found g c = λ _.
    let q = question c.args.self.now.space (g.F.Family.admits c.args.self.now.family.now) c.args.self.now.from c.args.self.now.stop in
    let p = c.args.walk.now.slots.items in
    let rank = c.args.walk.now.rank in
    let images = c.args.self.now.space.images in
    let old = left_children q p images rank in
    let l : Looked q p old images rank = record { same = refl; parent = c.requires.parent } in
    let n = counted_empty q p old rank c.args.walk.now.free c.args.walk.now.empty c.ways-ways.result c.requires.kept l
    (c.ways-ways.ensures ∙ ap (λ (k : ℕ). ways_on q.space (q.space.members - k - 1) (c.args.walk.now.empty + 1)) c.len.ensures.value) in
    look_found q p c.push_empty.new.self.slots.items old images rank c.push_empty.new.self.rank c.ways-ways.result None l n (sym c.meets_range.ensures ∙ c.if-meets_range.true) c.push_empty.ensures.slots c.push_empty.ensures.rank

pub overflow_add-walk-2 : goal.overflow_add-walk-2
overflow_add-walk-2 g c =
    let q = question c.args.self.now.space (g.F.Family.admits c.args.self.now.family.now) c.args.self.now.from c.args.self.now.stop in
    let p = c.args.walk.now.slots.items in
    let rank = c.args.walk.now.rank in
    let images = c.args.self.now.space.images in
    let old = left_children q p images rank in
    let l : Looked q p old images rank = record { same = refl; parent = c.requires.parent } in
    let n = counted_empty q p old rank c.args.walk.now.free c.args.walk.now.empty c.ways-ways.result c.requires.kept l
    (c.ways-ways.ensures ∙ ap (λ (k : ℕ). ways_on q.space (q.space.members - k - 1) (c.args.walk.now.empty + 1)) c.len.ensures.value) in
    let fits : rank + c.ways-ways.result ≤ (MOST + 1) ^ MOST = look_fits q p old images rank c.ways-ways.result None c.requires.search l n in
    omega arith

pub returns-clause-passed : goal.returns-clause-passed
returns-clause-passed g c = λ _.
    let q = question c.args.self.now.space (g.F.Family.admits c.args.self.now.family.now) c.args.self.now.from c.args.self.now.stop in
    let p = c.args.walk.now.slots.items in
    let rank = c.args.walk.now.rank in
    let images = c.args.self.now.space.images in
    let old = left_children q p images rank in
    let l : Looked q p old images rank = record { same = refl; parent = c.requires.parent } in
    let n = counted_empty q p old rank c.args.walk.now.free c.args.walk.now.empty c.ways-ways.result c.requires.kept l
    (c.ways-ways.ensures ∙ ap (λ (k : ℕ). ways_on q.space (q.space.members - k - 1) (c.args.walk.now.empty + 1)) c.len.ensures.value) in
    look_done q p p old (images + 1) (rank + c.ways-ways.result)
    (look_passed q p old images rank c.ways-ways.result None c.requires.search l n (sym c.meets_range.ensures ∙ c.if-meets_range.false)) refl refl
