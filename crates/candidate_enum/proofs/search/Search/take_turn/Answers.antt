use Rattle.std.proofs.Common.{sym, ◌∙◌, subst, ◌≤◌, ◌<◌, ◌+◌, ◌^◌, ◌≡◌, length, arith, None}
use Rattle.raid_params.specs.declared.limits.TheConstants.{MOST}
use Rattle.std.specs.List.{filter}
use Rattle.slot_math.specs.Space.{begins, lists_of}
use Rattle.slot_math.specs.declared.space.Space.{Space}
use Rattle.candidate_enum.specs.Survivors.{question}
use Rattle.candidate_enum.specs.Left.{left_at, left_after, left_children, left_from}
use Rattle.candidate_enum.proofs.Looks.{here_within, standing_count}
use Rattle.candidate_enum.proofs.Turns.{refused, deeper, begins_some, done_fits, turn_to}
use Rattle.candidate_enum.proofs.search.Search.take_turn.Goals as goal

pub may_pass-requires-clause-begins : goal.may_pass-requires-clause-begins
may_pass-requires-clause-begins g c =
    let q = question c.args.self.now.space (g.F.Family.admits c.args.self.now.family.now) c.args.self.now.from c.args.self.now.stop in
    let P : Space → Type 0 = λ s. 0 < length (filter (begins c.args.walk.now.slots.items) (lists_of s)) in
    subst P c.requires.family (begins_some q c.args.walk.now.slots.items c.args.walk.now.rank c.requires.stands)

pub ways-requires-clause-within : goal.ways-requires-clause-within
ways-requires-clause-within g c =
    let q = question c.args.self.now.space (g.F.Family.admits c.args.self.now.family.now) c.args.self.now.from c.args.self.now.stop in
    here_within q c.args.walk.now.slots.items c.args.walk.now.free c.args.walk.now.empty c.len-count.result c.requires.kept c.requires.stands.short c.len-count.ensures.value

pub overflow_add-walk : goal.overflow_add-walk
overflow_add-walk g c =
    let q = question c.args.self.now.space (g.F.Family.admits c.args.self.now.family.now) c.args.self.now.from c.args.self.now.stop in
    let p = c.args.walk.now.slots.items in
    let rank = c.args.walk.now.rank in
    let n = standing_count q p rank c.args.walk.now.free c.args.walk.now.empty c.len-count.result c.ways.result c.requires.kept c.requires.stands c.len-count.ensures.value c.ways.ensures in
    let fits : rank + c.ways.result ≤ (MOST + 1) ^ MOST = done_fits q p rank c.ways.result c.requires.search c.requires.stands n in
    omega arith

pub climb-requires-clause-done : goal.climb-requires-clause-done
climb-requires-clause-done g c =
    let q = question c.args.self.now.space (g.F.Family.admits c.args.self.now.family.now) c.args.self.now.from c.args.self.now.stop in
    let p = c.args.walk.now.slots.items in
    let rank = c.args.walk.now.rank in
    let n = standing_count q p rank c.args.walk.now.free c.args.walk.now.empty c.len-count.result c.ways.result c.requires.kept c.requires.stands c.len-count.ensures.value c.ways.ensures in
    (refused q p rank c.ways.result c.requires.search c.requires.stands (sym c.may_pass.ensures ∙ c.if-not-may_pass.true) n).1

pub returns-then-not-may_pass-clause-passed : goal.returns-then-not-may_pass-clause-passed
returns-then-not-may_pass-clause-passed g c = λ _.
    let q = question c.args.self.now.space (g.F.Family.admits c.args.self.now.family.now) c.args.self.now.from c.args.self.now.stop in
    let p = c.args.walk.now.slots.items in
    let rank = c.args.walk.now.rank in
    let n = standing_count q p rank c.args.walk.now.free c.args.walk.now.empty c.len-count.result c.ways.result c.requires.kept c.requires.stands c.len-count.ensures.value c.ways.ensures in
    turn_to (left_at q p rank) None (left_after q p (rank + c.ways.result)) (left_from q c.climb.new.walk)
    (refused q p rank c.ways.result c.requires.search c.requires.stands (sym c.may_pass.ensures ∙ c.if-not-may_pass.true) n).0 c.climb.ensures.left

pub descend-requires-clause-parent : goal.descend-requires-clause-parent
descend-requires-clause-parent g c =
    let q = question c.args.self.now.space (g.F.Family.admits c.args.self.now.family.now) c.args.self.now.from c.args.self.now.stop in
    let p = c.args.walk.now.slots.items in
    let rank = c.args.walk.now.rank in
    let short : length p < c.args.self.now.space.members = (let n = c.len-count.ensures.value in let lt = c.if-count-members.true in omega arith) in
    (deeper q p rank c.requires.search c.requires.stands (sym c.may_pass.ensures ∙ c.if-not-may_pass.false) short).1

pub returns-then-count-members-clause-passed : goal.returns-then-count-members-clause-passed
returns-then-count-members-clause-passed g c = λ _.
    let q = question c.args.self.now.space (g.F.Family.admits c.args.self.now.family.now) c.args.self.now.from c.args.self.now.stop in
    let p = c.args.walk.now.slots.items in
    let rank = c.args.walk.now.rank in
    let short : length p < c.args.self.now.space.members = (let n = c.len-count.ensures.value in let lt = c.if-count-members.true in omega arith) in
    turn_to (left_at q p rank) None (left_children q p 0 rank) (left_from q c.descend.new.walk)
    (deeper q p rank c.requires.search c.requires.stands (sym c.may_pass.ensures ∙ c.if-not-may_pass.false) short).0 c.descend.ensures.left

pub returns-clause-met : goal.returns-clause-met
returns-clause-met g c = λ _.
    let p = c.args.walk.now.slots.items in
    let n : c.len-count.result ≡ length p = c.len-count.ensures.value in
    let ge : c.args.self.now.space.members ≤ c.len-count.result = c.if-count-members.false in
    let most : length p ≤ c.args.self.now.space.members = c.requires.stands.short in
    record { stands = c.requires.stands; long = omega arith; admitted = sym c.may_pass.ensures ∙ c.if-not-may_pass.false }
