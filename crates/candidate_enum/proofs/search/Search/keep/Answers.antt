use Rattle.std.proofs.Common.{◌<◌, length, subst}
use Rattle.std.specs.List.{filter}
use Rattle.slot_math.specs.Space.{begins, lists_of}
use Rattle.slot_math.specs.declared.space.Space.{Space}
use Rattle.candidate_enum.specs.Survivors.{question}
use Rattle.candidate_enum.proofs.Turns.{begins_some}
use Rattle.candidate_enum.proofs.search.Search.keep.Goals as goal

pub kept_next-requires-clause-begins : goal.kept_next-requires-clause-begins
kept_next-requires-clause-begins g c =
    let q = question c.args.self.now.space (g.F.Family.admits c.args.self.now.family.now) c.args.self.now.from c.args.self.now.stop in
    let P : Space → Type 0 = λ s. 0 < length (filter (begins c.args.walk.now.slots.items) (lists_of s)) in
    subst P c.requires.family (begins_some q c.args.walk.now.slots.items c.args.walk.now.rank c.requires.stands)
