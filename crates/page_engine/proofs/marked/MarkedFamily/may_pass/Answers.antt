use Rattle.std.proofs.Common.{ℕ, ◌<◌, List, Option, length, filter, sym, subst}
use Rattle.slot_math.specs.Space.{begins, lists_of}
use Rattle.slot_math.specs.Ways.{IsPrefixOf}
use Rattle.head_walk.specs.Walk.{Asked}
use Rattle.head_walk.proofs.Admitted.{is_prefix}
use Rattle.page_engine.proofs.marked.MarkedFamily.may_pass.Goals as goal

pub groups_may_hold-requires-clause-prefix : goal.groups_may_hold-requires-clause-prefix
groups_may_hold-requires-clause-prefix c =
    let Q : Asked → Type 0 = λ asked. 0 < length (filter (begins c.args.prefix.now.items) (lists_of asked.space)) in
    let P : List (Option ℕ) → Type 0 = λ prefix. IsPrefixOf (length c.self.inside.plan.now.lengths.items) c.self.inside.head.members prefix in
    subst P (sym c.deref.ensures.0) (is_prefix c.self.inside.plan.now c.self.inside.head c.self.inside.space c.args.prefix.now.items c.self.invariant.0 (subst Q (sym c.self.view_is) c.requires.begins))
