use Rattle.std.proofs.Common.{◌≡◌, ◌<◌, ◌≤◌, ℕ, Bool, true, ◌&&◌, List, Option, IfSome, length, filter, refl, sym, ap, ◌∙◌, subst}
use Rattle.slot_math.specs.Space.{begins, lists_of}
use Rattle.prune_filters.specs.Hopeful.{is_hopeful_by, IsPrefix}
use Rattle.relation_prefix.specs.Ties.{AreThere}
use Rattle.head_walk.specs.Relations.{kept_rows, rows_allow}
use Rattle.head_walk.specs.Walk.{is_admitted, rows_admit, Asked, Sifted}
use Rattle.head_walk.proofs.Admitted.{is_prefix}
use Rattle.head_walk.proofs.Relating.{allowed_by, relations_short, relations_there}
use Rattle.head_walk.proofs.hopeful.HopefulFamily.may_pass.Goals as goal

prefix_is : (c : goal.After-deref) → IsPrefix c.self.inside.rows.plan c.self.inside.rows.head c.args.prefix.now.items
prefix_is c =
    let Q : Sifted → Type 0 = λ s. 0 < length (filter (begins c.args.prefix.now.items) (lists_of s.asked.space)) in
    is_prefix c.self.inside.rows.plan c.self.inside.rows.head c.self.inside.space c.args.prefix.now.items c.self.invariant.0 (subst Q (sym c.self.view_is) c.requires.begins)

pub early_may_pass-requires-clause-prefix : goal.early_may_pass-requires-clause-prefix
early_may_pass-requires-clause-prefix c =
    let Q : Sifted → Type 0 = λ s. 0 < length (filter (begins c.args.prefix.now.items) (lists_of s.asked.space)) in
    is_prefix c.self.inside.rows.plan c.self.inside.rows.head c.self.inside.space c.args.prefix.now.items c.self.invariant.0 (subst Q (sym c.self.view_is) c.requires.begins)

pub may_begin_by-requires-clause-short : goal.may_begin_by-requires-clause-short
may_begin_by-requires-clause-short c =
    let P : List (Option ℕ) → Type 0 = λ l. IfSome c.self.inside.relations (λ r. length l ≤ r.test.head.members) in
    subst P (sym c.deref.ensures.0)
    (relations_short c.self.inside.rows.plan c.self.inside.rows.head c.self.inside.relations c.args.prefix.now.items c.self.invariant.2 (prefix_is c).short)

pub may_begin_by-requires-clause-images : goal.may_begin_by-requires-clause-images
may_begin_by-requires-clause-images c =
    let P : List (Option ℕ) → Type 0 = λ l. IfSome c.self.inside.relations (λ r. AreThere r.rows.images l) in
    subst P (sym c.deref.ensures.0)
    (relations_there c.self.inside.rows.plan c.self.inside.rows.head c.self.inside.relations c.args.prefix.now.items c.self.invariant.2 (prefix_is c).images)

pub returns-then-early_may_pass : goal.returns-then-early_may_pass
returns-then-early_may_pass c =
    let asked : Asked = record { plan = c.self.inside.rows.plan; head = c.self.inside.rows.head; space = c.self.inside.space; xors = c.self.inside.rows.xors } in
    let hopeful : is_hopeful_by c.self.inside.rows.xors c.self.inside.rows.plan c.self.inside.rows.head c.args.prefix.now.items ≡ true = sym c.early_may_pass.ensures.tables ∙ c.if-early_may_pass.true in
    let allowed : rows_allow c.self.inside.relations c.deref.result.now ≡ rows_admit asked (kept_rows c.self.inside.relations) c.args.prefix.now.items
    = ap (rows_allow c.self.inside.relations) c.deref.ensures.0
    ∙ allowed_by c.self.inside.rows.plan c.self.inside.rows.head asked c.self.inside.relations c.args.prefix.now.items refl refl c.self.invariant.2 in
    c.may_begin_by.ensures ∙ allowed
    ∙ sym (ap (λ (b : Bool). b && rows_admit asked (kept_rows c.self.inside.relations) c.args.prefix.now.items) hopeful)
    ∙ ap (λ (s : Sifted). is_admitted s c.args.prefix.now.items) c.self.view_is
