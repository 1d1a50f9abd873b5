use Rattle.std.proofs.Common.{◌≤◌, List, ℕ, ap₂, sym, ◌∙◌}
use Rattle.std.specs.List.{slice_get}
use Rattle.raid_params.specs.declared.limits.TheConstants.{MOST}
use Rattle.raid_params.specs.declared.types.Level.{Level}
use Rattle.set_product.specs.Pairs.{pairs}
use Rattle.set_product.proofs.Pairs.{second_of}
use Rattle.set_product.proofs.product.block_at.Goals as goal

pub of-requires-clause-members : goal.of-requires-clause-members
of-requires-clause-members c =
    let bounds = c.args.plan.now.bounds in
    let found = ap₂ (λ (ls : List Level) (ms : List ℕ). slice_get (pairs ls ms) c.args.at) (sym c.deref.ensures.0) (sym c.deref-2.ensures.0) ∙ c.pair_at-level.ensures in
    let within = second_of (λ (n : ℕ). (2 ≤ n) × (n ≤ MOST)) bounds.levels.items bounds.members.items c.args.at c.pair_at-level.result c.requires.plan.bounds.few_members found in
    within.1
