use Rattle.std.proofs.Common.{ℕ, List, Option, sym, ap, ◌∙◌, subst}
use Rattle.raid_params.specs.declared.limits.TheConstants.{MOST}
use Rattle.raid_params.specs.Slots.{is_distinct}
use Rattle.slot_math.specs.Ways.{AllImages}
use Rattle.candidate_enum.specs.Kept.{IsKept}
use Rattle.candidate_enum.proofs.Bases.{all_but_last}
use Rattle.candidate_enum.proofs.walk.Walk.pop.Goals as goal

pub forget-requires-clause-place : goal.forget-requires-clause-place
forget-requires-clause-place c =
    let P : List (Option ℕ) → Type 0 = λ t. AllImages MOST t in
    (all_but_last MOST c.pop.new.self.items c.in-Some.last (subst P c.in-Some.ensures.items c.requires.images)).1

pub forget-requires-clause-distinct : goal.forget-requires-clause-distinct
forget-requires-clause-distinct c = ap is_distinct (sym c.in-Some.ensures.items) ∙ c.requires.distinct

pub forget-requires-clause-kept : goal.forget-requires-clause-kept
forget-requires-clause-kept c =
    let P : List (Option ℕ) → Type 0 = λ t. IsKept t c.args.self.now.free c.args.self.now.empty in
    subst P c.in-Some.ensures.items c.requires.kept
