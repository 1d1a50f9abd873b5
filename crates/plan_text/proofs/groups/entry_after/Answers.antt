use Rattle.std.proofs.Common.{◌≡◌, sym, subst, ◌∙◌}
use Rattle.plan_text.specs.Drafts.{MayFollow}
use Rattle.plan_text.proofs.Entries.{same_entry}
use Rattle.value_text.proofs.Spellings.{none_then}
use Rattle.plan_text.proofs.groups.entry_after.Goals as goal

pub returns-in_err-entry : goal.returns-in_err-entry
returns-in_err-entry c = none_then _ _ c.from_residual.result c.from_residual.ensures (λ entry is e. c.in_err-entry.ensures entry is.0 e)

pub returns-else-may_follow : goal.returns-else-may_follow
returns-else-may_follow c entry is e =
    let same : c.in_ok-entry.entry ≡ entry = same_entry c.in_ok-entry.entry entry c.in_ok-entry.ensures.0 is.0 (sym c.in_ok-entry.ensures.1 ∙ e) in
    let holds = c.may_follow.ensures.1 (subst (MayFollow c.args.bounding.third c.args.bounding.delayed c.args.lengths.now c.args.draft.now) (sym same) is.1) in
    let fails = c.if-may_follow.false in
    cc
