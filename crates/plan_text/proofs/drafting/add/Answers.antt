use Rattle.std.proofs.Common.{subst, Option, Some}
use Rattle.landmark_rules.specs.declared.marks.Group.{Group}
use Rattle.plan_text.specs.Drafts.{IsDraft}
use Rattle.plan_text.proofs.GroupRules.{draft_added, draft_with}
use Rattle.plan_text.proofs.drafting.add.Goals as goal

pub returns-in_ok-push-clause-draft : goal.returns-in_ok-push-clause-draft
returns-in_ok-push-clause-draft c =
    let d = c.args.draft.now in
    let was : IsDraft (draft_with d.closed (Some c.in-Some.group) d.groups d.marks) = subst (λ (x : Option Group). IsDraft (draft_with d.closed x d.groups d.marks)) c.in-Some.is c.requires.draft in
    rw c.in_ok-push.ensures.ok (draft_added d.closed c.in-Some.group d.groups d.marks c.args.mark c.place.result c.place.ensures was)
