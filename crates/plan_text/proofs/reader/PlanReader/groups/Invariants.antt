use Rattle.std.proofs.Common.{◌≡◌, false, length}
use Rattle.std.specs.List.{flat_map}
use Rattle.landmark_rules.specs.Groups.{AreGroups}
use Rattle.plan_text.specs.declared.entry.Entry.{Entry}
use Rattle.plan_text.specs.Drafts.{IsDraft, IsEntry, MayFollow, drafted}
use Rattle.plan_text.specs.PlanText.{group_lines, says_more, some_bounds}
use Rattle.plan_text.proofs.Refusals.{Went}
use Rattle.plan_text.proofs.reader.PlanReader.groups.Given as goal

abbrev pub invariant-loop-draft : goal.invariant-loop-draft
invariant-loop-draft l = record {
  draft : IsDraft l.draft;
  groups : AreGroups l.lengths (drafted l.draft);
  some : l.some ≡ some_bounds (drafted l.draft);
  bare : l.third ≡ false → says_more l.delayed (drafted l.draft) ≡ false;
  one : (entry : Entry) × (IsEntry entry × MayFollow l.third l.delayed l.lengths l.draft entry);
  went : Went l.fn.self l.self (flat_map group_lines (drafted l.draft));
}

abbrev pub decreases-loop-draft : goal.decreases-loop-draft
decreases-loop-draft l = length l.self.rest
