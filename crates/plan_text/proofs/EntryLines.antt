-- An entry stands on one line.
use Rattle.std.proofs.Common.{◌≢◌, ◌<◌, ◌^◌, ℕ, List, ◌∷◌, ◌++◌, codes, decimal, refl, arith}
use Rattle.std.proofs.lemmas.List.Elements.{All-cons, All-append}
use Rattle.mark_kinds.specs.declared.table.GroupKind.{GroupKind}
use Rattle.landmark_rules.specs.declared.marks.Mark.{Mark}
use Rattle.landmark_rules.specs.declared.marks.MarkBounds.{MarkBounds}
use Rattle.landmark_rules.specs.Groups.{AreMarkBounds}
use Rattle.landmark_rules.specs.declared.marks.Rule.{Rule}
use Rattle.landmark_rules.specs.declared.marks.Rule.TheVariants.{At, Either, Every}
use Rattle.landmark_rules.specs.Rules.{IsRule}
use Rattle.plan_text.specs.declared.entry.Entry.{Entry}
use Rattle.plan_text.specs.declared.entry.Entry.TheVariants.{Bounds as BoundsEntry, Done, Group as GroupEntry, Mark as MarkEntry}
use Rattle.plan_text.specs.Drafts.{IsEntry, IsSpelledMark, entry_line}
use Rattle.value_text.specs.NameLaws.{without_separator}
use Rattle.landmark_text.specs.KindLaws.{group_law, kind_law}
use Rattle.plan_text.specs.PlanText.{IsLine, bounds_line, mark_text, rule_text}
use Rattle.value_text.specs.Spelling.{named}
use Rattle.landmark_text.specs.Names.{group_name, kind_name}
use Rattle.value_text.proofs.Lists.{decimal_line}
use Rattle.plan_text.proofs.OneLine.{a_line}

abbrev IsNoFeed : ℕ → Type 0
IsNoFeed byte = byte ≢ 10

-- two pieces with a byte between them
joined : (xs ys : List ℕ) (byte : ℕ) → byte ≢ 10 → IsLine xs → IsLine ys → IsLine (xs ++ byte ∷ ys)
joined xs ys byte other p q = All-append IsNoFeed xs (byte ∷ ys) p (All-cons IsNoFeed byte ys other q)

colon : IsNoFeed 58
colon e = absurd (omega (arith, e))

space : IsNoFeed 32
space e = absurd (omega (arith, e))

number : (n : ℕ) → n < 2 ^ 55 → IsLine (decimal n)
number n small = decimal_line n (omega arith)

rule_line : (rule : Rule) → IsRule rule → IsLine (rule_text rule)
rule_line (At d) is = joined (codes "at") (decimal d) 58 colon (a_line (codes "at") refl) (number d is)
rule_line (Either d e) is = joined (codes "either") (decimal d ++ 58 ∷ decimal e) 58 colon (a_line (codes "either") refl) (joined (decimal d) (decimal e) 58 colon (number d is.0) (number e is.1))
rule_line (Every s c p) is =
    joined (codes "every") (decimal s ++ 58 ∷ (decimal c ++ 58 ∷ decimal p)) 58 colon (a_line (codes "every") refl)
    (joined (decimal s) (decimal c ++ 58 ∷ decimal p) 58 colon (number s is.0) (joined (decimal c) (decimal p) 58 colon (number c is.1) (number p is.2)))

pub a_mark_line : (mark : Mark) → IsSpelledMark mark → IsLine (mark_text mark)
a_mark_line mark is =
    joined (kind_name mark.kind) (decimal mark.image ++ 32 ∷ (decimal mark.sector ++ 32 ∷ rule_text mark.rule)) 32 space (without_separator 10 (kind_name mark.kind) refl (kind_law.has_no_separator mark.kind tt))
    (joined (decimal mark.image) (decimal mark.sector ++ 32 ∷ rule_text mark.rule) 32 space (decimal_line mark.image (let small = is.image in omega arith))
    (joined (decimal mark.sector) (rule_text mark.rule) 32 space (decimal_line mark.sector is.sector) (rule_line mark.rule is.rule)))

a_group_line : (kind : GroupKind) → IsLine (named (codes "group") (group_name kind))
a_group_line kind = joined (codes "group") (group_name kind) 32 space (a_line (codes "group") refl) (without_separator 10 (group_name kind) refl (group_law.has_no_separator kind tt))

a_bounds_line : (bounds : MarkBounds) → AreMarkBounds bounds → IsLine (bounds_line bounds)
a_bounds_line bounds are =
    joined (codes "bounds") (decimal bounds.misfits ++ 32 ∷ decimal bounds.least) 32 space (a_line (codes "bounds") refl)
    (joined (decimal bounds.misfits) (decimal bounds.least) 32 space (number bounds.misfits are.misfits) (number bounds.least are.least))

pub an_entry_line : (entry : Entry) → IsEntry entry → IsLine (entry_line entry)
an_entry_line Done is = a_line (codes "done") refl
an_entry_line (GroupEntry kind) is = a_group_line kind
an_entry_line (BoundsEntry bounds) is = a_bounds_line bounds is
an_entry_line (MarkEntry mark) is = joined (codes "mark") (mark_text mark) 32 space (a_line (codes "mark") refl) (a_mark_line mark is)
