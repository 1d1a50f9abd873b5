use Rattle.std.proofs.Common.{◌<◌, ◌^◌, ◌++◌, ◌∙◌, [], ◌∷◌, ap, map, codes, decimal, refl}
use Rattle.std.specs.Option.{ok_or}
use Rattle.std.proofs.lemmas.Result.{err_from_is_err_and}
use Rattle.value_text.specs.NameLaws.{byte_law}
use Rattle.value_text.specs.Bounded.{AreMembers}
use Rattle.value_text.specs.Spelling.{commas}
use Rattle.value_text.proofs.Fits.{members_are_bytes}
use Rattle.value_text.proofs.Lists.{word_line}
use Rattle.plan_text.proofs.OneLine.{a_line, no_line, line_answer}
use Rattle.plan_text.proofs.SectionLines.{of_items, are_members}
use Rattle.plan_text.proofs.reader.PlanReader.members.Goals as goal

pub returns-in_err-line : goal.returns-in_err-line
returns-in_err-line c =
    let p = err_from_is_err_and c.from_residual.result c.from_residual.ensures.1 in
    rw (p.1, p.2) (no_line (λ xs. AreMembers xs.items) (λ xs. codes "members " ++ commas (map decimal xs.items)) record { items = 2 ∷ [] } are_members c.args.self.now _ c.in_err-line.ensures)

pub returns : goal.returns
returns c =
    line_answer (λ xs. AreMembers xs.items) (λ xs. codes "members " ++ commas (map decimal xs.items)) record { items = 2 ∷ [] } are_members
    (λ xs is. word_line decimal (λ n. n < 2 ^ 8) byte_law (codes "members ") (a_line (codes "members ") refl) xs.items (members_are_bytes xs.items is.1))
    c.args.self.now c.next_line.new.self c.in_ok-line.line.now c.members_after.result c.ok_or.result c.in_ok-line.ensures
    (of_items (λ xs. xs.items) (λ xs. AreMembers xs) (λ xs. codes "members " ++ commas (map decimal xs)) c.in_ok-line.line.now c.members_after.result c.members_after.ensures)
    (c.ok_or.ensures.value ∙ ap (λ fault. ok_or c.members_after.result fault) c.refusal.ensures)
