use Rattle.std.proofs.Common.{nat_lt, rules, tests}
use Rattle.std.proofs.lemmas.List.Sorted.{answers_always}
use Rattle.command_words.specs.Operands.{layout_place}
use Rattle.value_text.proofs.Lists.{rises_from_pairs}
use Rattle.command_words.proofs.layouts.rise.Goals as goal

pub returns : goal.returns
returns c = rises_from_pairs layout_place c.args.layouts.now c.is_sorted_by.result (c.is_sorted_by.ensures.cases (λ x y. nat_lt (layout_place x) (layout_place y)) (answers_always _ _ _ (λ f a r next called. search (rules, tests))))
