use Rattle.std.proofs.Common.{nat_lt, rules, tests}
use Rattle.std.proofs.lemmas.List.Sorted.{answers_always}
use Rattle.value_text.proofs.Lists.{rises_from_pairs}
use Rattle.value_text.proofs.spelled.rises.Goals as goal

pub returns : goal.returns
returns g c = rises_from_pairs g.T.Listed.place c.args.values.now c.is_sorted_by.result (c.is_sorted_by.ensures.cases (λ x y. nat_lt (g.T.Listed.place x) (g.T.Listed.place y)) (answers_always _ _ _ (λ f a r next called. search (rules, tests))))
