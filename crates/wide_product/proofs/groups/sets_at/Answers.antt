use Rattle.std.proofs.Common.{rules, ◌≡◌, ◌∷◌, ◌∙◌, List, [], filter, nat_lt, refl, Option, Some, None, sym, ap}
use Rattle.std.specs.Option.{IsSome}
use Rattle.std.specs.Iterator.{YieldsFirst}
use Rattle.set_product.specs.Heads.{end_of}
use Rattle.set_product.specs.declared.heads.HeadSets.{HeadSets}
use Rattle.wide_product.proofs.GroupAt.{some_ending}
use Rattle.wide_product.proofs.groups.sets_at.Goals as goal

pub unwrap-requires : goal.unwrap-requires
unwrap-requires c =
    let some = some_ending c.args.plan.now c.args.rank c.requires.plan c.requires.rank in
    of_steps some.0 some.1 c.next.result c.skip_to.new.self c.next.new.self (c.skip_to.ensures ∙ ap (λ (l : List HeadSets). filter (λ s. nat_lt c.args.rank (end_of s)) l) c.of-heads.ensures ∙ some.2) c.next.ensures.steps
  where
    of_steps : (x : HeadSets) (rest : List HeadSets) (o : Option HeadSets) (old new : List HeadSets) → old ≡ x ∷ rest → YieldsFirst (λ (s : List HeadSets). s) old o new → IsSome o
    of_steps x rest None old new is steps = absurd (let none : old ≡ [] = steps.0 in let bad : x ∷ rest ≡ [] = sym is ∙ none in search rules)
    of_steps x rest (Some s) old new is steps = refl
