use Rattle.std.proofs.Common.{◌≡◌, ◌∷◌, ◌++◌, take}
use Rattle.std.specs.List.{flat_map}
use Rattle.value_text.proofs.spelled.add_more.Given as goal

abbrev pub invariant-loop-value : goal.invariant-loop-value
invariant-loop-value g l = l.text ≡ l.initial.text ++ flat_map (λ value. l.separator ∷ g.T.Spelled.name value) (take l.value-index l.values)
