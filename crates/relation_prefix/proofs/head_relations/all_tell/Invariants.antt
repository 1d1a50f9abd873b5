use Rattle.std.proofs.Common.{◌≡◌, true, take}
use Rattle.std.specs.List.{list_all}
use Rattle.relation_prefix.specs.Ties.{tells_much}
use Rattle.relation_prefix.proofs.head_relations.all_tell.Given as goal

abbrev pub invariant-loop-number : goal.invariant-loop-number
invariant-loop-number l = list_all (λ s. tells_much s.ties) (take l.number l.rows) ≡ true
