use Rattle.std.proofs.Common.{◌^◌, ◌*◌, ◌%◌, ◌-◌, nat_eq, refl, rules, tests}
use Rattle.std.proofs.lemmas.Iterator.{YieldsList-from_range}
use Rattle.std.proofs.lemmas.Iterator.Search.{any_from_yields_List}
use Rattle.inode_marks.specs.Inode.{are_ones}
use Rattle.inode_marks.proofs.inode.are_ones.Goals as goal

pub returns : goal.returns
unfolding are_ones
returns c = any_from_yields_List (λ k. nat_eq c.args.difference (1 * 2 ^ k % 2 ^ 64 - 1)) _ _ c.any.result c.any.ensures.ran (YieldsList-from_range 6 33 27 refl refl) (λ x b q k. search (rules, tests))
