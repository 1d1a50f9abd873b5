use Rattle.std.proofs.Common.{reverse, ap, ◌∙◌}
use Rattle.relation_lines.specs.Shared.{counted, ordered}
use Rattle.relation_lines.proofs.Orders.{sorted_is}
use Rattle.relation_lines.proofs.shared.add_shares.Goals as goal

pub returns : goal.returns
returns c =
    let sets = sorted_is c.args.sets.now.items c.sort_unstable.new.self.items c.sort_unstable.ensures.permutation c.sort_unstable.ensures.sorted in
    let shares = sorted_is c.count_sets.new.shares.items c.sort_unstable-2.new.self.items c.sort_unstable-2.ensures.permutation c.sort_unstable-2.ensures.sorted in
    c.reverse.ensures.items ∙ ap reverse (shares ∙ ap ordered (c.count_sets.ensures ∙ ap counted (c.deref.ensures.value ∙ sets)))
