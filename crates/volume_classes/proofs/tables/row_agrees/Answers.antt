use Rattle.std.proofs.Common.{sym, ◌∙◌}
use Rattle.volume_classes.proofs.TableRows.{agree_rows, equal_rows, set_valid}
use Rattle.volume_classes.proofs.tables.row_agrees.Goals as goal

pub returns : goal.returns
returns c a b end a_is b_is sizes a_below b_below =
    let left = c.row_of.ensures a end a_is a_below in
    let right = c.row_of-2.ensures b end b_is b_below in
    let a_valid = set_valid a c.args.images end c.args.one.now a_is in
    let b_valid = set_valid b c.args.images end c.args.other.now b_is in (
      λ is. agree_rows a b c.args.images c.args.row a_valid b_valid sizes.items (sym left ∙ c.are_equal.ensures.0 is ∙ right),
      λ agree. c.are_equal.ensures.1 (left ∙ equal_rows a b c.args.images c.args.row a_valid b_valid sizes.items agree ∙ sym right),
    )
