use Rattle.std.proofs.lemmas.Bool.{iff_false}
use Rattle.volume_classes.proofs.Agreeing.{answers_false}
use Rattle.volume_classes.proofs.TableRows.{apart_sizes, head_valid, rows_tell}
use Rattle.volume_classes.proofs.tables.are_alike.Goals as goal

pub have_equal_sizes-requires-clause-one : goal.have_equal_sizes-requires-clause-one
have_equal_sizes-requires-clause-one c = head_valid c.args.images c.args.end c.args.one.now c.requires.one

pub have_equal_sizes-requires-clause-other : goal.have_equal_sizes-requires-clause-other
have_equal_sizes-requires-clause-other c = head_valid c.args.images c.args.end c.args.other.now c.requires.other

pub returns-then-have_equal_sizes : goal.returns-then-have_equal_sizes
returns-then-have_equal_sizes c a b a_is b_is =
    let tell = rows_tell a b c.args.images c.args.end c.args.one.now c.args.other.now a_is b_is (c.have_equal_sizes.ensures.0 c.if-have_equal_sizes.true) in
    let rows = c.rows_agree.ensures a b a_is b_is in
    (λ is. tell.0 (rows.0 is), λ alike. rows.1 (tell.1 alike))

pub returns-else-have_equal_sizes : goal.returns-else-have_equal_sizes
returns-else-have_equal_sizes c a b a_is b_is =
    answers_false (λ alike. apart_sizes a b c.args.images c.args.end c.args.one.now c.args.other.now a_is b_is (iff_false c.have_equal_sizes.ensures c.if-have_equal_sizes.false) alike)
