use Rattle.std.proofs.Common.{◌<◌, ℕ, sym, subst}
use Rattle.raid_layouts.proofs.Shapes.{shaped_head}
use Rattle.raid_params.proofs.Ruled.{ruled_shape}
use Rattle.volume_classes.proofs.alike.have_equal_coefficients.Goals as goal

pub have_equal_sizes-requires-clause-one : goal.have_equal_sizes-requires-clause-one
have_equal_sizes-requires-clause-one c = shaped_head c.args.one.now c.args.images (ruled_shape c.args.one.now c.args.images c.args.end c.requires.one)

pub have_equal_sizes-requires-clause-other : goal.have_equal_sizes-requires-clause-other
have_equal_sizes-requires-clause-other c = shaped_head c.args.other.now c.args.images (ruled_shape c.args.other.now c.args.images c.args.end c.requires.other)

pub told_rows-requires-clause-one : goal.told_rows-requires-clause-one
told_rows-requires-clause-one c = shaped_head c.args.one.now c.args.images (ruled_shape c.args.one.now c.args.images c.args.end c.requires.one)

pub told_rows-requires-clause-other : goal.told_rows-requires-clause-other
told_rows-requires-clause-other c = shaped_head c.args.other.now c.args.images (ruled_shape c.args.other.now c.args.images c.args.end c.requires.other)

pub agree_in_rows-requires-clause-one : goal.agree_in_rows-requires-clause-one
agree_in_rows-requires-clause-one c = ruled_shape c.args.one.now c.args.images c.args.end c.requires.one

pub agree_in_rows-requires-clause-other : goal.agree_in_rows-requires-clause-other
agree_in_rows-requires-clause-other c = ruled_shape c.args.other.now c.args.images c.args.end c.requires.other

pub returns-then-have_equal_sizes : goal.returns-then-have_equal_sizes
returns-then-have_equal_sizes c = (
  λ is. record {
    sizes = c.have_equal_sizes.ensures.0 c.if-have_equal_sizes.true;
    rows = λ row lt. c.agree_in_rows.ensures.0 is row (subst (λ (n : ℕ). row < n) (sym c.told_rows.ensures.told) lt);
  },
  λ equal. c.agree_in_rows.ensures.1 (λ row lt. equal.rows row (subst (λ (n : ℕ). row < n) c.told_rows.ensures.told lt)),
)
