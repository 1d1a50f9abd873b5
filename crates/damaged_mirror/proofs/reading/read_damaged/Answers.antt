use Rattle.std.proofs.Common.{◌/◌, ◌∙◌, length, sym}
use Rattle.damaged_mirror.specs.Damaged.{is_lost}
use Rattle.damaged_mirror.proofs.GoodCopies.{none_among}
use Rattle.damaged_mirror.proofs.reading.read_damaged.Goals as goal

pub read_runs-requires-clause-kept : goal.read_runs-requires-clause-kept
read_runs-requires-clause-kept g c v low high =
    let damage = c.args.damage.now in
    none_among (is_lost damage.rescue.now damage.set.now damage.end) c.args.first (length c.args.to.now / 512) v (sym c.has_lost.ensures ∙ c.if-has_lost.false) low high
