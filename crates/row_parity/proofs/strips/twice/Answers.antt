use Rattle.std.proofs.Common.{ℕ, List, ◌<◌, length, slice_index, ap, subst, sym, ◌∙◌, arith}
use lib.Lanes.{Each1}
use Rattle.row_parity.proofs.Lanes.{lanes_double, map_long, map_fits, map_lane}
use Rattle.row_parity.proofs.strips.twice.Goals as goal

pub returns-clause-value : goal.returns-clause-value
returns-clause-value c = lanes_double 64 c.args.x c.requires.long c.requires.fits

pub returns-clause-long : goal.returns-clause-long
returns-clause-long c = ap (λ (l : List ℕ). length l) (lanes_double 64 c.args.x c.requires.long c.requires.fits) ∙ map_long c.args.x ∙ c.requires.long

pub returns-clause-fits : goal.returns-clause-fits
returns-clause-fits c = subst (λ (l : List ℕ). Each1 (λ k. k < 256) l) (sym (lanes_double 64 c.args.x c.requires.long c.requires.fits)) (map_fits c.args.x c.requires.fits)

pub returns-clause-lanes : goal.returns-clause-lanes
returns-clause-lanes c = λ lane below.
    ap (λ (l : List ℕ). slice_index l lane) (lanes_double 64 c.args.x c.requires.long c.requires.fits) ∙ map_lane c.args.x lane (let h = c.requires.long in omega arith)
