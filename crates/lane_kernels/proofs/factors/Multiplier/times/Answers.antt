use Rattle.std.proofs.Common.{arith}
use Rattle.lane_kernels.proofs.Nibbles.{products_by_halves, low_ok, high_ok}
use Rattle.lane_kernels.proofs.factors.Multiplier.times.Goals as goal

pub swizzle-low : goal.swizzle-low
swizzle-low c = low_ok c.args.x c.requires.long

pub swizzle-high : goal.swizzle-high
swizzle-high c = high_ok c.args.x c.requires.long c.requires.fits

pub returns : goal.returns
returns c =
    let by = c.args.self.now in
    products_by_halves by.factor by.low by.high by.in_range by.low_products by.high_products 0 32 c.args.x (omega arith) c.requires.long c.requires.fits
