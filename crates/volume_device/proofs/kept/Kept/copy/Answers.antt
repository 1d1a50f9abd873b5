use Rattle.std.proofs.Common.{◌≡◌, ◌-◌, ◌*◌, ◌/◌, ◌∙◌, length, arith}
use Rattle.volume_device.proofs.Copies.{run_copied}
use Rattle.volume_device.proofs.Rows.{among_bounds}
use Rattle.volume_device.proofs.kept.Kept.copy.Goals as goal

pub returns : goal.returns
returns c = λ images geo there hold all.
    let kept = c.args.self.now in
    let bounds = among_bounds kept.first kept.count c.args.sector (length c.args.to.now / 512) c.requires.among in
    let long : length c.copy_from_slice.new.self ≡ 512 * (length c.args.to.now / 512) = omega arith in
    run_copied images geo kept.regions.stride kept.first kept.count c.args.slot c.args.sector (c.args.sector - kept.first) (length c.args.to.now / 512) kept.regions.bytes c.copy_from_slice.new.self
    there hold all (omega (arith, bounds.0)) (omega (arith, bounds.0, bounds.1)) long (c.copy_from_slice.ensures.after ∙ c.region.ensures.sectors)
