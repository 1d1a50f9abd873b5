use Rattle.std.proofs.Common.{◌≡◌, ◌/◌, ◌<◌, ℕ, Option, Some, sym, ap, arith}
use Rattle.std.specs.Option.{is_none}
use Rattle.near_mirror.specs.Copies.{near_sectors}
use Rattle.near_mirror.specs.Volume.{held_copy}
use Rattle.near_mirror.proofs.Finds.{clash}
use Rattle.near_mirror.proofs.Heads.{chunk_near, volume_fits}
use Rattle.near_mirror.proofs.Homes.{has_copy, held_among, home_is}
use Rattle.near_mirror.proofs.types.NearSet.home.Goals as goal

pub held_copy-requires-clause-chunk : goal.held_copy-requires-clause-chunk
held_copy-requires-clause-chunk c =
    let fits = volume_fits c.args.self.now.head c.args.end c.requires.set.head c.requires.end in
    let within : c.args.volume_sector < near_sectors c.args.self.now.head c.args.end = omega (arith, c.if-volume_sector-volume_sectors.true, c.volume_sectors.ensures) in
    chunk_near c.args.self.now.head c.args.volume_sector (omega arith)

pub returns-in_err-copy : goal.returns-in_err-copy
returns-in_err-copy c =
    let within : c.args.volume_sector < near_sectors c.args.self.now.head c.args.end = omega (arith, c.if-volume_sector-volume_sectors.true, c.volume_sectors.ensures) in
    let has = has_copy c.args.self.now c.args.end c.args.volume_sector c.requires.set within in
    absurd (clash (is_none (held_copy c.args.self.now (c.args.volume_sector / c.args.self.now.head.chunk))) (ap (λ (o : Option ℕ). is_none o) (sym c.in_err-copy.ensures)) has)

pub place-requires-clause-copy : goal.place-requires-clause-copy
place-requires-clause-copy c =
    let held : held_copy c.args.self.now (c.args.volume_sector / c.args.self.now.head.chunk) ≡ Some c.in_ok-copy.copy = sym c.in_ok-copy.ensures in
    held_among c.args.self.now (c.args.volume_sector / c.args.self.now.head.chunk) c.in_ok-copy.copy held

pub returns-in_ok-copy : goal.returns-in_ok-copy
returns-in_ok-copy c =
    let held : held_copy c.args.self.now (c.args.volume_sector / c.args.self.now.head.chunk) ≡ Some c.in_ok-copy.copy = sym c.in_ok-copy.ensures in
    home_is c.args.self.now c.args.end c.args.volume_sector c.in_ok-copy.copy c.place.result held c.place.ensures
