use Rattle.std.proofs.Common.{◌≡◌, ℕ, ◌+◌, ◌*◌, ◌/◌, ◌%◌, length, take, drop, subst, arith}
use Rattle.std.specs.Result.{is_err}
use Rattle.std.proofs.lemmas.List.{length-take}
use Rattle.std.proofs.lemmas.Option.{IfSome_then}
use Rattle.std.proofs.lemmas.Result.{on_ok_weaker}
use Rattle.block_device.proofs.Parts.{read_part}
use Rattle.block_device.proofs.reading.read_bytes.Goals as goal

pub returns-clause-told : goal.returns-clause-told
returns-clause-told g c =
    let k = 512 * c.div_ceil-sectors.result in
    let size = length (take k c.args.room.now) in
    on_ok_weaker c.read.result (λ known. IfSome_then (g.D.BlockDevice.content c.args.device.now) known (λ content told.
    read_part c.args.offset c.args.count size c.read.new.to (drop k c.args.room.now) content (omega (arith, c.read.auto.to))
    (omega (arith, c.div_ceil-sectors.ensures, length-take k c.args.room.now)) told)) c.read.ensures.told

pub returns-clause-reads : goal.returns-clause-reads
returns-clause-reads g c =
    let k = 512 * c.div_ceil-sectors.result in
    let count : length (take k c.args.room.now) / 512 ≡ (c.args.offset % 512 + c.args.count + 511) / 512 = omega (arith, c.div_ceil-sectors.ensures, length-take k c.args.room.now) in
    subst (λ (n : ℕ). g.D.BlockDevice.reads c.args.device.now (record { first = c.args.offset / 512; count = n }) (is_err c.read.result) c.read.new.self) count c.read.ensures.reads
