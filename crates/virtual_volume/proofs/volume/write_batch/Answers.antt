use Rattle.std.proofs.Common.{◌*◌, ◌++◌, IfSome, rules, arith}
use Rattle.outside.specs.Attached.{told_all}
use Rattle.member_regions.proofs.Sets.{testable_chunk}
use Rattle.virtual_volume.specs.Parts.{rows_of}
use Rattle.lost_members.specs.Needs.{HoldNeeded}
use Rattle.virtual_volume.specs.Waiting.{Passed}
use Rattle.virtual_volume.proofs.Fronts.{front_none, passed_as, passed_err}
use Rattle.member_regions.proofs.IfTold.{if_any, if_told}
use Rattle.virtual_volume.proofs.Sets.{few_rows, some_sectors}
use Rattle.virtual_volume.proofs.volume.write_batch.Goals as goal

pub read_needed-requires-clause-some : goal.read_needed-requires-clause-some
read_needed-requires-clause-some g c = some_sectors c.args.rows c.args.geo.now.head.chunk c.requires.some (testable_chunk c.args.geo.now c.requires.set)

pub put_rows-requires-clause-first : goal.put_rows-requires-clause-first
put_rows-requires-clause-first g c =
    let few = few_rows c.args.first c.args.rows c.args.geo.now.head.chunk (testable_chunk c.args.geo.now c.requires.set) in
    omega arith

pub returns-in_err-map_err-clause-passed : goal.returns-in_err-map_err-clause-passed
returns-in_err-map_err-clause-passed g c =
    if_any (told_all (g.I.Images.seen c.args.images.now).attached)
    (λ bytes. Passed (g.K.Sink.gained c.args.sink.now) (g.K.Sink.gained c.args.sink.now) c.args.pending.now c.args.pending.now c.from_residual.result (rows_of bytes c.args.geo.now c.args.first c.args.rows))
    (λ bytes. passed_err (g.K.Sink.gained c.args.sink.now) (g.K.Sink.gained c.args.sink.now) c.args.pending.now c.args.pending.now (rows_of bytes c.args.geo.now c.args.first c.args.rows) c.from_residual.result c.from_residual.ensures.0
    (front_none (g.K.Sink.gained c.args.sink.now) (c.args.pending.now ++ rows_of bytes c.args.geo.now c.args.first c.args.rows)))

pub returns-clause-passed : goal.returns-clause-passed
returns-clause-passed g c =
    let held : IfSome (told_all (g.I.Images.seen c.args.images.now).attached)
    (λ bytes. HoldNeeded bytes c.args.geo.now c.read_needed.new.self.stride (c.args.first * c.args.geo.now.head.chunk) (c.args.rows * c.args.geo.now.head.chunk) c.read_needed.new.self.bytes) = search rules in
    if_told (told_all (g.I.Images.seen c.args.images.now).attached)
    (λ bytes. HoldNeeded bytes c.args.geo.now c.read_needed.new.self.stride (c.args.first * c.args.geo.now.head.chunk) (c.args.rows * c.args.geo.now.head.chunk) c.read_needed.new.self.bytes)
    (λ bytes. Passed (g.K.Sink.gained c.args.sink.now) (g.K.Sink.gained c.put_rows.new.sink) c.args.pending.now c.put_rows.new.pending c.map_err-2.result (rows_of bytes c.args.geo.now c.args.first c.args.rows))
    (λ bytes hold.
    passed_as _ (g.K.Sink.gained c.args.sink.now) (g.K.Sink.gained c.put_rows.new.sink) c.args.pending.now c.put_rows.new.pending (rows_of bytes c.args.geo.now c.args.first c.args.rows) c.put_rows.result c.map_err-2.result
    c.map_err-2.ensures.cases
    (c.put_rows.ensures.passed bytes (c.solve_data.ensures.found bytes hold)))
    held
