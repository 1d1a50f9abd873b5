use Rattle.std.proofs.Common.{◌+◌, ◌-◌, arith, refl, subst}
use Rattle.outside.specs.Attached.{told_all}
use Rattle.outside.specs.Seen.{lengths_of}
use Rattle.relation_job.specs.Looking.{HasRow}
use Rattle.relation_job.proofs.CommonRows.{row_near}
use Rattle.relation_job.proofs.Parts.{next_to, part_err, part_ok, rows_told}
use Rattle.relation_job.proofs.looking.Looking.add_part.Goals as goal

pub overflow_mul-row : goal.overflow_mul-row
overflow_mul-row g c =
    let near = row_near c.args.offsets.now (g.I.Images.seen c.args.images.now).attached c.args.part.sampling c.args.part.first c.requires.rows c.requires.small (omega arith) (omega arith) in
    omega (arith, near)

pub overflow_add-row : goal.overflow_add-row
overflow_add-row g c =
    let near = row_near c.args.offsets.now (g.I.Images.seen c.args.images.now).attached c.args.part.sampling c.args.part.first c.requires.rows c.requires.small (omega arith) (omega arith) in
    omega (arith, near)

pub read_rows-requires-clause-row : goal.read_rows-requires-clause-row
read_rows-requires-clause-row g c =
    let part = c.args.part in
    subst (HasRow c.args.offsets.now (lengths_of (g.I.Images.seen c.args.images.now).attached)) (next_to part (part.rows - 1) c.requires.near (omega arith)) (c.requires.rows (part.first + (part.rows - 1)) (omega arith))

pub add_read-requires-clause-near : goal.add_read-requires-clause-near
add_read-requires-clause-near g c = λ place lt.
    row_near c.args.offsets.now (g.I.Images.seen c.args.images.now).attached c.args.part.sampling (c.args.part.first + place) c.requires.rows c.requires.small (omega arith) (omega arith)

pub returns-in-Ok-clause-ok : goal.returns-in-Ok-clause-ok
returns-in-Ok-clause-ok g c =
    let attached = (g.I.Images.seen c.args.images.now).attached in
    let report = c.args.self.now.report in
    part_ok (told_all attached) c.args.offsets.now c.args.part c.read_rows.new.to report c.add_read.new.self.report (g.K.Sink.gained c.args.out.now) (g.K.Sink.gained c.add_read.new.out) c.add_read.result
    (rows_told attached (told_all attached) c.args.offsets.now c.args.part report.images c.read_rows.new.to refl c.requires.images c.requires.near c.in-Ok.ensures.told) c.add_read.ensures.state c.add_read.ensures.put

pub returns-in-Ok-clause-err : goal.returns-in-Ok-clause-err
returns-in-Ok-clause-err g c =
    let attached = (g.I.Images.seen c.args.images.now).attached in
    let report = c.args.self.now.report in
    part_err (told_all attached) c.args.offsets.now c.args.part c.read_rows.new.to report (g.K.Sink.gained c.args.out.now) (g.K.Sink.gained c.add_read.new.out) c.add_read.result
    (rows_told attached (told_all attached) c.args.offsets.now c.args.part report.images c.read_rows.new.to refl c.requires.images c.requires.near c.in-Ok.ensures.told) c.add_read.ensures.stop c.add_read.ensures.put
