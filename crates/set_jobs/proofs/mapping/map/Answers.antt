use Rattle.std.proofs.Common.{refl}
use Rattle.run_ends.proofs.Printed.{does_printed}
use Rattle.run_ends.specs.Jobs.{around, named, stream}
use Rattle.set_jobs.specs.Mapping.{map_job}
use Rattle.set_jobs.proofs.mapping.map.Goals as goal

pub returns : goal.returns
returns g c source =
    let seen = g.I.Images.seen c.args.images.now in
    does_printed (map_job c.args.set.now c.args.end c.args.sector) (named c.args.names seen.attached) (around seen source) (around seen source)
    (stream (g.K.Sink.gained c.args.out.now) (g.K.Sink.faults c.args.out.now)) (stream (g.K.Sink.gained c.print.new.out) (g.K.Sink.faults c.print.new.out)) c.answer.result c.print.result refl
    (c.answer.ensures source) c.print.ensures
