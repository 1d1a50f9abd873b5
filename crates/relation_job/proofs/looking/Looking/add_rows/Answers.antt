use Rattle.std.proofs.Common.{◌+◌, ◌≤◌, List, arith, subst, ◌∙◌}
use Rattle.outside.specs.Attached.{told_all}
use Rattle.outside.specs.Seen.{Image}
use Rattle.relation_job.specs.Looking.{AddsPart, StopsInPart}
use Rattle.relation_job.specs.declared.sampling.Part.{Part}
use Rattle.relation_job.proofs.Looked.{adds_more, reads_more, stops_more}
use Rattle.relation_job.proofs.looking.Looking.add_rows.Goals as goal

pub returns-in-Err-clause-err : goal.returns-in-Err-clause-err
returns-in-Err-clause-err g c =
    let old = g.I.Images.seen c.args.images.now in
    let part : Part = record { sampling = c.args.sampling; first = c.loop-first.first; rows = c.min-rows.result } in
    let was = c.loop-first.invariant in
    let before = g.K.Sink.gained c.loop-first.out in
    let after = g.K.Sink.gained c.add_part.new.out in
    stops_more (told_all old.attached) c.args.offsets.now part c.args.self.now.report c.loop-first.self.report (g.K.Sink.gained c.args.out.now) before after c.in-Err.stop (omega (arith, c.min-rows.ensures)) was.adds
    (subst (λ (a : List Image). StopsInPart (told_all a) c.args.offsets.now part c.loop-first.self.report before after c.in-Err.stop) was.reads.attached c.in-Err.ensures.err)

pub returns-in-Err-clause-reads : goal.returns-in-Err-clause-reads
returns-in-Err-clause-reads g c =
    reads_more (g.I.Images.seen c.args.images.now) (g.I.Images.seen c.loop-first.images) (g.I.Images.seen c.add_part.new.images) c.loop-first.first c.min-rows.result c.args.sampling.rows c.loop-first.invariant.reads c.in-Err.ensures.reads
    (omega (arith, c.min-rows.ensures))

pub loop-first-preserved : goal.loop-first-preserved
loop-first-preserved g c =
    let old = g.I.Images.seen c.args.images.now in
    let part : Part = record { sampling = c.args.sampling; first = c.loop-first.first; rows = c.min-rows.result } in
    let was = c.loop-first.invariant in
    let before = g.K.Sink.gained c.loop-first.out in
    let after = g.K.Sink.gained c.add_part.new.out in
    let within : c.loop-first.first + c.min-rows.result ≤ c.args.sampling.rows = omega (arith, c.min-rows.ensures) in
    record {
      few = within;
      adds = adds_more (told_all old.attached) c.args.offsets.now part c.args.self.now.report c.loop-first.self.report c.add_part.new.self.report (g.K.Sink.gained c.args.out.now) before after within was.adds
          (subst (λ (a : List Image). AddsPart (told_all a) c.args.offsets.now part c.loop-first.self.report c.add_part.new.self.report before after) was.reads.attached c.in-Ok.ensures.ok);
      reads = reads_more old (g.I.Images.seen c.loop-first.images) (g.I.Images.seen c.add_part.new.images) c.loop-first.first c.min-rows.result (c.loop-first.first + c.min-rows.result) was.reads c.in-Ok.ensures.reads (omega arith);
      images_quiet = c.in-Ok.ensures.images.stays (λ e. absurd (cc)) ∙ was.images_quiet;
      out_quiet = c.in-Ok.ensures.out.stays (λ e. absurd (cc)) ∙ was.out_quiet;
      room = omega (arith, c.in-Ok.ensures.room, was.room);
      images = c.in-Ok.ensures.images_kept ∙ was.images;
      sectors = c.in-Ok.ensures.sectors ∙ was.sectors;
      table = c.in-Ok.ensures.table ∙ was.images;
    }
