use Rattle.std.proofs.Common.{◌≡◌, ◌∙◌, Ok, Err, refl}
use Rattle.run_ends.specs.Jobs.{stream}
use Rattle.reraid_nbd_cli.specs.Ends.{end_notice}
use Rattle.reraid_nbd_cli.proofs.Ran.{noted}
use Rattle.reraid_nbd_cli.proofs.top.reraid_nbd.Goals as goal

pub returns-in-Ok-clause-runs : goal.returns-in-Ok-clause-runs
returns-in-Ok-clause-runs g c = (Ok tt, c.in-Ok.ensures.runs, (refl, refl))

pub returns-in-Err-clause-runs : goal.returns-in-Err-clause-runs
returns-in-Err-clause-runs g c =
    let line : c.as_bytes.result.now ≡ (end_notice c.in-Err.end).1 = c.as_bytes.ensures.value ∙ (c.deref.ensures.0 ∙ c.notice-notice.ensures.line) in (
      Err c.in-Err.end,
      c.in-Err.ensures.runs,
      (c.notice-notice.ensures.status, noted (stream (g.N.Sink.gained c.args.notes.now) (g.N.Sink.faults c.args.notes.now)) (stream (g.N.Sink.gained c.put.new.self) (g.N.Sink.faults c.put.new.self)) c.put.result c.as_bytes.result.now _ line c.put.ensures.bytes c.put.ensures.cause),
    )
