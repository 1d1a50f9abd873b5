use Rattle.virtual_volume.proofs.Fronts.{put_through}
use Rattle.virtual_volume.proofs.pending.Pending.put.Goals as goal

pub returns-then-bytes-ge-LARGE-clause-passed : goal.returns-then-bytes-ge-LARGE-clause-passed
returns-then-bytes-ge-LARGE-clause-passed g c =
    put_through (g.K.Sink.gained c.args.sink.now) (g.K.Sink.gained c.flush.new.sink) (g.K.Sink.gained c.put.new.self) c.args.self.now c.flush.new.self c.args.bytes.now c.put.result
    c.in_ok-flush.ensures.none c.requires.whole c.in_ok-flush.ensures.passed c.put.ensures.bytes
