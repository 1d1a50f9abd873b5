use Rattle.std.proofs.Common.{◌≡◌, map, take}
use Rattle.std.specs.Io.KnownBytes.{Appends}
use Rattle.relation_lines.specs.Reports.{together}
use Rattle.relation_lines.specs.Text.{text_of}
use Rattle.relation_lines.proofs.report.put_shares.Given as goal

abbrev pub invariant-loop-share : goal.invariant-loop-share
invariant-loop-share g l =
    Appends (g.K.Sink.gained l.fn.sink) (g.K.Sink.gained l.sink) (text_of l.style (map together (take l.share-index l.shares)))
    × (g.K.Sink.faults l.sink ≡ g.K.Sink.faults l.fn.sink)
