use Rattle.std.proofs.Common.{◌≡◌, ◌++◌, take}
use Rattle.std.specs.List.{flat_map}
use Rattle.near_mirror.specs.Words.{near_line}
use Rattle.near_search.specs.declared.parts.NearLine.{NearLine}
use Rattle.near_jobs.proofs.mirroring.add_lines.Given as goal

abbrev pub invariant-loop-line : goal.invariant-loop-line
invariant-loop-line l = l.text ≡ l.fn.text ++ flat_map (λ (line : NearLine). near_line line.rank line.set) (take l.line-index l.lines)
