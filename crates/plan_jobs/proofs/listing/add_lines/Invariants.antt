use Rattle.std.proofs.Common.{◌≡◌, ◌++◌, take}
use Rattle.std.specs.List.{flat_map}
use Rattle.head_walk.specs.declared.parts.Line.{Line}
use Rattle.wide_product.specs.Sets.{based}
use Rattle.plan_jobs.specs.Listing.{line_in}
use Rattle.plan_jobs.proofs.listing.add_lines.Given as goal

abbrev pub invariant-loop-held : goal.invariant-loop-held
invariant-loop-held l = l.text ≡ l.fn.text ++ flat_map (λ (held : Line). line_in l.form held.rank (based held.geo)) (take l.held-index l.lines)
