use Rattle.std.proofs.Common.{◌≡◌, take}
use Rattle.std.specs.List.{flat_map}
use Rattle.plan_jobs.specs.Listing.{found_text}
use Rattle.plan_jobs.proofs.listing.pages_text.Given as goal

abbrev pub invariant-loop-page : goal.invariant-loop-page
invariant-loop-page l = l.text ≡ flat_map (found_text l.form) (take l.page-index l.found)
