use Rattle.std.proofs.Common.{ℕ, ◌≡◌, ◌≤◌, ◌+◌, ◌-◌, ◌*◌, ◌/◌, ◌%◌, length, refl, ap, ◌∙◌, arith}
use Rattle.std.specs.Prelude.{slice_index}
use Rattle.raid_params.specs.declared.limits.TheConstants.{MOST}
use Rattle.candidate_enum.proofs.Counting.{below}
use Rattle.candidate_enum.proofs.counts.next_cell.Goals as goal

pub more_ways-requires-clause-unused : goal.more_ways-requires-clause-unused
more_ways-requires-clause-unused c =
    let cells = c.args.cells.now in
    let b = below c.args.space.now cells (length cells) c.requires.images c.requires.members c.requires.cells refl (omega arith) (omega arith) in
    let few : c.args.space.now.images + length cells % 25 + length cells / 25 - c.args.space.now.members ≤ MOST = b.unused in
    let same : c.saturating_sub-unused.result ≡ c.args.space.now.images + length cells % 25 + length cells / 25 - c.args.space.now.members = c.saturating_sub-unused.ensures in
    omega arith

pub more_ways-requires-clause-image : goal.more_ways-requires-clause-image
more_ways-requires-clause-image c =
    let cells = c.args.cells.now in
    (below c.args.space.now cells (length cells) c.requires.images c.requires.members c.requires.cells refl (omega arith) (omega arith)).image

pub more_ways-requires-clause-empty : goal.more_ways-requires-clause-empty
more_ways-requires-clause-empty c =
    let cells = c.args.cells.now in
    (below c.args.space.now cells (length cells) c.requires.images c.requires.members c.requires.cells refl (omega arith) (omega arith)).empty

pub returns : goal.returns
returns c = λ short.
    let cells = c.args.cells.now in
    let b = below c.args.space.now cells (length cells) c.requires.images c.requires.members c.requires.cells refl (omega arith) short in
    c.more_ways.ensures
    ∙ ap (λ (u : ℕ). u * slice_index cells (length cells - 25) + slice_index cells (length cells - 25 + 1)) c.saturating_sub-unused.ensures
    ∙ b.next short
