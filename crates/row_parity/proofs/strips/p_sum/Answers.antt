use Rattle.std.proofs.Common.{◌+◌, ◌∙◌, slice_index, arith, ap, List, length, map}
use Rattle.std.specs.List.{range_with_len}
use Rattle.std.proofs.lemmas.List.{take_all}
use Rattle.raid_params.specs.declared.types.Cell.{Cell}
use Rattle.raid_terms.specs.Parity.{in_p}
use Rattle.row_parity.specs.Regions.{region_byte}
use Rattle.row_parity.specs.Syndromes.{known_sum}
use Rattle.row_parity.proofs.StripSums.{none_p, one_more_p}
use Rattle.row_parity.proofs.strips.p_sum.Goals as goal

pub loop-place-init : goal.loop-place-init
loop-place-init c = record { long = c.zeros-p.ensures.long; fits = c.zeros-p.ensures.fits; lanes = λ lane below. c.zeros-p.ensures.lanes lane ∙ none_p _ }

pub loop-place-preserved : goal.loop-place-preserved
loop-place-preserved c = record {
  long = c.sum-p.ensures.long;
  fits = c.sum-p.ensures.fits;
  lanes = λ lane below.
      one_more_p c.args.cells.now (region_byte c.args.sectors.now c.args.stride (c.args.at + lane)) c.loop-place.place _ (slice_index c.loop-place.p lane) (slice_index c.load_of-bytes.result lane) (slice_index c.sum-p.result lane)
      c.loop-place-test.true (c.loop-place.invariant.lanes lane below)
      (c.load_of-bytes.ensures.lanes lane below ∙ c.p_place.ensures.byte (region_byte c.args.sectors.now c.args.stride (c.args.at + lane))) (c.sum-p.ensures.lanes lane below);
}

pub returns-clause-lanes : goal.returns-clause-lanes
returns-clause-lanes c = λ lane below.
    c.loop-place.invariant.lanes lane below
    ∙ ap (λ (cs : List Cell). known_sum in_p cs (map (region_byte c.args.sectors.now c.args.stride (c.args.at + lane)) (range_with_len 0 (length c.args.cells.now)))) (take_all c.loop-place.place c.args.cells.now (omega arith))
