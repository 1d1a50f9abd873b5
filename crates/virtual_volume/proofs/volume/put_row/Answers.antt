use Rattle.std.proofs.Common.{◌∙◌, refl, rules, ◌≡◌, ℕ, ◌<◌, length, subst, arith}
use Rattle.std.proofs.lemmas.Result.{err_from_is_err_and}
use Rattle.raid_params.specs.Size.{data_blocks}
use Rattle.member_regions.proofs.Sets.{testable_slots}
use Rattle.virtual_volume.specs.Parts.{items_of}
use Rattle.virtual_volume.specs.Waiting.{Passes}
use Rattle.virtual_volume.proofs.Puts.{item_part, items_cut, items_on, items_start}
use Rattle.virtual_volume.proofs.volume.put_row.Goals as goal

pub loop-item-init : goal.loop-item-init
loop-item-init g c = record {
  passes = λ images first count place few hold. items_start images c.args.geo.now c.args.row (g.K.Sink.gained c.args.sink.now) c.args.pending.now;
  few = omega arith;
  stays = refl;
  later = omega arith;
}

pub returns-in_err-put-clause-passed : goal.returns-in_err-put-clause-passed
returns-in_err-put-clause-passed g c = λ images first count place few hold.
    let slots = testable_slots c.args.geo.now c.requires.set in
    let within : c.slot_of_item-slot.result < length c.args.geo.now.slots.items = omega arith in
    let last : c.loop-item.item < data_blocks c.args.geo.now.head = omega arith in
    let part = item_part images c.args.geo.now c.args.regions.now.stride first count c.args.row c.loop-item.item c.slot_of_item-slot.result c.args.at c.args.regions.now.bytes c.region.result.now c.requires.set last c.slot_of_item-slot.ensures.there within hold place few c.region.ensures.long c.region.ensures.sectors in
    let p = err_from_is_err_and c.from_residual.result c.from_residual.ensures.1 in
    rw p.1 (
    items_cut images c.args.geo.now c.args.row c.loop-item.item (data_blocks c.args.geo.now.head) (g.K.Sink.gained c.args.sink.now) (g.K.Sink.gained c.loop-item.sink) (g.K.Sink.gained c.put.new.sink) c.args.pending.now c.loop-item.pending _
    last part (c.loop-item.invariant.passes images first count place few hold) c.in_err-put.ensures.passed)

pub loop-item-preserved : goal.loop-item-preserved
loop-item-preserved g c =
    let slots = testable_slots c.args.geo.now c.requires.set in
    let within : c.slot_of_item-slot.result < length c.args.geo.now.slots.items = omega arith in
    let last : c.loop-item.item < data_blocks c.args.geo.now.head = omega arith in
    record {
      passes = λ images first count place few hold.
          items_on images c.args.geo.now c.args.row c.loop-item.item (g.K.Sink.gained c.args.sink.now) (g.K.Sink.gained c.loop-item.sink) (g.K.Sink.gained c.put.new.sink) c.args.pending.now c.loop-item.pending c.put.new.self _
          (item_part images c.args.geo.now c.args.regions.now.stride first count c.args.row c.loop-item.item c.slot_of_item-slot.result c.args.at c.args.regions.now.bytes c.region.result.now c.requires.set last c.slot_of_item-slot.ensures.there within hold place few c.region.ensures.long c.region.ensures.sectors)
          (c.loop-item.invariant.passes images first count place few hold) c.in_ok-put.ensures.passed;
      few = omega (arith, c.in_ok-put.ensures.few);
      stays = (let still : g.K.Sink.faults c.put.new.sink ≡ g.K.Sink.faults c.loop-item.sink = search rules in still ∙ c.loop-item.invariant.stays);
      later = omega (arith, c.put.ensures.cause.later);
    }

pub returns-clause-passed : goal.returns-clause-passed
returns-clause-passed g c = λ images first count place few hold.
    let all : c.loop-item.item ≡ data_blocks c.args.geo.now.head = omega arith in
    subst (λ (n : ℕ). Passes (g.K.Sink.gained c.args.sink.now) (g.K.Sink.gained c.loop-item.sink) c.args.pending.now c.loop-item.pending (items_of images c.args.geo.now c.args.row n)) all
    (c.loop-item.invariant.passes images first count place few hold)
