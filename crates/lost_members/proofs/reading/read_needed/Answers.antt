use Rattle.std.proofs.Common.{◌∙◌, ◌≡◌, ℕ, ◌+◌, ◌*◌, ◌<◌, ◌≤◌, IfSome, length, true, get_or, None, rules, arith}
use Rattle.outside.specs.Attached.{told_all}
use Rattle.raid_terms.specs.Volume.{byte_in}
use borrow.Rule.Slice.PartMut.{put_mid}
use Rattle.row_parity.proofs.Regions.{region_inside}
use Rattle.lost_members.specs.Needs.{HoldNeededOf, is_needed}
use Rattle.member_regions.proofs.IfTold.{if_both}
use Rattle.lost_members.proofs.NeededSums.{reads_slot, reads_slots}
use Rattle.lost_members.proofs.ReadParts.{hold_slot}
use Rattle.lost_members.proofs.reading.read_needed.Goals as goal

pub returns-in_err-read_runs-clause-reads : goal.returns-in_err-read_runs-clause-reads
returns-in_err-read_runs-clause-reads g c =
    let below : c.loop-slot.slot < length c.args.geo.now.slots.items = search rules in
    reads_slots (g.I.Images.seen c.args.images.now) (g.I.Images.seen c.read_runs.new.images) c.args.geo.now c.args.first c.args.count (c.loop-slot.slot + 1) (omega arith)
    (reads_slot (g.I.Images.seen c.args.images.now) (g.I.Images.seen c.loop-slot.images) (g.I.Images.seen c.read_runs.new.images) c.args.geo.now c.args.first c.args.count c.loop-slot.slot
    c.loop-slot.invariant.reads c.read_runs.ensures.reads)

pub loop-slot-preserved : goal.loop-slot-preserved
loop-slot-preserved g c =
    let geo = c.args.geo.now in
    let below : c.loop-slot.slot < length geo.slots.items = search rules in
    let lies = region_inside c.args.stride c.loop-slot.slot (length geo.slots.items) below in
    let within : c.args.stride * c.loop-slot.slot ≤ length c.loop-slot.sectors = omega arith in
    let long : length c.read_runs.new.to ≡ 512 * c.args.count = omega arith in
    let now : IfSome (told_all (g.I.Images.seen c.loop-slot.images).attached) (λ bytes. HoldNeededOf bytes geo c.loop-slot.slot c.args.first c.args.count c.read_runs.new.to) = search rules in
    let stays : (g.I.Images.seen c.read_runs.new.images).faults ≡ (g.I.Images.seen c.loop-slot.images).faults = search rules in
    record {
      reads =
          reads_slot (g.I.Images.seen c.args.images.now) (g.I.Images.seen c.loop-slot.images) (g.I.Images.seen c.read_runs.new.images) geo c.args.first c.args.count c.loop-slot.slot
          c.loop-slot.invariant.reads c.read_runs.ensures.reads;
      stays = stays ∙ c.loop-slot.invariant.stays;
      told =
          if_both (told_all (g.I.Images.seen c.args.images.now).attached)
          (λ bytes. (i j x : ℕ) → i < c.loop-slot.slot → j < c.args.count → x < 512 → is_needed geo i (c.args.first + j) ≡ true →
          get_or c.loop-slot.sectors (c.args.stride * i + (512 * j + x)) 0 ≡ byte_in bytes geo (c.args.first + j) i x (get_or geo.slots.items i None))
          (λ bytes. HoldNeededOf bytes geo c.loop-slot.slot c.args.first c.args.count c.read_runs.new.to)
          (λ bytes. (i j x : ℕ) → i < c.loop-slot.slot + 1 → j < c.args.count → x < 512 → is_needed geo i (c.args.first + j) ≡ true →
          get_or (put_mid (c.args.stride * c.loop-slot.slot) _ c.loop-slot.sectors c.read_runs.new.to) (c.args.stride * i + (512 * j + x)) 0
          ≡ byte_in bytes geo (c.args.first + j) i x (get_or geo.slots.items i None))
          (λ bytes hold here. hold_slot bytes geo c.args.stride c.args.first c.args.count c.loop-slot.slot _ c.loop-slot.sectors c.read_runs.new.to c.requires.fits long within hold here)
          c.loop-slot.invariant.told
          (rw (← c.loop-slot.invariant.reads.attached) now);
    }

pub returns-clause-reads : goal.returns-clause-reads
returns-clause-reads g c =
    let few : c.loop-slot.slot ≤ length c.args.geo.now.slots.items = search rules in
    reads_slots (g.I.Images.seen c.args.images.now) (g.I.Images.seen c.loop-slot.images) c.args.geo.now c.args.first c.args.count c.loop-slot.slot few c.loop-slot.invariant.reads
