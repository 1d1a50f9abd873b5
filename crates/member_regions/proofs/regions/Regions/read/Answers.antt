use Rattle.std.proofs.Common.{◌∙◌, ◌≡◌, ℕ, ◌+◌, ◌*◌, ◌<◌, ◌≤◌, IfSome, length, false, get_or, None, rules, arith, refl}
use Rattle.std.specs.Option.{is_none}
use Rattle.outside.specs.Attached.{told_all}
use Rattle.raid_terms.specs.Parity.{member_byte}
use Rattle.member_regions.specs.Regions.{HoldRead}
use Rattle.member_regions.proofs.IfTold.{if_both}
use Rattle.member_regions.proofs.Held.{reads_all, reads_member}
use Rattle.row_parity.proofs.Regions.{region_inside}
use Rattle.member_regions.proofs.OneMore.{read_more}
use Rattle.member_regions.proofs.Room.{room_inside}
use borrow.Rule.Slice.PartMut.{put_mid}
use Rattle.member_regions.proofs.regions.Regions.read.Goals as goal

pub loop-slot-preserved : goal.loop-slot-preserved
loop-slot-preserved g c =
    let lies = region_inside c.self.inside.stride c.loop-slot.slot (length c.args.slots.now) (omega arith) in
    let most = room_inside c.self.inside.stride (length c.args.slots.now) c.args.self.now.members (length c.loop-slot.sectors) (omega arith) (omega arith) in
    let within : c.self.inside.stride * c.loop-slot.slot ≤ length c.loop-slot.sectors = omega arith in
    let long : length c.read_member.new.to ≡ 512 * c.args.count = omega arith in
    let now : IfSome (told_all (g.I.Images.seen c.loop-slot.images).attached) (λ bytes. (y : ℕ) → y < length c.read_member.new.to → is_none (get_or c.args.slots.now c.loop-slot.slot None) ≡ false →
    get_or c.read_member.new.to y 0 ≡ member_byte bytes c.args.offset c.args.first y (get_or c.args.slots.now c.loop-slot.slot None)) = search rules in
    let stays : (g.I.Images.seen c.read_member.new.images).faults ≡ (g.I.Images.seen c.loop-slot.images).faults = search rules in
    record {
      stride = c.loop-slot.invariant.stride;
      long = omega arith;
      reads =
          reads_member (g.I.Images.seen c.args.images.now) (g.I.Images.seen c.loop-slot.images) (g.I.Images.seen c.read_member.new.images) c.args.slots.now c.loop-slot.slot c.args.count _ None _
          c.loop-slot.invariant.reads c.read_member.ensures.reads (omega (arith, long)) (omega arith) refl;
      stays = stays ∙ c.loop-slot.invariant.stays;
      told =
          if_both (told_all (g.I.Images.seen c.args.images.now).attached)
          (λ bytes. HoldRead bytes c.args.slots.now c.args.offset c.self.inside.stride c.args.first (512 * c.args.count) c.loop-slot.slot c.loop-slot.sectors)
          (λ bytes. (y : ℕ) → y < length c.read_member.new.to → is_none (get_or c.args.slots.now c.loop-slot.slot None) ≡ false →
          get_or c.read_member.new.to y 0 ≡ member_byte bytes c.args.offset c.args.first y (get_or c.args.slots.now c.loop-slot.slot None))
          (λ bytes. HoldRead bytes c.args.slots.now c.args.offset c.self.inside.stride c.args.first (512 * c.args.count) (c.loop-slot.slot + 1) (put_mid (c.self.inside.stride * c.loop-slot.slot) _ c.loop-slot.sectors c.read_member.new.to))
          (λ bytes hold here. read_more bytes c.args.slots.now c.args.offset c.self.inside.stride c.args.first (512 * c.args.count) _ c.loop-slot.slot c.loop-slot.sectors c.read_member.new.to (omega arith) long within hold here)
          c.loop-slot.invariant.told
          (rw (← c.loop-slot.invariant.reads.attached) now);
    }

pub returns-in_err-read_member-clause-reads : goal.returns-in_err-read_member-clause-reads
returns-in_err-read_member-clause-reads g c =
    let lies = region_inside c.self.inside.stride c.loop-slot.slot (length c.args.slots.now) (omega arith) in
    let long : length c.read_member.new.to ≡ 512 * c.args.count = omega arith in
    reads_all (g.I.Images.seen c.args.images.now) (g.I.Images.seen c.read_member.new.images) c.args.slots.now (c.loop-slot.slot + 1) c.args.count
    (reads_member (g.I.Images.seen c.args.images.now) (g.I.Images.seen c.loop-slot.images) (g.I.Images.seen c.read_member.new.images) c.args.slots.now c.loop-slot.slot c.args.count _ None _
    c.loop-slot.invariant.reads c.read_member.ensures.reads (omega (arith, long)) (omega arith) refl)
