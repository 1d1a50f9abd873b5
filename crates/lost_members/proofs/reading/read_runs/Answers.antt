use Rattle.std.proofs.Common.{◌≡◌, ℕ, ◌-◌, ◌*◌, ◌/◌, take, drop, ◌<◌, ◌≤◌, IfSome, length, true, false, get_or, None, rules, arith, ◌∙◌}
use Rattle.std.specs.Option.{is_none}
use Rattle.outside.specs.Attached.{told_all}
use Rattle.raid_terms.specs.Parity.{member_byte}
use borrow.Rule.Slice.PartMut.{put_mid}
use Rattle.lost_members.specs.Needs.{HoldNeededOf, is_needed}
use Rattle.member_regions.proofs.IfTold.{if_both, if_told}
use Rattle.lost_members.proofs.ReadParts.{hold_past, hold_run, reads_before, reads_past, reads_run}
use Rattle.lost_members.proofs.reading.read_runs.Goals as goal

pub returns-in_err-read_member-clause-reads : goal.returns-in_err-read_member-clause-reads
returns-in_err-read_member-clause-reads g c =
    let geo = c.args.geo.now in
    let needed : is_needed geo c.args.slot c.loop-at.at ≡ true = search rules in
    let long : length c.read_member.new.to ≡ 512 * (c.run_end-next.result - c.loop-at.at) = omega arith in
    reads_before (g.I.Images.seen c.args.images.now) (g.I.Images.seen c.read_member.new.images) geo c.args.first (c.run_end-next.result - c.args.first) c.args.count c.args.slot (omega arith)
    (reads_run (g.I.Images.seen c.args.images.now) (g.I.Images.seen c.loop-at.images) (g.I.Images.seen c.read_member.new.images) geo c.args.first c.loop-at.at c.run_end-next.result c.args.slot
    (length (take (512 * (c.run_end-next.result - c.args.first) - 512 * (c.loop-at.at - c.args.first)) (drop (512 * (c.loop-at.at - c.args.first)) c.loop-at.to)) / 512) (get_or c.deref.result.now c.args.slot None) c.loop-at.invariant.from (omega arith) (λ t low high. c.run_end-next.ensures.alike t low high ∙ needed)
    c.loop-at.invariant.reads c.read_member.ensures.reads (omega (arith, long)))

pub loop-at-preserved-in_ok-read_member : goal.loop-at-preserved-in_ok-read_member
loop-at-preserved-in_ok-read_member g c =
    let geo = c.args.geo.now in
    let needed : is_needed geo c.args.slot c.loop-at.at ≡ true = search rules in
    let long : length c.read_member.new.to ≡ 512 * (c.run_end-next.result - c.loop-at.at) = omega arith in
    let within : 512 * (c.loop-at.at - c.args.first) ≤ length c.loop-at.to = omega arith in
    let now : IfSome (told_all (g.I.Images.seen c.loop-at.images).attached) (λ bytes. (y : ℕ) → y < length c.read_member.new.to → is_none (get_or geo.slots.items c.args.slot None) ≡ false →
    get_or c.read_member.new.to y 0 ≡ member_byte bytes geo.head.offset c.loop-at.at y (get_or geo.slots.items c.args.slot None)) = search rules in
    let stays : (g.I.Images.seen c.read_member.new.images).faults ≡ (g.I.Images.seen c.loop-at.images).faults = search rules in
    record {
      from = omega arith;
      to = omega arith;
      end = omega arith;
      reads =
          reads_run (g.I.Images.seen c.args.images.now) (g.I.Images.seen c.loop-at.images) (g.I.Images.seen c.read_member.new.images) geo c.args.first c.loop-at.at c.run_end-next.result c.args.slot
          (length (take (512 * (c.run_end-next.result - c.args.first) - 512 * (c.loop-at.at - c.args.first)) (drop (512 * (c.loop-at.at - c.args.first)) c.loop-at.to)) / 512) (get_or c.deref.result.now c.args.slot None) c.loop-at.invariant.from (omega arith) (λ t low high. c.run_end-next.ensures.alike t low high ∙ needed)
          c.loop-at.invariant.reads c.read_member.ensures.reads (omega (arith, long));
      stays = stays ∙ c.loop-at.invariant.stays;
      told =
          if_both (told_all (g.I.Images.seen c.args.images.now).attached)
          (λ bytes. HoldNeededOf bytes geo c.args.slot c.args.first (c.loop-at.at - c.args.first) c.loop-at.to)
          (λ bytes. (y : ℕ) → y < length c.read_member.new.to → is_none (get_or geo.slots.items c.args.slot None) ≡ false →
          get_or c.read_member.new.to y 0 ≡ member_byte bytes geo.head.offset c.loop-at.at y (get_or geo.slots.items c.args.slot None))
          (λ bytes. HoldNeededOf bytes geo c.args.slot c.args.first (c.run_end-next.result - c.args.first) (put_mid (512 * (c.loop-at.at - c.args.first)) _ c.loop-at.to c.read_member.new.to))
          (λ bytes hold here. hold_run bytes geo c.args.slot c.args.first c.loop-at.at c.run_end-next.result _ c.loop-at.to c.read_member.new.to c.loop-at.invariant.from (omega arith) long within hold here)
          c.loop-at.invariant.told
          (rw (← c.loop-at.invariant.reads.attached) now);
    }

pub loop-at-preserved : goal.loop-at-preserved
loop-at-preserved g c =
    let geo = c.args.geo.now in
    let off : is_needed geo c.args.slot c.loop-at.at ≡ false = search rules in
    record {
      from = omega arith;
      to = omega arith;
      end = omega arith;
      reads = reads_past (g.I.Images.seen c.args.images.now) (g.I.Images.seen c.loop-at.images) geo c.args.first c.loop-at.at c.run_end-next.result c.args.slot c.loop-at.invariant.from
          (omega arith) (λ t low high. c.run_end-next.ensures.alike t low high ∙ off) c.loop-at.invariant.reads;
      stays = c.loop-at.invariant.stays;
      told =
          if_told (told_all (g.I.Images.seen c.args.images.now).attached)
          (λ bytes. HoldNeededOf bytes geo c.args.slot c.args.first (c.loop-at.at - c.args.first) c.loop-at.to)
          (λ bytes. HoldNeededOf bytes geo c.args.slot c.args.first (c.run_end-next.result - c.args.first) c.loop-at.to)
          (λ bytes hold. hold_past bytes geo c.args.slot c.args.first c.loop-at.at c.run_end-next.result c.loop-at.to c.loop-at.invariant.from
          (λ t low high. c.run_end-next.ensures.alike t low high ∙ off) hold)
          c.loop-at.invariant.told;
    }
