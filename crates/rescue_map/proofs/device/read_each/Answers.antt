use Rattle.std.proofs.Common.{ℕ, ◌≡◌, ◌∙◌, ◌+◌, ◌-◌, ◌*◌, ◌/◌, IfSome, length, ap, rules, arith}
use Rattle.outside.specs.Attached.{told_all}
use Rattle.member_regions.proofs.IfTold.{if_both, if_told}
use Rattle.rescue_map.specs.Salvaged.{salvaged_sectors, AreSalvaged}
use Rattle.rescue_map.specs.Ways.{sectors_of, to_find}
use Rattle.rescue_map.proofs.Adjacent.{part_long}
use Rattle.rescue_map.proofs.AskedFor.{salvaged_all, sectors_more}
use Rattle.rescue_map.proofs.Blocks.{reads_blocks, reads_some}
use Rattle.rescue_map.proofs.Passed.{damage_of, volume_short}
use Rattle.rescue_map.proofs.ToFind.{found_on}
use borrow.Rule.Slice.PartMut.{put_mid}
use Rattle.rescue_map.proofs.device.read_each.Goals as goal

pub overflow_add-sector : goal.overflow_add-sector
overflow_add-sector g c =
    let damage = c.args.damage.now in
    let short = volume_short damage.set.now damage.end (damage_of damage.set.now damage.end c.requires.set.mendable.shape c.requires.set.mendable.near) in
    let within = c.requires.within in
    let less = c.loop-j-test.true in
    omega arith

pub way_of-way-requires-clause-set : goal.way_of-way-requires-clause-set
way_of-way-requires-clause-set g c = damage_of c.args.damage.now.set.now c.args.damage.now.end c.requires.set.mendable.shape c.requires.set.mendable.near

pub returns-in_err-read_finished-clause-reads : goal.returns-in_err-read_finished-clause-reads
returns-in_err-read_finished-clause-reads g c =
    let damage = c.args.damage.now in
    let most = c.way_of-way.ensures.most in
    let less = c.loop-j-test.true in
    let count = length c.args.to.now / 512 in
    record {
      only =
          reads_some (g.I.Images.seen c.args.images.now) (g.I.Images.seen c.read_finished.new.images) damage.rescue.now damage.set.now c.args.first (c.loop-j.j + sectors_of c.way_of-way.result) count (omega arith)
          (reads_blocks (g.I.Images.seen c.args.images.now) (g.I.Images.seen c.loop-j.images) (g.I.Images.seen c.read_finished.new.images) damage.rescue.now damage.set.now c.args.first c.loop-j.j (sectors_of c.way_of-way.result) c.loop-j.invariant.reads c.read_finished.ensures.reads.only);
      cause = search rules;
    }

pub loop-j-preserved : goal.loop-j-preserved
loop-j-preserved g c =
    let damage = c.args.damage.now in
    let set = damage.set.now in
    let j = c.loop-j.j in
    let m = sectors_of c.way_of-way.result in
    let next : c.count.result ≡ m = c.count.ensures in
    let less = c.loop-j-test.true in
    let some = c.way_of-way.ensures.some in
    let one = c.unsolved-found.ensures.one in
    let most = c.way_of-way.ensures.most in
    let long : length c.loop-j.to ≡ length c.args.to.now = c.loop-j.invariant.long in
    let to : length c.read_finished.new.to ≡ 512 * m = c.read_finished.ensures.lengths.block ∙ part_long c.loop-j.to j c.count.result (omega arith) ∙ ap (λ (k : ℕ). 512 * k) next in
    let stays : (g.I.Images.seen c.read_finished.new.images).faults ≡ (g.I.Images.seen c.loop-j.images).faults = search rules in
    let now : IfSome (told_all (g.I.Images.seen c.loop-j.images).attached) (λ bytes. AreSalvaged bytes damage.rescue.now set (c.args.first + j) m c.read_finished.new.to) = c.in_ok-read_finished.ensures.told in
    record {
      within = omega arith;
      few = omega arith;
      found = (let more = found_on damage.rescue.now set c.args.first j c.loop-j.found (j + c.count.result) c.way_of-way.result c.way_of-way.ensures.way (omega arith) c.loop-j.invariant.found in omega (arith, more, c.unsolved-found.ensures.found));
      long = omega arith;
      row = c.read_finished.ensures.lengths.rows ∙ c.loop-j.invariant.row;
      reads =
          reads_some (g.I.Images.seen c.args.images.now) (g.I.Images.seen c.read_finished.new.images) damage.rescue.now set c.args.first (j + m) (j + c.count.result) (omega arith)
          (reads_blocks (g.I.Images.seen c.args.images.now) (g.I.Images.seen c.loop-j.images) (g.I.Images.seen c.read_finished.new.images) damage.rescue.now set c.args.first j m c.loop-j.invariant.reads c.read_finished.ensures.reads.only);
      stays = stays ∙ c.loop-j.invariant.stays;
      told =
          if_both (told_all (g.I.Images.seen c.args.images.now).attached)
          (λ bytes. AreSalvaged bytes damage.rescue.now set c.args.first j c.loop-j.to)
          (λ bytes. AreSalvaged bytes damage.rescue.now set (c.args.first + j) m c.read_finished.new.to)
          (λ bytes. AreSalvaged bytes damage.rescue.now set c.args.first (j + c.count.result) (put_mid (512 * j) (512 * (j + c.count.result) - 512 * j) c.loop-j.to c.read_finished.new.to))
          (λ bytes done here i x below small. sectors_more bytes damage.rescue.now set c.args.first j m _ c.loop-j.to c.read_finished.new.to to (omega arith) done here i x (omega arith) small)
          c.loop-j.invariant.told
          (rw (← c.loop-j.invariant.reads.attached) now);
    }

pub returns-clause-told : goal.returns-clause-told
returns-clause-told g c =
    let damage = c.args.damage.now in
    let set = damage.set.now in
    let whole = c.requires.whole in
    let long = c.loop-j.invariant.long in
    let n = length c.args.to.now / 512 in
    if_told (told_all (g.I.Images.seen c.args.images.now).attached)
    (λ bytes. AreSalvaged bytes damage.rescue.now set c.args.first c.loop-j.j c.loop-j.to)
    (λ bytes. c.loop-j.to ≡ salvaged_sectors bytes damage.rescue.now set c.args.first n)
    (λ bytes are. salvaged_all bytes damage.rescue.now set c.args.first n c.loop-j.j c.loop-j.to (omega arith) (omega (arith, c.loop-j.invariant.within)) are)
    c.loop-j.invariant.told

pub returns-clause-found : goal.returns-clause-found
returns-clause-found g c =
    let all : c.loop-j.j ≡ length c.args.to.now / 512 = omega arith in
    c.loop-j.invariant.found ∙ ap (λ (n : ℕ). to_find c.args.damage.now.rescue.now c.args.damage.now.set.now c.args.first n) all
