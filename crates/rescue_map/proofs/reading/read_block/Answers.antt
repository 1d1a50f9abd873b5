use Rattle.std.proofs.Common.{ℕ, ◌≡◌, ◌∙◌, ◌+◌, ◌-◌, ◌*◌, ◌<◌, IfSome, length, ap, refl, rules, arith}
use Rattle.outside.specs.Attached.{told_all}
use Rattle.member_regions.proofs.IfTold.{if_both}
use Rattle.row_parity.proofs.Regions.{region_inside}
use Rattle.rescue_map.specs.Salvaged.{IsRead}
use Rattle.rescue_map.specs.Ways.{sectors_of, to_find, AreFound}
use Rattle.rescue_map.proofs.Adjacent.{part_long}
use Rattle.rescue_map.proofs.Blocks.{reads_blocks, reads_some}
use Rattle.rescue_map.proofs.Passed.{damage_of, volume_short}
use Rattle.rescue_map.proofs.Steps.{read_more}
use Rattle.rescue_map.proofs.ToFind.{found_on}
use borrow.Rule.Slice.PartMut.{put_mid}
use Rattle.rescue_map.proofs.reading.read_block.Goals as goal

pub overflow_add-sector : goal.overflow_add-sector
overflow_add-sector g c =
    let damage = c.args.damage.now in
    let short = volume_short damage.set.now damage.end (damage_of damage.set.now damage.end c.requires.set.mendable.shape c.requires.set.mendable.near) in
    let within = c.requires.room.within in
    let less = c.loop-j-test.true in
    omega arith

pub way_of-way-requires-clause-set : goal.way_of-way-requires-clause-set
way_of-way-requires-clause-set g c = damage_of c.args.damage.now.set.now c.args.damage.now.end c.requires.set.mendable.shape c.requires.set.mendable.near

pub overflow_add-row : goal.overflow_add-row
overflow_add-row g c =
    let n = length c.args.damage.now.set.now.geo.slots.items in
    let stride = 512 * c.len-stride.result in
    let same : stride ≡ 512 * n = ap (λ (k : ℕ). 512 * k) c.len-stride.ensures.value in
    let lies = region_inside stride c.loop-j.j c.args.count c.loop-j-test.true in
    let whole : stride * c.args.count ≡ 512 * n * c.args.count = ap (λ (k : ℕ). k * c.args.count) same in
    let room = c.requires.room.room in
    omega arith

pub returns-in_err-read_step-clause-reads : goal.returns-in_err-read_step-clause-reads
returns-in_err-read_step-clause-reads g c =
    let damage = c.args.damage.now in
    let most = c.way_of-way.ensures.most in
    let less = c.loop-j-test.true in
    record {
      only =
          reads_some (g.I.Images.seen c.args.images.now) (g.I.Images.seen c.read_step.new.images) damage.rescue.now damage.set.now c.args.first (c.loop-j.j + sectors_of c.way_of-way.result) c.args.count (omega arith)
          (reads_blocks (g.I.Images.seen c.args.images.now) (g.I.Images.seen c.loop-j.images) (g.I.Images.seen c.read_step.new.images) damage.rescue.now damage.set.now c.args.first c.loop-j.j (sectors_of c.way_of-way.result) c.loop-j.invariant.reads c.read_step.ensures.reads.only);
      cause = search rules;
    }

pub loop-j-preserved : goal.loop-j-preserved
loop-j-preserved g c =
    let damage = c.args.damage.now in
    let set = damage.set.now in
    let n = length set.geo.slots.items in
    let j = c.loop-j.j in
    let m = sectors_of c.way_of-way.result in
    let next : c.count.result ≡ m = c.count.ensures in
    let stride = 512 * c.len-stride.result in
    let same : stride ≡ 512 * n = ap (λ (k : ℕ). 512 * k) c.len-stride.ensures.value in
    let less = c.loop-j-test.true in
    let some = c.way_of-way.ensures.some in
    let most = c.way_of-way.ensures.most in
    let one = c.unsolved-found.ensures.one in
    let lies = region_inside stride j c.args.count less in
    let whole : stride * c.args.count ≡ 512 * n * c.args.count = ap (λ (k : ℕ). k * c.args.count) same in
    let rows_room = c.requires.room.room in
    let block_room = c.requires.room.sectors in
    let rows_long : length c.loop-j.rows ≡ length c.args.rows.now = c.loop-j.invariant.rows_long in
    let block_long : length c.loop-j.block ≡ length c.args.block.now = c.loop-j.invariant.block_long in
    let row : length c.read_step.new.row ≡ stride = search rules in
    let to : length c.read_step.new.to ≡ 512 * m = c.read_step.ensures.lengths.block ∙ part_long c.loop-j.block j c.count.result (omega arith) ∙ ap (λ (k : ℕ). 512 * k) next in
    let stays : (g.I.Images.seen c.read_step.new.images).faults ≡ (g.I.Images.seen c.loop-j.images).faults = search rules in
    let now : IfSome (told_all (g.I.Images.seen c.loop-j.images).attached) (λ bytes. AreFound bytes damage.rescue.now set (c.args.first + j) m c.read_step.new.row c.read_step.new.to) = c.in_ok-read_step.ensures.told in
    record {
      within = omega arith;
      few = omega arith;
      found = (let more = found_on damage.rescue.now set c.args.first j c.loop-j.found (j + c.count.result) c.way_of-way.result c.way_of-way.ensures.way (omega arith) c.loop-j.invariant.found in omega (arith, more, c.unsolved-found.ensures.found));
      block_long = omega arith;
      rows_long = omega arith;
      reads =
          reads_some (g.I.Images.seen c.args.images.now) (g.I.Images.seen c.read_step.new.images) damage.rescue.now set c.args.first (j + m) (j + c.count.result) (omega arith)
          (reads_blocks (g.I.Images.seen c.args.images.now) (g.I.Images.seen c.loop-j.images) (g.I.Images.seen c.read_step.new.images) damage.rescue.now set c.args.first j m c.loop-j.invariant.reads c.read_step.ensures.reads.only);
      stays = stays ∙ c.loop-j.invariant.stays;
      told =
          if_both (told_all (g.I.Images.seen c.args.images.now).attached)
          (λ bytes. (i : ℕ) → i < j → IsRead bytes damage.rescue.now set c.args.first c.loop-j.rows c.loop-j.block i)
          (λ bytes. AreFound bytes damage.rescue.now set (c.args.first + j) m c.read_step.new.row c.read_step.new.to)
          (λ bytes. (i : ℕ) → i < j + c.count.result → IsRead bytes damage.rescue.now set c.args.first (put_mid (stride * j) (stride * j + stride - stride * j) c.loop-j.rows c.read_step.new.row)
          (put_mid (512 * j) (512 * (j + c.count.result) - 512 * j) c.loop-j.block c.read_step.new.to) i)
          (λ bytes done here i below. read_more bytes damage.rescue.now set c.args.first n stride j m _ _ c.loop-j.rows c.loop-j.block c.read_step.new.row c.read_step.new.to refl same row to (omega arith) (omega arith) done here i (omega arith))
          c.loop-j.invariant.told
          (rw (← c.loop-j.invariant.reads.attached) now);
    }

pub returns-clause-found : goal.returns-clause-found
returns-clause-found g c =
    let all : c.loop-j.j ≡ c.args.count = omega arith in
    c.loop-j.invariant.found ∙ ap (λ (n : ℕ). to_find c.args.damage.now.rescue.now c.args.damage.now.set.now c.args.first n) all
