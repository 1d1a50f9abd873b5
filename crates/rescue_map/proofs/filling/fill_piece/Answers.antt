use Rattle.std.proofs.Common.{ℕ, ◌≡◌, ◌∙◌, ◌+◌, ◌*◌, ◌/◌, ◌<◌, ◌-◌, take, drop, length, get_or, ap, rules, arith}
use Rattle.row_parity.proofs.Regions.{mid_after, region_inside}
use Rattle.raid_terms.specs.Parity.{column_of}
use Rattle.rescue_map.specs.Salvaged.{column_at}
use Rattle.rescue_map.specs.Ways.{sectors_of}
use Rattle.rescue_map.proofs.Adjacent.{part_long}
use Rattle.rescue_map.proofs.Found.{column_part, part_byte}
use Rattle.rescue_map.proofs.Passed.{damage_of, volume_short}
use Rattle.rescue_map.proofs.Steps.{fill_more}
use Rattle.rescue_map.proofs.filling.fill_piece.Goals as goal

pub overflow_add-at-in-loop-j : goal.overflow_add-at-in-loop-j
overflow_add-at-in-loop-j c =
    let slots = length c.args.damage.now.set.now.geo.slots.items in
    let many = c.args.start + length c.args.piece.now / 512 in
    let lies = region_inside (512 * c.len-stride.result) (c.args.start + c.loop-j.j) many (omega arith) in
    let same : 512 * c.len-stride.result * many ≡ 512 * slots * many = ap (λ (k : ℕ). k * many) c.loop-j.invariant.stride in
    let fits = c.requires.piece.room in
    omega arith

pub slice_bounds-fill_step-end : goal.slice_bounds-fill_step-end
slice_bounds-fill_step-end c =
    let slots = length c.args.damage.now.set.now.geo.slots.items in
    let many = c.args.start + length c.args.piece.now / 512 in
    let lies = region_inside (512 * c.len-stride.result) (c.args.start + c.loop-j.j) many (omega arith) in
    let same : 512 * c.len-stride.result * many ≡ 512 * slots * many = ap (λ (k : ℕ). k * many) c.loop-j.invariant.stride in
    let fits = c.requires.piece.room in
    search rules

pub overflow_add-sector-in-loop-j : goal.overflow_add-sector-in-loop-j
overflow_add-sector-in-loop-j c =
    let damage = c.args.damage.now in
    let short = volume_short damage.set.now damage.end (damage_of damage.set.now damage.end c.requires.set.shape c.requires.set.near) in
    let within = c.requires.piece.within in
    omega arith

pub way_of-way-requires-clause-set : goal.way_of-way-requires-clause-set
way_of-way-requires-clause-set c = damage_of c.args.damage.now.set.now c.args.damage.now.end c.requires.set.shape c.requires.set.near

pub loop-j-preserved : goal.loop-j-preserved
loop-j-preserved c =
    let damage = c.args.damage.now in
    let set = damage.set.now in
    let n = length set.geo.slots.items in
    let rows = c.args.rows.now in
    let old = c.args.piece.now in
    let piece = c.loop-j.piece in
    let j = c.loop-j.j in
    let at = c.args.start + j in
    let m = sectors_of c.way_of-way.result in
    let next : c.count.result ≡ m = c.count.ensures in
    let stride = 512 * c.len-stride.result in
    let same : stride ≡ 512 * n = c.loop-j.invariant.stride in
    let less = c.loop-j-test.true in
    let some = c.way_of-way.ensures.some in
    let most = c.way_of-way.ensures.most in
    let many : length piece ≡ length old = c.loop-j.invariant.long in
    let to : length c.fill_step.new.to ≡ 512 * m = c.fill_step.ensures.long ∙ part_long piece j c.count.result (omega arith) ∙ ap (λ (k : ℕ). 512 * k) next in
    let row = take (stride * at + stride - stride * at) (drop (stride * at) rows) in
    let from = take (512 * (j + c.count.result) - 512 * j) (drop (512 * j) piece) in
    let part : (x : ℕ) → x < 512 → column_of n row x ≡ column_at n rows (512 * n * at) x =
    λ x below. column_part n (stride * at) x rows row (λ i low. part_byte (stride * at) (stride * at + stride - stride * at) i rows (omega arith)) below
    ∙ ap (λ (k : ℕ). column_at n rows (k * at) x) same in
    let byte : (y : ℕ) → y < 512 * m → get_or from y 0 ≡ get_or old (512 * j + y) 0 =
    λ y below. part_byte (512 * j) (512 * (j + c.count.result) - 512 * j) y piece (omega arith) ∙ c.loop-j.invariant.rest (512 * j + y) (omega arith) in
    record {
      stride = same;
      within = omega arith;
      long = omega arith;
      done = λ i x below small. fill_more damage.rescue.now set c.args.first c.args.start j m _ piece old rows row from c.fill_step.new.to to (omega arith) byte part c.loop-j.invariant.done c.fill_step.ensures.finished i x (omega arith) small;
      rest = λ p low. mid_after (512 * j) (512 * (j + c.count.result) - 512 * j) p piece c.fill_step.new.to (omega arith) (omega arith) (omega arith) ∙ c.loop-j.invariant.rest p (omega arith);
    }

pub returns : goal.returns
returns c = record {
  long = c.loop-j.invariant.long;
  filled = λ j below x inside. c.loop-j.invariant.done j x (omega arith) inside;
}
