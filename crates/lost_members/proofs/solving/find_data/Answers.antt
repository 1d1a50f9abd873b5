use Rattle.std.proofs.Common.{◌≡◌, ℕ, ◌+◌, ◌-◌, ◌/◌, ◌<◌, ◌≤◌, ◌∙◌, true, rules, arith}
use Rattle.std.specs.List.{list_all}
use Rattle.std.specs.Option.{is_some}
use Rattle.raid_terms.specs.Cells.{row_cells}
use Rattle.raid_terms.specs.Parity.{member_column}
use Rattle.lost_members.proofs.DataFound.{data_hold, found_full, found_more, needed_kept, rows_agree, rows_whole}
use Rattle.lost_members.proofs.solving.find_data.Goals as goal

pub returns-then-is_full : goal.returns-then-is_full
returns-then-is_full c = λ bytes hold.
    let full : list_all is_some c.args.geo.now.slots.items ≡ true = search rules in
    found_full bytes c.args.geo.now c.args.stride c.args.first c.args.count c.args.sectors.now full hold

pub loop-at-preserved : goal.loop-at-preserved
loop-at-preserved c =
    let geo = c.args.geo.now in
    let at : ℕ = c.loop-at.at in
    let next : ℕ = c.row_end-next.result in
    let from : ℕ = c.loop-at.at - c.args.first in
    let n : ℕ = c.row_end-next.result - c.loop-at.at in
    let first = c.loop-at.invariant.from in
    let last = c.row_end-next.ensures.end in
    let on = c.row_end-next.ensures.goes_on in
    let are : c.deref.result.now ≡ row_cells geo (at / geo.head.chunk) = c.deref.ensures.0 ∙ c.row_cells-cells.ensures in
    let inside : from + n ≤ c.args.count = omega arith in
    let upto : from + n ≡ next - c.args.first = omega arith in
    let in_row = λ (t : ℕ) (low : c.args.first + from ≤ t) (high : t < c.args.first + from + n). c.row_end-next.ensures.row t (omega arith) (omega arith) in
    record {
      from = omega arith;
      to = omega arith;
      end = omega arith;
      needed = λ bytes hold.
          needed_kept bytes geo c.args.stride c.args.first c.args.count from n (at / geo.head.chunk) c.deref.result.now c.loop-at.sectors c.solve_data.new.sectors are
          c.requires.fits inside c.solve_data.ensures.others (c.loop-at.invariant.needed bytes hold);
      found = λ bytes hold.
          found_more bytes geo c.args.stride c.args.first c.args.count from n (at / geo.head.chunk) (next - c.args.first) c.deref.result.now c.loop-at.sectors c.solve_data.new.sectors are
          in_row c.requires.fits inside upto
          (c.solve_data.ensures.lost (λ j x. member_column bytes geo (c.args.first + j) x)
          (rows_whole bytes geo c.args.first from n (at / geo.head.chunk) c.deref.result.now are)
          (rows_agree bytes geo c.args.stride c.args.first c.args.count from n (at / geo.head.chunk) c.deref.result.now c.loop-at.sectors are in_row inside (c.loop-at.invariant.needed bytes hold)))
          c.solve_data.ensures.others (c.loop-at.invariant.found bytes hold);
    }

pub returns : goal.returns
returns c = λ bytes hold.
    data_hold bytes c.args.geo.now c.args.stride c.args.first c.args.count (c.loop-at.at - c.args.first) c.loop-at.sectors (omega arith)
    (c.loop-at.invariant.needed bytes hold) (c.loop-at.invariant.found bytes hold)
