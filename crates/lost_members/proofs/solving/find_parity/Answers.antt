use Rattle.std.proofs.Common.{◌≡◌, ℕ, ◌+◌, ◌-◌, ◌/◌, ◌<◌, ◌≤◌, ◌∙◌, Bool, ap, not, false, true, arith, subst}
use Rattle.raid_terms.specs.Cells.{part_of, row_cells}
use Rattle.raid_terms.specs.Parity.{is_data, member_column}
use Rattle.member_regions.specs.Regions.{HoldSlot}
use Rattle.member_regions.proofs.ColumnBytes.{member_columns}
use Rattle.lost_members.proofs.ParityFound.{data_kept, data_more, kind_at, parity_more, parity_there, row_data, slot_none}
use Rattle.member_regions.proofs.Solved.{slot_missing}
use Rattle.lost_members.proofs.solving.find_parity.Goals as goal

pub loop-at-init : goal.loop-at-init
loop-at-init c = record {
  from = omega arith;
  to = omega arith;
  end = omega arith;
  kept = λ bytes are hold. hold;
  found = λ bytes are hold. slot_none bytes c.args.geo.now c.args.stride c.args.first _ c.args.slot c.args.sectors.now (omega arith);
}

pub solve_parity-requires-clause-missing : goal.solve_parity-requires-clause-missing
solve_parity-requires-clause-missing c =
    slot_missing c.args.geo.now (c.loop-at.at / c.args.geo.now.head.chunk) c.args.slot c.deref-then-is_parity.result.now (c.deref-then-is_parity.ensures.0 ∙ c.row_cells-cells.ensures) c.requires.slot c.requires.missing

pub solve_parity-requires-clause-parity : goal.solve_parity-requires-clause-parity
solve_parity-requires-clause-parity c =
    parity_there c.args.geo.now (c.loop-at.at / c.args.geo.now.head.chunk) c.args.slot c.deref-then-is_parity.result.now (c.deref-then-is_parity.ensures.0 ∙ c.row_cells-cells.ensures)
    (kind_at c.args.geo.now (c.loop-at.at / c.args.geo.now.head.chunk) c.args.slot c.deref.result.now c.is_parity.result (c.deref.ensures.0 ∙ c.row_cells-cells.ensures) c.requires.slot c.is_parity.ensures
    ∙ ap (λ (b : Bool). not b) c.if-is_parity.true)

pub loop-at-preserved-then-is_parity : goal.loop-at-preserved-then-is_parity
loop-at-preserved-then-is_parity c =
    let geo = c.args.geo.now in
    let at : ℕ = c.loop-at.at in
    let next : ℕ = c.row_end-next.result in
    let from : ℕ = c.loop-at.at - c.args.first in
    let n : ℕ = c.row_end-next.result - c.loop-at.at in
    let low = c.loop-at.invariant.from in
    let last = c.row_end-next.ensures.end in
    let on = c.row_end-next.ensures.goes_on in
    let are : c.deref-then-is_parity.result.now ≡ row_cells geo (at / geo.head.chunk) = c.deref-then-is_parity.ensures.0 ∙ c.row_cells-cells.ensures in
    let inside : from + n ≤ c.args.count = omega arith in
    let upto : from + n ≡ next - c.args.first = omega arith in
    let in_row = λ (t : ℕ) (low : c.args.first + from ≤ t) (high : t < c.args.first + from + n). c.row_end-next.ensures.row t (omega arith) (omega arith) in
    let parity : is_data (part_of geo.head (at / geo.head.chunk) c.args.slot) ≡ false =
    kind_at geo (at / geo.head.chunk) c.args.slot c.deref.result.now c.is_parity.result (c.deref.ensures.0 ∙ c.row_cells-cells.ensures) c.requires.slot c.is_parity.ensures ∙ ap (λ (b : Bool). not b) c.if-is_parity.true in
    record {
      from = omega arith;
      to = omega arith;
      end = omega arith;
      kept = λ bytes are_bytes hold.
          data_kept bytes geo c.args.stride c.args.first c.args.count from n (at / geo.head.chunk) c.args.slot c.loop-at.sectors c.solve_parity.new.sectors in_row parity c.requires.fits inside
          c.solve_parity.ensures.others (c.loop-at.invariant.kept bytes are_bytes hold);
      found = λ bytes are_bytes hold.
          parity_more bytes geo c.args.stride c.args.first c.args.count from n (at / geo.head.chunk) (next - c.args.first) c.args.slot c.deref-then-is_parity.result.now c.loop-at.sectors c.solve_parity.new.sectors
          are in_row c.requires.fits inside upto c.requires.missing
          (c.solve_parity.ensures.lost (λ j x. member_column bytes geo (c.args.first + j) x)
          (λ j. member_columns bytes geo (c.args.first + j) (at / geo.head.chunk) c.deref-then-is_parity.result.now are_bytes are)
          (row_data bytes geo c.args.stride c.args.first c.args.count from n (at / geo.head.chunk) c.deref-then-is_parity.result.now c.loop-at.sectors are in_row inside (c.loop-at.invariant.kept bytes are_bytes hold)))
          c.solve_parity.ensures.others (c.loop-at.invariant.found bytes are_bytes hold);
    }

pub loop-at-preserved : goal.loop-at-preserved
loop-at-preserved c =
    let geo = c.args.geo.now in
    let at : ℕ = c.loop-at.at in
    let next : ℕ = c.row_end-next.result in
    let from : ℕ = c.loop-at.at - c.args.first in
    let n : ℕ = c.row_end-next.result - c.loop-at.at in
    let low = c.loop-at.invariant.from in
    let last = c.row_end-next.ensures.end in
    let on = c.row_end-next.ensures.goes_on in
    let inside : from + n ≤ c.args.count = omega arith in
    let upto : from + n ≡ next - c.args.first = omega arith in
    let in_row = λ (t : ℕ) (low : c.args.first + from ≤ t) (high : t < c.args.first + from + n). c.row_end-next.ensures.row t (omega arith) (omega arith) in
    let holds : is_data (part_of geo.head (at / geo.head.chunk) c.args.slot) ≡ true =
    kind_at geo (at / geo.head.chunk) c.args.slot c.deref.result.now c.is_parity.result (c.deref.ensures.0 ∙ c.row_cells-cells.ensures) c.requires.slot c.is_parity.ensures ∙ ap (λ (b : Bool). not b) c.if-is_parity.false in
    record {
      from = omega arith;
      to = omega arith;
      end = omega arith;
      kept = c.loop-at.invariant.kept;
      found = λ bytes are_bytes hold.
          data_more bytes geo c.args.stride c.args.first c.args.count from n (at / geo.head.chunk) (next - c.args.first) c.args.slot c.loop-at.sectors in_row inside upto c.requires.slot holds
          (c.loop-at.invariant.kept bytes are_bytes hold) (c.loop-at.invariant.found bytes are_bytes hold);
    }

pub returns : goal.returns
returns c = λ bytes are_bytes hold.
    let all : c.loop-at.at - c.args.first ≡ c.args.count = let low = c.loop-at.invariant.from in omega arith in
    subst (λ (n : ℕ). HoldSlot bytes c.args.geo.now c.args.stride c.args.first n c.args.slot c.loop-at.sectors) all (c.loop-at.invariant.found bytes are_bytes hold)
