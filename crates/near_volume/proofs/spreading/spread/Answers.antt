use Rattle.std.proofs.Common.{ℕ, ◌≡◌, ◌+◌, ◌*◌, List, length, ◌∙◌, arith}
use Rattle.std.specs.Prelude.{slice_range}
use Rattle.std.proofs.lemmas.List.Edits.{get_or-between, length-between}
use Rattle.near_volume.proofs.Spreads.{cell_fits, cell_short, column_on, others_stay, part_fits}
use Rattle.near_volume.proofs.spreading.spread.Goals as goal

pub overflow_mul-at : goal.overflow_mul-at
overflow_mul-at c =
    let fits = cell_fits c.args.size c.args.columns c.args.rows c.loop-row.row c.args.column (omega arith) c.requires.column in
    let short = cell_short c.args.size c.args.columns c.args.rows c.loop-row.row c.args.column c.requires.some (omega arith) c.requires.column in
    omega arith

pub overflow_add-at : goal.overflow_add-at
overflow_add-at c = omega (arith, cell_short c.args.size c.args.columns c.args.rows c.loop-row.row c.args.column c.requires.some (omega arith) c.requires.column)

pub put_part-requires : goal.put_part-requires
put_part-requires c =
    let at : ℕ = c.args.size * c.loop-row.row in
    let inside = part_fits c.args.size c.args.rows c.loop-row.row (omega arith) in
    let fits = cell_fits c.args.size c.args.columns c.args.rows c.loop-row.row c.args.column (omega arith) c.requires.column in
    omega (arith, length-between c.args.from.now at (at + c.args.size) (omega arith))

pub loop-row-preserved : goal.loop-row-preserved
loop-row-preserved c =
    let at : ℕ = c.args.size * c.loop-row.row in
    let part : List ℕ = slice_range c.args.from.now at (at + c.args.size) in
    let fits = part_fits c.args.size c.args.rows c.loop-row.row (omega arith) in
    let long : length part ≡ c.args.size = omega (arith, length-between c.args.from.now at (at + c.args.size) (omega arith)) in
    record {
      long = c.put_part.ensures.long ∙ c.loop-row.invariant.long;
      column = column_on c.args.size c.args.columns c.args.column c.loop-row.row c.loop-row.to c.put_part.new.to part c.args.from.now c.requires.column long c.put_part.ensures.before c.put_part.ensures.here
          (λ x small. get_or-between c.args.from.now at (at + c.args.size) x 0 (omega arith)) c.loop-row.invariant.column;
      others = λ row other x below among differ small.
          others_stay c.args.size c.args.columns c.args.column c.loop-row.row c.loop-row.to c.put_part.new.to part c.requires.column long c.put_part.ensures.before c.put_part.ensures.after row other x among differ small
          ∙ c.loop-row.invariant.others row other x below among differ small;
    }
