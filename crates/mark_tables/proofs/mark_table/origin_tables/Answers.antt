use Rattle.std.proofs.Common.{◌≡◌, List, [], ◌∷◌, ◌++◌, length, get_or, rules, arith, ◌∙◌}
use Rattle.mark_tables.specs.Tables.{IsOriginTable}
use Rattle.mark_tables.specs.declared.counts.SlotCount.{SlotCount}
use Rattle.slot_math.proofs.Lists.{each_pushed, length_pushed}
use Rattle.mark_tables.proofs.mark_table.origin_tables.Goals as goal

pub loop-origin-preserved : goal.loop-origin-preserved
loop-origin-preserved c =
    let grown : c.push.new.self.items ≡ c.loop-origin.tables.items ++ c.table_from-table.result ∷ [] = search rules in
    record {
      long = length_pushed c.loop-origin.tables.items c.push.new.self.items c.loop-origin.origin-index c.table_from-table.result grown c.loop-origin.invariant.long;
      each = each_pushed {X = List (List SlotCount)} (λ o table. IsOriginTable c.args.head.now c.args.end c.args.marks.now (get_or c.args.origins.now o 0) table)
          c.loop-origin.tables.items c.push.new.self.items c.loop-origin.origin-index c.table_from-table.result [] grown c.loop-origin.invariant.long c.loop-origin.invariant.each c.table_from-table.ensures;
    }

pub returns : goal.returns
returns c =
    let all : c.loop-origin.origin-index ≡ length c.args.origins.now = omega arith in
    record { long = c.loop-origin.invariant.long ∙ all; each = λ o lt. c.loop-origin.invariant.each o (omega arith) }
