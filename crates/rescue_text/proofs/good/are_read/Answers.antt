use Rattle.std.proofs.Common.{◌≡◌, true, false, List, drop, sym, ap, ◌∙◌, rules}
use Rattle.std.proofs.lemmas.List.Sorted.{IsPartitionPoint-from_clause, IsPartitionedBy-leb}
use lib.Dec.{leb}
use Rattle.rescue_text.specs.declared.block.Block.{Block}
use Rattle.rescue_text.specs.Good.{begins, covers}
use Rattle.rescue_text.proofs.Bisected.{Passed, begun, ends_rise, not_all, whole}
use Rattle.rescue_text.proofs.good.are_read.Goals as goal

pub returns-then-begins_by : goal.returns-then-begins_by
returns-then-begins_by c =
    let k = c.partition_point-first.result in
    let blocks = c.args.blocks.now in
    let passed : Passed k c.args.from blocks = IsPartitionPoint-from_clause (λ block. leb block.end c.args.from) blocks k c.partition_point-first.ensures.partitioned (IsPartitionedBy-leb (λ block. block.end) blocks c.args.from (ends_rise blocks c.requires.blocks)) (λ a r f called. search rules) in
    let in_time : begins (drop k blocks) c.args.from ≡ true = ap (λ (bs : List Block). begins bs c.args.from) (sym (whole k blocks)) ∙ sym c.begins_by.ensures ∙ c.if-begins_by.true in
    let same : c.reaches.result ≡ covers (drop k blocks) c.args.to = c.reaches.ensures ∙ ap (λ (bs : List Block). covers bs c.args.to) (whole k blocks) in
    let both = begun k c.args.from c.args.to blocks c.requires.blocks passed c.partition_point-first.ensures.bound c.requires.some in_time in
    (λ yes. both.0 (sym same ∙ yes), λ read. same ∙ both.1 read)

pub returns-else-begins_by : goal.returns-else-begins_by
returns-else-begins_by c =
    let k = c.partition_point-first.result in
    let blocks = c.args.blocks.now in
    let passed : Passed k c.args.from blocks = IsPartitionPoint-from_clause (λ block. leb block.end c.args.from) blocks k c.partition_point-first.ensures.partitioned (IsPartitionedBy-leb (λ block. block.end) blocks c.args.from (ends_rise blocks c.requires.blocks)) (λ a r f called. search rules) in
    let late : begins (drop k blocks) c.args.from ≡ false = ap (λ (bs : List Block). begins bs c.args.from) (sym (whole k blocks)) ∙ sym c.begins_by.ensures ∙ c.if-begins_by.false in
    (λ yes. absurd (search (rules, yes, c.if-begins_by.false)), λ read. absurd (not_all k c.args.from c.args.to blocks c.requires.blocks passed c.partition_point-first.ensures.bound c.requires.some late read))
