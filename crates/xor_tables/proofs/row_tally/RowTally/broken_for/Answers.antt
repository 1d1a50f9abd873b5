use Rattle.std.proofs.Common.{◌≡◌, ◌+◌, ◌-◌, ◌^◌, min, arith, ap, sym, ◌∙◌}
use Rattle.raid_params.specs.declared.types.Level.{Level}
use Rattle.xor_tables.specs.Heads.{broken_by}
use Rattle.xor_tables.specs.Xors.{broken_in, RowTable}
use Rattle.xor_tables.proofs.Placed.{none_broken}
use Rattle.xor_tables.proofs.row_tally.RowTally.broken_for.Goals as goal

pub returns-in-Raid0-clause-sum : goal.returns-in-Raid0-clause-sum
returns-in-Raid0-clause-sum c = λ prefix images.
    (let none = none_broken c.nowhere.result prefix c.nowhere.ensures.none in
    let e : min (0 + broken_by c.nowhere.result prefix) (2 ^ 64 - 1) ≡ 0 = omega arith in e)
    ∙ sym (ap (λ (level : Level). min (broken_in c.args.self.now level c.args.head.now prefix) (2 ^ 64 - 1)) c.in-Raid0.is)

pub returns-in-Raid5-clause-sum : goal.returns-in-Raid5-clause-sum
returns-in-Raid5-clause-sum c = λ prefix images.
    (let none = none_broken c.nowhere-in-Raid5.result prefix c.nowhere-in-Raid5.ensures.none in
    let e : min (c.self.inside.all + broken_by c.nowhere-in-Raid5.result prefix) (2 ^ 64 - 1) ≡ min c.self.inside.all (2 ^ 64 - 1) = omega arith in e)
    ∙ ap (λ (t : RowTable). min t.all (2 ^ 64 - 1)) c.self.view_is
    ∙ sym (ap (λ (level : Level). min (broken_in c.args.self.now level c.args.head.now prefix) (2 ^ 64 - 1)) c.in-Raid5.is)
