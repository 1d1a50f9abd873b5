use Rattle.candidate_enum.specs.Survivors.{question}
use Rattle.candidate_enum.proofs.Turns.{begun_walk}
use Rattle.candidate_enum.proofs.search.Search.first_walk.Goals as goal

pub returns-clause-leaves : goal.returns-clause-leaves
returns-clause-leaves g c =
    let q = question c.args.self.now.space (g.F.Family.admits c.args.self.now.family.now) c.args.self.now.from c.args.self.now.stop in
    let b = begun_walk q c.new.result c.total.result c.meets_range.result c.requires.search c.total.ensures c.meets_range.ensures c.new.ensures.slots c.new.ensures.rank c.new.ensures.going in
    b.leaves

pub returns-clause-allowance : goal.returns-clause-allowance
returns-clause-allowance g c =
    let q = question c.args.self.now.space (g.F.Family.admits c.args.self.now.family.now) c.args.self.now.from c.args.self.now.stop in
    let b = begun_walk q c.new.result c.total.result c.meets_range.result c.requires.search c.total.ensures c.meets_range.ensures c.new.ensures.slots c.new.ensures.rank c.new.ensures.going in
    b.allowance

pub returns-clause-stands : goal.returns-clause-stands
returns-clause-stands g c =
    let q = question c.args.self.now.space (g.F.Family.admits c.args.self.now.family.now) c.args.self.now.from c.args.self.now.stop in
    let b = begun_walk q c.new.result c.total.result c.meets_range.result c.requires.search c.total.ensures c.meets_range.ensures c.new.ensures.slots c.new.ensures.rank c.new.ensures.going in
    b.stands
