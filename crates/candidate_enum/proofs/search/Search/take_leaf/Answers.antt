use Rattle.std.proofs.Common.{refl}
use Rattle.candidate_enum.specs.Survivors.{question}
use Rattle.candidate_enum.specs.Left.{left_from}
use Rattle.candidate_enum.proofs.Turns.{met_done, met_turn}
use Rattle.candidate_enum.proofs.search.Search.take_leaf.Goals as goal

pub climb-requires-clause-done : goal.climb-requires-clause-done
climb-requires-clause-done g c =
    let q = question c.args.self.now.space (g.F.Family.admits c.args.self.now.family.now) c.args.self.now.from c.args.self.now.stop in
    met_done q c.args.walk.now.slots.items c.args.walk.now.rank c.requires.search c.requires.met

pub returns-clause-turn : goal.returns-clause-turn
returns-clause-turn g c =
    let q = question c.args.self.now.space (g.F.Family.admits c.args.self.now.family.now) c.args.self.now.from c.args.self.now.stop in
    met_turn q c.args.walk.now.slots.items c.args.walk.now.rank (record { rank = c.args.walk.now.rank; slots = c.copy_of.result }) (left_from q c.climb.new.walk) c.requires.search c.requires.met refl c.copy_of.ensures c.climb.ensures.left
