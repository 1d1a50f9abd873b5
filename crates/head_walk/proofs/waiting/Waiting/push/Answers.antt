use Rattle.std.proofs.Common.{rules, ◌≡◌, ◌++◌, ◌∷◌, [], length, length-append, map, sym, ap, ◌∙◌, arith}
use Rattle.std.proofs.lemmas.List.{length-map, map-append}
use Rattle.head_walk.specs.Walk.{first_tally, known_first}
use Rattle.head_walk.proofs.Known.{known_most, known_pushed}
use Rattle.head_walk.proofs.waiting.Waiting.push.Goals as goal

pub with_one-known-requires : goal.with_one-known-requires
with_one-known-requires c =
    let known = c.requires.are.known in
    let most = known_most c.args.plan.now c.args.self.now.sets in
    let room = c.requires.room in
    omega arith

pub returns-clause-are : goal.returns-clause-are
returns-clause-are c =
    let ranks : c.push.new.self ≡ c.args.self.now.ranks ++ c.args.rank ∷ [] = search rules in
    let sets : c.push-2.new.self ≡ c.args.self.now.sets ++ c.args.geo ∷ [] = search rules in
    let tallies : c.push-3.new.self.items ≡ c.args.self.now.tallies.items ++ c.first_tally-tally.result ∷ [] = search rules in
    let count : c.len.result ≡ length c.args.self.now.tallies.items = search rules in
    let long = length-map c.args.self.now.sets (first_tally c.args.plan.now) in
    let same = ap length c.requires.are.tallies in
    record {
      ranks = (let a = ap length ranks in let b = ap length sets in let d = length-append c.args.self.now.ranks (c.args.rank ∷ []) in let e = length-append c.args.self.now.sets (c.args.geo ∷ []) in let f = c.requires.are.ranks in omega arith);
      tallies = tallies ∙ ap (λ t. c.args.self.now.tallies.items ++ t ∷ []) c.first_tally-tally.ensures ∙ ap (λ l. l ++ first_tally c.args.plan.now c.args.geo ∷ []) c.requires.are.tallies
          ∙ sym (map-append (first_tally c.args.plan.now) c.args.self.now.sets (c.args.geo ∷ [])) ∙ ap (map (first_tally c.args.plan.now)) (sym sets);
      known = known_pushed c.args.plan.now c.args.self.now.sets c.args.geo c.args.self.now.known c.len.result c.with_one-known.result c.first_tally-tally.result c.requires.are.known (omega arith) c.first_tally-tally.ensures c.with_one-known.ensures
          ∙ ap (λ l. known_first c.args.plan.now l) (sym sets);
    }
