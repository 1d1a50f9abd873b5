use Rattle.std.proofs.Common.{◌≡◌, ◌∷◌, rules}
use Rattle.mft.proofs.Tables.{no_place, place_here, place_later}
use Rattle.mft.proofs.places.+place_in.Goals as goal

pub returns-then-before-length-clause-place : goal.returns-then-before-length-clause-place
returns-then-before-length-clause-place t c =
    let are : c.args.runs.now ≡ c.in-Some.run'.now ∷ c.in-Some.rest.now = search rules in
    place_here c.args.cluster c.args.before c.args.sectors c.run_sectors-length.result c.in-Some.run'.now c.in-Some.rest.now c.args.runs.now c.place_within.result are (search rules) (search rules) (search rules)

pub returns-else-before-length-clause-place : goal.returns-else-before-length-clause-place
returns-else-before-length-clause-place t c =
    let are : c.args.runs.now ≡ c.in-Some.run'.now ∷ c.in-Some.rest.now = search rules in
    place_later c.args.cluster c.args.before c.args.sectors c.run_sectors-length.result c.in-Some.run'.now c.in-Some.rest.now c.args.runs.now c.place_in.result are (search rules) (search rules) (search rules)

pub returns-in-None-clause-place : goal.returns-in-None-clause-place
returns-in-None-clause-place t c = no_place c.args.cluster c.args.before c.args.sectors c.args.runs.now (search rules)
