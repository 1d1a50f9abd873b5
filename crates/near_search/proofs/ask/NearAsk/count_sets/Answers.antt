use Rattle.std.proofs.Common.{◌<◌, length, get_or, arith}
use Rattle.std.proofs.lemmas.Option.{slice_get-get_or}
use Rattle.near_mirror.specs.declared.types.Copying.TheVariants.{Near}
use Rattle.near_mirror.specs.declared.types.NearHead.{NearHead}
use Rattle.near_search.specs.Product.{near_heads}
use Rattle.near_search.proofs.Numbered.{all_before, first_more}
use Rattle.near_search.proofs.ask.NearAsk.count_sets.Goals as goal

pub loop-place-preserved : goal.loop-place-preserved
loop-place-preserved c =
    let none : NearHead = record { members = 0; chunk = 0; offset = 0; layout = record { copying = Near; copies = 0 } } in
    let lt : c.loop-place.place < length (near_heads c.args.self.now) = let end = c.head_count-place-end.ensures in let below = c.loop-place-test.true in omega arith in
    let here = slice_get-get_or (near_heads c.args.self.now) c.loop-place.place none lt in
    let count = c.count_at.ensures (get_or (near_heads c.args.self.now) c.loop-place.place none) here in
    let more = first_more c.args.images c.args.self.now c.loop-place.place (near_heads c.args.self.now) (get_or (near_heads c.args.self.now) c.loop-place.place none) here in
    let before = c.loop-place.invariant in
    let sum = c.saturating_add.ensures in
    let least = c.min-sum.ensures in
    omega arith

pub returns : goal.returns
returns c =
    let end = c.loop-place-test.false in
    let long = c.head_count-place-end.ensures in
    let all = all_before c.args.images c.args.self.now c.loop-place.place (omega arith) in
    let sum = c.loop-place.invariant in
    omega arith
