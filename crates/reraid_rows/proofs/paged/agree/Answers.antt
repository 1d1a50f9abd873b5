use Rattle.std.proofs.Common.{◌≡◌, ◌≤◌, ℕ, Bool, true, false, not, length, Option, Some, None, arith, refl, sym, ◌∙◌}
use Rattle.std.specs.Option.{is_some}
use Rattle.reraid_rows.proofs.Lengths.{have_lengths}
use Rattle.reraid_rows.proofs.paged.agree.Goals as goal

nothing_there : (o : Option ℕ) (b : Bool) → is_some o ≡ not b → b ≡ true → o ≡ None
nothing_there None b e t = refl
nothing_there (Some n) true e t = (cc)
nothing_there (Some n) false e t = (cc)

pub returns : goal.returns
returns g c = λ none.
    let planned = c.as_slice-planned.result.now in
    let is : length c.as_slice-planned.result.now ≤ c.loop-image.image = c.loop-image-test.false in
    have_lengths (g.I.Images.seen c.args.images.now).attached c.as_slice-planned.result.now (λ i lt. c.loop-image.invariant i (omega arith))
    (sym c.length-2.ensures ∙ nothing_there c.length-2.result c.is_none.result c.is_none.ensures none)
    ∙ c.as_slice-planned.ensures.value
