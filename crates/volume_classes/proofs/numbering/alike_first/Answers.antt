use Rattle.std.proofs.Common.{◌≢◌, sym, subst, inl, inr, arith, ap, ◌∙◌, slice_get}
use Rattle.std.proofs.lemmas.Bool.{cases_eq, iff_false}
use Rattle.volume_classes.specs.Tables.{HasSet, IsTable}
use Rattle.volume_classes.proofs.ClassSteps.{same_element}
use Rattle.volume_classes.proofs.numbering.alike_first.Goals as goal

pub are_alike-requires-clause-one : goal.are_alike-requires-clause-one
are_alike-requires-clause-one c = subst (HasSet c.args.images c.args.end) (sym c.index-firsts-place.is) (c.requires.firsts c.loop-place.place c.index-firsts-place.result (omega arith))

pub returns-then-are_alike : goal.returns-then-are_alike
returns-then-are_alike c = (
  omega arith,
  λ table a b is a_is b_is.
      let same = same_element c.args.firsts.now c.loop-place.place c.index-firsts-place.result table c.index-firsts-place.is is in
      (c.are_alike.ensures a b (subst (IsTable c.args.images c.args.end a) (sym same) a_is) b_is).0 c.if-are_alike.true,
)

pub loop-place-preserved : goal.loop-place-preserved
loop-place-preserved c place below table a b is a_is b_is alike =
    elim (cases_eq place c.loop-place.place) [
      | inl at ↦ (let same = same_element c.args.firsts.now c.loop-place.place c.index-firsts-place.result table c.index-firsts-place.is (ap (slice_get c.args.firsts.now) (sym at) ∙ is) in
          iff_false (c.are_alike.ensures a b (subst (IsTable c.args.images c.args.end a) (sym same) a_is) b_is) c.if-are_alike.false alike)
      | inr apart ↦ (let ne : place ≢ c.loop-place.place = apart in c.loop-place.invariant place (omega arith) table a b is a_is b_is alike)
    ]

pub returns : goal.returns
returns c place below = c.loop-place.invariant place (omega arith)
