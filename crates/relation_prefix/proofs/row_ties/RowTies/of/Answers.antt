use Rattle.std.proofs.Common.{rules, ℕ, ◌≡◌, ◌<◌, ◌≤◌, ◌+◌, Bool, false, List, [], length, get_or, slice_index_or, slice_set, sym, ap, subst, ◌∙◌, arith, inl, inr}
use Rattle.std.specs.List.{All}
use Rattle.std.proofs.Math.ListN.{length-set}
use Rattle.std.proofs.lemmas.Bool.{cases_lt}
use Rattle.std.proofs.lemmas.List.{get_or-set_same, get_or-set_other}
use Rattle.row_relations.specs.Tables.{standing_of}
use Rattle.relation_prefix.specs.declared.row_ties.RowTies.{RowTies}
use Rattle.relation_prefix.specs.Ties.{coefficients_of, dependents, is_zero, HasCoefficients, IsOwnDependent}
use Rattle.relation_prefix.proofs.Dependents.{all_below}
use Rattle.relation_prefix.proofs.Following.{built, own_dependent}
use Rattle.relation_prefix.proofs.row_ties.RowTies.of.Goals as goal

pub coefficients_at-own-requires-clause-below : goal.coefficients_at-own-requires-clause-below
coefficients_at-own-requires-clause-below c =
    subst (λ (l : List ℕ). All (λ d. d < length c.args.table.now.standings) l) (sym c.as_slice.ensures.value)
    (all_below c.args.table.now (length c.args.table.now.standings) c.in_ok-list.list.items c.loop-image.invariant.items)

-- a list with one entry more of which something holds
one_more : {X : Type 0} (P : ℕ → X → Type 0) (xs : List X) (i : ℕ) (x d : X) → i < length xs → ((k : ℕ) → k < i → P k (slice_index_or xs k d)) → P i x →
    (k : ℕ) → k < i + 1 → P k (slice_index_or (slice_set xs i x) k d)
one_more P xs i x d lt before here k le = elim (cases_lt k i) [
  | inl below ↦ subst (P k) (sym (get_or-set_other xs i k x d (λ e. absurd (omega arith)))) (before k below)
  | inr past ↦ (let e : i ≡ k = omega arith in subst (λ (j : ℕ). P j (slice_index_or (slice_set xs i x) j d)) e (subst (P i) (sym (get_or-set_same xs i x d lt)) here))
]

pub loop-image-preserved : goal.loop-image-preserved
loop-image-preserved c =
    let was = c.loop-image.invariant in
    let i = c.loop-image.image in
    let table = c.args.table.now in
    let inside : i < 64 = omega (arith, c.loop-image-test.true, c.images-image-end.ensures.few) in
    record {
      items = was.items;
      few = was.few;
      zeros_long = length-set c.loop-image.zeros i c.is_zero_at.result ∙ was.zeros_long;
      long = length-set c.loop-image.coefficients i c.coefficients_at-own.result ∙ was.long;
      zeros = one_more (λ (k : ℕ) (b : Bool). b ≡ is_zero (standing_of table k)) c.loop-image.zeros i c.is_zero_at.result false (omega (arith, was.zeros_long)) was.zeros c.is_zero_at.ensures;
      coefficients = one_more (λ (k : ℕ) (cs : List ℕ). HasCoefficients table c.in_ok-list.list.items cs k) c.loop-image.coefficients i c.coefficients_at-own.result [] (omega (arith, was.long)) was.coefficients
          (subst (λ (l : List ℕ). HasCoefficients table l c.coefficients_at-own.result i) c.as_slice.ensures.value c.coefficients_at-own.ensures);
    }

pub returns : goal.returns
returns c =
    let was = c.loop-image.invariant in
    let table = c.args.table.now in
    let n = length table.standings in
    let whole : n ≤ c.loop-image.image = omega (arith, c.loop-image-test.false, c.images-image-end.ensures.images) in
    let ds = dependents table n in
    let listed : c.in_ok-list.list.items ≡ ds = was.items in
    let long : length c.in_ok-list.list.items ≡ length ds = ap (λ (l : List ℕ). length l) listed in
    let count : c.len.result ≡ length c.in_ok-list.list.items = search rules in
    let ties : RowTies = record { images = c.images-images.result; count = c.len.result; dependents = c.padded.result; zeros = c.loop-image.zeros; coefficients = c.loop-image.coefficients } in
    let zeros : (i : ℕ) → i < n → slice_index_or ties.zeros i false ≡ is_zero (standing_of table i) = λ i lt. was.zeros i (omega arith) in
    let has : (i : ℕ) → i < n → HasCoefficients table ds (coefficients_of ties i) i
    = λ i lt. subst (λ (l : List ℕ). HasCoefficients table l (slice_index_or c.loop-image.coefficients i []) i) listed (was.coefficients i (omega arith)) in
    let is = built table ties c.images-images.ensures.images (let few = was.few in omega arith) zeros has in
    record {
      fit = record {
        count = (let few = was.few in omega arith);
        dependents = λ t lt.
            (let same : get_or c.padded.result t 0 ≡ get_or ds t 0
            = c.padded.ensures.same t (let value = ap (λ (l : List ℕ). length l) c.as_slice-2.ensures.value in omega arith)
            ∙ ap (λ (l : List ℕ). get_or l t 0) (c.as_slice-2.ensures.value ∙ listed) in
            subst (λ (image : ℕ). IsOwnDependent ties t image) (sym same) (own_dependent table ties c.images-images.ensures.images zeros has t (omega arith)));
        past = λ i t lt past. (has i (let same = c.images-images.ensures.images in omega arith)).past t (omega arith);
        few = c.images-images.ensures.few;
        zeros = was.zeros_long;
        coefficients = was.long;
        bytes = is.bytes;
      };
      of = is;
    }
