-- Nothing is kept yet, and how far a reading has come.
use Rattle.std.proofs.Common.{rules, ℕ, ◌≡◌, ◌≤◌, List, [], length, sym, ap, refl, ◌∙◌, subst, arith, IfSome, Option, Some, None}
use Rattle.std.proofs.lemmas.List.{length-map}
use Rattle.outside.proofs.Told.{told_all_length}
use Rattle.outside.specs.Attached.{told_all}
use Rattle.outside.specs.Seen.{Image}
use Rattle.member_regions.proofs.IfTold.{if_told}
use Rattle.relation_prefix.specs.Sampled.{AreBelow}
use Rattle.relation_prefix.specs.declared.sampled.SampledRow.{SampledRow}
use Rattle.row_samples.specs.Rows.{AreImageRows}
use Rattle.row_samples.specs.Spreads.{AreSampled, HasNone, LieBelow, Sampling}
use Rattle.search_scope.specs.Scopes.{AgreeWith}
use Rattle.search_scope.specs.declared.scope.Scope.{Scope}

none_rows : (bytes : List (List ℕ)) (count offset : ℕ) → length bytes ≡ count → AreImageRows bytes count offset []
none_rows bytes count offset long = record { count_is = long; are = record { each = search rules; rising = search rules } }

none_below : (row : ℕ) → AreBelow row []
none_below row = search rules

pub none_sampled : (bytes : List (List ℕ)) (count offset : ℕ) (sampling : Sampling) → length bytes ≡ count → HasNone count sampling → AreSampled bytes count offset sampling
none_sampled bytes count offset sampling long none = record {
  telling = subst (AreImageRows bytes count offset) (sym none.telling) (none_rows bytes count offset long);
  others = subst (AreImageRows bytes count offset) (sym none.others) (none_rows bytes count offset long);
}

pub none_lie : (row count : ℕ) (sampling : Sampling) → HasNone count sampling → LieBelow row sampling
none_lie row count sampling none = record { telling = subst (AreBelow row) (sym none.telling) (none_below row); others = subst (AreBelow row) (sym none.others) (none_below row) }

-- the bytes of the images of a scope are those of as many
told_count : (scope : Scope) (attached : List Image) → AgreeWith scope attached → IfSome (told_all attached) (λ bytes. length bytes ≡ length scope.lengths.items)
told_count scope attached are = by (told_all attached) refl
  where
    by : (told : Option (List (List ℕ))) → told_all attached ≡ told → IfSome told (λ bytes. length bytes ≡ length scope.lengths.items)
    by None e = tt
    by (Some all) e = told_all_length attached all e ∙ sym (length-map attached (λ (i : Image). i.sectors)) ∙ ap length are

begins_sampled : (attached : List Image) (scope : Scope) (offset : ℕ) (sampling : Sampling) → AgreeWith scope attached → HasNone (length scope.lengths.items) sampling →
    IfSome (told_all attached) (λ bytes. AreSampled bytes (length scope.lengths.items) offset sampling)
begins_sampled attached scope offset sampling agrees none =
    if_told (told_all attached) (λ bytes. length bytes ≡ length scope.lengths.items) (λ bytes. AreSampled bytes (length scope.lengths.items) offset sampling)
    (λ bytes long. none_sampled bytes (length scope.lengths.items) offset sampling long none)
    (told_count scope attached agrees)

-- what lies below a row lies below a later one
below_later : (a b : ℕ) (rows : List SampledRow) → a ≤ b → AreBelow a rows → AreBelow b rows
below_later a b rows le below = λ k d lt. let low = below k d lt in omega arith

pub lie_later : (a b : ℕ) (sampling : Sampling) → a ≤ b → LieBelow a sampling → LieBelow b sampling
lie_later a b sampling le below =
    record { telling = below_later a b sampling.telling.kept.list le below.telling; others = below_later a b sampling.others.kept.list le below.others }

-- how far a reading has come: what is kept lies below a row
pub record AreFar (told : Option (List (List ℕ))) (count offset at : ℕ) (sampling : Sampling) : Type 0 where
  pub telling_images : sampling.telling.kept.images ≡ count
  pub others_images : sampling.others.kept.images ≡ count
  pub rows : IfSome told (λ bytes. AreSampled bytes count offset sampling)
  pub below : LieBelow at sampling

pub far_later : (told : Option (List (List ℕ))) (count offset at next : ℕ) (sampling : Sampling) → at ≤ next → AreFar told count offset at sampling → AreFar told count offset next sampling
far_later told count offset at next sampling le far =
    record { telling_images = far.telling_images; others_images = far.others_images; rows = far.rows; below = lie_later at next sampling le far.below }

pub far_first : (attached : List Image) (scope : Scope) (offset at : ℕ) (sampling : Sampling) → AgreeWith scope attached → HasNone (length scope.lengths.items) sampling →
    AreFar (told_all attached) (length scope.lengths.items) offset at sampling
far_first attached scope offset at sampling agrees none = record {
  telling_images = none.telling_images;
  others_images = none.others_images;
  rows = begins_sampled attached scope offset sampling agrees none;
  below = none_lie at (length scope.lengths.items) sampling none;
}
