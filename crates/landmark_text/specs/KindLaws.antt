-- Proofs that each kind has a name of its own, without a separator. The implementations of `Spelled` and `Field` give
-- them as their law, which may cite `specs` alone. They test the lists of all kinds, so they name no kind.
use Rattle.std.proofs.Common.{◌≡◌, ℕ, zero, suc, ◌+◌, ◌<◌, ◌&&◌, Bool, true, List, [], ◌∷◌, length, get_or, refl, sym, ap, ◌∙◌, arith}
use Rattle.std.specs.Prelude.{◌==◌}
use Rattle.std.specs.List.{list_all, position_or_len}
use Rattle.std.specs.Str.{bytes_eq}
use Rattle.std.proofs.lemmas.Bool.{and_parts, eqb-true}
use Rattle.mark_kinds.specs.Listed.{group_at, is_listed, kind_at, kind_listed}
use Rattle.mark_kinds.specs.Table.{group_place, kind_place}
use Rattle.mark_kinds.specs.declared.table.GroupKind.{GroupKind}
use Rattle.mark_kinds.specs.declared.table.Kind.{Kind}
use Rattle.mark_kinds.specs.declared.table.TheConstants.{GROUPS, KINDS}
use Rattle.value_text.specs.Spelling.{is_plain, IsFieldName}
use Rattle.landmark_text.specs.Names.{group_name, kind_name}

-- the first place of a name in a list
place_of_name : {A : Type 0} → (A → List ℕ) → List A → List ℕ → ℕ
place_of_name name all word = position_or_len (λ x. bytes_eq (name x) word) all

-- each of a list has a name without a separator, and its place in all is the first with its name
are_apart : {A : Type 0} → (A → List ℕ) → List A → ℕ → List A → Bool
are_apart name all from [] = true
are_apart name all from (x ∷ xs) = (list_all is_plain (name x) && place_of_name name all (name x) == from) && are_apart name all (suc from) xs

apart_at : {A : Type 0} (name : A → List ℕ) (all : List A) (from : ℕ) (xs : List A) (n : ℕ) (d : A) → are_apart name all from xs ≡ true → n < length xs →
    (list_all is_plain (name (get_or xs n d)) ≡ true) × (place_of_name name all (name (get_or xs n d)) ≡ from + n)
unfolding are_apart
apart_at name all from [] n d are lt = absurd (omega arith)
apart_at name all from (x ∷ xs) zero d are lt =
    let parts = and_parts (list_all is_plain (name x) && place_of_name name all (name x) == from) (are_apart name all (suc from) xs) are in
    let here = and_parts (list_all is_plain (name x)) (place_of_name name all (name x) == from) parts.0 in
    (here.0, omega (arith, eqb-true (place_of_name name all (name x)) from here.1))
apart_at name all from (x ∷ xs) (suc n) d are lt =
    let parts = and_parts (list_all is_plain (name x) && place_of_name name all (name x) == from) (are_apart name all (suc from) xs) are in
    let later = apart_at name all (suc from) xs n d parts.1 (omega arith) in
    (later.0, omega (arith, later.1))

groups_apart : are_apart group_name GROUPS 0 GROUPS ≡ true
unfolding are_apart place_of_name
groups_apart = refl

kinds_apart : are_apart kind_name KINDS 0 KINDS ≡ true
unfolding are_apart place_of_name
kinds_apart = refl

group_named : (kind : GroupKind) → (list_all is_plain (group_name kind) ≡ true) × (place_of_name group_name GROUPS (group_name kind) ≡ group_place kind)
group_named kind =
    let is = is_listed kind in
    let at = apart_at group_name GROUPS 0 GROUPS (group_place kind) (group_at 0) groups_apart is.below in (
      sym (ap (λ (k : GroupKind). list_all is_plain (group_name k)) is.back) ∙ at.0,
      omega (arith, ap (λ (k : GroupKind). place_of_name group_name GROUPS (group_name k)) is.back, at.1),
    )

pub group_law : IsFieldName group_name (λ kind. Unit {0})
group_law = record {
  one_value = λ x y p q e.
      let x_is = is_listed x in
      let y_is = is_listed y in
      let x_at = group_named x in
      let y_at = group_named y in
      sym x_is.back ∙ ap group_at (sym x_at.1 ∙ ap (place_of_name group_name GROUPS) e ∙ y_at.1) ∙ y_is.back;
  has_no_separator = λ x p. let is = group_named x in is.0;
}

kind_named : (kind : Kind) → (list_all is_plain (kind_name kind) ≡ true) × (place_of_name kind_name KINDS (kind_name kind) ≡ kind_place kind)
kind_named kind =
    let is = kind_listed kind in
    let at = apart_at kind_name KINDS 0 KINDS (kind_place kind) (kind_at 0) kinds_apart is.0 in (
      sym (ap (λ (k : Kind). list_all is_plain (kind_name k)) is.1) ∙ at.0,
      omega (arith, ap (λ (k : Kind). place_of_name kind_name KINDS (kind_name k)) is.1, at.1),
    )

pub kind_law : IsFieldName kind_name (λ kind. Unit {0})
kind_law = record {
  one_value = λ x y p q e.
      let x_is = kind_listed x in
      let y_is = kind_listed y in
      let x_at = kind_named x in
      let y_at = kind_named y in
      sym x_is.1 ∙ ap kind_at (sym x_at.1 ∙ ap (place_of_name kind_name KINDS) e ∙ y_at.1) ∙ y_is.1;
  has_no_separator = λ x p. let is = kind_named x in is.0;
}
