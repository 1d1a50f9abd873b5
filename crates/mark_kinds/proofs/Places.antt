-- Places tell kinds apart, and each kind stands at its place in the list of all. If kinds are named, one is looked for.
use Rattle.std.proofs.Common.{◌≡◌, ℕ, zero, suc, ◌<◌, ◌≤◌, All, Bool, true, false, ◌||◌, List, [], ◌∷◌, length, ◌+◌, ◌&&◌, get_or, refl, sym, ap, subst, ◌∙◌, arith}
use Rattle.std.specs.Prelude.{◌==◌}
use Rattle.std.specs.List.{list_any}
use Rattle.std.proofs.lemmas.Bool.{and_parts, eqb-true}
use Rattle.mark_kinds.specs.Table.{all_groups, group_place, is_group_asked, kind_place, kinds_among, some_asked}
use Rattle.mark_kinds.specs.declared.table.GroupKind.{GroupKind}
use Rattle.mark_kinds.specs.declared.table.Kind.{Kind}
use Rattle.mark_kinds.specs.declared.table.TheConstants.{GROUPS, GROUP_COUNT, KINDS, KIND_COUNT}
use Rattle.mark_kinds.specs.Listed.{group_at, is_listed, kind_at, kind_listed}

-- ---- groups

pub same_group : (kind other : GroupKind) → group_place kind ≡ group_place other → kind ≡ other
same_group kind other e =
    let kind_is = is_listed kind in
    let other_is = is_listed other in
    sym kind_is.back ∙ ap group_at e ∙ other_is.back

pub group_below : (kind : GroupKind) → group_place kind < GROUP_COUNT
group_below kind = let is = is_listed kind in is.below

-- what holds of all of the list holds of each
pub each_group : (P : GroupKind → Type 0) → All P GROUPS → (kind : GroupKind) → P kind
each_group P all kind = let is = is_listed kind in subst P is.back (all (group_place kind) (group_at 0) is.below)

or_first : (a b : Bool) → a ≡ true → (a || b) ≡ true
or_first true b is = refl
or_first false b is = cc

or_later : (a b : Bool) → b ≡ true → (a || b) ≡ true
or_later true b is = refl
or_later false b is = is

any_at : (p : GroupKind → Bool) (kinds : List GroupKind) (i : ℕ) (d : GroupKind) → i < length kinds → p (get_or kinds i d) ≡ true → list_any p kinds ≡ true
any_at p [] i d lt is = absurd (omega arith)
any_at p (kind ∷ kinds) zero d lt is = or_first (p kind) (list_any p kinds) is
any_at p (kind ∷ kinds) (suc i) d lt is = or_later (p kind) (list_any p kinds) (any_at p kinds i d (omega arith) is)

-- each kind is among all
any_of_all : (p : GroupKind → Bool) (kind : GroupKind) → p kind ≡ true → list_any p all_groups ≡ true
any_of_all p kind is =
    let listed = is_listed kind in
    any_at p GROUPS (group_place kind) (group_at 0) listed.below (ap p listed.back ∙ is)

pub among_some : (kinds : List GroupKind) → 1 ≤ length kinds → some_asked (kinds_among kinds) ≡ true
among_some [] some = absurd (omega arith)
among_some (kind ∷ kinds) some = let is = is_listed kind in any_of_all (is_group_asked (kinds_among (kind ∷ kinds))) kind (is.asked kinds)

-- ---- landmark sectors

pub same_kind : (kind other : Kind) → kind_place kind ≡ kind_place other → kind ≡ other
same_kind kind other e =
    let kind_is = kind_listed kind in
    let other_is = kind_listed other in
    sym kind_is.1 ∙ ap kind_at e ∙ other_is.1

pub kind_below : (kind : Kind) → kind_place kind < KIND_COUNT
kind_below kind = let is = kind_listed kind in is.0

-- the kinds of a list have places that rise by one
in_order : ℕ → List Kind → Bool
in_order from [] = true
in_order from (kind ∷ kinds) = kind_place kind == from && in_order (suc from) kinds

at_place : (from : ℕ) (kinds : List Kind) (n : ℕ) → in_order from kinds ≡ true → n < length kinds → kind_place (get_or kinds n (kind_at 0)) ≡ from + n
unfolding in_order
at_place from [] n are lt = absurd (omega arith)
at_place from (kind ∷ kinds) zero are lt =
    let parts = and_parts (kind_place kind == from) (in_order (suc from) kinds) are in
    omega (arith, eqb-true (kind_place kind) from parts.0)
at_place from (kind ∷ kinds) (suc n) are lt =
    let parts = and_parts (kind_place kind == from) (in_order (suc from) kinds) are in
    omega (arith, at_place (suc from) kinds n parts.1 (omega arith))

-- each place is that of a kind
pub kind_back_at : (n : ℕ) → n < KIND_COUNT → (kind : Kind) × (kind_place kind ≡ n)
unfolding in_order
kind_back_at n lt = (kind_at n, omega (arith, at_place 0 KINDS n refl lt))

pub each_kind : (P : Kind → Type 0) → All P KINDS → (kind : Kind) → P kind
each_kind P all kind = let is = kind_listed kind in subst P is.1 (all (kind_place kind) (kind_at 0) is.0)
