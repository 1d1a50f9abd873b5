-- Owners, marks and groups, one sighting after the other.
use Rattle.std.proofs.Common.{◌≡◌, ℕ, ◌+◌, ◌<◌, ◌≤◌, List, [], ◌∷◌, ◌++◌, Bool, length, map, take, get_or, refl, sym, ap, ◌∙◌, All, Option, Some, None}
use Rattle.std.specs.Prelude.{◌==◌}
use Rattle.std.specs.List.{filter_map, flat_map, cons_option}
use Rattle.std.proofs.lemmas.List.Concat.{flat_map-append}
use Rattle.std.proofs.lemmas.List.{append-nil, append_assoc, take_all, take_more, map_more}
use Rattle.std.proofs.lemmas.List.Elements.{All-get_or, filter_map-append}
use Rattle.std.proofs.lemmas.List.Sums.{fold-append}
use Rattle.landmark_rules.specs.declared.marks.Group.{Group}
use Rattle.mark_kinds.specs.declared.table.GroupKind.{GroupKind}
use Rattle.mark_kinds.specs.declared.table.Kinds.{Kinds}
use Rattle.landmark_rules.specs.declared.marks.Mark.{Mark}
use Rattle.landmark_rules.specs.declared.marks.Rule.{Rule}
use Rattle.xfs5.specs.declared.places.XfsInodes.{XfsInodes}
use Rattle.survey_engine.specs.Kept.{kept, kept_with}
use Rattle.survey_engine.specs.Systems.{systems_of}
use Rattle.survey_engine.proofs.Kept.{maps_more}
use Rattle.survey_engine.specs.Landmarks.{kind_of, IsSound}
use Rattle.survey_engine.specs.Owners.{group_for, groups_asked, groups_in, is_new, mark_in, owner_among, owners_of, rule_in, IsSoundOwner}
use Rattle.survey_engine.specs.Sightings.{sighted_at}
use Rattle.survey_engine.specs.declared.owner.Owner.{Owner}
use Rattle.survey_engine.specs.declared.sighting.Sighting.{Sighting}

-- an element of a list
pub sound_at : (found : List Sighting) (i : ℕ) (s : Sighting) → All (λ t. IsSound t.landmark) found → i < length found → s ≡ get_or found i s → IsSound s.landmark
sound_at found i s all below is = rw is (All-get_or (λ t. IsSound t.landmark) found i s below all)

pub owner_at : (owners : List Owner) (i : ℕ) (o : Owner) → All IsSoundOwner owners → i < length owners → o ≡ get_or owners i o → IsSoundOwner o
owner_at owners i o all below is = rw is (All-get_or IsSoundOwner owners i o below all)

-- ---- owners

-- those of the first sightings
pub owners_to : GroupKind → List XfsInodes → List Sighting → ℕ → List Owner
owners_to kind systems found n = kept (is_new kind) (filter_map (owner_among kind systems) (take n found))

pub owners_none : (kind : GroupKind) (systems : List XfsInodes) (found : List Sighting) → owners_to kind systems found 0 ≡ []
unfolding owners_to
owners_none kind systems found = refl

pub owners_some : (kind : GroupKind) (systems : List XfsInodes) (found : List Sighting) (i : ℕ) (s : Sighting) (o : Owner) → i < length found → s ≡ get_or found i s → owner_among kind systems s ≡ Some o →
    owners_to kind systems found (i + 1) ≡ kept_with (is_new kind) (owners_to kind systems found i) o
unfolding owners_to
owners_some kind systems found i s o below is at =
    ap (kept (is_new kind)) (maps_more (owner_among kind systems) found i s (Some o) below is at) ∙ fold-append (kept_with (is_new kind)) [] (filter_map (owner_among kind systems) (take i found)) (o ∷ [])

pub owners_same : (kind : GroupKind) (systems : List XfsInodes) (found : List Sighting) (i : ℕ) (s : Sighting) → i < length found → s ≡ get_or found i s → owner_among kind systems s ≡ None →
    owners_to kind systems found (i + 1) ≡ owners_to kind systems found i
unfolding owners_to
owners_same kind systems found i s below is at =
    ap (kept (is_new kind)) (maps_more (owner_among kind systems) found i s None below is at ∙ append-nil (filter_map (owner_among kind systems) (take i found)))

pub owners_all : (kind : GroupKind) (systems : List XfsInodes) (found : List Sighting) (n : ℕ) → systems ≡ systems_of found → length found ≤ n → owners_to kind systems found n ≡ owners_of kind found
unfolding owners_to owners_of
owners_all kind systems found n are all =
    ap (λ (l : List Sighting). kept (is_new kind) (filter_map (owner_among kind systems) l)) (take_all n found all)
    ∙ ap (λ (l : List XfsInodes). kept (is_new kind) (filter_map (owner_among kind l) found)) are

-- ---- marks

pub marks_to : Owner → Bool → List Sighting → ℕ → List Mark
marks_to owner alone found n = filter_map (mark_in owner alone) (take n found)

pub marks_none : (owner : Owner) (alone : Bool) (found : List Sighting) → marks_to owner alone found 0 ≡ []
unfolding marks_to
marks_none owner alone found = refl

-- the mark of a sighting by its rule
ruled : (s : Sighting) → Option Rule → Option Mark
ruled s None = None
ruled s (Some rule) = Some (record { kind = kind_of s.landmark; image = s.image; sector = s.sector; rule = rule })

mark_is : (owner : Owner) (alone : Bool) (s : Sighting) (rule : Option Rule) → rule_in owner alone (sighted_at s) s.landmark ≡ rule → mark_in owner alone s ≡ ruled s rule
unfolding ruled
mark_is owner alone s None is = rw is refl
mark_is owner alone s (Some rule) is = rw is refl

pub marks_some : (owner : Owner) (alone : Bool) (found : List Sighting) (i : ℕ) (s : Sighting) (rule : Rule) → i < length found → s ≡ get_or found i s → rule_in owner alone (sighted_at s) s.landmark ≡ Some rule →
    marks_to owner alone found (i + 1) ≡ marks_to owner alone found i ++ (record { kind = kind_of s.landmark; image = s.image; sector = s.sector; rule = rule }) ∷ []
unfolding marks_to ruled
marks_some owner alone found i s rule below is at =
    maps_more (mark_in owner alone) found i s (Some (record { kind = kind_of s.landmark; image = s.image; sector = s.sector; rule = rule })) below is (mark_is owner alone s (Some rule) at)

pub marks_same : (owner : Owner) (alone : Bool) (found : List Sighting) (i : ℕ) (s : Sighting) → i < length found → s ≡ get_or found i s → rule_in owner alone (sighted_at s) s.landmark ≡ None →
    marks_to owner alone found (i + 1) ≡ marks_to owner alone found i
unfolding marks_to ruled
marks_same owner alone found i s below is at =
    maps_more (mark_in owner alone) found i s None below is (mark_is owner alone s None at) ∙ append-nil (filter_map (mark_in owner alone) (take i found))

pub marks_all : (owner : Owner) (alone : Bool) (found : List Sighting) (n : ℕ) → length found ≤ n → marks_to owner alone found n ≡ filter_map (mark_in owner alone) found
unfolding marks_to
marks_all owner alone found n all = ap (filter_map (mark_in owner alone)) (take_all n found all)

-- ---- groups

pub groups_to : List Sighting → Bool → List Owner → List Group → ℕ → List Group
groups_to found alone owners old n = old ++ map (group_for found alone) (take n owners)

pub groups_none : (found : List Sighting) (alone : Bool) (owners : List Owner) (old : List Group) → groups_to found alone owners old 0 ≡ old
unfolding groups_to
groups_none found alone owners old = append-nil old

pub groups_more : (found : List Sighting) (alone : Bool) (owners : List Owner) (old : List Group) (i : ℕ) (o : Owner) → i < length owners → o ≡ get_or owners i o →
    groups_to found alone owners old (i + 1) ≡ groups_to found alone owners old i ++ group_for found alone o ∷ []
unfolding groups_to
groups_more found alone owners old i o below is =
    ap (λ (l : List Group). old ++ l) (map_more (group_for found alone) owners i o below)
    ∙ sym (append_assoc old (map (group_for found alone) (take i owners)) (group_for found alone (get_or owners i o) ∷ []))
    ∙ ap (λ (x : Owner). (old ++ map (group_for found alone) (take i owners)) ++ group_for found alone x ∷ []) (sym is)

pub groups_all : (found : List Sighting) (kind : GroupKind) (owners : List Owner) (alone : Bool) (old : List Group) (n : ℕ) → length owners ≤ n → owners ≡ owners_of kind found → alone ≡ (length owners == 1) →
    groups_to found alone owners old n ≡ old ++ groups_in found kind
unfolding groups_to groups_in
groups_all found kind owners alone old n all are single =
    ap (λ (l : List Owner). old ++ map (group_for found alone) l) (take_all n owners all)
    ∙ ap (λ (b : Bool). old ++ map (group_for found b) owners) single
    ∙ ap (λ (l : List Owner). old ++ map (group_for found (length l == 1)) l) are

-- ---- kinds

-- the groups of the first kinds, after others
pub kinds_to : Kinds → List Sighting → List Group → List GroupKind → ℕ → List Group
kinds_to asked found old kinds n = old ++ flat_map (groups_asked asked found) (take n kinds)

pub kinds_none : (asked : Kinds) (found : List Sighting) (old : List Group) (kinds : List GroupKind) → kinds_to asked found old kinds 0 ≡ old
unfolding kinds_to
kinds_none asked found old kinds = append-nil old

pub kinds_more : (asked : Kinds) (found : List Sighting) (old : List Group) (kinds : List GroupKind) (i : ℕ) (k : GroupKind) → i < length kinds →
    kinds_to asked found old kinds (i + 1) ≡ kinds_to asked found old kinds i ++ groups_asked asked found (get_or kinds i k)
unfolding kinds_to
kinds_more asked found old kinds i k below =
    let one : flat_map (groups_asked asked found) (take (i + 1) kinds) ≡ flat_map (groups_asked asked found) (take i kinds) ++ groups_asked asked found (get_or kinds i k) =
    ap (flat_map (groups_asked asked found)) (take_more kinds i k below) ∙ flat_map-append (groups_asked asked found) (take i kinds) (get_or kinds i k ∷ [])
    ∙ ap (λ (l : List Group). flat_map (groups_asked asked found) (take i kinds) ++ l) (append-nil (groups_asked asked found (get_or kinds i k))) in
    ap (λ (l : List Group). old ++ l) one ∙ sym (append_assoc old (flat_map (groups_asked asked found) (take i kinds)) (groups_asked asked found (get_or kinds i k)))

pub kinds_all : (asked : Kinds) (found : List Sighting) (old : List Group) (kinds : List GroupKind) (n : ℕ) → length kinds ≤ n → kinds_to asked found old kinds n ≡ old ++ flat_map (groups_asked asked found) kinds
unfolding kinds_to
kinds_all asked found old kinds n all = ap (λ (l : List GroupKind). old ++ flat_map (groups_asked asked found) l) (take_all n kinds all)
