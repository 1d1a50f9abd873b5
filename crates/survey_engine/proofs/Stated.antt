-- The file systems of XFS, one superblock after the other.
use Rattle.std.proofs.Common.{◌≡◌, ℕ, ◌+◌, ◌<◌, ◌≤◌, List, [], ◌∷◌, ◌++◌, Bool, true, false, cond, length, map, take, drop, get_or, fold, refl, sym, ap, subst, ◌∙◌, All, IfSome, IsTrue, Option, Some, None}
use Rattle.std.specs.Prelude.{nat_lt, ◌&&◌}
use Rattle.std.specs.List.{filter_map, find}
use Rattle.std.specs.Str.{bytes_eq}
use Rattle.std.proofs.lemmas.List.{append-nil, drop_all, drop_more, map_more, take_all}
use Rattle.std.proofs.lemmas.List.Elements.{All-head, All-map, All-nil, All-tail}
use Rattle.std.proofs.lemmas.List.Sums.{fold_more}
use Rattle.xfs5.specs.Places.{is_sound as is_sound_place}
use Rattle.xfs5.specs.declared.places.XfsInodes.{XfsInodes}
use Rattle.survey_engine.specs.Kept.{kept, kept_with}
use Rattle.survey_engine.specs.Landmarks.{IsSound}
use Rattle.survey_engine.specs.Systems.{deciding, is_new_system, places_in, stated, stated_by, stronger, system_with, systems_of, votes}
use Rattle.survey_engine.specs.declared.landmark.Landmark.{Landmark}
use Rattle.survey_engine.specs.declared.landmark.Landmark.TheVariants.{Super5}
use Rattle.survey_engine.specs.declared.sighting.Sighting.{Sighting}
use Rattle.survey_engine.proofs.Kept.{kept_each, mapped_each, maps_more}

-- ---- what is stated

pub stated_to : List Sighting → ℕ → List XfsInodes
stated_to found n = filter_map stated_by (take n found)

pub stated_none : (found : List Sighting) → stated_to found 0 ≡ []
unfolding stated_to
stated_none found = refl

pub stated_some : (found : List Sighting) (i : ℕ) (s : Sighting) (p : XfsInodes) → i < length found → s ≡ get_or found i s → places_in s.landmark ≡ Some p → stated_to found (i + 1) ≡ stated_to found i ++ p ∷ []
unfolding stated_to
stated_some found i s p below is at = maps_more stated_by found i s (Some p) below is at

pub stated_same : (found : List Sighting) (i : ℕ) (s : Sighting) → i < length found → s ≡ get_or found i s → places_in s.landmark ≡ None → stated_to found (i + 1) ≡ stated_to found i
unfolding stated_to
stated_same found i s below is at = maps_more stated_by found i s None below is at ∙ append-nil (filter_map stated_by (take i found))

pub stated_all : (found : List Sighting) (n : ℕ) → length found ≤ n → stated_to found n ≡ stated found
unfolding stated_to
stated_all found n all = ap (filter_map stated_by) (take_all n found all)

-- ---- what is stated first

pub firsts_to : List XfsInodes → ℕ → List XfsInodes
firsts_to all n = kept is_new_system (take n all)

pub firsts_none : (all : List XfsInodes) → firsts_to all 0 ≡ []
unfolding firsts_to
firsts_none all = refl

pub firsts_more : (all : List XfsInodes) (i : ℕ) (p : XfsInodes) → i < length all → p ≡ get_or all i p → firsts_to all (i + 1) ≡ kept_with is_new_system (firsts_to all i) p
unfolding firsts_to
firsts_more all i p below is = fold_more (kept_with is_new_system) [] all i p below ∙ ap (kept_with is_new_system (kept is_new_system (take i all))) (sym is)

pub firsts_all : (all : List XfsInodes) (n : ℕ) → length all ≤ n → firsts_to all n ≡ kept is_new_system all
unfolding firsts_to
firsts_all all n most = ap (kept is_new_system) (take_all n all most)

-- ---- what decides

pub decided_to : List XfsInodes → XfsInodes → ℕ → XfsInodes
decided_to all first n = fold (stronger all) first (take n all)

pub decided_none : (all : List XfsInodes) (first : XfsInodes) → decided_to all first 0 ≡ first
unfolding decided_to
decided_none all first = refl

pub decided_more : (all : List XfsInodes) (first : XfsInodes) (i : ℕ) (p : XfsInodes) → i < length all → p ≡ get_or all i p → decided_to all first (i + 1) ≡ stronger all (decided_to all first i) p
unfolding decided_to
decided_more all first i p below is = fold_more (stronger all) first all i p below ∙ ap (stronger all (fold (stronger all) first (take i all))) (sym is)

pub decided_next : (all : List XfsInodes) (first best p next : XfsInodes) (i : ℕ) → i < length all → p ≡ get_or all i p → best ≡ decided_to all first i → next ≡ stronger all best p → next ≡ decided_to all first (i + 1)
decided_next all first best p next i below is was so = so ∙ ap (λ (b : XfsInodes). stronger all b p) was ∙ sym (decided_more all first i p below is)

pub decided_all : (all : List XfsInodes) (first : XfsInodes) (n : ℕ) → length all ≤ n → decided_to all first n ≡ deciding all first
unfolding decided_to deciding
decided_all all first n most = ap (fold (stronger all) first) (take_all n all most)

-- ---- the file systems

pub systems_to : List XfsInodes → List XfsInodes → ℕ → List XfsInodes
systems_to all firsts n = map (deciding all) (take n firsts)

pub systems_none : (all firsts : List XfsInodes) → systems_to all firsts 0 ≡ []
unfolding systems_to
systems_none all firsts = refl

pub systems_more : (all firsts : List XfsInodes) (i : ℕ) (p : XfsInodes) → i < length firsts → p ≡ get_or firsts i p → systems_to all firsts (i + 1) ≡ systems_to all firsts i ++ deciding all p ∷ []
unfolding systems_to
systems_more all firsts i p below is = map_more (deciding all) firsts i p below ∙ ap (λ (q : XfsInodes). map (deciding all) (take i firsts) ++ deciding all q ∷ []) (sym is)

pub systems_all : (found : List Sighting) (all firsts : List XfsInodes) (n : ℕ) → length firsts ≤ n → all ≡ stated found → firsts ≡ kept is_new_system all → systems_to all firsts n ≡ systems_of found
unfolding systems_to systems_of
systems_all found all firsts n most are first =
    ap (map (deciding all)) (take_all n firsts most ∙ first) ∙ ap (λ (l : List XfsInodes). map (deciding l) (kept is_new_system l)) are

-- ---- the one with an identifier

-- the first with it from a place on
pub with_from : List XfsInodes → List ℕ → ℕ → Option XfsInodes
with_from systems uuid i = find (λ one. bytes_eq one.uuid uuid) (drop i systems)

pub with_start : (systems : List XfsInodes) (uuid : List ℕ) → system_with systems uuid ≡ with_from systems uuid 0
unfolding with_from
with_start systems uuid = refl

with_here : (systems : List XfsInodes) (uuid : List ℕ) (i : ℕ) (p : XfsInodes) → i < length systems → p ≡ get_or systems i p → with_from systems uuid i ≡ cond (bytes_eq p.uuid uuid) (Some p) (with_from systems uuid (i + 1))
unfolding with_from
with_here systems uuid i p below is =
    ap (find (λ one. bytes_eq one.uuid uuid)) (drop_more systems i p below)
    ∙ ap (λ (q : XfsInodes). find (λ one. bytes_eq one.uuid uuid) (q ∷ drop (i + 1) systems)) (sym is)

pub with_found : (systems : List XfsInodes) (uuid : List ℕ) (i : ℕ) (p : XfsInodes) → i < length systems → p ≡ get_or systems i p → system_with systems uuid ≡ with_from systems uuid i → bytes_eq p.uuid uuid ≡ true → system_with systems uuid ≡ Some p
with_found systems uuid i p below is so same = so ∙ with_here systems uuid i p below is ∙ ap (λ (b : Bool). cond b (Some p) (with_from systems uuid (i + 1))) same

pub with_passed : (systems : List XfsInodes) (uuid : List ℕ) (i : ℕ) (p : XfsInodes) → i < length systems → p ≡ get_or systems i p → system_with systems uuid ≡ with_from systems uuid i → bytes_eq p.uuid uuid ≡ false → system_with systems uuid ≡ with_from systems uuid (i + 1)
with_passed systems uuid i p below is so other = so ∙ with_here systems uuid i p below is ∙ ap (λ (b : Bool). cond b (Some p) (with_from systems uuid (i + 1))) other

pub with_none : (systems : List XfsInodes) (uuid : List ℕ) (i : ℕ) → length systems ≤ i → system_with systems uuid ≡ with_from systems uuid i → system_with systems uuid ≡ None
unfolding with_from
with_none systems uuid i all so = so ∙ ap (find (λ (one : XfsInodes). bytes_eq one.uuid uuid)) (drop_all i systems all)

-- ---- their numbers are those of superblocks

abbrev pub AreSoundPlaces : XfsInodes → Type 0
AreSoundPlaces p = IsTrue (is_sound_place p)

stated_is : (l : Landmark) → IsSound l → IfSome (places_in l) AreSoundPlaces
stated_is (Super5 x places) is = is.1
stated_is l is = tt

either : (b : Bool) (one other : XfsInodes) → AreSoundPlaces one → AreSoundPlaces other → AreSoundPlaces (cond b one other)
either true one other is or = is
either false one other is or = or

decided_is : (all xs : List XfsInodes) (first : XfsInodes) → All AreSoundPlaces xs → AreSoundPlaces first → AreSoundPlaces (fold (stronger all) first xs)
decided_is all [] first each is = is
decided_is all (p ∷ xs) first each is =
    decided_is all xs (stronger all first p) (All-tail AreSoundPlaces p xs each)
    (either (bytes_eq first.uuid p.uuid && nat_lt (votes all first) (votes all p)) p first (All-head AreSoundPlaces p xs each) is)

each_decided : (all firsts : List XfsInodes) → All AreSoundPlaces all → All AreSoundPlaces firsts → All AreSoundPlaces (map (deciding all) firsts)
unfolding deciding
each_decided all firsts each some = All-map AreSoundPlaces (deciding all) firsts (λ i d below. decided_is all all (get_or firsts i d) each (some i d below))

pub systems_sound : (found : List Sighting) → All (λ s. IsSound s.landmark) found → All AreSoundPlaces (systems_of found)
unfolding systems_of
systems_sound found sound =
    let each : All AreSoundPlaces (stated found) = mapped_each (λ s. IsSound s.landmark) AreSoundPlaces stated_by (λ s is. stated_is s.landmark is) found sound in
    each_decided (stated found) (kept is_new_system (stated found)) each (kept_each AreSoundPlaces is_new_system (stated found) [] each (All-nil AreSoundPlaces))

-- the same of a list of them
pub sound_systems : (found : List Sighting) (systems : List XfsInodes) → systems ≡ systems_of found → All (λ s. IsSound s.landmark) found → All AreSoundPlaces systems
sound_systems found systems are sound = rw are (systems_sound found sound)

found_is : (test : XfsInodes → Bool) (systems : List XfsInodes) → All AreSoundPlaces systems → IfSome (find test systems) AreSoundPlaces
found_is test [] each = tt
found_is test (p ∷ systems) each = here (test p) (All-head AreSoundPlaces p systems each) (found_is test systems (All-tail AreSoundPlaces p systems each))
  where
    here : (b : Bool) → AreSoundPlaces p → IfSome (find test systems) AreSoundPlaces → IfSome (cond b (Some p) (find test systems)) AreSoundPlaces
    here true is or = is
    here false is or = or

pub system_is : (systems : List XfsInodes) (uuid : List ℕ) → All AreSoundPlaces systems → IfSome (system_with systems uuid) AreSoundPlaces
system_is systems uuid each = found_is (λ p. bytes_eq p.uuid uuid) systems each

-- and so those of the one with an identifier
pub sound_system : (systems : List XfsInodes) (uuid : List ℕ) (p : XfsInodes) → All AreSoundPlaces systems → system_with systems uuid ≡ Some p → AreSoundPlaces p
sound_system systems uuid p each is = subst (λ (r : Option XfsInodes). IfSome r AreSoundPlaces) is (system_is systems uuid each)
