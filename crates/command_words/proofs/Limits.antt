-- The values of a command are within the limits of its operands.
use Rattle.std.proofs.Common.{◌≡◌, ℕ, zero, suc, ◌+◌, ◌-◌, ◌*◌, ◌≤◌, ◌<◌, ◌^◌, ◌⊎◌, inl, inr, Bool, true, false, IsTrue, ◌&&◌, nat_le, nat_lt, nat_eq, cond, List, [], ◌∷◌, length, map, get_or, None, Some, Option, IfSome, unwrap_or, refl, sym, ap, ◌∙◌, subst, arith, All, lit<, lit≤}
use Rattle.std.specs.List.{list_all}
use Rattle.std.specs.List.Sorted.{IsStrictlyIncreasing}
use Rattle.std.proofs.lemmas.Bool.{and_parts, eqb-true, leb-true}
use Rattle.std.proofs.lemmas.Bool.Decides.{nat_tests}
use Rattle.std.proofs.lemmas.List.{length-map}
use Rattle.std.proofs.lemmas.List.Elements.{All-cons, All-nil}
use Rattle.arrayvec.specs.ArrayVec.{ArrayVec}
use Rattle.raid_params.specs.Validity.{is_chunk}
use Rattle.raid_params.specs.declared.limits.TheConstants.{LONGEST_DELAY, MOST, MOST_DELAYS, MOST_MISSING}
use Rattle.raid_params.specs.declared.wide.Wide.{Wide}
use Rattle.near_mirror.specs.Heads.{are_copies}
use Rattle.near_mirror.specs.Words.{HasNearWord}
use Rattle.near_mirror.specs.declared.types.CopyLayout.{CopyLayout}
use Rattle.near_mirror.specs.declared.types.NearSet.{NearSet}
use Rattle.value_text.specs.Bounded.{AreMembers, ArePlaces}
use Rattle.value_text.specs.SetText.{HasWord}
use Rattle.raid_params.specs.Places.{level_place, pattern_place, syndrome_place, AreRising}
use Rattle.landmark_rules.specs.Tests.{AreTests}
use Rattle.search_scope.specs.Scopes.{AreBounds}
use Rattle.command_words.specs.Commands.{AreAsked, AreRelations, IsCommandLine, IsWithin, SaysAlone, bounds_of, can_move, chunks_or, command_of, delays_or, drops_or, each_or, kinds_or, large_or, layouts_or, levels_or, members_or, mirror_in, mirrors_of, number_in, number_or, offsets_or, patterns_or, places_or, plain_survey, relations_of, sectors_or, set_in, survey_of, syndromes_or, tests_of, unit_of}
use Rattle.mark_kinds.proofs.Places.{among_some}
use Rattle.mark_kinds.specs.Table.{group_place, some_asked}
use Rattle.command_words.specs.Operands.{AreDrops, AreFitting, AreLayouts, IsFitting, IsValueOf, kind_of, layout_place, value_of}
use Rattle.command_words.specs.declared.command.Command.{Command}
use Rattle.command_words.specs.declared.command.Command.TheVariants.{Help, Version}
use Rattle.command_words.specs.declared.command.Verb.{Verb}
use Rattle.command_words.specs.declared.command.Verb.TheVariants.{Survey, List as ListVerb, Check, Map, Write, Rebuild, Sample, Classes, Mirrors, MirrorWrite, Salvage, Relations}
use Rattle.command_words.specs.declared.operands.Operand.{Operand}
use Rattle.command_words.specs.declared.table.Name.{Name}
use Rattle.command_words.specs.declared.table.Name.TheVariants.{Levels as LevelsName, Members as MembersName, Patterns as PatternsName, Delays as DelaysName, Syndromes as SyndromesName, Chunks as ChunksName, Offsets as OffsetsName, Origins as OriginsName, Missing as MissingName, Foreign as ForeignName, Badrows as BadrowsName, Misfits as MisfitsName, Least as LeastName, Window as WindowName, End as EndName, Kinds as KindsName, Dropped as DropName, Size as SizeName, Span as SpanName, Pages as PagesName, Set as SetName, Slot as SlotName, Rows as RowsName, Images as ImagesName, Mode as ModeName, Logical as LogicalName, From as FromName, Step as StepName, Layouts as LayoutsName}
use Rattle.command_words.specs.declared.table.ValueKind.TheVariants.{Number as NumberKind, Levels as LevelsKind, Members as MembersKind, Patterns as PatternsKind, Delays as DelaysKind, Syndromes as SyndromesKind, Chunks as ChunksKind, Sectors as SectorsKind, Places as PlacesKind, Landmarks as LandmarksKind, Drops as DropsKind, Set as SetKind, Mirror as MirrorKind, Layouts as LayoutsKind}
use Rattle.command_words.specs.declared.table.ValueKind.{ValueKind}
use Rattle.command_words.specs.declared.values.Value.{Value}
use Rattle.command_words.proofs.LookUps.{fitting_value, number_below, number_within, operands_fit}
use Rattle.command_words.proofs.Said.{moves, made_check, made_list, made_map, made_classes, made_mirror_write, made_mirrors, made_rebuild, made_relations, made_salvage, made_sample, made_survey, made_write}

-- numbers that rise, tested
rises : List ℕ → Bool
rises [] = true
rises (n ∷ []) = true
rises (n ∷ m ∷ ns) = nat_lt n m && rises (m ∷ ns)

first_below : (n m : ℕ) → nat_lt n m ≡ true → n < m
first_below n m is = grind (arith, nat_tests)

rising_if : (ns : List ℕ) → rises ns ≡ true → IsStrictlyIncreasing ns
unfolding rises
rising_if [] is k lt = absurd (omega arith)
rising_if (n ∷ []) is k lt = absurd (omega arith)
rising_if (n ∷ m ∷ ns) is zero lt = first_below n m (and_parts (nat_lt n m) (rises (m ∷ ns)) is).0
rising_if (n ∷ m ∷ ns) is (suc k) lt =
    let next : suc (k + 1) ≡ suc k + 1 = omega arith in
    let P : ℕ → Type 0 = λ j. get_or (m ∷ ns) k 0 < get_or (n ∷ m ∷ ns) j 0 in
    subst P next (rising_if (m ∷ ns) (and_parts (nat_lt n m) (rises (m ∷ ns)) is).1 k (omega arith))

are_rising : (ns : List ℕ) → 1 ≤ length ns → rises ns ≡ true → AreRising ns
are_rising ns some is = record { some = some; rising = rising_if ns is }

all_if : {A : Type 0} (P : A → Type 0) (test : A → Bool) → ((x : A) → test x ≡ true → P x) → (xs : List A) → list_all test xs ≡ true → All P xs
all_if P test holds [] is = All-nil P
all_if P test holds (x ∷ xs) is =
    let parts = and_parts (test x) (list_all test xs) is in
    All-cons P x xs (holds x parts.0) (all_if P test holds xs parts.1)

-- what is found of a kind
abbrev Fits : Option Value → ValueKind → Type 0
Fits r kind = (v : Value) → r ≡ Some v → IsValueOf v kind

levels_rise : (r : Option Value) → Fits r LevelsKind → AreRising (map level_place (levels_or r).items)
unfolding rises
levels_rise None fits = are_rising (map level_place (levels_or None).items) (lit≤ tt) refl
levels_rise (Some v) fits = let is = fits v refl in subst (λ w. AreRising (map level_place (levels_or (Some w)).items)) (sym is.1) is.2.rising

patterns_rise : (r : Option Value) → Fits r PatternsKind → AreRising (map pattern_place (patterns_or r).items)
unfolding rises
patterns_rise None fits = are_rising (map pattern_place (patterns_or None).items) (lit≤ tt) refl
patterns_rise (Some v) fits = let is = fits v refl in subst (λ w. AreRising (map pattern_place (patterns_or (Some w)).items)) (sym is.1) is.2.rising

abbrev AreDelayed : List ℕ → Type 0
AreDelayed ns = AreRising ns × (length ns ≤ MOST_DELAYS) × All (λ n. (1 ≤ n) × (n ≤ LONGEST_DELAY)) ns

abbrev IsDelay : ℕ → Type 0
IsDelay n = (1 ≤ n) × (n ≤ LONGEST_DELAY)

delays_are : (r : Option Value) → Fits r DelaysKind → AreDelayed (delays_or r).items
unfolding rises
delays_are None fits = (are_rising (delays_or None).items (lit≤ tt) refl, lit≤ tt, All-cons IsDelay 1 [] (lit≤ tt, lit≤ tt) (All-nil IsDelay))
delays_are (Some v) fits = let is = fits v refl in subst (λ w. AreDelayed (delays_or (Some w)).items) (sym is.1) is.2

syndromes_rise : (r : Option Value) → Fits r SyndromesKind → AreRising (map syndrome_place (syndromes_or r).items)
unfolding rises
syndromes_rise None fits = are_rising (map syndrome_place (syndromes_or None).items) (lit≤ tt) refl
syndromes_rise (Some v) fits = let is = fits v refl in subst (λ w. AreRising (map syndrome_place (syndromes_or (Some w)).items)) (sym is.1) is.2.rising

abbrev AreSizes : List ℕ → Type 0
AreSizes ns = AreRising ns × All (λ n. IsTrue (is_chunk n)) ns

abbrev IsPower : ℕ → Type 0
IsPower n = IsTrue (is_chunk n)

chunks_are : (r : Option Value) → Fits r ChunksKind → AreSizes (chunks_or r).items
unfolding rises is_chunk
chunks_are None fits = (are_rising (chunks_or None).items (lit≤ tt) refl, all_if IsPower is_chunk (λ n is. is) (chunks_or None).items refl)
chunks_are (Some v) fits = let is = fits v refl in subst (λ w. AreSizes (chunks_or (Some w)).items) (sym is.1) is.2

abbrev AreTried : List ℕ → Type 0
AreTried ns = AreRising ns × (length ns ≤ 64) × All (λ n. n < 2 ^ 55) ns

abbrev IsNear : ℕ → Type 0
IsNear n = n < 2 ^ 55

sectors_are : (others : List ℕ) (r : Option Value) → AreTried others → Fits r SectorsKind → AreTried (sectors_or others r).items
sectors_are others None are fits = are
sectors_are others (Some v) are fits = let is = fits v refl in subst (λ w. AreTried (sectors_or others (Some w)).items) (sym is.1) is.2

near_if : (n : ℕ) → nat_lt n 4194304 ≡ true → IsNear n
near_if n is = let below = first_below n 4194304 is in omega arith

offsets_are : AreTried (0 ∷ 2048 ∷ 262144 ∷ 264192 ∷ [])
unfolding rises
offsets_are = (are_rising (0 ∷ 2048 ∷ 262144 ∷ 264192 ∷ []) (lit≤ tt) refl, (lit≤ tt), all_if IsNear (λ n. nat_lt n 4194304) near_if (0 ∷ 2048 ∷ 262144 ∷ 264192 ∷ []) refl)

origins_are : AreTried (0 ∷ 2048 ∷ [])
unfolding rises
origins_are = (are_rising (0 ∷ 2048 ∷ []) (lit≤ tt) refl, (lit≤ tt), all_if IsNear (λ n. nat_lt n 4194304) near_if (0 ∷ 2048 ∷ []) refl)

members_are : (r : Option Value) → Fits r MembersKind → ((members_or r).items ≡ []) ⊎ AreMembers (members_or r).items
members_are None fits = inl refl
members_are (Some v) fits = let is = fits v refl in subst (λ w. ((members_or (Some w)).items ≡ []) ⊎ AreMembers (members_or (Some w)).items) (sym is.1) (inr is.2)

places_are : (r : Option Value) → Fits r PlacesKind → ((places_or r).items ≡ []) ⊎ ArePlaces (places_or r).items
places_are None fits = inl refl
places_are (Some v) fits = let is = fits v refl in subst (λ w. ((places_or (Some w)).items ≡ []) ⊎ ArePlaces (places_or (Some w)).items) (sym is.1) (inr is.2)

drops_are : (r : Option Value) → Fits r DropsKind → ((drops_or r).items ≡ []) ⊎ AreDrops (drops_or r).items
drops_are None fits = inl refl
drops_are (Some v) fits = let is = fits v refl in subst (λ w. ((drops_or (Some w)).items ≡ []) ⊎ AreDrops (drops_or (Some w)).items) (sym is.1) (inr is.2)

-- some landmark is looked for
abbrev AreSought : Option Value → Type 0
AreSought r = IsTrue (some_asked (kinds_or r))

kinds_are : (r : Option Value) → Fits r LandmarksKind → AreSought r
kinds_are None fits = refl
kinds_are (Some v) fits =
    let is = fits v refl in
    let some : 1 ≤ length is.0.items = omega (arith, is.2.rising.some, length-map is.0.items group_place) in
    subst (λ w. AreSought (Some w)) (sym is.1) (among_some is.0.items some)

-- a number that was given, or its default
or_within : (r : Option ℕ) (other : ℕ) (P : ℕ → Type 0) → IfSome r P → P other → P (unwrap_or r other)
or_within None other P is be = be
or_within (Some n) other P is be = is

abbrev LiesIn : ℕ → ℕ → ℕ → Type 0
LiesIn low high n = (low ≤ n) × (n ≤ high)

number_or_within : (verb : Verb) (name : Name) (os : List Operand) (low high other : ℕ) → kind_of verb name ≡ NumberKind low high → AreFitting verb os → LiesIn low high other → LiesIn low high (number_or other (value_of name os))
number_or_within verb name os low high other kind fit be = or_within (number_in (value_of name os)) other (LiesIn low high) (number_within verb name os low high kind fit) be

fits_of : (verb : Verb) (os : List Operand) → AreFitting verb os → (name : Name) → Fits (value_of name os) (kind_of verb name)
fits_of verb os fit name v e = fitting_value verb name os v fit e

bounds_are : (os : List Operand) → AreFitting Survey os → (members : ArrayVec ℕ) → AreMembers members.items → AreBounds (record (bounds_of os) { members = members })
bounds_are os fit members are =
    let delays = delays_are (value_of DelaysName os) (fits_of Survey os fit DelaysName) in
    let chunks = chunks_are (value_of ChunksName os) (fits_of Survey os fit ChunksName) in
    let offsets = sectors_are (0 ∷ 2048 ∷ 262144 ∷ 264192 ∷ []) (value_of OffsetsName os) offsets_are (fits_of Survey os fit OffsetsName) in
    record {
      levels = levels_rise (value_of LevelsName os) (fits_of Survey os fit LevelsName);
      members = are.0;
      few_members = are.1;
      patterns = patterns_rise (value_of PatternsName os) (fits_of Survey os fit PatternsName);
      delays = delays.0;
      few_delays = delays.1;
      short_delays = delays.2;
      syndromes = syndromes_rise (value_of SyndromesName os) (fits_of Survey os fit SyndromesName);
      chunks = chunks.0;
      powers = chunks.1;
      offsets = offsets.0;
      few_offsets = offsets.1;
      near_offsets = offsets.2;
      missing = (number_or_within Survey MissingName os 0 MOST_MISSING 0 refl fit ((lit≤ tt), (lit≤ tt))).1;
      foreign = (number_or_within Survey ForeignName os 0 MOST 0 refl fit ((lit≤ tt), (lit≤ tt))).1;
    }

-- a number below 2^55
below_end : (verb : Verb) (name : Name) (os : List Operand) (low other : ℕ) → kind_of verb name ≡ NumberKind low (2 ^ 55 - 1) → AreFitting verb os → low ≤ other → other < 2 ^ 55 → number_or other (value_of name os) < 2 ^ 55
below_end verb name os low other kind fit least most =
    let is = (number_or_within verb name os low (2 ^ 55 - 1) other kind fit (least, (omega arith))).1 in omega arith

tests_are : (os : List Operand) → AreFitting Survey os → AreTests (tests_of os)
tests_are os fit =
    let origins = sectors_are (0 ∷ 2048 ∷ []) (value_of OriginsName os) origins_are (fits_of Survey os fit OriginsName) in
    record {
      origins = origins.0;
      few_origins = origins.1;
      near_origins = origins.2;
      misfits = below_end Survey MisfitsName os 0 0 refl fit (lit≤ tt) (lit< tt);
      least = below_end Survey LeastName os 0 1 refl fit (lit≤ tt) (lit< tt);
    }

window_is : (r : Option ℕ) → IfSome r (LiesIn 1 (2 ^ 55 - 1)) → IfSome r (λ n. (1 ≤ n) × (n < 2 ^ 55))
window_is None is = tt
window_is (Some n) is = let top = is.1 in (is.0, (omega arith))

end_is : (verb : Verb) (os : List Operand) → AreFitting verb os → IfSome (number_in (value_of EndName os)) (λ n. n < 2 ^ 55)
end_is verb os fit = number_below verb EndName os 0 (2 ^ 55 - 1) (2 ^ 55) refl (lit< tt) fit

unit_is : (large : Bool) → (unit_of large ≡ 1) ⊎ (unit_of large ≡ 8)
unit_is true = inr refl
unit_is false = inl refl

-- where images have offsets of their own they can have them
own_are : (mode foreign offsets : Option Value) → can_move mode foreign offsets ≡ true → each_or mode ≡ true → (number_or 0 foreign ≡ 0) × All (λ n. n < 2 ^ 54) (offsets_or offsets).items
own_are mode foreign offsets moves each =
    let own = nat_eq (number_or 0 foreign) 0 in
    let near = list_all (λ n. nat_lt n (2 ^ 54)) (offsets_or offsets).items in
    let both : (own && near) ≡ true = ap (λ (b : Bool). cond b (own && near) true) (sym each) ∙ moves in
    let parts = and_parts own near both in
    (eqb-true (number_or 0 foreign) 0 parts.0, all_if (λ n. n < 2 ^ 54) (λ n. nat_lt n (2 ^ 54)) (λ n is. first_below n (2 ^ 54) is) (offsets_or offsets).items parts.1)

asked_are : (os : List Operand) (n : ℕ) → AreFitting Survey os → moves os ≡ true → AreAsked (survey_of os n)
asked_are os n fit going = record {
  bounds = bounds_are os fit;
  members = members_are (value_of MembersName os) (fits_of Survey os fit MembersName);
  end = end_is Survey os fit;
  badrows = below_end Survey BadrowsName os 0 0 refl fit (lit≤ tt) (lit< tt);
  window = window_is (number_in (value_of WindowName os)) (number_within Survey WindowName os 1 (2 ^ 55 - 1) refl fit);
  tests = tests_are os fit;
  kinds = kinds_are (value_of KindsName os) (fits_of Survey os fit KindsName);
  drops = drops_are (value_of DropName os) (fits_of Survey os fit DropName);
  each = own_are (value_of ModeName os) (value_of ForeignName os) (value_of OffsetsName os) going;
  unit = unit_is (large_or (value_of LogicalName os));
}

set_fits : (r : Option Value) (set : Wide) → Fits r SetKind → set_in r ≡ Some set → HasWord set
set_fits None set fits e = cc
set_fits (Some v) set fits e =
    let is = fits v refl in
    let both : Some is.0 ≡ Some set = sym (ap (λ w. set_in (Some w)) is.1) ∙ e in
    let same : is.0 ≡ set = cc in
    subst HasWord same is.2

set_is : (verb : Verb) (os : List Operand) (set : Wide) → kind_of verb SetName ≡ SetKind → AreFitting verb os → set_in (value_of SetName os) ≡ Some set → HasWord set
set_is verb os set kind fit e = set_fits (value_of SetName os) set (subst (λ k. Fits (value_of SetName os) k) kind (fits_of verb os fit SetName)) e

mirror_fits : (r : Option Value) (set : NearSet) → Fits r MirrorKind → mirror_in r ≡ Some set → HasNearWord set
mirror_fits None set fits e = cc
mirror_fits (Some v) set fits e =
    let is = fits v refl in
    let both : Some is.0 ≡ Some set = sym (ap (λ w. mirror_in (Some w)) is.1) ∙ e in
    let same : is.0 ≡ set = cc in
    subst HasNearWord same is.2

number_is : (verb : Verb) (name : Name) (os : List Operand) (low high n : ℕ) → kind_of verb name ≡ NumberKind low high → AreFitting verb os → number_in (value_of name os) ≡ Some n → LiesIn low high n
number_is verb name os low high n kind fit e = subst (λ r. IfSome r (LiesIn low high)) e (number_within verb name os low high kind fit)

layouts_are : (r : Option Value) → Fits r LayoutsKind → AreLayouts (layouts_or r).items
unfolding rises
layouts_are None fits =
    let Has : CopyLayout → Type 0 = λ layout. IsTrue (are_copies layout.copies) in
    record {
      list = record { rising = are_rising (map layout_place (layouts_or None).items) (lit≤ tt) refl; few = lit≤ tt };
      all = all_if Has (λ layout. are_copies layout.copies) (λ layout is. is) (layouts_or None).items refl;
    }
layouts_are (Some v) fits = let is = fits v refl in subst (λ w. AreLayouts (layouts_or (Some w)).items) (sym is.1) is.2

-- what mirrors are asked for
mirrors_are : (os : List Operand) (n : ℕ) → AreFitting Mirrors os → IsWithin (mirrors_of os n)
mirrors_are os n fit = record {
  layouts = layouts_are (value_of LayoutsName os) (fits_of Mirrors os fit LayoutsName);
  members = members_are (value_of MembersName os) (fits_of Mirrors os fit MembersName);
  chunks = chunks_are (value_of ChunksName os) (fits_of Mirrors os fit ChunksName);
  offsets = sectors_are (0 ∷ 2048 ∷ 262144 ∷ 264192 ∷ []) (value_of OffsetsName os) offsets_are (fits_of Mirrors os fit OffsetsName);
  missing = (number_or_within Mirrors MissingName os 0 (MOST - 1) 0 refl fit ((lit≤ tt), (lit≤ tt))).1;
  foreign = (number_or_within Mirrors ForeignName os 0 MOST 0 refl fit ((lit≤ tt), (lit≤ tt))).1;
  badrows = below_end Mirrors BadrowsName os 0 0 refl fit (lit≤ tt) (lit< tt);
  window = window_is (number_in (value_of WindowName os)) (number_within Mirrors WindowName os 1 (2 ^ 55 - 1) refl fit);
  end = end_is Mirrors os fit;
  size = number_or_within Mirrors SizeName os 1 1000000 100 refl fit ((lit≤ tt), (lit≤ tt));
  span = (number_or_within Mirrors SpanName os 1 (2 ^ 64 - 1) (2 ^ 64 - 1) refl fit ((lit≤ tt), (lit≤ tt))).0;
}

-- what relations are asked for
relations_are : (os : List Operand) (n : ℕ) → AreFitting Relations os → AreRelations (relations_of os n)
relations_are os n fit = record {
  from = below_end Relations FromName os 0 0 refl fit (lit≤ tt) (lit< tt);
  end = end_is Relations os fit;
  step = window_is (number_in (value_of StepName os)) (number_within Relations StepName os 1 (2 ^ 55 - 1) refl fit);
  offsets = places_are (value_of OffsetsName os) (fits_of Relations os fit OffsetsName);
}

lines_are : (m n : ℕ) → nat_le (m * n) 4000000 ≡ true → m * n ≤ 4000000
lines_are m n is = leb-true (m * n) 4000000 is

-- so it is with no operand
none_fit : AreFitting Survey []
none_fit = All-nil (IsFitting Survey)

pub plain_asked : AreAsked plain_survey
unfolding plain_survey
plain_asked = asked_are [] 2 none_fit refl

within : (verb : Verb) (os : List Operand) (n : ℕ) (command : Command) → AreFitting verb os → command_of verb os n ≡ Some command → IsWithin command
within Survey os n command fit e = made_survey os n command IsWithin e (asked_are os n fit)
within ListVerb os n command fit e = made_list os n command IsWithin e (λ short.
    let size = number_or_within ListVerb SizeName os 1 1000000 100 refl fit ((lit≤ tt), (lit≤ tt)) in
    let span = number_or_within ListVerb SpanName os 1 (2 ^ 64 - 1) (2 ^ 64 - 1) refl fit ((lit≤ tt), (lit≤ tt)) in
    let pages = number_or_within ListVerb PagesName os 1 1000000 1 refl fit ((lit≤ tt), (lit≤ tt)) in
    (size.0, size.1, span.0, pages.0, pages.1, lines_are (number_or 100 (value_of SizeName os)) (number_or 1 (value_of PagesName os)) short))
within Check os n command fit e = made_check os n command IsWithin e (λ set is. set_is Check os set refl fit is)
within Map os n command fit e = made_map os n command IsWithin e (λ set sector is had. (set_is Map os set refl fit is, end_is Map os fit))
within Write os n command fit e = made_write os n command IsWithin e (λ set is. (set_is Write os set refl fit is, end_is Write os fit))
within Rebuild os n command fit e = made_rebuild os n command IsWithin e (λ set slot is had.
    let lies = (number_is Rebuild SlotName os 0 (MOST - 1) slot refl fit had).1 in
    (set_is Rebuild os set refl fit is, (omega arith), end_is Rebuild os fit))
within Sample os n command fit e = made_sample os n command IsWithin e (λ number set rows is had.
    let lies = number_is Sample RowsName os 1 65536 rows refl fit had in
    (set_is Sample os set refl fit is, lies.0, lies.1))
within Classes os n command fit e = made_classes os n command IsWithin e (λ images end is had.
    let few = number_is Classes ImagesName os 1 MOST images refl fit is in
    let near = number_is Classes EndName os 0 (2 ^ 55 - 1) end refl fit had in
    (few.0, few.1, (omega arith)))
within Mirrors os n command fit e = made_mirrors os n command IsWithin e (mirrors_are os n fit)
within MirrorWrite os n command fit e = made_mirror_write os n command IsWithin e (λ set is. (mirror_fits (value_of SetName os) set (fits_of MirrorWrite os fit SetName) is, end_is MirrorWrite os fit))
within Salvage os n command fit e = made_salvage os n command IsWithin e (λ set is. (set_is Salvage os set refl fit is, end_is Salvage os fit))
within Relations os n command fit e = made_relations os n command IsWithin e (relations_are os n fit)

-- what a word asks for alone has no values
alone_within : (word : List ℕ) (command : Command) → SaysAlone word command → IsWithin command
alone_within word Help e = tt
alone_within word Version e = tt
alone_within word _ e = absurd e

pub line_within : (words : List (List ℕ)) (command : Command) → IsCommandLine words command → IsWithin command
line_within words command line = elim line [
  | inl has ↦ within has.verb has.operands (length has.operands + 2) command (operands_fit has.verb has.operands has.are.each) has.says
  | inr alone ↦ alone_within alone.0 command alone.2
]
