-- Two sets are the same exactly where they are equal.
use Rattle.std.proofs.Common.{rules, ℕ, ◌≡◌, Bool, true, ◌&&◌, ◌==◌, List, [], ◌∷◌, get_or, refl, sym, ap, ap₂, ◌∙◌, Option, Some, None}
use Rattle.std.proofs.lemmas.Bool.{and_from, and_parts, eq-eqb, eqb-true}
use Rattle.raid_params.specs.declared.types.Geometry.{Geometry}
use Rattle.raid_params.specs.declared.types.Head.{Head}
use Rattle.raid_params.specs.declared.types.Level.{Level}
use Rattle.raid_params.specs.declared.types.Level.TheVariants.{Raid0, Raid5, Raid6}
use Rattle.raid_params.specs.declared.types.Pattern.{Pattern}
use Rattle.raid_params.specs.declared.types.Pattern.TheVariants.{Plain, La, Ra, Ls, Rs, ParityFirst, ParityLast, NRestart, NContinue, La6, Ra6, Ls6, Rs6, ParityFirst6}
use Rattle.raid_params.specs.declared.types.Syndrome.{Syndrome}
use Rattle.raid_params.specs.declared.types.Syndrome.TheVariants.{NoQ, AfterQ, ByData, BySlot}
use Rattle.slot_math.specs.Space.{same_place, same_slots}
use Rattle.search_plan.specs.Places.{level_place, pattern_place, syndrome_place}
use Rattle.plan_sets.specs.Sets.{is_same_head, is_same_set}

-- what stands at a place of its kind
level_at : ℕ → Level
level_at n = get_or (Raid0 ∷ Raid5 ∷ Raid6 ∷ []) n Raid0

level_back : (level : Level) → level_at (level_place level) ≡ level
unfolding level_at
level_back Raid0 = refl
level_back Raid5 = refl
level_back Raid6 = refl

pattern_at : ℕ → Pattern
pattern_at n = get_or (Plain ∷ La ∷ Ra ∷ Ls ∷ Rs ∷ ParityFirst ∷ ParityLast ∷ NRestart ∷ NContinue ∷ La6 ∷ Ra6 ∷ Ls6 ∷ Rs6 ∷ ParityFirst6 ∷ []) n Plain

pattern_back : (pattern : Pattern) → pattern_at (pattern_place pattern) ≡ pattern
unfolding pattern_at
pattern_back Plain = refl
pattern_back La = refl
pattern_back Ra = refl
pattern_back Ls = refl
pattern_back Rs = refl
pattern_back ParityFirst = refl
pattern_back ParityLast = refl
pattern_back NRestart = refl
pattern_back NContinue = refl
pattern_back La6 = refl
pattern_back Ra6 = refl
pattern_back Ls6 = refl
pattern_back Rs6 = refl
pattern_back ParityFirst6 = refl

syndrome_at : ℕ → Syndrome
syndrome_at n = get_or (NoQ ∷ AfterQ ∷ ByData ∷ BySlot ∷ []) n NoQ

syndrome_back : (syndrome : Syndrome) → syndrome_at (syndrome_place syndrome) ≡ syndrome
unfolding syndrome_at
syndrome_back NoQ = refl
syndrome_back AfterQ = refl
syndrome_back ByData = refl
syndrome_back BySlot = refl

pub same_level : (a b : Level) → level_place a ≡ level_place b → a ≡ b
same_level a b e = sym (level_back a) ∙ ap level_at e ∙ level_back b

pub same_pattern : (a b : Pattern) → pattern_place a ≡ pattern_place b → a ≡ b
same_pattern a b e = sym (pattern_back a) ∙ ap pattern_at e ∙ pattern_back b

pub same_syndrome : (a b : Syndrome) → syndrome_place a ≡ syndrome_place b → a ≡ b
same_syndrome a b e = sym (syndrome_back a) ∙ ap syndrome_at e ∙ syndrome_back b

same_lists : (a b : List (Option ℕ)) → same_slots a b ≡ true → a ≡ b
unfolding same_slots same_place
same_lists [] [] h = refl
same_lists [] (q ∷ b) h = absurd (search rules)
same_lists (p ∷ a) [] h = absurd (search rules)
same_lists (None ∷ a) (None ∷ b) h = ap (λ (t : List (Option ℕ)). None ∷ t) (same_lists a b h)
same_lists (None ∷ a) (Some k ∷ b) h = absurd (search rules)
same_lists (Some i ∷ a) (None ∷ b) h = absurd (search rules)
same_lists (Some i ∷ a) (Some k ∷ b) h =
    let parts = and_parts (k == i) (same_slots a b) h in
    ap₂ (λ (x : ℕ) (t : List (Option ℕ)). Some x ∷ t) (sym (eqb-true k i parts.0)) (same_lists a b parts.1)

lists_same : (a : List (Option ℕ)) → same_slots a a ≡ true
unfolding same_slots same_place
lists_same [] = refl
lists_same (None ∷ a) = lists_same a
lists_same (Some i ∷ a) = ap₂ (λ (x y : Bool). x && y) (eq-eqb i i refl) (lists_same a)

same_heads : (a b : Head) → is_same_head a b ≡ true → a ≡ b
same_heads a b h =
    let one = level_place a.level == level_place b.level in
    let two = a.members == b.members in
    let three = pattern_place a.pattern == pattern_place b.pattern in
    let delays = a.delay == b.delay in
    let four = syndrome_place a.syndrome == syndrome_place b.syndrome in
    let five = a.chunk == b.chunk in
    let six = a.offset == b.offset in
    let parts = and_parts (one && two) (((three && delays) && four) && (five && six)) h in
    let first = and_parts one two parts.0 in
    let rest = and_parts ((three && delays) && four) (five && six) parts.1 in
    let second = and_parts (three && delays) four rest.0 in
    let rotation = and_parts three delays second.0 in
    let third = and_parts five six rest.1 in
    joined_head a b (same_level a.level b.level (eqb-true (level_place a.level) (level_place b.level) first.0)) (eqb-true a.members b.members first.1)
    (same_pattern a.pattern b.pattern (eqb-true (pattern_place a.pattern) (pattern_place b.pattern) rotation.0)) (eqb-true a.delay b.delay rotation.1)
    (same_syndrome a.syndrome b.syndrome (eqb-true (syndrome_place a.syndrome) (syndrome_place b.syndrome) second.1))
    (eqb-true a.chunk b.chunk third.0) (eqb-true a.offset b.offset third.1)
  where
    joined_head : (x y : Head) → x.level ≡ y.level → x.members ≡ y.members → x.pattern ≡ y.pattern → x.delay ≡ y.delay → x.syndrome ≡ y.syndrome → x.chunk ≡ y.chunk → x.offset ≡ y.offset → x ≡ y
    joined_head x y e1 e2 e3 ed e4 e5 e6 =
        ap₂ (λ (l : Level) (m : ℕ). let h : Head = record { level = l; members = m; pattern = x.pattern; delay = x.delay; syndrome = x.syndrome; chunk = x.chunk; offset = x.offset } in h) e1 e2
        ∙ ap₂ (λ (p : Pattern) (d : ℕ). let h : Head = record { level = y.level; members = y.members; pattern = p; delay = d; syndrome = x.syndrome; chunk = x.chunk; offset = x.offset } in h) e3 ed
        ∙ ap (λ (s : Syndrome). let h : Head = record { level = y.level; members = y.members; pattern = y.pattern; delay = y.delay; syndrome = s; chunk = x.chunk; offset = x.offset } in h) e4
        ∙ ap₂ (λ (c o : ℕ). let h : Head = record { level = y.level; members = y.members; pattern = y.pattern; delay = y.delay; syndrome = y.syndrome; chunk = c; offset = o } in h) e5 e6

heads_same : (a : Head) → is_same_head a a ≡ true
heads_same a =
    let level = level_place a.level == level_place a.level in
    let members = a.members == a.members in
    let pattern = pattern_place a.pattern == pattern_place a.pattern in
    let delay = a.delay == a.delay in
    let syndrome = syndrome_place a.syndrome == syndrome_place a.syndrome in
    let chunk = a.chunk == a.chunk in
    let offset = a.offset == a.offset in
    and_from (level && members) (((pattern && delay) && syndrome) && (chunk && offset))
    (and_from level members (eq-eqb (level_place a.level) (level_place a.level) refl) (eq-eqb a.members a.members refl))
    (and_from ((pattern && delay) && syndrome) (chunk && offset)
    (and_from (pattern && delay) syndrome
    (and_from pattern delay (eq-eqb (pattern_place a.pattern) (pattern_place a.pattern) refl) (eq-eqb a.delay a.delay refl))
    (eq-eqb (syndrome_place a.syndrome) (syndrome_place a.syndrome) refl))
    (and_from chunk offset (eq-eqb a.chunk a.chunk refl) (eq-eqb a.offset a.offset refl)))

pub same_sets : (a b : Geometry) → is_same_set a b ≡ true → a ≡ b
same_sets a b h =
    let parts = and_parts (is_same_head a.head b.head) (same_slots a.slots.items b.slots.items) h in
    ap₂ (λ (head : Head) (items : List (Option ℕ)). let g : Geometry = record { head = head; slots = record { items = items } } in g) (same_heads a.head b.head parts.0) (same_lists a.slots.items b.slots.items parts.1)

sets_same : (a : Geometry) → is_same_set a a ≡ true
sets_same a = and_from (is_same_head a.head a.head) (same_slots a.slots.items a.slots.items) (heads_same a.head) (lists_same a.slots.items)

pub equal_sets : (a b : Geometry) → a ≡ b → is_same_set a b ≡ true
equal_sets a b e = sym (ap (is_same_set a) e) ∙ sets_same a
