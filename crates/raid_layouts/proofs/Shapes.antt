-- What a sensible shape says of a parameter set.
use Rattle.std.proofs.Common.{◌≡◌, ℕ, zero, suc, ◌+◌, ◌≤◌, ◌<◌, List, length, cond, ap, sym, ◌∙◌, refl, arith, Option, Some, None, true, false, Bool, All, IfSome, get_or, slice_index_or, subst, take, inl, inr}
use Rattle.std.proofs.lemmas.Bool.{cases_lt, cases_Bool, eqb-true, leb-true}
use Rattle.std.proofs.lemmas.List.{get_or_default}
use Rattle.std.proofs.lemmas.Bool.Decides.{nat_tests}
use Rattle.std.specs.List.{find, range_with_len}
use Rattle.std.specs.Option.{is_none, option_map_or, option_and_then}
use Rattle.std.specs.Prelude.{IsTrue, nat_eq, nat_le, ◌&&◌, not, if◌then◌else◌}
use Rattle.raid_params.specs.Size.{redundancy}
use Rattle.raid_params.specs.Slots.{empties, stands}
use Rattle.raid_params.specs.Validity.{is_shaped, is_valid_head, has_members, has_pattern, has_syndrome, is_chunk, has_delay, shape_fault, slots_fault, first_absent, is_absent, first_repeat, is_met_again}
use Rattle.raid_params.specs.declared.types.GeoFault.{GeoFault}
use Rattle.raid_params.specs.declared.types.GeoFault.TheVariants.{Members, Pattern as BadPattern, Syndrome as BadSyndrome, Chunk, Missing}
use Rattle.raid_params.specs.declared.types.Geometry.{Geometry}
use Rattle.raid_params.specs.declared.types.Level.{Level}

-- the rules of a shape
record Rules (geo : Geometry) (images : ℕ) : Type 0 where
  members : (has_members geo.head.level (length geo.slots.items) && nat_eq geo.head.members (length geo.slots.items)) ≡ true
  pattern : has_pattern geo.head.level geo.head.pattern ≡ true
  syndrome : has_syndrome geo.head.level geo.head.syndrome ≡ true
  chunk : is_chunk geo.head.chunk ≡ true
  delay : has_delay geo.head.pattern geo.head.delay ≡ true
  slots : is_none (slots_fault geo.head.level images geo.slots.items (first_absent images geo.slots.items) (first_repeat geo.slots.items)) ≡ true

-- a rule that is kept
kept : (b : Bool) (fault : GeoFault) (rest : Option GeoFault) → is_none (if not b then Some fault else rest) ≡ true → (b ≡ true) × (is_none rest ≡ true)
kept true fault rest h = (refl, h)
kept false fault rest h = (cc)

both : (a b : Bool) → (a && b) ≡ true → (a ≡ true) × (b ≡ true)
both true b h = (refl, h)
both false b h = (cc)

and_true : (a b : Bool) → a ≡ true → b ≡ true → (a && b) ≡ true
and_true a b p q = ap (λ (x : Bool). x && b) p ∙ q

rules_of : (geo : Geometry) (images : ℕ) → is_shaped geo images ≡ true → Rules geo images
rules_of geo images h =
    let whole = both (is_none (shape_fault geo images)) (has_delay geo.head.pattern geo.head.delay) h in
    let n = length geo.slots.items in
    let last = slots_fault geo.head.level images geo.slots.items (first_absent images geo.slots.items) (first_repeat geo.slots.items) in
    let d : Option GeoFault = if not (is_chunk geo.head.chunk) then Some (Chunk geo.head.chunk) else last in
    let c : Option GeoFault = if not (has_syndrome geo.head.level geo.head.syndrome) then Some (BadSyndrome geo.head.syndrome) else d in
    let b : Option GeoFault = if not (has_pattern geo.head.level geo.head.pattern) then Some (BadPattern geo.head.pattern) else c in
    let one = kept (has_members geo.head.level n && nat_eq geo.head.members n) (Members geo.head.members) b whole.0 in
    let two = kept (has_pattern geo.head.level geo.head.pattern) (BadPattern geo.head.pattern) c one.1 in
    let three = kept (has_syndrome geo.head.level geo.head.syndrome) (BadSyndrome geo.head.syndrome) d two.1 in
    let four = kept (is_chunk geo.head.chunk) (Chunk geo.head.chunk) last three.1 in
    record { members = one.0; pattern = two.0; syndrome = three.0; chunk = four.0; delay = whole.1; slots = four.1 }

-- there are as many slots as members
pub shaped_slots : (geo : Geometry) (images : ℕ) → is_shaped geo images ≡ true → length geo.slots.items ≡ geo.head.members
shaped_slots geo images h =
    let parts = both (has_members geo.head.level (length geo.slots.items)) (nat_eq geo.head.members (length geo.slots.items)) (rules_of geo images h).members in
    sym (eqb-true geo.head.members (length geo.slots.items) parts.1)

-- its head is valid
pub shaped_head : (geo : Geometry) (images : ℕ) → is_shaped geo images ≡ true → IsTrue (is_valid_head geo.head)
shaped_head geo images h =
    let r = rules_of geo images h in
    let parts = both (has_members geo.head.level (length geo.slots.items)) (nat_eq geo.head.members (length geo.slots.items)) r.members in
    let members : has_members geo.head.level geo.head.members ≡ true = ap (λ (n : ℕ). has_members geo.head.level n) (sym (shaped_slots geo images h)) ∙ parts.0 in
    let chunk : Bool = is_chunk geo.head.chunk && has_delay geo.head.pattern geo.head.delay in
    and_true (has_members geo.head.level geo.head.members) (has_pattern geo.head.level geo.head.pattern && (has_syndrome geo.head.level geo.head.syndrome && chunk)) members
    (and_true (has_pattern geo.head.level geo.head.pattern) (has_syndrome geo.head.level geo.head.syndrome && chunk) r.pattern
    (and_true (has_syndrome geo.head.level geo.head.syndrome) chunk r.syndrome
    (and_true (is_chunk geo.head.chunk) (has_delay geo.head.pattern geo.head.delay) r.chunk r.delay)))

-- the rules on slots
record SlotRules (level : Level) (slots : List (Option ℕ)) (absent repeated : Option ℕ) : Type 0 where
  there : absent ≡ None
  once : repeated ≡ None
  few : nat_le (empties slots) (redundancy level) ≡ true

few_enough : (b : Bool) (fault : GeoFault) → is_none (if b then None else Some fault) ≡ true → b ≡ true
few_enough true fault h = refl
few_enough false fault h = (cc)

slot_rules : (level : Level) (images : ℕ) (slots : List (Option ℕ)) (absent repeated : Option ℕ) → is_none (slots_fault level images slots absent repeated) ≡ true →
    SlotRules level slots absent repeated
slot_rules level images slots (Some i) repeated h = (cc)
slot_rules level images slots None (Some i) h = (cc)
slot_rules level images slots None None h = record { there = refl; once = refl; few = few_enough (nat_le (empties slots) (redundancy level)) (Missing (empties slots)) h }

-- no more members are missing than the level survives
pub shaped_missing : (geo : Geometry) (images : ℕ) → is_shaped geo images ≡ true → empties geo.slots.items ≤ redundancy geo.head.level
shaped_missing geo images h =
    leb-true (empties geo.slots.items) (redundancy geo.head.level)
    (slot_rules geo.head.level images geo.slots.items (first_absent images geo.slots.items) (first_repeat geo.slots.items) (rules_of geo images h).slots).few

-- what a search in a range finds passes, and where it finds nothing no number passes
found_passes : (p : ℕ → Bool) (a n at : ℕ) → find p (range_with_len a n) ≡ Some at → p at ≡ true
found_passes p a zero at h = absurd (cc)
found_passes p a (suc n) at h =
    elim (cases_Bool (p a)) [
      | inl is ↦ (let e : Some a ≡ Some at = sym (ap (λ (b : Bool). cond b (Some a) (find p (range_with_len (a + 1) n))) is) ∙ h in let same : a ≡ at = cc in ap p (sym same) ∙ is)
      | inr is ↦ found_passes p (a + 1) n at (sym (ap (λ (b : Bool). cond b (Some a) (find p (range_with_len (a + 1) n))) is) ∙ h)
    ]

found_none : (p : ℕ → Bool) (a n k : ℕ) → find p (range_with_len a n) ≡ None → a ≤ k → k < a + n → p k ≡ false
found_none p a zero k h from to = absurd (omega arith)
found_none p a (suc n) k h from to =
    elim (cases_Bool (p a)) [
      | inl is ↦ absurd (let e : Some a ≡ None = sym (ap (λ (b : Bool). cond b (Some a) (find p (range_with_len (a + 1) n))) is) ∙ h in cc)
      | inr is ↦ (let rest : find p (range_with_len (a + 1) n) ≡ None = sym (ap (λ (b : Bool). cond b (Some a) (find p (range_with_len (a + 1) n))) is) ∙ h in
          elim (cases_lt a k) [
            | inl more ↦ found_none p (a + 1) n k rest (omega arith) (omega arith)
            | inr same ↦ (let e : a ≡ k = omega arith in ap p (sym e) ∙ is)
          ])
    ]

below : (i images : ℕ) → nat_le images i ≡ false → i < images
below i images h = grind (arith, nat_tests)

there : (images : ℕ) (slot : Option ℕ) → option_map_or (λ i. nat_le images i) slot false ≡ false → IfSome slot (λ i. i < images)
there images None h = tt
there images (Some i) h = below i images h

absent_some : (images : ℕ) (slot : Option ℕ) → option_map_or (λ i. nat_le images i) slot false ≡ true → slot ≡ None → ⊥
absent_some images None h e = absurd (cc)
absent_some images (Some i) h e = absurd (cc)

absent_below : (images : ℕ) (slots : List (Option ℕ)) → first_absent images slots ≡ None → All (λ slot. IfSome slot (λ i. i < images)) slots
absent_below images slots h = λ k d lt. at_place k d lt (find (is_absent images slots) (range_with_len 0 (length slots))) refl
  where
    at_place : (k : ℕ) (d : Option ℕ) → k < length slots → (r : Option ℕ) → find (is_absent images slots) (range_with_len 0 (length slots)) ≡ r → IfSome (get_or slots k d) (λ i. i < images)
    at_place k d lt None e =
        let is : is_absent images slots k ≡ false = found_none (is_absent images slots) 0 (length slots) k e (omega arith) (omega arith) in
        let P : Option ℕ → Type 0 = λ slot. IfSome slot (λ i. i < images) in
        subst P (get_or_default slots k None d lt) (there images (slice_index_or slots k None) is)
    at_place k d lt (Some at) e =
        absurd (absent_some images (slice_index_or slots at None) (found_passes (is_absent images slots) 0 (length slots) at e)
        (sym (ap (option_and_then (λ at. slice_index_or slots at None)) e) ∙ h))

-- the slots hold images below `images`
pub shaped_images : (geo : Geometry) (images : ℕ) → is_shaped geo images ≡ true → All (λ slot. IfSome slot (λ i. i < images)) geo.slots.items
shaped_images geo images h =
    absent_below images geo.slots.items
    (slot_rules geo.head.level images geo.slots.items (first_absent images geo.slots.items) (first_repeat geo.slots.items) (rules_of geo images h).slots).there

stood : (slots : List (Option ℕ)) (at i : ℕ) → slice_index_or slots at None ≡ Some i → is_met_again slots at ≡ stands i (take at slots)
stood slots at i e = ap (λ (o : Option ℕ). option_map_or (λ (j : ℕ). stands j (take at slots)) o false) e

met_some : (slots : List (Option ℕ)) (at : ℕ) (slot : Option ℕ) → option_map_or (λ i. stands i (take at slots)) slot false ≡ true → slot ≡ None → ⊥
met_some slots at None h e = absurd (cc)
met_some slots at (Some i) h e = absurd (cc)

never_again : (slots : List (Option ℕ)) → first_repeat slots ≡ None → (at : ℕ) → at < length slots → is_met_again slots at ≡ false
never_again slots h at lt = decided (find (is_met_again slots) (range_with_len 0 (length slots))) refl
  where
    decided : (r : Option ℕ) → find (is_met_again slots) (range_with_len 0 (length slots)) ≡ r → is_met_again slots at ≡ false
    decided None e = found_none (is_met_again slots) 0 (length slots) at e (omega arith) (omega arith)
    decided (Some k) e =
        absurd (met_some slots k (slice_index_or slots k None) (found_passes (is_met_again slots) 0 (length slots) k e)
        (sym (ap (option_and_then (λ at. slice_index_or slots at None)) e) ∙ h))

-- no image stands before a slot that holds it
pub shaped_once : (geo : Geometry) (images at i : ℕ) → is_shaped geo images ≡ true → at < length geo.slots.items → slice_index_or geo.slots.items at None ≡ Some i →
    stands i (take at geo.slots.items) ≡ false
shaped_once geo images at i h lt e =
    let rules = slot_rules geo.head.level images geo.slots.items (first_absent images geo.slots.items) (first_repeat geo.slots.items) (rules_of geo images h).slots in
    sym (stood geo.slots.items at i e) ∙ never_again geo.slots.items rules.once at lt
