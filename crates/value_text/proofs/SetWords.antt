-- The parts of a set word that were read are those of the set.
use Rattle.std.proofs.Common.{◌≡◌, ◌<◌, ◌^◌, ℕ, true, IsTrue, List, ◌∷◌, ◌++◌, length, map, decimal, refl, sym, ap, subst, ◌∙◌, arith, Option, IfSome}
use Rattle.raid_params.specs.declared.limits.TheConstants.{MOST}
use Rattle.std.proofs.Math.Bool.{Bool-set}
use Rattle.raid_params.specs.Bases.{is_offset_of}
use Rattle.raid_params.specs.declared.types.Geometry.{Geometry}
use Rattle.raid_params.specs.declared.types.Level.{Level}
use Rattle.raid_params.specs.declared.types.Pattern.{Pattern}
use Rattle.raid_params.specs.declared.types.Syndrome.{Syndrome}
use Rattle.raid_params.specs.declared.wide.Wide.{Wide}
use Rattle.value_text.specs.declared.rotation.Rotation.{Rotation}
use Rattle.value_text.specs.Spelling.{level_name, syndrome_name, slot_name, commas}
use Rattle.value_text.specs.NameLaws.{in_lists, level_law, syndrome_law, number_law, slot_law}
use Rattle.value_text.specs.RotationLaws.{IsRotation, called, rotation_law}
use Rattle.value_text.specs.SetText.{HasWord, common, offset_name, set_word, word_with}
use Rattle.value_text.proofs.Spellings.{first_separator, next_value, same_list}
use Rattle.value_text.proofs.Offsets.{has_no_colon, same_offset}

-- a set word from its chunk on
abbrev pub sizes_text : Geometry → List ℕ → List ℕ
sizes_text geo bases = decimal geo.head.chunk ++ 58 ∷ (offset_name geo.head.offset bases ++ 58 ∷ commas (map slot_name geo.slots.items))

-- how its parity rotates
abbrev pub rotation_of : Geometry → Rotation
rotation_of geo = record { pattern = geo.head.pattern; delay = geo.head.delay }

pub same_layout : (geo : Geometry) (bases : List ℕ) → IsRotation (rotation_of geo) → (text : List ℕ) (level : Level) (rotation : Rotation) (syndrome : Syndrome) (one two three : List ℕ) →
    Unit {0} × (text ≡ level_name level ++ 58 ∷ one) → IsRotation rotation × (one ≡ called rotation ++ 58 ∷ two) → Unit {0} × (two ≡ syndrome_name syndrome ++ 58 ∷ three) → text ≡ word_with geo bases →
    (level ≡ geo.head.level) × (rotation ≡ rotation_of geo) × (syndrome ≡ geo.head.syndrome) × (three ≡ sizes_text geo bases)
same_layout geo bases is text level rotation syndrome one two three p q r e =
    let a = next_value level_name (λ x. Unit {0}) level_law 58 text level geo.head.level one _ refl p tt e in
    let b = next_value called IsRotation rotation_law 58 one rotation (rotation_of geo) two _ refl q is a.1 in
    let c = next_value syndrome_name (λ x. Unit {0}) syndrome_law 58 two syndrome geo.head.syndrome three (sizes_text geo bases) refl r tt b.1 in
    (a.0, b.0, c.0, c.1)

pub same_chunk : (geo : Geometry) (bases : List ℕ) → geo.head.chunk < 2 ^ 32 → (text : List ℕ) (chunk : ℕ) (rest : List ℕ) → (chunk < 2 ^ 64) × (text ≡ decimal chunk ++ 58 ∷ rest) → text ≡ sizes_text geo bases →
    (chunk ≡ geo.head.chunk) × (rest ≡ offset_name geo.head.offset bases ++ 58 ∷ commas (map slot_name geo.slots.items))
same_chunk geo bases small text chunk rest p e = next_value decimal (λ n. n < 2 ^ 64) number_law 58 text chunk geo.head.chunk rest _ refl p (omega arith) e

-- the parts of a word up to its chunk, and what follows
pub same_sizes : (geo : Geometry) (bases : List ℕ) → IsRotation (rotation_of geo) → geo.head.chunk < 2 ^ 32 → (text : List ℕ) (level : Level) (rotation : Rotation) (syndrome : Syndrome) (chunk : ℕ) (one two three four : List ℕ) →
    Unit {0} × (text ≡ level_name level ++ 58 ∷ one) → IsRotation rotation × (one ≡ called rotation ++ 58 ∷ two) → Unit {0} × (two ≡ syndrome_name syndrome ++ 58 ∷ three) → (chunk < 2 ^ 64) × (three ≡ decimal chunk ++ 58 ∷ four) → text ≡ word_with geo bases →
    (chunk ≡ geo.head.chunk) × (four ≡ offset_name geo.head.offset bases ++ 58 ∷ commas (map slot_name geo.slots.items))
same_sizes geo bases is small text level rotation syndrome chunk one two three four p q r s e =
    same_chunk geo bases small three chunk four s (same_layout geo bases is text level rotation syndrome one two three p q r e).3

set_with : Level → ℕ → Rotation → Syndrome → ℕ → ℕ → List (Option ℕ) → Geometry
set_with level members rotation syndrome chunk offset slots = record {
  head = record { level = level; members = members; pattern = rotation.pattern; delay = rotation.delay; syndrome = syndrome; chunk = chunk; offset = offset };
  slots = record { items = slots };
}

same_set : (g h : Geometry) → g.head.level ≡ h.head.level → g.head.members ≡ h.head.members → rotation_of g ≡ rotation_of h → g.head.syndrome ≡ h.head.syndrome → g.head.chunk ≡ h.head.chunk → g.head.offset ≡ h.head.offset → g.slots.items ≡ h.slots.items → g ≡ h
unfolding set_with
same_set g h a b c d e f i =
    let same : set_with g.head.level g.head.members (rotation_of g) g.head.syndrome g.head.chunk g.head.offset g.slots.items ≡ set_with h.head.level h.head.members (rotation_of h) h.head.syndrome h.head.chunk h.head.offset h.slots.items = cc in
    same

wide_with : (geo : Geometry) (bases : List ℕ) → IsTrue (is_offset_of bases geo.head.offset) → Wide
wide_with geo bases is = record { geo = geo; bases = record { items = bases }; is_greatest = is }

-- a set is told by its geometry and its bases
same_wide : (g h : Geometry) (ms bs : List ℕ) (p : IsTrue (is_offset_of ms g.head.offset)) (q : IsTrue (is_offset_of bs h.head.offset)) → g ≡ h → ms ≡ bs → wide_with g ms p ≡ wide_with h bs q
same_wide g h ms bs p q e f =
    let alone : (r : IsTrue (is_offset_of ms g.head.offset)) → wide_with g ms p ≡ wide_with g ms r = λ r. ap (λ (is : IsTrue (is_offset_of ms g.head.offset)). wide_with g ms is) (Bool-set (is_offset_of ms g.head.offset) true p r) in
    let others : (r : IsTrue (is_offset_of bs g.head.offset)) → wide_with g ms p ≡ wide_with g bs r =
    subst (λ (ks : List ℕ). (r : IsTrue (is_offset_of ks g.head.offset)) → wide_with g ms p ≡ wide_with g ks r) f alone in
    subst (λ (k : Geometry). (r : IsTrue (is_offset_of bs k.head.offset)) → wide_with g ms p ≡ wide_with k bs r) e others q

-- a set has one word
pub one_spelling : (g h : Wide) → HasWord g → HasWord h → set_word g ≡ set_word h → g ≡ h
unfolding wide_with
one_spelling g h has_g has_h e =
    let layout = same_layout h.geo h.bases.items (has_h.some_delay, has_h.delay) (set_word g) g.geo.head.level (rotation_of g.geo) g.geo.head.syndrome _ _ (sizes_text g.geo g.bases.items) (tt, refl) ((has_g.some_delay, has_g.delay), refl) (tt, refl) e in
    let chunk = same_chunk h.geo h.bases.items has_h.chunk (sizes_text g.geo g.bases.items) g.geo.head.chunk _ (omega (arith, has_g.chunk), refl) layout.3 in
    let texts = first_separator 58 (offset_name g.geo.head.offset g.bases.items) (offset_name h.geo.head.offset h.bases.items) (commas (map slot_name g.geo.slots.items)) (commas (map slot_name h.geo.slots.items))
    (has_no_colon g.geo.head.offset g.bases.items has_g.offset) (has_no_colon h.geo.head.offset h.bases.items has_h.offset) chunk.1 in
    let offset = same_offset g.geo.head.offset h.geo.head.offset g.bases.items h.bases.items has_g.offset has_h.offset g.is_greatest h.is_greatest texts.0 in
    let slots = same_list slot_name (λ slot. IfSome slot (λ image. image < MOST)) (in_lists slot_name (λ slot. IfSome slot (λ image. image < MOST)) slot_law) g.geo.slots.items h.geo.slots.items has_g.some has_h.some has_g.images has_h.images texts.1 in
    let members = has_g.members ∙ ap length slots ∙ sym has_h.members in
    let geo = same_set g.geo h.geo layout.0 members layout.1 layout.2 chunk.0 offset.0 slots in
    let same : wide_with g.geo g.bases.items g.is_greatest ≡ wide_with h.geo h.bases.items h.is_greatest = same_wide g.geo h.geo g.bases.items h.bases.items g.is_greatest h.is_greatest geo offset.1 in
    same

pub one_common : (g h : Geometry) → HasWord (common g) → HasWord (common h) → set_word (common g) ≡ set_word (common h) → g ≡ h
one_common g h has_g has_h e = ap (λ (set : Wide). set.geo) (one_spelling (common g) (common h) has_g has_h e)
