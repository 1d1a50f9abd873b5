-- The parts of a near word that were read are those of the set.
use Rattle.std.proofs.Common.{◌≡◌, ◌<◌, ◌^◌, ℕ, List, ◌∷◌, ◌++◌, length, map, decimal, refl, sym, ap, ◌∙◌, arith, Option, IfSome, IsTrue}
use Rattle.raid_params.specs.declared.limits.TheConstants.{MOST}
use Rattle.value_text.specs.Spelling.{slot_name, commas}
use Rattle.value_text.specs.NameLaws.{in_lists, number_law, slot_law}
use Rattle.value_text.proofs.Spellings.{next_value, same_list}
use Rattle.near_mirror.specs.Heads.{are_copies}
use Rattle.near_mirror.specs.NameLaws.{layout_law}
use Rattle.near_mirror.specs.Words.{HasNearWord, layout_name, near_word}
use Rattle.near_mirror.specs.declared.types.CopyLayout.{CopyLayout}
use Rattle.near_mirror.specs.declared.types.NearSet.{NearSet}

-- a near word from its chunk on
abbrev pub sizes_text : NearSet → List ℕ
sizes_text set = decimal set.head.chunk ++ 58 ∷ (decimal set.head.offset ++ 58 ∷ commas (map slot_name set.slots.items))

-- and from its offset on
abbrev pub offset_text : NearSet → List ℕ
offset_text set = decimal set.head.offset ++ 58 ∷ commas (map slot_name set.slots.items)

abbrev IsLayout : CopyLayout → Type 0
IsLayout layout = IsTrue (are_copies layout.copies)

pub same_layout : (set : NearSet) → HasNearWord set → (text : List ℕ) (layout : CopyLayout) (rest : List ℕ) → IsTrue (are_copies layout.copies) × (text ≡ layout_name layout ++ 58 ∷ rest) → text ≡ near_word set →
    (layout ≡ set.head.layout) × (rest ≡ sizes_text set)
same_layout set has text layout rest p e = next_value layout_name IsLayout layout_law 58 text layout set.head.layout rest _ refl p has.copies e

pub same_chunk : (set : NearSet) → HasNearWord set → (text : List ℕ) (chunk : ℕ) (rest : List ℕ) → (chunk < 2 ^ 64) × (text ≡ decimal chunk ++ 58 ∷ rest) → text ≡ sizes_text set →
    (chunk ≡ set.head.chunk) × (rest ≡ offset_text set)
same_chunk set has text chunk rest p e = next_value decimal (λ n. n < 2 ^ 64) number_law 58 text chunk set.head.chunk rest _ refl p (omega (arith, has.chunk)) e

pub same_offset : (set : NearSet) → HasNearWord set → (text : List ℕ) (offset : ℕ) (rest : List ℕ) → (offset < 2 ^ 64) × (text ≡ decimal offset ++ 58 ∷ rest) → text ≡ offset_text set →
    (offset ≡ set.head.offset) × (rest ≡ commas (map slot_name set.slots.items))
same_offset set has text offset rest p e = next_value decimal (λ n. n < 2 ^ 64) number_law 58 text offset set.head.offset rest _ refl p (omega (arith, has.offset)) e

set_with : ℕ → ℕ → ℕ → CopyLayout → List (Option ℕ) → NearSet
set_with members chunk offset layout slots = record {
  head = record { members = members; chunk = chunk; offset = offset; layout = layout };
  slots = record { items = slots };
}

same_set : (g h : NearSet) → g.head.members ≡ h.head.members → g.head.chunk ≡ h.head.chunk → g.head.offset ≡ h.head.offset → g.head.layout ≡ h.head.layout → g.slots.items ≡ h.slots.items → g ≡ h
unfolding set_with
same_set g h a b c d e =
    let same : set_with g.head.members g.head.chunk g.head.offset g.head.layout g.slots.items ≡ set_with h.head.members h.head.chunk h.head.offset h.head.layout h.slots.items = cc in
    same

-- a set has one word
pub one_spelling : (g h : NearSet) → HasNearWord g → HasNearWord h → near_word g ≡ near_word h → g ≡ h
one_spelling g h has_g has_h e =
    let layout = same_layout h has_h (near_word g) g.head.layout _ (has_g.copies, refl) e in
    let chunk = same_chunk h has_h (sizes_text g) g.head.chunk _ (omega (arith, has_g.chunk), refl) layout.1 in
    let offset = same_offset h has_h (offset_text g) g.head.offset _ (omega (arith, has_g.offset), refl) chunk.1 in
    let slots = same_list slot_name (λ slot. IfSome slot (λ image. image < MOST)) (in_lists slot_name (λ slot. IfSome slot (λ image. image < MOST)) slot_law) g.slots.items h.slots.items has_g.some has_h.some has_g.images has_h.images offset.1 in
    let members = has_g.members ∙ ap length slots ∙ sym has_h.members in
    same_set g h members chunk.0 offset.0 layout.0 slots
