-- The objects hold no number with a point; elements of their lists; and the text of what they hold.
use Rattle.std.proofs.Common.{ℕ, ◌≡◌, ◌+◌, ◌<◌, false, refl, List, [], ◌∷◌, ◌++◌, length, get_or, take, Option, Some, None, map, ap, sym, ◌∙◌, Result, Ok, Err, String, string_bytes, IfOk}
use Rattle.std.proofs.lemmas.List.{map-append, map_more}
use Rattle.std.specs.declared.alloc.Global.{Global}
use Rattle.std.specs.declared.alloc.AllocError.{AllocError}
use Rattle.raid_params.specs.declared.types.Head.{Head}
use Rattle.serde_json.specs.Data.{Data}
use Rattle.serde_json.specs.View.{items_of, view}
use Rattle.serde_json.specs.declared.value.Value.{Value}
use Rattle.serde_json.specs.Written.{compact_text, has_float, items_have_float}
use Rattle.json_lines.specs.Objects.{base_data, layout_name, name_data, offset_data, set_data, slots_data}

slots_no_float : (slots : List (Option ℕ)) → items_have_float (slots_data slots) ≡ false
slots_no_float [] = refl
slots_no_float (None ∷ slots) = slots_no_float slots
slots_no_float (Some x ∷ slots) = slots_no_float slots

name_no_float : (name : Option (List ℕ)) → has_float (name_data name) ≡ false
name_no_float None = refl
name_no_float (Some text) = refl

bases_no_float : (bases : List ℕ) → items_have_float (items_of (map base_data bases)) ≡ false
bases_no_float [] = refl
bases_no_float (base ∷ bases) = bases_no_float bases

offset_no_float : (offset : ℕ) (bases : List ℕ) → has_float (offset_data offset bases) ≡ false
offset_no_float offset [] = refl
offset_no_float offset (base ∷ bases) = bases_no_float (base ∷ bases)

pub set_no_float : (rank : ℕ) (head : Head) (bases : List ℕ) (slots : List (Option ℕ)) → has_float (set_data rank head bases slots) ≡ false
set_no_float rank head bases slots = rw (name_no_float (layout_name head), offset_no_float head.offset bases, slots_no_float slots) refl

-- one more element
pub element_more : {A : Type 0} (data_of : A → Data) (elements : List A) (i : ℕ) (d : A) (values new : List Value) (value : Value) → i < length elements → map view values ≡ map data_of (take i elements) → view value ≡ data_of (get_or elements i d) →
    new ≡ values ++ value ∷ [] → map view new ≡ map data_of (take (i + 1) elements)
element_more data_of elements i d values new value below before is pushed =
    ap (map view) pushed
    ∙ map-append view values (value ∷ [])
    ∙ ap (λ (l : List Data). l ++ view value ∷ []) before
    ∙ ap (λ (x : Data). map data_of (take i elements) ++ x ∷ []) is
    ∙ sym (map_more data_of elements i d below)

-- the text of a value that holds what was asked
pub same_text : (v d : Data) (r : Result (String Global) AllocError) → IfOk r (λ s. has_float v ≡ false → string_bytes s ≡ compact_text v) → v ≡ d → has_float d ≡ false → IfOk r (λ s. string_bytes s ≡ compact_text d)
same_text v d (Ok s) h e n = h (ap has_float e ∙ n) ∙ ap compact_text e
same_text v d (Err x) h e n = tt
