use Rattle.std.proofs.Common.{◌≡◌, List, ℕ, map, refl, subst, sym, ◌∙◌, arith}
use Rattle.value_text.proofs.Offsets.{has_no_colon}
use Rattle.value_text.proofs.SetWords.{rotation_of, same_layout, same_sizes}
use Rattle.value_text.proofs.Spellings.{IsWithout, first_separator, has_separator, next_value, none_then}
use Rattle.value_text.specs.NameLaws.{level_law}
use Rattle.value_text.specs.RotationLaws.{IsRotation, called, rotation_law}
use Rattle.value_text.specs.SetText.{offset_name}
use Rattle.value_text.specs.Spelling.{commas, level_name, slot_name}
use Rattle.value_text.proofs.set_word.read_set.Goals as goal

pub returns-in_err-rotation : goal.returns-in_err-rotation
returns-in_err-rotation c =
    none_then _ _ c.from_residual-in_err-rotation.result c.from_residual-in_err-rotation.ensures (λ set has e.
    let level = next_value level_name (λ x. Unit {0}) level_law 58 c.args.text.now c.in_ok-level.level set.geo.head.level c.in_ok-level.after_level.now _ refl c.in_ok-level.ensures tt e in
    c.in_err-rotation.ensures (rotation_of set.geo) _ (has.some_delay, has.delay) level.1)

pub returns-in_err-syndrome : goal.returns-in_err-syndrome
returns-in_err-syndrome c =
    none_then _ _ c.from_residual-in_err-syndrome.result c.from_residual-in_err-syndrome.ensures (λ set has e.
    let level = next_value level_name (λ x. Unit {0}) level_law 58 c.args.text.now c.in_ok-level.level set.geo.head.level c.in_ok-level.after_level.now _ refl c.in_ok-level.ensures tt e in
    let rotation = next_value called IsRotation rotation_law 58 c.in_ok-level.after_level.now c.in_ok-rotation.rotation (rotation_of set.geo) c.in_ok-rotation.after_rotation.now _ refl c.in_ok-rotation.ensures (has.some_delay, has.delay) level.1 in
    c.in_err-syndrome.ensures set.geo.head.syndrome _ tt rotation.1)

pub returns-in_err-chunk : goal.returns-in_err-chunk
returns-in_err-chunk c =
    none_then _ _ c.from_residual-in_err-chunk.result c.from_residual-in_err-chunk.ensures (λ set has e.
    let layout = same_layout set.geo set.bases.items (has.some_delay, has.delay) c.args.text.now c.in_ok-level.level c.in_ok-rotation.rotation c.in_ok-syndrome.syndrome c.in_ok-level.after_level.now c.in_ok-rotation.after_rotation.now c.in_ok-syndrome.after_syndrome.now c.in_ok-level.ensures c.in_ok-rotation.ensures c.in_ok-syndrome.ensures e in
    c.in_err-chunk.ensures set.geo.head.chunk _ (omega (arith, has.chunk)) layout.3)

pub returns-in_err-offset_text : goal.returns-in_err-offset_text
returns-in_err-offset_text c =
    none_then _ _ c.from_residual-in_err-offset_text.result c.from_residual-in_err-offset_text.ensures (λ set has e.
    let sizes = same_sizes set.geo set.bases.items (has.some_delay, has.delay) has.chunk c.args.text.now c.in_ok-level.level c.in_ok-rotation.rotation c.in_ok-syndrome.syndrome c.in_ok-chunk.chunk c.in_ok-level.after_level.now c.in_ok-rotation.after_rotation.now c.in_ok-syndrome.after_syndrome.now c.in_ok-chunk.after_chunk.now c.in_ok-level.ensures c.in_ok-rotation.ensures c.in_ok-syndrome.ensures c.in_ok-chunk.ensures e in
    has_separator 58 (offset_name set.geo.head.offset set.bases.items) (commas (map slot_name set.geo.slots.items)) (subst (λ (bytes : List ℕ). IsWithout 58 bytes) sizes.1 c.in_err-offset_text.ensures))

pub returns-in_err-offset : goal.returns-in_err-offset
returns-in_err-offset c =
    none_then _ _ c.from_residual-in_err-offset.result c.from_residual-in_err-offset.ensures (λ set has e.
    let sizes = same_sizes set.geo set.bases.items (has.some_delay, has.delay) has.chunk c.args.text.now c.in_ok-level.level c.in_ok-rotation.rotation c.in_ok-syndrome.syndrome c.in_ok-chunk.chunk c.in_ok-level.after_level.now c.in_ok-rotation.after_rotation.now c.in_ok-syndrome.after_syndrome.now c.in_ok-chunk.after_chunk.now c.in_ok-level.ensures c.in_ok-rotation.ensures c.in_ok-syndrome.ensures c.in_ok-chunk.ensures e in
    let texts = first_separator 58 c.in_ok-offset_text.offset_text.now (offset_name set.geo.head.offset set.bases.items) c.in_ok-offset_text.after_offset.now (commas (map slot_name set.geo.slots.items)) c.in_ok-offset_text.ensures.0 (has_no_colon set.geo.head.offset set.bases.items has.offset) (sym c.in_ok-offset_text.ensures.1 ∙ sizes.1) in
    c.in_err-offset.ensures set.geo.head.offset set.bases.items has.offset texts.0)

pub returns-in_err-slots : goal.returns-in_err-slots
returns-in_err-slots c =
    none_then _ _ c.from_residual-in_err-slots.result c.from_residual-in_err-slots.ensures (λ set has e.
    let sizes = same_sizes set.geo set.bases.items (has.some_delay, has.delay) has.chunk c.args.text.now c.in_ok-level.level c.in_ok-rotation.rotation c.in_ok-syndrome.syndrome c.in_ok-chunk.chunk c.in_ok-level.after_level.now c.in_ok-rotation.after_rotation.now c.in_ok-syndrome.after_syndrome.now c.in_ok-chunk.after_chunk.now c.in_ok-level.ensures c.in_ok-rotation.ensures c.in_ok-syndrome.ensures c.in_ok-chunk.ensures e in
    let texts = first_separator 58 c.in_ok-offset_text.offset_text.now (offset_name set.geo.head.offset set.bases.items) c.in_ok-offset_text.after_offset.now (commas (map slot_name set.geo.slots.items)) c.in_ok-offset_text.ensures.0 (has_no_colon set.geo.head.offset set.bases.items has.offset) (sym c.in_ok-offset_text.ensures.1 ∙ sizes.1) in
    c.in_err-slots.ensures set.geo.slots.items has.some has.most has.images texts.1)

pub returns-else-chunk-from : goal.returns-else-chunk-from
returns-else-chunk-from c set has e =
    let sizes = same_sizes set.geo set.bases.items (has.some_delay, has.delay) has.chunk c.args.text.now c.in_ok-level.level c.in_ok-rotation.rotation c.in_ok-syndrome.syndrome c.in_ok-chunk.chunk c.in_ok-level.after_level.now c.in_ok-rotation.after_rotation.now c.in_ok-syndrome.after_syndrome.now c.in_ok-chunk.after_chunk.now c.in_ok-level.ensures c.in_ok-rotation.ensures c.in_ok-syndrome.ensures c.in_ok-chunk.ensures e in
    let same : c.in_ok-chunk.chunk ≡ set.geo.head.chunk = sizes.0 in
    let small = has.chunk in
    omega (arith, c.if-chunk-from.false, c.from.ensures)
