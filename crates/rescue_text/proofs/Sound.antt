-- The blocks of the sections that a text says lie side by side.
use Rattle.std.proofs.Common.{◌≡◌, ℕ, suc, ◌+◌, ◌-◌, ◌<◌, ◌^◌, Bool, true, false, cond, nat_lt, ◌==◌, ◌&&◌, List, [], ◌∷◌, ◌++◌, length, get_or, IfSome, IfOk, refl, sym, ap, ◌∙◌, arith, rules, tests}
use Rattle.std.specs.Prelude.{option_map}
use Rattle.std.specs.declared.option.Option.{Option}
use Rattle.std.specs.declared.option.Option.TheVariants.{None, Some}
use Rattle.std.specs.declared.result.Result.{Result}
use Rattle.std.specs.declared.result.Result.TheVariants.{Ok}
use Rattle.rescue_text.specs.declared.block.Block.{Block}
use Rattle.rescue_text.specs.declared.block.Status.{Status}
use Rattle.rescue_text.specs.declared.draft.Draft.{Draft}
use Rattle.rescue_text.specs.declared.section.Section.{Section}
use Rattle.rescue_text.specs.declared.fault.RescueFault.{RescueFault}
use Rattle.rescue_text.specs.Lines.{block, block_told, number, past_word, status, without_blanks, word}
use Rattle.rescue_text.specs.RescueText.{after_block, after_line, after_status, after_told, drafted, goes_on, is_next, is_skipped, map_image, no_sections, on_line, rescue_sections, rises, sections_of, text_lines, with_block, with_open}
use Rattle.rescue_text.specs.Good.{AreSections, AreSideBySide, GoOnFrom, section_of}

abbrev Sized : Block → Type 0
Sized next = next.start < next.end

first_true : (a b : Bool) → (a && b) ≡ true → a ≡ true
first_true true b h = refl
first_true false b h = h

between_sized : (start size : ℕ) (sign : Status) (b : Bool) → (nat_lt 0 size && nat_lt (start + size) (2 ^ 64)) ≡ b →
    IfSome (cond b (Some (record { start = start; end = start + size; status = sign })) None) Sized
between_sized start size sign true h =
    let some : 0 < size = search (rules, tests, first_true (nat_lt 0 size) (nat_lt (start + size) (2 ^ 64)) h) in
    omega (arith, some)
between_sized start size sign false h = tt

told_sized : (start size : Option ℕ) (sign : Option Status) → IfSome (block_told start size sign) Sized
told_sized None size sign = tt
told_sized (Some start) None sign = tt
told_sized (Some start) (Some size) None = tt
told_sized (Some start) (Some size) (Some sign) = between_sized start size sign _ refl

if_told : (b : Bool) (told : Option Block) → IfSome told Sized → IfSome (cond b told None) Sized
if_told true told h = h
if_told false told h = tt

block_sized : (line : List ℕ) → IfSome (block line) Sized
block_sized line =
    let start = without_blanks line in
    let size = without_blanks (past_word start) in
    let sign = without_blanks (past_word size) in
    if_told (length (without_blanks (past_word sign)) == 0) (block_told (number (word start)) (number (word size)) (status (word sign))) (told_sized (number (word start)) (number (word size)) (status (word sign)))

abbrev IsSoundLast : Option Section → Type 0
IsSoundLast None = Unit {0}
IsSoundLast (Some section) = AreSideBySide section.blocks

record IsSound (draft : Draft) : Type 0 where
  pub closed : AreSections draft.closed
  pub last : IsSoundLast draft.last

one_more : (sections : List Section) (section : Section) → AreSections sections → AreSideBySide section.blocks → AreSections (sections ++ section ∷ [])
one_more [] section sound side = (side, tt)
one_more (first ∷ sections) section sound side = (sound.0, one_more sections section sound.1 side)

with_last : (sections : List Section) (last : Option Section) → AreSections sections → IsSoundLast last → AreSections (with_open sections last)
with_last sections None sound side = sound
with_last sections (Some section) sound side = one_more sections section sound side

go_on_more : (place : ℕ) (first : Block) (blocks : List Block) (next : Block) → GoOnFrom place (first ∷ blocks) → (get_or (first ∷ blocks) (length (first ∷ blocks) - 1) next).end ≡ next.start → next.start < next.end →
    GoOnFrom place ((first ∷ blocks) ++ next ∷ [])
go_on_more place first [] next side ends some = (side.0, side.1, (sym ends, (let e = ends in omega (arith, e, some)), tt))
go_on_more place first (second ∷ blocks) next side ends some =
    let index : length (first ∷ second ∷ blocks) - 1 ≡ suc (length (second ∷ blocks) - 1) = omega arith in
    let same : (get_or (first ∷ second ∷ blocks) (length (first ∷ second ∷ blocks) - 1) next).end ≡ (get_or (second ∷ blocks) (length (second ∷ blocks) - 1) next).end = ap (λ (i : ℕ). (get_or (first ∷ second ∷ blocks) i next).end) index in
    (side.0, side.1, go_on_more first.end second blocks next side.2 (sym same ∙ ends) some)

side_more : (blocks : List Block) (next : Block) → AreSideBySide blocks → goes_on blocks next ≡ true → next.start < next.end → AreSideBySide (blocks ++ next ∷ [])
side_more [] next side h some = (refl, some, tt)
side_more (first ∷ blocks) next side h some =
    let ends : (get_or (first ∷ blocks) (length (first ∷ blocks) - 1) next).end ≡ next.start = search (rules, tests, h) in
    go_on_more first.start first blocks next side ends some

next_sound : (draft : Draft) (last : Option Section) (next : Block) (b : Bool) → is_next last next ≡ b → AreSections draft.closed → IsSoundLast last → next.start < next.end →
    IfSome (cond b (Some (record { closed = draft.closed; last = option_map (with_block next) last; awaits_status = draft.awaits_status })) None) IsSound
next_sound draft None next true h closed side some = record { closed = closed; last = tt }
next_sound draft (Some section) next true h closed side some = record { closed = closed; last = side_more section.blocks next side h some }
next_sound draft last next false h closed side some = tt

added_sound : (draft : Draft) (told : Option Block) → IsSound draft → IfSome told Sized → IfSome (after_block draft told) IsSound
added_sound draft None sound some = tt
added_sound draft (Some next) sound some = next_sound draft draft.last next (is_next draft.last next) refl sound.closed sound.last some

either : (b : Bool) (x y : Option Draft) → IfSome x IsSound → IfSome y IsSound → IfSome (cond b x y) IsSound
either true x y h g = h
either false x y h g = g

told_sound : (draft : Draft) (line : List ℕ) (image : Option ℕ) → IsSound draft → IfSome (after_told draft line image) IsSound
told_sound draft line None sound = added_sound draft (block line) sound (block_sized line)
told_sound draft line (Some image) sound = either (rises draft.last image) (Some (record { closed = drafted draft; last = Some (record { image = image; blocks = [] }); awaits_status = true })) None (record { closed = with_last draft.closed draft.last sound.closed sound.last; last = tt }) tt

line_sound : (images : ℕ) (draft : Draft) (line : List ℕ) → IsSound draft → IfSome (after_line images draft line) IsSound
line_sound images draft line sound =
    let told = after_told draft line (map_image images line) in
    either (is_skipped line) (Some draft) (cond draft.awaits_status (Some (after_status draft)) told) sound
    (either draft.awaits_status (Some (after_status draft)) told (record { closed = sound.closed; last = sound.last }) (told_sound draft line (map_image images line) sound))

on_sound : (more : Draft → Result (List Section) RescueFault) (n : ℕ) (left : Option Draft) → IfSome left IsSound → ((draft : Draft) → IsSound draft → IfOk (more draft) AreSections) → IfOk (on_line more n left) AreSections
on_sound more n None sound h = tt
on_sound more n (Some draft) sound h = h draft sound

lines_sound : (images : ℕ) (lines : List (List ℕ)) (taken : ℕ) (draft : Draft) → IsSound draft → IfOk (sections_of images lines taken draft) AreSections
lines_sound images [] taken draft sound = with_last draft.closed draft.last sound.closed sound.last
lines_sound images (line ∷ lines) taken draft sound =
    on_sound (sections_of images lines (taken + 1)) (taken + 1) (after_line images draft line) (line_sound images draft line sound) (λ new sound. lines_sound images lines (taken + 1) new sound)

text_sound : (images : ℕ) (text : List ℕ) → IfOk (rescue_sections images text) AreSections
text_sound images text = lines_sound images (text_lines text) 0 no_sections (record { closed = tt; last = tt })

at_ok : (told : Result (List Section) RescueFault) (sections : List Section) → told ≡ Ok sections → IfOk told AreSections → AreSections sections
at_ok told sections e h = rw e at h

-- what a text says
pub are_sections : (images : ℕ) (text : List ℕ) (sections : List Section) → rescue_sections images text ≡ Ok sections → AreSections sections
are_sections images text sections e = at_ok (rescue_sections images text) sections e (text_sound images text)

first_or : (b : Bool) (first : Section) (other : Option Section) → AreSideBySide first.blocks → IfSome other (λ section. AreSideBySide section.blocks) → IfSome (cond b (Some first) other) (λ section. AreSideBySide section.blocks)
first_or true first other h g = h
first_or false first other h g = g

side_of : (image : ℕ) (sections : List Section) → AreSections sections → IfSome (section_of sections image) (λ section. AreSideBySide section.blocks)
side_of image [] sound = tt
side_of image (first ∷ sections) sound = first_or (first.image == image) first (section_of sections image) sound.0 (side_of image sections sound.1)

-- the blocks of the section of an image
pub found_side : (sections : List Section) (image : ℕ) (section : Section) → AreSections sections → section_of sections image ≡ Some section → AreSideBySide section.blocks
found_side sections image section sound e = rw e at (side_of image sections sound)
