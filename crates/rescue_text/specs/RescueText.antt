-- What a rescue text says, line by line.
use Rattle.std.specs.Prelude.{ℕ, ◌≡◌, ◌+◌, ◌-◌, Bool, true, false, cond, nat_lt, ◌==◌, ◌||◌, ◌&&◌, List, [], ◌∷◌, ◌++◌, length, drop, slice_index, slice_index_or, option_map}
use Rattle.std.specs.List.{slice_split}
use Rattle.std.specs.declared.option.Option.{Option}
use Rattle.std.specs.declared.option.Option.TheVariants.{None, Some}
use Rattle.std.specs.declared.result.Result.{Result}
use Rattle.std.specs.declared.result.Result.TheVariants.{Ok, Err}
use Rattle.rescue_text.specs.declared.block.Block.{Block}
use Rattle.rescue_text.specs.declared.section.Section.{Section}
use Rattle.rescue_text.specs.declared.draft.Draft.{Draft}
use Rattle.rescue_text.specs.declared.fault.RescueFault.{RescueFault}
use Rattle.rescue_text.specs.declared.fault.RescueFault.TheVariants.{Line, Memory}
use Rattle.rescue_text.specs.Lines.{block, decimal_number}

-- an empty line, or a comment, which begins with '#'
abbrev pub is_skipped : List ℕ → Bool
is_skipped line = length line == 0 || slice_index line 0 == 35

-- a line begins with 'map' and a space
abbrev pub begins_map : List ℕ → Bool
begins_map line = slice_index line 0 == 109 && slice_index line 1 == 97 && slice_index line 2 == 112 && slice_index line 3 == 32

-- a number of an image
abbrev pub image_below : ℕ → Option ℕ → Option ℕ
image_below images None = None
image_below images (Some number) = cond (nat_lt number images) (Some number) None

-- the image whose section a line 'map I' begins
abbrev pub map_image : ℕ → List ℕ → Option ℕ
map_image images line = cond (begins_map line) (image_below images (decimal_number (drop 4 line))) None

-- sections, and one that is open
abbrev pub with_open : List Section → Option Section → List Section
with_open sections None = sections
with_open sections (Some section) = sections ++ section ∷ []

-- all sections of a draft
abbrev pub drafted : Draft → List Section
drafted draft = with_open draft.closed draft.last

-- before the first line
abbrev pub no_sections : Draft
no_sections = record { closed = []; last = None; awaits_status = false }

-- an image comes after that of the open section
abbrev pub rises : Option Section → ℕ → Bool
rises None image = true
rises (Some section) image = nat_lt section.image image

-- the section of an image begins, where it comes after the others
abbrev pub after_map : Draft → ℕ → Option Draft
after_map draft image =
    cond (rises draft.last image)
    (Some (record { closed = drafted draft; last = Some (record { image = image; blocks = [] }); awaits_status = true }))
    None

-- a block begins where the one before it ends
abbrev pub goes_on : List Block → Block → Bool
goes_on blocks next = length blocks == 0 || (slice_index_or blocks (length blocks - 1) next).end == next.start

-- a section is open, and a block goes on from its blocks
abbrev pub is_next : Option Section → Block → Bool
is_next None next = false
is_next (Some section) next = goes_on section.blocks next

-- a section with one more block
abbrev pub with_block : Block → Section → Section
with_block next section = record { image = section.image; blocks = section.blocks ++ next ∷ [] }

-- a block is added to the open section
abbrev pub after_block : Draft → Option Block → Option Draft
after_block draft None = None
after_block draft (Some next) =
    cond (is_next draft.last next)
    (Some (record { closed = draft.closed; last = option_map (with_block next) draft.last; awaits_status = draft.awaits_status }))
    None

-- a line that is neither skipped nor a status line: 'map I', or a block
abbrev pub after_told : Draft → List ℕ → Option ℕ → Option Draft
after_told draft line (Some image) = after_map draft image
after_told draft line None = after_block draft (block line)

-- the status line is not looked at
abbrev pub after_status : Draft → Draft
after_status draft = record { closed = draft.closed; last = draft.last; awaits_status = false }

-- what a line leaves of a draft; `None` where it is refused
abbrev pub after_line : ℕ → Draft → List ℕ → Option Draft
after_line images draft line =
    cond (is_skipped line) (Some draft)
    (cond draft.awaits_status (Some (after_status draft)) (after_told draft line (map_image images line)))

-- the lines go on from what this one leaves, or it is refused by its number
abbrev pub on_line : (Draft → Result (List Section) RescueFault) → ℕ → Option Draft → Result (List Section) RescueFault
on_line more number None = Err (Line number)
on_line more number (Some draft) = more draft

-- lines after so many others: all sections, or the number of the first line that is refused
abbrev pub sections_of : ℕ → List (List ℕ) → ℕ → Draft → Result (List Section) RescueFault
sections_of images [] taken draft = Ok (drafted draft)
sections_of images (line ∷ lines) taken draft = on_line (sections_of images lines (taken + 1)) (taken + 1) (after_line images draft line)

-- a line ends at a line feed, or at the end of the text
abbrev pub text_lines : List ℕ → List (List ℕ)
text_lines text = slice_split (λ byte. byte == 10) text

-- the sections of a rescue text for so many images, or its first refused line
abbrev pub rescue_sections : ℕ → List ℕ → Result (List Section) RescueFault
rescue_sections images text = sections_of images (text_lines text) 0 no_sections

-- what a call answers that may want memory
abbrev pub IsReading : Result (List Section) RescueFault → Result (List Section) RescueFault → Type 0
IsReading told (Ok sections) = told ≡ Ok sections
IsReading told (Err (Line number)) = told ≡ Err (Line number)
IsReading told (Err Memory) = Unit {0}

-- what adding a line answers that may want memory: the draft after it, or that this line is refused
abbrev pub IsAdded : Option Draft → ℕ → Draft → Result (Unit {0}) RescueFault → Type 0
IsAdded told number draft (Ok _) = told ≡ Some draft
IsAdded told number draft (Err (Line refused)) = (told ≡ None) × (refused ≡ number)
IsAdded told number draft (Err Memory) = Unit {0}
