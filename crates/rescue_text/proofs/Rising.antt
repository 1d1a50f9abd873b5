-- The sections that a text says are of images below the number of all, in their order.
use Rattle.std.proofs.Common.{◌≡◌, ℕ, ◌<◌, Bool, true, false, cond, nat_lt, List, [], ◌∷◌, ◌++◌, IfSome, IfOk, refl, sym, arith, subst, ◌+◌}
use Rattle.std.specs.Prelude.{option_map}
use Rattle.std.specs.declared.option.Option.{Option}
use Rattle.std.specs.declared.option.Option.TheVariants.{None, Some}
use Rattle.std.specs.declared.result.Result.{Result}
use Rattle.std.specs.declared.result.Result.TheVariants.{Ok}
use Rattle.std.proofs.lemmas.Bool.Decides.{nat_tests}
use Rattle.rescue_text.specs.declared.block.Block.{Block}
use Rattle.rescue_text.specs.declared.draft.Draft.{Draft}
use Rattle.rescue_text.specs.declared.section.Section.{Section}
use Rattle.rescue_text.specs.declared.fault.RescueFault.{RescueFault}
use Rattle.rescue_text.specs.Laws.{AreAbove, AreBelow, Rise}
use Rattle.rescue_text.specs.Lines.{block}
use Rattle.rescue_text.specs.RescueText.{after_block, after_line, after_status, after_told, begins_map, drafted, image_below, is_next, is_skipped, map_image, no_sections, on_line, rescue_sections, rises, sections_of, text_lines, with_block, with_open}

-- ---- one section more

below_more : (image : ℕ) (sections : List Section) (last : Section) → AreBelow image sections → last.image < image → AreBelow image (sections ++ last ∷ [])
below_more image [] last below here = (here, tt)
below_more image (first ∷ sections) last below here = (below.0, below_more image sections last below.1 here)

above_more : (image : ℕ) (sections : List Section) (last : Section) → AreAbove image sections → image < last.image → AreAbove image (sections ++ last ∷ [])
above_more image [] last above here = (here, tt)
above_more image (first ∷ sections) last above here = (above.0, above_more image sections last above.1 here)

rise_more : (sections : List Section) (last : Section) → Rise sections → AreBelow last.image sections → Rise (sections ++ last ∷ [])
rise_more [] last rise below = (tt, tt)
rise_more (first ∷ sections) last rise below = (above_more first.image sections last rise.0 below.0, rise_more sections last rise.1 below.1)

below_later : (image later : ℕ) (sections : List Section) → image < later → AreBelow image sections → AreBelow later sections
below_later image later [] lt below = tt
below_later image later (first ∷ sections) lt below = let here = below.0 in (omega (arith, here, lt), below_later image later sections lt below.1)

-- ---- drafts

-- the open section is of an image above those of the closed ones; before the first one there is none
abbrev IsTop : ℕ → List Section → Option Section → Type 0
IsTop images closed None = closed ≡ []
IsTop images closed (Some section) = (section.image < images) × AreBelow section.image closed

record IsRising (images : ℕ) (draft : Draft) : Type 0 where
  pub closed : Rise draft.closed
  pub within : AreBelow images draft.closed
  pub top : IsTop images draft.closed draft.last

open_rises : (images : ℕ) (closed : List Section) (last : Option Section) → Rise closed → IsTop images closed last → Rise (with_open closed last)
open_rises images closed None rise top = rise
open_rises images closed (Some section) rise top = rise_more closed section rise top.1

open_within : (images : ℕ) (closed : List Section) (last : Option Section) → AreBelow images closed → IsTop images closed last → AreBelow images (with_open closed last)
open_within images closed None within top = within
open_within images closed (Some section) within top = below_more images closed section within top.0

open_below : (images image : ℕ) (closed : List Section) (last : Option Section) → IsTop images closed last → rises last image ≡ true → AreBelow image (with_open closed last)
open_below images image closed None top above = subst (λ (sections : List Section). AreBelow image sections) (sym top) tt
open_below images image closed (Some section) top above =
    let lt : section.image < image = grind (arith, nat_tests) in
    below_more image closed section (below_later section.image image closed lt top.1) lt

map_rises : (images image : ℕ) (draft : Draft) (b : Bool) → IsRising images draft → image < images → rises draft.last image ≡ b →
    IfSome (cond b (Some (record { closed = drafted draft; last = Some (record { image = image; blocks = [] }); awaits_status = true })) None) (IsRising images)
map_rises images image draft true is lt above = record {
  closed = open_rises images draft.closed draft.last is.closed is.top;
  within = open_within images draft.closed draft.last is.within is.top;
  top = (lt, open_below images image draft.closed draft.last is.top above);
}
map_rises images image draft false is lt above = tt

same_top : (images : ℕ) (closed : List Section) (last : Option Section) (next : Block) → IsTop images closed last → IsTop images closed (option_map (with_block next) last)
same_top images closed None next top = top
same_top images closed (Some section) next top = top

next_rises : (images : ℕ) (draft : Draft) (next : Block) (b : Bool) → IsRising images draft →
    IfSome (cond b (Some (record { closed = draft.closed; last = option_map (with_block next) draft.last; awaits_status = draft.awaits_status })) None) (IsRising images)
next_rises images draft next true is = record { closed = is.closed; within = is.within; top = same_top images draft.closed draft.last next is.top }
next_rises images draft next false is = tt

block_rises : (images : ℕ) (draft : Draft) (told : Option Block) → IsRising images draft → IfSome (after_block draft told) (IsRising images)
block_rises images draft None is = tt
block_rises images draft (Some next) is = next_rises images draft next (is_next draft.last next) is

-- ---- lines

there : (images image : ℕ) (b : Bool) → nat_lt image images ≡ b → IfSome (cond b (Some image) None) (λ n. n < images)
there images image true lt = grind (arith, nat_tests)
there images image false lt = tt

number_there : (images : ℕ) (number : Option ℕ) → IfSome (image_below images number) (λ n. n < images)
number_there images None = tt
number_there images (Some number) = there images number (nat_lt number images) refl

if_there : (images : ℕ) (b : Bool) (number : Option ℕ) → IfSome number (λ n. n < images) → IfSome (cond b number None) (λ n. n < images)
if_there images true number is = is
if_there images false number is = tt

map_there : (images : ℕ) (line : List ℕ) → IfSome (map_image images line) (λ n. n < images)
map_there images line = if_there images (begins_map line) _ (number_there images _)

told_rises : (images : ℕ) (draft : Draft) (line : List ℕ) (image : Option ℕ) → IfSome image (λ n. n < images) → IsRising images draft → IfSome (after_told draft line image) (IsRising images)
told_rises images draft line None lt is = block_rises images draft (block line) is
told_rises images draft line (Some image) lt is = map_rises images image draft (rises draft.last image) is lt refl

either : (images : ℕ) (b : Bool) (x y : Option Draft) → IfSome x (IsRising images) → IfSome y (IsRising images) → IfSome (cond b x y) (IsRising images)
either images true x y p q = p
either images false x y p q = q

line_rises : (images : ℕ) (draft : Draft) (line : List ℕ) → IsRising images draft → IfSome (after_line images draft line) (IsRising images)
line_rises images draft line is =
    let told = after_told draft line (map_image images line) in
    either images (is_skipped line) (Some draft) (cond draft.awaits_status (Some (after_status draft)) told) is
    (either images draft.awaits_status (Some (after_status draft)) told (record { closed = is.closed; within = is.within; top = is.top })
    (told_rises images draft line (map_image images line) (map_there images line) is))

-- ---- texts

abbrev IsInOrder : ℕ → List Section → Type 0
IsInOrder images sections = Rise sections × AreBelow images sections

on_rises : (images : ℕ) (more : Draft → Result (List Section) RescueFault) (n : ℕ) (left : Option Draft) → IfSome left (IsRising images) → ((draft : Draft) → IsRising images draft → IfOk (more draft) (IsInOrder images)) →
    IfOk (on_line more n left) (IsInOrder images)
on_rises images more n None is then = tt
on_rises images more n (Some draft) is then = then draft is

lines_rise : (images : ℕ) (lines : List (List ℕ)) (taken : ℕ) (draft : Draft) → IsRising images draft → IfOk (sections_of images lines taken draft) (IsInOrder images)
lines_rise images [] taken draft is = (open_rises images draft.closed draft.last is.closed is.top, open_within images draft.closed draft.last is.within is.top)
lines_rise images (line ∷ lines) taken draft is =
    on_rises images (sections_of images lines (taken + 1)) (taken + 1) (after_line images draft line) (line_rises images draft line is) (λ new rising. lines_rise images lines (taken + 1) new rising)

at_ok : (images : ℕ) (told : Result (List Section) RescueFault) (sections : List Section) → told ≡ Ok sections → IfOk told (IsInOrder images) → IsInOrder images sections
at_ok images told sections e is = rw e at is

in_order : (images : ℕ) (text : List ℕ) (sections : List Section) → rescue_sections images text ≡ Ok sections → IsInOrder images sections
in_order images text sections e = at_ok images (rescue_sections images text) sections e (lines_rise images (text_lines text) 0 no_sections (record { closed = tt; within = tt; top = refl }))

pub sections_rise : (images : ℕ) (text : List ℕ) (sections : List Section) → rescue_sections images text ≡ Ok sections → Rise sections
sections_rise images text sections e = (in_order images text sections e).0

pub of_images : (images : ℕ) (text : List ℕ) (sections : List Section) → rescue_sections images text ≡ Ok sections → AreBelow images sections
of_images images text sections e = (in_order images text sections e).1
