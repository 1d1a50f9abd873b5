-- A text, a line at a time.
use Rattle.std.proofs.Common.{◌≡◌, ◌≢◌, ℕ, ◌+◌, false, ◌==◌, All, List, [], ◌∷◌, ◌++◌, refl, sym, ap, ◌∙◌, rules, tests}
use Rattle.std.specs.declared.option.Option.TheVariants.{None, Some}
use Rattle.std.specs.declared.result.Result.{Result}
use Rattle.std.specs.declared.result.Result.TheVariants.{Ok, Err}
use Rattle.std.proofs.lemmas.List.Splits.{slice_split_at, slice_split_none}
use Rattle.rescue_text.specs.declared.draft.Draft.{Draft}
use Rattle.rescue_text.specs.declared.section.Section.{Section}
use Rattle.rescue_text.specs.declared.fault.RescueFault.{RescueFault}
use Rattle.rescue_text.specs.declared.fault.RescueFault.TheVariants.{Line, Memory}
use Rattle.rescue_text.specs.RescueText.{IsAdded, IsReading, after_line, drafted, on_line, sections_of, text_lines}

other : (byte : ℕ) → byte ≢ 10 → (byte == 10) ≡ false
other byte h = search (rules, tests)

others : (bytes : List ℕ) → All (λ byte. byte ≢ 10) bytes → All (λ byte. (byte == 10) ≡ false) bytes
others bytes h = λ i d lt. other _ (h i d lt)

-- the first line, and the others
first_line : (rest line more : List ℕ) → All (λ byte. byte ≢ 10) line → rest ≡ line ++ 10 ∷ more → text_lines rest ≡ line ∷ text_lines more
first_line rest line more plain is = ap text_lines is ∙ slice_split_at (λ byte. byte == 10) line 10 more (others line plain) refl

-- the last line
last_line : (rest : List ℕ) → All (λ byte. byte ≢ 10) rest → text_lines rest ≡ rest ∷ []
last_line rest plain = slice_split_none (λ byte. byte == 10) rest (others rest plain)

pub line_taken : (images taken : ℕ) (draft new : Draft) (rest line more : List ℕ) (told : Result (List Section) RescueFault) → All (λ byte. byte ≢ 10) line → rest ≡ line ++ 10 ∷ more →
    after_line images draft line ≡ Some new → sections_of images (text_lines rest) taken draft ≡ told → sections_of images (text_lines more) (taken + 1) new ≡ told
line_taken images taken draft new rest line more told plain is left same =
    sym (ap (λ (ls : List (List ℕ)). sections_of images ls taken draft) (first_line rest line more plain is)
    ∙ ap (on_line (sections_of images (text_lines more) (taken + 1)) (taken + 1)) left) ∙ same

pub line_refused : (images taken : ℕ) (draft : Draft) (rest line more : List ℕ) (told : Result (List Section) RescueFault) → All (λ byte. byte ≢ 10) line → rest ≡ line ++ 10 ∷ more →
    after_line images draft line ≡ None → sections_of images (text_lines rest) taken draft ≡ told → told ≡ Err (Line (taken + 1))
line_refused images taken draft rest line more told plain is left same =
    sym same ∙ (ap (λ (ls : List (List ℕ)). sections_of images ls taken draft) (first_line rest line more plain is)
    ∙ ap (on_line (sections_of images (text_lines more) (taken + 1)) (taken + 1)) left)

pub last_taken : (images taken : ℕ) (draft new : Draft) (rest : List ℕ) (told : Result (List Section) RescueFault) → All (λ byte. byte ≢ 10) rest →
    after_line images draft rest ≡ Some new → sections_of images (text_lines rest) taken draft ≡ told → told ≡ Ok (drafted new)
last_taken images taken draft new rest told plain left same =
    sym same ∙ (ap (λ (ls : List (List ℕ)). sections_of images ls taken draft) (last_line rest plain)
    ∙ ap (on_line (sections_of images [] (taken + 1)) (taken + 1)) left)

pub last_refused : (images taken : ℕ) (draft : Draft) (rest : List ℕ) (told : Result (List Section) RescueFault) → All (λ byte. byte ≢ 10) rest →
    after_line images draft rest ≡ None → sections_of images (text_lines rest) taken draft ≡ told → told ≡ Err (Line (taken + 1))
last_refused images taken draft rest told plain left same =
    sym same ∙ (ap (λ (ls : List (List ℕ)). sections_of images ls taken draft) (last_line rest plain)
    ∙ ap (on_line (sections_of images [] (taken + 1)) (taken + 1)) left)

-- a line that is refused, or memory that is wanting
pub answer_at_line : (images taken number : ℕ) (draft new : Draft) (rest line more : List ℕ) (told : Result (List Section) RescueFault) (fault : RescueFault) → All (λ byte. byte ≢ 10) line → rest ≡ line ++ 10 ∷ more →
    number ≡ taken + 1 → IsAdded (after_line images draft line) number new (Err fault) → sections_of images (text_lines rest) taken draft ≡ told → IsReading told (Err fault)
answer_at_line images taken number draft new rest line more told (Line refused) plain is at h same =
    line_refused images taken draft rest line more told plain is h.0 same ∙ ap (λ (n : ℕ). Err (Line n)) (sym (h.1 ∙ at))
answer_at_line images taken number draft new rest line more told Memory plain is at h same = tt

pub answer_at_end : (images taken number : ℕ) (draft new : Draft) (rest : List ℕ) (told : Result (List Section) RescueFault) (fault : RescueFault) → All (λ byte. byte ≢ 10) rest →
    number ≡ taken + 1 → IsAdded (after_line images draft rest) number new (Err fault) → sections_of images (text_lines rest) taken draft ≡ told → IsReading told (Err fault)
answer_at_end images taken number draft new rest told (Line refused) plain at h same =
    last_refused images taken draft rest told plain h.0 same ∙ ap (λ (n : ℕ). Err (Line n)) (sym (h.1 ∙ at))
answer_at_end images taken number draft new rest told Memory plain at h same = tt
