-- The line after the patterns of a plan.
use Rattle.std.proofs.Common.{◌≡◌, ◌≢◌, ◌≤◌, ◌<◌, ◌^◌, ℕ, Bool, true, List, [], ◌∷◌, ◌++◌, All, codes, decimal, length, map, get_or, refl, sym, ap, ◌∙◌, arith, lit≤}
use Rattle.std.proofs.lemmas.List.{append_cancel_left}
use Rattle.raid_params.specs.declared.limits.TheConstants.{MOST_SYNDROMES}
use Rattle.raid_params.specs.declared.types.Syndrome.{Syndrome}
use Rattle.raid_params.specs.declared.types.Syndrome.TheVariants.{NoQ}
use Rattle.search_plan.specs.Places.{syndrome_place}
use Rattle.search_plan.specs.Plans.{AreRising}
use Rattle.plan_text.specs.declared.parts.AfterPatterns.{AfterPatterns}
use Rattle.plan_text.specs.declared.parts.AfterPatterns.TheVariants.{Delays, Syndromes}
use Rattle.plan_text.specs.Parts.{AreDelays, MayComeAfter, line_after}
use Rattle.plan_text.specs.PlanText.{IsLine, some_delays}
use Rattle.value_text.specs.NameLaws.{number_law, syndrome_law}
use Rattle.value_text.specs.Spelling.{commas, syndrome_name}
use Rattle.value_text.proofs.Fits.{delays_are_short}
use Rattle.value_text.proofs.Lists.{word_line}
use Rattle.plan_text.proofs.OneLine.{a_line}
use Rattle.plan_text.proofs.SectionLines.{of_one, one_rises}

-- some line that may stand there
pub some_syndromes : AfterPatterns
some_syndromes = Syndromes (record { items = NoQ ∷ [] })

pub some_after : (third : Bool) → MayComeAfter third some_syndromes
unfolding some_syndromes
some_after third = (one_rises 0, lit≤ tt, of_one (λ syndrome. Unit {0}) NoQ tt)

-- none has a line feed
pub plain_after : (third : Bool) (what : AfterPatterns) → MayComeAfter third what → IsLine (line_after what)
plain_after third (Delays delays) may = word_line decimal (λ n. n < 2 ^ 64) number_law (codes "delays ") (a_line (codes "delays ") refl) delays.items (delays_are_short delays.items may.1.2)
plain_after third (Syndromes syndromes) may = word_line syndrome_name (λ x. Unit {0}) syndrome_law (codes "syndromes ") (a_line (codes "syndromes ") refl) syndromes.items may.2

abbrev Same : ℕ → ℕ → Type 0
Same m n = m ≡ n

-- delays that no text spells, and those that no earlier version has, are no line's
pub none_of_delays : (third : Bool) (line text : List ℕ) → line ≡ codes "delays " ++ text → (third ≡ true → (ns : List ℕ) → AreDelays ns × (some_delays ns ≡ true) → text ≢ commas (map decimal ns)) → (what : AfterPatterns) → MayComeAfter third what → line ≢ line_after what
none_of_delays third line text begins none (Delays delays) may e = none may.0 delays.items (may.1, may.2) (append_cancel_left (codes "delays ") text (commas (map decimal delays.items)) (sym begins ∙ e))
none_of_delays third line text begins none (Syndromes syndromes) may e = let first : Same 100 115 = ap (λ (bytes : List ℕ). get_or bytes 0 0) (sym begins ∙ e) in omega arith

-- nor is a line of neither word
pub none_of_orders : (third : Bool) (line : List ℕ) → ((rest : List ℕ) → line ≢ codes "delays " ++ rest) →
    ((xs : List Syndrome) → AreRising (map syndrome_place xs) × (length xs ≤ MOST_SYNDROMES) × All (λ x. Unit {0}) xs → line ≢ codes "syndromes " ++ commas (map syndrome_name xs)) → (what : AfterPatterns) → MayComeAfter third what → line ≢ line_after what
none_of_orders third line none other (Delays delays) may e = none (commas (map decimal delays.items)) e
none_of_orders third line none other (Syndromes syndromes) may e = other syndromes.items may e
