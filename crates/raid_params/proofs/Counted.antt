-- Slots that are gone through one by one.
use Rattle.std.proofs.Common.{◌≡◌, ℕ, ◌==◌, ◌||◌, Bool, false, List, [], ◌∷◌, length, filter, count_by, Option, None, Some, refl, sym, ap, arith, ◌∙◌}
use Rattle.std.proofs.lemmas.List.Sums.{length-filter}
use Rattle.std.specs.List.{list_any}
use Rattle.std.specs.Option.{is_none, option_map_or}
use Rattle.raid_params.specs.Slots.{empties, stands}

empty_ones_of : (slots : List (Option ℕ)) → length (filter is_none slots) ≡ empties slots
unfolding empties
empty_ones_of [] = refl
empty_ones_of (None ∷ slots) = let more = empty_ones_of slots in omega (arith, more)
empty_ones_of (Some i ∷ slots) = empty_ones_of slots

-- the empty ones
pub empty_ones : (n : ℕ) (slots : List (Option ℕ)) → n ≡ count_by is_none slots → n ≡ empties slots
empty_ones n slots e = e ∙ sym (length-filter is_none slots) ∙ empty_ones_of slots

holds_one_of : (image : ℕ) (slots : List (Option ℕ)) → list_any (λ slot. option_map_or (λ other. image == other) slot false) slots ≡ stands image slots
unfolding stands
holds_one_of image [] = refl
holds_one_of image (None ∷ slots) = holds_one_of image slots
holds_one_of image (Some i ∷ slots) = ap (λ (rest : Bool). (image == i) || rest) (holds_one_of image slots)

-- one that holds the image
pub holds_one : (image : ℕ) (slots : List (Option ℕ)) (found : Bool) → found ≡ list_any (λ slot. option_map_or (λ other. image == other) slot false) slots → found ≡ stands image slots
holds_one image slots found e = e ∙ holds_one_of image slots
