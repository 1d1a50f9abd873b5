-- Laws of the ordered list of a space.
use Rattle.std.specs.Prelude.{ℕ, ◌≡◌, ◌↔◌, true, List, length, slice_get}
use Rattle.std.specs.declared.option.Option.{Option}
use Rattle.std.specs.declared.option.Option.TheVariants.{Some}
use Rattle.search_terms.specs.SlotLists.{is_kept, slot_lists}
use Rattle.slot_math.specs.Space.{lists_of, rank_in}
use Rattle.slot_math.specs.Ways.{AllImages}
use Rattle.slot_math.specs.declared.space.Space.{Space}

-- no list stands at two places
abbrev pub EachListOnce : Type 0
EachListOnce = (images members low high i k : ℕ) (slots : List (Option ℕ)) →
    slice_get (slot_lists images members low high) i ≡ Some slots → slice_get (slot_lists images members low high) k ≡ Some slots → i ≡ k

-- a list stands at a rank exactly where that is the rank of the list
abbrev pub RanksAndListsUndo : Type 0
RanksAndListsUndo = (space : Space) (rank : ℕ) (slots : List (Option ℕ)) →
    (slice_get (lists_of space) rank ≡ Some slots) ↔ (rank_in space slots ≡ Some rank)

-- each list has `members` places, its images are below `images` and none stands twice, and from low to high
-- places are empty
abbrev pub EachListIsShaped : Type 0
EachListIsShaped = (images members low high rank : ℕ) (slots : List (Option ℕ)) →
    slice_get (slot_lists images members low high) rank ≡ Some slots →
    (length slots ≡ members) × AllImages images slots × (is_kept low high slots ≡ true)
