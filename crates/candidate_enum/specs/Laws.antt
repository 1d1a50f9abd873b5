-- Laws of what a walk gives.
use Rattle.std.specs.Prelude.{ℕ, ◌≡◌, ◌-◌, ◌≤◌, Bool, false, length, map, filter, slice_get}
use Rattle.std.specs.List.{range_with_len}
use Rattle.std.specs.Option.{option_map_or}
use Rattle.std.specs.declared.option.Option.TheVariants.{Some}
use Rattle.slot_math.specs.Space.{lists_of}
use Rattle.candidate_enum.specs.Survivors.{Question, all_admitted, survivors}
use Rattle.candidate_enum.specs.declared.leaf.Leaf.{Leaf}

-- every prefix of the list of this rank is admitted
abbrev pub rank_admitted : Question → ℕ → Bool
rank_admitted q rank = option_map_or (all_admitted q.admits) (slice_get (lists_of q.space) rank) false

-- the ranks of what a walk gives are the ranks of its range that are admitted, in order
abbrev pub SurvivorsByRank : Type 0
SurvivorsByRank = (q : Question) → q.from ≤ q.stop → q.stop ≤ length (lists_of q.space) →
    map (λ leaf. leaf.rank) (survivors q) ≡ filter (rank_admitted q) (range_with_len q.from (q.stop - q.from))

-- and each holds the list of its rank
abbrev pub SurvivorsAreLists : Type 0
SurvivorsAreLists = (q : Question) (i : ℕ) (leaf : Leaf) → q.from ≤ q.stop → q.stop ≤ length (lists_of q.space) →
    slice_get (survivors q) i ≡ Some leaf → slice_get (lists_of q.space) leaf.rank ≡ Some leaf.slots.items
