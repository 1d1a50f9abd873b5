-- How many tests a walk may take.
use Rattle.std.specs.Prelude.{ℕ, zero, suc, ◌+◌, Bool, if◌then◌else◌, List, [], ◌∷◌, ◌++◌, slice_range, sum_by}
use Rattle.std.specs.List.{list_any}
use Rattle.std.specs.declared.option.Option.{Option}
use Rattle.search_terms.specs.SlotLists.{fillings}
use Rattle.slot_math.specs.Space.{begins, lists_of}
use Rattle.candidate_enum.specs.Survivors.{Question}

-- some list of a rank in the range begins with the prefix
unfoldable pub meets : Question → List (Option ℕ) → Bool
meets q prefix = list_any (begins prefix) (slice_range (lists_of q.space) q.from q.stop)

-- the tests of a prefix that has `places` places to come. There are none where no list of a rank in the range
-- begins with it, and one where it is not admitted or has all its places. Elsewhere there is one for the
-- prefix, and those of the prefixes with one place more
unfoldable pub tests : Question → ℕ → List (Option ℕ) → ℕ
tests q zero prefix = if meets q prefix then 1 else 0
tests q (suc places) prefix =
    if meets q prefix
    then (if q.admits prefix then 1 + sum_by (λ p. tests q places (prefix ++ p ∷ [])) (fillings q.space.images) else 1)
    else 0
