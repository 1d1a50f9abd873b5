-- The leaves that a walk gives: a filter of the ordered list of its space.
use Rattle.std.specs.Prelude.{ℕ, ◌+◌, Bool, List, [], ◌∷◌, length, take, filter, slice_range}
use Rattle.std.specs.List.{list_all, range_with_len}
use Rattle.std.specs.declared.option.Option.{Option}
use Rattle.slot_math.specs.Space.{lists_of}
use Rattle.slot_math.specs.declared.space.Space.{Space}
use Rattle.candidate_enum.specs.declared.leaf.Leaf.{Leaf}

-- what is asked of a walk: a space, which prefixes are admitted, and a range of ranks
pub record Question : Type 0 where
  pub space : Space
  pub admits : List (Option ℕ) → Bool
  pub from : ℕ
  pub stop : ℕ

abbrev pub question : Space → (List (Option ℕ) → Bool) → ℕ → ℕ → Question
question space admits from stop = record { space = space; admits = admits; from = from; stop = stop }

-- a list and its rank
abbrev pub leaf_of : ℕ → List (Option ℕ) → Leaf
leaf_of rank slots = record { rank = rank; slots = record { items = slots } }

-- the lists with their ranks, which begin at this one
unfoldable pub numbered : ℕ → List (List (Option ℕ)) → List Leaf
numbered rank [] = []
numbered rank (slots ∷ lists) = leaf_of rank slots ∷ numbered (rank + 1) lists

-- every prefix of the list is admitted, the empty and the whole one included
unfoldable pub all_admitted : (List (Option ℕ) → Bool) → List (Option ℕ) → Bool
all_admitted admits slots = list_all (λ k. admits (take k slots)) (range_with_len 0 (length slots + 1))

-- the leaves of ranks from a up to and not including b whose every prefix is admitted, in order of rank
abbrev pub admitted_leaves : Question → ℕ → ℕ → List Leaf
admitted_leaves q a b = filter (λ leaf. all_admitted q.admits leaf.slots.items) (slice_range (numbered 0 (lists_of q.space)) a b)

-- what a walk is to give
abbrev pub survivors : Question → List Leaf
survivors q = admitted_leaves q q.from q.stop
