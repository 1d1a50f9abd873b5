-- What a walk has before it, and where it stands.
use Rattle.std.specs.Prelude.{ℕ, suc, ◌≡◌, ◌+◌, ◌-◌, ◌<◌, ◌≤◌, min, max, Bool, true, nat_lt, if◌then◌else◌, List, [], ◌∷◌, ◌++◌, length, take, drop, reverse, sum_by, Option, Some, None}
use Rattle.raid_params.specs.declared.limits.TheConstants.{MOST}
use Rattle.search_terms.specs.SlotLists.{fillings}
use Rattle.slot_math.specs.Space.{lists_of}
use Rattle.slot_math.specs.Ways.{ends, before, IsStart}
use Rattle.slot_math.specs.declared.space.Space.{Space}
use Rattle.candidate_enum.specs.Survivors.{Question, admitted_leaves}
use Rattle.candidate_enum.specs.Tests.{tests}
use Rattle.candidate_enum.specs.declared.leaf.Leaf.{Leaf}
use Rattle.candidate_enum.specs.declared.walk.Walk.{Walk}

-- the leaves that a walk still gives, and how many tests it may still take
pub record Left : Type 0 where
  pub leaves : List Leaf
  pub allowance : ℕ

abbrev pub nothing_left : Left
nothing_left = record { leaves = []; allowance = 0 }

-- which of the fillings of a place this is
abbrev pub index_of : ℕ → Option ℕ → ℕ
index_of images None = images
index_of images (Some i) = i

-- the rank of the first list that begins with the prefix, whose places stand backwards here
unfoldable pub base_back : Space → List (Option ℕ) → ℕ
base_back s [] = 0
base_back s (x ∷ back) = base_back s back + before s (reverse back) x

abbrev pub base_of : Space → List (Option ℕ) → ℕ
base_of s p = base_back s (reverse p)

-- how many lists begin with p and then hold one of the first j fillings
unfoldable pub children_before : Space → List (Option ℕ) → ℕ → ℕ
children_before s p j = sum_by (λ y. length (ends s (p ++ y ∷ []))) (take j (fillings s.images))

-- the tests of the prefixes with one place more than p, from filling j on
unfoldable pub children_tests : Question → List (Option ℕ) → ℕ → ℕ
children_tests q p j = sum_by (λ y. tests q (q.space.members - suc (length p)) (p ++ y ∷ [])) (drop j (fillings q.space.images))

-- the tests of what comes after all lists that begin with the prefix, whose places stand backwards here
unfoldable pub after_back : Question → List (Option ℕ) → ℕ
after_back q [] = 0
after_back q (x ∷ back) = children_tests q (reverse back) (index_of q.space.images x + 1) + after_back q back

-- the leaves of the range from this rank on
unfoldable pub leaves_from : Question → ℕ → List Leaf
leaves_from q rank = admitted_leaves q (max q.from rank) q.stop

-- a walk that stands at a prefix that is not tested yet, whose lists begin at this rank
unfoldable pub left_at : Question → List (Option ℕ) → ℕ → Left
left_at q p rank = record { leaves = leaves_from q rank; allowance = tests q (q.space.members - length p) p + after_back q (reverse p) }

-- a walk that is done with a prefix and all below it, where the next list has this rank
unfoldable pub left_after : Question → List (Option ℕ) → ℕ → Left
left_after q p rank = record { leaves = leaves_from q rank; allowance = after_back q (reverse p) }

-- a walk that goes on with the prefixes of one place more than p, from filling j on
unfoldable pub left_children : Question → List (Option ℕ) → ℕ → ℕ → Left
left_children q p j rank = record { leaves = leaves_from q rank; allowance = children_tests q p j + after_back q (reverse p) }

-- a walk at a prefix, or at its end
abbrev pub left_from : Question → Walk → Left
left_from q walk = if walk.going then left_at q walk.slots.items walk.rank else nothing_left

-- a space that is not too large, and a range of its ranks
pub record IsSearch (s : Space) (from stop : ℕ) : Type 0 where
  pub images : s.images ≤ MOST
  pub members : s.members ≤ MOST
  pub ordered : from ≤ stop
  pub ranks : stop ≤ length (lists_of s)

-- some rank of the range is among `count` ranks from `rank` on
abbrev pub overlaps : ℕ → ℕ → ℕ → ℕ → Bool
overlaps from stop rank count = nat_lt (max from rank) (min stop (rank + count))

-- the prefixes with fewer places than this many of p's are admitted
abbrev pub Admitted : Question → List (Option ℕ) → ℕ → Type 0
Admitted q p n = (k : ℕ) → k < n → q.admits (take k p) ≡ true

-- a walk may be done with the prefix
pub record IsDone (q : Question) (p : List (Option ℕ)) (rank : ℕ) : Type 0 where
  pub short : length p ≤ q.space.members
  pub start : IsStart q.space p
  pub next : rank ≡ base_of q.space p + length (ends q.space p)
  pub parents : Admitted q p (length p)

-- a walk may go on below the prefix, from filling j on
pub record IsParent (q : Question) (p : List (Option ℕ)) (j rank : ℕ) : Type 0 where
  pub short : length p < q.space.members
  pub start : IsStart q.space p
  pub filling : j ≤ q.space.images + 1
  pub at : rank ≡ base_of q.space p + children_before q.space p j
  pub parents : Admitted q p (length p + 1)

-- a walk may stand at the prefix
pub record StandsAt (q : Question) (p : List (Option ℕ)) (rank : ℕ) : Type 0 where
  pub short : length p ≤ q.space.members
  pub start : IsStart q.space p
  pub at : rank ≡ base_of q.space p
  pub parents : Admitted q p (length p)
  pub meeting : overlaps q.from q.stop rank (length (ends q.space p)) ≡ true

-- a walk stands at a whole list that is admitted
pub record IsMet (q : Question) (p : List (Option ℕ)) (rank : ℕ) : Type 0 where
  pub stands : StandsAt q p rank
  pub long : length p ≡ q.space.members
  pub admitted : q.admits p ≡ true

-- a walk that has come to a prefix, or to its end
abbrev pub MayStand : Question → Walk → Type 0
MayStand q walk = walk.going ≡ true → StandsAt q walk.slots.items walk.rank

abbrev pub leaf_list : Option Leaf → List Leaf
leaf_list None = []
leaf_list (Some leaf) = leaf ∷ []

-- a turn tests one prefix: what was left is the leaf, if one was met, and what is left now
pub record IsTurn (old : Left) (leaf : Option Leaf) (new : Left) : Type 0 where
  pub leaves : old.leaves ≡ leaf_list leaf ++ new.leaves
  pub cost : old.allowance ≡ new.allowance + 1

-- how far a look among the prefixes of one place more than p has come: what was left at first is left from filling j on
pub record Looked (q : Question) (p : List (Option ℕ)) (old : Left) (j at : ℕ) : Type 0 where
  pub same : old ≡ left_children q p j at
  pub parent : IsParent q p j at

-- a look has found a prefix
pub record IsFound (q : Question) (old : Left) (p : List (Option ℕ)) (at : ℕ) : Type 0 where
  pub same : old ≡ left_at q p at
  pub stands : StandsAt q p at

-- a look has found none: the walk is done with the prefix
pub record IsPassed (q : Question) (old : Left) (p : List (Option ℕ)) (at : ℕ) : Type 0 where
  pub same : old ≡ left_after q p at
  pub done : IsDone q p at
