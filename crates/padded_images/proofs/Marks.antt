-- The marks of a plan, as the padding raises them.
use Rattle.std.proofs.Common.{ℕ, zero, suc, ◌<◌, List, [], ◌∷◌, slice_get, All, IsSomeAnd, arith}
use Rattle.std.proofs.lemmas.List.Elements.{All-head, All-tail, All-weaker}
use Rattle.landmark_rules.specs.Groups.{IsMark}
use Rattle.landmark_rules.specs.declared.marks.Group.{Group}
use Rattle.raid_params.specs.declared.limits.TheConstants.{MOST}

below : (limit : ℕ) (lengths : List ℕ) (i sector : ℕ) → All (λ n. n < limit) lengths → IsSomeAnd (slice_get lengths i) (λ n. sector < n) → sector < limit
below limit [] i sector all is = absurd is
below limit (n ∷ lengths) zero sector all is = let less = All-head (λ n. n < limit) n lengths all in omega (arith, is, less)
below limit (n ∷ lengths) (suc i) sector all is = below limit lengths i sector (All-tail (λ n. n < limit) n lengths all) is

-- their images are below MOST
pub few_images : (lengths : List ℕ) (groups : List Group) → All (λ group. All (IsMark lengths group.kind) group.marks) groups → All (λ group. All (λ mark. mark.image < MOST) group.marks) groups
few_images lengths groups all =
    All-weaker (λ (group : Group). All (IsMark lengths group.kind) group.marks) (λ group. All (λ mark. mark.image < MOST) group.marks)
    (λ group marks. All-weaker (IsMark lengths group.kind) (λ mark. mark.image < MOST) (λ mark is. is.image) group.marks marks) groups all

-- their sectors are below each limit of the lengths
pub near_sectors : (limit : ℕ) (lengths : List ℕ) (groups : List Group) → All (λ n. n < limit) lengths → All (λ group. All (IsMark lengths group.kind) group.marks) groups → All (λ group. All (λ mark. mark.sector < limit) group.marks) groups
near_sectors limit lengths groups short all =
    All-weaker (λ (group : Group). All (IsMark lengths group.kind) group.marks) (λ group. All (λ mark. mark.sector < limit) group.marks)
    (λ group marks. All-weaker (IsMark lengths group.kind) (λ mark. mark.sector < limit) (λ mark is. below limit lengths mark.image mark.sector short is.sector) group.marks marks) groups all
