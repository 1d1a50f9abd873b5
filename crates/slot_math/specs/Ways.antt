-- How a prefix goes on to lists of a space, and how many.
use Rattle.std.specs.Prelude.{ℕ, zero, suc, ◌≡◌, true, false, ◌+◌, ◌-◌, ◌*◌, ◌<◌, ◌≤◌, Bool, nat_le, nat_lt, ◌&&◌, ◌==◌, if◌then◌else◌, List, [], ◌∷◌, ◌++◌, length, filter}
use Rattle.std.specs.declared.option.Option.{Option}
use Rattle.std.specs.declared.option.Option.TheVariants.{None, Some}
use Rattle.search_terms.specs.SlotLists.{all_lists, is_kept}
use Rattle.raid_params.specs.Slots.{is_distinct, empties, stands}
use Rattle.slot_math.specs.declared.space.Space.{Space}

-- how many ways there are to fill m more places, with u unused images and e empty places so far
unfoldable pub ways : ℕ → ℕ → ℕ → ℕ → ℕ → ℕ
ways low high u zero e = if nat_le low e && nat_le e high then 1 else 0
ways low high u (suc m) e = u * ways low high (u - 1) m e + ways low high u m (e + 1)

-- the images of the list are below n
abbrev pub AllImages : ℕ → List (Option ℕ) → Type 0
AllImages n [] = Unit {0}
AllImages n (None ∷ l) = AllImages n l
AllImages n (Some i ∷ l) = (i < n) × AllImages n l

-- the beginning of a list of `members` places over so many images: no more places, with these images
pub record IsPrefixOf (count members : ℕ) (places : List (Option ℕ)) : Type 0 where
  pub short : length places ≤ members
  pub images : AllImages count places

-- the ends with which a prefix goes on to a list of the space
unfoldable pub ends : Space → List (Option ℕ) → List (List (Option ℕ))
ends s p = filter (λ l. is_kept s.low s.high (p ++ l)) (all_lists s.images (s.members - length p))

-- how many lists go on from a prefix with one of the images below k
unfoldable pub images_before : Space → List (Option ℕ) → ℕ → ℕ
images_before s p zero = 0
images_before s p (suc k) = images_before s p k + length (ends s (p ++ Some k ∷ []))

-- how many lists go on from a prefix with what comes before this in a place
abbrev pub before : Space → List (Option ℕ) → Option ℕ → ℕ
before s p (Some i) = images_before s p i
before s p None = images_before s p s.images

-- an image below n, or nothing
abbrev pub IsPlace : ℕ → Option ℕ → Type 0
IsPlace n None = Unit {0}
IsPlace n (Some i) = i < n

-- the prefix has images of the space, and none of them twice
abbrev pub IsStart : Space → List (Option ℕ) → Type 0
IsStart s p = AllImages s.images p × (is_distinct p ≡ true)

-- n lists go on from a prefix with each image that is not in it
abbrev pub IsImageWays : Space → List (Option ℕ) → ℕ → Type 0
IsImageWays s p n = (i : ℕ) → i < s.images → stands i p ≡ false → n ≡ length (ends s (p ++ Some i ∷ []))

-- the images of the list are below n
unfoldable pub are_images : ℕ → List (Option ℕ) → Bool
are_images n [] = true
are_images n (None ∷ l) = are_images n l
are_images n (Some i ∷ l) = nat_lt i n && are_images n l

-- the list is one of the space: its places, its images, none twice, and its number of empty places
abbrev pub is_listed : Space → List (Option ℕ) → Bool
is_listed s l = (length l == s.members) && are_images s.images l && is_distinct l && nat_le s.low (empties l) && nat_le (empties l) s.high
