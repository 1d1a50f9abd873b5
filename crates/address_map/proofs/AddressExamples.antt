-- The addresses of a small array, worked out by hand: left-symmetric, four members, two sectors a chunk.
use Rattle.std.proofs.Common.{◌≡◌, ℕ, [], ◌∷◌, map, refl}
use Rattle.std.specs.List.{range_with_len}
use Rattle.raid_params.specs.declared.types.Head.{Head}
use Rattle.raid_params.specs.declared.types.Level.TheVariants.{Raid5}
use Rattle.raid_params.specs.declared.types.Pattern.TheVariants.{Ls}
use Rattle.raid_params.specs.declared.types.Syndrome.TheVariants.{NoQ}
use Rattle.raid_terms.specs.Address.{home_row, home_item, home_sector}
use Rattle.raid_terms.specs.Role.{item_of}

abbrev head : ℕ → Head
head delay = record { level = Raid5; members = 4; pattern = Ls; delay = delay; syndrome = NoQ; chunk = 2; offset = 0 }

-- the slot that holds a volume sector
abbrev home_slot : Head → ℕ → ℕ
home_slot head v = item_of head (home_row head v) (home_item head v)

-- row 0: 0 1 2 P; row 1: 1 2 P 0
slots : map (home_slot (head 1)) (range_with_len 0 12) ≡ 0 ∷ 0 ∷ 1 ∷ 1 ∷ 2 ∷ 2 ∷ 3 ∷ 3 ∷ 0 ∷ 0 ∷ 1 ∷ 1 ∷ []
slots = refl

sectors : map (home_sector (head 1)) (range_with_len 0 12) ≡ 0 ∷ 1 ∷ 0 ∷ 1 ∷ 0 ∷ 1 ∷ 2 ∷ 3 ∷ 2 ∷ 3 ∷ 2 ∷ 3 ∷ []
sectors = refl

-- with a delay of two rows, row 1 is as row 0, and sectors lie where they did
delayed_slots : map (home_slot (head 2)) (range_with_len 0 12) ≡ 0 ∷ 0 ∷ 1 ∷ 1 ∷ 2 ∷ 2 ∷ 0 ∷ 0 ∷ 1 ∷ 1 ∷ 2 ∷ 2 ∷ []
delayed_slots = refl

delayed_sectors : map (home_sector (head 2)) (range_with_len 0 12) ≡ 0 ∷ 1 ∷ 0 ∷ 1 ∷ 0 ∷ 1 ∷ 2 ∷ 3 ∷ 2 ∷ 3 ∷ 2 ∷ 3 ∷ []
delayed_sectors = refl
