-- The bytes of regions.
use Rattle.std.proofs.Common.{◌≡◌, ℕ, ◌*◌, ◌≤◌, arith}
use Rattle.std.proofs.lemmas.Nat.{mul-le}
use Rattle.member_regions.specs.Regions.{IsRoomFor, KeepsRoom, Room}

-- the regions of some members lie within those of more
pub room_inside : (stride n members bytes : ℕ) → bytes ≡ stride * members → n ≤ members → stride * n ≤ bytes
room_inside stride n members bytes is few = let most : stride * n ≤ stride * members = mul-le stride n stride members (omega arith) few in omega arith

-- room for some members is room for fewer
pub room_less : (n m sectors : ℕ) (room : Room) → n ≤ m → IsRoomFor m sectors room → IsRoomFor n sectors room
room_less n m sectors room few is = record { many = omega (arith, is.many); long = is.long }

-- and stays so while the bytes change
pub room_kept : (n sectors : ℕ) (old new : Room) → IsRoomFor n sectors old → KeepsRoom old new → IsRoomFor n sectors new
room_kept n sectors old new is kept = record { many = omega (arith, is.many, kept.members); long = omega (arith, is.long, kept.stride) }
