-- Which chunks have a copy, and where a sector of the volume is read.
use Rattle.std.proofs.Common.{◌≡◌, ℕ, zero, suc, ◌+◌, ◌*◌, ◌/◌, ◌%◌, ◌<◌, ◌≤◌, ◌⊎◌, true, false, get_or, sym, ap, ◌∙◌, arith, Option, None, Some, IsTrue, inl, inr, min, nat_eq}
use Rattle.std.specs.List.{find, range_with_len}
use Rattle.std.specs.Option.{is_none, is_some, unwrap_or}
use Rattle.std.proofs.lemmas.Bool.{cases_lt}
use Rattle.std.proofs.lemmas.Bool.Decides.{nat_tests}
use Rattle.std.proofs.lemmas.Nat.{div-add-mod', div-mul-add, le-div, mod_below, mul-le}
use Rattle.near_mirror.specs.Copies.{IsCopy, chunks_of, copy_cell, copy_sector, copy_slot, first_chunks, near_chunks, near_rows, near_sectors, slot_of}
use Rattle.near_mirror.specs.Heads.{is_valid_near}
use Rattle.near_mirror.specs.Validity.{shape_fault}
use Rattle.near_mirror.specs.Volume.{IsHome, IsMirror, first_bare, held_copy, home_copy, is_bare, is_held}
use Rattle.near_mirror.specs.declared.map.CopyPlace.{CopyPlace}
use Rattle.near_mirror.specs.declared.types.Copying.{Copying}
use Rattle.near_mirror.specs.declared.types.Copying.TheVariants.{Near, Far, Offset}
use Rattle.near_mirror.specs.declared.types.NearHead.{NearHead}
use Rattle.near_mirror.specs.declared.types.NearSet.{NearSet}
use Rattle.near_mirror.proofs.Finds.{found, in_front, missed, same_find}
use Rattle.near_mirror.proofs.Heads.{chunk_within, some_copies, some_members}
use Rattle.near_mirror.proofs.Turns.{whole_below, whole_turns}

pub shaped_head : (set : NearSet) (images : ℕ) → shape_fault set images ≡ None → IsTrue (is_valid_near set.head)
shaped_head set images h = grind (arith, nat_tests)

-- a set that breaks no rule is a mirror
pub mirror_of : (set : NearSet) (images end : ℕ) → shape_fault set images ≡ None → first_bare set end ≡ None → IsMirror set end
mirror_of set images end h held = record { head = shaped_head set images h; members = grind (arith, nat_tests); held = held }

-- the copies of chunks that are a whole number of rows apart are on the same slots
same_slot : (copying : Copying) (members copies copy chunk : ℕ) → 0 < members → slot_of copying members copies copy (chunk % members) ≡ slot_of copying members copies copy chunk
same_slot Near members copies copy chunk some =
    let split : chunk / members * members + chunk % members ≡ chunk = div-add-mod' chunk members in
    let parts : copies * (chunk / members * members + chunk % members) ≡ copies * (chunk / members) * members + copies * (chunk % members) = grind arith in
    let whole : copies * (chunk / members * members + chunk % members) ≡ copies * chunk = ap (λ (c : ℕ). copies * c) split in
    let place : copies * (chunk / members) * members + copy_cell copies (chunk % members) copy ≡ copy_cell copies chunk copy = omega arith in
    sym (whole_turns (copies * (chunk / members)) (copy_cell copies (chunk % members) copy) members some) ∙ ap (λ (x : ℕ). x % members) place
same_slot Far members copies copy chunk some =
    let split : chunk / members * members + chunk % members ≡ chunk = div-add-mod' chunk members in
    let place : chunk / members * members + (chunk % members + copy) ≡ chunk + copy = omega arith in
    sym (whole_turns (chunk / members) (chunk % members + copy) members some) ∙ ap (λ (x : ℕ). x % members) place
same_slot Offset members copies copy chunk some =
    let split : chunk / members * members + chunk % members ≡ chunk = div-add-mod' chunk members in
    let place : chunk / members * members + (chunk % members + copy) ≡ chunk + copy = omega arith in
    sym (whole_turns (chunk / members) (chunk % members + copy) members some) ∙ ap (λ (x : ℕ). x % members) place

same_bare : (set : NearSet) (chunk : ℕ) → 0 < set.head.members → is_bare set (chunk % set.head.members) ≡ is_bare set chunk
unfolding held_copy
same_bare set chunk some =
    ap (λ (o : Option ℕ). is_none o)
    (same_find (is_held set (chunk % set.head.members)) (is_held set chunk) (range_with_len 0 set.head.layout.copies)
    (λ copy. ap (λ (k : ℕ). is_some (get_or set.slots.items k None)) (same_slot set.head.layout.copying set.head.members set.head.layout.copies copy chunk some)))

-- as many rows as there are copies hold as many chunks as there are members
first_rows : (copying : Copying) (members copies : ℕ) → 0 < copies → chunks_of copying members copies copies ≡ members
first_rows Near members copies some =
    let turned : copies * members ≡ members * copies + 0 = grind arith in
    ap (λ (x : ℕ). x / copies) turned ∙ div-mul-add members copies 0 some
first_rows Far members copies some =
    let turned : copies ≡ 1 * copies + 0 = grind arith in
    let one : copies / copies ≡ 1 = ap (λ (x : ℕ). x / copies) turned ∙ div-mul-add 1 copies 0 some in
    ap (λ (x : ℕ). x * members) one ∙ (let times : 1 * members ≡ members = grind arith in times)
first_rows Offset members copies some =
    let turned : copies ≡ 1 * copies + 0 = grind arith in
    let one : copies / copies ≡ 1 = ap (λ (x : ℕ). x / copies) turned ∙ div-mul-add 1 copies 0 some in
    ap (λ (x : ℕ). x * members) one ∙ (let times : 1 * members ≡ members = grind arith in times)

-- and more rows no fewer
more_rows : (copying : Copying) (members copies rows : ℕ) → 0 < copies → copies ≤ rows → members ≤ chunks_of copying members copies rows
more_rows Near members copies rows some enough =
    let turned : members * copies ≡ copies * members = grind arith in
    let fits : copies * members ≤ rows * members = mul-le copies members rows members enough (omega arith) in
    le-div members (rows * members) copies some (omega arith)
more_rows Far members copies rows some enough =
    let one : 1 ≤ rows / copies = le-div 1 rows copies some (omega arith) in
    let fits : 1 * members ≤ rows / copies * members = mul-le 1 members (rows / copies) members one (omega arith) in
    omega arith
more_rows Offset members copies rows some enough =
    let one : 1 ≤ rows / copies = le-div 1 rows copies some (omega arith) in
    let fits : 1 * members ≤ rows / copies * members = mul-le 1 members (rows / copies) members one (omega arith) in
    omega arith

-- a multiple of what another multiple is not past is not past it
fewer_times : (a b n : ℕ) → 0 < n → a * n ≤ b * n → a ≤ b
fewer_times a b n some h = elim (cases_lt b a) [
  | inl lt ↦ (let more : (b + 1) * n ≤ a * n = mul-le (b + 1) n a n (omega arith) (omega arith) in let step : (b + 1) * n ≡ b * n + n = grind arith in absurd (omega arith))
  | inr le ↦ le
]

-- and fewer no more
few_rows : (copying : Copying) (members copies rows : ℕ) → 0 < copies → rows ≤ copies → chunks_of copying members copies rows ≤ members
few_rows Near members copies rows some few =
    let whole = whole_below (rows * members) copies in
    let fits : rows * members ≤ copies * members = mul-le rows members copies members few (omega arith) in
    let turned : copies * members ≡ members * copies = grind arith in
    fewer_times ((rows * members) / copies) members copies some (omega arith)
few_rows Far members copies rows some few =
    let whole = whole_below rows copies in
    let one : rows / copies ≤ 1 = fewer_times (rows / copies) 1 copies some (omega arith) in
    let fits : rows / copies * members ≤ 1 * members = mul-le (rows / copies) members 1 members one (omega arith) in
    omega arith
few_rows Offset members copies rows some few =
    let whole = whole_below rows copies in
    let one : rows / copies ≤ 1 = fewer_times (rows / copies) 1 copies some (omega arith) in
    let fits : rows / copies * members ≤ 1 * members = mul-le (rows / copies) members 1 members one (omega arith) in
    omega arith

-- so the chunks of the first rows, no more than copies, are all, or one for each member
first_are : (copying : Copying) (members copies rows : ℕ) → 0 < copies → chunks_of copying members copies (min rows copies) ≡ min (chunks_of copying members copies rows) members
first_are copying members copies rows some = elim (cases_lt rows copies) [
  | inl lt ↦
      let least : min rows copies ≡ rows = omega arith in
      let few = few_rows copying members copies rows some (omega arith) in
      ap (chunks_of copying members copies) least ∙ (let all : chunks_of copying members copies rows ≡ min (chunks_of copying members copies rows) members = omega arith in all)
  | inr le ↦
      let least : min rows copies ≡ copies = omega arith in
      let more = more_rows copying members copies rows some le in
      ap (chunks_of copying members copies) least ∙ first_rows copying members copies some
      ∙ (let one : members ≡ min (chunks_of copying members copies rows) members = omega arith in one)
]

pub first_chunks_are : (head : NearHead) (end : ℕ) → IsTrue (is_valid_near head) →
    chunks_of head.layout.copying head.members head.layout.copies (min (near_rows head end) head.layout.copies) ≡ first_chunks head end
first_chunks_are head end h = let copies = some_copies head h in first_are head.layout.copying head.members head.layout.copies (near_rows head end) (omega arith)

-- they tell which chunk is the first without a copy
pub first_tell : (set : NearSet) (end : ℕ) → IsTrue (is_valid_near set.head) → find (is_bare set) (range_with_len 0 (first_chunks set.head end)) ≡ first_bare set end
unfolding first_bare
first_tell set end h =
    let some = some_members set.head h in
    in_front (is_bare set) (first_chunks set.head end) (near_chunks set.head end) (omega arith)
    (λ c within bare. elim (cases_lt c set.head.members) [
      | inl lt ↦ (c, omega arith, bare)
      | inr le ↦ (c % set.head.members, (let below = mod_below c set.head.members (omega arith) in omega arith), same_bare set c (omega arith) ∙ bare)
    ])

both_zero : (x y : ℕ) → (x ≡ y) ⊎ ((0 < x) × (0 < y)) → nat_eq x 0 ≡ nat_eq y 0
both_zero x y (inl e) = ap (λ (n : ℕ). nat_eq n 0) e
both_zero zero y (inr h) = absurd (omega (arith, h.0))
both_zero (suc x) zero (inr h) = absurd (omega (arith, h.1))
both_zero (suc x) (suc y) (inr h) = grind (arith, nat_tests)

-- and whether there is none
pub none_told : (set : NearSet) (end : ℕ) → IsTrue (is_valid_near set.head) → nat_eq (first_chunks set.head end) 0 ≡ nat_eq (near_chunks set.head end) 0
none_told set end h =
    let some = some_members set.head h in
    both_zero (first_chunks set.head end) (near_chunks set.head end)
    (elim (cases_lt 0 (near_chunks set.head end)) [
      | inl lt ↦ inr (omega arith, lt)
      | inr none ↦ inl (omega arith)
    ])

-- each chunk of a mirror has a copy
pub has_copy : (set : NearSet) (end v : ℕ) → IsMirror set end → v < near_sectors set.head end → is_none (held_copy set (v / set.head.chunk)) ≡ false
unfolding first_bare
has_copy set end v mirror within =
    let same : v / set.head.chunk ≡ 0 + v / set.head.chunk = omega arith in
    ap (is_bare set) same ∙ missed (is_bare set) 0 (near_chunks set.head end) (v / set.head.chunk) mirror.held (chunk_within set.head end v mirror.head within)

pub held_among : (set : NearSet) (chunk copy : ℕ) → held_copy set chunk ≡ Some copy → copy < set.head.layout.copies
unfolding held_copy
held_among set chunk copy e = let h = found (is_held set chunk) 0 set.head.layout.copies copy e in let most = h.2 in omega arith

-- the slot of that copy does
pub held_there : (set : NearSet) (chunk copy : ℕ) → held_copy set chunk ≡ Some copy → is_held set chunk copy ≡ true
unfolding held_copy
held_there set chunk copy e = (found (is_held set chunk) 0 set.head.layout.copies copy e).0

-- the place of the copy that is taken
pub home_is : (set : NearSet) (end v copy : ℕ) (place : CopyPlace) → held_copy set (v / set.head.chunk) ≡ Some copy → IsCopy set.head end v copy place → IsHome set end v place
home_is set end v copy place e is =
    let taken : home_copy set v ≡ copy = ap (λ (o : Option ℕ). unwrap_or o 0) e in
    record {
      within = is.within;
      slot = is.slot ∙ ap (λ (k : ℕ). copy_slot set.head k v) (sym taken);
      sector = is.sector ∙ ap (λ (k : ℕ). copy_sector set.head end k v) (sym taken);
      held = ap (λ (k : ℕ). is_some (get_or set.slots.items k None)) is.slot ∙ held_there set (v / set.head.chunk) copy e;
      inside = is.inside;
    }
