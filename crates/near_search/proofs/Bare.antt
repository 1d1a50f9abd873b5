-- A chunk is lost just where it has no copy.
use Rattle.std.proofs.Common.{ℕ, zero, suc, ◌≡◌, ◌+◌, ◌<◌, IsTrue, Bool, true, false, List, [], ◌∷◌, length, slice_get, slice_index_or, refl, sym, ap, ◌∙◌, arith, Option, None, Some}
use Rattle.std.specs.List.{find, range_with_len}
use Rattle.std.specs.Option.{is_none, is_some}
use Rattle.std.proofs.lemmas.Nat.{mod_below}
use Rattle.near_mirror.specs.Copies.{copy_cell, first_chunks, near_chunks, slot_of}
use Rattle.near_mirror.specs.Heads.{is_valid_near}
use Rattle.near_mirror.specs.Volume.{first_bare, held_copy, is_bare, is_held}
use Rattle.near_mirror.specs.declared.types.Copying.{Copying}
use Rattle.near_mirror.specs.declared.types.Copying.TheVariants.{Near, Far, Offset}
use Rattle.near_mirror.specs.declared.types.NearSet.{NearSet}
use Rattle.near_mirror.proofs.Finds.{clash, found, missed}
use Rattle.near_mirror.proofs.Heads.{some_members}
use Rattle.near_mirror.proofs.Homes.{first_tell}
use Rattle.near_tables.proofs.LostChunks.{all_true, not_lost, one_false, some_lost}
use Rattle.near_tables.specs.Torn.{has_lost, is_gone, is_lost}

none_is : (o : Option ℕ) → is_none o ≡ true → o ≡ None
none_is None e = refl
none_is (Some x) e = absurd (cc)

gone_of : (slots : List (Option ℕ)) (s : ℕ) → s < length slots → is_some (slice_index_or slots s None) ≡ false → is_gone (slice_get slots s) ≡ true
gone_of [] s lt e = absurd (omega arith)
gone_of (None ∷ slots) zero lt e = refl
gone_of (Some x ∷ slots) zero lt e = absurd (cc)
gone_of (x ∷ slots) (suc s) lt e = gone_of slots s (omega arith) e

held_there : (slots : List (Option ℕ)) (s : ℕ) → is_some (slice_index_or slots s None) ≡ true → is_gone (slice_get slots s) ≡ false
held_there [] s e = absurd (cc)
held_there (None ∷ slots) zero e = absurd (cc)
held_there (Some x ∷ slots) zero e = refl
held_there (x ∷ slots) (suc s) e = held_there slots s e

slot_below : (copying : Copying) (members copies copy chunk : ℕ) → 0 < members → slot_of copying members copies copy chunk < members
slot_below Near members copies copy chunk some = mod_below (copy_cell copies chunk copy) members some
slot_below Far members copies copy chunk some = mod_below (chunk + copy) members some
slot_below Offset members copies copy chunk some = mod_below (chunk + copy) members some

bare_lost : (set : NearSet) (chunk : ℕ) → 0 < set.head.members → set.head.members ≡ length set.slots.items → is_bare set chunk ≡ true → is_lost set chunk ≡ true
unfolding held_copy
bare_lost set chunk some long bare =
    let none = none_is (find (is_held set chunk) (range_with_len 0 set.head.layout.copies)) bare in
    all_true (λ copy. is_gone (slice_get set.slots.items (slot_of set.head.layout.copying set.head.members set.head.layout.copies copy chunk))) 0 set.head.layout.copies
    (λ x low high.
    let below = slot_below set.head.layout.copying set.head.members set.head.layout.copies x chunk some in
    let same : x ≡ 0 + x = omega arith in
    gone_of set.slots.items (slot_of set.head.layout.copying set.head.members set.head.layout.copies x chunk) (omega arith)
    (ap (is_held set chunk) same ∙ missed (is_held set chunk) 0 set.head.layout.copies x none (omega arith)))

lost_bare : (set : NearSet) (chunk : ℕ) → is_lost set chunk ≡ true → is_bare set chunk ≡ true
unfolding held_copy
lost_bare set chunk lost = by_case (find (is_held set chunk) (range_with_len 0 set.head.layout.copies)) refl
  where
    by_case : (o : Option ℕ) → find (is_held set chunk) (range_with_len 0 set.head.layout.copies) ≡ o → is_none (find (is_held set chunk) (range_with_len 0 set.head.layout.copies)) ≡ true
    by_case None e = ap (λ (o : Option ℕ). is_none o) e
    by_case (Some copy) e =
        let h = found (is_held set chunk) 0 set.head.layout.copies copy e in
        let bad = one_false (λ c. is_gone (slice_get set.slots.items (slot_of set.head.layout.copying set.head.members set.head.layout.copies c chunk))) 0 set.head.layout.copies copy h.1 h.2
        (held_there set.slots.items (slot_of set.head.layout.copying set.head.members set.head.layout.copies copy chunk) h.0) in
        absurd (clash (is_lost set chunk) lost bad)

bare_chunk : (set : NearSet) (end chunk : ℕ) → IsTrue (is_valid_near set.head) → first_bare set end ≡ Some chunk → (is_bare set chunk ≡ true) × (chunk < first_chunks set.head end)
unfolding first_bare
bare_chunk set end chunk h e =
    let front = found (is_bare set) 0 (first_chunks set.head end) chunk (first_tell set end h ∙ e) in
    let high = front.2 in
    (front.0, omega arith)

-- where each chunk has a copy, none is lost
held_none : (set : NearSet) (end : ℕ) → first_bare set end ≡ None → has_lost end set ≡ false
unfolding first_bare
held_none set end none = not_lost set (first_chunks set.head end) (λ chunk lt. by_case chunk lt (is_lost set chunk) refl)
  where
    by_case : (chunk : ℕ) → chunk < first_chunks set.head end → (b : Bool) → is_lost set chunk ≡ b → is_lost set chunk ≡ false
    by_case chunk lt false e = e
    by_case chunk lt true e =
        let same : chunk ≡ 0 + chunk = omega arith in
        absurd (clash (is_bare set chunk) (lost_bare set chunk e) (ap (is_bare set) same ∙ missed (is_bare set) 0 (near_chunks set.head end) chunk none (omega arith)))

pub lost_where_bare : (set : NearSet) (end : ℕ) → IsTrue (is_valid_near set.head) → set.head.members ≡ length set.slots.items → has_lost end set ≡ is_some (first_bare set end)
lost_where_bare set end h long = by_case (first_bare set end) refl
  where
    by_case : (o : Option ℕ) → first_bare set end ≡ o → has_lost end set ≡ is_some (first_bare set end)
    by_case None e = held_none set end e ∙ sym (ap (λ (o : Option ℕ). is_some o) e)
    by_case (Some chunk) e =
        let bare = bare_chunk set end chunk h e in
        let some = some_members set.head h in
        some_lost set (first_chunks set.head end) chunk bare.1 (bare_lost set chunk (omega arith) long bare.0) ∙ sym (ap (λ (o : Option ℕ). is_some o) e)
