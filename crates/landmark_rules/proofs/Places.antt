-- The volume sector of a place is the only one that has its home there.
use Rattle.std.proofs.Common.{◌≡◌, ℕ, ◌+◌, ◌-◌, ◌<◌, ◌≤◌, arith, sym, refl, subst, Bool, true, false, ◌&&◌, Option, Some, None, eq-eqb}
use Rattle.std.proofs.lemmas.Bool.{eqb-true}
use Rattle.std.proofs.lemmas.Nat.{mod_below}
use Rattle.std.specs.Prelude.{IsTrue, ◌==◌}
use Rattle.raid_params.specs.Size.{volume_sectors}
use Rattle.raid_params.specs.Validity.{is_valid_head}
use Rattle.raid_params.specs.declared.types.Head.{Head}
use Rattle.raid_terms.specs.Address.{LiesAt, home_sector, home_slot, chunk_number}
use Rattle.address_map.specs.Places.{IsPlace}
use Rattle.address_map.specs.declared.map.MemberPlace.{MemberPlace}
use Rattle.address_map.specs.declared.map.MemberPlace.TheVariants.{Outside, Parity, At}
use Rattle.address_map.proofs.Heads.{some_data}
use Rattle.address_map.proofs.Lies.{inside, inside_back}
use Rattle.address_map.proofs.Undo.{one_place}
use Rattle.landmark_rules.specs.Marks.{sector_in}
use Rattle.landmark_rules.proofs.Ranges.{find_none, find_one}

-- the volume sector has its home on this slot at this sector of the image
abbrev is_home : Head → ℕ → ℕ → ℕ → Bool
is_home head slot sector v = home_slot head v == slot && head.offset + home_sector head v == sector

both_true : (a b : Bool) → (a && b) ≡ true → (a ≡ true) × (b ≡ true)
both_true true true e = (refl, refl)
both_true true false e = (cc)
both_true false b e = (cc)

true_both : (a b : Bool) → a ≡ true → b ≡ true → (a && b) ≡ true
true_both true true e f = refl
true_both true false e f = (cc)
true_both false b e f = (cc)

home_lies : (head : Head) (slot sector v : ℕ) → IsTrue (is_valid_head head) → is_home head slot sector v ≡ true → (head.offset ≤ sector) × LiesAt head slot (sector - head.offset) v
home_lies head slot sector v valid t =
    let both = both_true (home_slot head v == slot) (head.offset + home_sector head v == sector) t in
    let at : home_slot head v ≡ slot = eqb-true (home_slot head v) slot both.0 in
    let from : head.offset + home_sector head v ≡ sector = eqb-true (head.offset + home_sector head v) sector both.1 in (
      omega arith,
      record {
        item = (mod_below (chunk_number head v) _ (some_data head valid), sym at);
        place = omega arith;
      },
    )

lies_home : (head : Head) (slot sector v : ℕ) → head.offset ≤ sector → LiesAt head slot (sector - head.offset) v → is_home head slot sector v ≡ true
lies_home head slot sector v le lies =
    let e : sector - head.offset ≡ home_sector head v = lies.place in
    true_both (home_slot head v == slot) (head.offset + home_sector head v == sector)
    (eq-eqb (home_slot head v) slot (sym lies.item.1))
    (eq-eqb (head.offset + home_sector head v) sector (omega arith))

-- a volume sector with its home there is the place's
is_its : (head : Head) (end slot sector v : ℕ) (place : MemberPlace) → IsTrue (is_valid_head head) → IsPlace head end slot (sector - head.offset) place →
    v < volume_sectors head end → is_home head slot sector v ≡ true → At v ≡ place
is_its head end slot sector v place valid is below t =
    let lies = (home_lies head slot sector v valid t).1 in
    one_place head end slot (sector - head.offset) place (At v) valid is (inside_back head end slot (sector - head.offset) v valid lies below, lies)

pub sector_before : (head : Head) (end slot sector : ℕ) → IsTrue (is_valid_head head) → sector < head.offset → sector_in head end slot sector ≡ None
unfolding sector_in
sector_before head end slot sector valid h =
    find_none (is_home head slot sector) 0 (volume_sectors head end) (λ v le lt t. let both = (home_lies head slot sector v valid t).0 in omega arith)

-- the volume sector of a place
abbrev pub volume_sector_of : MemberPlace → Option ℕ
volume_sector_of Outside = None
volume_sector_of Parity = None
volume_sector_of (At v) = Some v

from_offset : (head : Head) (end slot sector : ℕ) (place : MemberPlace) → IsTrue (is_valid_head head) → head.offset ≤ sector →
    IsPlace head end slot (sector - head.offset) place → sector_in head end slot sector ≡ volume_sector_of place
unfolding sector_in
from_offset head end slot sector Outside valid from is =
    find_none (is_home head slot sector) 0 (volume_sectors head end)
    (λ v le lt t. let e : At v ≡ Outside = is_its head end slot sector v Outside valid is (omega arith) t in (cc))
from_offset head end slot sector Parity valid from is =
    find_none (is_home head slot sector) 0 (volume_sectors head end)
    (λ v le lt t. let e : At v ≡ Parity = is_its head end slot sector v Parity valid is (omega arith) t in (cc))
from_offset head end slot sector (At w) valid from is =
    let below : w < volume_sectors head end = inside head end slot (sector - head.offset) w valid is.1 is.0 in
    find_one (is_home head slot sector) 0 (volume_sectors head end) w (omega arith) (omega arith) (lies_home head slot sector w from is.1)
    (λ v le lt t. let e : At v ≡ At w = is_its head end slot sector v (At w) valid is (omega arith) t in (cc))

pub sector_at : (head : Head) (end slot sector m : ℕ) (place : MemberPlace) → IsTrue (is_valid_head head) → head.offset ≤ sector → m ≡ sector - head.offset →
    IsPlace head end slot m place → sector_in head end slot sector ≡ volume_sector_of place
sector_at head end slot sector m place valid from e is =
    from_offset head end slot sector place valid from (subst (λ (x : ℕ). IsPlace head end slot x place) e is)
