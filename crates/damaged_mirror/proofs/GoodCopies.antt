-- Which copies are good.
use Rattle.std.proofs.Common.{ℕ, ◌≡◌, ◌+◌, ◌<◌, ◌≤◌, ◌↔◌, Bool, true, false, IsTrue, List, Option, None, Some, refl, sym, ap, arith}
use Rattle.std.specs.List.{list_any, range_with_len}
use Rattle.std.specs.Option.{is_none, is_some}
use Rattle.std.proofs.lemmas.Nat.{mod_below}
use Rattle.near_mirror.specs.Copies.{IsCopy}
use Rattle.near_mirror.specs.Heads.{is_valid_near}
use Rattle.near_mirror.specs.Volume.{copy_image}
use Rattle.near_mirror.specs.declared.map.CopyPlace.{CopyPlace}
use Rattle.near_mirror.specs.declared.types.NearHead.{NearHead}
use Rattle.near_mirror.specs.declared.types.NearSet.{NearSet}
use Rattle.near_mirror.proofs.Chunks.{valid_chunk}
use Rattle.near_mirror.proofs.Finds.{clash, found}
use Rattle.near_volume.proofs.Runs.{run_inside}
use Rattle.rescue_map.proofs.AskedFor.{any_one}
use Rattle.rescue_map.specs.Damaged.{is_good}
use Rattle.rescue_map.proofs.Known.{good_is, not_good_is}
use Rattle.rescue_text.specs.Good.{IsGood}
use Rattle.rescue_text.specs.declared.section.Section.{Section}
use Rattle.damaged_mirror.specs.Damaged.{good_copy, is_good_copy, is_good_held, is_lost}

-- what the call says of a sector
pub good_told : (b : Bool) (sections : List Section) (image sector : ℕ) → (IsTrue b ↔ IsGood sections image sector) → b ≡ is_good sections image sector
good_told true sections image sector says = sym (good_is sections image sector (says.0 refl))
good_told false sections image sector says = sym (not_good_is sections image sector false refl (λ good. says.1 good))

held_some : (sections : List Section) (held : Option ℕ) (sector : ℕ) → is_good_held sections held sector ≡ true → is_some held ≡ true
held_some sections None sector is = is
held_some sections (Some image) sector is = refl

-- the copy that is taken is one of them, and its slot holds an image
pub good_among : (sections : List Section) (set : NearSet) (end v copy : ℕ) → good_copy sections set end v ≡ Some copy → copy < set.head.layout.copies
unfolding good_copy
good_among sections set end v copy e = let h = found (is_good_copy sections set end v) 0 set.head.layout.copies copy e in let most = h.2 in omega arith

pub good_there : (sections : List Section) (set : NearSet) (end v copy : ℕ) → good_copy sections set end v ≡ Some copy → is_some (copy_image set copy v) ≡ true
unfolding good_copy
good_there sections set end v copy e = held_some sections (copy_image set copy v) _ (found (is_good_copy sections set end v) 0 set.head.layout.copies copy e).0

-- of a sector that is not lost a copy is taken
pub not_lost : (sections : List Section) (set : NearSet) (end v : ℕ) → is_lost sections set end v ≡ false → good_copy sections set end v ≡ None → ⊥
not_lost sections set end v kept none = clash (is_none (good_copy sections set end v)) (ap (λ (o : Option ℕ). is_none o) none) kept

-- none of these is lost where it was told so
pub none_among : (p : ℕ → Bool) (a n v : ℕ) → list_any p (range_with_len a n) ≡ false → a ≤ v → v < a + n → p v ≡ false
none_among p a n v none low high = of_test (p v) refl
  where
    of_test : (b : Bool) → p v ≡ b → b ≡ false
    of_test true is = absurd (clash (list_any p (range_with_len a n)) (any_one p a n v low high is) none)
    of_test false is = refl

-- an image sector of a place among the members
pub place_inside : (head : NearHead) (end v copy : ℕ) (place : CopyPlace) → IsTrue (is_valid_near head) → IsCopy head end v copy place → head.offset + place.sector ≤ end
place_inside head end v copy place h is =
    let chunk = valid_chunk head h in
    let below = mod_below v head.chunk chunk in
    let inside = run_inside head end v 0 copy place.sector chunk is.sector is.inside (omega arith) in
    omega arith
