-- The sectors of a row, copied one after the other.
use Rattle.std.proofs.Common.{ℕ, ◌≡◌, ◌<◌, ◌≤◌, ◌+◌, ◌*◌, ◌++◌, ◌-◌, List, drop, length, take, get_or, slice_range, sym, ap, ◌∙◌, arith, inl, inr}
use Rattle.std.proofs.lemmas.Bool.{cases_lt}
use Rattle.std.proofs.lemmas.List.{append-nil, drop_all, get_or-append-add, get_or-drop, get_or-take, get_or_append_left, length-take-le, take_all}
use Rattle.member_regions.specs.ImageSums.{room_byte}
use Rattle.member_regions.specs.Regions.{Room}

-- the sector of a region
region_at : (room : Room) (region : List ℕ) (image place x : ℕ) → region ≡ slice_range room.bytes (room.stride * image + 512 * place) (room.stride * image + 512 * place + 512 * 1) → x < 512 →
    get_or region x 0 ≡ room_byte room (512 * place + x) image
region_at room region image place x is below =
    let from = room.stride * image + 512 * place in
    let at : from + x ≡ room.stride * image + (512 * place + x) = omega arith in
    ap (λ (xs : List ℕ). get_or xs x 0) is ∙ get_or-take (from + 512 * 1 - from) (drop from room.bytes) x 0 (omega arith) ∙ get_or-drop from room.bytes x 0
    ∙ ap (λ (k : ℕ). get_or room.bytes k 0) at

-- the sectors of the first n images were copied
abbrev pub AreCopied : Room → ℕ → ℕ → List ℕ → Type 0
AreCopied room place n to = (i x : ℕ) → i < n → x < 512 → get_or to (512 * i + x) 0 ≡ room_byte room (512 * place + x) i

-- one sector more
pub copied_more : (room : Room) (place image : ℕ) (region to new : List ℕ) →
    region ≡ slice_range room.bytes (room.stride * image + 512 * place) (room.stride * image + 512 * place + 512 * 1) →
    512 * image ≤ length to → take (512 * image + 512) new ≡ take (512 * image) to ++ region → AreCopied room place image to → AreCopied room place (image + 1) new
copied_more room place image region to new is inside grown before i x lt below =
    let long : length (take (512 * image) to) ≡ 512 * image = length-take-le (512 * image) to inside in
    let front : get_or new (512 * i + x) 0 ≡ get_or (take (512 * image) to ++ region) (512 * i + x) 0
    = sym (get_or-take (512 * image + 512) new (512 * i + x) 0 (omega arith)) ∙ ap (λ (l : List ℕ). get_or l (512 * i + x) 0) grown in
    elim (cases_lt i image) [
      | inl less ↦ front ∙ get_or_append_left (take (512 * image) to) region 0 (512 * i + x) (omega arith)
          ∙ get_or-take (512 * image) to (512 * i + x) 0 (omega arith) ∙ before i x less below
      | inr more ↦
          (let at : image ≡ i = omega arith in
          let place_of : 512 * i + x ≡ length (take (512 * image) to) + x = omega arith in
          front ∙ ap (λ (k : ℕ). get_or (take (512 * image) to ++ region) k 0) place_of ∙ get_or-append-add (take (512 * image) to) region x 0
          ∙ region_at room region image place x is below ∙ ap (room_byte room (512 * place + x)) at)
    ]

-- a list that was written whole
pub written_whole : (capacity : ℕ) (old new : List ℕ) → length new ≡ length old → length old ≤ capacity → new ≡ take capacity (new ++ drop (length new) old)
written_whole capacity old new same fits =
    sym (ap (λ (rest : List ℕ). take capacity (new ++ rest)) (drop_all (length new) old (omega arith)) ∙ ap (take capacity) (append-nil new) ∙ take_all capacity new (omega arith))
