-- What a read of one more member changes.
use Rattle.std.proofs.Common.{◌≡◌, ℕ, ◌+◌, ◌*◌, ◌<◌, ◌≤◌, List, Option, None, false, length, get_or, slice_index_or, inl, inr, arith, ap, sym, ◌∙◌}
use Rattle.std.specs.Option.{is_none}
use Rattle.std.proofs.lemmas.Bool.{cases_lt}
use borrow.Rule.Slice.PartMut.{put_mid}
use Rattle.raid_terms.specs.Parity.{member_byte}
use Rattle.row_parity.proofs.Regions.{region_inside, mid_before, mid_inside}
use Rattle.member_regions.specs.Regions.{HoldRead}

-- one more member that was read
pub read_more : (images : List (List ℕ)) (slots : List (Option ℕ)) (offset stride first bytes k slot : ℕ) (sectors to : List ℕ) → bytes ≤ stride → length to ≡ bytes → stride * slot ≤ length sectors →
    HoldRead images slots offset stride first bytes slot sectors →
    ((y : ℕ) → y < length to → is_none (slice_index_or slots slot None) ≡ false → get_or to y 0 ≡ member_byte images offset first y (slice_index_or slots slot None)) →
    HoldRead images slots offset stride first bytes (slot + 1) (put_mid (stride * slot) k sectors to)
read_more images slots offset stride first bytes k slot sectors to fits long within hold here = λ i y below short there.
    elim (cases_lt i slot) [
      | inl less ↦ (let lies = region_inside stride i slot less in mid_before (stride * slot) k (stride * i + y) sectors to (omega arith) within ∙ hold i y less short there)
      | inr same ↦ (let e : i ≡ slot = omega arith in
          let at : stride * i + y ≡ stride * slot + y = ap (λ (t : ℕ). stride * t + y) e in
          let same_held : get_or slots slot None ≡ get_or slots i None = ap (λ (t : ℕ). get_or slots t None) (sym e) in
          mid_inside (stride * slot) k (stride * i + y) y sectors to at (omega arith) within
          ∙ here y (omega arith) (ap (λ (o : Option ℕ). is_none o) same_held ∙ there)
          ∙ ap (λ (o : Option ℕ). member_byte images offset first y o) same_held)
    ]
