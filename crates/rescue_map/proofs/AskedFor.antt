-- Sectors that are asked for.
use Rattle.std.proofs.Common.{ℕ, zero, suc, inl, inr, ◌≡◌, ◌+◌, ◌-◌, ◌*◌, ◌%◌, ◌<◌, ◌≤◌, ◌||◌, Bool, true, false, List, length, get_or, refl, ap, ◌∙◌, subst, arith}
use Rattle.std.specs.List.{list_any, range_with_len}
use Rattle.std.proofs.lemmas.Bool.{cases_lt}
use borrow.Rule.Slice.PartMut.{put_mid}
use Rattle.raid_params.specs.declared.wide.Wide.{Wide}
use Rattle.raid_terms.specs.Address.{LiesAt}
use Rattle.row_parity.proofs.Regions.{mid_before, mid_inside}
use Rattle.rescue_map.specs.Damaged.{is_lost, AreAllGood, IsDamaged}
use Rattle.rescue_map.specs.Salvaged.{salvaged_sector, salvaged_sectors, AreKnown, AreSalvaged}
use Rattle.rescue_map.proofs.Adjacent.{later_lies}
use Rattle.virtual_volume.proofs.Blocks.{blocks_are}
use Rattle.rescue_map.proofs.Found.{known_not_lost, salvaged_long}
use Rattle.rescue_map.proofs.Passed.{good_row}
use Rattle.rescue_text.specs.declared.section.Section.{Section}

-- none of these, or one
pub any_none : (p : ℕ → Bool) (a n : ℕ) → ((v : ℕ) → a ≤ v → v < a + n → p v ≡ false) → list_any p (range_with_len a n) ≡ false
any_none p a zero none = refl
any_none p a (suc n) none =
    ap (λ (b : Bool). b || list_any p (range_with_len (a + 1) n)) (none a (omega arith) (omega arith))
    ∙ any_none p (a + 1) n (λ v low high. none v (omega arith) (omega arith))

or_second : (a b : Bool) → b ≡ true → (a || b) ≡ true
or_second true b is = refl
or_second false b is = is

pub any_one : (p : ℕ → Bool) (a n v : ℕ) → a ≤ v → v < a + n → p v ≡ true → list_any p (range_with_len a n) ≡ true
any_one p a zero v low high is = absurd (omega arith)
any_one p a (suc n) v low high is =
    elim (cases_lt a v) [
      | inl later ↦ or_second (p a) (list_any p (range_with_len (a + 1) n)) (any_one p (a + 1) n v (omega arith) (omega arith) is)
      | inr here ↦ (let e : v ≡ a = omega arith in ap (λ (b : Bool). b || list_any p (range_with_len (a + 1) n)) (subst (λ (w : ℕ). p w ≡ true) e is))
    ]

-- sectors of a chunk beside which all is good are not lost
pub good_kept : (sections : List Section) (set : Wide) (end slot sector v n : ℕ) → IsDamaged set end → LiesAt set.geo.head slot sector v → v % set.geo.head.chunk + n ≤ set.geo.head.chunk →
    ((t : ℕ) → sector ≤ t → t < sector + n → AreAllGood sections set t) → (w : ℕ) → v ≤ w → w < v + n → is_lost sections set w ≡ false
good_kept sections set end slot sector v n d lies inside all w low high =
    let at : v + (w - v) ≡ w = omega arith in
    let later = later_lies set.geo.head slot sector v (w - v) lies (omega arith) in
    subst (λ (u : ℕ). is_lost sections set u ≡ false) at
    (good_row sections set (v + (w - v)) (subst (λ (t : ℕ). AreAllGood sections set t) later.place (all (sector + (w - v)) (omega arith) (omega arith))) d.few)

-- sectors whose homes are known are not
pub known_kept : (sections : List Section) (set : Wide) (v n : ℕ) → AreKnown sections set v n → (w : ℕ) → v ≤ w → w < v + n → is_lost sections set w ≡ false
known_kept sections set v n known w low high =
    let at : v + (w - v) ≡ w = omega arith in
    subst (λ (u : ℕ). is_lost sections set u ≡ false) at (known_not_lost sections set (v + (w - v)) (known (w - v) (omega arith)))

-- some more are not
pub none_more : (p : ℕ → Bool) (first at n : ℕ) → ((v : ℕ) → first ≤ v → v < first + at → p v ≡ false) → ((v : ℕ) → first + at ≤ v → v < first + at + n → p v ≡ false) →
    (v : ℕ) → first ≤ v → v < first + (at + n) → p v ≡ false
none_more p first at n before more v low high = elim (cases_lt v (first + at)) [
  | inl less ↦ before v low less
  | inr later ↦ more v later (omega arith)
]

-- more sectors of bytes are what they are to be
pub sectors_more : (images : List (List ℕ)) (sections : List Section) (set : Wide) (first j n k : ℕ) (all to : List ℕ) → length to ≡ 512 * n → 512 * j ≤ length all → AreSalvaged images sections set first j all →
    ((i x : ℕ) → i < n → x < 512 → get_or to (512 * i + x) 0 ≡ get_or (salvaged_sector images sections set (first + j + i)) x 0) →
    AreSalvaged images sections set first (j + n) (put_mid (512 * j) k all to)
sectors_more images sections set first j n k all to long inside done here = λ i x below small.
    elim (cases_lt i j) [
      | inl less ↦ (mid_before (512 * j) k (512 * i + x) all to (omega arith) inside ∙ done i x less small)
      | inr more ↦
          let at : first + j + (i - j) ≡ first + i = omega arith in
          mid_inside (512 * j) k (512 * i + x) (512 * (i - j) + x) all to (omega arith) (omega arith) inside
          ∙ here (i - j) x (omega arith) small
          ∙ ap (λ (t : ℕ). get_or (salvaged_sector images sections set t) x 0) at
    ]

pub salvaged_all : (images : List (List ℕ)) (sections : List Section) (set : Wide) (first n m : ℕ) (bytes : List ℕ) → length bytes ≡ 512 * n → m ≡ n → AreSalvaged images sections set first m bytes →
    bytes ≡ salvaged_sectors images sections set first n
unfolding salvaged_sectors
salvaged_all images sections set first n m bytes long same are =
    blocks_are bytes (salvaged_sector images sections set) first n long (salvaged_long images sections set) (λ j x below small. are j x (omega arith) small)
