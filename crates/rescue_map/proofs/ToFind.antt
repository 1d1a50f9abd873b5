-- How many sectors are to be found by their rows.
use Rattle.std.proofs.Common.{ℕ, zero, suc, ◌≡◌, ◌+◌, Bool, ◌&&◌, not, true, false, cond, List, refl, ap, ◌∙◌, arith}
use Rattle.std.specs.List.{count_by, range_with_len}
use Rattle.std.proofs.lemmas.List.Sums.{sum_by-append}
use Rattle.raid_params.specs.declared.wide.Wide.{Wide}
use Rattle.rescue_map.specs.Damaged.{is_lost, is_unknown}
use Rattle.rescue_map.specs.Salvaged.{AreKnown}
use Rattle.rescue_map.specs.Ways.{is_to_find, sectors_of, to_find, unsolved_of, IsWay}
use Rattle.rescue_map.specs.declared.ways.Way.{Way}
use Rattle.rescue_map.specs.declared.ways.Way.TheVariants.{Known, Found, Lost}
use Rattle.rescue_map.proofs.Found.{solved_not_lost}
use Rattle.rescue_text.specs.declared.section.Section.{Section}
use Rattle.virtual_volume.proofs.Ranges.{range_split}

-- of more sectors
to_find_parts : (sections : List Section) (set : Wide) (v n m k next : ℕ) → k ≡ n + m → next ≡ v + n → to_find sections set v k ≡ to_find sections set v n + to_find sections set next m
to_find_parts sections set v n m k next e f =
    ap (λ (l : List ℕ). count_by (is_to_find sections set) l) (range_split v n m k next e f)
    ∙ sum_by-append (λ u. cond (is_to_find sections set u) 1 0) (range_with_len v n) (range_with_len next m)

-- of one
to_find_one : (sections : List Section) (set : Wide) (v : ℕ) (b : Bool) → is_to_find sections set v ≡ b → to_find sections set v 1 ≡ cond b 1 0
to_find_one sections set v b is = let same : cond {A = ℕ} (is_to_find sections set v) 1 0 ≡ cond {A = ℕ} b 1 0 = ap (λ (c : Bool). cond {A = ℕ} c 1 0) is in omega arith

-- none of those whose homes are known
known_found : (sections : List Section) (set : Wide) (v n : ℕ) → AreKnown sections set v n → to_find sections set v n ≡ 0
known_found sections set v zero known = refl
known_found sections set v (suc n) known =
    let before = known_found sections set v n (λ i below. known i (omega arith)) in
    let last = to_find_one sections set (v + n) false (ap (λ (b : Bool). b && not (is_lost sections set (v + n))) (known n (omega arith))) in
    omega (arith, before, last, to_find_parts sections set v n 1 (suc n) (v + n) (omega arith) refl)

-- as many as the way says
way_found : (sections : List Section) (set : Wide) (v : ℕ) (way : Way) → IsWay sections set v way → to_find sections set v (sectors_of way) ≡ unsolved_of way
way_found sections set v (Known home n) run = known_found sections set v n run.known
way_found sections set v (Found home row) found =
    to_find_one sections set v true
    (ap (λ (b : Bool). b && not (is_lost sections set v)) found.unknown ∙ ap (λ (b : Bool). not b) (solved_not_lost sections set v found.few))
way_found sections set v Lost lost = to_find_one sections set v false (ap (λ (b : Bool). is_unknown sections set v && not b) lost ∙ second (is_unknown sections set v))
  where
    second : (a : Bool) → (a && false) ≡ false
    second true = refl
    second false = refl

-- and of the sectors so far
pub found_on : (sections : List Section) (set : Wide) (first j found next : ℕ) (way : Way) → IsWay sections set (first + j) way → next ≡ j + sectors_of way →
    found ≡ to_find sections set first j → found + unsolved_of way ≡ to_find sections set first next
found_on sections set first j found next way is e before =
    omega (arith, before, way_found sections set (first + j) way is, to_find_parts sections set first j (sectors_of way) next (first + j) e refl)
