-- Volume sectors that come about in one way, one after the other.
use Rattle.std.proofs.Common.{ℕ, inl, inr, ◌≡◌, ◌+◌, ◌-◌, ◌*◌, ◌<◌, ◌≤◌, List, length, get_or, refl, sym, ap, ◌∙◌, arith}
use Rattle.std.proofs.lemmas.Bool.{cases_lt}
use borrow.Rule.Slice.PartMut.{put_mid}
use Rattle.raid_params.specs.declared.wide.Wide.{Wide}
use Rattle.raid_terms.specs.Parity.{column_of}
use Rattle.row_parity.proofs.Regions.{map_same, mid_before, mid_inside, region_inside}
use Rattle.rescue_map.specs.Salvaged.{column_at, filled_byte, salvaged_sector, AreKnown, AreSalvaged, IsRead}
use Rattle.rescue_map.specs.Ways.{AreFinished, AreFound}
use Rattle.rescue_map.proofs.Found.{filled_copied}
use Rattle.rescue_text.specs.declared.section.Section.{Section}

column_kept : (n at x : ℕ) (rows others : List ℕ) → ((p : ℕ) → at ≤ p → p < at + 512 * n → get_or others p 0 ≡ get_or rows p 0) → x < 512 → column_at n others at x ≡ column_at n rows at x
column_kept n at x rows others same inside =
    map_same (λ i. get_or others (at + (512 * i + x)) 0) (λ i. get_or rows (at + (512 * i + x)) 0) 0 n (λ i low high. same (at + (512 * i + x)) (omega arith) (omega arith))

column_new : (n at x : ℕ) (others row : List ℕ) → ((p i : ℕ) → p ≡ at + i → i < 512 * n → get_or others p 0 ≡ get_or row i 0) → x < 512 → column_at n others at x ≡ column_of n row x
column_new n at x others row same inside =
    map_same (λ i. get_or others (at + (512 * i + x)) 0) (λ i. get_or row (512 * i + x) 0) 0 n (λ i low high. same (at + (512 * i + x)) (512 * i + x) refl (omega arith))

-- what is found of a sector alone
pub first_found : (images : List (List ℕ)) (sections : List Section) (set : Wide) (v : ℕ) (row to : List ℕ) →
    ((x : ℕ) → x < 512 → filled_byte sections set v (column_of (length set.geo.slots.items) row x) (get_or to x 0) ≡ get_or (salvaged_sector images sections set v) x 0) →
    AreFound images sections set v 1 row to
first_found images sections set v row to here = λ i x column below small is.
    let none : i ≡ 0 = omega arith in
    let place : 512 * i + x ≡ x = omega arith in
    let at : v + i ≡ v = omega arith in
    ap (λ (c : List ℕ). filled_byte sections set (v + i) c (get_or to (512 * i + x) 0)) (is none)
    ∙ ap (λ (p : ℕ). filled_byte sections set (v + i) (column_of (length set.geo.slots.items) row x) (get_or to p 0)) place
    ∙ ap (λ (w : ℕ). filled_byte sections set w (column_of (length set.geo.slots.items) row x) (get_or to x 0)) at
    ∙ here x small
    ∙ ap (λ (w : ℕ). get_or (salvaged_sector images sections set w) x 0) (sym at)

-- and how it is finished
pub first_finished : (sections : List Section) (set : Wide) (v : ℕ) (row old new : List ℕ) →
    ((x : ℕ) → x < 512 → get_or new x 0 ≡ filled_byte sections set v (column_of (length set.geo.slots.items) row x) (get_or old x 0)) → AreFinished sections set v 1 row old new
first_finished sections set v row old new here = λ i x column below small is.
    let none : i ≡ 0 = omega arith in
    let place : 512 * i + x ≡ x = omega arith in
    let at : v + i ≡ v = omega arith in
    ap (λ (p : ℕ). get_or new p 0) place
    ∙ here x small
    ∙ ap (λ (w : ℕ). filled_byte sections set w (column_of (length set.geo.slots.items) row x) (get_or old x 0)) (sym at)
    ∙ ap (λ (p : ℕ). filled_byte sections set (v + i) (column_of (length set.geo.slots.items) row x) (get_or old p 0)) (sym place)
    ∙ ap (λ (c : List ℕ). filled_byte sections set (v + i) c (get_or old (512 * i + x) 0)) (sym (is none))

-- sectors that are known stay as they were read
pub known_finished : (sections : List Section) (set : Wide) (v n : ℕ) (row old : List ℕ) → AreKnown sections set v n → AreFinished sections set v n row old old
known_finished sections set v n row old known = λ i x column below small is. sym (filled_copied sections set (v + i) (get_or old (512 * i + x) 0) column (known i below))

-- what is found, once it is finished
pub found_finished : (images : List (List ℕ)) (sections : List Section) (set : Wide) (v n : ℕ) (row old new : List ℕ) → AreFound images sections set v n row old → AreFinished sections set v n row old new →
    AreSalvaged images sections set v n new
found_finished images sections set v n row old new found finished = λ i x below small.
    let column = column_of (length set.geo.slots.items) row x in
    finished i x column below small (λ none. refl) ∙ found i x column below small (λ none. refl)

-- more sectors were read for
pub read_more : (images : List (List ℕ)) (sections : List Section) (set : Wide) (first n s j m k l : ℕ) (rows block row to : List ℕ) → n ≡ length set.geo.slots.items → s ≡ 512 * n → length row ≡ s → length to ≡ 512 * m →
    s * j + s ≤ length rows → 512 * j ≤ length block →
    ((i : ℕ) → i < j → IsRead images sections set first rows block i) → AreFound images sections set (first + j) m row to →
    (i : ℕ) → i < j + m → IsRead images sections set first (put_mid (s * j) k rows row) (put_mid (512 * j) l block to) i
read_more images sections set first n s j m k l rows block row to many stride long short within inside done here = λ i below x small.
    let members = length set.geo.slots.items in
    let all = put_mid (s * j) k rows row in
    let at : s * j ≡ 512 * members * j = ap (λ (t : ℕ). t * j) (stride ∙ ap (λ (t : ℕ). 512 * t) many) in
    elim (cases_lt i j) [
      | inl less ↦
          let lies = region_inside (512 * members) i j less in
          ap (λ (c : List ℕ). filled_byte sections set (first + i) c (get_or (put_mid (512 * j) l block to) (512 * i + x) 0))
          (column_kept members (512 * members * i) x rows all (λ p low high. mid_before (s * j) k p rows row (omega arith) (omega arith)) small)
          ∙ ap (λ (b : ℕ). filled_byte sections set (first + i) (column_at members rows (512 * members * i) x) b) (mid_before (512 * j) l (512 * i + x) block to (omega arith) inside)
          ∙ done i less x small
      | inr more ↦
          let d = i - j in
          let place : first + j + d ≡ first + i = omega arith in
          let column = column_at members all (512 * members * i) x in
          let new : d ≡ 0 → column ≡ column_of members row x = λ none.
          let e : i ≡ j = omega arith in
          ap (λ (t : ℕ). column_at members all (512 * members * t) x) e
          ∙ column_new members (512 * members * j) x all row (λ p y is less. mid_inside (s * j) k p y rows row (omega arith) (omega arith) (omega arith)) small in
          ap (λ (b : ℕ). filled_byte sections set (first + i) column b) (mid_inside (512 * j) l (512 * i + x) (512 * d + x) block to (omega arith) (omega arith) inside)
          ∙ ap (λ (t : ℕ). filled_byte sections set t column (get_or to (512 * d + x) 0)) (sym place)
          ∙ here d x column (omega arith) small new
          ∙ ap (λ (t : ℕ). get_or (salvaged_sector images sections set t) x 0) place
    ]

-- more sectors of a piece were finished
pub fill_more : (sections : List Section) (set : Wide) (first start j m k : ℕ) (piece old rows row from to : List ℕ) → length to ≡ 512 * m → 512 * j ≤ length piece →
    ((y : ℕ) → y < 512 * m → get_or from y 0 ≡ get_or old (512 * j + y) 0) →
    ((x : ℕ) → x < 512 → column_of (length set.geo.slots.items) row x ≡ column_at (length set.geo.slots.items) rows (512 * length set.geo.slots.items * (start + j)) x) →
    ((i x : ℕ) → i < j → x < 512 → get_or piece (512 * i + x) 0
    ≡ filled_byte sections set (first + (start + i)) (column_at (length set.geo.slots.items) rows (512 * length set.geo.slots.items * (start + i)) x) (get_or old (512 * i + x) 0)) →
    AreFinished sections set (first + (start + j)) m row from to →
    (i x : ℕ) → i < j + m → x < 512 → get_or (put_mid (512 * j) k piece to) (512 * i + x) 0
    ≡ filled_byte sections set (first + (start + i)) (column_at (length set.geo.slots.items) rows (512 * length set.geo.slots.items * (start + i)) x) (get_or old (512 * i + x) 0)
fill_more sections set first start j m k piece old rows row from to long inside part columns done here = λ i x below small.
    elim (cases_lt i j) [
      | inl less ↦ (mid_before (512 * j) k (512 * i + x) piece to (omega arith) inside ∙ done i x less small)
      | inr more ↦
          let members = length set.geo.slots.items in
          let d = i - j in
          let place : first + (start + j) + d ≡ first + (start + i) = omega arith in
          let column = column_at members rows (512 * members * (start + i)) x in
          let new : d ≡ 0 → column ≡ column_of members row x = λ none.
          let e : start + i ≡ start + j = omega arith in
          ap (λ (t : ℕ). column_at members rows (512 * members * t) x) e ∙ sym (columns x small) in
          let back : 512 * j + (512 * d + x) ≡ 512 * i + x = omega arith in
          mid_inside (512 * j) k (512 * i + x) (512 * d + x) piece to (omega arith) (omega arith) inside
          ∙ here d x column (omega arith) small new
          ∙ ap (λ (b : ℕ). filled_byte sections set (first + (start + j) + d) column b) (part (512 * d + x) (omega arith))
          ∙ ap (λ (p : ℕ). filled_byte sections set (first + (start + j) + d) column (get_or old p 0)) back
          ∙ ap (λ (t : ℕ). filled_byte sections set t column (get_or old (512 * i + x) 0)) place
    ]
