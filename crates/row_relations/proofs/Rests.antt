-- What adding multiples of kept combinations does.
use Rattle.std.proofs.Common.{ℕ, ◌≡◌, ◌<◌, List, length, get_or, bit_xor, sym, ap, ◌∙◌, arith, inl, inr}
use Rattle.std.proofs.lemmas.Bool.{cases_lt}
use Rattle.std.proofs.lemmas.List.{get_or_past}
use Rattle.std.proofs.lemmas.Simd.{get_or-zip2, length-zip2}
use lib.Lanes.{zip2}
use Rattle.gf256.specs.Field.{product}
use Rattle.gf256.proofs.Sums.{sum_self, sum_associates}
use Rattle.gf256.proofs.Products.{product_fits, product_zero}
use Rattle.gf256.proofs.Powers.{product_one}
use Rattle.lane_kernels.specs.Formulas.{scaled_sum}
use Rattle.row_relations.specs.declared.combination.Combination.{Combination}
use Rattle.row_relations.specs.Rows.{byte_of, combined, weighed_byte}
use Rattle.row_relations.specs.Tables.{Table, WeighBefore}
use Rattle.row_relations.specs.Stages.{IsKept, IsRest}
use Rattle.row_relations.proofs.FieldSums.{both}
use Rattle.row_relations.proofs.Combined.{combined_adds, combined_same, combined_scales}
use Rattle.row_relations.proofs.Unique.{over_of, over_scaled, over_sum}

-- the sum of two lists, one times a factor, at any place
pub at_sum : (factor : ℕ) (xs ys : List ℕ) (j : ℕ) → length xs ≡ length ys → get_or (zip2 (scaled_sum factor) xs ys) j 0 ≡ bit_xor (get_or xs j 0) (product factor (get_or ys j 0))
at_sum factor xs ys j e = elim (cases_lt j (length xs)) [
  | inl lt ↦ get_or-zip2 (scaled_sum factor) xs ys j 0 0 0 lt (omega arith)
  | inr past ↦
      get_or_past (zip2 (scaled_sum factor) xs ys) j 0 (omega (arith, length-zip2 (scaled_sum factor) xs ys e))
      ∙ sym (both (get_or xs j 0) (product factor (get_or ys j 0)) 0 0 (get_or_past xs j 0 past) (ap (product factor) (get_or_past ys j 0 (omega arith)) ∙ product_zero factor))
]

weigh_sum : (table : Table) (n factor : ℕ) (xs ys : List ℕ) → factor < 256 → WeighBefore table n xs → WeighBefore table n ys → WeighBefore table n (zip2 (scaled_sum factor) xs ys)
weigh_sum table n factor xs ys fits hx hy =
    let same = hx.long ∙ sym hy.long in
    let at = λ (j : ℕ). at_sum factor xs ys j same in
    let over = over_sum table n (λ j. get_or xs j 0) (λ j. product factor (get_or ys j 0)) (over_of table n xs hx) (over_scaled table n factor (λ j. get_or ys j 0) fits (over_of table n ys hy)) in
    record {
      long = length-zip2 (scaled_sum factor) xs ys same ∙ hx.long;
      bytes = λ j. rw (at j) (over.bytes j);
      before = λ j ne. over.below j (λ z. ne (at j ∙ z));
      independent = λ j ne. over.independent j (λ z. ne (at j ∙ z));
    }

weighed_sum_of : (sectors : List ℕ) (table : Table) (n factor : ℕ) (xs ys : List ℕ) (c : ℕ) → factor < 256 → WeighBefore table n xs → WeighBefore table n ys →
    weighed_byte n (zip2 (scaled_sum factor) xs ys) sectors c ≡ bit_xor (weighed_byte n xs sectors c) (product factor (weighed_byte n ys sectors c))
weighed_sum_of sectors table n factor xs ys c fits hx hy =
    let x = λ (j : ℕ). get_or xs j 0 in
    let y = λ (j : ℕ). get_or ys j 0 in
    combined_same n (λ j. get_or (zip2 (scaled_sum factor) xs ys) j 0) (λ j. bit_xor (x j) (product factor (y j))) sectors c (λ j lt. at_sum factor xs ys j (hx.long ∙ sym hy.long))
    ∙ combined_adds n x (λ j. product factor (y j)) sectors c hx.bytes (λ j. product_fits factor (y j) fits)
    ∙ ap (bit_xor (combined n x sectors c)) (combined_scales n factor y sectors c fits hy.bytes)

-- a rest plus a multiple of what is kept is a rest
pub rest_added : (sectors : List ℕ) (table : Table) (n factor : ℕ) (old part new : Combination) → factor < 256 → length old.sector ≡ 512 → length part.sector ≡ 512 →
    IsRest sectors table n old → IsKept sectors table n part → new.sector ≡ zip2 (scaled_sum factor) old.sector part.sector → new.weights ≡ zip2 (scaled_sum factor) old.weights part.weights →
    IsRest sectors table n new
rest_added sectors table n factor old part new fits wide wide_part rest kept es ew = record {
  weigh = rw ew (weigh_sum table n factor old.weights part.weights fits rest.weigh kept.weigh);
  sum = λ c inside.
      ap (λ (xs : List ℕ). get_or xs c 0) es ∙ at_sum factor old.sector part.sector c (wide ∙ sym wide_part)
      ∙ both (get_or old.sector c 0) (product factor (get_or part.sector c 0)) (bit_xor (byte_of sectors n c) (weighed_byte n old.weights sectors c)) (product factor (weighed_byte n part.weights sectors c))
      (rest.sum c inside) (ap (product factor) (kept.sum c inside))
      ∙ sum_associates (byte_of sectors n c) (weighed_byte n old.weights sectors c) (product factor (weighed_byte n part.weights sectors c))
      ∙ ap (bit_xor (byte_of sectors n c)) (sym (ap (λ (xs : List ℕ). weighed_byte n xs sectors c) ew ∙ weighed_sum_of sectors table n factor old.weights part.weights c fits rest.weigh kept.weigh));
}

-- one more pivot is 0, and those before stay so
pub vanish_more : (factor q : ℕ) (old part new : List ℕ) → factor < 256 → length old ≡ 512 → length part ≡ 512 → new ≡ zip2 (scaled_sum factor) old part → get_or old q 0 ≡ factor → get_or part q 0 ≡ 1 → get_or new q 0 ≡ 0
vanish_more factor q old part new fits wide wide_part e here one =
    ap (λ (xs : List ℕ). get_or xs q 0) e ∙ at_sum factor old part q (wide ∙ sym wide_part)
    ∙ both (get_or old q 0) (product factor (get_or part q 0)) factor factor here (ap (product factor) one ∙ product_one factor fits) ∙ sum_self factor

pub vanish_kept : (factor q : ℕ) (old part new : List ℕ) → length old ≡ 512 → length part ≡ 512 → new ≡ zip2 (scaled_sum factor) old part → get_or old q 0 ≡ 0 → get_or part q 0 ≡ 0 → get_or new q 0 ≡ 0
vanish_kept factor q old part new wide wide_part e here zero =
    ap (λ (xs : List ℕ). get_or xs q 0) e ∙ at_sum factor old part q (wide ∙ sym wide_part)
    ∙ both (get_or old q 0) (product factor (get_or part q 0)) 0 0 here (ap (product factor) zero ∙ product_zero factor)
