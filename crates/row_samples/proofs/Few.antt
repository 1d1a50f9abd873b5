-- No more rows are kept than there is room for.
use Rattle.std.proofs.Common.{ℕ, ◌≡◌, ◌<◌, ◌≤◌, Bool, true, false, cond, [], ◌∷◌, length, length-append, refl, sym, ap, subst, arith, inl, inr, nat_lt}
use Rattle.std.proofs.lemmas.Bool.{cases_Bool}
use Rattle.std.proofs.lemmas.Bool.Decides.{nat_tests}
use Rattle.member_regions.specs.Regions.{Room}
use Rattle.relation_prefix.specs.Sampled.{AreBelow, KeptRows}
use Rattle.relation_prefix.specs.declared.row_ties.RowTies.{RowTies}
use Rattle.relation_prefix.specs.declared.sampled.SampledRow.{SampledRow}
use Rattle.row_samples.proofs.Offered.{by_choice}
use Rattle.row_samples.specs.Spreads.{chosen, is_wanted, kept_row, offered, passed, passed_row, wants, HasFew, HasNone, HaveFew, LieBelow, OffersRow, Sampling}
use Rattle.row_samples.specs.declared.spread.Spread.{Spread}

none_few : (spread : Spread) → spread.kept.list ≡ [] → HasFew spread.kept.most spread
none_few spread none = record { room = refl; few = let long = ap length none in omega arith }

pub few_first : (count : ℕ) (sampling : Sampling) → HasNone count sampling → HaveFew sampling sampling
few_first count sampling none = record { telling = none_few sampling.telling none.telling; others = none_few sampling.others none.others }

by_test : (P : Spread → Type 0) (b : Bool) (x y : Spread) → (b ≡ true → P x) → P y → P (cond b x y)
by_test P true x y hx hy = hx refl
by_test P false x y hx hy = hy

-- where a row is wanted there is room for it
is_room : (spread : Spread) (row : ℕ) → wants spread row ≡ true → length spread.kept.list < spread.kept.most
is_room spread row wanted = grind (arith, nat_tests)

few_kept : (most : ℕ) (spread : Spread) (row : ℕ) (ties : RowTies) → HasFew most spread → wants spread row ≡ true → HasFew most (kept_row spread row ties)
few_kept most spread row ties few wanted =
    let one : SampledRow = record { row = row; ties = ties } in
    let long = length-append spread.kept.list (one ∷ []) in
    let below = is_room spread row wanted in
    let room = few.room in
    record { room = few.room; few = omega arith }

few_passed : (most : ℕ) (spread : Spread) (row : ℕ) → HasFew most spread → HasFew most (passed spread row)
few_passed most spread row few = by_choice (HasFew most) (wants spread row) (passed_row spread row) spread (record { room = few.room; few = few.few }) few

few_offered : (most : ℕ) (spread : Spread) (row : ℕ) (ties : RowTies) (worth : Bool) → HasFew most spread → HasFew most (offered spread row ties worth)
few_offered most spread row ties worth few =
    by_choice (HasFew most) worth (cond (wants spread row) (kept_row spread row ties) spread) (passed spread row)
    (by_test (HasFew most) (wants spread row) (kept_row spread row ties) spread (few_kept most spread row ties few) few)
    (few_passed most spread row few)

-- nor are there once a row was offered
pub few_later : (room : Room) (place row : ℕ) (begun old new : Sampling) → OffersRow room place row old new → HaveFew begun old → HaveFew begun new
few_later room place row begun old new offers few = elim (cases_Bool (is_wanted old row)) [
  | inr off ↦ subst (HaveFew begun) (sym (offers.unwanted off)) few
  | inl on ↦
      (elim (offers.wanted on).takes [
        | inl many ↦ subst (HaveFew begun) (sym many.1) (record { telling = few_passed _ old.telling row few.telling; others = few_passed _ old.others row few.others })
        | inr told ↦ subst (HaveFew begun) (sym told.2) (record { telling = few_offered _ old.telling row told.0 _ few.telling; others = few_offered _ old.others row told.0 _ few.others })
      ])
]

kept_of : (P : KeptRows → Type 0) (test : Bool) (one other : KeptRows) → P one → P other → P (cond test one other)
kept_of P true one other first second = first
kept_of P false one other first second = second

-- nor among the rows that are asked
pub few_chosen : (most : ℕ) (sampling : Sampling) (kept : KeptRows) → length sampling.telling.kept.list ≤ most → length sampling.others.kept.list ≤ most → kept ≡ chosen sampling → length kept.list ≤ most
few_chosen most sampling kept telling others is =
    let P : KeptRows → Type 0 = λ rows. length rows.list ≤ most in
    subst P (sym is) (kept_of P (nat_lt sampling.badrows (length sampling.telling.kept.list)) sampling.telling.kept sampling.others.kept telling others)

-- the rows that are asked lie below what all rows lie below
pub below_chosen : (row : ℕ) (sampling : Sampling) (kept : KeptRows) → LieBelow row sampling → kept ≡ chosen sampling → AreBelow row kept.list
below_chosen row sampling kept below is =
    let P : KeptRows → Type 0 = λ rows. AreBelow row rows.list in
    subst P (sym is) (kept_of P (nat_lt sampling.badrows (length sampling.telling.kept.list)) sampling.telling.kept sampling.others.kept below.telling below.others)
