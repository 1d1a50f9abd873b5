-- What is kept once a row was offered.
use Rattle.std.proofs.Common.{ℕ, ◌≡◌, ◌+◌, Bool, true, false, cond, List, length, refl, sym, ap, subst, ◌∙◌, arith, inl, inr}
use Rattle.std.proofs.lemmas.Bool.{cases_Bool}
use Rattle.member_regions.specs.Regions.{Room}
use Rattle.relation_prefix.specs.Laws.{AreSectorsAt}
use Rattle.relation_prefix.specs.Sampled.{AreBelow}
use Rattle.relation_prefix.specs.declared.row_ties.RowTies.{RowTies}
use Rattle.relation_prefix.proofs.Keeping.{below_more, below_push, kept_rows}
use Rattle.row_relations.specs.Tables.{IsTable, Table}
use Rattle.row_samples.specs.Rows.{AreImageRows, HoldSector}
use Rattle.row_samples.specs.Spreads.{is_wanted, kept_row, left_out, offered, passed, passed_row, taken, wants, AreSampled, LieBelow, OffersRow, Sampling, TakesTable}
use Rattle.row_samples.specs.declared.spread.Spread.{Spread}

-- what holds whatever was chosen
pub by_choice : (P : Spread → Type 0) (b : Bool) (x y : Spread) → P x → P y → P (cond b x y)
by_choice P true x y hx hy = hx
by_choice P false x y hx hy = hy

module _ (P : Spread → Type 0) (spread : Spread) (row : ℕ) (same : P spread) (next : P (passed_row spread row)) where
  any_passed : P (passed spread row)
  any_passed = by_choice P (wants spread row) (passed_row spread row) spread next same

  any_offered : (ties : RowTies) (worth : Bool) → P (kept_row spread row ties) → P (offered spread row ties worth)
  any_offered ties worth kept =
      by_choice P worth (cond (wants spread row) (kept_row spread row ties) spread) (passed spread row) (by_choice P (wants spread row) (kept_row spread row ties) spread kept same) any_passed

-- what holds of both spreads, and of each with the row kept, holds once a row was offered
module _ (P : Spread → Type 0) (old : Sampling) (row : ℕ) (telling : P old.telling) (telling_next : P (passed_row old.telling row)) (others : P old.others) (others_next : P (passed_row old.others row)) where
  any_left : (new : Sampling) → new ≡ left_out old row → P new.telling × P new.others
  any_left new e = (
    subst (λ (s : Sampling). P s.telling) (sym e) (any_passed P old.telling row telling telling_next),
    subst (λ (s : Sampling). P s.others) (sym e) (any_passed P old.others row others others_next),
  )

  any_taken : (new : Sampling) (ties : RowTies) → new ≡ taken old row ties → P (kept_row old.telling row ties) → P (kept_row old.others row ties) → P new.telling × P new.others
  any_taken new ties e first second = (
    subst (λ (s : Sampling). P s.telling) (sym e) (any_offered P old.telling row telling telling_next ties _ first),
    subst (λ (s : Sampling). P s.others) (sym e) (any_offered P old.others row others others_next ties _ second),
  )

-- how many images there are, and the length of the parts, stay
pub record AreSame (old new : Sampling) : Type 0 where
  pub telling_images : new.telling.kept.images ≡ old.telling.kept.images
  pub others_images : new.others.kept.images ≡ old.others.kept.images
  pub telling_part : new.telling.part ≡ old.telling.part
  pub others_part : new.others.part ≡ old.others.part

pub takes_same : (table : Table) (row : ℕ) (old new : Sampling) → TakesTable table row old new → AreSame old new
takes_same table row old new (inl many) = record {
  telling_images = subst (λ (s : Sampling). s.telling.kept.images ≡ old.telling.kept.images) (sym many.1) (any_passed (λ s. s.kept.images ≡ old.telling.kept.images) old.telling row refl refl);
  others_images = subst (λ (s : Sampling). s.others.kept.images ≡ old.others.kept.images) (sym many.1) (any_passed (λ s. s.kept.images ≡ old.others.kept.images) old.others row refl refl);
  telling_part = subst (λ (s : Sampling). s.telling.part ≡ old.telling.part) (sym many.1) (any_passed (λ s. s.part ≡ old.telling.part) old.telling row refl refl);
  others_part = subst (λ (s : Sampling). s.others.part ≡ old.others.part) (sym many.1) (any_passed (λ s. s.part ≡ old.others.part) old.others row refl refl);
}
takes_same table row old new (inr few) = record {
  telling_images = subst (λ (s : Sampling). s.telling.kept.images ≡ old.telling.kept.images) (sym few.2) (any_offered (λ s. s.kept.images ≡ old.telling.kept.images) old.telling row refl refl few.0 _ refl);
  others_images = subst (λ (s : Sampling). s.others.kept.images ≡ old.others.kept.images) (sym few.2) (any_offered (λ s. s.kept.images ≡ old.others.kept.images) old.others row refl refl few.0 _ refl);
  telling_part = subst (λ (s : Sampling). s.telling.part ≡ old.telling.part) (sym few.2) (any_offered (λ s. s.part ≡ old.telling.part) old.telling row refl refl few.0 _ refl);
  others_part = subst (λ (s : Sampling). s.others.part ≡ old.others.part) (sym few.2) (any_offered (λ s. s.part ≡ old.others.part) old.others row refl refl few.0 _ refl);
}

module _ (room : Room) (place row : ℕ) (old new : Sampling) (offers : OffersRow room place row old new) where
  -- of as many images as before
  pub offered_images : (new.telling.kept.images ≡ old.telling.kept.images) × (new.others.kept.images ≡ old.others.kept.images)
  offered_images = elim (cases_Bool (is_wanted old row)) [
    | inr off ↦ (ap (λ (s : Sampling). s.telling.kept.images) (offers.unwanted off), ap (λ (s : Sampling). s.others.kept.images) (offers.unwanted off))
    | inl on ↦ (let of = offers.wanted on in let same = takes_same of.table row old new of.takes in (same.telling_images, same.others_images))
  ]

  -- none of a later row
  pub offered_below : LieBelow row old → LieBelow (row + 1) new
  offered_below below = elim (cases_Bool (is_wanted old row)) [
    | inr off ↦ subst (LieBelow (row + 1)) (sym (offers.unwanted off)) (record { telling = below_more row old.telling.kept.list below.telling; others = below_more row old.others.kept.list below.others })
    | inl on ↦
        (let P : Spread → Type 0 = λ s. AreBelow (row + 1) s.kept.list in
        let first = below_more row old.telling.kept.list below.telling in
        let second = below_more row old.others.kept.list below.others in
        elim (offers.wanted on).takes [
          | inl many ↦ (let both = any_left P old row first first second second new many.1 in record { telling = both.0; others = both.1 })
          | inr few ↦
              (let both = any_taken P old row first first second second new few.0 few.2 (below_push row few.0 old.telling.kept.list below.telling) (below_push row few.0 old.others.kept.list below.others) in
              record { telling = both.0; others = both.1 })
        ])
  ]

  -- and rows of the images, where the regions hold a row of them
  pub offered_rows : (images : List (List ℕ)) (count offset : ℕ) → old.telling.kept.images ≡ count → HoldSector images count (offset + row) place room → LieBelow row old →
      AreSampled images count offset old → AreSampled images count offset new
  offered_rows images count offset e hold below are = elim (cases_Bool (is_wanted old row)) [
    | inr off ↦ subst (AreSampled images count offset) (sym (offers.unwanted off)) are
    | inl on ↦
        (let P : Spread → Type 0 = λ s. AreImageRows images count offset s.kept.list in
        let of = offers.wanted on in
        let long : length images ≡ count = are.telling.count_is in
        let same : old.telling.kept.images ≡ length images = e ∙ sym long in
        let at : AreSectorsAt images (offset + row) of.sectors = λ i c lt inside. of.of i c (omega arith) inside ∙ hold i c (omega arith) inside in
        let is : IsTable (length images) of.sectors of.table = subst (λ (n : ℕ). IsTable n of.sectors of.table) same of.is in
        elim of.takes [
          | inl many ↦ (let both = any_left P old row are.telling are.telling are.others are.others new many.1 in record { telling = both.0; others = both.1 })
          | inr few ↦
              (let both = any_taken P old row are.telling are.telling are.others are.others new few.0 few.2
              (record { count_is = long; are = kept_rows images offset row of.sectors of.table few.0 old.telling.kept.list of.bytes at is few.1 below.telling are.telling.are })
              (record { count_is = long; are = kept_rows images offset row of.sectors of.table few.0 old.others.kept.list of.bytes at is few.1 below.others are.others.are }) in
              record { telling = both.0; others = both.1 })
        ])
  ]
