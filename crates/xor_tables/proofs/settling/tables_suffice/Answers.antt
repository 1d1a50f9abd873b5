use Rattle.std.proofs.Common.{◌≡◌, ◌⊎◌, ℕ, ◌<◌, ◌≤◌, length, get_or, arith, refl, subst, sym, inl, inr, ◌∙◌}
use Rattle.std.proofs.lemmas.Bool.{cases_eq}
use Rattle.std.proofs.lemmas.List.{get_or_read_under}
use Rattle.xor_tables.specs.Early.{IsSettled}
use Rattle.xor_tables.specs.Paces.{pace_at}
use Rattle.xor_tables.specs.Xors.{RowTable}
use Rattle.search_plan.specs.Rows.{tested_with}
use Rattle.xor_tables.proofs.settling.tables_suffice.Goals as goal

pub loop-place-preserved : goal.loop-place-preserved
loop-place-preserved c = λ k none lt. elim (cases_eq k c.loop-place.place) [
  | inl e ↦ (let P : ℕ → RowTable → Type 0 = λ n table. (tested_with c.args.plan.now (pace_at c.args.paces.now n).chunk c.args.offset ≤ c.args.first) ⊎ IsSettled c.args.plan.now (pace_at c.args.paces.now n) c.args.offset table in
      let within : c.loop-place.place < length c.args.tables.now = let same = c.requires.tables in let lt = c.loop-place-test.true in omega arith in
      let read : c.index-tables-place.result ≡ get_or c.args.tables.now c.loop-place.place none
      = get_or_read_under c.args.tables.now c.loop-place.place (length c.args.tables.now) c.index-tables-place.result none c.index-tables-place.is within refl in
      subst (λ (n : ℕ). P n (get_or c.args.tables.now n none)) (sym e) (subst (P c.loop-place.place) (c.table.view_is ∙ read) (c.suffices.ensures c.if-not-suffices.false)))
  | inr ne ↦ c.loop-place.invariant k none (omega arith)
]

pub returns : goal.returns
returns c = λ e k none lt. c.loop-place.invariant k none (omega arith)
