-- What tables and rows pass over fails.
use Rattle.std.proofs.Common.{ℕ, zero, suc, ◌≡◌, ◌+◌, ◌-◌, Bool, true, false, ◌&&◌, List, [], length, take, refl, sym, ap, ap₂, ◌∙◌, arith, Option, Some, None, IfSome, IfOk, Result, Ok, Err, All, slice_get, inl, inr, subst}
use Rattle.std.specs.List.{list_all, range_with_len}
use Rattle.std.specs.Option.{is_some}
use Rattle.std.specs.Iterator.{YieldsFirst}
use Rattle.std.proofs.lemmas.Bool.{and_parts, cases_Bool}
use Rattle.raid_params.specs.Size.{rows}
use Rattle.raid_params.specs.Validity.{is_valid_head}
use Rattle.raid_params.specs.declared.types.Head.{Head}
use Rattle.search_plan.specs.Plans.{IsPlan}
use Rattle.plan_sets.specs.Sets.{passes_at, sets_of}
use Rattle.search_plan.specs.declared.plan.Plan.{Plan}
use Rattle.set_product.specs.declared.heads.HeadSets.{HeadSets}
use Rattle.slot_math.specs.Space.{lists_of}
use Rattle.slot_math.specs.declared.space.Space.{Space}
use Rattle.candidate_enum.specs.Left.{Left}
use Rattle.candidate_enum.specs.declared.leaf.Leaf.{Leaf}
use Rattle.candidate_enum.specs.Survivors.{admitted_leaves, all_admitted, question}
use Rattle.prune_filters.specs.Early.{HasEarlyTable}
use Rattle.prune_filters.specs.Hopeful.{is_hopeful_by}
use Rattle.prune_filters.specs.Rows.{needs_table}
use Rattle.prune_filters.specs.Xors.{RowTable}
use Rattle.head_walk.specs.Walk.{AdmitsHopeful, Asked, is_admitted, IsAmong, IsHeadOf, IsKept, IsPart, LeavesOutNone, NonePass, rows_admit, Sifted}
use Rattle.row_samples.specs.Rows.{AreImageRows}
use Rattle.relation_prefix.specs.declared.sampled.SampledRow.{SampledRow}
use Rattle.head_walk.proofs.Relating.{none_lie, rows_admit_front}
use Rattle.head_walk.proofs.Admitted.{admits_hopeful, each_prefix}
use Rattle.head_walk.specs.declared.row_tables.OffsetTables.{OffsetTables}
use Rattle.head_walk.proofs.Kept.{no_table}
use Rattle.head_walk.proofs.Leaves.{no_leaf}
use Rattle.head_walk.proofs.SetTests.{passes_as}

-- two tests that hold of each number
both_numbers : (p q : ℕ → Bool) (a n : ℕ) → list_all p (range_with_len a n) ≡ true → list_all q (range_with_len a n) ≡ true → list_all (λ k. p k && q k) (range_with_len a n) ≡ true
both_numbers p q a zero hp hq = refl
both_numbers p q a (suc n) hp hq =
    let left = and_parts (p a) (list_all p (range_with_len (a + 1) n)) hp in
    let right = and_parts (q a) (list_all q (range_with_len (a + 1) n)) hq in
    ap₂ (λ (b c : Bool). b && c) (ap₂ (λ (b c : Bool). b && c) left.0 right.0) (both_numbers p q (a + 1) n left.1 right.1)

first_numbers : (p q : ℕ → Bool) (a n : ℕ) → list_all (λ k. p k && q k) (range_with_len a n) ≡ true → list_all p (range_with_len a n) ≡ true
first_numbers p q a zero h = refl
first_numbers p q a (suc n) h =
    let parts = and_parts (p a && q a) (list_all (λ k. p k && q k) (range_with_len (a + 1) n)) h in
    let here = and_parts (p a) (q a) parts.0 in
    ap₂ (λ (b c : Bool). b && c) here.0 (first_numbers p q (a + 1) n parts.1)

-- both admit each prefix
both_admitted : (p q : List (Option ℕ) → Bool) (slots : List (Option ℕ)) → all_admitted p slots ≡ true → all_admitted q slots ≡ true → all_admitted (λ prefix. p prefix && q prefix) slots ≡ true
unfolding all_admitted
both_admitted p q slots hp hq = both_numbers (λ k. p (take k slots)) (λ k. q (take k slots)) 0 (length slots + 1) hp hq

first_admitted : (p q : List (Option ℕ) → Bool) (slots : List (Option ℕ)) → all_admitted (λ prefix. p prefix && q prefix) slots ≡ true → all_admitted p slots ≡ true
unfolding all_admitted
first_admitted p q slots h = first_numbers (λ k. p (take k slots)) (λ k. q (take k slots)) 0 (length slots + 1) h

-- a walk that asks rows too leaves out none that passes, and gives hopeful sets
pub admits_sifted : (told : Option (List (List ℕ))) (plan : Plan) (head : Head) (space : Space) (xors : Option RowTable) → IsPlan plan → is_valid_head head ≡ true → IsAmong plan.bounds head →
    IfSome told (λ bytes. HasEarlyTable bytes plan head xors) →
    (rows : Option (List SampledRow)) → IfSome told (λ bytes. IfSome rows (AreImageRows bytes (length plan.lengths.items) head.offset)) →
    AdmitsHopeful told plan head (is_admitted (record { asked = record { plan = plan; head = head; space = space; xors = xors }; rows = rows }))
admits_sifted told plan head space xors is_plan valid among tables rows lie =
    let hopeful = admits_hopeful told plan head xors is_plan valid among tables in
    record {
      leaves_out_none = left told hopeful.leaves_out_none lie;
      hopeful = λ rank slots stands all. hopeful.hopeful rank slots stands (first_admitted (is_hopeful_by xors plan head) (rows_admit s.asked s.rows) slots all);
    }
  where
    s : Sifted
    s = record { asked = record { plan = plan; head = head; space = space; xors = xors }; rows = rows }

    left : (told : Option (List (List ℕ))) → LeavesOutNone told plan head (is_hopeful_by xors plan head) →
        IfSome told (λ bytes. IfSome rows (AreImageRows bytes (length plan.lengths.items) head.offset)) → LeavesOutNone told plan head (is_admitted s)
    left None none lie = tt
    left (Some bytes) none lie = λ rank slots stands passing.
        let holds = sym (passes_as bytes plan rank (record { head = head; slots = record { items = slots } }) stands) ∙ passing in
        both_admitted (is_hopeful_by xors plan head) (rows_admit s.asked s.rows) slots (none rank slots stands passing)
        (each_prefix (rows_admit s.asked s.rows) slots (λ k. rows_admit_front bytes plan head rank k slots s.asked rows is_plan refl refl stands holds lie))

-- where no slot list is admitted, no set passes
pub none_admitted : (told : Option (List (List ℕ))) (plan : Plan) (sets : HeadSets) (admits : List (Option ℕ) → Bool) (from stop : ℕ) → IsHeadOf plan sets → IsPart sets from stop → LeavesOutNone told plan sets.head admits →
    admitted_leaves (question sets.space admits (from - sets.first) (stop - sets.first)) (from - sets.first) (stop - sets.first) ≡ [] → NonePass told plan from stop
none_admitted None plan sets admits from stop is_head part left none = tt
none_admitted (Some bytes) plan sets admits from stop is_head part left none = λ rank low high.
    let begins_at = part.begins in
    let ordered = part.ordered in
    let ends = part.ends in
    let count : sets.count ≡ length (lists_of sets.space) = is_head.count in
    let refused = no_leaf (question sets.space admits (from - sets.first) (stop - sets.first)) (from - sets.first) (stop - sets.first) (stop - from) (rank - sets.first) (omega arith) (omega arith) none (omega arith) (omega arith) in
    let at : slice_get (sets_of plan) rank ≡ Some (record { head = sets.head; slots = record { items = refused.slots } })
    = ap (slice_get (sets_of plan)) (let e : rank ≡ sets.first + (rank - sets.first) = omega arith in e) ∙ is_head.stand (rank - sets.first) refused.slots refused.list in
    elim (cases_Bool (passes_at bytes plan rank)) [
      | inl passing ↦ absurd (let no : true ≡ false = sym (left rank refused.slots at passing) ∙ refused.refusal in cc)
      | inr fails ↦ fails
    ]

-- what is told of tables where it is told of those that are asked
pub told_table : (told : Option (List (List ℕ))) (asks : Bool) (A B : List (List ℕ) → Type 0) → ((bytes : List (List ℕ)) → (asks ≡ true → A bytes) → B bytes) → (asks ≡ true → IfSome told A) → IfSome told B
told_table None asks A B f are = tt
told_table (Some bytes) asks A B f are = f bytes are

-- what a family of a head admits
pub family_admits : {E : Type 0} (plan : Plan) (head : Head) (kept : List OffsetTables) (asked : Asked) (rows : Option (List SampledRow)) (r : Result Sifted E) →
    IfOk r (λ family. family.asked ≡ asked) → IfOk r (λ family. family.rows ≡ rows) →
    ((told : Option (List (List ℕ))) → All (IsKept told plan) kept → AdmitsHopeful told plan head (is_admitted (record { asked = asked; rows = rows }))) →
    IfOk r (λ family. (told : Option (List (List ℕ))) → All (IsKept told plan) kept → AdmitsHopeful told plan head (is_admitted family))
family_admits plan head kept asked rows (Err fault) is lie admits = tt
family_admits plan head kept asked rows (Ok family) is lie admits = λ told all.
    let P : Asked → Option (List SampledRow) → Type 0 = λ a o. AdmitsHopeful told plan head (is_admitted (record { asked = a; rows = o })) in
    subst (λ (a : Asked). P a family.rows) (sym is) (subst (P asked) (sym lie) (admits told all))

-- where the family of a head without rows gives no leaf, no set passes
pub none_given : (told : Option (List (List ℕ))) (plan : Plan) (sets : HeadSets) (family : Sifted) (from stop : ℕ) → IsPlan plan → IsHeadOf plan sets → IsPart sets from stop → needs_table plan sets.head ≡ false →
    family.asked ≡ record { plan = plan; head = sets.head; space = sets.space; xors = None } → family.rows ≡ None →
    admitted_leaves (question sets.space (is_admitted family) (from - sets.first) (stop - sets.first)) (from - sets.first) (stop - sets.first) ≡ [] → NonePass told plan from stop
none_given told plan sets family from stop is_plan is_head part needless is lie none =
    let base = admits_sifted told plan sets.head sets.space None is_plan is_head.head is_head.among (no_table told plan sets.head needless)
    None (none_lie told (length plan.lengths.items) sets.head.offset) in
    let P : Asked → Option (List SampledRow) → Type 0 = λ a o. LeavesOutNone told plan sets.head (is_admitted (record { asked = a; rows = o })) in
    let left : LeavesOutNone told plan sets.head (is_admitted family) = subst (λ (a : Asked). P a family.rows) (sym is)
    (subst (P (record { plan = plan; head = sets.head; space = sets.space; xors = None })) (sym lie) base.leaves_out_none) in
    none_admitted told plan sets (is_admitted family) from stop is_head part left none

-- a walk that gives no leaf has none left
pub none_left_over : (old new : Left) (found : Option Leaf) → YieldsFirst (λ (s : Left). s.leaves) old found new → is_some found ≡ false → old.leaves ≡ []
none_left_over old new None steps none = steps.0
none_left_over old new (Some leaf) steps none = absurd (cc)
