-- What a table of rows says of a prefix is so over the bytes of the images.
use Rattle.std.proofs.Common.{◌≡◌, ℕ, List, length, ap, sym, ◌∙◌, Bool, true, false, not, ◌||◌, nat_le, IsTrue, Option, Some, None, refl}
use Rattle.std.specs.List.{Contains}
use Rattle.std.specs.Option.{option_map_or}
use Rattle.raid_params.specs.Validity.{is_valid_head}
use Rattle.raid_params.specs.declared.types.Head.{Head}
use Rattle.slot_math.specs.Ways.{IsPrefixOf}
use Rattle.search_plan.specs.Plans.{IsPlan}
use Rattle.search_plan.specs.declared.plan.Plan.{Plan}
use Rattle.xor_tables.specs.Early.{HasEarlyTable}
use Rattle.xor_tables.specs.Rows.{needs_table, rows_may_hold}
use Rattle.xor_tables.specs.Xors.{broken_in, rows_hold_by, HasXorTable, RowTable}
use Rattle.xor_tables.proofs.Turns.{early_known, rows_known, rows_unasked}

-- where no table is asked, none is looked at
unasked : (bytes : List (List ℕ)) (plan : Plan) (head : Head) (table : Option RowTable) (prefix : List (Option ℕ)) → needs_table plan head ≡ false → rows_hold_by table plan head prefix ≡ rows_may_hold bytes plan head prefix
unasked bytes plan head table prefix e =
    ap (λ (b : Bool). not b || option_map_or (λ (t : RowTable). nat_le (broken_in t head.level head prefix) plan.limits.badrows) table false) e
    ∙ sym (rows_unasked bytes plan head prefix e)

asked : (plan : Plan) (head : Head) (table : RowTable) (prefix : List (Option ℕ)) → needs_table plan head ≡ true → rows_hold_by (Some table) plan head prefix ≡ nat_le (broken_in table head.level head prefix) plan.limits.badrows
asked plan head table prefix e = ap (λ (b : Bool). not b || nat_le (broken_in table head.level head prefix) plan.limits.badrows) e

whole_told : (bytes : List (List ℕ)) (plan : Plan) (head : Head) (xors : Option RowTable) (prefix : List (Option ℕ)) (needs : Bool) → IsPlan plan → IsTrue (is_valid_head head) →
    HasXorTable bytes plan head xors → IsPrefixOf (length plan.lengths.items) head.members prefix → needs_table plan head ≡ needs → rows_hold_by xors plan head prefix ≡ rows_may_hold bytes plan head prefix
whole_told bytes plan head xors prefix false is_plan valid are is e = unasked bytes plan head xors prefix e
whole_told bytes plan head None prefix true is_plan valid are is e = absurd (are e)
whole_told bytes plan head (Some table) prefix true is_plan valid are is e = asked plan head table prefix e ∙ rows_known bytes plan head prefix table valid is_plan is e (are e)

early_told : (bytes : List (List ℕ)) (plan : Plan) (head : Head) (early : Option RowTable) (prefix : List (Option ℕ)) (needs : Bool) → IsPlan plan → IsTrue (is_valid_head head) →
    Contains plan.bounds.levels.items head.level → HasEarlyTable bytes plan head early → IsPrefixOf (length plan.lengths.items) head.members prefix → needs_table plan head ≡ needs → rows_hold_by early plan head prefix ≡ rows_may_hold bytes plan head prefix
early_told bytes plan head early prefix false is_plan valid there are is e = unasked bytes plan head early prefix e
early_told bytes plan head None prefix true is_plan valid there are is e = absurd (are e)
early_told bytes plan head (Some table) prefix true is_plan valid there are is e = asked plan head table prefix e ∙ early_known bytes plan head prefix table valid is_plan is e there (are e)

-- what a table says of the rows is so: the whole one, and an early one at the levels of the plan
pub rows_told : (bytes : List (List ℕ)) (plan : Plan) (head : Head) (xors : Option RowTable) (prefix : List (Option ℕ)) → IsPlan plan → IsTrue (is_valid_head head) →
    HasXorTable bytes plan head xors → IsPrefixOf (length plan.lengths.items) head.members prefix → rows_hold_by xors plan head prefix ≡ rows_may_hold bytes plan head prefix
rows_told bytes plan head xors prefix is_plan valid are is = whole_told bytes plan head xors prefix (needs_table plan head) is_plan valid are is refl

pub rows_told_early : (bytes : List (List ℕ)) (plan : Plan) (head : Head) (early : Option RowTable) (prefix : List (Option ℕ)) → IsPlan plan → IsTrue (is_valid_head head) →
    Contains plan.bounds.levels.items head.level → HasEarlyTable bytes plan head early → IsPrefixOf (length plan.lengths.items) head.members prefix → rows_hold_by early plan head prefix ≡ rows_may_hold bytes plan head prefix
rows_told_early bytes plan head early prefix is_plan valid there are is = early_told bytes plan head early prefix (needs_table plan head) is_plan valid there are is refl
