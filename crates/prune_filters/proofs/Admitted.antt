-- A prefix is hopeful by a table of rows exactly where it is over the bytes of the images.
use Rattle.std.proofs.Common.{◌≡◌, ℕ, List, ap, Bool, true, false, ◌&&◌, refl, nat_le, IsTrue, Option}
use Rattle.std.specs.List.{Contains}
use Rattle.raid_params.specs.Size.{rows}
use Rattle.raid_params.specs.Validity.{is_valid_head}
use Rattle.raid_params.specs.declared.types.Head.{Head}
use Rattle.search_plan.specs.Plans.{IsPlan}
use Rattle.search_plan.specs.declared.plan.Plan.{Plan}
use Rattle.mark_tables.specs.Marks.{groups_may_hold}
use Rattle.xor_tables.specs.Early.{HasEarlyTable}
use Rattle.xor_tables.specs.Xors.{HasXorTable, RowTable}
use Rattle.xor_tables.proofs.Told.{rows_told, rows_told_early}
use Rattle.prune_filters.specs.Hopeful.{is_hopeful, is_hopeful_by, IsPrefix}

-- by the whole table, and by an early one at the levels of the plan
pub admitted_is_hopeful : (bytes : List (List ℕ)) (plan : Plan) (head : Head) (xors : Option RowTable) (prefix : List (Option ℕ)) → IsPlan plan → IsTrue (is_valid_head head) →
    HasXorTable bytes plan head xors → IsPrefix plan head prefix → is_hopeful_by xors plan head prefix ≡ is_hopeful bytes plan head prefix
admitted_is_hopeful bytes plan head xors prefix is_plan valid are is =
    ap (λ (b : Bool). nat_le 1 (rows head plan.end) && (groups_may_hold plan head prefix && b)) (rows_told bytes plan head xors prefix is_plan valid are is)

pub admitted_early : (bytes : List (List ℕ)) (plan : Plan) (head : Head) (early : Option RowTable) (prefix : List (Option ℕ)) → IsPlan plan → IsTrue (is_valid_head head) →
    Contains plan.bounds.levels.items head.level → HasEarlyTable bytes plan head early → IsPrefix plan head prefix → is_hopeful_by early plan head prefix ≡ is_hopeful bytes plan head prefix
admitted_early bytes plan head early prefix is_plan valid there are is =
    ap (λ (b : Bool). nat_le 1 (rows head plan.end) && (groups_may_hold plan head prefix && b)) (rows_told_early bytes plan head early prefix is_plan valid there are is)

-- where what does not ask the marks is asked first
pub moved_then : (a b c : Bool) → (a && c) ≡ true → b ≡ (a && (b && c))
moved_then true true true e = refl
moved_then true false true e = refl
moved_then true b false e = absurd (cc)
moved_then false b c e = absurd (cc)

pub moved_else : (a b c : Bool) → (a && c) ≡ false → false ≡ (a && (b && c))
moved_else true b true e = absurd (cc)
moved_else true true false e = refl
moved_else true false false e = refl
moved_else false b c e = refl
