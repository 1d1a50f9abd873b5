-- What rows say of the prefixes of a head's slot lists.
use Rattle.std.specs.Prelude.{ℕ, ◌≡◌, ◌+◌, ◌-◌, ◌*◌, ◌/◌, ◌%◌, min, Bool, true, not, ◌||◌, nat_le, nat_lt, if◌then◌else◌, List, drop, length, take}
use Rattle.std.specs.Option.{option_map, option_map_or}
use Rattle.std.specs.declared.option.Option.{Option}
use Rattle.raid_params.specs.declared.types.Head.{Head}
use Rattle.search_plan.specs.Rows.{tested_with}
use Rattle.search_plan.specs.declared.plan.Plan.{Plan}
use Rattle.relation_prefix.specs.declared.sampled.PrefixTest.{PrefixTest}
use Rattle.relation_prefix.specs.declared.sampled.SampledRow.{SampledRow}
use Rattle.relation_prefix.specs.Laws.{prefix_test}
use Rattle.relation_prefix.specs.Sampled.{all_tell, may_begin, Asked, KeptRows}

-- the most empty slots of a set of so many members: as many as may be missing, and as the other images leave
abbrev pub most_empty : Plan → ℕ → ℕ
most_empty plan members = min plan.bounds.missing (members + plan.bounds.foreign - length plan.lengths.items)

-- what is asked of rows for a head of a plan
abbrev pub test_of : Plan → Head → PrefixTest
test_of plan head = prefix_test head (tested_with plan head.chunk head.offset) plan.limits.badrows (most_empty plan head.members)

-- how many of some rows are asked of a prefix of so many slots: few more than twice as many as may be unsound, none where one or two
-- slots are open or the rows tell little, and all of a whole list
abbrev pub rows_asked : Bool → ℕ → ℕ → ℕ → ℕ → ℕ
rows_asked tell badrows rows members slots =
    if nat_le members slots then rows else if (nat_lt (members - slots) 3 || not tell) then 0 else min rows (min badrows 4096 * 2 + 4)

-- the first of them: elsewhere among the rows for each of four numbers of slots that follow one another
abbrev pub first_asked : ℕ → ℕ → ℕ → ℕ
first_asked rows asked slots = min (rows / 4 * (slots % 4)) (rows - asked)

-- by these, the slots of a set may begin so
abbrev pub lets_begin_by : List SampledRow → ℕ → PrefixTest → List (Option ℕ) → Bool
lets_begin_by rows asked test prefix = may_begin (take asked (drop (first_asked (length rows) asked (length prefix)) rows)) test prefix

-- by the rows that are asked of it
abbrev pub lets_begin : List SampledRow → PrefixTest → List (Option ℕ) → Bool
lets_begin rows test prefix = lets_begin_by rows (rows_asked (all_tell rows) test.badrows (length rows) test.head.members (length prefix)) test prefix

-- the same of rows that are there, or none
abbrev pub rows_allow : Option Asked → List (Option ℕ) → Bool
rows_allow relations prefix = option_map_or (λ r. lets_begin r.rows.list r.test prefix) relations true

-- the test of a head by some rows
abbrev pub asked_of : KeptRows → Plan → Head → Asked
asked_of rows plan head = record { rows = rows; test = test_of plan head }

-- the rows of a test, if there is one
abbrev pub kept_rows : Option Asked → Option (List SampledRow)
kept_rows relations = option_map (λ r. r.rows.list) relations

-- a test is that of a plan and a head, by rows of all images
pub record AreRelationsOf (plan : Plan) (head : Head) (relations : Asked) : Type 0 where
  pub test : relations.test ≡ test_of plan head
  pub images : relations.rows.images ≡ length plan.lengths.items
