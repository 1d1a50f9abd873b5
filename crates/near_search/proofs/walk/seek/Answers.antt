use Rattle.std.proofs.Common.{ℕ, ◌≡◌, ◌<◌, length, get_or, Option, Some, sym, ap, ap₂, ◌∙◌, arith, inl, inr}
use Rattle.std.specs.Option.{option_map_or}
use Rattle.std.proofs.lemmas.Bool.{cases_lt}
use Rattle.std.proofs.lemmas.Option.{slice_get-get_or}
use Rattle.slot_math.specs.declared.space.Space.{Space}
use Rattle.near_mirror.specs.declared.types.Copying.TheVariants.{Near}
use Rattle.near_mirror.specs.declared.types.NearHead.{NearHead}
use Rattle.near_search.specs.Product.{near_heads, near_space, set_count}
use Rattle.near_search.specs.Walk.{count_at, first_at}
use Rattle.near_search.specs.declared.heads.NearSets.{NearSets}
use Rattle.near_search.proofs.HeadPlaces.{heads_sound, sound_members}
use Rattle.near_search.proofs.Numbered.{all_before, first_more, is_head, numbered_at}
use Rattle.near_search.proofs.walk.seek.Goals as goal

pub overflow_cast-count : goal.overflow_cast-count
overflow_cast-count c =
    let none : NearHead = record { members = 0; chunk = 0; offset = 0; layout = record { copying = Near; copies = 0 } } in
    let lt : c.loop-at.at < length (near_heads c.args.ask.now) = let end = c.head_count-at-end.ensures in let below = c.loop-at-test.true in omega arith in
    let here = slice_get-get_or (near_heads c.args.ask.now) c.loop-at.at none lt in
    let count = c.count_at-count.ensures (get_or (near_heads c.args.ask.now) c.loop-at.at none) here in
    let within = (is_head c.args.many c.args.ask.now c.loop-at.at (get_or (near_heads c.args.ask.now) c.loop-at.at none) c.requires.ask here).within in
    let few = c.requires.few in
    omega arith

pub overflow_add-start : goal.overflow_add-start
overflow_add-start c =
    let none : NearHead = record { members = 0; chunk = 0; offset = 0; layout = record { copying = Near; copies = 0 } } in
    let lt : c.loop-at.at < length (near_heads c.args.ask.now) = let end = c.head_count-at-end.ensures in let below = c.loop-at-test.true in omega arith in
    let here = slice_get-get_or (near_heads c.args.ask.now) c.loop-at.at none lt in
    let count = c.count_at-count.ensures (get_or (near_heads c.args.ask.now) c.loop-at.at none) here in
    let within = (is_head c.args.many c.args.ask.now c.loop-at.at (get_or (near_heads c.args.ask.now) c.loop-at.at none) c.requires.ask here).within in
    let few = c.requires.few in
    let first = c.loop-at.invariant.first in
    omega arith

pub space-space-requires-clause-members : goal.space-space-requires-clause-members
space-space-requires-clause-members c = sound_members c.head_at-head.result (heads_sound c.args.ask.now c.loop-at.at c.head_at-head.result c.requires.ask c.head_at-head.ensures)

pub returns-then-rank-start-clause-sets : goal.returns-then-rank-start-clause-sets
returns-then-rank-start-clause-sets c =
    let count = c.count_at-count.ensures c.head_at-head.result c.head_at-head.ensures in
    let first = c.loop-at.invariant.first in
    let space : near_space c.args.many c.args.ask.now c.head_at-head.result ≡ c.space-space.result = sym c.space-space.ensures in
    numbered_at c.args.many c.args.ask.now c.loop-at.at c.head_at-head.result c.head_at-head.ensures
    ∙ ap₂ (λ (f n : ℕ). let o : Option NearSets = Some (record { head = c.head_at-head.result; space = near_space c.args.many c.args.ask.now c.head_at-head.result; first = f; count = n }) in o) (sym first) (sym count)
    ∙ ap (λ (s : Space). let o : Option NearSets = Some (record { head = c.head_at-head.result; space = s; first = c.loop-at.start; count = c.count_at-count.result }) in o) space

pub loop-at-preserved : goal.loop-at-preserved
loop-at-preserved c =
    let none : NearHead = record { members = 0; chunk = 0; offset = 0; layout = record { copying = Near; copies = 0 } } in
    let lt : c.loop-at.at < length (near_heads c.args.ask.now) = let end = c.head_count-at-end.ensures in let below = c.loop-at-test.true in omega arith in
    let here = slice_get-get_or (near_heads c.args.ask.now) c.loop-at.at none lt in
    let count = c.count_at-count.ensures (get_or (near_heads c.args.ask.now) c.loop-at.at none) here in
    let more = first_more c.args.many c.args.ask.now c.loop-at.at (near_heads c.args.ask.now) (get_or (near_heads c.args.ask.now) c.loop-at.at none) here in
    let first = c.loop-at.invariant.first in
    let high = c.if-rank-start.false in
    let start = c.requires.first in
    record {
      first = omega arith;
      low = omega arith;
      later = λ past. elim (cases_lt c.args.place c.loop-at.at) [
        | inl lt ↦ (let before = c.loop-at.invariant.later lt in omega arith)
        | inr le ↦ (let same : c.loop-at.at ≡ c.args.place = omega arith in
            let is : count_at c.args.many c.args.ask.now c.args.place ≡ c.count_at-count.result
            = ap (λ (k : ℕ). count_at c.args.many c.args.ask.now k) (sym same) ∙ ap (λ (o : Option NearHead). option_map_or (set_count c.args.many c.args.ask.now) o 0) here ∙ sym count in
            let at : first_at c.args.many c.args.ask.now c.loop-at.at ≡ first_at c.args.many c.args.ask.now c.args.place = ap (first_at c.args.many c.args.ask.now) same in
            omega arith)
      ];
    }

pub unreachable-requires : goal.unreachable-requires
unreachable-requires c =
    let end = c.loop-at-test.false in
    let long = c.head_count-at-end.ensures in
    let all = all_before c.args.many c.args.ask.now c.loop-at.at (omega arith) in
    let first = c.loop-at.invariant.first in
    let low = c.loop-at.invariant.low in
    let below = c.requires.rank in
    omega arith
