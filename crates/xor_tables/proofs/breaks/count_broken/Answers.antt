use Rattle.std.proofs.Common.{◌≡◌, ℕ, [], Option, arith, ap}
use Rattle.std.specs.List.{slice_index, slice_index_or}
use Rattle.std.specs.Option.{option_map_or}
use Rattle.raid_params.specs.declared.limits.TheConstants.{MOST}
use Rattle.slot_math.proofs.Held.{image_below, sum_more}
use Rattle.xor_tables.specs.Heads.{broken_at}
use Rattle.xor_tables.proofs.Placed.{none_before}
use Rattle.xor_tables.proofs.breaks.count_broken.Goals.{in-Some, in_default}
use Rattle.xor_tables.proofs.breaks.count_broken.Goals as goal

pub returns-then-prefix-first : goal.returns-then-prefix-first
returns-then-prefix-first c =
    let short = c.if-prefix-first.true in
    let none = none_before c.args.placed.now c.args.prefix.now c.args.first _ c.requires.first c.requires.images short in
    omega arith

pub loop-slot-init : goal.loop-slot-init
loop-slot-init c =
    let none = none_before c.args.placed.now c.args.prefix.now c.args.first c.args.first c.requires.first c.requires.images (omega arith) in
    omega arith

pub bounds-placed-image : goal.bounds-placed-image
bounds-placed-image c = image_below MOST c.loop-slot.slot c.in-Some.image c.args.prefix.now c.requires.images c.in-Some.is

pub loop-slot-preserved : goal.loop-slot-preserved
loop-slot-preserved c =
    let next = sum_more (broken_at c.args.placed.now c.args.prefix.now) c.loop-slot.slot in
    let before = c.loop-slot.invariant in
    elim c.match-prefix-slot.branch [
      | in-Some w ↦
          let here : broken_at c.args.placed.now c.args.prefix.now c.loop-slot.slot ≡ slice_index (slice_index_or c.args.placed.now c.loop-slot.slot []) w.in-Some.image
          = ap (λ (held : Option ℕ). option_map_or (λ i. slice_index (slice_index_or c.args.placed.now c.loop-slot.slot []) i) held 0) w.in-Some.is in
          let added = w.saturating_add-sum.ensures in
          let is = w.sum-is in
          omega arith
      | in_default w ↦
          let here : broken_at c.args.placed.now c.args.prefix.now c.loop-slot.slot ≡ 0
          = ap (λ (held : Option ℕ). option_map_or (λ i. slice_index (slice_index_or c.args.placed.now c.loop-slot.slot []) i) held 0) w.in_default.is in
          let is = w.sum-is in
          omega arith
    ]
