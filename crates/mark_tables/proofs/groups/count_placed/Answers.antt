use Rattle.std.proofs.Common.{ℕ, ◌+◌, None, [], slice_index_or, arith, ap, ap₂, refl, sym, ◌∙◌}
use Rattle.std.specs.Option.{option_map_or}
use Rattle.raid_params.specs.declared.limits.TheConstants.{MOST}
use Rattle.mark_tables.specs.Tables.{count_at}
use Rattle.mark_tables.specs.declared.counts.SlotCount.{SlotCount}
use Rattle.mark_tables.proofs.Prefixes.{count_of, held_below}
use Rattle.slot_math.proofs.Held.{sum_more}
use Rattle.mark_tables.proofs.groups.count_placed.Goals as goal

pub count_held-here-requires : goal.count_held-here-requires
count_held-here-requires c = held_below MOST c.loop-slot.slot c.args.prefix.now c.requires.images

pub loop-slot-preserved : goal.loop-slot-preserved
loop-slot-preserved c =
    let held = slice_index_or c.args.prefix.now c.loop-slot.slot None in
    let row = slice_index_or c.args.table.now c.loop-slot.slot [] in
    record {
      fits = ap₂ (λ (a b : ℕ). a + b) c.loop-slot.invariant.fits
          (c.from-fits.ensures ∙ ap (λ (x : SlotCount). x.fits) c.count_held-here.ensures ∙ count_of row held (λ x. x.fits) refl)
          ∙ sym (sum_more (λ s. option_map_or (λ image. (count_at c.args.table.now s image).fits) (slice_index_or c.args.prefix.now s None) 0) c.loop-slot.slot);
      misfits = ap₂ (λ (a b : ℕ). a + b) c.loop-slot.invariant.misfits
          (c.from-misfits.ensures ∙ ap (λ (x : SlotCount). x.misfits) c.count_held-here.ensures ∙ count_of row held (λ x. x.misfits) refl)
          ∙ sym (sum_more (λ s. option_map_or (λ image. (count_at c.args.table.now s image).misfits) (slice_index_or c.args.prefix.now s None) 0) c.loop-slot.slot);
      few_fits = let few = c.loop-slot.invariant.few_fits in omega arith;
      few_misfits = let few = c.loop-slot.invariant.few_misfits in omega arith;
    }
