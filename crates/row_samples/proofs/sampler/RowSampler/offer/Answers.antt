use Rattle.std.proofs.Common.{◌≡◌, ◌<◌, ◌*◌, ℕ, List, length, arith, ap, subst, sym, ◌∙◌}
use Rattle.std.proofs.lemmas.Bool.{false≢true}
use Rattle.row_relations.specs.Tables.{IsTable}
use Rattle.row_samples.proofs.Copied.{written_whole}
use Rattle.row_samples.proofs.Offered.{takes_same}
use Rattle.row_samples.specs.Spreads.{AreSectorsOf, OffersTable, Sampling}
use Rattle.row_samples.proofs.sampler.RowSampler.offer.Goals as goal

pub invariant_of-self : goal.invariant_of-self
invariant_of-self c =
    let inside = c.self.inside in
    let inv = c.self.invariant in
    let old : Sampling = record { telling = inside.telling; others = inside.others; badrows = inside.badrows } in
    let new : Sampling = record { telling = c.take.new.telling; others = c.take.new.others; badrows = inside.badrows } in
    let same = takes_same c.fill_table.new.table c.args.row old new (c.take.ensures.takes inside.badrows) in
    let value = ap (λ (l : List ℕ). length l) c.as_mut_slice.ensures.value in
    let copied : length c.copy_row.new.to ≡ length inside.sectors.items = c.copy_row.auto.to ∙ value in
    let whole = written_whole inside.sectors.len inside.sectors.items c.copy_row.new.to copied (omega (arith, c.as_mut_slice.ensures.len, value)) in (
      c.fill_table.ensures.table.standings ∙ inv.0 ∙ sym same.telling_images,
      same.others_images ∙ inv.1 ∙ sym same.telling_images,
      ap (λ (l : List ℕ). length l) (sym whole) ∙ copied ∙ inv.2 ∙ ap (λ (n : ℕ). 512 * n) (sym same.telling_images),
      subst (λ (n : ℕ). 0 < n) (sym same.telling_part) inv.3,
      subst (λ (n : ℕ). n < 36028797018963968) (sym same.telling_part) inv.4,
      subst (λ (n : ℕ). 0 < n) (sym same.others_part) inv.5,
      subst (λ (n : ℕ). n < 36028797018963968) (sym same.others_part) inv.6,
    )

pub returns : goal.returns
returns c =
    let inside = c.self.inside in
    let inv = c.self.invariant in
    let new : Sampling = record { telling = c.take.new.telling; others = c.take.new.others; badrows = inside.badrows } in
    let value = ap (λ (l : List ℕ). length l) c.as_mut_slice.ensures.value in
    let copied : length c.copy_row.new.to ≡ length inside.sectors.items = c.copy_row.auto.to ∙ value in
    let whole : c.deref.result.now ≡ c.copy_row.new.to
    = c.deref.ensures.value ∙ sym (written_whole inside.sectors.len inside.sectors.items c.copy_row.new.to copied (omega (arith, c.as_mut_slice.ensures.len, value))) in
    let count : c.images-images.result ≡ inside.telling.kept.images = c.images-images.ensures.images ∙ inv.0 in
    let of : AreSectorsOf c.args.regions.now inside.telling.kept.images c.args.place c.deref.result.now
    = subst (λ (l : List ℕ). AreSectorsOf c.args.regions.now inside.telling.kept.images c.args.place l) (sym whole)
    (subst (λ (n : ℕ). AreSectorsOf c.args.regions.now n c.args.place c.copy_row.new.to) count c.copy_row.ensures.sectors) in
    let is : IsTable inside.telling.kept.images c.deref.result.now c.fill_table.new.table = subst (λ (n : ℕ). IsTable n c.deref.result.now c.fill_table.new.table) inv.0 c.fill_table.ensures.table in
    let P : Sampling → Type 0 = λ old. OffersTable c.args.regions.now old.telling.kept.images c.args.place c.args.row old new in
    record {
      offers = record {
        unwanted = λ off. absurd (false≢true (sym off ∙ sym c.wants.ensures ∙ c.if-not-wants.false));
        wanted = λ on. subst P c.self.view_is (record {
          sectors = c.deref.result.now;
          table = c.fill_table.new.table;
          of = of;
          bytes = c.fill_table.ensures.bytes;
          is = is;
          takes = c.take.ensures.takes inside.badrows;
        });
      };
    }
