use Rattle.std.proofs.Common.{◌∙◌, ap}
use Rattle.image_source.specs.Memory.{Shelf, Tape, Tray}
use Rattle.reraid_rows.proofs.objects.ready.Goals as goal

pub returns : goal.returns
returns c = rw c.images-2.view_is (record {
  fresh = c.in_ok-name_words.ensures.attached ∙ (c.in_ok-add_contents.ensures.attached ∙ ap (λ (m : Shelf). m.attached) c.in_ok-images.ensures);
  named = c.in_ok-name_words.ensures.named;
  images_whole = c.in_ok-name_words.ensures.faults ∙ (c.in_ok-add_contents.ensures.faults ∙ ap (λ (m : Shelf). m.faults) c.in_ok-images.ensures);
  plan_whole = ap (λ (m : Tape). m.faults) c.in_ok-new.ensures;
  out_whole = ap (λ (m : Tray). m.faults) c.in_ok-new-2.ensures;
  notes_whole = ap (λ (m : Tray). m.faults) c.in_ok-new-3.ensures;
})
