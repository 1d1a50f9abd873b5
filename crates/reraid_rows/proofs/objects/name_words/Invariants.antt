use Rattle.std.proofs.Common.{◌≡◌, All, IsTrue, take}
use Rattle.image_source.specs.Memory.{seen_of}
use Rattle.reraid_rows.proofs.objects.name_words.Given as goal

abbrev pub invariant-loop-word : goal.invariant-loop-word
invariant-loop-word l = record {
  named : All (λ word. IsTrue ((seen_of l.images).world.may_attach word)) (take l.word-index l.words);
  attached : l.images.attached ≡ l.fn.images.attached;
  faults : l.images.faults ≡ l.fn.images.faults;
}
