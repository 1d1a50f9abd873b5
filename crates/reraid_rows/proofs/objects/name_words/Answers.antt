use Rattle.std.proofs.Common.{◌∙◌}
use Rattle.image_source.specs.Memory.{seen_of}
use Rattle.reraid_rows.proofs.Ready.{all_taken, one_more}
use Rattle.reraid_rows.proofs.objects.name_words.Goals as goal

pub loop-word-preserved : goal.loop-word-preserved
loop-word-preserved c = record {
  named = one_more _ _ _ _ c.word-item.result _ c.loop-word-test.true (c.as_str.ensures ∙ c.word-item.is) c.in_ok-add.ensures.others c.in_ok-add.ensures.named c.loop-word.invariant.named;
  attached = c.in_ok-add.ensures.attached ∙ c.loop-word.invariant.attached;
  faults = c.in_ok-add.ensures.faults ∙ c.loop-word.invariant.faults;
}

pub returns-clause-named : goal.returns-clause-named
returns-clause-named c = all_taken (λ word. (seen_of c.loop-word.images).world.may_attach word) c.args.words.now c.loop-word.word-index c.loop-word-test.false c.loop-word.invariant.named
