-- The text of a plan tried on a small one, whose spelling was written out by hand.
use Rattle.std.proofs.Common.{◌≡◌, ℕ, List, false, [], ◌∷◌, codes, refl, Option, None, Some}
use Rattle.landmark_rules.specs.declared.marks.MarkBounds.{MarkBounds}
use Rattle.std.specs.Fmt.{digits}
use Rattle.raid_params.specs.declared.types.Level.TheVariants.{Raid5}
use Rattle.raid_params.specs.declared.types.Pattern.TheVariants.{Ls}
use Rattle.raid_params.specs.declared.types.Syndrome.TheVariants.{NoQ}
use Rattle.mark_kinds.specs.declared.table.Kind.TheVariants.{Super, Agf}
use Rattle.mark_kinds.specs.declared.table.GroupKind.TheVariants.{Xfs}
use Rattle.landmark_rules.specs.declared.marks.Rule.TheVariants.{At, Every}
use Rattle.search_plan.specs.declared.plan.Plan.{Plan}
use Rattle.plan_text.specs.PlanText.{plan_text}

-- three images of two sectors, left-symmetric, one sector a chunk, with two marks of an XFS
plan : List ℕ → Option MarkBounds → Plan
plan delays bounds = record {
  lengths = record { items = 2 ∷ 2 ∷ 2 ∷ [] };
  end = 2;
  bounds = record {
    levels = record { items = Raid5 ∷ [] };
    members = record { items = 3 ∷ [] };
    patterns = record { items = Ls ∷ [] };
    delays = record { items = delays };
    syndromes = record { items = NoQ ∷ [] };
    chunks = record { items = 1 ∷ [] };
    offsets = record { items = 0 ∷ [] };
    missing = 0;
    foreign = 0;
  };
  limits = record { badrows = 0; window = 2 };
  tests = record { origins = record { items = 0 ∷ [] }; misfits = 0; least = 1 };
  groups = record {
    kind = Xfs;
    marks = record { kind = Super; image = 0; sector = 0; rule = Every 64 4 0 } ∷ record { kind = Agf; image = 2; sector = 1; rule = At 65 } ∷ [];
    bounds = bounds;
  } ∷ [];
  each = false;
}

text_of_plan : plan_text (plan (1 ∷ []) None) ≡ codes "reraid-plan 1\nimages 3\nlength 2\nlength 2\nlength 2\nend 2\nlevels 5\nmembers 3\npatterns ls\nsyndromes none\nchunks 1\noffsets 0\norigins 0\nmissing 0\nforeign 0\nbadrows 0\nwindow 2\nmisfits 0\nleast 1\ngroup xfs\nmark super 0 0 every:64:4:0\nmark agf 2 1 at:65\ndone\n"
unfolding plan digits
text_of_plan = refl

-- the same, where the XFS may have ten misfits and has to have two fits
text_of_bounds : plan_text (plan (1 ∷ []) (Some (record { misfits = 10; least = 2 }))) ≡ codes "reraid-plan 3\nmode common\nimages 3\nlength 2\nlength 2\nlength 2\nend 2\nlevels 5\nmembers 3\npatterns ls\nsyndromes none\nchunks 1\noffsets 0\norigins 0\nmissing 0\nforeign 0\nbadrows 0\nwindow 2\nmisfits 0\nleast 1\ngroup xfs\nbounds 10 2\nmark super 0 0 every:64:4:0\nmark agf 2 1 at:65\ndone\n"
unfolding plan digits
text_of_bounds = refl

-- and where parity may stay for one row or for 16
text_of_delays : plan_text (plan (1 ∷ 16 ∷ []) None) ≡ codes "reraid-plan 3\nmode common\nimages 3\nlength 2\nlength 2\nlength 2\nend 2\nlevels 5\nmembers 3\npatterns ls\ndelays 1,16\nsyndromes none\nchunks 1\noffsets 0\norigins 0\nmissing 0\nforeign 0\nbadrows 0\nwindow 2\nmisfits 0\nleast 1\ngroup xfs\nmark super 0 0 every:64:4:0\nmark agf 2 1 at:65\ndone\n"
unfolding plan digits
text_of_delays = refl
