-- Small plans of the tests.
use Rattle.std.specs.Prelude.{ℕ, false, List, [], ◌∷◌}
use Rattle.std.specs.declared.option.Option.TheVariants.{None}
use Rattle.landmark_rules.specs.declared.marks.Group.{Group}
use Rattle.landmark_rules.specs.declared.marks.Mark.{Mark}
use Rattle.landmark_rules.specs.declared.marks.Rule.TheVariants.{At}
use Rattle.mark_kinds.specs.declared.table.GroupKind.TheVariants.{Gpt as GptGroup}
use Rattle.mark_kinds.specs.declared.table.Kind.TheVariants.{Gpt}
use Rattle.raid_params.specs.declared.types.Level.TheVariants.{Raid5, Raid6}
use Rattle.raid_params.specs.declared.types.Pattern.TheVariants.{Ls}
use Rattle.raid_params.specs.declared.types.Syndrome.TheVariants.{NoQ, AfterQ}
use Rattle.search_plan.specs.declared.plan.Plan.{Plan}

-- three left-symmetric members of level 5 over images of these lengths, of which so many sectors are tested
abbrev pub small_plan : List ℕ → ℕ → Plan
small_plan lengths end = record {
  lengths = record { items = lengths };
  end = end;
  bounds = record {
    levels = record { items = Raid5 ∷ [] };
    members = record { items = 3 ∷ [] };
    patterns = record { items = Ls ∷ [] };
    delays = record { items = 1 ∷ [] };
    syndromes = record { items = NoQ ∷ [] };
    chunks = record { items = 1 ∷ [] };
    offsets = record { items = 0 ∷ [] };
    missing = 0;
    foreign = 0;
  };
  limits = record { badrows = 0; window = end };
  tests = record { origins = record { items = 0 ∷ [] }; misfits = 0; least = 1 };
  groups = [];
  each = false;
}

-- four members of level 6, after Q
abbrev pub four_plan : List ℕ → ℕ → Plan
four_plan lengths end = record (small_plan lengths end) {
  bounds = record (small_plan lengths end).bounds {
    levels = record { items = Raid6 ∷ [] };
    members = record { items = 4 ∷ [] };
    syndromes = record { items = AfterQ ∷ [] };
  };
}

-- a header of a partition table that says that it lies on volume sector 1
abbrev pub a_header : ℕ → Mark
a_header image = record { kind = Gpt; image = image; sector = 0; rule = At 1 }

-- a group of two of them, on different images
abbrev pub headers : List Group
headers = record { kind = GptGroup; marks = a_header 1 ∷ a_header 2 ∷ []; bounds = None } ∷ []
