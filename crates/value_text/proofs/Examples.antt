-- The word of a set tried on small ones, whose spelling was written out by hand.
use Rattle.std.proofs.Common.{◌≡◌, [], ◌∷◌, codes, refl, Some, None}
use Rattle.std.specs.Fmt.{digits}
use Rattle.raid_params.specs.declared.types.Geometry.{Geometry}
use Rattle.raid_params.specs.declared.types.Level.TheVariants.{Raid5, Raid6}
use Rattle.raid_params.specs.declared.types.Pattern.TheVariants.{Ls, NRestart}
use Rattle.raid_params.specs.declared.types.Syndrome.TheVariants.{NoQ, BySlot}
use Rattle.raid_params.specs.declared.wide.Wide.{Wide}
use Rattle.value_text.specs.SetText.{common, set_line}

in_order : Geometry
in_order = record {
  head = record { level = Raid5; members = 3; pattern = Ls; delay = 1; syndrome = NoQ; chunk = 1; offset = 0 };
  slots = record { items = Some 0 ∷ Some 1 ∷ Some 2 ∷ [] };
}

line_in_order : set_line 0 (common in_order) ≡ codes "0 5:ls:none:1:0:0,1,2\n"
unfolding in_order digits
line_in_order = refl

-- the first of four members is missing, and parity stays for 16 rows
one_missing : Geometry
one_missing = record {
  head = record { level = Raid6; members = 4; pattern = NRestart; delay = 16; syndrome = BySlot; chunk = 128; offset = 2048 };
  slots = record { items = None ∷ Some 11 ∷ Some 0 ∷ Some 3 ∷ [] };
}

line_one_missing : set_line 907 (common one_missing) ≡ codes "907 6:n-restart*16:by-slot:128:2048:-,11,0,3\n"
unfolding one_missing digits
line_one_missing = refl

-- the data of the first image begin one sector after those of the others
apart : Wide
apart = record {
  geo = record {
    head = record { level = Raid5; members = 3; pattern = Ls; delay = 1; syndrome = NoQ; chunk = 1; offset = 1 };
    slots = record { items = Some 0 ∷ Some 1 ∷ Some 2 ∷ [] };
  };
  bases = record { items = 1 ∷ 0 ∷ 0 ∷ [] };
  is_greatest = refl;
}

line_apart : set_line 24 apart ≡ codes "24 5:ls:none:1:1+0+0:0,1,2\n"
unfolding apart digits
line_apart = refl
