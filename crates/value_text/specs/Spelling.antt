-- How values are spelled in the texts of reraid.
use Rattle.std.specs.Prelude.{ℕ, ◌≡◌, ◌≢◌, ◌<◌, ◌^◌, ◌+◌, ◌*◌, Bool, true, List, [], ◌∷◌, ◌++◌, All, ◌==◌, ◌||◌, not, codes, decimal}
use Rattle.std.specs.List.{join_with_byte, list_all}
use Rattle.std.specs.declared.option.Option.{Option}
use Rattle.std.specs.declared.option.Option.TheVariants.{None, Some}
use Rattle.raid_params.specs.declared.limits.TheConstants.{MOST}
use Rattle.raid_params.specs.declared.types.Level.{Level}
use Rattle.raid_params.specs.declared.types.Level.TheVariants.{Raid0, Raid5, Raid6}
use Rattle.raid_params.specs.declared.types.Pattern.{Pattern}
use Rattle.raid_params.specs.declared.types.Pattern.TheVariants.{Plain, La, Ra, Ls, Rs, ParityFirst, ParityLast, NRestart, NContinue, La6, Ra6, Ls6, Rs6, ParityFirst6}
use Rattle.raid_params.specs.declared.types.Syndrome.{Syndrome}
use Rattle.raid_params.specs.declared.types.Syndrome.TheVariants.{NoQ, AfterQ, ByData, BySlot}

abbrev pub level_name : Level → List ℕ
level_name Raid0 = codes "0"
level_name Raid5 = codes "5"
level_name Raid6 = codes "6"

abbrev pub pattern_name : Pattern → List ℕ
pattern_name Plain = codes "plain"
pattern_name La = codes "la"
pattern_name Ra = codes "ra"
pattern_name Ls = codes "ls"
pattern_name Rs = codes "rs"
pattern_name ParityFirst = codes "parity-first"
pattern_name ParityLast = codes "parity-last"
pattern_name NRestart = codes "n-restart"
pattern_name NContinue = codes "n-continue"
pattern_name La6 = codes "la-6"
pattern_name Ra6 = codes "ra-6"
pattern_name Ls6 = codes "ls-6"
pattern_name Rs6 = codes "rs-6"
pattern_name ParityFirst6 = codes "parity-first-6"

abbrev pub syndrome_name : Syndrome → List ℕ
syndrome_name NoQ = codes "none"
syndrome_name AfterQ = codes "after-q"
syndrome_name ByData = codes "by-data"
syndrome_name BySlot = codes "by-slot"

-- a slot: the number of its image, or a dash
abbrev pub slot_name : Option ℕ → List ℕ
slot_name None = codes "-"
slot_name (Some image) = decimal image

-- pieces with a comma between them
abbrev pub commas : List (List ℕ) → List ℕ
commas pieces = join_with_byte 44 pieces

-- pieces with a plus sign between them
abbrev pub pluses : List (List ℕ) → List ℕ
pluses pieces = join_with_byte 43 pieces

-- pieces with a colon between them
abbrev pub colons : List (List ℕ) → List ℕ
colons pieces = join_with_byte 58 pieces

-- pieces with a space between them
abbrev pub spaces : List (List ℕ) → List ℕ
spaces pieces = join_with_byte 32 pieces

-- a name, a space and a value
abbrev pub named : List ℕ → List ℕ → List ℕ
named name value = name ++ 32 ∷ value

-- a line ends with one line feed
abbrev pub line : List ℕ → List ℕ
line text = text ++ 10 ∷ []

-- a separator that ends a value: a comma, a plus sign, a colon, a space or a line feed
abbrev pub is_separator : ℕ → Bool
is_separator byte = byte == 44 || byte == 43 || byte == 58 || byte == 32 || byte == 10

-- a byte of a value
abbrev pub is_plain : ℕ → Bool
is_plain byte = not (is_separator byte)

-- names of values that may stand in lists with such a separator: each value has one of its own, and no name has the separator
pub record IsListName {A : Type 0} (separator : ℕ) (name : A → List ℕ) (IsSpelled : A → Type 0) : Type 0 where
  pub one_value : (x y : A) → IsSpelled x → IsSpelled y → name x ≡ name y → x ≡ y
  pub has_none : (x : A) → IsSpelled x → All (λ byte. byte ≢ separator) (name x)

-- names of values that may stand in lists: each value has one of its own, and no name has a comma
abbrev pub IsSpelling : {A : Type 0} → (A → List ℕ) → (A → Type 0) → Type 0
IsSpelling name IsSpelled = IsListName 44 name IsSpelled

-- names of values that may stand before any separator: each value has one of its own, and no name has a separator
pub record IsFieldName {A : Type 0} (name : A → List ℕ) (IsSpelled : A → Type 0) : Type 0 where
  pub one_value : (x y : A) → IsSpelled x → IsSpelled y → name x ≡ name y → x ≡ y
  pub has_no_separator : (x : A) → IsSpelled x → list_all is_plain (name x) ≡ true
