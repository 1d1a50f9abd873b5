-- Names of operands: each has a text of its own, without `=`.
use Rattle.std.proofs.Common.{◌≡◌, ◌≢◌, ℕ, ◌<◌, ◌^◌, Bool, true, false, not, ◌==◌, List, [], ◌∷◌, All, Option, Some, refl, sym, ap, ◌∙◌, lit<}
use Rattle.std.specs.Bool.{Decides}
use Rattle.std.specs.Cmp.{IsEquivalence, decided}
use Rattle.std.specs.List.{find, list_all}
use Rattle.std.specs.Str.{bytes_eq}
use Rattle.std.proofs.lemmas.Bool.{and_parts}
use Rattle.std.proofs.lemmas.List.Elements.{All-nil, All-cons}
use Rattle.std.proofs.lemmas.Slice.Eq.{bytes_eq-Decides}
use Rattle.command_words.specs.Operands.{form_kind, kind_of, most_from, most_missing, name_text, offsets_kind, same_name, set_kind}
use Rattle.command_words.specs.declared.command.Verb.{Verb}
use Rattle.command_words.specs.declared.command.Verb.TheVariants.{Mirrors, MirrorWrite, Salvage, Relations}
use Rattle.command_words.specs.declared.table.Name.{Name}
use Rattle.command_words.specs.declared.table.Name.TheVariants.{Levels as LevelsName, Members as MembersName, Patterns as PatternsName, Delays as DelaysName, Syndromes as SyndromesName, Chunks as ChunksName, Offsets as OffsetsName, Origins as OriginsName, Missing as MissingName, Foreign as ForeignName, Badrows as BadrowsName, Misfits as MisfitsName, Least as LeastName, Window as WindowName, End as EndName, Kinds as KindsName, Dropped as DropName, From as FromName, Size as SizeName, Span as SpanName, Pages as PagesName, Form as FormName, Set as SetName, Sector as SectorName, Slot as SlotName, Number as NumberName, Rows as RowsName, Marks as MarksName, Images as ImagesName, Mode as ModeName, Logical as LogicalName, Step as StepName, Layouts as LayoutsName}
use Rattle.command_words.specs.declared.table.ValueKind.{ValueKind}
use Rattle.command_words.specs.declared.table.ValueKind.TheVariants.{Number as NumberKind}

differs : (x : ℕ) → not (x == 61) ≡ true → x ≢ 61
differs x h e = absurd (let f : not (61 == 61) ≡ true = ap (λ (k : ℕ). not (k == 61)) (sym e) ∙ h in cc)

no_equals : (xs : List ℕ) → list_all (λ x. not (x == 61)) xs ≡ true → All (λ x. x ≢ 61) xs
no_equals [] h = All-nil (λ x. x ≢ 61)
no_equals (x ∷ xs) h =
    let parts = and_parts (not (x == 61)) (list_all (λ x. not (x == 61)) xs) h in
    All-cons (λ x. x ≢ 61) x xs (differs x parts.0) (no_equals xs parts.1)

-- names have no `=`
pub plain_name : (n : Name) → All (λ x. x ≢ 61) (name_text n)
plain_name LevelsName = no_equals (name_text LevelsName) refl
plain_name MembersName = no_equals (name_text MembersName) refl
plain_name PatternsName = no_equals (name_text PatternsName) refl
plain_name DelaysName = no_equals (name_text DelaysName) refl
plain_name SyndromesName = no_equals (name_text SyndromesName) refl
plain_name ChunksName = no_equals (name_text ChunksName) refl
plain_name OffsetsName = no_equals (name_text OffsetsName) refl
plain_name OriginsName = no_equals (name_text OriginsName) refl
plain_name MissingName = no_equals (name_text MissingName) refl
plain_name ForeignName = no_equals (name_text ForeignName) refl
plain_name BadrowsName = no_equals (name_text BadrowsName) refl
plain_name MisfitsName = no_equals (name_text MisfitsName) refl
plain_name LeastName = no_equals (name_text LeastName) refl
plain_name WindowName = no_equals (name_text WindowName) refl
plain_name EndName = no_equals (name_text EndName) refl
plain_name KindsName = no_equals (name_text KindsName) refl
plain_name DropName = no_equals (name_text DropName) refl
plain_name FromName = no_equals (name_text FromName) refl
plain_name SizeName = no_equals (name_text SizeName) refl
plain_name SpanName = no_equals (name_text SpanName) refl
plain_name PagesName = no_equals (name_text PagesName) refl
plain_name FormName = no_equals (name_text FormName) refl
plain_name SetName = no_equals (name_text SetName) refl
plain_name SectorName = no_equals (name_text SectorName) refl
plain_name SlotName = no_equals (name_text SlotName) refl
plain_name NumberName = no_equals (name_text NumberName) refl
plain_name RowsName = no_equals (name_text RowsName) refl
plain_name MarksName = no_equals (name_text MarksName) refl
plain_name ImagesName = no_equals (name_text ImagesName) refl
plain_name ModeName = no_equals (name_text ModeName) refl
plain_name LogicalName = no_equals (name_text LogicalName) refl
plain_name StepName = no_equals (name_text StepName) refl
plain_name LayoutsName = no_equals (name_text LayoutsName) refl

-- all names
all_names : List Name
all_names = LevelsName ∷ MembersName ∷ PatternsName ∷ DelaysName ∷ SyndromesName ∷ ChunksName ∷ OffsetsName ∷ OriginsName ∷ MissingName ∷ ForeignName ∷ BadrowsName ∷ MisfitsName ∷ LeastName ∷ WindowName ∷ EndName ∷ KindsName ∷ DropName ∷ FromName ∷ SizeName ∷ SpanName ∷ PagesName ∷ FormName ∷ SetName ∷ SectorName ∷ SlotName ∷ NumberName ∷ RowsName ∷ MarksName ∷ ImagesName ∷ ModeName ∷ LogicalName ∷ StepName ∷ LayoutsName ∷ []

-- the name that a text is
named_by : List ℕ → Option Name
named_by text = find (λ name. bytes_eq text (name_text name)) all_names

is_named : (n : Name) → named_by (name_text n) ≡ Some n
unfolding named_by all_names
is_named LevelsName = refl
is_named MembersName = refl
is_named PatternsName = refl
is_named DelaysName = refl
is_named SyndromesName = refl
is_named ChunksName = refl
is_named OffsetsName = refl
is_named OriginsName = refl
is_named MissingName = refl
is_named ForeignName = refl
is_named BadrowsName = refl
is_named MisfitsName = refl
is_named LeastName = refl
is_named WindowName = refl
is_named EndName = refl
is_named KindsName = refl
is_named DropName = refl
is_named FromName = refl
is_named SizeName = refl
is_named SpanName = refl
is_named PagesName = refl
is_named FormName = refl
is_named SetName = refl
is_named SectorName = refl
is_named SlotName = refl
is_named NumberName = refl
is_named RowsName = refl
is_named MarksName = refl
is_named ImagesName = refl
is_named ModeName = refl
is_named LogicalName = refl
is_named StepName = refl
is_named LayoutsName = refl

-- names are spelled differently
pub one_name : (m n : Name) → name_text m ≡ name_text n → m ≡ n
one_name m n e = let same : Some m ≡ Some n = sym (is_named m) ∙ ap named_by e ∙ is_named n in cc

pub same_name_decides : (m n : Name) → Decides (same_name m n) (m ≡ n)
same_name_decides m n =
    let texts = bytes_eq-Decides (name_text m) (name_text n) in
    (λ is. one_name m n (texts.0 is), λ e. texts.1 (ap name_text e))

pub same_name_equiv : IsEquivalence same_name
same_name_equiv = decided same_name same_name_decides

-- the numbers that an operand takes are below 2^64
abbrev pub IsShort : ValueKind → Type 0
IsShort (NumberKind least most) = most < 2 ^ 64
IsShort _ = Unit {0}

few_missing : (verb : Verb) → most_missing verb < 2 ^ 64
few_missing Mirrors = lit< tt
few_missing _ = lit< tt

few_from : (verb : Verb) → most_from verb < 2 ^ 64
few_from Relations = lit< tt
few_from _ = lit< tt

short_offsets : (verb : Verb) → IsShort (offsets_kind verb)
short_offsets Relations = tt
short_offsets _ = tt

short_set : (verb : Verb) → IsShort (set_kind verb)
short_set MirrorWrite = tt
short_set _ = tt

short_form : (verb : Verb) → IsShort (form_kind verb)
short_form Salvage = tt
short_form _ = tt

pub short_kind : (verb : Verb) (n : Name) → IsShort (kind_of verb n)
short_kind verb LevelsName = tt
short_kind verb MembersName = tt
short_kind verb PatternsName = tt
short_kind verb DelaysName = tt
short_kind verb SyndromesName = tt
short_kind verb ChunksName = tt
short_kind verb OffsetsName = short_offsets verb
short_kind verb OriginsName = tt
short_kind verb MissingName = few_missing verb
short_kind verb ForeignName = lit< tt
short_kind verb BadrowsName = lit< tt
short_kind verb MisfitsName = lit< tt
short_kind verb LeastName = lit< tt
short_kind verb WindowName = lit< tt
short_kind verb EndName = lit< tt
short_kind verb KindsName = tt
short_kind verb DropName = tt
short_kind verb FromName = few_from verb
short_kind verb SizeName = lit< tt
short_kind verb SpanName = lit< tt
short_kind verb PagesName = lit< tt
short_kind verb FormName = short_form verb
short_kind verb SetName = short_set verb
short_kind verb SectorName = lit< tt
short_kind verb SlotName = lit< tt
short_kind verb NumberName = lit< tt
short_kind verb RowsName = lit< tt
short_kind verb MarksName = tt
short_kind verb ImagesName = lit< tt
short_kind verb ModeName = tt
short_kind verb LogicalName = tt
short_kind verb StepName = lit< tt
short_kind verb LayoutsName = tt

-- a text that was compared with a name, and differs
pub is_other : (name text bytes : List ℕ) (r : Bool) → bytes ≡ name → r ≡ bytes_eq bytes text → r ≡ false → text ≢ name
is_other name text bytes r same test differ e =
    let yes : bytes_eq bytes text ≡ true = (bytes_eq-Decides bytes text).1 (same ∙ sym e) in
    absurd (let f : true ≡ false = sym yes ∙ sym test ∙ differ in cc)
