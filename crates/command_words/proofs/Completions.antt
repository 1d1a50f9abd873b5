-- Operands that a command takes, with which no listing becomes too long, begin a command line: those that it
-- still asks for can follow.
use Rattle.std.proofs.Common.{◌≡◌, ℕ, ◌<◌, ◌+◌, ◌*◌, ◌^◌, Bool, true, false, cond, nat_le, List, [], ◌∷◌, ◌++◌, All, Contains, Option, None, Some, IfSome, length, map, codes, refl, sym, ap, ap₂, ◌∙◌, ◌-◌, subst, arith, append_assoc, append-nil}
use Rattle.std.specs.Option.{option_or}
use Rattle.std.specs.Prelude.{option_and_then, option_map}
use Rattle.std.proofs.lemmas.Bool.{and_parts}
use Rattle.std.proofs.lemmas.Bool.Decides.{nat_tests}
use Rattle.std.proofs.lemmas.List.{map-append}
use Rattle.std.proofs.lemmas.List.Elements.{All-cons, All-head, All-nil, All-tail}
use Rattle.raid_params.specs.declared.limits.TheConstants.{MOST}
use Rattle.raid_params.specs.declared.wide.Wide.{Wide}
use Rattle.raid_params.specs.declared.types.Level.TheVariants.{Raid0}
use Rattle.raid_params.specs.declared.types.Pattern.TheVariants.{Plain}
use Rattle.raid_params.specs.declared.types.Syndrome.TheVariants.{NoQ}
use Rattle.near_mirror.specs.Words.{HasNearWord}
use Rattle.near_mirror.specs.declared.types.Copying.TheVariants.{Near}
use Rattle.near_mirror.specs.declared.types.NearSet.{NearSet}
use Rattle.value_text.specs.SetText.{HasWord, common}
use Rattle.command_words.specs.Commands.{BeginsLine, MayFollow, can_move, command_of, form_or, lost_or, marks_or, mirror_in, mirrors_of, number_in, number_or, relations_of, set_in, survey_of, verb_word}
use Rattle.command_words.specs.Steps.{can_go_on, lines_fit}
use Rattle.command_words.specs.Operands.{AreFitting, AreOperands, IsOperand, IsValueOf, kind_of, operand_word, operands_of, same_name, value_of}
use Rattle.command_words.specs.declared.command.Command.{Command}
use Rattle.command_words.specs.declared.command.Command.TheVariants.{Survey as SurveyCommand, List as ListCommand, Check as CheckCommand, Map as MapCommand, Write as WriteCommand, Rebuild as RebuildCommand, Sample as SampleCommand, Classes as ClassesCommand, MirrorWrite as MirrorWriteCommand, Salvage as SalvageCommand, Relations as RelationsCommand}
use Rattle.command_words.specs.declared.command.Verb.{Verb}
use Rattle.command_words.specs.declared.command.Verb.TheVariants.{Survey, List as ListVerb, Check, Map, Write, Rebuild, Sample, Classes, Mirrors, MirrorWrite, Salvage, Relations}
use Rattle.command_words.specs.declared.operands.Operand.{Operand}
use Rattle.command_words.specs.declared.table.Name.{Name}
use Rattle.command_words.specs.declared.table.Name.TheVariants.{End as EndName, Form as FormName, From as FromName, Marks as MarksName, Size as SizeName, Span as SpanName, Pages as PagesName, Set as SetName, Sector as SectorName, Slot as SlotName, Number as NumberName, Rows as RowsName, Images as ImagesName, Mode as ModeName, Foreign as ForeignName, Offsets as OffsetsName}
use Rattle.command_words.specs.declared.table.ValueKind.TheVariants.{Number as NumberKind, Set as SetKind, Mirror as MirrorKind}
use Rattle.command_words.specs.declared.values.Value.{Value}
use Rattle.command_words.specs.declared.values.Value.TheVariants.{Number, Set, Mirror}
use Rattle.command_words.proofs.LineStarts.{once_more}
use Rattle.command_words.proofs.LookUps.{fitting_value, operands_fit, value_append}
use Rattle.command_words.proofs.NameTexts.{same_name_decides}

-- a set that has a word
some_set : Wide
some_set = common (record { head = record { level = Raid0; members = 1; pattern = Plain; delay = 1; syndrome = NoQ; chunk = 0; offset = 0 }; slots = record { items = None ∷ [] } })

abbrev IsSlot : Option ℕ → Type 0
IsSlot slot = IfSome slot (λ image. image < MOST)

has_word : HasWord some_set
unfolding some_set
has_word = record {
  some = omega arith;
  most = omega arith;
  members = refl;
  images = All-cons IsSlot None [] tt (All-nil IsSlot);
  some_delay = omega arith;
  delay = omega arith;
  chunk = omega arith;
  offset = omega arith;
}

-- the set of a mirror that has a word
some_mirror : NearSet
some_mirror = record { head = record { members = 1; chunk = 0; offset = 0; layout = record { copying = Near; copies = 2 } }; slots = record { items = None ∷ [] } }

has_near_word : HasNearWord some_mirror
unfolding some_mirror
has_near_word = record {
  copies = refl;
  some = omega arith;
  most = omega arith;
  members = refl;
  images = All-cons IsSlot None [] tt (All-nil IsSlot);
  chunk = omega arith;
  offset = omega arith;
}

abbrev number_operand : Name → ℕ → Operand
number_operand name n = record { name = name; value = Number n }

abbrev set_operand : Operand
set_operand = record { name = SetName; value = Set some_set }

abbrev mirror_operand : Operand
mirror_operand = record { name = SetName; value = Mirror some_mirror }

-- operands with which those that were given become a whole line, where they were not given
abbrev helpful : Verb → List Operand
helpful Survey = []
helpful ListVerb = number_operand SizeName 1 ∷ number_operand PagesName 1 ∷ []
helpful Check = set_operand ∷ []
helpful Map = set_operand ∷ number_operand SectorName 0 ∷ []
helpful Write = set_operand ∷ []
helpful Rebuild = set_operand ∷ number_operand SlotName 0 ∷ []
helpful Sample = number_operand NumberName 0 ∷ set_operand ∷ number_operand RowsName 1 ∷ []
helpful Classes = number_operand ImagesName 1 ∷ number_operand EndName 0 ∷ []
helpful Mirrors = []
helpful MirrorWrite = mirror_operand ∷ []
helpful Salvage = set_operand ∷ []
helpful Relations = []

is_set_operand : (verb : Verb) → kind_of verb SetName ≡ SetKind → Contains (operands_of verb) SetName → IsOperand verb set_operand
is_set_operand verb kind taken = record { taken = taken; fitting = subst (λ k. IsValueOf (Set some_set) k) (sym kind) (some_set, refl, has_word) }

helpful_operands : (verb : Verb) → All (IsOperand verb) (helpful verb)
helpful_operands Survey = All-nil (IsOperand Survey)
helpful_operands ListVerb =
    All-cons (IsOperand ListVerb) (number_operand SizeName 1) (number_operand PagesName 1 ∷ []) (record { taken = (1, (omega arith), refl); fitting = (1, refl, (omega arith), (omega arith)) })
    (All-cons (IsOperand ListVerb) (number_operand PagesName 1) [] (record { taken = (3, (omega arith), refl); fitting = (1, refl, (omega arith), (omega arith)) }) (All-nil (IsOperand ListVerb)))
helpful_operands Check = All-cons (IsOperand Check) set_operand [] (is_set_operand Check refl (0, (omega arith), refl)) (All-nil (IsOperand Check))
helpful_operands Map =
    All-cons (IsOperand Map) set_operand (number_operand SectorName 0 ∷ []) (is_set_operand Map refl (0, (omega arith), refl))
    (All-cons (IsOperand Map) (number_operand SectorName 0) [] (record { taken = (1, (omega arith), refl); fitting = (0, refl, (omega arith), (omega arith)) }) (All-nil (IsOperand Map)))
helpful_operands Write = All-cons (IsOperand Write) set_operand [] (is_set_operand Write refl (0, (omega arith), refl)) (All-nil (IsOperand Write))
helpful_operands Rebuild =
    All-cons (IsOperand Rebuild) set_operand (number_operand SlotName 0 ∷ []) (is_set_operand Rebuild refl (0, (omega arith), refl))
    (All-cons (IsOperand Rebuild) (number_operand SlotName 0) [] (record { taken = (1, (omega arith), refl); fitting = (0, refl, (omega arith), (omega arith)) }) (All-nil (IsOperand Rebuild)))
helpful_operands Sample =
    All-cons (IsOperand Sample) (number_operand NumberName 0) (set_operand ∷ number_operand RowsName 1 ∷ []) (record { taken = (0, (omega arith), refl); fitting = (0, refl, (omega arith), (omega arith)) })
    (All-cons (IsOperand Sample) set_operand (number_operand RowsName 1 ∷ []) (is_set_operand Sample refl (1, (omega arith), refl))
    (All-cons (IsOperand Sample) (number_operand RowsName 1) [] (record { taken = (2, (omega arith), refl); fitting = (1, refl, (omega arith), (omega arith)) }) (All-nil (IsOperand Sample))))
helpful_operands Classes =
    All-cons (IsOperand Classes) (number_operand ImagesName 1) (number_operand EndName 0 ∷ []) (record { taken = (0, (omega arith), refl); fitting = (1, refl, (omega arith), (omega arith)) })
    (All-cons (IsOperand Classes) (number_operand EndName 0) [] (record { taken = (1, (omega arith), refl); fitting = (0, refl, (omega arith), (omega arith)) }) (All-nil (IsOperand Classes)))
helpful_operands Mirrors = All-nil (IsOperand Mirrors)
helpful_operands MirrorWrite = All-cons (IsOperand MirrorWrite) mirror_operand [] (record { taken = (0, (omega arith), refl); fitting = (some_mirror, refl, has_near_word) }) (All-nil (IsOperand MirrorWrite))
helpful_operands Salvage = All-cons (IsOperand Salvage) set_operand [] (is_set_operand Salvage refl (0, (omega arith), refl)) (All-nil (IsOperand Salvage))
helpful_operands Relations = All-nil (IsOperand Relations)

-- operands after these, as far as they were not given
record HasMore (verb : Verb) (os helps : List Operand) : Type 0 where
  more : List Operand
  are : AreOperands verb (os ++ more)
  found : (name : Name) → value_of name (os ++ more) ≡ option_or (value_of name os) (value_of name helps)

or_none : (r : Option Value) → option_or r None ≡ r
or_none None = refl
or_none (Some v) = refl

or_assoc : (a b c : Option Value) → option_or (option_or a b) c ≡ option_or a (option_or b c)
or_assoc None b c = refl
or_assoc (Some v) b c = refl

-- a name that was given already
or_given : (b : Bool) (r : Option Value) (w : Value) (rest : Option Value) → (b ≡ true → (v : Value) × (r ≡ Some v)) → option_or r rest ≡ option_or r (cond b (Some w) rest)
or_given false r w rest given = refl
or_given true r w rest given = let v = given refl in ap (λ s. option_or s rest) v.1 ∙ sym (ap (λ s. option_or s (Some w)) v.1)

given_again : (h : Operand) (name : Name) (os : List Operand) (v : Value) → value_of h.name os ≡ Some v → same_name h.name name ≡ true → (v : Value) × (value_of name os ≡ Some v)
given_again h name os v e same = let is : h.name ≡ name = (same_name_decides h.name name).0 same in (v, ap (λ n. value_of n os) (sym is) ∙ e)

skip : (verb : Verb) (os : List Operand) (h : Operand) (helps : List Operand) (v : Value) → value_of h.name os ≡ Some v → HasMore verb os helps → HasMore verb os (h ∷ helps)
skip verb os h helps v e has = record {
  more = has.more;
  are = has.are;
  found = λ name. has.found name ∙ or_given (same_name h.name name) (value_of name os) h.value (value_of name helps) (given_again h name os v e);
}

cond_or : (b : Bool) (w : Value) (rest : Option Value) → option_or (cond b (Some w) None) rest ≡ cond b (Some w) rest
cond_or true w rest = refl
cond_or false w rest = refl

add : (verb : Verb) (os : List Operand) (h : Operand) (helps : List Operand) → HasMore verb (os ++ h ∷ []) helps → HasMore verb os (h ∷ helps)
add verb os h helps has =
    let joined : (os ++ h ∷ []) ++ has.more ≡ os ++ (h ∷ has.more) = append_assoc os (h ∷ []) has.more in
    record {
      more = h ∷ has.more;
      are = subst (λ xs. AreOperands verb xs) joined has.are;
      found = λ name.
          ap (value_of name) (sym joined) ∙ has.found name ∙ ap (λ r. option_or r (value_of name helps)) (value_append name os (h ∷ []))
          ∙ or_assoc (value_of name os) (value_of name (h ∷ [])) (value_of name helps)
          ∙ ap (λ r. option_or (value_of name os) r) (cond_or (same_name h.name name) h.value (value_of name helps));
    }

-- one that helps is there, or it is added
choose : (verb : Verb) (os : List Operand) (h : Operand) (helps : List Operand) (r : Option Value) → value_of h.name os ≡ r → AreOperands verb os → IsOperand verb h → HasMore verb os helps →
    (AreOperands verb (os ++ h ∷ []) → HasMore verb (os ++ h ∷ []) helps) → HasMore verb os (h ∷ helps)
choose verb os h helps (Some v) e are is without with_it = skip verb os h helps v e without
choose verb os h helps None e are is without with_it = add verb os h helps (with_it (once_more verb os h are is e))

complete : (verb : Verb) (helps os : List Operand) → AreOperands verb os → All (IsOperand verb) helps → HasMore verb os helps
complete verb [] os are all = record {
  more = [];
  are = subst (λ xs. AreOperands verb xs) (sym (append-nil os)) are;
  found = λ name. ap (value_of name) (append-nil os) ∙ sym (or_none (value_of name os));
}
complete verb (h ∷ helps) os are all =
    let rest = All-tail (IsOperand verb) h helps all in
    choose verb os h helps (value_of h.name os) refl are (All-head (IsOperand verb) h helps all) (complete verb helps os are rest) (λ more. complete verb helps (os ++ h ∷ []) more rest)

-- what was given, or else what helps, is there
set_there : (r : Option Value) (set : Wide) → ((v : Value) → r ≡ Some v → IsValueOf v SetKind) → (g : Wide) × (set_in (option_or r (Some (Set set))) ≡ Some g)
set_there None set fits = (set, refl)
set_there (Some v) set fits = let is = fits v refl in (is.0, ap (λ w. set_in (Some w)) is.1)

mirror_there : (r : Option Value) (set : NearSet) → ((v : Value) → r ≡ Some v → IsValueOf v MirrorKind) → (g : NearSet) × (mirror_in (option_or r (Some (Mirror set))) ≡ Some g)
mirror_there None set fits = (set, refl)
mirror_there (Some v) set fits = let is = fits v refl in (is.0, ap (λ w. mirror_in (Some w)) is.1)

number_there : (r : Option Value) (n low high : ℕ) → ((v : Value) → r ≡ Some v → IsValueOf v (NumberKind low high)) → (k : ℕ) × (number_in (option_or r (Some (Number n))) ≡ Some k)
number_there None n low high fits = (n, refl)
number_there (Some v) n low high fits = let is = fits v refl in (is.0, ap (λ w. number_in (Some w)) is.1)

-- a listing can be short enough
short_listing : (size pages : Option Value) → ((v : Value) → size ≡ Some v → IsValueOf v (NumberKind 1 1000000)) → ((v : Value) → pages ≡ Some v → IsValueOf v (NumberKind 1 1000000)) →
    lines_fit (number_in size) (number_in pages) ≡ true → nat_le (number_or 100 (option_or size (Some (Number 1))) * number_or 1 (option_or pages (Some (Number 1)))) 4000000 ≡ true
short_listing None None fits_size fits_pages fit = refl
short_listing None (Some p) fits_size fits_pages fit =
    let is = fits_pages p refl in
    let top = is.3 in
    rw is.1 (grind (arith, nat_tests))
short_listing (Some s) None fits_size fits_pages fit =
    let is = fits_size s refl in
    let top = is.3 in
    rw is.1 (grind (arith, nat_tests))
short_listing (Some s) (Some p) fits_size fits_pages fit =
    let is = fits_size s refl in
    let are = fits_pages p refl in
    let both : lines_fit (number_in (Some (Number is.0))) (number_in (Some (Number are.0))) ≡ true = subst (λ w. lines_fit (number_in (Some w)) (number_in (Some (Number are.0))) ≡ true) is.1 (subst (λ w. lines_fit (number_in (Some s)) (number_in (Some w)) ≡ true) are.1 fit) in
    rw (is.1, are.1) both

two : {A : Type 0} (make : A → ℕ → Command) (r : Option A) (s : Option ℕ) (g : A) (k : ℕ) → r ≡ Some g → s ≡ Some k → option_and_then (λ set. option_map (make set) s) r ≡ Some (make g k)
two {A} make r s g k first second = ap₂ (λ (x : Option A) (y : Option ℕ). option_and_then (λ set. option_map (make set) y) x) first second

abbrev AreFound : Verb → List Operand → List Operand → Type 0
AreFound verb os all = (name : Name) → value_of name all ≡ option_or (value_of name os) (value_of name (helpful verb))

fits_at : (verb : Verb) (os : List Operand) → AreFitting verb os → (name : Name) (v : Value) → value_of name os ≡ Some v → IsValueOf v (kind_of verb name)
fits_at verb os fit name v e = fitting_value verb name os v fit e

-- a survey has just the operands that were given
as_given : (os all : List Operand) → AreFound Survey os all → (name : Name) → value_of name all ≡ value_of name os
as_given os all found name = found name ∙ or_none (value_of name os)

parts : (os : List Operand) → can_go_on os ≡ true → (lines_fit (number_in (value_of SizeName os)) (number_in (value_of PagesName os)) ≡ true) × (can_move (value_of ModeName os) (value_of ForeignName os) (value_of OffsetsName os) ≡ true)
parts os going = and_parts (lines_fit (number_in (value_of SizeName os)) (number_in (value_of PagesName os))) (can_move (value_of ModeName os) (value_of ForeignName os) (value_of OffsetsName os)) going

-- the whole line says a command
says : (verb : Verb) (os all : List Operand) → AreFitting verb os → AreFound verb os all → can_go_on os ≡ true → (n : ℕ) → (command : Command) × (command_of verb all n ≡ Some command)
says Survey os all fit found going n =
    let test : can_move (value_of ModeName all) (value_of ForeignName all) (value_of OffsetsName all) ≡ true =
    ap (λ (r : Option Value). can_move r (value_of ForeignName all) (value_of OffsetsName all)) (as_given os all found ModeName)
    ∙ ap (λ (r : Option Value). can_move (value_of ModeName os) r (value_of OffsetsName all)) (as_given os all found ForeignName)
    ∙ ap (λ (r : Option Value). can_move (value_of ModeName os) (value_of ForeignName os) r) (as_given os all found OffsetsName)
    ∙ (parts os going).1 in
    let command = SurveyCommand (survey_of all n) in
    (command, ap (λ (b : Bool). cond b (Some command) None) test)
says ListVerb os all fit found going n =
    let test = ap₂ (λ (s p : Option Value). nat_le (number_or 100 s * number_or 1 p) 4000000) (found SizeName) (found PagesName)
    ∙ short_listing (value_of SizeName os) (value_of PagesName os) (fits_at ListVerb os fit SizeName) (fits_at ListVerb os fit PagesName) (parts os going).0 in
    let command = ListCommand (number_or 0 (value_of FromName all)) (number_or 100 (value_of SizeName all)) (number_or (2 ^ 64 - 1) (value_of SpanName all)) (number_or 1 (value_of PagesName all)) (form_or (value_of FormName all)) n in
    (command, ap (λ (b : Bool). cond b (Some command) None) test)
says Check os all fit found going n =
    let set = set_there (value_of SetName os) some_set (fits_at Check os fit SetName) in
    (CheckCommand set.0 n, ap (option_map (λ set. CheckCommand set n)) (ap set_in (found SetName) ∙ set.1))
says Map os all fit found going n =
    let set = set_there (value_of SetName os) some_set (fits_at Map os fit SetName) in
    let sector = number_there (value_of SectorName os) 0 0 (2 ^ 64 - 1) (fits_at Map os fit SectorName) in (
      MapCommand set.0 sector.0 (number_in (value_of EndName all)) n,
      two (λ set sector. MapCommand set sector (number_in (value_of EndName all)) n) (set_in (value_of SetName all)) (number_in (value_of SectorName all)) set.0 sector.0 (ap set_in (found SetName) ∙ set.1) (ap number_in (found SectorName) ∙ sector.1),
    )
says Write os all fit found going n =
    let set = set_there (value_of SetName os) some_set (fits_at Write os fit SetName) in
    (WriteCommand set.0 (number_in (value_of EndName all)) n, ap (option_map (λ set. WriteCommand set (number_in (value_of EndName all)) n)) (ap set_in (found SetName) ∙ set.1))
says Rebuild os all fit found going n =
    let set = set_there (value_of SetName os) some_set (fits_at Rebuild os fit SetName) in
    let slot = number_there (value_of SlotName os) 0 0 (MOST - 1) (fits_at Rebuild os fit SlotName) in (
      RebuildCommand set.0 slot.0 (number_in (value_of EndName all)) n,
      two (λ set slot. RebuildCommand set slot (number_in (value_of EndName all)) n) (set_in (value_of SetName all)) (number_in (value_of SlotName all)) set.0 slot.0 (ap set_in (found SetName) ∙ set.1) (ap number_in (found SlotName) ∙ slot.1),
    )
says Sample os all fit found going n =
    let number = number_there (value_of NumberName os) 0 0 (2 ^ 64 - 1) (fits_at Sample os fit NumberName) in
    let set = set_there (value_of SetName os) some_set (fits_at Sample os fit SetName) in
    let rows = number_there (value_of RowsName os) 1 1 65536 (fits_at Sample os fit RowsName) in (
      SampleCommand number.0 set.0 rows.0 (marks_or (value_of MarksName all)),
      ap (λ (r : Option ℕ). option_and_then (λ number. option_and_then (λ set. option_map (λ rows. SampleCommand number set rows (marks_or (value_of MarksName all))) (number_in (value_of RowsName all))) (set_in (value_of SetName all))) r) (ap number_in (found NumberName) ∙ number.1)
          ∙ two (λ set rows. SampleCommand number.0 set rows (marks_or (value_of MarksName all))) (set_in (value_of SetName all)) (number_in (value_of RowsName all)) set.0 rows.0 (ap set_in (found SetName) ∙ set.1) (ap number_in (found RowsName) ∙ rows.1),
    )
says Classes os all fit found going n =
    let images = number_there (value_of ImagesName os) 1 1 MOST (fits_at Classes os fit ImagesName) in
    let end = number_there (value_of EndName os) 0 0 (2 ^ 55 - 1) (fits_at Classes os fit EndName) in (
      ClassesCommand images.0 end.0,
      two (λ images end. ClassesCommand images end) (number_in (value_of ImagesName all)) (number_in (value_of EndName all)) images.0 end.0 (ap number_in (found ImagesName) ∙ images.1) (ap number_in (found EndName) ∙ end.1),
    )
says Mirrors os all fit found going n = (mirrors_of all n, refl)
says MirrorWrite os all fit found going n =
    let set = mirror_there (value_of SetName os) some_mirror (fits_at MirrorWrite os fit SetName) in
    (MirrorWriteCommand set.0 (number_in (value_of EndName all)) n, ap (option_map (λ set. MirrorWriteCommand set (number_in (value_of EndName all)) n)) (ap mirror_in (found SetName) ∙ set.1))
says Salvage os all fit found going n =
    let set = set_there (value_of SetName os) some_set (fits_at Salvage os fit SetName) in (
      SalvageCommand set.0 (lost_or (value_of FormName all)) (number_in (value_of EndName all)) n,
      ap (option_map (λ set. SalvageCommand set (lost_or (value_of FormName all)) (number_in (value_of EndName all)) n)) (ap set_in (found SetName) ∙ set.1),
    )
says Relations os all fit found going n = (RelationsCommand (relations_of all n), refl)

no_names : (verb : Verb) → MayFollow [] verb
no_names verb none = refl

-- so these operands begin a command line
pub begins : (verb : Verb) (os : List Operand) → AreOperands verb os → can_go_on os ≡ true → BeginsLine (verb_word verb ∷ map operand_word os)
begins verb os are going =
    let has = complete verb (helpful verb) os are (helpful_operands verb) in
    let all = os ++ has.more in
    let command = says verb os all (operands_fit verb os are.each) has.found going (length all + 2) in
    let words : map operand_word os ++ (map operand_word has.more ++ codes "--" ∷ []) ≡ map operand_word all ++ codes "--" ∷ [] =
    sym (append_assoc (map operand_word os) (map operand_word has.more) (codes "--" ∷ [])) ∙ ap (λ (ws : List (List ℕ)). ws ++ codes "--" ∷ []) (sym (map-append operand_word os has.more)) in (
      map operand_word has.more ++ codes "--" ∷ [],
      command.0,
      record {
        verb = verb;
        operands = all;
        names = [];
        spelled = ap (λ (ws : List (List ℕ)). verb_word verb ∷ ws) words;
        are = has.are;
        follow = no_names verb;
        says = command.1;
      },
    )
