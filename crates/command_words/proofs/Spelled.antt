-- Operands by their names and values.
use Rattle.std.proofs.Common.{◌≡◌, ◌≢◌, ℕ, ◌<◌, ◌^◌, Bool, true, false, IsTrue, List, [], ◌∷◌, ◌++◌, All, Contains, Option, None, MatchOption, get_or, refl, sym, ap, ap₂, ◌∙◌, subst, arith, decimal, if◌then◌else◌}
use Rattle.std.specs.Str.{bytes_eq}
use Rattle.std.proofs.lemmas.Fmt.{decimal_injective}
use Rattle.std.proofs.lemmas.List.Elements.{All-head, All-tail}
use Rattle.raid_params.specs.declared.types.Level.{Level}
use Rattle.raid_params.specs.declared.types.Pattern.{Pattern}
use Rattle.raid_params.specs.declared.types.Syndrome.{Syndrome}
use Rattle.landmark_text.specs.DropLaws.{drop_law}
use Rattle.value_text.specs.NameLaws.{byte_law, in_lists, level_law, number_law, pattern_law, syndrome_law}
use Rattle.landmark_text.specs.KindLaws.{group_law}
use Rattle.value_text.specs.Spelling.{level_name, pattern_name, syndrome_name}
use Rattle.landmark_text.specs.Names.{IsDrop, drop_name, drop_place, group_name}
use Rattle.value_text.proofs.Fits.{chunks_are_short, delays_are_short, members_are_bytes, offsets_are_short}
use Rattle.value_text.proofs.Lists.{some_value}
use Rattle.value_text.proofs.SetWords.{one_spelling}
use Rattle.near_mirror.proofs.NearWords.{one_spelling as one_near_spelling}
use Rattle.near_mirror.specs.Heads.{are_copies}
use Rattle.near_mirror.specs.NameLaws.{layout_law}
use Rattle.near_mirror.specs.Words.{layout_name}
use Rattle.near_mirror.specs.declared.types.CopyLayout.{CopyLayout}
use Rattle.value_text.proofs.Offsets.{numbers_join}
use Rattle.value_text.proofs.Spellings.{same_joined, same_list}
use Rattle.raid_params.specs.Places.{level_place, pattern_place, syndrome_place}
use Rattle.mark_kinds.specs.declared.table.DropAt.{DropAt}
use Rattle.mark_kinds.specs.Table.{group_place}
use Rattle.command_words.specs.Operands.{IsOperand, IsValueOf, form_text, kind_of, layout_place, logical_text, marks_text, mode_text, name_text, operand_word, operands_of, salvaged_text, value_text}
use Rattle.command_words.specs.declared.command.Form.{Form}
use Rattle.command_words.specs.declared.command.Form.TheVariants.{Text, Json}
use Rattle.command_words.specs.declared.command.Verb.{Verb}
use Rattle.mark_kinds.specs.declared.table.GroupKind.{GroupKind}
use Rattle.command_words.specs.declared.operands.Operand.{Operand}
use Rattle.command_words.specs.declared.table.Name.{Name}
use Rattle.command_words.specs.declared.table.ValueKind.{ValueKind}
use Rattle.command_words.specs.declared.table.ValueKind.TheVariants.{Number as NumberKind, Levels as LevelsKind, Members as MembersKind, Patterns as PatternsKind, Delays as DelaysKind, Syndromes as SyndromesKind, Chunks as ChunksKind, Sectors as SectorsKind, Places as PlacesKind, Landmarks as LandmarksKind, Drops as DropsKind, Form as FormKind, Salvaged as SalvagedKind, Marks as MarksKind, Set as SetKind, Mirror as MirrorKind, Layouts as LayoutsKind, Mode as ModeKind, Logical as LogicalKind}
use Rattle.command_words.specs.declared.values.Value.{Value}
use Rattle.command_words.specs.declared.values.Value.TheVariants.{Number, Levels, Members, Patterns, Delays, Syndromes, Chunks, Sectors, Places, Landmarks, Drops, Form as FormValue, Salvaged, Marks, Set, Mirror, Layouts, Mode, Logical}
use Rattle.command_words.proofs.NameTexts.{IsShort, one_name, plain_name, short_kind}

-- two texts that are cut at the first `=` are the same where their parts are
pub cut_once : (a b v w : List ℕ) → All (λ x. x ≢ 61) a → All (λ x. x ≢ 61) b → a ++ 61 ∷ v ≡ b ++ 61 ∷ w → (a ≡ b) × (v ≡ w)
cut_once [] [] v w na nb e = (refl, (cc))
cut_once [] (y ∷ b) v w na nb e = absurd (All-head (λ x. x ≢ 61) y b nb (cc))
cut_once (x ∷ a) [] v w na nb e = absurd (All-head (λ x. x ≢ 61) x a na (cc))
cut_once (x ∷ a) (y ∷ b) v w na nb e =
    let rest = cut_once a b v w (All-tail (λ x. x ≢ 61) x a na) (All-tail (λ x. x ≢ 61) y b nb) (cc) in
    (ap₂ (λ (k : ℕ) (ks : List ℕ). k ∷ ks) (cc) rest.0, rest.1)

form_of : List ℕ → Form
form_of text = if bytes_eq text (form_text Text) then Text else Json

form_back : (form : Form) → form_of (form_text form) ≡ form
unfolding form_of
form_back Text = refl
form_back Json = refl

one_form : (x y : Form) → form_text x ≡ form_text y → x ≡ y
one_form x y e = sym (form_back x) ∙ ap form_of e ∙ form_back y

salvaged_of : List ℕ → Bool
salvaged_of text = bytes_eq text (salvaged_text true)

salvaged_back : (lost : Bool) → salvaged_of (salvaged_text lost) ≡ lost
unfolding salvaged_of
salvaged_back true = refl
salvaged_back false = refl

one_salvaged : (x y : Bool) → salvaged_text x ≡ salvaged_text y → x ≡ y
one_salvaged x y e = sym (salvaged_back x) ∙ ap salvaged_of e ∙ salvaged_back y

marks_of : List ℕ → Bool
marks_of text = bytes_eq text (marks_text true)

marks_back : (xfs : Bool) → marks_of (marks_text xfs) ≡ xfs
unfolding marks_of
marks_back true = refl
marks_back false = refl

one_marks : (x y : Bool) → marks_text x ≡ marks_text y → x ≡ y
one_marks x y e = sym (marks_back x) ∙ ap marks_of e ∙ marks_back y

mode_of : List ℕ → Bool
mode_of text = bytes_eq text (mode_text true)

mode_back : (each : Bool) → mode_of (mode_text each) ≡ each
unfolding mode_of
mode_back true = refl
mode_back false = refl

one_mode : (x y : Bool) → mode_text x ≡ mode_text y → x ≡ y
one_mode x y e = sym (mode_back x) ∙ ap mode_of e ∙ mode_back y

logical_of : List ℕ → Bool
logical_of text = bytes_eq text (logical_text true)

logical_back : (large : Bool) → logical_of (logical_text large) ≡ large
unfolding logical_of
logical_back true = refl
logical_back false = refl

one_logical : (x y : Bool) → logical_text x ≡ logical_text y → x ≡ y
one_logical x y e = sym (logical_back x) ∙ ap logical_of e ∙ logical_back y

-- the texts of two values are those of what they hold
texts : {A : Type 0} (make : A → Value) (x y : A) (v w : Value) → v ≡ make x → w ≡ make y → value_text v ≡ value_text w → value_text (make x) ≡ value_text (make y)
texts make x y v w a b e = ap value_text (sym a) ∙ e ∙ ap value_text b

-- two values that hold the same
same_held : {A : Type 0} (make : A → Value) (x y : A) (v w : Value) → v ≡ make x → w ≡ make y → x ≡ y → v ≡ w
same_held make x y v w a b same = a ∙ ap make same ∙ sym b

-- a value of a kind has one text
pub one_value : (kind : ValueKind) → IsShort kind → (v w : Value) → IsValueOf v kind → IsValueOf w kind → value_text v ≡ value_text w → v ≡ w
one_value (NumberKind least most) short v w a b e =
    let top : most < 2 ^ 64 = short in
    let m = a.3 in
    let n = b.3 in
    same_held (λ n. Number n) a.0 b.0 v w a.1 b.1 (decimal_injective a.0 b.0 (omega arith) (omega arith) (texts (λ n. Number n) a.0 b.0 v w a.1 b.1 e))
one_value LevelsKind short v w a b e =
    let same = same_list level_name (λ x. Unit {0}) (in_lists level_name (λ x. Unit {0}) level_law) a.0.items b.0.items (some_value level_place a.0.items a.2.rising) (some_value level_place b.0.items b.2.rising) (λ k d lt. tt) (λ k d lt. tt) (texts (λ xs. Levels xs) a.0 b.0 v w a.1 b.1 e) in
    same_held (λ (xs : List Level). Levels (record { items = xs })) a.0.items b.0.items v w a.1 b.1 same
one_value MembersKind short v w a b e =
    let same = same_list decimal (λ n. n < 2 ^ 8) (in_lists decimal (λ n. n < 2 ^ 8) byte_law) a.0.items b.0.items a.2.0.some b.2.0.some (members_are_bytes a.0.items a.2.1) (members_are_bytes b.0.items b.2.1) (texts (λ xs. Members xs) a.0 b.0 v w a.1 b.1 e) in
    same_held (λ (xs : List ℕ). Members (record { items = xs })) a.0.items b.0.items v w a.1 b.1 same
one_value PatternsKind short v w a b e =
    let same = same_list pattern_name (λ x. Unit {0}) (in_lists pattern_name (λ x. Unit {0}) pattern_law) a.0.items b.0.items (some_value pattern_place a.0.items a.2.rising) (some_value pattern_place b.0.items b.2.rising) (λ k d lt. tt) (λ k d lt. tt) (texts (λ xs. Patterns xs) a.0 b.0 v w a.1 b.1 e) in
    same_held (λ (xs : List Pattern). Patterns (record { items = xs })) a.0.items b.0.items v w a.1 b.1 same
one_value DelaysKind short v w a b e =
    let same = same_list decimal (λ n. n < 2 ^ 64) (in_lists decimal (λ n. n < 2 ^ 64) number_law) a.0.items b.0.items a.2.0.some b.2.0.some (delays_are_short a.0.items a.2.2) (delays_are_short b.0.items b.2.2) (texts (λ ns. Delays ns) a.0 b.0 v w a.1 b.1 e) in
    same_held (λ (ns : List ℕ). Delays (record { items = ns })) a.0.items b.0.items v w a.1 b.1 same
one_value SyndromesKind short v w a b e =
    let same = same_list syndrome_name (λ x. Unit {0}) (in_lists syndrome_name (λ x. Unit {0}) syndrome_law) a.0.items b.0.items (some_value syndrome_place a.0.items a.2.rising) (some_value syndrome_place b.0.items b.2.rising) (λ k d lt. tt) (λ k d lt. tt) (texts (λ xs. Syndromes xs) a.0 b.0 v w a.1 b.1 e) in
    same_held (λ (xs : List Syndrome). Syndromes (record { items = xs })) a.0.items b.0.items v w a.1 b.1 same
one_value ChunksKind short v w a b e =
    let same = same_list decimal (λ n. n < 2 ^ 64) (in_lists decimal (λ n. n < 2 ^ 64) number_law) a.0.items b.0.items a.2.0.some b.2.0.some (chunks_are_short a.0.items a.2.1) (chunks_are_short b.0.items b.2.1) (texts (λ xs. Chunks xs) a.0 b.0 v w a.1 b.1 e) in
    same_held (λ (xs : List ℕ). Chunks (record { items = xs })) a.0.items b.0.items v w a.1 b.1 same
one_value SectorsKind short v w a b e =
    let same = same_list decimal (λ n. n < 2 ^ 64) (in_lists decimal (λ n. n < 2 ^ 64) number_law) a.0.items b.0.items a.2.0.some b.2.0.some (offsets_are_short a.0.items a.2.2) (offsets_are_short b.0.items b.2.2) (texts (λ xs. Sectors xs) a.0 b.0 v w a.1 b.1 e) in
    same_held (λ (xs : List ℕ). Sectors (record { items = xs })) a.0.items b.0.items v w a.1 b.1 same
one_value PlacesKind short v w a b e =
    let same = same_joined 43 decimal (λ n. n < 2 ^ 64) numbers_join a.0.items b.0.items a.2.0 b.2.0 (offsets_are_short a.0.items a.2.2) (offsets_are_short b.0.items b.2.2) (texts (λ xs. Places xs) a.0 b.0 v w a.1 b.1 e) in
    same_held (λ (xs : List ℕ). Places (record { items = xs })) a.0.items b.0.items v w a.1 b.1 same
one_value LandmarksKind short v w a b e =
    let same = same_list group_name (λ x. Unit {0}) (in_lists group_name (λ x. Unit {0}) group_law) a.0.items b.0.items (some_value group_place a.0.items a.2.rising) (some_value group_place b.0.items b.2.rising) (λ k d lt. tt) (λ k d lt. tt) (texts (λ xs. Landmarks xs) a.0 b.0 v w a.1 b.1 e) in
    same_held (λ (xs : List GroupKind). Landmarks (record { items = xs })) a.0.items b.0.items v w a.1 b.1 same
one_value DropsKind short v w a b e =
    let same = same_list drop_name IsDrop drop_law a.0.items b.0.items (some_value drop_place a.0.items a.2.list.rising) (some_value drop_place b.0.items b.2.list.rising) a.2.all b.2.all (texts (λ xs. Drops xs) a.0 b.0 v w a.1 b.1 e) in
    same_held (λ (xs : List DropAt). Drops (record { items = xs })) a.0.items b.0.items v w a.1 b.1 same
one_value FormKind short v w a b e = same_held (λ x. FormValue x) a.0 b.0 v w a.1 b.1 (one_form a.0 b.0 (texts (λ x. FormValue x) a.0 b.0 v w a.1 b.1 e))
one_value SalvagedKind short v w a b e = same_held (λ x. Salvaged x) a.0 b.0 v w a.1 b.1 (one_salvaged a.0 b.0 (texts (λ x. Salvaged x) a.0 b.0 v w a.1 b.1 e))
one_value MarksKind short v w a b e = same_held (λ x. Marks x) a.0 b.0 v w a.1 b.1 (one_marks a.0 b.0 (texts (λ x. Marks x) a.0 b.0 v w a.1 b.1 e))
one_value LayoutsKind short v w a b e =
    let Has : CopyLayout → Type 0 = λ layout. IsTrue (are_copies layout.copies) in
    let same = same_list layout_name Has (in_lists layout_name Has layout_law) a.0.items b.0.items (some_value layout_place a.0.items a.2.list.rising) (some_value layout_place b.0.items b.2.list.rising) a.2.all b.2.all (texts (λ xs. Layouts xs) a.0 b.0 v w a.1 b.1 e) in
    same_held (λ (xs : List CopyLayout). Layouts (record { items = xs })) a.0.items b.0.items v w a.1 b.1 same
one_value ModeKind short v w a b e = same_held (λ x. Mode x) a.0 b.0 v w a.1 b.1 (one_mode a.0 b.0 (texts (λ x. Mode x) a.0 b.0 v w a.1 b.1 e))
one_value LogicalKind short v w a b e = same_held (λ x. Logical x) a.0 b.0 v w a.1 b.1 (one_logical a.0 b.0 (texts (λ x. Logical x) a.0 b.0 v w a.1 b.1 e))
one_value SetKind short v w a b e = same_held (λ x. Set x) a.0 b.0 v w a.1 b.1 (one_spelling a.0 b.0 a.2 b.2 (texts (λ x. Set x) a.0 b.0 v w a.1 b.1 e))
one_value MirrorKind short v w a b e = same_held (λ x. Mirror x) a.0 b.0 v w a.1 b.1 (one_near_spelling a.0 b.0 a.2 b.2 (texts (λ x. Mirror x) a.0 b.0 v w a.1 b.1 e))

operand_with : Name → Value → Operand
operand_with name value = record { name = name; value = value }

-- a word spells one operand
pub one_operand : (verb : Verb) (a b : Operand) → IsOperand verb a → IsOperand verb b → operand_word a ≡ operand_word b → a ≡ b
unfolding operand_word operand_with
one_operand verb a b is_a is_b e =
    let cut = cut_once (name_text a.name) (name_text b.name) (value_text a.value) (value_text b.value) (plain_name a.name) (plain_name b.name) e in
    let name : a.name ≡ b.name = one_name a.name b.name cut.0 in
    let fitting : IsValueOf b.value (kind_of verb a.name) = subst (λ n. IsValueOf b.value (kind_of verb n)) (sym name) is_b.fitting in
    let value : a.value ≡ b.value = one_value (kind_of verb a.name) (short_kind verb a.name) a.value b.value is_a.fitting fitting cut.1 in
    let same : operand_with a.name a.value ≡ operand_with b.name b.value = ap₂ operand_with name value in
    same

-- what a reading of a word says
abbrev pub ReadsOperand : Verb → List ℕ → Option Operand → Type 0
ReadsOperand verb word result = MatchOption result ((o : Operand) → IsOperand verb o → word ≢ operand_word o) (λ o. IsOperand verb o × (word ≡ operand_word o))

-- a word without `=` spells no operand
pub without_equals : (verb : Verb) (word : List ℕ) → All (λ x. x ≢ 61) word → ReadsOperand verb word None
unfolding operand_word
without_equals verb word none o is e = absurd (past (name_text o.name) (value_text o.value) (subst (λ w. All (λ x. x ≢ 61) w) e none))
  where
    past : (a v : List ℕ) → All (λ x. x ≢ 61) (a ++ 61 ∷ v) → ⊥
    past [] v h = All-head (λ x. x ≢ 61) 61 v h refl
    past (x ∷ a) v h = past a v (All-tail (λ x. x ≢ 61) x (a ++ 61 ∷ v) h)

-- nor does one with a name that the command does not take
pub another_name : (verb : Verb) (word name value : List ℕ) → All (λ x. x ≢ 61) name → word ≡ name ++ 61 ∷ value → All (λ n. name ≢ name_text n) (operands_of verb) → ReadsOperand verb word None
unfolding operand_word
another_name verb word name value plain is none o taken e =
    let cut = cut_once name (name_text o.name) value (value_text o.value) plain (plain_name o.name) (sym is ∙ e) in
    let at = taken.taken in
    let here : name ≢ name_text (get_or (operands_of verb) at.0 o.name) = none at.0 o.name at.1 in
    here (cut.0 ∙ ap name_text (sym at.2))

-- nor one with a value that the operand does not take
pub another_value : (verb : Verb) (word text value : List ℕ) (name : Name) (kind : ValueKind) → All (λ x. x ≢ 61) text → word ≡ text ++ 61 ∷ value → text ≡ name_text name → kind ≡ kind_of verb name → ((v : Value) → IsValueOf v kind → value ≢ value_text v) → ReadsOperand verb word None
unfolding operand_word
another_value verb word text value name kind plain is named same none o taken e =
    let cut = cut_once text (name_text o.name) value (value_text o.value) plain (plain_name o.name) (sym is ∙ e) in
    let name_is : o.name ≡ name = one_name o.name name (sym cut.0 ∙ named) in
    none o.value (subst (λ k. IsValueOf o.value k) (ap (kind_of verb) name_is ∙ sym same) taken.fitting) cut.1

-- a name and a value are an operand
pub name_and_value : (verb : Verb) (word text value_text_ : List ℕ) (name : Name) (kind : ValueKind) (value : Value) → word ≡ text ++ 61 ∷ value_text_ → Contains (operands_of verb) name → text ≡ name_text name → kind ≡ kind_of verb name →
    IsValueOf value kind × (value_text_ ≡ value_text value) → IsOperand verb (record { name = name; value = value }) × (word ≡ operand_word (record { name = name; value = value }))
unfolding operand_word
name_and_value verb word text value_text_ name kind value is taken named same found = (
  record { taken = taken; fitting = subst (λ k. IsValueOf value k) same found.0 },
  is ∙ ap₂ (λ (a b : List ℕ). a ++ 61 ∷ b) named found.1,
)
