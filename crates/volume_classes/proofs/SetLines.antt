-- The lines of set lists: each entry has one of its own.
use Rattle.std.proofs.Common.{ℕ, ◌≡◌, ◌≢◌, ◌<◌, ◌≤◌, ◌^◌, List, [], ◌∷◌, ◌++◌, map, codes, decimal, IfSome, refl, sym, ap, ap₂, ◌∙◌, arith, append_assoc, append-nil}
use Rattle.std.specs.declared.option.Option.TheVariants.{None}
use Rattle.std.proofs.lemmas.Fmt.{decimal_injective}
use Rattle.std.proofs.lemmas.List.{append_cancel_left, same_from_push}
use Rattle.std.proofs.lemmas.List.Concat.{flat_map-append}
use Rattle.std.proofs.lemmas.List.Elements.{All-append, All-cons, filter_map-append}
use Rattle.raid_params.specs.declared.limits.TheConstants.{MOST}
use Rattle.raid_params.specs.Validity.{first_fault}
use Rattle.raid_params.specs.declared.types.Geometry.{Geometry}
use Rattle.raid_params.specs.declared.types.Pattern.{Pattern}
use Rattle.value_text.specs.NameLaws.{level_law, number_law, slot_law, syndrome_law, without_separator}
use Rattle.value_text.specs.RotationLaws.{rotation_law}
use Rattle.value_text.specs.SetText.{HasWord, common, rotation_name, set_word}
use Rattle.value_text.specs.Spelling.{commas, level_name, named, slot_name, syndrome_name}
use Rattle.value_text.proofs.Lists.{decimal_line, list_line}
use Rattle.value_text.proofs.Numbers.{only_digits}
use Rattle.value_text.proofs.SetWords.{one_common}
use Rattle.value_text.proofs.Spellings.{IsWithout, first_separator, same_value}
use Rattle.volume_classes.specs.SetLists.{Entry, IsEntry, IsShare, NextAt, SetAt, entry_line, list_text, set_of, sets_in}

-- a number before a space
pub same_number : (m n : ℕ) (rest more : List ℕ) → m < 2 ^ 64 → n < 2 ^ 64 → decimal m ++ 32 ∷ rest ≡ decimal n ++ 32 ∷ more → (m ≡ n) × (rest ≡ more)
same_number m n rest more m_fits n_fits e = same_value decimal (λ k. k < 2 ^ 64) number_law 32 m n rest more refl m_fits n_fits e

abbrev IsNoFeed : ℕ → Type 0
IsNoFeed byte = byte ≢ 10

no_space : IsWithout 32 (codes "next")
no_space = without_separator 32 (codes "next") refl refl

-- a rank is no word
pub no_rank : (rank : ℕ) (rest more : List ℕ) → rank < 2 ^ 64 → codes "next " ++ rest ≡ decimal rank ++ 32 ∷ more → ⊥
no_rank rank rest more fits e =
    let same = first_separator 32 (codes "next") (decimal rank) rest more no_space (without_separator 32 (decimal rank) refl (number_law.has_no_separator rank fits)) e in
    let digit = only_digits (codes "next") rank 0 (omega arith) fits same.0 in
    absurd (omega (arith, digit))

-- the name of an entry's line, without its line feed
abbrev pub entry_name : Entry → List ℕ
entry_name (SetAt rank geo) = named (decimal rank) (set_word (common geo))
entry_name (NextAt next total) = codes "next " ++ (decimal next ++ (codes " of " ++ decimal total))

pub line_is : (entry : Entry) → entry_line entry ≡ entry_name entry ++ 10 ∷ []
line_is (SetAt rank geo) = refl
line_is (NextAt next total) = refl

pub same_name : (text : List ℕ) (entry : Entry) → text ++ 10 ∷ [] ≡ entry_line entry → text ≡ entry_name entry
same_name text entry e = (same_from_push text (entry_name entry) 10 10 (e ∙ line_is entry)).0

pub same_line : (text : List ℕ) (entry : Entry) → text ≡ entry_name entry → text ++ 10 ∷ [] ≡ entry_line entry
same_line text entry e = ap (λ (bytes : List ℕ). bytes ++ 10 ∷ []) e ∙ sym (line_is entry)

-- each entry has one line
one_name : (images end : ℕ) (one other : Entry) → IsEntry images end one → IsEntry images end other → entry_name one ≡ entry_name other → one ≡ other
one_name images end (SetAt rank geo) (SetAt other_rank other) is other_is e =
    let both = same_number rank other_rank (set_word (common geo)) (set_word (common other)) is.0 other_is.0 e in
    ap₂ (λ (r : ℕ) (g : Geometry). SetAt r g) both.0 (one_common geo other is.1 other_is.1 both.1)
one_name images end (SetAt rank geo) (NextAt next total) is other_is e = absurd (no_rank rank (decimal next ++ (codes " of " ++ decimal total)) (set_word (common geo)) is.0 (sym e))
one_name images end (NextAt next total) (SetAt rank geo) is other_is e = absurd (no_rank rank (decimal next ++ (codes " of " ++ decimal total)) (set_word (common geo)) other_is.0 e)
one_name images end (NextAt next total) (NextAt other_next other_total) is other_is e =
    let share = append_cancel_left (codes "next ") (decimal next ++ (codes " of " ++ decimal total)) (decimal other_next ++ (codes " of " ++ decimal other_total)) e in
    let both = same_number next other_next (codes "of " ++ decimal total) (codes "of " ++ decimal other_total) is.0 other_is.0 share in
    ap₂ (λ (n t : ℕ). NextAt n t) both.0 (decimal_injective total other_total (omega (arith, is.1)) (omega (arith, other_is.1)) (append_cancel_left (codes "of ") (decimal total) (decimal other_total) both.1))

pub one_entry : (images end : ℕ) (one other : Entry) → IsEntry images end one → IsEntry images end other → entry_line one ≡ entry_line other → one ≡ other
one_entry images end one other is other_is e = one_name images end one other is other_is (same_name (entry_name one) other (sym (line_is one) ∙ e))

-- no name of an entry has a line feed
colon : (a b : List ℕ) → IsWithout 10 a → IsWithout 10 b → IsWithout 10 (a ++ 58 ∷ b)
colon a b a_is b_is = All-append IsNoFeed a (58 ∷ b) a_is (All-cons IsNoFeed 58 b (λ e. absurd (omega (arith, e))) b_is)

space : (a b : List ℕ) → IsWithout 10 a → IsWithout 10 b → IsWithout 10 (a ++ 32 ∷ b)
space a b a_is b_is = All-append IsNoFeed a (32 ∷ b) a_is (All-cons IsNoFeed 32 b (λ e. absurd (omega (arith, e))) b_is)

rotation_is_line : (pattern : Pattern) (delay : ℕ) → 1 ≤ delay → delay < 2 ^ 32 → IsWithout 10 (rotation_name pattern delay)
rotation_is_line pattern delay some small = without_separator 10 (rotation_name pattern delay) refl (rotation_law.has_no_separator (record { pattern = pattern; delay = delay }) (some, small))

word_is_line : (geo : Geometry) → HasWord (common geo) → IsWithout 10 (set_word (common geo))
word_is_line geo has =
    let chunk = has.chunk in
    let offset = has.offset in
    let slots = commas (map slot_name geo.slots.items) in
    let slots_line : IsWithout 10 (commas (map slot_name geo.slots.items)) = list_line slot_name (λ slot. IfSome slot (λ image. image < MOST)) slot_law geo.slots.items has.images in
    let offset_line : IsWithout 10 (decimal geo.head.offset ++ 58 ∷ commas (map slot_name geo.slots.items)) = colon (decimal geo.head.offset) (commas (map slot_name geo.slots.items)) (decimal_line geo.head.offset (omega arith)) slots_line in
    let chunk_line = colon (decimal geo.head.chunk) (decimal geo.head.offset ++ 58 ∷ commas (map slot_name geo.slots.items)) (decimal_line geo.head.chunk (omega arith)) offset_line in
    let syndrome_line = colon (syndrome_name geo.head.syndrome) (decimal geo.head.chunk ++ 58 ∷ (decimal geo.head.offset ++ 58 ∷ commas (map slot_name geo.slots.items))) (without_separator 10 (syndrome_name geo.head.syndrome) refl (syndrome_law.has_no_separator geo.head.syndrome tt)) chunk_line in
    let rotation_line = colon (rotation_name geo.head.pattern geo.head.delay) (syndrome_name geo.head.syndrome ++ 58 ∷ (decimal geo.head.chunk ++ 58 ∷ (decimal geo.head.offset ++ 58 ∷ commas (map slot_name geo.slots.items)))) (rotation_is_line geo.head.pattern geo.head.delay has.some_delay has.delay) syndrome_line in
    colon (level_name geo.head.level) (rotation_name geo.head.pattern geo.head.delay ++ 58 ∷ (syndrome_name geo.head.syndrome ++ 58 ∷ (decimal geo.head.chunk ++ 58 ∷ (decimal geo.head.offset ++ 58 ∷ commas (map slot_name geo.slots.items))))) (without_separator 10 (level_name geo.head.level) refl (level_law.has_no_separator geo.head.level tt)) rotation_line

next_word : IsWithout 10 (codes "next")
next_word = without_separator 10 (codes "next") refl refl

of_word : IsWithout 10 (codes "of")
of_word = without_separator 10 (codes "of") refl refl

pub name_is_line : (images end : ℕ) (entry : Entry) → IsEntry images end entry → IsWithout 10 (entry_name entry)
name_is_line images end (SetAt rank geo) is = space (decimal rank) (set_word (common geo)) (decimal_line rank (omega (arith, is.0))) (word_is_line geo is.1)
name_is_line images end (NextAt next total) is =
    space (codes "next") (decimal next ++ 32 ∷ (codes "of" ++ 32 ∷ decimal total)) next_word
    (space (decimal next) (codes "of" ++ 32 ∷ decimal total) (decimal_line next (omega (arith, is.0))) (space (codes "of") (decimal total) of_word (decimal_line total (omega (arith, is.1)))))

-- an entry more
pub text_more : (entries : List Entry) (entry : Entry) (rest : List ℕ) → list_text (entries ++ entry ∷ []) ++ rest ≡ list_text entries ++ (entry_line entry ++ rest)
text_more entries entry rest =
    ap (λ (bytes : List ℕ). bytes ++ rest) (flat_map-append entry_line entries (entry ∷ []) ∙ ap (λ (bytes : List ℕ). list_text entries ++ bytes) (append-nil (entry_line entry)))
    ∙ append_assoc (list_text entries) (entry_line entry) rest

pub sets_more : (entries : List Entry) (entry : Entry) → sets_in (entries ++ entry ∷ []) ≡ sets_in entries ++ sets_in (entry ∷ [])
sets_more entries entry = filter_map-append set_of entries (entry ∷ [])

-- what a share of ranks tells
pub share_entry : (images end : ℕ) (text share : List ℕ) → text ≡ codes "next " ++ share → IsShare share →
    (entry : Entry) × IsEntry images end entry × (text ++ 10 ∷ [] ≡ entry_line entry) × (set_of entry ≡ None)
share_entry images end text share begins is = (
  NextAt is.next is.whole.total,
  (is.fits, is.whole.fits),
  same_line text (NextAt is.next is.whole.total) (begins ∙ ap (λ (bytes : List ℕ). codes "next " ++ bytes) (is.is ∙ ap (λ (bytes : List ℕ). decimal is.next ++ 32 ∷ bytes) is.whole.is)),
  refl,
)

pub no_share : (images end : ℕ) (text share : List ℕ) (entry : Entry) → text ≡ codes "next " ++ share → (IsShare share → ⊥) → IsEntry images end entry → text ++ 10 ∷ [] ≡ entry_line entry → ⊥
no_share images end text share (SetAt rank geo) begins off is e = no_rank rank share (set_word (common geo)) is.0 (sym begins ∙ same_name text (SetAt rank geo) e)
no_share images end text share (NextAt next total) begins off is e =
    let same = append_cancel_left (codes "next ") share (decimal next ++ (codes " of " ++ decimal total)) (sym begins ∙ same_name text (NextAt next total) e) in
    off (record { next = next; fits = is.0; rest = codes "of " ++ decimal total; is = same; whole = record { total = total; fits = is.1; is = refl } })

pub no_entry : (images end : ℕ) (text : List ℕ) (entry : Entry) → ((rest : List ℕ) → text ≢ codes "next " ++ rest) →
    ((rank : ℕ) (geo : Geometry) → rank < 2 ^ 64 → HasWord (common geo) → first_fault geo images end ≡ None → text ≢ named (decimal rank) (set_word (common geo))) → IsEntry images end entry → text ++ 10 ∷ [] ≡ entry_line entry → ⊥
no_entry images end text (SetAt rank geo) no_next no_set is e = no_set rank geo is.0 is.1 is.2 (same_name text (SetAt rank geo) e)
no_entry images end text (NextAt next total) no_next no_set is e = no_next (decimal next ++ (codes " of " ++ decimal total)) (same_name text (NextAt next total) e)
