-- A text says one thing as a list of sets.
use Rattle.std.proofs.Common.{◌≡◌, ℕ, ◌+◌, ◌<◌, ◌≤◌, inl, inr, List, [], ◌∷◌, ◌++◌, All, length, refl, sym, ap, ap₂, ◌∙◌, subst, arith, append_assoc, append-nil, length-append}
use Rattle.std.proofs.lemmas.Bool.{cases_lt}
use Rattle.std.proofs.lemmas.List.Elements.{All-cons, All-head, All-nil, All-tail}
use Rattle.raid_params.specs.declared.types.Geometry.{Geometry}
use Rattle.volume_classes.specs.Classes.{AreClasses, IsClassed, class_text}
use Rattle.volume_classes.specs.SetLists.{AreEntries, Entry, IsEntry, IsRefusedLine, NextAt, SetAt, entry_line, list_text, sets_in}
use Rattle.class_job.proofs.Lines.{one_begins, some_line}
use Rattle.class_job.proofs.OneNumbering.{same_count, same_numbers}
use Rattle.class_job.specs.Classing.{Classed, IsListOf, ListReading, NoList}

-- entries that go on in other ones
record GoesOn (xs ys : List Entry) (u v : List ℕ) : Type 0 where
  more : List Entry
  goes : ys ≡ xs ++ more
  rest : u ≡ list_text more ++ v

-- of two texts of entries that are the same, the longer one goes on where the other ends
prefix : (images end : ℕ) (xs ys : List Entry) (u v : List ℕ) → All (IsEntry images end) xs → All (IsEntry images end) ys → list_text xs ++ u ≡ list_text ys ++ v → length xs ≤ length ys → GoesOn xs ys u v
prefix images end [] ys u v p q same shorter = record { more = ys; goes = refl; rest = same }
prefix images end (x ∷ xs) [] u v p q same shorter = absurd (omega arith)
prefix images end (x ∷ xs) (y ∷ ys) u v p q same shorter =
    let both = one_begins images end x y (list_text xs ++ u) (list_text ys ++ v) (All-head (IsEntry images end) x xs p) (All-head (IsEntry images end) y ys q)
    (sym (append_assoc (entry_line x) (list_text xs) u) ∙ same ∙ append_assoc (entry_line y) (list_text ys) v) in
    let later = prefix images end xs ys u v (All-tail (IsEntry images end) x xs p) (All-tail (IsEntry images end) y ys q) both.1 (omega arith) in
    record { more = later.more; goes = ap₂ (λ (e : Entry) (es : List Entry). e ∷ es) (sym both.0) later.goes; rest = later.rest }

fewer : (xs : List Entry) (entry : Entry) (more : List Entry) → length (sets_in (xs ++ entry ∷ [])) ≤ length (sets_in (xs ++ entry ∷ more))
fewer [] (SetAt rank geo) more = omega arith
fewer [] (NextAt next total) more = omega arith
fewer (SetAt rank geo ∷ xs) entry more = let later = fewer xs entry more in omega arith
fewer (NextAt next total ∷ xs) entry more = fewer xs entry more

all_front : (images end : ℕ) (xs : List Entry) (entry : Entry) (more : List Entry) → All (IsEntry images end) (xs ++ entry ∷ more) → All (IsEntry images end) (xs ++ entry ∷ [])
all_front images end [] entry more all = All-cons (IsEntry images end) entry [] (All-head (IsEntry images end) entry more all) (All-nil (IsEntry images end))
all_front images end (x ∷ xs) entry more all =
    All-cons (IsEntry images end) x (xs ++ entry ∷ []) (All-head (IsEntry images end) x (xs ++ entry ∷ more) all) (all_front images end xs entry more (All-tail (IsEntry images end) x (xs ++ entry ∷ more) all))

-- the first entries of a list are a list
front : (images end : ℕ) (xs : List Entry) (entry : Entry) (more ys : List Entry) → ys ≡ xs ++ entry ∷ more → AreEntries images end ys → AreEntries images end (xs ++ entry ∷ [])
front images end xs entry more ys same are =
    let whole = subst (λ es. AreEntries images end es) same are in
    record { each = all_front images end xs entry more whole.each; few = omega (arith, whole.few, fewer xs entry more) }

-- no further entry stands where a line is refused
no_further : (images end : ℕ) (text : List ℕ) (number : ℕ) (line : IsRefusedLine images end text number) (ys more : List Entry) (rest : List ℕ) → AreEntries images end ys → ys ≡ line.before ++ more → line.rest ≡ list_text more ++ rest → more ≡ []
no_further images end text number line ys [] rest are goes is = refl
no_further images end text number line ys (entry ∷ more) rest are goes is =
    absurd (line.refused entry (list_text more ++ rest) (front images end line.before entry more ys goes are) (is ∙ append_assoc (entry_line entry) (list_text more) rest))

no_later : (images end : ℕ) (text : List ℕ) (m n : ℕ) → (a : IsRefusedLine images end text m) → (b : IsRefusedLine images end text n) → length a.before < length b.before → ⊥
no_later images end text m n a b less =
    let on = prefix images end a.before b.before a.rest b.rest a.are.each b.are.each (sym a.text_is ∙ b.text_is) (omega arith) in
    let none = no_further images end text m a b.before on.more b.rest b.are on.goes on.rest in
    omega (arith, less, ap length on.goes, ap length none, length-append a.before on.more)

-- one line is the first that is refused
one_line : (images end : ℕ) (text : List ℕ) (m n : ℕ) → IsRefusedLine images end text m → IsRefusedLine images end text n → m ≡ n
one_line images end text m n a b = elim (cases_lt (length a.before) (length b.before)) [
  | inl less ↦ absurd (no_later images end text m n a b less)
  | inr more ↦ elim (cases_lt (length b.before) (length a.before)) [
    | inl less ↦ absurd (no_later images end text n m b a less)
    | inr most ↦ omega (arith, a.number_is, b.number_is)
  ]
]

no_text : (entry : Entry) (more : List Entry) (rest : List ℕ) → [] ≡ list_text (entry ∷ more) ++ rest → ⊥
no_text entry more rest e =
    omega (arith, ap length e, length-append (list_text (entry ∷ more)) rest, length-append (entry_line entry) (list_text more), some_line entry)

-- a list with classes has no refused line
no_line : (images end : ℕ) (text answer : List ℕ) (number : ℕ) → IsClassed images end text answer → IsRefusedLine images end text number → ⊥
no_line images end text answer number list line = elim (cases_lt (length list.entries) (length line.before)) [
  | inl less ↦ (let on = prefix images end list.entries line.before [] line.rest list.are.each line.are.each (append-nil (list_text list.entries) ∙ sym list.text_is ∙ line.text_is) (omega arith) in
      omega (arith, line.some, ap length on.rest, length-append (list_text on.more) line.rest))
  | inr more ↦ (let on = prefix images end line.before list.entries line.rest [] line.are.each list.are.each (sym line.text_is ∙ list.text_is ∙ sym (append-nil (list_text list.entries))) (omega arith) in
      let none = no_further images end text number line list.entries on.more [] list.are on.goes on.rest in
      let nothing : line.rest ≡ [] = on.rest ∙ ap (λ (es : List Entry). list_text es ++ []) none in
      omega (arith, line.some, ap length nothing))
]

same_entries : (images end : ℕ) (xs ys : List Entry) → All (IsEntry images end) xs → All (IsEntry images end) ys → list_text xs ≡ list_text ys → length xs ≤ length ys → xs ≡ ys
same_entries images end xs ys p q same shorter =
    let on = prefix images end xs ys [] [] p q (append-nil (list_text xs) ∙ same ∙ sym (append-nil (list_text ys))) shorter in
    ends on.more on.goes on.rest
  where
    ends : (more : List Entry) → ys ≡ xs ++ more → [] ≡ list_text more ++ [] → xs ≡ ys
    ends [] goes rest = sym (goes ∙ append-nil xs)
    ends (entry ∷ more) goes rest = absurd (no_text entry more [] rest)

pub one_list : (images end : ℕ) (xs ys : List Entry) → All (IsEntry images end) xs → All (IsEntry images end) ys → list_text xs ≡ list_text ys → xs ≡ ys
one_list images end xs ys p q same = elim (cases_lt (length ys) (length xs)) [
  | inl less ↦ sym (same_entries images end ys xs q p (sym same) (omega arith))
  | inr more ↦ same_entries images end xs ys p q same (omega arith)
]

-- and one text of classes
one_answer : (images end : ℕ) (text a b : List ℕ) → IsClassed images end text a → IsClassed images end text b → a ≡ b
one_answer images end text a b one other =
    let entries = one_list images end one.entries other.entries one.are.each other.are.each (sym one.text_is ∙ other.text_is) in
    let sets = ap sets_in entries in
    let moved = subst (λ (xs : List Geometry). AreClasses images end xs one.numbers one.count) sets one.classes in
    let numbers = same_numbers images end (sets_in other.entries) one.numbers other.numbers one.count other.count moved other.classes in
    let count = same_count images end (sets_in other.entries) one.numbers other.numbers one.count other.count moved other.classes in
    one.answer_is ∙ ap (λ (xs : List Geometry). class_text xs one.numbers one.count) sets
    ∙ ap₂ (λ (ns : List ℕ) (c : ℕ). class_text (sets_in other.entries) ns c) numbers count ∙ sym other.answer_is

-- a text says one thing
pub one_reading : (images end : ℕ) (text : List ℕ) (r s : ListReading) → IsListOf images end text r → IsListOf images end text s → r ≡ s
one_reading images end text (Classed a) (Classed b) one other = ap (λ (xs : List ℕ). Classed xs) (one_answer images end text a b one other)
one_reading images end text (Classed a) (NoList n) one other = absurd (no_line images end text a n one other)
one_reading images end text (NoList m) (Classed b) one other = absurd (no_line images end text b m other one)
one_reading images end text (NoList m) (NoList n) one other = ap (λ (k : ℕ). NoList k) (one_line images end text m n one other)
