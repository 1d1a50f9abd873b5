-- Marks of a table, one record after the other.
use Rattle.std.proofs.Common.{◌≡◌, ℕ, zero, suc, ◌+◌, ◌<◌, ◌≤◌, List, [], ◌∷◌, ◌++◌, Bool, true, false, cond, length, take, get_or, refl, sym, ap, ap₂, ◌∙◌, arith, Option, Some, None}
use Rattle.std.specs.Prelude.{nat_lt}
use Rattle.std.proofs.lemmas.Bool.Decides.{nat_tests}
use Rattle.std.specs.List.{cons_option, filter_map}
use Rattle.std.proofs.lemmas.List.{append-nil, length-append, length-take, take-append-le, take_all, take_more}
use Rattle.std.proofs.lemmas.List.Elements.{filter_map-append}
use Rattle.mft.specs.declared.places.MftTable.{MftTable}
use Rattle.mft_survey.specs.Marks.{mark_by, marks_by, with_mark, with_some}
use Rattle.mft_survey.specs.declared.marks.RecordMark.{RecordMark}
use Rattle.mft_survey.specs.declared.records.RecordSeen.{RecordSeen}

pub maps_more : {X Y : Type 0} (h : X → Option Y) (xs : List X) (i : ℕ) (x : X) (one : Option Y) → i < length xs → x ≡ get_or xs i x → h x ≡ one → filter_map h (take (i + 1) xs) ≡ filter_map h (take i xs) ++ cons_option one []
maps_more {X} {Y} h xs i x one below is at =
    ap (filter_map h) (take_more xs i x below) ∙ filter_map-append h (take i xs) (get_or xs i x ∷ [])
    ∙ ap (λ (y : X). filter_map h (take i xs) ++ cons_option (h y) []) (sym is) ∙ ap (λ (o : Option Y). filter_map h (take i xs) ++ cons_option o []) at

all_to : MftTable → List RecordSeen → ℕ → List RecordMark
all_to table whole n = filter_map (mark_by table) (take n whole)

pub marks_to : ℕ → List RecordSeen → MftTable → ℕ → List RecordMark
marks_to most whole table n = take most (filter_map (mark_by table) (take n whole))

pub marks_none : (most : ℕ) (whole : List RecordSeen) (table : MftTable) → marks_to most whole table 0 ≡ []
unfolding marks_to
marks_none most whole table = take_all most [] (omega arith)

pub marks_more : (most : ℕ) (whole : List RecordSeen) (table : MftTable) (i : ℕ) (r : RecordSeen) (m : RecordMark) → i < length whole → r ≡ get_or whole i r → mark_by table r ≡ Some m →
    length (marks_to most whole table i) < most → marks_to most whole table (i + 1) ≡ marks_to most whole table i ++ m ∷ []
unfolding marks_to
marks_more most whole table i r m below is at room =
    let all = filter_map (mark_by table) (take i whole) in
    let few : length all < most = omega (arith, room, length-take most all) in
    ap (take most) (maps_more (mark_by table) whole i r (Some m) below is at) ∙ take_all most (all ++ m ∷ []) (omega (arith, length-append all (m ∷ []), few))
    ∙ ap (λ (l : List RecordMark). l ++ m ∷ []) (sym (take_all most all (omega (arith, few))))

pub marks_full : (most : ℕ) (whole : List RecordSeen) (table : MftTable) (i : ℕ) (r : RecordSeen) (m : RecordMark) → i < length whole → r ≡ get_or whole i r → mark_by table r ≡ Some m →
    most ≤ length (marks_to most whole table i) → marks_to most whole table (i + 1) ≡ marks_to most whole table i
unfolding marks_to
marks_full most whole table i r m below is at full =
    let all = filter_map (mark_by table) (take i whole) in
    ap (take most) (maps_more (mark_by table) whole i r (Some m) below is at) ∙ take-append-le most all (m ∷ []) (omega (arith, full, length-take most all))

by_room : (most : ℕ) (whole : List RecordSeen) (table : MftTable) (i : ℕ) (r : RecordSeen) (m : RecordMark) (b : Bool) → i < length whole → r ≡ get_or whole i r → mark_by table r ≡ Some m →
    nat_lt (length (marks_to most whole table i)) most ≡ b → marks_to most whole table (i + 1) ≡ cond b (marks_to most whole table i ++ m ∷ []) (marks_to most whole table i)
by_room most whole table i r m true below is at room = marks_more most whole table i r m below is at (grind (arith, nat_tests))
by_room most whole table i r m false below is at full = marks_full most whole table i r m below is at (grind (arith, nat_tests))

pub marks_some : (most : ℕ) (whole : List RecordSeen) (table : MftTable) (i : ℕ) (r : RecordSeen) (m : RecordMark) → i < length whole → r ≡ get_or whole i r → mark_by table r ≡ Some m →
    marks_to most whole table (i + 1) ≡ with_mark most (marks_to most whole table i) m
marks_some most whole table i r m below is at = by_room most whole table i r m (nat_lt (length (marks_to most whole table i)) most) below is at refl

pub marks_same : (most : ℕ) (whole : List RecordSeen) (table : MftTable) (i : ℕ) (r : RecordSeen) → i < length whole → r ≡ get_or whole i r → mark_by table r ≡ None →
    marks_to most whole table (i + 1) ≡ marks_to most whole table i
unfolding marks_to
marks_same most whole table i r below is at =
    ap (take most) (maps_more (mark_by table) whole i r None below is at ∙ append-nil (filter_map (mark_by table) (take i whole)))

next_by : (most : ℕ) (whole : List RecordSeen) (table : MftTable) (i : ℕ) (r : RecordSeen) (one : Option RecordMark) → i < length whole → r ≡ get_or whole i r → mark_by table r ≡ one →
    marks_to most whole table (i + 1) ≡ with_some most (marks_to most whole table i) one
next_by most whole table i r None below is at = marks_same most whole table i r below is at
next_by most whole table i r (Some m) below is at = marks_some most whole table i r m below is at

pub marks_next : (most : ℕ) (whole : List RecordSeen) (table : MftTable) (i : ℕ) (r : RecordSeen) → i < length whole → r ≡ get_or whole i r →
    marks_to most whole table (i + 1) ≡ with_some most (marks_to most whole table i) (mark_by table r)
marks_next most whole table i r below is = next_by most whole table i r (mark_by table r) below is refl

pub marks_all : (most : ℕ) (whole : List RecordSeen) (table : MftTable) (n : ℕ) → length whole ≤ n → marks_to most whole table n ≡ marks_by most whole table
unfolding marks_to marks_by
marks_all most whole table n all = ap (λ (l : List RecordSeen). take most (filter_map (mark_by table) l)) (take_all n whole all)

-- an element of a list, whatever stands for one past its end
pub same_at : {X : Type 0} (xs : List X) (i : ℕ) (d e : X) → i < length xs → get_or xs i d ≡ get_or xs i e
same_at [] i d e below = absurd (omega arith)
same_at (x ∷ xs) zero d e below = refl
same_at (x ∷ xs) (suc i) d e below = same_at xs i d e (omega arith)

pub marks_step : (most : ℕ) (whole : List RecordSeen) (table : MftTable) (i : ℕ) (d : RecordSeen) (old new : List RecordMark) → i < length whole → old ≡ marks_to most whole table i →
    new ≡ with_some most old (mark_by table (get_or whole i d)) → new ≡ marks_to most whole table (i + 1)
marks_step most whole table i d old new below so adds =
    adds ∙ ap (λ (l : List RecordMark). with_some most l (mark_by table (get_or whole i d))) so
    ∙ sym (marks_next most whole table i (get_or whole i d) below (same_at whole i d (get_or whole i d) below))
