-- The refused line of a text.
use Rattle.std.proofs.Common.{◌≡◌, ◌≢◌, ◌<◌, ◌+◌, ◌^◌, ℕ, Bool, true, false, List, [], ◌∷◌, ◌++◌, All, take, drop, length, map, codes, decimal, refl, sym, ap, subst, ◌∙◌, arith, append_assoc, append-nil, length-append, length-take, inl, inr, Option, None, Some, IfSome}
use Rattle.std.specs.List.{flat_map}
use Rattle.std.proofs.lemmas.Bool.{cases_lt}
use Rattle.std.proofs.lemmas.List.{take-append-drop}
use Rattle.std.proofs.lemmas.List.Concat.{flat_map-append}
use Rattle.std.proofs.lemmas.List.Elements.{All-head, All-tail, All-nil, All-cons, All-append}
use Rattle.landmark_rules.specs.declared.marks.Group.{Group}
use Rattle.landmark_rules.specs.declared.marks.Mark.{Mark}
use Rattle.landmark_rules.specs.declared.marks.MarkBounds.{MarkBounds}
use Rattle.landmark_rules.specs.Groups.{AreMarkBounds}
use Rattle.raid_params.specs.declared.types.Syndrome.{Syndrome}
use Rattle.search_plan.specs.declared.plan.Plan.{Plan}
use Rattle.search_plan.specs.Plans.{AreLengths, IsPlan}
use Rattle.plan_text.specs.declared.fault.PlanFault.{PlanFault}
use Rattle.plan_text.specs.declared.fault.PlanFault.TheVariants.{Line, Memory}
use Rattle.plan_text.specs.Drafts.{IsSpelledMark, entry_line}
use Rattle.value_text.specs.NameLaws.{level_law, pattern_law, syndrome_law, byte_law, number_law}
use Rattle.plan_text.specs.PlanText.{Begins, IsFault, IsLine, IsRefusedLine, bounds_line, bounds_lines, counts_lines, delays_line, group_lines, groups_lines, image_lines, mark_line, mode_line, older_number, plan_lines, plan_text, says_more, search_lines, sizes_lines, some_delays, syndromes_line, version_lines}
use Rattle.plan_text.specs.Reading.{Cursor, IsOff, IsRefusal, followed}
use Rattle.value_text.specs.Spelling.{level_name, pattern_name, syndrome_name, line, named}
use Rattle.plan_text.specs.declared.entry.Entry.TheVariants.{Bounds as BoundsEntry, Done, Group as GroupEntry, Mark as MarkEntry}
use Rattle.plan_text.proofs.EntryLines.{an_entry_line}
use Rattle.value_text.proofs.Fits.{members_are_bytes, chunks_are_short, delays_are_short, offsets_are_short}
use Rattle.plan_text.proofs.DelayLines.{orders_by}
use Rattle.plan_text.proofs.GroupSteps.{are_spelled}
use Rattle.plan_text.proofs.Grouping.{AreSpelled}
use Rattle.plan_text.proofs.ImageLines.{length_line}
use Rattle.value_text.proofs.Lists.{number_line, word_line}
use Rattle.plan_text.proofs.OneLine.{a_line}
use Rattle.value_text.proofs.Spellings.{first_separator}

pub in_lines : (lines : List (List ℕ)) (rest : List ℕ) → flat_map line lines ++ rest ≡ followed lines rest
in_lines [] rest = refl
in_lines (l ∷ lines) rest =
    append_assoc (l ++ 10 ∷ []) (flat_map line lines) rest ∙ append_assoc l (10 ∷ []) (flat_map line lines ++ rest) ∙ ap (λ (ds : List ℕ). l ++ 10 ∷ ds) (in_lines lines rest)

pub text_of : (plan : Plan) → plan_text plan ≡ followed (plan_lines plan) []
text_of plan = sym (append-nil (plan_text plan)) ∙ in_lines (plan_lines plan) []

-- lines that are a prefix of others
pub following : (xs ys : List (List ℕ)) (rest : List ℕ) → All IsLine xs → All IsLine ys → followed xs rest ≡ followed ys [] → (others : List (List ℕ)) × (ys ≡ xs ++ others) × (rest ≡ followed others [])
following [] ys rest p q e = (ys, refl, e)
following (x ∷ xs) [] rest p q e = let same = ap length e in let more = length-append x (10 ∷ followed xs rest) in absurd (omega arith)
following (x ∷ xs) (y ∷ ys) rest p q e =
    let both = first_separator 10 x y (followed xs rest) (followed ys []) (All-head IsLine x xs p) (All-head IsLine y ys q) e in
    let more = following xs ys rest (All-tail IsLine x xs p) (All-tail IsLine y ys q) both.1 in
    let head : x ≡ y = both.0 in
    let tail : ys ≡ xs ++ more.0 = more.1 in
    (more.0, cc, more.2)

one_more : (xs ys : List (List ℕ)) (rest after : List ℕ) → All IsLine xs → All IsLine ys → length ys ≡ length xs + 1 → followed xs rest ≡ followed ys after → (l : List ℕ) × (ys ≡ xs ++ l ∷ []) × (rest ≡ l ++ 10 ∷ after)
one_more [] [] rest after p q many e = absurd (omega arith)
one_more [] (y ∷ []) rest after p q many e = (y, refl, e)
one_more [] (y ∷ z ∷ ys) rest after p q many e = absurd (omega arith)
one_more (x ∷ xs) [] rest after p q many e = absurd (omega arith)
one_more (x ∷ xs) (y ∷ ys) rest after p q many e =
    let both = first_separator 10 x y (followed xs rest) (followed ys after) (All-head IsLine x xs p) (All-head IsLine y ys q) e in
    let more = one_more xs ys rest after (All-tail IsLine x xs p) (All-tail IsLine y ys q) (omega arith) both.1 in
    let head : x ≡ y = both.0 in
    let tail : ys ≡ xs ++ more.0 ∷ [] = more.1 in
    (more.0, cc, more.2)

-- no line of a plan has a line feed
abbrev ArePlain : List (List ℕ) → Type 0
ArePlain [] = Unit {0}
ArePlain (l ∷ ls) = IsLine l × ArePlain ls

all_plain : (ls : List (List ℕ)) → ArePlain ls → All IsLine ls
all_plain [] p = All-nil IsLine
all_plain (l ∷ ls) p = All-cons IsLine l ls p.0 (all_plain ls p.1)

lengths_plain : (ls : List ℕ) → All (λ n. n < 2 ^ 55) ls → ArePlain (map length_line ls)
lengths_plain [] short = tt
lengths_plain (l ∷ ls) short = (number_line (codes "length ") (a_line (codes "length ") refl) l (let small = All-head (λ n. n < 2 ^ 55) l ls short in omega arith), lengths_plain ls (All-tail (λ n. n < 2 ^ 55) l ls short))

image_plain : (ls : List ℕ) → AreLengths ls → All IsLine (image_lines ls)
image_plain ls are = all_plain (image_lines ls) (number_line (codes "images ") (a_line (codes "images ") refl) (length ls) (let most = are.most in omega arith), lengths_plain ls are.short)

older_plain : (each : Bool) → IsLine (named (codes "reraid-plan") (decimal (older_number each)))
older_plain false = number_line (codes "reraid-plan ") (a_line (codes "reraid-plan ") refl) 1 (omega arith)
older_plain true = number_line (codes "reraid-plan ") (a_line (codes "reraid-plan ") refl) 2 (omega arith)

pub mode_plain : (each : Bool) → IsLine (mode_line each)
mode_plain false = a_line (codes "mode common") refl
mode_plain true = a_line (codes "mode each") refl

version_plain : (each third : Bool) → All IsLine (version_lines each third)
version_plain each false = All-cons IsLine (named (codes "reraid-plan") (decimal (older_number each))) [] (older_plain each) (All-nil IsLine)
version_plain each true =
    All-cons IsLine (named (codes "reraid-plan") (decimal 3)) (mode_line each ∷ []) (number_line (codes "reraid-plan ") (a_line (codes "reraid-plan ") refl) 3 (omega arith))
    (All-cons IsLine (mode_line each) [] (mode_plain each) (All-nil IsLine))

pub end_is_short : (plan : Plan) → IsPlan plan → plan.end < 2 ^ 55
end_is_short plan is =
    let some = is.lengths.some in
    let first = is.lengths.short 0 0 (omega arith) in
    let end = is.ends 0 0 (omega arith) in
    omega arith

numbered : (word : List ℕ) → IsLine word → (n : ℕ) → n < 2 ^ 55 → IsLine (word ++ decimal n)
numbered word is n small = number_line word is n (omega arith)

-- with a line of delays and without
plain_orders : (b : Bool) (ds : List ℕ) (ss : List Syndrome) (rest : List (List ℕ)) → IsLine (delays_line ds) → ArePlain (syndromes_line ss ∷ rest) → ArePlain (orders_by b ds ss ++ rest)
plain_orders true ds ss rest line p = (line, p)
plain_orders false ds ss rest line p = p

-- a plan has more to say than versions 1 and 2 can
abbrev third_of : Plan → Bool
third_of plan = says_more (some_delays plan.bounds.delays.items) plan.groups

search_plain : (plan : Plan) → IsPlan plan → All IsLine (search_lines plan.end plan.bounds plan.limits plan.tests)
search_plain plan is =
    let b = is.bounds in
    let l = is.limits in
    let t = is.tests in
    all_plain (search_lines plan.end plan.bounds plan.limits plan.tests) (
      numbered (codes "end ") (a_line (codes "end ") refl) plan.end (end_is_short plan is),
      (
        word_line level_name (λ x. Unit {0}) level_law (codes "levels ") (a_line (codes "levels ") refl) plan.bounds.levels.items (λ k d lt. tt),
        (
          word_line decimal (λ n. n < 2 ^ 8) byte_law (codes "members ") (a_line (codes "members ") refl) plan.bounds.members.items (members_are_bytes plan.bounds.members.items b.few_members),
          (
            word_line pattern_name (λ x. Unit {0}) pattern_law (codes "patterns ") (a_line (codes "patterns ") refl) plan.bounds.patterns.items (λ k d lt. tt),
            plain_orders (some_delays plan.bounds.delays.items) plan.bounds.delays.items plan.bounds.syndromes.items (sizes_lines plan.bounds plan.tests ++ counts_lines plan.bounds plan.limits plan.tests)
                (word_line decimal (λ n. n < 2 ^ 64) number_law (codes "delays ") (a_line (codes "delays ") refl) plan.bounds.delays.items (delays_are_short plan.bounds.delays.items b.short_delays)) (
                  word_line syndrome_name (λ x. Unit {0}) syndrome_law (codes "syndromes ") (a_line (codes "syndromes ") refl) plan.bounds.syndromes.items (λ k d lt. tt),
                  (
                    word_line decimal (λ n. n < 2 ^ 64) number_law (codes "chunks ") (a_line (codes "chunks ") refl) plan.bounds.chunks.items (chunks_are_short plan.bounds.chunks.items b.powers),
                    (
                      word_line decimal (λ n. n < 2 ^ 64) number_law (codes "offsets ") (a_line (codes "offsets ") refl) plan.bounds.offsets.items (offsets_are_short plan.bounds.offsets.items b.near_offsets),
                      (
                        word_line decimal (λ n. n < 2 ^ 64) number_law (codes "origins ") (a_line (codes "origins ") refl) plan.tests.origins.items (offsets_are_short plan.tests.origins.items t.near_origins),
                        (
                          numbered (codes "missing ") (a_line (codes "missing ") refl) plan.bounds.missing (let small = b.missing in omega arith),
                          (
                            numbered (codes "foreign ") (a_line (codes "foreign ") refl) plan.bounds.foreign (let small = b.foreign in omega arith),
                            (
                              numbered (codes "badrows ") (a_line (codes "badrows ") refl) plan.limits.badrows l.badrows,
                              (
                                numbered (codes "window ") (a_line (codes "window ") refl) plan.limits.window l.window,
                                (
                                  numbered (codes "misfits ") (a_line (codes "misfits ") refl) plan.tests.misfits t.misfits,
                                  (numbered (codes "least ") (a_line (codes "least ") refl) plan.tests.least t.least, tt),
                                ),
                              ),
                            ),
                          ),
                        ),
                      ),
                    ),
                  ),
                ),
          ),
        ),
      ),
    )

marks_plain : (ms : List Mark) → All IsSpelledMark ms → ArePlain (map mark_line ms)
marks_plain [] q = tt
marks_plain (m ∷ ms) q = (an_entry_line (MarkEntry m) (All-head IsSpelledMark m ms q), marks_plain ms (All-tail IsSpelledMark m ms q))

bounds_plain : (bounds : Option MarkBounds) → IfSome bounds AreMarkBounds → All IsLine (bounds_lines bounds)
bounds_plain None are = All-nil IsLine
bounds_plain (Some b) are = All-cons IsLine (bounds_line b) [] (an_entry_line (BoundsEntry b) are) (All-nil IsLine)

groups_plain : (gs : List Group) → All AreSpelled gs → All IsLine (flat_map group_lines gs)
groups_plain [] p = All-nil IsLine
groups_plain (g ∷ gs) p =
    let spelled = All-head AreSpelled g gs p in
    All-append IsLine (group_lines g) (flat_map group_lines gs)
    (All-cons IsLine (entry_line (GroupEntry g.kind)) (bounds_lines g.bounds ++ map mark_line g.marks) (an_entry_line (GroupEntry g.kind) tt)
    (All-append IsLine (bounds_lines g.bounds) (map mark_line g.marks) (bounds_plain g.bounds spelled.1) (all_plain (map mark_line g.marks) (marks_plain g.marks spelled.0))))
    (groups_plain gs (All-tail AreSpelled g gs p))

pub plain_lines : (plan : Plan) → IsPlan plan → All IsLine (plan_lines plan)
plain_lines plan is =
    All-append IsLine (version_lines plan.each (third_of plan)) (image_lines plan.lengths.items ++ (search_lines plan.end plan.bounds plan.limits plan.tests ++ groups_lines plan.groups)) (version_plain plan.each (third_of plan))
    (All-append IsLine (image_lines plan.lengths.items) (search_lines plan.end plan.bounds plan.limits plan.tests ++ groups_lines plan.groups) (image_plain plan.lengths.items is.lengths)
    (All-append IsLine (search_lines plan.end plan.bounds plan.limits plan.tests) (groups_lines plan.groups) (search_plain plan is)
    (All-append IsLine (flat_map group_lines plan.groups) (codes "done" ∷ []) (groups_plain plan.groups (are_spelled plan.lengths.items plan.groups is.lengths is.groups)) (All-cons IsLine (codes "done") [] (an_entry_line Done tt) (All-nil IsLine)))))

-- lines that are to come, of which there may be none where the text goes on
abbrev pub IsOther : List ℕ → List (List ℕ) → Type 0
IsOther rest [] = rest ≢ []
IsOther rest (l ∷ lines) = (after : List ℕ) → rest ≢ l ++ 10 ∷ after

-- a line at which no plan goes on is the refused one
pub refused_line : (text rest : List ℕ) (lines : List (List ℕ)) → All IsLine lines → text ≡ followed lines rest → (plan : Plan) → IsPlan plan → (more : List (List ℕ)) → plan_lines plan ≡ lines ++ more →
    ((q : Plan) (others : List (List ℕ)) → IsPlan q → plan_lines q ≡ lines ++ others → IsOther rest others) → IsRefusedLine text (length lines + 1)
refused_line text rest lines plain is plan is_plan more begins other = record {
  no_plan = λ q is_q e.
      let others = following lines (plan_lines q) rest plain (plain_lines q is_q) (sym is ∙ e ∙ text_of q) in
      ends rest others.0 (other q others.0 is_q others.1) others.2;
  lines = lines;
  number = refl;
  before = record { plain = plain; rest = rest; text_is = is ∙ sym (in_lines lines rest) };
  begins = (plan, is_plan, record { plain = plain; rest = flat_map line more; text_is = ap (λ (ls : List (List ℕ)). flat_map line ls) begins ∙ flat_map-append line lines more });
  not_with = λ m many b begun.
      let q = begun.0 in
      let next = one_more lines m rest b.rest plain b.plain many (sym is ∙ b.text_is ∙ in_lines m b.rest) in
      let others = following m (plan_lines q) begun.2.rest begun.2.plain (plain_lines q begun.1) (sym (in_lines m begun.2.rest) ∙ sym begun.2.text_is ∙ text_of q) in
      let all : plan_lines q ≡ lines ++ next.0 ∷ others.0 = others.1 ∙ ap (λ (ls : List (List ℕ)). ls ++ others.0) next.1 ∙ append_assoc lines (next.0 ∷ []) others.0 in
      other q (next.0 ∷ others.0) begun.1 all b.rest next.2;
}
  where
    ends : (rest : List ℕ) (others : List (List ℕ)) → IsOther rest others → rest ≡ followed others [] → ⊥
    ends rest [] other e = other e
    ends rest (l ∷ ls) other e = other (followed ls []) e

off_is_other : (rest : List ℕ) (others : List (List ℕ)) → IsOff rest others → IsOther rest others
off_is_other rest [] off = absurd off
off_is_other rest (l ∷ ls) off = off

-- the refusal of a reader that began with the text
pub fault_of : (text : List ℕ) (from : Cursor) (fault : PlanFault) → from.rest ≡ text → from.taken ≡ 0 → IsRefusal IsPlan plan_lines from fault → IsFault text fault
fault_of text from (Line n) rest taken h =
    let r = h.2 in
    let line : length r.lines + 1 ≡ n = (let many = r.many in let number = h.1 in omega arith) in
    subst (IsRefusedLine text) line (refused_line text r.rest r.lines r.plain (sym rest ∙ r.text_is) r.value r.is_value r.more r.begins (λ q others is e. off_is_other r.rest others (r.off q others is e)))
fault_of text from Memory rest taken h = tt

-- a prefix of the lines with which a text begins
begins_front : (text : List ℕ) (xs ys : List (List ℕ)) → Begins text (xs ++ ys) → Begins text xs
begins_front text xs ys b = record {
  plain = front xs ys b.plain;
  rest = flat_map line ys ++ b.rest;
  text_is = b.text_is ∙ ap (λ (ds : List ℕ). ds ++ b.rest) (flat_map-append line xs ys) ∙ append_assoc (flat_map line xs) (flat_map line ys) b.rest;
}
  where
    front : (xs ys : List (List ℕ)) → All IsLine (xs ++ ys) → All IsLine xs
    front [] ys p = All-nil IsLine
    front (x ∷ xs) ys p = All-cons IsLine x xs (All-head IsLine x (xs ++ ys) p) (front xs ys (All-tail IsLine x (xs ++ ys) p))

earlier : (text : List ℕ) (m n : ℕ) → IsRefusedLine text m → IsRefusedLine text n → m < n → ⊥
earlier text m n p q lt =
    let whole : take m q.lines ++ drop m q.lines ≡ q.lines = take-append-drop m q.lines in
    let many : length (take m q.lines) ≡ m = (let number = q.number in let taken = length-take m q.lines in omega arith) in
    p.not_with (take m q.lines) many (begins_front text (take m q.lines) (drop m q.lines) (subst (Begins text) (sym whole) q.before))
    (q.begins.0, q.begins.1, begins_front (plan_text q.begins.0) (take m q.lines) (drop m q.lines) (subst (Begins (plan_text q.begins.0)) (sym whole) q.begins.2))

pub one_line_is_refused : (text : List ℕ) (m n : ℕ) → IsRefusedLine text m → IsRefusedLine text n → m ≡ n
one_line_is_refused text m n p q =
    elim (cases_lt m n) [
      | inl less ↦ absurd (earlier text m n p q less)
      | inr most ↦ elim (cases_lt n m) [ inl less ↦ absurd (earlier text n m q p less) | inr least ↦ omega arith ]
    ]
