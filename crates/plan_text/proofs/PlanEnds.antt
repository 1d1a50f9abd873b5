-- The end of a plan's text, and that a plan has one text.
use Rattle.std.proofs.Common.{◌≡◌, ◌≢◌, ◌<◌, ◌≤◌, ◌+◌, ◌^◌, ℕ, Bool, true, false, List, [], ◌∷◌, ◌++◌, All, get_or, length, map, codes, decimal, refl, sym, ap, subst, ◌∙◌, arith, append_assoc, append-nil, length-append}
use Rattle.std.proofs.lemmas.List.{append_cancel_left}
use Rattle.std.proofs.lemmas.Fmt.{decimal_injective}
use Rattle.raid_params.specs.declared.types.Bounds.{Bounds}
use Rattle.raid_params.specs.declared.types.Level.{Level}
use Rattle.raid_params.specs.declared.types.Pattern.{Pattern}
use Rattle.raid_params.specs.declared.types.Syndrome.{Syndrome}
use Rattle.landmark_rules.specs.declared.marks.Group.{Group}
use Rattle.landmark_rules.specs.declared.marks.MarkTests.{MarkTests}
use Rattle.search_scope.specs.declared.scope.Limits.{Limits}
use Rattle.search_plan.specs.declared.plan.Plan.{Plan}
use Rattle.search_plan.specs.Places.{level_place, pattern_place, syndrome_place}
use Rattle.search_plan.specs.Plans.{IsPlan}
use Rattle.plan_text.specs.declared.fault.PlanFault.{PlanFault}
use Rattle.plan_text.specs.declared.fault.PlanFault.TheVariants.{Line}
use Rattle.value_text.specs.NameLaws.{in_lists, level_law, pattern_law, syndrome_law, byte_law, number_law}
use Rattle.plan_text.specs.PlanText.{IsFault, IsRefusedLine, groups_lines, image_lines, plan_lines, plan_text, search_lines, some_delays, version_lines}
use Rattle.plan_text.specs.Reading.{Cursor, followed}
use Rattle.value_text.specs.Spelling.{IsFieldName, level_name, pattern_name, syndrome_name, commas}
use Rattle.value_text.proofs.Fits.{members_are_bytes, chunks_are_short, delays_are_short, offsets_are_short}
use Rattle.plan_text.proofs.GroupSteps.{are_spelled}
use Rattle.value_text.proofs.Lists.{some_value}
use Rattle.plan_text.proofs.PlanLines.{one_end, same_groups, same_images, search_of, third_of}
use Rattle.plan_text.proofs.DelayLines.{one_delay}
use Rattle.plan_text.proofs.SearchLines.{delayed_in, delays_told, other_lines, same_search, search_by}
use Rattle.plan_text.proofs.Versions.{same_version}
use Rattle.plan_text.proofs.RefusedLines.{IsOther, end_is_short, following, plain_lines, refused_line, text_of}
use Rattle.plan_text.proofs.Refusals.{Went}
use Rattle.value_text.proofs.Spellings.{same_list}

-- no plan goes on after the last line of another
no_more : (p q : Plan) (l : List ℕ) (ls : List (List ℕ)) → IsPlan p → IsPlan q → plan_lines q ≡ plan_lines p ++ l ∷ ls → ⊥
no_more p q l ls is_p is_q e =
    let images_p = image_lines p.lengths.items in
    let search_p = search_lines p.end p.bounds p.limits p.tests in
    let search_q = search_lines q.end q.bounds q.limits q.tests in
    let both = same_images q.lengths.items p.lengths.items (search_q ++ groups_lines q.groups) ((search_p ++ groups_lines p.groups) ++ l ∷ ls) is_q.lengths is_p.lengths ((same_version q.each (third_of q) p.each (third_of p) _ _ (e ∙ append_assoc (version_lines p.each (third_of p)) (images_p ++ (search_p ++ groups_lines p.groups)) (l ∷ ls))).2 ∙ append_assoc images_p (search_p ++ groups_lines p.groups) (l ∷ ls)) in
    let rest = (same_search (search_of q) (search_of p) (groups_lines q.groups) (groups_lines p.groups ++ l ∷ ls) (both.1 ∙ append_assoc search_p (groups_lines p.groups) (l ∷ ls))).2 in
    one_end q.groups p.groups l ls (are_spelled q.lengths.items q.groups is_q.lengths is_q.groups) (are_spelled p.lengths.items p.groups is_p.lengths is_p.groups) rest

ends_there : (p q : Plan) (rest : List ℕ) (others : List (List ℕ)) → IsPlan p → IsPlan q → rest ≢ [] → plan_lines q ≡ plan_lines p ++ others → IsOther rest others
ends_there p q rest [] is_p is_q some e = some
ends_there p q rest (l ∷ ls) is_p is_q some e = absurd (no_more p q l ls is_p is_q e)

-- text after the last line is refused at the line after it
pub end_refused : (text : List ℕ) (from to : Cursor) (fault : PlanFault) (plan : Plan) → IsPlan plan → from.rest ≡ text → from.taken ≡ 0 → Went from to (plan_lines plan) → (fault ≡ Line (to.taken + 1)) × (to.rest ≢ []) → IsFault text fault
end_refused text from to fault plan is rest taken w h =
    let number : length (plan_lines plan) + 1 ≡ to.taken + 1 = (let over = w.taken in omega arith) in
    subst (IsFault text) (sym h.0) (subst (IsRefusedLine text) number (refused_line text to.rest (plan_lines plan) w.plain (sym rest ∙ w.rest) plan is [] (sym (append-nil (plan_lines plan))) (λ q others is_q e. ends_there plan q to.rest others is is_q h.1 e)))

-- a text that was read to its end
pub whole_text : (text : List ℕ) (from to : Cursor) (plan : Plan) → from.rest ≡ text → Went from to (plan_lines plan) → to.rest ≡ [] → text ≡ plan_text plan
whole_text text from to plan rest w end = sym rest ∙ w.rest ∙ ap (λ (ds : List ℕ). followed (plan_lines plan) ds) end ∙ sym (text_of plan)

bounds_with : List Level → List ℕ → List Pattern → List ℕ → List Syndrome → List ℕ → List ℕ → ℕ → ℕ → Bounds
bounds_with levels members patterns delays syndromes chunks offsets missing foreign = record {
  levels = record { items = levels };
  members = record { items = members };
  patterns = record { items = patterns };
  delays = record { items = delays };
  syndromes = record { items = syndromes };
  chunks = record { items = chunks };
  offsets = record { items = offsets };
  missing = missing;
  foreign = foreign;
}

eq_bounds : (b d : Bounds) → b.levels.items ≡ d.levels.items → b.members.items ≡ d.members.items → b.patterns.items ≡ d.patterns.items → b.delays.items ≡ d.delays.items → b.syndromes.items ≡ d.syndromes.items → b.chunks.items ≡ d.chunks.items → b.offsets.items ≡ d.offsets.items → b.missing ≡ d.missing → b.foreign ≡ d.foreign → b ≡ d
unfolding bounds_with
eq_bounds b d l m p t s c o i f =
    let same : bounds_with b.levels.items b.members.items b.patterns.items b.delays.items b.syndromes.items b.chunks.items b.offsets.items b.missing b.foreign
    ≡ bounds_with d.levels.items d.members.items d.patterns.items d.delays.items d.syndromes.items d.chunks.items d.offsets.items d.missing d.foreign = cc in
    same

limits_with : ℕ → ℕ → Limits
limits_with badrows window = record { badrows = badrows; window = window }

eq_limits : (s t : Limits) → s.badrows ≡ t.badrows → s.window ≡ t.window → s ≡ t
unfolding limits_with
eq_limits s t a b = let same : limits_with s.badrows s.window ≡ limits_with t.badrows t.window = cc in same

tests_with : List ℕ → ℕ → ℕ → MarkTests
tests_with origins misfits least = record { origins = record { items = origins }; misfits = misfits; least = least }

eq_tests : (s t : MarkTests) → s.origins.items ≡ t.origins.items → s.misfits ≡ t.misfits → s.least ≡ t.least → s ≡ t
unfolding tests_with
eq_tests s t a b c = let same : tests_with s.origins.items s.misfits s.least ≡ tests_with t.origins.items t.misfits t.least = cc in same

plan_with : List ℕ → ℕ → Bounds → Limits → MarkTests → List Group → Bool → Plan
plan_with lengths end bounds limits tests groups each = record { lengths = record { items = lengths }; end = end; bounds = bounds; limits = limits; tests = tests; groups = groups; each = each }

eq_plan : (p q : Plan) → p.lengths.items ≡ q.lengths.items → p.end ≡ q.end → p.bounds ≡ q.bounds → p.limits ≡ q.limits → p.tests ≡ q.tests → p.groups ≡ q.groups → p.each ≡ q.each → p ≡ q
unfolding plan_with
eq_plan p q a b c d e f g = let same : plan_with p.lengths.items p.end p.bounds p.limits p.tests p.groups p.each ≡ plan_with q.lengths.items q.end q.bounds q.limits q.tests q.groups q.each = cc in same

number : (word : List ℕ) (m n : ℕ) → m < 2 ^ 55 → n < 2 ^ 55 → word ++ decimal m ≡ word ++ decimal n → m ≡ n
number word m n p q e = decimal_injective m n (omega arith) (omega arith) (append_cancel_left word (decimal m) (decimal n) e)

listed : {A : Type 0} (name : A → List ℕ) (IsSpelled : A → Type 0) → IsFieldName name IsSpelled → (word : List ℕ) (xs ys : List A) → 1 ≤ length xs → 1 ≤ length ys → All IsSpelled xs → All IsSpelled ys → word ++ commas (map name xs) ≡ word ++ commas (map name ys) → xs ≡ ys
listed name IsSpelled s word xs ys some more p q e = same_list name IsSpelled (in_lists name IsSpelled s) xs ys some more p q (append_cancel_left word (commas (map name xs)) (commas (map name ys)) e)

abbrev line_at : ℕ → List (List ℕ) → List ℕ
line_at i lines = get_or lines i []

-- the delays are those of the line, or one
same_delays : (delayed : Bool) (p q : Plan) → IsPlan p → IsPlan q → some_delays p.bounds.delays.items ≡ delayed → some_delays q.bounds.delays.items ≡ delayed → search_by delayed (search_of p) ≡ search_by delayed (search_of q) → p.bounds.delays.items ≡ q.bounds.delays.items
same_delays false p q is_p is_q one other e = one_delay p.bounds.delays.items one ∙ sym (one_delay q.bounds.delays.items other)
same_delays true p q is_p is_q some others e =
    let a = is_p.bounds in
    let b = is_q.bounds in
    listed decimal (λ n. n < 2 ^ 64) number_law (codes "delays ") p.bounds.delays.items q.bounds.delays.items a.delays.some b.delays.some (delays_are_short p.bounds.delays.items a.short_delays) (delays_are_short q.bounds.delays.items b.short_delays) (delays_told true (search_of p) (search_of q) e refl)

same_bounds : (p q : Plan) → IsPlan p → IsPlan q → p.bounds.delays.items ≡ q.bounds.delays.items → search_by false (search_of p) ≡ search_by false (search_of q) → p.bounds ≡ q.bounds
same_bounds p q is_p is_q delays e =
    let a = is_p.bounds in
    let b = is_q.bounds in
    eq_bounds p.bounds q.bounds
    (listed level_name (λ x. Unit {0}) level_law (codes "levels ") p.bounds.levels.items q.bounds.levels.items (some_value level_place p.bounds.levels.items a.levels) (some_value level_place q.bounds.levels.items b.levels) (λ k d lt. tt) (λ k d lt. tt) (ap (line_at 1) e))
    (listed decimal (λ n. n < 2 ^ 8) byte_law (codes "members ") p.bounds.members.items q.bounds.members.items a.members.some b.members.some (members_are_bytes p.bounds.members.items a.few_members) (members_are_bytes q.bounds.members.items b.few_members) (ap (line_at 2) e))
    (listed pattern_name (λ x. Unit {0}) pattern_law (codes "patterns ") p.bounds.patterns.items q.bounds.patterns.items (some_value pattern_place p.bounds.patterns.items a.patterns) (some_value pattern_place q.bounds.patterns.items b.patterns) (λ k d lt. tt) (λ k d lt. tt) (ap (line_at 3) e))
    delays
    (listed syndrome_name (λ x. Unit {0}) syndrome_law (codes "syndromes ") p.bounds.syndromes.items q.bounds.syndromes.items (some_value syndrome_place p.bounds.syndromes.items a.syndromes) (some_value syndrome_place q.bounds.syndromes.items b.syndromes) (λ k d lt. tt) (λ k d lt. tt) (ap (line_at 4) e))
    (listed decimal (λ n. n < 2 ^ 64) number_law (codes "chunks ") p.bounds.chunks.items q.bounds.chunks.items a.chunks.some b.chunks.some (chunks_are_short p.bounds.chunks.items a.powers) (chunks_are_short q.bounds.chunks.items b.powers) (ap (line_at 5) e))
    (listed decimal (λ n. n < 2 ^ 64) number_law (codes "offsets ") p.bounds.offsets.items q.bounds.offsets.items a.offsets.some b.offsets.some (offsets_are_short p.bounds.offsets.items a.near_offsets) (offsets_are_short q.bounds.offsets.items b.near_offsets) (ap (line_at 6) e))
    (number (codes "missing ") p.bounds.missing q.bounds.missing (let small = a.missing in omega arith) (let small = b.missing in omega arith) (ap (line_at 8) e))
    (number (codes "foreign ") p.bounds.foreign q.bounds.foreign (let small = a.foreign in omega arith) (let small = b.foreign in omega arith) (ap (line_at 9) e))

-- plans with the same text are the same plan
pub one_spelling : (p q : Plan) → IsPlan p → IsPlan q → plan_text p ≡ plan_text q → p ≡ q
one_spelling p q is_p is_q e =
    let after = following (plan_lines p) (plan_lines q) [] (plain_lines p is_p) (plain_lines q is_q) (sym (text_of p) ∙ e ∙ text_of q) in
    let none = nothing after.0 after.2 in
    let lines : plan_lines q ≡ plan_lines p = after.1 ∙ ap (λ (ls : List (List ℕ)). plan_lines p ++ ls) none ∙ append-nil (plan_lines p) in
    let search_p = search_lines p.end p.bounds p.limits p.tests in
    let search_q = search_lines q.end q.bounds q.limits q.tests in
    let version = same_version p.each (third_of p) q.each (third_of q) _ _ (sym lines) in
    let both = same_images p.lengths.items q.lengths.items (search_p ++ groups_lines p.groups) (search_q ++ groups_lines q.groups) is_p.lengths is_q.lengths version.2 in
    let told = same_search (search_of p) (search_of q) (groups_lines p.groups) (groups_lines q.groups) both.1 in
    let delayed = delayed_in (search_of p) in
    let whole : search_by delayed (search_of p) ≡ search_by delayed (search_of q) = told.1 ∙ ap (λ (b : Bool). search_by b (search_of q)) (sym told.0) in
    let search = other_lines delayed (search_of p) (search_of q) whole in
    let delays = same_delays delayed p q is_p is_q refl (sym told.0) whole in
    let groups = told.2 in
    let a = is_p.tests in
    let b = is_q.tests in
    eq_plan p q both.0 (number (codes "end ") p.end q.end (end_is_short p is_p) (end_is_short q is_q) (ap (line_at 0) search)) (same_bounds p q is_p is_q delays search)
    (eq_limits p.limits q.limits (number (codes "badrows ") p.limits.badrows q.limits.badrows is_p.limits.badrows is_q.limits.badrows (ap (line_at 10) search)) (number (codes "window ") p.limits.window q.limits.window is_p.limits.window is_q.limits.window (ap (line_at 11) search)))
    (eq_tests p.tests q.tests
    (listed decimal (λ n. n < 2 ^ 64) number_law (codes "origins ") p.tests.origins.items q.tests.origins.items a.origins.some b.origins.some (offsets_are_short p.tests.origins.items a.near_origins) (offsets_are_short q.tests.origins.items b.near_origins) (ap (line_at 7) search))
    (number (codes "misfits ") p.tests.misfits q.tests.misfits a.misfits b.misfits (ap (line_at 12) search)) (number (codes "least ") p.tests.least q.tests.least a.least b.least (ap (line_at 13) search)))
    (same_groups p.groups q.groups (are_spelled p.lengths.items p.groups is_p.lengths is_p.groups) (are_spelled q.lengths.items q.groups is_q.lengths is_q.groups) groups)
    version.0
  where
    nothing : (others : List (List ℕ)) → [] ≡ followed others [] → others ≡ []
    nothing [] e = refl
    nothing (l ∷ ls) e = let same = ap length e in let more = length-append l (10 ∷ followed ls []) in absurd (omega arith)
