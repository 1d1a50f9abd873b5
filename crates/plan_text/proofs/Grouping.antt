-- Which lines may follow the lines of groups.
use Rattle.std.proofs.Common.{◌≡◌, ◌≢◌, ℕ, List, [], ◌∷◌, ◌++◌, All, drop, get_or, length, map, codes, refl, sym, ap, subst, ◌∙◌, arith, append_assoc, ◌⊎◌, inl, inr, Option, None, Some, IfSome}
use Rattle.std.specs.List.{flat_map}
use Rattle.std.proofs.lemmas.List.{append_cancel_left}
use Rattle.std.proofs.lemmas.List.Elements.{All-head, All-tail}
use Rattle.landmark_rules.specs.declared.marks.Group.{Group}
use Rattle.mark_kinds.specs.declared.table.GroupKind.{GroupKind}
use Rattle.landmark_rules.specs.declared.marks.Mark.{Mark}
use Rattle.landmark_rules.specs.declared.marks.MarkBounds.{MarkBounds}
use Rattle.landmark_rules.specs.Groups.{AreMarkBounds}
use Rattle.plan_text.specs.Drafts.{IsSpelledMark}
use Rattle.plan_text.specs.PlanText.{bounds_line, bounds_lines, bounds_text, group_lines, groups_lines, mark_line, mark_text}
use Rattle.value_text.specs.Spelling.{named}
use Rattle.landmark_text.specs.Names.{group_name}
use Rattle.plan_text.proofs.Entries.{same_bounds, same_group, same_mark}

abbrev Same : ℕ → ℕ → Type 0
Same m n = m ≡ n

abbrev byte_at : ℕ → List ℕ → ℕ
byte_at i ds = get_or ds i 0

abbrev pub AreSpelled : Group → Type 0
AreSpelled group = All IsSpelledMark group.marks × IfSome group.bounds AreMarkBounds

abbrev pub group_line : GroupKind → List ℕ
group_line kind = named (codes "group") (group_name kind)

abbrev pub group_with : GroupKind → Option MarkBounds → List Mark → Group
group_with kind bounds marks = record { kind = kind; marks = marks; bounds = bounds }

-- these groups are all, and the last line follows
abbrev pub IsWhole : List Group → List Group → List (List ℕ) → Type 0
IsWhole gs qs tail = (qs ≡ gs) × (tail ≡ codes "done" ∷ [])

-- one more group follows
abbrev pub HasGroup : List Group → List Group → List (List ℕ) → Type 0
HasGroup gs qs tail =
    (kind : GroupKind) × (bounds : Option MarkBounds) × (marks : List Mark) × (rest : List Group) × (more : List (List ℕ))
    × (qs ≡ gs ++ group_with kind bounds marks ∷ rest) × (tail ≡ group_line kind ∷ more)

-- the last group, which has neither bounds nor marks, has bounds
abbrev pub HasBounds : List Group → List Group → List (List ℕ) → Type 0
HasBounds gs qs tail =
    (closed : List Group) × (kind : GroupKind) × (bounds : MarkBounds) × (marks : List Mark) × (rest : List Group) × (more : List (List ℕ))
    × (gs ≡ closed ++ group_with kind None [] ∷ []) × (qs ≡ closed ++ group_with kind (Some bounds) marks ∷ rest) × (tail ≡ bounds_line bounds ∷ more)

-- the last group has one more mark
abbrev pub HasMark : List Group → List Group → List (List ℕ) → Type 0
HasMark gs qs tail =
    (closed : List Group) × (last : Group) × (mark : Mark) × (marks : List Mark) × (rest : List Group) × (more : List (List ℕ))
    × (gs ≡ closed ++ last ∷ []) × (qs ≡ closed ++ group_with last.kind last.bounds (last.marks ++ mark ∷ marks) ∷ rest) × (tail ≡ mark_line mark ∷ more)

abbrev pub Goes : List Group → List Group → List (List ℕ) → Type 0
Goes gs qs tail = IsWhole gs qs tail ⊎ (HasGroup gs qs tail ⊎ (HasBounds gs qs tail ⊎ HasMark gs qs tail))

-- the same with one more group before
before : (g : Group) (gs qs : List Group) (tail : List (List ℕ)) → Goes gs qs tail → Goes (g ∷ gs) (g ∷ qs) tail
before g gs qs tail (inl h) = let same : qs ≡ gs = h.0 in inl (ap (λ (xs : List Group). g ∷ xs) same, h.1)
before g gs qs tail (inr (inl h)) = inr (inl (h.0, h.1, h.2, h.3, h.4, ap (λ (xs : List Group). g ∷ xs) h.5, h.6))
before g gs qs tail (inr (inr (inl h))) = inr (inr (inl (g ∷ h.0, h.1, h.2, h.3, h.4, h.5, ap (λ (xs : List Group). g ∷ xs) h.6, ap (λ (xs : List Group). g ∷ xs) h.7, h.8)))
before g gs qs tail (inr (inr (inr h))) = inr (inr (inr (g ∷ h.0, h.1, h.2, h.3, h.4, h.5, ap (λ (xs : List Group). g ∷ xs) h.6, ap (λ (xs : List Group). g ∷ xs) h.7, h.8)))

-- what follows a group's first marks, whatever follows the group
LeftOf : List Mark → List Mark → List (List ℕ) → List (List ℕ) → Type 0
LeftOf ms ns rest tail = ((ns ≡ ms) × (tail ≡ rest)) ⊎ ((mark : Mark) × (more : List Mark) × (ns ≡ ms ++ mark ∷ more) × (tail ≡ mark_line mark ∷ (map mark_line more ++ rest)))

-- the first line of what follows marks is that of no mark
abbrev IsNoMark : List (List ℕ) → Type 0
IsNoMark [] = Unit {0}
IsNoMark (line ∷ lines) = byte_at 0 line ≢ 109

marks_left : (ms ns : List Mark) (rest tail : List (List ℕ)) → All IsSpelledMark ms → All IsSpelledMark ns → IsNoMark rest → map mark_line ns ++ rest ≡ map mark_line ms ++ tail → LeftOf ms ns rest tail
unfolding LeftOf
marks_left [] [] rest tail p q off e = inl (refl, sym e)
marks_left [] (n ∷ ns) rest tail p q off e = inr (n, ns, refl, sym e)
marks_left (m ∷ ms) [] [] tail p q off e = let same = ap length e in absurd (omega arith)
marks_left (m ∷ ms) [] (line ∷ lines) tail p q off e =
    let first : line ≡ mark_line m = ap (λ (ls : List (List ℕ)). get_or ls 0 []) e in
    absurd (off (ap (byte_at 0) first))
marks_left (m ∷ ms) (n ∷ ns) rest tail p q off e =
    let first : mark_line n ≡ mark_line m = ap (λ (ls : List (List ℕ)). get_or ls 0 []) e in
    let others : map mark_line ns ++ rest ≡ map mark_line ms ++ tail = ap (λ (ls : List (List ℕ)). drop 1 ls) e in
    let same : n ≡ m = same_mark n m (All-head IsSpelledMark n ns q) (All-head IsSpelledMark m ms p) (append_cancel_left (codes "mark ") (mark_text n) (mark_text m) first) in
    elim (marks_left ms ns rest tail (All-tail IsSpelledMark m ms p) (All-tail IsSpelledMark n ns q) off others) [
      | inl h ↦ (let marks : ns ≡ ms = h.0 in inl (cc, h.1))
      | inr h ↦ (let marks : ns ≡ ms ++ h.0 ∷ h.1 = h.2 in inr (h.0, h.1, cc, h.3))
    ]

no_mark_after : (qs : List Group) → IsNoMark (groups_lines qs)
no_mark_after [] = λ same. absurd (omega (arith, same))
no_mark_after (q ∷ qs) = λ same. absurd (omega (arith, same))

-- the lines of groups, and what follows them, from the first group on
lines_then : (q : Group) (qs : List Group) (tail : List (List ℕ)) → flat_map group_lines (q ∷ qs) ++ tail ≡ group_line q.kind ∷ (bounds_lines q.bounds ++ (map mark_line q.marks ++ (flat_map group_lines qs ++ tail)))
lines_then q qs tail =
    ap (λ (ls : List (List ℕ)). group_line q.kind ∷ ls)
    (append_assoc (bounds_lines q.bounds ++ map mark_line q.marks) (flat_map group_lines qs) tail ∙ append_assoc (bounds_lines q.bounds) (map mark_line q.marks) (flat_map group_lines qs ++ tail))

-- a group that goes on with a mark: it is the last
one_mark : (kind : GroupKind) (bounds : Option MarkBounds) (ms : List Mark) (gs : List Group) (ns : List Mark) (qs : List Group) (tail : List (List ℕ)) (mark : Mark) (more : List Mark) → ns ≡ ms ++ mark ∷ more →
    flat_map group_lines gs ++ tail ≡ mark_line mark ∷ (map mark_line more ++ groups_lines qs) → Goes (group_with kind bounds ms ∷ gs) (group_with kind bounds ns ∷ qs) tail
one_mark kind bounds ms [] ns qs tail mark more marks e =
    inr (inr (inr ([], group_with kind bounds ms, mark, more, qs, map mark_line more ++ groups_lines qs, refl, ap (λ (xs : List Mark). group_with kind bounds xs ∷ qs) marks, e)))
one_mark kind bounds ms (h ∷ gs) ns qs tail mark more marks e = let no : Same 103 109 = ap (λ (ls : List (List ℕ)). byte_at 0 (get_or ls 0 [])) e in absurd (omega arith)

-- groups of one kind and with the same bounds go on by their marks
by_marks : (kind : GroupKind) (bounds : Option MarkBounds) (ms ns : List Mark) (gs qs : List Group) (tail : List (List ℕ)) → All IsSpelledMark ms → All IsSpelledMark ns → (groups_lines qs ≡ flat_map group_lines gs ++ tail → Goes gs qs tail) →
    map mark_line ns ++ groups_lines qs ≡ map mark_line ms ++ (flat_map group_lines gs ++ tail) → Goes (group_with kind bounds ms ∷ gs) (group_with kind bounds ns ∷ qs) tail
unfolding LeftOf
by_marks kind bounds ms ns gs qs tail p q others e =
    elim (marks_left ms ns (groups_lines qs) (flat_map group_lines gs ++ tail) p q (no_mark_after qs) e) [
      | inl h ↦ (
          let same : group_with kind bounds ns ≡ group_with kind bounds ms = ap (λ (xs : List Mark). group_with kind bounds xs) h.0 in
          subst (λ (y : Group). Goes (group_with kind bounds ms ∷ gs) (y ∷ qs) tail) (sym same) (before (group_with kind bounds ms) gs qs tail (others (sym h.1)))
          )
      | inr h ↦ one_mark kind bounds ms gs ns qs tail h.0 h.1 h.2 h.3
    ]

-- a group with bounds where one without goes on: it is the last, and has no marks
one_bounds : (kind : GroupKind) (bounds : MarkBounds) (ms ns : List Mark) (gs qs : List Group) (tail more : List (List ℕ)) → bounds_line bounds ∷ more ≡ map mark_line ms ++ (flat_map group_lines gs ++ tail) → Goes (group_with kind None ms ∷ gs) (group_with kind (Some bounds) ns ∷ qs) tail
one_bounds kind bounds [] ns [] qs tail more e = inr (inr (inl ([], kind, bounds, ns, qs, more, refl, refl, sym e)))
one_bounds kind bounds [] ns (h ∷ gs) qs tail more e = let no : Same 98 103 = ap (λ (ls : List (List ℕ)). byte_at 0 (get_or ls 0 [])) e in absurd (omega arith)
one_bounds kind bounds (m ∷ ms) ns gs qs tail more e = let no : Same 98 109 = ap (λ (ls : List (List ℕ)). byte_at 0 (get_or ls 0 [])) e in absurd (omega arith)

-- the line of bounds is none of marks and groups
no_bounds_after : (bounds : MarkBounds) (ns : List Mark) (qs : List Group) (more : List (List ℕ)) → map mark_line ns ++ groups_lines qs ≡ bounds_line bounds ∷ more → ⊥
no_bounds_after bounds [] [] more e = let no : Same 100 98 = ap (λ (ls : List (List ℕ)). byte_at 0 (get_or ls 0 [])) e in absurd (omega arith)
no_bounds_after bounds [] (q ∷ qs) more e = let no : Same 103 98 = ap (λ (ls : List (List ℕ)). byte_at 0 (get_or ls 0 [])) e in absurd (omega arith)
no_bounds_after bounds (n ∷ ns) qs more e = let no : Same 109 98 = ap (λ (ls : List (List ℕ)). byte_at 0 (get_or ls 0 [])) e in absurd (omega arith)

-- groups of one kind
of_kind : (kind : GroupKind) (b d : Option MarkBounds) (ms ns : List Mark) (gs qs : List Group) (tail : List (List ℕ)) → AreSpelled (group_with kind b ms) → AreSpelled (group_with kind d ns) → (groups_lines qs ≡ flat_map group_lines gs ++ tail → Goes gs qs tail) →
    bounds_lines d ++ (map mark_line ns ++ groups_lines qs) ≡ bounds_lines b ++ (map mark_line ms ++ (flat_map group_lines gs ++ tail)) → Goes (group_with kind b ms ∷ gs) (group_with kind d ns ∷ qs) tail
of_kind kind None None ms ns gs qs tail p q others e = by_marks kind None ms ns gs qs tail p.0 q.0 others e
of_kind kind None (Some d) ms ns gs qs tail p q others e = one_bounds kind d ms ns gs qs tail (map mark_line ns ++ groups_lines qs) e
of_kind kind (Some b) None ms ns gs qs tail p q others e = absurd (no_bounds_after b ns qs (map mark_line ms ++ (flat_map group_lines gs ++ tail)) e)
of_kind kind (Some b) (Some d) ms ns gs qs tail p q others e =
    let first : bounds_line d ≡ bounds_line b = ap (λ (ls : List (List ℕ)). get_or ls 0 []) e in
    let same : d ≡ b = same_bounds d b q.1 p.1 (append_cancel_left (codes "bounds ") (bounds_text d) (bounds_text b) first) in
    let after : map mark_line ns ++ groups_lines qs ≡ map mark_line ms ++ (flat_map group_lines gs ++ tail) = ap (λ (ls : List (List ℕ)). drop 1 ls) e in
    subst (λ (x : MarkBounds). Goes (group_with kind (Some b) ms ∷ gs) (group_with kind (Some x) ns ∷ qs) tail) (sym same) (by_marks kind (Some b) ms ns gs qs tail p.0 q.0 others after)

-- lines that begin those of groups go on with the last line, with a group, or with bounds or a mark of the last group
pub goes : (gs qs : List Group) (tail : List (List ℕ)) → All AreSpelled gs → All AreSpelled qs → groups_lines qs ≡ flat_map group_lines gs ++ tail → Goes gs qs tail
goes [] [] tail p q e = inl (refl, sym e)
goes [] (x ∷ qs) tail p q e = inr (inl (x.kind, x.bounds, x.marks, qs, bounds_lines x.bounds ++ (map mark_line x.marks ++ groups_lines qs), refl, sym e ∙ lines_then x qs (codes "done" ∷ [])))
goes (g ∷ gs) [] tail p q e = let no : Same 100 103 = ap (λ (ls : List (List ℕ)). byte_at 0 (get_or ls 0 [])) e in absurd (omega arith)
goes (g ∷ gs) (x ∷ qs) tail p q e =
    let whole : group_line x.kind ∷ (bounds_lines x.bounds ++ (map mark_line x.marks ++ groups_lines qs)) ≡ group_line g.kind ∷ (bounds_lines g.bounds ++ (map mark_line g.marks ++ (flat_map group_lines gs ++ tail))) =
    sym (lines_then x qs (codes "done" ∷ [])) ∙ e ∙ lines_then g gs tail in
    let first : group_line x.kind ≡ group_line g.kind = ap (λ (ls : List (List ℕ)). get_or ls 0 []) whole in
    let kind : x.kind ≡ g.kind = same_group x.kind g.kind (append_cancel_left (codes "group ") (group_name x.kind) (group_name g.kind) first) in
    let others : bounds_lines x.bounds ++ (map mark_line x.marks ++ groups_lines qs) ≡ bounds_lines g.bounds ++ (map mark_line g.marks ++ (flat_map group_lines gs ++ tail)) = ap (λ (ls : List (List ℕ)). drop 1 ls) whole in
    let there : Goes (g ∷ gs) (group_with g.kind x.bounds x.marks ∷ qs) tail =
    of_kind g.kind g.bounds x.bounds g.marks x.marks gs qs tail (All-head AreSpelled g gs p) (All-head AreSpelled x qs q) (λ rest. goes gs qs tail (All-tail AreSpelled g gs p) (All-tail AreSpelled x qs q) rest) others in
    subst (λ (k : GroupKind). Goes (g ∷ gs) (group_with k x.bounds x.marks ∷ qs) tail) (sym kind) there
