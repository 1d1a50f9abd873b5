-- Runs of lost sectors.
use Rattle.std.proofs.Common.{ℕ, zero, suc, ◌≡◌, ◌+◌, ◌-◌, ◌<◌, ◌≤◌, ◌==◌, ◌⊎◌, inl, inr, Bool, true, false, ◌&&◌, ◌||◌, not, cond, List, [], ◌∷◌, ◌++◌, filter, count_by, append-nil, codes, decimal, IfSome, refl, sym, ap, ◌∙◌, subst, arith}
use Rattle.std.proofs.lemmas.Bool.{cases_lt}
use Rattle.std.proofs.lemmas.Bool.Decides.{nat_tests}
use Rattle.std.proofs.lemmas.List.Elements.{filter-append}
use Rattle.std.proofs.lemmas.Grind.{flat_map-append}
use Rattle.std.proofs.lemmas.List.Sums.{sum_by-append, sum_by-cons}
use Rattle.std.specs.List.{flat_map, range_with_len}
use Rattle.std.specs.Option.{is_none}
use Rattle.virtual_volume.proofs.Ranges.{range_split}
use Rattle.std.specs.declared.option.Option.{Option}
use Rattle.std.specs.declared.option.Option.TheVariants.{None, Some}
use Rattle.rescue_map.specs.LostText.{begins_run, lines_before, run_length, run_line, AreLines, HasRuns}
use Rattle.rescue_map.specs.declared.lost.Runs.{Runs}
use Rattle.value_text.specs.Spelling.{line}

kept_none : (p : ℕ → Bool) (a : ℕ) (xs : List ℕ) → p a ≡ false → filter p (a ∷ xs) ≡ filter p xs
kept_none p a xs is = ap (λ (b : Bool). cond b (a ∷ filter p xs) (filter p xs)) is

kept_one : (p : ℕ → Bool) (a : ℕ) (xs : List ℕ) → p a ≡ true → filter p (a ∷ xs) ≡ a ∷ filter p xs
kept_one p a xs is = ap (λ (b : Bool). cond b (a ∷ filter p xs) (filter p xs)) is

none_kept : (p : ℕ → Bool) (a n : ℕ) → ((w : ℕ) → a ≤ w → w < a + n → p w ≡ false) → filter p (range_with_len a n) ≡ []
none_kept p a zero none = refl
none_kept p a (suc n) none =
    kept_none p a (range_with_len (a + 1) n) (none a (omega arith) (omega arith))
    ∙ none_kept p (a + 1) n (λ w low high. none w (omega arith) (omega arith))

more_lines : (lost : ℕ → Bool) (sectors v n : ℕ) → lines_before lost sectors (v + n) ≡ lines_before lost sectors v ++ flat_map (run_line lost sectors) (filter (begins_run lost) (range_with_len v n))
more_lines lost sectors v n =
    ap (λ (l : List ℕ). flat_map (run_line lost sectors) (filter (begins_run lost) l)) (range_split 0 v n (v + n) v refl (omega arith))
    ∙ ap (flat_map (run_line lost sectors)) (filter-append (begins_run lost) (range_with_len 0 v) (range_with_len v n))
    ∙ flat_map-append (run_line lost sectors) (filter (begins_run lost) (range_with_len 0 v)) (filter (begins_run lost) (range_with_len v n))

-- no run begins at these: no line comes
pub lines_same : (lost : ℕ → Bool) (sectors v n : ℕ) → ((w : ℕ) → v ≤ w → w < v + n → begins_run lost w ≡ false) → lines_before lost sectors (v + n) ≡ lines_before lost sectors v
lines_same lost sectors v n none =
    more_lines lost sectors v n
    ∙ ap (λ (l : List ℕ). lines_before lost sectors v ++ flat_map (run_line lost sectors) l) (none_kept (begins_run lost) v n none)
    ∙ append-nil (lines_before lost sectors v)

-- and one line comes where a run begins
pub lines_one : (lost : ℕ → Bool) (sectors v : ℕ) → begins_run lost v ≡ true → lines_before lost sectors (v + 1) ≡ lines_before lost sectors v ++ run_line lost sectors v
lines_one lost sectors v begins =
    more_lines lost sectors v 1
    ∙ ap (λ (l : List ℕ). lines_before lost sectors v ++ flat_map (run_line lost sectors) l) (kept_one (begins_run lost) v [] begins)
    ∙ ap (λ (l : List ℕ). lines_before lost sectors v ++ l) (append-nil (run_line lost sectors v))

longer : (lost : ℕ → Bool) (v : ℕ) (vs : List ℕ) → lost v ≡ true → run_length lost (v ∷ vs) ≡ 1 + run_length lost vs
longer lost v vs is = ap (λ (b : Bool). cond b (1 + run_length lost vs) 0) is

stopped : (lost : ℕ → Bool) (v : ℕ) (vs : List ℕ) → lost v ≡ false → run_length lost (v ∷ vs) ≡ 0
stopped lost v vs is = ap (λ (b : Bool). cond b (1 + run_length lost vs) 0) is

-- a run from a sector up to one that is not lost, or the end
pub run_is : (lost : ℕ → Bool) (first n m : ℕ) → ((w : ℕ) → first ≤ w → w < first + n → lost w ≡ true) → (0 < m → lost (first + n) ≡ false) → run_length lost (range_with_len first (n + m)) ≡ n
run_is lost first zero zero all stops = refl
run_is lost first zero (suc m) all stops =
    let e : first + 0 ≡ first = omega arith in
    let f : suc m ≡ 0 + suc m = omega arith in
    subst (λ (k : ℕ). run_length lost (range_with_len first k) ≡ 0) f
    (stopped lost first (range_with_len (first + 1) m) (subst (λ (k : ℕ). lost k ≡ false) e (stops (omega arith))))
run_is lost first (suc n) m all stops =
    let e : first + suc n ≡ (first + 1) + n = omega arith in
    let f : suc n + m ≡ suc (n + m) = omega arith in
    let g : 1 + n ≡ suc n = omega arith in
    ap (λ (k : ℕ). run_length lost (range_with_len first k)) f
    ∙ longer lost first (range_with_len (first + 1) (n + m)) (all first (omega arith) (omega arith))
    ∙ ap (λ (k : ℕ). 1 + k) (run_is lost (first + 1) n m (λ w low high. all w (omega arith) (omega arith)) (λ some. subst (λ (k : ℕ). lost k ≡ false) e (stops some)))
    ∙ g

no_begin : (a z b : Bool) → z ≡ false → b ≡ true → (a && (z || not b)) ≡ false
no_begin true true b is after = absurd (cc)
no_begin true false true is after = refl
no_begin true false false is after = absurd (cc)
no_begin false z b is after = refl

-- no run begins within one
pub within_run : (lost : ℕ → Bool) (first v : ℕ) → ((w : ℕ) → first ≤ w → w < v → lost w ≡ true) → (w : ℕ) → first < w → w < v → begins_run lost w ≡ false
within_run lost first v all w low high =
    let some : (w == 0) ≡ false = grind (arith, nat_tests) in
    no_begin (lost w) (w == 0) (lost (w - 1)) some (all (w - 1) (omega arith) (omega arith))

and_none : (a b : Bool) → a ≡ false → (a && b) ≡ false
and_none true b is = absurd (cc)
and_none false b is = refl

-- none begins at one that is not lost
pub not_lost : (lost : ℕ → Bool) (w : ℕ) → lost w ≡ false → begins_run lost w ≡ false
not_lost lost w is = and_none (lost w) (w == 0 || not (lost (w - 1))) is

and_both : (a z b : Bool) → a ≡ true → (z ≡ true) ⊎ (b ≡ false) → (a && (z || not b)) ≡ true
and_both true true b is or = refl
and_both true false true is (inl one) = absurd (cc)
and_both true false true is (inr one) = absurd (cc)
and_both true false false is or = refl
and_both false z b is or = absurd (cc)

-- one begins at a lost sector after one that is not lost, or at the first
pub begins_here : (lost : ℕ → Bool) (w : ℕ) → lost w ≡ true → (w ≡ 0) ⊎ (lost (w - 1) ≡ false) → begins_run lost w ≡ true
begins_here lost w is (inl first) = let zeroth : (w == 0) ≡ true = grind (arith, nat_tests) in and_both (lost w) (w == 0) (lost (w - 1)) is (inl zeroth)
begins_here lost w is (inr before) = and_both (lost w) (w == 0) (lost (w - 1)) is (inr before)

one_good : (lost : ℕ → Bool) (v : ℕ) (vs : List ℕ) → lost v ≡ false → count_by (λ w. not (lost w)) (v ∷ vs) ≡ 1 + count_by (λ w. not (lost w)) vs
one_good lost v vs is =
    sum_by-cons (λ w. cond (not (lost w)) 1 0) v vs ∙ ap (λ (b : Bool). cond (not b) 1 0 + count_by (λ w. not (lost w)) vs) is

one_bad : (lost : ℕ → Bool) (v : ℕ) (vs : List ℕ) → lost v ≡ true → count_by (λ w. not (lost w)) (v ∷ vs) ≡ count_by (λ w. not (lost w)) vs
one_bad lost v vs is =
    let none : 0 + count_by (λ w. not (lost w)) vs ≡ count_by (λ w. not (lost w)) vs = omega arith in
    sum_by-cons (λ w. cond (not (lost w)) 1 0) v vs ∙ ap (λ (b : Bool). cond (not b) 1 0 + count_by (λ w. not (lost w)) vs) is ∙ none

all_good : (lost : ℕ → Bool) (a n : ℕ) → ((w : ℕ) → a ≤ w → w < a + n → lost w ≡ false) → count_by (λ w. not (lost w)) (range_with_len a n) ≡ n
all_good lost a zero none = refl
all_good lost a (suc n) none =
    one_good lost a (range_with_len (a + 1) n) (none a (omega arith) (omega arith))
    ∙ ap (λ (k : ℕ). 1 + k) (all_good lost (a + 1) n (λ w low high. none w (omega arith) (omega arith)))
    ∙ omega arith

more_good : (lost : ℕ → Bool) (v n : ℕ) → count_by (λ w. not (lost w)) (range_with_len 0 (v + n)) ≡ count_by (λ w. not (lost w)) (range_with_len 0 v) + count_by (λ w. not (lost w)) (range_with_len v n)
more_good lost v n =
    ap (count_by (λ w. not (lost w))) (range_split 0 v n (v + n) v refl (omega arith))
    ∙ sum_by-append (λ w. cond (not (lost w)) 1 0) (range_with_len 0 v) (range_with_len v n)

-- how many of a longer range are not lost
pub good_more : (lost : ℕ → Bool) (v n : ℕ) → ((w : ℕ) → v ≤ w → w < v + n → lost w ≡ false) → count_by (λ w. not (lost w)) (range_with_len 0 (v + n)) ≡ count_by (λ w. not (lost w)) (range_with_len 0 v) + n
good_more lost v n none = more_good lost v n ∙ ap (λ (k : ℕ). count_by (λ w. not (lost w)) (range_with_len 0 v) + k) (all_good lost v n none)

pub good_same : (lost : ℕ → Bool) (v : ℕ) → lost v ≡ true → count_by (λ w. not (lost w)) (range_with_len 0 (v + 1)) ≡ count_by (λ w. not (lost w)) (range_with_len 0 v)
good_same lost v is = more_good lost v 1 ∙ ap (λ (k : ℕ). count_by (λ w. not (lost w)) (range_with_len 0 v) + k) (one_bad lost v [] is) ∙ omega arith

-- few of a range are not lost
pub good_few : (lost : ℕ → Bool) (v : ℕ) → count_by (λ w. not (lost w)) (range_with_len 0 v) ≤ v
good_few lost v = few 0 v
  where
    bit : (b : Bool) → cond (not b) 1 0 ≤ 1
    bit true = omega arith
    bit false = omega arith

    few : (a n : ℕ) → count_by (λ w. not (lost w)) (range_with_len a n) ≤ n
    few a zero = omega arith
    few a (suc n) =
        let one = bit (lost a) in
        let rest = few (a + 1) n in
        let more = sum_by-cons (λ w. cond (not (lost w)) 1 0) a (range_with_len (a + 1) n) in
        subst (λ (k : ℕ). k ≤ suc n) (sym more) (omega arith)

-- ---- runs, sector by sector

-- a lost sector begins a run
pub first_lost : (lost : ℕ → Bool) (sectors at : ℕ) (text : List ℕ) → AreLines lost sectors at text None → lost at ≡ true → AreLines lost sectors (at + 1) text (Some at)
first_lost lost sectors at text lines is =
    (lines.0, omega arith, begins_here lost at is lines.1, λ w low high. let here : at ≡ w = omega arith in subst (λ (k : ℕ). lost k ≡ true) here is)

-- or goes on with one
pub next_lost : (lost : ℕ → Bool) (sectors at first : ℕ) (text : List ℕ) → AreLines lost sectors at text (Some first) → lost at ≡ true → AreLines lost sectors (at + 1) text (Some first)
next_lost lost sectors at first text lines is = (
  lines.0,
  omega (arith, lines.1),
  lines.2,
  λ w low high. elim (cases_lt w at) [
    | inl before ↦ lines.3 w low before
    | inr last ↦ (let here : at ≡ w = omega arith in subst (λ (k : ℕ). lost k ≡ true) here is)
  ],
)

plus_less : (first at : ℕ) → first ≤ at → first + (at - first) ≡ at
plus_less first at le = omega arith

-- the lines once a run has ended
pub run_ended : (lost : ℕ → Bool) (sectors at first : ℕ) (text : List ℕ) → at ≤ sectors → AreLines lost sectors at text (Some first) → (at < sectors → lost at ≡ false) →
    text ++ line (codes "lost " ++ decimal first ++ codes " " ++ decimal (at - first)) ≡ lines_before lost sectors at
run_ended lost sectors at first text within lines stop =
    let after : first < at = lines.1 in
    let all = lines.3 in
    let to : (first + 1) + (at - (first + 1)) ≡ at = omega arith in
    let whole : sectors - first ≡ (at - first) + (sectors - at) = omega arith in
    let long : run_length lost (range_with_len first (sectors - first)) ≡ at - first =
    subst (λ (k : ℕ). run_length lost (range_with_len first k) ≡ at - first) (sym whole)
    (run_is lost first (at - first) (sectors - at) (λ w low high. all w low (omega arith))
    (λ some. subst (λ (k : ℕ). lost k ≡ false) (sym (plus_less first at (omega arith))) (stop (omega arith)))) in
    let same : lines_before lost sectors at ≡ lines_before lost sectors (first + 1) =
    subst (λ (k : ℕ). lines_before lost sectors k ≡ lines_before lost sectors (first + 1)) to
    (lines_same lost sectors (first + 1) (at - (first + 1)) (λ w low high. within_run lost first at all w (omega arith) (omega arith))) in
    ap (λ (k : ℕ). text ++ line (codes "lost " ++ decimal first ++ codes " " ++ decimal k)) (sym long)
    ∙ ap (λ (l : List ℕ). l ++ run_line lost sectors first) lines.0
    ∙ sym (lines_one lost sectors first lines.2)
    ∙ sym same

-- sectors that are not lost, after runs that have ended
pub passed : (lost : ℕ → Bool) (sectors at count good : ℕ) (text : List ℕ) → 0 < count → at + count ≤ sectors →
    ((w : ℕ) → at ≤ w → w < at + count → lost w ≡ false) → text ≡ lines_before lost sectors at → good ≡ count_by (λ w. not (lost w)) (range_with_len 0 at) →
    HasRuns lost sectors (at + count) (record { text = text; first = None; good = good + count })
passed lost sectors at count good text some within none lines goods = record {
  within = within;
  lines = (lines ∙ sym (lines_same lost sectors at count (λ w low high. not_lost lost w (none w low high))), inr (none (at + count - 1) (omega arith) (omega arith)));
  good = ap (λ (k : ℕ). k + count) goods ∙ sym (good_more lost at count none);
}

pub lost_more : (lost : ℕ → Bool) (sectors at good : ℕ) (text : List ℕ) (first : Option ℕ) → HasRuns lost sectors at (record { text = text; first = first; good = good }) → at < sectors → lost at ≡ true →
    is_none first ≡ true → HasRuns lost sectors (at + 1) (record { text = text; first = Some at; good = good })
lost_more lost sectors at good text None has lt is none = record {
  within = omega arith;
  lines = first_lost lost sectors at text has.lines is;
  good = has.good ∙ sym (good_same lost at is);
}
lost_more lost sectors at good text (Some first) has lt is none = absurd (cc)

pub lost_next : (lost : ℕ → Bool) (sectors at good : ℕ) (text : List ℕ) (first : Option ℕ) → HasRuns lost sectors at (record { text = text; first = first; good = good }) → at < sectors → lost at ≡ true →
    is_none first ≡ false → HasRuns lost sectors (at + 1) (record { text = text; first = first; good = good })
lost_next lost sectors at good text None has lt is none = absurd (cc)
lost_next lost sectors at good text (Some first) has lt is none = record {
  within = omega arith;
  lines = next_lost lost sectors at first text has.lines is;
  good = has.good ∙ sym (good_same lost at is);
}

-- a run that has not ended, by the first of its sectors
pub lines_at : (lost : ℕ → Bool) (sectors at : ℕ) (text : List ℕ) (first : ℕ) (run : Option ℕ) → AreLines lost sectors at text run → run ≡ Some first → AreLines lost sectors at text (Some first)
lines_at lost sectors at text first run lines is = subst (λ (o : Option ℕ). AreLines lost sectors at text o) is lines

-- runs begin before, and what is not lost are sectors before
pub runs_before : (lost : ℕ → Bool) (sectors at : ℕ) (runs : Runs) → HasRuns lost sectors at runs → (IfSome runs.first (λ first. first ≤ at)) × (runs.good ≤ at)
runs_before lost sectors at runs has = (of_first runs.first has.lines, let few = good_few lost at in let same = has.good in omega arith)
  where
    of_first : (run : Option ℕ) → AreLines lost sectors at runs.text run → IfSome run (λ first. first ≤ at)
    of_first None lines = tt
    of_first (Some first) lines = omega (arith, lines.1)
