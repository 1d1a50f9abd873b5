-- What is searched, part by part.
use Rattle.std.proofs.Common.{◌≡◌, ◌≤◌, ◌^◌, ℕ, Bool, true, false, List, [], ◌∷◌, ◌++◌, drop, take, get_or, length, map, codes, decimal, refl, sym, ap, ◌∙◌, arith, append_assoc, lit≤}
use Rattle.raid_params.specs.declared.limits.TheConstants.{MOST_OFFSETS}
use Rattle.raid_params.specs.declared.types.Level.TheVariants.{Raid0}
use Rattle.raid_params.specs.declared.types.Pattern.TheVariants.{Plain}
use Rattle.raid_params.specs.declared.types.Syndrome.TheVariants.{NoQ}
use Rattle.plan_text.specs.declared.parts.Counts.{Counts}
use Rattle.plan_text.specs.declared.parts.Arrays.{Arrays}
use Rattle.plan_text.specs.declared.parts.Search.{Search}
use Rattle.plan_text.specs.declared.parts.Sizes.{Sizes}
use Rattle.plan_text.specs.Parts.{AreArrays, AreSizes, AreCounts, IsSearch, lines_of_arrays, lines_of_sizes, lines_of_counts, lines_of_search, sectors_end}
use Rattle.plan_text.specs.PlanText.{delays_line, some_delays}
use Rattle.value_text.specs.Spelling.{commas, level_name, named, pattern_name}
use Rattle.plan_text.proofs.Counts.{counts_with, are_counts}
use Rattle.plan_text.proofs.DelayLines.{apart_orders, not_alike, orders_by, same_orders}
use Rattle.plan_text.proofs.Refusals.{StandsIn, one_line}
use Rattle.plan_text.proofs.SectionLines.{one_rises, are_members, is_one_delay, are_chunks, are_below}
use Rattle.plan_text.proofs.Versions.{few_foreign, some_sectors}

abbrev pub search_with : ℕ → Arrays → Sizes → Counts → Search
search_with end k s c = record {
  end = end;
  bounds = record {
    levels = k.levels;
    members = k.members;
    patterns = k.patterns;
    delays = k.delays;
    syndromes = k.syndromes;
    chunks = s.chunks;
    offsets = s.offsets;
    missing = c.missing;
    foreign = c.foreign;
  };
  limits = record { badrows = c.badrows; window = c.window };
  tests = record { origins = s.origins; misfits = c.misfits; least = c.least };
}

pub is_search : (shortest : ℕ) (each third : Bool) (end : ℕ) (k : Arrays) (s : Sizes) (c : Counts) → end ≤ shortest → AreArrays third k → AreSizes each s → AreCounts each c → IsSearch shortest each third (search_with end k s c)
is_search shortest each third end k s c within p q r = record {
  ends = within;
  bounds = record {
    levels = p.levels;
    members = p.members.0;
    few_members = p.members.1;
    patterns = p.patterns;
    delays = p.delays.0;
    few_delays = p.delays.1;
    short_delays = p.delays.2;
    syndromes = p.syndromes;
    chunks = q.chunks.0;
    powers = q.chunks.1;
    offsets = q.offsets.0.0;
    few_offsets = q.offsets.0.1;
    near_offsets = q.offsets.0.2;
    missing = r.missing;
    foreign = (let few = few_foreign each in let these = r.foreign in omega arith);
  };
  limits = record { badrows = r.badrows; some_window = r.some_window; window = r.window };
  tests = record { origins = q.origins.0.0; few_origins = q.origins.0.1; near_origins = q.origins.0.2; misfits = r.misfits; least = r.least };
  once = p.once;
  foreign = r.foreign;
  near = q.offsets.1;
}

abbrev pub arrays_of : Search → Arrays
arrays_of w = record { levels = w.bounds.levels; members = w.bounds.members; patterns = w.bounds.patterns; delays = w.bounds.delays; syndromes = w.bounds.syndromes }

abbrev pub sizes_of : Search → Sizes
sizes_of w = record { chunks = w.bounds.chunks; offsets = w.bounds.offsets; origins = w.tests.origins }

abbrev pub counts_of : Search → Counts
counts_of w = record { missing = w.bounds.missing; foreign = w.bounds.foreign; badrows = w.limits.badrows; window = w.limits.window; misfits = w.tests.misfits; least = w.tests.least }

pub arrays_are : (shortest : ℕ) (each third : Bool) (w : Search) → IsSearch shortest each third w → AreArrays third (arrays_of w)
arrays_are shortest each third w is = record {
  levels = is.bounds.levels;
  members = (is.bounds.members, is.bounds.few_members);
  patterns = is.bounds.patterns;
  delays = (is.bounds.delays, is.bounds.few_delays, is.bounds.short_delays);
  once = is.once;
  syndromes = is.bounds.syndromes;
}

pub sizes_are : (shortest : ℕ) (each third : Bool) (w : Search) → IsSearch shortest each third w → AreSizes each (sizes_of w)
sizes_are shortest each third w is = record {
  chunks = (is.bounds.chunks, is.bounds.powers);
  offsets = ((is.bounds.offsets, is.bounds.few_offsets, is.bounds.near_offsets), is.near);
  origins = ((is.tests.origins, is.tests.few_origins, is.tests.near_origins), is.tests.near_origins);
}

pub counts_are : (shortest : ℕ) (each third : Bool) (w : Search) → IsSearch shortest each third w → AreCounts each (counts_of w)
counts_are shortest each third w is = record {
  missing = is.bounds.missing;
  foreign = is.foreign;
  badrows = is.limits.badrows;
  some_window = is.limits.some_window;
  window = is.limits.window;
  misfits = is.tests.misfits;
  least = is.tests.least;
}

-- some of each
arrays : Arrays
arrays = record { levels = record { items = Raid0 ∷ [] }; members = record { items = 2 ∷ [] }; patterns = record { items = Plain ∷ [] }; delays = record { items = 1 ∷ [] }; syndromes = record { items = NoQ ∷ [] } }

some_arrays : (third : Bool) → AreArrays third arrays
unfolding arrays
some_arrays third = record { levels = one_rises 0; members = are_members; patterns = one_rises 0; delays = is_one_delay; once = λ e. refl; syndromes = one_rises 0 }

sizes : Sizes
sizes = record { chunks = record { items = 1 ∷ [] }; offsets = record { items = 0 ∷ [] }; origins = record { items = 0 ∷ [] } }

some_sizes : (each : Bool) → AreSizes each sizes
unfolding sizes
some_sizes each = record { chunks = are_chunks; offsets = are_below (sectors_end each) MOST_OFFSETS (some_sectors each) (lit≤ tt); origins = are_below (2 ^ 55) MOST_OFFSETS (omega arith) (lit≤ tt) }

counts : Counts
counts = counts_with 0 0 0 1 0 0

some_counts : (each : Bool) → AreCounts each counts
unfolding counts
some_counts each = are_counts each 0 0 0 1 0 0 (lit≤ tt) (omega arith) (lit≤ tt) (lit≤ tt, lit≤ tt) (lit≤ tt) (lit≤ tt)

-- a search of no sectors
pub search_of_none : Search
search_of_none = search_with 0 arrays sizes counts

pub is_search_of_none : (shortest : ℕ) (each third : Bool) → IsSearch shortest each third search_of_none
unfolding search_of_none
is_search_of_none shortest each third = is_search shortest each third 0 arrays sizes counts (omega arith) (some_arrays third) (some_sizes each) (some_counts each)

pub stands_end : (shortest : ℕ) (each third : Bool) → StandsIn (λ n. (0 ≤ n) × (n ≤ shortest)) (λ n. named (codes "end") (decimal n) ∷ []) (IsSearch shortest each third) lines_of_search []
stands_end shortest each third = record {
  made = λ x p. (search_with x arrays sizes counts, _, is_search shortest each third x arrays sizes counts p.1 (some_arrays third) (some_sizes each) (some_counts each), refl);
  shape = λ w tail is e. (w.end, _, (omega arith, is.ends), sym e);
  apart = λ x y m more p q e. one_line (λ n. named (codes "end") (decimal n)) x y m more e;
}

abbrev end_line : ℕ → List ℕ
end_line end = named (codes "end") (decimal end)

-- the lines of delays and of orders of Q
abbrev orders_in : Arrays → List (List ℕ)
orders_in k = orders_by (some_delays k.delays.items) k.delays.items k.syndromes.items

same_orders_in : (k j : Arrays) (x y : List (List ℕ)) → orders_in k ++ x ≡ orders_in j ++ y → x ≡ y
same_orders_in k j x y e = (same_orders (some_delays k.delays.items) (some_delays j.delays.items) k.delays.items j.delays.items k.syndromes.items j.syndromes.items x y e).2

pub stands_arrays : (shortest : ℕ) (each third : Bool) (end : ℕ) → end ≤ shortest → StandsIn (AreArrays third) lines_of_arrays (IsSearch shortest each third) lines_of_search (end_line end ∷ [])
stands_arrays shortest each third end within = record {
  made = λ x p. (search_with end x sizes counts, lines_of_sizes sizes ++ lines_of_counts counts, is_search shortest each third end x sizes counts within p (some_sizes each) (some_counts each), refl);
  shape = λ w tail is e. (arrays_of w, lines_of_sizes (sizes_of w) ++ lines_of_counts (counts_of w), arrays_are shortest each third w is, ap (λ (ls : List (List ℕ)). drop 1 ls) (sym e));
  apart = λ x y m more p q e.
      apart_orders (some_delays x.delays.items) (some_delays y.delays.items) x.delays.items y.delays.items x.syndromes.items y.syndromes.items m more (ap (λ (ls : List (List ℕ)). drop 3 ls) e);
}

pub stands_sizes : (shortest : ℕ) (each third : Bool) (end : ℕ) (k : Arrays) → end ≤ shortest → AreArrays third k → StandsIn (AreSizes each) lines_of_sizes (IsSearch shortest each third) lines_of_search (end_line end ∷ lines_of_arrays k)
stands_sizes shortest each third end k within pk = record {
  made = λ x p. (search_with end k x counts, lines_of_counts counts, is_search shortest each third end k x counts within pk p (some_counts each), refl);
  shape = λ w tail is e. (
    sizes_of w,
    lines_of_counts (counts_of w),
    sizes_are shortest each third w is,
    sym (same_orders_in (arrays_of w) k (lines_of_sizes (sizes_of w) ++ lines_of_counts (counts_of w)) tail (ap (λ (ls : List (List ℕ)). drop 4 ls) e)),
  );
  apart = λ x y m more p q e. let same = ap length e in absurd (omega arith);
}

pub stands_counts : (shortest : ℕ) (each third : Bool) (end : ℕ) (k : Arrays) (s : Sizes) → end ≤ shortest → AreArrays third k → AreSizes each s → StandsIn (AreCounts each) lines_of_counts (IsSearch shortest each third) lines_of_search (end_line end ∷ (lines_of_arrays k ++ lines_of_sizes s))
stands_counts shortest each third end k s within pk ps = record {
  made = λ x p. (
    search_with end k s x,
    [],
    is_search shortest each third end k s x within pk ps p,
    ap (λ (ls : List (List ℕ)). end_line end ∷ ls) (sym (append_assoc (lines_of_arrays k) (lines_of_sizes s) (lines_of_counts x))),
  );
  shape = λ w tail is e.
      let behind : orders_in (arrays_of w) ++ (lines_of_sizes (sizes_of w) ++ lines_of_counts (counts_of w)) ≡ orders_in k ++ (lines_of_sizes s ++ tail) = ap (λ (ls : List (List ℕ)). drop 4 ls) e ∙ append_assoc (orders_in k) (lines_of_sizes s) tail in
      let rest = same_orders_in (arrays_of w) k (lines_of_sizes (sizes_of w) ++ lines_of_counts (counts_of w)) (lines_of_sizes s ++ tail) behind in
      (counts_of w, [], counts_are shortest each third w is, ap (λ (ls : List (List ℕ)). drop 3 ls) (sym rest));
  apart = λ x y m more p q e. let same = ap length e in absurd (omega arith);
}

-- the lines of a search, with a line of delays and without
abbrev pub search_by : Bool → Search → List (List ℕ)
search_by b w =
    end_line w.end
    ∷ named (codes "levels") (commas (map level_name w.bounds.levels.items))
    ∷ named (codes "members") (commas (map decimal w.bounds.members.items))
    ∷ named (codes "patterns") (commas (map pattern_name w.bounds.patterns.items))
    ∷ (orders_by b w.bounds.delays.items w.bounds.syndromes.items ++ (lines_of_sizes (sizes_of w) ++ lines_of_counts (counts_of w)))

same_search_by : (b c : Bool) (s t : Search) (x y : List (List ℕ)) → search_by b s ++ x ≡ search_by c t ++ y → (b ≡ c) × (search_by b s ≡ search_by c t) × (x ≡ y)
same_search_by true true s t x y e = (refl, ap (λ (ls : List (List ℕ)). take 15 ls) e, ap (λ (ls : List (List ℕ)). drop 15 ls) e)
same_search_by false false s t x y e = (refl, ap (λ (ls : List (List ℕ)). take 14 ls) e, ap (λ (ls : List (List ℕ)). drop 14 ls) e)
same_search_by true false s t x y e = absurd (not_alike s.bounds.delays.items t.bounds.syndromes.items (ap (λ (ls : List (List ℕ)). get_or ls 4 []) e))
same_search_by false true s t x y e = absurd (not_alike t.bounds.delays.items s.bounds.syndromes.items (sym (ap (λ (ls : List (List ℕ)). get_or ls 4 []) e)))

abbrev pub delayed_in : Search → Bool
delayed_in w = some_delays w.bounds.delays.items

-- a search is told by the lines that begin with its own
pub same_search : (s t : Search) (x y : List (List ℕ)) → lines_of_search s ++ x ≡ lines_of_search t ++ y → (delayed_in s ≡ delayed_in t) × (search_by (delayed_in s) s ≡ search_by (delayed_in t) t) × (x ≡ y)
same_search s t x y e = same_search_by (delayed_in s) (delayed_in t) s t x y e

-- without the line of delays
pub other_lines : (b : Bool) (s t : Search) → search_by b s ≡ search_by b t → search_by false s ≡ search_by false t
other_lines false s t e = e
other_lines true s t e = ap (λ (ls : List (List ℕ)). take 4 ls ++ drop 5 ls) e

-- the line of delays
pub delays_told : (b : Bool) (s t : Search) → search_by b s ≡ search_by b t → b ≡ true → delays_line s.bounds.delays.items ≡ delays_line t.bounds.delays.items
delays_told true s t e is = ap (λ (ls : List (List ℕ)). get_or ls 4 []) e
delays_told false s t e is = absurd (let no : false ≡ true = is in let never : ⊥ = cc in never)
