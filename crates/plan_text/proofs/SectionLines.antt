-- The lists of a plan, line by line.
use Rattle.std.proofs.Common.{◌≡◌, ◌≢◌, ◌≤◌, ◌<◌, ◌^◌, ℕ, Bool, true, false, IsTrue, List, [], ◌∷◌, ◌++◌, All, drop, length, map, codes, decimal, refl, sym, ap, ◌∙◌, arith, lit≤, lit<, Option, None, Some, MatchOption}
use Rattle.std.proofs.lemmas.Bool.{false≢true}
use Rattle.std.proofs.lemmas.List.Elements.{All-nil, All-cons}
use Rattle.arrayvec.specs.declared.array_vec.ArrayVec.{ArrayVec}
use Rattle.landmark_rules.specs.declared.limits.TheConstants.{MOST_ORIGINS}
use Rattle.raid_params.specs.declared.limits.TheConstants.{LONGEST_DELAY, MOST, MOST_CHUNKS, MOST_DELAYS, MOST_LESS_ONE, MOST_LEVELS, MOST_OFFSETS, MOST_PATTERNS, MOST_SYNDROMES}
use Rattle.raid_params.specs.declared.types.Level.{Level}
use Rattle.raid_params.specs.declared.types.Pattern.{Pattern}
use Rattle.raid_params.specs.declared.types.Pattern.TheVariants.{Plain}
use Rattle.raid_params.specs.declared.types.Syndrome.{Syndrome}
use Rattle.raid_params.specs.declared.types.Syndrome.TheVariants.{NoQ}
use Rattle.raid_params.specs.Validity.{is_chunk}
use Rattle.search_plan.specs.Places.{level_place, pattern_place, syndrome_place}
use Rattle.search_plan.specs.Plans.{AreRising}
use Rattle.plan_text.specs.declared.parts.Arrays.{Arrays}
use Rattle.plan_text.specs.declared.parts.Sizes.{Sizes}
use Rattle.plan_text.specs.declared.parts.AfterPatterns.{AfterPatterns}
use Rattle.plan_text.specs.declared.parts.AfterPatterns.TheVariants.{Delays as OfDelays, Syndromes as OfSyndromes}
use Rattle.plan_text.specs.Parts.{AreArrays, AreBelow, AreSizes, MayComeAfter, line_after, lines_of_arrays, lines_of_sizes, sectors_end}
use Rattle.plan_text.specs.PlanText.{delays_line, some_delays, syndromes_line}
use Rattle.value_text.specs.Bounded.{AreMembers, AreChunks, AreDelays}
use Rattle.value_text.specs.Spelling.{level_name, pattern_name, syndrome_name, commas, named}
use Rattle.value_text.proofs.Fits.{levels_fit, patterns_fit, syndromes_fit}
use Rattle.plan_text.proofs.DelayLines.{after_delays, orders_by}
use Rattle.plan_text.proofs.Refusals.{StandsIn, one_line}
use Rattle.plan_text.proofs.Versions.{some_sectors}

pub one_rises : (n : ℕ) → AreRising (n ∷ [])
one_rises n = record { some = lit≤ tt; rising = λ k lt. absurd (omega arith) }

pub of_one : {A : Type 0} (P : A → Type 0) (x : A) → P x → All P (x ∷ [])
of_one P x p = All-cons P x [] p (All-nil P)

-- what a line says of lists, said of vectors
pub of_items : {A V : Type 0} (items : V → List A) (IsList : List A → Type 0) (name : List A → List ℕ) (line : List ℕ) (r : Option V) →
    MatchOption r ((xs : List A) → IsList xs → line ≢ name xs) (λ v. IsList (items v) × (line ≡ name (items v))) →
    MatchOption r ((v : V) → IsList (items v) → line ≢ name (items v)) (λ v. IsList (items v) × (line ≡ name (items v)))
of_items items IsList name line None h = λ v is. h (items v) is
of_items items IsList name line (Some v) h = h

abbrev Levels : Type 0
Levels = ArrayVec Level MOST_LEVELS (Unit {0})

abbrev Members : Type 0
Members = ArrayVec ℕ MOST_LESS_ONE (Unit {0})

abbrev Patterns : Type 0
Patterns = ArrayVec Pattern MOST_PATTERNS (Unit {0})

abbrev Delays : Type 0
Delays = ArrayVec ℕ MOST_DELAYS (Unit {0})

abbrev Syndromes : Type 0
Syndromes = ArrayVec Syndrome MOST_SYNDROMES (Unit {0})

abbrev Chunks : Type 0
Chunks = ArrayVec ℕ MOST_CHUNKS (Unit {0})

abbrev Sectors : Type 0
Sectors = ArrayVec ℕ MOST_OFFSETS (Unit {0})

abbrev arrays_with : Levels → Members → Patterns → Delays → Syndromes → Arrays
arrays_with l m p d s = record { levels = l; members = m; patterns = p; delays = d; syndromes = s }

pub are_arrays : (third : Bool) (l : Levels) (m : Members) (p : Patterns) (d : Delays) (s : Syndromes) → AreRising (map level_place l.items) → AreMembers m.items → AreRising (map pattern_place p.items) → AreDelays d.items → (third ≡ false → some_delays d.items ≡ false) → AreRising (map syndrome_place s.items) →
    AreArrays third (arrays_with l m p d s)
are_arrays third l m p d s a b c e f g = record { levels = a; members = b; patterns = c; delays = e; once = f; syndromes = g }

members : Members
members = record { items = 2 ∷ [] }

pub are_members : AreMembers (2 ∷ [])
are_members = (one_rises 2, of_one (λ n. (2 ≤ n) × (n ≤ MOST)) 2 (lit≤ tt, lit≤ tt))

patterns : Patterns
patterns = record { items = Plain ∷ [] }

delays : Delays
delays = record { items = 1 ∷ [] }

pub is_one_delay : AreDelays (1 ∷ [])
is_one_delay = (one_rises 1, lit≤ tt, of_one (λ n. (1 ≤ n) × (n ≤ LONGEST_DELAY)) 1 (lit≤ tt, lit≤ tt))

syndromes : Syndromes
syndromes = record { items = NoQ ∷ [] }

abbrev AreListed : {A : Type 0} (most : ℕ) (place : A → ℕ) → List A → Type 0
AreListed most place xs = AreRising (map place xs) × (length xs ≤ most) × All (λ x. Unit {0}) xs

pub stands_levels : (third : Bool) → StandsIn {X = Levels} (λ xs. AreListed MOST_LEVELS level_place xs.items) (λ xs. named (codes "levels") (commas (map level_name xs.items)) ∷ []) (AreArrays third) lines_of_arrays []
unfolding members patterns delays syndromes
stands_levels third = record {
  made = λ x p. (arrays_with x members patterns delays syndromes, _, are_arrays third x members patterns delays syndromes p.0 are_members (one_rises 0) is_one_delay (λ e. refl) (one_rises 0), refl);
  shape = λ w tail is e. (w.levels, _, (is.levels, levels_fit w.levels.items is.levels, λ k d lt. tt), sym e);
  apart = λ x y m more p q e. one_line (λ (xs : Levels). named (codes "levels") (commas (map level_name xs.items))) x y m more e;
}

pub stands_members : (third : Bool) (l : Levels) → AreRising (map level_place l.items) →
    StandsIn {X = Members} (λ xs. AreMembers xs.items) (λ xs. named (codes "members") (commas (map decimal xs.items)) ∷ []) (AreArrays third) lines_of_arrays (named (codes "levels") (commas (map level_name l.items)) ∷ [])
unfolding patterns delays syndromes
stands_members third l pl = record {
  made = λ x p. (arrays_with l x patterns delays syndromes, _, are_arrays third l x patterns delays syndromes pl p (one_rises 0) is_one_delay (λ e. refl) (one_rises 0), refl);
  shape = λ w tail is e. (w.members, _, is.members, ap (λ (ls : List (List ℕ)). drop 1 ls) (sym e));
  apart = λ x y m more p q e. one_line (λ (xs : Members). named (codes "members") (commas (map decimal xs.items))) x y m more e;
}

pub stands_patterns : (third : Bool) (l : Levels) (n : Members) → AreRising (map level_place l.items) → AreMembers n.items →
    StandsIn {X = Patterns} (λ xs. AreListed MOST_PATTERNS pattern_place xs.items) (λ xs. named (codes "patterns") (commas (map pattern_name xs.items)) ∷ []) (AreArrays third) lines_of_arrays
    (named (codes "levels") (commas (map level_name l.items)) ∷ named (codes "members") (commas (map decimal n.items)) ∷ [])
unfolding delays syndromes
stands_patterns third l n pl pn = record {
  made = λ x p. (arrays_with l n x delays syndromes, _, are_arrays third l n x delays syndromes pl pn p.0 is_one_delay (λ e. refl) (one_rises 0), refl);
  shape = λ w tail is e. (w.patterns, _, (is.patterns, patterns_fit w.patterns.items is.patterns, λ k d lt. tt), ap (λ (ls : List (List ℕ)). drop 2 ls) (sym e));
  apart = λ x y m more p q e. one_line (λ (xs : Patterns). named (codes "patterns") (commas (map pattern_name xs.items))) x y m more e;
}

-- the lines before that after the patterns
abbrev first_lines : Levels → Members → Patterns → List (List ℕ)
first_lines l n o = named (codes "levels") (commas (map level_name l.items)) ∷ named (codes "members") (commas (map decimal n.items)) ∷ named (codes "patterns") (commas (map pattern_name o.items)) ∷ []

-- the lines of arrays with other delays than one, and with one alone
pub delayed_lines : (l : Levels) (n : Members) (o : Patterns) (d : Delays) (s : Syndromes) → some_delays d.items ≡ true → first_lines l n o ++ delays_line d.items ∷ syndromes_line s.items ∷ [] ≡ lines_of_arrays (arrays_with l n o d s)
delayed_lines l n o d s some = sym (ap (λ (b : Bool). first_lines l n o ++ orders_by b d.items s.items) some)

pub single_lines : (l : Levels) (n : Members) (o : Patterns) (d : Delays) (s : Syndromes) → some_delays d.items ≡ false → first_lines l n o ++ syndromes_line s.items ∷ [] ≡ lines_of_arrays (arrays_with l n o d s)
single_lines l n o d s none = sym (ap (λ (b : Bool). first_lines l n o ++ orders_by b d.items s.items) none)

-- nothing is asked of an earlier version in version 3
pub other_version : {P : Type 0} {third : Bool} → third ≡ true → third ≡ false → P
other_version some none = absurd (false≢true (sym none ∙ some))

-- arrays with other delays than one are those of a plan of version 3
third_of : (third : Bool) (w : Arrays) → AreArrays third w → some_delays w.delays.items ≡ true → third ≡ true
third_of true w is some = refl
third_of false w is some = sym (is.once refl) ∙ some

pub stands_after : (third : Bool) (l : Levels) (n : Members) (o : Patterns) → AreRising (map level_place l.items) → AreMembers n.items → AreRising (map pattern_place o.items) →
    StandsIn (MayComeAfter third) (λ what. line_after what ∷ []) (AreArrays third) lines_of_arrays (first_lines l n o)
unfolding delays syndromes
stands_after third l n o pl pn po = record {
  made = wholes;
  shape = λ w tail is e. parts w tail is (some_delays w.delays.items) refl (ap (λ (ls : List (List ℕ)). drop 3 ls) (sym e));
  apart = λ x y m more p q e. one_line line_after x y m more e;
}
  where
    wholes : (x : AfterPatterns) → MayComeAfter third x → (w : Arrays) × (r : List (List ℕ)) × AreArrays third w × (lines_of_arrays w ≡ first_lines l n o ++ ((line_after x ∷ []) ++ r))
    wholes (OfDelays ds) p = (
      arrays_with l n o ds syndromes,
      syndromes_line syndromes.items ∷ [],
      are_arrays third l n o ds syndromes pl pn po p.1 (other_version p.0) (one_rises 0),
      sym (delayed_lines l n o ds syndromes p.2),
    )
    wholes (OfSyndromes ss) p = (arrays_with l n o delays ss, [], are_arrays third l n o delays ss pl pn po is_one_delay (λ e. refl) p.0, refl)

    parts : (w : Arrays) (tail : List (List ℕ)) → AreArrays third w → (b : Bool) → some_delays w.delays.items ≡ b → tail ≡ orders_by (some_delays w.delays.items) w.delays.items w.syndromes.items →
        (x : AfterPatterns) × (r : List (List ℕ)) × MayComeAfter third x × (tail ≡ (line_after x ∷ []) ++ r)
    parts w tail is true some e = (
      OfDelays w.delays,
      syndromes_line w.syndromes.items ∷ [],
      (third_of third w is some, is.delays, some),
      e ∙ ap (λ (b : Bool). orders_by b w.delays.items w.syndromes.items) some,
    )
    parts w tail is false none e = (
      OfSyndromes w.syndromes,
      [],
      (is.syndromes, syndromes_fit w.syndromes.items is.syndromes, λ k d lt. tt),
      e ∙ ap (λ (b : Bool). orders_by b w.delays.items w.syndromes.items) none,
    )

pub stands_syndromes : (third : Bool) (l : Levels) (n : Members) (o : Patterns) (d : Delays) → AreRising (map level_place l.items) → AreMembers n.items → AreRising (map pattern_place o.items) → MayComeAfter third (OfDelays d) →
    StandsIn {X = Syndromes} (λ xs. AreListed MOST_SYNDROMES syndrome_place xs.items) (λ xs. named (codes "syndromes") (commas (map syndrome_name xs.items)) ∷ []) (AreArrays third) lines_of_arrays (first_lines l n o ++ delays_line d.items ∷ [])
stands_syndromes third l n o d pl pn po pd = record {
  made = λ x p. (
    arrays_with l n o d x,
    [],
    are_arrays third l n o d x pl pn po pd.1 (other_version pd.0) p.0,
    sym (delayed_lines l n o d x pd.2),
  );
  shape = λ w tail is e. (
    w.syndromes,
    [],
    (is.syndromes, syndromes_fit w.syndromes.items is.syndromes, λ k d lt. tt),
    (after_delays (some_delays w.delays.items) w.delays.items d.items w.syndromes.items tail (ap (λ (ls : List (List ℕ)). drop 3 ls) e)).1,
  );
  apart = λ x y m more p q e. one_line (λ (xs : Syndromes). named (codes "syndromes") (commas (map syndrome_name xs.items))) x y m more e;
}

abbrev sizes_with : Chunks → Sectors → Sectors → Sizes
sizes_with c o r = record { chunks = c; offsets = o; origins = r }

pub are_sizes : (each : Bool) (c : Chunks) (o r : Sectors) → AreChunks c.items → AreBelow (sectors_end each) MOST_OFFSETS o.items → AreBelow (2 ^ 55) MOST_ORIGINS r.items → AreSizes each (sizes_with c o r)
are_sizes each c o r p q s = record { chunks = p; offsets = q; origins = s }

sectors : Sectors
sectors = record { items = 0 ∷ [] }

pub are_below : (end most : ℕ) → 1 ≤ end → 1 ≤ most → AreBelow end most (0 ∷ [])
are_below end most high some = ((one_rises 0, some, of_one (λ n. n < 2 ^ 55) 0 (lit< tt)), of_one (λ n. n < end) 0 (omega arith))

some_offsets : (each : Bool) → AreBelow (sectors_end each) MOST_OFFSETS (0 ∷ [])
some_offsets each = are_below (sectors_end each) MOST_OFFSETS (some_sectors each) (lit≤ tt)

some_origins : AreBelow (2 ^ 55) MOST_ORIGINS (0 ∷ [])
some_origins = are_below (2 ^ 55) MOST_ORIGINS (omega arith) (lit≤ tt)

pub are_chunks : AreChunks (1 ∷ [])
unfolding is_chunk
are_chunks = (one_rises 1, of_one (λ n. IsTrue (is_chunk n)) 1 refl)

pub stands_chunks : (each : Bool) → StandsIn {X = Chunks} (λ xs. AreChunks xs.items) (λ xs. named (codes "chunks") (commas (map decimal xs.items)) ∷ []) (AreSizes each) lines_of_sizes []
unfolding sectors
stands_chunks each = record {
  made = λ x p. (sizes_with x sectors sectors, _, are_sizes each x sectors sectors p (some_offsets each) some_origins, refl);
  shape = λ w tail is e. (w.chunks, _, is.chunks, sym e);
  apart = λ x y m more p q e. one_line (λ (xs : Chunks). named (codes "chunks") (commas (map decimal xs.items))) x y m more e;
}

pub stands_offsets : (each : Bool) (c : Chunks) → AreChunks c.items →
    StandsIn {X = Sectors} (λ xs. AreBelow (sectors_end each) MOST_OFFSETS xs.items) (λ xs. named (codes "offsets") (commas (map decimal xs.items)) ∷ []) (AreSizes each) lines_of_sizes (named (codes "chunks") (commas (map decimal c.items)) ∷ [])
unfolding sectors
stands_offsets each c pc = record {
  made = λ x p. (sizes_with c x sectors, _, are_sizes each c x sectors pc p some_origins, refl);
  shape = λ w tail is e. (w.offsets, _, is.offsets, ap (λ (ls : List (List ℕ)). drop 1 ls) (sym e));
  apart = λ x y m more p q e. one_line (λ (xs : Sectors). named (codes "offsets") (commas (map decimal xs.items))) x y m more e;
}

pub stands_origins : (each : Bool) (c : Chunks) (o : Sectors) → AreChunks c.items → AreBelow (sectors_end each) MOST_OFFSETS o.items →
    StandsIn {X = Sectors} (λ xs. AreBelow (2 ^ 55) MOST_ORIGINS xs.items) (λ xs. named (codes "origins") (commas (map decimal xs.items)) ∷ []) (AreSizes each) lines_of_sizes
    (named (codes "chunks") (commas (map decimal c.items)) ∷ named (codes "offsets") (commas (map decimal o.items)) ∷ [])
stands_origins each c o pc po = record {
  made = λ x p. (sizes_with c o x, _, are_sizes each c o x pc po p, refl);
  shape = λ w tail is e. (w.origins, _, is.origins, ap (λ (ls : List (List ℕ)). drop 2 ls) (sym e));
  apart = λ x y m more p q e. one_line (λ (xs : Sectors). named (codes "origins") (commas (map decimal xs.items))) x y m more e;
}
