-- How readings join: laws of the walk, which its implementation gives.
use Rattle.std.proofs.Common.{ℕ, ◌≡◌, ◌+◌, ◌*◌, ◌≤◌, ◌⊎◌, min, max, Bool, false, cond, List, [], ◌∷◌, refl, ap, ◌∙◌, subst, arith, inl, inr}
use Rattle.std.specs.List.{AllByRecursion, sum_by}
use Rattle.std.proofs.lemmas.Bool.{cases_lt, le-ltb, lt-ltb}
use Rattle.std.proofs.lemmas.List.Sums.{sum_by-cons}
use Rattle.std.proofs.lemmas.Nat.{mul-le}
use Rattle.outside.specs.Seen.{OnlyReads, Seen}
use Rattle.candidate_enum.specs.Left.{overlaps}
use Rattle.near_tables.specs.Reading.{read_of}
use Rattle.near_tables.specs.declared.torn_table.TableFault.{TableFault}
use Rattle.near_tables.specs.declared.torn_table.TableFault.TheVariants.{ReadFault, Memory}
use Rattle.near_search.specs.Pages.{SameNear}
use Rattle.near_search.specs.Product.{near_numbered}
use Rattle.near_search.specs.Walk.{EndsWalk, FailsNear, IsEdge, near_cost, ReadsNear}
use Rattle.near_search.specs.declared.ask.NearAsk.{NearAsk}
use Rattle.near_search.specs.declared.heads.NearSets.{NearSets}
use Rattle.near_search.specs.declared.walk.NearWalk.{NearWalk}

-- what one head costs
abbrev cost_of : NearAsk → ℕ → ℕ → NearSets → ℕ
cost_of ask from to sets = cond (overlaps from to sets.first sets.count) (read_of sets.head ask.end ask.window) 0

one_head : (a b c f n most : ℕ) → a ≤ b → b ≤ c → (f + n ≤ b) ⊎ (b ≤ f) → cond (overlaps a b f n) most 0 + cond (overlaps b c f n) most 0 ≤ cond (overlaps a c f n) most 0
one_head a b c f n most low high (inl e) =
    let none : overlaps b c f n ≡ false = le-ltb (max b f) (min c (f + n)) (omega arith) in
    elim (cases_lt (max a f) (min b (f + n))) [
      | inl lt ↦ rw (none, lt-ltb (max a f) (min b (f + n)) lt, lt-ltb (max a f) (min c (f + n)) (omega arith)) (omega arith)
      | inr le ↦ rw (none, le-ltb (max a f) (min b (f + n)) le) (omega arith)
    ]
one_head a b c f n most low high (inr e) =
    let none : overlaps a b f n ≡ false = le-ltb (max a f) (min b (f + n)) (omega arith) in
    elim (cases_lt (max b f) (min c (f + n))) [
      | inl lt ↦ rw (none, lt-ltb (max b f) (min c (f + n)) lt, lt-ltb (max a f) (min c (f + n)) (omega arith)) (omega arith)
      | inr le ↦ rw (none, le-ltb (max b f) (min c (f + n)) le) (omega arith)
    ]

-- of heads with no ranks on both sides of an edge
heads_join : (ask : NearAsk) (a b c : ℕ) (heads : List NearSets) → a ≤ b → b ≤ c → AllByRecursion (λ sets. (sets.first + sets.count ≤ b) ⊎ (b ≤ sets.first)) heads →
    sum_by (cost_of ask a b) heads + sum_by (cost_of ask b c) heads ≤ sum_by (cost_of ask a c) heads
heads_join ask a b c [] low high edge = omega arith
heads_join ask a b c (sets ∷ heads) low high edge =
    let first = sum_by-cons (cost_of ask a b) sets heads in
    let second = sum_by-cons (cost_of ask b c) sets heads in
    let both = sum_by-cons (cost_of ask a c) sets heads in
    let here = one_head a b c sets.first sets.count (read_of sets.head ask.end ask.window) low high edge.0 in
    let rest = heads_join ask a b c heads low high edge.1 in
    omega arith

-- of no ranks
no_head : (ask : NearAsk) (a : ℕ) (heads : List NearSets) → sum_by (cost_of ask a a) heads ≡ 0
no_head ask a [] = refl
no_head ask a (sets ∷ heads) =
    let cons = sum_by-cons (cost_of ask a a) sets heads in
    let none : cost_of ask a a sets ≡ 0 = ap (λ (b : Bool). cond b (read_of sets.head ask.end ask.window) 0) (le-ltb (max a sets.first) (min a (sets.first + sets.count)) (omega arith)) in
    let rest = no_head ask a heads in
    omega arith

pub cost_none : (images : ℕ) (ask : NearAsk) (a : ℕ) → near_cost images ask a a ≡ 0
unfolding near_cost
cost_none images ask a = no_head ask a (near_numbered images ask)

pub cost_join : (images : ℕ) (ask : NearAsk) (a b c : ℕ) → a ≤ b → b ≤ c → (a ≡ b) ⊎ IsEdge images ask b → near_cost images ask a b + near_cost images ask b c ≤ near_cost images ask a c
unfolding near_cost
cost_join images ask a b c low high (inl e) =
    let none = no_head ask a (near_numbered images ask) in
    let P : ℕ → Type 0 = λ n. sum_by (cost_of ask a n) (near_numbered images ask) + sum_by (cost_of ask n c) (near_numbered images ask) ≤ sum_by (cost_of ask a c) (near_numbered images ask) in
    subst P e (omega arith)
cost_join images ask a b c low high (inr edge) = heads_join ask a b c (near_numbered images ask) low high edge

-- one reading after the other
only_join : (r s t : Seen) (m n most : ℕ) → OnlyReads r s m → OnlyReads s t n → m + n ≤ most → OnlyReads r t most
only_join r s t m n most first second le =
    let one = first.sectors_read in
    let two = second.sectors_read in
    let low = first.sectors_later in
    let high = second.sectors_later in
    let faults = first.faults in
    let more = second.faults in
    record {
      world = second.world ∙ first.world;
      attached = second.attached ∙ first.attached;
      sectors_read = omega arith;
      sectors_later = omega arith;
      faults = omega arith;
    }

times : (images x y z : ℕ) → x + y ≤ z → images * x + images * y ≤ images * z
times images x y z le =
    let up : images * (x + y) ≤ images * z = mul-le images (x + y) images z (omega arith) le in
    let split : images * (x + y) ≡ images * x + images * y = grind arith in
    omega arith

-- nothing was read
pub walk_none : (w : NearWalk) (s : Seen) (a : ℕ) → SameNear w w × ReadsNear w.many w.ask.now a a false s s
walk_none w s a = (
  record { ask = refl; many = refl },
  record {
    reads = record { world = refl; attached = refl; sectors_read = omega arith; sectors_later = omega arith; faults = omega arith };
    quiet = refl;
    edge = λ e. inl refl;
  },
)

-- ranges one after the other
pub walk_join : (u v w : NearWalk) (r s t : Seen) (a b c : ℕ) (whole : Bool) → a ≤ b → b ≤ c → SameNear u v × ReadsNear u.many u.ask.now a b false r s → SameNear v w × ReadsNear v.many v.ask.now b c whole s t →
    SameNear u w × ReadsNear u.many u.ask.now a c whole r t
walk_join u v w r s t a b c whole low high (same, first) (other, second) =
    let P : ℕ → Type 0 = λ many. ReadsNear many v.ask.now b c whole s t in
    let Q : NearAsk → Type 0 = λ ask. ReadsNear u.many ask b c whole s t in
    let next : ReadsNear u.many u.ask.now b c whole s t = subst Q same.ask (subst P same.many second) in (
      record { ask = other.ask ∙ same.ask; many = other.many ∙ same.many },
      record {
        reads = only_join r s t (u.many * near_cost u.many u.ask.now a b) (u.many * near_cost u.many u.ask.now b c) (u.many * near_cost u.many u.ask.now a c) first.reads next.reads
            (times u.many (near_cost u.many u.ask.now a b) (near_cost u.many u.ask.now b c) (near_cost u.many u.ask.now a c) (cost_join u.many u.ask.now a b c low high (first.edge refl)));
        quiet = next.quiet ∙ first.quiet;
        edge = λ e. on_edge b (next.edge e) (first.edge refl);
      },
    )
  where
    on_edge : (m : ℕ) → (m ≡ c) ⊎ IsEdge u.many u.ask.now c → (a ≡ m) ⊎ IsEdge u.many u.ask.now m → (a ≡ c) ⊎ IsEdge u.many u.ask.now c
    on_edge m (inr edge) before = inr edge
    on_edge m (inl e) (inl f) = inl (f ∙ e)
    on_edge m (inl e) (inr edge) = inr (subst (λ (n : ℕ). IsEdge u.many u.ask.now n) e edge)

-- a range that was not gathered after others
pub walk_fails : (u v w : NearWalk) (r s t : Seen) (a b stop : ℕ) (fault : TableFault) → a ≤ b → b ≤ stop → SameNear u v × ReadsNear u.many u.ask.now a b false r s → SameNear v w × FailsNear v.many v.ask.now b stop s t fault →
    SameNear u w × FailsNear u.many u.ask.now a stop r t fault
walk_fails u v w r s t a b stop fault low high (same, first) (other, second) =
    let P : ℕ → Type 0 = λ many. FailsNear many v.ask.now b stop s t fault in
    let Q : NearAsk → Type 0 = λ ask. FailsNear u.many ask b stop s t fault in
    let next : FailsNear u.many u.ask.now b stop s t fault = subst Q same.ask (subst P same.many second) in (
      record { ask = other.ask ∙ same.ask; many = other.many ∙ same.many },
      record {
        reads = only_join r s t (u.many * near_cost u.many u.ask.now a b) (u.many * near_cost u.many u.ask.now b stop) (u.many * near_cost u.many u.ask.now a stop) first.reads next.reads
            (times u.many (near_cost u.many u.ask.now a b) (near_cost u.many u.ask.now b stop) (near_cost u.many u.ask.now a stop) (cost_join u.many u.ask.now a b stop low high (first.edge refl)));
        ends = ended fault first.quiet next.ends;
      },
    )
  where
    ended : (f : TableFault) → s.faults ≡ r.faults → EndsWalk s t f → EndsWalk r t f
    ended ReadFault quiet rose = rw (← quiet) rose
    ended Memory quiet kept = kept ∙ quiet
