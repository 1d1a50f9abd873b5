-- The walk over all heads.
use Rattle.std.proofs.Common.{ℕ, ◌≡◌, ◌+◌, ◌*◌, ◌<◌, ◌≤◌, ◌⊎◌, Bool, true, false, List, length, slice_get, refl, sym, ap, ◌∙◌, subst, arith, inl, inr, Option, Some, None}
use Rattle.std.proofs.lemmas.Nat.{mul-le}
use Rattle.outside.specs.Seen.{Image, OnlyReads, Seen}
use Rattle.outside.proofs.Reading.{reads_up}
use Rattle.page_loop.specs.Parts.{Added, Fills}
use Rattle.near_tables.specs.Reading.{read_of}
use Rattle.near_tables.specs.declared.torn_table.TableFault.{TableFault}
use Rattle.near_search.specs.Asks.{HasImages}
use Rattle.near_search.specs.Pages.{CanNear, StandsNear}
use Rattle.near_search.specs.Product.{near_numbered}
use Rattle.near_search.specs.Walk.{EndsWalk, FailsNear, Gathers, IsHeadSets, ReadsNear, count_at, first_at, near_cost}
use Rattle.near_search.specs.declared.ask.NearAsk.{NearAsk}
use Rattle.near_search.specs.declared.heads.NearSets.{NearSets}
use Rattle.near_search.specs.declared.parts.NearLine.{NearLine}
use Rattle.near_search.specs.declared.walk.NearWalk.{NearWalk}
use Rattle.near_search.proofs.Leafwise.{ranks, ranks_length}
use Rattle.near_search.proofs.Numbered.{head_cost, head_edge, is_at}

-- the head to which a walk goes
pub record Sought (walk : NearWalk) (place : ℕ) (sets : NearSets) : Type 0 where
  pub head : IsHeadSets walk.many walk.ask.now sets
  pub listed : slice_get (near_numbered walk.many walk.ask.now) place ≡ Some sets
  pub first : sets.first ≡ first_at walk.many walk.ask.now place
  pub count : sets.count ≡ count_at walk.many walk.ask.now place
  pub low : sets.first ≤ walk.tested
  pub high : walk.tested < sets.first + sets.count
  pub within : sets.first + sets.count ≤ walk.total

pub sought : (walk : NearWalk) (seen : Seen) (place : ℕ) (sets : NearSets) → CanNear walk seen → slice_get (near_numbered walk.many walk.ask.now) place ≡ Some sets → sets.first ≤ walk.tested → walk.tested < sets.first + sets.count →
    Sought walk place sets
sought walk seen place sets can e low high =
    let at = is_at walk.many walk.ask.now place sets can.ask e in
    let within = at.head.within in
    let total = can.total in
    record { head = at.head; listed = e; first = sym at.first; count = sym at.count; low = low; high = high; within = omega arith }

-- the rank to which the page has come is before the head's end
pub at_below : (walk : NearWalk) (seen : Seen) (page : List NearLine) (rank place : ℕ) (sets : NearSets) → StandsNear walk seen page rank → Sought walk place sets →
    (walk.tested < walk.first + count_at walk.many walk.ask.now walk.place → place ≡ walk.place) → rank < sets.first + sets.count
at_below walk seen page rank place sets stands is stays = by_cut stands.cut
  where
    by_cut : (walk.tested ≡ rank) ⊎ (rank < walk.first + count_at walk.many walk.ask.now walk.place) → rank < sets.first + sets.count
    by_cut (inl e) = let high = is.high in omega arith
    by_cut (inr lt) =
        let tested = stands.tested in
        let same = stays (omega arith) in
        let first : sets.first ≡ walk.first = is.first ∙ ap (first_at walk.many walk.ask.now) same ∙ sym stands.first in
        let count : sets.count ≡ count_at walk.many walk.ask.now walk.place = is.count ∙ ap (count_at walk.many walk.ask.now) same in
        omega arith

-- where a range cuts the head off
pub stands_cut : (walk new : NearWalk) (seen : Seen) (page : List NearLine) (rank stop place : ℕ) (sets : NearSets) → StandsNear walk seen page rank → Sought walk place sets → rank < stop → stop ≤ walk.total → stop < sets.first + sets.count →
    new ≡ record { alloc = walk.alloc; ask = walk.ask; many = walk.many; total = walk.total; size = walk.size; place = place; first = sets.first; tested = walk.tested; at = stop } → StandsNear new seen page stop
stands_cut walk new seen page rank stop place sets stands is up within cut e =
    let tested = stands.tested in
    let can = stands.can in
    let count = is.count in
    let P : NearWalk → Type 0 = λ w. StandsNear w seen page stop in
    subst P (sym e) (record {
      can = record { ask = can.ask; images = can.images; many = can.many; total = can.total; small = can.small; some = can.some };
      stands = refl;
      tested = omega arith;
      within = within;
      few = stands.few;
      first = is.first;
      low = is.low;
      cut = inr (omega arith);
    })

-- other images that are attached alike
can_on : (walk : NearWalk) (old new : Seen) → new.attached ≡ old.attached → CanNear walk old → CanNear walk new
can_on walk old new same can =
    let P : List Image → Type 0 = λ images. HasImages walk.ask.now images in
    let Q : List Image → Type 0 = λ images. walk.many ≡ length images in
    record { ask = can.ask; images = subst P (sym same) can.images; many = subst Q (sym same) can.many; total = can.total; small = can.small; some = can.some }

-- where the head is gathered
pub stands_on : (walk new : NearWalk) (old seen : Seen) (page lines : List NearLine) (rank place : ℕ) (sets : NearSets) → StandsNear walk old page rank → Sought walk place sets → seen.attached ≡ old.attached → length (ranks lines) < walk.size →
    new ≡ record { alloc = walk.alloc; ask = walk.ask; many = walk.many; total = walk.total; size = walk.size; place = place; first = sets.first; tested = sets.first + sets.count; at = sets.first + sets.count } → StandsNear new seen lines (sets.first + sets.count)
stands_on walk new old seen page lines rank place sets stands is same few e =
    let can = can_on walk old seen same stands.can in
    let long = ranks_length lines in
    let P : NearWalk → Type 0 = λ w. StandsNear w seen lines (sets.first + sets.count) in
    subst P (sym e) (record {
      can = record { ask = can.ask; images = can.images; many = can.many; total = can.total; small = can.small; some = can.some };
      stands = refl;
      tested = omega arith;
      within = is.within;
      few = omega arith;
      first = is.first;
      low = omega arith;
      cut = inl refl;
    })

-- where it was gathered, pages can still be made
pub can_still : (walk : NearWalk) (place first tested at : ℕ) (old seen : Seen) → seen.attached ≡ old.attached → CanNear walk old →
    CanNear (record { alloc = walk.alloc; ask = walk.ask; many = walk.many; total = walk.total; size = walk.size; place = place; first = first; tested = tested; at = at }) seen
can_still walk place first tested at old seen same can = let on = can_on walk old seen same can in record { ask = on.ask; images = on.images; many = on.many; total = on.total; small = on.small; some = on.some }

-- what is read for a head is what it costs
pub reads_head : (walk : NearWalk) (place to : ℕ) (sets : NearSets) (old new : Seen) → Sought walk place sets → walk.tested < to → OnlyReads old new (walk.many * read_of sets.head walk.ask.now.end walk.ask.now.window) →
    OnlyReads old new (walk.many * near_cost walk.many walk.ask.now walk.tested to)
reads_head walk place to sets old new is up reads =
    let low = is.low in
    let high = is.high in
    let cost = head_cost walk.many walk.ask.now walk.tested to place sets is.listed (omega arith) in
    let more : walk.many * read_of sets.head walk.ask.now.end walk.ask.now.window ≤ walk.many * near_cost walk.many walk.ask.now walk.tested to
    = mul-le walk.many (read_of sets.head walk.ask.now.end walk.ask.now.window) walk.many (near_cost walk.many walk.ask.now walk.tested to) (omega arith) cost in
    reads_up old new reads more

-- a whole head
pub reads_part : (walk : NearWalk) (place : ℕ) (sets : NearSets) (old new : Seen) → Sought walk place sets → OnlyReads old new (walk.many * read_of sets.head walk.ask.now.end walk.ask.now.window) → new.faults ≡ old.faults →
    ReadsNear walk.many walk.ask.now walk.tested (sets.first + sets.count) false old new
reads_part walk place sets old new is reads quiet = record {
  reads = reads_head walk place (sets.first + sets.count) sets old new is is.high reads;
  quiet = quiet;
  edge = λ e. inr (head_edge walk.many walk.ask.now place sets is.listed);
}

-- the beginning of one
pub reads_front : (walk : NearWalk) (place next : ℕ) (sets : NearSets) (old new : Seen) → Sought walk place sets → walk.tested < next → OnlyReads old new (walk.many * read_of sets.head walk.ask.now.end walk.ask.now.window) → new.faults ≡ old.faults →
    ReadsNear walk.many walk.ask.now walk.tested next true old new
reads_front walk place next sets old new is up reads quiet = record {
  reads = reads_head walk place next sets old new is up reads;
  quiet = quiet;
  edge = λ e. absurd (cc);
}

-- none
pub reads_still : (many : ℕ) (ask : NearAsk) (tested stop : ℕ) (seen : Seen) → ReadsNear many ask tested stop true seen seen
reads_still many ask tested stop seen = record {
  reads = record { world = refl; attached = refl; sectors_read = omega arith; sectors_later = omega arith; faults = omega arith };
  quiet = refl;
  edge = λ e. absurd (cc);
}

-- one that was not gathered
pub fails_head : (walk : NearWalk) (place stop : ℕ) (sets : NearSets) (old new : Seen) (fault : TableFault) → Sought walk place sets → walk.tested < stop → OnlyReads old new (walk.many * read_of sets.head walk.ask.now.end walk.ask.now.window) →
    EndsWalk old new fault → FailsNear walk.many walk.ask.now walk.tested stop old new fault
fails_head walk place stop sets old new fault is up reads ends = record { reads = reads_head walk place stop sets old new is up reads; ends = ends }

-- what was gathered where the page is full, and where it is not
pub full_of : (passes : Option (ℕ → Bool)) (size from to : ℕ) (old new : List ℕ) (full : Option ℕ) (next : ℕ) → full ≡ Some next → Gathers passes size from to old new full → Fills passes size from to old new next
full_of passes size from to old new full next e gathers = let P : Option ℕ → Type 0 = λ o. Gathers passes size from to old new o in subst P e gathers

pub short_of : (passes : Option (ℕ → Bool)) (size from to : ℕ) (old new : List ℕ) (full : Option ℕ) → full ≡ None → Gathers passes size from to old new full → Added passes from to old new × (length new < size)
short_of passes size from to old new full e gathers = let P : Option ℕ → Type 0 = λ o. Gathers passes size from to old new o in subst P e gathers

pub fills_to : (passes : Option (ℕ → Bool)) (size from to stop next : ℕ) (old new : List ℕ) → to ≤ stop → Fills passes size from to old new next → Fills passes size from stop old new next
fills_to passes size from to stop next old new le fills = let within = fills.within in record { forward = fills.forward; within = omega arith; added = fills.added; last = fills.last; many = fills.many }
