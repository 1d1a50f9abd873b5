-- What the table of a head says of beginnings, and of its ranks.
use Rattle.std.proofs.Common.{ℕ, zero, suc, ◌≡◌, ◌+◌, ◌-◌, ◌<◌, ◌≤◌, Bool, true, false, cond, not, ◌&&◌, nat_le, List, [], ◌∷◌, ◌++◌, length, take, filter, append-nil, get_or, slice_get, refl, sym, ap, ap₂, ◌∙◌, subst, arith, Option, Some, None, IfSome, IsTrue}
use Rattle.std.specs.List.{list_all, range_with_len}
use Rattle.std.specs.Option.{option_map_or}
use Rattle.std.proofs.lemmas.Bool.{le-leb, lt-leb}
use Rattle.std.proofs.lemmas.Option.{slice_get-get_or}
use Rattle.raid_params.specs.declared.limits.TheConstants.{MOST}
use Rattle.slot_math.specs.Space.{begins, lists_of}
use Rattle.slot_math.specs.Ways.{AllImages, are_images}
use Rattle.slot_math.specs.declared.space.Space.{Space}
use Rattle.slot_math.proofs.Completions.{all_images, none_unknown}
use Rattle.slot_math.proofs.Listed.{listed}
use Rattle.candidate_enum.specs.Survivors.{all_admitted}
use Rattle.page_loop.specs.Parts.{Added}
use Rattle.near_mirror.specs.Copies.{first_chunks, near_chunks}
use Rattle.near_mirror.specs.Heads.{is_valid_near}
use Rattle.near_mirror.specs.declared.types.NearHead.{NearHead}
use Rattle.near_mirror.specs.declared.types.NearSet.{NearSet}
use Rattle.near_tables.specs.Tables.{TornCounts}
use Rattle.near_tables.specs.Torn.{has_lost, lost_among, near_passes, torn, with_slots}
use Rattle.near_tables.proofs.Told.{tables_tell}
use Rattle.near_search.specs.Product.{near_product, passes_at}
use Rattle.near_search.specs.Hopeful.{AdmitsHopeful, IsHeadTable, is_near_admitted, is_near_hopeful, NearAsked}
use Rattle.near_search.specs.Walk.{Gathers, IsHeadSets, list_passes, passes_told}
use Rattle.near_search.specs.declared.ask.NearAsk.{NearAsk}
use Rattle.near_search.specs.declared.heads.NearSets.{NearSets}
use Rattle.near_search.proofs.Law.{hopeful}
use Rattle.near_search.proofs.Spaces.{space_images, space_members}

-- the sizes of a head's space
pub space_size : (many : ℕ) (ask : NearAsk) (sets : NearSets) → IsHeadSets many ask sets → (sets.space.images ≡ many) × (sets.space.members ≡ sets.head.members)
space_size many ask sets head = (ap (λ (s : Space). s.images) head.space ∙ space_images many ask sets.head, ap (λ (s : Space). s.members) head.space ∙ space_members many ask sets.head)

and_none : (d : Bool) → (d && false) ≡ false
and_none true = refl
and_none false = refl

more_images : (n m : ℕ) (l : List (Option ℕ)) → n ≤ m → AllImages n l → AllImages m l
more_images n m [] le all = tt
more_images n m (None ∷ l) le all = more_images n m l le all
more_images n m (Some i ∷ l) le all = (let lt = all.0 in omega arith, more_images n m l le all.1)

take_images : (n k : ℕ) (l : List (Option ℕ)) → AllImages n l → AllImages n (take k l)
take_images n zero l all = tt
take_images n (suc k) [] all = tt
take_images n (suc k) (None ∷ l) all = take_images n k l all
take_images n (suc k) (Some i ∷ l) all = (all.0, take_images n k l all.1)

-- a prefix with which some list begins has images of the space
pub begun_images : (s : Space) (p : List (Option ℕ)) → s.images ≤ MOST → 0 < length (filter (begins p) (lists_of s)) → AllImages MOST p
begun_images s p few some = by_case (are_images s.images p) refl
  where
    by_case : (b : Bool) → are_images s.images p ≡ b → AllImages MOST p
    by_case true e = more_images s.images MOST p few (all_images s.images p e)
    by_case false e = let none = none_unknown s p e in absurd (omega arith)

all_same : (n : ℕ) (f g : List (Option ℕ) → Bool) (slots : List (Option ℕ)) (a k : ℕ) → ((prefix : List (Option ℕ)) → AllImages n prefix → f prefix ≡ g prefix) → AllImages n slots →
    list_all (λ i. f (take i slots)) (range_with_len a k) ≡ list_all (λ i. g (take i slots)) (range_with_len a k)
all_same n f g slots a zero same images = refl
all_same n f g slots a (suc k) same images = ap₂ (λ (b c : Bool). b && c) (same (take a slots) (take_images n a slots images)) (all_same n f g slots (a + 1) k same images)

-- a family that admits just the hopeful beginnings admits all of a slot list where it passes
admitted : (bytes : List (List ℕ)) (many : ℕ) (ask : NearAsk) (head : NearHead) (asked : NearAsked) (slots : List (Option ℕ)) → AdmitsHopeful bytes many ask head asked → AllImages many slots →
    all_admitted (is_near_admitted asked) slots ≡ near_passes bytes ask.end ask.window ask.badrows (with_slots head slots)
unfolding all_admitted
admitted bytes many ask head asked slots admits images =
    all_same many (is_near_admitted asked) (is_near_hopeful bytes ask head) slots 0 (length slots + 1) admits images
    ∙ hopeful bytes ask.end ask.window ask.badrows head slots

-- the table of a head tells which beginnings are hopeful
pub admits_hopeful : (bytes : List (List ℕ)) (many : ℕ) (ask : NearAsk) (head : NearHead) (space : Space) (chunks : ℕ) (table : Option TornCounts) → IsTrue (is_valid_near head) → chunks ≡ first_chunks head ask.end →
    IsHeadTable bytes many ask head table → AdmitsHopeful bytes many ask head (record { space = space; head = head; chunks = chunks; table = table; most = ask.badrows })
admits_hopeful bytes many ask head space chunks None valid first none = λ prefix images.
    and_none (not (lost_among chunks (with_slots head prefix)))
    ∙ sym (ap (λ (b : Bool). b && (not (has_lost ask.end (with_slots head prefix)) && nat_le (torn bytes ask.end ask.window (with_slots head prefix)) ask.badrows)) (lt-leb 1 (near_chunks head ask.end) (omega arith)))
admits_hopeful bytes many ask head space chunks (Some table) valid first (some, is) = λ prefix images.
    ap₂ (λ (c n : ℕ). not (lost_among c (with_slots head prefix)) && nat_le n ask.badrows) first (tables_tell bytes many ask.end ask.window head table prefix valid images is)
    ∙ sym (ap (λ (b : Bool). b && (not (has_lost ask.end (with_slots head prefix)) && nat_le (torn bytes ask.end ask.window (with_slots head prefix)) ask.badrows)) (le-leb 1 (near_chunks head ask.end) some))

-- the list of a rank of the head
record HasList (many : ℕ) (ask : NearAsk) (sets : NearSets) (rank : ℕ) : Type 0 where
  pub slots : List (Option ℕ)
  pub list : slice_get (lists_of sets.space) (rank - sets.first) ≡ Some slots
  pub set : slice_get (near_product many ask) rank ≡ Some (with_slots sets.head slots)

has_list : (many : ℕ) (ask : NearAsk) (sets : NearSets) (rank : ℕ) → IsHeadSets many ask sets → sets.first ≤ rank → rank < sets.first + sets.count → HasList many ask sets rank
has_list many ask sets rank head low high =
    let count = head.count in
    let here = slice_get-get_or (lists_of sets.space) (rank - sets.first) [] (omega arith) in
    let at : rank ≡ sets.first + (rank - sets.first) = omega arith in
    record {
      slots = get_or (lists_of sets.space) (rank - sets.first) [];
      list = here;
      set = ap (slice_get (near_product many ask)) at ∙ head.stand (rank - sets.first) (get_or (lists_of sets.space) (rank - sets.first) []) here;
    }

pub tells : (bytes : List (List ℕ)) (many : ℕ) (ask : NearAsk) (sets : NearSets) (asked : NearAsked) (rank : ℕ) → IsHeadSets many ask sets → AdmitsHopeful bytes many ask sets.head asked →
    sets.first ≤ rank → rank < sets.first + sets.count → list_passes (is_near_admitted asked) sets rank ≡ passes_at bytes many ask rank
tells bytes many ask sets asked rank head admits low high =
    let has = has_list many ask sets rank head low high in
    let shape = listed sets.space.images sets.space.members sets.space.low sets.space.high (rank - sets.first) has.slots has.list in
    let images : AllImages many has.slots = subst (λ (n : ℕ). AllImages n has.slots) (space_size many ask sets head).0 shape.1 in
    ap (λ (o : Option (List (Option ℕ))). option_map_or (all_admitted (is_near_admitted asked)) o false) has.list
    ∙ admitted bytes many ask sets.head asked has.slots admits images
    ∙ sym (ap (λ (o : Option NearSet). option_map_or (near_passes bytes ask.end ask.window ask.badrows) o false) has.set)

-- without a chunk none passes
pub rowless : (bytes : List (List ℕ)) (many : ℕ) (ask : NearAsk) (sets : NearSets) (rank : ℕ) → IsHeadSets many ask sets → near_chunks sets.head ask.end ≡ 0 → sets.first ≤ rank → rank < sets.first + sets.count → passes_at bytes many ask rank ≡ false
rowless bytes many ask sets rank head none low high =
    let has = has_list many ask sets rank head low high in
    ap (λ (o : Option NearSet). option_map_or (near_passes bytes ask.end ask.window ask.badrows) o false) has.set
    ∙ ap (λ (b : Bool). b && (not (has_lost ask.end (with_slots sets.head has.slots)) && nat_le (torn bytes ask.end ask.window (with_slots sets.head has.slots)) ask.badrows)) (lt-leb 1 (near_chunks sets.head ask.end) (omega arith))

-- tests that agree on a range
same_range : (p q : ℕ → Bool) (a n : ℕ) → ((x : ℕ) → a ≤ x → x < a + n → p x ≡ q x) → filter p (range_with_len a n) ≡ filter q (range_with_len a n)
same_range p q a zero same = refl
same_range p q a (suc n) same = ap₂ (λ (b : Bool) (l : List ℕ). cond b (a ∷ l) l) (same a (omega arith) (omega arith)) (same_range p q (a + 1) n (λ x low high. same x (omega arith) (omega arith)))

none_range : (p : ℕ → Bool) (a n : ℕ) → ((x : ℕ) → a ≤ x → x < a + n → p x ≡ false) → filter p (range_with_len a n) ≡ []
none_range p a zero none = refl
none_range p a (suc n) none = ap₂ (λ (b : Bool) (l : List ℕ). cond b (a ∷ l) l) (none a (omega arith) (omega arith)) (none_range p (a + 1) n (λ x low high. none x (omega arith) (omega arith)))

-- what was gathered by a test that agrees with what passes
pub gathers_told : (told : Option (List (List ℕ))) (many : ℕ) (ask : NearAsk) (p : ℕ → Bool) (size from to : ℕ) (old new : List ℕ) (full : Option ℕ) → from ≤ to →
    IfSome told (λ bytes. (rank : ℕ) → from ≤ rank → rank < to → p rank ≡ passes_at bytes many ask rank) → Gathers (Some p) size from to old new full → Gathers (passes_told told many ask) size from to old new full
gathers_told None many ask p size from to old new None ordered same (added, few) = (tt, few)
gathers_told None many ask p size from to old new (Some next) ordered same fills = record { forward = fills.forward; within = fills.within; added = tt; last = tt; many = fills.many }
gathers_told (Some bytes) many ask p size from to old new None ordered same (added, few) =
    (added ∙ ap (λ (l : List ℕ). old ++ l) (same_range p (passes_at bytes many ask) from (to - from) (λ x low high. same x low (omega arith))), few)
gathers_told (Some bytes) many ask p size from to old new (Some next) ordered same fills =
    let forward = fills.forward in
    let within = fills.within in
    record {
      forward = forward;
      within = within;
      added = fills.added ∙ ap (λ (l : List ℕ). old ++ l) (same_range p (passes_at bytes many ask) from (next - from) (λ x low high. same x low (omega arith)));
      last = sym (same (next - 1) (omega arith) (omega arith)) ∙ fills.last;
      many = fills.many;
    }

-- where none passes
pub gathers_none : (told : Option (List (List ℕ))) (many : ℕ) (ask : NearAsk) (from to : ℕ) (old : List ℕ) → from ≤ to →
    IfSome told (λ bytes. (rank : ℕ) → from ≤ rank → rank < to → passes_at bytes many ask rank ≡ false) → Added (passes_told told many ask) from to old old
gathers_none None many ask from to old ordered none = tt
gathers_none (Some bytes) many ask from to old ordered none =
    sym (append-nil old) ∙ ap (λ (l : List ℕ). old ++ l) (sym (none_range (passes_at bytes many ask) from (to - from) (λ x low high. none x low (omega arith))))
