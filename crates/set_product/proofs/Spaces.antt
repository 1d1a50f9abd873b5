-- The slot lists that fit a plan are those of a space.
use Rattle.std.proofs.Common.{ℕ, ◌≡◌, ◌<◌, ◌≤◌, ◌+◌, ◌-◌, min, Bool, true, false, ◌&&◌, nat_le, nat_lt, cond, List, [], ◌∷◌, length, filter, refl, sym, ap, ap₂, ◌∙◌, subst, arith, inl, inr, Option, Some, None}
use Rattle.std.specs.List.{AllByRecursion}
use Rattle.std.proofs.lemmas.Bool.{cases_lt, le-leb, le-ltb, lt-leb, lt-ltb}
use Rattle.raid_params.specs.declared.limits.TheConstants.{MOST}
use Rattle.raid_params.specs.declared.types.Head.{Head}
use Rattle.raid_params.specs.declared.types.Level.{Level}
use Rattle.raid_params.specs.Size.{redundancy}
use Rattle.raid_params.specs.Slots.{is_distinct, empties}
use Rattle.search_terms.specs.Product.{fits}
use Rattle.search_terms.specs.SlotLists.{all_lists, is_kept, slot_lists}
use Rattle.slot_math.proofs.Listed.{each_list, each_more}
use Rattle.slot_math.specs.Ways.{AllImages}
use Rattle.slot_math.specs.Space.{lists_of}
use Rattle.slot_math.specs.declared.space.Space.{Space}
use Rattle.set_product.specs.Heads.{space_of}
use Rattle.search_plan.specs.Plans.{IsPlan}
use Rattle.search_plan.specs.declared.plan.Plan.{Plan}
use Rattle.set_product.specs.Blocks.{IsSpaceOf}

filter_same_at : {A : Type 0} (f g : A → Bool) (xs : List A) → AllByRecursion (λ x. f x ≡ g x) xs → filter f xs ≡ filter g xs
filter_same_at f g [] e = refl
filter_same_at {A} f g (x ∷ xs) e = ap₂ (λ (b : Bool) (l : List A). cond b (x ∷ l) l) e.0 (filter_same_at f g xs e.1)

-- no more places are empty than the list has
few_empty : (l : List (Option ℕ)) → empties l ≤ length l
unfolding empties
few_empty [] = omega arith
few_empty (None ∷ l) = let e = few_empty l in omega arith
few_empty (Some i ∷ l) = let e = few_empty l in omega arith

and_none : (d : Bool) → (d && false) ≡ false
and_none true = refl
and_none false = refl

-- in any case more images are in no slot than may be
never : (d : Bool) (e most n count foreign : ℕ) → foreign + count < n → (d && (nat_le 1 e && nat_le e 0)) ≡ (d && (nat_le e most && nat_le (n - (count - e)) foreign))
never d e most n count foreign less =
    let left : nat_le (n - (count - e)) foreign ≡ false = lt-leb (n - (count - e)) foreign (omega arith) in
    ap (λ (b : Bool). d && b) (none e ∙ sym (ap (λ (b : Bool). nat_le e most && b) left ∙ and_none (nat_le e most)))
  where
    none : (e : ℕ) → (nat_le 1 e && nat_le e 0) ≡ false
    none e = elim (cases_lt 0 e) [
      | inl some ↦ ap (λ (b : Bool). nat_le 1 e && b) (lt-leb e 0 some) ∙ and_none (nat_le 1 e)
      | inr no_more ↦ ap (λ (b : Bool). b && nat_le e 0) (lt-leb 1 e (omega arith))
    ]

-- how many places may be empty
within : (e most n count foreign : ℕ) → e ≤ count → n ≤ foreign + count → (nat_le 0 e && nat_le e (min most (foreign + count - n))) ≡ (nat_le e most && nat_le (n - (count - e)) foreign)
within e most n count foreign few enough =
    ap (λ (b : Bool). b && nat_le e (min most (foreign + count - n))) (le-leb 0 e (omega arith)) ∙
    (elim (cases_lt most e) [
      | inl over ↦ lt-leb e (min most (foreign + count - n)) (omega arith) ∙ sym (ap (λ (b : Bool). b && nat_le (n - (count - e)) foreign) (lt-leb e most over))
      | inr up_to ↦ rest up_to
    ])
  where
    rest : e ≤ most → nat_le e (min most (foreign + count - n)) ≡ (nat_le e most && nat_le (n - (count - e)) foreign)
    rest up_to =
        elim (cases_lt (foreign + count - n) e) [
          | inl over ↦ lt-leb e (min most (foreign + count - n)) (omega arith)
              ∙ sym (ap₂ (λ (a b : Bool). a && b) (le-leb e most up_to) (lt-leb (n - (count - e)) foreign (omega arith)))
          | inr room ↦ le-leb e (min most (foreign + count - n)) (omega arith)
              ∙ sym (ap₂ (λ (a b : Bool). a && b) (le-leb e most up_to) (le-leb (n - (count - e)) foreign (omega arith)))
        ]

-- what is kept of the lists of `count` places, of a head's level and members
fits_as : (plan : Plan) (level : Level) (count : ℕ) (head : Head) (slots : List (Option ℕ)) → head.level ≡ level → head.members ≡ count →
    (is_distinct slots && (nat_le (empties slots) (min plan.bounds.missing (redundancy level)) && nat_le (length plan.lengths.items - (count - empties slots)) plan.bounds.foreign))
    ≡ fits (length plan.lengths.items) plan.bounds head slots
fits_as plan level count head slots at_level at_count =
    ap₂ (λ (l : Level) (m : ℕ). is_distinct slots && (nat_le (empties slots) (min plan.bounds.missing (redundancy l)) && nat_le (length plan.lengths.items - (m - empties slots)) plan.bounds.foreign))
    (sym at_level) (sym at_count)

no_fit : (plan : Plan) (level : Level) (count images : ℕ) (head : Head) → head.level ≡ level → head.members ≡ count → images ≡ length plan.lengths.items → plan.bounds.foreign + count < images →
    slot_lists images count 1 0 ≡ filter (fits (length plan.lengths.items) plan.bounds head) (all_lists (length plan.lengths.items) count)
no_fit plan level count images head at_level at_count at less =
    let n = length plan.lengths.items in
    ap (λ (k : ℕ). slot_lists k count 1 0) at
    ∙ filter_same_at (is_kept 1 0) (fits n plan.bounds head) (all_lists n count)
    (each_more (λ l. (length l ≡ count) × AllImages n l) (λ l. is_kept 1 0 l ≡ fits n plan.bounds head l) (all_lists n count)
    (λ l s. never (is_distinct l) (empties l) (min plan.bounds.missing (redundancy level)) n count plan.bounds.foreign (omega arith) ∙ fits_as plan level count head l at_level at_count)
    (each_list n count))

pub no_lists : (plan : Plan) (level : Level) (count images : ℕ) → IsPlan plan → count ≤ MOST → images ≡ length plan.lengths.items → plan.bounds.foreign + count < images →
    IsSpaceOf plan level count (record { images = images; members = count; low = 1; high = 0 })
no_lists plan level count images is_plan few at less =
    let most = is_plan.lengths.most in
    record {
      lists = λ head at_level at_count. no_fit plan level count images head at_level at_count at less;
      images = omega arith;
      members = few;
    }

some_fit : (plan : Plan) (level : Level) (count images high : ℕ) (head : Head) → head.level ≡ level → head.members ≡ count → images ≡ length plan.lengths.items → images ≤ plan.bounds.foreign + count →
    high ≡ min (min plan.bounds.missing (redundancy level)) (plan.bounds.foreign + count - images) →
    slot_lists images count 0 high ≡ filter (fits (length plan.lengths.items) plan.bounds head) (all_lists (length plan.lengths.items) count)
some_fit plan level count images high head at_level at_count at enough is_high =
    let n = length plan.lengths.items in
    let least = min plan.bounds.missing (redundancy level) in
    let to : high ≡ min (min plan.bounds.missing (redundancy level)) (plan.bounds.foreign + count - length plan.lengths.items) = is_high ∙ ap (λ (k : ℕ). min least (plan.bounds.foreign + count - k)) at in
    ap₂ (λ (k h : ℕ). slot_lists k count 0 h) at to
    ∙ filter_same_at (is_kept 0 (min least (plan.bounds.foreign + count - n))) (fits n plan.bounds head) (all_lists n count)
    (each_more (λ l. (length l ≡ count) × AllImages n l) (λ l. is_kept 0 (min least (plan.bounds.foreign + count - n)) l ≡ fits n plan.bounds head l) (all_lists n count)
    (λ l s. ap (λ (b : Bool). is_distinct l && b) (within (empties l) least n count plan.bounds.foreign (let e = few_empty l in let f : length l ≡ count = s.0 in omega arith) (omega arith)) ∙ fits_as plan level count head l at_level at_count)
    (each_list n count))

pub some_lists : (plan : Plan) (level : Level) (count images high : ℕ) → IsPlan plan → count ≤ MOST → images ≡ length plan.lengths.items → images ≤ plan.bounds.foreign + count →
    high ≡ min (min plan.bounds.missing (redundancy level)) (plan.bounds.foreign + count - images) →
    IsSpaceOf plan level count (record { images = images; members = count; low = 0; high = high })
some_lists plan level count images high is_plan few at enough is_high =
    let most = is_plan.lengths.most in
    record {
      lists = λ head at_level at_count. some_fit plan level count images high head at_level at_count at enough is_high;
      images = omega arith;
      members = few;
    }

-- the space where no lists are
pub no_space : (plan : Plan) (level : Level) (count images : ℕ) → images ≡ length plan.lengths.items → plan.bounds.foreign + count < images →
    (let s : Space = record { images = images; members = count; low = 1; high = 0 } in s) ≡ space_of plan level count
unfolding space_of
no_space plan level count images at less = rw (lt-ltb (plan.bounds.foreign + count) (length plan.lengths.items) (omega arith), at) refl

-- and where some may be
pub some_space : (plan : Plan) (level : Level) (count images high : ℕ) → images ≡ length plan.lengths.items → images ≤ plan.bounds.foreign + count →
    high ≡ min (min plan.bounds.missing (redundancy level)) (plan.bounds.foreign + count - images) →
    (let s : Space = record { images = images; members = count; low = 0; high = high } in s) ≡ space_of plan level count
unfolding space_of
some_space plan level count images high at enough is_high = rw (le-ltb (plan.bounds.foreign + count) (length plan.lengths.items) (omega arith), is_high, at) refl

-- the lists of a head are those of its space
pub lists_fit : (plan : Plan) (head : Head) →
    lists_of (space_of plan head.level head.members) ≡ filter (fits (length plan.lengths.items) plan.bounds head) (all_lists (length plan.lengths.items) head.members)
lists_fit plan head =
    let n = length plan.lengths.items in
    elim (cases_lt (plan.bounds.foreign + head.members) (length plan.lengths.items)) [
      | inl less ↦ ap lists_of (sym (no_space plan head.level head.members n refl less)) ∙ no_fit plan head.level head.members n head refl refl refl less
      | inr enough ↦ ap lists_of (sym (some_space plan head.level head.members n (min (min plan.bounds.missing (redundancy head.level)) (plan.bounds.foreign + head.members - n)) refl enough refl))
          ∙ some_fit plan head.level head.members n (min (min plan.bounds.missing (redundancy head.level)) (plan.bounds.foreign + head.members - n)) head refl refl refl enough refl
    ]

-- a space of a plan
pub of_plan : (plan : Plan) (level : Level) (count : ℕ) → IsPlan plan → count ≤ MOST → IsSpaceOf plan level count (space_of plan level count)
of_plan plan level count is_plan few =
    let n = length plan.lengths.items in
    let P : Space → Type 0 = λ space. IsSpaceOf plan level count space in
    elim (cases_lt (plan.bounds.foreign + count) (length plan.lengths.items)) [
      | inl less ↦ subst P (no_space plan level count n refl less) (no_lists plan level count n is_plan few refl less)
      | inr enough ↦ subst P (some_space plan level count n (min (min plan.bounds.missing (redundancy level)) (plan.bounds.foreign + count - n)) refl enough refl)
          (some_lists plan level count n (min (min plan.bounds.missing (redundancy level)) (plan.bounds.foreign + count - n)) is_plan few refl enough refl)
    ]

-- how many images and members the lists of a space have
pub space_images : (plan : Plan) (level : Level) (count : ℕ) → (space_of plan level count).images ≡ length plan.lengths.items
unfolding space_of
space_images plan level count = either (nat_lt (plan.bounds.foreign + count) (length plan.lengths.items))
  where
    either : (b : Bool) → (cond {A = Space} b (record { images = length plan.lengths.items; members = count; low = 1; high = 0 })
        (record { images = length plan.lengths.items; members = count; low = 0; high = min (min plan.bounds.missing (redundancy level)) (plan.bounds.foreign + count - length plan.lengths.items) })).images ≡ length plan.lengths.items
    either true = refl
    either false = refl

pub space_members : (plan : Plan) (level : Level) (count : ℕ) → (space_of plan level count).members ≡ count
unfolding space_of
space_members plan level count = either (nat_lt (plan.bounds.foreign + count) (length plan.lengths.items))
  where
    either : (b : Bool) → (cond {A = Space} b (record { images = length plan.lengths.items; members = count; low = 1; high = 0 })
        (record { images = length plan.lengths.items; members = count; low = 0; high = min (min plan.bounds.missing (redundancy level)) (plan.bounds.foreign + count - length plan.lengths.items) })).members ≡ count
    either true = refl
    either false = refl
