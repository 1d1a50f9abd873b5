-- The slot lists of a head are those of a space.
use Rattle.std.proofs.Common.{ℕ, ◌≡◌, ◌<◌, ◌≤◌, ◌+◌, ◌-◌, min, Bool, true, false, ◌&&◌, nat_le, cond, List, [], ◌∷◌, length, filter, refl, sym, ap, ap₂, ◌∙◌, arith, inl, inr, Option, Some, None}
use Rattle.std.specs.List.{AllByRecursion}
use Rattle.std.proofs.lemmas.Bool.{cases_lt, le-leb, leb-true, lt-leb}
use Rattle.raid_params.specs.Slots.{is_distinct, empties}
use Rattle.search_terms.specs.SlotLists.{all_lists, is_kept}
use Rattle.slot_math.proofs.Listed.{each_list, each_more}
use Rattle.slot_math.specs.Ways.{AllImages}
use Rattle.slot_math.specs.Space.{lists_of}
use Rattle.slot_math.specs.declared.space.Space.{Space}
use Rattle.near_mirror.specs.declared.types.NearHead.{NearHead}
use Rattle.near_search.specs.Product.{near_fits, near_space}
use Rattle.near_search.specs.declared.ask.NearAsk.{NearAsk}

filter_same_at : {A : Type 0} (f g : A → Bool) (xs : List A) → AllByRecursion (λ x. f x ≡ g x) xs → filter f xs ≡ filter g xs
filter_same_at f g [] e = refl
filter_same_at {A} f g (x ∷ xs) e = ap₂ (λ (b : Bool) (l : List A). cond b (x ∷ l) l) e.0 (filter_same_at f g xs e.1)

-- no more places are empty than the list has
few_empty : (l : List (Option ℕ)) → empties l ≤ length l
unfolding empties
few_empty [] = omega arith
few_empty (None ∷ l) = let e = few_empty l in omega arith
few_empty (Some i ∷ l) = let e = few_empty l in omega arith

and_none : (d : Bool) → (d && false) ≡ false
and_none true = refl
and_none false = refl

-- in any case more images are in no slot than may be
never : (d : Bool) (e most n count foreign : ℕ) → foreign + count < n → (d && (nat_le 1 e && nat_le e 0)) ≡ (d && (nat_le e most && nat_le (n - (count - e)) foreign))
never d e most n count foreign less =
    let left : nat_le (n - (count - e)) foreign ≡ false = lt-leb (n - (count - e)) foreign (omega arith) in
    ap (λ (b : Bool). d && b) (none e ∙ sym (ap (λ (b : Bool). nat_le e most && b) left ∙ and_none (nat_le e most)))
  where
    none : (e : ℕ) → (nat_le 1 e && nat_le e 0) ≡ false
    none e = elim (cases_lt 0 e) [
      | inl some ↦ ap (λ (b : Bool). nat_le 1 e && b) (lt-leb e 0 some) ∙ and_none (nat_le 1 e)
      | inr no_more ↦ ap (λ (b : Bool). b && nat_le e 0) (lt-leb 1 e (omega arith))
    ]

-- how many places may be empty
within : (e most n count foreign : ℕ) → e ≤ count → n ≤ foreign + count → (nat_le 0 e && nat_le e (min most (foreign + count - n))) ≡ (nat_le e most && nat_le (n - (count - e)) foreign)
within e most n count foreign few enough =
    ap (λ (b : Bool). b && nat_le e (min most (foreign + count - n))) (le-leb 0 e (omega arith)) ∙
    (elim (cases_lt most e) [
      | inl over ↦ lt-leb e (min most (foreign + count - n)) (omega arith) ∙ sym (ap (λ (b : Bool). b && nat_le (n - (count - e)) foreign) (lt-leb e most over))
      | inr up_to ↦ rest up_to
    ])
  where
    rest : e ≤ most → nat_le e (min most (foreign + count - n)) ≡ (nat_le e most && nat_le (n - (count - e)) foreign)
    rest up_to =
        elim (cases_lt (foreign + count - n) e) [
          | inl over ↦ lt-leb e (min most (foreign + count - n)) (omega arith)
              ∙ sym (ap₂ (λ (a b : Bool). a && b) (le-leb e most up_to) (lt-leb (n - (count - e)) foreign (omega arith)))
          | inr room ↦ le-leb e (min most (foreign + count - n)) (omega arith)
              ∙ sym (ap₂ (λ (a b : Bool). a && b) (le-leb e most up_to) (le-leb (n - (count - e)) foreign (omega arith)))
        ]

-- whether a head may have lists
abbrev pub may_fit : ℕ → NearAsk → NearHead → Bool
may_fit images ask head = nat_le head.layout.copies head.members && nat_le images (ask.foreign + head.members)

-- the space where no lists are
pub no_space : (ask : NearAsk) (images : ℕ) (head : NearHead) → may_fit images ask head ≡ false →
    (let s : Space = record { images = images; members = head.members; low = 1; high = 0 } in s) ≡ near_space images ask head
unfolding near_space
no_space ask images head none = rw none refl

-- and where some may be
pub some_space : (ask : NearAsk) (images : ℕ) (head : NearHead) (high : ℕ) → may_fit images ask head ≡ true → high ≡ min ask.missing (ask.foreign + head.members - images) →
    (let s : Space = record { images = images; members = head.members; low = 0; high = high } in s) ≡ near_space images ask head
unfolding near_space
some_space ask images head high some is = rw (some, is) refl

-- a test of both
pub may_parts : (images : ℕ) (ask : NearAsk) (head : NearHead) → may_fit images ask head ≡ true → (head.layout.copies ≤ head.members) × (images ≤ ask.foreign + head.members)
may_parts images ask head e =
    let both = parts (nat_le head.layout.copies head.members) (nat_le images (ask.foreign + head.members)) e in
    (leb-true head.layout.copies head.members both.0, leb-true images (ask.foreign + head.members) both.1)
  where
    parts : (a b : Bool) → (a && b) ≡ true → (a ≡ true) × (b ≡ true)
    parts true true e = (refl, refl)
    parts true false e = absurd (cc)
    parts false b e = absurd (cc)

pub may_both : (images : ℕ) (ask : NearAsk) (head : NearHead) → head.layout.copies ≤ head.members → images ≤ ask.foreign + head.members → may_fit images ask head ≡ true
may_both images ask head a b = ap₂ (λ (x y : Bool). x && y) (le-leb head.layout.copies head.members a) (le-leb images (ask.foreign + head.members) b)

pub may_not : (images : ℕ) (ask : NearAsk) (head : NearHead) → (head.layout.copies ≤ head.members → images ≤ ask.foreign + head.members → ⊥) → may_fit images ask head ≡ false
may_not images ask head none = by_case (may_fit images ask head) refl
  where
    by_case : (b : Bool) → may_fit images ask head ≡ b → may_fit images ask head ≡ false
    by_case false e = e
    by_case true e = let both = may_parts images ask head e in absurd (none both.0 both.1)

-- no list has one empty place and none
no_list : (l : List (Option ℕ)) → is_kept 1 0 l ≡ false
no_list l = ap (λ (b : Bool). is_distinct l && b) (none_of (empties l)) ∙ and_none (is_distinct l)
  where
    none_of : (e : ℕ) → (nat_le 1 e && nat_le e 0) ≡ false
    none_of e = elim (cases_lt 0 e) [
      | inl some ↦ ap (λ (b : Bool). nat_le 1 e && b) (lt-leb e 0 some) ∙ and_none (nat_le 1 e)
      | inr no_more ↦ ap (λ (b : Bool). b && nat_le e 0) (lt-leb 1 e (omega arith))
    ]

none_kept : (xs : List (List (Option ℕ))) → filter (is_kept 1 0) xs ≡ []
none_kept [] = refl
none_kept (x ∷ xs) = ap (λ (b : Bool). cond b (x ∷ filter (is_kept 1 0) xs) (filter (is_kept 1 0) xs)) (no_list x) ∙ none_kept xs

-- a head with a list has a member for each copy
pub some_fit : (images : ℕ) (ask : NearAsk) (head : NearHead) → 1 ≤ length (lists_of (near_space images ask head)) → head.layout.copies ≤ head.members
some_fit images ask head some = by_case (may_fit images ask head) refl
  where
    by_case : (b : Bool) → may_fit images ask head ≡ b → head.layout.copies ≤ head.members
    by_case true e = (may_parts images ask head e).0
    by_case false e =
        let none : length (lists_of (near_space images ask head)) ≡ 0 = ap (λ (s : Space). length (lists_of s)) (sym (no_space ask images head e)) ∙ ap length (none_kept (all_lists images head.members)) in
        absurd (omega arith)

-- the lists of a head are those of its space
pub lists_fit : (images : ℕ) (ask : NearAsk) (head : NearHead) → lists_of (near_space images ask head) ≡ filter (near_fits images ask head) (all_lists images head.members)
lists_fit images ask head =
    elim (cases_lt head.members head.layout.copies) [
      | inl few ↦ ap lists_of (sym (no_space ask images head (may_not images ask head (λ a b. (omega arith)))))
          ∙ filter_same_at (is_kept 1 0) (near_fits images ask head) (all_lists images head.members)
          (each_more (λ l. (length l ≡ head.members) × AllImages images l) (λ l. is_kept 1 0 l ≡ near_fits images ask head l) (all_lists images head.members)
          (λ l s. no_list l ∙ sym (ap (λ (b : Bool). b && (is_distinct l && (nat_le (empties l) ask.missing && nat_le (images - (head.members - empties l)) ask.foreign))) (lt-leb head.layout.copies head.members few))) (each_list images head.members))
      | inr as_many ↦ elim (cases_lt (ask.foreign + head.members) images) [
        | inl less ↦ ap lists_of (sym (no_space ask images head (may_not images ask head (λ a b. (omega arith)))))
            ∙ filter_same_at (is_kept 1 0) (near_fits images ask head) (all_lists images head.members)
            (each_more (λ l. (length l ≡ head.members) × AllImages images l) (λ l. is_kept 1 0 l ≡ near_fits images ask head l) (all_lists images head.members)
            (λ l s. never (is_distinct l) (empties l) ask.missing images head.members ask.foreign less
            ∙ sym (ap (λ (b : Bool). b && (is_distinct l && (nat_le (empties l) ask.missing && nat_le (images - (head.members - empties l)) ask.foreign))) (le-leb head.layout.copies head.members as_many))) (each_list images head.members))
        | inr enough ↦ ap lists_of (sym (some_space ask images head (min ask.missing (ask.foreign + head.members - images)) (may_both images ask head as_many enough) refl))
            ∙ filter_same_at (is_kept 0 (min ask.missing (ask.foreign + head.members - images))) (near_fits images ask head) (all_lists images head.members)
            (each_more (λ l. (length l ≡ head.members) × AllImages images l) (λ l. is_kept 0 (min ask.missing (ask.foreign + head.members - images)) l ≡ near_fits images ask head l) (all_lists images head.members)
            (λ l s. ap (λ (b : Bool). is_distinct l && b) (within (empties l) ask.missing images head.members ask.foreign (let e = few_empty l in let f : length l ≡ head.members = s.0 in omega arith) enough)
            ∙ sym (ap (λ (b : Bool). b && (is_distinct l && (nat_le (empties l) ask.missing && nat_le (images - (head.members - empties l)) ask.foreign))) (le-leb head.layout.copies head.members as_many))) (each_list images head.members))
      ]
    ]

-- how many images and members the lists of a space have
pub space_images : (images : ℕ) (ask : NearAsk) (head : NearHead) → (near_space images ask head).images ≡ images
unfolding near_space
space_images images ask head = either (may_fit images ask head)
  where
    either : (b : Bool) → (cond {A = Space} b (record { images = images; members = head.members; low = 0; high = min ask.missing (ask.foreign + head.members - images) })
        (record { images = images; members = head.members; low = 1; high = 0 })).images ≡ images
    either true = refl
    either false = refl

pub space_members : (images : ℕ) (ask : NearAsk) (head : NearHead) → (near_space images ask head).members ≡ head.members
unfolding near_space
space_members images ask head = either (may_fit images ask head)
  where
    either : (b : Bool) → (cond {A = Space} b (record { images = images; members = head.members; low = 0; high = min ask.missing (ask.foreign + head.members - images) })
        (record { images = images; members = head.members; low = 1; high = 0 })).members ≡ head.members
    either true = refl
    either false = refl
