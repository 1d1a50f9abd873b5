-- How many slots hold an image: no more than there are images, since none stands twice.
use Rattle.std.proofs.Common.{◌≡◌, ℕ, zero, suc, ◌+◌, ◌*◌, ◌<◌, ◌≤◌, List, ◌∷◌, [], length, take, get_or, cond, true, false, Bool, refl, ap, subst, ◌∙◌, arith, inl, inr, Option, Some, None, IfSome, slice_index_or}
use Rattle.std.proofs.Math.Nat.{add-mul, mul-add, mul-le-mul_left, mul-le-mul_right}
use Rattle.std.proofs.lemmas.Bool.{cases_lt, eq-eqb}
use Rattle.std.proofs.lemmas.List.FromFn.{length-range_with_len}
use Rattle.std.proofs.lemmas.List.{take_all}
use Rattle.std.proofs.lemmas.List.Sums.{count_by-le-length, count_by_more_no, count_by_more_yes, sum_by-cons}
use Rattle.std.specs.List.{range_with_len}
use Rattle.std.specs.Option.{is_none, is_some}
use Rattle.std.specs.Prelude.{count_by, ◌||◌, ◌==◌, if◌then◌else◌}
use Rattle.outside.proofs.Reading.{reads_join, reads_up}
use Rattle.outside.specs.Seen.{OnlyReads, Seen}
use Rattle.raid_layouts.proofs.Shapes.{shaped_images, shaped_once}
use Rattle.raid_params.specs.Slots.{stands}
use Rattle.raid_params.specs.Validity.{is_shaped}
use Rattle.raid_params.specs.declared.types.Geometry.{Geometry}
use Rattle.member_regions.specs.Members.{held}
use Rattle.member_regions.proofs.Counting.{count_first}

no_less : (a b : Bool) → (a ≡ true → b ≡ true) → cond a 1 0 ≤ cond b 1 0
no_less true b h = let is : b ≡ true = h refl in rw is (omega arith)
no_less false b h = omega arith

-- a weaker test passes no fewer
weaker : (p q : ℕ → Bool) (a n : ℕ) → ((x : ℕ) → p x ≡ true → q x ≡ true) → count_by p (range_with_len a n) ≤ count_by q (range_with_len a n)
weaker p q a zero h = omega arith
weaker p q a (suc n) h = omega (arith, count_first p a n, count_first q a n, no_less (p a) (q a) (h a), weaker p q (a + 1) n h)

-- and one more, where it passes a number that the other does not
strictly : (p q : ℕ → Bool) (a n i : ℕ) → ((x : ℕ) → p x ≡ true → q x ≡ true) → a ≤ i → i < a + n → p i ≡ false → q i ≡ true →
    count_by p (range_with_len a n) + 1 ≤ count_by q (range_with_len a n)
strictly p q a zero i h from to out into = absurd (omega arith)
strictly p q a (suc n) i h from to out into =
    elim (cases_lt a i) [
      | inl more ↦ omega (arith, count_first p a n, count_first q a n, no_less (p a) (q a) (h a), strictly p q (a + 1) n i h (omega arith) (omega arith) out into)
      | inr same ↦
          (let e : a ≡ i = omega arith in
          let none : ◌≡◌ {A = ℕ} (cond (p a) 1 0) 0 = ap (λ (b : Bool). cond b 1 0) (ap p e ∙ out) in
          let one : ◌≡◌ {A = ℕ} (cond (q a) 1 0) 1 = ap (λ (b : Bool). cond b 1 0) (ap q e ∙ into) in
          omega (arith, count_first p a n, count_first q a n, none, one, weaker p q (a + 1) n h))
    ]

or_either : (a b c : Bool) → (b ≡ true → c ≡ true) → (a || b) ≡ true → (a || c) ≡ true
or_either true b c h e = refl
or_either false b c h e = h e

or_right : (a b : Bool) → b ≡ true → (a || b) ≡ true
or_right true b e = refl
or_right false b e = e

-- what stands among the first slots stands among one more
stands_longer : (i p : ℕ) (slots : List (Option ℕ)) → stands i (take p slots) ≡ true → stands i (take (suc p) slots) ≡ true
unfolding stands
stands_longer i zero slots e = absurd (cc)
stands_longer i (suc p) [] e = absurd (cc)
stands_longer i (suc p) (None ∷ slots) e = stands_longer i p slots e
stands_longer i (suc p) (Some k ∷ slots) e = or_either (i == k) (stands i (take p slots)) (stands i (take (suc p) slots)) (stands_longer i p slots) e

-- and the image of that one more
stands_last : (i p : ℕ) (slots : List (Option ℕ)) → slice_index_or slots p None ≡ Some i → stands i (take (suc p) slots) ≡ true
unfolding stands
stands_last i p [] e = absurd (cc)
stands_last i zero (None ∷ slots) e = absurd (cc)
stands_last i zero (Some k ∷ slots) e = let same : k ≡ i = cc in rw same (ap (λ (b : Bool). b || stands i (take 0 slots)) (eq-eqb i i refl))
stands_last i (suc p) (None ∷ slots) e = stands_last i p slots e
stands_last i (suc p) (Some k ∷ slots) e = or_right (i == k) (stands i (take (suc p) slots)) (stands_last i p slots e)

rest_no : (slots : List (Option ℕ)) (p : ℕ) → p < length slots → slice_index_or slots p None ≡ None → count_by is_some (take (suc p) slots) ≡ count_by is_some (take p slots)
rest_no slots p lt is = let next : p + 1 ≡ suc p = omega arith in rw next at (count_by_more_no is_some slots p None lt (ap is_some is))

rest_yes : (slots : List (Option ℕ)) (p i : ℕ) → p < length slots → slice_index_or slots p None ≡ Some i → count_by is_some (take (suc p) slots) ≡ count_by is_some (take p slots) + 1
rest_yes slots p i lt is = let next : p + 1 ≡ suc p = omega arith in rw next at (count_by_more_yes is_some slots p None lt (ap is_some is))

-- the first slots hold no more images than stand there
held_stand : (geo : Geometry) (images p : ℕ) → is_shaped geo images ≡ true → p ≤ length geo.slots.items →
    held (take p geo.slots.items) ≤ count_by (λ i. stands i (take p geo.slots.items)) (range_with_len 0 images)
unfolding held
held_stand geo images zero shaped le = omega arith
held_stand geo images (suc p) shaped le = one_more (held_stand geo images p shaped (omega arith)) (slice_index_or geo.slots.items p None) refl
  where
    one_more : count_by is_some (take p geo.slots.items) ≤ count_by (λ i. stands i (take p geo.slots.items)) (range_with_len 0 images) →
        (slot : Option ℕ) → slice_index_or geo.slots.items p None ≡ slot →
        count_by is_some (take (suc p) geo.slots.items) ≤ count_by (λ i. stands i (take (suc p) geo.slots.items)) (range_with_len 0 images)
    one_more so_far None is =
        omega (
          arith,
          rest_no geo.slots.items p (omega arith) is,
          weaker (λ i. stands i (take p geo.slots.items)) (λ i. stands i (take (suc p) geo.slots.items)) 0 images (λ x. stands_longer x p geo.slots.items),
          so_far,
        )
    one_more so_far (Some i) is =
        let within : IfSome (slice_index_or geo.slots.items p None) (λ k. k < images) = shaped_images geo images shaped p None (omega arith) in
        let below : i < images = rw is at within in
        omega (
          arith,
          rest_yes geo.slots.items p i (omega arith) is,
          strictly (λ k. stands k (take p geo.slots.items)) (λ k. stands k (take (suc p) geo.slots.items)) 0 images i (λ x. stands_longer x p geo.slots.items) (omega arith) (omega arith)
              (shaped_once geo images p i shaped (omega arith) is) (stands_last i p geo.slots.items is),
          so_far,
        )

-- the slots hold no more images than there are
pub held_few : (geo : Geometry) (images : ℕ) → is_shaped geo images ≡ true → held geo.slots.items ≤ images
held_few geo images shaped =
    let all : take (length geo.slots.items) geo.slots.items ≡ geo.slots.items = take_all (length geo.slots.items) geo.slots.items (omega arith) in
    let few : held geo.slots.items ≤ count_by (λ i. stands i geo.slots.items) (range_with_len 0 images) =
    subst (λ (slots : List (Option ℕ)). held slots ≤ count_by (λ i. stands i slots) (range_with_len 0 images)) all (held_stand geo images (length geo.slots.items) shaped (omega arith)) in
    omega (arith, few, count_by-le-length (λ i. stands i geo.slots.items) (range_with_len 0 images), length-range_with_len 0 images)

-- the first slots hold no more images than all
pub held_within : (slots : List (Option ℕ)) (k : ℕ) → held (take k slots) ≤ held slots
unfolding held
held_within [] zero = omega arith
held_within [] (suc k) = omega arith
held_within (slot ∷ slots) zero = omega arith
held_within (slot ∷ slots) (suc k) =
    omega (arith, sum_by-cons (λ s. cond (is_some s) 1 0) slot (take k slots), sum_by-cons (λ s. cond (is_some s) 1 0) slot slots, held_within slots k)

-- one more slot holds one more image, or none
pub held_next : (slots : List (Option ℕ)) (slot count : ℕ) (d s : Option ℕ) → slot < length slots → get_or slots slot d ≡ s →
    held (take (slot + 1) slots) * count ≡ held (take slot slots) * count + (if is_none s then 0 else count)
unfolding held
held_next slots slot count d None lt is = ap (λ (n : ℕ). n * count) (count_by_more_no is_some slots slot d lt (ap is_some is)) ∙ omega arith
held_next slots slot count d (Some i) lt is =
    ap (λ (n : ℕ). n * count) (count_by_more_yes is_some slots slot d lt (ap is_some is))
    ∙ add-mul (count_by is_some (take slot slots)) 1 count ∙ omega arith

-- the readings so far and of one more member
pub reads_member : (old mid new : Seen) (slots : List (Option ℕ)) (slot count sectors : ℕ) (d s : Option ℕ) → OnlyReads old mid (held (take slot slots) * count) →
    OnlyReads mid new (if is_none s then 0 else sectors) → sectors ≡ count → slot < length slots → get_or slots slot d ≡ s → OnlyReads old new (held (take (slot + 1) slots) * count)
reads_member old mid new slots slot count sectors d s before more are lt is =
    let same : OnlyReads mid new (if is_none s then 0 else count) = rw are at more in
    reads_up old new (reads_join old mid new before same) (omega (arith, held_next slots slot count d s lt is))

-- and of all members, where the rest is not read
pub reads_all : (old new : Seen) (slots : List (Option ℕ)) (k count : ℕ) → OnlyReads old new (held (take k slots) * count) → OnlyReads old new (held slots * count)
reads_all old new slots k count reads = reads_up old new reads (mul-le-mul_right count (held_within slots k))

-- no more sectors are read than of each image that there is
pub reads_images : (old new : Seen) (geo : Geometry) (images rows : ℕ) → is_shaped geo images ≡ true → OnlyReads old new (held geo.slots.items * rows) → OnlyReads old new (images * rows)
reads_images old new geo images rows shaped reads = reads_up old new reads (mul-le-mul_right rows (held_few geo images shaped))

-- the readings so far and of one more block
pub reads_on : (old mid new : Seen) (n first count rows : ℕ) → OnlyReads old mid (n * first) → OnlyReads mid new (n * count) → first + count ≤ rows → OnlyReads old new (n * rows)
reads_on old mid new n first count rows before block within =
    reads_up old new (reads_join old mid new before block) (omega (arith, mul-add n first count, mul-le-mul_left n within))
