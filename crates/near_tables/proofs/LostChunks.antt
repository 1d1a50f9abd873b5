-- Which chunks are lost, and that no more are in the beginning of a slot list than in the list.
use Rattle.std.proofs.Common.{ℕ, zero, suc, ◌≡◌, ◌+◌, ◌*◌, ◌/◌, ◌<◌, ◌≤◌, ◌≢◌, IsTrue, Bool, true, false, ◌&&◌, ◌||◌, List, [], ◌∷◌, take, slice_get, refl, sym, ap, ap₂, ◌∙◌, arith, inl, inr, Option, None, Some}
use Rattle.std.specs.List.{list_all, list_any, range_with_len}
use Rattle.std.proofs.lemmas.Bool.{cases_eq}
use Rattle.std.proofs.lemmas.Nat.{div-mul-add}
use Rattle.raid_params.specs.Slots.{empties}
use Rattle.near_mirror.proofs.Apart.{apart}
use Rattle.near_mirror.proofs.Chunks.{valid_chunk}
use Rattle.near_mirror.specs.Copies.{slot_of}
use Rattle.near_mirror.specs.Heads.{is_valid_near}
use Rattle.near_mirror.specs.declared.types.NearHead.{NearHead}
use Rattle.near_mirror.specs.declared.types.NearSet.{NearSet}
use Rattle.near_tables.proofs.Strips.{none_of, some_of}
use Rattle.near_tables.specs.Torn.{is_gone, is_lost, lost_among, with_slots}

pub all_true : (f : ℕ → Bool) (a n : ℕ) → ((x : ℕ) → a ≤ x → x < a + n → f x ≡ true) → list_all f (range_with_len a n) ≡ true
all_true f a zero h = refl
all_true f a (suc n) h = ap₂ (λ (b c : Bool). b && c) (h a (omega arith) (omega arith)) (all_true f (a + 1) n (λ x low high. h x (omega arith) (omega arith)))

and_false : (b c : Bool) → c ≡ false → (b && c) ≡ false
and_false true c e = e
and_false false c e = refl

pub one_false : (f : ℕ → Bool) (a n x : ℕ) → a ≤ x → x < a + n → f x ≡ false → list_all f (range_with_len a n) ≡ false
one_false f a zero x low high e = absurd (omega arith)
one_false f a (suc n) x low high e = elim (cases_eq a x) [
  | inl here ↦ ap (λ (b : Bool). b && list_all f (range_with_len (a + 1) n)) (ap f here ∙ e)
  | inr ne ↦ and_false (f a) (list_all f (range_with_len (a + 1) n)) (one_false f (a + 1) n x (omega arith) (omega arith) e)
]

all_up : (f g : ℕ → Bool) (xs : List ℕ) → ((x : ℕ) → f x ≡ true → g x ≡ true) → list_all f xs ≡ true → list_all g xs ≡ true
all_up f g [] up e = refl
all_up f g (x ∷ xs) up e = both (f x) (list_all f xs) (g x) (list_all g xs) e (up x) (all_up f g xs up)
  where
    both : (a b c d : Bool) → (a && b) ≡ true → (a ≡ true → c ≡ true) → (b ≡ true → d ≡ true) → (c && d) ≡ true
    both true b c d e up rest = ap₂ (λ (x y : Bool). x && y) (up refl) (rest e)
    both false b c d e up rest = absurd (cc)

any_up : (f g : ℕ → Bool) (xs : List ℕ) → ((x : ℕ) → f x ≡ true → g x ≡ true) → list_any f xs ≡ true → list_any g xs ≡ true
any_up f g [] up e = absurd (cc)
any_up f g (x ∷ xs) up e = either (f x) (list_any f xs) (g x) (list_any g xs) e (up x) (any_up f g xs up)
  where
    or_true : (c : Bool) → (c || true) ≡ true
    or_true true = refl
    or_true false = refl

    either : (a b c d : Bool) → (a || b) ≡ true → (a ≡ true → c ≡ true) → (b ≡ true → d ≡ true) → (c || d) ≡ true
    either true b c d e up rest = ap (λ (x : Bool). x || d) (up refl)
    either false b c d e up rest = ap (λ (y : Bool). c || y) (rest e) ∙ or_true c

-- a slot that is gone in the beginning of a list is gone
gone_front : (k s : ℕ) (slots : List (Option ℕ)) → is_gone (slice_get (take k slots) s) ≡ true → is_gone (slice_get slots s) ≡ true
gone_front zero s slots e = absurd (cc)
gone_front (suc k) s [] e = e
gone_front (suc k) zero (x ∷ slots) e = e
gone_front (suc k) (suc s) (x ∷ slots) e = gone_front k s slots e

lost_up : (head : NearHead) (n k : ℕ) (slots : List (Option ℕ)) → lost_among n (with_slots head (take k slots)) ≡ true → lost_among n (with_slots head slots) ≡ true
unfolding lost_among
lost_up head n k slots = any_up (is_lost (with_slots head (take k slots))) (is_lost (with_slots head slots)) (range_with_len 0 n)
    (λ chunk. all_up (λ copy. is_gone (slice_get (take k slots) (slot_of head.layout.copying head.members head.layout.copies copy chunk)))
    (λ copy. is_gone (slice_get slots (slot_of head.layout.copying head.members head.layout.copies copy chunk))) (range_with_len 0 head.layout.copies)
    (λ copy. gone_front k (slot_of head.layout.copying head.members head.layout.copies copy chunk) slots))

pub none_lost : (head : NearHead) (n k : ℕ) (slots : List (Option ℕ)) → lost_among n (with_slots head slots) ≡ false → lost_among n (with_slots head (take k slots)) ≡ false
none_lost head n k slots none = by_case (lost_among n (with_slots head (take k slots))) refl
  where
    by_case : (b : Bool) → lost_among n (with_slots head (take k slots)) ≡ b → lost_among n (with_slots head (take k slots)) ≡ false
    by_case false e = e
    by_case true e = let bad : true ≡ false = sym (lost_up head n k slots e) ∙ none in absurd (cc)

pub some_lost : (set : NearSet) (n chunk : ℕ) → chunk < n → is_lost set chunk ≡ true → lost_among n set ≡ true
unfolding lost_among
some_lost set n chunk lt e = some_of (is_lost set) 0 n chunk (omega arith) (omega arith) e

pub not_lost : (set : NearSet) (n : ℕ) → ((chunk : ℕ) → chunk < n → is_lost set chunk ≡ false) → lost_among n set ≡ false
unfolding lost_among
not_lost set n none = none_of (is_lost set) 0 n (λ chunk low high. none chunk (omega arith))

-- the list with an image in one more slot
fill : ℕ → List (Option ℕ) → List (Option ℕ)
fill i [] = []
fill zero (x ∷ slots) = Some 0 ∷ slots
fill (suc i) (x ∷ slots) = x ∷ fill i slots

one_fewer : (i : ℕ) (slots : List (Option ℕ)) → is_gone (slice_get slots i) ≡ true → empties slots ≡ empties (fill i slots) + 1
unfolding empties fill
one_fewer i [] e = absurd (cc)
one_fewer zero (None ∷ slots) e = omega arith
one_fewer zero (Some x ∷ slots) e = absurd (cc)
one_fewer (suc i) (None ∷ slots) e = let rest = one_fewer i slots e in omega arith
one_fewer (suc i) (Some x ∷ slots) e = one_fewer i slots e

others_stay : (i j : ℕ) (slots : List (Option ℕ)) → i ≢ j → slice_get (fill i slots) j ≡ slice_get slots j
unfolding fill
others_stay i j [] ne = refl
others_stay zero zero (x ∷ slots) ne = absurd (ne refl)
others_stay zero (suc j) (x ∷ slots) ne = refl
others_stay (suc i) zero (x ∷ slots) ne = refl
others_stay (suc i) (suc j) (x ∷ slots) ne = others_stay i j slots (λ e. ne (ap (λ (k : ℕ). suc k) e))

-- no fewer slots are empty than different ones are gone
many_gone : (k : ℕ) (f : ℕ → ℕ) (slots : List (Option ℕ)) → ((j : ℕ) → j < k → is_gone (slice_get slots (f j)) ≡ true) → ((i j : ℕ) → i < k → j < k → f i ≡ f j → i ≡ j) → k ≤ empties slots
many_gone zero f slots gone differ = omega arith
many_gone (suc k) f slots gone differ =
    let fewer = one_fewer (f k) slots (gone k (omega arith)) in
    let rest = many_gone k f (fill (f k) slots)
    (λ j lt. ap is_gone (others_stay (f k) (f j) slots (λ e. let same = differ k j (omega arith) (omega arith) e in absurd (omega arith))) ∙ gone j (omega arith))
    (λ i j low high e. differ i j (omega arith) (omega arith) e) in
    omega arith

each_true : (f : ℕ → Bool) (n x : ℕ) → list_all f (range_with_len 0 n) ≡ true → x < n → f x ≡ true
each_true f n x all lt = by_case (f x) refl
  where
    by_case : (b : Bool) → f x ≡ b → f x ≡ true
    by_case true e = e
    by_case false e = let bad : true ≡ false = sym all ∙ one_false f 0 n x (omega arith) (omega arith) e in absurd (cc)

-- a chunk whose slots are gone leaves no fewer slots empty than it has copies
lost_empties : (head : NearHead) (chunk : ℕ) (slots : List (Option ℕ)) → IsTrue (is_valid_near head) → is_lost (with_slots head slots) chunk ≡ true → head.layout.copies ≤ empties slots
lost_empties head chunk slots h lost =
    let first : (chunk * head.chunk + 0) / head.chunk ≡ chunk = div-mul-add chunk head.chunk 0 (valid_chunk head h) in
    many_gone head.layout.copies (λ copy. slot_of head.layout.copying head.members head.layout.copies copy chunk) slots
    (λ copy lt. each_true (λ c. is_gone (slice_get slots (slot_of head.layout.copying head.members head.layout.copies c chunk))) head.layout.copies copy lost lt)
    (λ i j low high e. apart head (chunk * head.chunk + 0) i j h low high
    (ap (λ (c : ℕ). slot_of head.layout.copying head.members head.layout.copies i c) first ∙ e ∙ sym (ap (λ (c : ℕ). slot_of head.layout.copying head.members head.layout.copies j c) first)))

-- where fewer slots are empty than there are copies, no chunk is lost
pub few_empty : (head : NearHead) (n : ℕ) (slots : List (Option ℕ)) → IsTrue (is_valid_near head) → empties slots < head.layout.copies → lost_among n (with_slots head slots) ≡ false
few_empty head n slots h few = not_lost (with_slots head slots) n (λ chunk lt. by_case chunk (is_lost (with_slots head slots) chunk) refl)
  where
    by_case : (chunk : ℕ) (b : Bool) → is_lost (with_slots head slots) chunk ≡ b → is_lost (with_slots head slots) chunk ≡ false
    by_case chunk false e = e
    by_case chunk true e = absurd (let many = lost_empties head chunk slots h e in omega arith)
