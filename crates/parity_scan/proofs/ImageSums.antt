-- P's equation over all images but one.
use Rattle.std.proofs.Common.{ℕ, zero, suc, inl, inr, ◌≡◌, ◌≢◌, ◌<◌, ◌≤◌, ◌+◌, ◌*◌, Bool, true, false, not, cond, List, [], ◌∷◌, length, map, take, set, get_or, bit_xor, replicate, refl, sym, ap, subst, ◌∙◌, arith, add-one, Option, Some, None, IfSome, IsSomeAnd}
use Rattle.std.proofs.Math.ListN.{get_or-eq_default}
use Rattle.std.proofs.lemmas.Bool.{cases_lt}
use Rattle.std.proofs.lemmas.List.{get_or-map, get_or-replicate, get_or-set_other, get_or-set_same, get_or_default, length-map}
use Rattle.gf256.proofs.Sums.{sum_associates, equal_from_sum, sum_commutes, sum_self, sum_zero}
use Rattle.raid_params.specs.declared.types.Cell.{Cell}
use Rattle.raid_terms.specs.Parity.{in_p}
use Rattle.std.specs.Bool.{Decides}
use Rattle.row_parity.specs.Syndromes.{Cancel, known_in, known_sum}
use Rattle.member_regions.specs.ImageSums.{all_sum, IsImageSum, room_byte, sum_byte}
use Rattle.member_regions.specs.Regions.{Room}
use Rattle.member_regions.specs.declared.image_sums.ImageSum.{ImageSum}
use Rattle.member_regions.proofs.ImageSums.{sum_next as all_next, sum_none as all_none}
use Rattle.parity_scan.specs.ImageSums.{AddsAllBut, held_byte, IsUnmarked, marked_sum, slots_column}
use Rattle.parity_scan.specs.declared.left_out.LeftOut.{LeftOut}
use Rattle.parity_scan.specs.declared.left_out.LeftOut.TheVariants.{Nobody, One}

-- a + c is c + a, after b
swap_after : (a b c : ℕ) → bit_xor (bit_xor a b) c ≡ bit_xor (bit_xor a c) b
swap_after a b c = sum_associates a b c ∙ ap (bit_xor a) (sum_commutes b c) ∙ sym (sum_associates a c b)

-- what is added twice is not added
twice_none : (a b : ℕ) → bit_xor (bit_xor a b) b ≡ a
twice_none a b = sum_associates a b b ∙ ap (bit_xor a) (sum_self b) ∙ sum_zero a

zero_sum : (a : ℕ) → bit_xor 0 a ≡ a
zero_sum a = sum_commutes 0 a ∙ sum_zero a

-- no image is marked
pub none_marked : (f : ℕ → ℕ) (marks : List Bool) (n : ℕ) → ((i : ℕ) → get_or marks i false ≡ false) → marked_sum f marks n ≡ 0
unfolding marked_sum
none_marked f marks zero none = refl
none_marked f marks (suc n) none =
    ap (λ (b : Bool). bit_xor (marked_sum f marks n) (cond b (f n) 0)) (none n) ∙ sum_zero (marked_sum f marks n) ∙ none_marked f marks n none

-- marks that are alike below n
alike : (f : ℕ → ℕ) (marks others : List Bool) (n : ℕ) → ((j : ℕ) → j < n → get_or others j false ≡ get_or marks j false) → marked_sum f others n ≡ marked_sum f marks n
unfolding marked_sum
alike f marks others zero same = refl
alike f marks others (suc n) same =
    ap (λ (b : Bool). bit_xor (marked_sum f others n) (cond b (f n) 0)) (same n (omega arith))
    ∙ ap (λ (a : ℕ). bit_xor a (cond (get_or marks n false) (f n) 0)) (alike f marks others n (λ j less. same j (omega arith)))

turned-last : (s a : ℕ) (b : Bool) → bit_xor s (cond (not b) a 0) ≡ bit_xor (bit_xor s (cond b a 0)) a
turned-last s a true = sum_zero s ∙ sym (twice_none s a)
turned-last s a false = ap (λ (x : ℕ). bit_xor x a) (sym (sum_zero s))

-- the mark of one image is turned
turned : (f : ℕ → ℕ) (marks others : List Bool) (n i : ℕ) → i < n → get_or others i false ≡ not (get_or marks i false) →
    ((j : ℕ) → j ≢ i → get_or others j false ≡ get_or marks j false) → marked_sum f others n ≡ bit_xor (marked_sum f marks n) (f i)
unfolding marked_sum
turned f marks others zero i inside here same = absurd (omega arith)
turned f marks others (suc n) i inside here same =
    elim (cases_lt i n) [
      | inl less ↦
          ap (λ (b : Bool). bit_xor (marked_sum f others n) (cond b (f n) 0)) (same n (omega arith))
          ∙ ap (λ (a : ℕ). bit_xor a (cond (get_or marks n false) (f n) 0)) (turned f marks others n i less here same)
          ∙ swap_after (marked_sum f marks n) (f i) (cond (get_or marks n false) (f n) 0)
      | inr more ↦
          (let at : i ≡ n = omega arith in
          let here' : get_or others n false ≡ not (get_or marks n false) = subst (λ (k : ℕ). get_or others k false ≡ not (get_or marks k false)) at here in
          ap (λ (b : Bool). bit_xor (marked_sum f others n) (cond b (f n) 0)) here'
          ∙ ap (λ (a : ℕ). bit_xor a (cond (not (get_or marks n false)) (f n) 0)) (alike f marks others n (λ j less. same j (omega arith)))
          ∙ turned-last (marked_sum f marks n) (f n) (get_or marks n false)
          ∙ ap (λ (k : ℕ). bit_xor (bit_xor (marked_sum f marks n) (cond (get_or marks n false) (f n) 0)) (f k)) (sym at))
    ]

-- the same where it is written
pub mark_turned : (f : ℕ → ℕ) (marks : List Bool) (n i : ℕ) → i < n → n ≤ length marks → marked_sum f (set marks i (not (get_or marks i false))) n ≡ bit_xor (marked_sum f marks n) (f i)
mark_turned f marks n i inside long =
    turned f marks (set marks i (not (get_or marks i false))) n i inside (get_or-set_same marks i (not (get_or marks i false)) false (omega arith))
    (λ j other. get_or-set_other marks i j (not (get_or marks i false)) false other)

-- an image that is not added leaves the sum
pub not_added : (f : ℕ → ℕ) (marks : List Bool) (n image : ℕ) (added : Bool) → added ≡ false → marked_sum f marks n ≡ bit_xor (marked_sum f marks n) (cond added (f image) 0)
not_added f marks n image added none = sym (ap (λ (b : Bool). bit_xor (marked_sum f marks n) (cond b (f image) 0)) none ∙ sum_zero (marked_sum f marks n))

pub is_added_so : (f : ℕ → ℕ) (marks : List Bool) (n image : ℕ) (added : Bool) → added ≡ true → image < n → n ≤ length marks →
    marked_sum f (set marks image (not (get_or marks image false))) n ≡ bit_xor (marked_sum f marks n) (cond added (f image) 0)
is_added_so f marks n image added counts inside long =
    mark_turned f marks n image inside long ∙ ap (λ (b : Bool). bit_xor (marked_sum f marks n) (cond b (f image) 0)) (sym counts)

-- one more cell
pub sum_next : (cells : List Cell) (bytes : List ℕ) (n : ℕ) (d : Cell) → n < length cells → length bytes ≡ length cells →
    known_sum in_p (take (suc n) cells) bytes ≡ bit_xor (known_sum in_p (take n cells) bytes) (known_in in_p (get_or cells n d) (get_or bytes n 0))
unfolding known_sum
sum_next [] bytes n d inside long = absurd (omega arith)
sum_next (cell ∷ cells) [] n d inside long = absurd (omega arith)
sum_next (cell ∷ cells) (byte ∷ bytes) zero d inside long = sum_zero (known_in in_p cell byte) ∙ sym (zero_sum (known_in in_p cell byte))
sum_next (cell ∷ cells) (byte ∷ bytes) (suc n) d inside long =
    ap (bit_xor (known_in in_p cell byte)) (sum_next cells bytes n d (omega arith) (omega arith))
    ∙ sym (sum_associates (known_in in_p cell byte) (known_sum in_p (take n cells) bytes) (known_in in_p (get_or cells n d) (get_or bytes n 0)))

-- no cell
pub sum_none : (bytes : List ℕ) → known_sum in_p [] bytes ≡ 0
unfolding known_sum
sum_none bytes = refl

-- none of no images is not marked
pub unmarked_none : (marks : List Bool) → IsUnmarked marks 0 Nobody
unfolding marked_sum
unmarked_none marks f = sym (all_none f)

-- one more image that is marked
marked_next : (marks : List Bool) (n : ℕ) (out : LeftOut) → get_or marks n false ≡ true → IsUnmarked marks n out → IsUnmarked marks (suc n) out
unfolding marked_sum
marked_next marks n Nobody here is = λ f.
    ap (λ (b : Bool). bit_xor (marked_sum f marks n) (cond b (f n) 0)) here ∙ ap (λ (a : ℕ). bit_xor a (f n)) (is f) ∙ sym (all_next f n)
marked_next marks n (One image) here is = (
  omega (arith, is.0),
  λ f.
      ap (λ (b : Bool). bit_xor (marked_sum f marks n) (cond b (f n) 0)) here ∙ ap (λ (a : ℕ). bit_xor a (f n)) (is.1 f) ∙ swap_after (all_sum f n) (f image) (f n)
      ∙ ap (λ (a : ℕ). bit_xor a (f image)) (sym (all_next f n)),
)

-- the first that is not
unmarked_next : (marks : List Bool) (n : ℕ) → get_or marks n false ≡ false → IsUnmarked marks n Nobody → IsUnmarked marks (suc n) (One n)
unfolding marked_sum
unmarked_next marks n here is = (
  omega arith,
  λ f.
      ap (λ (b : Bool). bit_xor (marked_sum f marks n) (cond b (f n) 0)) here ∙ sum_zero (marked_sum f marks n) ∙ is f ∙ sym (twice_none (all_sum f n) (f n))
      ∙ ap (λ (a : ℕ). bit_xor a (f n)) (sym (all_next f n)),
)

pub unmarked_more : (marks : List Bool) (n : ℕ) (out : LeftOut) → get_or marks n false ≡ true → IsUnmarked marks n out → IsUnmarked marks (n + 1) out
unmarked_more marks n out here is = rw add-one (marked_next marks n out here is)

pub unmarked_first : (marks : List Bool) (n : ℕ) (out : LeftOut) → out ≡ Nobody → get_or marks n false ≡ false → IsUnmarked marks n out → IsUnmarked marks (n + 1) (One n)
unmarked_first marks n out first here is = rw add-one (unmarked_next marks n here (subst (λ (o : LeftOut). IsUnmarked marks n o) first is))

-- the first cells of a row, of which one more is added
added_suc : (f : ℕ → ℕ) (cells : List Cell) (slots : List (Option ℕ)) (marks others : List Bool) (n place image : ℕ) (d : Cell) (added : Bool) →
    place < length cells → length cells ≡ length slots → get_or slots place None ≡ Some image → ((byte : ℕ) → known_in in_p (get_or cells place d) byte ≡ cond added byte 0) →
    marked_sum f others n ≡ bit_xor (marked_sum f marks n) (cond added (f image) 0) →
    known_sum in_p (take place cells) (map (held_byte f) slots) ≡ marked_sum f marks n → known_sum in_p (take (suc place) cells) (map (held_byte f) slots) ≡ marked_sum f others n
added_suc f cells slots marks others n place image d added inside long held counts turns so_far =
    let byte : get_or (map (held_byte f) slots) place 0 ≡ f image = get_or-map (held_byte f) slots place None 0 (omega arith) ∙ ap (held_byte f) held in
    sum_next cells (map (held_byte f) slots) place d inside (length-map slots (held_byte f) ∙ sym long)
    ∙ ap (λ (b : ℕ). bit_xor (known_sum in_p (take place cells) (map (held_byte f) slots)) (known_in in_p (get_or cells place d) b)) byte
    ∙ ap (bit_xor (known_sum in_p (take place cells) (map (held_byte f) slots))) (counts (f image))
    ∙ ap (λ (a : ℕ). bit_xor a (cond added (f image) 0)) so_far ∙ sym turns

pub added_next : (f : ℕ → ℕ) (cells : List Cell) (slots : List (Option ℕ)) (marks others : List Bool) (n place image : ℕ) (d : Cell) (added : Bool) →
    place < length cells → length cells ≡ length slots → get_or slots place None ≡ Some image → ((byte : ℕ) → known_in in_p (get_or cells place d) byte ≡ cond added byte 0) →
    marked_sum f others n ≡ bit_xor (marked_sum f marks n) (cond added (f image) 0) →
    known_sum in_p (take place cells) (map (held_byte f) slots) ≡ marked_sum f marks n → known_sum in_p (take (place + 1) cells) (map (held_byte f) slots) ≡ marked_sum f others n
added_next f cells slots marks others n place image d added inside long held counts turns so_far =
    rw add-one (added_suc f cells slots marks others n place image d added inside long held counts turns so_far)

-- at first no image is marked, and no cell was added
all_clear : (i : ℕ) → get_or (replicate 24 false) i false ≡ false
all_clear i =
    elim (cases_lt i 24) [
      | inl less ↦ get_or-replicate 24 i false false less
      | inr more ↦ get_or-eq_default (replicate 24 false) false more
    ]

pub all_unmarked : (f : ℕ → ℕ) (bytes : List ℕ) (n : ℕ) → known_sum in_p [] bytes ≡ marked_sum f (replicate 24 false) n
all_unmarked f bytes n = sum_none bytes ∙ sym (none_marked f (replicate 24 false) n all_clear)

-- one more slot holds an image
pub one_more_held : (slots : List (Option ℕ)) (place n image : ℕ) → ((i : ℕ) (d : Option ℕ) → i < place → IsSomeAnd (get_or slots i d) (λ k. k < n)) →
    place < length slots → get_or slots place None ≡ Some image → image < n → (i : ℕ) (d : Option ℕ) → i < place + 1 → IsSomeAnd (get_or slots i d) (λ k. k < n)
one_more_held slots place n image before there held inside i d below =
    elim (cases_lt i place) [
      | inl less ↦ before i d less
      | inr more ↦
          (let at : i ≡ place = omega arith in
          let here : get_or slots place d ≡ Some image = get_or_default slots place d None there ∙ held in
          rw (at, here) inside)
    ]

-- P's equation adds up all images
pub told_nobody : (room : Room) (cells : List Cell) (slots : List (Option ℕ)) (n place : ℕ) (sum : ImageSum) (out : LeftOut) → IsImageSum room n place sum → AddsAllBut cells slots n out → out ≡ Nobody →
    Decides sum.is_zero (Cancel in_p cells (slots_column room slots place))
told_nobody room cells slots n place sum out is but first =
    let all : AddsAllBut cells slots n Nobody = subst (λ (o : LeftOut). AddsAllBut cells slots n o) first but in
    (λ holds x below. all (room_byte room (512 * place + x)) ∙ is.zero.0 holds x below, λ cancel. is.zero.1 (λ x below. sym (all (room_byte room (512 * place + x))) ∙ cancel x below))

-- or all but one
pub told_one : (room : Room) (cells : List Cell) (slots : List (Option ℕ)) (n place image : ℕ) (sum : ImageSum) (out : LeftOut) (flag : Bool) → IsImageSum room n place sum → AddsAllBut cells slots n out → out ≡ One image →
    flag ≡ get_or sum.is_image image false → Decides flag (Cancel in_p cells (slots_column room slots place))
told_one room cells slots n place image sum out flag is but first here =
    let all : AddsAllBut cells slots n (One image) = subst (λ (o : LeftOut). AddsAllBut cells slots n o) first but in
    let decides = is.image image all.0 in (
      λ holds x below.
          all.1 (room_byte room (512 * place + x))
          ∙ ap (λ (a : ℕ). bit_xor a (room_byte room (512 * place + x) image)) (decides.0 (sym here ∙ holds) x below) ∙ sum_self (room_byte room (512 * place + x) image),
      λ cancel. here ∙ decides.1 (λ x below. equal_from_sum (sum_byte room n place x) (room_byte room (512 * place + x) image) (sym (all.1 (room_byte room (512 * place + x))) ∙ cancel x below)),
    )

pub told_if_there : (room : Room) (cells : List Cell) (slots : List (Option ℕ)) (n place image : ℕ) (sum : ImageSum) (out : LeftOut) (flag : Option Bool) → IsImageSum room n place sum → AddsAllBut cells slots n out → out ≡ One image →
    IfSome flag (λ f. f ≡ get_or sum.is_image image false) → IfSome flag (λ f. Decides f (Cancel in_p cells (slots_column room slots place)))
told_if_there room cells slots n place image sum out None is but first here = tt
told_if_there room cells slots n place image sum out (Some flag) is but first here = told_one room cells slots n place image sum out flag is but first here
