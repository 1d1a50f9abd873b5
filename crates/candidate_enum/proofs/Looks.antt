-- A look at one of the prefixes of one place more, by how many lists begin with it.
use Rattle.std.proofs.Common.{Bool, refl, ap₂, ◌*◌, ◌&&◌, cond, nat_le, zero, suc, max, min, ◌<◌, ℕ, ◌≡◌, ◌≤◌, ◌+◌, ◌-◌, ◌^◌, List, [], ◌∷◌, ◌++◌, length, sym, ap, ◌∙◌, arith, true, false, Option, Some, None, subst}
use Rattle.raid_params.specs.declared.limits.TheConstants.{MOST}
use Rattle.std.specs.Int.{bit_at}
use Rattle.std.proofs.lemmas.Bool.{le-ltb, lt-leb}
use Rattle.std.proofs.Math.Nat.{mul-zero}
use Rattle.raid_params.specs.Slots.{stands, empties}
use Rattle.slot_math.proofs.Fronts.{used_image, room}
use Rattle.slot_math.specs.Ways.{ends, IsPlace, ways}
use Rattle.candidate_enum.specs.Survivors.{Question}
use Rattle.candidate_enum.specs.Counts.{ways_on}
use Rattle.candidate_enum.specs.Kept.{IsKept}
use Rattle.candidate_enum.specs.Left.{Left, overlaps, left_children, index_of, IsSearch, StandsAt, IsFound, IsPassed, Looked}
use Rattle.candidate_enum.proofs.Counting.{image_counted, empty_counted, start_counted}
use Rattle.candidate_enum.proofs.Keeping.{free_image, taken_image}
use Rattle.candidate_enum.proofs.Moves.{found, passed, all_passed}
use Rattle.candidate_enum.proofs.Turns.{child_fits}

-- how many lists begin with the next one
pub record Counted (q : Question) (p : List (Option ℕ)) (j : ℕ) (y : Option ℕ) (count : ℕ) : Type 0 where
  pub place : IsPlace q.space.images y
  pub index : j ≡ index_of q.space.images y
  pub lists : count ≡ length (ends q.space (p ++ y ∷ []))

pub look_fits : (q : Question) (p : List (Option ℕ)) (old : Left) (j at count : ℕ) (y : Option ℕ) → IsSearch q.space q.from q.stop → Looked q p old j at → Counted q p j y count → at + count ≤ (MOST + 1) ^ MOST
look_fits q p old j at count y w l n =
    let h : at + length (ends q.space (p ++ y ∷ [])) ≤ (MOST + 1) ^ MOST = child_fits q p j at y w l.parent n.place n.index in
    let e : count ≡ length (ends q.space (p ++ y ∷ [])) = n.lists in
    omega arith

pub look_found : (q : Question) (p new : List (Option ℕ)) (old : Left) (j at rank count : ℕ) (y : Option ℕ) → Looked q p old j at → Counted q p j y count → overlaps q.from q.stop at count ≡ true →
    new ≡ p ++ y ∷ [] → rank ≡ at → IsFound q old new rank
look_found q p new old j at rank count y l n met e f =
    let h = found q p j at y l.parent n.place n.index (ap (overlaps q.from q.stop at) (sym n.lists) ∙ met) in
    let P : List (Option ℕ) → Type 0 = λ t. IsFound q old t at in
    let Q : ℕ → Type 0 = λ r. IsFound q old new r in
    subst Q (sym f) (subst P (sym e) (record { same = l.same ∙ h.0; stands = h.1 }))

pub look_passed : (q : Question) (p : List (Option ℕ)) (old : Left) (j at count : ℕ) (y : Option ℕ) → IsSearch q.space q.from q.stop → Looked q p old j at → Counted q p j y count →
    overlaps q.from q.stop at count ≡ false → Looked q p old (j + 1) (at + count)
look_passed q p old j at count y w l n none =
    let h = passed q p j at y w l.parent n.place n.index (ap (overlaps q.from q.stop at) (sym n.lists) ∙ none) in
    let P : ℕ → Type 0 = λ k. Looked q p old (j + 1) (at + k) in
    subst P (sym n.lists) (record { same = l.same ∙ h.0; parent = h.1 })

pub look_done : (q : Question) (p new : List (Option ℕ)) (old : Left) (j at : ℕ) → Looked q p old j at → j ≡ q.space.images + 1 → new ≡ p → IsPassed q old new at
look_done q p new old j at l e s =
    let h = all_passed q p j at l.parent e in
    let P : List (Option ℕ) → Type 0 = λ t. IsPassed q old t at in
    subst P (sym s) (record { same = l.same ∙ h.0; done = h.1 })

-- images that stand in the prefix are passed over
look_one : (q : Question) (p : List (Option ℕ)) (old : Left) (j at : ℕ) → IsSearch q.space q.from q.stop → Looked q p old j at → j < q.space.images → stands j p ≡ true → Looked q p old (j + 1) at
look_one q p old j at w l lt taken =
    let P : ℕ → Type 0 = λ k. Looked q p old (j + 1) k in
    subst P (let e : at + 0 ≡ at = omega arith in e)
    (look_passed q p old j at 0 (Some j) w l (record { place = lt; index = refl; lists = used_image q.space p j taken }) (le-ltb (max q.from at) (min q.stop (at + 0)) (omega arith)))

look_over : (q : Question) (p : List (Option ℕ)) (old : Left) (j at n : ℕ) → IsSearch q.space q.from q.stop → Looked q p old j at → j + n ≤ q.space.images →
    ((i : ℕ) → j ≤ i → i < j + n → stands i p ≡ true) → Looked q p old (j + n) at
look_over q p old j at zero w l le taken =
    let P : ℕ → Type 0 = λ k. Looked q p old k at in
    subst P (let e : j ≡ j + 0 = omega arith in e) l
look_over q p old j at (suc n) w l le taken =
    let P : ℕ → Type 0 = λ k. Looked q p old k at in
    subst P (let e : j + 1 + n ≡ j + suc n = omega arith in e)
    (look_over q p old (j + 1) at n w (look_one q p old j at w l (omega arith) (taken j (omega arith) (omega arith))) (omega arith) (λ i lo hi. taken i (omega arith) (omega arith)))

pub look_on : (q : Question) (p : List (Option ℕ)) (old : Left) (j k at free empty : ℕ) → IsSearch q.space q.from q.stop → IsKept p free empty → Looked q p old j at → j ≤ k → k ≤ q.space.images →
    ((i : ℕ) → j ≤ i → i < k → bit_at free i ≡ 0) → Looked q p old k at
look_on q p old j k at free empty w kept l le most taken =
    let images : q.space.images ≤ MOST = w.images in
    let P : ℕ → Type 0 = λ i. Looked q p old i at in
    let e : j + (k - j) ≡ k = omega arith in
    subst P e (look_over q p old j at (k - j) w l (omega arith) (λ i lo hi. taken_image p free empty i kept (omega arith) (taken i lo (omega arith))))

-- the lists with an image more, and with an empty place more
room_for : (q : Question) (p : List (Option ℕ)) (free empty : ℕ) → IsKept p free empty → empty ≤ length p
room_for q p free empty kept = let r : empties p ≤ length p = room p in let e : empty ≡ empties p = kept.places in omega arith

pub image_within : (q : Question) (p : List (Option ℕ)) (free empty count : ℕ) → IsKept p free empty → length p < q.space.members → count ≡ length p → q.space.members - count - 1 + empty ≤ q.space.members
image_within q p free empty count kept short e = let r : empty ≤ length p = room_for q p free empty kept in omega arith

pub empty_within : (q : Question) (p : List (Option ℕ)) (free empty count : ℕ) → IsKept p free empty → length p < q.space.members → count ≡ length p → q.space.members - count - 1 + (empty + 1) ≤ q.space.members
empty_within q p free empty count kept short e = let r : empty ≤ length p = room_for q p free empty kept in omega arith

pub here_within : (q : Question) (p : List (Option ℕ)) (free empty count : ℕ) → IsKept p free empty → length p ≤ q.space.members → count ≡ length p → q.space.members - count + empty ≤ q.space.members
here_within q p free empty count kept short e = let r : empty ≤ length p = room_for q p free empty kept in omega arith

pub few_empty : (p : List (Option ℕ)) (free empty members : ℕ) → IsKept p free empty → length p ≤ members → members ≤ MOST → empty + 1 < 2 ^ 64
few_empty p free empty members kept short few = let r : empties p ≤ length p = room p in let e : empty ≡ empties p = kept.places in omega arith

-- how many lists go on from the prefix at which a walk stands
pub standing_count : (q : Question) (p : List (Option ℕ)) (rank free empty places count : ℕ) → IsKept p free empty → StandsAt q p rank → places ≡ length p → count ≡ ways_on q.space (q.space.members - places) empty →
    count ≡ length (ends q.space p)
standing_count q p rank free empty places count kept s n e =
    e ∙ ap₂ (λ (k m : ℕ). ways_on q.space (q.space.members - k) m) n kept.places ∙ start_counted q.space p s.start s.short

-- no list goes on with more empty places than there may be
ways_over : (low high u m e : ℕ) → high < e → 0 ≡ ways low high u m e
unfolding ways
ways_over low high u zero e h = sym (ap (λ (b : Bool). cond (nat_le low e && b) 1 0) (lt-leb e high h) ∙ ap (λ (b : Bool). cond b 1 0) (neither (nat_le low e)))
  where
    neither : (b : Bool) → (b && false) ≡ false
    neither true = refl
    neither false = refl
ways_over low high u (suc m) e h =
    let a : 0 ≡ ways low high (u - 1) m e = ways_over low high (u - 1) m e h in
    let b : 0 ≡ ways low high u m (e + 1) = ways_over low high u m (e + 1) (omega arith) in
    let z : u * 0 ≡ 0 = mul-zero u in
    sym (ap₂ (λ (x y : ℕ). u * x + y) (sym a) (sym b) ∙ (omega arith))

pub counted_image : (q : Question) (p : List (Option ℕ)) (old : Left) (at free empty image count : ℕ) → IsSearch q.space q.from q.stop → IsKept p free empty → Looked q p old image at →
    image < q.space.images → bit_at free image ≡ 1 → count ≡ ways_on q.space (q.space.members - length p - 1) empty → Counted q p image (Some image) count
counted_image q p old at free empty image count w kept l lt set e =
    let images : q.space.images ≤ MOST = w.images in
    record {
      place = lt;
      index = refl;
      lists = e ∙ ap (ways_on q.space (q.space.members - length p - 1)) kept.places
          ∙ image_counted q.space p image l.parent.start l.parent.short lt (free_image p free empty image kept (omega arith) set);
    }

pub counted_empty : (q : Question) (p : List (Option ℕ)) (old : Left) (at free empty count : ℕ) → IsKept p free empty → Looked q p old q.space.images at →
    count ≡ ways_on q.space (q.space.members - length p - 1) (empty + 1) → Counted q p q.space.images None count
counted_empty q p old at free empty count kept l e =
    record {
      place = tt;
      index = refl;
      lists = e ∙ ap (λ (k : ℕ). ways_on q.space (q.space.members - length p - 1) (k + 1)) kept.places
          ∙ empty_counted q.space p l.parent.start l.parent.short;
    }

-- where no more places may be empty
pub over_empty : (q : Question) (p : List (Option ℕ)) (old : Left) (at free empty : ℕ) → IsSearch q.space q.from q.stop → IsKept p free empty → Looked q p old q.space.images at → q.space.high ≤ empty →
    IsPassed q old p at
over_empty q p old at free empty w kept l h =
    let n = counted_empty q p old at free empty 0 kept l (ways_over q.space.low q.space.high (q.space.images + (empty + 1) + (q.space.members - length p - 1) - q.space.members) (q.space.members - length p - 1) (empty + 1) (omega arith)) in
    let past = look_passed q p old q.space.images at 0 None w l n (le-ltb (max q.from at) (min q.stop (at + 0)) (omega arith)) in
    let P : ℕ → Type 0 = λ k. Looked q p old (q.space.images + 1) k in
    look_done q p p old (q.space.images + 1) at (subst P (let e : at + 0 ≡ at = omega arith in e) past) refl refl

-- what was found from a later filling on
pub found_after : (q : Question) (p new : List (Option ℕ)) (old : Left) (j at rank : ℕ) → Looked q p old j at → IsFound q (left_children q p j at) new rank → IsFound q old new rank
found_after q p new old j at rank l f = record { same = l.same ∙ f.same; stands = f.stands }

pub passed_after : (q : Question) (p new : List (Option ℕ)) (old : Left) (j at rank : ℕ) → Looked q p old j at → IsPassed q (left_children q p j at) new rank → IsPassed q old new rank
passed_after q p new old j at rank l f = record { same = l.same ∙ f.same; done = f.done }
