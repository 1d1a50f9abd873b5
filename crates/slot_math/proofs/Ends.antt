-- The ends with which a prefix goes on, counted.
use Rattle.std.proofs.Common.{ℕ, ◌≡◌, ◌+◌, ◌-◌, List, [], ◌∷◌, ◌++◌, length, refl, sym, ap, ◌∙◌, arith, Bool, true, false, ◌&&◌, not, add-zero, Option, Some, None}
use Rattle.std.proofs.lemmas.Bool.{and_parts, not-true}
use Rattle.search_terms.specs.SlotLists.{all_lists, is_kept}
use Rattle.raid_params.specs.Slots.{is_distinct, stands, empties}
use Rattle.slot_math.specs.Ways.{ways, ends, AllImages}
use Rattle.slot_math.specs.declared.space.Space.{Space}
use Rattle.slot_math.proofs.Sums.{passing, length-filter, passing_same, passing_none}
use Rattle.slot_math.proofs.Count.{seen_in, follows, count_is, AllSeen}
use Rattle.slot_math.proofs.Kept.{kept_is, apart, apart_more, nothing_seen}

-- the images seen after the list
unfoldable seen_from : List ℕ → List (Option ℕ) → List ℕ
seen_from seen [] = seen
seen_from seen (None ∷ l) = seen_from seen l
seen_from seen (Some i ∷ l) = seen_from (i ∷ seen) l

-- the list may follow, whatever its empty places
unfoldable fresh : List ℕ → List (Option ℕ) → Bool
fresh seen [] = true
fresh seen (None ∷ l) = fresh seen l
fresh seen (Some i ∷ l) = not (seen_in i seen) && fresh (i ∷ seen) l

follows_fresh : (low high : ℕ) (seen : List ℕ) (e : ℕ) (p l : List (Option ℕ)) → follows low high seen e (p ++ l) ≡ (fresh seen p && follows low high (seen_from seen p) (e + empties p) l)
unfolding follows fresh seen_from empties
follows_fresh low high seen e [] l = ap (λ (k : ℕ). follows low high seen k l) (sym (add-zero e))
follows_fresh low high seen e (None ∷ p) l = follows_fresh low high seen (e + 1) p l ∙ ap (λ (k : ℕ). fresh seen p && follows low high (seen_from seen p) k l) (let q : e + 1 + empties p ≡ e + (1 + empties p) = omega arith in q)
follows_fresh low high seen e (Some i ∷ p) l = ap (λ (b : Bool). not (seen_in i seen) && b) (follows_fresh low high (i ∷ seen) e p l) ∙ regroup (seen_in i seen) (fresh (i ∷ seen) p) (follows low high (seen_from (i ∷ seen) p) (e + empties p) l)
  where
    regroup : (s f r : Bool) → (not s && (f && r)) ≡ ((not s && f) && r)
    regroup true f r = refl
    regroup false f r = refl

all_seen : (n : ℕ) (seen : List ℕ) (p : List (Option ℕ)) → AllImages n p → fresh seen p ≡ true → AllSeen n seen → AllSeen n (seen_from seen p)
unfolding fresh seen_from
all_seen n seen [] ok f all = all
all_seen n seen (None ∷ p) ok f all = all_seen n seen p ok f all
all_seen n seen (Some i ∷ p) ok f all =
    let h = and_parts (not (seen_in i seen)) (fresh (i ∷ seen) p) f in
    all_seen n (i ∷ seen) p ok.1 h.1 (ok.0, not-true (seen_in i seen) h.0, all)

seen_length : (seen : List ℕ) (p : List (Option ℕ)) → length (seen_from seen p) + empties p ≡ length seen + length p
unfolding seen_from empties
seen_length seen [] = refl
seen_length seen (None ∷ p) = let h : length (seen_from seen p) + empties p ≡ length seen + length p = seen_length seen p in omega arith
seen_length seen (Some i ∷ p) = let h : length (seen_from (i ∷ seen) p) + empties p ≡ length (i ∷ seen) + length p = seen_length (i ∷ seen) p in omega arith

-- the count, by what may follow the prefix
counted : (s : Space) (p : List (Option ℕ)) →
    length (ends s p) ≡ passing (λ l. fresh [] p && follows s.low s.high (seen_from [] p) (0 + empties p) l) (all_lists s.images (s.members - length p))
unfolding ends
counted s p =
    length-filter (λ l. is_kept s.low s.high (p ++ l)) (all_lists s.images (s.members - length p))
    ∙ passing_same (λ l. is_kept s.low s.high (p ++ l)) (λ l. fresh [] p && follows s.low s.high (seen_from [] p) (0 + empties p) l) (all_lists s.images (s.members - length p))
    (λ l. kept_is s.low s.high (p ++ l) ∙ follows_fresh s.low s.high [] 0 p l)

fresh_distinct : (seen : List ℕ) (p : List (Option ℕ)) → fresh seen p ≡ (apart seen p && is_distinct p)
unfolding fresh apart is_distinct
fresh_distinct seen [] = refl
fresh_distinct seen (None ∷ p) = fresh_distinct seen p
fresh_distinct seen (Some i ∷ p) =
    ap (λ (b : Bool). not (seen_in i seen) && b) (fresh_distinct (i ∷ seen) p ∙ ap (λ (b : Bool). b && is_distinct p) (apart_more i seen p))
    ∙ regroup (seen_in i seen) (stands i p) (apart seen p) (is_distinct p)
  where
    regroup : (s t q d : Bool) → (not s && ((not t && q) && d)) ≡ ((not s && q) && (not t && d))
    regroup true t q d = refl
    regroup false true true d = refl
    regroup false true false d = refl
    regroup false false true d = refl
    regroup false false false d = refl

fresh_if : (p : List (Option ℕ)) → fresh [] p ≡ is_distinct p
fresh_if p = fresh_distinct [] p ∙ ap (λ (b : Bool). b && is_distinct p) (nothing_seen p)

-- a list with an image twice has no ends
pub no_ends : (s : Space) (p : List (Option ℕ)) → is_distinct p ≡ false → length (ends s p) ≡ 0
no_ends s p h =
    let ls = all_lists s.images (s.members - length p) in
    counted s p
    ∙ passing_same (λ l. fresh [] p && follows s.low s.high (seen_from [] p) (0 + empties p) l) (λ l. false) ls
    (λ l. ap (λ (b : Bool). b && follows s.low s.high (seen_from [] p) (0 + empties p) l) (fresh_if p ∙ h))
    ∙ passing_none ls

-- the ends of different images
pub ends_are : (s : Space) (p : List (Option ℕ)) → AllImages s.images p → is_distinct p ≡ true →
    length (ends s p) ≡ ways s.low s.high (s.images - (length p - empties p)) (s.members - length p) (empties p)
ends_are s p ok h =
    let ls = all_lists s.images (s.members - length p) in
    let seen = seen_from [] p in
    let len : length (seen_from [] p) + empties p ≡ 0 + length p = seen_length [] p in
    let u : s.images - length (seen_from [] p) ≡ s.images - (length p - empties p) = omega arith in
    counted s p
    ∙ passing_same (λ l. fresh [] p && follows s.low s.high seen (0 + empties p) l) (follows s.low s.high seen (0 + empties p)) ls
    (λ l. ap (λ (b : Bool). b && follows s.low s.high seen (0 + empties p) l) (fresh_if p ∙ h))
    ∙ count_is s.low s.high s.images (s.members - length p) seen (0 + empties p) (all_seen s.images [] p ok (fresh_if p ∙ h) tt)
    ∙ ap (λ (k : ℕ). ways s.low s.high k (s.members - length p) (0 + empties p)) u
    ∙ ap (ways s.low s.high (s.images - (length p - empties p)) (s.members - length p)) (let q : 0 + empties p ≡ empties p = omega arith in q)
