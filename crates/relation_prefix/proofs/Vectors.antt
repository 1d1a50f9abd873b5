-- The weights of an equation, by image.
use Rattle.std.proofs.Common.{ℕ, ◌≡◌, ◌≢◌, ◌<◌, true, false, nat_eq, cond, List, Option, None, Some, IfSome, length, get_or, map, slice_index_or, refl, sym, ap, ◌∙◌, arith, inl, inr}
use Rattle.std.specs.List.{range_with_len}
use Rattle.std.proofs.lemmas.Bool.{cases_lt, eq-eqb, ne_eqb}
use Rattle.std.proofs.lemmas.List.{get_or_past}
use Rattle.std.proofs.lemmas.List.FromFn.{get_or-map-range_with_len, length-map-range_with_len}
use Rattle.gf256.specs.Field.{product}
use Rattle.gf256.proofs.Products.{product_zero_left}
use Rattle.row_relations.specs.Rows.{byte_of, combined, field_sum, AreBytes}
use Rattle.row_relations.proofs.FieldSums.{sum_is_byte, sum_of_one, sum_of_zeros, sum_same, sum_turns}
use Rattle.row_relations.proofs.Ties.{scales_right}
use Rattle.relation_prefix.proofs.Sums.{share}

-- a weight at the image that a slot holds
pub mine : ℕ → Option ℕ → ℕ → ℕ
mine weight None i = 0
mine weight (Some j) i = cond (nat_eq j i) weight 0

pub mine_own : (weight i : ℕ) → mine weight (Some i) i ≡ weight
unfolding mine
mine_own weight i = ap (λ b. cond b weight 0) (eq-eqb i i refl)

pub mine_other : (weight : ℕ) (held : Option ℕ) (i : ℕ) → (held ≡ Some i → ⊥) → mine weight held i ≡ 0
unfolding mine
mine_other weight None i ne = refl
mine_other weight (Some j) i ne = ap (λ b. cond b weight 0) (ne_eqb j i (λ e. ne (ap (λ (k : ℕ). Some k) e)))

mine_fits : (weight : ℕ) (held : Option ℕ) (i : ℕ) → weight < 256 → mine weight held i < 256
unfolding mine
mine_fits weight None i h = omega arith
mine_fits weight (Some j) i h = elim (nat_eq j i) as (λ b. cond b weight 0 < 256) [ true ↦ h | false ↦ omega arith ]

-- the weight of an image is that of the slot that holds it
pub weight_at : (ℕ → ℕ) → List (Option ℕ) → ℕ → ℕ
weight_at weight slots i = field_sum (length slots) (λ s. mine (weight s) (slice_index_or slots s None) i)

-- the list of them
pub weights : ℕ → (ℕ → ℕ) → List (Option ℕ) → List ℕ
weights images weight slots = map (weight_at weight slots) (range_with_len 0 images)

module _ (images : ℕ) (weight : ℕ → ℕ) (slots : List (Option ℕ)) (fits : (s : ℕ) → weight s < 256) where
  pub weights_long : length (weights images weight slots) ≡ images
  unfolding weights
  weights_long = length-map-range_with_len (weight_at weight slots) 0 images

  pub weights_at : (i : ℕ) → i < images → get_or (weights images weight slots) i 0 ≡ weight_at weight slots i
  unfolding weights
  weights_at i lt = get_or-map-range_with_len (weight_at weight slots) 0 images i i 0 lt (omega arith)

  pub weight_at_fits : (i : ℕ) → weight_at weight slots i < 256
  unfolding weight_at
  weight_at_fits i = sum_is_byte (length slots) (λ s. mine (weight s) (slice_index_or slots s None) i) (λ s lt. mine_fits (weight s) (slice_index_or slots s None) i (fits s))

  pub weights_bytes : AreBytes (weights images weight slots)
  weights_bytes i = elim (cases_lt i images) [
    | inl lt ↦ rw (weights_at i lt) (weight_at_fits i)
    | inr past ↦ rw (get_or_past (weights images weight slots) i 0 (omega (arith, weights_long))) (omega arith)
  ]

  -- a slot that holds an image gives it its weight, where no other slot holds it
  pub weights_held : (s i : ℕ) → i < images → s < length slots → slice_index_or slots s None ≡ Some i → ((other : ℕ) → other ≢ s → slice_index_or slots other None ≡ Some i → ⊥) →
      get_or (weights images weight slots) i 0 ≡ weight s
  unfolding weight_at
  weights_held s i lt in_slots e once =
      weights_at i lt
      ∙ sum_of_one (length slots) s (λ t. mine (weight t) (slice_index_or slots t None) i) in_slots (λ t ne. mine_other (weight t) (slice_index_or slots t None) i (once t ne))
      ∙ ap (λ (o : Option ℕ). mine (weight s) o i) e ∙ mine_own (weight s) i

  -- an image in no slot has none
  pub weights_foreign : (i : ℕ) → i < images → ((s : ℕ) → s < length slots → slice_index_or slots s None ≡ Some i → ⊥) → get_or (weights images weight slots) i 0 ≡ 0
  unfolding weight_at
  weights_foreign i lt none =
      weights_at i lt ∙ sum_of_zeros (length slots) (λ t. mine (weight t) (slice_index_or slots t None) i) (λ t in_slots. mine_other (weight t) (slice_index_or slots t None) i (none t in_slots))

  shared : (byte : ℕ → ℕ) (w : ℕ) (held : Option ℕ) → IfSome held (λ i. i < images) → field_sum images (λ i. product (mine w held i) (byte i)) ≡ share w byte held
  shared byte w None h = sum_of_zeros images (λ i. product (mine w None i) (byte i)) (λ i lt. ap (λ (a : ℕ). product a (byte i)) (mine_other w None i (λ e. cc)) ∙ product_zero_left (byte i))
  shared byte w (Some j) h =
      sum_of_one images j (λ i. product (mine w (Some j) i) (byte i)) h
      (λ i ne. ap (λ (a : ℕ). product a (byte i)) (mine_other w (Some j) i (λ e. ne (let same : j ≡ i = cc in sym same))) ∙ product_zero_left (byte i))
      ∙ ap (λ (a : ℕ). product a (byte j)) (mine_own w j)

  -- what the images add up to with these weights is what the slots do
  pub weights_sum : (sectors : List ℕ) (c : ℕ) → ((s : ℕ) → s < length slots → IfSome (slice_index_or slots s None) (λ i. i < images)) →
      combined images (λ i. get_or (weights images weight slots) i 0) sectors c ≡ field_sum (length slots) (λ s. share (weight s) (λ i. byte_of sectors i c) (slice_index_or slots s None))
  unfolding weight_at
  weights_sum sectors c there =
      let b = λ (i : ℕ). byte_of sectors i c in
      let m = λ (i s : ℕ). mine (weight s) (slice_index_or slots s None) i in
      let n = length slots in
      sum_same images (λ i. product (get_or (weights images weight slots) i 0) (b i)) (λ i. field_sum n (λ s. product (m i s) (b i)))
      (λ i lt. ap (λ (a : ℕ). product a (b i)) (weights_at i lt) ∙ sym (scales_right n (b i) (m i) (λ s in_slots. mine_fits (weight s) (slice_index_or slots s None) i (fits s))))
      ∙ sum_turns images n (λ i s. product (m i s) (b i))
      ∙ sum_same n (λ s. field_sum images (λ i. product (m i s) (b i))) (λ s. share (weight s) b (slice_index_or slots s None))
      (λ s in_slots. shared b (weight s) (slice_index_or slots s None) (there s in_slots))
