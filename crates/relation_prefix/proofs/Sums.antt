-- The sum of an equation over the cells of a row, by the slots.
use Rattle.std.proofs.Common.{ℕ, zero, suc, ◌≡◌, ◌<◌, ◌+◌, List, [], ◌∷◌, Option, None, Some, IfSome, length, map, slice_index_or, refl, sym, ap, ◌∙◌, arith, bit_xor}
use Rattle.std.specs.List.{All}
use Rattle.gf256.specs.Field.{power_of, product}
use Rattle.gf256.proofs.Sums.{sum_associates, sum_commutes, sum_fits}
use Rattle.gf256.proofs.Products.{additive_left, associates, product_fits, product_zero, product_zero_left}
use Rattle.gf256.proofs.Powers.{commutes, power_fits, product_one}
use Rattle.raid_params.specs.declared.types.Head.{Head}
use Rattle.raid_params.specs.declared.types.Part.{Part}
use Rattle.raid_params.specs.declared.types.Part.TheVariants.{Block, P, Q}
use Rattle.raid_terms.specs.Cells.{cells_from, part_of}
use Rattle.raid_terms.specs.Parity.{in_p, in_q}
use Rattle.row_parity.specs.Syndromes.{known_in, known_sum}
use Rattle.row_relations.specs.Rows.{field_sum}
use Rattle.row_relations.proofs.FieldSums.{both, next_sum, no_sum, sum_same, sum_scales, sum_splits}
use Rattle.relation_prefix.specs.declared.equation.Equation.{Equation}
use Rattle.relation_prefix.specs.declared.equation.Equation.TheVariants.{OfP, OfQ, QByP}
use Rattle.relation_prefix.specs.Equations.{weight_in, weight_in_p, weight_in_q}
use Rattle.relation_prefix.proofs.Columns.{Cancels}

pub sum_front : (n : ℕ) (f : ℕ → ℕ) → field_sum (suc n) f ≡ bit_xor (f 0) (field_sum n (λ i. f (suc i)))
sum_front zero f =
    next_sum 0 f ∙ ap (λ (x : ℕ). bit_xor x (f 0)) (no_sum f) ∙ sum_commutes 0 (f 0) ∙ ap (bit_xor (f 0)) (sym (no_sum (λ i. f (suc i))))
sum_front (suc n) f =
    next_sum (suc n) f ∙ ap (λ (x : ℕ). bit_xor x (f (suc n))) (sum_front n f) ∙ sum_associates (f 0) (field_sum n (λ i. f (suc i))) (f (suc n))
    ∙ ap (bit_xor (f 0)) (sym (next_sum n (λ i. f (suc i))))

-- what a slot of this weight adds
abbrev pub share : ℕ → (ℕ → ℕ) → Option ℕ → ℕ
share weight byte None = 0
share weight byte (Some i) = product weight (byte i)

p_fits : (part : Part) → weight_in_p part < 256
p_fits (Block k) = omega arith
p_fits P = omega arith
p_fits Q = omega arith

q_fits : (part : Part) → weight_in_q part < 256
q_fits (Block k) = power_fits k
q_fits P = omega arith
q_fits Q = omega arith

pub weight_fits : (equation : Equation) (part : Part) → weight_in equation part < 256
weight_fits OfP part = p_fits part
weight_fits OfQ part = q_fits part
weight_fits (QByP k) part = sum_fits (weight_in_q part) (product (power_of k) (weight_in_p part)) (q_fits part) (product_fits (power_of k) (weight_in_p part) (power_fits k))

one_times : (x : ℕ) → x < 256 → product 1 x ≡ x
one_times x h = commutes 1 x (omega arith) h ∙ product_one x h

p_adds : (part : Part) (x : ℕ) → x < 256 → in_p part x ≡ product (weight_in_p part) x
p_adds (Block k) x h = sym (one_times x h)
p_adds P x h = sym (one_times x h)
p_adds Q x h = sym (product_zero_left x)

q_adds : (part : Part) (x : ℕ) → x < 256 → in_q part x ≡ product (weight_in_q part) x
q_adds (Block k) x h = refl
q_adds P x h = sym (product_zero_left x)
q_adds Q x h = sym (one_times x h)

cell_adds : (adds : Part → ℕ → ℕ) (weight : Part → ℕ) → ((part : Part) (x : ℕ) → x < 256 → adds part x ≡ product (weight part) x) → (part : Part) (f : Option ℕ → ℕ) (b : ℕ → ℕ) (held : Option ℕ) →
    ((i : ℕ) → f (Some i) ≡ b i) → IfSome held (λ i. b i < 256) → known_in adds (record { part = part; missing = Rattle.std.specs.Option.is_none held }) (f held) ≡ share (weight part) b held
cell_adds adds weight same part f b None e h = refl
cell_adds adds weight same part f b (Some i) e h = ap (adds part) (e i) ∙ same part (b i) h

known_by_slots : (adds : Part → ℕ → ℕ) (weight : Part → ℕ) → ((part : Part) (x : ℕ) → x < 256 → adds part x ≡ product (weight part) x) → (head : Head) (row a : ℕ) (slots : List (Option ℕ))
    (f : Option ℕ → ℕ) (b : ℕ → ℕ) → ((i : ℕ) → f (Some i) ≡ b i) → ((s : ℕ) → s < length slots → IfSome (slice_index_or slots s None) (λ i. b i < 256)) →
    known_sum adds (cells_from head row a slots) (map f slots) ≡ field_sum (length slots) (λ s. share (weight (part_of head row (a + s))) b (slice_index_or slots s None))
unfolding known_sum
known_by_slots adds weight same head row a [] f b e h = sym (no_sum (λ s. share (weight (part_of head row (a + s))) b (slice_index_or [] s None)))
known_by_slots adds weight same head row a (held ∷ slots) f b e h =
    let g = λ (s : ℕ). share (weight (part_of head row (a + s))) b (slice_index_or (held ∷ slots) s None) in
    let here : a ≡ a + 0 = omega arith in
    both (known_in adds (record { part = part_of head row a; missing = Rattle.std.specs.Option.is_none held }) (f held)) (known_sum adds (cells_from head row (a + 1) slots) (map f slots))
    (g 0) (field_sum (length slots) (λ s. g (suc s)))
    (cell_adds adds weight same (part_of head row a) f b held e (h 0 (omega arith)) ∙ ap (λ (k : ℕ). share (weight (part_of head row k)) b held) here)
    (known_by_slots adds weight same head row (a + 1) slots f b e (λ s lt. h (suc s) (omega arith))
    ∙ sum_same (length slots) (λ s. share (weight (part_of head row (a + 1 + s))) b (slice_index_or slots s None)) (λ s. g (suc s))
    (λ s lt. (let next : a + 1 + s ≡ a + suc s = omega arith in ap (λ (k : ℕ). share (weight (part_of head row k)) b (slice_index_or slots s None)) next)))
    ∙ sym (sum_front (length slots) g)

-- the shares of both weights
both_share : (v w a : ℕ) (b : ℕ → ℕ) (held : Option ℕ) → v < 256 → w < 256 → a < 256 → share (bit_xor v (product a w)) b held ≡ bit_xor (share v b held) (product a (share w b held))
both_share v w a b None hv hw ha = sym (ap (bit_xor 0) (product_zero a))
both_share v w a b (Some i) hv hw ha =
    additive_left v (product a w) (b i) hv (product_fits a w ha) ∙ ap (bit_xor (product v (b i))) (associates a w (b i) ha hw)

-- an equation that cancels, by the slots
pub cancels_by_slots : (equation : Equation) (head : Head) (row : ℕ) (slots : List (Option ℕ)) (f : Option ℕ → ℕ) (b : ℕ → ℕ) → ((i : ℕ) → f (Some i) ≡ b i) →
    ((s : ℕ) → s < length slots → IfSome (slice_index_or slots s None) (λ i. b i < 256)) → Cancels equation (cells_from head row 0 slots) (map f slots) →
    field_sum (length slots) (λ s. share (weight_in equation (part_of head row (0 + s))) b (slice_index_or slots s None)) ≡ 0
cancels_by_slots OfP head row slots f b e h cancels = sym (known_by_slots in_p weight_in_p p_adds head row 0 slots f b e h) ∙ cancels
cancels_by_slots OfQ head row slots f b e h cancels = sym (known_by_slots in_q weight_in_q q_adds head row 0 slots f b e h) ∙ cancels
cancels_by_slots (QByP k) head row slots f b e h cancels =
    let n = length slots in
    let v = λ (s : ℕ). weight_in_q (part_of head row (0 + s)) in
    let w = λ (s : ℕ). weight_in_p (part_of head row (0 + s)) in
    let held = λ (s : ℕ). slice_index_or slots s None in
    let a = power_of k in
    sum_same n (λ s. share (bit_xor (v s) (product a (w s))) b (held s)) (λ s. bit_xor (share (v s) b (held s)) (product a (share (w s) b (held s))))
    (λ s lt. both_share (v s) (w s) a b (held s) (q_fits (part_of head row (0 + s))) (p_fits (part_of head row (0 + s))) (power_fits k))
    ∙ sum_splits n (λ s. share (v s) b (held s)) (λ s. product a (share (w s) b (held s)))
    ∙ ap (bit_xor (field_sum n (λ s. share (v s) b (held s)))) (sum_scales n a (λ s. share (w s) b (held s)) (power_fits k))
    ∙ both (field_sum n (λ s. share (v s) b (held s))) (product a (field_sum n (λ s. share (w s) b (held s))))
    (known_sum in_q (cells_from head row 0 slots) (map f slots)) (product a (known_sum in_p (cells_from head row 0 slots) (map f slots)))
    (sym (known_by_slots in_q weight_in_q q_adds head row 0 slots f b e h)) (ap (product a) (sym (known_by_slots in_p weight_in_p p_adds head row 0 slots f b e h)))
    ∙ cancels
