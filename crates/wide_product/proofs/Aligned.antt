-- Where a part stands among those of its plan.
use Rattle.std.proofs.Common.{rules, ℕ, zero, suc, true, ◌≡◌, ◌<◌, ◌+◌, ◌-◌, ◌*◌, List, [], ◌∷◌, ◌++◌, length, map, refl, sym, ap, ◌∙◌, arith, append_assoc, Option, Some, slice_get, option_map, get_or, Contains, All}
use Rattle.std.proofs.lemmas.List.Elements.{All-head, All-tail}
use Rattle.std.proofs.lemmas.Option.{slice_get_read, slice_get-get_or}
use Rattle.std.specs.List.{flat_map}
use Rattle.raid_params.specs.Bases.{greatest_base}
use Rattle.raid_params.specs.declared.types.Geometry.{Geometry}
use Rattle.raid_params.specs.declared.types.Head.{Head}
use Rattle.search_plan.specs.Plans.{IsPlan}
use Rattle.search_plan.specs.declared.plan.Plan.{Plan}
use Rattle.set_product.proofs.Pairs.{pair_at}
use Rattle.set_product.proofs.Spaces.{lists_fit}
use Rattle.set_product.specs.Pairs.{pairs}
use Rattle.slot_math.proofs.Nested.{get_high, get_low, get-map, length-map}
use Rattle.slot_math.specs.Space.{lists_of}
use Rattle.slot_math.specs.declared.space.Space.{Space}
use Rattle.wide_product.proofs.Lists.{more}
use Rattle.wide_product.proofs.PartAt.{wide_are}
use Rattle.wide_product.proofs.Spread.{based_set, lists}
use Rattle.wide_product.proofs.Undo.{ranked_wide}
use Rattle.wide_product.proofs.Walks.{flat_append, flat_flat, flat_of_map, flat_same, map_map}
use Rattle.wide_product.specs.Bases.{base_lists}
use Rattle.wide_product.specs.Groups.{bases_of}
use Rattle.wide_product.specs.Laws.{PartsMakeTheProduct}
use Rattle.wide_product.specs.Parts.{parts_of, IsPartOf}
use Rattle.wide_product.specs.Sets.{sets_over, starts, wide_sets, Based}
use Rattle.wide_product.specs.declared.parts.Part.{Part}

-- all that stands in some lists, one after another
abbrev pub flat : {A : Type 0} → List (List A) → List A
flat lists = flat_map (λ xs. xs) lists

-- the product is its parts
pub parts_make : PartsMakeTheProduct
parts_make plan each =
    let n = length plan.lengths.items in
    wide_are plan each
    ∙ sym (flat_flat (λ (sets : List Based). sets) (λ (head : Head). map (sets_over (length plan.lengths.items) plan.bounds head) (bases_of plan)) (starts plan.bounds)
    ∙ flat_same (λ (head : Head). flat (map (sets_over (length plan.lengths.items) plan.bounds head) (bases_of plan))) (λ (head : Head). flat_map (sets_over (length plan.lengths.items) plan.bounds head) (bases_of plan)) (starts plan.bounds)
    (λ head. flat_of_map (λ (sets : List Based). sets) (sets_over n plan.bounds head) (bases_of plan)))

-- a list on both sides of an element
pub split_at : {A : Type 0} (xs : List A) (i : ℕ) (x : A) → slice_get xs i ≡ Some x → (before : List A) × (after : List A) × (xs ≡ before ++ x ∷ after)
split_at [] i x e = absurd (search rules)
split_at {A} (y ∷ xs) zero x e = (let same : y ≡ x = search rules in ([], xs, ap (λ (z : A). z ∷ xs) same))
split_at {A} (y ∷ xs) (suc i) x e = (let rest = split_at xs i x e in (y ∷ rest.0, rest.1, ap (λ (l : List A). y ∷ l) rest.2))

-- and a walk on both sides of what it has for an element
split_flat : {A B : Type 0} (f : A → List B) (xs : List A) (i j : ℕ) (x : A) (y : B) → slice_get xs i ≡ Some x → slice_get (f x) j ≡ Some y → (before : List B) × (after : List B) × (flat_map f xs ≡ before ++ y ∷ after)
split_flat {A} {B} f xs i j x y at here =
    let outer = split_at xs i x at in
    let inner = split_at (f x) j y here in (
      flat_map f outer.0 ++ inner.0,
      inner.1 ++ flat_map f outer.1,
      ap (flat_map f) outer.2
          ∙ flat_append f outer.0 (x ∷ outer.1)
          ∙ ap (λ (l : List B). flat_map f outer.0 ++ (l ++ flat_map f outer.1)) inner.2
          ∙ ap (λ (l : List B). flat_map f outer.0 ++ l) (append_assoc inner.0 (y ∷ inner.1) (flat_map f outer.1))
          ∙ sym (append_assoc (flat_map f outer.0) inner.0 (y ∷ (inner.1 ++ flat_map f outer.1))),
    )

index_of : {A : Type 0} (xs : List A) (x : A) → Contains xs x → (i : ℕ) × (slice_get xs i ≡ Some x)
index_of xs x held = (held.0, slice_get_read xs (length xs) held.0 x refl held.1 (sym held.2))

-- a list of offsets of the plan is one of its lists of bases
place_of_bases : (offsets : List ℕ) (n : ℕ) (bases : List ℕ) → length bases ≡ n → All (Contains offsets) bases → (i : ℕ) × (slice_get (base_lists offsets n) i ≡ Some bases)
unfolding base_lists
place_of_bases offsets zero [] long all = (0, refl)
place_of_bases offsets zero (b ∷ bases) long all = absurd (omega arith)
place_of_bases offsets (suc n) [] long all = absurd (omega arith)
place_of_bases offsets (suc n) (b ∷ bases) long all =
    let first = index_of offsets b (All-head (Contains offsets) b bases all) in
    let rest = place_of_bases offsets n bases (omega arith) (All-tail (Contains offsets) b bases all) in (
      first.0 * length (base_lists offsets n) + rest.0,
      ap (λ (l : List (List ℕ)). slice_get l (first.0 * length (base_lists offsets n) + rest.0)) (more offsets n)
          ∙ get-map (λ (p : ℕ × List ℕ). p.0 ∷ p.1) (pairs offsets (base_lists offsets n)) (first.0 * length (base_lists offsets n) + rest.0)
          ∙ ap (option_map (λ (p : ℕ × List ℕ). p.0 ∷ p.1)) (pair_at offsets (base_lists offsets n) first.0 rest.0 b bases first.1 rest.1),
    )

-- the part is one of those of the plan, and begins where those before it end
pub record Aligned (plan : Plan) (part : Part) : Type 0 where
  pub before : List (List Based)
  pub own : List Based
  pub after : List (List Based)
  pub split : parts_of plan ≡ before ++ own ∷ after
  pub first : part.first ≡ length (flat before)
  pub count : length own ≡ part.count
  pub stand : (k : ℕ) (slots : List (Option ℕ)) → slice_get (lists_of part.space) k ≡ Some slots → slice_get own k ≡ Some (record { head = part.head; slots = record { items = slots } }, part.bases.items)

some_number : (a b : ℕ) → (let l : Option ℕ = Some a in let r : Option ℕ = Some b in l ≡ r) → a ≡ b
some_number a b e = search rules

pub aligned : (plan : Plan) (part : Part) → IsPlan plan → plan.each ≡ true → IsPartOf plan part → 0 < part.count → Aligned plan part
aligned plan part is_plan each is some =
    let n = length plan.lengths.items in
    let start : Head = record part.head { offset = 0 } in
    let bases = part.bases.items in
    let head_at = index_of (starts plan.bounds) start is.head in
    let bases_at = place_of_bases plan.bounds.offsets.items (length plan.lengths.items) part.bases.items is.each is.bases in
    let over = sets_over n plan.bounds start bases in
    let cut = split_flat (λ (head : Head). map (sets_over (length plan.lengths.items) plan.bounds head) (bases_of plan)) (starts plan.bounds) head_at.0 bases_at.0 start (sets_over (length plan.lengths.items) plan.bounds (record part.head { offset = 0 }) part.bases.items) head_at.1
    (get-map (sets_over n plan.bounds start) (bases_of plan) bases_at.0 ∙ ap (option_map (sets_over n plan.bounds start)) bases_at.1) in
    let over_is : sets_over (length plan.lengths.items) plan.bounds (record part.head { offset = 0 }) part.bases.items ≡ map (λ slots. based_set (record part.head { offset = 0 }) (part.bases.items, slots)) (lists_of part.space) =
    map_map (λ (geo : Geometry). let b : Based = (geo, bases) in b) (λ (slots : List (Option ℕ)). let g : Geometry = record { head = record start { offset = greatest_base bases }; slots = record { items = slots } } in g) _
    ∙ ap (map (λ (slots : List (Option ℕ)). based_set start (bases, slots))) (sym (lists_fit plan start))
    ∙ ap (λ (s : Space). map (λ slots. based_set (record part.head { offset = 0 }) (part.bases.items, slots)) (lists_of s)) (sym is.space) in
    let stand : (k : ℕ) (slots : List (Option ℕ)) → slice_get (lists_of part.space) k ≡ Some slots → slice_get (sets_over (length plan.lengths.items) plan.bounds (record part.head { offset = 0 }) part.bases.items) k ≡ Some (record { head = part.head; slots = record { items = slots } }, part.bases.items) =
    (λ k slots e.
    ap (λ (l : List Based). slice_get l k) over_is
    ∙ get-map (λ (l : List (Option ℕ)). based_set start (bases, l)) (lists_of part.space) k
    ∙ ap (option_map (λ (l : List (Option ℕ)). based_set start (bases, l))) e
    ∙ ap (λ (o : ℕ). let b : Based = (record { head = record part.head { offset = o }; slots = record { items = slots } }, part.bases.items) in Some b) (sym is.offset)) in
    let count : length (sets_over (length plan.lengths.items) plan.bounds (record part.head { offset = 0 }) part.bases.items) ≡ part.count = ap length over_is ∙ length-map (λ (l : List (Option ℕ)). based_set start (bases, l)) (lists_of part.space) ∙ sym is.count in
    let own_count = is.count in
    let slots = get_or (lists_of part.space) 0 [] in
    let at = slice_get-get_or (lists_of part.space) 0 [] (let e : 0 < length (lists_of part.space) = omega arith in e) in
    let set : Based = (record { head = part.head; slots = record { items = slots } }, part.bases.items) in
    let whole : wide_sets plan ≡ flat cut.0 ++ (sets_over (length plan.lengths.items) plan.bounds (record part.head { offset = 0 }) part.bases.items ++ flat cut.1) = parts_make plan each ∙ ap flat cut.2 ∙ flat_append (λ (sets : List Based). sets) cut.0 (over ∷ cut.1) in
    let there : slice_get (wide_sets plan) (length (flat cut.0)) ≡ Some set =
    ap (λ (l : List Based). slice_get l (length (flat cut.0))) whole
    ∙ get_high (flat cut.0) (over ++ flat cut.1) (length (flat cut.0)) (omega arith)
    ∙ ap (slice_get (over ++ flat cut.1)) (let e : length (flat cut.0) - length (flat cut.0) ≡ 0 = omega arith in e)
    ∙ get_low over (flat cut.1) 0 (omega arith)
    ∙ stand 0 slots at in
    let first : part.first + 0 ≡ length (flat cut.0) = some_number (part.first + 0) (length (flat cut.0)) (sym (ranked_wide plan is_plan (part.first + 0) set (is.stand 0 slots at)) ∙ ranked_wide plan is_plan (length (flat cut.0)) set there) in
    record {
      before = cut.0;
      own = sets_over (length plan.lengths.items) plan.bounds (record part.head { offset = 0 }) part.bases.items;
      after = cut.1;
      split = cut.2;
      first = omega arith;
      count = count;
      stand = stand;
    }
