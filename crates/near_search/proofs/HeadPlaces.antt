-- The heads by their places.
use Rattle.std.proofs.Common.{rules, ◌^◌, ℕ, zero, suc, ◌≡◌, ◌+◌, ◌-◌, ◌*◌, ◌/◌, ◌%◌, ◌<◌, ◌≤◌, List, [], ◌∷◌, length, map, sym, ap, ◌∙◌, arith, length-append, Some, slice_get, option_map, Bool, true, ◌&&◌, nat_le, IsTrue}
use Rattle.std.proofs.Math.Nat.{zero-mul, suc-mul, mul-zero}
use Rattle.std.proofs.lemmas.Nat.{div_below, div-add-mod', mod_below}
use Rattle.std.proofs.lemmas.List.Elements.{recursion_from_All}
use Rattle.std.specs.List.{flat_map}
use Rattle.raid_params.specs.Validity.{is_chunk}
use Rattle.slot_math.proofs.Listed.{each_flat, each_get, each_map, each_more}
use Rattle.slot_math.proofs.Nested.{get_low, get_high, get-map, length-map}
use Rattle.near_mirror.specs.Heads.{are_copies, has_members, is_valid_near}
use Rattle.near_mirror.specs.declared.types.NearHead.{NearHead}
use Rattle.near_search.specs.Asks.{IsNearAsk}
use Rattle.near_mirror.specs.declared.types.CopyLayout.{CopyLayout}
use Rattle.std.proofs.lemmas.Bool.{le-leb}
use Rattle.std.proofs.lemmas.Bool.Decides.{nat_tests}
use Rattle.near_search.specs.Product.{head_of, layout_heads, near_heads}
use Rattle.near_search.specs.declared.ask.NearAsk.{NearAsk}

-- lists that are equally long, one after the other
flat_long : {A B : Type 0} (f : A → List B) (n : ℕ) (xs : List A) → ((x : A) → length (f x) ≡ n) → length (flat_map f xs) ≡ length xs * n
flat_long f n [] long = sym (zero-mul n)
flat_long f n (x ∷ xs) long =
    length-append (f x) (flat_map f xs)
    ∙ (let here = long x in let rest = flat_long f n xs long in let e : length (f x) + length (flat_map f xs) ≡ suc (length xs) * n = omega (arith, suc-mul (length xs) n) in e)

-- what stands in them
flat_get : {A B : Type 0} (f : A → List B) (n : ℕ) (xs : List A) (i r : ℕ) (x : A) → ((y : A) → length (f y) ≡ n) → slice_get xs i ≡ Some x → r < n → slice_get (flat_map f xs) (i * n + r) ≡ slice_get (f x) r
flat_get f n [] i r x long e lt = absurd (search rules)
flat_get {A} {B} f n (a ∷ xs) zero r x long e lt =
    let at : zero * n + r ≡ r = omega (arith, zero-mul n) in
    let same : a ≡ x = search rules in
    let here = long a in
    ap (slice_get (flat_map f (a ∷ xs))) at ∙ get_low (f a) (flat_map f xs) r (omega arith) ∙ ap (λ (y : A). slice_get (f y) r) same
flat_get {A} {B} f n (a ∷ xs) (suc i) r x long e lt =
    let here = long a in
    let place : suc i * n + r ≡ n + (i * n + r) = omega (arith, suc-mul i n) in
    get_high (f a) (flat_map f xs) (suc i * n + r) (omega arith)
    ∙ ap (slice_get (flat_map f xs)) (let d : suc i * n + r - length (f a) ≡ i * n + r = omega arith in d)
    ∙ flat_get f n xs i r x long e lt

-- those of one number of members, and of one chunk
abbrev of_chunk : NearAsk → CopyLayout → ℕ → ℕ → List NearHead
of_chunk ask layout members chunk = map (head_of layout members chunk) ask.offsets.items

abbrev of_members : NearAsk → CopyLayout → ℕ → List NearHead
of_members ask layout members = flat_map (of_chunk ask layout members) ask.chunks.items

chunk_long : (ask : NearAsk) (layout : CopyLayout) (members chunk : ℕ) → length (of_chunk ask layout members chunk) ≡ length ask.offsets.items
chunk_long ask layout members chunk = length-map (head_of layout members chunk) ask.offsets.items

members_long : (ask : NearAsk) (layout : CopyLayout) (members : ℕ) → length (of_members ask layout members) ≡ length ask.chunks.items * length ask.offsets.items
members_long ask layout members = flat_long (of_chunk ask layout members) (length ask.offsets.items) ask.chunks.items (chunk_long ask layout members)

pub layout_long : (ask : NearAsk) (layout : CopyLayout) → length (layout_heads ask layout) ≡ length ask.members.items * (length ask.chunks.items * length ask.offsets.items)
unfolding layout_heads
layout_long ask layout = flat_long (of_members ask layout) (length ask.chunks.items * length ask.offsets.items) ask.members.items (members_long ask layout)

pub heads_long : (ask : NearAsk) → length (near_heads ask) ≡ length ask.layouts.items * (length ask.members.items * (length ask.chunks.items * length ask.offsets.items))
unfolding near_heads
heads_long ask = flat_long (layout_heads ask) (length ask.members.items * (length ask.chunks.items * length ask.offsets.items)) ask.layouts.items (layout_long ask)

-- the digits of a place
pub record AreDigits (ask : NearAsk) (place : ℕ) : Type 0 where
  pub offsets : 0 < length ask.offsets.items
  pub pairs : 0 < length ask.chunks.items * length ask.offsets.items
  pub member : place / (length ask.chunks.items * length ask.offsets.items) < length ask.members.items
  pub chunk : place % (length ask.chunks.items * length ask.offsets.items) / length ask.offsets.items < length ask.chunks.items
  pub offset : place % (length ask.chunks.items * length ask.offsets.items) % length ask.offsets.items < length ask.offsets.items

some_of : (a b n : ℕ) → n < a * b → 0 < b
some_of a zero n below = absurd (omega (arith, mul-zero a))
some_of a (suc b) n below = omega arith

pub digits : (ask : NearAsk) (layout : CopyLayout) (place : ℕ) → place < length (layout_heads ask layout) → AreDigits ask place
digits ask layout place lt =
    let long = layout_long ask layout in
    let pairs : 0 < length ask.chunks.items * length ask.offsets.items = some_of (length ask.members.items) (length ask.chunks.items * length ask.offsets.items) place (omega arith) in
    let offsets : 0 < length ask.offsets.items = some_of (length ask.chunks.items) (length ask.offsets.items) 0 pairs in
    let rest : place % (length ask.chunks.items * length ask.offsets.items) < length ask.chunks.items * length ask.offsets.items = mod_below place (length ask.chunks.items * length ask.offsets.items) pairs in
    record {
      offsets = offsets;
      pairs = pairs;
      member = div_below place (length ask.chunks.items * length ask.offsets.items) (length ask.members.items) pairs (omega arith);
      chunk = div_below (place % (length ask.chunks.items * length ask.offsets.items)) (length ask.offsets.items) (length ask.chunks.items) offsets rest;
      offset = mod_below (place % (length ask.chunks.items * length ask.offsets.items)) (length ask.offsets.items) offsets;
    }

-- the digits of a place among all
pub record IsInLayout (ask : NearAsk) (place : ℕ) : Type 0 where
  pub some : 0 < length ask.members.items * (length ask.chunks.items * length ask.offsets.items)
  pub layout : place / (length ask.members.items * (length ask.chunks.items * length ask.offsets.items)) < length ask.layouts.items
  pub rest : (layout : CopyLayout) → place % (length ask.members.items * (length ask.chunks.items * length ask.offsets.items)) < length (layout_heads ask layout)

pub layout_digits : (ask : NearAsk) (place : ℕ) → place < length (near_heads ask) → IsInLayout ask place
layout_digits ask place lt =
    let long = heads_long ask in
    let some : 0 < length ask.members.items * (length ask.chunks.items * length ask.offsets.items) = some_of (length ask.layouts.items) (length ask.members.items * (length ask.chunks.items * length ask.offsets.items)) place (omega arith) in
    record {
      some = some;
      layout = div_below place (length ask.members.items * (length ask.chunks.items * length ask.offsets.items)) (length ask.layouts.items) some (omega arith);
      rest = λ layout. let short = layout_long ask layout in let below = mod_below place (length ask.members.items * (length ask.chunks.items * length ask.offsets.items)) some in omega arith;
    }

-- the head at a place among those of a layout
pub layout_found : (ask : NearAsk) (layout : CopyLayout) (place members chunk offset : ℕ) → place < length (layout_heads ask layout) → slice_get ask.members.items (place / (length ask.chunks.items * length ask.offsets.items)) ≡ Some members →
    slice_get ask.chunks.items (place % (length ask.chunks.items * length ask.offsets.items) / length ask.offsets.items) ≡ Some chunk →
    slice_get ask.offsets.items (place % (length ask.chunks.items * length ask.offsets.items) % length ask.offsets.items) ≡ Some offset → slice_get (layout_heads ask layout) place ≡ Some (head_of layout members chunk offset)
unfolding layout_heads
layout_found ask layout place members chunk offset lt at_members at_chunk at_offset =
    let o = length ask.offsets.items in
    let p = length ask.chunks.items * length ask.offsets.items in
    let are = digits ask layout place lt in
    let rest : place % (length ask.chunks.items * length ask.offsets.items) < length ask.chunks.items * length ask.offsets.items = mod_below place (length ask.chunks.items * length ask.offsets.items) are.pairs in
    ap (slice_get (flat_map (of_members ask layout) ask.members.items)) (sym (div-add-mod' place (length ask.chunks.items * length ask.offsets.items)))
    ∙ flat_get (of_members ask layout) (length ask.chunks.items * length ask.offsets.items) ask.members.items (place / (length ask.chunks.items * length ask.offsets.items)) (place % (length ask.chunks.items * length ask.offsets.items)) members (members_long ask layout) at_members rest
    ∙ ap (slice_get (of_members ask layout members)) (sym (div-add-mod' (place % (length ask.chunks.items * length ask.offsets.items)) (length ask.offsets.items)))
    ∙ flat_get (of_chunk ask layout members) (length ask.offsets.items) ask.chunks.items (place % (length ask.chunks.items * length ask.offsets.items) / length ask.offsets.items) (place % (length ask.chunks.items * length ask.offsets.items) % length ask.offsets.items) chunk (chunk_long ask layout members) at_chunk are.offset
    ∙ get-map (head_of layout members chunk) ask.offsets.items (place % (length ask.chunks.items * length ask.offsets.items) % length ask.offsets.items)
    ∙ ap (option_map (head_of layout members chunk)) at_offset

-- and among all
pub head_found : (ask : NearAsk) (place : ℕ) (layout : CopyLayout) (head : NearHead) → place < length (near_heads ask) →
    slice_get ask.layouts.items (place / (length ask.members.items * (length ask.chunks.items * length ask.offsets.items))) ≡ Some layout →
    slice_get (layout_heads ask layout) (place % (length ask.members.items * (length ask.chunks.items * length ask.offsets.items))) ≡ Some head → slice_get (near_heads ask) place ≡ Some head
unfolding near_heads
head_found ask place layout head lt at_layout at_head =
    let n = length ask.members.items * (length ask.chunks.items * length ask.offsets.items) in
    ap (slice_get (flat_map (layout_heads ask) ask.layouts.items)) (sym (div-add-mod' place n))
    ∙ flat_get (layout_heads ask) n ask.layouts.items (place / n) (place % n) layout (layout_long ask) at_layout (mod_below place n (layout_digits ask place lt).some)
    ∙ at_head

-- each head has numbers of copies and of members, and a chunk, that mirrors have, and an offset of an image
abbrev pub IsSound : NearHead → Type 0
IsSound head = IsTrue (are_copies head.layout.copies) × IsTrue (has_members head.members) × IsTrue (is_chunk head.chunk) × (head.offset < 2 ^ 55)

-- so it makes sense where it has a member for each copy
pub sound_valid : (head : NearHead) → IsSound head → head.layout.copies ≤ head.members → IsTrue (is_valid_near head)
sound_valid head (copies, members, chunk, offset) le =
    both (are_copies head.layout.copies) (nat_le head.layout.copies head.members) (has_members head.members) (is_chunk head.chunk) copies (le-leb head.layout.copies head.members le) members chunk
  where
    both : (a b c d : Bool) → IsTrue a → b ≡ true → IsTrue c → IsTrue d → IsTrue ((a && (b && c)) && d)
    both a b c d one two three four = search rules

pub sound_members : (head : NearHead) → IsSound head → head.members ≤ 24
sound_members head (copies, members, chunk, offset) = grind (arith, nat_tests)

pub heads_sound : (ask : NearAsk) (place : ℕ) (head : NearHead) → IsNearAsk ask → slice_get (near_heads ask) place ≡ Some head → IsSound head
unfolding near_heads layout_heads
heads_sound ask place head is found =
    each_get IsSound (flat_map (layout_heads ask) ask.layouts.items) place head
    (each_flat IsSound (λ (l : CopyLayout). IsTrue (are_copies l.copies)) (layout_heads ask) ask.layouts.items
    (λ l some. each_flat IsSound (λ (m : ℕ). IsTrue (has_members m)) (of_members ask l) ask.members.items
    (λ m valid. each_flat IsSound (λ (k : ℕ). IsTrue (is_chunk k)) (of_chunk ask l m) ask.chunks.items
    (λ k fits. each_map IsSound (head_of l m k) ask.offsets.items (each_more (λ (o : ℕ). o < 2 ^ 55) (λ (o : ℕ). IsSound (head_of l m k o)) ask.offsets.items (λ o near. (some, valid, fits, near)) (recursion_from_All (λ (o : ℕ). o < 2 ^ 55) ask.offsets.items is.offsets)))
    (recursion_from_All (λ (k : ℕ). IsTrue (is_chunk k)) ask.chunks.items is.chunks))
    (recursion_from_All (λ (m : ℕ). IsTrue (has_members m)) ask.members.items is.members))
    (recursion_from_All (λ (l : CopyLayout). IsTrue (are_copies l.copies)) ask.layouts.items is.layouts))
    found
