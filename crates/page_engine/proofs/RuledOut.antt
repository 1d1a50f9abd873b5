-- Parts of which the marks leave no set.
use Rattle.std.proofs.Common.{ℕ, zero, suc, ◌≡◌, ◌+◌, ◌-◌, ◌<◌, ◌≤◌, min, nat_lt, nat_le, ◌&&◌, Bool, true, false, cond, List, [], ◌∷◌, ◌++◌, length, take, filter, append-nil, refl, sym, ap, ap₂, ◌∙◌, subst, arith, inl, inr, Option, Some, None, IfSome, slice_get}
use Rattle.std.proofs.lemmas.Bool.{and_parts, cases_Bool}
use Rattle.std.proofs.lemmas.List.{length-map}
use Rattle.std.specs.List.{list_all, range_with_len}
use Rattle.std.specs.Option.{option_map_or}
use Rattle.std.specs.Iterator.{YieldsFirst}
use Rattle.std.specs.Option.{is_some}
use Rattle.candidate_enum.specs.Left.{Left}
use Rattle.candidate_enum.specs.declared.leaf.Leaf.{Leaf}
use Rattle.candidate_enum.specs.Survivors.{admitted_leaves, all_admitted, question}
use Rattle.head_walk.proofs.Leaves.{no_leaf}
use Rattle.head_walk.specs.Walk.{IsAsked}
use Rattle.mark_tables.specs.Marks.{groups_may_hold}
use Rattle.padded_images.proofs.Lengths.{as_many}
use Rattle.padded_images.specs.Plans.{padded_plan}
use Rattle.page_loop.specs.Parts.{Whole}
use Rattle.raid_params.specs.Bases.{greatest_base}
use Rattle.raid_params.specs.Size.{redundancy, rows}
use Rattle.raid_params.specs.declared.types.Head.{Head}
use Rattle.raid_params.specs.declared.types.Level.{Level}
use Rattle.search_plan.specs.Plans.{IsPlan}
use Rattle.search_plan.specs.declared.plan.Plan.{Plan}
use Rattle.set_product.specs.Heads.{space_of}
use Rattle.slot_math.specs.declared.space.Space.{Space}
use Rattle.page_engine.proofs.Hopeful.{groups_same}
use Rattle.page_engine.proofs.Law.{hopeful}
use Rattle.page_engine.specs.Laws.{is_hopeful_with}
use Rattle.common_pages.specs.Pages.{ranks_of}
use Rattle.page_engine.specs.Parts.{GathersPart, NonePass}
use Rattle.head_walk.specs.declared.parts.Line.{Line}
use Rattle.wide_product.proofs.PartPlan.{part_made}
use Rattle.wide_product.specs.PaddedParts.{padded_for, IsPaddedPart}
use Rattle.wide_product.specs.Parts.{IsPartOf}
use Rattle.wide_product.specs.Sets.{padded_bytes, wide_passes, wide_passes_at, wide_sets, Based}
use Rattle.wide_product.specs.declared.padded_part.PaddedPart.{PaddedPart}
use Rattle.wide_product.specs.declared.parts.Part.{Part}
use Rattle.xor_tables.specs.Rows.{rows_may_hold}

room : (plan : Plan) (level : Level) (count : ℕ) → ((space_of plan level count).images ≡ length plan.lengths.items) × ((space_of plan level count).members ≡ count)
unfolding space_of
room plan level count =
    let n = length plan.lengths.items in
    let none : Space = record { images = n; members = count; low = 1; high = 0 } in
    let some : Space = record { images = n; members = count; low = 0; high = min (min plan.bounds.missing (redundancy level)) (plan.bounds.foreign + count - n) } in
    elim (nat_lt (plan.bounds.foreign + count) (length plan.lengths.items)) as (λ b. ((cond {A = Space} b none some).images ≡ length plan.lengths.items) × ((cond {A = Space} b none some).members ≡ count)) [
      | true ↦ (refl, refl)
      | false ↦ (refl, refl)
    ]

-- the slot lists of a part are those of its head and of its plan
pub is_asked : (plan : Plan) (part : Part) (made : PaddedPart) → IsPartOf plan part → IsPaddedPart plan part made → IsAsked made.plan part.head part.space
is_asked plan part made is is_padded =
    let known = part_made plan part is in
    let are = room plan part.head.level part.head.members in
    let P : Plan → Type 0 = λ p. IsAsked p part.head part.space in
    subst P (sym is_padded.is) (record {
      is_plan = subst IsPlan is_padded.is is_padded.is_plan;
      valid = known.1;
      images = ap (λ (s : Space). s.images) is.space ∙ are.0 ∙ sym (as_many (greatest_base part.bases.items) part.bases.items plan.lengths.items);
      members = ap (λ (s : Space). s.members) is.space ∙ are.1;
      level = known.0.level;
    })

each_number : (p : ℕ → Bool) → ((k : ℕ) → p k ≡ true) → (a n : ℕ) → list_all p (range_with_len a n) ≡ true
each_number p h a zero = refl
each_number p h a (suc n) = ap₂ (λ (x y : Bool). x && y) (h a) (each_number p h (a + 1) n)

each_prefix : (admits : List (Option ℕ) → Bool) (slots : List (Option ℕ)) → ((k : ℕ) → admits (take k slots) ≡ true) → all_admitted admits slots ≡ true
unfolding all_admitted
each_prefix admits slots h = each_number (λ k. admits (take k slots)) h 0 (length slots + 1)

-- where a set with bases passes, the groups may hold of each prefix
marks_of : (images : List (List ℕ)) (plan : Plan) (head : Head) (bases : List ℕ) (prefix : List (Option ℕ)) → 1 ≤ length bases → is_hopeful_with images plan head bases prefix ≡ true → groups_may_hold (padded_for plan head bases) head prefix ≡ true
marks_of images plan head [] prefix some holds = absurd (omega arith)
marks_of images plan head (b ∷ bases) prefix some holds =
    let padded = padded_plan (b ∷ bases) plan in
    let parts = and_parts (nat_le 1 (rows head plan.end)) (groups_may_hold (padded_plan (b ∷ bases) plan) head prefix && rows_may_hold (padded_bytes (b ∷ bases) images) (padded_plan (b ∷ bases) plan) head prefix) holds in
    let marks = and_parts (groups_may_hold (padded_plan (b ∷ bases) plan) head prefix) (rows_may_hold (padded_bytes (b ∷ bases) images) (padded_plan (b ∷ bases) plan) head prefix) parts.1 in
    groups_same plan head (b ∷ bases) prefix ∙ marks.0

-- where no slot list is left, no set passes
pub none_pass : (plan : Plan) (part : Part) (made : PaddedPart) (from stop : ℕ) → IsPlan plan → IsPartOf plan part → IsPaddedPart plan part made → part.first ≤ from → from ≤ stop → stop ≤ part.first + part.count →
    admitted_leaves (question part.space (groups_may_hold made.plan part.head) (from - part.first) (stop - part.first)) (from - part.first) (stop - part.first) ≡ [] → NonePass plan from stop
unfolding wide_passes_at
none_pass plan part made from stop is_plan is is_padded low range high none = λ images rank after before.
    let count = is.count in
    let refused = no_leaf (question part.space (groups_may_hold made.plan part.head) (from - part.first) (stop - part.first)) (from - part.first) (stop - part.first) (stop - from) (rank - part.first) (omega arith) (omega arith) none (omega arith) (omega arith) in
    let set : Based = (record { head = part.head; slots = record { items = refused.slots } }, part.bases.items) in
    let at : slice_get (wide_sets plan) rank ≡ Some set = ap (slice_get (wide_sets plan)) (let e : rank ≡ part.first + (rank - part.first) = omega arith in e) ∙ is.stand (rank - part.first) refused.slots refused.list in
    let each = is.each in
    let lengths = is_plan.lengths.some in
    ap (λ (o : Option Based). option_map_or (wide_passes images plan) o false) at
    ∙ elim (cases_Bool (wide_passes images plan set)) [
      | inl passes ↦
          (let all : all_admitted (groups_may_hold made.plan part.head) refused.slots ≡ true =
          each_prefix (groups_may_hold made.plan part.head) refused.slots (λ k.
          ap (λ (p : Plan). groups_may_hold p part.head (take k refused.slots)) is_padded.is
          ∙ marks_of images plan part.head part.bases.items (take k refused.slots) (omega arith) (hopeful images plan rank set k at passes)) in
          absurd (let no : true ≡ false = sym all ∙ refused.refusal in cc))
      | inr fails ↦ fails
    ]

-- of such ranks none is on a page
none_kept : (p : ℕ → Bool) (from n : ℕ) → ((rank : ℕ) → from ≤ rank → rank < from + n → p rank ≡ false) → filter p (range_with_len from n) ≡ []
none_kept p from zero none = refl
none_kept p from (suc n) none =
    ap₂ (λ (b : Bool) (l : List ℕ). cond b (from ∷ l) l) (none from (omega arith) (omega arith)) (none_kept p (from + 1) n (λ rank low high. none rank (omega arith) (omega arith)))

-- what a part of which the marks leave no set brings to a page
pub gathers_none : (told : Option (List (List ℕ))) (plan : Plan) (size from stop : ℕ) (lines : List Line) → NonePass plan from stop → from < stop → length lines < size → GathersPart told plan size from stop lines lines stop
gathers_none told plan size from stop lines none range room_left = record {
  whole = of_told told;
  sets = λ old. old;
  ended = inl refl;
  within = omega arith;
  most = omega arith;
}
  where
    of_told : (known : Option (List (List ℕ))) → IfSome known (λ bytes. Whole (Some (wide_passes_at bytes plan)) size from (ranks_of lines) (ranks_of lines) stop stop)
    of_told None = tt
    of_told (Some bytes) =
        let long = length-map lines (λ (held : Line). held.rank) in
        inl (
          refl,
          sym (append-nil (ranks_of lines)) ∙ ap (λ (l : List ℕ). ranks_of lines ++ l) (sym (none_kept (wide_passes_at bytes plan) from (stop - from) (λ rank low high. none bytes rank low (omega arith)))),
          omega arith,
        )

-- a walk that gives no leaf has none left
pub none_left : (old new : Left) (found : Option Leaf) → YieldsFirst (λ (s : Left). s.leaves) old found new → is_some found ≡ false → old.leaves ≡ []
none_left old new None steps none = steps.0
none_left old new (Some leaf) steps none = absurd (cc)
