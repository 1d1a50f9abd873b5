-- What is read for ranks that are walked part after part.
use Rattle.std.proofs.Common.{ℕ, min, true, false, ◌≡◌, ◌+◌, ◌<◌, ◌≤◌, ◌⊎◌, inl, inr, Bool, cond, List, [], ◌∷◌, ◌++◌, length, refl, sym, ap, ◌∙◌, arith, subst, append_assoc, append-nil, length-append, Option, Result, Ok, Err, IsErr, sum_by}
use Rattle.std.proofs.lemmas.Bool.{cases_lt}
use Rattle.outside.proofs.Reading.{reads_join, reads_up}
use Rattle.outside.specs.Attached.{told_all}
use Rattle.outside.specs.Seen.{Image, OnlyReads, Seen}
use Rattle.common_pages.specs.Pages.{page_reads}
use Rattle.common_pages.specs.declared.page_parts.PageFault.{PageFault}
use Rattle.search_plan.specs.Plans.{IsPlan}
use Rattle.search_plan.specs.declared.plan.Plan.{Plan}
use Rattle.wide_product.proofs.Aligned.{aligned, flat}
use Rattle.wide_product.proofs.Walks.{flat_append}
use Rattle.wide_product.specs.Parts.{parts_of, IsPartOf}
use Rattle.wide_product.specs.Sets.{Based}
use Rattle.wide_product.specs.declared.parts.Part.{Part}
use Rattle.page_engine.proofs.Cut.{cut_there, none_cut}
use Rattle.page_engine.specs.Parts.{reached}
use Rattle.page_engine.specs.Reads.{based_reads, cut, part_reads, wide_reads}

pub reached_err : (stop : ℕ) (result : Result ℕ PageFault) → IsErr result → reached stop result ≡ stop
reached_err stop (Ok next) failed = absurd (cc)
reached_err stop (Err fault) failed = refl

-- a rank at which a part of the plan ends, and the next one begins
pub record Between (plan : Plan) (at : ℕ) : Type 0 where
  pub before : List (List Based)
  pub after : List (List Based)
  pub split : parts_of plan ≡ before ++ after
  pub place : at ≡ length (flat before)

-- where a walk from a rank on up to another comes to: its first rank, the end of a part, or its end
abbrev pub Stops : Plan → ℕ → ℕ → ℕ → Type 0
Stops plan from stop at = (at ≡ from) ⊎ (Between plan at ⊎ (stop ≤ at))

-- the end of a part
pub part_ends : (plan : Plan) (part : Part) → IsPlan plan → plan.each ≡ true → IsPartOf plan part → 0 < part.count → Between plan (part.first + part.count)
part_ends plan part is_plan each is some =
    let own = aligned plan part is_plan each is some in
    let first = own.first in
    let count = own.count in
    let long : length (flat (own.before ++ own.own ∷ [])) ≡ length (flat own.before) + length own.own =
    ap length (flat_append (λ (sets : List Based). sets) own.before (own.own ∷ []))
    ∙ length-append (flat own.before) (own.own ++ [])
    ∙ ap (λ (l : List Based). length (flat own.before) + length l) (append-nil own.own) in
    record {
      before = own.before ++ own.own ∷ [];
      after = own.after;
      split = own.split ∙ sym (append_assoc own.before (own.own ∷ []) own.after);
      place = omega arith;
    }

-- which is where a walk comes to next, or it ends before
pub stops_next : (plan : Plan) (part : Part) (from stop at end : ℕ) → IsPlan plan → plan.each ≡ true → IsPartOf plan part → part.first ≤ at → at < part.first + part.count → end ≡ min stop (part.first + part.count) → Stops plan from stop end
stops_next plan part from stop at end is_plan each is low high is_end = elim (cases_lt (part.first + part.count) stop) [
  | inl early ↦ (let same : part.first + part.count ≡ end = omega arith in inr (inl (subst (Between plan) same (part_ends plan part is_plan each is (omega arith)))))
  | inr late ↦ inr (inr (omega arith))
]

no_sets : (told : Option (List (List ℕ))) (plan : Plan) → part_reads told plan [] ≡ 0
unfolding part_reads
no_sets told plan = refl

-- for no rank nothing is read
pub reads_nothing : (told : Option (List (List ℕ))) (plan : Plan) (at : ℕ) → based_reads told plan at at ≡ 0
unfolding based_reads
reads_nothing told plan at = none_cut (part_reads told plan) at at (parts_of plan) (no_sets told plan) (omega arith)

-- what is read up to such a rank, and from there on
pub reads_apart : (told : Option (List (List ℕ))) (plan : Plan) (from stop at to : ℕ) → Stops plan from stop at → from ≤ at → at ≤ to → to ≤ stop → based_reads told plan from to ≡ based_reads told plan from at + based_reads told plan at to
unfolding based_reads
reads_apart told plan from stop at to (inl first) low high most =
    let none : sum_by (part_reads told plan) (cut from at (parts_of plan)) ≡ 0 = none_cut (part_reads told plan) from at (parts_of plan) (no_sets told plan) (omega arith) in
    let same : sum_by (part_reads told plan) (cut at to (parts_of plan)) ≡ sum_by (part_reads told plan) (cut from to (parts_of plan)) = ap (λ (n : ℕ). sum_by (part_reads told plan) (cut n to (parts_of plan))) first in
    omega arith
reads_apart told plan from stop at to (inr (inl between)) low high most =
    let place = between.place in
    let f : List Based → ℕ = part_reads told plan in
    ap (λ (lists : List (List Based)). sum_by (part_reads told plan) (cut from to lists)) between.split
    ∙ cut_there (part_reads told plan) from to between.before between.after (no_sets told plan) (omega arith) (omega arith)
    ∙ ap (λ (n : ℕ). sum_by (part_reads told plan) (cut from n (between.before ++ between.after)) + sum_by (part_reads told plan) (cut n to (between.before ++ between.after))) (sym between.place)
    ∙ ap (λ (lists : List (List Based)). sum_by (part_reads told plan) (cut from at lists) + sum_by (part_reads told plan) (cut at to lists)) (sym between.split)
reads_apart told plan from stop at to (inr (inr ended)) low high most =
    let none : sum_by (part_reads told plan) (cut at to (parts_of plan)) ≡ 0 = none_cut (part_reads told plan) at to (parts_of plan) (no_sets told plan) (omega arith) in
    let same : sum_by (part_reads told plan) (cut from to (parts_of plan)) ≡ sum_by (part_reads told plan) (cut from at (parts_of plan)) = ap (λ (n : ℕ). sum_by (part_reads told plan) (cut from n (parts_of plan))) (let e : to ≡ at = omega arith in e) in
    omega arith

-- one part more
pub reads_further : (first then : List Image) (plan : Plan) (from stop at to : ℕ) (old now new : Seen) → then ≡ first → Stops plan from stop at → from ≤ at → at ≤ to → to ≤ stop → OnlyReads old now (based_reads (told_all first) plan from at) →
    OnlyReads now new (based_reads (told_all then) plan at to) → OnlyReads old new (based_reads (told_all first) plan from to)
reads_further first then plan from stop at to old now new same stops low high most before more =
    let P : List Image → Type 0 = λ attached. OnlyReads now new (based_reads (told_all attached) plan at to) in
    let sum = reads_apart (told_all first) plan from stop at to stops low high most in
    reads_up old new (reads_join old now new before (subst P same more)) (omega arith)

-- for more ranks no less is read, where the fewer end at such a rank
pub reads_longer : (told : Option (List (List ℕ))) (plan : Plan) (from stop at to : ℕ) (old new : Seen) → Stops plan from stop at → from ≤ at → at ≤ to → to ≤ stop → OnlyReads old new (based_reads told plan from at) → OnlyReads old new (based_reads told plan from to)
reads_longer told plan from stop at to old new stops low high most reads =
    let sum = reads_apart told plan from stop at to stops low high most in
    reads_up old new reads (omega arith)

-- what is read for a page of a plan of either kind
pub wide_based : (told : Option (List (List ℕ))) (plan : Plan) (from to : ℕ) → plan.each ≡ true → wide_reads told plan from to ≡ based_reads told plan from to
unfolding wide_reads
wide_based told plan from to each = ap (λ (b : Bool). cond b (based_reads told plan from to) (page_reads told plan from to)) each

pub wide_common : (told : Option (List (List ℕ))) (plan : Plan) (from to : ℕ) → plan.each ≡ false → wide_reads told plan from to ≡ page_reads told plan from to
unfolding wide_reads
wide_common told plan from to each = ap (λ (b : Bool). cond b (based_reads told plan from to) (page_reads told plan from to)) each
