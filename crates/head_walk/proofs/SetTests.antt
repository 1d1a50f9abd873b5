-- What is known of a set of a plan: its parity can be tested over images that agree with the plan.
use Rattle.std.proofs.Common.{◌≡◌, ℕ, ◌<◌, ◌≤◌, ◌^◌, Bool, true, false, nat_le, ◌&&◌, List, [], ◌∷◌, length, map, refl, sym, ap, ap₂, ◌∙◌, subst, arith, Option, Some, None, All, IfSome, IsTrue, slice_get}
use Rattle.std.proofs.lemmas.Bool.{and_parts, le-leb, leb-true}
use Rattle.std.proofs.lemmas.List.{length-map}
use Rattle.std.proofs.lemmas.List.Elements.{All-head, All-tail, All-nil, All-cons}
use Rattle.outside.specs.Seen.{Image}
use Rattle.raid_params.specs.declared.limits.TheConstants.{MOST}
use Rattle.raid_params.specs.declared.types.Geometry.{Geometry}
use Rattle.raid_params.specs.Size.{rows}
use Rattle.raid_params.specs.Validity.{fewest, has_delay, has_members, has_pattern, has_syndrome, is_chunk, is_shaped, is_valid_head}
use Rattle.raid_terms.specs.Parity.{passes_parity}
use Rattle.landmark_rules.specs.Groups.{groups_hold}
use Rattle.parity_scan.specs.Scan.{IsScannable}
use Rattle.search_plan.specs.Plans.{IsPlan, AgreeWith}
use Rattle.search_plan.specs.declared.plan.Plan.{Plan}
use Rattle.plan_sets.specs.Sets.{passes, passes_at, sets_of}
use Rattle.head_walk.specs.Walk.{IsCandidate, Ranked}
use Rattle.set_product.proofs.Shaped.{set_at, shaped_set}

-- a test beside one that holds
and_true : (b : Bool) → (b && true) ≡ b
and_true true = refl
and_true false = refl

-- each image of agreeing images reaches to the end
pub all_reach : (attached : List Image) (end : ℕ) → All (λ n. end ≤ n) (map (λ (image : Image). image.sectors) attached) → All (λ image. end ≤ image.sectors) attached
all_reach [] end all = All-nil (λ (image : Image). end ≤ image.sectors)
all_reach (image ∷ images) end all =
    All-cons (λ (one : Image). end ≤ one.sectors) image images
    (All-head (λ n. end ≤ n) image.sectors (map (λ (one : Image). one.sectors) images) all)
    (all_reach images end (All-tail (λ n. end ≤ n) image.sectors (map (λ (one : Image). one.sectors) images) all))

-- the end is below a length
pub end_near : (lengths : List ℕ) (end : ℕ) → 1 ≤ length lengths → All (λ n. n < 2 ^ 55) lengths → All (λ n. end ≤ n) lengths → end < 2 ^ 55
end_near [] end some small ends = absurd (omega arith)
end_near (n ∷ ns) end some small ends =
    let a = All-head (λ k. k < 2 ^ 55) n ns small in
    let b = All-head (λ k. end ≤ k) n ns ends in
    omega arith

-- its parity can be tested over images that agree with the plan
pub scannable : (plan : Plan) (rank : ℕ) (geo : Geometry) (attached : List Image) → IsPlan plan → slice_get (sets_of plan) rank ≡ Some geo → AgreeWith plan attached → IsScannable geo plan.end attached
scannable plan rank geo attached is_plan e agrees =
    let set = set_at plan rank geo is_plan e in
    let count : length attached ≡ length plan.lengths.items = sym (length-map attached (λ (image : Image). image.sectors)) ∙ ap length agrees in
    record {
      shaped = ap (is_shaped geo) count ∙ shaped_set plan geo set;
      offset = set.offset;
      near = end_near plan.lengths.items plan.end is_plan.lengths.some is_plan.lengths.short is_plan.ends;
      long = (let P : List ℕ → Type 0 = λ ns. All (λ k. plan.end ≤ k) ns in all_reach attached plan.end (subst P (sym agrees) is_plan.ends));
    }

-- it has a head that makes sense
pub head_valid : (plan : Plan) (rank : ℕ) (geo : Geometry) → IsPlan plan → slice_get (sets_of plan) rank ≡ Some geo → IsTrue (is_valid_head geo.head)
head_valid plan rank geo is_plan e = (set_at plan rank geo is_plan e).head

-- it has few slots
pub few_slots : (plan : Plan) (rank : ℕ) (geo : Geometry) → IsPlan plan → slice_get (sets_of plan) rank ≡ Some geo → length geo.slots.items ≤ MOST
few_slots plan rank geo is_plan e =
    let set = set_at plan rank geo is_plan e in
    let members = and_parts (has_members geo.head.level geo.head.members) (has_pattern geo.head.level geo.head.pattern && (has_syndrome geo.head.level geo.head.syndrome && (is_chunk geo.head.chunk && has_delay geo.head.pattern geo.head.delay))) set.head in
    let most = leb-true geo.head.members MOST (and_parts (nat_le (fewest geo.head.level) geo.head.members) (nat_le geo.head.members MOST) members.0).1 in
    let long = set.long in
    omega arith

-- a set passes as its rank does
pub passes_as : (bytes : List (List ℕ)) (plan : Plan) (rank : ℕ) (geo : Geometry) → slice_get (sets_of plan) rank ≡ Some geo → passes_at bytes plan rank ≡ passes bytes plan geo
unfolding passes_at
passes_as bytes plan rank geo e = rw e refl

-- a set without a whole row does not pass
pub no_row : (told : Option (List (List ℕ))) (plan : Plan) (rank : ℕ) (geo : Geometry) → slice_get (sets_of plan) rank ≡ Some geo → rows geo.head plan.end ≡ 0 → IfSome told (λ bytes. false ≡ passes_at bytes plan rank)
no_row None plan rank geo e none = tt
no_row (Some bytes) plan rank geo e none =
    sym (passes_as bytes plan rank geo e
    ∙ ap (λ (n : ℕ). nat_le 1 n && (passes_parity bytes geo plan.end plan.limits.window plan.limits.badrows && groups_hold geo plan.end plan.tests plan.groups)) none)

-- a candidate passes where the parity test holds
pub candidate_passes : (bytes : List (List ℕ)) (plan : Plan) (line : Ranked) (told : Option (List (List ℕ))) → IsCandidate told plan line → passes_at bytes plan line.rank ≡ passes_parity bytes line.geo plan.end plan.limits.window plan.limits.badrows
candidate_passes bytes plan line told is =
    passes_as bytes plan line.rank line.geo is.set
    ∙ ap₂ (λ (a b : Bool). a && (passes_parity bytes line.geo plan.end plan.limits.window plan.limits.badrows && b)) (le-leb 1 (rows line.geo.head plan.end) is.row) is.groups
    ∙ and_true (passes_parity bytes line.geo plan.end plan.limits.window plan.limits.badrows)
