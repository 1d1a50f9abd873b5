-- For how long parity stays, and where the paces of a plan stand.
use Rattle.std.proofs.Common.{◌≡◌, ℕ, suc, ◌+◌, ◌*◌, ◌^◌, ◌<◌, ◌≤◌, List, [], ◌∷◌, length, length-append, length-take, map, take, get_or, All, arith, ap, sym, subst, ◌∙◌, IsTrue, Bool, true, false, ◌&&◌, ◌||◌, nat_eq, nat_le}
use Rattle.std.proofs.lemmas.Bool.{and_parts}
use Rattle.std.proofs.lemmas.List.{get_or_default, get_or-map, length-map}
use Rattle.std.proofs.lemmas.List.Concat.{get_or-flat_map}
use Rattle.std.proofs.lemmas.List.Elements.{All-from_recursion, recursion_from_All}
use Rattle.std.proofs.lemmas.Nat.{mul-add-lt, mul-le}
use Rattle.std.specs.List.{flat_map, AllByRecursion, Contains}
use Rattle.address_map.proofs.Heads.{chunk_above}
use Rattle.raid_params.specs.Validity.{has_delay, has_members, has_pattern, has_syndrome, is_chunk, is_valid_head, moves}
use Rattle.raid_params.specs.declared.limits.TheConstants.{LARGEST_CHUNK, LONGEST_DELAY}
use Rattle.raid_params.specs.declared.types.Head.{Head}
use Rattle.search_plan.specs.Plans.{IsPlan}
use Rattle.search_plan.specs.declared.plan.Plan.{Plan}
use Rattle.slot_math.proofs.Listed.{each_flat, each_map, each_more}
use Rattle.xor_tables.specs.Paces.{pace_at, pace_of, paces_of, span, IsPace, IsPaceOf}
use Rattle.xor_tables.specs.declared.pace.Pace.{Pace}
use Rattle.std.proofs.lemmas.Bool.Decides.{nat_tests}

-- what stands behind others that hold
second : (a b : Bool) → IsTrue (a && b) → IsTrue b
second true b h = h
second false b h = absurd (cc)

delay_within : (m : Bool) (delay : ℕ) → IsTrue (nat_eq delay 1 || (m && (nat_le 1 delay && nat_le delay LONGEST_DELAY))) → (1 ≤ delay) × (delay ≤ LONGEST_DELAY)
delay_within m delay h = (grind (arith, nat_tests), grind (arith, nat_tests))

-- the pace of a head that makes sense
pub pace_valid : (head : Head) → IsTrue (is_valid_head head) → IsPace (pace_of head)
pace_valid head h =
    let delay = is_chunk head.chunk && has_delay head.pattern head.delay in
    let syndrome = has_syndrome head.level head.syndrome && delay in
    let pattern = has_pattern head.level head.pattern && syndrome in
    let in_pattern : IsTrue pattern = second (has_members head.level head.members) pattern h in
    let in_syndrome : IsTrue syndrome = second (has_pattern head.level head.pattern) syndrome in_pattern in
    let in_delay : IsTrue delay = second (has_syndrome head.level head.syndrome) delay in_syndrome in
    let within = delay_within (moves head.pattern) head.delay (second (is_chunk head.chunk) (has_delay head.pattern head.delay) in_delay) in
    record {
      chunk = (and_parts (is_chunk head.chunk) (has_delay head.pattern head.delay) in_delay).0;
      some = within.0;
      short = within.1;
    }

-- parity stays for no more rows than the longest delay
pub short_delay : (head : Head) → IsTrue (is_valid_head head) → head.delay ≤ 1024
short_delay head h = let short = (pace_valid head h).short in omega arith

chunk_short : (chunk : ℕ) → IsTrue (is_chunk chunk) → chunk ≤ LARGEST_CHUNK
unfolding is_chunk
chunk_short chunk h = grind (arith, nat_tests)

-- it stays for a row of sectors at least
pub span_some : (pace : Pace) → IsPace pace → 0 < span pace
span_some pace is =
    let chunk = chunk_above pace.chunk is.chunk in
    let some = is.some in
    let most : 1 * 1 ≤ pace.chunk * pace.delay = mul-le 1 1 pace.chunk pace.delay (omega arith) (omega arith) in
    omega arith

-- and for no more than the longest delay of the largest chunk
pub span_short : (pace : Pace) → IsPace pace → span pace ≤ 2 ^ 25
span_short pace is =
    let chunk = chunk_short pace.chunk is.chunk in
    let short = is.short in
    let most : pace.chunk * pace.delay ≤ 32768 * 1024 = mul-le pace.chunk pace.delay 32768 1024 (omega arith) (omega arith) in
    omega arith

-- one of a list's elements has what all of them have
pub contained : {X : Type 0} (P : X → Type 0) (xs : List X) (x : X) → All P xs → Contains xs x → P x
contained P xs x all (k, lt, e) = subst P e (all k x lt)

-- the paces of a plan make sense
pub pace_is : (plan : Plan) (pace : Pace) → IsPlan plan → IsPaceOf plan pace → IsPace pace
pace_is plan pace is_plan is =
    let delay = contained (λ d. (1 ≤ d) × (d ≤ LONGEST_DELAY)) plan.bounds.delays.items pace.delay is_plan.bounds.short_delays is.delay in
    record {
      chunk = contained (λ c. IsTrue (is_chunk c)) plan.bounds.chunks.items pace.chunk is_plan.bounds.powers is.chunk;
      some = delay.0;
      short = delay.1;
    }

pub paces_are : (plan : Plan) (paces : List Pace) → IsPlan plan → All (IsPaceOf plan) paces → All IsPace paces
paces_are plan paces is_plan all = λ k d lt. pace_is plan (get_or paces k d) is_plan (all k d lt)

-- each element of a list is among its elements
each_among : {X : Type 0} (xs : List X) → AllByRecursion (Contains xs) xs
each_among xs = recursion_from_All (Contains xs) xs (λ k d lt. (k, lt, get_or_default xs k (get_or xs k d) d lt))

-- each delay of each chunk is a pace of the plan
pub each_pace : (plan : Plan) → All (IsPaceOf plan) (paces_of plan)
each_pace plan =
    All-from_recursion (IsPaceOf plan) (paces_of plan)
    (each_flat (IsPaceOf plan) (Contains plan.bounds.chunks.items) _ plan.bounds.chunks.items
    (λ chunk c.
    each_map (IsPaceOf plan) (λ delay. record { chunk = chunk; delay = delay }) plan.bounds.delays.items
    (each_more (Contains plan.bounds.delays.items) (λ delay. IsPaceOf plan (record { chunk = chunk; delay = delay })) plan.bounds.delays.items
    (λ delay d. record { chunk = c; delay = d }) (each_among plan.bounds.delays.items)))
    (each_among plan.bounds.chunks.items))

-- the paces of a chunk
abbrev pub with_chunk : List ℕ → ℕ → List Pace
with_chunk delays chunk = map (λ delay. record { chunk = chunk; delay = delay }) delays

-- as many as there are delays, for each chunk
pub paces_long : (delays chunks : List ℕ) → length (flat_map (with_chunk delays) chunks) ≡ length chunks * length delays
paces_long delays [] = let none : 0 ≡ 0 * length delays = grind arith in none
paces_long delays (chunk ∷ chunks) =
    let rest = paces_long delays chunks in
    let here : length (with_chunk delays chunk) ≡ length delays = length-map delays (λ (delay : ℕ). let p : Pace = record { chunk = chunk; delay = delay } in p) in
    let both = length-append (with_chunk delays chunk) (flat_map (with_chunk delays) chunks) in
    let more : suc (length chunks) * length delays ≡ length delays + length chunks * length delays = grind arith in
    omega arith

pub plan_long : (plan : Plan) → length (paces_of plan) ≡ length plan.bounds.chunks.items * length plan.bounds.delays.items
plan_long plan = paces_long plan.bounds.delays.items plan.bounds.chunks.items

-- where a chunk and a delay stand
pub pace_stands : (plan : Plan) (c d : ℕ) → c < length plan.bounds.chunks.items → d < length plan.bounds.delays.items →
    pace_at (paces_of plan) (c * length plan.bounds.delays.items + d) ≡ record { chunk = get_or plan.bounds.chunks.items c 0; delay = get_or plan.bounds.delays.items d 0 }
pace_stands plan c d low few =
    let none : Pace = record { chunk = 0; delay = 0 } in
    let taken : length (take c plan.bounds.chunks.items) ≡ c = (let whole = length-take c plan.bounds.chunks.items in omega arith) in
    let before : length (flat_map (with_chunk plan.bounds.delays.items) (take c plan.bounds.chunks.items)) ≡ c * length plan.bounds.delays.items
    = paces_long plan.bounds.delays.items (take c plan.bounds.chunks.items) ∙ ap (λ (n : ℕ). n * length plan.bounds.delays.items) taken in
    let here : length (with_chunk plan.bounds.delays.items (get_or plan.bounds.chunks.items c 0)) ≡ length plan.bounds.delays.items
    = length-map plan.bounds.delays.items (λ (delay : ℕ). let p : Pace = record { chunk = get_or plan.bounds.chunks.items c 0; delay = delay } in p) in
    ap (λ (n : ℕ). get_or (paces_of plan) (n + d) none) (sym before)
    ∙ get_or-flat_map (with_chunk plan.bounds.delays.items) plan.bounds.chunks.items c d 0 none low (omega arith)
    ∙ get_or-map (λ (delay : ℕ). let p : Pace = record { chunk = get_or plan.bounds.chunks.items c 0; delay = delay } in p) plan.bounds.delays.items d 0 none few

pub place_below : (plan : Plan) (c d : ℕ) → c < length plan.bounds.chunks.items → d < length plan.bounds.delays.items → c * length plan.bounds.delays.items + d < length (paces_of plan)
place_below plan c d low few =
    let long = plan_long plan in
    let below = mul-add-lt c (length plan.bounds.delays.items) d (length plan.bounds.chunks.items) low few in
    let turned : length plan.bounds.delays.items * length plan.bounds.chunks.items ≡ length plan.bounds.chunks.items * length plan.bounds.delays.items = grind arith in
    omega arith
