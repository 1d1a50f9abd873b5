use Rattle.std.proofs.Common.{ℕ, ◌≡◌, ◌+◌, ◌<◌, ◌≤◌, Bool, true, false, None, Option, refl, MatchBool, rules, tests}
use Rattle.std.proofs.lemmas.Iterator.{cases_from_all, YieldsList-from_slice}
use Rattle.rescue_map.specs.Damaged.{known_slot}
use Rattle.rescue_map.proofs.Rows.{all_known, known_at}
use Rattle.rescue_map.proofs.damaged.are_all_good.Goals as goal

told : (r : Bool) (P Q : Type 0) → MatchBool r P Q → r ≡ true → P
told true P Q m is = m
told false P Q m is = absurd (cc)

-- where no slot can have been refused, the answer is yes
not_refused : (r : Bool) (P Q : Type 0) → MatchBool r P Q → (Q → false ≡ true) → r ≡ true
not_refused true P Q m wrong = refl
not_refused false P Q m wrong = wrong m

pub returns : goal.returns
returns c =
    let set = c.args.set.now in
    let sections = c.args.rescue.now in
    let items = set.geo.slots.items in
    let Known : Option ℕ → Type 0 = λ held. (t : ℕ) → c.args.first ≤ t → t < c.args.first + c.args.count → known_slot sections set t held ≡ held in
    let by_call = cases_from_all _ _ _ Known (λ held. Known held → false ≡ true) c.all.ensures.ran (YieldsList-from_slice items cc) (λ x q k. search (rules, tests)) (λ x q k. search (rules, tests)) in (
      λ is t low high. all_known (known_slot sections set t) items (λ k d from to. told c.all.result _ _ by_call is k d from to t low high),
      λ all. not_refused c.all.result _ _ by_call (λ one. one.2 None (λ t low high. known_at (known_slot sections set t) items one.0 (all t low high) one.1)),
    )
