-- A mirror passes just where each beginning of its slots is hopeful.
use Rattle.std.proofs.Common.{ℕ, ◌≡◌, ◌+◌, ◌≤◌, Bool, true, false, not, ◌&&◌, nat_eq, nat_le, cond, List, length, take, refl, sym, ap, ap₂, ◌∙◌, arith, Option, None, Some}
use Rattle.std.specs.List.{list_all, range_with_len}
use Rattle.std.proofs.lemmas.Bool.{le-leb, leb-true}
use Rattle.std.proofs.lemmas.Bool.Decides.{nat_tests}
use Rattle.std.proofs.lemmas.List.{take_all}
use Rattle.std.specs.Option.{is_some}
use Rattle.candidate_enum.specs.Survivors.{all_admitted}
use Rattle.near_mirror.specs.Copies.{first_chunks, near_chunks}
use Rattle.near_mirror.specs.Validity.{rowless_rule, shape_fault, volume_fault}
use Rattle.near_mirror.specs.Volume.{first_bare}
use Rattle.near_mirror.specs.declared.types.NearHead.{NearHead}
use Rattle.near_mirror.specs.declared.types.NearRule.{NearRule}
use Rattle.near_mirror.specs.declared.types.NearSet.{NearSet}
use Rattle.near_mirror.proofs.Homes.{shaped_head}
use Rattle.near_tables.specs.Torn.{has_lost, near_passes, torn, with_slots}
use Rattle.near_tables.proofs.LostChunks.{all_true, none_lost, one_false}
use Rattle.near_tables.proofs.Prefixes.{prefixes_less}
use Rattle.near_search.specs.Laws.{LostChunksHaveNoCopy, PassingMirrorsAreHopeful, PassingMirrorsBreakNoRule}
use Rattle.near_search.proofs.Bare.{lost_where_bare}

parts : (a b : Bool) → (a && b) ≡ true → (a ≡ true) × (b ≡ true)
parts true true e = (refl, refl)
parts true false e = absurd (cc)
parts false b e = absurd (cc)

fewer : (bytes : List (List ℕ)) (end window most k : ℕ) (head : NearHead) (slots : List (Option ℕ)) → near_passes bytes end window most (with_slots head slots) ≡ true → near_passes bytes end window most (with_slots head (take k slots)) ≡ true
fewer bytes end window most k head slots passes =
    let both = parts (nat_le 1 (near_chunks head end)) (not (has_lost end (with_slots head slots)) && nat_le (torn bytes end window (with_slots head slots)) most) passes in
    let rest = parts (not (has_lost end (with_slots head slots))) (nat_le (torn bytes end window (with_slots head slots)) most) both.1 in
    let high : torn bytes end window (with_slots head slots) ≤ most = leb-true (torn bytes end window (with_slots head slots)) most rest.1 in
    let less = prefixes_less bytes end window k head slots in
    let kept : has_lost end (with_slots head (take k slots)) ≡ false = none_lost head (first_chunks head end) k slots (not_true (has_lost end (with_slots head slots)) rest.0) in
    ap₂ (λ (a b : Bool). a && b) both.0
    (ap₂ (λ (a b : Bool). a && b) (ap not kept) (le-leb (torn bytes end window (with_slots head (take k slots))) most (omega arith)))
  where
    not_true : (b : Bool) → not b ≡ true → b ≡ false
    not_true true e = sym e
    not_true false e = refl

pub hopeful : PassingMirrorsAreHopeful
unfolding all_admitted
hopeful bytes end window most head slots = by_case (near_passes bytes end window most (with_slots head slots)) refl
  where
    by_case : (b : Bool) → near_passes bytes end window most (with_slots head slots) ≡ b → list_all (λ k. near_passes bytes end window most (with_slots head (take k slots))) (range_with_len 0 (length slots + 1)) ≡ near_passes bytes end window most (with_slots head slots)
    by_case true e = all_true (λ k. near_passes bytes end window most (with_slots head (take k slots))) 0 (length slots + 1) (λ k low high. fewer bytes end window most k head slots e) ∙ sym e
    by_case false e = one_false (λ k. near_passes bytes end window most (with_slots head (take k slots))) 0 (length slots + 1) (length slots) (omega arith) (omega arith)
        (ap (λ (l : List (Option ℕ)). near_passes bytes end window most (with_slots head l)) (take_all (length slots) slots (omega arith)) ∙ e) ∙ sym e

pub no_copy : LostChunksHaveNoCopy
no_copy set end h long = lost_where_bare set end h long

shaped_members : (set : NearSet) (images : ℕ) → shape_fault set images ≡ None → set.head.members ≡ length set.slots.items
shaped_members set images h = grind (arith, nat_tests)

some_chunk : (n : ℕ) → 1 ≤ n → nat_eq n 0 ≡ false
some_chunk n some = grind (arith, nat_tests)

none_bare : (o : Option ℕ) (lost : Bool) → not lost ≡ true → lost ≡ is_some o → o ≡ None
none_bare None lost kept e = refl
none_bare (Some chunk) true kept e = absurd (cc)
none_bare (Some chunk) false kept e = absurd (cc)

pub no_rule : PassingMirrorsBreakNoRule
no_rule bytes images end window most set shape passes =
    let both = parts (nat_le 1 (near_chunks set.head end)) (not (has_lost end set) && nat_le (torn bytes end window set) most) passes in
    let rest = parts (not (has_lost end set)) (nat_le (torn bytes end window set) most) both.1 in
    let some : 1 ≤ near_chunks set.head end = leb-true 1 (near_chunks set.head end) both.0 in
    let bare : first_bare set end ≡ None = none_bare (first_bare set end) (has_lost end set) rest.0 (lost_where_bare set end (shaped_head set images shape) (shaped_members set images shape)) in
    ap₂ (λ (a : Option NearRule) (b : Option ℕ). volume_fault set end a b) shape bare
    ∙ ap (λ (b : Bool). cond b (Some (rowless_rule set)) None) (some_chunk (near_chunks set.head end) some)
