-- What is left of blocks that lie side by side where those that end before a byte are passed over.
use Rattle.std.proofs.Common.{◌≡◌, ℕ, zero, suc, ◌-◌, ◌<◌, ◌≤◌, Bool, true, false, ◌↔◌, List, [], ◌∷◌, length, take, drop, get_or, refl, sym, ◌∙◌, arith, rules, tests}
use Rattle.std.specs.List.Sorted.{IsNonDecreasingBy, IsPartitionPoint}
use Rattle.std.proofs.lemmas.Grind.{common_steps}
use lib.Dec.{leb}
use Rattle.rescue_text.specs.declared.block.Block.{Block}
use Rattle.rescue_text.specs.Good.{AreRead, AreSideBySide, GoOnFrom, begins, covers, is_read}
use Rattle.rescue_text.proofs.Covered.{EndsAfter, IsUnread, covers_no, covers_yes, in_after, not_before, not_first}

end_after : (place i : ℕ) (d : Block) (blocks : List Block) → GoOnFrom place blocks → i < length blocks → place ≤ (get_or blocks i d).end
end_after place i d [] side lt = absurd (omega arith)
end_after place zero d (block ∷ blocks) side lt = let more = side.1 in omega (arith, more)
end_after place (suc i) d (block ∷ blocks) side lt =
    let more = side.1 in
    let rest = end_after block.end i d blocks side.2 (omega arith) in
    omega (arith, more, rest)

ends_rise_from : (place : ℕ) (blocks : List Block) → GoOnFrom place blocks → IsNonDecreasingBy (λ block. block.end) blocks
ends_rise_from place [] side i j d le lt = absurd (omega arith)
ends_rise_from place (block ∷ blocks) side zero zero d le lt = omega arith
ends_rise_from place (block ∷ blocks) side zero (suc j) d le lt = end_after block.end j d blocks side.2 (omega arith)
ends_rise_from place (block ∷ blocks) side (suc i) zero d le lt = absurd (omega arith)
ends_rise_from place (block ∷ blocks) side (suc i) (suc j) d le lt = ends_rise_from block.end blocks side.2 i j d (omega arith) (omega arith)

pub ends_rise : (blocks : List Block) → AreSideBySide blocks → IsNonDecreasingBy (λ block. block.end) blocks
ends_rise [] side = λ i j d le lt. absurd (omega arith)
ends_rise (block ∷ blocks) side = ends_rise_from block.start (block ∷ blocks) side

skipped : (k from byte : ℕ) (blocks : List Block) → ((i : ℕ) (d : Block) → i < k → (get_or blocks i d).end ≤ from) → from ≤ byte → k ≤ length blocks → is_read blocks byte ≡ is_read (drop k blocks) byte
skipped zero from byte [] h least few = refl
skipped zero from byte (block ∷ blocks) h least few = refl
skipped (suc k) from byte [] h least few = absurd (omega arith)
skipped (suc k) from byte (block ∷ blocks) h least few =
    let past : block.end ≤ from = h 0 block (omega arith) in
    not_first byte block blocks (in_after byte block (omega (arith, past, least)))
    ∙ skipped k from byte blocks (λ i d lt. h (suc i) d (omega (arith, lt))) least (omega (arith, few))

-- blocks that lie side by side, from some place on
record Left (blocks : List Block) : Type 0 where
  pub place : ℕ
  pub side : GoOnFrom place blocks

left_from : (k place : ℕ) (blocks : List Block) → GoOnFrom place blocks → Left (drop k blocks)
left_from zero place [] side = record { place = place; side = tt }
left_from zero place (block ∷ blocks) side = record { place = place; side = side }
left_from (suc k) place [] side = record { place = place; side = tt }
left_from (suc k) place (block ∷ blocks) side = left_from k block.end blocks side.2

left : (k : ℕ) (blocks : List Block) → AreSideBySide blocks → Left (drop k blocks)
left zero [] side = record { place = 0; side = tt }
left (suc k) [] side = record { place = 0; side = tt }
left k (block ∷ blocks) side = left_from k block.start (block ∷ blocks) side

ends_left : (k from : ℕ) (blocks : List Block) → ((d : Block) → k < length blocks → from < (get_or blocks k d).end) → EndsAfter from (drop k blocks)
ends_left zero from [] h = tt
ends_left zero from (block ∷ blocks) h = h block (omega arith)
ends_left (suc k) from [] h = tt
ends_left (suc k) from (block ∷ blocks) h = ends_left k from blocks (λ d lt. h d (omega (arith, lt)))

starts : (place from : ℕ) (blocks : List Block) → GoOnFrom place blocks → begins blocks from ≡ true → place ≤ from
starts place from [] side h = absurd (search (rules, h))
starts place from (block ∷ blocks) side h =
    let start = side.0 in
    let reached : block.start ≤ from = search (rules, tests, h) in
    omega (arith, start, reached)

not_begun : (place from : ℕ) (blocks : List Block) → GoOnFrom place blocks → begins blocks from ≡ false → is_read blocks from ≡ false
not_begun place from [] side h = refl
not_begun place from (block ∷ blocks) side h =
    let start = side.0 in
    let short : from < block.start = search (rules, tests, h) in
    not_before place from (block ∷ blocks) side (omega (arith, start, short))

pub whole : (k : ℕ) (blocks : List Block) → take (length blocks - k) (drop k blocks) ≡ drop k blocks
whole k blocks = grind (arith, common_steps)

is_true : (b : Bool) → (b ≡ false → ⊥) → b ≡ true
is_true true h = refl
is_true false h = absurd (h refl)

both_not : (b : Bool) → b ≡ true → b ≡ false → ⊥
both_not true h g = search (rules, g)
both_not false h g = search (rules, h)

abbrev pub Passed : ℕ → ℕ → List Block → Type 0
Passed k from blocks = IsPartitionPoint (λ block. leb block.end from ≡ true) (λ block. leb block.end from ≡ false) blocks k

le_by : (a b : ℕ) → leb a b ≡ true → a ≤ b
le_by a b h = search (rules, tests, h)

lt_by : (a b : ℕ) → leb a b ≡ false → b < a
lt_by a b h = search (rules, tests, h)

same_reading : (k from byte : ℕ) (blocks : List Block) → Passed k from blocks → k ≤ length blocks → from ≤ byte → is_read blocks byte ≡ is_read (drop k blocks) byte
same_reading k from byte blocks passed few least = skipped k from byte blocks (λ i d lt. le_by _ _ (passed.0 i d (omega arith) lt)) least few

-- where what is left begins in time, the bytes were read exactly where it covers them
pub begun : (k from to : ℕ) (blocks : List Block) → AreSideBySide blocks → Passed k from blocks → k ≤ length blocks → from < to → begins (drop k blocks) from ≡ true → (covers (drop k blocks) to ≡ true) ↔ AreRead blocks from to
begun k from to blocks side passed few some h =
    let rest = left k blocks side in
    let least : rest.place ≤ from = starts rest.place from (drop k blocks) rest.side h in
    let ends = ends_left k from blocks (λ d lt. lt_by _ _ (passed.1 k d (omega arith) lt)) in (
      λ covered byte more most. same_reading k from byte blocks passed few more ∙ covers_yes rest.place to byte (drop k blocks) rest.side covered (omega (arith, least, more)) most,
      λ read. is_true (covers (drop k blocks) to) (λ no.
          let gap : IsUnread (drop k blocks) from to = covers_no rest.place from to (drop k blocks) rest.side least some ends no in
          both_not (is_read (drop k blocks) gap.byte) (sym (same_reading k from gap.byte blocks passed few gap.least) ∙ read gap.byte gap.least gap.most) gap.unread),
    )

-- elsewhere they were not
pub not_all : (k from to : ℕ) (blocks : List Block) → AreSideBySide blocks → Passed k from blocks → k ≤ length blocks → from < to → begins (drop k blocks) from ≡ false → AreRead blocks from to → ⊥
not_all k from to blocks side passed few some h read =
    let rest = left k blocks side in
    both_not (is_read (drop k blocks) from) (sym (same_reading k from from blocks passed few (omega arith)) ∙ read from (omega arith) some) (not_begun rest.place from (drop k blocks) rest.side h)
