-- How far blocks that lie side by side were read.
use Rattle.std.proofs.Common.{◌≡◌, ◌⊎◌, inl, inr, ℕ, ◌<◌, ◌≤◌, Bool, true, false, nat_lt, ◌&&◌, ◌||◌, not, List, [], ◌∷◌, refl, ap, ◌∙◌, arith, rules, tests}
use Rattle.rescue_text.specs.declared.block.Block.{Block}
use Rattle.rescue_text.specs.Good.{GoOnFrom, covers, is_finished, is_read, is_read_in}

never : (b : Bool) → (b && false) ≡ false
never true = refl
never false = refl

below : (a b : ℕ) → a < b → nat_lt a b ≡ true
below a b h = search (rules, tests)

above : (a b : ℕ) → b ≤ a → nat_lt a b ≡ false
above a b h = search (rules, tests)

not_below : (a b : ℕ) → nat_lt a b ≡ false → b ≤ a
not_below a b h = search (rules, tests, h)

is_below : (a b : ℕ) → nat_lt a b ≡ true → a < b
is_below a b h = search (rules, tests, h)

in_before : (byte : ℕ) (block : Block) → byte < block.start → is_read_in byte block ≡ false
in_before byte block h = ap (λ (b : Bool). is_finished block.status && (not b && nat_lt byte block.end)) (below _ _ h) ∙ never (is_finished block.status)

pub in_after : (byte : ℕ) (block : Block) → block.end ≤ byte → is_read_in byte block ≡ false
in_after byte block h = ap (λ (b : Bool). is_finished block.status && (not (nat_lt byte block.start) && b)) (above _ _ h)
    ∙ ap (λ (b : Bool). is_finished block.status && b) (never (not (nat_lt byte block.start))) ∙ never (is_finished block.status)

in_bad : (byte : ℕ) (block : Block) → is_finished block.status ≡ false → is_read_in byte block ≡ false
in_bad byte block h = ap (λ (b : Bool). b && (not (nat_lt byte block.start) && nat_lt byte block.end)) h

in_here : (byte : ℕ) (block : Block) → is_finished block.status ≡ true → block.start ≤ byte → byte < block.end → is_read_in byte block ≡ true
in_here byte block good least most = ap (λ (b : Bool). b && (not (nat_lt byte block.start) && nat_lt byte block.end)) good
    ∙ ap (λ (b : Bool). not b && nat_lt byte block.end) (above _ _ least) ∙ below _ _ most

pub not_first : (byte : ℕ) (block : Block) (blocks : List Block) → is_read_in byte block ≡ false → is_read (block ∷ blocks) byte ≡ is_read blocks byte
not_first byte block blocks h = ap (λ (b : Bool). b || is_read blocks byte) h

or_true : (b : Bool) → (b || true) ≡ true
or_true true = refl
or_true false = refl

-- a byte before all of them
pub not_before : (place byte : ℕ) (blocks : List Block) → GoOnFrom place blocks → byte < place → is_read blocks byte ≡ false
not_before place byte [] side lt = refl
not_before place byte (block ∷ blocks) side lt =
    let start = side.0 in
    let more = side.1 in
    not_first byte block blocks (in_before byte block (omega (arith, start, lt))) ∙ not_before block.end byte blocks side.2 (omega (arith, more, lt))

-- all blocks end after a byte
abbrev pub EndsAfter : ℕ → List Block → Type 0
EndsAfter from [] = Unit {0}
EndsAfter from (block ∷ blocks) = from < block.end

covers_first : (good short : Bool) (rest : Bool) → (good && (not short || rest)) ≡ true → (good ≡ true) × (short ≡ true → rest ≡ true)
covers_first true true rest h = (refl, λ _. h)
covers_first true false rest h = (refl, λ e. absurd (search (rules, e)))
covers_first false short rest h = absurd (search (rules, h))

read_first : (place to byte : ℕ) (block : Block) (blocks : List Block) → (block.start ≡ place) × (place < block.end) × GoOnFrom block.end blocks →
    (good : is_finished block.status ≡ true) → place ≤ byte → (inside : Bool) → nat_lt byte block.end ≡ inside → (inside ≡ false → is_read blocks byte ≡ true) → is_read (block ∷ blocks) byte ≡ true
read_first place to byte block blocks side good least true inside rest =
    let start = side.0 in
    ap (λ (b : Bool). b || is_read blocks byte) (in_here byte block good (omega (arith, start, least)) (search (rules, tests, inside)))
read_first place to byte block blocks side good least false outside rest =
    ap (λ (b : Bool). is_read_in byte block || b) (rest refl) ∙ or_true (is_read_in byte block)

-- what is covered was read
pub covers_yes : (place to byte : ℕ) (blocks : List Block) → GoOnFrom place blocks → covers blocks to ≡ true → place ≤ byte → byte < to → is_read blocks byte ≡ true
covers_yes place to byte [] side h least most = absurd (search (rules, h))
covers_yes place to byte (block ∷ blocks) side h least most =
    let parts = covers_first (is_finished block.status) (nat_lt block.end to) (covers blocks to) h in
    read_first place to byte block blocks side parts.0 least (nat_lt byte block.end) refl
    (λ outside.
    let past : block.end ≤ byte = not_below _ _ outside in
    covers_yes block.end to byte blocks side.2 (parts.1 (below _ _ (omega (arith, past, most)))) past most)

-- the first block is not read, or it is and those after it do not go so far
covers_cases : (good short rest : Bool) → (good && (not short || rest)) ≡ false → (good ≡ false) ⊎ ((short ≡ true) × (rest ≡ false))
covers_cases false short rest h = inl refl
covers_cases true true rest h = inr (refl, h)
covers_cases true false rest h = absurd (search (rules, h))

-- a byte that was not read
pub record IsUnread (blocks : List Block) (from to : ℕ) : Type 0 where
  pub byte : ℕ
  pub least : from ≤ byte
  pub most : byte < to
  pub unread : is_read blocks byte ≡ false

ends_next : (place : ℕ) (blocks : List Block) → GoOnFrom place blocks → EndsAfter place blocks
ends_next place [] side = tt
ends_next place (block ∷ blocks) side = side.1

no_cases : (place from to : ℕ) (block : Block) (blocks : List Block) → (block.start ≡ place) × (place < block.end) × GoOnFrom block.end blocks → from < to → from < block.end →
    (is_finished block.status ≡ false) ⊎ ((nat_lt block.end to ≡ true) × (covers blocks to ≡ false)) → (block.end < to → covers blocks to ≡ false → IsUnread blocks block.end to) → IsUnread (block ∷ blocks) from to
no_cases place from to block blocks side some ends (inl bad) more = record {
  byte = from;
  least = omega arith;
  most = some;
  unread = not_first from block blocks (in_bad from block bad) ∙ not_before block.end from blocks side.2 ends;
}
no_cases place from to block blocks side some ends (inr short) more =
    let found = more (is_below _ _ short.0) short.1 in
    record {
      byte = found.byte;
      least = let l = found.least in omega (arith, l, ends);
      most = found.most;
      unread = not_first found.byte block blocks (in_after found.byte block found.least) ∙ found.unread;
    }

-- what is not covered was not all read
pub covers_no : (place from to : ℕ) (blocks : List Block) → GoOnFrom place blocks → place ≤ from → from < to → EndsAfter from blocks → covers blocks to ≡ false → IsUnread blocks from to
covers_no place from to [] side least some ends h = record { byte = from; least = omega arith; most = some; unread = refl }
covers_no place from to (block ∷ blocks) side least some ends h =
    no_cases place from to block blocks side some ends (covers_cases (is_finished block.status) (nat_lt block.end to) (covers blocks to) h)
    (λ short rest. covers_no block.end block.end to blocks side.2 (omega arith) short (ends_next block.end blocks side.2) rest)
