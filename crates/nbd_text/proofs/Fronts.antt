-- What a message says stands in its head, whatever data follow it, for the crates above.
use Rattle.std.proofs.Common.{◌≡◌, ℕ, ◌+◌, ◌<◌, ◌≤◌, ◌&&◌, nat_le, Bool, true, false, List, [], ◌++◌, length, drop, refl, ap, arith, ◌∙◌, if◌then◌else◌, ◌==◌}
use Rattle.std.proofs.lemmas.List.{length-drop, drop-append-le, drop_at}
use Rattle.std.proofs.lemmas.Bool.{and_parts, leb-true, ltb-true, ne_eqb}
use Rattle.byteorder.specs.Endian.{big_number}
use Rattle.byteorder.specs.Numbers.{big_from-append}
use Rattle.nbd_text.specs.Fields.{u16_at, u32_at, u64_at}
use Rattle.nbd_text.specs.Requests.{error_of, is_read, request_of}
use Rattle.nbd_text.specs.Options.{answered, export_answer, option_answer}
use Rattle.nbd_text.specs.Dialogue.{option_data, option_turn}
use Rattle.nbd_text.specs.declared.numbers.TheConstants.{CMD_READ, IHAVEOPT, MOST_BLOCK, OPTION_HEAD, OPT_EXPORT_NAME, REQUEST_HEAD}
use Rattle.nbd_text.specs.declared.heads.Request.{Request}
use Rattle.nbd_text.specs.declared.phase.Phase.TheVariants.{Malformed}

pub u16_front : (at : ℕ) (head rest : List ℕ) → at + 2 ≤ length head → u16_at at (head ++ rest) ≡ u16_at at head
unfolding u16_at
u16_front at head rest within = ap (big_number 2) (drop-append-le at head rest (omega arith)) ∙ big_from-append 2 (drop at head) rest (omega (arith, length-drop at head))

pub u32_front : (at : ℕ) (head rest : List ℕ) → at + 4 ≤ length head → u32_at at (head ++ rest) ≡ u32_at at head
unfolding u32_at
u32_front at head rest within = ap (big_number 4) (drop-append-le at head rest (omega arith)) ∙ big_from-append 4 (drop at head) rest (omega (arith, length-drop at head))

pub u64_front : (at : ℕ) (head rest : List ℕ) → at + 8 ≤ length head → u64_at at (head ++ rest) ≡ u64_at at head
unfolding u64_at
u64_front at head rest within = ap (big_number 8) (drop-append-le at head rest (omega arith)) ∙ big_from-append 8 (drop at head) rest (omega (arith, length-drop at head))

-- the request of a head
pub request_front : (head rest : List ℕ) → REQUEST_HEAD ≤ length head → request_of (head ++ rest) ≡ request_of head
unfolding request_of
request_front head rest whole =
    rw (u32_front 0 head rest (omega arith), u16_front 4 head rest (omega arith), u16_front 6 head rest (omega arith), u64_front 8 head rest (omega arith), u64_front 16 head rest (omega arith), u32_front 24 head rest (omega arith)) refl

-- the data behind the head of an option
pub data_front : (head rest : List ℕ) → OPTION_HEAD ≤ length head → option_data (head ++ rest) ≡ option_data head
unfolding option_data
data_front head rest whole = rw (u64_front 0 head rest (omega arith), u32_front 8 head rest (omega arith), u32_front 12 head rest (omega arith)) refl

-- an option whose magic number is right
pub right_data : (head : List ℕ) → u64_at 0 head ≡ IHAVEOPT → option_data head ≡ (if u32_at 8 head == OPT_EXPORT_NAME then 0 else u32_at 12 head)
unfolding option_data
right_data head right = rw right refl

pub right_turn : (size : ℕ) (plain : Bool) (head text : List ℕ) → length head ≡ OPTION_HEAD → u64_at 0 head ≡ IHAVEOPT →
    option_turn size plain (head ++ text) ≡ (if u32_at 8 head == OPT_EXPORT_NAME then export_answer size plain (u32_at 12 head) else option_answer size plain (u32_at 8 head) text)
unfolding option_turn
right_turn size plain head text whole right =
    rw (u64_front 0 head text (omega arith), u32_front 8 head text (omega arith), u32_front 12 head text (omega arith), right, drop_at head text 16 whole) refl

-- an option whose magic number is wrong
pub wrong_data : (head : List ℕ) → (u64_at 0 head ≡ IHAVEOPT → ⊥) → option_data head ≡ 0
unfolding option_data
wrong_data head wrong = rw (ne_eqb (u64_at 0 head) IHAVEOPT wrong) refl

pub wrong_turn : (size : ℕ) (plain : Bool) (head : List ℕ) → (u64_at 0 head ≡ IHAVEOPT → ⊥) → option_turn size plain head ≡ answered [] Malformed
unfolding option_turn
wrong_turn size plain head wrong = rw (ne_eqb (u64_at 0 head) IHAVEOPT wrong) refl

-- a test that comes out at no error
chosen : (changes within : Bool) → (if changes then 1 else if within then 0 else 22) == 0 ≡ true → within ≡ true
chosen true within none = cc
chosen false true none = refl
chosen false false none = cc

-- what is read lies within the device, and is no longer than the greatest block
pub read_within : (size : ℕ) (request : Request) → is_read size request ≡ true → (0 < request.length) × (request.length ≤ MOST_BLOCK) × (request.offset + request.length ≤ size)
unfolding is_read error_of
read_within size request is =
    let p = and_parts _ _ is in
    let w = chosen _ ((request.command == CMD_READ) && (request.flags == 0) && nat_le request.length MOST_BLOCK && nat_le (request.offset + request.length) size) p.0 in
    let v = and_parts _ _ w in
    (ltb-true 0 request.length p.1, leb-true request.length MOST_BLOCK (and_parts _ _ v.0).1, leb-true (request.offset + request.length) size v.1)
