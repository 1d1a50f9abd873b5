-- The parts of a buffer in which a reply stands.
use Rattle.std.proofs.Common.{◌≡◌, ℕ, ◌+◌, ◌≤◌, List, ◌++◌, length, take, drop, slice_range, refl, sym, ap, arith, ◌∙◌}
use Rattle.std.proofs.lemmas.List.{length-take-le, length-drop, take-append-le, drop-append-le, take_at, drop_at, drop-drop}
use borrow.Rule.Slice.PartMut.{put_mid}
use Rattle.block_device.proofs.Parts.{part_of}
use Rattle.nbd_server.proofs.Pieces.{take_split}

-- a head that was put in front of bytes
pub headed : (at a k count : ℕ) (room head : List ℕ) → a + length head ≡ at → a + k ≡ at → at + count ≤ length room → slice_range (put_mid a k room head) a (at + count) ≡ head ++ slice_range room at (at + count)
headed at a k count room head start size within =
    let rest = drop k (drop a room) in
    part_of (put_mid a k room head) a (length head + count) (at + count) (omega arith)
    ∙ ap (λ (xs : List ℕ). take (length head + count) xs) (drop_at (take a room) (head ++ rest) a (length-take-le a room (omega arith)))
    ∙ take_split (length head) count (head ++ rest)
    ∙ ap (λ (xs : List ℕ). xs ++ take count (drop (length head) (head ++ rest))) (take_at head rest (length head) refl)
    ∙ ap (λ (xs : List ℕ). head ++ take count xs) (drop_at head rest (length head) refl ∙ drop-drop k a room ∙ ap (λ (n : ℕ). drop n room) size)
    ∙ ap (λ (xs : List ℕ). head ++ xs) (sym (part_of room at count (at + count) refl))

-- a part of what was read into a buffer
pub within_read : (a k shift count : ℕ) (room to : List ℕ) → a ≤ length room → shift + count ≤ length to → slice_range (put_mid a k room to) (a + shift) (a + shift + count) ≡ slice_range to shift (shift + count)
within_read a k shift count room to long fits =
    let rest = drop k (drop a room) in
    part_of (put_mid a k room to) (a + shift) count (a + shift + count) refl
    ∙ ap (λ (xs : List ℕ). take count xs) (
    sym (drop-drop shift a (put_mid a k room to))
    ∙ ap (λ (xs : List ℕ). drop shift xs) (drop_at (take a room) (to ++ rest) a (length-take-le a room long))
    ∙ drop-append-le shift to rest (omega arith)
    )
    ∙ take-append-le count (drop shift to) rest (omega (arith, length-drop shift to))
    ∙ sym (part_of to shift count (shift + count) refl)
