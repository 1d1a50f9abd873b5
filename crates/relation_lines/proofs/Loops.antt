-- One image more.
use Rattle.std.proofs.Common.{◌≡◌, ℕ, suc, ◌+◌, ◌-◌, ◌≤◌, Bool, cond, List, [], ◌∷◌, ◌++◌, length, take, drop, get_or, ap, sym, ◌∙◌, append_assoc, arith}
use Rattle.std.specs.List.{flat_map}
use Rattle.std.proofs.lemmas.List.{take_all}
use Rattle.relation_lines.specs.Text.{inner}
use Rattle.relation_lines.specs.declared.style.Style.{Style}
use Rattle.std.specs.Prelude.{bit_or}
use Rattle.row_relations.specs.Tables.{Table, standing_of}
use Rattle.relation_lines.specs.Sets.{image_bit, images_below, is_dependent, join, parts_below, set_where, tie_of}

next : (n : ℕ) → n + 1 ≡ suc n
next n = omega arith

pub images_more : (test : ℕ → Bool) (n : ℕ) → images_below test (n + 1) ≡ cond (test n) (images_below test n ++ n ∷ []) (images_below test n)
images_more test n = ap (images_below test) (next n)

pub set_more : (test : ℕ → Bool) (n : ℕ) → set_where (n + 1) test ≡ cond (test n) (bit_or (set_where n test) (image_bit n)) (set_where n test)
set_more test n = ap (λ (k : ℕ). set_where k test) (next n)

pub parts_more : (table : Table) (n : ℕ) → parts_below table (n + 1) ≡ cond (is_dependent (standing_of table n)) (join (parts_below table n) (tie_of table n)) (parts_below table n)
parts_more table n = ap (parts_below table) (next n)

-- the first of a list that a pattern has taken apart, and the others, with a mark before each
pub with_marks : (style : Style) (between : List ℕ) (text : ℕ → List ℕ) (line : List ℕ) (x : ℕ) (xs : List ℕ) → 1 ≤ length xs → get_or xs 0 x ≡ x →
    (line ++ text x) ++ flat_map (λ y. between ++ text y) (take (length xs - 1) (drop 1 xs)) ≡ line ++ inner style between text xs
with_marks style between text line x [] some first = absurd (omega arith)
with_marks style between text line x (y ∷ xs) some first =
    let rest : take (suc (length xs) - 1) xs ≡ xs = take_all (suc (length xs) - 1) xs (omega arith) in
    ap (λ (z : ℕ). (line ++ text z) ++ flat_map (λ w. between ++ text w) (take (suc (length xs) - 1) xs)) (sym first)
    ∙ ap (λ (others : List ℕ). (line ++ text y) ++ flat_map (λ w. between ++ text w) others) rest
    ∙ append_assoc line (text y) (flat_map (λ w. between ++ text w) xs)
