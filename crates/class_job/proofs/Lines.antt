-- The lines of a list of sets: each is that of one entry.
use Rattle.std.proofs.Common.{◌≡◌, ℕ, ◌≤◌, List, [], ◌∷◌, ◌++◌, length, length-append, sym, ap, ◌∙◌, arith, append_assoc}
use Rattle.value_text.proofs.Spellings.{first_separator}
use Rattle.volume_classes.proofs.SetLines.{entry_name, line_is, name_is_line, one_entry}
use Rattle.volume_classes.specs.SetLists.{Entry, IsEntry, entry_line}

-- two texts that begin with the line of an entry begin with that of the same one
pub one_begins : (images end : ℕ) (d e : Entry) (x y : List ℕ) → IsEntry images end d → IsEntry images end e → entry_line d ++ x ≡ entry_line e ++ y → (d ≡ e) × (x ≡ y)
one_begins images end d e x y p q same =
    let left : entry_line d ++ x ≡ entry_name d ++ 10 ∷ x = ap (λ (xs : List ℕ). xs ++ x) (line_is d) ∙ append_assoc (entry_name d) (10 ∷ []) x in
    let right : entry_line e ++ y ≡ entry_name e ++ 10 ∷ y = ap (λ (xs : List ℕ). xs ++ y) (line_is e) ∙ append_assoc (entry_name e) (10 ∷ []) y in
    let both = first_separator 10 (entry_name d) (entry_name e) x y (name_is_line images end d p) (name_is_line images end e q) (sym left ∙ same ∙ right) in
    let lines : entry_line d ≡ entry_line e = line_is d ∙ ap (λ (xs : List ℕ). xs ++ 10 ∷ []) both.0 ∙ sym (line_is e) in
    (one_entry images end d e p q lines, both.1)

-- the line of an entry is not empty
pub some_line : (entry : Entry) → 1 ≤ length (entry_line entry)
some_line entry = omega (arith, ap length (line_is entry), length-append (entry_name entry) (10 ∷ []))
