-- The lines of sets with their classes, and what the sets of a list are.
use Rattle.std.proofs.Common.{ℕ, zero, suc, ◌≡◌, ◌+◌, ◌<◌, ◌≤◌, List, [], ◌∷◌, ◌++◌, length, get_or, take, All, sym, ap, ap₂, ◌∙◌, arith, append_assoc, append-nil, subst}
use Rattle.std.specs.declared.option.Option.TheVariants.{None}
use Rattle.std.specs.declared.result.Result.TheVariants.{Err}
use Rattle.std.proofs.lemmas.List.{take_all}
use Rattle.std.proofs.lemmas.List.Elements.{All-cons, All-head, All-nil, All-tail}
use Rattle.raid_params.specs.Validity.{first_fault}
use Rattle.raid_params.specs.declared.types.Geometry.{Geometry}
use Rattle.value_text.specs.SetText.{common, set_line}
use Rattle.volume_classes.specs.Classes.{AreClasses, Classes, IsClassed, class_lines, class_text}
use Rattle.volume_classes.specs.declared.fault.ClassFault.{ClassFault}
use Rattle.volume_classes.specs.declared.fault.ClassFault.TheVariants.{Line, Memory}
use Rattle.volume_classes.specs.SetLists.{AreRead, Entry, IsEntry, NextAt, ReadsSets, SetAt, sets_in}

-- one line more
lines_suc : (numbers : List ℕ) (sets : List Geometry) (n : ℕ) (g : Geometry) → n < length numbers → n < length sets →
    class_lines (take (suc n) numbers) (take (suc n) sets) ≡ class_lines (take n numbers) (take n sets) ++ set_line (get_or numbers n 0) (common (get_or sets n g))
lines_suc [] sets n g a b = absurd (omega arith)
lines_suc (x ∷ xs) [] n g a b = absurd (omega arith)
lines_suc (x ∷ xs) (y ∷ ys) zero g a b = append-nil (set_line x (common y))
lines_suc (x ∷ xs) (y ∷ ys) (suc n) g a b =
    ap (λ (bytes : List ℕ). set_line x (common y) ++ bytes) (lines_suc xs ys n g (omega arith) (omega arith))
    ∙ sym (append_assoc (set_line x (common y)) (class_lines (take n xs) (take n ys)) (set_line (get_or xs n 0) (common (get_or ys n g))))

pub lines_more : (text line : List ℕ) (numbers : List ℕ) (sets : List Geometry) (n : ℕ) (g : Geometry) → n < length numbers → n < length sets → line ≡ set_line (get_or numbers n 0) (common (get_or sets n g)) →
    (text ++ class_lines (take n numbers) (take n sets)) ++ line ≡ text ++ class_lines (take (n + 1) numbers) (take (n + 1) sets)
lines_more text line numbers sets n g a b is =
    let next : n + 1 ≡ suc n = omega arith in
    append_assoc text (class_lines (take n numbers) (take n sets)) line
    ∙ ap (λ (bytes : List ℕ). text ++ bytes)
    (ap (λ (bytes : List ℕ). class_lines (take n numbers) (take n sets) ++ bytes) is ∙ sym (lines_suc numbers sets n g a b) ∙ ap (λ (m : ℕ). class_lines (take m numbers) (take m sets)) (sym next))

pub lines_all : (text : List ℕ) (numbers : List ℕ) (sets : List Geometry) (n : ℕ) → length numbers ≤ n → length sets ≤ n → text ++ class_lines (take n numbers) (take n sets) ≡ text ++ class_lines numbers sets
lines_all text numbers sets n a b = ap₂ (λ (ns : List ℕ) (gs : List Geometry). text ++ class_lines ns gs) (take_all n numbers a) (take_all n sets b)

-- the sets of entries break no rule
ruled_in : (images end : ℕ) (entries : List Entry) → All (IsEntry images end) entries → All (λ geo. first_fault geo images end ≡ None) (sets_in entries)
ruled_in images end [] all = All-nil (λ geo. first_fault geo images end ≡ None)
ruled_in images end (SetAt rank geo ∷ entries) all =
    All-cons (λ g. first_fault g images end ≡ None) geo (sets_in entries) (All-head (IsEntry images end) (SetAt rank geo) entries all).2 (ruled_in images end entries (All-tail (IsEntry images end) (SetAt rank geo) entries all))
ruled_in images end (NextAt next total ∷ entries) all = ruled_in images end entries (All-tail (IsEntry images end) (NextAt next total) entries all)

pub sets_ruled : (images end : ℕ) (text : List ℕ) (sets : List Geometry) → AreRead images end text sets → All (λ geo. first_fault geo images end ≡ None) sets
sets_ruled images end text sets read = subst (λ (gs : List Geometry). All (λ geo. first_fault geo images end ≡ None) gs) (sym read.sets_are) (ruled_in images end read.entries read.are.each)

-- the answer of a text that was read
pub classed : (images end : ℕ) (text answer : List ℕ) (sets : List Geometry) (numbers : List ℕ) (count : ℕ) → AreRead images end text sets → AreClasses images end sets numbers count → answer ≡ class_text sets numbers count →
    IsClassed images end text answer
classed images end text answer sets numbers count read classes is = record {
  entries = read.entries;
  are = read.are;
  text_is = read.text_is;
  numbers = numbers;
  count = count;
  classes = subst (λ (gs : List Geometry). AreClasses images end gs numbers count) read.sets_are classes;
  answer_is = is ∙ ap (λ (gs : List Geometry). class_text gs numbers count) read.sets_are;
}

-- and of one that was not
pub unread : (images end : ℕ) (text : List ℕ) (fault : ClassFault) → ReadsSets images end text (Err fault) → Classes images end text (Err fault)
unread images end text (Line number) refused = refused
unread images end text Memory refused = tt
