-- Which names may be attached, and what is left of words past the mark.
use Rattle.std.proofs.Common.{ℕ, ◌≡◌, ◌∙◌, ◌+◌, ◌<◌, ◌≤◌, nat_lt, not, true, false, Bool, cond, Some, None, List, [], ◌∷◌, ◌++◌, All, IsTrue, ap, refl, length, get_or, take, codes, arith, subst, sym}
use Rattle.std.specs.List.{position_or_len}
use Rattle.std.specs.Option.{is_some}
use Rattle.std.specs.Str.{bytes_eq}
use Rattle.std.proofs.lemmas.Bool.Decides.{nat_tests}
use Rattle.std.proofs.lemmas.Grind.{common_steps}
use Rattle.std.proofs.lemmas.List.Elements.{All-more, All-tail, All-weaker}
use Rattle.std.proofs.lemmas.List.{take_all}
use Rattle.std.proofs.lemmas.List.Folds.{position_or_len_push}
use Rattle.std.proofs.lemmas.List.Sums.{prefix_len-le-length}
use Rattle.std.proofs.lemmas.Slice.Eq.{bytes_eq-Decides}
use Rattle.command_words.specs.Commands.{names_after}
use Rattle.image_source.specs.Memory.{Shelf, Tape, Tray, number_of}
use Rattle.reraid_rows.specs.Ready.{AreReady}

either_all : (P : List ℕ → Type 0) (b : Bool) (xs ys : List (List ℕ)) → All P xs → All P ys → All P (cond b xs ys)
either_all P true xs ys hx hy = hx
either_all P false xs ys hx hy = hy

-- what holds of all words holds of the names that they end in
pub names_too : (P : List ℕ → Type 0) (words : List (List ℕ)) → All P words → All P (names_after words)
names_too P [] all = all
names_too P (word ∷ words) all =
    either_all P (bytes_eq word (codes "--")) words (names_after words) (All-tail P word words all) (names_too P words (All-tail P word words all))

known_below : (a b : ℕ) → is_some (cond (nat_lt a b) (Some a) None) ≡ true → a < b
known_below a b h = grind (arith, nat_tests)

below_known : (a b : ℕ) → a < b → is_some (cond (nat_lt a b) (Some a) None) ≡ true
below_known a b h = grind (arith, nat_tests)

-- what was found is found once more is appended
found_before : {X : Type 0} (p : X → Bool) (xs : List X) (x : X) → position_or_len p xs < length xs → position_or_len p (xs ++ x ∷ []) < length (xs ++ x ∷ [])
found_before p xs x h = grind (arith, common_steps, nat_tests, position_or_len_push p xs x)

-- what passes the test is found once it is appended
found_last : {X : Type 0} (p : X → Bool) (xs : List X) (x : X) → p x ≡ true → position_or_len p (xs ++ x ∷ []) < length (xs ++ x ∷ [])
found_last p xs x h = grind (arith, common_steps, nat_tests, position_or_len_push p xs x, prefix_len-le-length (λ y. not (p y)) xs)

-- a name that may be attached may be once a file is added
pub kept : (files : List (List ℕ × List ℕ)) (file : List ℕ × List ℕ) (name : List ℕ) → IsTrue (is_some (number_of files name)) → IsTrue (is_some (number_of (files ++ file ∷ []) name))
kept files file name known =
    let p : List ℕ × List ℕ → Bool = λ f. bytes_eq f.0 name in
    below_known _ _ (found_before p files file (known_below (position_or_len p files) (length files) known))

-- so may the name of the file
pub added : (files : List (List ℕ × List ℕ)) (name bytes : List ℕ) → IsTrue (is_some (number_of (files ++ (name, bytes) ∷ []) name))
added files name bytes =
    let p : List ℕ × List ℕ → Bool = λ f. bytes_eq f.0 name in
    let same : p (name, bytes) ≡ true = (bytes_eq-Decides name name).1 refl in
    below_known _ _ (found_last p files (name, bytes) same)

-- one more word may be attached, by its name, and those before it still
pub one_more : (before after : List ℕ → Bool) (words : List (List ℕ)) (i : ℕ) (d name : List ℕ) → i < length words → name ≡ get_or words i d → ((other : List ℕ) → IsTrue (before other) → IsTrue (after other)) → IsTrue (after name) → All (λ word. IsTrue (before word)) (take i words) → All (λ word. IsTrue (after word)) (take (i + 1) words)
one_more before after words i d name inside same others new known =
    All-more (λ word. IsTrue (after word)) words i d inside
    (All-weaker (λ word. IsTrue (before word)) (λ word. IsTrue (after word)) others (take i words) known)
    (subst (λ (n : List ℕ). IsTrue (after n)) same new)

-- past the last word all of them may be attached
pub all_taken : (may : List ℕ → Bool) (words : List (List ℕ)) (i : ℕ) → length words ≤ i → All (λ word. IsTrue (may word)) (take i words) → All (λ word. IsTrue (may word)) words
all_taken may words i past known = rw take_all at known

-- objects that a run may begin with are such still where calls of theirs are listed to fail
pub still_ready : (words : List (List ℕ)) (images later : Shelf) (plan later_plan : Tape) (out later_out notes later_notes : Tray) → later.files ≡ images.files → later.attached ≡ images.attached → later.faults ≡ images.faults → later_plan.faults ≡ plan.faults → later_out.faults ≡ out.faults → later_notes.faults ≡ notes.faults → AreReady words images plan out notes → AreReady words later later_plan later_out later_notes
still_ready words images later plan later_plan out later_out notes later_notes files attached faults plan_faults out_faults notes_faults ready = record {
  fresh = attached ∙ ready.fresh;
  named = subst (λ (fs : List (List ℕ × List ℕ)). All (λ name. IsTrue (is_some (number_of fs name))) words) (sym files) ready.named;
  images_whole = faults ∙ ready.images_whole;
  plan_whole = plan_faults ∙ ready.plan_whole;
  out_whole = out_faults ∙ ready.out_whole;
  notes_whole = notes_faults ∙ ready.notes_whole;
}
