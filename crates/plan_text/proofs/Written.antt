-- Lines that are written one after the other.
use Rattle.std.proofs.Common.{◌≡◌, ℕ, Bool, true, false, codes, decimal, List, [], ◌∷◌, ◌++◌, sym, ap, ◌∙◌, append_assoc, append-nil}
use Rattle.std.specs.List.{flat_map}
use Rattle.std.proofs.lemmas.List.Concat.{flat_map-append}
use Rattle.value_text.specs.Spelling.{line, named}
use Rattle.plan_text.specs.PlanText.{mode_line, version_lines, version_number}

one_line : (text old : List ℕ) (l : List ℕ) → text ≡ old ++ line l → text ≡ old ++ flat_map line (l ∷ [])
one_line text old l e = e ∙ ap (λ (ds : List ℕ). old ++ ds) (sym (append-nil (line l)))

more_lines : (text mid old : List ℕ) (xs ys : List (List ℕ)) → mid ≡ old ++ flat_map line xs → text ≡ mid ++ flat_map line ys → text ≡ old ++ flat_map line (xs ++ ys)
more_lines text mid old xs ys a b =
    b ∙ ap (λ (ds : List ℕ). ds ++ flat_map line ys) a ∙ append_assoc old (flat_map line xs) (flat_map line ys) ∙ ap (λ (ds : List ℕ). old ++ ds) (sym (flat_map-append line xs ys))

pub one_and_more : (t0 t1 t2 : List ℕ) (a : List ℕ) (ls : List (List ℕ)) → t1 ≡ t0 ++ line a → t2 ≡ t1 ++ flat_map line ls → t2 ≡ t0 ++ flat_map line (a ∷ ls)
one_and_more t0 t1 t2 a ls p q = more_lines t2 t1 t0 (a ∷ []) ls (one_line t1 t0 a p) q

pub one_and_three : (t0 t1 t2 t3 t4 : List ℕ) (a : List ℕ) (xs ys zs : List (List ℕ)) → t1 ≡ t0 ++ line a → t2 ≡ t1 ++ flat_map line xs → t3 ≡ t2 ++ flat_map line ys → t4 ≡ t3 ++ flat_map line zs → t4 ≡ t0 ++ flat_map line (a ∷ (xs ++ (ys ++ zs)))
one_and_three t0 t1 t2 t3 t4 a xs ys zs p q r s =
    more_lines t4 t3 t0 (a ∷ (xs ++ ys)) zs (more_lines t3 t2 t0 (a ∷ xs) ys (more_lines t2 t1 t0 (a ∷ []) xs (one_line t1 t0 a p) q) r) s
    ∙ ap (λ (ls : List (List ℕ)). t0 ++ flat_map line (a ∷ ls)) (append_assoc xs ys zs)

-- the lines of the version, with the mode and without
pub with_mode : (t0 t1 t2 : List ℕ) (each third : Bool) → third ≡ true → t1 ≡ t0 ++ line (named (codes "reraid-plan") (decimal (version_number each third))) → t2 ≡ t1 ++ line (mode_line each) → t2 ≡ t0 ++ flat_map line (version_lines each third)
with_mode t0 t1 t2 each true is p q = one_and_more t0 t1 t2 (named (codes "reraid-plan") (decimal 3)) (mode_line each ∷ []) p (one_line t2 t1 (mode_line each) q)
with_mode t0 t1 t2 each false is p q = absurd (let no : ⊥ = cc in no)

pub without_mode : (t0 t1 : List ℕ) (each third : Bool) → third ≡ false → t1 ≡ t0 ++ line (named (codes "reraid-plan") (decimal (version_number each third))) → t1 ≡ t0 ++ flat_map line (version_lines each third)
without_mode t0 t1 each false is p = one_line t1 t0 (named (codes "reraid-plan") (decimal (version_number each false))) p
without_mode t0 t1 each true is p = absurd (let no : ⊥ = cc in no)

-- the parts of a whole text, one after the other
pub whole : (t0 t1 t2 t3 t4 : List ℕ) (ws xs ys zs : List (List ℕ)) → t0 ≡ [] → t1 ≡ t0 ++ flat_map line ws → t2 ≡ t1 ++ flat_map line xs → t3 ≡ t2 ++ flat_map line ys → t4 ≡ t3 ++ flat_map line zs → t4 ≡ flat_map line (ws ++ (xs ++ (ys ++ zs)))
whole t0 t1 t2 t3 t4 ws xs ys zs none p q r s =
    more_lines t4 t3 t0 ((ws ++ xs) ++ ys) zs (more_lines t3 t2 t0 (ws ++ xs) ys (more_lines t2 t1 t0 ws xs p q) r) s
    ∙ ap (λ (ds : List ℕ). ds ++ flat_map line (((ws ++ xs) ++ ys) ++ zs)) none
    ∙ ap (λ (ls : List (List ℕ)). flat_map line ls) (append_assoc (ws ++ xs) ys zs ∙ append_assoc ws xs (ys ++ zs))

-- three lines, then some, then one
pub three_some_and_one : (t0 t1 t2 t3 t4 t5 : List ℕ) (a b c d : List ℕ) (xs : List (List ℕ)) → t1 ≡ t0 ++ line a → t2 ≡ t1 ++ line b → t3 ≡ t2 ++ line c → t4 ≡ t3 ++ flat_map line xs → t5 ≡ t4 ++ line d → t5 ≡ t0 ++ flat_map line (a ∷ b ∷ c ∷ (xs ++ d ∷ []))
three_some_and_one t0 t1 t2 t3 t4 t5 a b c d xs p q r s t =
    one_and_more t0 t1 t5 a (b ∷ c ∷ (xs ++ d ∷ [])) p (one_and_more t1 t2 t5 b (c ∷ (xs ++ d ∷ [])) q (one_and_more t2 t3 t5 c (xs ++ d ∷ []) r (more_lines t5 t4 t3 xs (d ∷ []) s (one_line t5 t4 d t))))
