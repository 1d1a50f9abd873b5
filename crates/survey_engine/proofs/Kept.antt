-- What holds of elements that are kept, and of those that a list gives.
use Rattle.std.proofs.Common.{◌≡◌, ℕ, ◌+◌, ◌<◌, List, [], ◌∷◌, ◌++◌, Bool, true, false, cond, length, take, get_or, fold, refl, sym, ap, ◌∙◌, All, IfSome, Option, Some, None}
use Rattle.std.specs.List.{cons_option, filter_map}
use Rattle.std.proofs.lemmas.List.{take_more}
use Rattle.std.proofs.lemmas.List.Elements.{All-cons, All-head, All-nil, All-push, All-tail, filter_map-append}
use Rattle.survey_engine.specs.Kept.{kept_with}

keeps_one : {A : Type 0} (Q : List A → Type 0) (start : List A) (x : A) (b : Bool) → Q start → (b ≡ true → Q (start ++ x ∷ [])) → Q (cond b (start ++ x ∷ []) start)
keeps_one Q start x true held step = step refl
keeps_one Q start x false held step = held

pub kept_keeps : {A : Type 0} (Q : List A → Type 0) (admits : List A → A → Bool) → ((before : List A) (x : A) → Q before → admits before x ≡ true → Q (before ++ x ∷ [])) → (xs start : List A) → Q start → Q (fold (kept_with admits) start xs)
kept_keeps Q admits step [] start held = held
kept_keeps Q admits step (x ∷ xs) start held = kept_keeps Q admits step xs (kept_with admits start x) (keeps_one Q start x (admits start x) held (λ admitted. step start x held admitted))

pub kept_each : {A : Type 0} (P : A → Type 0) (admits : List A → A → Bool) (xs start : List A) → All P xs → All P start → All P (fold (kept_with admits) start xs)
kept_each P admits [] start all held = held
kept_each P admits (x ∷ xs) start all held =
    kept_each P admits xs (kept_with admits start x) (All-tail P x xs all) (keeps_one (All P) start x (admits start x) held (λ admitted. All-push P start x held (All-head P x xs all)))

cons_each : {Y : Type 0} (P : Y → Type 0) (one : Option Y) (rest : List Y) → IfSome one P → All P rest → All P (cons_option one rest)
cons_each P None rest here all = all
cons_each P (Some y) rest here all = All-cons P y rest here all

-- what holds of each that a list gives
pub mapped_each : {X Y : Type 0} (R : X → Type 0) (P : Y → Type 0) (h : X → Option Y) → ((x : X) → R x → IfSome (h x) P) → (xs : List X) → All R xs → All P (filter_map h xs)
mapped_each R P h gives [] all = All-nil P
mapped_each R P h gives (x ∷ xs) all = cons_each P (h x) (filter_map h xs) (gives x (All-head R x xs all)) (mapped_each R P h gives xs (All-tail R x xs all))

-- what a list gives once one more element was looked at
pub maps_more : {X Y : Type 0} (h : X → Option Y) (xs : List X) (i : ℕ) (x : X) (one : Option Y) → i < length xs → x ≡ get_or xs i x → h x ≡ one → filter_map h (take (i + 1) xs) ≡ filter_map h (take i xs) ++ cons_option one []
maps_more {X} {Y} h xs i x one below is at =
    ap (filter_map h) (take_more xs i x below) ∙ filter_map-append h (take i xs) (get_or xs i x ∷ [])
    ∙ ap (λ (y : X). filter_map h (take i xs) ++ cons_option (h y) []) (sym is) ∙ ap (λ (o : Option Y). filter_map h (take i xs) ++ cons_option o []) at
