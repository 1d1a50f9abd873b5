-- A line of groups is that of one entry.
use Rattle.std.proofs.Common.{◌≡◌, ◌≢◌, ◌<◌, ◌^◌, ℕ, List, ◌∷◌, ◌++◌, get_or, codes, decimal, refl, sym, ap, ◌∙◌, arith, Option, None, Some, MatchOption}
use Rattle.std.proofs.lemmas.Fmt.{decimal_injective}
use Rattle.std.proofs.lemmas.List.{append_cancel_left}
use Rattle.mark_kinds.specs.declared.table.GroupKind.{GroupKind}
use Rattle.mark_kinds.specs.declared.table.Kind.{Kind}
use Rattle.landmark_rules.specs.declared.marks.Mark.{Mark}
use Rattle.landmark_rules.specs.declared.marks.MarkBounds.{MarkBounds}
use Rattle.landmark_rules.specs.Groups.{AreMarkBounds}
use Rattle.landmark_rules.specs.declared.marks.Rule.{Rule}
use Rattle.landmark_rules.specs.declared.marks.Rule.TheVariants.{At, Either, Every}
use Rattle.landmark_rules.specs.Rules.{IsRule}
use Rattle.plan_text.specs.declared.entry.Entry.{Entry}
use Rattle.plan_text.specs.declared.entry.Entry.TheVariants.{Bounds as BoundsEntry, Done, Group as GroupEntry, Mark as MarkEntry}
use Rattle.plan_text.specs.Drafts.{IsEntry, IsSpelledMark, entry_line}
use Rattle.value_text.specs.NameLaws.{byte_law, number_law}
use Rattle.landmark_text.specs.KindLaws.{group_law, kind_law}
use Rattle.plan_text.specs.PlanText.{bounds_text, mark_text, rule_text}
use Rattle.landmark_text.specs.Names.{group_name, kind_name}
use Rattle.value_text.proofs.Spellings.{next_value}

abbrev Same : ℕ → ℕ → Type 0
Same m n = m ≡ n

-- the byte at a place
abbrev byte_at : ℕ → List ℕ → ℕ
byte_at i ds = get_or ds i 0

pub same_group : (k l : GroupKind) → group_name k ≡ group_name l → k ≡ l
same_group k l e = group_law.one_value k l tt tt e

-- a number, a colon and what follows
pub same_number : (text : List ℕ) (m n : ℕ) (x y : List ℕ) → (m < 2 ^ 55) × (text ≡ decimal m ++ 58 ∷ x) → n < 2 ^ 55 → text ≡ decimal n ++ 58 ∷ y → (m ≡ n) × (x ≡ y)
same_number text m n x y read small e = next_value decimal (λ k. k < 2 ^ 64) number_law 58 text m n x y refl (omega (arith, read.0), read.1) (omega arith) e

same_last : (m n : ℕ) → m < 2 ^ 55 → n < 2 ^ 55 → decimal m ≡ decimal n → m ≡ n
same_last m n p q e = decimal_injective m n (omega arith) (omega arith) e

pub same_either : (d e f g : ℕ) → IsRule (Either d e) → IsRule (Either f g) → decimal d ++ 58 ∷ decimal e ≡ decimal f ++ 58 ∷ decimal g → (d ≡ f) × (e ≡ g)
same_either d e f g p q h =
    let one = same_number (decimal d ++ 58 ∷ decimal e) d f (decimal e) (decimal g) (p.0, refl) q.0 h in
    (one.0, same_last e g p.1 q.1 one.1)

pub same_every : (s c p t d q : ℕ) → IsRule (Every s c p) → IsRule (Every t d q) → decimal s ++ 58 ∷ (decimal c ++ 58 ∷ decimal p) ≡ decimal t ++ 58 ∷ (decimal d ++ 58 ∷ decimal q) → (s ≡ t) × (c ≡ d) × (p ≡ q)
same_every s c p t d q is other h =
    let one = same_number (decimal s ++ 58 ∷ (decimal c ++ 58 ∷ decimal p)) s t (decimal c ++ 58 ∷ decimal p) (decimal d ++ 58 ∷ decimal q) (is.0, refl) other.0 h in
    let two = same_number (decimal c ++ 58 ∷ decimal p) c d (decimal p) (decimal q) (is.1, refl) other.1 one.1 in
    (one.0, two.0, same_last p q is.2 other.2 two.1)

pub same_rule : (r s : Rule) → IsRule r → IsRule s → rule_text r ≡ rule_text s → r ≡ s
same_rule (At d) (At e) p q h = ap At (same_last d e p q (append_cancel_left (codes "at:") (decimal d) (decimal e) h))
same_rule (At d) (Either e f) p q h = let no : Same 97 101 = ap (byte_at 0) h in absurd (omega arith)
same_rule (At d) (Every e f g) p q h = let no : Same 97 101 = ap (byte_at 0) h in absurd (omega arith)
same_rule (Either d e) (At f) p q h = let no : Same 101 97 = ap (byte_at 0) h in absurd (omega arith)
same_rule (Either d e) (Either f g) p q h =
    let both = same_either d e f g p q (append_cancel_left (codes "either:") (decimal d ++ 58 ∷ decimal e) (decimal f ++ 58 ∷ decimal g) h) in
    ap (λ (k : ℕ). Either k e) both.0 ∙ ap (λ (k : ℕ). Either f k) both.1
same_rule (Either d e) (Every f g i) p q h = let no : Same 105 118 = ap (byte_at 1) h in absurd (omega arith)
same_rule (Every d e f) (At g) p q h = let no : Same 101 97 = ap (byte_at 0) h in absurd (omega arith)
same_rule (Every d e f) (Either g i) p q h = let no : Same 118 105 = ap (byte_at 1) h in absurd (omega arith)
same_rule (Every d e f) (Every g i j) p q h =
    let all = same_every d e f g i j p q (append_cancel_left (codes "every:") (decimal d ++ 58 ∷ (decimal e ++ 58 ∷ decimal f)) (decimal g ++ 58 ∷ (decimal i ++ 58 ∷ decimal j)) h) in
    ap (λ (k : ℕ). Every k e f) all.0 ∙ ap (λ (k : ℕ). Every g k f) all.1 ∙ ap (λ (k : ℕ). Every g i k) all.2

-- a text that begins with the word of one rule is none of another
pub at_only : (text : List ℕ) → ((n : ℕ) → n < 2 ^ 55 → text ≢ decimal n) → (whole : List ℕ) → whole ≡ codes "at:" ++ text → (rule : Rule) → IsRule rule → whole ≢ rule_text rule
at_only text none whole w (At d) is e = none d is (append_cancel_left (codes "at:") text (decimal d) (sym w ∙ e))
at_only text none whole w (Either d f) is e = let no : Same 97 101 = ap (byte_at 0) (sym w ∙ e) in absurd (omega arith)
at_only text none whole w (Every d f g) is e = let no : Same 97 101 = ap (byte_at 0) (sym w ∙ e) in absurd (omega arith)

pub either_only : (text whole : List ℕ) (r : Option Rule) → whole ≡ codes "either:" ++ text →
    MatchOption r ((d f : ℕ) → IsRule (Either d f) → text ≢ decimal d ++ 58 ∷ decimal f) (λ rule. (d : ℕ) × (f : ℕ) × (rule ≡ Either d f) × IsRule (Either d f) × (text ≡ decimal d ++ 58 ∷ decimal f)) →
    MatchOption r ((rule : Rule) → IsRule rule → whole ≢ rule_text rule) (λ rule. IsRule rule × (whole ≡ rule_text rule))
either_only text whole None w h = no_either text whole w h
  where
    no_either : (text whole : List ℕ) → whole ≡ codes "either:" ++ text → ((d f : ℕ) → IsRule (Either d f) → text ≢ decimal d ++ 58 ∷ decimal f) → (rule : Rule) → IsRule rule → whole ≢ rule_text rule
    no_either text whole w none (At d) is e = let no : Same 101 97 = ap (byte_at 0) (sym w ∙ e) in absurd (omega arith)
    no_either text whole w none (Either d f) is e = none d f is (append_cancel_left (codes "either:") text (decimal d ++ 58 ∷ decimal f) (sym w ∙ e))
    no_either text whole w none (Every d f g) is e = let no : Same 105 118 = ap (byte_at 1) (sym w ∙ e) in absurd (omega arith)
either_only text whole (Some rule) w h =
    let same : rule ≡ Either h.0 h.1 = h.2 in
    rw same (h.3, w ∙ ap (λ (ds : List ℕ). codes "either:" ++ ds) h.4)

pub every_only : (text whole : List ℕ) (r : Option Rule) → whole ≡ codes "every:" ++ text →
    MatchOption r ((s c p : ℕ) → IsRule (Every s c p) → text ≢ decimal s ++ 58 ∷ (decimal c ++ 58 ∷ decimal p)) (λ rule. (s : ℕ) × (c : ℕ) × (p : ℕ) × (rule ≡ Every s c p) × IsRule (Every s c p) × (text ≡ decimal s ++ 58 ∷ (decimal c ++ 58 ∷ decimal p))) →
    MatchOption r ((rule : Rule) → IsRule rule → whole ≢ rule_text rule) (λ rule. IsRule rule × (whole ≡ rule_text rule))
every_only text whole None w h = no_every text whole w h
  where
    no_every : (text whole : List ℕ) → whole ≡ codes "every:" ++ text → ((s c p : ℕ) → IsRule (Every s c p) → text ≢ decimal s ++ 58 ∷ (decimal c ++ 58 ∷ decimal p)) → (rule : Rule) → IsRule rule → whole ≢ rule_text rule
    no_every text whole w none (At d) is e = let no : Same 101 97 = ap (byte_at 0) (sym w ∙ e) in absurd (omega arith)
    no_every text whole w none (Either d f) is e = let no : Same 118 105 = ap (byte_at 1) (sym w ∙ e) in absurd (omega arith)
    no_every text whole w none (Every s c p) is e = none s c p is (append_cancel_left (codes "every:") text (decimal s ++ 58 ∷ (decimal c ++ 58 ∷ decimal p)) (sym w ∙ e))
every_only text whole (Some rule) w h =
    let same : rule ≡ Every h.0 h.1 h.2 = h.3 in
    rw same (h.4, w ∙ ap (λ (ds : List ℕ). codes "every:" ++ ds) h.5)

-- a text with the word of no rule
pub no_rule : (text : List ℕ) → ((rest : List ℕ) → text ≢ codes "at:" ++ rest) → ((rest : List ℕ) → text ≢ codes "either:" ++ rest) → ((rest : List ℕ) → text ≢ codes "every:" ++ rest) → (rule : Rule) → IsRule rule → text ≢ rule_text rule
no_rule text a b c (At d) is e = a (decimal d) e
no_rule text a b c (Either d f) is e = b (decimal d ++ 58 ∷ decimal f) e
no_rule text a b c (Every s n p) is e = c (decimal s ++ 58 ∷ (decimal n ++ 58 ∷ decimal p)) e

-- the parts of a mark, one after the other
pub after_kind : (mark : Mark) (text : List ℕ) (kind : Kind) (rest : List ℕ) → text ≡ kind_name kind ++ 32 ∷ rest → text ≡ mark_text mark →
    (kind ≡ mark.kind) × (rest ≡ decimal mark.image ++ 32 ∷ (decimal mark.sector ++ 32 ∷ rule_text mark.rule))
after_kind mark text kind rest read e = next_value kind_name (λ k. Unit {0}) kind_law 32 text kind mark.kind rest _ refl (tt, read) tt e

pub after_image : (mark : Mark) → IsSpelledMark mark → (text : List ℕ) (image : ℕ) (rest : List ℕ) → (image < 2 ^ 8) × (text ≡ decimal image ++ 32 ∷ rest) → text ≡ decimal mark.image ++ 32 ∷ (decimal mark.sector ++ 32 ∷ rule_text mark.rule) →
    (image ≡ mark.image) × (rest ≡ decimal mark.sector ++ 32 ∷ rule_text mark.rule)
after_image mark is text image rest read e = next_value decimal (λ n. n < 2 ^ 8) byte_law 32 text image mark.image rest _ refl read is.image e

pub after_sector : (mark : Mark) → IsSpelledMark mark → (text : List ℕ) (sector : ℕ) (rest : List ℕ) → (sector < 2 ^ 64) × (text ≡ decimal sector ++ 32 ∷ rest) → text ≡ decimal mark.sector ++ 32 ∷ rule_text mark.rule →
    (sector ≡ mark.sector) × (rest ≡ rule_text mark.rule)
after_sector mark is text sector rest read e = next_value decimal (λ n. n < 2 ^ 64) number_law 32 text sector mark.sector rest _ refl read is.sector e

mark_with : Kind → ℕ → ℕ → Rule → Mark
mark_with kind image sector rule = record { kind = kind; image = image; sector = sector; rule = rule }

eq_mark : (m n : Mark) → m.kind ≡ n.kind → m.image ≡ n.image → m.sector ≡ n.sector → m.rule ≡ n.rule → m ≡ n
unfolding mark_with
eq_mark m n a b c d = let same : mark_with m.kind m.image m.sector m.rule ≡ mark_with n.kind n.image n.sector n.rule = cc in same

pub same_mark : (m n : Mark) → IsSpelledMark m → IsSpelledMark n → mark_text m ≡ mark_text n → m ≡ n
same_mark m n p q e =
    let one = after_kind n (mark_text m) m.kind (decimal m.image ++ 32 ∷ (decimal m.sector ++ 32 ∷ rule_text m.rule)) refl e in
    let two = after_image n q (decimal m.image ++ 32 ∷ (decimal m.sector ++ 32 ∷ rule_text m.rule)) m.image (decimal m.sector ++ 32 ∷ rule_text m.rule) (p.image, refl) one.1 in
    let three = after_sector n q (decimal m.sector ++ 32 ∷ rule_text m.rule) m.sector (rule_text m.rule) (p.sector, refl) two.1 in
    eq_mark m n one.0 two.0 three.0 (same_rule m.rule n.rule p.rule q.rule three.1)

-- the numbers of bounds, one after the other
pub after_misfits : (bounds : MarkBounds) → AreMarkBounds bounds → (text : List ℕ) (misfits : ℕ) (rest : List ℕ) → (misfits < 2 ^ 64) × (text ≡ decimal misfits ++ 32 ∷ rest) → text ≡ bounds_text bounds →
    (misfits ≡ bounds.misfits) × (rest ≡ decimal bounds.least)
after_misfits bounds are text misfits rest read e =
    let small = are.misfits in
    next_value decimal (λ n. n < 2 ^ 64) number_law 32 text misfits bounds.misfits rest _ refl read (omega arith) e

bounds_with : ℕ → ℕ → MarkBounds
bounds_with misfits least = record { misfits = misfits; least = least }

eq_bounds : (b d : MarkBounds) → b.misfits ≡ d.misfits → b.least ≡ d.least → b ≡ d
unfolding bounds_with
eq_bounds b d m l = let same : bounds_with b.misfits b.least ≡ bounds_with d.misfits d.least = cc in same

pub same_bounds : (b d : MarkBounds) → AreMarkBounds b → AreMarkBounds d → bounds_text b ≡ bounds_text d → b ≡ d
same_bounds b d p q e =
    let small = p.misfits in
    let one = after_misfits d q (bounds_text b) b.misfits (decimal b.least) (omega arith, refl) e in
    eq_bounds b d one.0 (same_last b.least d.least p.least q.least one.1)

pub same_entry : (d e : Entry) → IsEntry d → IsEntry e → entry_line d ≡ entry_line e → d ≡ e
same_entry Done Done p q h = refl
same_entry Done (GroupEntry k) p q h = let no : Same 100 103 = ap (byte_at 0) h in absurd (omega arith)
same_entry Done (BoundsEntry b) p q h = let no : Same 100 98 = ap (byte_at 0) h in absurd (omega arith)
same_entry Done (MarkEntry m) p q h = let no : Same 100 109 = ap (byte_at 0) h in absurd (omega arith)
same_entry (GroupEntry k) Done p q h = let no : Same 103 100 = ap (byte_at 0) h in absurd (omega arith)
same_entry (GroupEntry k) (GroupEntry l) p q h = ap GroupEntry (same_group k l (append_cancel_left (codes "group ") (group_name k) (group_name l) h))
same_entry (GroupEntry k) (BoundsEntry b) p q h = let no : Same 103 98 = ap (byte_at 0) h in absurd (omega arith)
same_entry (GroupEntry k) (MarkEntry m) p q h = let no : Same 103 109 = ap (byte_at 0) h in absurd (omega arith)
same_entry (BoundsEntry b) Done p q h = let no : Same 98 100 = ap (byte_at 0) h in absurd (omega arith)
same_entry (BoundsEntry b) (GroupEntry k) p q h = let no : Same 98 103 = ap (byte_at 0) h in absurd (omega arith)
same_entry (BoundsEntry b) (BoundsEntry d) p q h = ap BoundsEntry (same_bounds b d p q (append_cancel_left (codes "bounds ") (bounds_text b) (bounds_text d) h))
same_entry (BoundsEntry b) (MarkEntry m) p q h = let no : Same 98 109 = ap (byte_at 0) h in absurd (omega arith)
same_entry (MarkEntry m) Done p q h = let no : Same 109 100 = ap (byte_at 0) h in absurd (omega arith)
same_entry (MarkEntry m) (GroupEntry k) p q h = let no : Same 109 103 = ap (byte_at 0) h in absurd (omega arith)
same_entry (MarkEntry m) (BoundsEntry b) p q h = let no : Same 109 98 = ap (byte_at 0) h in absurd (omega arith)
same_entry (MarkEntry m) (MarkEntry n) p q h = ap MarkEntry (same_mark m n p q (append_cancel_left (codes "mark ") (mark_text m) (mark_text n) h))

-- a line that is none of groups
pub no_group : (line name : List ℕ) → line ≡ codes "group " ++ name → ((kind : GroupKind) → name ≢ group_name kind) → (entry : Entry) → IsEntry entry → line ≢ entry_line entry
no_group line name w none Done is e = let no : Same 103 100 = ap (byte_at 0) (sym w ∙ e) in absurd (omega arith)
no_group line name w none (GroupEntry kind) is e = none kind (append_cancel_left (codes "group ") name (group_name kind) (sym w ∙ e))
no_group line name w none (BoundsEntry bounds) is e = let no : Same 103 98 = ap (byte_at 0) (sym w ∙ e) in absurd (omega arith)
no_group line name w none (MarkEntry mark) is e = let no : Same 103 109 = ap (byte_at 0) (sym w ∙ e) in absurd (omega arith)

pub no_bounds : (line text : List ℕ) → line ≡ codes "bounds " ++ text → ((bounds : MarkBounds) → AreMarkBounds bounds → text ≢ bounds_text bounds) → (entry : Entry) → IsEntry entry → line ≢ entry_line entry
no_bounds line text w none Done is e = let no : Same 98 100 = ap (byte_at 0) (sym w ∙ e) in absurd (omega arith)
no_bounds line text w none (GroupEntry kind) is e = let no : Same 98 103 = ap (byte_at 0) (sym w ∙ e) in absurd (omega arith)
no_bounds line text w none (BoundsEntry bounds) is e = none bounds is (append_cancel_left (codes "bounds ") text (bounds_text bounds) (sym w ∙ e))
no_bounds line text w none (MarkEntry mark) is e = let no : Same 98 109 = ap (byte_at 0) (sym w ∙ e) in absurd (omega arith)

pub no_mark : (line text : List ℕ) → line ≡ codes "mark " ++ text → ((mark : Mark) → IsSpelledMark mark → text ≢ mark_text mark) → (entry : Entry) → IsEntry entry → line ≢ entry_line entry
no_mark line text w none Done is e = let no : Same 109 100 = ap (byte_at 0) (sym w ∙ e) in absurd (omega arith)
no_mark line text w none (GroupEntry kind) is e = let no : Same 109 103 = ap (byte_at 0) (sym w ∙ e) in absurd (omega arith)
no_mark line text w none (BoundsEntry bounds) is e = let no : Same 109 98 = ap (byte_at 0) (sym w ∙ e) in absurd (omega arith)
no_mark line text w none (MarkEntry mark) is e = none mark is (append_cancel_left (codes "mark ") text (mark_text mark) (sym w ∙ e))

pub no_entry : (line : List ℕ) → line ≢ codes "done" → ((rest : List ℕ) → line ≢ codes "group " ++ rest) → ((rest : List ℕ) → line ≢ codes "bounds " ++ rest) → ((rest : List ℕ) → line ≢ codes "mark " ++ rest) → (entry : Entry) → IsEntry entry → line ≢ entry_line entry
no_entry line a b c d Done is e = a e
no_entry line a b c d (GroupEntry kind) is e = b (group_name kind) e
no_entry line a b c d (BoundsEntry bounds) is e = c (bounds_text bounds) e
no_entry line a b c d (MarkEntry mark) is e = d (mark_text mark) e
