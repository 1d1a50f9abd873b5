-- Rows in which all is good.
use Rattle.std.proofs.Common.{ℕ, suc, ◌≡◌, ◌+◌, ◌<◌, ◌≤◌, Bool, true, false, cond, ◌*◌, ◌-◌, IsTrue, List, [], ◌∷◌, map, length, refl, ap, ◌∙◌, arith, Option, Some, None}
use Rattle.raid_params.specs.declared.wide.Wide.{Wide}
use Rattle.rescue_text.specs.declared.section.Section.{Section}
use Rattle.std.proofs.Common.{◌⊎◌, inl, inr, get_or, subst, sym, All}
use Rattle.std.proofs.lemmas.List.{get_or-map, length-map}
use Rattle.std.proofs.lemmas.List.Elements.{All-nil, All-cons, All-head, All-tail}
use Rattle.std.specs.List.{AllWithin}
use Rattle.address_map.proofs.Heads.{whole_below}
use Rattle.address_map.proofs.Lies.{inside_back, slot_in}
use Rattle.raid_params.specs.Size.{redundancy, rows, volume_sectors}
use Rattle.raid_params.specs.Slots.{empties}
use Rattle.raid_params.specs.Validity.{is_valid_head}
use Rattle.raid_params.specs.declared.types.Head.{Head}
use Rattle.raid_params.specs.declared.types.Geometry.{Geometry}
use Rattle.raid_terms.specs.Address.{LiesAt, home_sector, home_slot}
use Rattle.rescue_map.specs.Damaged.{damaged, image_sector, is_good, known_slot}
use Rattle.rescue_text.specs.Good.{AreGood}
use Rattle.rescue_map.proofs.Known.{good_one, good_together}

-- what a slot holds
pub known_is : (sections : List Section) (set : Wide) (t image : ℕ) → is_good sections image (image_sector set image t) ≡ true → known_slot sections set t (Some image) ≡ Some image
known_is sections set t image good = ap (λ (b : Bool). cond b (Some image) None) good

pub unknown_is : (sections : List Section) (set : Wide) (t image : ℕ) → is_good sections image (image_sector set image t) ≡ false → known_slot sections set t (Some image) ≡ None
unknown_is sections set t image good = ap (λ (b : Bool). cond b (Some image) None) good

-- each of the sectors of a slot whose image is good there is known
pub known_all : (sections : List Section) (set : Wide) (first count t image at : ℕ) → at ≡ image_sector set image first → AreGood sections image at count → first ≤ t → t < first + count →
    known_slot sections set t (Some image) ≡ Some image
known_all sections set first count t image at is are low high =
    known_is sections set t image (good_one sections image at count (image_sector set image t) are (omega arith) (omega arith))

-- and where each is known, all sectors are good
known_good : (sections : List Section) (set : Wide) (t image : ℕ) → known_slot sections set t (Some image) ≡ Some image → is_good sections image (image_sector set image t) ≡ true
known_good sections set t image known = of_test (is_good sections image (image_sector set image t)) refl
  where
    of_test : (b : Bool) → is_good sections image (image_sector set image t) ≡ b → b ≡ true
    of_test true is = refl
    of_test false is = let none = unknown_is sections set t image is in absurd (cc)

pub known_together : (sections : List Section) (set : Wide) (first count image at : ℕ) → at ≡ image_sector set image first →
    ((t : ℕ) → first ≤ t → t < first + count → known_slot sections set t (Some image) ≡ Some image) → AreGood sections image at count
known_together sections set first count image at is all =
    good_together sections image at count (λ sector low high.
    let base = get_or set.bases.items image set.geo.head.offset in
    let same : base + (sector - base) ≡ sector = omega arith in
    subst (λ (k : ℕ). is_good sections image k ≡ true) same (known_good sections set (sector - base) image (all (sector - base) (omega arith) (omega arith))))

-- the member sector of a volume sector lies before the end
pub home_before : (head : Head) (end slot sector v : ℕ) → IsTrue (is_valid_head head) → LiesAt head slot sector v → v < volume_sectors head end → head.offset + sector < end
home_before head end slot sector v valid lies below =
    let inside = inside_back head end slot sector v valid lies below in
    let whole : rows head end * head.chunk ≤ end - head.offset = whole_below (end - head.offset) head.chunk (rows head end) refl in
    omega arith

pub row_slots : (sections : List Section) (set : Wide) (t : ℕ) (row : Geometry) → row ≡ damaged sections set t → length row.slots.items ≡ length set.geo.slots.items
unfolding damaged
row_slots sections set t row is = ap (λ (g : Geometry). length g.slots.items) is ∙ length-map set.geo.slots.items (known_slot sections set t)

-- the home of a volume sector is a slot of the row
pub home_in : (sections : List Section) (set : Wide) (slot sector v : ℕ) (row : Geometry) → IsTrue (is_valid_head set.geo.head) → set.geo.head.members ≡ length set.geo.slots.items →
    LiesAt set.geo.head slot sector v → row ≡ damaged sections set sector → slot < length row.slots.items
home_in sections set slot sector v row valid members lies is =
    let many = row_slots sections set sector row is in
    let inside = slot_in set.geo.head slot sector v valid lies in
    omega arith

-- slots that are each as they were
pub all_known : (f : Option ℕ → Option ℕ) (slots : List (Option ℕ)) → AllWithin (λ held. f held ≡ held) slots 0 (length slots) → map f slots ≡ slots
all_known f [] all = refl
all_known f (slot ∷ slots) all = cc (all 0 None (omega arith) (omega arith), all_known f slots (λ k d low high. all (suc k) d (omega arith) (omega arith)))

pub known_at : (f : Option ℕ → Option ℕ) (slots : List (Option ℕ)) (k : ℕ) → map f slots ≡ slots → k < length slots → f (get_or slots k None) ≡ get_or slots k None
known_at f slots k same inside = sym (get_or-map f slots k None None inside) ∙ ap (λ (l : List (Option ℕ)). get_or l k None) same

-- the head of a row is that of the set
pub row_level : (sections : List Section) (set : Wide) (t : ℕ) (row : Geometry) → row ≡ damaged sections set t → redundancy row.head.level ≡ redundancy set.geo.head.level
unfolding damaged
row_level sections set t row is = ap (λ (g : Geometry). redundancy g.head.level) is

pub row_head : (sections : List Section) (set : Wide) (t : ℕ) (row : Geometry) → row ≡ damaged sections set t → row.head ≡ set.geo.head
unfolding damaged
row_head sections set t row is = ap (λ (g : Geometry). g.head) is

-- what a place of it holds
pub held_home : (sections : List Section) (set : Wide) (v slot sector : ℕ) (row : Geometry) → row ≡ damaged sections set sector → LiesAt set.geo.head slot sector v →
    get_or row.slots.items slot None ≡ get_or (damaged sections set (home_sector set.geo.head v)).slots.items (home_slot set.geo.head v) None
held_home sections set v slot sector row is lies =
    ap (λ (g : Geometry). get_or g.slots.items slot None) is
    ∙ ap (λ (t : ℕ). get_or (damaged sections set t).slots.items slot None) lies.place
    ∙ ap (λ (s : ℕ). get_or (damaged sections set (home_sector set.geo.head v)).slots.items s None) lies.item.1

pub empties_home : (sections : List Section) (set : Wide) (v slot sector : ℕ) (row : Geometry) → row ≡ damaged sections set sector → LiesAt set.geo.head slot sector v →
    empties row.slots.items ≡ empties (damaged sections set (home_sector set.geo.head v)).slots.items
empties_home sections set v slot sector row is lies =
    ap (λ (g : Geometry). empties g.slots.items) is ∙ ap (λ (t : ℕ). empties (damaged sections set t).slots.items) lies.place

-- a slot of a row holds what it holds, or nothing
pub known_or : (sections : List Section) (set : Wide) (t : ℕ) (held : Option ℕ) → (known_slot sections set t held ≡ held) ⊎ (known_slot sections set t held ≡ None)
known_or sections set t None = inl refl
known_or sections set t (Some image) = of_test (is_good sections image (image_sector set image t)) refl
  where
    of_test : (b : Bool) → is_good sections image (image_sector set image t) ≡ b → (known_slot sections set t (Some image) ≡ Some image) ⊎ (known_slot sections set t (Some image) ≡ None)
    of_test true is = inl (known_is sections set t image is)
    of_test false is = inr (unknown_is sections set t image is)

-- what holds of a slot, and of an empty one, holds of a row
all_known_so : (P : Option ℕ → Type 0) (sections : List Section) (set : Wide) (t : ℕ) (slots : List (Option ℕ)) → P None → All P slots → All P (map (known_slot sections set t) slots)
all_known_so P sections set t [] none all = All-nil P
all_known_so P sections set t (held ∷ slots) none all =
    All-cons P (known_slot sections set t held) (map (known_slot sections set t) slots)
    (elim (known_or sections set t held) [
      | inl is ↦ subst P (sym is) (All-head P held slots all)
      | inr is ↦ subst P (sym is) none
    ])
    (all_known_so P sections set t slots none (All-tail P held slots all))

pub row_so : (P : Option ℕ → Type 0) (sections : List Section) (set : Wide) (t : ℕ) (row : Geometry) → row ≡ damaged sections set t → P None → All P set.geo.slots.items → All P row.slots.items
unfolding damaged
row_so P sections set t row is none all = subst (λ (g : Geometry). All P g.slots.items) (sym is) (all_known_so P sections set t set.geo.slots.items none all)
