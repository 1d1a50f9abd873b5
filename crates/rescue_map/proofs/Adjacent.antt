-- Volume sectors that lie beside each other.
use Rattle.std.proofs.Common.{ℕ, zero, suc, inl, inr, ◌⊎◌, ◌≡◌, ◌+◌, ◌-◌, ◌*◌, ◌/◌, ◌%◌, ◌<◌, ◌≤◌, Bool, true, false, cond, List, [], length, get_or, refl, sym, ap, ◌∙◌, subst, arith, Option, Some, None}
use Rattle.std.specs.Option.{is_none, is_some}
use Rattle.std.proofs.Common.{take, drop}
use Rattle.std.proofs.lemmas.List.{get_or-map, length-drop, length-take}
use Rattle.outside.specs.Seen.{OnlyReads, Seen}
use Rattle.member_regions.proofs.Alike.{later_byte}
use Rattle.member_regions.specs.Members.{held}
use Rattle.raid_params.specs.Size.{data_blocks}
use Rattle.raid_params.specs.declared.types.Head.{Head}
use Rattle.raid_params.specs.declared.wide.Wide.{Wide}
use Rattle.raid_terms.specs.Address.{LiesAt, home_row, home_sector}
use Rattle.raid_terms.specs.Parity.{member_byte}
use Rattle.raid_terms.specs.Role.{HasRole, Item}
use Rattle.rescue_map.specs.Damaged.{damaged, damaged_at, is_unknown, known_slot}
use Rattle.rescue_map.specs.Salvaged.{reads_for, reads_for_all, salvaged_sector, AreKnown}
use Rattle.rescue_map.proofs.Blocks.{reads_one, reads_parts, reads_some}
use Rattle.rescue_map.proofs.Found.{copied_found, filled_copied, known_home, known_not_lost, some_not_none, unknown_home}
use Rattle.rescue_map.proofs.Rows.{held_home, known_or}
use Rattle.rescue_text.specs.declared.section.Section.{Section}
use Rattle.virtual_volume.proofs.InChunk.{later_place, same_chunk}

-- a sector further on in the chunk lies as much further on its member
pub later_lies : (head : Head) (slot sector v j : ℕ) → LiesAt head slot sector v → v % head.chunk + j < head.chunk → LiesAt head slot (sector + j) (v + j)
later_lies head slot sector v j lies inside =
    let same = same_chunk head.chunk v j inside in
    let row : home_row head (v + j) ≡ home_row head v = ap (λ (k : ℕ). k / data_blocks head) same in
    let place = later_place head.chunk v j inside in
    let at : sector ≡ home_sector head v = lies.place in
    let rows : home_row head (v + j) * head.chunk ≡ home_row head v * head.chunk = ap (λ (k : ℕ). k * head.chunk) row in
    record {
      item = subst (λ (k : ℕ). HasRole head (k / data_blocks head) slot (Item (k % data_blocks head))) (sym same) lies.item;
      place = omega arith;
    }

pub slot_at : (sections : List Section) (set : Wide) (t slot : ℕ) → slot < length set.geo.slots.items →
    get_or (damaged sections set t).slots.items slot None ≡ known_slot sections set t (get_or set.geo.slots.items slot None)
unfolding damaged
slot_at sections set t slot below = get_or-map (known_slot sections set t) set.geo.slots.items slot None None below

-- a sector is known where its slot is
pub later_known : (sections : List Section) (set : Wide) (slot sector v j : ℕ) (held : Option ℕ) → LiesAt set.geo.head slot sector v → v % set.geo.head.chunk + j < set.geo.head.chunk → slot < length set.geo.slots.items →
    held ≡ get_or set.geo.slots.items slot None → is_some held ≡ true → known_slot sections set (sector + j) held ≡ held → is_unknown sections set (v + j) ≡ false
later_known sections set slot sector v j held lies inside below here some known =
    let there : get_or (damaged sections set (sector + j)).slots.items slot None ≡ held =
    slot_at sections set (sector + j) slot below ∙ ap (known_slot sections set (sector + j)) (sym here) ∙ known in
    known_home sections set (v + j) slot (sector + j) (damaged sections set (sector + j)) refl (later_lies set.geo.head slot sector v j lies inside) (ap is_some there ∙ some)

some_of : (o : Option ℕ) → is_none o ≡ false → is_some o ≡ true
some_of None known = absurd (cc)
some_of (Some i) known = refl

kept_or : (kept held : Option ℕ) → is_none kept ≡ false → (kept ≡ held) ⊎ (kept ≡ None) → kept ≡ held
kept_or kept held known (inl is) = is
kept_or kept held known (inr is) = let gone : is_none kept ≡ true = ap is_none is in absurd (cc)

-- a slot that is not empty at a sector holds there what it holds
pub slot_kept : (sections : List Section) (set : Wide) (t : ℕ) (held : Option ℕ) → is_some (known_slot sections set t held) ≡ true → known_slot sections set t held ≡ held
slot_kept sections set t held some = kept_or (known_slot sections set t held) held (some_not_none (known_slot sections set t held) some) (known_or sections set t held)

-- and where it is empty, the sector is not known
pub slot_unknown : (sections : List Section) (set : Wide) (slot sector v : ℕ) (held : Option ℕ) → LiesAt set.geo.head slot sector v → slot < length set.geo.slots.items → held ≡ get_or set.geo.slots.items slot None →
    is_some (known_slot sections set sector held) ≡ false → is_unknown sections set v ≡ true
slot_unknown sections set slot sector v held lies below here none =
    unknown_home sections set v slot sector (damaged sections set sector) refl lies (ap is_some (slot_at sections set sector slot below ∙ ap (known_slot sections set sector) (sym here)) ∙ none)

-- and where it is known, its slot holds what it holds
held_later : (sections : List Section) (set : Wide) (slot sector v : ℕ) → LiesAt set.geo.head slot sector v → slot < length set.geo.slots.items → is_unknown sections set v ≡ false →
    get_or (damaged sections set sector).slots.items slot None ≡ get_or set.geo.slots.items slot None
held_later sections set slot sector v lies below known =
    let at = slot_at sections set sector slot below in
    let there : is_none (get_or (damaged sections set sector).slots.items slot None) ≡ false = ap is_none (held_home sections set v slot sector (damaged sections set sector) refl lies) ∙ known in
    at ∙ kept_or (known_slot sections set sector (get_or set.geo.slots.items slot None)) (get_or set.geo.slots.items slot None) (ap is_none (sym at) ∙ there) (known_or sections set sector (get_or set.geo.slots.items slot None))

pub held_some : (sections : List Section) (set : Wide) (slot sector v : ℕ) (held : Option ℕ) → LiesAt set.geo.head slot sector v → slot < length set.geo.slots.items → held ≡ get_or set.geo.slots.items slot None → is_unknown sections set v ≡ false → is_none held ≡ false
held_some sections set slot sector v held lies below here known =
    ap is_none (here ∙ sym (held_later sections set slot sector v lies below known) ∙ held_home sections set v slot sector (damaged sections set sector) refl lies) ∙ known

offset_at : (sections : List Section) (set : Wide) (t : ℕ) → set.geo.head.offset ≡ (damaged sections set t).head.offset
unfolding damaged
offset_at sections set t = refl

-- what was read by one call is the volume's
pub run_found : (images : List (List ℕ)) (sections : List Section) (set : Wide) (slot sector v j x byte : ℕ) (held : Option ℕ) → LiesAt set.geo.head slot sector v → v % set.geo.head.chunk + j < set.geo.head.chunk → slot < length set.geo.slots.items →
    held ≡ get_or set.geo.slots.items slot None → is_unknown sections set (v + j) ≡ false → byte ≡ member_byte images set.geo.head.offset sector (512 * j + x) held → x < 512 →
    byte ≡ get_or (salvaged_sector images sections set (v + j)) x 0
run_found images sections set slot sector v j x byte held lies inside below here known e small =
    let later = later_lies set.geo.head slot sector v j lies inside in
    let there : held ≡ get_or (damaged sections set (sector + j)).slots.items slot None = here ∙ sym (held_later sections set slot (sector + j) (v + j) later below known) in
    let some : is_some held ≡ true = some_of held (held_some sections set slot (sector + j) (v + j) held later below here known) in
    sym (filled_copied sections set (v + j) byte [] known)
    ∙ copied_found images sections set (v + j) x byte slot (sector + j) set.geo.head.offset [] (damaged sections set (sector + j)) held refl later there some (offset_at sections set (sector + j)) (e ∙ later_byte images set.geo.head.offset sector j x held) small

-- one sector is read for each
one_for : (sections : List Section) (set : Wide) (v : ℕ) → is_unknown sections set v ≡ false → reads_for sections set v ≡ 1
one_for sections set v known =
    ap (λ (b : Bool). cond b 0 (cond (is_unknown sections set v) (held (damaged_at sections set v).slots.items) 1)) (known_not_lost sections set v known)
    ∙ ap (λ (b : Bool). cond b (held (damaged_at sections set v).slots.items) 1) known

pub reads_run : (sections : List Section) (set : Wide) (v n : ℕ) → AreKnown sections set v n → reads_for_all sections set v n ≡ n
unfolding reads_for_all
reads_run sections set v zero known = refl
reads_run sections set v (suc n) known =
    let before = reads_run sections set v n (λ i below. known i (omega arith)) in
    let last = one_for sections set (v + n) (known n (omega arith)) in
    omega (arith, reads_parts sections set v n 1 (suc n) (v + n) (omega arith) refl, reads_one sections set (v + n))

pub run_reads : (old new : Seen) (sections : List Section) (set : Wide) (v n m k : ℕ) → k ≡ n → AreKnown sections set v n → n ≤ m → OnlyReads old new k → OnlyReads old new (reads_for_all sections set v m)
run_reads old new sections set v n m k same known le reads =
    reads_some old new sections set v n m le (subst (λ (t : ℕ). OnlyReads old new t) (same ∙ sym (reads_run sections set v n known)) reads)

pub part_long : (block : List ℕ) (j n : ℕ) → 512 * (j + n) ≤ length block → length (take (512 * (j + n) - 512 * j) (drop (512 * j) block)) ≡ 512 * n
part_long block j n fits = omega (arith, length-take (512 * (j + n) - 512 * j) (drop (512 * j) block), length-drop (512 * j) block)
