-- The owners of a kind: they are of it, few, and no two are one; so each sighting gives one mark at most.
use Rattle.std.proofs.Common.{◌≡◌, ℕ, ◌<◌, ◌≤◌, List, [], ◌∷◌, ◌++◌, Bool, true, false, not, cond, eqb, ltb, length, fold, refl, sym, ap, ap₂, subst, ◌∙◌, arith, All, IfSome, Option, Some, None, ◌+◌}
use Rattle.std.specs.Prelude.{◌||◌, ◌&&◌, ◌==◌, count_by, option_and_then, ◌/◌}
use Rattle.std.specs.List.{cons_option, filter_map, list_any, flat_map, sum_by}
use Rattle.std.specs.Option.{is_some, option_map, option_map_or}
use Rattle.std.proofs.lemmas.Bool.{and_parts, eqb-true, false≢true}
use Rattle.std.proofs.lemmas.Bool.Decides.{nat_tests}
use Rattle.std.proofs.lemmas.List.{length_push}
use Rattle.std.proofs.lemmas.List.Elements.{All-cons, All-head, All-nil, All-push, All-tail}
use Rattle.std.proofs.lemmas.List.Sums.{sum_by-cons, sum_by_push, count_by-le-length, sum_by-append}
use Rattle.std.proofs.lemmas.Slice.Eq.{bytes_eq-Decides}
use Rattle.std.specs.Str.{bytes_eq}
use Rattle.ntfs_marks.specs.declared.boot.NtfsBoot.{NtfsBoot}
use Rattle.xfs_marks.specs.declared.superblock.XfsSuper.{XfsSuper}
use Rattle.xfs5.specs.declared.places.XfsInodes.{XfsInodes}
use Rattle.landmark_rules.specs.Groups.{group_place, most_groups, kind_place}
use Rattle.mark_kinds.specs.declared.table.GroupKind.{GroupKind}
use Rattle.survey_engine.proofs.Kept.{kept_each, kept_keeps, mapped_each}
use Rattle.survey_engine.proofs.Stated.{system_is, systems_sound, AreSoundPlaces}
use Rattle.survey_engine.specs.Systems.{system_with, systems_of}
use Rattle.survey_engine.specs.declared.landmark.InodeSeen.{InodeSeen}
use Rattle.survey_engine.specs.Landmarks.{IsSound, kind_of}
use Rattle.survey_engine.specs.Owners.{group_kind, inode_rule, is_new, is_same_boot, is_same_owner, inodes_rule, is_same_super, is_same_volume, owner_among, owner_in, owners_of, tree_rule, IsSoundOwner, is_mark_of, mark_in, rule_in, volume_of}
use Rattle.survey_engine.specs.declared.landmark.Landmark.{Landmark}
use Rattle.survey_engine.specs.declared.landmark.Landmark.TheVariants.{Gpt, Boot, FileRecord, Super, Super5, Agf, Agi, Btrfs as BtrfsSector, Lvm, Ext as ExtSector, Inode, Tree, Inodes, Placed, Record, Volume}
use Rattle.survey_engine.specs.Sightings.{sighted_at, Place, is_same_kind}
use Rattle.survey_engine.specs.declared.owner.ExtVolume.{ExtVolume}
use Rattle.survey_engine.specs.declared.owner.Owner.{Owner}
use Rattle.survey_engine.specs.declared.owner.Owner.TheVariants.{Table, Ntfs, Xfs, Btrfs, Label, Ext, Xfs5, Trees, Extinode}
use Rattle.survey_engine.specs.declared.sighting.Sighting.{Sighting}
use Rattle.mft.specs.declared.boot.MftBoot.{MftBoot}
use Rattle.mft.specs.declared.start.RecordStart.{RecordStart}
use Rattle.ntfs_marks.specs.declared.file_record.NtfsRecord.{NtfsRecord}
use Rattle.xfs_marks.specs.Superblock.{ag_sectors}
use Rattle.more_marks.specs.declared.btrfs.BtrfsSuper.{BtrfsSuper}
use Rattle.ext_marks.specs.declared.copy.ExtSuper.{ExtSuper}
use Rattle.xfs5.specs.Places.{inode_sector}
use Rattle.mark_kinds.specs.declared.table.Kind.{Kind}
use Rattle.landmark_rules.specs.declared.marks.Mark.{Mark}
use Rattle.landmark_rules.specs.declared.marks.Rule.{Rule}
use Rattle.landmark_rules.specs.declared.marks.Rule.TheVariants.{At, Either, Every}
use Rattle.survey_engine.specs.declared.landmark.GptTable.{GptTable}
use Rattle.inode_marks.specs.declared.inode.InodePair.{InodePair}
use Rattle.survey_engine.specs.declared.landmark.InodePlace.{InodePlace}
use Rattle.survey_engine.specs.declared.landmark.TreeSeen.{TreeSeen}

-- ---- The owners of a kind: they are of it, few, and no two are one.

-- ---- they are of the kind

abbrev no_owner : Option Owner
no_owner = None

tested : (kind : GroupKind) (o : Owner) (b : Bool) → eqb (group_place (group_kind o)) (group_place kind) ≡ b → IfSome (cond b (Some o) no_owner) (λ o. group_place (group_kind o) ≡ group_place kind)
tested kind o true e = eqb-true (group_place (group_kind o)) (group_place kind) e
tested kind o false e = tt

among : (kind : GroupKind) (one : Option Owner) → IfSome (option_and_then (λ o. cond (eqb (group_place (group_kind o)) (group_place kind)) (Some o) None) one) (λ o. group_place (group_kind o) ≡ group_place kind)
among kind None = tt
among kind (Some o) = tested kind o (eqb (group_place (group_kind o)) (group_place kind)) refl

any : Sighting → Type 0
any s = Unit {0}

all_any : (found : List Sighting) → All any found
unfolding any
all_any found = λ k d h. tt

pub owners_kind : (kind : GroupKind) (found : List Sighting) → All (λ o. group_place (group_kind o) ≡ group_place kind) (owners_of kind found)
unfolding owners_of
owners_kind kind found =
    kept_each (λ o. group_place (group_kind o) ≡ group_place kind) (is_new kind) (filter_map (owner_among kind (systems_of found)) found) []
    (mapped_each any (λ o. group_place (group_kind o) ≡ group_place kind) (owner_among kind (systems_of found)) (λ s h. among kind (owner_in (systems_of found) (sighted_at s) s.landmark)) found (all_any found))
    (All-nil (λ o. group_place (group_kind o) ≡ group_place kind))

-- ---- they are sound where the sightings are

sound_tested : (o : Owner) (b : Bool) → IsSoundOwner o → IfSome (cond b (Some o) no_owner) IsSoundOwner
sound_tested o true is = is
sound_tested o false is = tt

sound_among : (kind : GroupKind) (one : Option Owner) → IfSome one IsSoundOwner → IfSome (option_and_then (λ o. cond (eqb (group_place (group_kind o)) (group_place kind)) (Some o) None) one) IsSoundOwner
sound_among kind None is = tt
sound_among kind (Some o) is = sound_tested o (eqb (group_place (group_kind o)) (group_place kind)) is

-- those of inodes, by the file systems that they are among
sound_inode : (i : InodeSeen) (places : Option XfsInodes) → IfSome places AreSoundPlaces → IfSome (option_and_then (λ p. cond (is_some (inode_rule p i)) (Some (Xfs5 p)) None) places) IsSoundOwner
sound_inode i None is = tt
sound_inode i (Some p) is = sound_tested (Xfs5 p) (is_some (inode_rule p i)) is

sound_in : (systems : List XfsInodes) (at : Place) (l : Landmark) → All AreSoundPlaces systems → IsSound l → IfSome (owner_in systems at l) IsSoundOwner
sound_in systems at (Boot b) all is = is
sound_in systems at (Super x) all is = is
sound_in systems at (Super5 x places) all is = is.0
sound_in systems at (Inode i) all is = sound_inode i (system_with systems i.inode.uuid) (system_is systems i.inode.uuid all)
sound_in systems at (Tree t) all is = sound_tested (Trees t.block.identifier) (is_some (tree_rule t)) tt
sound_in systems at (Placed pair place) all is = sound_tested (Extinode place.identifier) (is_some (inodes_rule place)) tt
sound_in systems at o all is = tt

-- so is the one that a landmark names
pub sound_named : (systems : List XfsInodes) (at : Place) (l : Landmark) (o : Owner) → All AreSoundPlaces systems → IsSound l → owner_in systems at l ≡ Some o → IsSoundOwner o
sound_named systems at l o all sound is = subst (λ (r : Option Owner). IfSome r IsSoundOwner) is (sound_in systems at l all sound)

pub owners_sound : (kind : GroupKind) (found : List Sighting) → All (λ s. IsSound s.landmark) found → All IsSoundOwner (owners_of kind found)
unfolding owners_of
owners_sound kind found sound =
    kept_each IsSoundOwner (is_new kind) (filter_map (owner_among kind (systems_of found)) found) []
    (mapped_each (λ s. IsSound s.landmark) IsSoundOwner (owner_among kind (systems_of found))
    (λ s is. sound_among kind (owner_in (systems_of found) (sighted_at s) s.landmark) (sound_in (systems_of found) (sighted_at s) s.landmark (systems_sound found sound) is)) found sound)
    (All-nil IsSoundOwner)

-- ---- they are few

pub owners_few : (kind : GroupKind) (found : List Sighting) → length (owners_of kind found) ≤ most_groups kind
unfolding owners_of
owners_few kind found =
    kept_keeps (λ l. length l ≤ most_groups kind) (is_new kind)
    (λ before o held fresh.
    let room : ltb (length before) (most_groups kind) ≡ true = (and_parts (ltb (length before) (most_groups kind)) (not (list_any (is_same_owner o) before)) fresh).0 in
    let less : length before < most_groups kind = grind (arith, nat_tests) in
    omega (arith, length_push before o))
    (filter_map (owner_among kind (systems_of found)) found) [] (omega arith)

-- ---- no two are one

boot_is : (a b : NtfsBoot) → a.cluster ≡ b.cluster → a.total ≡ b.total → a.mft ≡ b.mft → a.mirror ≡ b.mirror → a.record_bytes ≡ b.record_bytes → a.serial ≡ b.serial → a ≡ b
boot_is a b c t m i r s = λ j. record { cluster = c j; total = t j; mft = m j; mirror = i j; record_bytes = r j; serial = s j }

boot_means : (a b : NtfsBoot) → is_same_boot a b ≡ true → a ≡ b
boot_means a b same = boot_is a b (grind (arith, nat_tests)) (grind (arith, nat_tests)) (grind (arith, nat_tests)) (grind (arith, nat_tests)) (grind (arith, nat_tests)) (grind (arith, nat_tests))

super_is : (a b : XfsSuper) → a.uuid ≡ b.uuid → a.block ≡ b.block → a.ag_blocks ≡ b.ag_blocks → a.ag_count ≡ b.ag_count → a.sector ≡ b.sector → a ≡ b
super_is a b u k n c s = λ j. record { uuid = u j; block = k j; ag_blocks = n j; ag_count = c j; sector = s j }

super_means : (a b : XfsSuper) → is_same_super a b ≡ true → a ≡ b
super_means a b same =
    let bytes : bytes_eq a.uuid b.uuid ≡ true = grind arith in
    super_is a b ((bytes_eq-Decides a.uuid b.uuid).0 bytes) (grind (arith, nat_tests)) (grind (arith, nat_tests)) (grind (arith, nat_tests)) (grind (arith, nat_tests))

volume_is : (a b : ExtVolume) → a.uuid ≡ b.uuid → a.block ≡ b.block → a.group_blocks ≡ b.group_blocks → a ≡ b
volume_is a b u k g = λ j. record { uuid = u j; block = k j; group_blocks = g j }

volume_means : (a b : ExtVolume) → is_same_volume a b ≡ true → a ≡ b
volume_means a b same =
    let bytes : bytes_eq a.uuid b.uuid ≡ true = grind arith in
    volume_is a b ((bytes_eq-Decides a.uuid b.uuid).0 bytes) (grind (arith, nat_tests)) (grind (arith, nat_tests))

label_means : (i s j t : ℕ) → (i == j && s == t) ≡ true → Label i s ≡ Label j t
label_means i s j t same =
    let image : i ≡ j = grind (arith, nat_tests) in
    let sector : s ≡ t = grind (arith, nat_tests) in
    ap (λ (k : ℕ). Label k s) image ∙ ap (Label j) sector

-- the inodes of one file system, as another owner is compared with them
places_alike : (a b : XfsInodes) (p : Owner) → a.uuid ≡ b.uuid → is_same_owner (Xfs5 a) p ≡ is_same_owner (Xfs5 b) p
places_alike a b (Xfs5 c) same = ap (λ (u : List ℕ). bytes_eq u c.uuid) same
places_alike a b o same = refl

as_one : (a b p : Owner) → a ≡ b → is_same_owner a p ≡ is_same_owner b p
as_one a b p same = ap (λ (o : Owner). is_same_owner o p) same

-- two that are one compare with any other alike
alike : (a b p : Owner) → is_same_owner a b ≡ true → is_same_owner a p ≡ is_same_owner b p
alike Table Table p same = refl
alike (Ntfs a) (Ntfs b) p same = as_one (Ntfs a) (Ntfs b) p (ap Ntfs (boot_means a b same))
alike (Xfs a) (Xfs b) p same = as_one (Xfs a) (Xfs b) p (ap Xfs (super_means a b same))
alike (Btrfs a) (Btrfs b) p same = as_one (Btrfs a) (Btrfs b) p (ap Btrfs ((bytes_eq-Decides a b).0 same))
alike (Label i s) (Label j t) p same = as_one (Label i s) (Label j t) p (label_means i s j t same)
alike (Ext a) (Ext b) p same = as_one (Ext a) (Ext b) p (ap Ext (volume_means a b same))
alike (Trees a) (Trees b) p same = as_one (Trees a) (Trees b) p (ap Trees ((bytes_eq-Decides a b).0 same))
alike (Extinode a) (Extinode b) p same = as_one (Extinode a) (Extinode b) p (ap Extinode ((bytes_eq-Decides a b).0 same))
alike (Xfs5 a) (Xfs5 b) p same = places_alike a b p ((bytes_eq-Decides a.uuid b.uuid).0 same)
alike a b p same = absurd (false≢true same)

any_alike : (a b : Owner) (before : List Owner) → is_same_owner a b ≡ true → list_any (is_same_owner a) before ≡ list_any (is_same_owner b) before
any_alike a b [] same = refl
any_alike a b (p ∷ before) same = ap₂ (λ (x y : Bool). x || y) (alike a b p same) (any_alike a b before same)

same_self : (a : Owner) → is_same_owner a a ≡ true
same_self Table = refl
same_self (Ntfs a) = grind (arith, nat_tests)
same_self (Btrfs a) = (bytes_eq-Decides a a).1 refl
same_self (Trees a) = (bytes_eq-Decides a a).1 refl
same_self (Extinode a) = (bytes_eq-Decides a a).1 refl
same_self (Xfs5 a) = (bytes_eq-Decides a.uuid a.uuid).1 refl
same_self (Label i s) = grind (arith, nat_tests)
same_self (Ext a) = let bytes : bytes_eq a.uuid a.uuid ≡ true = (bytes_eq-Decides a.uuid a.uuid).1 refl in grind (arith, nat_tests)
same_self (Xfs a) = let bytes : bytes_eq a.uuid a.uuid ≡ true = (bytes_eq-Decides a.uuid a.uuid).1 refl in grind (arith, nat_tests)

same_back : (a b : Owner) → is_same_owner a b ≡ true → is_same_owner b a ≡ true
same_back a b same = sym (alike a b a same) ∙ same_self a

or_parts : (a b : Bool) → (a || b) ≡ false → (a ≡ false) × (b ≡ false)
or_parts true b neither = absurd (false≢true (sym neither))
or_parts false b neither = (refl, neither)

none_more : (c o : Owner) (before : List Owner) (b : Bool) → is_same_owner o c ≡ b → is_same_owner c o ≡ false → count_by (λ p. is_same_owner p c) (o ∷ before) ≡ count_by (λ p. is_same_owner p c) before
none_more c o before true e other = absurd (false≢true (sym other ∙ same_back o c e))
none_more c o before false e other =
    let none : ◌≡◌ {A = ℕ} (cond (is_same_owner o c) 1 0) 0 = ap (λ (t : Bool). cond t 1 0) e in
    omega (arith, sum_by-cons (λ p. cond (is_same_owner p c) 1 0) o before, none)

none_same : (c : Owner) (before : List Owner) → list_any (is_same_owner c) before ≡ false → count_by (λ o. is_same_owner o c) before ≡ 0
none_same c [] other = refl
none_same c (o ∷ before) other =
    let parts = or_parts (is_same_owner c o) (list_any (is_same_owner c) before) other in
    none_more c o before (is_same_owner o c) refl parts.0 ∙ none_same c before parts.1

once_more : (kind : GroupKind) (c : Owner) (before : List Owner) (o : Owner) (b : Bool) → is_same_owner o c ≡ b → count_by (λ p. is_same_owner p c) before ≤ 1 → is_new kind before o ≡ true → count_by (λ p. is_same_owner p c) (before ++ o ∷ []) ≤ 1
once_more kind c before o false e held fresh =
    let none : ◌≡◌ {A = ℕ} (cond (is_same_owner o c) 1 0) 0 = ap (λ (t : Bool). cond t 1 0) e in
    omega (arith, sum_by_push (λ p. cond (is_same_owner p c) 1 0) before o, none)
once_more kind c before o true e held fresh =
    let other : not (list_any (is_same_owner o) before) ≡ true = (and_parts (ltb (length before) (most_groups kind)) (not (list_any (is_same_owner o) before)) fresh).1 in
    let neither : list_any (is_same_owner o) before ≡ false = grind arith in
    let none : list_any (is_same_owner c) before ≡ false = sym (any_alike o c before e) ∙ neither in
    let one : ◌≡◌ {A = ℕ} (cond (is_same_owner o c) 1 0) 1 = ap (λ (t : Bool). cond t 1 0) e in
    omega (arith, sum_by_push (λ p. cond (is_same_owner p c) 1 0) before o, one, none_same c before none)

pub owners_once : (kind : GroupKind) (found : List Sighting) (c : Owner) → count_by (λ o. is_same_owner o c) (owners_of kind found) ≤ 1
unfolding owners_of
owners_once kind found c =
    kept_keeps (λ l. count_by (λ o. is_same_owner o c) l ≤ 1) (is_new kind) (λ before o held fresh. once_more kind c before o (is_same_owner o c) refl held fresh) (filter_map (owner_among kind (systems_of found)) found) [] (omega arith)

-- ---- Each sighting gives one mark at most.

abbrev one_if : Bool → ℕ
one_if b = cond b 1 0

-- a weaker test passes no fewer
fewer : (p q : Owner → Bool) → ((o : Owner) → p o ≡ true → q o ≡ true) → (owners : List Owner) → count_by p owners ≤ count_by q owners
fewer p q weaker [] = omega arith
fewer p q weaker (o ∷ owners) =
    omega (arith, sum_by-cons (λ o. one_if (p o)) o owners, sum_by-cons (λ o. one_if (q o)) o owners, here (p o) (q o) (weaker o), fewer p q weaker owners)
  where
    here : (a b : Bool) → (a ≡ true → b ≡ true) → one_if a ≤ one_if b
    here true b h = let is : b ≡ true = h refl in rw is (omega arith)
    here false b h = omega arith

none_pass : (p : Owner → Bool) → ((o : Owner) → p o ≡ false) → (owners : List Owner) → count_by p owners ≡ 0
none_pass p fails [] = refl
none_pass p fails (o ∷ owners) =
    let none : ◌≡◌ {A = ℕ} (one_if (p o)) 0 = ap one_if (fails o) in
    omega (arith, sum_by-cons (λ o. one_if (p o)) o owners, none, none_pass p fails owners)

-- ---- who takes a landmark

passed : (b : Bool) (rule : Rule) → is_some (cond b (Some rule) None) ≡ b
passed true rule = refl
passed false rule = refl

takes_boot : (alone : Bool) (at : Place) (c : NtfsBoot) (o : Owner) → is_some (rule_in o alone at (Boot c)) ≡ true → is_same_owner o (Ntfs c) ≡ true
unfolding rule_in
takes_boot alone at c (Ntfs b) takes = sym (passed (is_same_boot b c) (Either 0 b.total)) ∙ takes
takes_boot alone at c o takes = takes

takes_super : (alone : Bool) (at : Place) (y : XfsSuper) (o : Owner) → is_some (rule_in o alone at (Super y)) ≡ true → is_same_owner o (Xfs y) ≡ true
unfolding rule_in
takes_super alone at y (Xfs x) takes = sym (passed (is_same_super x y) (Every (ag_sectors x) x.ag_count 0)) ∙ takes
takes_super alone at y o takes = takes

takes_super5 : (alone : Bool) (at : Place) (y : XfsSuper) (places : XfsInodes) (o : Owner) → is_some (rule_in o alone at (Super5 y places)) ≡ true → is_same_owner o (Xfs y) ≡ true
unfolding rule_in
takes_super5 alone at y places (Xfs x) takes = sym (passed (is_same_super x y) (Every (ag_sectors x) x.ag_count 0)) ∙ takes
takes_super5 alone at y places o takes = takes

takes_header : (alone : Bool) (at : Place) (t : GptTable) (o : Owner) → is_some (rule_in o alone at (Gpt t)) ≡ true → is_same_owner o Table ≡ true
unfolding rule_in
takes_header alone at t Table takes = takes
takes_header alone at t o takes = takes

takes_btrfs : (alone : Bool) (at : Place) (y : BtrfsSuper) (o : Owner) → is_some (rule_in o alone at (BtrfsSector y)) ≡ true → is_same_owner o (Btrfs y.fsid) ≡ true
unfolding rule_in
takes_btrfs alone at y (Btrfs f) takes = sym (passed (bytes_eq f y.fsid) (At (y.address / 512))) ∙ takes
takes_btrfs alone at y o takes = takes

takes_label : (alone : Bool) (at : Place) (n : ℕ) (o : Owner) → is_some (rule_in o alone at (Lvm n)) ≡ true → is_same_owner o (Label at.image at.sector) ≡ true
unfolding rule_in
takes_label alone at n (Label i s) takes = sym (passed (i == at.image && s == at.sector) (At n)) ∙ takes
takes_label alone at n o takes = takes

takes_copy : (alone : Bool) (at : Place) (y : ExtSuper) (o : Owner) → is_some (rule_in o alone at (ExtSector y)) ≡ true → is_same_owner o (Ext (volume_of y)) ≡ true
unfolding rule_in
takes_copy alone at y (Ext v) takes = sym (passed (is_same_volume v (volume_of y)) (At y.copy_sector)) ∙ takes
takes_copy alone at y o takes = takes

-- an owner of inodes with an identifier
of_uuid : List ℕ → XfsInodes
of_uuid uuid = record { uuid = uuid; block = 0; ag_blocks = 0; ag_count = 0; inode = 0; inode_bits = 0; block_bits = 0 }

placed_passed : (b : Bool) (place : Option ℕ) → is_some (cond b (option_map At place) None) ≡ true → b ≡ true
placed_passed true place takes = refl
placed_passed false place takes = takes

marks_inode : (x : XfsInodes) (i : InodeSeen) → is_mark_of x i ≡ true → bytes_eq x.uuid i.inode.uuid ≡ true
unfolding is_mark_of
marks_inode x i is =
    (and_parts (bytes_eq x.uuid i.inode.uuid) _ (and_parts (bytes_eq x.uuid i.inode.uuid && option_map_or (λ bytes. bytes == x.inode) i.bytes false) _ is).0).0

takes_inode : (alone : Bool) (at : Place) (i : InodeSeen) (o : Owner) → is_some (rule_in o alone at (Inode i)) ≡ true → is_same_owner o (Xfs5 (of_uuid i.inode.uuid)) ≡ true
unfolding rule_in of_uuid
takes_inode alone at i (Xfs5 x) takes = marks_inode x i (placed_passed (is_mark_of x i) (inode_sector x i.inode.number) takes)
takes_inode alone at i o takes = takes

ruled_passed : (b : Bool) (rule : Option Rule) → is_some (cond b rule None) ≡ true → b ≡ true
ruled_passed true rule takes = refl
ruled_passed false rule takes = takes

takes_tree : (alone : Bool) (at : Place) (t : TreeSeen) (o : Owner) → is_some (rule_in o alone at (Tree t)) ≡ true → is_same_owner o (Trees t.block.identifier) ≡ true
unfolding rule_in
takes_tree alone at t (Trees u) takes = ruled_passed (bytes_eq u t.block.identifier) (tree_rule t) takes
takes_tree alone at t o takes = takes

takes_placed : (alone : Bool) (at : Place) (pair : InodePair) (place : InodePlace) (o : Owner) → is_some (rule_in o alone at (Placed pair place)) ≡ true → is_same_owner o (Extinode place.identifier) ≡ true
unfolding rule_in
takes_placed alone at pair place (Extinode u) takes = ruled_passed (bytes_eq u place.identifier) (inodes_rule place) takes
takes_placed alone at pair place o takes = takes

-- two inodes of which it is not known where they lie are no mark
none_unplaced : (alone : Bool) (at : Place) (pair : InodePair) (o : Owner) → is_some (rule_in o alone at (Inodes pair)) ≡ false
unfolding rule_in
none_unplaced alone at pair Table = refl
none_unplaced alone at pair o = refl

-- nor is what tells of file records of NTFS: those are marks of their tables
none_of_record : (alone : Bool) (at : Place) (r : RecordStart) (o : Owner) → is_some (rule_in o alone at (Record r)) ≡ false
unfolding rule_in
none_of_record alone at r Table = refl
none_of_record alone at r o = refl

none_of_volume : (alone : Bool) (at : Place) (b : MftBoot) (o : Owner) → is_some (rule_in o alone at (Volume b)) ≡ false
unfolding rule_in
none_of_volume alone at b Table = refl
none_of_volume alone at b o = refl

none_alone_record : (at : Place) (r : NtfsRecord) (o : Owner) → is_some (rule_in o false at (FileRecord r)) ≡ false
unfolding rule_in
none_alone_record at r Table = refl
none_alone_record at r o = refl

none_alone_agf : (at : Place) (g : ℕ) (o : Owner) → is_some (rule_in o false at (Agf g)) ≡ false
unfolding rule_in
none_alone_agf at g Table = refl
none_alone_agf at g o = refl

none_alone_agi : (at : Place) (g : ℕ) (o : Owner) → is_some (rule_in o false at (Agi g)) ≡ false
unfolding rule_in
none_alone_agi at g Table = refl
none_alone_agi at g o = refl

alone_or : (owners : List Owner) (at : Place) (l : Landmark) (alone : Bool) → eqb (length owners) 1 ≡ alone → ((o : Owner) → is_some (rule_in o false at l) ≡ false) → count_by (λ o. is_some (rule_in o alone at l)) owners ≤ 1
alone_or owners at l true e none = let one : length owners ≡ 1 = eqb-true (length owners) 1 e in omega (arith, count_by-le-length (λ o. is_some (rule_in o true at l)) owners)
alone_or owners at l false e none = omega (arith, none_pass (λ o. is_some (rule_in o false at l)) none owners)

-- one owner of a kind at most
taken_once : (kind : GroupKind) (found : List Sighting) (at : Place) (l : Landmark) → count_by (λ o. is_some (rule_in o (length (owners_of kind found) == 1) at l)) (owners_of kind found) ≤ 1
taken_once kind found at (Gpt t) =
    omega (arith, fewer (λ o. is_some (rule_in o (length (owners_of kind found) == 1) at (Gpt t))) (λ o. is_same_owner o Table) (takes_header (length (owners_of kind found) == 1) at t) (owners_of kind found), owners_once kind found Table)
taken_once kind found at (Boot c) =
    omega (arith, fewer (λ o. is_some (rule_in o (length (owners_of kind found) == 1) at (Boot c))) (λ o. is_same_owner o (Ntfs c)) (takes_boot (length (owners_of kind found) == 1) at c) (owners_of kind found), owners_once kind found (Ntfs c))
taken_once kind found at (Super y) =
    omega (arith, fewer (λ o. is_some (rule_in o (length (owners_of kind found) == 1) at (Super y))) (λ o. is_same_owner o (Xfs y)) (takes_super (length (owners_of kind found) == 1) at y) (owners_of kind found), owners_once kind found (Xfs y))
taken_once kind found at (Super5 y places) =
    omega (arith, fewer (λ o. is_some (rule_in o (length (owners_of kind found) == 1) at (Super5 y places))) (λ o. is_same_owner o (Xfs y)) (takes_super5 (length (owners_of kind found) == 1) at y places) (owners_of kind found), owners_once kind found (Xfs y))
taken_once kind found at (BtrfsSector y) =
    omega (arith, fewer (λ o. is_some (rule_in o (length (owners_of kind found) == 1) at (BtrfsSector y))) (λ o. is_same_owner o (Btrfs y.fsid)) (takes_btrfs (length (owners_of kind found) == 1) at y) (owners_of kind found), owners_once kind found (Btrfs y.fsid))
taken_once kind found at (Lvm n) =
    omega (arith, fewer (λ o. is_some (rule_in o (length (owners_of kind found) == 1) at (Lvm n))) (λ o. is_same_owner o (Label at.image at.sector)) (takes_label (length (owners_of kind found) == 1) at n) (owners_of kind found), owners_once kind found (Label at.image at.sector))
taken_once kind found at (ExtSector y) =
    omega (arith, fewer (λ o. is_some (rule_in o (length (owners_of kind found) == 1) at (ExtSector y))) (λ o. is_same_owner o (Ext (volume_of y))) (takes_copy (length (owners_of kind found) == 1) at y) (owners_of kind found), owners_once kind found (Ext (volume_of y)))
taken_once kind found at (Inode i) =
    omega (arith, fewer (λ o. is_some (rule_in o (length (owners_of kind found) == 1) at (Inode i))) (λ o. is_same_owner o (Xfs5 (of_uuid i.inode.uuid))) (takes_inode (length (owners_of kind found) == 1) at i) (owners_of kind found), owners_once kind found (Xfs5 (of_uuid i.inode.uuid)))
taken_once kind found at (Tree t) =
    omega (arith, fewer (λ o. is_some (rule_in o (length (owners_of kind found) == 1) at (Tree t))) (λ o. is_same_owner o (Trees t.block.identifier)) (takes_tree (length (owners_of kind found) == 1) at t) (owners_of kind found), owners_once kind found (Trees t.block.identifier))
taken_once kind found at (Placed pair place) =
    omega (arith, fewer (λ o. is_some (rule_in o (length (owners_of kind found) == 1) at (Placed pair place))) (λ o. is_same_owner o (Extinode place.identifier)) (takes_placed (length (owners_of kind found) == 1) at pair place) (owners_of kind found), owners_once kind found (Extinode place.identifier))
taken_once kind found at (Inodes pair) =
    omega (arith, none_pass (λ o. is_some (rule_in o (length (owners_of kind found) == 1) at (Inodes pair))) (none_unplaced (length (owners_of kind found) == 1) at pair) (owners_of kind found))
taken_once kind found at (Record r) =
    omega (arith, none_pass (λ o. is_some (rule_in o (length (owners_of kind found) == 1) at (Record r))) (none_of_record (length (owners_of kind found) == 1) at r) (owners_of kind found))
taken_once kind found at (Volume b) =
    omega (arith, none_pass (λ o. is_some (rule_in o (length (owners_of kind found) == 1) at (Volume b))) (none_of_volume (length (owners_of kind found) == 1) at b) (owners_of kind found))
taken_once kind found at (FileRecord r) = alone_or (owners_of kind found) at (FileRecord r) (length (owners_of kind found) == 1) refl (none_alone_record at r)
taken_once kind found at (Agf g) = alone_or (owners_of kind found) at (Agf g) (length (owners_of kind found) == 1) refl (none_alone_agf at g)
taken_once kind found at (Agi g) = alone_or (owners_of kind found) at (Agi g) (length (owners_of kind found) == 1) refl (none_alone_agi at g)

-- ---- marks of a kind

abbrev is_of : Kind → Mark → Bool
is_of kind mark = kind_place mark.kind == kind_place kind

-- what a sighting adds to the count, with an owner
weight : Kind → Option Mark → ℕ
weight kind None = 0
weight kind (Some m) = one_if (is_of kind m)

cons_count : (kind : Kind) (one : Option Mark) (rest : List Mark) → count_by (is_of kind) (cons_option one rest) ≡ weight kind one + count_by (is_of kind) rest
unfolding weight
cons_count kind None rest = omega arith
cons_count kind (Some m) rest = sum_by-cons (λ m. one_if (is_of kind m)) m rest

-- the marks of owners, among these sightings
marks_with : List Owner → Bool → List Sighting → List Mark
marks_with owners alone found = flat_map (λ o. filter_map (mark_in o alone) found) owners

with_next : (kind : Kind) (owners : List Owner) (alone : Bool) (s : Sighting) (found : List Sighting) →
    count_by (is_of kind) (marks_with owners alone (s ∷ found)) ≡ sum_by (λ o. weight kind (mark_in o alone s)) owners + count_by (is_of kind) (marks_with owners alone found)
unfolding marks_with
with_next kind [] alone s found = omega arith
with_next kind (o ∷ owners) alone s found =
    omega (
      arith,
      sum_by-append (λ m. one_if (is_of kind m)) (filter_map (mark_in o alone) (s ∷ found)) (flat_map (λ o. filter_map (mark_in o alone) (s ∷ found)) owners),
      sum_by-append (λ m. one_if (is_of kind m)) (filter_map (mark_in o alone) found) (flat_map (λ o. filter_map (mark_in o alone) found) owners),
      cons_count kind (mark_in o alone s) (filter_map (mark_in o alone) found),
      sum_by-cons (λ o. weight kind (mark_in o alone s)) o owners,
      with_next kind owners alone s found,
    )

weight_is : (kind : Kind) (s : Sighting) (rule : Option Rule) →
    weight kind (option_map (λ r. record { kind = kind_of s.landmark; image = s.image; sector = s.sector; rule = r }) rule) ≤ one_if (is_some rule)
unfolding weight
weight_is kind s None = omega arith
weight_is kind s (Some r) = at_most (is_same_kind kind s)
  where
    at_most : (b : Bool) → one_if b ≤ 1
    at_most true = omega arith
    at_most false = omega arith

weight_none : (kind : Kind) (s : Sighting) (rule : Option Rule) → is_same_kind kind s ≡ false →
    weight kind (option_map (λ r. record { kind = kind_of s.landmark; image = s.image; sector = s.sector; rule = r }) rule) ≡ 0
unfolding weight
weight_none kind s None other = refl
weight_none kind s (Some r) other = ap one_if other

sum_none : (f : Owner → ℕ) → ((o : Owner) → f o ≡ 0) → (owners : List Owner) → sum_by f owners ≡ 0
sum_none f none [] = refl
sum_none f none (o ∷ owners) = omega (arith, sum_by-cons f o owners, none o, sum_none f none owners)

sum_less : (f g : Owner → ℕ) → ((o : Owner) → f o ≤ g o) → (owners : List Owner) → sum_by f owners ≤ sum_by g owners
sum_less f g less [] = omega arith
sum_less f g less (o ∷ owners) = omega (arith, sum_by-cons f o owners, sum_by-cons g o owners, less o, sum_less f g less owners)

one_each : (kind : Kind) (owners : List Owner) (alone : Bool) (s : Sighting) (b : Bool) → is_same_kind kind s ≡ b → count_by (λ o. is_some (rule_in o alone (sighted_at s) s.landmark)) owners ≤ 1 →
    sum_by (λ o. weight kind (mark_in o alone s)) owners ≤ one_if b
one_each kind owners alone s true e once =
    omega (arith, once, sum_less (λ o. weight kind (mark_in o alone s)) (λ o. one_if (is_some (rule_in o alone (sighted_at s) s.landmark))) (λ o. weight_is kind s (rule_in o alone (sighted_at s) s.landmark)) owners)
one_each kind owners alone s false e once = omega (arith, sum_none (λ o. weight kind (mark_in o alone s)) (λ o. weight_none kind s (rule_in o alone (sighted_at s) s.landmark) e) owners)

no_marks : (owners : List Owner) (alone : Bool) → marks_with owners alone [] ≡ []
unfolding marks_with
no_marks [] alone = refl
no_marks (o ∷ owners) alone = no_marks owners alone

as_many : (kind : Kind) (owners : List Owner) (alone : Bool) → ((at : Place) (l : Landmark) → count_by (λ o. is_some (rule_in o alone at l)) owners ≤ 1) → (found : List Sighting) →
    count_by (is_of kind) (marks_with owners alone found) ≤ count_by (is_same_kind kind) found
as_many kind owners alone once [] = omega (arith, ap (count_by (is_of kind)) (no_marks owners alone))
as_many kind owners alone once (s ∷ found) =
    let rest = as_many kind owners alone once found in
    omega (arith, with_next kind owners alone s found, sum_by-cons (λ s. one_if (is_same_kind kind s)) s found, one_each kind owners alone s (is_same_kind kind s) refl (once (sighted_at s) s.landmark), rest)

-- no more marks of a kind than sightings
pub few_marks : (kind : Kind) (group : GroupKind) (found : List Sighting) →
    count_by (λ mark. kind_place mark.kind == kind_place kind) (flat_map (λ o. filter_map (mark_in o (length (owners_of group found) == 1)) found) (owners_of group found)) ≤ count_by (is_same_kind kind) found
unfolding marks_with
few_marks kind group found = as_many kind (owners_of group found) (length (owners_of group found) == 1) (taken_once group found) found
