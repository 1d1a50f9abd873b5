-- Every layout is one: each role has one slot, and each slot one role.
use Rattle.std.proofs.Common.{◌≡◌, ◌≢◌, ℕ, ◌+◌, ◌-◌, ◌<◌, ◌≤◌, ◌⊎◌, inl, inr, sym, arith, ap, ◌∙◌, refl, Option, Some, None}
use Rattle.std.proofs.lemmas.Bool.{cases_eq}
use Rattle.std.proofs.lemmas.Bool.{leb-true}
use Rattle.std.proofs.lemmas.Bool.Decides.{nat_tests}
use Rattle.std.specs.Prelude.{Bool, true, false, IsTrue, nat_eq, nat_le, ◌&&◌, ◌||◌}
use Rattle.raid_params.specs.declared.limits.TheConstants.{LONGEST_DELAY}
use Rattle.raid_params.specs.declared.types.Head.{Head}
use Rattle.raid_params.specs.declared.types.Level.{Level}
use Rattle.raid_params.specs.declared.types.Level.TheVariants.{Raid0, Raid5, Raid6}
use Rattle.raid_params.specs.declared.types.Pattern.{Pattern}
use Rattle.raid_params.specs.declared.types.Pattern.TheVariants.{Plain, La, Ra, Ls, Rs, ParityFirst, ParityLast, NRestart, NContinue, La6, Ra6, Ls6, Rs6, ParityFirst6}
use Rattle.raid_params.specs.Validity.{fewest, has_delay, has_members, has_pattern, has_syndrome, is_chunk, is_valid_head, moves}
use Rattle.raid_params.specs.Size.{redundancy, data_blocks}
use Rattle.raid_terms.specs.Role.{Role, Item, P, Q, leftward, rightward, single_p, single_item, double_p, double_q, double_item, p_at, q_at, item_at, p_of, q_of, item_of, HasRole, turn}
use Rattle.raid_layouts.proofs.Single.{IsSingle}
use Rattle.raid_layouts.proofs.Double.{IsDouble}
use Rattle.raid_layouts.proofs.Single
use Rattle.raid_layouts.proofs.Double
use Rattle.raid_layouts.specs.Laws.{EachRoleHasOneSlot, EachSlotHasOneRole}

pub leftward_in : (n row : ℕ) → 0 < n → leftward n row < n
leftward_in n row h = omega arith

pub rightward_in : (n row : ℕ) → 0 < n → rightward n row < n
rightward_in n row h = omega arith

-- the rows of level 5
pub single_of : (pattern : Pattern) (n row : ℕ) → 0 < n → IsSingle n (single_p pattern n row) (single_item pattern n row)
single_of La n row h = Single.passing n (leftward n row) (leftward_in n row h)
single_of Ra n row h = Single.passing n (rightward n row) (rightward_in n row h)
single_of Ls n row h = Single.circling n (leftward n row) (leftward_in n row h)
single_of Rs n row h = Single.circling n (rightward n row) (rightward_in n row h)
single_of ParityFirst n row h = Single.first n h
single_of _ n row h = Single.last n h

-- the rows of level 6
pub double_of : (pattern : Pattern) (n row : ℕ) → 2 < n → IsDouble n (double_p pattern n row) (double_q pattern n row) (double_item pattern n row)
double_of La n row h = Double.passing n (leftward n row) h (leftward_in n row (omega arith))
double_of Ra n row h = Double.passing n (rightward n row) h (rightward_in n row (omega arith))
double_of Ls n row h = Double.circling n (leftward n row) h (leftward_in n row (omega arith))
double_of Rs n row h = Double.circling n (rightward n row) h (rightward_in n row (omega arith))
double_of ParityFirst n row h = Double.first n h
double_of ParityLast n row h = Double.last n h
double_of NRestart n row h = Double.passing n (leftward n (row + 1)) h (leftward_in n (row + 1) (omega arith))
double_of NContinue n row h = Double.continuing n (leftward n row) h (leftward_in n row (omega arith))
double_of La6 n row h = Double.beside_last n (single_p La (n - 1) row) (single_item La (n - 1) row) h (single_of La (n - 1) row (omega arith))
double_of Ra6 n row h = Double.beside_last n (single_p Ra (n - 1) row) (single_item Ra (n - 1) row) h (single_of Ra (n - 1) row (omega arith))
double_of Ls6 n row h = Double.beside_last n (single_p Ls (n - 1) row) (single_item Ls (n - 1) row) h (single_of Ls (n - 1) row (omega arith))
double_of Rs6 n row h = Double.beside_last n (single_p Rs (n - 1) row) (single_item Rs (n - 1) row) h (single_of Rs (n - 1) row (omega arith))
double_of ParityFirst6 n row h = Double.beside_last n (single_p ParityFirst (n - 1) row) (single_item ParityFirst (n - 1) row) h (single_of ParityFirst (n - 1) row (omega arith))
double_of Plain n row h = Double.last n h

-- d items, and parity where there is some, each on a slot of its own
pub record IsLayout (n d : ℕ) (p q : Option ℕ) (item : ℕ → ℕ) : Type 0 where
  pub p_in : (s : ℕ) → p ≡ Some s → s < n
  pub q_in : (s : ℕ) → q ≡ Some s → s < n
  pub p_not_q : (s : ℕ) → p ≡ Some s → q ≢ Some s
  pub item_in : (i : ℕ) → i < d → item i < n
  pub not_p : (i : ℕ) → i < d → p ≢ Some (item i)
  pub not_q : (i : ℕ) → i < d → q ≢ Some (item i)
  pub once : (i j : ℕ) → i < d → j < d → item i ≡ item j → i ≡ j
  pub found : (s : ℕ) → s < n → p ≢ Some s → q ≢ Some s → (i : ℕ) × (i < d) × (s ≡ item i)

unwrap : {a b : ℕ} → Some a ≡ Some b → a ≡ b
unwrap e = cc

nowhere : {s : ℕ} → None ≡ Some s → ⊥
nowhere e = cc

pub layout_at : (level : Level) (pattern : Pattern) (n row : ℕ) → fewest level ≤ n →
    IsLayout n (n - redundancy level) (p_at level pattern n row) (q_at level pattern n row) (item_at level pattern n row)
layout_at Raid0 pattern n row h = record {
  p_in = λ s e. absurd (nowhere e);
  q_in = λ s e. absurd (nowhere e);
  p_not_q = λ s e f. nowhere f;
  item_in = λ i k. omega arith;
  not_p = λ i k e. nowhere e;
  not_q = λ i k e. nowhere e;
  once = λ i j k l e. e;
  found = λ s k np nq. (s, omega arith, refl);
}
layout_at Raid5 pattern n row h =
    let l : IsSingle n (single_p pattern n row) (single_item pattern n row) = single_of pattern n row (omega arith) in
    record {
      p_in = λ s e. let x = unwrap e in let y = l.p_in in omega arith;
      q_in = λ s e. absurd (nowhere e);
      p_not_q = λ s e f. nowhere f;
      item_in = λ i k. l.item_in i k;
      not_p = λ i k e. l.apart i k (sym (unwrap e));
      not_q = λ i k e. nowhere e;
      once = λ i j k m e. l.once i j k m e;
      found = λ s k np nq. l.found s k (λ e. np (ap (λ (t : ℕ). Some t) (sym e)));
    }
layout_at Raid6 pattern n row h =
    let l : IsDouble n (double_p pattern n row) (double_q pattern n row) (double_item pattern n row) = double_of pattern n row (omega arith) in
    record {
      p_in = λ s e. let x = unwrap e in let y = l.p_in in omega arith;
      q_in = λ s e. let x = unwrap e in let y = l.q_in in omega arith;
      p_not_q = λ s e f. l.p_not_q (unwrap e ∙ sym (unwrap f));
      item_in = λ i k. l.item_in i k;
      not_p = λ i k e. l.not_p i k (sym (unwrap e));
      not_q = λ i k e. l.not_q i k (sym (unwrap e));
      once = λ i j k m e. l.once i j k m e;
      found = λ s k np nq. l.found s k (λ e. np (ap (λ (t : ℕ). Some t) (sym e))) (λ e. nq (ap (λ (t : ℕ). Some t) (sym e)));
    }

-- a valid head has enough members
pub enough : (head : Head) → IsTrue (is_valid_head head) → fewest head.level ≤ head.members
enough head h = grind (arith, leb-true)

-- nor more than 24
pub at_most : (head : Head) → IsTrue (is_valid_head head) → head.members ≤ 24
at_most head h = grind (arith, leb-true)

-- and its parity stays for a row at least
second : (a b : Bool) → IsTrue (a && b) → IsTrue b
second true b h = h
second false b h = absurd (cc)

not_nothing : (m : Bool) (delay : ℕ) → IsTrue (nat_eq delay 1 || (m && (nat_le 1 delay && nat_le delay LONGEST_DELAY))) → 1 ≤ delay
not_nothing m delay h = grind (arith, nat_tests)

pub some_delay : (head : Head) → IsTrue (is_valid_head head) → 1 ≤ head.delay
some_delay head h =
    let chunk = is_chunk head.chunk && has_delay head.pattern head.delay in
    let syndrome = has_syndrome head.level head.syndrome && chunk in
    let pattern = has_pattern head.level head.pattern && syndrome in
    let in_pattern : IsTrue pattern = second (has_members head.level head.members) pattern h in
    let in_syndrome : IsTrue syndrome = second (has_pattern head.level head.pattern) syndrome in_pattern in
    let in_chunk : IsTrue chunk = second (has_syndrome head.level head.syndrome) chunk in_syndrome in
    not_nothing (moves head.pattern) head.delay (second (is_chunk head.chunk) (has_delay head.pattern head.delay) in_chunk)

pub layout_of : (head : Head) (row : ℕ) → IsTrue (is_valid_head head) → IsLayout head.members (data_blocks head) (p_of head row) (q_of head row) (item_of head row)
layout_of head row h = layout_at head.level head.pattern head.members (turn head row) (enough head h)

-- items stand on slots of the row
pub item_below : (head : Head) (row i : ℕ) → IsTrue (is_valid_head head) → i < data_blocks head → item_of head row i < head.members
item_below head row i valid h = (layout_of head row valid).item_in i h

-- whether a place is this slot
stands_on : (o : Option ℕ) (s : ℕ) → (o ≡ Some s) ⊎ (o ≢ Some s)
stands_on None s = inr (λ e. nowhere e)
stands_on (Some t) s =
    elim (cases_eq t s) [
      | inl e ↦ inl (ap (λ (x : ℕ). Some x) e)
      | inr ne ↦ inr (λ e. ne (unwrap e))
    ]

-- there is P from level 5 on, and Q at level 6
p_there : (level : Level) (pattern : Pattern) (n row : ℕ) → 0 < redundancy level → (s : ℕ) × (p_at level pattern n row ≡ Some s)
p_there Raid0 pattern n row h = absurd (omega arith)
p_there Raid5 pattern n row h = (single_p pattern n row, refl)
p_there Raid6 pattern n row h = (double_p pattern n row, refl)

q_there : (level : Level) (pattern : Pattern) (n row : ℕ) → 1 < redundancy level → (s : ℕ) × (q_at level pattern n row ≡ Some s)
q_there Raid0 pattern n row h = absurd (omega arith)
q_there Raid5 pattern n row h = absurd (omega arith)
q_there Raid6 pattern n row h = (double_q pattern n row, refl)

there_p : (level : Level) (pattern : Pattern) (n row s : ℕ) → p_at level pattern n row ≡ Some s → 0 < redundancy level
there_p Raid0 pattern n row s e = absurd (nowhere e)
there_p Raid5 pattern n row s e = omega arith
there_p Raid6 pattern n row s e = omega arith

there_q : (level : Level) (pattern : Pattern) (n row s : ℕ) → q_at level pattern n row ≡ Some s → 1 < redundancy level
there_q Raid0 pattern n row s e = absurd (nowhere e)
there_q Raid5 pattern n row s e = absurd (nowhere e)
there_q Raid6 pattern n row s e = omega arith

pub each_role : EachRoleHasOneSlot
each_role head row P valid is =
    let l = layout_of head row valid in
    let at = p_there head.level head.pattern head.members (turn head row) is in
    (at.0, l.p_in at.0 at.1, at.1, λ other e. unwrap (sym e ∙ at.1))
each_role head row Q valid is =
    let l = layout_of head row valid in
    let at = q_there head.level head.pattern head.members (turn head row) is in
    (at.0, l.q_in at.0 at.1, at.1, λ other e. unwrap (sym e ∙ at.1))
each_role head row (Item i) valid is =
    let l = layout_of head row valid in
    (item_of head row i, l.item_in i is, (is, refl), λ other h. h.1)

-- no other role stands where one does
pub just_p : (head : Head) (row slot : ℕ) → IsTrue (is_valid_head head) → p_of head row ≡ Some slot →
    (other : Role) → HasRole head row slot other → other ≡ P
just_p head row slot valid e P h = refl
just_p head row slot valid e Q h = absurd ((layout_of head row valid).p_not_q slot e h)
just_p head row slot valid e (Item i) h = absurd ((layout_of head row valid).not_p i h.0 (e ∙ ap (λ (x : ℕ). Some x) h.1))

pub just_q : (head : Head) (row slot : ℕ) → IsTrue (is_valid_head head) → q_of head row ≡ Some slot →
    (other : Role) → HasRole head row slot other → other ≡ Q
just_q head row slot valid e P h = absurd ((layout_of head row valid).p_not_q slot h e)
just_q head row slot valid e Q h = refl
just_q head row slot valid e (Item i) h = absurd ((layout_of head row valid).not_q i h.0 (e ∙ ap (λ (x : ℕ). Some x) h.1))

pub just_item : (head : Head) (row slot i : ℕ) → IsTrue (is_valid_head head) → HasRole head row slot (Item i) →
    (other : Role) → HasRole head row slot other → other ≡ Item i
just_item head row slot i valid e P h = absurd ((layout_of head row valid).not_p i e.0 (h ∙ ap (λ (x : ℕ). Some x) e.1))
just_item head row slot i valid e Q h = absurd ((layout_of head row valid).not_q i e.0 (h ∙ ap (λ (x : ℕ). Some x) e.1))
just_item head row slot i valid e (Item j) h = ap (λ (x : ℕ). Item x) ((layout_of head row valid).once j i h.0 e.0 (sym h.1 ∙ e.1))

pub each_slot : EachSlotHasOneRole
each_slot head row slot valid below =
    let l = layout_of head row valid in
    elim (stands_on (p_of head row) slot) [
      | inl e ↦ (P, there_p head.level head.pattern head.members (turn head row) slot e, e, just_p head row slot valid e)
      | inr np ↦ elim (stands_on (q_of head row) slot) [
        | inl e ↦ (Q, there_q head.level head.pattern head.members (turn head row) slot e, e, just_q head row slot valid e)
        | inr nq ↦
            let at = l.found slot below np nq in
            (Item at.0, at.1, (at.1, at.2), just_item head row slot at.0 valid (at.1, at.2))
      ]
    ]
