-- Proofs that each value has a name of its own, without a separator. The implementations of `Spelled` and `Field`
-- give them as their law, which may cite `specs` alone.
use Rattle.std.proofs.Common.{◌≡◌, ◌≢◌, ◌<◌, ◌≤◌, ◌^◌, ℕ, suc, true, IsTrue, List, [], ◌∷◌, All, sum, length, get_or, codes, decimal, cond, eqb, refl, sym, ap, ◌∙◌, arith, lit≤, Option, None, Some, IfSome}
use Rattle.std.specs.Int.{IsInRange}
use Rattle.std.specs.Cmp.Derive.{both_true}
use Rattle.std.proofs.lemmas.Bool.{and_parts}
use Rattle.std.proofs.lemmas.Bool.Decides.{nat_tests}
use Rattle.std.proofs.lemmas.List.Elements.{All-nil, All-cons}
use Rattle.std.proofs.lemmas.Str.Parse.{digit_at}
use Rattle.std.proofs.lemmas.Fmt.{decimal_is_IsNumeral, decimal_injective}
use Rattle.raid_params.specs.declared.limits.TheConstants.{MOST}
use Rattle.std.specs.List.{list_all}
use Rattle.raid_params.specs.declared.types.Level.{Level}
use Rattle.raid_params.specs.declared.types.Level.TheVariants.{Raid0, Raid5, Raid6}
use Rattle.raid_params.specs.declared.types.Pattern.{Pattern}
use Rattle.raid_params.specs.declared.types.Pattern.TheVariants.{Plain, La, Ra, Ls, Rs, ParityFirst, ParityLast, NRestart, NContinue, La6, Ra6, Ls6, Rs6, ParityFirst6}
use Rattle.raid_params.specs.declared.types.Syndrome.{Syndrome}
use Rattle.raid_params.specs.declared.types.Syndrome.TheVariants.{NoQ, AfterQ, ByData, BySlot}
use Rattle.value_text.specs.Spelling.{level_name, pattern_name, syndrome_name, slot_name, is_separator, is_plain, IsFieldName, IsListName, IsSpelling}

abbrev IsOther : ℕ → ℕ → Type 0
IsOther separator byte = byte ≢ separator

other_byte : (separator byte : ℕ) → IsTrue (is_separator separator) → is_plain byte ≡ true → byte ≢ separator
other_byte separator byte is plain same = grind (arith, nat_tests)

-- no byte of a plain text is a separator
pub without_separator : (separator : ℕ) (bytes : List ℕ) → IsTrue (is_separator separator) → list_all is_plain bytes ≡ true → All (λ byte. byte ≢ separator) bytes
without_separator separator [] is plain = All-nil (IsOther separator)
without_separator separator (byte ∷ bytes) is plain =
    let parts = and_parts (is_plain byte) (list_all is_plain bytes) plain in
    All-cons (IsOther separator) byte bytes (other_byte separator byte is parts.0) (without_separator separator bytes is parts.1)

-- a name without a separator may stand in lists with any of them
pub in_lists_with : {A : Type 0} (separator : ℕ) → IsTrue (is_separator separator) → (name : A → List ℕ) (IsSpelled : A → Type 0) → IsFieldName name IsSpelled → IsListName separator name IsSpelled
in_lists_with separator is name IsSpelled law = record { one_value = law.one_value; has_none = λ x spelled. without_separator separator (name x) is (law.has_no_separator x spelled) }

pub in_lists : {A : Type 0} (name : A → List ℕ) (IsSpelled : A → Type 0) → IsFieldName name IsSpelled → IsSpelling name IsSpelled
in_lists name IsSpelled law = in_lists_with 44 refl name IsSpelled law

-- the level with a name whose bytes have this sum
level_at : ℕ → Level
level_at weight = cond (eqb weight 48) Raid0 (cond (eqb weight 53) Raid5 Raid6)

level_back : (level : Level) → level_at (sum (level_name level)) ≡ level
unfolding level_at
level_back Raid0 = refl
level_back Raid5 = refl
level_back Raid6 = refl

one_level : (x y : Level) → level_name x ≡ level_name y → x ≡ y
one_level x y e = sym (level_back x) ∙ ap (λ (name : List ℕ). level_at (sum name)) e ∙ level_back y

level_has_no_separator : (x : Level) → list_all is_plain (level_name x) ≡ true
level_has_no_separator Raid0 = refl
level_has_no_separator Raid5 = refl
level_has_no_separator Raid6 = refl

pub level_law : IsFieldName level_name (λ level. Unit {0})
level_law = record { one_value = λ x y p q. one_level x y; has_no_separator = λ x p. level_has_no_separator x }

-- the pattern with a name whose bytes have this sum
pattern_at : ℕ → Pattern
pattern_at weight =
    cond (eqb weight 532) Plain
    (cond (eqb weight 205) La
    (cond (eqb weight 211) Ra
    (cond (eqb weight 223) Ls
    (cond (eqb weight 229) Rs
    (cond (eqb weight 1262) ParityFirst
    (cond (eqb weight 1146) ParityLast
    (cond (eqb weight 928) NRestart
    (cond (eqb weight 1024) NContinue
    (cond (eqb weight 304) La6
    (cond (eqb weight 310) Ra6
    (cond (eqb weight 322) Ls6
    (cond (eqb weight 328) Rs6 ParityFirst6))))))))))))

pattern_back : (pattern : Pattern) → pattern_at (sum (pattern_name pattern)) ≡ pattern
unfolding pattern_at
pattern_back Plain = refl
pattern_back La = refl
pattern_back Ra = refl
pattern_back Ls = refl
pattern_back Rs = refl
pattern_back ParityFirst = refl
pattern_back ParityLast = refl
pattern_back NRestart = refl
pattern_back NContinue = refl
pattern_back La6 = refl
pattern_back Ra6 = refl
pattern_back Ls6 = refl
pattern_back Rs6 = refl
pattern_back ParityFirst6 = refl

one_pattern : (x y : Pattern) → pattern_name x ≡ pattern_name y → x ≡ y
one_pattern x y e = sym (pattern_back x) ∙ ap (λ (name : List ℕ). pattern_at (sum name)) e ∙ pattern_back y

pattern_has_no_separator : (x : Pattern) → list_all is_plain (pattern_name x) ≡ true
pattern_has_no_separator Plain = refl
pattern_has_no_separator La = refl
pattern_has_no_separator Ra = refl
pattern_has_no_separator Ls = refl
pattern_has_no_separator Rs = refl
pattern_has_no_separator ParityFirst = refl
pattern_has_no_separator ParityLast = refl
pattern_has_no_separator NRestart = refl
pattern_has_no_separator NContinue = refl
pattern_has_no_separator La6 = refl
pattern_has_no_separator Ra6 = refl
pattern_has_no_separator Ls6 = refl
pattern_has_no_separator Rs6 = refl
pattern_has_no_separator ParityFirst6 = refl

pub pattern_law : IsFieldName pattern_name (λ pattern. Unit {0})
pattern_law = record { one_value = λ x y p q. one_pattern x y; has_no_separator = λ x p. pattern_has_no_separator x }

-- the order of Q with a name whose bytes have this sum
syndrome_at : ℕ → Syndrome
syndrome_at weight = cond (eqb weight 432) NoQ (cond (eqb weight 688) AfterQ (cond (eqb weight 674) ByData BySlot))

syndrome_back : (syndrome : Syndrome) → syndrome_at (sum (syndrome_name syndrome)) ≡ syndrome
unfolding syndrome_at
syndrome_back NoQ = refl
syndrome_back AfterQ = refl
syndrome_back ByData = refl
syndrome_back BySlot = refl

one_syndrome : (x y : Syndrome) → syndrome_name x ≡ syndrome_name y → x ≡ y
one_syndrome x y e = sym (syndrome_back x) ∙ ap (λ (name : List ℕ). syndrome_at (sum name)) e ∙ syndrome_back y

syndrome_has_no_separator : (x : Syndrome) → list_all is_plain (syndrome_name x) ≡ true
syndrome_has_no_separator NoQ = refl
syndrome_has_no_separator AfterQ = refl
syndrome_has_no_separator ByData = refl
syndrome_has_no_separator BySlot = refl

pub syndrome_law : IsFieldName syndrome_name (λ syndrome. Unit {0})
syndrome_law = record { one_value = λ x y p q. one_syndrome x y; has_no_separator = λ x p. syndrome_has_no_separator x }

plain_digit : (digit : ℕ) → IsInRange 48 57 digit → is_plain digit ≡ true
plain_digit digit within = grind (arith, nat_tests)

plain_digits : (ds : List ℕ) → ((i : ℕ) → i < length ds → IsInRange 48 57 (get_or ds i 0)) → list_all is_plain ds ≡ true
plain_digits [] within = refl
plain_digits (d ∷ ds) within = both_true (plain_digit d (within 0 (omega arith))) (plain_digits ds (λ i lt. within (suc i) (omega arith)))

digit_of : (n i : ℕ) → n < 2 ^ 64 → i < length (decimal n) → IsInRange 48 57 (get_or (decimal n) i 0)
digit_of n i small lt = digit_at (decimal n) i (decimal_is_IsNumeral n small).0.1 lt

decimal_has_no_separator : (n : ℕ) → n < 2 ^ 64 → list_all is_plain (decimal n) ≡ true
decimal_has_no_separator n small = plain_digits (decimal n) (λ i lt. digit_of n i small lt)

decimal_law : (end : ℕ) → end ≤ 2 ^ 64 → IsFieldName decimal (λ n. n < end)
decimal_law end fits = record {
  one_value = λ m n p q e. decimal_injective m n (omega arith) (omega arith) e;
  has_no_separator = λ n p. decimal_has_no_separator n (omega arith);
}

pub number_law : IsFieldName decimal (λ n. n < 2 ^ 64)
number_law = decimal_law (2 ^ 64) (lit≤ tt)

pub byte_law : IsFieldName decimal (λ n. n < 2 ^ 8)
byte_law = decimal_law (2 ^ 8) (lit≤ tt)

abbrev IsSlot : Option ℕ → Type 0
IsSlot slot = IfSome slot (λ image. image < MOST)

no_dash : (n : ℕ) → n < 2 ^ 64 → codes "-" ≡ decimal n → ⊥
no_dash n small e =
    let some = ap length e in
    let first = digit_of n 0 small (omega arith) in
    let dash = ap (λ (ds : List ℕ). get_or ds 0 0) e in
    omega arith

one_slot : (x y : Option ℕ) → IsSlot x → IsSlot y → slot_name x ≡ slot_name y → x ≡ y
one_slot None None p q e = refl
one_slot None (Some n) p q e = absurd (no_dash n (omega (arith, q)) e)
one_slot (Some m) None p q e = absurd (no_dash m (omega (arith, p)) (sym e))
one_slot (Some m) (Some n) p q e = ap Some (decimal_injective m n (omega (arith, p)) (omega (arith, q)) e)

slot_has_no_separator : (x : Option ℕ) → IsSlot x → list_all is_plain (slot_name x) ≡ true
slot_has_no_separator None p = refl
slot_has_no_separator (Some n) p = decimal_has_no_separator n (omega (arith, p))

pub slot_law : IsFieldName slot_name (λ slot. IfSome slot (λ image. image < MOST))
slot_law = record { one_value = one_slot; has_no_separator = slot_has_no_separator }
