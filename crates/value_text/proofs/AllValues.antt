-- All values of an enum stand in the list of them.
use Rattle.std.proofs.Common.{◌≡◌, ◌≢◌, ℕ, List, All, Option, None, Some, MatchOption, arith}
use Rattle.raid_params.specs.declared.types.Level.{Level}
use Rattle.raid_params.specs.declared.types.Level.TheVariants.{Raid0, Raid5, Raid6}
use Rattle.raid_params.specs.declared.types.Pattern.{Pattern}
use Rattle.raid_params.specs.declared.types.Pattern.TheVariants.{Plain, La, Ra, Ls, Rs, ParityFirst, ParityLast, NRestart, NContinue, La6, Ra6, Ls6, Rs6, ParityFirst6}
use Rattle.raid_params.specs.declared.types.Syndrome.{Syndrome}
use Rattle.raid_params.specs.declared.types.Syndrome.TheVariants.{NoQ, AfterQ, ByData, BySlot}
use Rattle.value_text.specs.Spelling.{level_name, pattern_name, syndrome_name}
use Rattle.value_text.specs.declared.names.TheConstants.{LEVELS, PATTERNS, SYNDROMES}

-- what reading gives: the value of the name, or none where no value has it
abbrev Reads : {A : Type 0} → (A → List ℕ) → List ℕ → Option A → Type 0
Reads {A = A} name text r = MatchOption r ((x : A) → Unit {0} → text ≢ name x) (λ x. Unit {0} × (text ≡ name x))

pub any_level : (text : List ℕ) (r : Option Level) → MatchOption r (All (λ x. text ≢ level_name x) LEVELS) (λ x. text ≡ level_name x) → Reads level_name text r
any_level text (Some x) found = (tt, found)
any_level text None none = λ x spelled. other x
  where
    other : (x : Level) → text ≢ level_name x
    other Raid0 = none 0 Raid0 (omega arith)
    other Raid5 = none 1 Raid0 (omega arith)
    other Raid6 = none 2 Raid0 (omega arith)

pub any_pattern : (text : List ℕ) (r : Option Pattern) → MatchOption r (All (λ x. text ≢ pattern_name x) PATTERNS) (λ x. text ≡ pattern_name x) → Reads pattern_name text r
any_pattern text (Some x) found = (tt, found)
any_pattern text None none = λ x spelled. other x
  where
    other : (x : Pattern) → text ≢ pattern_name x
    other Plain = none 0 Plain (omega arith)
    other La = none 1 Plain (omega arith)
    other Ra = none 2 Plain (omega arith)
    other Ls = none 3 Plain (omega arith)
    other Rs = none 4 Plain (omega arith)
    other ParityFirst = none 5 Plain (omega arith)
    other ParityLast = none 6 Plain (omega arith)
    other NRestart = none 7 Plain (omega arith)
    other NContinue = none 8 Plain (omega arith)
    other La6 = none 9 Plain (omega arith)
    other Ra6 = none 10 Plain (omega arith)
    other Ls6 = none 11 Plain (omega arith)
    other Rs6 = none 12 Plain (omega arith)
    other ParityFirst6 = none 13 Plain (omega arith)

pub any_syndrome : (text : List ℕ) (r : Option Syndrome) → MatchOption r (All (λ x. text ≢ syndrome_name x) SYNDROMES) (λ x. text ≡ syndrome_name x) → Reads syndrome_name text r
any_syndrome text (Some x) found = (tt, found)
any_syndrome text None none = λ x spelled. other x
  where
    other : (x : Syndrome) → text ≢ syndrome_name x
    other NoQ = none 0 NoQ (omega arith)
    other AfterQ = none 1 NoQ (omega arith)
    other ByData = none 2 NoQ (omega arith)
    other BySlot = none 3 NoQ (omega arith)
