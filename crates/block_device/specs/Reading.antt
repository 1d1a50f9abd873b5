-- What a device is asked for, when a reading of it fails, and what readings of images do to their counts.
use Rattle.std.specs.Prelude.{ℕ, zero, suc, ◌≡◌, ◌+◌, ◌/◌, ◌%◌, ◌≤◌, Bool, true, false, refl}
use Rattle.std.specs.List.{list_any, range_with_len}
use Rattle.std.specs.declared.option.Option.{Option}
use Rattle.std.specs.declared.option.Option.TheVariants.{None, Some}
use Rattle.outside.specs.Causes.{Rose}
use Rattle.outside.specs.Seen.{Seen}

-- sectors that a device is asked for: `count` of them from `first` on
pub record Asked : Type 0 where
  pub first : ℕ
  pub count : ℕ

-- the sectors in which so many bytes from an offset on lie
abbrev pub asked_for : ℕ → ℕ → Asked
asked_for offset bytes = record { first = offset / 512; count = (offset % 512 + bytes + 511) / 512 }

-- what images count: their faults, and the sectors that were read of them
pub record Counts : Type 0 where
  pub faults : ℕ
  pub sectors_read : ℕ

abbrev pub counts_of : Seen → Counts
counts_of seen = record { faults = seen.faults; sectors_read = seen.sectors_read }

-- the count of faults rose where a reading failed, and stayed where it did not
abbrev pub RisesWith : Bool → ℕ → ℕ → Type 0
RisesWith true before after = Rose before after
RisesWith false before after = after ≡ before

-- a reading of images, which failed or not, and for which at most `cost` sectors of them were read
pub record Costs (cost : ℕ) (failed : Bool) (before after : Counts) : Type 0 where
  pub few : after.sectors_read ≤ before.sectors_read + cost
  pub later : before.sectors_read ≤ after.sectors_read
  pub faults : RisesWith failed before.faults after.faults

-- one of the sectors that are asked for is lost
abbrev pub is_any_lost : (ℕ → Bool) → Asked → Bool
is_any_lost lost asked = list_any lost (range_with_len asked.first asked.count)

-- why a reading failed, or did not: it fails where one of its sectors is lost, and the count of faults stays; and else just where the count rose
abbrev pub FailsFor : Bool → Bool → ℕ → ℕ → Type 0
FailsFor true failed before after = (failed ≡ true) × (after ≡ before)
FailsFor false failed before after = RisesWith failed before after

-- a reading of images for sectors that cost so many of theirs, or of which one is lost: then it failed, and nothing was read
abbrev pub Answers : Option ℕ → Bool → Counts → Counts → Type 0
Answers (Some cost) failed before after = Costs cost failed before after
Answers None failed before after = (failed ≡ true) × (after ≡ before)

-- of a device no sector of which is lost none of those that are asked for is
none_of : (first n : ℕ) → list_any (λ v. false) (range_with_len first n) ≡ false
none_of first zero = refl
none_of first (suc n) = none_of (first + 1) n

-- so a reading of it fails just where the count rose
pub fails_never_lost : (asked : Asked) (failed : Bool) (before after : ℕ) → RisesWith failed before after → FailsFor (is_any_lost (λ v. false) asked) failed before after
fails_never_lost asked failed before after rises = rw (none_of asked.first asked.count) rises
