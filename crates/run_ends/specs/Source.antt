-- How much is taken of a source, and why its text may be wanting.
use Rattle.std.specs.Prelude.{ℕ, ◌+◌, ◌<◌, ◌≤◌, List, length, IfSome}
use Rattle.std.specs.Io.KnownBytes.{Consumes}
use Rattle.std.specs.declared.option.Option.{Option}
use Rattle.run_ends.specs.declared.reading.Unread.{Unread}
use Rattle.run_ends.specs.declared.reading.Unread.TheVariants.{TooLong, Fault, OutOfMemory}

-- at most `most` bytes and one more were taken of what the source had left
abbrev pub TakesFew : ℕ → Option (List ℕ) → Option (List ℕ) → Type 0
TakesFew most old new = (taken : List ℕ) × (length taken ≤ most + 1) × Consumes old new taken

-- a text is called too long only where more than `most` bytes were left
abbrev pub IsUnread : ℕ → Option (List ℕ) → Unread → Type 0
IsUnread most left TooLong = IfSome left (λ text. most < length text)
IsUnread most left Fault = Unit {0}
IsUnread most left OutOfMemory = Unit {0}
