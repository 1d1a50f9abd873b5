-- The images of a generated array, which never fail.
use Rattle.image_source.specs.Memory.{Shelf, seen_of}
use Rattle.outside.specs.Seen.{Seen}

-- what they mean as an `Images`: as those in memory that they are kept in, but with no fault
abbrev pub seen_of_own : Shelf → Seen
seen_of_own shelf = record (seen_of shelf) { faults = 0 }
