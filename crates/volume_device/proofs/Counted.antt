-- What a reading of images did to their counts.
use Rattle.std.proofs.Common.{ℕ, Result, Ok, Err}
use Rattle.std.specs.Result.{is_err}
use Rattle.block_device.specs.Reading.{Costs, counts_of}
use Rattle.outside.specs.Causes.{HasCause}
use Rattle.outside.specs.Seen.{OnlyReads, Seen}
use Rattle.outside.specs.declared.Failed.{Failed}

pub costs : (cost : ℕ) (old new : Seen) (result : Result (Unit {0}) Failed) → OnlyReads old new cost → HasCause old.faults new.faults result → Costs cost (is_err result) (counts_of old) (counts_of new)
costs cost old new (Ok done) reads cause = record { few = reads.sectors_read; later = reads.sectors_later; faults = cause.stays }
costs cost old new (Err failed) reads cause = record { few = reads.sectors_read; later = reads.sectors_later; faults = cause.failed }
