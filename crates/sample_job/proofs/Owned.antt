-- Images that never fail are those in memory.
use Rattle.std.proofs.Common.{ℕ, List, Result}
use Rattle.outside.specs.declared.Failed.{Failed}
use Rattle.image_source.specs.Memory.{Shelf, seen_of}
use Rattle.outside.specs.Seen.{Attaches}
use Rattle.sample_job.specs.Own.{seen_of_own}

pub attaches : (old new : Shelf) (name : List ℕ) (r : Result ℕ Failed) → Attaches (seen_of old) (seen_of new) name r → Attaches (seen_of_own old) (seen_of_own new) name r
attaches old new name r is = record { world = is.world; unread = is.unread; attached = is.attached }
