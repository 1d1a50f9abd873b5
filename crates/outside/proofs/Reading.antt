-- How readings join, for the crates above.
use Rattle.std.proofs.Common.{ℕ, ◌+◌, ◌≤◌, refl, ◌∙◌, arith}
use Rattle.outside.specs.Seen.{Seen, OnlyReads}

-- where nothing happened, nothing was read
pub reads_none : (s : Seen) → OnlyReads s s 0
reads_none s = record {
  world = refl;
  attached = refl;
  sectors_read = omega arith;
  sectors_later = omega arith;
  faults = omega arith;
}

-- one reading after the other
pub reads_join : {m n : ℕ} (a b c : Seen) → OnlyReads a b m → OnlyReads b c n → OnlyReads a c (m + n)
reads_join a b c ab bc = record {
  world = bc.world ∙ ab.world;
  attached = bc.attached ∙ ab.attached;
  sectors_read = omega (arith, ab.sectors_read, bc.sectors_read);
  sectors_later = omega (arith, ab.sectors_later, bc.sectors_later);
  faults = omega (arith, ab.faults, bc.faults);
}

-- a reading of some sectors is one of at most as many or more
pub reads_up : {m n : ℕ} (a b : Seen) → OnlyReads a b m → m ≤ n → OnlyReads a b n
reads_up a b r h = record {
  world = r.world;
  attached = r.attached;
  sectors_read = omega (arith, r.sectors_read, h);
  sectors_later = r.sectors_later;
  faults = r.faults;
}
