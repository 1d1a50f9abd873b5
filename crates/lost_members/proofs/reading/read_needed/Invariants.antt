use Rattle.std.proofs.Common.{ℕ, ◌≡◌, ◌+◌, ◌*◌, ◌<◌, IfSome, map, true, get_or, None}
use Rattle.std.specs.List.{range_with_len, sum}
use Rattle.outside.specs.Attached.{told_all}
use Rattle.outside.specs.Seen.{OnlyReads}
use Rattle.raid_terms.specs.Volume.{byte_in}
use Rattle.lost_members.specs.Needs.{is_needed, needed_of}
use Rattle.lost_members.proofs.reading.read_needed.Given as goal

abbrev pub invariant-loop-slot : goal.invariant-loop-slot
invariant-loop-slot g l = record {
  reads : OnlyReads (g.I.Images.seen l.fn.images) (g.I.Images.seen l.images) (sum (map (needed_of l.geo l.first l.count) (range_with_len 0 l.slot)));
  stays : (g.I.Images.seen l.images).faults ≡ (g.I.Images.seen l.fn.images).faults;
  told : IfSome (told_all (g.I.Images.seen l.fn.images).attached)
      (λ bytes. (slot j x : ℕ) → slot < l.slot → j < l.count → x < 512 → is_needed l.geo slot (l.first + j) ≡ true →
      get_or l.sectors (l.stride * slot + (512 * j + x)) 0 ≡ byte_in bytes l.geo (l.first + j) slot x (get_or l.geo.slots.items slot None));
}
