use Rattle.std.proofs.Common.{ℕ, ◌≡◌, ◌+◌, ◌-◌, ◌*◌, ◌/◌, ◌∙◌, drop, length, refl, ap, rules, arith, take}
use Rattle.std.proofs.lemmas.Nat.{mod_below}
use Rattle.outside.specs.Attached.{told_all}
use Rattle.address_map.proofs.Heads.{some_chunk}
use Rattle.virtual_volume.proofs.Sets.{served_head}
use Rattle.volume_device.specs.declared.kept.Kept.{Kept}
use Rattle.volume_device.proofs.Chunks.{among_part, volume_short}
use Rattle.volume_device.proofs.Costs.{reads_chunk, reads_part}
use Rattle.volume_device.proofs.Memory.{can_again, read_none, read_up}
use Rattle.volume_device.proofs.Told.{part_on, part_start, part_whole}
use Rattle.volume_device.proofs.runs.read_part.Goals as goal

pub loop-at-init : goal.loop-at-init
loop-at-init g c = record {
  within = omega arith;
  told = part_start (told_all (g.I.Images.seen c.args.images.now).attached) c.args.geo.now c.args.first c.args.to.now;
  read = read_up (read_none c.args.geo.now (g.I.Images.seen c.args.images.now) c.args.kept.now c.requires.can.kept) (omega arith);
  still = λ among. (refl, refl);
  stays = refl;
}

pub overflow_add-sector : goal.overflow_add-sector
overflow_add-sector g c =
    let short = volume_short c.args.geo.now c.args.end (g.I.Images.seen c.args.images.now).attached c.requires.can.set in
    omega (arith, c.requires.inside, short)

pub read_chunk-requires-clause-some : goal.read_chunk-requires-clause-some
read_chunk-requires-clause-some g c =
    let below = mod_below (c.args.first + c.loop-at.at) c.args.geo.now.head.chunk (some_chunk c.args.geo.now.head (served_head c.args.geo.now c.args.end (g.I.Images.seen c.args.images.now).attached c.requires.can.set)) in
    omega (arith, below)

pub read_chunk-requires-clause-can : goal.read_chunk-requires-clause-can
read_chunk-requires-clause-can g c = can_again c.loop-at.invariant.read c.requires.can

pub returns-in_err-read_chunk-clause-read : goal.returns-in_err-read_chunk-clause-read
returns-in_err-read_chunk-clause-read g c =
    let below = mod_below (c.args.first + c.loop-at.at) c.args.geo.now.head.chunk (some_chunk c.args.geo.now.head (served_head c.args.geo.now c.args.end (g.I.Images.seen c.args.images.now).attached c.requires.can.set)) in
    let n : ℕ = length (take (512 * (c.loop-at.at + c.min.result) - 512 * c.loop-at.at) (drop (512 * c.loop-at.at) c.loop-at.to)) / 512 in
    let same : length (take (512 * (c.loop-at.at + c.min.result) - 512 * c.loop-at.at) (drop (512 * c.loop-at.at) c.loop-at.to)) / 512 ≡ c.min.result = omega arith in
    reads_part c.args.geo.now c.args.first (c.loop-at.at + c.min.result) (length c.args.to.now / 512) (omega arith)
    (reads_chunk c.args.geo.now c.args.first c.loop-at.at (c.loop-at.at + c.min.result) n
    (omega arith) (omega (arith, same)) (omega (arith, same, below)) c.loop-at.invariant.read c.read_chunk.ensures.read)

pub loop-at-preserved : goal.loop-at-preserved
loop-at-preserved g c =
    let below = mod_below (c.args.first + c.loop-at.at) c.args.geo.now.head.chunk (some_chunk c.args.geo.now.head (served_head c.args.geo.now c.args.end (g.I.Images.seen c.args.images.now).attached c.requires.can.set)) in
    let n : ℕ = length (take (512 * (c.loop-at.at + c.min.result) - 512 * c.loop-at.at) (drop (512 * c.loop-at.at) c.loop-at.to)) / 512 in
    let same : length (take (512 * (c.loop-at.at + c.min.result) - 512 * c.loop-at.at) (drop (512 * c.loop-at.at) c.loop-at.to)) / 512 ≡ c.min.result = omega arith in
    let long : length c.read_chunk.new.to ≡ 512 * c.min.result = omega arith in
    let stays : (g.I.Images.seen c.read_chunk.new.images).faults ≡ (g.I.Images.seen c.loop-at.images).faults = search rules in
    record {
      within = omega arith;
      told =
          part_on (told_all (g.I.Images.seen c.args.images.now).attached) c.args.geo.now c.args.first c.loop-at.at (c.loop-at.at + c.min.result) n _ c.loop-at.to c.read_chunk.new.to
          (omega arith) (omega (arith, same)) (omega (arith, same, long)) (omega arith) c.loop-at.invariant.told (rw (← c.loop-at.invariant.read.reads.attached) c.in_ok-read_chunk.ensures.told);
      still = λ among.
          let before = c.loop-at.invariant.still among in
          let now = c.read_chunk.ensures.still
          (among_part c.args.geo.now.head c.loop-at.kept.first c.loop-at.kept.count c.args.kept.now.first c.args.kept.now.count c.args.first (length c.args.to.now / 512) (c.args.first + c.loop-at.at) n
          (ap (λ (k : Kept). k.first) before.0) (ap (λ (k : Kept). k.count) before.0) (omega arith) (omega (arith, same)) among) in
          (now.0 ∙ before.0, now.1 ∙ before.1);
      read =
          reads_chunk c.args.geo.now c.args.first c.loop-at.at (c.loop-at.at + c.min.result) n
          (omega arith) (omega (arith, same)) (omega (arith, same, below)) c.loop-at.invariant.read c.read_chunk.ensures.read;
      stays = stays ∙ c.loop-at.invariant.stays;
    }

pub returns-clause-told : goal.returns-clause-told
returns-clause-told g c =
    part_whole (told_all (g.I.Images.seen c.args.images.now).attached) c.args.geo.now c.args.first c.loop-at.at (length c.args.to.now / 512) c.loop-at.to (omega arith) (omega arith) c.loop-at.invariant.told
