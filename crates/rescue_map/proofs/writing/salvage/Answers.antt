use Rattle.std.proofs.lemmas.Bool.Decides.{nat_tests}
use Rattle.std.proofs.Common.{ℕ, true, false, ◌==◌, ◌≡◌, ◌∙◌, ◌<◌, ◌^◌, List, length, All, ap, sym, subst, rules, arith}
use Rattle.outside.specs.Attached.{told_all}
use Rattle.outside.specs.Seen.{Image, OnlyReads}
use Rattle.image_padding.proofs.Within.{reads_within}
use Rattle.image_padding.specs.Padded.{padded_images}
use Rattle.raid_params.specs.Size.{volume_sectors}
use Rattle.rescue_map.specs.Damaged.{IsReadable}
use Rattle.rescue_map.specs.Salvaged.{reads_for_all, Salvages}
use Rattle.rescue_map.proofs.Padding.{bases_each, bases_near, none_padded, padded_readable, salvaged_readable, same_within}
use Rattle.rescue_map.proofs.writing.salvage.Goals as goal

pub salvage_over-requires-clause-set : goal.salvage_over-requires-clause-set
salvage_over-requires-clause-set g c κs within = salvaged_readable c.args.set.now c.args.end (g.I.Images.seen c.args.images.now).attached c.requires.set

none_of : (n : ℕ) → (n == 0) ≡ true → n ≡ 0
none_of n none = grind (arith, nat_tests)

pub returns-then-is_empty : goal.returns-then-is_empty
returns-then-is_empty g c =
    let set = c.args.set.now in
    let attached = (g.I.Images.seen c.args.images.now).attached in
    let none = none_of (length set.bases.items) (sym c.is_empty.ensures ∙ c.if-is_empty.true) in
    subst (λ (l : List Image). Salvages (told_all l) c.args.rescue.now set (volume_sectors set.geo.head c.args.end) (g.I.Images.seen c.args.images.now) (g.I.Images.seen c.salvage_over.new.images)
    (g.K.Sink.gained c.args.sink.now) (g.K.Sink.gained c.salvage_over.new.sink) (g.K.Sink.faults c.args.sink.now) (g.K.Sink.faults c.salvage_over.new.sink) c.salvage_over.result) (sym (none_padded set.bases.items attached none)) c.salvage_over.ensures

some_of : (n : ℕ) → (n == 0) ≡ false → 0 < n
some_of n some = grind (arith, nat_tests)

pub new-padded-requires-clause-each : goal.new-padded-requires-clause-each
new-padded-requires-clause-each g c =
    let some = some_of (length c.args.set.now.bases.items) (sym c.is_empty.ensures ∙ c.if-is_empty.false) in
    ap (λ (l : List ℕ). length l) c.as_slice.ensures.value ∙ bases_each c.args.set.now c.args.end (g.I.Images.seen c.args.images.now).attached c.requires.set some

pub new-padded-requires-clause-near : goal.new-padded-requires-clause-near
new-padded-requires-clause-near g c =
    let some = some_of (length c.args.set.now.bases.items) (sym c.is_empty.ensures ∙ c.if-is_empty.false) in
    subst (λ (l : List ℕ). All (λ base. base < 2 ^ 54) l) (sym c.as_slice.ensures.value) (bases_near c.args.set.now c.args.end (g.I.Images.seen c.args.images.now).attached c.requires.set some)

pub salvage_over-requires-2-clause-set : goal.salvage_over-requires-2-clause-set
salvage_over-requires-2-clause-set g c κs within =
    let set = c.args.set.now in
    let bases : c.new-padded.result.bases.items ≡ set.bases.items = c.new-padded.ensures.bases ∙ c.as_slice.ensures.value in
    subst (λ (l : List ℕ). IsReadable set c.args.end (padded_images l (g.I.Images.seen c.new-padded.result.images.now).attached)) (sym bases)
    (subst (λ v. IsReadable set c.args.end (padded_images set.bases.items (g.I.Images.seen v).attached)) (sym c.new-padded.ensures.within)
    (padded_readable set c.args.end (g.I.Images.seen c.args.images.now).attached c.requires.set))

pub returns : goal.returns
returns g c =
    let set = c.args.set.now in
    let over = c.salvage_over-2.ensures in
    let all = reads_for_all c.args.rescue.now set 0 (volume_sectors set.geo.head c.args.end) in
    let reads = reads_within c.new-padded.result.images.ghost_name c.salvage_over-2.new.images.images.ghost_name c.new-padded.result.bases.items c.salvage_over-2.new.images.bases.items (g.I.Images.seen c.new-padded.result.images.now) (g.I.Images.seen c.salvage_over-2.new.images.images.now) all over.reads in
    let kept : c.salvage_over-2.new.images.images.ghost_name ≡ c.new-padded.result.images.ghost_name = reads.0 in
    let read : OnlyReads (g.I.Images.seen c.args.images.now) (g.I.Images.seen c.salvage_over-2.new.images.images.now) all =
    subst (λ v. OnlyReads (g.I.Images.seen v) (g.I.Images.seen c.salvage_over-2.new.images.images.now) all) c.new-padded.ensures.within reads.1 in record {
      put = search rules;
      whole = search rules;
      memory = λ is.
          let both = over.memory is in
          let stays : g.I.Images.seen c.salvage_over-2.new.images.images.now ≡ g.I.Images.seen c.args.images.now =
          same_within c.new-padded.result.images.ghost_name c.salvage_over-2.new.images.images.ghost_name c.new-padded.result.bases.items c.salvage_over-2.new.images.bases.items (g.I.Images.seen c.new-padded.result.images.now) (g.I.Images.seen c.salvage_over-2.new.images.images.now) both.1
          ∙ ap g.I.Images.seen c.new-padded.ensures.within in
          (both.0, search rules);
      reads = search rules;
      ahead = search rules;
      later = search rules;
      faults = search rules;
    }
