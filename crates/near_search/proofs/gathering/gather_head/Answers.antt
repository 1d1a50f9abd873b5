use Rattle.std.proofs.Common.{rules, ℕ, ◌≡◌, ◌<◌, ◌≤◌, false, arith, sym, ◌∙◌}
use Rattle.outside.specs.Attached.{told_all}
use Rattle.member_regions.proofs.IfTold.{if_any, if_told}
use Rattle.near_mirror.specs.Copies.{near_chunks}
use Rattle.near_mirror.proofs.Heads.{few_members}
use Rattle.near_search.specs.Product.{passes_at}
use Rattle.near_search.specs.Hopeful.{AdmitsHopeful, is_near_admitted}
use Rattle.near_search.specs.Walk.{list_passes}
use Rattle.near_search.proofs.Leafwise.{ranks, ranks_length}
use Rattle.near_search.proofs.Parted.{gathers_none, gathers_told, rowless, space_size, tells}
use Rattle.near_search.proofs.gathering.gather_head.Goals as goal

pub returns-then-volume_chunks-eq0-clause-gathers : goal.returns-then-volume_chunks-eq0-clause-gathers
returns-then-volume_chunks-eq0-clause-gathers g c =
    let part = c.requires.part in
    let begins = part.begins in
    let ends = part.ends in
    let none : near_chunks c.args.sets.now.head c.args.ask.now.end ≡ 0 = sym c.volume_chunks.ensures ∙ c.if-volume_chunks-eq0.true in
    let few = c.requires.few in
    let long = ranks_length c.args.page.now in (
      gathers_none (told_all (g.I.Images.seen c.args.images.now).attached) c.args.many c.args.ask.now c.args.from c.args.to (ranks c.args.page.now) part.ordered
          (if_any (told_all (g.I.Images.seen c.args.images.now).attached) (λ bytes. (rank : ℕ) → c.args.from ≤ rank → rank < c.args.to → passes_at bytes c.args.many c.args.ask.now rank ≡ false)
          (λ bytes rank low high. rowless bytes c.args.many c.args.ask.now c.args.sets.now rank c.requires.head none (omega arith) (omega arith))),
      omega arith,
    )

pub gather_lists-requires-clause-images : goal.gather_lists-requires-clause-images
gather_lists-requires-clause-images g c =
    let images = (space_size c.args.many c.args.ask.now c.args.sets.now c.requires.head).0 in
    let few = c.requires.images.few in
    let many = c.requires.many in
    omega arith

pub gather_lists-requires-clause-members : goal.gather_lists-requires-clause-members
gather_lists-requires-clause-members g c =
    let members = (space_size c.args.many c.args.ask.now c.args.sets.now c.requires.head).1 in
    let few = few_members c.args.sets.now.head (c.requires.head.valid c.requires.some) in
    omega arith

pub of_head-requires-clause-over : goal.of_head-requires-clause-over
of_head-requires-clause-over g c = (space_size c.args.many c.args.ask.now c.args.sets.now c.requires.head).0

pub of_head-requires-clause-members : goal.of_head-requires-clause-members
of_head-requires-clause-members g c = (space_size c.args.many c.args.ask.now c.args.sets.now c.requires.head).1

pub returns-clause-gathers : goal.returns-clause-gathers
returns-clause-gathers g c =
    let part = c.requires.part in
    let begins = part.begins in
    let ends = part.ends in
    gathers_told (told_all (g.I.Images.seen c.args.images.now).attached) c.args.many c.args.ask.now
    (list_passes (is_near_admitted c.in_ok-family.family) c.args.sets.now) c.args.size c.args.from c.args.to (ranks c.args.page.now) (ranks c.gather_lists.new.page) c.in_ok-full.full
    part.ordered
    (if_told (told_all (g.I.Images.seen c.args.images.now).attached)
    (λ bytes. AdmitsHopeful bytes c.args.many c.args.ask.now c.args.sets.now.head c.in_ok-family.family)
    (λ bytes. (rank : ℕ) → c.args.from ≤ rank → rank < c.args.to → list_passes (is_near_admitted c.in_ok-family.family) c.args.sets.now rank ≡ passes_at bytes c.args.many c.args.ask.now rank)
    (λ bytes is rank low high. tells bytes c.args.many c.args.ask.now c.args.sets.now c.in_ok-family.family rank c.requires.head is (omega arith) (omega arith))
    c.in_ok-family.ensures.hopeful)
    (search rules)
