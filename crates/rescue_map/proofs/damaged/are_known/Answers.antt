use Rattle.std.proofs.Common.{ℕ, ◌≡◌, Option, subst, sym}
use Rattle.rescue_map.specs.Damaged.{known_slot}
use Rattle.rescue_map.proofs.Rows.{known_all, known_together}
use Rattle.rescue_map.proofs.damaged.are_known.Goals as goal

pub returns-in-Some : goal.returns-in-Some
returns-in-Some c =
    let set = c.args.set.now in
    let sections = c.args.rescue.now in
    let image = c.in-Some.image in
    let place = c.image_sector.ensures in (
      λ is t low high. subst (λ (o : Option ℕ). known_slot sections set t o ≡ o) (sym c.in-Some.is)
          (known_all sections set c.args.first c.args.count t image c.image_sector.result place (c.are_good.ensures.0 is) low high),
      λ all. c.are_good.ensures.1 (known_together sections set c.args.first c.args.count image c.image_sector.result place
          (λ t low high. subst (λ (o : Option ℕ). known_slot sections set t o ≡ o) c.in-Some.is (all t low high))),
    )
