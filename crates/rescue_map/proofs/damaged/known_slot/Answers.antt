use Rattle.std.proofs.Common.{ℕ, ◌≡◌, ◌∙◌, true, false, subst, sym, ap}
use Rattle.rescue_map.specs.Damaged.{is_good, known_slot}
use Rattle.rescue_map.proofs.Known.{good_is, not_good_is}
use Rattle.rescue_map.proofs.Rows.{known_is, unknown_is}
use Rattle.rescue_map.proofs.damaged.known_slot.Goals as goal

pub returns-then-is_good : goal.returns-then-is_good
returns-then-is_good c =
    let set = c.args.set.now in
    let sections = c.args.rescue.now in
    let image = c.in_ok-image.image in
    let good = good_is sections image c.image_sector.result (c.is_good.ensures.0 c.if-is_good.true) in
    let here = subst (λ (k : ℕ). is_good sections image k ≡ true) c.image_sector.ensures good in
    sym (known_is sections set c.args.sector image here) ∙ ap (known_slot sections set c.args.sector) (sym c.in_ok-image.was)

pub returns : goal.returns
returns c =
    let set = c.args.set.now in
    let sections = c.args.rescue.now in
    let image = c.in_ok-image.image in
    let bad = not_good_is sections image c.image_sector.result c.is_good.result c.if-is_good.false c.is_good.ensures.1 in
    let here = subst (λ (k : ℕ). is_good sections image k ≡ false) c.image_sector.ensures bad in
    sym (unknown_is sections set c.args.sector image here) ∙ ap (known_slot sections set c.args.sector) (sym c.in_ok-image.was)
