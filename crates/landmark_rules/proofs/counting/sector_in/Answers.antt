use Rattle.std.proofs.Common.{◌≡◌, ◌⊎◌, inl, inr, arith, ap, sym, ◌∙◌, None}
use Rattle.address_map.specs.declared.map.MemberPlace.{MemberPlace}
use Rattle.address_map.specs.declared.map.MemberPlace.TheVariants.{Outside, Parity}
use Rattle.landmark_rules.proofs.Places.{sector_before, sector_at, volume_sector_of}
use Rattle.landmark_rules.proofs.counting.sector_in.Goals as goal

nowhere : (place : MemberPlace) → (place ≡ Outside) ⊎ (place ≡ Parity) → None ≡ volume_sector_of place
nowhere place (inl e) = ap volume_sector_of (sym e)
nowhere place (inr e) = ap volume_sector_of (sym e)

pub returns-in_default : goal.returns-in_default
returns-in_default c = sym (sector_before c.args.head.now c.args.end c.args.slot c.args.sector c.requires.head (omega (arith, c.in_default.ensures)))

pub returns-in-At : goal.returns-in-At
returns-in-At c =
    ap volume_sector_of (sym c.in-At.is)
    ∙ sym (sector_at c.args.head.now c.args.end c.args.slot c.args.sector c.in-Some.member_sector c.place.result c.requires.head
    (omega (arith, c.in-Some.ensures)) (omega (arith, c.in-Some.ensures)) c.place.ensures)

pub returns-in-Outside : goal.returns-in-Outside
returns-in-Outside c =
    nowhere c.place.result c.in-Outside.is
    ∙ sym (sector_at c.args.head.now c.args.end c.args.slot c.args.sector c.in-Some.member_sector c.place.result c.requires.head
    (omega (arith, c.in-Some.ensures)) (omega (arith, c.in-Some.ensures)) c.place.ensures)
