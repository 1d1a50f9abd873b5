use Rattle.std.proofs.Common.{min, ◌≡◌, ◌+◌, ◌-◌, ◌*◌, ◌/◌, ◌<◌, ℕ, length, replicate, get_or, sym, ap, subst, ◌∙◌, arith, rules}
use Rattle.std.proofs.lemmas.Bool.{eqb-true}
use Rattle.std.proofs.lemmas.Result.{on_ok_weaker}
use Rattle.outside.specs.Seen.{AreTold}
use Rattle.image_padding.specs.Padded.{greatest_base}
use Rattle.image_padding.proofs.Images.{told_in_padding, told_past_padding, within, not_empty}
use Rattle.image_padding.proofs.padded.PaddedImages.read.Goals as goal

pub returns-then-is_empty-clause-told : goal.returns-then-is_empty-clause-told
returns-then-is_empty-clause-told g c =
    let bases = c.args.self.now.bases.items in
    let attached = (g.I.Images.seen c.args.self.now.images.now).attached in
    let zeros : c.fill.new.self ≡ replicate (512 * c.min-zeros.result) 0 = search rules in
    let least : c.min-zeros.result ≡ min (greatest_base bases - get_or bases c.args.image (greatest_base bases) - c.args.sector) (length c.args.to.now / 512) = search rules in
    let none : length c.split_at_mut-front.result.1.now ≡ 0 = eqb-true _ 0 (sym c.is_empty.ensures ∙ c.if-is_empty.true) in
    told_in_padding (greatest_base bases) bases attached c.args.image c.args.sector c.min-zeros.result _ c.fill.new.self c.split_at_mut-front.result.1.now zeros least none

pub read-requires : goal.read-requires
read-requires g c =
    let bases = c.args.self.now.bases.items in
    let attached = (g.I.Images.seen c.args.self.now.images.now).attached in
    let least : c.min-zeros.result ≡ min (greatest_base bases - get_or bases c.args.image (greatest_base bases) - c.args.sector) (length c.args.to.now / 512) = search rules in
    let split : length c.args.to.now ≡ 512 * c.min-zeros.result + length c.split_at_mut-front.result.1.now = omega arith in
    let some : 0 < length c.split_at_mut-front.result.1.now = not_empty _ (sym c.is_empty.ensures ∙ c.if-is_empty.false) in
    rw (c.saturating_sub-2.ensures, c.padding-padding.ensures)
    (within (greatest_base bases) bases attached c.args.image c.args.sector (length c.args.to.now) c.min-zeros.result (length c.split_at_mut-front.result.1.now) c.requires least split some)

pub returns-clause-told : goal.returns-clause-told
returns-clause-told g c =
    let bases = c.args.self.now.bases.items in
    let attached = (g.I.Images.seen c.args.self.now.images.now).attached in
    let padding = greatest_base bases - get_or bases c.args.image (greatest_base bases) in
    let zeros : c.fill.new.self ≡ replicate (512 * c.min-zeros.result) 0 = search rules in
    let least : c.min-zeros.result ≡ min (greatest_base bases - get_or bases c.args.image (greatest_base bases) - c.args.sector) (length c.args.to.now / 512) = search rules in
    let front_some : 0 < length c.split_at_mut-front.result.1.now = not_empty _ (sym c.is_empty.ensures ∙ c.if-is_empty.false) in
    let split : length c.args.to.now ≡ 512 * c.min-zeros.result + length c.read.new.to = omega arith in
    let some : 0 < length c.read.new.to = omega (arith, front_some) in
    let start : c.saturating_sub-2.result ≡ c.args.sector - padding = c.saturating_sub-2.ensures ∙ ap (λ (n : ℕ). c.args.sector - n) c.padding-padding.ensures in
    on_ok_weaker c.read.result (λ told.
    told_past_padding (greatest_base bases) bases attached c.args.image c.args.sector c.min-zeros.result (length c.args.to.now) c.fill.new.self c.read.new.to zeros least c.requires.whole split some
    (subst (λ (n : ℕ). AreTold attached c.args.image n c.read.new.to) start told)) c.read.ensures.told
