use Rattle.std.proofs.Common.{sym, subst, ◌∙◌}
use Rattle.volume_classes.specs.SetLists.{IsWhole}
use Rattle.volume_classes.proofs.SetLines.{same_number}
use Rattle.volume_classes.proofs.reading.is_share.Goals as goal

pub returns-in-Some : goal.returns-in-Some
returns-in-Some c = (
  λ is. record { next = c.in-Some.field-0-0; fits = c.in-Some.ensures.0; rest = c.in-Some.rest.now; is = c.in-Some.ensures.1; whole = c.is_whole.ensures.0 is },
  λ share. c.is_whole.ensures.1 (subst IsWhole (sym (same_number c.in-Some.field-0-0 share.next c.in-Some.rest.now share.rest c.in-Some.ensures.0 share.fits (sym c.in-Some.ensures.1 ∙ share.is)).1) share.whole),
)
