use Rattle.std.proofs.Common.{ℕ, List, MatchResult, Ok, ◌≡◌, subst}
use Rattle.rescue_text.specs.RescueText.{rescue_sections}
use Rattle.salvage_job.specs.Salvaging.{IsUnreadable}
use Rattle.salvage_job.proofs.Readied.{unrescued, untold}
use Rattle.salvage_job.proofs.salvaging.rescue_left.Goals as goal

pub returns-in-Ok-clause-unread : goal.returns-in-Ok-clause-unread
returns-in-Ok-clause-unread g c =
    unrescued c.args.images (g.S.Source.left c.args.source.now) c.in-Ok.text.items c.rescue_in.result c.in-Ok.ensures.text c.in-Ok.ensures.short
    (subst (λ (xs : List ℕ). MatchResult c.rescue_in.result (λ rescue. rescue_sections c.args.images xs ≡ Ok rescue) (IsUnreadable c.args.images xs)) c.deref.ensures.value c.rescue_in.ensures)

pub returns-in-Err-clause-unread : goal.returns-in-Err-clause-unread
returns-in-Err-clause-unread g c = untold c.args.images (g.S.Source.left c.args.source.now) c.in-Err.stop c.in-Err.ensures.ends
