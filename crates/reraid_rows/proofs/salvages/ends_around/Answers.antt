use Rattle.std.proofs.Common.{ℕ, ◌≡◌, List, All, IsTrue, rules, subst}
use Rattle.image_source.specs.Memory.{seen_of}
use Rattle.outside.specs.Seen.{Seen}
use Rattle.reraid_rows.proofs.Ready.{names_too}
use Rattle.reraid_rows.proofs.salvages.ends_around.Goals as goal

pub reraid-status-requires-clause-named : goal.reraid-status-requires-clause-named
reraid-status-requires-clause-named g c κs within =
    let ready = c.in_ok-images.ensures in
    let seen : seen_of c.in_ok-images.field-0.images ≡ seen_of c.new-images.result.images = search rules in
    let same : c.deref.result.now ≡ c.deref-3.result.now = search rules in
    names_too (λ name. IsTrue ((seen_of c.new-images.result.images).world.may_attach name)) _
    (subst (λ (s : Seen). All (λ word. IsTrue (s.world.may_attach word)) c.deref-3.result.now) seen
    (subst (λ (l : List (List ℕ)). All (λ word. IsTrue ((seen_of c.in_ok-images.field-0.images).world.may_attach word)) l) same ready.named))
