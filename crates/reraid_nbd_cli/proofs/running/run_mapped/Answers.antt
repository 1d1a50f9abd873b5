use Rattle.std.proofs.Common.{◌≡◌, ◌∙◌, ℕ, List, All, IsTrue, inr, length, ap, sym, subst, arith}
use Rattle.command_words.specs.Commands.{names_after}
use Rattle.outside.specs.Attached.{AreImagesOf}
use Rattle.run_ends.specs.Jobs.{named, stream}
use Rattle.reraid_nbd_cli.specs.Mapped.{RunsMapped}
use Rattle.reraid_nbd_cli.specs.Runs.{place}
use Rattle.reraid_nbd_cli.specs.Words.{without}
use Rattle.reraid_nbd_cli.proofs.Behind.{names_beside, place_inside}
use Rattle.reraid_nbd_cli.proofs.running.run_mapped.Goals as goal

pub words_without-requires : goal.words_without-requires
words_without-requires g c = place_inside c.args.words.now c.args.place c.requires.place

pub run_damaged-requires-clause-short : goal.run_damaged-requires-clause-short
run_damaged-requires-clause-short g c = let inside = place_inside c.args.words.now c.args.place c.requires.place in omega arith

pub run_damaged-requires-clause-named : goal.run_damaged-requires-clause-named
run_damaged-requires-clause-named g c =
    let is : c.deref.result.now ≡ without c.args.place c.args.words.now = c.deref.ensures.value ∙ c.in_ok-others.ensures in
    let names : names_after c.deref.result.now ≡ names_after c.args.words.now = ap names_after is ∙ names_beside c.args.words.now c.args.place c.requires.place in
    subst (λ (l : List (List ℕ)). All (λ name. IsTrue ((g.I.Images.seen c.args.images.now).world.may_attach name)) l) (sym names) c.requires.named

pub returns-clause-runs : goal.returns-clause-runs
returns-clause-runs g c =
    let words = c.args.words.now in
    let seen = g.I.Images.seen c.args.images.now in
    let new = g.I.Images.seen c.run_damaged.new.images in
    let source = stream (g.S.Source.left c.args.source.now) (g.S.Source.faults c.args.source.now) in
    let taken = stream (g.S.Source.left c.run_damaged.new.source) (g.S.Source.faults c.run_damaged.new.source) in
    let out = stream (g.K.Sink.gained c.args.out.now) (g.K.Sink.faults c.args.out.now) in
    let put = stream (g.K.Sink.gained c.run_damaged.new.out) (g.K.Sink.faults c.run_damaged.new.out) in
    let left = stream (g.M.Source.left c.args.maps.now) (g.M.Source.faults c.args.maps.now) in
    let gone = stream (g.M.Source.left c.run_damaged.new.maps) (g.M.Source.faults c.run_damaged.new.maps) in
    let is : c.deref.result.now ≡ without c.args.place words = c.deref.ensures.value ∙ c.in_ok-others.ensures in
    let names : names_after c.deref.result.now ≡ names_after words = ap names_after is ∙ names_beside words c.args.place c.requires.place in
    let count : length (names_after c.deref.result.now) ≡ length (names_after words) = ap (λ (l : List (List ℕ)). length l) names in
    let runs = c.run_damaged.ensures.runs in
    inr (runs.0, runs.1 words is, subst (λ (n : ℕ). RunsMapped runs.0 (named n new.attached) (place seen source out) (place new taken put) left gone c.run_damaged.result) count runs.2)

pub returns-clause-attached : goal.returns-clause-attached
returns-clause-attached g c =
    let is : c.deref.result.now ≡ without c.args.place c.args.words.now = c.deref.ensures.value ∙ c.in_ok-others.ensures in
    let names : names_after c.deref.result.now ≡ names_after c.args.words.now = ap names_after is ∙ names_beside c.args.words.now c.args.place c.requires.place in
    subst (λ (l : List (List ℕ)). AreImagesOf (g.I.Images.seen c.args.images.now).world l (g.I.Images.seen c.run_damaged.new.images).attached) names c.run_damaged.ensures.attached
