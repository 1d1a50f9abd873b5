use Rattle.std.proofs.Common.{◌≡◌, ◌∙◌, ℕ, None, Some, Option, length, refl, subst, sym}
use Rattle.command_words.specs.Commands.{names_after}
use Rattle.run_ends.specs.Jobs.{named, stream}
use Rattle.reraid_nbd_cli.specs.Mapped.{RunsBy}
use Rattle.reraid_nbd_cli.specs.Runs.{place}
use Rattle.reraid_nbd_cli.specs.Words.{alone_in, maps_at}
use Rattle.reraid_nbd_cli.specs.declared.telling.Alone.{Alone}
use Rattle.reraid_nbd_cli.proofs.running.run.Goals as goal

pub returns-in-Some-clause-runs : goal.returns-in-Some-clause-runs
returns-in-Some-clause-runs g c =
    let words = c.args.words.now in
    let seen = g.I.Images.seen c.args.images.now in
    let source = stream (g.S.Source.left c.args.source.now) (g.S.Source.faults c.args.source.now) in
    let maps = stream (g.M.Source.left c.args.maps.now) (g.M.Source.faults c.args.maps.now) in
    let out = stream (g.K.Sink.gained c.args.out.now) (g.K.Sink.faults c.args.out.now) in
    let put = stream (g.K.Sink.gained c.tell.new.out) (g.K.Sink.faults c.tell.new.out) in
    let is : Some c.in-Some.alone ≡ alone_in words = sym c.in-Some.is ∙ c.read_alone.ensures in
    let P : Option Alone → Type 0 = λ alone. RunsBy alone (maps_at words) words (named (length (names_after words)) seen.attached) (place seen source out) (place seen source put) maps maps c.tell.result in
    subst P is (record { puts = c.tell.ensures; source = refl; images = refl }, refl)

pub run_mapped-requires-clause-place : goal.run_mapped-requires-clause-place
run_mapped-requires-clause-place g c = sym c.maps_place.ensures ∙ c.in-Some-maps_place.is

pub returns-in-Some-maps_place-clause-runs : goal.returns-in-Some-maps_place-clause-runs
returns-in-Some-maps_place-clause-runs g c =
    let words = c.args.words.now in
    let old = g.I.Images.seen c.args.images.now in
    let ran = c.run_mapped in
    let new = g.I.Images.seen ran.new.images in
    let source = stream (g.S.Source.left c.args.source.now) (g.S.Source.faults c.args.source.now) in
    let taken = stream (g.S.Source.left ran.new.source) (g.S.Source.faults ran.new.source) in
    let maps = stream (g.M.Source.left c.args.maps.now) (g.M.Source.faults c.args.maps.now) in
    let gone = stream (g.M.Source.left ran.new.maps) (g.M.Source.faults ran.new.maps) in
    let out = stream (g.K.Sink.gained c.args.out.now) (g.K.Sink.faults c.args.out.now) in
    let put = stream (g.K.Sink.gained ran.new.out) (g.K.Sink.faults ran.new.out) in
    let none : None ≡ alone_in words = sym c.in-None.is ∙ c.read_alone.ensures in
    let some : Some c.in-Some-maps_place.place ≡ maps_at words = sym c.in-Some-maps_place.is ∙ c.maps_place.ensures in
    let P : Option Alone → Type 0 = λ alone. RunsBy alone (maps_at words) words (named (length (names_after words)) new.attached) (place old source out) (place new taken put) maps gone ran.result in
    let Q : Option ℕ → Type 0 = λ at. RunsBy None at words (named (length (names_after words)) new.attached) (place old source out) (place new taken put) maps gone ran.result in
    subst P none (subst Q some ran.ensures.runs)

pub returns-in-None-maps_place-clause-runs : goal.returns-in-None-maps_place-clause-runs
returns-in-None-maps_place-clause-runs g c =
    let words = c.args.words.now in
    let old = g.I.Images.seen c.args.images.now in
    let ran = c.run_volume in
    let new = g.I.Images.seen ran.new.images in
    let source = stream (g.S.Source.left c.args.source.now) (g.S.Source.faults c.args.source.now) in
    let taken = stream (g.S.Source.left ran.new.source) (g.S.Source.faults ran.new.source) in
    let maps = stream (g.M.Source.left c.args.maps.now) (g.M.Source.faults c.args.maps.now) in
    let out = stream (g.K.Sink.gained c.args.out.now) (g.K.Sink.faults c.args.out.now) in
    let put = stream (g.K.Sink.gained ran.new.out) (g.K.Sink.faults ran.new.out) in
    let none : None ≡ alone_in words = sym c.in-None.is ∙ c.read_alone.ensures in
    let some : None ≡ maps_at words = sym c.in-None-maps_place.is ∙ c.maps_place.ensures in
    let runs = ran.ensures.runs in
    let P : Option Alone → Type 0 = λ alone. RunsBy alone (maps_at words) words (named (length (names_after words)) new.attached) (place old source out) (place new taken put) maps maps ran.result in
    let Q : Option ℕ → Type 0 = λ at. RunsBy None at words (named (length (names_after words)) new.attached) (place old source out) (place new taken put) maps maps ran.result in
    subst P none (subst Q some (runs.0, runs.1, runs.2, refl))
