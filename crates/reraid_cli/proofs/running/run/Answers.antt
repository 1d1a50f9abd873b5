use Rattle.std.proofs.Common.{◌≡◌, ℕ, ◌<◌, ◌^◌, ◌++◌, List, All, length, sym, ap, ◌∙◌, subst, refl, Err, Ok, Some, None, arith}
use Rattle.command_words.specs.Commands.{names_after}
use Rattle.outside.specs.Seen.{Image}
use Rattle.run_ends.proofs.Printed.{keeps_itself}
use Rattle.run_ends.proofs.Refusals.{does_refused}
use Rattle.run_ends.specs.Jobs.{Does, around, imageless, named, stream}
use Rattle.run_ends.specs.declared.stop.Refusal.TheVariants.{Word}
use Rattle.run_ends.specs.declared.stop.Stop.TheVariants.{Refused}
use Rattle.reraid_cli.specs.Answers.{named_by}
use Rattle.reraid_cli.specs.Table.{job_of}
use Rattle.reraid_cli.proofs.Runs.{apart_names, attached_before, images_small, one_reading, unattached}
use Rattle.reraid_cli.proofs.running.run.Goals as goal

pub serve-requires-clause-small : goal.serve-requires-clause-small
serve-requires-clause-small g c lifetimes outlive =
    let some = c.attach_front.ensures.some in
    let P : List Image → Type 0 = λ images. All (λ image. image.sectors < 2 ^ 55) images in
    subst P (sym (some.attached.2 ∙ ap (λ (images : List Image). images ++ some.attached.0) c.requires.fresh))
    (images_small (g.I.Images.seen c.args.images.now).world _ some.attached.0 some.attached.1)

pub returns-in-Err-clause-does : goal.returns-in-Err-clause-does
returns-in-Err-clause-does g c =
    let seen = g.I.Images.seen c.args.images.now in (
      Err c.in-Err.number,
      c.in-Err.ensures.reads,
      does_refused (imageless (Some (Word c.in-Err.number)) None) (named_by c.args.words.now seen.attached) (around seen (stream (g.S.Source.left c.args.plan.now) (g.S.Source.faults c.args.plan.now)))
          (stream (g.K.Sink.gained c.args.out.now) (g.K.Sink.faults c.args.out.now)) (Word c.in-Err.number) refl (λ said. refl) (λ said. omega arith),
    )

pub returns-in-Err-clause-words : goal.returns-in-Err-clause-words
returns-in-Err-clause-words g c number reads =
    let same = one_reading c.args.words.now (Err number) (Err c.in-Err.number) reads c.in-Err.ensures.reads in
    let n : c.in-Err.number ≡ number = cc in ap (λ (k : ℕ). Err (Refused (Word k))) n

pub returns-in-Err-clause-all : goal.returns-in-Err-clause-all
returns-in-Err-clause-all g c command line other = absurd (c.in-Err.ensures.reads.none command line)

pub returns-in-Ok-attach_front-clause-does : goal.returns-in-Ok-attach_front-clause-does
returns-in-Ok-attach_front-clause-does g c =
    let words = c.args.words.now in
    let seen = g.I.Images.seen c.args.images.now in
    let mid = g.I.Images.seen c.attach_front.new.images in
    let new = g.I.Images.seen c.serve.new.images in
    let source = stream (g.S.Source.left c.args.plan.now) (g.S.Source.faults c.args.plan.now) in
    let left = stream (g.S.Source.left c.serve.new.plan) (g.S.Source.faults c.serve.new.plan) in
    let out = stream (g.K.Sink.gained c.args.out.now) (g.K.Sink.faults c.args.out.now) in
    let put = stream (g.K.Sink.gained c.serve.new.out) (g.K.Sink.faults c.serve.new.out) in
    let job = job_of (Ok c.in-Ok.command) in
    let count : length c.names_of-names.result.now ≡ length (names_after words) = ap length c.names_of-names.ensures in
    let P : List Image → Type 0 = λ attached. Does job (named_by words attached) (around seen source) (around new left) out put c.serve.result in
    let Q : ℕ → Type 0 = λ names. Does job (named names mid.attached) (around mid source) (around new left) out put c.serve.result in (
      Ok c.in-Ok.command,
      c.in-Ok.ensures.reads,
      subst P (sym c.serve.ensures.kept)
          (attached_before job (named_by words mid.attached) seen (around mid source) (around new left) out put c.serve.result c.in-Ok-attach_front.ensures.cause.stays c.attach_front.ensures.some.unread c.attach_front.ensures.some.world
          (λ apart. c.attach_front.ensures.none (c.names_of-names.ensures ∙ apart_names words c.in-Ok.command c.in-Ok.ensures.names apart))
          (subst Q count c.serve.ensures.does)),
    )

pub returns-in-Err-attach_front-clause-does : goal.returns-in-Err-attach_front-clause-does
returns-in-Err-attach_front-clause-does g c =
    let words = c.args.words.now in
    let seen = g.I.Images.seen c.args.images.now in
    let new = g.I.Images.seen c.attach_front.new.images in
    let count : length c.names_of-names.result.now ≡ length (names_after words) = ap length c.names_of-names.ensures in
    let fewer = c.in-Err-attach_front.ensures.fewer in (
      Ok c.in-Ok.command,
      c.in-Ok.ensures.reads,
      unattached (Ok c.in-Ok.command) (named_by words new.attached) seen new (stream (g.S.Source.left c.args.plan.now) (g.S.Source.faults c.args.plan.now))
          (stream (g.K.Sink.gained c.args.out.now) (g.K.Sink.faults c.args.out.now)) (omega arith) (λ none. omega arith)
          (λ apart. ap (λ (names : List (List ℕ)). length names) (apart_names words c.in-Ok.command c.in-Ok.ensures.names apart))
          c.in-Err-attach_front.ensures.cause.failed c.attach_front.ensures.some.faults c.attach_front.ensures.some.unread c.attach_front.ensures.some.world,
    )

pub returns-in-Err-attach_front-clause-cut : goal.returns-in-Err-attach_front-clause-cut
returns-in-Err-attach_front-clause-cut g c fewer = (keeps_itself (g.K.Sink.gained c.args.out.now), c.attach_front.ensures.some.unread, refl, refl, refl)
