use Rattle.std.proofs.Common.{◌≡◌, sym, ap, ◌∙◌, subst, ℕ, List, Bool, Ok, Err, arith}
use Rattle.outside.specs.Streams.{Stream}
use Rattle.run_ends.specs.Jobs.{MayHavePut, MayHaveRead, stream}
use Rattle.run_ends.specs.Stops.{note_of, status_of}
use Rattle.run_ends.specs.declared.stop.Refusal.TheVariants.{Word}
use Rattle.run_ends.specs.declared.stop.Stop.TheVariants.{ImageFault, OutFault, Refused, SourceFault}
use Rattle.reraid_cli.specs.Answers.{IsNoted, named_by, refusal, status_by}
use Rattle.reraid_cli.specs.Table.{job_of}
use Rattle.reraid_cli.proofs.Runs.{early_first, has_reading, some_none, read_does, reading_does, takes_by, takes_ok}
use Rattle.reraid_cli.proofs.Statuses.{by_refusal, cut_by, eleven_is, fault_is, is_fault, noted, noted_by, noted_none, own_by, put_before, put_nothing, read_no_memory, read_nothing, status_some, ten_is, twelve_is}
use Rattle.reraid_cli.proofs.top.reraid.Goals as goal

pub returns-in-Ok-clause-exact : goal.returns-in-Ok-clause-exact
returns-in-Ok-clause-exact g c exact reading =
    let does = reading_does c.args.words.now (g.S.Source.left c.args.plan.now) c.in-Ok.ensures.does.0 c.in-Ok.ensures.does.1 c.in-Ok.ensures.does.2 reading in
    sym (ap status_by (does.ends reading.said reading.says).refuses.passes)

pub returns-in-Ok-clause-note : goal.returns-in-Ok-clause-note
returns-in-Ok-clause-note g c exact reading =
    let does = reading_does c.args.words.now (g.S.Source.left c.args.plan.now) c.in-Ok.ensures.does.0 c.in-Ok.ensures.does.1 c.in-Ok.ensures.does.2 reading in
    noted_none (refusal reading (g.I.Images.seen c.run.new.images).attached) (g.N.Sink.faults c.args.notes.now) (g.N.Sink.gained c.args.notes.now) (does.ends reading.said reading.says).refuses.passes

pub returns-in-Ok-clause-read : goal.returns-in-Ok-clause-read
returns-in-Ok-clause-read g c exact =
    let does = c.in-Ok.ensures.does in
    has_reading c.args.words.now does.0 _ (stream (g.S.Source.left c.args.plan.now) (g.S.Source.faults c.args.plan.now)) (stream (g.S.Source.left c.run.new.plan) (g.S.Source.faults c.run.new.plan)) (Ok tt) does.1 does.2.heeds tt

pub returns-in-Err-clause-read : goal.returns-in-Err-clause-read
returns-in-Err-clause-read g c exact =
    let does = c.in-Err.ensures.does in
    has_reading c.args.words.now does.0 _ (stream (g.S.Source.left c.args.plan.now) (g.S.Source.faults c.args.plan.now)) (stream (g.S.Source.left c.run.new.plan) (g.S.Source.faults c.run.new.plan)) (Err c.in-Err.stop) does.1 does.2.heeds
    (own_by c.in-Err.stop c.notice-notice.result.status c.notice-notice.ensures.status exact)

pub returns-in-Ok-clause-early_refusal : goal.returns-in-Ok-clause-early_refusal
returns-in-Ok-clause-early_refusal g c read refused reads early all =
    let does = c.in-Ok.ensures.does in
    let first = early_first c.args.words.now does.0 read (named_by c.args.words.now (g.I.Images.seen c.run.new.images).attached) (stream (g.S.Source.left c.args.plan.now) (g.S.Source.faults c.args.plan.now)) (stream (g.S.Source.left c.run.new.plan) (g.S.Source.faults c.run.new.plan)) (Ok tt) refused does.1 reads does.2.heeds all early in
    absurd (let none = first.0 in cc)

pub returns-in-Err-clause-early_refusal : goal.returns-in-Err-clause-early_refusal
returns-in-Err-clause-early_refusal g c read refused reads early all =
    let does = c.in-Err.ensures.does in
    let first = early_first c.args.words.now does.0 read (named_by c.args.words.now (g.I.Images.seen c.run.new.images).attached) (stream (g.S.Source.left c.args.plan.now) (g.S.Source.faults c.args.plan.now)) (stream (g.S.Source.left c.run.new.plan) (g.S.Source.faults c.run.new.plan)) (Err c.in-Err.stop) refused does.1 reads does.2.heeds all early in
    let e = first.0 in
    let same : c.in-Err.stop ≡ Refused refused = cc in
    (c.notice-notice.ensures.status ∙ ap status_of same, ap (λ (s : Stream). s.known) first.1, ap (λ (s : Stream). s.faults) first.1)

pub returns-in-Ok-clause-order : goal.returns-in-Ok-clause-order
returns-in-Ok-clause-order g c reading refused is all =
    let does = reading_does c.args.words.now (g.S.Source.left c.args.plan.now) c.in-Ok.ensures.does.0 c.in-Ok.ensures.does.1 c.in-Ok.ensures.does.2 reading in
    absurd (some_none refused (sym is ∙ (does.ends reading.said reading.says).refuses.passes))

pub returns-in-Ok-clause-words : goal.returns-in-Ok-clause-words
returns-in-Ok-clause-words g c number none = absurd (let e = c.in-Ok.ensures.words number none in cc)

pub returns-in-Ok-clause-apart : goal.returns-in-Ok-clause-apart
returns-in-Ok-clause-apart g c read reads apart = (read_does c.args.words.now c.in-Ok.ensures.does.0 read c.in-Ok.ensures.does.1 reads c.in-Ok.ensures.does.2).apart apart

pub returns-in-Ok-clause-takes : goal.returns-in-Ok-clause-takes
returns-in-Ok-clause-takes g c =
    (c.in-Ok.ensures.does.0, c.in-Ok.ensures.does.1, takes_ok (job_of c.in-Ok.ensures.does.0).most (stream (g.S.Source.left c.args.plan.now) (g.S.Source.faults c.args.plan.now)) (stream (g.S.Source.left c.run.new.plan) (g.S.Source.faults c.run.new.plan)) tt 0 c.in-Ok.ensures.does.2.takes)

pub returns-in-Ok-clause-printed : goal.returns-in-Ok-clause-printed
returns-in-Ok-clause-printed g c zero reading =
    let does = reading_does c.args.words.now (g.S.Source.left c.args.plan.now) c.in-Ok.ensures.does.0 c.in-Ok.ensures.does.1 c.in-Ok.ensures.does.2 reading in
    (does.ends reading.said reading.says).puts

pub returns-in-Ok-clause-all : goal.returns-in-Ok-clause-all
returns-in-Ok-clause-all g c command line other = c.in-Ok.ensures.all command line (λ is. absurd (cc))

pub returns-in-Ok-clause-reads : goal.returns-in-Ok-clause-reads
returns-in-Ok-clause-reads g c reading =
    let does = reading_does c.args.words.now (g.S.Source.left c.args.plan.now) c.in-Ok.ensures.does.0 c.in-Ok.ensures.does.1 c.in-Ok.ensures.does.2 reading in
    does.reads reading.said reading.says

pub returns-in-Ok-clause-world : goal.returns-in-Ok-clause-world
returns-in-Ok-clause-world g c = c.in-Ok.ensures.does.2.world

pub returns-in-Err-clause-line : goal.returns-in-Err-clause-line
returns-in-Err-clause-line g c some =
    let line : c.as_bytes.result.now ≡ note_of c.in-Err.stop = c.as_bytes.ensures.value ∙ (c.deref.ensures.0 ∙ c.notice-notice.ensures.line) in
    let P : List ℕ → Type 0 = λ xs. IsNoted (g.N.Sink.faults c.put.new.self) (g.N.Sink.gained c.args.notes.now) (g.N.Sink.gained c.put.new.self) xs in
    (c.in-Err.stop, sym c.notice-notice.ensures.status, subst P line (noted (g.N.Sink.gained c.args.notes.now) (g.N.Sink.gained c.put.new.self) (g.N.Sink.faults c.args.notes.now) (g.N.Sink.faults c.put.new.self) c.put.result c.as_bytes.result.now c.put.ensures.bytes c.put.ensures.cause c.requires.notes))

pub returns-in-Err-clause-silent : goal.returns-in-Err-clause-silent
returns-in-Err-clause-silent g c zero = absurd (status_some c.in-Err.stop (sym c.notice-notice.ensures.status ∙ zero))

pub returns-in-Err-clause-exact : goal.returns-in-Err-clause-exact
returns-in-Err-clause-exact g c exact reading =
    let does = reading_does c.args.words.now (g.S.Source.left c.args.plan.now) c.in-Err.ensures.does.0 c.in-Err.ensures.does.1 c.in-Err.ensures.does.2 reading in
    by_refusal (refusal reading (g.I.Images.seen c.run.new.images).attached) c.in-Err.stop c.notice-notice.result.status c.notice-notice.ensures.status exact (does.ends reading.said reading.says).refuses.ends

pub returns-in-Err-clause-note : goal.returns-in-Err-clause-note
returns-in-Err-clause-note g c exact reading =
    let does = reading_does c.args.words.now (g.S.Source.left c.args.plan.now) c.in-Err.ensures.does.0 c.in-Err.ensures.does.1 c.in-Err.ensures.does.2 reading in
    let line : c.as_bytes.result.now ≡ note_of c.in-Err.stop = c.as_bytes.ensures.value ∙ (c.deref.ensures.0 ∙ c.notice-notice.ensures.line) in
    let P : List ℕ → Type 0 = λ xs. IsNoted (g.N.Sink.faults c.put.new.self) (g.N.Sink.gained c.args.notes.now) (g.N.Sink.gained c.put.new.self) xs in
    noted_by (refusal reading (g.I.Images.seen c.run.new.images).attached) (g.N.Sink.faults c.put.new.self) (g.N.Sink.gained c.args.notes.now) (g.N.Sink.gained c.put.new.self) c.in-Err.stop c.notice-notice.result.status c.notice-notice.ensures.status exact
    (does.ends reading.said reading.says).refuses.ends
    (subst P line (noted (g.N.Sink.gained c.args.notes.now) (g.N.Sink.gained c.put.new.self) (g.N.Sink.faults c.args.notes.now) (g.N.Sink.faults c.put.new.self) c.put.result c.as_bytes.result.now c.put.ensures.bytes c.put.ensures.cause c.requires.notes))

pub returns-in-Err-clause-order : goal.returns-in-Err-clause-order
returns-in-Err-clause-order g c reading refused is all =
    let does = reading_does c.args.words.now (g.S.Source.left c.args.plan.now) c.in-Err.ensures.does.0 c.in-Err.ensures.does.1 c.in-Err.ensures.does.2 reading in
    let first = does.order reading.said reading.says all refused is in
    record {
      unread = first.unread;
      unput = first.unput;
      no_image_fault = λ ten. first.no_image_fault (is_fault c.in-Err.stop ImageFault (ten_is c.in-Err.stop c.notice-notice.result.status c.notice-notice.ensures.status ten));
      no_out_fault = λ twelve. first.no_out_fault (is_fault c.in-Err.stop OutFault (twelve_is c.in-Err.stop c.notice-notice.result.status c.notice-notice.ensures.status twelve));
    }

pub returns-in-Err-clause-words : goal.returns-in-Err-clause-words
returns-in-Err-clause-words g c number none =
    let e = c.in-Err.ensures.words number none in
    let stop : c.in-Err.stop ≡ Refused (Word number) = cc in
    c.notice-notice.ensures.status ∙ ap status_of stop

pub returns-in-Err-clause-apart : goal.returns-in-Err-clause-apart
returns-in-Err-clause-apart g c read reads apart = (read_does c.args.words.now c.in-Err.ensures.does.0 read c.in-Err.ensures.does.1 reads c.in-Err.ensures.does.2).apart apart

pub returns-in-Err-clause-takes : goal.returns-in-Err-clause-takes
returns-in-Err-clause-takes g c = (
  c.in-Err.ensures.does.0,
  c.in-Err.ensures.does.1,
  takes_by (job_of c.in-Err.ensures.does.0).most (stream (g.S.Source.left c.args.plan.now) (g.S.Source.faults c.args.plan.now)) (stream (g.S.Source.left c.run.new.plan) (g.S.Source.faults c.run.new.plan)) c.in-Err.stop c.notice-notice.result.status c.in-Err.ensures.does.2.takes (λ zero. status_some c.in-Err.stop (sym c.notice-notice.ensures.status ∙ zero)),
)

pub returns-in-Err-clause-printed : goal.returns-in-Err-clause-printed
returns-in-Err-clause-printed g c zero reading = absurd (status_some c.in-Err.stop (sym c.notice-notice.ensures.status ∙ zero))

pub returns-in-Ok-clause-image_fault : goal.returns-in-Ok-clause-image_fault
returns-in-Ok-clause-image_fault g c = (
  λ ten. absurd (omega arith),
  λ other. let same = c.in-Ok.ensures.does.2.leaves.images.stays (λ e. absurd (cc)) in omega arith,
)

pub returns-in-Err-clause-image_fault : goal.returns-in-Err-clause-image_fault
returns-in-Err-clause-image_fault g c =
    let counts = c.in-Err.ensures.does.2.leaves.images in (
      λ ten. let rose = counts.rose (is_fault c.in-Err.stop ImageFault (ten_is c.in-Err.stop c.notice-notice.result.status c.notice-notice.ensures.status ten)) in omega arith,
      λ other. let same = counts.stays (λ e. other (c.notice-notice.ensures.status ∙ ap status_of (fault_is c.in-Err.stop ImageFault e))) in omega arith,
    )

pub returns-in-Ok-clause-plan_fault : goal.returns-in-Ok-clause-plan_fault
returns-in-Ok-clause-plan_fault g c = (
  λ eleven. absurd (omega arith),
  λ other. let same = c.in-Ok.ensures.does.2.leaves.source.stays (λ e. absurd (cc)) in omega arith,
)

pub returns-in-Err-clause-plan_fault : goal.returns-in-Err-clause-plan_fault
returns-in-Err-clause-plan_fault g c =
    let counts = c.in-Err.ensures.does.2.leaves.source in (
      λ eleven. let rose = counts.rose (is_fault c.in-Err.stop SourceFault (eleven_is c.in-Err.stop c.notice-notice.result.status c.notice-notice.ensures.status eleven)) in omega arith,
      λ other. let same = counts.stays (λ e. other (c.notice-notice.ensures.status ∙ ap status_of (fault_is c.in-Err.stop SourceFault e))) in omega arith,
    )

pub returns-in-Ok-clause-out_fault : goal.returns-in-Ok-clause-out_fault
returns-in-Ok-clause-out_fault g c = (
  λ twelve. absurd (omega arith),
  λ other. let same = c.in-Ok.ensures.does.2.leaves.out.stays (λ e. absurd (cc)) in omega arith,
)

pub returns-in-Err-clause-out_fault : goal.returns-in-Err-clause-out_fault
returns-in-Err-clause-out_fault g c =
    let counts = c.in-Err.ensures.does.2.leaves.out in (
      λ twelve. let rose = counts.rose (is_fault c.in-Err.stop OutFault (twelve_is c.in-Err.stop c.notice-notice.result.status c.notice-notice.ensures.status twelve)) in omega arith,
      λ other. let same = counts.stays (λ e. other (c.notice-notice.ensures.status ∙ ap status_of (fault_is c.in-Err.stop OutFault e))) in omega arith,
    )

pub returns-in-Err-clause-front : goal.returns-in-Err-clause-front
returns-in-Err-clause-front g c some reading =
    let does = reading_does c.args.words.now (g.S.Source.left c.args.plan.now) c.in-Err.ensures.does.0 c.in-Err.ensures.does.1 c.in-Err.ensures.does.2 reading in
    (does.ends reading.said reading.says).front

pub returns-in-Err-clause-nothing : goal.returns-in-Err-clause-nothing
returns-in-Err-clause-nothing g c zero ten twelve =
    let does = c.in-Err.ensures.does in
    does.2.leaves.unput (put_nothing (job_of does.0).streams c.in-Err.stop c.notice-notice.result.status c.notice-notice.ensures.status ten twelve)

pub returns-in-Err-clause-whole : goal.returns-in-Err-clause-whole
returns-in-Err-clause-whole g c ten reading =
    let does = reading_does c.args.words.now (g.S.Source.left c.args.plan.now) c.in-Err.ensures.does.0 c.in-Err.ensures.does.1 c.in-Err.ensures.does.2 reading in
    (does.ends reading.said reading.says).whole (is_fault c.in-Err.stop ImageFault (ten_is c.in-Err.stop c.notice-notice.result.status c.notice-notice.ensures.status ten))

pub returns-in-Err-clause-unput : goal.returns-in-Err-clause-unput
returns-in-Err-clause-unput g c ten read reads still =
    let does = read_does c.args.words.now c.in-Err.ensures.does.0 read c.in-Err.ensures.does.1 reads c.in-Err.ensures.does.2 in
    does.leaves.unput (λ put. put_before c.in-Err.stop c.notice-notice.result.status c.notice-notice.ensures.status ten (subst (λ (b : Bool). MayHavePut b c.in-Err.stop) still put))

pub returns-in-Err-clause-all : goal.returns-in-Err-clause-all
returns-in-Err-clause-all g c command line other =
    c.in-Err.ensures.all command line (λ is. other (let stop : c.in-Err.stop ≡ ImageFault = cc in c.notice-notice.ensures.status ∙ ap status_of stop))

pub returns-in-Err-clause-world : goal.returns-in-Err-clause-world
returns-in-Err-clause-world g c = c.in-Err.ensures.does.2.world

pub returns-in-Err-clause-unread : goal.returns-in-Err-clause-unread
returns-in-Err-clause-unread g c zero ten twelve twenty =
    let does = c.in-Err.ensures.does in
    does.2.leaves.unread (read_nothing (job_of does.0).streams c.in-Err.stop c.notice-notice.result.status c.notice-notice.ensures.status ten twelve twenty)

pub returns-in-Err-clause-early : goal.returns-in-Err-clause-early
returns-in-Err-clause-early g c twenty read reads puts =
    let does = read_does c.args.words.now c.in-Err.ensures.does.0 read c.in-Err.ensures.does.1 reads c.in-Err.ensures.does.2 in
    does.leaves.unread (λ was. read_no_memory c.in-Err.stop c.notice-notice.result.status c.notice-notice.ensures.status twenty (subst (λ (b : Bool). MayHaveRead b c.in-Err.stop) puts was))

pub returns-in-Err-clause-reads : goal.returns-in-Err-clause-reads
returns-in-Err-clause-reads g c reading =
    let does = reading_does c.args.words.now (g.S.Source.left c.args.plan.now) c.in-Err.ensures.does.0 c.in-Err.ensures.does.1 c.in-Err.ensures.does.2 reading in
    let new = g.I.Images.seen c.run.new.images in
    subst (λ (cut : Bool). (job_of reading.command).MayRead reading.said (named_by c.args.words.now new.attached) cut (g.I.Images.seen c.args.images.now).sectors_read new.sectors_read)
    (cut_by c.in-Err.stop c.notice-notice.result.status c.notice-notice.ensures.status) (does.reads reading.said reading.says)
