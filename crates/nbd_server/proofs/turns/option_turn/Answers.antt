use Rattle.std.proofs.Common.{◌≡◌, ℕ, ◌++◌, ◌∙◌, length, refl, sym, ap, arith, if◌then◌else◌, ◌==◌}
use Rattle.std.proofs.lemmas.Result.{err_from_is_err_and}
use Rattle.std.specs.Io.KnownBytes.{Appends}
use Rattle.outside.specs.Streams.{AppendsFront}
use Rattle.nbd_text.specs.Fields.{u32_at, u64_at}
use Rattle.nbd_text.specs.declared.numbers.TheConstants.{IHAVEOPT, OPTION_HEAD, OPT_EXPORT_NAME}
use Rattle.nbd_server.specs.Turns.{wire}
use Rattle.nbd_server.proofs.Pieces.{consumes_more}
use Rattle.nbd_server.proofs.Messages.{cut_option, whole_option, wrong_option}
use Rattle.nbd_server.proofs.turns.option_turn.Goals as goal

pub returns-then-head-ne-IHAVEOPT-clause-turns : goal.returns-then-head-ne-IHAVEOPT-clause-turns
returns-then-head-ne-IHAVEOPT-clause-turns g c = λ content device size.
    let before = rw c.if-not-branch.false at c.in_ok-take_head.ensures.takes in
    let whole : length c.take_head.new.head ≡ OPTION_HEAD = omega (arith, c.take_head.auto.head) in
    wrong_option g.D.BlockDevice.reads content c.args.plain (g.S.Source.left c.args.source.now) (g.S.Source.left c.take_head.new.source) (g.K.Sink.gained c.args.out.now) device c.take_head.new.head whole before
    (λ e. c.if-head-ne-IHAVEOPT.true (ap (λ h. h.magic) c.read-head.ensures ∙ e))

pub returns-in_err-answer-clause-turns : goal.returns-in_err-answer-clause-turns
returns-in_err-answer-clause-turns g c = λ content device size.
    let before = rw c.if-not-branch.false at c.in_ok-take_head.ensures.takes in
    let whole : length c.take_head.new.head ≡ OPTION_HEAD = omega (arith, c.take_head.auto.head) in
    let right : u64_at 0 c.take_head.new.head ≡ IHAVEOPT = sym (ap (λ h. h.magic) c.read-head.ensures) ∙ c.if-head-ne-IHAVEOPT.false in
    let asked : ℕ = if c.read-head.result.option == OPT_EXPORT_NAME then 0 else c.read-head.result.length in
    let is : asked ≡ (if u32_at 8 c.take_head.new.head == OPT_EXPORT_NAME then 0 else u32_at 12 c.take_head.new.head) = rw c.read-head.ensures refl in
    let p = err_from_is_err_and c.from_residual-in_err-answer.result c.from_residual-in_err-answer.ensures.1 in
    rw (p.1, p.2) (cut_option g.D.BlockDevice.reads content c.args.plain (g.S.Source.left c.args.source.now) (g.S.Source.left c.take_head.new.source) (g.S.Source.left c.take_option.new.source) (g.K.Sink.gained c.args.out.now) device c.take_head.new.head asked c.in_err-answer.field-0.0 whole right is before c.in_err-answer.ensures.takes)

pub returns-in_err-put-clause-turns : goal.returns-in_err-put-clause-turns
returns-in_err-put-clause-turns g c = λ content device size.
    let before = rw c.if-not-branch.false at c.in_ok-take_head.ensures.takes in
    let whole : length c.take_head.new.head ≡ OPTION_HEAD = omega (arith, c.take_head.auto.head) in
    let right : u64_at 0 c.take_head.new.head ≡ IHAVEOPT = sym (ap (λ h. h.magic) c.read-head.ensures) ∙ c.if-head-ne-IHAVEOPT.false in
    let takes = rw (c.read-head.ensures, ← size) at c.in_ok-answer.ensures.takes in
    let p = err_from_is_err_and c.from_residual-in_err-put.result c.from_residual-in_err-put.ensures.1 in
    let head = c.take_head.new.head in
    let puts = rw c.deref.ensures.0 at c.in_err-put.ensures.puts in
    rw (p.1, p.2, c.in_err-put.ensures.only) (
      head ++ takes.0,
      consumes_more (g.S.Source.left c.args.source.now) (g.S.Source.left c.take_head.new.source) (g.S.Source.left c.take_option.new.source) head takes.0 before takes.1,
      whole_option g.D.BlockDevice.reads content c.args.plain (wire (g.S.Source.left c.args.source.now) (g.K.Sink.gained c.args.out.now) device) (wire (g.S.Source.left c.take_option.new.source) (g.K.Sink.gained c.put.new.out) device)
          head takes.0 c.in_ok-answer.answer.reply.items c.in_ok-answer.answer.phase (λ turn. AppendsFront (g.K.Sink.gained c.args.out.now) (g.K.Sink.gained c.put.new.out) turn.reply)
          whole right refl takes.2 takes.3 puts,
    )

pub returns-clause-turns : goal.returns-clause-turns
returns-clause-turns g c = λ content device size.
    let before = rw c.if-not-branch.false at c.in_ok-take_head.ensures.takes in
    let whole : length c.take_head.new.head ≡ OPTION_HEAD = omega (arith, c.take_head.auto.head) in
    let right : u64_at 0 c.take_head.new.head ≡ IHAVEOPT = sym (ap (λ h. h.magic) c.read-head.ensures) ∙ c.if-head-ne-IHAVEOPT.false in
    let takes = rw (c.read-head.ensures, ← size) at c.in_ok-answer.ensures.takes in
    let head = c.take_head.new.head in (
      head ++ takes.0,
      consumes_more (g.S.Source.left c.args.source.now) (g.S.Source.left c.take_head.new.source) (g.S.Source.left c.take_option.new.source) head takes.0 before takes.1,
      whole_option g.D.BlockDevice.reads content c.args.plain (wire (g.S.Source.left c.args.source.now) (g.K.Sink.gained c.args.out.now) device) (wire (g.S.Source.left c.take_option.new.source) (g.K.Sink.gained c.put.new.out) device)
          head takes.0 c.in_ok-answer.answer.reply.items c.in_ok-answer.answer.phase (λ turn. (turn.phase ≡ c.in_ok-answer.answer.phase) × Appends (g.K.Sink.gained c.args.out.now) (g.K.Sink.gained c.put.new.out) turn.reply)
          whole right refl takes.2 takes.3 (refl, rw c.deref.ensures.0 at c.in_ok-put.ensures.puts),
    )
