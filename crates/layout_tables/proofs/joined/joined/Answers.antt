use Rattle.std.proofs.Common.{sym, arith}
use Rattle.std.proofs.lemmas.List.Elements.{All-nil}
use Rattle.layout_tables.proofs.Spelled.{none_then, was_full, was_pushed, had_room, before_none, next_is_word, last_is_word, one_more, whole_list}
use Rattle.layout_tables.proofs.joined.joined.Goals as goal

pub loop-word-init : goal.loop-word-init
loop-word-init g c = rw c.new-values.ensures (All-nil g.T.Piece.IsPiece, sym (before_none c.args.separator g.T.Piece.name c.args.text.now))

pub returns-in_err-read : goal.returns-in_err-read
returns-in_err-read g c =
    none_then _ _ c.from_residual.result c.from_residual.ensures
    (λ xs some few all e.
    let word = next_is_word c.args.separator g.T.Piece.name g.T.Piece.IsPiece c.requires c.loop-word.values.items xs c.args.text.now c.loop-word.rest.now c.in-Some.word.now c.in-Some.more.now c.loop-word.invariant c.in-Some.ensures some all e in
    c.in_err-read.ensures word.0 word.1 word.2)

pub returns-in_err-ok : goal.returns-in_err-ok
returns-in_err-ok g c =
    none_then _ _ c.from_residual-in_err-ok.result c.from_residual-in_err-ok.ensures
    (λ xs some few all e.
    let word = next_is_word c.args.separator g.T.Piece.name g.T.Piece.IsPiece c.requires c.loop-word.values.items xs c.args.text.now c.loop-word.rest.now c.in-Some.word.now c.in-Some.more.now c.loop-word.invariant c.in-Some.ensures some all e in
    let full = was_full _ c.try_push.result c.ok.result c.in_err-ok.was c.ok.ensures.value c.try_push.ensures.full in
    omega (arith, word.3, few, full))

pub loop-word-preserved : goal.loop-word-preserved
loop-word-preserved g c =
    let items = was_pushed _ c.try_push.result c.ok.result c.in_ok-ok.field-0 c.in_ok-ok.was c.ok.ensures.value c.try_push.ensures.ok in
    rw items (one_more c.args.separator g.T.Piece.name g.T.Piece.IsPiece c.loop-word.values.items c.in_ok-read.field-0 c.args.text.now c.loop-word.rest.now c.in-Some.word.now c.in-Some.more.now c.loop-word.invariant c.in-Some.ensures.1 c.in_ok-read.ensures)

pub returns-in_err-read-2 : goal.returns-in_err-read-2
returns-in_err-read-2 g c =
    none_then _ _ c.from_residual-in_err-read-2.result c.from_residual-in_err-read-2.ensures
    (λ xs some few all e.
    let word = last_is_word c.args.separator g.T.Piece.name g.T.Piece.IsPiece c.requires c.loop-word.values.items xs c.args.text.now c.loop-word.rest.now c.loop-word.invariant c.in_default.ensures some all e in
    c.in_err-read-2.ensures word.0 word.1 word.2)

pub returns-in_err-ok-2 : goal.returns-in_err-ok-2
returns-in_err-ok-2 g c =
    none_then _ _ c.from_residual-in_err-ok-2.result c.from_residual-in_err-ok-2.ensures
    (λ xs some few all e.
    let word = last_is_word c.args.separator g.T.Piece.name g.T.Piece.IsPiece c.requires c.loop-word.values.items xs c.args.text.now c.loop-word.rest.now c.loop-word.invariant c.in_default.ensures some all e in
    let full = was_full _ c.try_push-2.result c.ok-2.result c.in_err-ok-2.was c.ok-2.ensures.value c.try_push-2.ensures.full in
    omega (arith, word.3, few, full))

pub returns : goal.returns
returns g c =
    let read = whole_list c.args.separator g.T.Piece.name g.T.Piece.IsPiece c.loop-word.values.items c.in_ok-read-2.field-0 c.args.text.now c.loop-word.rest.now c.loop-word.invariant c.in_ok-read-2.ensures in
    let items = was_pushed _ c.try_push-2.result c.ok-2.result c.in_ok-ok-2.field-0 c.in_ok-ok-2.was c.ok-2.ensures.value c.try_push-2.ensures.ok in
    let more = was_pushed _ c.try_push-2.result c.ok-2.result c.in_ok-ok-2.field-0 c.in_ok-ok-2.was c.ok-2.ensures.value c.try_push-2.ensures.len in
    let room = had_room _ c.try_push-2.result c.ok-2.result c.in_ok-ok-2.field-0 c.in_ok-ok-2.was c.ok-2.ensures.value c.try_push-2.ensures.variant in
    (omega (arith, more), omega (arith, more, room), rw items read.0, rw items read.1)
