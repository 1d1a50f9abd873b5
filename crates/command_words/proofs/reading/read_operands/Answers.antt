use Rattle.std.proofs.Common.{ℕ, ◌+◌, drop, arith, refl, ap, sym, ◌∙◌}
use Rattle.std.proofs.lemmas.List.{take_all}
use Rattle.command_words.specs.Steps.{can_go_on}
use Rattle.command_words.specs.Operands.{value_of}
use Rattle.command_words.proofs.LineStarts.{once_more}
use Rattle.command_words.proofs.OperandLoop.{count_read, is_dashes, next_word, no_dashes, none_given, read_more, room, value_given}
use Rattle.command_words.proofs.Refusals.{given_twice, stuck_with, no_dashes_come, no_operand, nothing, refused_after}
use Rattle.command_words.proofs.reading.read_operands.Goals as goal

pub loop-place-init : goal.loop-place-init
loop-place-init c = rw c.new-operands.ensures (refl, nothing c.args.verb, refl)

pub returns-then-eq : goal.returns-then-eq
returns-then-eq c =
    let at = next_word c.args.words.now c.loop-place.operands.items c.loop-place.place c.index-words-place.result c.loop-place-test.true c.index-words-place.is c.loop-place.invariant.0 in
    let dashes = is_dashes c.index-words-place.result c.as_str.result.now c.eq.result c.as_str.ensures c.eq.ensures c.if-eq.true in
    record {
      names = drop (c.loop-place.place + 1) c.args.words.now;
      at = rw dashes at at;
      are = c.loop-place.invariant.1;
      going = c.loop-place.invariant.2;
    }

pub returns-in_default : goal.returns-in_default
returns-in_default c =
    let at = next_word c.args.words.now c.loop-place.operands.items c.loop-place.place c.index-words-place.result c.loop-place-test.true c.index-words-place.is c.loop-place.invariant.0 in
    let count = count_read c.args.words.now c.loop-place.operands.items c.loop-place.place (omega (arith, c.loop-place-test.true)) c.loop-place.invariant.0 in
    refused_after c.args.verb c.args.words.now c.loop-place.operands.items c.index-words-place.result _ _ at (ap (λ (n : ℕ). n + 2) (sym count)) c.loop-place.invariant.1 c.loop-place.invariant.2
    (no_operand c.args.verb c.loop-place.operands.items c.index-words-place.result c.loop-place.invariant.1
    (no_dashes c.index-words-place.result c.as_str.result.now c.eq.result c.as_str.ensures c.eq.ensures c.if-eq.false)
    (λ o is e. c.in_default.ensures o is (c.as_bytes.ensures.value ∙ c.as_str-in-loop-place.ensures ∙ e)))

pub returns-then-is_some : goal.returns-then-is_some
returns-then-is_some c =
    let at = next_word c.args.words.now c.loop-place.operands.items c.loop-place.place c.index-words-place.result c.loop-place-test.true c.index-words-place.is c.loop-place.invariant.0 in
    let count = count_read c.args.words.now c.loop-place.operands.items c.loop-place.place (omega (arith, c.loop-place-test.true)) c.loop-place.invariant.0 in
    let given = value_given (λ v. v.now) c.find_value.result (value_of c.in-Some.operand.name c.deref.result.now) c.is_some.result c.find_value.ensures c.is_some.ensures c.if-is_some.true in
    refused_after c.args.verb c.args.words.now c.loop-place.operands.items c.index-words-place.result _ _ at (ap (λ (n : ℕ). n + 2) (sym count)) c.loop-place.invariant.1 c.loop-place.invariant.2
    (given_twice c.args.verb c.loop-place.operands.items c.index-words-place.result c.in-Some.operand given.0 c.loop-place.invariant.1 c.in-Some.ensures.0
    (sym c.as_str-in-loop-place.ensures ∙ sym c.as_bytes.ensures.value ∙ c.in-Some.ensures.1) (ap (value_of c.in-Some.operand.name) (sym c.deref.ensures.0) ∙ given.1))

pub push-requires : goal.push-requires
push-requires c =
    let fresh = none_given (λ v. v.now) c.find_value.result (value_of c.in-Some.operand.name c.deref.result.now) c.is_some.result c.find_value.ensures c.is_some.ensures c.if-is_some.false in
    let few = room c.args.verb c.loop-place.operands.items c.in-Some.operand c.loop-place.invariant.1 c.in-Some.ensures.0 (ap (value_of c.in-Some.operand.name) (sym c.deref.ensures.0) ∙ fresh) in
    (omega arith, omega (arith, few))

pub returns-then-not-can_go_on : goal.returns-then-not-can_go_on
returns-then-not-can_go_on c =
    let at = next_word c.args.words.now c.loop-place.operands.items c.loop-place.place c.index-words-place.result c.loop-place-test.true c.index-words-place.is c.loop-place.invariant.0 in
    let count = count_read c.args.words.now c.loop-place.operands.items c.loop-place.place (omega (arith, c.loop-place-test.true)) c.loop-place.invariant.0 in
    let fresh = none_given (λ v. v.now) c.find_value.result (value_of c.in-Some.operand.name c.deref.result.now) c.is_some.result c.find_value.ensures c.is_some.ensures c.if-is_some.false in
    let more = once_more c.args.verb c.loop-place.operands.items c.in-Some.operand c.loop-place.invariant.1 c.in-Some.ensures.0 (ap (value_of c.in-Some.operand.name) (sym c.deref.ensures.0) ∙ fresh) in
    refused_after c.args.verb c.args.words.now c.loop-place.operands.items c.index-words-place.result _ _ at (ap (λ (n : ℕ). n + 2) (sym count)) c.loop-place.invariant.1 c.loop-place.invariant.2
    (stuck_with c.args.verb c.loop-place.operands.items c.index-words-place.result c.in-Some.operand c.loop-place.invariant.1 more c.in-Some.ensures.0
    (sym c.as_str-in-loop-place.ensures ∙ sym c.as_bytes.ensures.value ∙ c.in-Some.ensures.1)
    (ap can_go_on (sym c.push.ensures.items ∙ sym c.deref-in-loop-place.ensures.0) ∙ sym c.can_go_on.ensures ∙ c.if-not-can_go_on.true))

pub loop-place-preserved : goal.loop-place-preserved
loop-place-preserved c =
    let fresh = none_given (λ v. v.now) c.find_value.result (value_of c.in-Some.operand.name c.deref.result.now) c.is_some.result c.find_value.ensures c.is_some.ensures c.if-is_some.false in
    let more = once_more c.args.verb c.loop-place.operands.items c.in-Some.operand c.loop-place.invariant.1 c.in-Some.ensures.0 (ap (value_of c.in-Some.operand.name) (sym c.deref.ensures.0) ∙ fresh) in
    let read = read_more c.args.words.now c.loop-place.operands.items c.loop-place.place c.index-words-place.result c.in-Some.operand c.loop-place-test.true c.index-words-place.is c.loop-place.invariant.0
    (sym c.as_str-in-loop-place.ensures ∙ sym c.as_bytes.ensures.value ∙ c.in-Some.ensures.1) in
    let short = ap can_go_on (sym c.push.ensures.items ∙ sym c.deref-in-loop-place.ensures.0) ∙ sym c.can_go_on.ensures ∙ c.if-not-can_go_on.false in
    rw c.push.ensures.items (read, more, short)

pub returns : goal.returns
returns c = no_dashes_come c.args.verb c.args.words.now c.loop-place.operands.items _ (sym (take_all c.loop-place.place c.args.words.now c.loop-place-test.false) ∙ c.loop-place.invariant.0) refl c.loop-place.invariant.1 c.loop-place.invariant.2
