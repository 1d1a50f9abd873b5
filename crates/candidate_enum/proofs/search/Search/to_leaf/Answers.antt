use Rattle.std.proofs.Common.{◌≡◌, ◌+◌, sym, ap, ◌∙◌, arith}
use Rattle.candidate_enum.specs.Survivors.{question}
use Rattle.candidate_enum.specs.Left.{left_from}
use Rattle.candidate_enum.specs.declared.walk.Walk.{Walk}
use Rattle.candidate_enum.proofs.Turns.{same_leaves, one_less}
use Rattle.candidate_enum.proofs.search.Search.to_leaf.Goals as goal

pub returns-then-take_turn-clause-going : goal.returns-then-take_turn-clause-going
returns-then-take_turn-clause-going g c = ap (λ (w : Walk). w.going) (c.take_turn.ensures.same c.if-take_turn.true) ∙ c.loop-walk-test.true

pub returns-then-take_turn-clause-leaves : goal.returns-then-take_turn-clause-leaves
returns-then-take_turn-clause-leaves g c =
    let q = question c.args.self.now.space (g.F.Family.admits c.args.self.now.family.now) c.args.self.now.from c.args.self.now.stop in
    c.loop-walk.invariant.same ∙ ap (λ (w : Walk). (left_from q w).leaves) (sym (c.take_turn.ensures.same c.if-take_turn.true))

pub loop-walk-preserved : goal.loop-walk-preserved
loop-walk-preserved g c =
    let q = question c.args.self.now.space (g.F.Family.admits c.args.self.now.family.now) c.args.self.now.from c.args.self.now.stop in
    let old = c.loop-walk.walk in
    let new = c.take_turn.new.walk in
    let turn = c.take_turn.ensures.passed c.if-take_turn.false in
    let going = c.loop-walk-test.true in
    record {
      same = c.loop-walk.invariant.same ∙ same_leaves q old (left_from q new) going turn;
      kept = c.take_turn.ensures.kept;
      stack = c.take_turn.ensures.stack;
      stands = c.take_turn.ensures.stands;
    }

pub loop-walk-smaller : goal.loop-walk-smaller
loop-walk-smaller g c =
    let q = question c.args.self.now.space (g.F.Family.admits c.args.self.now.family.now) c.args.self.now.from c.args.self.now.stop in
    let old = c.loop-walk.walk in
    let new = c.take_turn.new.walk in
    let turn = c.take_turn.ensures.passed c.if-take_turn.false in
    let going = c.loop-walk-test.true in
    let less : (left_from q old).allowance ≡ (left_from q new).allowance + 1 = one_less q old (left_from q new) going turn in
    omega arith
