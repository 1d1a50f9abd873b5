use Rattle.std.proofs.Common.{◌≡◌, ◌+◌, ◌-◌, ◌++◌, ◌∷◌, [], length, length-append, append-nil, sym, ap, ◌∙◌, arith}
use Rattle.slot_math.specs.declared.space.Space.{Space}
use Rattle.candidate_enum.specs.Survivors.{question, survivors}
use Rattle.near_search.proofs.Leafwise.{below, given_more, holds_more, line_of, lines_more, next_leaf, page_full, page_short}
use Rattle.near_search.specs.Hopeful.{is_near_admitted}
use Rattle.near_search.proofs.gathering.gather_lists.Goals as goal

pub loop-leaf-init : goal.loop-leaf-init
loop-leaf-init c = record {
  goes = (tt, tt);
  given = [];
  whole = sym (c.start-walk.ensures.leaves ∙ ap (λ (space : Space). survivors (question space (is_near_admitted c.args.family.now) (c.args.from - c.args.sets.now.first) (c.args.to - c.args.sets.now.first))) c.requires.space);
  lines = sym (append-nil c.args.page.now);
  few = c.requires.few;
  holds = λ images ask head all. all;
}

pub overflow_add-rank : goal.overflow_add-rank
overflow_add-rank c =
    let leaf = next_leaf c.args.sets.now (is_near_admitted c.args.family.now) c.args.from c.args.to c.loop-leaf.invariant.given c.loop-leaf.walk.leaves c.next.new.self.leaves c.in-Some.leaf c.requires.part c.requires.count c.loop-leaf.invariant.whole c.in-Some.ensures.steps in
    let high = leaf.next.high in
    let most = c.requires.high in
    omega arith

pub overflow_add-result : goal.overflow_add-result
overflow_add-result c =
    let leaf = next_leaf c.args.sets.now (is_near_admitted c.args.family.now) c.args.from c.args.to c.loop-leaf.invariant.given c.loop-leaf.walk.leaves c.next.new.self.leaves c.in-Some.leaf c.requires.part c.requires.count c.loop-leaf.invariant.whole c.in-Some.ensures.steps in
    let high = leaf.next.high in
    let most = c.requires.high in
    omega arith

pub loop-leaf-preserved : goal.loop-leaf-preserved
loop-leaf-preserved c =
    let leaf = next_leaf c.args.sets.now (is_near_admitted c.args.family.now) c.args.from c.args.to c.loop-leaf.invariant.given c.loop-leaf.walk.leaves c.next.new.self.leaves c.in-Some.leaf c.requires.part c.requires.count c.loop-leaf.invariant.whole c.in-Some.ensures.steps in
    let pushed : c.push.new.self ≡ c.loop-leaf.page ++ line_of c.args.sets.now c.in-Some.leaf ∷ [] = c.in_ok-push.ensures.ok in
    let few = c.loop-leaf.invariant.few in
    let more : length c.push.new.self ≡ length c.loop-leaf.page + 1 = ap length pushed ∙ length-append c.loop-leaf.page (line_of c.args.sets.now c.in-Some.leaf ∷ []) in
    let not_full : length c.push.new.self ≡ c.args.size → ⊥ = λ e. c.if-as_slice-size.false (ap length c.as_slice.ensures ∙ e) in
    record {
      goes = (tt, tt);
      given = c.loop-leaf.invariant.given ++ c.in-Some.leaf ∷ [];
      whole = given_more c.loop-leaf.invariant.given c.loop-leaf.walk.leaves c.next.new.self.leaves c.in-Some.leaf _ c.loop-leaf.invariant.whole c.in-Some.ensures.steps;
      lines = lines_more c.args.sets.now c.args.page.now c.loop-leaf.page c.push.new.self c.loop-leaf.invariant.given c.in-Some.leaf c.loop-leaf.invariant.lines pushed;
      few = below (length c.push.new.self) (length c.loop-leaf.page) c.args.size few more not_full;
      holds = λ images ask head all. holds_more images ask c.args.sets.now c.loop-leaf.page c.push.new.self c.in-Some.leaf head leaf.list pushed (c.loop-leaf.invariant.holds images ask head all);
    }

pub returns-then-as_slice-size-clause-gathers : goal.returns-then-as_slice-size-clause-gathers
returns-then-as_slice-size-clause-gathers c =
    let leaf = next_leaf c.args.sets.now (is_near_admitted c.args.family.now) c.args.from c.args.to c.loop-leaf.invariant.given c.loop-leaf.walk.leaves c.next.new.self.leaves c.in-Some.leaf c.requires.part c.requires.count c.loop-leaf.invariant.whole c.in-Some.ensures.steps in
    let pushed : c.push.new.self ≡ c.loop-leaf.page ++ line_of c.args.sets.now c.in-Some.leaf ∷ [] = c.in_ok-push.ensures.ok in
    page_full c.args.sets.now (is_near_admitted c.args.family.now) c.args.from c.args.to c.args.size c.args.page.now c.push.new.self c.loop-leaf.invariant.given c.in-Some.leaf leaf
    (lines_more c.args.sets.now c.args.page.now c.loop-leaf.page c.push.new.self c.loop-leaf.invariant.given c.in-Some.leaf c.loop-leaf.invariant.lines pushed)
    (sym (ap length c.as_slice.ensures) ∙ c.if-as_slice-size.true)

pub returns-then-as_slice-size-clause-holds : goal.returns-then-as_slice-size-clause-holds
returns-then-as_slice-size-clause-holds c = λ images ask head all.
    let leaf = next_leaf c.args.sets.now (is_near_admitted c.args.family.now) c.args.from c.args.to c.loop-leaf.invariant.given c.loop-leaf.walk.leaves c.next.new.self.leaves c.in-Some.leaf c.requires.part c.requires.count c.loop-leaf.invariant.whole c.in-Some.ensures.steps in
    let pushed : c.push.new.self ≡ c.loop-leaf.page ++ line_of c.args.sets.now c.in-Some.leaf ∷ [] = c.in_ok-push.ensures.ok in
    holds_more images ask c.args.sets.now c.loop-leaf.page c.push.new.self c.in-Some.leaf head leaf.list pushed (c.loop-leaf.invariant.holds images ask head all)

pub returns-clause-gathers : goal.returns-clause-gathers
returns-clause-gathers c =
    page_short c.args.sets.now (is_near_admitted c.args.family.now) c.args.from c.args.to c.args.size c.args.page.now c.loop-leaf.page c.loop-leaf.invariant.given c.loop-leaf.walk.leaves c.requires.part c.requires.count
    c.loop-leaf.invariant.whole c.in_default.ensures.steps.0 c.loop-leaf.invariant.lines c.loop-leaf.invariant.few
