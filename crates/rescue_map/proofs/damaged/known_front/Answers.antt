use Rattle.std.proofs.Common.{ℕ, ◌≡◌, ◌+◌, ◌<◌, ◌≤◌, inl, inr, subst, sym, arith}
use Rattle.std.proofs.lemmas.Bool.{cases_order}
use Rattle.rescue_map.specs.Damaged.{known_slot}
use Rattle.rescue_map.proofs.damaged.known_front.Goals as goal

-- what holds before a place and at it holds up to past it
one_more : (P : ℕ → Type 0) (first n t : ℕ) → ((k : ℕ) → first ≤ k → k < first + n → P k) → P (first + n) → first ≤ t → t < first + (n + 1) → P t
one_more P first n t before at low high =
    elim (cases_order t (first + n)) [
      | inl is ↦ subst P (sym is) at
      | inr unlike ↦ elim unlike [ inl less ↦ before t low less | inr past ↦ absurd (omega arith) ]
    ]

pub loop-known-init : goal.loop-known-init
loop-known-init c =
    let known : ℕ → Type 0 = λ t. known_slot c.args.rescue.now c.args.set.now t c.args.held ≡ c.args.held in
    record {
      some = omega arith;
      less = c.requires.some;
      within = omega arith;
      front = λ t low high. subst known (omega arith) c.requires.first;
      past = λ all. let yes = c.are_known.ensures.1 all in let not = c.if-are_known.false in absurd (cc);
    }

pub loop-known-preserved-then-are_known-2 : goal.loop-known-preserved-then-are_known-2
loop-known-preserved-then-are_known-2 c =
    let held = c.loop-known.invariant in
    let test = c.loop-known-test.true in
    let less = held.less in
    let some = held.some in
    record {
      some = omega arith;
      less = omega arith;
      within = held.within;
      front = c.are_known-in-loop-known.ensures.0 c.if-are_known-2.true;
      past = held.past;
    }

pub loop-known-preserved : goal.loop-known-preserved
loop-known-preserved c =
    let held = c.loop-known.invariant in
    let test = c.loop-known-test.true in
    let less = held.less in
    let within = held.within in
    record {
      some = held.some;
      less = omega arith;
      within = omega arith;
      front = held.front;
      past = λ all. let yes = c.are_known-in-loop-known.ensures.1 all in let not = c.if-are_known-2.false in absurd (cc);
    }

pub returns-clause-longest : goal.returns-clause-longest
returns-clause-longest c = λ short at.
    let held = c.loop-known.invariant in
    let test = c.loop-known-test.false in
    let known : ℕ → Type 0 = λ t. known_slot c.args.rescue.now c.args.set.now t c.args.held ≡ c.args.held in
    held.past (λ t low high. one_more known c.args.first c.loop-known.known t held.front at low (omega arith))
