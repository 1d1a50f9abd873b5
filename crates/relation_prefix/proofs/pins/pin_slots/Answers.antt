use Rattle.std.proofs.Common.{ℕ, ◌+◌, ◌↔◌, sym, subst, arith}
use Rattle.relation_prefix.specs.declared.system.System.{System}
use Rattle.relation_prefix.specs.Systems.{AreValues, IsTriangular, Solves}
use Rattle.relation_prefix.specs.Ties.{HaveWeights}
use Rattle.relation_prefix.proofs.Pinned.{weights_less, weights_more, weights_more_empty}
use Rattle.relation_prefix.proofs.pins.pin_slots.Goals as goal
use Rattle.relation_prefix.proofs.pins.pin_slots.Goals.{in-Some+else-not-pin, in_default}

pub loop-slot-preserved : goal.loop-slot-preserved
loop-slot-preserved c =
    let was = c.loop-slot.invariant in
    let i = c.loop-slot.slot in
    let ties = c.args.ties.now in
    let weights = c.args.weights.now in
    let slots = c.args.slots.now in
    elim c.match-slots-slot.branch [
      | in-Some+else-not-pin w ↦ record {
        triangular = subst (λ (s : System). IsTriangular s.conditions) (sym w.system-is) w.pin.ensures.triangular;
        pinned = subst (λ (s : System). (x : ℕ → ℕ) → AreValues x → (Solves x s.conditions ↔ (Solves x c.args.system.now.conditions × HaveWeights ties x weights slots (i + 1)))) (sym w.system-is)
            (λ x hx.
            (let p = w.pin.ensures.pinned w.if-not-pin.false x hx in
            let q = was.pinned x hx in (
              λ h. (let a = p.0 h in let b = q.0 a.0 in (b.0, weights_more ties x weights slots i w.in-Some.image w.in-Some.is b.1 a.1)),
              λ b. p.1 (q.1 (b.0, weights_less ties x weights slots i (i + 1) (omega arith) b.1), b.1 i w.in-Some.image (omega arith) w.in-Some.is),
            )));
      }
      | in_default w ↦ record {
        triangular = subst (λ (s : System). IsTriangular s.conditions) (sym w.system-is) was.triangular;
        pinned = subst (λ (s : System). (x : ℕ → ℕ) → AreValues x → (Solves x s.conditions ↔ (Solves x c.args.system.now.conditions × HaveWeights ties x weights slots (i + 1)))) (sym w.system-is)
            (λ x hx.
            (let q = was.pinned x hx in (
              λ h. (let b = q.0 h in (b.0, weights_more_empty ties x weights slots i w.in_default.not-Some b.1)),
              λ b. q.1 (b.0, weights_less ties x weights slots i (i + 1) (omega arith) b.1),
            )));
      }
    ]
