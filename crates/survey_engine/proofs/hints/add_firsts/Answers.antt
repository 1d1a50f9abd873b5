use Rattle.std.proofs.Common.{◌∙◌, ℕ, List, take, ap, sym, arith}
use Rattle.landmark_rules.specs.declared.limits.TheConstants.{MOST_ORIGINS}
use Rattle.survey_engine.specs.Kept.{with_number}
use Rattle.survey_engine.proofs.Firsts.{firsts_same, firsts_some, near_at}
use Rattle.survey_engine.proofs.Numbers.{origins_with}
use Rattle.survey_engine.proofs.hints.add_firsts.Goals as goal
use Rattle.survey_engine.proofs.hints.add_firsts.Goals.{in-Some, in_default}

pub loop-first-preserved : goal.loop-first-preserved
loop-first-preserved c =
    elim c.match-first.branch [
      | in-Some w ↦ record {
        items = rw w.origins-is (w.add_origin.ensures ∙ ap (λ (l : List ℕ). take MOST_ORIGINS (with_number l w.in-Some.first)) c.loop-first.invariant.items
            ∙ sym (firsts_some c.args.origins.now.items c.args.firsts.now c.loop-first.first-index w.in-Some.first (omega arith) w.in-Some.is));
        origins = rw w.origins-is (origins_with c.loop-first.origins.items w.add_origin.new.origins.items w.in-Some.first c.loop-first.invariant.origins
            (near_at c.args.firsts.now c.loop-first.first-index w.in-Some.first c.requires.near (omega arith) w.in-Some.is) w.add_origin.ensures);
      }
      | in_default w ↦ record {
        items = rw w.origins-is (c.loop-first.invariant.items ∙ sym (firsts_same c.args.origins.now.items c.args.firsts.now c.loop-first.first-index (omega arith) w.in_default.is));
        origins = rw w.origins-is c.loop-first.invariant.origins;
      }
    ]
