use Rattle.std.proofs.Common.{◌≡◌, ◌∙◌, ◌<◌, length, ap, sym, arith}
use Rattle.std.proofs.lemmas.Bool.Decides.{nat_tests}
use Rattle.std.specs.List.{insert}
use Rattle.landmark_rules.specs.declared.limits.TheConstants.{MOST_ORIGINS}
use Rattle.survey_engine.proofs.Numbers.{past_all, put_in, put_in_full}
use Rattle.survey_engine.proofs.hints.insert_at.Goals as goal

pub returns-then-not-is_full : goal.returns-then-not-is_full
returns-then-not-is_full c =
    let room : length c.args.origins.now.items < MOST_ORIGINS = grind (arith, nat_tests) in
    c.insert.ensures.items ∙ sym (put_in c.args.origins.now.items c.args.number c.args.place MOST_ORIGINS room)

pub returns-then-place-lt-MOST_ORIGINS : goal.returns-then-place-lt-MOST_ORIGINS
returns-then-place-lt-MOST_ORIGINS c =
    let full : length c.args.origins.now.items ≡ MOST_ORIGINS = grind (arith, nat_tests) in
    c.insert-then-place-lt-MOST_ORIGINS.ensures.items
    ∙ ap (λ l. insert l c.args.place c.args.number) c.truncate.ensures.items
    ∙ sym (put_in_full c.args.origins.now.items c.args.number c.args.place 63 MOST_ORIGINS full (omega arith) (omega arith))

pub returns-else-place-lt-MOST_ORIGINS : goal.returns-else-place-lt-MOST_ORIGINS
returns-else-place-lt-MOST_ORIGINS c =
    let full : length c.args.origins.now.items ≡ MOST_ORIGINS = grind (arith, nat_tests) in
    sym (past_all c.args.origins.now.items c.args.number c.args.place MOST_ORIGINS full (omega arith))
