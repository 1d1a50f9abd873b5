use Rattle.std.proofs.Common.{◌≡◌, ◌-◌, ◌^◌, List, IfSome, sym, ap, ◌∙◌, subst}
use Rattle.outside.specs.Attached.{told_all}
use Rattle.outside.specs.Seen.{Image}
use Rattle.common_pages.specs.Pages.{IsPageOf}
use Rattle.sample_job.specs.Sampling.{many_refusal, sample_plan}
use Rattle.survey_engine.specs.declared.ask.Ask.{Ask}
use Rattle.survey_job.specs.Surveying.{survey_plan}
use Rattle.search_plan.specs.declared.plan.Plan.{Plan}
use Rattle.sample_job.proofs.Asked.{sample_common, surveyable}
use Rattle.sample_job.proofs.Sampled.{plan_is, refuses_plan, refuses_same, text_is}
use Rattle.sample_job.specs.Own.{seen_of_own}
use Rattle.sample_job.proofs.sampling.array_text.Goals as goal

pub plan_of-requires : goal.plan_of-requires
plan_of-requires g c =
    rw c.ask_for.ensures
    (surveyable c.args.number c.args.set.now c.args.rows c.args.xfs c.args.end (seen_of_own c.in_ok-images.images).attached c.requires.ruled c.requires.size c.in_ok-images.ensures.long c.requires.end c.in_ok-images.ensures.images)

pub returns-in-Ok-clause-text : goal.returns-in-Ok-clause-text
returns-in-Ok-clause-text g c =
    let made = subst (λ (ask : Ask). IfSome (told_all (seen_of_own c.in_ok-images.images).attached) (λ bytes. c.in_ok-plan.plan ≡ survey_plan ask (seen_of_own c.in_ok-images.images).attached bytes)) c.ask_for.ensures c.in_ok-plan.ensures.made in
    text_is c.args.number c.args.set.now c.args.rows c.args.xfs c.args.end (seen_of_own c.in_ok-images.images).attached c.in_ok-plan.plan c.in-Ok.page c.in_ok-lines-in-Ok.field-0
    c.in_ok-images.ensures.long c.in_ok-images.ensures.images c.requires.end
    (plan_is c.args.number c.args.set.now c.args.rows c.args.xfs c.args.end (seen_of_own c.in_ok-images.images).attached c.in_ok-plan.plan c.in_ok-images.ensures.long c.in_ok-images.ensures.images c.requires.end made)
    (subst (λ (images : List Image). IfSome (told_all images) (λ bytes. IsPageOf bytes c.in_ok-plan.plan 0 1000 (2 ^ 64 - 1) c.in-Ok.page)) c.in_ok-plan.ensures.kept c.in-Ok.ensures.page)
    c.in-Ok.ensures.total c.in_ok-lines-in-Ok.ensures

pub returns-in-Ok-clause-refuses : goal.returns-in-Ok-clause-refuses
returns-in-Ok-clause-refuses g c =
    let made = subst (λ (ask : Ask). IfSome (told_all (seen_of_own c.in_ok-images.images).attached) (λ bytes. c.in_ok-plan.plan ≡ survey_plan ask (seen_of_own c.in_ok-images.images).attached bytes)) c.ask_for.ensures c.in_ok-plan.ensures.made in
    record {
      ends = tt;
      passes = ap many_refusal (sym (plan_is c.args.number c.args.set.now c.args.rows c.args.xfs c.args.end (seen_of_own c.in_ok-images.images).attached c.in_ok-plan.plan c.in_ok-images.ensures.long c.in_ok-images.ensures.images c.requires.end made))
          ∙ c.in-Ok.ensures.refuses.passes;
    }

pub returns-clause-refuses : goal.returns-clause-refuses
returns-clause-refuses g c =
    let made = subst (λ (ask : Ask). IfSome (told_all (seen_of_own c.in_ok-images.images).attached) (λ bytes. c.in_ok-plan.plan ≡ survey_plan ask (seen_of_own c.in_ok-images.images).attached bytes)) c.ask_for.ensures c.in_ok-plan.ensures.made in
    refuses_plan c.in_ok-plan.plan (sample_plan c.args.number c.args.set.now c.args.rows c.args.xfs) _
    (plan_is c.args.number c.args.set.now c.args.rows c.args.xfs c.args.end (seen_of_own c.in_ok-images.images).attached c.in_ok-plan.plan c.in_ok-images.ensures.long c.in_ok-images.ensures.images c.requires.end made)
    (refuses_same (many_refusal c.in_ok-plan.plan) c.in-Err.stop c.in-Err.ensures.refuses)

pub first_page-requires-clause-common : goal.first_page-requires-clause-common
first_page-requires-clause-common g c κs within =
    let made = subst (λ (ask : Ask). IfSome (told_all (seen_of_own c.in_ok-images.images).attached) (λ bytes. c.in_ok-plan.plan ≡ survey_plan ask (seen_of_own c.in_ok-images.images).attached bytes)) c.ask_for.ensures c.in_ok-plan.ensures.made in
    ap (λ (p : Plan). p.each) (plan_is c.args.number c.args.set.now c.args.rows c.args.xfs c.args.end (seen_of_own c.in_ok-images.images).attached c.in_ok-plan.plan c.in_ok-images.ensures.long c.in_ok-images.ensures.images c.requires.end made)
    ∙ sample_common c.args.number c.args.set.now c.args.rows c.args.xfs
