use Rattle.std.proofs.Common.{◌≡◌, ap, subst, sym, ◌∙◌}
use Rattle.std.proofs.lemmas.Result.{err_from_is_err_and}
use Rattle.search_plan.specs.Plans.{IsPlan}
use Rattle.plan_text.specs.PlanText.{plan_lines, some_delays}
use Rattle.plan_text.proofs.SearchLines.{delayed_in}
use Rattle.plan_text.proofs.PlanEnds.{end_refused, whole_text}
use Rattle.plan_text.proofs.PlanLines.{IsShortest, is_plan, lines_of_parts, plan_of, stands_images, stands_search, stands_groups, stands_version}
use Rattle.plan_text.proofs.RefusedLines.{fault_of}
use Rattle.plan_text.proofs.Refusals.{Went, went, went_on, nowhere, refused}
use Rattle.plan_text.proofs.plan.read_plan.Goals as goal

pub returns-in_err-version : goal.returns-in_err-version
returns-in_err-version c =
    let p = err_from_is_err_and c.from_residual.result c.from_residual.ensures.1 in
    let from = c.new-reader.result in
    rw (p.1, p.2) record {
      plan = tt;
      fault = fault_of c.args.text.now from c.in_err-version.field-0.0 c.new-reader.ensures.rest c.new-reader.ensures.taken (refused _ _ IsPlan plan_lines _ from from c.in_err-version.field-0.0 stands_version (nowhere _) c.in_err-version.ensures);
    }

pub returns-in_err-lengths : goal.returns-in_err-lengths
returns-in_err-lengths c =
    let p = err_from_is_err_and c.from_residual-in_err-lengths.result c.from_residual-in_err-lengths.ensures.1 in
    let from = c.new-reader.result in
    rw (p.1, p.2) record {
      plan = tt;
      fault = fault_of c.args.text.now from c.in_err-lengths.field-0.0 c.new-reader.ensures.rest c.new-reader.ensures.taken (refused _ _ IsPlan plan_lines _ from c.version.new.self c.in_err-lengths.field-0.0 (stands_images c.in_ok-version.version.each c.in_ok-version.version.third) (went c.in_ok-version.ensures) c.in_err-lengths.ensures);
    }

pub returns-in_err-search : goal.returns-in_err-search
returns-in_err-search c =
    let p = err_from_is_err_and c.from_residual-in_err-search.result c.from_residual-in_err-search.ensures.1 in
    let from = c.new-reader.result in
    let lengths = c.in_ok-lengths.lengths in
    let least : IsShortest lengths.items c.shortest.result = rw c.deref.ensures.0 at c.shortest.ensures in
    rw (p.1, p.2) record {
      plan = tt;
      fault = fault_of c.args.text.now from c.in_err-search.field-0.0 c.new-reader.ensures.rest c.new-reader.ensures.taken
          (refused _ _ IsPlan plan_lines _ from c.images.new.self c.in_err-search.field-0.0 (stands_search c.in_ok-version.version.each c.in_ok-version.version.third lengths c.shortest.result c.in_ok-lengths.ensures.is_value least) (went_on (went c.in_ok-version.ensures) (went c.in_ok-lengths.ensures)) c.in_err-search.ensures);
    }

pub groups-requires-clause-delayed : goal.groups-requires-clause-delayed
groups-requires-clause-delayed c =
    let delayed : c.some_delays-delayed.result ≡ delayed_in c.in_ok-search.search = c.some_delays-delayed.ensures ∙ ap some_delays c.deref-2.ensures.0 in
    λ e. delayed ∙ c.in_ok-search.ensures.is_value.once e

pub returns-in_err-groups : goal.returns-in_err-groups
returns-in_err-groups c =
    let p = err_from_is_err_and c.from_residual-in_err-groups.result c.from_residual-in_err-groups.ensures.1 in
    let from = c.new-reader.result in
    let lengths = c.in_ok-lengths.lengths in
    let least : IsShortest lengths.items c.shortest.result = rw c.deref.ensures.0 at c.shortest.ensures in
    let delayed : c.some_delays-delayed.result ≡ delayed_in c.in_ok-search.search = c.some_delays-delayed.ensures ∙ ap some_delays c.deref-2.ensures.0 in
    let refusal = rw (c.deref-3.ensures.0, delayed) at c.in_err-groups.ensures in
    rw (p.1, p.2) record {
      plan = tt;
      fault = fault_of c.args.text.now from c.in_err-groups.field-0.0 c.new-reader.ensures.rest c.new-reader.ensures.taken
          (refused _ _ IsPlan plan_lines _ from c.search.new.self c.in_err-groups.field-0.0 (stands_groups c.in_ok-version.version.each c.in_ok-version.version.third lengths c.shortest.result c.in_ok-search.search c.in_ok-lengths.ensures.is_value least c.in_ok-search.ensures.is_value)
          (went_on (went c.in_ok-version.ensures) (went_on (went c.in_ok-lengths.ensures) (went c.in_ok-search.ensures))) refusal);
    }

pub returns-in_err-end : goal.returns-in_err-end
returns-in_err-end c =
    let p = err_from_is_err_and c.from_residual-in_err-end.result c.from_residual-in_err-end.ensures.1 in
    let from = c.new-reader.result in
    let lengths = c.in_ok-lengths.lengths in
    let least : IsShortest lengths.items c.shortest.result = rw c.deref.ensures.0 at c.shortest.ensures in
    let delayed : c.some_delays-delayed.result ≡ delayed_in c.in_ok-search.search = c.some_delays-delayed.ensures ∙ ap some_delays c.deref-2.ensures.0 in
    let groups = rw (c.deref-3.ensures.0, delayed) at c.in_ok-groups.ensures in
    rw (p.1, p.2) record {
      plan = tt;
      fault = end_refused c.args.text.now from c.groups.new.self c.in_err-end.field-0.0 (plan_of c.in_ok-version.version.each lengths c.in_ok-search.search c.in_ok-groups.groups)
          (is_plan c.in_ok-version.version.each c.in_ok-version.version.third lengths c.shortest.result c.in_ok-search.search c.in_ok-groups.groups c.in_ok-lengths.ensures.is_value least c.in_ok-search.ensures.is_value groups.is_value.0) c.new-reader.ensures.rest c.new-reader.ensures.taken
          (subst (Went c.new-reader.result c.groups.new.self) (sym (lines_of_parts c.in_ok-version.version.each c.in_ok-version.version.third lengths c.in_ok-search.search c.in_ok-groups.groups groups.is_value.1))
          (went_on (went c.in_ok-version.ensures) (went_on (went c.in_ok-lengths.ensures) (went_on (went c.in_ok-search.ensures) (went c.in_ok-groups.ensures))))) c.in_err-end.ensures;
    }

pub returns : goal.returns
returns c =
    let lengths = c.in_ok-lengths.lengths in
    let least : IsShortest lengths.items c.shortest.result = rw c.deref.ensures.0 at c.shortest.ensures in
    let delayed : c.some_delays-delayed.result ≡ delayed_in c.in_ok-search.search = c.some_delays-delayed.ensures ∙ ap some_delays c.deref-2.ensures.0 in
    let groups = rw (c.deref-3.ensures.0, delayed) at c.in_ok-groups.ensures in
    record {
      plan = (
        is_plan c.in_ok-version.version.each c.in_ok-version.version.third lengths c.shortest.result c.in_ok-search.search c.in_ok-groups.groups c.in_ok-lengths.ensures.is_value least c.in_ok-search.ensures.is_value groups.is_value.0,
        whole_text c.args.text.now c.new-reader.result c.groups.new.self (plan_of c.in_ok-version.version.each lengths c.in_ok-search.search c.in_ok-groups.groups) c.new-reader.ensures.rest
            (subst (Went c.new-reader.result c.groups.new.self) (sym (lines_of_parts c.in_ok-version.version.each c.in_ok-version.version.third lengths c.in_ok-search.search c.in_ok-groups.groups groups.is_value.1))
            (went_on (went c.in_ok-version.ensures) (went_on (went c.in_ok-lengths.ensures) (went_on (went c.in_ok-search.ensures) (went c.in_ok-groups.ensures))))) c.in_ok-end.ensures,
      );
      fault = tt;
    }
