use Rattle.std.proofs.Common.{◌≡◌, ◌<◌, ◌∷◌, [], List, ℕ, length, subst, arith, refl, length-append}
use Rattle.std.proofs.lemmas.Result.{err_from_is_err_and}
use Rattle.std.proofs.lemmas.List.Elements.{All-nil, All-push}
use Rattle.plan_text.specs.Parts.{AreImages, sectors_end}
use Rattle.plan_text.specs.PlanText.{image_lines}
use Rattle.plan_text.proofs.ImageLines.{Lengths, are_images, stands_count, stands_length, more_lengths, all_lengths}
use Rattle.plan_text.proofs.Versions.{some_sectors}
use Rattle.plan_text.proofs.Refusals.{Went, went, went_on, nowhere, is_read, refused}
use Rattle.plan_text.proofs.reader.PlanReader.images.Goals as goal

pub returns-in_err-count : goal.returns-in_err-count
returns-in_err-count c =
    let p = err_from_is_err_and c.from_residual.result c.from_residual.ensures.1 in
    rw (p.1, p.2) (refused _ _ (λ (w : Lengths). AreImages c.args.each w.items) (λ w. image_lines w.items) _ c.args.self.now c.args.self.now c.in_err-count.field-0.0 (stands_count c.args.each) (nowhere _) c.in_err-count.ensures)

pub loop-init : goal.loop-init
loop-init c = rw c.new-lengths.ensures record {
  many = refl;
  short = All-nil (λ n. n < sectors_end c.args.each);
  some = c.in_ok-count.ensures.is_value.0;
  most = c.in_ok-count.ensures.is_value.1;
  went = went c.in_ok-count.ensures;
}

pub returns-in_err-number : goal.returns-in_err-number
returns-in_err-number c =
    let p = err_from_is_err_and c.from_residual-in_err-number.result c.from_residual-in_err-number.ensures.1 in
    rw (p.1, p.2) (refused _ _ (λ (w : Lengths). AreImages c.args.each w.items) (λ w. image_lines w.items) _ c.args.self.now c.loop.self c.in_err-number.field-0.0
    (stands_length c.args.each c.in_ok-count.count c.loop.lengths.items c.loop.invariant.some c.loop.invariant.most (omega (arith, c.loop.invariant.many)) c.loop.invariant.short) c.loop.invariant.went (rw c.sectors_end.ensures at c.in_err-number.ensures))

pub loop-preserved : goal.loop-preserved
loop-preserved c =
    let items = c.push.ensures.items in
    let n = c.in_ok-number.field-0 in
    rw items record {
      many = omega (arith, length-append c.loop.lengths.items (n ∷ []), c.loop.invariant.many);
      short = All-push (λ n. n < sectors_end c.args.each) c.loop.lengths.items n c.loop.invariant.short (let high = some_sectors c.args.each in omega (arith, c.in_ok-number.ensures.is_value.1, c.sectors_end.ensures));
      some = c.loop.invariant.some;
      most = c.loop.invariant.most;
      went = subst (λ (ls : List (List ℕ)). Went c.args.self.now c.number-in-loop.new.self ls) (more_lengths c.in_ok-count.count c.loop.lengths.items n) (went_on c.loop.invariant.went (went c.in_ok-number.ensures));
    }

pub returns : goal.returns
returns c =
    let same : length c.loop.lengths.items ≡ c.in_ok-count.count = omega (arith, c.loop.invariant.many, c.loop.auto) in
    is_read (λ (w : Lengths). AreImages c.args.each w.items) (λ w. image_lines w.items) _ (are_images c.args.each c.loop.lengths.items c.in_ok-count.count same c.loop.invariant.some (omega (arith, c.loop.invariant.most)) c.loop.invariant.short)
    (subst (λ (ls : List (List ℕ)). Went c.args.self.now c.loop.self ls) (all_lengths c.loop.lengths.items c.in_ok-count.count same) c.loop.invariant.went)
