-- What is read for pages is what `list` reads.
use Rattle.std.proofs.Common.{ℕ, zero, suc, List, [], ◌∷◌, Option, Bool, false, arith, inl, inr}
use Rattle.search_plan.specs.declared.plan.Plan.{Plan}
use Rattle.common_pages.specs.Pages.{ArePageEnds, IsPageEnd}
use Rattle.plan_jobs.specs.Listing.{ListReads}
use Rattle.plan_jobs.specs.declared.listing.Listing.{Listing}

-- nothing is read for no page
pub none_read : (told : Option (List (List ℕ))) (asked : Listing) (plan : Plan) (cut : Bool) (read : ℕ) → ListReads told asked plan cut read read
unfolding ArePageEnds
none_read told asked plan cut read = record { ends = []; are = tt; few = omega arith }

-- where pages end that were all made, they end too where the work was cut short after them
end_made : (told : Option (List (List ℕ))) (plan : Plan) (size span : ℕ) (cut : Bool) (from end : ℕ) (later : List ℕ) → IsPageEnd told plan size span false from end later → IsPageEnd told plan size span cut from end later
end_made told plan size span cut from end later (inl last) = absurd (let e = last.0 in cc)
end_made told plan size span cut from end later (inr made) = inr made

pub ends_made : (told : Option (List (List ℕ))) (plan : Plan) (size span : ℕ) (cut : Bool) (count from : ℕ) (ends : List ℕ) → ArePageEnds told plan size span false count from ends → ArePageEnds told plan size span cut count from ends
unfolding ArePageEnds
ends_made told plan size span cut count from [] are = tt
ends_made told plan size span cut zero from (end ∷ later) are = absurd are
ends_made told plan size span cut (suc count) from (end ∷ later) are = (end_made told plan size span cut from end later are.0, ends_made told plan size span cut count end later are.1)
