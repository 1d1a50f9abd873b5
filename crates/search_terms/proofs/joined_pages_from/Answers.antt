use Rattle.search_terms.proofs.Pages.{pages_from_any_rank}
use Rattle.search_terms.proofs.joined_pages_from.Goals as goal

pub returns : goal.returns
returns c = pages_from_any_rank
