use Rattle.search_terms.proofs.Pages.{joined_pages}
use Rattle.search_terms.proofs.joined_pages.Goals as goal

pub returns : goal.returns
returns c = joined_pages
