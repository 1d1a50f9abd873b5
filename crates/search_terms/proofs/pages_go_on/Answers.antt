use Rattle.search_terms.proofs.Pages.{pages_go_on}
use Rattle.search_terms.proofs.pages_go_on.Goals as goal

pub returns : goal.returns
returns c = pages_go_on
