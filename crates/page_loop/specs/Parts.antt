-- What the parts of a search bring to a page.
use Rattle.std.specs.Prelude.{ℕ, ◌≡◌, ◌-◌, ◌<◌, ◌≤◌, ◌⊎◌, ◌++◌, Bool, true, false, IfSome, List, length}
use Rattle.std.specs.declared.option.Option.{Option}
use Rattle.search_terms.specs.Page.{passing}
use Rattle.page_loop.specs.declared.paging.NoPage.{NoPage}
use Rattle.page_loop.specs.declared.paging.NoPage.TheVariants.{Past, Walk}
use Rattle.page_loop.specs.declared.page_walk.Part.{Part}
use Rattle.page_loop.specs.declared.page_walk.Part.TheVariants.{Full, UpTo}

-- what a walk is over stayed: how many ranks there are, the most lines of a page, and what passes
pub record Same (old_total old_size : ℕ) (old_passes : Option (ℕ → Bool)) (new_total new_size : ℕ) (new_passes : Option (ℕ → Bool)) : Type 0 where
  pub total : new_total ≡ old_total
  pub size : new_size ≡ old_size
  pub passes : new_passes ≡ old_passes

-- the ranks that pass from one up to another were appended
abbrev pub Added : Option (ℕ → Bool) → ℕ → ℕ → List ℕ → List ℕ → Type 0
Added passes from to old new = IfSome passes (λ p. new ≡ old ++ passing p from to)

-- they were appended up to a rank, and with the last of them the page is full
pub record Fills (passes : Option (ℕ → Bool)) (size from stop : ℕ) (old new : List ℕ) (next : ℕ) : Type 0 where
  pub forward : from < next
  pub within : next ≤ stop
  pub added : Added passes from next old new
  pub last : IfSome passes (λ p. p (next - 1) ≡ true)
  pub many : length new ≡ size

-- a page is whole: it was full before this rank, or it is not, and all that passes before was appended
abbrev pub Whole : Option (ℕ → Bool) → ℕ → ℕ → List ℕ → List ℕ → ℕ → ℕ → Type 0
Whole passes size from old new stop next = ((next ≡ stop) × Added passes from stop old new × (length new < size)) ⊎ Fills passes size from stop old new next

-- a part brought a page to a later rank, and what was tested meanwhile was appended; or the page was full
abbrev pub Gains : Option (ℕ → Bool) → ℕ → ℕ → ℕ → List ℕ → List ℕ → ℕ → ℕ → Part → Type 0
Gains passes size tested now old new at stop (UpTo end) = (at ≤ end) × (end ≤ stop) × (tested ≤ now) × Added passes tested now old new
Gains passes size tested now old new at stop (Full next) = Fills passes size tested stop old new next

-- a page that is not full stands at the rank to which it was brought
abbrev pub Fits : (ℕ → Type 0) → Part → Type 0
Fits stands (UpTo end) = stands end
Fits stands (Full next) = Unit {0}

-- what was read up to the rank that was tested, or up to where a full page ends
abbrev pub Ends : ℕ → (ℕ → Bool → Type 0) → Part → Type 0
Ends tested reads (UpTo end) = reads tested false
Ends tested reads (Full next) = reads next true

-- why there is no page: the first rank is past the total, and nothing was touched; or the walk failed
abbrev pub EndsWalk : {F : Type 0} → ℕ → ℕ → Type 0 → (F → Type 0) → NoPage F → Type 0
EndsWalk total from untouched fails (Past most) = (total < from) × (most ≡ total) × untouched
EndsWalk total from untouched fails (Walk fault) = fails fault
