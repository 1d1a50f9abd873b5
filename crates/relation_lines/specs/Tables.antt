-- The table of a row, computed: of all lists of weights the first one is taken whose sum an image is.
use Rattle.std.specs.Prelude.{ℕ, zero, suc, ◌==◌, ◌||◌, ◌&&◌, nat_lt, Bool, true, List, [], ◌∷◌, ◌++◌, if◌then◌else◌, slice_index}
use Rattle.std.specs.Option.{option_map, option_or}
use Rattle.std.specs.declared.option.Option.{Option}
use Rattle.std.specs.declared.option.Option.TheVariants.{None, Some}
use Rattle.row_relations.specs.Rows.{byte_of, weighed_byte}
use Rattle.row_relations.specs.Tables.{Table, is_independent, no_weights, standing_of}
use Rattle.row_relations.specs.declared.standing.Standing.{Standing}
use Rattle.row_relations.specs.declared.standing.Standing.TheVariants.{Zero, Independent, Dependent}
use Rattle.row_relations.specs.declared.standing.TheConstants.{MOST_IMAGES}

-- a test holds of all numbers below n
abbrev pub all_below : ℕ → (ℕ → Bool) → Bool
all_below zero test = true
all_below (suc n) test = all_below n test && test n

-- what the first byte below n gives that gives something
abbrev pub some_byte : ℕ → (ℕ → Option (List ℕ)) → Option (List ℕ)
some_byte zero give = None
some_byte (suc n) give = option_or (some_byte n give) (give n)

-- the first list of n bytes of which a test holds
unfoldable pub some_list : ℕ → (List ℕ → Bool) → Option (List ℕ)
some_list zero test = if test [] then Some [] else None
some_list (suc n) test = some_byte 256 (λ byte. option_map (λ bytes. byte ∷ bytes) (some_list n (λ bytes. test (byte ∷ bytes))))

-- the sector of image i is zeros
unfoldable pub is_zeros : List ℕ → ℕ → Bool
is_zeros sectors i = all_below 512 (λ c. byte_of sectors i c == 0)

-- these are weights of independent images before image i, and its sector is their sum
unfoldable pub is_sum : List ℕ → Table → ℕ → List ℕ → Bool
is_sum sectors table i weights =
    all_below MOST_IMAGES (λ j. (slice_index weights j == 0) || (nat_lt j i && is_independent (standing_of table j)))
    && all_below 512 (λ c. byte_of sectors i c == weighed_byte i weights sectors c)

-- how an image stands, and its weights
pub record Entry : Type 0 where
  pub standing : Standing
  pub weights : List ℕ

abbrev pub entry_by : Option (List ℕ) → Entry
entry_by None = record { standing = Independent; weights = no_weights }
entry_by (Some weights) = record { standing = Dependent; weights = weights }

abbrev pub entry_of : List ℕ → Table → ℕ → Entry
entry_of sectors table i = if is_zeros sectors i then record { standing = Zero; weights = no_weights } else entry_by (some_list MOST_IMAGES (is_sum sectors table i))

abbrev pub with_entry : Table → Entry → Table
with_entry table entry = record { standings = table.standings ++ entry.standing ∷ []; weights = table.weights ++ entry.weights ∷ [] }

-- the table of a row of so many images, whose sectors stand one after the other
unfoldable pub table_of : ℕ → List ℕ → Table
table_of zero sectors = record { standings = []; weights = [] }
table_of (suc n) sectors = with_entry (table_of n sectors) (entry_of sectors (table_of n sectors) n)
