-- Where a file is read, by what its type says of places and bytes.
use Rattle.std.specs.Prelude.{ℕ, ◌≡◌, ◌/◌, List, IfSome, Some, length}
use Rattle.std.specs.declared.option.Option.{Option}
use Rattle.std.specs.Io.KnownBytes.{Keeps, Consumes}
use Rattle.image_source.specs.Files.{FileTold}

-- the bytes are those that lie from a place of the file on: moved there, it holds what it held, and gives them next
abbrev pub ReadsAt : {F : Type 0} → (F → Option ℕ) → (F → Option (List ℕ)) → (F → Option (List ℕ)) → F → F → ℕ → List ℕ → Type 0
ReadsAt {F} place held left old new at bytes =
    IfSome (place old) (λ _. (moved : F) × (place moved ≡ Some at) × Keeps (held old) (held moved) × Consumes (left moved) (left new) bytes)

-- the same, of a file of which std told the one before and tells the other now
abbrev pub GivesFrom : {F : Type 0} → (F → Option ℕ) → (F → Option (List ℕ)) → (F → Option (List ℕ)) → FileTold → FileTold → ℕ → List ℕ → Type 0
GivesFrom {F} place held left old new at bytes =
    IfSome old.place (λ _. (moved : F) × (place moved ≡ Some at) × Keeps old.held (held moved) × Consumes (left moved) new.left bytes)

-- so many whole sectors lie before the end of what it holds, where that is known
abbrev pub EndsAt : {F : Type 0} → (F → Option ℕ) → (F → Option (List ℕ)) → F → ℕ → Type 0
EndsAt place held file sectors = IfSome (place file) (λ _. IfSome (held file) (λ bytes. sectors ≡ length bytes / 512))
