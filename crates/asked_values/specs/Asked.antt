-- What a search takes where the words name none.
use Rattle.std.specs.Prelude.{ℕ, nat_eq, max, if◌then◌else◌, List, [], ◌∷◌, length, unwrap_or}
use Rattle.std.specs.declared.option.Option.{Option}

-- the numbers of members to try: those that are asked for, or as many as there are images, and at least 2
abbrev pub members_for : List ℕ → ℕ → List ℕ
members_for asked images = if nat_eq (length asked) 0 then max images 2 ∷ [] else asked

-- the window: what is asked for, or else the end, and 1 where the end is 0
abbrev pub window_for : Option ℕ → ℕ → ℕ
window_for window end = unwrap_or window (max end 1)
