-- Whether the attached images are those that the plan or the command takes.
use Rattle.std.specs.Prelude.{ℕ, ◌-◌, ◌^◌, nat_eq, nat_le, nat_lt, not, if◌then◌else◌, min, List, [], ◌∷◌, length, fold, slice_index, unwrap_or}
use Rattle.std.specs.List.{find, range_with_len}
use Rattle.std.specs.Option.{option_map}
use Rattle.std.specs.declared.option.Option.{Option}
use Rattle.std.specs.declared.option.Option.TheVariants.{None, Some}
use Rattle.outside.specs.Seen.{Image, lengths_of}
use Rattle.raid_params.specs.declared.limits.TheConstants.{MOST}
use Rattle.run_ends.specs.declared.agreement.Disagreement.{Disagreement}
use Rattle.run_ends.specs.declared.agreement.Kind.TheVariants.{Count, Length, End, Long}

-- the number of images differs
abbrev pub count_fault : ℕ → ℕ → Disagreement
count_fault given planned = record { kind = Count; given = given; planned = planned }

-- the first image whose length differs from the planned one
abbrev pub other_length : List ℕ → List ℕ → Option ℕ
other_length given planned = find (λ i. not (nat_eq (slice_index given i) (slice_index planned i))) (range_with_len 0 (length planned))

abbrev pub length_fault : List ℕ → List ℕ → ℕ → Disagreement
length_fault given planned i = record { kind = Length i; given = slice_index given i; planned = slice_index planned i }

-- how the images of `names` names disagree with a plan of images of these lengths: by their number, or by the first
-- length that differs
abbrev pub plan_fault : List ℕ → ℕ → List Image → Option Disagreement
plan_fault lengths names attached =
    if not (nat_eq names (length lengths)) then Some (count_fault names (length lengths))
    else option_map (length_fault (lengths_of attached) lengths) (other_length (lengths_of attached) lengths)

-- the length of the shortest of these
abbrev pub shortest : List ℕ → ℕ
shortest [] = 0
shortest (n ∷ ns) = fold min n ns

-- the end that is asked for, or else the length of the shortest image
abbrev pub end_of : Option ℕ → List Image → ℕ
end_of end attached = unwrap_or end (shortest (lengths_of attached))

-- how the images of `names` names disagree with what a command over one set takes: there are none, or
-- more than 24, or the end that is asked for is past the shortest
abbrev pub limits_fault : Option ℕ → ℕ → List Image → Option Disagreement
limits_fault end names attached =
    if nat_eq names 0 then Some (count_fault 0 1)
    else if nat_lt MOST names then Some (count_fault names MOST)
    else if nat_lt (shortest (lengths_of attached)) (end_of end attached) then Some (record { kind = End; given = end_of end attached; planned = shortest (lengths_of attached) })
    else None

-- the first image of 2^54 sectors or more, which is too long for an offset of its own
abbrev pub long_image : List ℕ → Option ℕ
long_image given = find (λ i. nat_le (2 ^ 54) (slice_index given i)) (range_with_len 0 (length given))

abbrev pub long_fault : List Image → Option Disagreement
long_fault attached = option_map (λ i. record { kind = Long i; given = slice_index (lengths_of attached) i; planned = 2 ^ 54 - 1 }) (long_image (lengths_of attached))
