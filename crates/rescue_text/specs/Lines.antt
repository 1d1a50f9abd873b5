-- What the lines of a map file say.
use Rattle.std.specs.Prelude.{ℕ, ◌+◌, ◌^◌, Bool, cond, nat_lt, ◌==◌, ◌||◌, ◌&&◌, List, [], ◌∷◌, length, drop, slice_index}
use Rattle.std.specs.Char.{is_digit}
use Rattle.std.specs.List.{list_all}
use Rattle.std.specs.Str.Parse.{digits_value}
use Rattle.std.specs.declared.option.Option.{Option}
use Rattle.std.specs.declared.option.Option.TheVariants.{None, Some}
use Rattle.rescue_text.specs.declared.block.Block.{Block}
use Rattle.rescue_text.specs.declared.block.Status.{Status}
use Rattle.rescue_text.specs.declared.block.Status.TheVariants.{NonTried, NonTrimmed, NonScraped, Bad, Finished}

-- one digit or more of a radix, and nothing else
abbrev pub is_numeral : ℕ → List ℕ → Bool
is_numeral radix digits = nat_lt 0 (length digits) && list_all (λ byte. is_digit byte radix) digits

-- the number that digits spell in a radix, below 2 ^ 64
abbrev pub numeral : ℕ → List ℕ → Option ℕ
numeral radix digits = cond (is_numeral radix digits && nat_lt (digits_value radix digits) (2 ^ 64)) (Some (digits_value radix digits)) None

-- decimal digits without a leading zero
abbrev pub decimal_number : List ℕ → Option ℕ
decimal_number text = cond (slice_index text 0 == 48 && nat_lt 1 (length text)) None (numeral 10 text)

-- such digits, or '0x' and hexadecimal digits
abbrev pub number : List ℕ → Option ℕ
number text = cond (slice_index text 0 == 48 && slice_index text 1 == 120) (numeral 16 (drop 2 text)) (decimal_number text)

-- a space or a tab
abbrev pub is_blank : ℕ → Bool
is_blank byte = byte == 32 || byte == 9

-- what follows the blanks that stand first
abbrev pub without_blanks : List ℕ → List ℕ
without_blanks [] = []
without_blanks (byte ∷ bytes) = cond (is_blank byte) (without_blanks bytes) (byte ∷ bytes)

-- what stands before the first blank
abbrev pub word : List ℕ → List ℕ
word [] = []
word (byte ∷ bytes) = cond (is_blank byte) [] (byte ∷ word bytes)

-- what is from the first blank on
abbrev pub past_word : List ℕ → List ℕ
past_word [] = []
past_word (byte ∷ bytes) = cond (is_blank byte) (byte ∷ bytes) (past_word bytes)

-- '?', '*', '/', '-' and '+'
abbrev pub sign_status : ℕ → Option Status
sign_status sign =
    cond (sign == 63) (Some NonTried)
    (cond (sign == 42) (Some NonTrimmed)
    (cond (sign == 47) (Some NonScraped)
    (cond (sign == 45) (Some Bad)
    (cond (sign == 43) (Some Finished) None))))

-- the status that a word of one sign names
abbrev pub status : List ℕ → Option Status
status word = cond (length word == 1) (sign_status (slice_index word 0)) None

-- a block of one byte or more, with its end below 2 ^ 64
abbrev pub block_between : ℕ → ℕ → Status → Option Block
block_between start size status = cond (nat_lt 0 size && nat_lt (start + size) (2 ^ 64)) (Some (record { start = start; end = start + size; status = status })) None

-- what is told where each part is
abbrev pub block_told : Option ℕ → Option ℕ → Option Status → Option Block
block_told (Some start) (Some size) (Some status) = block_between start size status
block_told _ _ _ = None

-- a block's first byte, its size and its status, with blanks between them and around
abbrev pub block : List ℕ → Option Block
block line =
    let start = without_blanks line in
    let size = without_blanks (past_word start) in
    let sign = without_blanks (past_word size) in
    cond (length (without_blanks (past_word sign)) == 0) (block_told (number (word start)) (number (word size)) (status (word sign))) None
