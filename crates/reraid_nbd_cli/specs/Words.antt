-- What the words ask for.
use Rattle.std.specs.Prelude.{ℕ, ◌≡◌, ◌≤◌, ◌+◌, ◌-◌, ◌⊎◌, ◌==◌, ◌&&◌, ◌++◌, suc, nat_lt, Bool, max, slice_index, if◌then◌else◌, IfSome, List, [], ◌∷◌, codes, length, take, drop, Result, Ok, Err}
use Rattle.std.specs.declared.option.Option.{Option}
use Rattle.std.specs.declared.option.Option.TheVariants.{None, Some}
use Rattle.std.specs.Str.{bytes_eq}
use Rattle.command_words.specs.Commands.{IsCommandLine, IsRefusedWord, names_after, names_of, verb_word}
use Rattle.command_words.specs.declared.command.Command.{Command}
use Rattle.command_words.specs.declared.command.Command.TheVariants.{Write as WriteCommand, MirrorWrite as MirrorWriteCommand}
use Rattle.command_words.specs.declared.command.Verb.TheVariants.{Write, MirrorWrite}
use Rattle.reraid_nbd_cli.specs.declared.telling.Alone.{Alone}
use Rattle.reraid_nbd_cli.specs.declared.telling.Alone.TheVariants.{Help, Version}

-- what one word asks for alone, if it does
abbrev pub alone_in : List (List ℕ) → Option Alone
alone_in (word ∷ []) = if bytes_eq word (codes "--help") then Some Help else if bytes_eq word (codes "--version") then Some Version else None
alone_in _ = None

-- the word begins with 'maps='
abbrev pub is_maps_word : List ℕ → Bool
is_maps_word word = slice_index word 0 == 109 && slice_index word 1 == 97 && slice_index word 2 == 112 && slice_index word 3 == 115 && slice_index word 4 == 61

-- the place of the first word before '--' that begins with 'maps=', counted on from a number
abbrev pub maps_from : ℕ → List (List ℕ) → Option ℕ
maps_from at [] = None
maps_from at (word ∷ words) = if bytes_eq word (codes "--") then None else if is_maps_word word then Some at else maps_from (at + 1) words

-- the place, from 0, of the word that names the text of maps
abbrev pub maps_at : List (List ℕ) → Option ℕ
maps_at words = maps_from 0 words

-- the words without the one at a place
abbrev pub without : ℕ → List (List ℕ) → List (List ℕ)
without at words = take at words ++ drop (suc at) words

-- the number, counted from 1, of a word as it was typed, where the one at a place was taken out: of the others it is this one
abbrev pub as_typed : ℕ → ℕ → ℕ
as_typed at number = if nat_lt number (at + 1) then number else number + 1

-- The command of `reraid` whose volume is served: `write` where these are its words, else `mirrorwrite`. Or the refused word, counted from 1: the
-- first with which the words of neither go on, or the one after the last.
abbrev pub Asks : List (List ℕ) → Result Command ℕ → Type 0
Asks words (Ok command) =
    IsCommandLine (verb_word Write ∷ words) command
    ⊎ ((number : ℕ) × IsRefusedWord (verb_word Write ∷ words) number × IsCommandLine (verb_word MirrorWrite ∷ words) command)
Asks words (Err number) =
    (one : ℕ) × (other : ℕ) × IsRefusedWord (verb_word Write ∷ words) one × IsRefusedWord (verb_word MirrorWrite ∷ words) other × (number ≡ max one other - 1)

-- The command of `reraid` whose damaged volume is served: the one that the words ask for without the one at a place, which names the text of
-- maps. Or the refused word, counted from 1.
abbrev pub AsksDamaged : ℕ → List (List ℕ) → Result Command ℕ → Type 0
AsksDamaged at words (Ok command) = Asks (without at words) (Ok command)
AsksDamaged at words (Err number) = (other : ℕ) × Asks (without at words) (Err other) × (number ≡ as_typed at other)

-- the command puts a volume
abbrev pub PutsVolume : Command → Type 0
PutsVolume (WriteCommand set end names) = Unit {0}
PutsVolume (MirrorWriteCommand set end names) = Unit {0}
PutsVolume _ = ⊥

-- the names of the images are the last of the words: the command counts its own word with those before them
abbrev pub AreNamed : List (List ℕ) → Command → Type 0
AreNamed words command = IfSome (names_of command) (λ names. (1 ≤ names) × (names ≤ length words + 1) × (names_after words ≡ drop (names - 1) words))
