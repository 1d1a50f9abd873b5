-- What the words ask for, by their two readings.
use Rattle.std.proofs.Common.{◌≡◌, inl, inr, ℕ, zero, suc, ◌+◌, ◌-◌, ◌≤◌, List, [], ◌∷◌, length, drop, codes, Option, None, Some, IfSome, MatchOption, true, false, Bool, if◌then◌else◌, sym, ap, ◌∙◌, subst, arith}
use Rattle.std.specs.Option.{option_map}
use Rattle.std.specs.Str.{bytes_eq}
use Rattle.command_words.specs.Commands.{EndFrom, EndsInNames, IsCommandLine, SaysAlone, command_of, mirror_in, names_after, names_of, number_in, set_in, verb_word}
use Rattle.command_words.proofs.LineStarts.{not_alone, one_verb}
use Rattle.command_words.specs.Operands.{value_of}
use Rattle.command_words.specs.declared.command.Command.{Command}
use Rattle.command_words.specs.declared.command.Command.TheVariants.{Write as WriteCommand, MirrorWrite as MirrorWriteCommand}
use Rattle.command_words.specs.declared.command.Verb.{Verb}
use Rattle.command_words.specs.declared.command.Verb.TheVariants.{Write, MirrorWrite}
use Rattle.command_words.specs.declared.operands.Operand.{Operand}
use Rattle.command_words.specs.declared.table.Name.TheVariants.{Set as SetName, End as EndName}
use Rattle.near_mirror.specs.declared.types.NearSet.{NearSet}
use Rattle.raid_params.specs.declared.wide.Wide.{Wide}
use Rattle.reraid_nbd_cli.specs.Words.{AreNamed, PutsVolume}

-- the first word of a line names its command
first_word : (a b : List ℕ) (words others : List (List ℕ)) → a ∷ words ≡ b ∷ others → a ≡ b
first_word a b words others e = cc

puts_set : (set : Option Wide) (end : Option ℕ) (names : ℕ) (command : Command) → option_map (λ s. WriteCommand s end names) set ≡ Some command → PutsVolume command
puts_set None end names command e = absurd (cc)
puts_set (Some set) end names command e = let is : WriteCommand set end names ≡ command = cc in subst PutsVolume is tt

puts_mirror : (set : Option NearSet) (end : Option ℕ) (names : ℕ) (command : Command) → option_map (λ s. MirrorWriteCommand s end names) set ≡ Some command → PutsVolume command
puts_mirror None end names command e = absurd (cc)
puts_mirror (Some set) end names command e = let is : MirrorWriteCommand set end names ≡ command = cc in subst PutsVolume is tt

-- what the words of one verb ask for
by_verb : (verb : Verb) (words : List (List ℕ)) (command : Command) → ((operands : List Operand) (names : ℕ) → command_of verb operands names ≡ Some command → PutsVolume command) → IsCommandLine (verb_word verb ∷ words) command → PutsVolume command
by_verb verb words command puts line = elim line [
  | inl has ↦
      let same : verb ≡ has.verb = one_verb verb has.verb (first_word (verb_word verb) (verb_word has.verb) words _ has.spelled) in
      subst (λ (v : Verb). command_of v has.operands (length has.operands + 2) ≡ Some command → PutsVolume command) same (puts has.operands (length has.operands + 2)) has.says
  | inr alone ↦ absurd (not_alone verb command (subst (λ (w : List ℕ). SaysAlone w command) (sym (first_word (verb_word verb) alone.0 words [] alone.1)) alone.2))
]

-- words of `write` and of `mirrorwrite` ask for a volume
pub write_puts : (words : List (List ℕ)) (command : Command) → IsCommandLine (codes "write" ∷ words) command → PutsVolume command
write_puts words command line = by_verb Write words command (λ operands names says. puts_set (set_in (value_of SetName operands)) (number_in (value_of EndName operands)) names command says) line

pub mirrorwrite_puts : (words : List (List ℕ)) (command : Command) → IsCommandLine (codes "mirrorwrite" ∷ words) command → PutsVolume command
mirrorwrite_puts words command line = by_verb MirrorWrite words command (λ operands names says. puts_mirror (mirror_in (value_of SetName operands)) (number_in (value_of EndName operands)) names command says) line

-- names are no more than the words
few_after : (words : List (List ℕ)) → length (names_after words) ≤ length words
few_after [] = omega arith
few_after (word ∷ words) = by (bytes_eq word (codes "--")) (few_after words)
  where
    by : (b : Bool) → length (names_after words) ≤ length words → length (if b then words else names_after words) ≤ suc (length words)
    by true less = omega arith
    by false less = omega arith

behind : (word : List ℕ) (words : List (List ℕ)) (names : ℕ) → names_after (word ∷ words) ≡ names_after words → names ≤ length words + 1 → names_after (word ∷ words) ≡ drop names (word ∷ words) → (1 ≤ names) × (names ≤ length words + 1) × (names_after words ≡ drop (names - 1) words)
behind word words zero same within ends =
    let all : length (names_after words) ≡ suc (length words) = ap length (sym same ∙ ends) in
    absurd (let few = few_after words in omega arith)
behind word words (suc names) same within ends =
    let less : names ≡ suc names - 1 = omega arith in
    let here : names_after words ≡ drop names words = sym same ∙ ends in (omega arith, within, here ∙ ap (λ (n : ℕ). drop n words) less)

-- the names of the images, for words that follow the word of a command
pub named_behind : (word : List ℕ) (words : List (List ℕ)) (command : Command) → names_after (word ∷ words) ≡ names_after words → EndsInNames (word ∷ words) command → AreNamed words command
named_behind word words command same ends = by (names_of command) ends
  where
    by : (names : Option ℕ) → MatchOption names (names_after (word ∷ words) ≡ []) (EndFrom (word ∷ words)) → IfSome names (λ n. (1 ≤ n) × (n ≤ length words + 1) × (names_after words ≡ drop (n - 1) words))
    by None none = tt
    by (Some names) ends = behind word words names same (omega (arith, ends.0)) ends.1
