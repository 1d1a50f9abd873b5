-- What holds of the words of all parameter sets.
use Rattle.std.specs.Prelude.{◌≡◌}
use Rattle.raid_params.specs.declared.wide.Wide.{Wide}
use Rattle.value_text.specs.SetText.{HasWord, set_word}

-- parameter sets with the same word are the same set
abbrev pub SetWordsHaveOneSpelling : Type 0
SetWordsHaveOneSpelling = (g h : Wide) → HasWord g → HasWord h → set_word g ≡ set_word h → g ≡ h
