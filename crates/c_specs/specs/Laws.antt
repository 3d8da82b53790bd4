-- What the step functions of a mix say of the listed mixes.
use Rattle.std.specs.Prelude.{◌≡◌, ◌↔◌, ℕ, true, List, Some}
use Rattle.c_tree.specs.declared.lexeme.Lexeme.{Lexeme}
use Rattle.c_tree.specs.Tree.{SpecWords, more_words, SpecWord}
use Rattle.c_tree.specs.Text.{spec_word_text}
use Rattle.c_tree.specs.Ends.{number_of_first}
use Rattle.c_tree.specs.Specifiers.{IsMix}
use Rattle.c_specs.specs.Mix.{class_of, goes_on, is_whole_mix}
use Rattle.c_specs.specs.declared.reading.SpecFault.{SpecFault}
use Rattle.c_specs.specs.Reading.{append_words}
use Rattle.c_specs.specs.Faults.{IsFirstBadWord, IsFault}

-- the words of a mix, and no others, are whole
abbrev pub WholeAreMixes : Type 0
WholeAreMixes = (ws : SpecWords) → (is_whole_mix ws ≡ true) ↔ IsMix ws

-- a word of a mix goes on with those before it
abbrev pub MixesGoOn : Type 0
MixesGoOn =
    (ws : SpecWords) (w : SpecWord) (more : SpecWords) → IsMix (append_words ws (more_words w more))
    → goes_on ws (class_of w) ≡ true

-- the words of a mix have no fault
abbrev pub MixesHaveNoFault : Type 0
MixesHaveNoFault = (ws : SpecWords) (fault : SpecFault) → IsMix ws → IsFault ws fault → ⊥

-- and no words have two
abbrev pub OneFaultAtMost : Type 0
OneFaultAtMost = (ws : SpecWords) (one other : SpecFault) → IsFault ws one → IsFault ws other → one ≡ other

-- the tokens of a word with which no mix begins begin with the token of the fault
abbrev pub BadTokensBegin : Type 0
BadTokensBegin =
    (all : List Lexeme) (ws : SpecWords) (token : ℕ) (k : List Lexeme) → (bad : IsFirstBadWord ws token)
    → number_of_first (spec_word_text all bad.word k) ≡ Some token
