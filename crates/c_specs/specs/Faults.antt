-- Why words are no mix.
use Rattle.std.specs.Prelude.{◌≡◌, ℕ}
use Rattle.c_syntax.specs.declared.parts.Qual.{Qual}
use Rattle.c_syntax.specs.declared.parts.Qual.TheVariants as quals
use Rattle.c_tree.specs.Tree.{SpecWords, more_words, SpecWord, storage, thread, inline_word, noreturn, qualifier, basic, struct_type, enum_type, typedef_name, attribute, enum_of, typeof_value, typeof_type, align, auto_word}
use Rattle.c_tree.specs.Specifiers.{IsMix}
use Rattle.c_specs.specs.declared.reading.SpecFault.{SpecFault}
use Rattle.c_specs.specs.declared.reading.SpecFault.TheVariants.{BadMix, Unfinished}
use Rattle.c_specs.specs.Reading.{append_words, pushed, Begins}

-- the token of a qualifier
abbrev pub qual_token : Qual → ℕ
qual_token (quals.Word word) = word.token
qual_token (quals.Element token) = token
qual_token (quals.Index token) = token

-- the first token of a word
abbrev pub word_token : SpecWord → ℕ
word_token (storage word) = word.token
word_token (thread token) = token
word_token (inline_word token) = token
word_token (noreturn token) = token
word_token (qualifier qual) = qual_token qual
word_token (basic word) = word.token
word_token (struct_type word attrs tag body) = word.token
word_token (enum_type (enum_of keyword attrs tag body)) = keyword
word_token (typedef_name name) = name.token
word_token (attribute attr) = attr.keyword
word_token (typeof_value keyword opening e closing) = keyword
word_token (typeof_type word opening ws d closing) = word.token
word_token (align attr) = attr.keyword
word_token (auto_word token) = token

-- a mix begins with the words before a word, none with these and this one, whose first token it is
pub record IsFirstBadWord (ws : SpecWords) (token : ℕ) : Type 0 where
  pub front : SpecWords
  pub word : SpecWord
  pub more : SpecWords
  pub parts : ws ≡ append_words front (more_words word more)
  pub begun : Begins front
  pub bad : Begins (pushed front word) → ⊥
  pub place : token ≡ word_token word

-- a fault of specifiers: a first word that goes with none before it, or words that are not a whole mix yet
abbrev pub IsFault : SpecWords → SpecFault → Type 0
IsFault ws (BadMix token) = IsFirstBadWord ws token
IsFault ws Unfinished = Begins ws × (IsMix ws → ⊥)
