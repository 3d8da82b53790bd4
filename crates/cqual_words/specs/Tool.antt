-- The options as clap's parser takes them, and what its matches ask.
use Rattle.std.specs.Prelude.{◌≡◌, List, [], Bool, true, Option, Some, None, codes, if◌then◌else◌, fold, map, option_and_then}
use Rattle.std.specs.Prelude.{option_map}
use Rattle.std.specs.List.{list_all}
use Rattle.clap.specs.Words.{App, Rule, new_app, new_rule, with_rule}
use Rattle.clap.specs.Simple.{on_top}
use Rattle.clap.specs.Matches.{matched_of, one_text, raw_values}
use Rattle.clap.specs.Values.{bool_text}
use Rattle.clap.specs.declared.parser.matches.Found.{Found}
use Rattle.clap.specs.declared.builder.ArgAction.TheVariants.{Append, Set, SetTrue}
use Rattle.cqual_words.specs.Words.{Flag, Part, Task, Text, Valued, Flagged, Source, are_fit, flag_name, has_meaning, key_name, parts}
use Rattle.cqual_words.specs.Words.{task_of_parts}

-- an option with a value
abbrev pub option_rule : Text → Rule
option_rule name = record (new_rule name) { long = Some name; action = Some Set }

-- an option without a value
abbrev pub flag_rule : Text → Rule
flag_rule name = record (new_rule name) { long = Some name; action = Some SetTrue }

-- the words that are no options
abbrev pub source_rule : Rule
source_rule = record (new_rule (codes "source")) { action = Some Append }

-- the rule of clap's parser for a part of the command line
abbrev pub rule_of_part : Part → Rule
rule_of_part (Valued key) = option_rule (key_name key)
rule_of_part (Flagged flag) = flag_rule (flag_name flag)
rule_of_part Source = source_rule

-- the parser without rules: the words have no program's name, and `--help` and `--version` are no options of its own
abbrev pub bare : App
bare = on_top (λ s. record s { no_binary_name = true; disable_help_flag = true; disable_version_flag = true })
    (new_app (codes "cqual"))

-- the parser with a rule for each part
abbrev pub tool : App
tool = fold with_rule bare (map rule_of_part parts)

-- a text among the matches, where there is one, has a meaning
abbrev pub is_fit : Option Text → Bool
is_fit None = true
is_fit (Some text) = has_meaning text

-- and so has that of a part, where it is an option
abbrev pub fits_part : (Text → Option Text) → Part → Bool
fits_part first (Valued key) = is_fit (first (key_name key))
fits_part first (Flagged flag) = true
fits_part first Source = true

-- the matches say which flags stand
abbrev pub HasFlags : Found → (Flag → Bool) → Type 0
HasFlags found stands = (flag : Flag) → one_text found (flag_name flag) ≡ Some (bool_text (stands flag))

-- what the options ask, where these flags stand, by the text of each among the matches, and with these sources
abbrev pub asked_with : (Flag → Bool) → (Text → Option Text) → List Text → Option Task
asked_with stands first sources = if list_all (fits_part first) parts
    then task_of_parts (λ key. first (key_name key)) stands sources else None

-- the sources, where there are at most 256 and each has a meaning
abbrev pub sources_of : List Text → Option (List Text)
sources_of texts = if are_fit Source texts then Some texts else None

-- the texts of the words that are no options: none where the matches have no entry of them
abbrev pub plain_texts : Option (List Text) → List Text
plain_texts None = []
plain_texts (Some texts) = texts

-- the texts of an id among the matches, where it has an entry
abbrev pub raw_of : Found → Text → Option (List Text)
raw_of found id = option_map raw_values (matched_of found id)

-- what the matches ask, by the entry of the words that are no options
abbrev pub asked_by : (Flag → Bool) → (Text → Option Text) → Option (List Text) → Option Task
asked_by stands first plain =
    option_and_then (λ sources. asked_with stands first sources) (sources_of (plain_texts plain))
