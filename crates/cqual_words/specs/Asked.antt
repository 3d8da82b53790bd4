-- What the code holds of the words, as a task.
use Rattle.std.specs.Prelude.{⊤, length, map}
use Rattle.std.specs.Option.{option_map}
use Rattle.cqual_words.specs.Words.{FileNames, IsMade, IsSourceCount, Task}
use Rattle.cqual_words.specs.Words as words
use Rattle.cqual_words.specs.declared.asked.Asked.{Asked}
use Rattle.cqual_words.specs.declared.asked.Asked.TheVariants as asked
use Rattle.cqual_words.specs.declared.asked.FileWords.{FileWords}
use Rattle.cqual_words.specs.declared.asked.Question.{Question}
use Rattle.cqual_words.specs.declared.asked.Question.TheVariants as questions

-- the files that the code holds, as those that words name
abbrev pub names_in : FileWords → FileNames
names_in files = record {
  lattice = files.lattice.now;
  prelude = option_map (λ name. name.now) files.prelude;
  sources = map (λ name. name.now) files.sources.items;
  wide = files.wide;
}

-- what is asked of a program
abbrev pub question_in : Question → words.Question
question_in questions.Infer = words.Infer
question_in questions.Annotate = words.Annotate
question_in (questions.Check report) = words.Check report.now
question_in questions.Certify = words.Certify
question_in (questions.Verify certificate) = words.Verify certificate.now
question_in (questions.Who name) = words.Who name.now
question_in questions.Sign = words.Sign

-- what the code holds, as a task
abbrev pub task_of : Asked → Task
task_of (asked.Ask question files) = words.Ask (question_in question) (names_in files)
task_of (asked.Generate number) = words.Generate number

-- where the report of a made source is asked, there is such a source
abbrev pub AsksMade : Asked → Type 0
AsksMade (asked.Ask question files) = ⊤
AsksMade (asked.Generate number) = IsMade number

-- where files are asked for, 1 to 256 of them are sources
abbrev pub NamesSources : Asked → Type 0
NamesSources (asked.Ask question files) = IsSourceCount (length files.sources.items)
NamesSources (asked.Generate number) = ⊤
