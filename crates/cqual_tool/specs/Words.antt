-- The files that a task names, and what is to be written of their program.
use Rattle.std.specs.Prelude.{ℕ, Bool, List, map, Option, Some, None}
use Rattle.std.specs.Option.{option_map}
use Rattle.cqual_words.specs.Words as words
use Rattle.cqual_words.specs.Words.{Question}
use Rattle.cqual_words.specs.Asked.{question_in}
use Rattle.cqual_tool.specs.declared.words.Named.{Named}

-- The files that are named, the sources in their order, what is asked of their program, and whether they are read as
-- wider C.
pub record FileNames : Type 0 where
  pub lattice : List ℕ
  pub prelude : Option (List ℕ)
  pub asked : Question
  pub sources : List (List ℕ)
  pub wide : Bool

-- the file of a report or a certificate that is to be checked
abbrev pub saved_of : Question → Option (List ℕ)
saved_of words.Infer = None
saved_of words.Annotate = None
saved_of (words.Check report) = Some report
saved_of words.Certify = None
saved_of (words.Verify certificate) = Some certificate
saved_of (words.Who name) = None
saved_of words.Sign = None

-- the file of a report or a certificate that is to be checked, where one is
abbrev pub saved_in : FileNames → Option (List ℕ)
saved_in named = saved_of named.asked

-- the names as the code holds them
abbrev pub names_in : Named → FileNames
names_in named = record {
  lattice = named.lattice.now;
  prelude = option_map (λ name. name.now) named.prelude;
  asked = question_in named.asked;
  sources = map (λ name. name.now) named.sources.now;
  wide = named.wide;
}

-- the files that words name, with what is asked of them
abbrev pub of_files : words.FileNames → Question → FileNames
of_files files asked = record {
  lattice = files.lattice;
  prelude = files.prelude;
  asked = asked;
  sources = files.sources;
  wide = files.wide;
}

-- the files of a task; none where the tool makes the source itself
abbrev pub names_of : words.Task → Option FileNames
names_of (words.Ask question files) = Some (of_files files question)
names_of (words.Generate number) = None
