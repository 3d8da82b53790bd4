-- The files of one call by what they are for. They go by part and not by name: a file that is read twice may give two
-- contents on a disk that changes, as where one source is named twice.
use Rattle.std.specs.Prelude.{ℕ, List, [], ◌∷◌, ◌++◌, map, Option, Some, None}
use Rattle.outside.specs.Readings.{content_of}
use Rattle.cqual_words.specs.Words.{Task, meaning_of}
use Rattle.cqual_tool.specs.Words.{FileNames, names_of, saved_in}

-- the bytes of each part, those of the sources in their order; saved is the report or the certificate that is checked
pub record Inputs : Type 0 where
  pub lattice : List ℕ
  pub prelude : List ℕ
  pub sources : List (List ℕ)
  pub saved : List ℕ

-- a file, as its name and its bytes, where it is named
abbrev pub one_file : Option (List ℕ) → List ℕ → List (List ℕ × List ℕ)
one_file None bytes = []
one_file (Some name) bytes = (name, bytes) ∷ []

-- the bytes of the first of some files; one of which nothing is said is empty
abbrev pub first_of : List (List ℕ) → List ℕ
first_of [] = []
first_of (bytes ∷ contents) = bytes

-- the bytes of the others
abbrev pub behind_first : List (List ℕ) → List (List ℕ)
behind_first [] = []
behind_first (bytes ∷ contents) = contents

-- files, each as its name and its bytes, by their names and what they hold in that order
abbrev pub files_with : List (List ℕ) → List (List ℕ) → List (List ℕ × List ℕ)
files_with [] contents = []
files_with (name ∷ names) contents = (name, first_of contents) ∷ files_with names (behind_first contents)

-- The files that are named, in the order in which they are read: the saved one, those from some sources on, those from
-- the prelude on, and all.
abbrev pub from_saved : FileNames → Inputs → List (List ℕ × List ℕ)
from_saved named inputs = one_file (saved_in named) inputs.saved

-- the files from some sources on
abbrev pub from_sources : FileNames → List (List ℕ) → Inputs → List (List ℕ × List ℕ)
from_sources named names inputs = files_with names inputs.sources ++ from_saved named inputs

-- the files from the prelude on
abbrev pub from_prelude : FileNames → Inputs → List (List ℕ × List ℕ)
from_prelude named inputs = one_file named.prelude inputs.prelude ++ from_sources named named.sources inputs

-- all files
abbrev pub files_of : FileNames → Inputs → List (List ℕ × List ℕ)
files_of named inputs = (named.lattice, inputs.lattice) ∷ from_prelude named inputs

-- the files of what is named: none where the tool makes the source itself
abbrev pub files_named : Option FileNames → Inputs → List (List ℕ × List ℕ)
files_named None inputs = []
files_named (Some named) inputs = files_of named inputs

-- the files of a task: none where the words mean nothing
abbrev pub files_asked : Option Task → Inputs → List (List ℕ × List ℕ)
files_asked None inputs = []
files_asked (Some task) inputs = files_named (names_of task) inputs

-- the files of words
abbrev pub asked : List (List ℕ) → Inputs → List (List ℕ × List ℕ)
asked words inputs = files_asked (meaning_of words) inputs

-- what the files that are told hold for a name, if there is one
abbrev pub content_named : List (List ℕ × List ℕ) → Option (List ℕ) → List ℕ
content_named files None = []
content_named files (Some name) = content_of files name

-- what they hold for each part, by the names of the files
abbrev pub inputs_of : List (List ℕ × List ℕ) → Option FileNames → Inputs
inputs_of files None = record { lattice = []; prelude = []; sources = []; saved = [] }
inputs_of files (Some named) = record {
  lattice = content_of files named.lattice;
  prelude = content_named files named.prelude;
  sources = map (content_of files) named.sources;
  saved = content_named files (saved_in named);
}

-- what they hold for each part of a task
abbrev pub inputs_asked : List (List ℕ × List ℕ) → Option Task → Inputs
inputs_asked files None = inputs_of files None
inputs_asked files (Some task) = inputs_of files (names_of task)

-- what they hold for each part, by the words
abbrev pub inputs_in : List (List ℕ × List ℕ) → List (List ℕ) → Inputs
inputs_in files words = inputs_asked files (meaning_of words)
