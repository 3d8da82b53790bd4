-- The lines of words without a meaning, of files that do not read, of names that are not declared and of libraries
-- without signatures.
use Rattle.std.specs.Prelude.{ℕ, List, ◌++◌, codes}
use Rattle.annotate.specs.Texts.{line}

-- the line for words without a meaning
abbrev pub usage_line : List ℕ
usage_line = line (codes "usage: cqual --lattice FILE [--prelude FILE] [--annotate | --check REPORT] SOURCE...")

-- a fault of a whole file
abbrev pub malformed_line : List ℕ → List ℕ → List ℕ
malformed_line file code = line (codes "malformed " ++ file ++ codes ": " ++ code)

-- no declared name of the sources has this spelling
abbrev pub no_name_line : List ℕ → List ℕ
no_name_line name = line (codes "no name " ++ name)

-- a library has no signatures
abbrev pub no_signature_line : List ℕ → List ℕ
no_signature_line code = line (codes "no signature: " ++ code)

-- a library has none for what is at a place
abbrev pub no_signature_at : List ℕ → List ℕ → List ℕ
no_signature_at place code = line (codes "no signature at " ++ place ++ codes ": " ++ code)
