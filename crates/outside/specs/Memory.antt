-- Files and sinks in memory.
use Rattle.std.specs.Prelude.{◌≡◌, ℕ, ◌+◌, ◌-◌, ◌^◌, min, List, [], ◌∷◌, ◌++◌, None, Some, map, drop, Bool, nat_eq, slice_get, string_bytes}
use Rattle.std.specs.List.{list_any}
use Rattle.std.specs.declared.option.Option.{Option}
use Rattle.std.specs.declared.alloc.Global.{Global}
use Rattle.std.specs.declared.vec.Vec.{Vec}
use Rattle.std.specs.declared.string.String.{String}
use Rattle.std.specs.Str.{bytes_eq}
use Rattle.outside.specs.Readings.{Reading, End, Going, Whole, Broken, Agrees, content_of}

-- the greatest number that a count within 64 bits shows, at which it stands still
abbrev pub greatest_count : ℕ
greatest_count = 2 ^ 64 - 1

-- a number as such a count shows it
abbrev pub shown : ℕ → ℕ
shown number = min number greatest_count

-- the count of one more
abbrev pub one_more : ℕ → ℕ
one_more count = shown (count + 1)

-- files in memory: each by name and bytes, the numbers of the calls that fail, how many calls there were as a count
-- shows it, how many failed, the readings in order, and what is left of the file that was started last
pub record FilesState : Type 0 where
  pub files : List (List ℕ × List ℕ)
  pub fail : List ℕ
  pub calls : ℕ
  pub failed : ℕ
  pub log : List Reading
  pub rest : List ℕ

-- files in memory that never fail
pub record SteadyState : Type 0 where
  pub files : List (List ℕ × List ℕ)
  pub log : List Reading
  pub rest : List ℕ

-- a sink in memory: the bytes written, how many it has room for, the most that one put takes, the numbers of the puts
-- that fail, how many puts there were as a count shows it, and how many failed
pub record SinkState : Type 0 where
  pub written : List ℕ
  pub room : ℕ
  pub most : ℕ
  pub fail : List ℕ
  pub calls : ℕ
  pub failed : ℕ

-- whether the call of that number is to fail
abbrev pub fails_at : List ℕ → ℕ → Bool
fails_at fail call = list_any (λ n. nat_eq n call) fail

-- whether a file has that name
abbrev pub has_file : List (List ℕ × List ℕ) → List ℕ → Bool
has_file files name = list_any (λ file. bytes_eq file.0 name) files

-- a file by its name and its bytes
abbrev pub file_of : String Global × Vec ℕ Global → List ℕ × List ℕ
file_of file = (string_bytes file.0, file.1.items)

-- files by their names and their bytes
abbrev pub files_of : List (String Global × Vec ℕ Global) → List (List ℕ × List ℕ)
files_of = map file_of

-- the bytes of a file from a place on
abbrev pub bytes_from : ℕ → Option (String Global × Vec ℕ Global) → List ℕ
bytes_from from None = []
bytes_from from (Some file) = drop from file.1.items

-- what is left of a file by its number and how many of its bytes were taken
abbrev pub rest_at : List (String Global × Vec ℕ Global) → Option (ℕ × ℕ) → List ℕ
rest_at files None = []
rest_at files (Some at) = bytes_from at.1 (slice_get files at.0)

-- what is left of a file of this content that gave these bytes; of one that broke nothing is said
abbrev pub IsLeft : End → List ℕ → List ℕ → List ℕ → Type 0
IsLeft Going content bytes rest = content ≡ bytes ++ rest
IsLeft Whole content bytes rest = (content ≡ bytes) × (rest ≡ [])
IsLeft Broken content bytes rest = (more : List ℕ) × (content ≡ bytes ++ more)

-- the files gave these readings, and this is left of the file of the last one
abbrev pub AreRead : List (List ℕ × List ℕ) → List ℕ → List Reading → Type 0
AreRead files rest [] = Unit {0}
AreRead files rest (reading ∷ []) = IsLeft reading.end (content_of files reading.name) reading.bytes rest
AreRead files rest (reading ∷ next ∷ more) = Agrees files reading × AreRead files rest (next ∷ more)
