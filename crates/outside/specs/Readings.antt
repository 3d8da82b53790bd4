-- What was read of files: a log of readings, and how many calls failed.
use Rattle.std.specs.Prelude.{◌≡◌, ℕ, zero, suc, ◌+◌, ◌||◌, Bool, true, false, List, [], ◌∷◌, ◌++◌, take, drop, length, All, IfSome, Option, Ok, Err}
use Rattle.std.specs.Prelude.{if◌then◌else◌}
use Rattle.std.specs.declared.result.Result.{Result}
use Rattle.std.specs.Str.{bytes_eq}

-- how a reading stands: more may come, its end was reached, or a call for it failed
pub data End : Type 0 where
  Going : End
  Whole : End
  Broken : End

-- one reading of a file: the name that it was started by, the bytes that were given since, and how it stands
pub record Reading : Type 0 where
  pub name : List ℕ
  pub bytes : List ℕ
  pub end : End

-- a reading that is begun
abbrev pub begun : {T E : Type 0} → List ℕ → Result T E → Reading
begun name (Ok x) = record { name = name; bytes = []; end = Going }
begun name (Err e) = record { name = name; bytes = []; end = Broken }

-- a reading whose end was reached; one that broke stays as it is
abbrev pub ended : End → Reading → Reading
ended Broken reading = reading
ended other reading = record { name = reading.name; bytes = reading.bytes; end = Whole }

-- a reading with more bytes; one that broke stays as it is
abbrev pub given : End → List ℕ → Reading → Reading
given Broken piece reading = reading
given other piece reading = record { name = reading.name; bytes = reading.bytes ++ piece; end = Going }

-- the reading after a call for more, which gave the first n bytes of the buffer: its end is reached where n is 0
abbrev pub goes_on : {E : Type 0} → Result ℕ E → List ℕ → Reading → Reading
goes_on (Ok zero) buffer reading = ended reading.end reading
goes_on (Ok (suc n)) buffer reading = given reading.end (take (suc n) buffer) reading
goes_on (Err e) buffer reading = record { name = reading.name; bytes = reading.bytes; end = Broken }

-- the last item changed
abbrev pub at_last : (Reading → Reading) → List Reading → List Reading
at_last f [] = []
at_last f (reading ∷ []) = f reading ∷ []
at_last f (reading ∷ next ∷ more) = reading ∷ at_last f (next ∷ more)

-- what came behind the readings that were there
abbrev pub since : List Reading → List Reading → List Reading
since old new = drop (length old) new

-- whether a call for a reading failed
abbrev pub is_broken : End → Bool
is_broken Broken = true
is_broken other = false

-- whether a call for one of these readings failed
abbrev pub has_broken : List Reading → Bool
has_broken [] = false
has_broken (reading ∷ readings) = is_broken reading.end || has_broken readings

-- 1 where a test holds, and 0 else
abbrev pub one_if : Bool → ℕ
one_if true = 1
one_if false = 0

-- how many of these readings a call failed for
abbrev pub broken_in : List Reading → ℕ
broken_in [] = 0
broken_in (reading ∷ readings) = one_if (is_broken reading.end) + broken_in readings

-- the names of the files, in the order in which they were started
abbrev pub names_read : List Reading → List (List ℕ)
names_read [] = []
names_read (reading ∷ readings) = reading.name ∷ names_read readings

-- each before the last was read to its end
abbrev pub AreWhole : List Reading → Type 0
AreWhole [] = Unit {0}
AreWhole (reading ∷ []) = Unit {0}
AreWhole (reading ∷ next ∷ more) = (reading.end ≡ Whole) × AreWhole (next ∷ more)

-- a file of this content may have given these bytes: all of them where its end was reached, else its first
abbrev pub MayGive : End → List ℕ → List ℕ → Type 0
MayGive Whole content bytes = content ≡ bytes
MayGive other content bytes = (rest : List ℕ) × (content ≡ bytes ++ rest)

-- these files, each a name and its content, were read in order: the first so many of them gave these readings
abbrev pub ReadsAs : List (List ℕ × List ℕ) → List Reading → Type 0
ReadsAs files [] = Unit {0}
ReadsAs [] (reading ∷ more) = ⊥
ReadsAs (file ∷ files) (reading ∷ more) =
    (reading.name ≡ file.0) × MayGive reading.end file.1 reading.bytes × ReadsAs files more

-- the bytes of the first file of that name, and none where no file has it; a file is its name and its bytes
abbrev pub content_of : List (List ℕ × List ℕ) → List ℕ → List ℕ
content_of [] name = []
content_of (file ∷ files) name = if bytes_eq file.0 name then file.1 else content_of files name

-- files of these contents may have given this reading
abbrev pub Agrees : List (List ℕ × List ℕ) → Reading → Type 0
Agrees files reading = MayGive reading.end (content_of files reading.name) reading.bytes

-- how files stand: their log, how many calls failed, and what they hold, where that is told
pub record Standing : Type 0 where
  pub log : List Reading
  pub failed : ℕ
  pub contents : Option (List (List ℕ × List ℕ))

-- how files stand, by their log, the count of failed calls and what they hold
abbrev pub stands : List Reading → ℕ → Option (List (List ℕ × List ℕ)) → Standing
stands log failed contents = record { log = log; failed = failed; contents = contents }

-- A call went through these readings: each that broke is of one call that failed, and where the contents are told they
-- stay, and may have given the readings.
pub record ReadOn (old new : Standing) (these : List Reading) : Type 0 where
  pub behind : new.log ≡ old.log ++ these
  pub failed : new.failed ≡ old.failed + broken_in these
  pub contents : new.contents ≡ old.contents
  pub agrees : IfSome new.contents (λ all. All (Agrees all) these)
