-- What a history tells: each call as a mark of its kind and the bytes that went with it, the last one first.
use Rattle.std.specs.Prelude.{ℕ, zero, suc, List, [], ◌∷◌, ◌++◌, ◌+◌}
use Rattle.outside.specs.Readings.{Reading, Going, Broken, at_last, ended, given}

-- the readings with one more call on files: a start and one that failed, a piece, the end, or a failure
abbrev pub noted : List ℕ → List ℕ → List Reading → List Reading
noted (zero ∷ []) name readings = readings ++ record { name = name; bytes = []; end = Going } ∷ []
noted (suc zero ∷ []) name readings = readings ++ record { name = name; bytes = []; end = Broken } ∷ []
noted (suc (suc zero) ∷ []) piece readings = at_last (λ reading. given reading.end piece reading) readings
noted (suc (suc (suc zero)) ∷ []) piece readings = at_last (λ reading. ended reading.end reading) readings
noted other piece readings =
    at_last (λ reading. record { name = reading.name; bytes = reading.bytes; end = Broken }) readings

-- the readings of files that a history tells
abbrev pub readings_in : List (List ℕ × List ℕ) → List Reading
readings_in [] = []
readings_in (call ∷ calls) = noted call.0 call.1 (readings_in calls)

-- how many failures a call is, by its mark: 1 or 0
abbrev pub fault : List ℕ → ℕ
fault (zero ∷ []) = 0
fault (suc zero ∷ []) = 1
fault (suc (suc zero) ∷ []) = 0
fault (suc (suc (suc zero)) ∷ []) = 0
fault other = 1

-- how many calls of a history failed
abbrev pub faults_in : List (List ℕ × List ℕ) → ℕ
faults_in [] = 0
faults_in (call ∷ calls) = faults_in calls + fault call.0

-- the bytes that the puts of a history took, in order: a piece stands under the mark of a piece, and a failure has no
-- bytes
abbrev pub bytes_in : List (List ℕ × List ℕ) → List ℕ
bytes_in [] = []
bytes_in (call ∷ calls) = bytes_in calls ++ call.1

-- the readings of files, and how many calls failed
pub record Reads : Type 0 where
  pub readings : List Reading
  pub failed : ℕ

-- the bytes that a sink took, and how many puts failed
pub record Writes : Type 0 where
  pub bytes : List ℕ
  pub failed : ℕ
