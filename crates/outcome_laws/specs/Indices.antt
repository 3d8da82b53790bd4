-- What an index word of a prelude says is one.
use Rattle.std.specs.Prelude.{◌≡◌, ℕ, List}
use Rattle.cq_prelude.specs.Rules.{IsSetOf}

-- the bytes of an index word say one ascending list of numbers
abbrev pub OneSetOfIndices : Type 0
OneSetOfIndices = (bytes set other : List ℕ) → IsSetOf bytes set → IsSetOf bytes other → set ≡ other
