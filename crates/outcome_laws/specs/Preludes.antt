-- The prelude that bytes are is one, and no fault of theirs stands beside it.
use Rattle.std.specs.Prelude.{◌≡◌, ◌≢◌, ℕ, Bool, List}
use Rattle.qual_base.specs.Words.{MeansTheSame}
use Rattle.c_lexer.specs.Reading.{Meanings}
use Rattle.c_types.specs.Sources.{UnitRead}
use Rattle.index_words.specs.Marks.{IndexMark, index_in}
use Rattle.cq_prelude.specs.Preludes.{IsPrelude, IsFaultOf}
use Rattle.cq_prelude.specs.declared.fault.PreludeFault.{PreludeFault}
use Rattle.cq_prelude.specs.declared.fault.PreludeFault.TheVariants.{NoMemory as OutOfSpace}

-- The unit is one where words mean the same, its index words say one list of numbers at each place, and bytes that are
-- a prelude have no fault.
pub record PreludeIsOne (wide : Bool) (meanings : Meanings) (bytes : List ℕ) (unit : UnitRead)
    (marks : List IndexMark) : Type 0 where
  pub only : (words : Meanings) (other : UnitRead) (said : List IndexMark) → MeansTheSame words meanings
      → IsPrelude wide words bytes other said →
      unit ≡ other
  pub numbers : (words : Meanings) (other : UnitRead) (said : List IndexMark) → MeansTheSame words meanings
      → IsPrelude wide words bytes other said →
      (p : ℕ × ℕ) → index_in marks p ≡ index_in said p
  pub sound : (words : Meanings) (fault : PreludeFault) → MeansTheSame words meanings → fault ≢ OutOfSpace
      → IsFaultOf wide words bytes fault → ⊥

-- the prelude that bytes are is one
abbrev pub OnePrelude : Type 0
OnePrelude =
    (wide : Bool) (words meanings : Meanings) (bytes : List ℕ) (unit : UnitRead) (marks : List IndexMark)
    → MeansTheSame words meanings →
    IsPrelude wide words bytes unit marks → PreludeIsOne wide meanings bytes unit marks
