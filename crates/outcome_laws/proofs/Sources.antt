-- The units that sources are, one list of them, and no refusal beside it.
use Rattle.std.proofs.Common.{◌≡◌, ◌<◌, ◌≤◌, ◌+◌, ◌-◌, ℕ, Bool, List, [], ◌∷◌, ◌++◌, length, refl, ap, subst, sym, ◌∙◌, arith}
use Rattle.lattice_core.specs.View.{LatticeView}
use Rattle.lattice_core.specs.Names.{words_of}
use Rattle.c_lexer.specs.Tokens.{Lexed}
use Rattle.c_reading.specs.UnitLaws.{OneUnitAtMost}
use Rattle.type_rules.specs.Program.{HasNoFault, faults_of}
use Rattle.c_types.specs.Sources.{UnitRead, sources_in}
use Rattle.index_words.specs.Marks.{IndexMark}
use Rattle.cqual_tool.specs.Words.{FileNames}
use Rattle.cqual_tool.specs.Programs.{Judging, judging_of}
use Rattle.cqual_tool.specs.Outcome.{SourceLexes, SourceParses, SourceRefused, Unspelled, Unparsed, SourcesParse, NoSource, OneSource, SourcesFail, TooLarge, Refused, Later, UnitsRefused, Faulty, ManyVariables, ManyConstraints, AreCounted}
use Rattle.outcome_laws.specs.Readings.{Lexes}
use Rattle.outcome_laws.proofs.Tokens.{one_list_of_tokens}
use Rattle.outcome_laws.proofs.Units.{unit_once, unit_not_refused, no_first_fault}
use Rattle.outcome_laws.proofs.Programs.{SameIndices, judged_same}

module _ (one_unit : OneUnitAtMost) (wide : Bool) (lattices : List LatticeView) where
  -- one source
  module _ (number : ℕ) (bytes : List ℕ) where
    lexes : (lexed : Lexed) → SourceLexes wide lattices number bytes lexed
        → Lexes number wide (words_of lattices) bytes lexed
    lexes lexed h = record { unit_is = h.unit; dialect = h.dialect; bytes_are = h.bytes_are; marks = h.marks }

    source_once : (a b : UnitRead) → SourceParses wide lattices number bytes a
        → SourceParses wide lattices number bytes b → a ≡ b
    source_once a b h k =
        unit_once one_unit number wide (words_of lattices) bytes a b (lexes a.lexed h.lexes) h.formed
        (lexes b.lexed k.lexes) k.formed

    never_refused : (file text : List ℕ) (it : UnitRead) → SourceParses wide lattices number bytes it
        → SourceRefused wide lattices number file bytes text → ⊥
    never_refused file _ it h (Unspelled fault fails) =
        (one_list_of_tokens number wide (words_of lattices) bytes it.lexed
        (lexes it.lexed h.lexes)).sound fails.words fault fails.mean fails.reason fails.refused
    never_refused file _ it h (Unparsed lexed fault spelled reason refused) =
        unit_not_refused one_unit number wide (words_of lattices) bytes it (lexes it.lexed h.lexes) h.formed lexed fault
        (lexes lexed spelled) refused

  -- all of them

  one_more : (a b : UnitRead) (units others : List UnitRead) → a ≡ b → units ≡ others → a ∷ units ≡ b ∷ others
  one_more a b units others one more = λ i. one i ∷ more i

  pub sources_once : (number left : ℕ) (sources : List (List ℕ × List ℕ)) (units others : List UnitRead)
      → SourcesParse wide lattices number left sources units
      → SourcesParse wide lattices number left sources others → units ≡ others
  sources_once _ _ _ _ _ (NoSource number left) (NoSource _ _) = refl
  sources_once _ _ _ _ _ (OneSource number left source more unit units within h rest)
      (OneSource _ _ _ _ other others fits k also) =
      one_more unit other units others (source_once number source.1 unit other h k)
      (sources_once (number + 1) (left - length source.1) more units others rest also)

  pub never_fail : (number left : ℕ) (sources : List (List ℕ × List ℕ)) (units : List UnitRead) (text : List ℕ)
      → SourcesParse wide lattices number left sources units → SourcesFail wide lattices number left sources text → ⊥
  never_fail _ _ _ _ text (NoSource number left) fails = elim fails [ ]
  never_fail _ _ _ _ _ (OneSource number left source more unit units within h rest) (TooLarge _ _ _ _ over) =
      omega (arith, within, over)
  never_fail _ _ _ _ _ (OneSource number left source more unit units within h rest)
      (Refused _ _ _ _ text fits refused) =
      never_refused number source.1 source.0 text unit h refused
  never_fail _ _ _ _ _ (OneSource number left source more unit units within h rest)
      (Later _ _ _ _ other text fits k fails) =
      never_fail (number + 1) (left - length source.1) more units text rest fails

-- their program
module _ (named : FileNames) (lattices : List LatticeView) (marks said : List IndexMark) (same : SameIndices marks said)
    (units others : List UnitRead)
    (are : units ≡ others) (h : AreCounted named lattices marks units) where
  judged_once : judging_of named lattices marks units ≡ judging_of named lattices said others
  judged_once = judged_same named lattices marks said units others same are

  pub never_uncounted : (text : List ℕ) → UnitsRefused named lattices said others text → ⊥
  never_uncounted _ (Faulty fault reason first) =
      no_first_fault fault (faults_of (sources_in others)) reason
      (subst (λ (us : List UnitRead). HasNoFault (sources_in us)) are h.shaped) first
  never_uncounted _ (ManyVariables shaped many) =
      let e = ap (λ (j : Judging). length j.scene.positions) judged_once in omega (arith, e, h.few_variables, many)
  never_uncounted _ (ManyConstraints shaped few many) =
      let e = ap (λ (j : Judging). length j.system.constraints) judged_once in omega (arith, e, h.few_constraints, many)
