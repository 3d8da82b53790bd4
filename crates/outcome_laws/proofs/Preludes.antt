-- Bytes are one prelude, and have no fault beside it.
use Rattle.std.proofs.Common.{◌≡◌, ◌≢◌, ℕ, Bool, zero, List, [], ◌∷◌, Contains, refl, sym, ◌∙◌, ap, subst, arith}
use Rattle.std.specs.Prelude.{nat_eq, if◌then◌else◌}
use Rattle.qual_base.specs.Words.{MeansTheSame}
use Rattle.c_lexer.specs.Reading.{Meanings}
use Rattle.c_lexer.specs.Tokens.{Lexed, text_of}
use Rattle.c_reading.specs.UnitLaws.{OneUnitAtMost}
use Rattle.type_rules.specs.Program.{HasNoFault, faults_of}
use Rattle.c_types.specs.Sources.{UnitRead, sources_in}
use Rattle.reader_base.specs.declared.fault.ReadError.TheVariants.{Fault as Refused}
use Rattle.unit_shapes.specs.Faults.{fault_of}
use Rattle.index_words.specs.Marks.{IndexMark, index_in, numbers_at}
use Rattle.cq_prelude.specs.Preludes as preludes
use Rattle.cq_prelude.specs.Preludes.{IsPrelude, IsFaultOf, Parses}
use Rattle.cq_prelude.specs.Rules.{AreMarks, IsIndex, NoneFails, bad_index, has_body}
use Rattle.cq_prelude.specs.declared.fault.PreludeFault.{PreludeFault}
use Rattle.cq_prelude.specs.declared.fault.PreludeFault.TheVariants.{BadIndex, HasBody, Lex, NoMemory, Parse, Shape}
use Rattle.outcome_laws.specs.Readings.{Lexes}
use Rattle.outcome_laws.specs.Preludes.{OnePrelude}
use Rattle.outcome_laws.proofs.Tokens.{one_list_of_tokens}
use Rattle.outcome_laws.proofs.Indices.{one_set_of_indices}
use Rattle.outcome_laws.proofs.Units.{unit_once, unit_not_refused, none_first}

-- tokens by words that mean the same as other words are tokens by the other words, of unit 0
lexes_by : (wide : Bool) (words meanings : Meanings) → MeansTheSame words meanings → (bytes : List ℕ) (lexed : Lexed)
    → preludes.Lexes wide words bytes lexed →
    Lexes 0 wide meanings bytes lexed
lexes_by wide words meanings mean bytes lexed h = record {
  unit_is = h.unit;
  dialect = h.dialect;
  bytes_are = h.bytes_are;
  marks = record {
    words = h.marks.words;
    mean = λ word. h.marks.mean word ∙ mean word;
    spelled = h.marks.spelled;
    keywords = h.marks.keywords;
  };
}

-- the marks of tokens say one list of numbers at each of them

module _ (lexed : Lexed) (marks said : List IndexMark) (are : AreMarks lexed marks) (also : AreMarks lexed said) where
  numbers_at_index : (token : ℕ) → IsIndex lexed token → numbers_at marks token ≡ numbers_at said token
  numbers_at_index token is =
      one_set_of_indices (text_of lexed token) (numbers_at marks token) (numbers_at said token) (are.said token is)
      (also.said token is)

  numbers_once : (token : ℕ) → numbers_at marks token ≡ numbers_at said token
  numbers_once token = by (numbers_at marks token) (numbers_at said token) refl refl
    where
      by : (a b : List ℕ) → numbers_at marks token ≡ a → numbers_at said token ≡ b
          → numbers_at marks token ≡ numbers_at said token
      by [] [] e f = e ∙ sym f
      by [] (y ∷ ys) e f =
          numbers_at_index token
          (also.only token y (subst (λ (ns : List ℕ). Contains ns y) (sym f) (zero, omega arith, refl)))
      by (x ∷ xs) b e f =
          numbers_at_index token
          (are.only token x (subst (λ (ns : List ℕ). Contains ns x) (sym e) (zero, omega arith, refl)))

  index_once : (p : ℕ × ℕ) → index_in marks p ≡ index_in said p
  index_once p = ap (λ (ns : List ℕ). if nat_eq p.0 0 then ns else []) (numbers_once p.1)

module _ (one_unit : OneUnitAtMost) (wide : Bool) (meanings : Meanings) (bytes : List ℕ) where
  parses_once : (words others : Meanings) (a b : UnitRead) → MeansTheSame words meanings
      → MeansTheSame others meanings →
      Parses wide words bytes a → Parses wide others bytes b → a ≡ b
  parses_once words others a b mean same h k =
      unit_once one_unit 0 wide meanings bytes a b (lexes_by wide words meanings mean bytes a.lexed h.lexes) h.formed
      (lexes_by wide others meanings same bytes b.lexed k.lexes) k.formed

  prelude_sound : (words others : Meanings) (unit : UnitRead) (marks : List IndexMark) → MeansTheSame words meanings →
      MeansTheSame others meanings → IsPrelude wide words bytes unit marks → (fault : PreludeFault) → fault ≢ NoMemory →
      IsFaultOf wide others bytes fault → ⊥
  prelude_sound words others unit marks mean same h (Lex fault) reason refused =
      (one_list_of_tokens 0 wide meanings bytes unit.lexed
      (lexes_by wide words meanings mean bytes unit.lexed h.parses.lexes)).sound others fault same refused.1 refused.0
  prelude_sound words others unit marks mean same h (Parse rule spot) reason refused =
      unit_not_refused one_unit 0 wide meanings bytes unit
      (lexes_by wide words meanings mean bytes unit.lexed h.parses.lexes) h.parses.formed refused.0
      (Refused rule refused.1) (lexes_by wide others meanings same bytes refused.0 refused.2) refused.3
  prelude_sound words others unit marks mean same h (HasBody spot) reason refused =
      let one : unit ≡ refused.0 = parses_once words others unit refused.0 mean same h.parses refused.2 in
      subst (λ (it : UnitRead). NoneFails it.lexed it.items) one h.rules has_body refused.1 refused.3.fails
  prelude_sound words others unit marks mean same h (BadIndex spot) reason refused =
      let one : unit ≡ refused.0 = parses_once words others unit refused.0 mean same h.parses refused.2 in
      subst (λ (it : UnitRead). NoneFails it.lexed it.items) one h.rules bad_index refused.1 refused.3.fails
  prelude_sound words others unit marks mean same h (Shape fault spot) reason refused =
      let one : unit ≡ refused.0 = parses_once words others unit refused.0 mean same h.parses refused.1 in
      none_first (fault_of fault) (faults_of (sources_in (refused.0 ∷ [])))
      (subst (λ (it : UnitRead). HasNoFault (sources_in (it ∷ []))) one h.shaped) refused.3
  prelude_sound words others unit marks mean same h NoMemory reason refused = reason refl

-- bytes that are a prelude are one unit with one list of index numbers, and have no fault
pub one_prelude : OneUnitAtMost → OnePrelude
one_prelude one_unit wide words meanings bytes unit marks mean h = record {
  only = λ others other said same k.
      parses_once one_unit wide meanings bytes words others unit other mean same h.parses k.parses;
  numbers = λ others other said same k.
      index_once unit.lexed marks said h.marks_are (subst (λ (it : UnitRead). AreMarks it.lexed said)
      (sym (parses_once one_unit wide meanings bytes words others unit other mean same h.parses k.parses)) k.marks_are);
  sound = λ others fault same reason refused.
      prelude_sound one_unit wide meanings bytes words others unit marks mean same h fault reason refused;
}
