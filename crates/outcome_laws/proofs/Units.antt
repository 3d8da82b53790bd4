-- Tokens are those of one well-formed unit, and of none where they are refused. Where names and types have no fault,
-- none is the first.
use Rattle.std.proofs.Common.{◌≡◌, ◌≢◌, ℕ, Bool, List, [], Contains, refl, sym, subst, arith}
use Rattle.c_lexer.specs.Reading.{Meanings}
use Rattle.c_lexer.specs.Tokens.{Lexed}
use Rattle.c_units.specs.Units.{IsWellFormed}
use Rattle.c_reading.specs.UnitLaws.{OneUnitAtMost}
use Rattle.c_parser.specs.Parsing.{lexemes_of}
use Rattle.c_parser.specs.Refusing.{IsUnitRefusal}
use Rattle.reader_base.specs.declared.fault.ReadError.{ReadError}
use Rattle.c_parser.proofs.Numbering.{numbered_from_zero}
use Rattle.name_rules.specs.Faults.{Fault, IsFirst}
use Rattle.unit_types.specs.declared.fault.ShapeFault.{ShapeFault}
use Rattle.unit_types.specs.declared.fault.ShapeFault.TheVariants as shapes
use Rattle.unit_types.specs.Faults.{IsFirstUnlessMemory}
use Rattle.c_types.specs.Sources.{UnitRead}
use Rattle.outcome_laws.specs.Readings.{Lexes}
use Rattle.outcome_laws.proofs.Tokens.{one_list_of_tokens}

module _ (one_unit : OneUnitAtMost) (number : ℕ) (wide : Bool) (meanings : Meanings) (bytes : List ℕ) where
  pub unit_once : (a b : UnitRead) → Lexes number wide meanings bytes a.lexed
      → IsWellFormed a.lexed.wide (lexemes_of a.lexed) a.items →
      Lexes number wide meanings bytes b.lexed → IsWellFormed b.lexed.wide (lexemes_of b.lexed) b.items → a ≡ b
  unit_once a b h formed k also =
      let lexed : a.lexed ≡ b.lexed = (one_list_of_tokens number wide meanings bytes a.lexed h).only b.lexed k in
      let items : a.items ≡ b.items =
      one_unit a.lexed.wide (lexemes_of a.lexed) (numbered_from_zero a.lexed.tokens) a.items b.items formed
      (subst (λ (l : Lexed). IsWellFormed l.wide (lexemes_of l) b.items) (sym lexed) also) in
      λ i. record { lexed = lexed i; items = items i }

  pub unit_not_refused : (a : UnitRead) → Lexes number wide meanings bytes a.lexed
      → IsWellFormed a.lexed.wide (lexemes_of a.lexed) a.items →
      (lexed : Lexed) (fault : ReadError) → Lexes number wide meanings bytes lexed → IsUnitRefusal lexed fault → ⊥
  unit_not_refused a h formed lexed fault k refused =
      refused.none a.items (subst (λ (l : Lexed). IsWellFormed l.wide (lexemes_of l) a.items)
      ((one_list_of_tokens number wide meanings bytes a.lexed h).only lexed k) formed)

-- where there are no faults, none is the first
pub none_first : (fault : Fault) (all : List Fault) → all ≡ [] → IsFirst fault all → ⊥
none_first fault all is h =
    let has = subst (λ (faults : List Fault). Contains faults fault) is h.there in
    omega (arith, has.1)

-- where there are no faults, no fault but want of memory is the first
pub no_first_fault : (fault : ShapeFault) (all : List Fault) → fault ≢ shapes.NoMemory → all ≡ []
    → IsFirstUnlessMemory fault all → ⊥
no_first_fault (shapes.Found it) all reason none h = none_first _ all none h
no_first_fault shapes.NoMemory all reason none h = reason refl
