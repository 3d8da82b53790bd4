-- What is left of units whose trees are gone.
use Rattle.std.specs.Prelude.{◌≡◌, All, List, [], ◌∷◌, map}
use Rattle.tape_ops.specs.declared.op.Op.{Op}
use Rattle.c_lexer.specs.Tokens.{Lexed}
use Rattle.c_tape.specs.Tape.{tape_of}
use Rattle.resolve_laws.specs.NameLaws.NameLaws.{IsSound, tape_of_source}
use Rattle.c_types.specs.SourceSpelling.Keys.{AreNamesOf}
use Rattle.type_rules.specs.Program as rules
use Rattle.unit_types.specs.declared.program.UnitTape.{UnitTape}
use Rattle.unit_types.specs.Resolved.{tapes_of}
use Rattle.c_types.specs.Sources.{UnitRead, lexed_of, sources_in}
use Rattle.c_types.specs.declared.units.Units.{Units}

-- the units before the last one
abbrev pub all_but_last : List Lexed → List Lexed
all_but_last [] = []
all_but_last (it ∷ []) = []
all_but_last (it ∷ next ∷ units) = it ∷ all_but_last (next ∷ units)

-- a unit has these tokens and this tape
pub record IsTaped (unit : UnitRead) (lexed : Lexed) (ops : List Op) : Type 0 where
  pub lexed_is : unit.lexed ≡ lexed
  pub taped : ops ≡ tape_of unit.items

-- the tokens of units and their tapes, in their order
pub record AreParts (units : List UnitRead) (tokens : List Lexed) (tapes : List UnitTape) : Type 0 where
  pub tokens_are : tokens ≡ lexed_of units
  pub tapes_are : tapes_of tapes ≡ map tape_of_source (sources_in units)

-- what is left of units: their tokens, their tapes, and the names of all but the last
pub record AreReduced (units : List UnitRead) (it : Units) : Type 0 where
  pub parts : AreParts units it.tokens.items it.tapes.items
  pub names : AreNamesOf (all_but_last (lexed_of units)) it.names

-- tapes are those of sources that are well formed of some tokens
pub record AreTapesOf (tapes : List UnitTape) (sources : List rules.Source) : Type 0 where
  pub sound : All IsSound sources
  pub taped : tapes_of tapes ≡ map tape_of_source sources
