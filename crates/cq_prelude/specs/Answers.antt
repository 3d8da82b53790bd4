-- What is answered of bytes that are no prelude, step by step.
use Rattle.std.specs.Prelude.{◌≡◌, ℕ, [], ◌∷◌, Result, Ok, Err}
use Rattle.qual_base.specs.declared.places.Spot.{Spot}
use Rattle.c_lexer.specs.Tokens.{Lexed}
use Rattle.c_lexer.specs.declared.lexing.LexFault.{LexFault}
use Rattle.c_lexer.specs.declared.lexing.LexFault.TheVariants.{BadByte, NoMemory as NoRoom, Unended, UnknownQualifier}
use Rattle.reader_base.specs.declared.fault.ReadError.{ReadError}
use Rattle.reader_base.specs.declared.fault.ReadError.TheVariants.{Fault as Refused, NoMemory as OutOfRoom}
use Rattle.type_rules.specs.Program.{faults_of}
use Rattle.name_rules.specs.Faults as rules
use Rattle.unit_shapes.specs.declared.fault.Fault.{Fault}
use Rattle.unit_shapes.specs.Faults.{fault_of}
use Rattle.unit_types.specs.declared.fault.ShapeFault.{ShapeFault}
use Rattle.unit_types.specs.declared.fault.ShapeFault.TheVariants.{Found, NoMemory as OutOfNames}
use Rattle.c_types.specs.Sources.{UnitRead, sources_in, unit_of}
use Rattle.cq_prelude.specs.Preludes.{spot_of}
use Rattle.cq_prelude.specs.Rules.{IsFirst, NoneFails, bad_index, has_body}
use Rattle.cq_prelude.specs.declared.fault.PreludeFault.{PreludeFault}
use Rattle.cq_prelude.specs.declared.fault.PreludeFault.TheVariants.{BadIndex, HasBody, Lex, NoMemory, Parse, Shape}
use Rattle.cq_prelude.specs.declared.reading.PreludeRead.{PreludeRead}
use Rattle.cq_prelude.specs.declared.rules.RuleFault.{RuleFault}
use Rattle.cq_prelude.specs.declared.rules.RuleFault.TheVariants.{BadIndex as BadWord, HasBody as Body, NoMemory as OutOfRules}

-- what a fault of the bytes says of a prelude
abbrev pub placed_lex : LexFault → PreludeFault
placed_lex (BadByte spot) = Lex (BadByte spot)
placed_lex (Unended spot) = Lex (Unended spot)
placed_lex (UnknownQualifier spot) = Lex (UnknownQualifier spot)
placed_lex NoRoom = NoMemory

-- what a fault of the grammar says of a prelude, at the token that it names
abbrev pub placed_parse : Lexed → ReadError → PreludeFault
placed_parse lexed (Refused rule token) = Parse rule (spot_of lexed token)
placed_parse lexed OutOfRoom = NoMemory

-- what a fault of the rules of a prelude says, at its token
abbrev pub placed_rule : Lexed → RuleFault → PreludeFault
placed_rule lexed (Body token) = HasBody (spot_of lexed token)
placed_rule lexed (BadWord token) = BadIndex (spot_of lexed token)
placed_rule lexed OutOfRules = NoMemory

-- what a fault of names and types says of a prelude, at the token that it names
abbrev pub placed_shape : Lexed → ShapeFault → PreludeFault
placed_shape lexed (Found it) = Shape it (spot_of lexed it.at.1)
placed_shape lexed OutOfNames = NoMemory

-- the first fault of names and types of a unit by itself, at this place
pub record IsShaped (it : UnitRead) (fault : Fault) (spot : Spot) : Type 0 where
  pub first : rules.IsFirst (fault_of fault) (faults_of (sources_in (it ∷ [])))
  pub place : spot ≡ spot_of it.lexed fault.at.1

-- the names and types of a unit have this fault; want of memory may come anywhere
abbrev pub IsShapeFaultIn : UnitRead → PreludeFault → Type 0
IsShapeFaultIn it (Shape fault spot) = IsShaped it fault spot
IsShapeFaultIn it NoMemory = Unit {0}
IsShapeFaultIn it (Lex fault) = ⊥
IsShapeFaultIn it (Parse fault spot) = ⊥
IsShapeFaultIn it (HasBody spot) = ⊥
IsShapeFaultIn it (BadIndex spot) = ⊥

-- why a unit that is well formed is no prelude; want of memory may come anywhere
abbrev pub IsFaultIn : UnitRead → PreludeFault → Type 0
IsFaultIn it (Lex fault) = ⊥
IsFaultIn it (Parse fault spot) = ⊥
IsFaultIn it (HasBody spot) = (token : ℕ) × IsFirst it.lexed it.items has_body token × (spot ≡ spot_of it.lexed token)
IsFaultIn it (BadIndex spot) = (token : ℕ) × IsFirst it.lexed it.items bad_index token × (spot ≡ spot_of it.lexed token)
IsFaultIn it (Shape fault spot) = NoneFails it.lexed it.items × IsShaped it fault spot
IsFaultIn it NoMemory = Unit {0}

-- these tokens are answered, unless memory is wanting
abbrev pub IsOnlyTokens : Lexed → Result Lexed PreludeFault → Type 0
IsOnlyTokens lexed (Ok tokens) = tokens ≡ lexed
IsOnlyTokens lexed (Err fault) = fault ≡ NoMemory

-- this unit is answered, unless memory is wanting
abbrev pub IsOnlyRead : UnitRead → Result PreludeRead PreludeFault → Type 0
IsOnlyRead it (Ok read) = unit_of read.source ≡ it
IsOnlyRead it (Err fault) = fault ≡ NoMemory
