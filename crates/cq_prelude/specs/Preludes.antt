-- Which bytes are a prelude, and why others are none.
use Rattle.std.specs.Prelude.{◌≡◌, ◌≢◌, ℕ, List, [], ◌∷◌, length, nat_lt, if◌then◌else◌, Bool}
use Rattle.qual_base.specs.declared.places.Spot.{Spot}
use Rattle.c_lexer.specs.Reading.{Meanings}
use Rattle.c_lexer.specs.Refusals.{IsRefusal}
use Rattle.c_lexer.specs.Tokens.{IsMarkedBy, Lexed, token_spot}
use Rattle.c_lexer.specs.declared.lexing.LexFault.TheVariants.{NoMemory as NoRoom}
use Rattle.c_units.specs.Units.{IsWellFormed}
use Rattle.c_parser.specs.Parsing.{lexemes_of}
use Rattle.c_parser.specs.Refusing.{IsUnitRefusal}
use Rattle.reader_base.specs.declared.fault.ReadError.TheVariants.{Fault as Refused}
use Rattle.type_rules.specs.Program.{HasNoFault, faults_of}
use Rattle.name_rules.specs.Faults as rules
use Rattle.unit_shapes.specs.Faults.{fault_of}
use Rattle.c_types.specs.Sources.{UnitRead, sources_in}
use Rattle.index_words.specs.Marks.{IndexMark}
use Rattle.cq_prelude.specs.Rules.{AreMarks, IsFirst, NoneFails, bad_index, has_body}
use Rattle.cq_prelude.specs.declared.fault.PreludeFault.{PreludeFault}
use Rattle.cq_prelude.specs.declared.fault.PreludeFault.TheVariants.{BadIndex, HasBody, Lex, NoMemory, Parse, Shape}

-- the bytes spell these tokens of unit 0, where the words mean what these meanings say
pub record Lexes (wide : Bool) (words : Meanings) (bytes : List ℕ) (lexed : Lexed) : Type 0 where
  pub unit : lexed.unit ≡ 0
  pub dialect : lexed.wide ≡ wide
  pub bytes_are : lexed.bytes ≡ bytes
  pub marks : IsMarkedBy words lexed

-- the tokens are those of this well-formed unit
pub record Parses (wide : Bool) (words : Meanings) (bytes : List ℕ) (it : UnitRead) : Type 0 where
  pub lexes : Lexes wide words bytes it.lexed
  pub formed : IsWellFormed it.lexed.wide (lexemes_of it.lexed) it.items

-- The bytes are a prelude: a well-formed unit without bodies of functions, whose index words are right, and whose names
-- and types have no fault.
pub record IsPrelude (wide : Bool) (words : Meanings) (bytes : List ℕ) (it : UnitRead)
    (marks : List IndexMark) : Type 0 where
  pub parses : Parses wide words bytes it
  pub rules : NoneFails it.lexed it.items
  pub marks_are : AreMarks it.lexed marks
  pub shaped : HasNoFault (sources_in (it ∷ []))

-- the place of a token, and the first one of the file where there is no such token
abbrev pub spot_of : Lexed → ℕ → Spot
spot_of lexed token =
    if nat_lt token (length lexed.tokens) then token_spot lexed token
    else record { unit = lexed.unit; line = 1; column = 1; name_from = 0; name_to = 0 }

-- Why the bytes are no prelude, in the order in which that is found out; want of memory may come anywhere.
abbrev pub IsFaultOf : Bool → Meanings → List ℕ → PreludeFault → Type 0
IsFaultOf wide words bytes (Lex fault) = IsRefusal 0 wide words bytes fault × (fault ≢ NoRoom)
IsFaultOf wide words bytes (Parse rule spot) =
    (lexed : Lexed) × (token : ℕ) × Lexes wide words bytes lexed × IsUnitRefusal lexed (Refused rule token)
    × (spot ≡ spot_of lexed token)
IsFaultOf wide words bytes (HasBody spot) =
    (it : UnitRead) × (token : ℕ) × Parses wide words bytes it × IsFirst it.lexed it.items has_body token
    × (spot ≡ spot_of it.lexed token)
IsFaultOf wide words bytes (BadIndex spot) =
    (it : UnitRead) × (token : ℕ) × Parses wide words bytes it × IsFirst it.lexed it.items bad_index token
    × (spot ≡ spot_of it.lexed token)
IsFaultOf wide words bytes (Shape fault spot) =
    (it : UnitRead) × Parses wide words bytes it × NoneFails it.lexed it.items
    × rules.IsFirst (fault_of fault) (faults_of (sources_in (it ∷ []))) × (spot ≡ spot_of it.lexed fault.at.1)
IsFaultOf wide words bytes NoMemory = Unit {0}
