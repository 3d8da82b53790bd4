-- What is read of a prelude, and why bytes are none.
use Rattle.std.proofs.Common.{◌≡◌, ◌≢◌, ℕ, Bool, List, [], ◌∷◌, Option, zero, suc, refl, sym, ap, ◌∙◌, subst, arith, All, Contains}
use Rattle.std.specs.Prelude.{codes}
use Rattle.c_lexer.specs.Reading.{Meanings, Spells}
use Rattle.c_lexer.specs.Refusals.{IsRefusal}
use Rattle.c_lexer.specs.Tokens.{Lexed, NamesKeywords}
use Rattle.c_lexer.specs.declared.lexing.LexFault.{LexFault}
use Rattle.c_lexer.specs.declared.lexing.LexFault.TheVariants.{BadByte, NoMemory as NoRoom, Unended, UnknownQualifier}
use Rattle.c_lexer.specs.declared.places.Mark.{Mark}
use Rattle.c_lexer.specs.declared.token.Token.{Token}
use Rattle.c_parser.specs.Parsing.{lexemes_of}
use Rattle.c_parser.specs.Refusing.{IsUnitRefusal}
use Rattle.reader_base.specs.declared.fault.ReadError.{ReadError}
use Rattle.reader_base.specs.declared.fault.ReadError.TheVariants.{Fault as Refused, NoMemory as OutOfRoom}
use Rattle.c_tree.specs.Unit.{Item, items_of}
use Rattle.c_types.specs.Sources.{UnitRead, sources_in, sources_of}
use Rattle.c_types.specs.declared.source.Source.{Source}
use Rattle.c_units.specs.Units.{IsWellFormed}
use Rattle.index_words.specs.Marks.{IndexMark}
use Rattle.resolve_laws.specs.NameLaws.NameLaws.{IsSound}
use Rattle.type_rules.specs.Program.{HasNoFault}
use Rattle.unit_shapes.specs.declared.fault.Fault as shapes
use Rattle.name_rules.specs.Faults as rules
use Rattle.name_rules.specs.Faults.{Fault}
use Rattle.qual_base.specs.declared.places.Spot.{Spot}
use Rattle.cq_prelude.specs.Answers.{IsFaultIn, IsShaped, placed_lex, placed_parse}
use Rattle.cq_prelude.specs.Preludes.{IsFaultOf, IsPrelude, Lexes, Parses}
use Rattle.cq_prelude.specs.Rules.{NoneFails, bad_index, has_body}
use Rattle.cq_prelude.specs.declared.fault.PreludeFault.{PreludeFault}
use Rattle.cq_prelude.specs.declared.fault.PreludeFault.TheVariants.{BadIndex, HasBody, Lex, NoMemory, Parse, Shape}
use Rattle.cq_prelude.proofs.Meanings.{spelled_by}

pub sound_alone : (source : Source)
    → IsWellFormed source.tokens.wide (lexemes_of source.tokens) (items_of source.unit) →
    All IsSound (sources_of (source ∷ []))
sound_alone source h zero d lt = (lexemes_of source.tokens, h.rules)
sound_alone source h (suc k) d lt = absurd (omega arith)

-- a refusal of the bytes is the fault of a prelude, and want of memory is one of any
pub lex_refusal : (wide : Bool) (words : Meanings) (bytes : List ℕ) (fault : LexFault)
    → IsRefusal 0 wide words bytes fault →
    IsFaultOf wide words bytes (placed_lex fault)
lex_refusal wide words bytes (BadByte spot) h = (h, λ same. (cc))
lex_refusal wide words bytes (Unended spot) h = (h, λ same. (cc))
lex_refusal wide words bytes (UnknownQualifier spot) h = (h, λ same. (cc))
lex_refusal wide words bytes NoRoom h = tt

-- the tokens of unit 0 that bytes spell, with the words that are asked
spells : (wide : Bool) (words : Meanings) (bytes : List ℕ) (lexed : Lexed) → Lexes wide words bytes lexed →
    (names : List (List ℕ)) × Spells 0 wide words bytes lexed.tokens names lexed.marks
spells wide words bytes lexed h =
    let spelled = rw (h.unit, h.dialect, h.bytes_are) at h.marks.spelled in
    (spelled.0, spelled_by 0 wide h.marks.words words h.marks.mean bytes lexed.tokens spelled.0 lexed.marks spelled.1)

-- a lexed text from its parts
abbrev made : ℕ → Bool → List ℕ → List Token → List Mark → Option (ℕ × ℕ) → Option (ℕ × ℕ) → Option (ℕ × ℕ) → Lexed
made unit wide bytes tokens marks constant volatile restrict =
    record {
      unit = unit;
      wide = wide;
      bytes = bytes;
      tokens = tokens;
      marks = marks;
      constant = constant;
      volatile = volatile;
      restrict = restrict;
    }

-- tokens of a unit with the same unit, bytes, tokens, marks and qualifiers of C are one
same : (one other : Lexed) → one.unit ≡ other.unit → one.wide ≡ other.wide → one.bytes ≡ other.bytes
    → one.tokens ≡ other.tokens → one.marks ≡ other.marks →
    one.constant ≡ other.constant → one.volatile ≡ other.volatile → one.restrict ≡ other.restrict → one ≡ other
same one other unit dialect bytes tokens marks constant volatile restrict =
    let parts : made one.unit one.wide one.bytes one.tokens one.marks one.constant one.volatile one.restrict
    ≡ made other.unit other.wide other.bytes other.tokens other.marks other.constant other.volatile other.restrict =
    cc in
    parts

-- tokens that bytes spell are those that were read of them, where the bytes spell only these
pub same_lexed : (wide : Bool) (words : Meanings) (bytes : List ℕ) (one other : Lexed) → one.unit ≡ 0 → one.wide ≡ wide
    → one.bytes ≡ bytes → NamesKeywords words one →
    Lexes wide words bytes other →
    ((tokens : List Token) (names : List (List ℕ)) (marks : List Mark) → Spells 0 wide words bytes tokens names marks →
    (one.tokens ≡ tokens) × (one.marks ≡ marks)) → one ≡ other
same_lexed wide words bytes one other unit dialect bytes_are keywords h only =
    let spelled = spells wide words bytes other h in
    let read = only other.tokens spelled.0 other.marks spelled.1 in
    same one other (unit ∙ sym h.unit) (dialect ∙ sym h.dialect) (bytes_are ∙ sym h.bytes_are) read.0 read.1
    (keywords.constant ∙ sym (h.marks.mean (codes "const")) ∙ sym h.marks.keywords.constant)
    (keywords.volatile ∙ sym (h.marks.mean (codes "volatile")) ∙ sym h.marks.keywords.volatile)
    (keywords.restrict ∙ sym (h.marks.mean (codes "restrict")) ∙ sym h.marks.keywords.restrict)

pub lex_only : (wide : Bool) (words : Meanings) (bytes : List ℕ) (lexed : Lexed) (fault : LexFault)
    → Lexes wide words bytes lexed →
    ((tokens : List Token) (names : List (List ℕ)) (marks : List Mark) → Spells 0 wide words bytes tokens names marks
    → fault ≡ NoRoom) →
    placed_lex fault ≡ NoMemory
lex_only wide words bytes lexed fault h only =
    let spelled = spells wide words bytes lexed h in ap placed_lex (only lexed.tokens spelled.0 lexed.marks spelled.1)

-- a fault of the parser is a fault of the prelude, at the place of its token
pub parse_fault : (wide : Bool) (words : Meanings) (bytes : List ℕ) (lexed : Lexed) (fault : ReadError)
    → Lexes wide words bytes lexed →
    (fault ≢ OutOfRoom → IsUnitRefusal lexed fault)
    → IsFaultOf wide words bytes (placed_parse lexed fault)
parse_fault wide words bytes lexed (Refused rule token) h refused = (lexed, token, h, refused (λ same. (cc)), refl)
parse_fault wide words bytes lexed OutOfRoom h refused = tt

-- where tokens are well formed, a refusal of the parser is no more than want of memory
parse_only : (lexed : Lexed) (fault : ReadError) (items : List Item) →
    (fault ≢ OutOfRoom → (items : List Item) → IsWellFormed lexed.wide (lexemes_of lexed) items → ⊥) →
    IsWellFormed lexed.wide (lexemes_of lexed) items →
    placed_parse lexed fault ≡ NoMemory
parse_only lexed (Refused rule token) items none h = absurd (none (λ same. (cc)) items h)
parse_only lexed OutOfRoom items none h = refl

-- a fault of a well-formed unit is a fault of the bytes that parse as it
pub unit_fault : (wide : Bool) (words : Meanings) (bytes : List ℕ) (it : UnitRead) (fault : PreludeFault)
    → Parses wide words bytes it → IsFaultIn it fault →
    IsFaultOf wide words bytes fault
unit_fault wide words bytes it (Lex fault) parses h = absurd h
unit_fault wide words bytes it (Parse fault spot) parses h = absurd h
unit_fault wide words bytes it (HasBody spot) parses h = (it, h.0, parses, h.1, h.2)
unit_fault wide words bytes it (BadIndex spot) parses h = (it, h.0, parses, h.1, h.2)
unit_fault wide words bytes it (Shape fault spot) parses h = (it, parses, h.0, h.1.first, h.1.place)
unit_fault wide words bytes it NoMemory parses h = tt

-- no fault is the first of none
none_first : (fault : Fault) (all : List Fault) → all ≡ [] → rules.IsFirst fault all → ⊥
none_first fault all is h =
    let has = subst (λ (faults : List Fault). Contains faults fault) is h.there in
    omega (arith, has.1)

-- where names and types have no fault, no fault of them is the first
no_shape : (it : UnitRead) (fault : shapes.Fault) (spot : Spot) → HasNoFault (sources_in (it ∷ []))
    → IsShaped it fault spot → ⊥
no_shape it fault spot none h = none_first _ _ none h.first

-- a unit that breaks no rule and has no fault of names and types fails by want of memory alone
unit_only : (it : UnitRead) (fault : PreludeFault) → NoneFails it.lexed it.items → HasNoFault (sources_in (it ∷ []))
    → IsFaultIn it fault →
    fault ≡ NoMemory
unit_only it (Lex fault) rules none h = absurd h
unit_only it (Parse fault spot) rules none h = absurd h
unit_only it (HasBody spot) obeys none h = absurd (obeys has_body h.0 h.1.fails)
unit_only it (BadIndex spot) obeys none h = absurd (obeys bad_index h.0 h.1.fails)
unit_only it (Shape fault spot) rules none h = absurd (no_shape it fault spot none h.1)
unit_only it NoMemory rules none h = refl

abbrev read_unit : Lexed → List Item → UnitRead
read_unit lexed items = record { lexed = lexed; items = items }

-- a prelude is the unit that is read
pub unit_is : (wide : Bool) (words : Meanings) (bytes : List ℕ) (it : UnitRead) (marks : List IndexMark) (lexed : Lexed)
    (items : List Item) →
    lexed ≡ it.lexed → ((others : List Item) → IsWellFormed lexed.wide (lexemes_of lexed) others → items ≡ others) →
    IsPrelude wide words bytes it marks → read_unit lexed items ≡ it
unit_is wide words bytes it marks lexed items same only h =
    let parsed = only it.items
    (subst (λ (tokens : Lexed). IsWellFormed tokens.wide (lexemes_of tokens) it.items) (sym same) h.parses.formed) in
    let parts : read_unit lexed items ≡ read_unit it.lexed it.items = cc in
    parts

pub memory_only : (wide : Bool) (words : Meanings) (bytes : List ℕ) (it : UnitRead) (marks : List IndexMark)
    (read : UnitRead) (fault : PreludeFault) →
    read ≡ it → IsPrelude wide words bytes it marks → IsFaultIn read fault → fault ≡ NoMemory
memory_only wide words bytes it marks read fault same h fails =
    unit_only it fault h.rules h.shaped (subst (λ (unit : UnitRead). IsFaultIn unit fault) same fails)

-- a text that is not read though it is a prelude was refused for want of memory
pub not_parsed : (wide : Bool) (words : Meanings) (bytes : List ℕ) (it : UnitRead) (marks : List IndexMark)
    (lexed : Lexed) (fault : ReadError) →
    lexed ≡ it.lexed
    → (fault ≢ OutOfRoom → (items : List Item) → IsWellFormed lexed.wide (lexemes_of lexed) items → ⊥) →
    IsPrelude wide words bytes it marks → placed_parse lexed fault ≡ NoMemory
not_parsed wide words bytes it marks lexed fault same none h =
    parse_only lexed fault it.items none
    (subst (λ (tokens : Lexed). IsWellFormed tokens.wide (lexemes_of tokens) it.items) (sym same) h.parses.formed)
