use Rattle.std.proofs.Common.{List, sym, ap, subst, ◌∙◌}
use Rattle.c_lexer.specs.Tokens.{Lexed}
use Rattle.unit_types.specs.Resolved.{tapes_of}
use Rattle.c_types.specs.Sources.{UnitRead, sources_in}
use Rattle.c_types.specs.Units.{AreTapesOf}
use Rattle.row_laws.proofs.KeyLaws.Sound.{sound_of as sound}
use Rattle.cqual_tool.specs.Words.{names_in}
use Rattle.cqual_tool.specs.Programs.{last_of, texts_of}
use Rattle.cqual_tool.specs.Shapes.{shape_line}
use Rattle.cqual_tool.specs.Outcome.{Faulty, UnitsRefused}
use Rattle.cqual_tool.proofs.Joining.{refused}
use Rattle.cqual_tool.proofs.preparing.resolved.Goals as goal

-- units whose tapes resolve are a program without a fault, and give what is prepared of it
pub returns-in-Ok : goal.returns-in-Ok
returns-in-Ok c = λ units joined.
    let are : AreTapesOf c.args.tapes.items (sources_in units) =
    record { sound = sound (sources_in units) joined.read; taped = joined.parts.tapes_are } in
    let is = c.in-Ok.ensures in
    c.constrain.ensures units
    (record {
      lexed = joined.parts.tokens_are;
      read = joined.read;
      differ = joined.differ;
      named = is.names (sources_in units) are;
      taped = ap tapes_of is.tapes ∙ joined.parts.tapes_are;
    })
    (is.none (sources_in units) are)

-- units of which the tapes do not resolve are refused by the line of the first fault
pub returns : goal.returns
returns c = λ units joined.
    let named = names_in c.args.named.now in
    let said = c.in_ok-faulty-in-Err.ensures in
    let fault = c.in-Err.fault in
    let Refuses = UnitsRefused named c.args.lattices.now c.args.prelude.now units in
    let are : AreTapesOf c.args.tapes.items (sources_in units) =
    record { sound = sound (sources_in units) joined.read; taped = joined.parts.tapes_are } in
    refused Refuses _ c.in_ok-faulty-in-Err.field-0 said.line
    (subst (λ (lexed : List Lexed). Refuses (shape_line (last_of named.sources) (texts_of named lexed) fault))
    (sym (c.deref.ensures.value ∙ joined.parts.tokens_are))
    (Faulty fault said.reason (c.in-Err.ensures.first (sources_in units) are)))
