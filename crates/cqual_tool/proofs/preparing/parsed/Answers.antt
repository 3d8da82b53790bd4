use Rattle.std.proofs.Common.{refl}
use Rattle.c_types.specs.Sources.{UnitRead}
use Rattle.cqual_tool.specs.Outcome.{SourceRefused, Unparsed}
use Rattle.cqual_tool.proofs.Joining.{refused}
use Rattle.cqual_tool.proofs.preparing.parsed.Goals as goal

-- tokens that parse make a source that parses, and it joins the earlier units
pub returns-in-Ok : goal.returns-in-Ok
returns-in-Ok c = λ wide lattices number bytes before earlier lexes.
    let taped = c.in-Ok.ensures.tape in
    let unit : UnitRead = record { lexed = c.args.tokens; items = taped.items } in
    c.added.ensures wide lattices number c.args.file.now bytes before unit earlier
    (record { lexed_is = refl; taped = taped.taped })
    (record { lexes = lexes; formed = taped.formed })

-- the line of tokens of no well-formed unit is that of a source that is refused
pub returns : goal.returns
returns c = λ wide lattices number bytes before earlier lexes.
    let said = c.in_ok-unit_refused-in-Err.ensures in
    refused (SourceRefused wide lattices number c.args.file.now bytes) _ c.in_ok-unit_refused-in-Err.field-0 said.line
    (Unparsed _ c.in-Err.fault lexes said.reason (c.in-Err.ensures.refused c.in-Err.fault refl said.reason))
