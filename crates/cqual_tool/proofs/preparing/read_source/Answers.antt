use Rattle.cqual_tool.specs.Outcome.{SourceFails, SourceLexes, SourceRefused, Unspelled}
use Rattle.cqual_tool.proofs.Joining.{refused}
use Rattle.cqual_tool.proofs.preparing.read_source.Goals as goal

-- bytes that spell tokens give what is made of the tokens behind the earlier units
pub returns-in-Ok : goal.returns-in-Ok
returns-in-Ok c = λ lattices before mean earlier.
    let lexed = c.in-Ok.ensures in
    let lexes : SourceLexes c.args.wide lattices c.args.unit c.args.bytes.now c.in-Ok.tokens = record {
      unit = lexed.unit;
      dialect = lexed.wide;
      bytes_are = lexed.bytes;
      marks = record { words = c.args.words.now; mean = mean; spelled = lexed.spelled; keywords = lexed.keywords };
    } in
    c.parsed.ensures c.args.wide lattices c.args.unit c.args.bytes.now before earlier lexes

-- the line of bytes that spell no tokens is that of a source that is refused
pub returns : goal.returns
returns c = λ lattices before mean earlier.
    let fault = c.in-Err.fault in
    let said = c.in_ok-source_refused-in-Err.ensures in
    let fails : SourceFails c.args.wide lattices c.args.unit c.args.bytes.now fault = record {
      words = c.args.words.now;
      mean = mean;
      refused = c.in-Err.ensures.refused;
      reason = said.reason;
    } in
    refused (SourceRefused c.args.wide lattices c.args.unit c.args.file.now c.args.bytes.now) _
    c.in_ok-source_refused-in-Err.field-0 said.line (Unspelled fault fails)
