use Rattle.std.proofs.Common.{◌≤◌, length, sym, ◌∙◌, ap, arith}
use Rattle.std.proofs.lemmas.Option.{slice_get_past}
use Rattle.qual_base.proofs.Tests.{not_below}
use Rattle.certificate_text.specs.Names.{ends_in}
use Rattle.certificate_text.proofs.EndLemmas.{ends_length}
use Rattle.certificate_reader.specs.Grammar.{names_at}
use Rattle.certificate_reader.proofs.reader.is_name.Goals as goal

-- an end past all constraints is the name of no variable
pub returns-else-end-ends : goal.returns-else-end-ends
returns-else-end-ends c =
    let sys = c.args.scene.now.graph.now in
    let past : length (ends_in sys) ≤ c.args.end =
    omega (arith, c.if-end-ends.false, c.ends.ensures, ends_length sys.constraints) in
    not_below c.args.end c.ends.result (omega (arith, c.if-end-ends.false))
    ∙ sym (ap (names_at sys c.args.end) (slice_get_past (ends_in sys) c.args.end past))
