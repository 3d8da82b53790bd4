use Rattle.std.proofs.Common.{◌≡◌, ◌+◌, ◌<◌, ◌≤◌, arith, codes, false, List, [], ◌∷◌, length, sym, ◌∙◌, subst}
use Rattle.std.proofs.lemmas.Result.{IfOk-weaker}
use Rattle.cqual_tool.specs.Outcome.{IsDecided, source_limit}
use Rattle.cqual_tool.specs.Preparing.{IsEarlier, IsOneMore}
use Rattle.cqual_tool.proofs.Joining.{at_number, nothing_earlier}
use Rattle.cqual_tool.proofs.Summing.{made_too_large, made_unread, of_its_bytes}
use Rattle.cqual_tool.proofs.making.of_source.Goals as goal

-- a made source over the limit of a source is answered by the line of a file that is too large
pub returns-then-bytes-gt-SOURCE_LIMIT-clause-outcome : goal.returns-then-bytes-gt-SOURCE_LIMIT-clause-outcome
returns-then-bytes-gt-SOURCE_LIMIT-clause-outcome c = λ read.
    let number = c.args.number in
    let lattices = c.args.lattices.now in
    let bytes = c.args.bytes.now in
    let test = c.if-bytes-gt-SOURCE_LIMIT.true in
    let large : source_limit < length bytes = omega arith in
    IfOk-weaker c.too_large.result _ _
    (λ answer says. of_its_bytes number lattices bytes _ _ c.requires read
    (made_too_large number lattices bytes answer large says)) c.too_large.ensures

-- the line that refuses the tokens of a made source is its answer
pub returns-in-Refused-clause-outcome : goal.returns-in-Refused-clause-outcome
returns-in-Refused-clause-outcome c = λ read.
    let number = c.args.number in
    let lattices = c.args.lattices.now in
    let bytes = c.args.bytes.now in
    let marks = c.nothing_before.result.prelude in
    let test = c.if-bytes-gt-SOURCE_LIMIT.false in
    let within : length bytes ≤ source_limit = omega arith in
    let may : IsEarlier 1 [] c.nothing_before.result =
    record { are = c.nothing_before.ensures.units; may = nothing_earlier 1 } in
    let one =
    at_number false lattices 1 c.new-unit.result (codes "generated.c") bytes [] marks c.nothing_before.result
    c.in_ok-answer.field-0 c.new-unit.ensures may (c.in_ok-answer.ensures lattices [] c.in_ok-words.ensures) in
    let is = subst (IsOneMore false lattices 1 (codes "generated.c") bytes [] marks) c.in-Refused.is one in
    of_its_bytes number lattices bytes _ _ c.requires read
    (made_unread number lattices bytes within c.in-Refused.answer is.0 is.1)

-- the answer that refuses a made source is malformed, and so decided
pub returns-in-Refused-clause-decided : goal.returns-in-Refused-clause-decided
returns-in-Refused-clause-decided c =
    let lattices = c.args.lattices.now in
    let bytes = c.args.bytes.now in
    let marks = c.nothing_before.result.prelude in
    let may : IsEarlier 1 [] c.nothing_before.result =
    record { are = c.nothing_before.ensures.units; may = nothing_earlier 1 } in
    let one =
    at_number false lattices 1 c.new-unit.result (codes "generated.c") bytes [] marks c.nothing_before.result
    c.in_ok-answer.field-0 c.new-unit.ensures may (c.in_ok-answer.ensures lattices [] c.in_ok-words.ensures) in
    let is = subst (IsOneMore false lattices 1 (codes "generated.c") bytes [] marks) c.in-Refused.is one in
    subst IsDecided (sym is.0) tt

-- the one unit of the made source is an earlier unit for `of_units`
pub of_units-requires : goal.of_units-requires
of_units-requires c =
    let lattices = c.args.lattices.now in
    let bytes = c.args.bytes.now in
    let marks = c.nothing_before.result.prelude in
    let may : IsEarlier 1 [] c.nothing_before.result =
    record { are = c.nothing_before.ensures.units; may = nothing_earlier 1 } in
    let one =
    at_number false lattices 1 c.new-unit.result (codes "generated.c") bytes [] marks c.nothing_before.result
    c.in_ok-answer.field-0 c.new-unit.ensures may (c.in_ok-answer.ensures lattices [] c.in_ok-words.ensures) in
    let is = subst (IsOneMore false lattices 1 (codes "generated.c") bytes [] marks) c.in-Units.is one in
    record { before = (1 + 1, is.0 ∷ [], is.2) }

-- the answer for the unit of a made source within its limit is that for the source
pub returns-clause-outcome : goal.returns-clause-outcome
returns-clause-outcome c = λ read.
    let number = c.args.number in
    let lattices = c.args.lattices.now in
    let bytes = c.args.bytes.now in
    let marks = c.nothing_before.result.prelude in
    let test = c.if-bytes-gt-SOURCE_LIMIT.false in
    let within : length bytes ≤ source_limit = omega arith in
    let may : IsEarlier 1 [] c.nothing_before.result =
    record { are = c.nothing_before.ensures.units; may = nothing_earlier 1 } in
    let one =
    at_number false lattices 1 c.new-unit.result (codes "generated.c") bytes [] marks c.nothing_before.result
    c.in_ok-answer.field-0 c.new-unit.ensures may (c.in_ok-answer.ensures lattices [] c.in_ok-words.ensures) in
    let is = subst (IsOneMore false lattices 1 (codes "generated.c") bytes [] marks) c.in-Units.is one in
    IfOk-weaker c.of_units.result _ _ (λ answer of. of_its_bytes number lattices bytes _ _ c.requires read of)
    (c.of_units.ensures.outcome (1 + 1) is.0 is.2 (is.3 ∙ c.nothing_before.ensures.prelude) bytes within is.1)
