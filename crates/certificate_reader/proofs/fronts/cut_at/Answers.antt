use Rattle.certificate_reader.proofs.FrontLemmas.{numeral_taken}
use Rattle.certificate_reader.proofs.fronts.cut_at.Goals as goal

pub returns-then-is_numeral : goal.returns-then-is_numeral
returns-then-is_numeral c =
    numeral_taken c.args.text.now c.args.at c.args.number c.requires.number c.requires.digits
    (c.is_numeral.ensures c.if-is_numeral.true)
