use Rattle.std.proofs.Common.{arith, Some, ap, sym}
use Rattle.certificate_reader.proofs.FrontLemmas.{name_taken}
use Rattle.certificate_reader.proofs.fronts.name.Goals as goal

pub returns-in-Some-after : goal.returns-in-Some-after
returns-in-Some-after c =
    name_taken c.args.text.now c.in-Some.rest.now c.in-Some-after.behind.now c.in-Some.number 97 c.end_of.result
    c.in-Some.ensures c.in-Some-after.ensures (omega arith) (ap Some (sym c.end_of.ensures))

-- a numeral and the letter `b` are the name of a constraint's second end
pub returns-in-Some-after-2 : goal.returns-in-Some-after-2
returns-in-Some-after-2 c =
    name_taken c.args.text.now c.in-Some.rest.now c.in-Some-after-2.behind.now c.in-Some.number 98
    c.end_of-in-Some-after-2.result c.in-Some.ensures c.in-Some-after-2.ensures (omega arith)
    (ap Some (sym c.end_of-in-Some-after-2.ensures))
