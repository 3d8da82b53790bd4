use Rattle.std.proofs.Common.{refl}
use Rattle.cqual_tool.specs.Words.{names_in}
use Rattle.cqual_tool.specs.Programs.{judging_of}
use Rattle.cqual_tool.proofs.Judging.{certified_as, uncertified_as}
use Rattle.cqual_tool.proofs.ending.certificate.Goals as goal

-- the text that was certified is the certificate of the accepted program
pub returns-in-Some-clause-certified : goal.returns-in-Some-clause-certified
returns-in-Some-clause-certified c = λ units marks is.
    let it = judging_of (names_in c.args.named.now) c.args.lattices.now marks units in
    certified_as it c.args.lattices.now c.args.ready.now.made.graph c.in_ok-text.field-0 c.in-Some.text refl
    is.made.system c.in-Some.is c.in_ok-text.ensures.text c.in_ok-text.ensures.accepted

-- where nothing was certified, the report is the answer for the certificate
pub returns-in-None-clause-certified : goal.returns-in-None-clause-certified
returns-in-None-clause-certified c = λ units marks is.
    let it = judging_of (names_in c.args.named.now) c.args.lattices.now marks units in
    uncertified_as it c.args.lattices.now c.args.ready.now.made.graph c.inferred.result refl is.made.system
    (c.in_ok-text.ensures.rejected c.in-None.is) (c.inferred.ensures.report units marks is.units_are is.differ is.made)
