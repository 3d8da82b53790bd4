use Rattle.std.proofs.Common.{subst, sym}
use Rattle.std.proofs.lemmas.Result.{err_from_is_err_and}
use Rattle.cqual_tool.specs.Words.{names_in}
use Rattle.cqual_tool.specs.Outcome.{IsDecided}
use Rattle.cqual_tool.specs.Preparing.{IsPrepared, IsReady}
use Rattle.cqual_tool.specs.declared.preparing.Prepared.TheVariants.{Refused}
use Rattle.cqual_tool.proofs.Stages.{program_goes, program_lacks, program_refused}
use Rattle.cqual_tool.proofs.reading.finish.Goals as goal

-- the prepared program is owned, names elements and may be signed, as the call of `end` requires
pub end-requires : goal.end-requires
end-requires g c =
    let named = names_in c.args.named.now in
    let lattices = c.args.lattices.now in
    let marks = c.args.earlier.prelude in
    let units = c.requires.before.1 in
    let is : IsReady named lattices marks units c.in-Program.ready =
    subst (IsPrepared named lattices marks units) c.in-Program.is
    (c.in_ok-answer.ensures c.requires.before.0 units c.requires.before.2) in
    record { named = is.within; owned = is.owned; elements = is.elements; signs = is.signs }

-- where memory is wanting to prepare the program, nothing is read behind the sources
pub returns-in_err-answer-clause-reads : goal.returns-in_err-answer-clause-reads
returns-in_err-answer-clause-reads g c = λ number left units earlier.
    let gives = err_from_is_err_and c.from_residual.result c.from_residual.ensures.1 in
    rw (gives.1, gives.2)
    (program_lacks _ (names_in c.args.named.now) c.args.lattices.now units c.args.earlier.prelude number left)

-- the line that refuses the units is the answer behind the sources
pub returns-in-Refused-clause-reads : goal.returns-in-Refused-clause-reads
returns-in-Refused-clause-reads g c = λ number left units earlier.
    let named = names_in c.args.named.now in
    let lattices = c.args.lattices.now in
    let marks = c.args.earlier.prelude in
    let answer = c.in-Refused.answer in
    let is : IsPrepared named lattices marks units (Refused answer) =
    subst (IsPrepared named lattices marks units) c.in-Refused.is (c.in_ok-answer.ensures number units earlier) in
    program_refused _ named lattices units marks number left answer is.0 is.1

-- what is asked of the ready program is the answer behind the sources
pub returns-in-Program-clause-reads : goal.returns-in-Program-clause-reads
returns-in-Program-clause-reads g c = λ number left units earlier.
    let named = names_in c.args.named.now in
    let lattices = c.args.lattices.now in
    let marks = c.args.earlier.prelude in
    let is : IsReady named lattices marks units c.in-Program.ready =
    subst (IsPrepared named lattices marks units) c.in-Program.is (c.in_ok-answer.ensures number units earlier) in
    program_goes _ _ named lattices units marks number left is.counted c.end.result (c.end.ensures.reads marks units is)

-- the answer that refuses the units is malformed, and so decided
pub returns-in-Refused-clause-decided : goal.returns-in-Refused-clause-decided
returns-in-Refused-clause-decided g c =
    let units = c.requires.before.1 in
    let is : IsPrepared (names_in c.args.named.now) c.args.lattices.now c.args.earlier.prelude units
    (Refused c.in-Refused.answer) =
    subst (IsPrepared (names_in c.args.named.now) c.args.lattices.now c.args.earlier.prelude units) c.in-Refused.is
    (c.in_ok-answer.ensures c.requires.before.0 units c.requires.before.2) in
    subst IsDecided (sym is.0) tt
