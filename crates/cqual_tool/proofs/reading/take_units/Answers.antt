use Rattle.std.proofs.Common.{[], refl, ap}
use Rattle.std.specs.Option.{option_map}
use Rattle.std.proofs.lemmas.Result.{err_from_is_err_and}
use Rattle.cqual_tool.specs.declared.taking.Failure.TheVariants.{NoMemory}
use Rattle.cqual_tool.specs.Words.{names_in}
use Rattle.cqual_tool.specs.Outcome.{total_limit}
use Rattle.cqual_tool.specs.Preparing.{IsEarlier}
use Rattle.cqual_tool.proofs.Joining.{nothing_earlier}
use Rattle.cqual_tool.proofs.Stages.{at_marks, no_prelude, units_lack}
use Rattle.cqual_tool.proofs.reading.take_units.Goals as goal

-- without a prelude, the answer from the sources on is that behind the lattice file
pub returns-clause-reads : goal.returns-clause-reads
returns-clause-reads g c =
    let named = names_in c.args.named.now in
    let lattices = c.args.lattices.now in
    let none = ap (option_map (λ name. name.now)) c.in-None.is in
    let earlier : IsEarlier 1 [] c.nothing_before.result =
    record { are = c.nothing_before.ensures.units; may = nothing_earlier 1 } in
    no_prelude _ _ named lattices none c.requires.some c.take_sources.result
    (at_marks _ _ named lattices [] _
    [] 1 total_limit named.sources c.take_sources.result c.nothing_before.ensures.prelude
    (c.take_sources.ensures.reads [] earlier))

pub take_sources-requires-clause-before : goal.take_sources-requires-clause-before
take_sources-requires-clause-before g c = ([], record { are = c.nothing_before.ensures.units; may = nothing_earlier 1 })

-- where memory is wanting for the words of the lattices, the call ends so before a unit is read
pub returns-in_err-words-clause-reads : goal.returns-in_err-words-clause-reads
returns-in_err-words-clause-reads g c =
    let gives = err_from_is_err_and c.from_residual.result c.from_residual.ensures.1 in
    rw (gives.1, gives.2) (units_lack _ (names_in c.args.named.now) c.args.lattices.now NoMemory refl)
