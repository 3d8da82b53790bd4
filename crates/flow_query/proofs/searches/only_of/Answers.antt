use Rattle.std.proofs.Common.{subst}
use Rattle.flow_query.specs.declared.searches.Finder.{Finder}
use Rattle.flow_query.specs.Searches.{IsFinder}
use Rattle.flow_query.proofs.searches.only_of.Goals as goal

-- a search of another lattice or variable leaves its room idle, with nothing set
pub returns-else-eq-clause-finder : goal.returns-else-eq-clause-finder
returns-else-eq-clause-finder c =
    let sys = c.args.section.now.graph.now in
    let search = c.in-Kept.search in
    let Of : Finder → Type 0 = λ finder. IsFinder sys finder in
    c.into_room.ensures sys search.lattice search.start (subst Of c.in-Kept.is c.requires)
