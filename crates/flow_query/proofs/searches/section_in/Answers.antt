use Rattle.flow_query.proofs.searches.section_in.Goals as goal

-- the solution and the ends of a lattice are those of its section
pub returns-clause-section : goal.returns-clause-section
returns-clause-section c = record {
  owned = c.requires.found.owned;
  low = c.requires.lattice.low;
  solution = c.requires.found.each c.args.lattice c.solved_of.result.now c.solved_of.ensures;
  ends = c.requires.found.ends.each c.args.lattice c.ends_in.result.now c.ends_in.ensures;
}
