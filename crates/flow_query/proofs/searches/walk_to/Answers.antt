use Rattle.flow_query.proofs.Walking.{if_ok, reached, summarised, walked}
use Rattle.flow_query.proofs.searches.walk_to.Goals as goal

pub walk-requires-clause-summaries : goal.walk-requires-clause-summaries
walk-requires-clause-summaries c =
    summarised c.args.section.now c.args.search.now c.args.to c.requires.section c.requires.search

pub walk-requires-clause-reached : goal.walk-requires-clause-reached
walk-requires-clause-reached c =
    reached c.args.section.now c.args.search.now c.args.to c.requires.section c.requires.search c.requires.goes

-- a walk that is shown holds, and its sub-paths differ in their ends
pub returns : goal.returns
returns c =
    if_ok c.walk.result c.walk.ensures
    (walked c.args.section.now c.args.search.now c.args.to c.requires.section c.requires.search c.walk_shown.ensures)
