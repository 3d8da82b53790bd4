use Rattle.std.proofs.Common.{List, subst, arith}
use Rattle.std.specs.List.{Contains}
use Rattle.flow_query.specs.declared.ends.Constant.{Constant}
use Rattle.flow_query.specs.Walks.{AllDone}
use Rattle.flow_query.proofs.Keeping.{all_next, all_taken, at_index, starts_done}
use Rattle.flow_query.proofs.walks.find_all.Goals as goal

-- a start of the list is a constant of the graph, as `find_next` requires
pub find_next-requires-clause-constant : goal.find_next-requires-clause-constant
find_next-requires-clause-constant c =
    let own = c.requires.found.ends.each c.args.lattice c.ends_in.result.now c.ends_in.ensures in
    let Of : List Constant → Type 0 = λ list. Contains list c.start-item.result in
    own.starts.only c.start-item.result (subst Of c.as_slice-starts.ensures.value
    (at_index c.as_slice-starts.result.now c.loop-start.start-index c.start-item.result (omega arith) c.start-item.is))

-- the walks of one start more keep those of the starts so far
pub loop-start-preserved : goal.loop-start-preserved
loop-start-preserved c =
    let sys = c.args.found.now.graph.now in
    record {
      finder = c.in_ok-finder.ensures.finder;
      sound = c.in_ok-finder.ensures.sound;
      last = c.in_ok-finder.ensures.done;
      done = all_next (λ (start : Constant). AllDone sys c.args.lattice c.find_next.new.walks start.at c.args.vars.now)
          c.as_slice-starts.result.now c.loop-start.start-index
          c.start-item.result (omega arith) c.start-item.is (λ start there v in_it. c.in_ok-finder.ensures.stays
          start.at v (c.loop-start.invariant.done start there v in_it)) c.in_ok-finder.ensures.done;
    }

-- behind the last start all walks from the variables of constants are there
pub returns-clause-done : goal.returns-clause-done
returns-clause-done c =
    let sys = c.args.found.now.graph.now in
    let own = c.requires.found.ends.each c.args.lattice c.ends_in.result.now c.ends_in.ensures in
    let Of : List Constant → Type 0 = λ list. (start : Constant) → Contains list start
    → AllDone sys c.args.lattice c.loop-start.walks start.at c.args.vars.now in
    starts_done sys c.args.lattice c.loop-start.walks c.args.vars.now c.ends_in.result.now.starts.items own.starts
    (subst Of c.as_slice-starts.ensures.value
    (all_taken (λ (start : Constant). AllDone sys c.args.lattice c.loop-start.walks start.at c.args.vars.now)
    c.as_slice-starts.result.now c.loop-start.start-index c.loop-start.invariant.done (omega arith)))
