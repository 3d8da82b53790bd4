use Rattle.std.proofs.Common.{◌≡◌}
use Rattle.std.proofs.lemmas.Result.{on_ok_weaker}
use Rattle.flow_graph.specs.declared.constraint.Link.TheVariants.{Leave}
use Rattle.flow_graph.specs.PathRules.{link_begins}
use Rattle.match_summary.proofs.Followed.{enter_followed, leave_followed, key_of_link}
use Rattle.match_summary.proofs.closure.follow.Goals as goal

-- an `Enter` at the end of the path is followed when all its groups were closed
pub returns-in-Enter-clause-done : goal.returns-in-Enter-clause-done
returns-in-Enter-clause-done c = on_ok_weaker c.enter.result
    (enter_followed c.args.given.now.graph.now c.args.given.now.lattice c.args.given.now.marks.now
    c.args.found.now.known c.enter.new.found.known c.args.from c.args.to c.args.edge c.constraint-constraint.result
    c.constraint-constraint.ensures.there c.in-Enter.site c.in-Enter.before c.in-Enter.inner c.in-Enter.is)
    c.enter.ensures.done

-- a `Leave` at the end of the path is followed when it was opened at all `Enter`s of its site
pub returns-in-Leave-clause-done : goal.returns-in-Leave-clause-done
returns-in-Leave-clause-done c =
    let key = key_of_link c.args.given.now.graph.now c.args.given.now.lattice c.args.edge c.constraint-constraint.result
    c.constraint-constraint.ensures.there link_begins c.args.to
    (Leave c.in-Leave.site c.in-Leave.last c.in-Leave.end) c.in-Leave.is c.requires.edge in
    let at : c.in-Leave.last ≡ c.args.to = cc in
    on_ok_weaker c.leave.result (leave_followed c.args.given.now.graph.now c.args.given.now.lattice
    c.args.given.now.marks.now c.args.found.now.known c.leave.new.found.known c.args.from c.args.to c.args.edge
    c.constraint-constraint.result c.constraint-constraint.ensures.there c.in-Leave.site c.in-Leave.last c.in-Leave.end
    c.in-Leave.is at) c.leave.ensures.done
