use Rattle.std.proofs.lemmas.Result.{on_ok_weaker}
use Rattle.match_summary.proofs.Followed.{entered_by}
use Rattle.match_summary.proofs.closure.open.Goals as goal

-- a `Leave` is opened at an `Enter` when the group was put behind all that leads to the `Enter`
pub returns-clause-done : goal.returns-clause-done
returns-clause-done c = on_ok_weaker c.behind.result
    (λ all. entered_by c.args.given.now.graph.now c.args.given.now.lattice c.args.found.now.known
    c.behind.new.found.known c.args.from c.args.back.now.site c.args.other c.constraint-constraint.result
    c.constraint-constraint.ensures.there c.args.given.now.marks.now c.in-Some.call.site c.in-Some.call.from
    c.in-Some.call.to c.args.back.now.to c.in-Some.ensures (λ same. all)) c.behind.ensures.done
