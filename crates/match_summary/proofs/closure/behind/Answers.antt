use Rattle.match_summary.specs.Reason.{before_of}
use Rattle.match_summary.proofs.Growth.{all_follow, ends_grown, grows_then}
use Rattle.match_summary.proofs.closure.behind.Goals as goal

pub behind_pairs-requires-clause-part : goal.behind_pairs-requires-clause-part
behind_pairs-requires-clause-part c =
    ends_grown c.args.given.now.graph.now c.args.given.now.lattice _ _ c.args.why.now c.args.to
    c.in_ok-behind_end.ensures.grows c.requires.part

pub returns-clause-grows : goal.returns-clause-grows
returns-clause-grows c = grows_then _ _ _ c.in_ok-behind_end.ensures.grows c.in_ok-behind_pairs.ensures.grows

-- a part at whose begin nothing or a pair ends was put behind each of both
pub returns-clause-done : goal.returns-clause-done
returns-clause-done c =
    all_follow c.args.given.now.graph.now c.args.given.now.marks.now c.args.found.now.known c.behind_end.new.found.known
    c.behind_pairs.new.found.known (before_of c.args.why.now) c.args.to c.in_ok-behind_end.ensures.grows
    c.in_ok-behind_pairs.ensures.grows c.in_ok-behind_end.ensures.done c.in_ok-behind_pairs.ensures.done
