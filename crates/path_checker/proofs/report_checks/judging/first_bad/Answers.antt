use Rattle.std.proofs.Common.{◌≤◌, length, map, take, drop, suc, arith, take_all}
use Rattle.path_checker.specs.Report.{shape_of}
use Rattle.path_checker.proofs.ReportChecks.Parts.{parts_at}
use Rattle.path_checker.proofs.report_checks.judging.first_bad.Goals as goal

-- a proof that fails, behind such as hold, is the first that fails
pub returns-in-Err-clause-first : goal.returns-in-Err-clause-first
returns-in-Err-clause-first c =
    let i = c.loop-proof.proof-index in
    let proofs = c.args.proofs.now in
    record {
      before = map shape_of (take i proofs);
      proof = shape_of c.proof-item.result;
      behind = map shape_of (drop (suc i) proofs);
      parts = parts_at shape_of proofs i c.proof-item.result c.loop-proof-test.true c.proof-item.is;
      hold = c.loop-proof.invariant.0;
      fails = c.in-Err.ensures.fails;
    }

-- when no proof is left, the steps of each hold
pub returns-clause-first : goal.returns-clause-first
returns-clause-first c =
    let whole : length c.args.proofs.now ≤ c.loop-proof.proof-index = omega (arith, c.loop-proof-test.false) in
    rw (take_all _ _ whole) at c.loop-proof.invariant.0
