use Rattle.std.proofs.Common.{◌<◌, All, map, take}
use Rattle.lattice_core.specs.View.{orders_of}
use Rattle.path_checker.specs.Report.{shape_of}
use Rattle.path_checker.specs.ReportChecks.Checks.{StepsHold, Refutes}
use Rattle.path_checker.proofs.report_checks.judging.first_bad.Given as goal

-- the proofs before this one hold, and if there is one, the system is refuted
abbrev pub invariant-loop-proof : goal.invariant-loop-proof
invariant-loop-proof l =
    All (StepsHold l.graph (orders_of l.lattices)) (map shape_of (take l.proof-index l.proofs))
    × (0 < l.proof-index → Refutes l.graph (orders_of l.lattices))
