-- Rows one behind the other, in each world that is shown.
use Rattle.std.proofs.Common.{List, ◌++◌, Result}
use Rattle.std.specs.Prelude.{IfErr}
use Rattle.std.proofs.lemmas.Result.{IfErr-weaker}
use Rattle.flow_graph.specs.declared.constraint.Constraint.{Constraint}
use Rattle.flow_graph.specs.declared.graph.GraphFault.{GraphFault}
use Rattle.flow_graph.specs.System.{System}
use Rattle.row_rules.specs.Worlds.{World}
use Rattle.row_world.specs.declared.known.Known.{Known}
use Rattle.row_adding.specs.Adding.{Adds, Halts}
use Rattle.row_adding.proofs.Lists.{stop_back}

-- an adding that stops in the second row
pub halts_behind : {T : Type 0} (r : Result T GraphFault) (k : Known) (old middle new : System)
    (xs ys : World → List Constraint)
    → Adds k old middle xs
    → IfErr r (λ fault. Halts k middle new fault ys) → IfErr r (λ fault. Halts k old new fault (λ w. xs w ++ ys w))
halts_behind r k old middle new xs ys first halts =
    IfErr-weaker r (λ fault. Halts k middle new fault ys) (λ fault. Halts k old new fault (λ w. xs w ++ ys w))
    (λ fault stop w s. stop_back old middle new fault (xs w) (ys w) (first w s) (stop w s)) halts
