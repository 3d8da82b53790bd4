-- The highest variable number of a longer list of constraints.
use Rattle.std.proofs.Common.{◌≡◌, List, [], ◌∷◌, ◌++◌, max, arith}
use Rattle.flow_graph.specs.declared.constraint.Constraint.{Constraint}
use Rattle.flow_graph.specs.System.{highest, vars_of_link}

-- one more constraint makes the highest number the greater of the old one and its own
pub highest-append : (cs : List Constraint) (c : Constraint)
    → highest (cs ++ c ∷ []) ≡ max (highest cs) (vars_of_link c.link)
highest-append [] c = omega arith
highest-append (d ∷ cs) c =
    let deeper : highest (cs ++ c ∷ []) ≡ max (highest cs) (vars_of_link c.link) = highest-append cs c in
    omega (arith, deeper)
