-- A constraint that stands with its link.
use Rattle.std.proofs.Common.{◌≡◌, Some}
use Rattle.flow_graph.specs.declared.constraint.Constraint.{Constraint}

-- a constraint is told by what stands in `Some`
pub some_constraint : {x y : Constraint} → Some x ≡ Some y → x ≡ y
some_constraint e = cc
