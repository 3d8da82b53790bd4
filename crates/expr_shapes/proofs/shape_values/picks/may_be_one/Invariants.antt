use Rattle.std.proofs.Common.{◌≡◌}
use Rattle.type_table.specs.Rows.{type_of}
use Rattle.name_rules.specs.Values as rules
use Rattle.expr_shapes.proofs.shape_values.picks.may_be_one.Given as goal

abbrev pub invariant-loop-inside : goal.invariant-loop-inside
invariant-loop-inside l = rules.may_be_one (type_of l.types l.one) (type_of l.types l.other) ≡
    rules.may_be_one (type_of l.types l.fn.one) (type_of l.types l.fn.other)

abbrev pub decreases-loop-inside : goal.decreases-loop-inside
decreases-loop-inside l = l.one
