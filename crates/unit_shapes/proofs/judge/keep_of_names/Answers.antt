use Rattle.std.proofs.Common.{◌++◌, Option, map, sym, subst}
use Rattle.name_rules.specs.Faults.{Fault}
use Rattle.name_state.specs.UnitNames.Shown.{fault_of}
use Rattle.unit_shapes.specs.Faults.{some_fault_of, IsFirstOf}
use Rattle.unit_shapes.proofs.Keeping.{kept_on}
use Rattle.unit_shapes.proofs.judge.keep_of_names.Goals as goal

-- the best fault kept is the first of the faults before and of these faults of names
pub returns : goal.returns
returns c =
    λ faults first.
    let more = map fault_of c.args.more.now in
    subst (λ (o : Option Fault). IsFirstOf o (faults ++ more)) (sym c.keep_each.ensures)
    (kept_on (some_fault_of c.args.best.now) faults more first)
