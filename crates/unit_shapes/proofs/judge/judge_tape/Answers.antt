use Rattle.std.proofs.Common.{◌++◌, Option, sym, ◌∙◌, ap, subst}
use Rattle.name_rules.specs.Faults.{Fault}
use Rattle.name_rules.specs.ShapeSteps.State.{nothing}
use Rattle.name_rules.specs.ShapeSteps.Found.{faults_found}
use Rattle.expr_shapes.specs.ShapeStacks.Stacked.{Stacked}
use Rattle.expr_shapes.specs.ShapeStacks.Views.{state_in}
use Rattle.name_tables.specs.UnitSpelling.Spelled.{spelling_of}
use Rattle.unit_shapes.specs.Faults.{some_fault_of, keep, IsFirstOf}
use Rattle.unit_shapes.specs.Views.{names_in}
use Rattle.unit_shapes.proofs.Keeping.{kept_on}
use Rattle.unit_shapes.proofs.judge.judge_tape.Goals as goal

-- the best fault kept is the first of the faults before and those along the tape from no operands
pub returns : goal.returns
returns c =
    λ faults first.
    let rows = c.args.types.now in
    let u = spelling_of c.args.spelling.now in
    let s = names_in rows c.args.names.now in
    let tape = c.args.tape.now in
    let found = faults_found u s nothing tape in
    let old = some_fault_of c.args.best.now in
    let kept = c.in_ok-judge.ensures
    ∙ ap (λ (st : Stacked). keep old (faults_found u s (state_in rows st) tape)) c.new-stacks.ensures in
    subst (λ (o : Option Fault). IsFirstOf o (faults ++ found)) (sym kept) (kept_on old faults found first)
