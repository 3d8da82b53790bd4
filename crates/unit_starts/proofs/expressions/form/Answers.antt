use Rattle.std.proofs.Common.{sym, ◌∙◌, ap}
use Rattle.row_rules.specs.RowSteps.Starting.{form_op_starts}
use Rattle.expr_shapes.specs.ShapeStacks.Views.{state_in}
use Rattle.name_tables.specs.UnitSpelling.Spelled.{spelling_of}
use Rattle.unit_shapes.specs.Views.{names_in}
use Rattle.unit_starts.proofs.Fresh.{fresh_choice, fresh_selection}
use Rattle.unit_starts.proofs.expressions.form.Goals as goal

-- a choice begins a fresh skeleton where several candidates are left
pub returns-in-Choose : goal.returns-in-Choose
returns-in-Choose c =
    let rows = c.args.types.now in
    let u = spelling_of c.args.spelling.now in
    let s = names_in rows c.args.names.now in
    let st = state_in rows c.args.stacks.now in
    let it = c.in-Choose in
    let known = c.new-around.ensures in
    c.choice.ensures
    ∙ fresh_choice u s c.args.rounds.now c.new-around.result known.enclosing known.quiet st it.token
    c.place-in-Choose.result c.place-in-Choose.ensures
    ∙ ap (form_op_starts u s st c.args.rounds.now) (sym it.is)

-- a selection by a type begins a fresh skeleton where several candidates are left
pub returns-in-Generic : goal.returns-in-Generic
returns-in-Generic c =
    let rows = c.args.types.now in
    let u = spelling_of c.args.spelling.now in
    let s = names_in rows c.args.names.now in
    let st = state_in rows c.args.stacks.now in
    let it = c.in-Generic in
    let known = c.new-around.ensures in
    c.selection.ensures
    ∙ fresh_selection u s c.args.rounds.now c.new-around.result known.enclosing known.quiet st it.token it.count
    c.place-in-Generic.result c.place-in-Generic.ensures
    ∙ ap (form_op_starts u s st c.args.rounds.now) (sym it.is)
