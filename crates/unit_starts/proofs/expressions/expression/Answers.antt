use Rattle.std.proofs.Common.{sym, ◌∙◌, ap}
use Rattle.row_rules.specs.RowSteps.Starting.{expr_op_starts}
use Rattle.expr_shapes.specs.ShapeStacks.Views.{state_in}
use Rattle.name_tables.specs.UnitSpelling.Spelled.{spelling_of}
use Rattle.unit_shapes.specs.Views.{names_in}
use Rattle.unit_starts.proofs.Fresh.{fresh_condition, fresh_prefix}
use Rattle.unit_starts.proofs.expressions.expression.Goals as goal

-- `?:` begins a fresh skeleton where the rules begin one, by its zeros and its types
pub returns-in-Cond : goal.returns-in-Cond
returns-in-Cond c =
    let rows = c.args.types.now in
    let u = spelling_of c.args.spelling.now in
    let s = names_in rows c.args.names.now in
    let st = state_in rows c.args.stacks.now in
    let it = c.in-Cond in
    let known = c.new-around.ensures in
    c.condition.ensures ∙ fresh_condition u s c.args.rounds.now c.new-around.result known.enclosing known.quiet st
    it.has_middle it.token it.first it.last c.place-in-Cond.result c.place-in-Cond.ensures
    ∙ ap (expr_op_starts u s st c.args.rounds.now) (sym it.is)

-- an operator before its operand begins a fresh skeleton where the rules begin one, by its sign and its operand
pub returns-in-Prefix : goal.returns-in-Prefix
returns-in-Prefix c =
    let rows = c.args.types.now in
    let u = spelling_of c.args.spelling.now in
    let s = names_in rows c.args.names.now in
    let st = state_in rows c.args.stacks.now in
    let it = c.in-Prefix in
    let known = c.new-around.ensures in
    c.prefix.ensures ∙ fresh_prefix u s c.args.rounds.now c.new-around.result known.enclosing known.quiet st it.sign
    it.token it.last it.aims c.carries-carries.result c.place-in-Prefix.result c.place-in-Prefix.ensures
    c.carries-carries.ensures known.access ∙ ap (expr_op_starts u s st c.args.rounds.now) (sym it.is)
