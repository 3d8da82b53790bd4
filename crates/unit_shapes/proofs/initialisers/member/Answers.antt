use Rattle.std.proofs.Common.{sym, ◌∙◌}
use Rattle.std.proofs.lemmas.Result.{on_ok_weaker}
use Rattle.expr_shapes.specs.ShapeStacks.Views.{state_in, braces_in}
use Rattle.unit_shapes.specs.Views.{names_in}
use Rattle.unit_shapes.proofs.Designating.{member_named, none_named}
use Rattle.unit_shapes.proofs.initialisers.member.Goals as goal

-- a designator of a member moves the innermost list to that member, where the list initialises something
pub returns-in_ok-behind : goal.returns-in_ok-behind
returns-in_ok-behind c =
    let rows = c.args.types.now in
    let all = (names_in rows c.args.names.now).aggregates in
    on_ok_weaker c.enter.result
    (λ entered. member_named all c.args.name (state_in rows c.args.stacks.now) (state_in rows c.leave_list.new.self)
    (state_in rows c.enter.new.self) (braces_in rows c.braces-it.result) (braces_in rows c.with_member-after.result)
    (c.braces-it.ensures rows) (sym (c.is_listed.ensures rows) ∙ c.if-is_listed.true) c.with_member-after.ensures
    (c.leave_list.ensures rows) (entered rows)) c.enter.ensures

-- a designator of a member leaves the stacks as they are where no list initialises something
pub returns-else-is_listed : goal.returns-else-is_listed
returns-else-is_listed c =
    let rows = c.args.types.now in
    let all = (names_in rows c.args.names.now).aggregates in
    none_named all c.args.name (state_in rows c.args.stacks.now) (braces_in rows c.braces-it.result)
    (c.braces-it.ensures rows) (sym (c.is_listed.ensures rows) ∙ c.if-is_listed.false)
