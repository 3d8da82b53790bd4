use Rattle.std.proofs.Common.{arith, ◌≤◌, length, sym, ap, ◌∙◌}
use Rattle.type_table.specs.Rows.{type_of}
use Rattle.name_rules.specs.Pieces.{bare}
use Rattle.name_state.proofs.NameTypes.Bare.{past_is}
use Rattle.name_state.proofs.name_types.types.Types.bare.Goals as goal

-- the bare type of a number past the table is the base type
pub returns-then-number-len-clause-made : goal.returns-then-number-len-clause-made
returns-then-number-len-clause-made c =
    let a = c.number.ensures in
    let b = c.len.ensures in
    let test = c.if-number-len.true in
    let le : length c.self.inside.table ≤ c.args.ty = omega arith in
    ap (λ rows. type_of rows c.self.inside.plain) (sym c.self.view_is) ∙ c.self.invariant.0.1
    ∙ ap bare (sym (past_is c.self.inside.table c.args.ty le))
    ∙ ap (λ rows. bare (type_of rows c.args.ty)) c.self.view_is
