use Rattle.std.proofs.Common.{sym, ap, ◌∙◌}
use Rattle.type_table.specs.Types.{pointer}
use Rattle.name_state.proofs.NameTypes.Knowing.{knows_before, decayed_function, decayed_other}
use Rattle.name_state.proofs.name_types.types.Types.decayed.Goals as goal

-- the pointer made of a function type is what the type decays to
pub returns-in_ok-at-clause-made : goal.returns-in_ok-at-clause-made
returns-in_ok-at-clause-made c =
    λ t knows.
    let before = knows_before _ _ t c.in_ok-at.ensures.grown knows in
    let is = sym (c.is_function.ensures t before) ∙ c.if-is_function.true in
    c.in_ok-at.ensures.made t knows ∙ ap (λ ws. pointer ws (t c.args.ty)) c.new.ensures.items
    ∙ sym (decayed_function (t c.args.ty) is)

pub returns-else-is_function-clause-made : goal.returns-else-is_function-clause-made
returns-else-is_function-clause-made c =
    λ t knows. sym (decayed_other (t c.args.ty) (sym (c.is_function.ensures t knows) ∙ c.if-is_function.false))
