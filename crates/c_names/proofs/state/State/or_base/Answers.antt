use Rattle.std.proofs.Common.{refl, sym, ap, ◌∙◌}
use Rattle.type_table.specs.Rows.{type_of}
use Rattle.name_rules.specs.Identifiers.{type_or_base}
use Rattle.expr_shapes.specs.ShapeValues.Views.{some_type}
use Rattle.c_names.proofs.state.State.or_base.Goals as goal

-- where there is no type the base type stands for it
pub returns-in-None-clause-made : goal.returns-in-None-clause-made
returns-in-None-clause-made c =
    c.base.ensures.is (type_of c.args.types.now) (λ n lt. refl)
    ∙ ap (λ o. type_or_base (some_type c.args.types.now o)) (sym c.in-None.is)
