use Rattle.std.proofs.Common.{not, ◌∙◌, ap}
use Rattle.name_rules.specs.Values.{Shape}
use Rattle.expr_shapes.proofs.faults.is_no_place.Goals as goal

pub returns : goal.returns
returns c = ap not (c.is_place.ensures c.args.types.now ∙
    ap (λ (shape : Shape). shape.is_place) (c.shape_at.ensures c.args.types.now))
