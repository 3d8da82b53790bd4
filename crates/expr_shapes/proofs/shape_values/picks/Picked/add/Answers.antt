use Rattle.std.proofs.Common.{◌∙◌, ap, not, refl, ◌||◌, is_some}
use Rattle.name_rules.specs.Values.{higher_of}
use Rattle.expr_shapes.specs.ShapeValues.Picks.{candidate_in}
use Rattle.expr_shapes.specs.ShapeValues.Views.{some_value_type}
use Rattle.expr_shapes.proofs.ShapeValues.Candidates.{zero_added, other_added}
use Rattle.expr_shapes.proofs.shape_values.picks.Picked.add.Goals as goal

-- a candidate that is no zero is added to all and to those that are none
pub returns-then-not-is_zero : goal.returns-then-not-is_zero
returns-then-not-is_zero c =
    λ all p. other_added c.args.types.now all (candidate_in c.args.types.now c.args.shape.now c.args.is_zero)
    c.args.self.now _ p
    record {
      count = c.more-self.ensures;
      first = c.first_with-self.ensures c.args.types.now;
      unknown = c.unknown_with-self.ensures c.args.types.now ∙
          ap (λ t. c.args.self.now.is_unknown || not (is_some t)) c.value-value.ensures;
      highest = c.higher-self.ensures ∙
          ap (λ t. higher_of (some_value_type c.args.types.now c.args.self.now.highest) t) c.value-value.ensures;
    }
    (cc) c.more-self-then-not-is_zero.ensures
    (c.higher-self-then-not-is_zero.ensures ∙
    ap (λ t. higher_of (some_value_type c.args.types.now c.args.self.now.highest_other) t) c.value-value.ensures)

-- a candidate that is a zero is added to all alone
pub returns-else-not-is_zero : goal.returns-else-not-is_zero
returns-else-not-is_zero c =
    λ all p. zero_added c.args.types.now all (candidate_in c.args.types.now c.args.shape.now c.args.is_zero)
    c.args.self.now _ p
    record {
      count = c.more-self.ensures;
      first = c.first_with-self.ensures c.args.types.now;
      unknown = c.unknown_with-self.ensures c.args.types.now ∙
          ap (λ t. c.args.self.now.is_unknown || not (is_some t)) c.value-value.ensures;
      highest = c.higher-self.ensures ∙
          ap (λ t. higher_of (some_value_type c.args.types.now c.args.self.now.highest) t) c.value-value.ensures;
    }
    (cc) refl refl
