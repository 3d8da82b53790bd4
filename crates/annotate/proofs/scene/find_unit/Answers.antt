use Rattle.std.proofs.Common.{◌≡◌, sym, ◌∙◌, arith}
use Rattle.annotate.proofs.SceneLemmas.{unit_here, unit_past, no_unit}
use Rattle.annotate.proofs.scene.find_unit.Goals as goal

pub returns-then-eq : goal.returns-then-eq
returns-then-eq c =
    sym (c.loop-unit.invariant ∙ unit_here c.args.units.now c.loop-unit.unit-index c.args.number c.unit-item.result
    (omega arith) c.unit-item.is (grind arith))

pub loop-unit-preserved : goal.loop-unit-preserved
loop-unit-preserved c =
    c.loop-unit.invariant ∙ unit_past c.args.units.now c.loop-unit.unit-index c.args.number c.unit-item.result
    (omega arith) c.unit-item.is (λ (same : c.unit-item.result.tokens.now.unit ≡ c.args.number). grind arith)

pub returns : goal.returns
returns c = sym (c.loop-unit.invariant ∙ no_unit c.args.units.now c.loop-unit.unit-index c.args.number (omega arith))
