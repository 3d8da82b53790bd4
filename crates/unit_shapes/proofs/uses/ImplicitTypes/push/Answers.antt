use Rattle.unit_shapes.proofs.Implicit.{implicit}
use Rattle.unit_shapes.proofs.uses.ImplicitTypes.push.Goals as goal

-- the base type, `void`, texts and functions of unknown parameters are the implicit types once they are pushed
pub returns-clause-implicit : goal.returns-clause-implicit
returns-clause-implicit c =
    implicit c.args.types.now c.specified.new.self c.pointer.new.self c.function.new.self c.base-base.result
    c.in_ok-void.void c.in_ok-text.text c.in_ok-function.function c.new.result.items c.new-2.result.items
    c.new-3.result.items c.new-params.result.items c.in_ok-void.ensures.grown c.in_ok-text.ensures.grown
    c.in_ok-function.ensures.grown c.new.ensures.items c.new-2.ensures.items c.new-3.ensures.items
    c.new-params.ensures.items c.base-base.ensures.low c.base-base.ensures.is c.in_ok-void.ensures.made
    c.in_ok-text.ensures.made c.in_ok-function.ensures.made
