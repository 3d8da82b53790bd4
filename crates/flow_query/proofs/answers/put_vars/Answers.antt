use Rattle.std.proofs.Common.{◌+◌, take, arith}
use Rattle.flow_query.specs.Answers.{VarsText, NoVar}
use Rattle.annotate.proofs.Writing.{none_of, then_some}
use Rattle.flow_query.proofs.Telling.{next_var}
use Rattle.flow_query.proofs.Keeping.{for_one}
use Rattle.flow_query.proofs.answers.put_vars.Goals as goal

-- before the first variable nothing is written
pub loop-var-init : goal.loop-var-init
loop-var-init c = record {
  finder = c.requires.finder;
  text = none_of c.args.scene.now c.args.out.now.items
      (λ s text. VarsText s c.args.found.now.graph.now (take 0 c.args.vars.now) text) (λ s shows. NoVar);
}

pub put_var_sections-requires-clause-walks : goal.put_var_sections-requires-clause-walks
put_var_sections-requires-clause-walks c =
    for_one c.args.found.now.graph.now _ c.args.vars.now c.args.walks.now c.loop-var.var-index c.var-item.result
    (omega arith) c.var-item.is c.requires.walks

-- what is written of one variable more comes behind the text of those so far
pub loop-var-preserved : goal.loop-var-preserved
loop-var-preserved c = record {
  finder = c.in_ok-finder.ensures.finder;
  text =
      then_some (λ s text. VarsText s c.args.found.now.graph.now (take (c.loop-var.var-index + 1) c.args.vars.now) text)
      c.loop-var.invariant.text c.in_ok-finder.ensures.text
      (λ s shows text here before next.
      next_var s c.args.found.now.graph.now c.args.vars.now c.loop-var.var-index c.var-item.result text here
      (omega arith) c.var-item.is before next);
}
