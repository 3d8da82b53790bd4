use Rattle.std.proofs.Common.{◌∙◌}
use Rattle.std.proofs.lemmas.Result.{IfOk-weaker}
use Rattle.certificate_reader.proofs.PartLemmas.{pairs_found}
use Rattle.certificate_reader.proofs.making.pairs_of.Goals as goal

-- the numbers of the pairs' variables, put in order, are the pairs that the lines say
pub returns : goal.returns
returns c = IfOk-weaker c.vars_of.result _ _
    (λ found is. pairs_found c.args.graph.now c.args.pairs.now c.in_ok-numbers.numbers.items
    c.put_in_order.new.pairs.items found.items c.in_ok-numbers.ensures c.in_ok-put_in_order.ensures.ascending
    c.in_ok-put_in_order.ensures.keeps (is ∙ c.as_slice.ensures.value)) c.vars_of.ensures
