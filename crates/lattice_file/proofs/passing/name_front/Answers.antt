use Rattle.lattice_file.specs.declared.passing.BlockAttribute.TheVariants.{Ptrflow, Fieldflow}
use Rattle.lattice_file.specs.Steps.{if_flow}
use Rattle.lattice_file.proofs.FrontLemmas.{front_either}
use Rattle.lattice_file.proofs.passing.name_front.Goals as goal

-- the front of a block's attribute that it does not have yet is the longer of those of both
pub returns : goal.returns
returns c =
    let flows = c.args.flows.now in
    front_either (λ w. if_flow flows w Ptrflow)
    (λ w. if_flow flows w Fieldflow) c.args.word.now c.front_of.result c.front_of-2.result c.longer.result
    c.longer.ensures.first c.longer.ensures.second c.longer.ensures.which c.front_of.ensures c.front_of-2.ensures
