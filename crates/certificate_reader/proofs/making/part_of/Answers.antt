use Rattle.certificate_reader.proofs.PartLemmas.{sets_exist, pairs_exist, part_is}
use Rattle.certificate_reader.proofs.making.part_of.Goals as goal

pub sets_of_vars-requires : goal.sets_of_vars-requires
sets_of_vars-requires c = sets_exist c.args.graph.now c.args.sets.now c.args.pairs.now c.requires

pub pairs_of-requires : goal.pairs_of-requires
pairs_of-requires c = pairs_exist c.args.graph.now c.args.sets.now c.args.pairs.now c.requires

pub returns : goal.returns
returns c =
    part_is c.args.graph.now c.args.sets.now c.args.pairs.now c.requires _ c.in_ok-first.ensures c.in_ok-pairs.ensures
