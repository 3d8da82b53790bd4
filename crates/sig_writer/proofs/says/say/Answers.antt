use Rattle.std.proofs.Common.{refl}
use Rattle.sig_writer.proofs.Telling.{all_within, are_said}
use Rattle.sig_writer.proofs.says.say.Goals as goal

pub returns-clause-nodes : goal.returns-clause-nodes
returns-clause-nodes c = record { order = c.requires.nodes; are = refl }

pub returns-clause-within : goal.returns-clause-within
returns-clause-within c = all_within c.args.known.now c.args.nodes c.in_ok-numbers.numbers.items
    c.in_ok-elements.elements.items c.requires.nodes c.in_ok-numbers.ensures c.in_ok-elements.ensures

pub returns-clause-said : goal.returns-clause-said
returns-clause-said c = are_said c.args.known.now c.args.nodes c.in_ok-numbers.numbers.items
    c.in_ok-elements.elements.items c.requires.nodes c.in_ok-numbers.ensures c.in_ok-elements.ensures
