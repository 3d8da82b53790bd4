use Rattle.std.proofs.Common.{◌≡◌, ◌++◌, OnOk, rules}
use Rattle.c_tape.specs.Tape.{list_tape}
use Rattle.c_tape.proofs.NodeLemmas.{init_list_is}
use Rattle.c_tape.proofs.TodoLemmas.{as_tree}
use Rattle.c_tape.proofs.initialiser.list_leaves.Goals as goal

pub returns : goal.returns
returns c =
    as_tree (λ t. OnOk c.init_items.result (c.init_items.new.self ≡ list_tape t ++ c.args.todo.now)) _ _
    (init_list_is c.args.list.now) (search rules)
