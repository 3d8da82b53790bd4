use Rattle.std.proofs.Common.{◌≡◌, ◌++◌, OnOk, rules}
use Rattle.c_tape.specs.Tape.{rule_of_list}
use Rattle.c_tape.proofs.NodeLemmas.{init_list_is}
use Rattle.c_tape.proofs.TodoLemmas.{as_tree}
use Rattle.c_tape.proofs.initialiser.rule_of_braces.Goals as goal

pub returns : goal.returns
returns c =
    as_tree (λ t. OnOk c.rule_of_list.result (c.rule_of_list.new.todo ≡ rule_of_list t ++ c.args.todo.now)) _ _
    (init_list_is c.args.list.now) (search rules)
