use Rattle.std.proofs.Common.{◌≡◌, ◌++◌, OnOk, rules}
use Rattle.c_tape.specs.Tape.{enum_tape}
use Rattle.c_tape.proofs.NodeLemmas.{enum_is}
use Rattle.c_tape.proofs.TodoLemmas.{as_tree}
use Rattle.c_tape.proofs.specifier.enumeration.Goals as goal

pub returns : goal.returns
returns c =
    as_tree (λ t. OnOk c.enum_parts.result (c.enum_parts.new.todo ≡ enum_tape t ++ c.args.todo.now)) _ _
    (enum_is c.args.it.now) (search rules)
