use Rattle.std.proofs.Common.{◌≡◌, ◌++◌, OnOk, rules}
use Rattle.c_tape.specs.Tape.{old_declaration_tape}
use Rattle.c_tape.proofs.NodeLemmas.{declaration_is}
use Rattle.c_tape.proofs.TodoLemmas.{as_tree}
use Rattle.c_tape.proofs.old.old_declaration.Goals as goal

pub returns : goal.returns
returns c =
    as_tree (λ t. OnOk c.old_declaration_parts.result (c.old_declaration_parts.new.todo ≡ old_declaration_tape t
    ++ c.args.todo.now)) _ _ (declaration_is c.args.it.now) (search rules)
