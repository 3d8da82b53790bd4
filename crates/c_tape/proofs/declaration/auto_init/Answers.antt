use Rattle.std.proofs.Common.{◌≡◌, ◌++◌, OnOk, ap, ◌∙◌, rules}
use Rattle.c_tree.specs.Tree.{some_init}
use Rattle.c_tree.specs.View.{init_of}
use Rattle.c_tree.specs.Lists.{some_init_from}
use Rattle.c_tape.specs.Tape.{auto_init_tape}
use Rattle.c_tape.proofs.TodoLemmas.{as_tree}
use Rattle.c_tape.proofs.declaration.auto_init.Goals as goal

-- the initialiser of an `auto` name that is an expression goes before what is to do, as its tape says
pub returns-in-Value : goal.returns-in-Value
returns-in-Value c =
    as_tree
    (λ t. OnOk c.auto_value.result (c.auto_value.new.todo ≡ auto_init_tape c.args.semi.now t ++ c.args.todo.now)) _ _
    (ap some_init_from c.in-Some.is ∙ ap (λ i. some_init c.in-Some.init.token (init_of i)) c.in-Value.is) (search rules)
