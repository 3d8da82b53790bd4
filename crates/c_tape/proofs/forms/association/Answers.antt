use Rattle.std.proofs.Common.{◌≡◌, ◌++◌, OnOk, ap, ◌∙◌, rules}
use Rattle.c_tape.specs.Tape.{assoc_tape}
use Rattle.c_tree.specs.View.{assoc_of}
use Rattle.c_tape.proofs.NodeLemmas.{typed_assoc_is}
use Rattle.c_tape.proofs.TodoLemmas.{as_tree}
use Rattle.c_tape.proofs.forms.association.Goals as goal

pub returns-in-Typed : goal.returns-in-Typed
returns-in-Typed c =
    as_tree (λ t. OnOk c.typed_association.result (c.typed_association.new.todo ≡ assoc_tape t ++ c.args.todo.now)) _ _
    (ap assoc_of c.in-Typed.is ∙ typed_assoc_is c.in-Typed.t c.in-Typed.colon c.in-Typed.value) (search rules)

pub returns-in-Default : goal.returns-in-Default
returns-in-Default c =
    as_tree (λ t. OnOk c.default_association.result
    (c.default_association.new.todo ≡ assoc_tape t ++ c.args.todo.now)) _ _ (ap assoc_of c.in-Default.is) (search rules)
