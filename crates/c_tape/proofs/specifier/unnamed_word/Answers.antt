use Rattle.std.proofs.Common.{◌≡◌, ◌++◌, OnOk, ap, ◌∙◌, rules}
use Rattle.c_tape.specs.Tape.{unnamed_word_tape}
use Rattle.c_tree.specs.View.{spec_word_of}
use Rattle.c_tape.proofs.NodeLemmas.{struct_is}
use Rattle.c_tape.proofs.TodoLemmas.{as_tree}
use Rattle.c_tape.proofs.specifier.unnamed_word.Goals as goal

pub returns-in-Struct : goal.returns-in-Struct
returns-in-Struct c =
    as_tree (λ t. OnOk c.unnamed_struct.result (c.unnamed_struct.new.todo ≡ unnamed_word_tape t ++ c.args.todo.now)) _ _
    (ap spec_word_of c.in-Struct.is ∙ struct_is c.in-Struct.it) (search rules)
