use Rattle.std.proofs.Common.{◌≡◌, ◌++◌, OnOk, ap, ◌∙◌, rules}
use Rattle.c_tape.specs.Tape.{struct_item_tape}
use Rattle.c_tree.specs.View.{struct_item_of}
use Rattle.c_tape.proofs.NodeLemmas.{member_is}
use Rattle.c_tape.proofs.TodoLemmas.{as_tree}
use Rattle.c_tape.proofs.specifier.struct_item.Goals as goal

pub returns-in-Member : goal.returns-in-Member
returns-in-Member c =
    as_tree (λ t. OnOk c.member.result (c.member.new.todo ≡ struct_item_tape t ++ c.args.todo.now)) _ _
    (ap struct_item_of c.in-Member.is ∙ member_is c.in-Member.it) (search rules)
