use Rattle.std.proofs.Common.{◌≡◌, ◌++◌, OnOk, ap, ◌∙◌, rules}
use Rattle.c_tape.specs.Tape.{mem_declr_tape}
use Rattle.c_tree.specs.View.{mem_declr_of}
use Rattle.c_tape.proofs.NodeLemmas.{named_is}
use Rattle.c_tape.proofs.TodoLemmas.{as_tree}
use Rattle.c_tape.proofs.specifier.member_declarator.Goals as goal

pub returns-in-Named : goal.returns-in-Named
returns-in-Named c =
    as_tree (λ t. OnOk c.named_member.result (c.named_member.new.todo ≡ mem_declr_tape t ++ c.args.todo.now)) _ _
    (ap mem_declr_of c.in-Named.is ∙ named_is c.in-Named.declr c.in-Named.width c.in-Named.attrs) (search rules)

pub returns-in-Unnamed : goal.returns-in-Unnamed
returns-in-Unnamed c =
    as_tree (λ t. OnOk c.quiet.result (c.quiet.new.self ≡ mem_declr_tape t ++ c.args.todo.now)) _ _
    (ap mem_declr_of c.in-Unnamed.is) (search rules)
