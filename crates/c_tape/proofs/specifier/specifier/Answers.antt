use Rattle.std.proofs.Common.{◌≡◌, ◌++◌, OnOk, ap, ◌∙◌, rules}
use Rattle.c_tape.specs.Tape.{word_tape}
use Rattle.c_tree.specs.View.{spec_word_of}
use Rattle.c_tape.proofs.NodeLemmas.{struct_is, typeof_type_is}
use Rattle.c_tape.proofs.TodoLemmas.{as_tree}
use Rattle.c_tape.proofs.specifier.specifier.Goals as goal

pub returns-in-Struct : goal.returns-in-Struct
returns-in-Struct c =
    as_tree (λ t. OnOk c.struct_or_union.result (c.struct_or_union.new.todo ≡ word_tape c.args.is_alone t
    ++ c.args.todo.now)) _ _ (ap spec_word_of c.in-Struct.is ∙ struct_is c.in-Struct.it) (search rules)

pub returns-in-TypeofType : goal.returns-in-TypeofType
returns-in-TypeofType c =
    as_tree (λ t. OnOk c.typed_by_name.result
    (c.typed_by_name.new.todo ≡ word_tape c.args.is_alone t ++ c.args.todo.now)) _ _ (ap spec_word_of c.in-TypeofType.is
    ∙ typeof_type_is c.in-TypeofType.keyword c.in-TypeofType.«open» c.in-TypeofType.t c.in-TypeofType.close)
    (search rules)

pub returns-in-Typeof : goal.returns-in-Typeof
returns-in-Typeof c =
    as_tree (λ t. OnOk c.typed_by_value.result (c.typed_by_value.new.todo ≡ word_tape c.args.is_alone t
    ++ c.args.todo.now)) _ _ (ap spec_word_of c.in-Typeof.is) (search rules)
