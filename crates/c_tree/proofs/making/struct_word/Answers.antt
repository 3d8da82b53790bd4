use Rattle.std.proofs.Common.{◌∙◌, ap}
use Rattle.c_syntax.specs.declared.specifier.Struct as rust_struct
use Rattle.c_tree.specs.Lists.{some_body_from}
use Rattle.c_tree.specs.Tree as tree
use Rattle.c_tree.proofs.ViewLemmas.{struct_is}
use Rattle.c_tree.proofs.making.struct_word.Goals as goal

-- a struct or union made as a word of specifiers has the tree of its keyword, attributes, tag and body
pub returns-in-Ok : goal.returns-in-Ok
returns-in-Ok c =
    struct_is c.in-Ok.made
    ∙ ap (λ (s : rust_struct.Struct). tree.struct_type s.keyword s.attrs.items s.tag
    (some_body_from s.body)) c.in-Ok.ensures.ok
