use Rattle.std.proofs.Common.{◌∙◌, ap}
use Rattle.c_syntax.specs.declared.declaration.Decl.TheViews as views
use Rattle.c_syntax.specs.declared.specifier.Enum as rust_enum
use Rattle.c_tree.specs.Lists.{some_enum_body_from}
use Rattle.c_tree.specs.Tree as tree
use Rattle.c_tree.specs.View.{enum_type_of}
use Rattle.c_tree.proofs.ViewLemmas.{enum_is}
use Rattle.c_tree.proofs.making.enum_word.Goals as goal

-- an enum made as a word of specifiers has the tree of its keyword, attributes, tag and body
pub returns-in-Ok : goal.returns-in-Ok
returns-in-Ok c =
    ap (λ (e : rust_enum.Enum). tree.enum_type (enum_type_of e)) c.in-Ok.ensures.ok
    ∙ ap (λ (e : tree.EnumType). tree.enum_type e)
    (enum_is
    (views.roll-Enum (record { keyword = c.args.keyword; attrs = c.args.attrs; tag = c.args.tag; body = c.args.body }))
    ∙ ap (λ e. tree.enum_of e.keyword e.attrs.items e.tag (some_enum_body_from e.body)) (views.out-roll-Enum
    (record { keyword = c.args.keyword; attrs = c.args.attrs; tag = c.args.tag; body = c.args.body })))
