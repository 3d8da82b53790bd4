use Rattle.std.proofs.Common.{◌∙◌, ap}
use Rattle.c_syntax.specs.declared.declaration.Decl.TheViews as views
use Rattle.c_tree.specs.Tree as tree
use Rattle.c_tree.specs.Lists.{init_items_from}
use Rattle.c_tree.proofs.ViewLemmas.{init_list_is}
use Rattle.c_nodes.proofs.making.list_in_braces.Goals as goal

-- a braced initialiser made of its parts has the tree of its braces, items and last comma
pub returns : goal.returns
returns c =
    init_list_is (views.roll-InitList
    (record { «open» = c.args.«open»; items = c.args.items; comma = c.args.comma; close = c.args.close }))
    ∙ ap (λ list. tree.init_list list.«open» (init_items_from list.items.items) list.comma list.close)
    (views.out-roll-InitList
    (record { «open» = c.args.«open»; items = c.args.items; comma = c.args.comma; close = c.args.close }))
