use Rattle.std.proofs.Common.{◌∙◌, ap}
use Rattle.c_tree.specs.Tree as tree
use Rattle.c_tree.specs.Unit.{spec_words_from}
use Rattle.c_tree.specs.Lists.{init_declrs_from}
use Rattle.c_syntax.specs.declared.declaration.Decl.TheViews as views
use Rattle.c_tree.proofs.ViewLemmas.{declaration_is}
use Rattle.c_tree.proofs.making.declaration.Goals as goal

-- a declaration made of its parts has the tree of its extensions, words, declarators and `;`
pub returns : goal.returns
returns c =
    declaration_is (views.roll-Declaration
    (record { extensions = c.args.extensions; specs = c.args.specs; declrs = c.args.declrs; semi = c.args.semi }))
    ∙ ap (λ d. tree.declaration d.extensions.items (spec_words_from d.specs.words.items)
    (init_declrs_from d.declrs.items) d.semi) (views.out-roll-Declaration
    (record { extensions = c.args.extensions; specs = c.args.specs; declrs = c.args.declrs; semi = c.args.semi }))
