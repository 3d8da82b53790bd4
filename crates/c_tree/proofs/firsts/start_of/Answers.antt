use Rattle.std.proofs.Common.{◌≡◌, refl}
use Rattle.c_syntax.specs.declared.initialiser.InitList as rust_init_list
use Rattle.c_syntax.specs.declared.declaration.Decl.TheViews as views
use Rattle.c_tree.specs.View.{init_list_of}
use Rattle.c_tree.specs.Firsts.{list_start}
use Rattle.c_tree.proofs.firsts.start_of.Goals as goal

opens : (list : rust_init_list.InitList) → (views.out-InitList list).open ≡ list_start (init_list_of list)
unfolding rust_init_list.out-InitList denote.Hole.Carrier.out
opens (rust_init_list.InitList' opening m items last closing) = refl

pub returns : goal.returns
returns c = opens c.args.list.now
