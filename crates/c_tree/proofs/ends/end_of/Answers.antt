use Rattle.std.proofs.Common.{◌≡◌, refl}
use Rattle.c_syntax.specs.declared.initialiser.InitList as rust_init_list
use Rattle.c_syntax.specs.declared.declaration.Decl.TheViews as views
use Rattle.c_tree.specs.View.{init_list_of}
use Rattle.c_tree.specs.Ends.{list_end}
use Rattle.c_tree.proofs.ends.end_of.Goals as goal

closes : (list : rust_init_list.InitList) → (views.out-InitList list).close ≡ list_end (init_list_of list)
unfolding rust_init_list.out-InitList denote.Hole.Carrier.out
closes (rust_init_list.InitList' opening m items last closing) = refl

pub returns : goal.returns
returns c = closes c.args.list.now
