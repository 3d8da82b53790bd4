use Rattle.std.proofs.Common.{◌≡◌, ◌++◌, OnOk, sym, subst, rules}
use Rattle.cq_prelude.specs.Placing.{in_declaration}
use Rattle.c_tree.proofs.ViewLemmas.{declaration_is}
use Rattle.cq_prelude.proofs.placing.declaration.Goals as goal

pub returns : goal.returns
returns c =
    subst (λ t. OnOk c.declaration_parts.result (c.declaration_parts.new.left ≡ in_declaration t ++ c.args.left.now))
    (sym (declaration_is c.args.it.now)) (search rules)
