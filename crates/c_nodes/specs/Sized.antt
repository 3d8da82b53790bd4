-- The trees of sized parts, and the nodes that are made of them.
use Rattle.std.specs.Prelude.{◌≡◌, Result, IfOk}
use Rattle.qual_base.specs.declared.faults.NoMemory.{NoMemory}
use Rattle.c_syntax.specs.declared.parts.Listed.{Listed}
use Rattle.c_syntax.specs.declared.declaration.InitDeclr.{InitDeclr}
use Rattle.c_syntax.specs.declared.declarator.Param.{Param}
use Rattle.c_syntax.specs.declared.initialiser.InitItem.{InitItem}
use Rattle.c_syntax.specs.declared.specifier.Enumerator.{Enumerator}
use Rattle.c_syntax.specs.declared.specifier.MemDeclr.{MemDeclr}
use Rattle.c_nodes.specs.declared.sized.SizedEnumerator.{SizedEnumerator}
use Rattle.c_nodes.specs.declared.sized.SizedExpr.{SizedExpr}
use Rattle.c_nodes.specs.declared.sized.SizedInitDeclr.{SizedInitDeclr}
use Rattle.c_nodes.specs.declared.sized.SizedInitItem.{SizedInitItem}
use Rattle.c_nodes.specs.declared.sized.SizedMember.{SizedMember}
use Rattle.c_nodes.specs.declared.sized.SizedParam.{SizedParam}
use Rattle.c_tree.specs.Tree.{Expr}
use Rattle.c_tree.specs.View.{expr_of}

-- the tree of a sized expression
abbrev pub expr : SizedExpr → Expr
expr e = expr_of e.tree.value

-- where there is memory, the tree is this
abbrev pub Makes : Result SizedExpr NoMemory → Expr → Type 0
Makes result tree = IfOk result (λ made. expr made ≡ tree)

-- the declarator of a member that is made of sized parts
abbrev pub member_of : SizedMember → Listed MemDeclr
member_of m = record { attrs = m.attrs; item = m.declr }

-- the enumerator that is made of sized parts
abbrev pub enumerator_of : SizedEnumerator → Enumerator
enumerator_of e = record { name = e.name; attrs = e.attrs; value = e.value }

-- the parameter that is made of sized parts
abbrev pub param_of : SizedParam → Param
param_of p = record { specs = record { words = p.words }; declr = p.declr; attrs = p.attrs }

-- the item of an initialiser that is made of sized parts
abbrev pub init_item_of : SizedInitItem → InitItem
init_item_of x = record { desigs = x.desigs; equal = x.equal; init = x.init }

-- the declarator of a declaration that is made of sized parts
abbrev pub init_declr_of : SizedInitDeclr → Listed InitDeclr
init_declr_of d = record {
  attrs = d.before;
  item = record { declr = d.declr; label = d.label; attrs = d.attrs; init = d.init };
}
