-- The trees of the parts of nodes that are a `Vec` or an `Option`.
use Rattle.std.specs.Prelude.{List, [], ◌∷◌, Option, None, Some, Box}
use Rattle.std.specs.Global.{Global}
use Rattle.c_syntax.specs.declared.parts.Marked.{Marked}
use Rattle.c_syntax.specs.declared.parts.Listed.{Listed}
use Rattle.c_syntax.specs.declared.parts.Braced.{Braced}
use Rattle.c_syntax.specs.declared.parts.BracedList.{BracedList}
use Rattle.c_syntax.specs.declared.declaration.InitDeclr as rust_init_declr
use Rattle.c_syntax.specs.declared.declarator.ArraySize as rust_array_size
use Rattle.c_syntax.specs.declared.declarator.Declr as rust_declr
use Rattle.c_syntax.specs.declared.declarator.Param as rust_param
use Rattle.c_syntax.specs.declared.expression.Assoc as rust_assoc
use Rattle.c_syntax.specs.declared.expression.Expr as rust_expr
use Rattle.c_syntax.specs.declared.initialiser.Desig as rust_desig
use Rattle.c_syntax.specs.declared.initialiser.Init as rust_init
use Rattle.c_syntax.specs.declared.initialiser.InitItem as rust_init_item
use Rattle.c_syntax.specs.declared.specifier.Enumerator as rust_enumerator
use Rattle.c_syntax.specs.declared.specifier.MemDeclr as rust_mem_declr
use Rattle.c_syntax.specs.declared.specifier.StructItem as rust_struct_item
use Rattle.c_syntax.specs.declared.statement.Stmt as rust_stmt
use Rattle.c_tree.specs.Tree.{SomeExpr, no_expr, some_expr, Exprs, no_exprs, more_exprs, SomeBody, no_body, some_body, StructItems, no_struct_items, more_struct_items, MemDeclrs, no_mem_declrs, more_mem_declrs, SomeValue, no_value, some_value, SomeEnumBody, no_enum_body, some_enum_body, Enumerators, no_enumerators, more_enumerators, SomeDeclr, no_declr, some_declr, SomeSize, no_size, some_size, Params, no_params, more_params, InitItems, no_init_items, more_init_items, Desigs, no_desigs, more_desigs, SomeInit, no_init, some_init, InitDeclrs, no_init_declrs, more_init_declrs, SomeElse, no_else, some_else, Assocs, no_assocs, more_assocs}
use Rattle.c_tree.specs.View.{expr_of, struct_item_of, mem_declr_of, declr_of, array_size_of, assoc_of, init_of, desig_of, stmt_of}
use Rattle.c_tree.specs.Unit.{spec_words_from}

-- the arguments of a call
abbrev pub exprs_from : List rust_expr.Expr → Exprs
exprs_from [] = no_exprs
exprs_from (e ∷ es) = more_exprs (expr_of e) (exprs_from es)

-- the associations of a generic selection
abbrev pub assocs_from : List rust_assoc.Assoc → Assocs
assocs_from [] = no_assocs
assocs_from (x ∷ xs) = more_assocs (assoc_of x) (assocs_from xs)

-- an expression that may be left out
abbrev pub some_expr_from : Option (Box rust_expr.Expr Global) → SomeExpr
some_expr_from None = no_expr
some_expr_from (Some e) = some_expr (expr_of e.value)

-- the members of a struct or union
abbrev pub struct_items_from : List rust_struct_item.StructItem → StructItems
struct_items_from [] = no_struct_items
struct_items_from (item ∷ items) = more_struct_items (struct_item_of item) (struct_items_from items)

-- the body of a struct or union, where it has one
abbrev pub some_body_from : Option (Braced rust_struct_item.StructItem) → SomeBody
some_body_from None = no_body
some_body_from (Some body) = some_body body.«open» (struct_items_from body.items.items) body.close

-- the declarators of a member's declaration, with the attributes before each
abbrev pub mem_declrs_from : List (Listed rust_mem_declr.MemDeclr) → MemDeclrs
mem_declrs_from [] = no_mem_declrs
mem_declrs_from (d ∷ ds) = more_mem_declrs d.attrs.items (mem_declr_of d.item) (mem_declrs_from ds)

-- the width of a bit-field or the value of an enumerator, with the sign before it
abbrev pub some_value_from : Option (Marked (Box rust_expr.Expr Global)) → SomeValue
some_value_from None = no_value
some_value_from (Some value) = some_value value.token (expr_of value.part.value)

-- the enumerators of an enumeration
abbrev pub enumerators_from : List rust_enumerator.Enumerator → Enumerators
enumerators_from [] = no_enumerators
enumerators_from (e ∷ es) = more_enumerators e.name e.attrs.items (some_value_from e.value) (enumerators_from es)

-- the body of an enumeration, where it has one
abbrev pub some_enum_body_from : Option (BracedList rust_enumerator.Enumerator) → SomeEnumBody
some_enum_body_from None = no_enum_body
some_enum_body_from (Some body) = some_enum_body body.«open» (enumerators_from body.items.items) body.comma body.close

-- a declarator that may be absent
abbrev pub some_declr_from : Option (Box rust_declr.Declr Global) → SomeDeclr
some_declr_from None = no_declr
some_declr_from (Some d) = some_declr (declr_of d.value)

-- the size in the brackets of an array declarator, where one stands
abbrev pub some_size_from : Option rust_array_size.ArraySize → SomeSize
some_size_from None = no_size
some_size_from (Some size) = some_size (array_size_of size)

-- the parameters of a function declarator
abbrev pub params_from : List rust_param.Param → Params
params_from [] = no_params
params_from (p ∷ ps) =
    more_params (spec_words_from p.specs.words.items) (some_declr_from p.declr) p.attrs.items (params_from ps)

-- the designators of an initialiser, or the steps of an offset
abbrev pub desigs_from : List rust_desig.Desig → Desigs
desigs_from [] = no_desigs
desigs_from (d ∷ ds) = more_desigs (desig_of d) (desigs_from ds)

-- the items of a braced list of initialisers
abbrev pub init_items_from : List rust_init_item.InitItem → InitItems
init_items_from [] = no_init_items
init_items_from (item ∷ items) =
    more_init_items (desigs_from item.desigs.items) item.equal (init_of item.init) (init_items_from items)

-- the initialiser of a declarator, with its `=`
abbrev pub some_init_from : Option (Marked rust_init.Init) → SomeInit
some_init_from None = no_init
some_init_from (Some init) = some_init init.token (init_of init.part)

-- the declarators of a declaration, with the attributes before each
abbrev pub init_declrs_from : List (Listed rust_init_declr.InitDeclr) → InitDeclrs
init_declrs_from [] = no_init_declrs
init_declrs_from (d ∷ ds) =
    more_init_declrs d.attrs.items (declr_of d.item.declr.value) d.item.label d.item.attrs.items
    (some_init_from d.item.init) (init_declrs_from ds)

-- the `else` of an `if`, where there is one
abbrev pub some_else_from : Option (Marked (Box rust_stmt.Stmt Global)) → SomeElse
some_else_from None = no_else
some_else_from (Some other) = some_else other.token (stmt_of other.part.value)
