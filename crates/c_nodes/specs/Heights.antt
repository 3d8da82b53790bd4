-- The heights of parts of trees as a program holds them, in a box, in a list or none.
use Rattle.std.specs.Prelude.{ℕ, ◌+◌, max, List, Option, Box}
use Rattle.std.specs.Global.{Global}
use Rattle.c_syntax.specs.declared.parts.AsmLabel.{AsmLabel}
use Rattle.c_syntax.specs.declared.parts.Attr.{Attr}
use Rattle.c_syntax.specs.declared.parts.Braced.{Braced}
use Rattle.c_syntax.specs.declared.parts.BracedList.{BracedList}
use Rattle.c_syntax.specs.declared.parts.Listed.{Listed}
use Rattle.c_syntax.specs.declared.parts.Marked.{Marked}
use Rattle.c_syntax.specs.declared.declaration.Declaration.{Declaration}
use Rattle.c_syntax.specs.declared.declaration.InitDeclr.{InitDeclr}
use Rattle.c_syntax.specs.declared.declarator.ArraySize.{ArraySize}
use Rattle.c_syntax.specs.declared.declarator.Declr.{Declr}
use Rattle.c_syntax.specs.declared.declarator.Param.{Param}
use Rattle.c_syntax.specs.declared.expression.Assoc.{Assoc}
use Rattle.c_syntax.specs.declared.expression.Expr.{Expr}
use Rattle.c_syntax.specs.declared.initialiser.Desig.{Desig}
use Rattle.c_syntax.specs.declared.initialiser.Init.{Init}
use Rattle.c_syntax.specs.declared.initialiser.InitItem.{InitItem}
use Rattle.c_syntax.specs.declared.specifier.Enumerator.{Enumerator}
use Rattle.c_syntax.specs.declared.specifier.MemDeclr.{MemDeclr}
use Rattle.c_syntax.specs.declared.specifier.SpecWord.{SpecWord}
use Rattle.c_syntax.specs.declared.specifier.StructItem.{StructItem}
use Rattle.c_syntax.specs.declared.statement.BlockItem.{BlockItem}
use Rattle.c_syntax.specs.declared.statement.ForStart.{ForStart}
use Rattle.c_syntax.specs.declared.statement.Stmt.{Stmt}
use Rattle.c_tree.specs.Height.{assoc_height, assocs_height, attrs_height, label_height, expr_height, some_expr_height, exprs_height, specs_height, spec_word_height, some_body_height, struct_items_height, struct_item_height, mem_declrs_height, mem_declr_height, some_value_height, some_enum_body_height, enumerators_height, declr_height, some_declr_height, some_size_height, params_height, init_height, init_items_height, desigs_height, desig_height, steps_height, step_height, some_init_height, init_declrs_height, declaration_height, block_height, block_item_height, stmt_height, some_else_height, for_start_height}
use Rattle.c_tree.specs.View.{assoc_of, expr_of, spec_word_of, struct_item_of, mem_declr_of, declr_of, init_of, desig_of, declaration_of, block_item_of, stmt_of, for_start_of}
use Rattle.c_tree.specs.Unit.{spec_words_from, block_items_from}
use Rattle.c_tree.specs.Lists.{assocs_from, exprs_from, some_expr_from, struct_items_from, some_body_from, mem_declrs_from, some_value_from, enumerators_from, some_enum_body_from, some_declr_from, some_size_from, params_from, desigs_from, init_items_from, some_init_from, init_declrs_from, some_else_from}

-- the height of an expression
abbrev pub of_expr : Box Expr Global → ℕ
of_expr e = expr_height (expr_of e.value)

-- of an expression that may be left out
abbrev pub of_some_expr : Option (Box Expr Global) → ℕ
of_some_expr e = some_expr_height (some_expr_from e)

-- of the arguments of a call
abbrev pub of_exprs : List Expr → ℕ
of_exprs es = exprs_height (exprs_from es)

-- of an association of `_Generic`
abbrev pub of_assoc : Assoc → ℕ
of_assoc x = assoc_height (assoc_of x)

-- of the associations of `_Generic`
abbrev pub of_assocs : List Assoc → ℕ
of_assocs xs = assocs_height (assocs_from xs)

-- of specifiers, which count themselves
abbrev pub of_words : List SpecWord → ℕ
of_words words = specs_height (spec_words_from words)

-- of a word of specifiers
abbrev pub of_word : SpecWord → ℕ
of_word word = spec_word_height (spec_word_of word)

-- of the body of a struct or union, if any
abbrev pub of_body : Option (Braced StructItem) → ℕ
of_body body = some_body_height (some_body_from body)

-- of the members of a struct or union
abbrev pub of_struct_items : List StructItem → ℕ
of_struct_items items = struct_items_height (struct_items_from items)

-- of a member's declaration
abbrev pub of_struct_item : StructItem → ℕ
of_struct_item item = struct_item_height (struct_item_of item)

-- of a member's declarator
abbrev pub of_mem_declr : MemDeclr → ℕ
of_mem_declr declr = mem_declr_height (mem_declr_of declr)

-- of a member's declarator with the attributes before it
abbrev pub of_member : List Attr → MemDeclr → ℕ
of_member attrs declr = max (attrs_height attrs) (of_mem_declr declr)

-- of the declarators of a member's declaration
abbrev pub of_members : List (Listed MemDeclr) → ℕ
of_members members = mem_declrs_height (mem_declrs_from members)

-- of a value behind its sign
abbrev pub of_value : Option (Marked (Box Expr Global)) → ℕ
of_value value = some_value_height (some_value_from value)

-- of the body of an enumeration, if any
abbrev pub of_enum_body : Option (BracedList Enumerator) → ℕ
of_enum_body body = some_enum_body_height (some_enum_body_from body)

-- of an enumerator with its attributes and value
abbrev pub of_enumerator : List Attr → Option (Marked (Box Expr Global)) → ℕ
of_enumerator attrs value = max (attrs_height attrs) (of_value value) + 1

-- of the enumerators of an enumeration
abbrev pub of_enumerators : List Enumerator → ℕ
of_enumerators items = enumerators_height (enumerators_from items)

-- of a declarator
abbrev pub of_declr : Box Declr Global → ℕ
of_declr declr = declr_height (declr_of declr.value)

-- of a declarator that may be absent
abbrev pub of_some_declr : Option (Box Declr Global) → ℕ
of_some_declr declr = some_declr_height (some_declr_from declr)

-- of a type name, which counts itself
abbrev pub of_type_name : List SpecWord → Option (Box Declr Global) → ℕ
of_type_name words declr = max (of_words words) (of_some_declr declr) + 1

-- of the size of an array, if any
abbrev pub of_size : Option ArraySize → ℕ
of_size size = some_size_height (some_size_from size)

-- of a parameter, which counts itself
abbrev pub of_param : List SpecWord → Option (Box Declr Global) → List Attr → ℕ
of_param words declr attrs =
    max (of_words words) (max (of_some_declr declr) (attrs_height attrs)) + 1

-- of the parameters of a function declarator
abbrev pub of_params : List Param → ℕ
of_params params = params_height (params_from params)

-- of an initialiser
abbrev pub of_init : Init → ℕ
of_init init = init_height (init_of init)

-- of a list in braces, which counts itself
abbrev pub of_init_list : List InitItem → ℕ
of_init_list items = init_items_height (init_items_from items) + 1

-- of the items of a list of initialisers
abbrev pub of_init_items : List InitItem → ℕ
of_init_items items = init_items_height (init_items_from items)

-- of a designator
abbrev pub of_desig : Desig → ℕ
of_desig desig = desig_height (desig_of desig)

-- of the designators of an item
abbrev pub of_desigs : List Desig → ℕ
of_desigs desigs = desigs_height (desigs_from desigs)

-- of an item with its designators, which counts itself
abbrev pub of_init_item : List Desig → Init → ℕ
of_init_item desigs init = max (of_desigs desigs) (of_init init) + 1

-- of a step of an offset, which is no node
abbrev pub of_step : Desig → ℕ
of_step step = step_height (desig_of step)

-- of the steps of an offset
abbrev pub of_steps : List Desig → ℕ
of_steps steps = steps_height (desigs_from steps)

-- of the initialiser of a declarator, if any
abbrev pub of_some_init : Option (Marked Init) → ℕ
of_some_init init = some_init_height (some_init_from init)

-- of a declarator of a declaration with what stands before and behind it
abbrev pub of_init_declr :
    List Attr → Box Declr Global → Option AsmLabel → List Attr → Option (Marked Init) → ℕ
of_init_declr before declr name attrs init =
    let behind : ℕ = max (label_height name) (max (attrs_height attrs) (of_some_init init)) in
    max (attrs_height before) (max (of_declr declr) behind) + 1

-- of the declarators of a declaration
abbrev pub of_init_declrs : List (Listed InitDeclr) → ℕ
of_init_declrs declrs = init_declrs_height (init_declrs_from declrs)

-- of a declaration
abbrev pub of_declaration : Box Declaration Global → ℕ
of_declaration it = declaration_height (declaration_of it.value)

-- of a block, which counts itself
abbrev pub of_block : List BlockItem → ℕ
of_block items = block_height (block_items_from items)

-- of an item of a block
abbrev pub of_block_item : BlockItem → ℕ
of_block_item item = block_item_height (block_item_of item)

-- of a statement
abbrev pub of_stmt : Box Stmt Global → ℕ
of_stmt s = stmt_height (stmt_of s.value)

-- of the statement behind `else`, if any
abbrev pub of_else : Option (Marked (Box Stmt Global)) → ℕ
of_else other = some_else_height (some_else_from other)

-- of the first clause of a `for`
abbrev pub of_start : ForStart → ℕ
of_start start = for_start_height (for_start_of start)
