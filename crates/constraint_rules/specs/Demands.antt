-- The constraints of each form, by cases on the tree: those of its parts in the order of the text, and behind them its
-- own.
use Rattle.std.specs.Prelude.{ℕ, suc, Bool, true, false, List, [], ◌∷◌, ◌++◌, Option, None, Some, ◌&&◌, if◌then◌else◌}
use Rattle.qual_base.specs.declared.places.Span.{Span}
use Rattle.flow_graph.specs.declared.constraint.Constraint.{Constraint}
use Rattle.c_tree.specs.Tree.{Expr, operation, cast, prefix, sizeof_value, sizeof_type, extension, index, call, dot, arrow, post, compound, name_use, number_use, char_use, text_use, paren, statement_expr, va_arg, va_start, va_copy, offset, comma, assign, cond, binary, SomeExpr, no_expr, some_expr, Exprs, no_exprs, more_exprs, SpecWords, no_words, more_words, SpecWord, storage, thread, inline_word, noreturn, qualifier, basic, struct_type, enum_type, typedef_name, attribute, SomeBody, no_body, some_body, StructItems, no_struct_items, more_struct_items, StructItem, member, member_semi, member_assert, MemDeclrs, no_mem_declrs, more_mem_declrs, MemDeclr, named, unnamed, Declr, pointer, declr_name, declr_paren, array, params, abs_pointer, abs_paren, abs_array, abs_params, SomeDeclr, no_declr, some_declr, Params, no_params, more_params, Init, init_value, init_braced, InitList, init_list, InitItems, no_init_items, more_init_items, Desigs, no_desigs, more_desigs, Desig, member_desig, index_desig, SomeInit, no_init, some_init, InitDeclrs, no_init_declrs, more_init_declrs, Declaration, declaration, Decl, decl_declaration, decl_assert, BlockItems, no_block_items, more_block_items, BlockItem, block_decl, block_stmt, Stmt, block, expr_stmt, attr_stmt, label, case_stmt, default_stmt, if_stmt, switch_stmt, while_stmt, do_stmt, for_stmt, goto_stmt, continue_stmt, break_stmt, return_stmt, asm_stmt, SomeElse, no_else, some_else, ForStart, start_declaration, start_value, complex_part, label_use, compat, choose, generic, typeof_value, typeof_type, align, auto_word, range_desig, old_desig, case_range, goto_value, block_labels, identifiers, base_name, Assocs, no_assocs, more_assocs, Assoc, typed_assoc, default_assoc}
use Rattle.c_tree.specs.Ends.{first_token, last_token, first_text}
use Rattle.c_tree.specs.Unit.{Item, function_item, decl_item, asm_item, semi_item, old_function_item}
use Rattle.type_table.specs.Types.{CType, pointer}
use Rattle.qual_types.specs.declared.look.Kind.TheVariants as kinds
use Rattle.qual_types.specs.Skel.{Skel, flat, ref, fun, root, param_at, struct_of}
use Rattle.flow_rules.specs.Lists.{equal}
use Rattle.name_rules.specs.Spellings.{Named}
use Rattle.name_rules.specs.Uses.{use_at, type_named_at}
use Rattle.c_tree.specs.Firsts.{first_word}
use Rattle.type_rules.specs.Tokens.{declared_name, is_bare}
use Rattle.type_rules.specs.Shapes.{is_zero}
use Rattle.constraint_rules.specs.Values.{val, pointer_to, candidate_of, candidates_of}
use Rattle.row_rules.specs.Annotations.{further, parameters, write_bounds, has_access}
use Rattle.row_rules.specs.Rows.{RowKind, assigned, behind_known, cast_demand, chosen, computed, dereferenced, first_alone, flowing, formed_here, initialised, literal_row, next_of_struct, own_skeleton, param_kind, passed, prefixed, returned, row_at, row_of_name, started, taken_fresh, use_demand, index_demand, carried, picked, identified_kind}
use Rattle.row_rules.specs.Vals.{contents, member_of, member_skel, own, value, left_of}
use Rattle.row_rules.specs.Worlds.{World, all_lattices, at, span}
use Rattle.c_tree.specs.Addresses.{comes_by_pointer}
use Rattle.c_words.specs.declared.kinds.Punct.{Punct}
use Rattle.c_words.specs.declared.kinds.Punct.TheVariants as signs

-- the type of the type's name that begins with these specifiers
abbrev pub type_of_name : World → SpecWords → Option CType
type_of_name w ws = type_named_at w.names.type_names (at w (first_word ws))

-- the skeleton of what a designator names, of what was designated so far (6.7.8)
abbrev pub desig_skel : World → Skel → Desig → Skel
desig_skel w s (member_desig token name) = contents (member_skel w s name.name)
desig_skel w s (index_desig opening e closing) = contents s
desig_skel w s (range_desig opening e dots e2 closing) = contents s
desig_skel w s (old_desig name colon) = contents (member_skel w s name.name)

-- the skeleton of what designators name, one inside of the other
abbrev pub desigs_skel : World → Skel → Desigs → Skel
desigs_skel w s no_desigs = s
desigs_skel w s (more_desigs d ds) = desigs_skel w (desig_skel w s d) ds

-- the target of an item, by whether it is the first and by the next member
abbrev pub item_skel : World → Skel → Bool → ℕ → Desigs → Option Skel
item_skel w (ref v s) is_first next ds = Some s
item_skel w (flat v (kinds.Struct n)) is_first next no_desigs = next_of_struct w n next
item_skel w (flat v (kinds.Struct n)) is_first next (more_desigs d ds) =
    Some (desigs_skel w (flat v (kinds.Struct n)) (more_desigs d ds))
item_skel w (flat v kinds.Base) is_first next ds = first_alone is_first (flat v kinds.Base)
item_skel w (flat v kinds.Void) is_first next ds = first_alone is_first (flat v kinds.Void)
item_skel w (flat v kinds.Nothing) is_first next ds = None
item_skel w (fun v ps r e) is_first next ds = None

-- the next member behind an item
abbrev pub next_behind : World → Skel → Desigs → ℕ → ℕ
next_behind w s no_desigs next = suc next
next_behind w s (more_desigs (member_desig token name) ds) next =
    behind_known (member_of w (struct_of s) name.name) next
next_behind w s (more_desigs (index_desig opening e closing) ds) next = next
next_behind w s (more_desigs (range_desig opening e dots e2 closing) ds) next = next
next_behind w s (more_desigs (old_desig name colon) ds) next = behind_known (member_of w (struct_of s) name.name) next

module _ (w : World) where
  -- the span of an expression
  abbrev pub where_is : Expr → Span
  where_is e = span w (first_token e) (last_token e)

  -- whether an expression is a zero
  abbrev pub zero_at : Expr → Bool
  zero_at e = is_zero w.spelling w.names e

  abbrev mutual
    -- the constraints of an initialiser of this target
    pub rule : Option Skel → Init → List Constraint
    rule None init = []
    rule (Some t) (init_value e) = flowing (zero_at e) (value (val w e)) t (all_lattices w) (where_is e)
    rule (Some t) (init_braced list) = list_rule t list

    -- the constraints of a list in braces of this target
    pub list_rule : Skel → InitList → List Constraint
    list_rule t (init_list opening items last closing) = items_rule t true 0 items

    -- the constraints of the items of such a list, from an index on
    pub items_rule : Skel → Bool → ℕ → InitItems → List Constraint
    items_rule t is_first next no_init_items = []
    items_rule t is_first next (more_init_items ds equal init items) =
        rule (item_skel w t is_first next ds) init ++ items_rule t false (next_behind w t ds next) items

  -- the arguments of a call of this function, behind those of them that stand before
  abbrev pub arguments : Skel → ℕ → Exprs → List Constraint
  arguments f i no_exprs = []
  arguments f i (more_exprs e es) =
      passed w (zero_at e) (value (val w e)) (param_at (parameters f) i) (further f) (where_is e)
      ++ arguments f (suc i) es

-- what passes inside a struct or union that is a member without a name
abbrev pub unnamed_word_demand : World → SpecWord → List Constraint
unnamed_word_demand w (struct_type word attrs None body) = formed_here w word.token
unnamed_word_demand w (struct_type word attrs (Some tag) body) = []
unnamed_word_demand w (storage word) = []
unnamed_word_demand w (thread token) = []
unnamed_word_demand w (inline_word token) = []
unnamed_word_demand w (noreturn token) = []
unnamed_word_demand w (qualifier q) = []
unnamed_word_demand w (basic word) = []
unnamed_word_demand w (enum_type e) = []
unnamed_word_demand w (typedef_name name) = []
unnamed_word_demand w (attribute attr) = []
unnamed_word_demand w (typeof_value keyword opening e closing) = []
unnamed_word_demand w (typeof_type word opening ws d closing) = []
unnamed_word_demand w (align attr) = []
unnamed_word_demand w (auto_word token) = []

-- the constraints of a member without a name, by the specifiers that it consists of
abbrev pub unnamed_demand : World → SpecWords → List Constraint
unnamed_demand w no_words = []
unnamed_demand w (more_words word words) = unnamed_word_demand w word ++ unnamed_demand w words

-- The operand of `&` is only addressed; its pointer may carry the one by which it came to its place. With the
-- constraints of the operand where it is only addressed, and where it is not.
abbrev pub prefix_demand : World → Bool → ℕ → Punct → Expr → List Constraint → List Constraint → List Constraint
prefix_demand w aims token signs.Ampersand e addressed taken = addressed
    ++ (if comes_by_pointer false e && has_access w.lattices
    then carried w (val w e).skel (pointer_to w e) (own w token) (span w token token)
    else prefixed w signs.Ampersand (zero_at w e) (val w e) (own w token) false
    (where_is w (prefix token signs.Ampersand e)))
prefix_demand w aims token p e addressed taken =
    taken ++ prefixed w p (zero_at w e) (val w e) (own w token) aims (where_is w (prefix token p e))

-- of an expression; where its place is only addressed, an index, a `*` or a `->` there is bounded by fewer elements
abbrev mutual
  -- the constraints of an expression, by whether its place is only addressed
  pub demand_in : World → Bool → Expr → List Constraint
  demand_in w aims (operation e comma token e2) = demand_in w false e ++ demand_in w false e2
  demand_in w aims (operation e (assign p) token e2) =
      demand_in w false e ++ (demand_in w false e2
      ++ assigned w p (zero_at w e2) (val w e).skel (value (val w e2)) (where_is w (operation e (assign p) token e2)))
  demand_in w aims (operation e (cond no_expr colon) token e2) = demand_in w false e ++ (demand_in w false e2
      ++ chosen w (zero_at w e) (zero_at w e2) (value (val w e)) (value (val w e2)) (own w token)
      (where_is w (operation e (cond no_expr colon) token e2)))
  demand_in w aims (operation e (cond (some_expr m) colon) token e2) =
      demand_in w false e ++ (demand_in w false m ++ (demand_in w false e2
      ++ chosen w (zero_at w m) (zero_at w e2) (value (val w m)) (value (val w e2)) (own w token)
      (where_is w (operation e (cond (some_expr m) colon) token e2))))
  demand_in w aims (operation e (binary p) token e2) = demand_in w false e ++ (demand_in w false e2
      ++ computed w p (zero_at w e) (zero_at w e2) (value (val w e)) (value (val w e2)) (own w token)
      (where_is w (operation e (binary p) token e2)))
  demand_in w aims (cast opening ws d closing e) =
      words_demand w ws ++ (some_declr_demand w row_of_name d ++ (demand_in w false e
      ++ cast_demand w (type_of_name w ws) (zero_at w e) (value (val w e)) (own w opening)
      (where_is w (cast opening ws d closing e))))
  demand_in w aims (prefix token p e) = prefix_demand w aims token p e (demand_in w true e) (demand_in w false e)
  demand_in w aims (sizeof_value word e) = []
  demand_in w aims (sizeof_type word opening ws d closing) = []
  demand_in w aims (extension keyword e) = demand_in w aims e
  demand_in w aims (index e opening e2 closing) =
      demand_in w false e ++ (demand_in w false e2
      ++ index_demand w (value (val w e)) (value (val w e2)) aims (where_is w (index e opening e2 closing)))
  demand_in w aims (call e opening es closing) =
      demand_in w false e ++ (exprs_demand w es ++ arguments w (contents (value (val w e))) 0 es)
  demand_in w aims (dot e token name) = demand_in w aims e
  demand_in w aims (arrow e token name) =
      demand_in w false e ++ dereferenced w (value (val w e)) aims (where_is w (arrow e token name))
  demand_in w aims (post e token p) =
      demand_in w false e ++ write_bounds w (root (val w e).skel) (where_is w (post e token p))
  demand_in w aims (compound opening ws d closing list) =
      words_demand w ws ++ (some_declr_demand w row_of_name d ++ (init_list_demand w list
      ++ (literal_row w opening (type_of_name w ws) ++ list_rule w (contents (own w opening)) list)))
  demand_in w aims (name_use token name) = use_demand w token (use_at w.names.uses (at w token))
  demand_in w aims (number_use token) = []
  demand_in w aims (char_use token) = []
  demand_in w aims (text_use texts) = formed_here w (first_text texts)
  demand_in w aims (paren opening e closing) = demand_in w aims e
  demand_in w aims (statement_expr opening opening2 items closing closing2) = block_items_demand w items
  demand_in w aims (va_arg keyword opening e separator ws d closing) =
      demand_in w false e ++ (words_demand w ws ++ (some_declr_demand w row_of_name d
      ++ taken_fresh w keyword (type_of_name w ws) (value (val w e))
      (where_is w (va_arg keyword opening e separator ws d closing))))
  demand_in w aims (va_start keyword opening e separator e2 closing) =
      demand_in w false e ++ (demand_in w false e2
      ++ started w w.own (value (val w e)) (where_is w (va_start keyword opening e separator e2 closing)))
  demand_in w aims (va_copy keyword opening e separator e2 closing) = demand_in w false e ++ (demand_in w false e2
      ++ flowing (zero_at w e2) (value (val w e2)) (value (val w e)) (all_lattices w)
      (where_is w (va_copy keyword opening e separator e2 closing)))
  demand_in w aims (offset keyword opening ws d separator name steps closing) = []
  demand_in w aims (complex_part keyword e) = demand_in w aims e
  demand_in w aims (label_use token name) = formed_here w token
  demand_in w aims (compat keyword opening ws d separator ws2 d2 closing) = []
  demand_in w aims (choose keyword opening e separator e2 separator2 e3 closing) =
      demand_in w false e2 ++ (demand_in w false e3
      ++ picked w (left_of (candidate_of w e2 ∷ candidate_of w e3 ∷ [])) (own w keyword) (span w keyword keyword))
  demand_in w aims (generic keyword opening e xs closing) = assocs_demand w xs
      ++ picked w (left_of (candidates_of w keyword 0 xs)) (own w keyword) (span w keyword keyword)

  -- the constraints of the associations of a `_Generic`
  pub assocs_demand : World → Assocs → List Constraint
  assocs_demand w no_assocs = []
  assocs_demand w (more_assocs x xs) = assoc_demand w x ++ assocs_demand w xs

  -- the constraints of an association of a `_Generic`
  pub assoc_demand : World → Assoc → List Constraint
  assoc_demand w (typed_assoc ws d colon e) =
      words_demand w ws ++ (some_declr_demand w row_of_name d ++ demand_in w false e)
  assoc_demand w (default_assoc keyword colon e) = demand_in w false e

  -- the constraints of an expression that may be left out
  pub some_expr_demand : World → SomeExpr → List Constraint
  some_expr_demand w no_expr = []
  some_expr_demand w (some_expr e) = demand_in w false e

  -- the constraints of arguments
  pub exprs_demand : World → Exprs → List Constraint
  exprs_demand w no_exprs = []
  exprs_demand w (more_exprs e es) = demand_in w false e ++ exprs_demand w es

  -- the constraints of the words of specifiers
  pub words_demand : World → SpecWords → List Constraint
  words_demand w no_words = []
  words_demand w (more_words word words) = word_demand w word ++ words_demand w words

  -- the constraints of a word of specifiers
  pub word_demand : World → SpecWord → List Constraint
  word_demand w (storage word) = []
  word_demand w (thread token) = []
  word_demand w (inline_word token) = []
  word_demand w (noreturn token) = []
  word_demand w (qualifier q) = []
  word_demand w (basic word) = []
  word_demand w (struct_type word attrs tag body) = some_body_demand w body
  word_demand w (enum_type e) = []
  word_demand w (typedef_name name) = []
  word_demand w (attribute attr) = []
  word_demand w (typeof_value keyword opening e closing) = []
  word_demand w (typeof_type word opening ws d closing) = words_demand w ws ++ some_declr_demand w row_of_name d
  word_demand w (align attr) = []
  word_demand w (auto_word token) = []

  -- the constraints of the body of a struct or union, if it has one
  pub some_body_demand : World → SomeBody → List Constraint
  some_body_demand w no_body = []
  some_body_demand w (some_body opening items closing) = struct_items_demand w items

  -- the constraints of the items of a struct's body
  pub struct_items_demand : World → StructItems → List Constraint
  struct_items_demand w no_struct_items = []
  struct_items_demand w (more_struct_items item items) = struct_item_demand w item ++ struct_items_demand w items

  -- the constraints of an item of a struct's body
  pub struct_item_demand : World → StructItem → List Constraint
  struct_item_demand w (member exts ws ds semi) = words_demand w ws ++ members_demand w ws ds
  struct_item_demand w (member_semi semi) = []
  struct_item_demand w (member_assert it) = []

  -- a member without a declarator is an unnamed one
  pub members_demand : World → SpecWords → MemDeclrs → List Constraint
  members_demand w ws no_mem_declrs = unnamed_demand w ws
  members_demand w ws (more_mem_declrs attrs d ds) = mem_declr_demand w d ++ mem_declrs_demand w ds

  -- the constraints of the declarators of members
  pub mem_declrs_demand : World → MemDeclrs → List Constraint
  mem_declrs_demand w no_mem_declrs = []
  mem_declrs_demand w (more_mem_declrs attrs d ds) = mem_declr_demand w d ++ mem_declrs_demand w ds

  -- the constraints of the declarator of a member
  pub mem_declr_demand : World → MemDeclr → List Constraint
  mem_declr_demand w (named d width attrs) = declr_demand w row_of_name None d
  mem_declr_demand w (unnamed colon e attrs) = []

  -- a declarator: the row of its name stands before what its parameters hold; `own`: the skeleton of the function whose
  -- own parameters are those directly around the name
  pub declr_demand : World → RowKind → Option Skel → Declr → List Constraint
  declr_demand w row own (pointer star words d) = declr_demand w row own d
  declr_demand w row own (declr_name token name) = row_at w row token
  declr_demand w row own (declr_paren opening attrs d closing) = declr_demand w row own d
  declr_demand w row own (array d opening words size closing) = declr_demand w row own d
  declr_demand w row own (params d opening ps dots closing) =
      declr_demand w row own d ++ params_demand w own (is_bare d) 0 ps
  declr_demand w row own (abs_pointer star words d) = some_declr_demand w row d
  declr_demand w row own (abs_paren opening attrs d closing) = declr_demand w row own d
  declr_demand w row own (abs_array d opening words size closing) = some_declr_demand w row d
  declr_demand w row own (abs_params d opening ps dots closing) =
      some_declr_demand w row d ++ params_demand w None false 0 ps
  declr_demand w row own (identifiers d opening names closing) = declr_demand w row own d
  declr_demand w row own (base_name token) = []

  -- of a type name too, whose declarator has no name
  pub some_declr_demand : World → RowKind → SomeDeclr → List Constraint
  some_declr_demand w row no_declr = []
  some_declr_demand w row (some_declr d) = declr_demand w row None d

  -- the constraints of parameters
  pub params_demand : World → Option Skel → Bool → ℕ → Params → List Constraint
  params_demand w own bare i no_params = []
  params_demand w own bare i (more_params ws d attrs ps) =
      words_demand w ws ++ (some_declr_demand w (param_kind own bare i) d ++ params_demand w own bare (suc i) ps)

  -- the constraints of an initialiser
  pub init_demand : World → Init → List Constraint
  init_demand w (init_value e) = demand_in w false e
  init_demand w (init_braced list) = init_list_demand w list

  -- the constraints of a list in braces
  pub init_list_demand : World → InitList → List Constraint
  init_list_demand w (init_list opening items last closing) = init_items_demand w items

  -- the constraints of the items of a list in braces
  pub init_items_demand : World → InitItems → List Constraint
  init_items_demand w no_init_items = []
  init_items_demand w (more_init_items ds equal init items) = init_demand w init ++ init_items_demand w items

  -- the constraints of the declarators of a declaration
  pub init_declrs_demand : World → InitDeclrs → List Constraint
  init_declrs_demand w no_init_declrs = []
  init_declrs_demand w (more_init_declrs attrs d asm_label attrs2 init ds) =
      declr_demand w row_of_name None d ++ (some_init_demand w (declared_name d) init ++ init_declrs_demand w ds)

  -- the constraints of the initialiser of a declarator, if it has one
  pub some_init_demand : World → Option Named → SomeInit → List Constraint
  some_init_demand w it no_init = []
  some_init_demand w it (some_init equal init) = init_demand w init ++ rule w (initialised w it) init

  -- of the declarations behind a list of identifiers: the row of a name is that of a parameter, by the number of its
  -- declaration
  pub old_declrs_demand : World → Option Skel → InitDeclrs → List Constraint
  old_declrs_demand w own no_init_declrs = []
  old_declrs_demand w own (more_init_declrs attrs d asm_label attrs2 init ds) =
      declr_demand w (identified_kind w own (declared_name d)) None d
      ++ (some_init_demand w (declared_name d) init ++ old_declrs_demand w own ds)

  -- the constraints of a declaration between the parameters of an old function and its body
  pub old_declaration_demand : World → Option Skel → Declaration → List Constraint
  old_declaration_demand w own (declaration exts ws ds semi) = words_demand w ws ++ old_declrs_demand w own ds

  -- the constraints of a declaration
  pub declaration_demand : World → Declaration → List Constraint
  declaration_demand w (declaration exts ws ds semi) = words_demand w ws ++ init_declrs_demand w ds

  -- the constraints of a declaration or an assertion
  pub decl_demand : World → Decl → List Constraint
  decl_demand w (decl_declaration d) = declaration_demand w d
  decl_demand w (decl_assert it) = []

  -- the constraints of the items of a block
  pub block_items_demand : World → BlockItems → List Constraint
  block_items_demand w no_block_items = []
  block_items_demand w (more_block_items item items) = block_item_demand w item ++ block_items_demand w items

  -- the constraints of an item of a block
  pub block_item_demand : World → BlockItem → List Constraint
  block_item_demand w (block_decl d) = decl_demand w d
  block_item_demand w (block_stmt t) = stmt_demand w t
  block_item_demand w (block_labels keyword names semi) = []

  -- the constraints of a statement
  pub stmt_demand : World → Stmt → List Constraint
  stmt_demand w (block opening items closing) = block_items_demand w items
  stmt_demand w (expr_stmt e semi) = some_expr_demand w e
  stmt_demand w (attr_stmt attrs semi) = []
  stmt_demand w (label name colon attrs t) = stmt_demand w t
  stmt_demand w (case_stmt keyword e colon t) = stmt_demand w t
  stmt_demand w (default_stmt keyword colon t) = stmt_demand w t
  stmt_demand w (if_stmt keyword opening e closing t other) =
      demand_in w false e ++ (stmt_demand w t ++ some_else_demand w other)
  stmt_demand w (switch_stmt keyword opening e closing t) = demand_in w false e ++ stmt_demand w t
  stmt_demand w (while_stmt keyword opening e closing t) = demand_in w false e ++ stmt_demand w t
  stmt_demand w (do_stmt keyword t keyword2 opening e closing semi) = stmt_demand w t ++ demand_in w false e
  stmt_demand w (for_stmt keyword opening start e semi e2 closing t) =
      for_start_demand w start ++ (some_expr_demand w e ++ (some_expr_demand w e2 ++ stmt_demand w t))
  stmt_demand w (goto_stmt keyword name semi) = []
  stmt_demand w (continue_stmt keyword semi) = []
  stmt_demand w (break_stmt keyword semi) = []
  stmt_demand w (return_stmt keyword no_expr semi) = []
  stmt_demand w (return_stmt keyword (some_expr e) semi) =
      demand_in w false e ++ returned w w.own (zero_at w e) (value (val w e)) (span w keyword semi)
  stmt_demand w (asm_stmt keyword words group semi) = []
  stmt_demand w (case_range keyword e dots e2 colon t) = stmt_demand w t
  stmt_demand w (goto_value keyword star e semi) = demand_in w false e

  -- the constraints of the `else` of an `if`, if it has one
  pub some_else_demand : World → SomeElse → List Constraint
  some_else_demand w no_else = []
  some_else_demand w (some_else keyword t) = stmt_demand w t

  -- the constraints of the first part of a `for`
  pub for_start_demand : World → ForStart → List Constraint
  for_start_demand w (start_declaration d) = declaration_demand w d
  for_start_demand w (start_value e semi) = some_expr_demand w e

-- the constraints of an expression that is not only addressed
abbrev pub demand : World → Expr → List Constraint
demand w e = demand_in w false e

-- the constraints of the declarations behind a list of identifiers, in the function of this skeleton
abbrev pub old_declarations_demand : World → Option Skel → List Declaration → List Constraint
old_declarations_demand w own [] = []
old_declarations_demand w own (d ∷ ds) = old_declaration_demand w own d ++ old_declarations_demand w own ds

-- a declarator with a list of identifiers: the declarations behind it stand where those of parameters do
abbrev pub old_declr_demand : World → Option Skel → List Declaration → Declr → List Constraint
old_declr_demand w own ds (identifiers d opening names closing) =
    declr_demand w row_of_name None d ++ old_declarations_demand w own ds
old_declr_demand w own ds (pointer star words d) = old_declr_demand w own ds d
old_declr_demand w own ds (declr_paren opening attrs d closing) = old_declr_demand w own ds d
old_declr_demand w own ds (array d opening words size closing) = old_declr_demand w own ds d
old_declr_demand w own ds (params d opening ps dots closing) =
    old_declr_demand w own ds d ++ params_demand w None false 0 ps
old_declr_demand w own ds (declr_name token name) = declr_demand w row_of_name None (declr_name token name)
old_declr_demand w own ds (base_name token) = []
old_declr_demand w own ds (abs_pointer star words d) = declr_demand w row_of_name None (abs_pointer star words d)
old_declr_demand w own ds (abs_paren opening attrs d closing) =
    declr_demand w row_of_name None (abs_paren opening attrs d closing)
old_declr_demand w own ds (abs_array d opening words size closing) =
    declr_demand w row_of_name None (abs_array d opening words size closing)
old_declr_demand w own ds (abs_params d opening ps dots closing) =
    declr_demand w row_of_name None (abs_params d opening ps dots closing)

-- the constraints of a function, a declaration or another item of a unit
abbrev pub item_demand : World → Item → List Constraint
item_demand w (function_item exts ws d attrs opening items closing) =
    words_demand w ws ++ (declr_demand w row_of_name (own_skeleton w (declared_name d)) d
    ++ block_items_demand (record w { own = own_skeleton w (declared_name d) }) items)
item_demand w (old_function_item exts ws d attrs ds opening items closing) =
    words_demand w ws ++ (old_declr_demand w (own_skeleton w (declared_name d)) ds d
    ++ block_items_demand (record w { own = own_skeleton w (declared_name d) }) items)
item_demand w (decl_item d) = decl_demand w d
item_demand w (asm_item keyword group semi) = []
item_demand w (semi_item semi) = []

-- the constraints of the items of a unit
abbrev pub items_demand : World → List Item → List Constraint
items_demand w [] = []
items_demand w (item ∷ items) = item_demand w item ++ items_demand w items
