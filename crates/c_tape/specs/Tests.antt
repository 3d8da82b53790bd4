-- What the tape of a node asks of its parts.
use Rattle.std.specs.Prelude.{Bool, true, false, ◌&&◌, Option, None, Some}
use Rattle.c_words.specs.declared.kinds.Keyword.{Keyword}
use Rattle.c_words.specs.declared.kinds.Keyword.TheVariants as keywords
use Rattle.tape_ops.specs.declared.specifier.TagKind.{TagKind}
use Rattle.tape_ops.specs.declared.specifier.TagKind.TheVariants as tags
use Rattle.c_tree.specs.WellFormed.{has_auto}
use Rattle.c_tree.specs.Tree.{SpecWords, no_words, more_words, SpecWord, storage, thread, inline_word, noreturn, qualifier, basic, struct_type, enum_type, typedef_name, attribute, SomeBody, no_body, some_body, Declr, pointer, declr_name, declr_paren, array, params, abs_pointer, abs_paren, abs_array, abs_params, no_declr, some_declr, Params, no_params, more_params, InitDeclrs, no_init_declrs, more_init_declrs, BlockItems, no_block_items, more_block_items, BlockItem, block_decl, block_stmt, Stmt, block, expr_stmt, attr_stmt, label, case_stmt, default_stmt, if_stmt, switch_stmt, while_stmt, do_stmt, for_stmt, goto_stmt, continue_stmt, break_stmt, return_stmt, asm_stmt, SomeExpr, no_expr, some_expr, Dots, SomeInit, no_init, some_init, init_value, init_braced, typeof_value, typeof_type, align, auto_word, identifiers, base_name, case_range, goto_value, block_labels}

-- whether a keyword is `void`
abbrev pub is_void : Keyword → Bool
is_void keywords.Void = true
is_void keyword = false

-- what a tag is of, by the keyword before it, `struct` or `union`
abbrev pub tag_kind : Keyword → TagKind
tag_kind keywords.Union = tags.Union
tag_kind keyword = tags.Struct

-- `void`, or a word that says nothing of a parameter
abbrev pub is_bare_word : SpecWord → Bool
is_bare_word (storage word) = false
is_bare_word (thread token) = false
is_bare_word (inline_word token) = true
is_bare_word (noreturn token) = true
is_bare_word (qualifier q) = false
is_bare_word (basic word) = is_void word.keyword
is_bare_word (struct_type word attrs tag body) = false
is_bare_word (enum_type e) = false
is_bare_word (typedef_name name) = false
is_bare_word (attribute attr) = true
is_bare_word (typeof_value keyword opening e closing) = false
is_bare_word (typeof_type word opening ws d closing) = false
is_bare_word (align attr) = true
is_bare_word (auto_word token) = false

-- `void` alone: with its type, specifiers have no word of another one
abbrev pub is_bare : SpecWords → Bool
is_bare no_words = true
is_bare (more_words word words) = is_bare_word word && is_bare words

-- whether a list of parameters says that there are none: one `void` without a declarator (C99, 6.7.5.3)
abbrev pub says_none : Params → Bool
says_none no_params = false
says_none (more_params words no_declr attrs no_params) = is_bare words
says_none (more_params words no_declr attrs (more_params words2 d attrs2 ps)) = false
says_none (more_params words (some_declr d) attrs ps) = false

-- whether a function takes more arguments than it has parameters: by `...`, or since it has no list at all
abbrev pub has_ellipsis : Params → Option Dots → Bool
has_ellipsis ps (Some dots) = true
has_ellipsis no_params None = true
has_ellipsis (more_params words d attrs ps) None = false

-- whether a struct or union has no body
abbrev pub is_bodiless : SomeBody → Bool
is_bodiless no_body = true
is_bodiless (some_body opening items closing) = false

-- a struct or union without a body, or an attribute
abbrev pub is_lone_word : SpecWord → Bool
is_lone_word (storage word) = false
is_lone_word (thread token) = false
is_lone_word (inline_word token) = false
is_lone_word (noreturn token) = false
is_lone_word (qualifier q) = false
is_lone_word (basic word) = false
is_lone_word (struct_type word attrs tag body) = is_bodiless body
is_lone_word (enum_type e) = false
is_lone_word (typedef_name name) = false
is_lone_word (attribute attr) = true
is_lone_word (typeof_value keyword opening e closing) = false
is_lone_word (typeof_type word opening ws d closing) = false
is_lone_word (align attr) = true
is_lone_word (auto_word token) = false

-- one struct or union without a body, attributes aside: with its type, specifiers have no word of another one
abbrev pub is_lone : SpecWords → Bool
is_lone no_words = true
is_lone (more_words word words) = is_lone_word word && is_lone words

-- whether a declaration declares a tag by itself, as `struct s;` does (C99, 6.7.2.3)
abbrev pub declares_tag : SpecWords → InitDeclrs → Bool
declares_tag words no_init_declrs = is_lone words
declares_tag words (more_init_declrs attrs d asm_label attrs2 init ds) = false

-- whether a declarator is a name, parentheses aside
abbrev pub is_name : Declr → Bool
is_name (pointer star words d) = false
is_name (declr_name token name) = true
is_name (declr_paren opening attrs d closing) = is_name d
is_name (array d opening words size closing) = false
is_name (params d opening ps dots closing) = false
is_name (abs_pointer star words d) = false
is_name (abs_paren opening attrs d closing) = false
is_name (abs_array d opening words size closing) = false
is_name (abs_params d opening ps dots closing) = false
is_name (identifiers d opening names closing) = false
is_name (base_name token) = false

-- whether an expression stands that may be left out
abbrev pub is_some_expr : SomeExpr → Bool
is_some_expr no_expr = false
is_some_expr (some_expr e) = true

-- whether a statement is an expression statement with an expression
abbrev pub is_value : Stmt → Bool
is_value (block opening items closing) = false
is_value (expr_stmt e semi) = is_some_expr e
is_value (attr_stmt attrs semi) = false
is_value (label name colon attrs s) = false
is_value (case_stmt keyword e colon s) = false
is_value (default_stmt keyword colon s) = false
is_value (if_stmt keyword opening e closing s other) = false
is_value (switch_stmt keyword opening e closing s) = false
is_value (while_stmt keyword opening e closing s) = false
is_value (do_stmt keyword s keyword2 opening e closing semi) = false
is_value (for_stmt keyword opening start e semi e2 closing s) = false
is_value (goto_stmt keyword name semi) = false
is_value (continue_stmt keyword semi) = false
is_value (break_stmt keyword semi) = false
is_value (return_stmt keyword e semi) = false
is_value (asm_stmt keyword words group semi) = false
is_value (case_range keyword e dots e2 colon s) = false
is_value (goto_value keyword star e semi) = false

-- whether an item of a block is an expression statement with an expression
abbrev pub is_value_item : BlockItem → Bool
is_value_item (block_decl d) = false
is_value_item (block_stmt s) = is_value s
is_value_item (block_labels keyword names semi) = false

-- whether the last item of a block is an expression statement with an expression
abbrev pub ends_in_value : BlockItems → Bool
ends_in_value no_block_items = false
ends_in_value (more_block_items item no_block_items) = is_value_item item
ends_in_value (more_block_items item (more_block_items item2 items)) = ends_in_value (more_block_items item2 items)

-- whether no item of a block is left
abbrev pub is_end : BlockItems → Bool
is_end no_block_items = true
is_end (more_block_items item items) = false

-- whether a declarator has an initialiser that is no list
abbrev pub has_value : SomeInit → Bool
has_value no_init = false
has_value (some_init equal (init_value e)) = true
has_value (some_init equal (init_braced list)) = false

-- whether each declarator has an initialiser that is no list
abbrev pub have_values : InitDeclrs → Bool
have_values no_init_declrs = true
have_values (more_init_declrs attrs d asm_label attrs2 init ds) = has_value init && have_values ds

-- whether the names of a declaration have the types of their initialisers; without those, as in no well-formed unit, it
-- is one like any other
abbrev pub are_auto : SpecWords → InitDeclrs → Bool
are_auto words ds = has_auto words && have_values ds
