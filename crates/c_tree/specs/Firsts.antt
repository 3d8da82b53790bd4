-- The first tokens of specifiers, of names of types, of initialisers and of statements.
use Rattle.std.specs.Prelude.{ℕ, List, [], ◌∷◌}
use Rattle.c_syntax.specs.declared.parts.Qual.{Qual}
use Rattle.c_syntax.specs.declared.parts.Qual.TheVariants as quals
use Rattle.c_syntax.specs.declared.parts.Attr.{Attr}
use Rattle.c_tree.specs.Tree.{SpecWords, no_words, more_words, SpecWord, storage, thread, inline_word, noreturn, qualifier, basic, struct_type, enum_type, typedef_name, attribute, EnumType, enum_of, SomeExpr, no_expr, some_expr, Init, init_value, init_braced, InitList, init_list, Stmt, block, expr_stmt, attr_stmt, label, case_stmt, default_stmt, if_stmt, switch_stmt, while_stmt, do_stmt, for_stmt, goto_stmt, continue_stmt, break_stmt, return_stmt, asm_stmt, typeof_value, typeof_type, align, auto_word, case_range, goto_value}
use Rattle.c_tree.specs.Ends.{first_token}

-- the token of a qualifier
abbrev pub qual_token : Qual → ℕ
qual_token (quals.Word word) = word.token
qual_token (quals.Element token) = token
qual_token (quals.Index token) = token

-- the keyword `enum` of an enumeration type
abbrev pub enum_token : EnumType → ℕ
enum_token (enum_of keyword attrs tag body) = keyword

-- the token that a word of specifiers begins with
abbrev pub word_token : SpecWord → ℕ
word_token (storage word) = word.token
word_token (thread token) = token
word_token (inline_word token) = token
word_token (noreturn token) = token
word_token (qualifier q) = qual_token q
word_token (basic word) = word.token
word_token (struct_type word attrs tag body) = word.token
word_token (enum_type e) = enum_token e
word_token (typedef_name name) = name.token
word_token (attribute attr) = attr.keyword
word_token (typeof_value keyword opening e closing) = keyword
word_token (typeof_type word opening ws d closing) = word.token
word_token (align attr) = attr.keyword
word_token (auto_word token) = token

-- the first token of specifiers, and of a type name that begins with them; token 0 where there is no word, as in no
-- well formed unit
abbrev pub first_word : SpecWords → ℕ
first_word no_words = 0
first_word (more_words word words) = word_token word

-- the opening brace of a list of initialisers
abbrev pub list_start : InitList → ℕ
list_start (init_list opening items last closing) = opening

-- the first token of an initialiser: of its expression, or its brace
abbrev pub init_start : Init → ℕ
init_start (init_value e) = first_token e
init_start (init_braced list) = list_start list

-- the first token of an expression that may be left out before this token
abbrev pub start_or : SomeExpr → ℕ → ℕ
start_or no_expr token = token
start_or (some_expr e) token = first_token e

-- the first token of attributes that may be left out before this token
abbrev pub attrs_or : List Attr → ℕ → ℕ
attrs_or [] token = token
attrs_or (attr ∷ attrs) token = attr.keyword

-- the first token of a statement
abbrev pub stmt_start : Stmt → ℕ
stmt_start (block opening items closing) = opening
stmt_start (expr_stmt e semi) = start_or e semi
stmt_start (attr_stmt attrs semi) = attrs_or attrs semi
stmt_start (label name colon attrs s) = name.token
stmt_start (case_stmt keyword e colon s) = keyword
stmt_start (default_stmt keyword colon s) = keyword
stmt_start (if_stmt keyword opening e closing s other) = keyword
stmt_start (switch_stmt keyword opening e closing s) = keyword
stmt_start (while_stmt keyword opening e closing s) = keyword
stmt_start (do_stmt keyword s keyword2 opening e closing semi) = keyword
stmt_start (for_stmt keyword opening start e semi e2 closing s) = keyword
stmt_start (goto_stmt keyword name semi) = keyword
stmt_start (continue_stmt keyword semi) = keyword
stmt_start (break_stmt keyword semi) = keyword
stmt_start (return_stmt keyword e semi) = keyword
stmt_start (asm_stmt keyword words group semi) = keyword
stmt_start (case_range keyword e dots e2 colon s) = keyword
stmt_start (goto_value keyword star e semi) = keyword
