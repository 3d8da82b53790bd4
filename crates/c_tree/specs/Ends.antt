-- The first and the last token of an expression, and the token that it is known by.
use Rattle.std.specs.Prelude.{◌≡◌, ℕ, ◌-◌, List, [], ◌∷◌, ◌++◌, length, slice_get, Option, None, Some}
use Rattle.c_tree.specs.declared.lexeme.Lexeme.{Lexeme}
use Rattle.c_tree.specs.Tree.{Expr, operation, cast, prefix, sizeof_value, sizeof_type, extension, index, call, dot, arrow, post, compound, name_use, number_use, char_use, text_use, paren, statement_expr, va_arg, va_start, va_copy, offset, InitList, init_list, complex_part, label_use, compat, choose, generic}
use Rattle.c_tree.specs.Text.{expr_text}
use Rattle.c_tree.specs.WellFormed.{IsExpr}

-- the first of adjacent texts, which are at least one in a well formed expression; else token 0
abbrev pub first_text : List ℕ → ℕ
first_text [] = 0
first_text (token ∷ tokens) = token

-- a token that may be absent, with 0 for none
abbrev pub or_zero : Option ℕ → ℕ
or_zero None = 0
or_zero (Some token) = token

-- the last of adjacent texts; token 0 where there are none, as in no well formed expression
abbrev pub last_text : List ℕ → ℕ
last_text texts = or_zero (slice_get texts (length texts - 1))

-- the number of the token that an expression begins with
abbrev pub first_token : Expr → ℕ
first_token (operation e op token e2) = first_token e
first_token (cast opening ws d closing e) = opening
first_token (prefix token p e) = token
first_token (sizeof_value word e) = word.token
first_token (sizeof_type word opening ws d closing) = word.token
first_token (extension keyword e) = keyword
first_token (index e opening e2 closing) = first_token e
first_token (call e opening es closing) = first_token e
first_token (dot e token name) = first_token e
first_token (arrow e token name) = first_token e
first_token (post e token p) = first_token e
first_token (compound opening ws d closing list) = opening
first_token (name_use token name) = token
first_token (number_use token) = token
first_token (char_use token) = token
first_token (text_use texts) = first_text texts
first_token (paren opening e closing) = opening
first_token (statement_expr opening opening2 items closing closing2) = opening
first_token (va_arg keyword opening e separator ws d closing) = keyword
first_token (va_start keyword opening e separator e2 closing) = keyword
first_token (va_copy keyword opening e separator e2 closing) = keyword
first_token (offset keyword opening ws d separator name steps closing) = keyword
first_token (complex_part keyword e) = keyword
first_token (label_use token name) = token
first_token (compat keyword opening ws d separator ws2 d2 closing) = keyword
first_token (choose keyword opening e separator e2 separator2 e3 closing) = keyword
first_token (generic keyword opening e xs closing) = keyword

-- the closing brace of a list of initialisers
abbrev pub list_end : InitList → ℕ
list_end (init_list opening items last closing) = closing

-- the number of the token that an expression ends with
abbrev pub last_token : Expr → ℕ
last_token (operation e op token e2) = last_token e2
last_token (cast opening ws d closing e) = last_token e
last_token (prefix token p e) = last_token e
last_token (sizeof_value word e) = last_token e
last_token (sizeof_type word opening ws d closing) = closing
last_token (extension keyword e) = last_token e
last_token (index e opening e2 closing) = closing
last_token (call e opening es closing) = closing
last_token (dot e token name) = name.token
last_token (arrow e token name) = name.token
last_token (post e token p) = token
last_token (compound opening ws d closing list) = list_end list
last_token (name_use token name) = token
last_token (number_use token) = token
last_token (char_use token) = token
last_token (text_use texts) = last_text texts
last_token (paren opening e closing) = closing
last_token (statement_expr opening opening2 items closing closing2) = closing2
last_token (va_arg keyword opening e separator ws d closing) = closing
last_token (va_start keyword opening e separator e2 closing) = closing
last_token (va_copy keyword opening e separator e2 closing) = closing
last_token (offset keyword opening ws d separator name steps closing) = closing
last_token (complex_part keyword e) = last_token e
last_token (label_use token name) = name.token
last_token (compat keyword opening ws d separator ws2 d2 closing) = closing
last_token (choose keyword opening e separator e2 separator2 e3 closing) = closing
last_token (generic keyword opening e xs closing) = closing

-- the token that an expression is known by: the operator of an operation or a prefix, `++` or `--` behind an operand,
-- `.` or `->`, `[` of an index, `(` of a call, and else the first token
abbrev pub key_token : Expr → ℕ
key_token (operation e op token e2) = token
key_token (index e opening e2 closing) = opening
key_token (call e opening es closing) = opening
key_token (dot e token name) = token
key_token (arrow e token name) = token
key_token (post e token p) = token
key_token e = first_token e

-- the number of the first of some tokens
abbrev pub number_of_first : List Lexeme → Option ℕ
number_of_first [] = None
number_of_first (t ∷ k) = Some t.at

-- the tokens of a well formed expression begin with its first
abbrev pub FirstBegins : Type 0
FirstBegins =
    (all : List Lexeme) (e : Expr) (k : List Lexeme) → IsExpr all e
    → number_of_first (expr_text all e k) ≡ Some (first_token e)

-- tokens that are some, then one of this number, and then others
pub record EndsAt (tokens : List Lexeme) (number : ℕ) (k : List Lexeme) : Type 0 where
  pub front : List Lexeme
  pub last : Lexeme
  pub spelled : tokens ≡ front ++ last ∷ k
  pub is : last.at ≡ number

-- the tokens of a well formed expression end with its last, right before what comes after it
abbrev pub LastEnds : Type 0
LastEnds = (all : List Lexeme) (e : Expr) (k : List Lexeme) → IsExpr all e → EndsAt (expr_text all e k) (last_token e) k
