-- Readers of expressions (C99, 6.5), over readers of the parts inside.
use Rattle.std.specs.Prelude.{ℕ, zero, suc, ◌+◌, ◌-◌, nat_le, Bool, true, false, not, List, [], ◌∷◌, length, Option, None, Some, if◌then◌else◌}
use Rattle.c_words.specs.declared.kinds.TokenKind.{TokenKind}
use Rattle.c_words.specs.declared.kinds.TokenKind.TheVariants as kinds
use Rattle.c_words.specs.declared.kinds.Punct.{Punct}
use Rattle.c_words.specs.declared.kinds.Punct.TheVariants as puncts
use Rattle.c_words.specs.declared.kinds.Keyword.{Keyword}
use Rattle.c_words.specs.declared.kinds.Keyword.TheVariants as keywords
use Rattle.c_syntax.specs.declared.parts.Word.{Word}
use Rattle.c_tree.specs.Tree.{Expr, cast, prefix, sizeof_value, sizeof_type, extension, index, call, dot, arrow, post, compound, name_use, number_use, char_use, text_use, paren, statement_expr, va_arg, va_start, va_copy, offset, Operator, comma, assign, cond, binary, SomeExpr, no_expr, some_expr, Exprs, no_exprs, Desig, member_desig, index_desig, complex_part, label_use, compat, choose, generic, Assoc, typed_assoc, default_assoc}
use Rattle.c_tree.specs.Height.{expr_height}
use Rattle.c_tree.specs.Levels.{binary_level, is_assignment, expr_level}
use Rattle.c_ops.specs.Joining.{Stack, bottom, above, Settled, settle_of, finished}
use Rattle.c_tree.specs.declared.lexeme.Lexeme.{Lexeme}
use Rattle.c_units.specs.HeldScopes.{HeldScopes, is_wide, names_type}
use Rattle.c_reading.specs.declared.kinds.FaultKind.TheVariants.{Unexpected, BadTarget}
use Rattle.c_reading.specs.declared.kinds.Reach.{Reach}
use Rattle.c_reading.specs.declared.kinds.Reach.TheVariants.{Whole, Assigned, Conditional, Castable, Unary}
use Rattle.c_reading.specs.declared.kinds.Opening.{Opening}
use Rattle.c_reading.specs.declared.kinds.Opening.TheVariants as openings
use Rattle.c_reading.specs.declared.kinds.PostfixForm.{PostfixForm}
use Rattle.c_reading.specs.declared.kinds.PostfixForm.TheVariants as forms
use Rattle.c_reading.specs.declared.kinds.Infix.{Infix}
use Rattle.c_reading.specs.declared.kinds.Infix.TheVariants as infixes
use Rattle.c_reading.specs.Reading.{Reader, Read, Turn, ◌>>=◌, ends, refuses, fits, kind_at, behind_first, take_one, token_at, run, repeated, listed, Next, one_more}
use Rattle.c_reading.specs.Tokens.{is_default, is_open_paren, is_close_paren, is_open_bracket, is_close_bracket, is_open_brace, is_colon, is_comma, word_of, name_at, texts_at}
use Rattle.c_reading.specs.declared.kinds.Role.TheVariants.{Naming}
use Rattle.c_reading.specs.Specifying.{begins_role, begins_specs}
use Rattle.c_reading.specs.Parts.{Inner, Begun, nothing, extensions, star, TypeName, type_name_height, assocs_from, exprs_from, desigs_from}

-- a sign of a level of binary operators between two operands; one of level 0 ends the expression
abbrev pub binary_or_nothing : Punct → ℕ → Infix
binary_or_nothing p zero = infixes.Nothing
binary_or_nothing p (suc level) = infixes.Binary p

-- what a sign is between two operands
abbrev pub punct_infix : Punct → Infix
punct_infix puncts.Comma = infixes.Comma
punct_infix puncts.Question = infixes.Question
punct_infix p = if is_assignment p then infixes.Assign p else binary_or_nothing p (binary_level p)

-- what a token is between two operands
abbrev pub infix_of : TokenKind → Infix
infix_of (kinds.Punct p) = punct_infix p
infix_of kind = infixes.Nothing

-- what an operand begins with where its first token is a sign
abbrev pub punct_opening : Punct → Opening
punct_opening puncts.OpenParen = openings.Paren
punct_opening puncts.PlusPlus = openings.Prefix puncts.PlusPlus Unary
punct_opening puncts.MinusMinus = openings.Prefix puncts.MinusMinus Unary
punct_opening puncts.Ampersand = openings.Prefix puncts.Ampersand Castable
punct_opening puncts.Star = openings.Prefix puncts.Star Castable
punct_opening puncts.Plus = openings.Prefix puncts.Plus Castable
punct_opening puncts.Minus = openings.Prefix puncts.Minus Castable
punct_opening puncts.Tilde = openings.Prefix puncts.Tilde Castable
punct_opening puncts.Bang = openings.Prefix puncts.Bang Castable
punct_opening puncts.AmpersandAmpersand = openings.Label
punct_opening p = openings.Nothing

-- what an operand begins with where its first token is a keyword
abbrev pub keyword_opening : Keyword → Opening
keyword_opening keywords.Sizeof = openings.Sizeof keywords.Sizeof
keyword_opening keywords.Alignof = openings.Sizeof keywords.Alignof
keyword_opening keywords.Extension = openings.Extension
keyword_opening keywords.VaArg = openings.VaArg
keyword_opening keywords.VaStart = openings.VaStart
keyword_opening keywords.VaCopy = openings.VaCopy
keyword_opening keywords.Offsetof = openings.Offset
keyword_opening keywords.Part = openings.Part
keyword_opening keywords.Compatible = openings.Compat
keyword_opening keywords.Choose = openings.Choose
keyword_opening keywords.Generic = openings.Generic
keyword_opening keyword = openings.Nothing

-- what an operand begins with, by its first token
abbrev pub opening_of : TokenKind → Opening
opening_of (kinds.Punct p) = punct_opening p
opening_of (kinds.Keyword keyword) = keyword_opening keyword
opening_of (kinds.Name name) = openings.Name name
opening_of kinds.Number = openings.Number
opening_of kinds.Char = openings.Char
opening_of kinds.Text = openings.Text
opening_of kind = openings.Nothing

-- whether an operand begins so: a typedef name begins none, and `&&` one in wider C alone
abbrev pub is_opening : HeldScopes → Opening → Bool
is_opening s openings.Nothing = false
is_opening s (openings.Name name) = not (names_type s name)
is_opening s openings.Label = is_wide s
is_opening s opening = true

-- an expression begins
abbrev pub begins_expr : HeldScopes → TokenKind → Bool
begins_expr s kind = is_opening s (opening_of kind)

-- what a sign begins behind an operand
abbrev pub punct_form : Punct → PostfixForm
punct_form puncts.OpenBracket = forms.Index
punct_form puncts.OpenParen = forms.Call
punct_form puncts.Dot = forms.Dot
punct_form puncts.Arrow = forms.Arrow
punct_form puncts.PlusPlus = forms.Post puncts.PlusPlus
punct_form puncts.MinusMinus = forms.Post puncts.MinusMinus
punct_form p = forms.Nothing

-- what a token begins behind an operand
abbrev pub form_of : TokenKind → PostfixForm
form_of (kinds.Punct p) = punct_form p
form_of kind = forms.Nothing

-- whether an expression of a reach goes on with a comma
abbrev pub takes_comma : Reach → Bool
takes_comma Whole = true
takes_comma Assigned = false
takes_comma Conditional = false
takes_comma Castable = false
takes_comma Unary = false

-- whether an expression of a reach goes on with an assignment
abbrev pub takes_assign : Reach → Bool
takes_assign Whole = true
takes_assign Assigned = true
takes_assign Conditional = false
takes_assign Castable = false
takes_assign Unary = false

-- whether a token is `.`
abbrev pub is_dot : TokenKind → Bool
is_dot (kinds.Punct puncts.Dot) = true
is_dot kind = false

-- a designator begins, or a step of an offset
abbrev pub begins_desig : TokenKind → Bool
begins_desig kind = if is_dot kind then true else is_open_bracket kind

-- operands that wait with their operators, and the last operand
pub record OperandRow : Type 0 where
  pub waiting : Stack
  pub last : Expr

-- how many operands wait with their operators
abbrev pub how_many : Stack → ℕ
how_many bottom = 0
how_many (above waiting left) = suc (how_many waiting)

-- what waits where an operator of a level comes next
abbrev pub settled : OperandRow → ℕ → Settled
settled row level = settle_of level row.waiting row.last

-- behind how many waiting operands, that with the operator among them, the next operand stands
abbrev pub depth_of : Settled → ℕ
depth_of left = suc (how_many left.below)

-- an operator and the operand behind it
abbrev pub with_operand : Settled → Operator → ℕ → Expr → OperandRow
with_operand left op token e =
    record { waiting = above left.below (record { tree = left.last; operator = op; token = token }); last = e }

-- `__extension__` at these tokens, before an expression
abbrev pub extended : List ℕ → Expr → Expr
extended [] e = e
extended (token ∷ tokens) e = extension token (extended tokens e)

module _ (inner : Inner) where
  -- a further argument of a call, behind a comma
  unfoldable pub next_argument : ℕ → ℕ → Reader (Next Expr ⊥)
  next_argument room token s ts =
      inner.expr Assigned nothing (room - 1) s ts >>= λ e. ends (one_more e.tree) e.scopes e.rest

  -- [assign (, assign)*]
  unfoldable pub arguments_with : ℕ → Reader Exprs
  arguments_with room s ts =
      if is_close_paren (kind_at ts) then ends no_exprs s ts
      else listed (inner.expr Assigned nothing (room - 1)) (next_argument room) s ts >>= λ es.
      ends (exprs_from es.tree.items) es.scopes es.rest

  -- Index = postfix [ expr ]
  unfoldable pub index_with : Expr → ℕ → Reader Expr
  index_with base room s ts = do
    opening ← take_one s ts
    e ← inner.expr Whole nothing (room - 1) opening.scopes opening.rest
    closing ← token_at is_close_bracket e.scopes e.rest
    ends (index base opening.tree e.tree closing.tree) closing.scopes closing.rest

  -- Call = postfix ( [assign (, assign)*] )
  unfoldable pub call_with : Expr → ℕ → Reader Expr
  call_with callee room s ts = do
    opening ← take_one s ts
    es ← arguments_with room opening.scopes opening.rest
    closing ← token_at is_close_paren es.scopes es.rest
    ends (call callee opening.tree es.tree closing.tree) closing.scopes closing.rest

  -- Dot = postfix . Name
  unfoldable pub dot_with : Expr → Reader Expr
  dot_with base s ts = do
    token ← take_one s ts
    name ← name_at token.scopes token.rest
    ends (dot base token.tree name.tree) name.scopes name.rest

  -- Arrow = postfix -> Name
  unfoldable pub arrow_with : Expr → Reader Expr
  arrow_with base s ts = do
    token ← take_one s ts
    name ← name_at token.scopes token.rest
    ends (arrow base token.tree name.tree) name.scopes name.rest

  -- Post = postfix (++ | --)
  unfoldable pub post_with : Expr → Punct → Reader Expr
  post_with base p s ts = take_one s ts >>= λ token. ends (post base token.tree p) token.scopes token.rest

  -- one postfix form behind an operand, by what the token there begins; none where no form begins
  abbrev pub postfix_by : PostfixForm → ℕ → Expr → HeldScopes → List Lexeme → Option (Read Expr)
  postfix_by forms.Index room e s ts = Some (index_with e room s ts)
  postfix_by forms.Call room e s ts = Some (call_with e room s ts)
  postfix_by forms.Dot room e s ts = Some (dot_with e s ts)
  postfix_by forms.Arrow room e s ts = Some (arrow_with e s ts)
  postfix_by (forms.Post p) room e s ts = Some (post_with e p s ts)
  postfix_by forms.Nothing room e s ts = None

  -- what is put round an operand makes it one node lower
  abbrev pub lowered : ℕ → ℕ → List Lexeme → Option (Read Expr) → Option (Read Expr)
  lowered height room ts None = None
  lowered height room ts (Some read) = Some (fits (suc height) room ts read)

  -- one postfix form behind an operand, with room for the node above it
  abbrev pub postfix_turn : ℕ → Turn Expr
  postfix_turn room e s ts = lowered (expr_height e) room ts (postfix_by (form_of (kind_at ts)) room e s ts)

  -- the postfix forms behind a primary expression or a compound literal
  unfoldable pub postfixed : ℕ → Expr → Reader Expr
  postfixed room e s ts = run (postfix_turn room) e s ts

  -- a primary expression of one token, with its postfix forms
  abbrev pub primary_with : (ℕ → Expr) → ℕ → Reader Expr
  primary_with make room s ts =
      fits 1 room ts (take_one s ts >>= λ token. postfixed room (make token.tree) token.scopes token.rest)

  -- TextUse = Text+
  unfoldable pub text_with : ℕ → Reader Expr
  text_with room s ts = fits 1 room ts (do
    token ← take_one s ts
    texts ← texts_at token.scopes token.rest
    postfixed room (text_use (token.tree ∷ texts.tree)) texts.scopes texts.rest)

  -- Compound = ( TypeName ) InitList, behind the parentheses
  unfoldable pub compound_with : ℕ → TypeName → ℕ → ℕ → Reader Expr
  compound_with opening t closing room s ts = do
    list ← inner.init_list (room - 1) s ts
    postfixed room (compound opening t.words t.declr closing list.tree) list.scopes list.rest

  -- Cast = ( TypeName ) cast, behind the parentheses
  unfoldable pub cast_behind : ℕ → TypeName → ℕ → ℕ → Reader Expr
  cast_behind opening t closing room s ts = do
    e ← inner.expr Castable nothing (room - 1) s ts
    ends (cast opening t.words t.declr closing e.tree) e.scopes e.rest

  -- behind a type's name in parentheses; a cast stands only where one is wanted
  unfoldable pub typed_behind : Bool → ℕ → TypeName → ℕ → ℕ → Reader Expr
  typed_behind casts opening t closing room s ts =
      if is_open_brace (kind_at ts) then compound_with opening t closing room s ts
      else if casts then cast_behind opening t closing room s ts
      else refuses Unexpected ts

  -- a type name in parentheses, behind the opening one, and what stands behind it
  unfoldable pub typed_with : Bool → ℕ → ℕ → Reader Expr
  typed_with casts opening room s ts = do
    t ← inner.type_name (room - 1) s ts
    closing ← token_at is_close_paren t.scopes t.rest
    typed_behind casts opening t.tree closing.tree room closing.scopes closing.rest

  -- StmtExpr = ( Block ), behind the parenthesis
  unfoldable pub statement_with : ℕ → ℕ → Reader Expr
  statement_with opening room s ts = do
    block ← inner.block (room - 1) s ts
    closing ← token_at is_close_paren block.scopes block.rest
    postfixed room (statement_expr opening block.tree.opening block.tree.items block.tree.closing closing.tree)
        closing.scopes closing.rest

  -- Paren = ( expr ), behind the parenthesis
  unfoldable pub paren_with : ℕ → ℕ → Reader Expr
  paren_with opening room s ts = do
    e ← inner.expr Whole nothing (room - 1) s ts
    closing ← token_at is_close_paren e.scopes e.rest
    postfixed room (paren opening e.tree closing.tree) closing.scopes closing.rest

  -- behind a parenthesis, by the token there
  unfoldable pub opened_by : Bool → ℕ → ℕ → Reader Expr
  opened_by casts opening room s ts =
      if begins_specs s (kind_at ts) then typed_with casts opening room s ts
      else if is_open_brace (kind_at ts) then statement_with opening room s ts
      else paren_with opening room s ts

  -- a cast, a compound literal, a statement in parentheses, or an expression in parentheses
  unfoldable pub opened_with : Bool → ℕ → Reader Expr
  opened_with casts room s ts =
      fits 2 room ts (take_one s ts >>= λ opening. opened_by casts opening.tree room opening.scopes opening.rest)

  -- Prefix = (++ | --) unary | (& | * | + | - | ~ | !) cast
  unfoldable pub prefix_with : Punct → Reach → ℕ → Reader Expr
  prefix_with p reach room s ts = fits 2 room ts (do
    token ← take_one s ts
    e ← inner.expr reach nothing (room - 1) token.scopes token.rest
    ends (prefix token.tree p e.tree) e.scopes e.rest)

  -- Ext = ext cast
  unfoldable pub extension_with : ℕ → Reader Expr
  extension_with room s ts = fits 2 room ts (do
    token ← take_one s ts
    e ← inner.expr Castable nothing (room - 1) token.scopes token.rest
    ends (extension token.tree e.tree) e.scopes e.rest)

  -- Sizeof = (sizeof | alignof) unary, behind the word
  unfoldable pub sizeof_value_with : Word → ℕ → Reader Expr
  sizeof_value_with word room s ts = do
    e ← inner.expr Unary nothing (room - 1) s ts
    ends (sizeof_value word e.tree) e.scopes e.rest

  -- behind a type's name in parentheses: SizeofType, or before `{` a compound literal that is the operand
  unfoldable pub sizeof_typed : Word → ℕ → TypeName → ℕ → ℕ → Reader Expr
  sizeof_typed word opening t closing room s ts =
      if is_open_brace (kind_at ts)
      then fits (2 + type_name_height t) room ts
      (compound_with opening t closing (room - 1) s ts >>= λ e. ends (sizeof_value word e.tree) e.scopes e.rest)
      else ends (sizeof_type word opening t.words t.declr closing) s ts

  -- SizeofType = (sizeof | alignof) ( TypeName ), behind the word
  unfoldable pub sizeof_type_with : Word → ℕ → Reader Expr
  sizeof_type_with word room s ts = do
    opening ← take_one s ts
    t ← inner.type_name (room - 1) opening.scopes opening.rest
    closing ← token_at is_close_paren t.scopes t.rest
    sizeof_typed word opening.tree t.tree closing.tree room closing.scopes closing.rest

  -- behind the word, by the parenthesis and the token behind it
  unfoldable pub sizeof_behind : Word → ℕ → Reader Expr
  sizeof_behind word room s ts =
      if is_open_paren (kind_at ts)
      then fits 3 room ts (if begins_specs s (kind_at (behind_first ts)) then sizeof_type_with word room s ts
      else sizeof_value_with word room s ts)
      else sizeof_value_with word room s ts

  -- Sizeof or SizeofType, at the word
  unfoldable pub sizeof_with : Keyword → ℕ → Reader Expr
  sizeof_with keyword room s ts =
      fits 2 room ts
      (take_one s ts >>= λ token. sizeof_behind (word_of keyword token.tree) room token.scopes token.rest)

  -- Part = part cast
  unfoldable pub part_with : ℕ → Reader Expr
  part_with room s ts = fits 2 room ts (do
    token ← take_one s ts
    e ← inner.expr Castable nothing (room - 1) token.scopes token.rest
    ends (complex_part token.tree e.tree) e.scopes e.rest)

  -- LabelUse = && Name, in wider C
  unfoldable pub label_use_with : ℕ → Reader Expr
  label_use_with room s ts =
      if is_wide s
      then fits 1 room ts (take_one s ts >>= λ token. name_at token.scopes token.rest >>= λ name.
      ends (label_use token.tree name.tree) name.scopes name.rest)
      else refuses Unexpected ts

  -- Compat = __builtin_types_compatible_p ( TypeName , TypeName )
  unfoldable pub compat_with : ℕ → Reader Expr
  compat_with room s ts = fits 3 room ts (do
    keyword ← take_one s ts
    opening ← token_at is_open_paren keyword.scopes keyword.rest
    t ← inner.type_name (room - 1) opening.scopes opening.rest
    separator ← token_at is_comma t.scopes t.rest
    t2 ← inner.type_name (room - 1) separator.scopes separator.rest
    closing ← token_at is_close_paren t2.scopes t2.rest
    postfixed room (compat keyword.tree opening.tree t.tree.words t.tree.declr separator.tree t2.tree.words
        t2.tree.declr closing.tree) closing.scopes closing.rest)

  -- Choose = __builtin_choose_expr ( assign , assign , assign )
  unfoldable pub choose_with : ℕ → Reader Expr
  choose_with room s ts = fits 2 room ts (do
    keyword ← take_one s ts
    opening ← token_at is_open_paren keyword.scopes keyword.rest
    e ← inner.expr Assigned nothing (room - 1) opening.scopes opening.rest
    separator ← token_at is_comma e.scopes e.rest
    e2 ← inner.expr Assigned nothing (room - 1) separator.scopes separator.rest
    separator2 ← token_at is_comma e2.scopes e2.rest
    e3 ← inner.expr Assigned nothing (room - 1) separator2.scopes separator2.rest
    closing ← token_at is_close_paren e3.scopes e3.rest
    postfixed room (choose keyword.tree opening.tree e.tree separator.tree e2.tree separator2.tree e3.tree closing.tree)
        closing.scopes closing.rest)

  -- Assoc = default : assign
  unfoldable pub default_assoc_with : ℕ → Reader Assoc
  default_assoc_with room s ts = fits 2 room ts (do
    keyword ← take_one s ts
    colon ← token_at is_colon keyword.scopes keyword.rest
    e ← inner.expr Assigned nothing (room - 1) colon.scopes colon.rest
    ends (default_assoc keyword.tree colon.tree e.tree) e.scopes e.rest)

  -- Assoc = TypeName : assign
  unfoldable pub typed_assoc_with : ℕ → Reader Assoc
  typed_assoc_with room s ts = fits 3 room ts (do
    t ← inner.type_name (room - 1) s ts
    colon ← token_at is_colon t.scopes t.rest
    e ← inner.expr Assigned nothing (room - 1) colon.scopes colon.rest
    ends (typed_assoc t.tree.words t.tree.declr colon.tree e.tree) e.scopes e.rest)

  -- Assoc = TypeName : assign | default : assign
  unfoldable pub assoc_with : ℕ → Reader Assoc
  assoc_with room s ts =
      if is_default (kind_at ts) then default_assoc_with room s ts
      else if begins_role Naming s (kind_at ts) then typed_assoc_with room s ts
      else refuses Unexpected ts

  -- an association, behind a comma
  unfoldable pub next_assoc : ℕ → ℕ → Reader (Next Assoc ⊥)
  next_assoc room token s ts = assoc_with room s ts >>= λ x. ends (one_more x.tree) x.scopes x.rest

  -- Generic = _Generic ( assign , Assoc (, Assoc)* )
  unfoldable pub generic_with : ℕ → Reader Expr
  generic_with room s ts = fits 3 room ts (do
    keyword ← take_one s ts
    opening ← token_at is_open_paren keyword.scopes keyword.rest
    e ← inner.expr Assigned nothing (room - 1) opening.scopes opening.rest
    separator ← token_at is_comma e.scopes e.rest
    xs ← listed (assoc_with (room - 1)) (next_assoc (room - 1)) separator.scopes separator.rest
    closing ← token_at is_close_paren xs.scopes xs.rest
    postfixed room
        (generic keyword.tree opening.tree e.tree (assocs_from xs.tree.items) closing.tree) closing.scopes closing.rest)

  -- VaArg = __builtin_va_arg ( assign , TypeName )
  unfoldable pub va_arg_with : ℕ → Reader Expr
  va_arg_with room s ts = fits 3 room ts (do
    keyword ← take_one s ts
    opening ← token_at is_open_paren keyword.scopes keyword.rest
    e ← inner.expr Assigned nothing (room - 1) opening.scopes opening.rest
    separator ← token_at is_comma e.scopes e.rest
    t ← inner.type_name (room - 1) separator.scopes separator.rest
    closing ← token_at is_close_paren t.scopes t.rest
    postfixed room (va_arg keyword.tree opening.tree e.tree separator.tree t.tree.words t.tree.declr closing.tree)
        closing.scopes closing.rest)

  -- VaStart = __builtin_va_start ( assign , assign ), and VaCopy likewise
  unfoldable pub va_two_with : (ℕ → ℕ → Expr → ℕ → Expr → ℕ → Expr) → ℕ → Reader Expr
  va_two_with make room s ts = fits 2 room ts (do
    keyword ← take_one s ts
    opening ← token_at is_open_paren keyword.scopes keyword.rest
    e ← inner.expr Assigned nothing (room - 1) opening.scopes opening.rest
    separator ← token_at is_comma e.scopes e.rest
    e2 ← inner.expr Assigned nothing (room - 1) separator.scopes separator.rest
    closing ← token_at is_close_paren e2.scopes e2.rest
    postfixed room
        (make keyword.tree opening.tree e.tree separator.tree e2.tree closing.tree) closing.scopes closing.rest)

  -- a step of an offset: . Name or [ expr ]
  unfoldable pub step_with : ℕ → Reader Desig
  step_with room s ts =
      if is_dot (kind_at ts)
      then (take_one s ts >>= λ token. name_at token.scopes token.rest >>= λ name.
      ends (member_desig token.tree name.tree) name.scopes name.rest)
      else take_one s ts >>= λ opening. inner.expr Whole nothing (room - 1) opening.scopes opening.rest >>= λ e.
      token_at is_close_bracket e.scopes e.rest >>= λ closing.
      ends (index_desig opening.tree e.tree closing.tree) closing.scopes closing.rest

  -- Offset = __builtin_offsetof ( TypeName , Name (. Name | [ expr ])* )
  unfoldable pub offset_with : ℕ → Reader Expr
  offset_with room s ts = fits 3 room ts (do
    keyword ← take_one s ts
    opening ← token_at is_open_paren keyword.scopes keyword.rest
    t ← inner.type_name (room - 1) opening.scopes opening.rest
    separator ← token_at is_comma t.scopes t.rest
    name ← name_at separator.scopes separator.rest
    steps ← repeated begins_desig (step_with room) name.scopes name.rest
    closing ← token_at is_close_paren steps.scopes steps.rest
    postfixed room (offset keyword.tree opening.tree t.tree.words t.tree.declr separator.tree name.tree
        (desigs_from steps.tree) closing.tree) closing.scopes closing.rest)

  -- a name in an expression is no typedef name
  abbrev pub name_with : ℕ → ℕ → Reader Expr
  name_with name room s ts =
      if names_type s name then refuses Unexpected ts else primary_with (λ token. name_use token name) room s ts

  -- a unary form by what it begins with
  unfoldable pub unary_by : Opening → ℕ → Reader Expr
  unary_by (openings.Prefix p reach) room s ts = prefix_with p reach room s ts
  unary_by (openings.Sizeof keyword) room s ts = sizeof_with keyword room s ts
  unary_by openings.Extension room s ts = extension_with room s ts
  unary_by (openings.Name name) room s ts = name_with name room s ts
  unary_by openings.Number room s ts = primary_with number_use room s ts
  unary_by openings.Char room s ts = primary_with char_use room s ts
  unary_by openings.Text room s ts = text_with room s ts
  unary_by openings.Paren room s ts = opened_with false room s ts
  unary_by openings.VaArg room s ts = va_arg_with room s ts
  unary_by openings.VaStart room s ts = va_two_with va_start room s ts
  unary_by openings.VaCopy room s ts = va_two_with va_copy room s ts
  unary_by openings.Offset room s ts = offset_with room s ts
  unary_by openings.Part room s ts = part_with room s ts
  unary_by openings.Label room s ts = label_use_with room s ts
  unary_by openings.Compat room s ts = compat_with room s ts
  unary_by openings.Choose room s ts = choose_with room s ts
  unary_by openings.Generic room s ts = generic_with room s ts
  unary_by openings.Nothing room s ts = refuses Unexpected ts

  -- unary = postfix | Prefix | Sizeof | SizeofType | Ext
  unfoldable pub unary_with : ℕ → Reader Expr
  unary_with room s ts = unary_by (opening_of (kind_at ts)) room s ts

  -- cast = unary | Cast
  unfoldable pub cast_with : ℕ → Reader Expr
  cast_with room s ts = if is_open_paren (kind_at ts) then opened_with true room s ts else unary_with room s ts

  -- the first operand, behind what of it was read already
  unfoldable pub operand_with : Begun → ℕ → Reader Expr
  operand_with nothing room s ts = cast_with room s ts
  operand_with (extensions tokens) room s ts =
      cast_with (room - length tokens) s ts >>= λ e. ends (extended tokens e.tree) e.scopes e.rest
  operand_with (star token) room s ts =
      cast_with (room - 1) s ts >>= λ e. ends (prefix token puncts.Star e.tree) e.scopes e.rest

  -- an operator, for which the left side and those that wait must leave room, and the operand behind it
  abbrev pub operation_with : Operator → Settled → ℕ → Reader OperandRow
  operation_with op left room s ts = fits (depth_of left + expr_height left.last) room ts (do
    token ← take_one s ts
    e ← cast_with (room - depth_of left) token.scopes token.rest
    ends (with_operand left op token.tree e.tree) e.scopes e.rest)

  -- the middle of a conditional, or nothing
  unfoldable pub middle_with : ℕ → Reader SomeExpr
  middle_with room s ts =
      if is_colon (kind_at ts) then ends no_expr s ts
      else inner.expr Whole nothing room s ts >>= λ e. ends (some_expr e.tree) e.scopes e.rest

  -- ? [expr] : and the operand behind it
  abbrev pub question_with : Settled → ℕ → Reader OperandRow
  question_with left room s ts = fits (depth_of left + expr_height left.last) room ts (do
    token ← take_one s ts
    middle ← middle_with (room - depth_of left) token.scopes token.rest
    colon ← token_at is_colon middle.scopes middle.rest
    e ← cast_with (room - depth_of left) colon.scopes colon.rest
    ends (with_operand left (cond middle.tree colon.tree) token.tree e.tree) e.scopes e.rest)

  -- an assignment is refused where its left side is no unary form, and else ends a conditional
  abbrev pub assign_with : Reach → Punct → Settled → ℕ → HeldScopes → List Lexeme → Option (Read OperandRow)
  assign_with reach p left room s ts =
      if nat_le 14 (expr_level left.last)
      then (if takes_assign reach then Some (operation_with (assign p) left room s ts) else None)
      else Some (refuses BadTarget ts)

  -- one operator and the operand behind it, as far as the reach goes; none where the expression ends
  abbrev pub operation_by : Reach → ℕ → Infix → Turn OperandRow
  operation_by reach room infixes.Comma row s ts =
      if takes_comma reach then Some (operation_with comma (settled row 0) room s ts) else None
  operation_by reach room (infixes.Assign p) row s ts = assign_with reach p (settled row 1) room s ts
  operation_by reach room infixes.Question row s ts = Some (question_with (settled row 2) room s ts)
  operation_by reach room (infixes.Binary p) row s ts =
      Some (operation_with (binary p) (settled row (binary_level p + 2)) room s ts)
  operation_by reach room infixes.Nothing row s ts = None

  -- one operator and the operand behind it, by the token there
  abbrev pub operation_turn : Reach → ℕ → Turn OperandRow
  operation_turn reach room row s ts = operation_by reach room (infix_of (kind_at ts)) row s ts

  -- operands and operators in turn, and the tree of them
  unfoldable pub row_with : Reach → Begun → ℕ → Reader Expr
  row_with reach begun room s ts = do
    e ← operand_with begun room s ts
    row ← run (operation_turn reach room) (record { waiting = bottom; last = e.tree }) e.scopes e.rest
    ends (finished row.tree.waiting row.tree.last) row.scopes row.rest

  -- expr = assign | Comma, assign = cond | Assign, cond = level 1 | Cond, and the levels of binary operators
  unfoldable pub expr_with : Reach → Begun → ℕ → Reader Expr
  expr_with Whole begun room s ts = row_with Whole begun room s ts
  expr_with Assigned begun room s ts = row_with Assigned begun room s ts
  expr_with Conditional begun room s ts = row_with Conditional begun room s ts
  expr_with Castable begun room s ts = operand_with begun room s ts
  expr_with Unary begun room s ts = unary_with room s ts
