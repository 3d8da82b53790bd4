-- The readers of the parts of operands at a number of the knot, and how what they answer is seen.
use Rattle.std.specs.Prelude.{◌≡◌, ℕ, ◌+◌, ◌-◌, Bool, List, [], ◌∷◌, map, Option, None, Some, Result, Ok, Err, if◌then◌else◌}
use Rattle.c_words.specs.declared.kinds.Keyword.{Keyword}
use Rattle.c_words.specs.declared.kinds.Punct.{Punct}
use Rattle.c_syntax.specs.declared.parts.Word.{Word}
use Rattle.c_tree.specs.declared.lexeme.Lexeme.{Lexeme}
use Rattle.c_tree.specs.Lists as lists
use Rattle.c_tree.specs.Tree.{Expr, Exprs, Desig, Desigs, member_desig, index_desig, sizeof_value}
use Rattle.c_tree.specs.View.{expr_of, desig_of}
use Rattle.c_nodes.specs.declared.sized.SizedExpr.{SizedExpr}
use Rattle.c_nodes.specs.declared.sized.SizedExprs.{SizedExprs}
use Rattle.c_nodes.specs.declared.sized.SizedStep.{SizedStep}
use Rattle.c_nodes.specs.declared.sized.SizedSteps.{SizedSteps}
use Rattle.c_nodes.specs.declared.sized.SizedTypeName.{SizedTypeName}
use Rattle.c_nodes.specs.Sized.{expr}
use Rattle.c_units.specs.HeldScopes.{HeldScopes}
use Rattle.c_reading.specs.declared.kinds.FaultKind.TheVariants.{Unexpected}
use Rattle.c_reading.specs.declared.kinds.Opening.{Opening}
use Rattle.c_reading.specs.declared.kinds.PostfixForm.{PostfixForm}
use Rattle.c_reading.specs.declared.kinds.PostfixForm.TheVariants as forms
use Rattle.c_reading.specs.declared.kinds.Reach.{Reach}
use Rattle.c_reading.specs.declared.kinds.Reach.TheVariants.{Whole}
use Rattle.c_reading.specs.Reading.{Reader, Turn, CommaList, ◌>>=◌, ends, refuses, fits, kind_at, behind_first, take_one, token_at, comma_turn, repeated_turn, repeated, run}
use Rattle.c_reading.specs.Tokens.{is_close_bracket, name_at as name_here}
use Rattle.c_reading.specs.Specifying.{begins_specs}
use Rattle.c_reading.specs.Parts.{Inner, nothing, type_name_height}
use Rattle.c_reading.specs.Expressing as exprs
use Rattle.c_reading.specs.Knot.{knot}
use Rattle.reader_base.specs.declared.fault.ReadError.{ReadError}
use Rattle.reader_base.specs.declared.cursor.Cursor.{Cursor}
use Rattle.reader_base.specs.Gives.{Reads}
use Rattle.reader_base.specs.Lent.{sized_type_name}
use Rattle.reader_base.specs.Looping.{FailsTurn}

-- arguments, as the state of the loop over them
abbrev pub known_arguments : SizedExprs → CommaList Expr ⊥
known_arguments es = record { items = map expr_of es.items.items; ending = None }

-- arguments are read as the reader of lists gives them, as a state of the loop over them
abbrev pub ReadsList : Cursor → Cursor → Result SizedExprs ReadError → Reader (CommaList Expr ⊥) → Type 0
ReadsList before after result reader = Reads known_arguments before after result reader

-- the arguments of a call are read so
abbrev pub ReadsArguments : Cursor → Cursor → Result SizedExprs ReadError → Reader Exprs → Type 0
ReadsArguments before after result reader = Reads (λ es. lists.exprs_from es.items.items) before after result reader

-- steps of an offset, as the state of the loop over them
abbrev pub known_steps : SizedSteps → List Desig
known_steps steps = map desig_of steps.items.items

-- a step of an offset is read so
abbrev pub ReadsStep : Cursor → Cursor → Result SizedStep ReadError → Reader Desig → Type 0
ReadsStep before after result reader = Reads (λ x. desig_of x.step) before after result reader

-- the steps of an offset are read so
abbrev pub ReadsSteps : Cursor → Cursor → Result SizedSteps ReadError → Reader (List Desig) → Type 0
ReadsSteps before after result reader = Reads known_steps before after result reader

-- a further argument, behind a comma
unfoldable pub argument_turn : ℕ → ℕ → Turn (CommaList Expr ⊥)
argument_turn depth room known s ts = comma_turn (exprs.next_argument (knot depth) room) known s ts

-- the arguments behind the first, with that
abbrev pub behind_argument : ℕ → SizedExpr → ℕ → Reader (CommaList Expr ⊥)
behind_argument depth first room s ts =
    run (argument_turn depth room) (record { items = expr first ∷ []; ending = None }) s ts

-- [assign (, assign)*]
abbrev pub arguments_at : ℕ → ℕ → Reader Exprs
arguments_at depth room s ts = exprs.arguments_with (knot depth) room s ts

-- Index = postfix [ expr ], behind its operand
abbrev pub index_at : ℕ → SizedExpr → ℕ → Reader Expr
index_at depth base room s ts = exprs.index_with (knot depth) (expr base) room s ts

-- Call = postfix ( [assign (, assign)*] ), behind its operand
abbrev pub call_at : ℕ → SizedExpr → ℕ → Reader Expr
call_at depth callee room s ts = exprs.call_with (knot depth) (expr callee) room s ts

-- one postfix form behind an operand
abbrev pub form_with : Inner → PostfixForm → Expr → ℕ → Reader Expr
form_with inner forms.Index e room s ts = exprs.index_with inner e room s ts
form_with inner forms.Call e room s ts = exprs.call_with inner e room s ts
form_with inner forms.Dot e room s ts = exprs.dot_with inner e s ts
form_with inner forms.Arrow e room s ts = exprs.arrow_with inner e s ts
form_with inner (forms.Post p) e room s ts = exprs.post_with inner e p s ts
form_with inner forms.Nothing e room s ts = refuses Unexpected ts

-- the same by the readers of a number
abbrev pub form_at : ℕ → PostfixForm → SizedExpr → ℕ → Reader Expr
form_at depth form base room s ts = form_with (knot depth) form (expr base) room s ts

-- whatever the readers inside are, a turn reads this form, ends the loop, or fails so
abbrev pub IsChosen : ℕ → Expr → List Lexeme → Result (Option PostfixForm) ReadError → Type 0
IsChosen room e ts (Ok (Some form)) =
    (inner : Inner) (s : HeldScopes) → exprs.postfix_turn inner room e s ts ≡ Some (form_with inner form e room s ts)
IsChosen room e ts (Ok None) = (inner : Inner) (s : HeldScopes) → exprs.postfix_turn inner room e s ts ≡ None
IsChosen room e ts (Err fault) =
    (inner : Inner) (s : HeldScopes) → FailsTurn fault (exprs.postfix_turn inner room e s ts)

-- one postfix form behind an operand, by the token there
abbrev pub form_turn : ℕ → ℕ → Turn Expr
form_turn depth room = exprs.postfix_turn (knot depth) room

-- the postfix forms behind an operand, as many as stand
abbrev pub postfixed_at : ℕ → SizedExpr → ℕ → Reader Expr
postfixed_at depth base room s ts = exprs.postfixed (knot depth) room (expr base) s ts

-- a primary expression of one token, with its postfix forms
abbrev pub primary_at : ℕ → (ℕ → Expr) → ℕ → Reader Expr
primary_at depth make room s ts = exprs.primary_with (knot depth) make room s ts

-- a name as an expression, which is no typedef name
abbrev pub name_at : ℕ → ℕ → ℕ → Reader Expr
name_at depth name room s ts = exprs.name_with (knot depth) name room s ts

-- TextUse = Text+
abbrev pub text_at : ℕ → ℕ → Reader Expr
text_at depth room s ts = exprs.text_with (knot depth) room s ts

-- Compound = ( TypeName ) InitList, behind the parentheses
abbrev pub compound_at : ℕ → ℕ → SizedTypeName → ℕ → ℕ → Reader Expr
compound_at depth opening of closing room s ts =
    exprs.compound_with (knot depth) opening (sized_type_name of) closing room s ts

-- Cast = ( TypeName ) cast, behind the parentheses
abbrev pub cast_behind_at : ℕ → ℕ → SizedTypeName → ℕ → ℕ → Reader Expr
cast_behind_at depth opening of closing room s ts =
    exprs.cast_behind (knot depth) opening (sized_type_name of) closing room s ts

-- a compound literal, or a cast where one may stand, behind a type name in parentheses
abbrev pub typed_behind_at : ℕ → Bool → ℕ → SizedTypeName → ℕ → ℕ → Reader Expr
typed_behind_at depth casts opening of closing room s ts =
    exprs.typed_behind (knot depth) casts opening (sized_type_name of) closing room s ts

-- TypeName ) and what stands behind it, behind the opening parenthesis
abbrev pub typed_at : ℕ → Bool → ℕ → ℕ → Reader Expr
typed_at depth casts opening room s ts = exprs.typed_with (knot depth) casts opening room s ts

-- StmtExpr = ( Block ), behind the parenthesis
abbrev pub statement_at : ℕ → ℕ → ℕ → Reader Expr
statement_at depth opening room s ts = exprs.statement_with (knot depth) opening room s ts

-- Paren = ( expr ), behind the parenthesis
abbrev pub paren_at : ℕ → ℕ → ℕ → Reader Expr
paren_at depth opening room s ts = exprs.paren_with (knot depth) opening room s ts

-- what stands behind a parenthesis, by the token there
abbrev pub opened_by_at : ℕ → Bool → ℕ → ℕ → Reader Expr
opened_by_at depth casts opening room s ts = exprs.opened_by (knot depth) casts opening room s ts

-- what begins with a parenthesis
abbrev pub opened_at : ℕ → Bool → ℕ → Reader Expr
opened_at depth casts room s ts = exprs.opened_with (knot depth) casts room s ts

-- Prefix = (++ | --) unary | (& | * | + | - | ~ | !) cast
abbrev pub prefix_at : ℕ → Punct → Reach → ℕ → Reader Expr
prefix_at depth p reach room s ts = exprs.prefix_with (knot depth) p reach room s ts

-- Ext = ext cast
abbrev pub extension_at : ℕ → ℕ → Reader Expr
extension_at depth room s ts = exprs.extension_with (knot depth) room s ts

-- Sizeof = (sizeof | alignof) unary, behind the word
abbrev pub sizeof_value_at : ℕ → Word → ℕ → Reader Expr
sizeof_value_at depth word room s ts = exprs.sizeof_value_with (knot depth) word room s ts

-- Sizeof with a compound literal as its operand, behind the type name in parentheses
abbrev pub sizeof_literal_at : ℕ → Word → ℕ → SizedTypeName → ℕ → ℕ → Reader Expr
sizeof_literal_at depth word opening of closing room s ts =
    fits (2 + type_name_height (sized_type_name of)) room ts
    (exprs.compound_with (knot depth) opening (sized_type_name of) closing (room - 1) s ts >>= λ e.
    ends (sizeof_value word e.tree) e.scopes e.rest)

-- SizeofType, or that with a compound literal, behind the type name in parentheses
abbrev pub sizeof_typed_at : ℕ → Word → ℕ → SizedTypeName → ℕ → ℕ → Reader Expr
sizeof_typed_at depth word opening of closing room s ts =
    exprs.sizeof_typed (knot depth) word opening (sized_type_name of) closing room s ts

-- SizeofType = (sizeof | alignof) ( TypeName ), behind the word
abbrev pub sizeof_type_at : ℕ → Word → ℕ → Reader Expr
sizeof_type_at depth word room s ts = exprs.sizeof_type_with (knot depth) word room s ts

-- behind the word, where a parenthesis stands
abbrev pub sizeof_opened_at : ℕ → Word → ℕ → Reader Expr
sizeof_opened_at depth word room s ts =
    fits 3 room ts (if begins_specs s (kind_at (behind_first ts))
    then exprs.sizeof_type_with (knot depth) word room s ts else exprs.sizeof_value_with (knot depth) word room s ts)

-- behind the word, by the tokens there
abbrev pub sizeof_behind_at : ℕ → Word → ℕ → Reader Expr
sizeof_behind_at depth word room s ts = exprs.sizeof_behind (knot depth) word room s ts

-- Sizeof or SizeofType, at the word
abbrev pub sizeof_at : ℕ → Keyword → ℕ → Reader Expr
sizeof_at depth keyword room s ts = exprs.sizeof_with (knot depth) keyword room s ts

-- VaArg = __builtin_va_arg ( assign , TypeName )
abbrev pub va_arg_at : ℕ → ℕ → Reader Expr
va_arg_at depth room s ts = exprs.va_arg_with (knot depth) room s ts

-- VaStart = __builtin_va_start ( assign , assign ), and VaCopy likewise
abbrev pub va_two_at : ℕ → (ℕ → ℕ → Expr → ℕ → Expr → ℕ → Expr) → ℕ → Reader Expr
va_two_at depth make room s ts = exprs.va_two_with (knot depth) make room s ts

-- a step of an offset: . Name
abbrev pub member_step_at : Reader Desig
member_step_at s ts =
    take_one s ts >>= λ token. name_here token.scopes token.rest >>= λ name.
    ends (member_desig token.tree name.tree) name.scopes name.rest

-- a step of an offset: [ expr ]
abbrev pub index_step_at : ℕ → ℕ → Reader Desig
index_step_at depth room s ts =
    take_one s ts >>= λ opening. (knot depth).expr Whole nothing (room - 1) opening.scopes opening.rest >>= λ e.
    token_at is_close_bracket e.scopes e.rest >>= λ closing.
    ends (index_desig opening.tree e.tree closing.tree) closing.scopes closing.rest

-- a step of an offset, by its first token
abbrev pub step_at : ℕ → ℕ → Reader Desig
step_at depth room s ts = exprs.step_with (knot depth) room s ts

-- one more step of an offset
abbrev pub step_turn : ℕ → ℕ → Turn (List Desig)
step_turn depth room = repeated_turn exprs.begins_desig (exprs.step_with (knot depth) room)

-- the steps of an offset behind its first member
abbrev pub steps_at : ℕ → ℕ → Reader (List Desig)
steps_at depth room s ts = repeated exprs.begins_desig (exprs.step_with (knot depth) room) s ts

-- Offset = __builtin_offsetof ( TypeName , Name (. Name | [ expr ])* )
abbrev pub offset_at : ℕ → ℕ → Reader Expr
offset_at depth room s ts = exprs.offset_with (knot depth) room s ts

-- a unary form by what it begins with
abbrev pub unary_by_at : ℕ → Opening → ℕ → Reader Expr
unary_by_at depth opening room s ts = exprs.unary_by (knot depth) opening room s ts

-- unary = postfix | Prefix | Sizeof | SizeofType | Ext
abbrev pub unary_at : ℕ → ℕ → Reader Expr
unary_at depth room s ts = exprs.unary_with (knot depth) room s ts

-- cast = unary | Cast
abbrev pub cast_at : ℕ → ℕ → Reader Expr
cast_at depth room s ts = exprs.cast_with (knot depth) room s ts
