-- The tokens at which skeletons may begin and names are declared along a tape: one an op.
use Rattle.std.specs.Prelude.{◌≡◌, ℕ, List, [], ◌∷◌, ◌++◌, Option, None, Some}
use Rattle.tape_ops.specs.declared.op.Op.{Op}
use Rattle.tape_ops.specs.declared.op.Op.TheVariants as ops
use Rattle.tape_ops.specs.declared.expression.ExprOp.{ExprOp}
use Rattle.tape_ops.specs.declared.expression.ExprOp.TheVariants as exprs
use Rattle.tape_ops.specs.declared.specifier.SpecOp.{SpecOp}
use Rattle.tape_ops.specs.declared.specifier.SpecOp.TheVariants as specs
use Rattle.tape_ops.specs.declared.declarator.DeclrOp.{DeclrOp}
use Rattle.tape_ops.specs.declared.declarator.DeclrOp.TheVariants as declrs
use Rattle.name_rules.specs.Spellings.{Spelling, Place, place}
use Rattle.expr_types.specs.Keys.{form_key, init_key}
use Rattle.name_rules.specs.Scopes.{Names, declared_at}

-- the token of an op of expressions at which a skeleton may begin
abbrev pub expr_key : ExprOp → Option ℕ
expr_key (exprs.Name is_called token name) = Some token
expr_key (exprs.Number token) = Some token
expr_key (exprs.Char token) = Some token
expr_key (exprs.Text token) = Some token
expr_key (exprs.Paren token) = None
expr_key (exprs.Ext token) = None
expr_key (exprs.Comma token) = None
expr_key (exprs.Assign sign token first last) = None
expr_key (exprs.Cond has_middle token first last) = Some token
expr_key (exprs.Binary sign token first last) = Some token
expr_key (exprs.Prefix sign token last aims) = Some token
expr_key (exprs.Post sign token first) = None
expr_key (exprs.Index token first last aims) = None
expr_key (exprs.Arg behind first last) = None
expr_key (exprs.Call token count) = None
expr_key (exprs.Arrow token first last aims) = None
expr_key (exprs.Dot token member name) = None
expr_key (exprs.Label token) = Some token

-- The token of an op that ends an expression, at which a skeleton may begin. Of the forms with type names and of
-- initialisers it is the key token of the expression.
abbrev pub fresh_key : Op → Option ℕ
fresh_key (ops.Expr op) = expr_key op
fresh_key (ops.Form op) = form_key op
fresh_key (ops.Init op) = init_key op
fresh_key (ops.Spec op) = None
fresh_key (ops.Declr op) = None
fresh_key (ops.Stmt op) = None

-- the token of an op of specifiers that declares something: an enumerator, or a member without a name
abbrev pub spec_key : SpecOp → Option ℕ
spec_key (specs.Word token) = None
spec_key (specs.Storage keyword) = None
spec_key specs.Void = None
spec_key (specs.Typedef token name) = None
spec_key (specs.TagUse kind token name) = None
spec_key (specs.TagAlone kind token name) = None
spec_key (specs.TagBody kind token name) = None
spec_key (specs.Untagged kind token) = None
spec_key specs.BodyEnd = None
spec_key (specs.Enumerator token name) = Some token
spec_key (specs.UnnamedMember token) = Some token
spec_key specs.PartBegin = None
spec_key (specs.TypeofEnd token) = None
spec_key specs.TypeEnd = None
spec_key specs.SpecsEnd = None

-- the token of the name that an op of declarators reads
abbrev pub declr_key : DeclrOp → Option ℕ
declr_key (declrs.DeclName token name) = Some token
declr_key (declrs.ParamsBegin is_own) = None
declr_key declrs.Param = None
declr_key declrs.ParamsEnd = None
declr_key declrs.Pointer = None
declr_key declrs.Array = None
declr_key (declrs.Function has_ellipsis) = None
declr_key declrs.Declare = None
declr_key declrs.AutoBegin = None
declr_key (declrs.AutoEnd token) = None
declr_key (declrs.Identifier token name) = None
declr_key declrs.OldParam = None
declr_key declrs.Member = None
declr_key (declrs.TypeName first) = None
declr_key declrs.DeclarationEnd = None

-- the token of an op at which a skeleton may begin or a name is declared
abbrev pub op_key : Op → Option ℕ
op_key (ops.Expr op) = expr_key op
op_key (ops.Form op) = form_key op
op_key (ops.Init op) = init_key op
op_key (ops.Spec op) = spec_key op
op_key (ops.Declr op) = declr_key op
op_key (ops.Stmt op) = None

-- the place of a token, where there is one
abbrev pub key_place : Spelling → Option ℕ → List Place
key_place u None = []
key_place u (Some token) = place u token ∷ []

-- the places at which skeletons may begin and names are declared along a tape
abbrev pub key_places : Spelling → List Op → List Place
key_places u [] = []
key_places u (op ∷ tape) = key_place u (op_key op) ++ key_places u tape

-- no name is declared at the token of an expression
abbrev pub KeyIsApart : Spelling → Names → Option ℕ → Type 0
KeyIsApart u s None = Unit {0}
KeyIsApart u s (Some token) = declared_at s.declared (place u token) ≡ None

-- no name is declared at the token of an expression, for all ops of a tape
abbrev pub KeysAreApart : Spelling → Names → List Op → Type 0
KeysAreApart u s [] = Unit {0}
KeysAreApart u s (op ∷ tape) = KeyIsApart u s (fresh_key op) × KeysAreApart u s tape
