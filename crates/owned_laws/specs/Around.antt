-- What must hold at each op of a tape, that its constraints stay in the function around it: that the skeletons which it
-- looks up belong to that function or to nobody.
use Rattle.std.specs.Prelude.{◌≡◌, ◌⊎◌, ℕ, Bool, true, false, List, slice_get, Option, None, Some}
use Rattle.tape_ops.specs.declared.op.Op.{Op}
use Rattle.tape_ops.specs.declared.op.Op.TheVariants as ops
use Rattle.tape_ops.specs.declared.expression.ExprOp.{ExprOp}
use Rattle.tape_ops.specs.declared.expression.ExprOp.TheVariants as exprs
use Rattle.tape_ops.specs.declared.form.FormOp.{FormOp}
use Rattle.tape_ops.specs.declared.form.FormOp.TheVariants as forms
use Rattle.tape_ops.specs.declared.initialiser.InitOp.{InitOp}
use Rattle.tape_ops.specs.declared.initialiser.InitOp.TheVariants as inits
use Rattle.tape_ops.specs.declared.declarator.DeclrOp.{DeclrOp}
use Rattle.tape_ops.specs.declared.declarator.DeclrOp.TheVariants as declrs
use Rattle.tape_ops.specs.declared.statement.StmtOp.{StmtOp}
use Rattle.tape_ops.specs.declared.statement.StmtOp.TheVariants as stmts
use Rattle.name_rules.specs.Spellings.{Place}
use Rattle.name_rules.specs.Scopes.{Role, typedef_role, object_role, function_role, parameter_role, field_role, enumerator_role, Declared, declared_at, Use, means, called, missing, Own, Known, Names, body_of}
use Rattle.name_rules.specs.Uses.{use_at}
use Rattle.name_rules.specs.Values.{member_in, own_of}
use Rattle.name_rules.specs.Linking.{link_of}
use Rattle.name_rules.specs.ShapeSteps.State.{declared_last}
use Rattle.row_rules.specs.Starting.{Start, is_some_function}
use Rattle.row_rules.specs.Worlds.{World, at}
use Rattle.row_rules.specs.Sites.{AreDifferent, site_places}
use Rattle.row_rules.specs.RowSteps.Rounds.{Naming, a_name, own_param, other_param, identified_param, naming, is_quiet}
use Rattle.row_rules.specs.RowSteps.State.{State}
use Rattle.owned_laws.specs.OwnerLaws.Fitting.{start_at}
use Rattle.owned_laws.specs.OwnerLaws.Rows.{KnowsStarts, IsInstance}

-- nobody's, or of the function
abbrev pub IsOwn : Option Place → Option Place → Type 0
IsOwn f own = (own ≡ None) ⊎ (own ≡ f)

-- no skeleton begins at the place, or one of the function or of nobody
abbrev pub BeginsIn : List Start → Option Place → Place → Type 0
BeginsIn starts f p = (it : Start) → start_at starts p ≡ Some it → IsOwn f it.owner

-- Names of a function are an instance of it, of which more is asked where it has constraints; other names are the
-- skeleton of what they mean, or one of their own.
abbrev pub MeantFits : World → List Start → Option Place → Bool → ℕ → Declared → Role → Type 0
MeantFits w starts f quiet token d function_role =
    BeginsIn starts f (at w token) × (quiet ≡ false → IsInstance w starts token d.at (link_of w.names d.at))
MeantFits w starts f quiet token d enumerator_role = BeginsIn starts f (at w token)
MeantFits w starts f quiet token d typedef_role = BeginsIn starts f d.at
MeantFits w starts f quiet token d object_role = BeginsIn starts f d.at
MeantFits w starts f quiet token d (parameter_role i) = BeginsIn starts f d.at
MeantFits w starts f quiet token d (field_role n i) = BeginsIn starts f d.at

-- what must hold at a use of a name, where its declaration is there
abbrev pub SomeMeantFits : World → List Start → Option Place → Bool → ℕ → Option Declared → Type 0
SomeMeantFits w starts f quiet token None = Unit {0}
SomeMeantFits w starts f quiet token (Some d) = MeantFits w starts f quiet token d d.role

-- what must hold at a name in an expression, by what it stands for
abbrev pub UseFits : World → List Start → Option Place → Bool → ℕ → Use → Type 0
UseFits w starts f quiet token (means p) = SomeMeantFits w starts f quiet token (declared_at w.names.declared p)
UseFits w starts f quiet token called = BeginsIn starts f (at w token)
UseFits w starts f quiet token missing = Unit {0}

-- a declared name, the first declaration of what it names in its unit or in the prelude, and that of all units are of
-- one function, or of nobody
abbrev pub DeclaredFits : World → List Start → Option Declared → Type 0
DeclaredFits w starts None = Unit {0}
DeclaredFits w starts (Some d) =
    (g : Option Place) × BeginsIn starts g d.first × BeginsIn starts g (link_of w.names d.first)
    × BeginsIn starts g d.at

-- what was first declared as a function is no parameter
abbrev pub ParamFits : World → List Start → Option Place → Option Declared → Type 0
ParamFits w starts f None = Unit {0}
ParamFits w starts f (Some d) =
    (is_some_function (declared_at w.names.declared d.first) ≡ true) ⊎ BeginsIn starts f d.at

-- the function whose name is at a token
abbrev pub FunctionFits : World → List Start → Option Place → Option ℕ → Type 0
FunctionFits w starts f None = Unit {0}
FunctionFits w starts f (Some token) = BeginsIn starts f (at w token)

-- what must hold at the name of a declarator, by what that is
abbrev pub NamingFits : World → List Start → Option Place → ℕ → Naming → Type 0
NamingFits w starts f token a_name = DeclaredFits w starts (declared_at w.names.declared (at w token))
NamingFits w starts f token (own_param g n) =
    FunctionFits w starts f g × ParamFits w starts f (declared_at w.names.declared (at w token))
NamingFits w starts f token other_param = Unit {0}
NamingFits w starts f token (identified_param g) =
    FunctionFits w starts f g × ParamFits w starts f (declared_at w.names.declared (at w token))

-- what an initialiser initialises, by what was declared first of it
abbrev pub InitFits : List Start → Option Place → Declared → Role → Type 0
InitFits starts f d typedef_role = Unit {0}
InitFits starts f d function_role = Unit {0}
InitFits starts f d object_role = BeginsIn starts f d.at
InitFits starts f d (parameter_role i) = BeginsIn starts f d.at
InitFits starts f d (field_role n i) = BeginsIn starts f d.at
InitFits starts f d enumerator_role = Unit {0}

-- what an initialiser initialises, where what was declared first of it is there
abbrev pub FirstInitFits : List Start → Option Place → Declared → Option Declared → Type 0
FirstInitFits starts f d None = Unit {0}
FirstInitFits starts f d (Some first) = InitFits starts f d first.role

-- what an initialiser of a declaration initialises, where that is there
abbrev pub SomeInitFits : World → List Start → Option Place → Option Declared → Type 0
SomeInitFits w starts f None = Unit {0}
SomeInitFits w starts f (Some d) = FirstInitFits starts f d (declared_at w.names.declared d.first)

-- what an initialiser of the name at a token initialises
abbrev pub InitialisedFits : World → List Start → Option Place → Option ℕ → Type 0
InitialisedFits w starts f None = Unit {0}
InitialisedFits w starts f (Some token) = SomeInitFits w starts f (declared_at w.names.declared (at w token))

-- what must hold at an op of expressions: that what is fresh there belongs to the function around it
abbrev pub ExprFits : World → List Start → Option Place → State → ExprOp → Type 0
ExprFits w starts f st (exprs.Name is_called token name) =
    UseFits w starts f (is_quiet st.rounds) token (use_at w.names.uses (at w token))
ExprFits w starts f st (exprs.Number token) = BeginsIn starts f (at w token)
ExprFits w starts f st (exprs.Char token) = BeginsIn starts f (at w token)
ExprFits w starts f st (exprs.Text token) = BeginsIn starts f (at w token)
ExprFits w starts f st (exprs.Paren token) = Unit {0}
ExprFits w starts f st (exprs.Ext token) = Unit {0}
ExprFits w starts f st (exprs.Comma token) = Unit {0}
ExprFits w starts f st (exprs.Assign sign token first last) = Unit {0}
ExprFits w starts f st (exprs.Cond has_middle token first last) = BeginsIn starts f (at w token)
ExprFits w starts f st (exprs.Binary sign token first last) = BeginsIn starts f (at w token)
ExprFits w starts f st (exprs.Prefix sign token last aims) = BeginsIn starts f (at w token)
ExprFits w starts f st (exprs.Post sign token first) = Unit {0}
ExprFits w starts f st (exprs.Index token first last aims) = Unit {0}
ExprFits w starts f st (exprs.Arg behind first last) = Unit {0}
ExprFits w starts f st (exprs.Call token count) = Unit {0}
ExprFits w starts f st (exprs.Arrow token first last aims) = Unit {0}
ExprFits w starts f st (exprs.Dot token member name) = Unit {0}
ExprFits w starts f st (exprs.Label token) = BeginsIn starts f (at w token)

-- what must hold at an op of the forms with type names: that what is fresh there belongs to the function around it
abbrev pub FormFits : World → List Start → Option Place → FormOp → Type 0
FormFits w starts f (forms.Cast token last) = BeginsIn starts f (at w token)
FormFits w starts f (forms.Sizeof token) = BeginsIn starts f (at w token)
FormFits w starts f (forms.StmtExpr has_value token) = BeginsIn starts f (at w token)
FormFits w starts f (forms.VaArg token last) = BeginsIn starts f (at w token)
FormFits w starts f (forms.VaStart token last) = BeginsIn starts f (at w token)
FormFits w starts f (forms.VaCopy token last) = BeginsIn starts f (at w token)
FormFits w starts f (forms.OffsetMember token name) = Unit {0}
FormFits w starts f (forms.OffsetIndex token) = Unit {0}
FormFits w starts f (forms.Offset token) = BeginsIn starts f (at w token)
FormFits w starts f (forms.Compat token) = BeginsIn starts f (at w token)
FormFits w starts f forms.Control = Unit {0}
FormFits w starts f forms.NoType = Unit {0}
FormFits w starts f (forms.Choose token) = BeginsIn starts f (at w token)
FormFits w starts f (forms.Generic token count) = BeginsIn starts f (at w token)

-- what must hold at an op of initialisers: that what they initialise belongs to the function around it or to nobody
abbrev pub InitOpFits : World → List Start → Option Place → State → InitOp → Type 0
InitOpFits w starts f st (inits.Value first last) = InitialisedFits w starts f (declared_last st.declarations)
InitOpFits w starts f st inits.Begin = Unit {0}
InitOpFits w starts f st inits.Rule = InitialisedFits w starts f (declared_last st.declarations)
InitOpFits w starts f st (inits.Literal token) = BeginsIn starts f (at w token)
InitOpFits w starts f st inits.ListBegin = Unit {0}
InitOpFits w starts f st (inits.Member token name) = Unit {0}
InitOpFits w starts f st (inits.Index token) = Unit {0}
InitOpFits w starts f st (inits.Leaf first last) = Unit {0}
InitOpFits w starts f st inits.ListEnd = Unit {0}
InitOpFits w starts f st inits.End = Unit {0}
InitOpFits w starts f st inits.LiteralEnd = Unit {0}

-- what must hold at an op of declarators: at a declared name alone
abbrev pub DeclrFits : World → List Start → Option Place → State → DeclrOp → Type 0
DeclrFits w starts f st (declrs.DeclName token name) = NamingFits w starts f token (naming st.rounds)
DeclrFits w starts f st (declrs.ParamsBegin is_own) = Unit {0}
DeclrFits w starts f st declrs.Param = Unit {0}
DeclrFits w starts f st declrs.ParamsEnd = Unit {0}
DeclrFits w starts f st declrs.Pointer = Unit {0}
DeclrFits w starts f st declrs.Array = Unit {0}
DeclrFits w starts f st (declrs.Function has_ellipsis) = Unit {0}
DeclrFits w starts f st declrs.Declare = Unit {0}
DeclrFits w starts f st declrs.AutoBegin = Unit {0}
DeclrFits w starts f st (declrs.AutoEnd token) = Unit {0}
DeclrFits w starts f st (declrs.Identifier token name) = Unit {0}
DeclrFits w starts f st declrs.OldParam = Unit {0}
DeclrFits w starts f st declrs.Member = Unit {0}
DeclrFits w starts f st (declrs.TypeName first) = Unit {0}
DeclrFits w starts f st declrs.DeclarationEnd = Unit {0}

-- what must hold at an op of statements: where the body of a function begins alone
abbrev pub StmtFits : World → List Start → Option Place → State → StmtOp → Type 0
StmtFits w starts f st stmts.Quiet = Unit {0}
StmtFits w starts f st stmts.Loud = Unit {0}
StmtFits w starts f st stmts.Pop = Unit {0}
StmtFits w starts f st (stmts.Return token last) = Unit {0}
StmtFits w starts f st stmts.Enter = Unit {0}
StmtFits w starts f st stmts.Leave = Unit {0}
StmtFits w starts f st stmts.FunctionBody = FunctionFits w starts f (declared_last st.declarations)
StmtFits w starts f st stmts.FunctionEnd = Unit {0}

-- what must hold at an op, by what is known before it, in this function
abbrev pub OpFits : World → List Start → Option Place → State → Op → Type 0
OpFits w starts f st (ops.Expr op) = ExprFits w starts f st op
OpFits w starts f st (ops.Form op) = FormFits w starts f op
OpFits w starts f st (ops.Init op) = InitOpFits w starts f st op
OpFits w starts f st (ops.Spec op) = Unit {0}
OpFits w starts f st (ops.Declr op) = DeclrFits w starts f st op
OpFits w starts f st (ops.Stmt op) = StmtFits w starts f st op

-- the members of structs belong to nobody
pub record MembersFit (starts : List Start) (s : Names) : Type 0 where
  pub known : (n name : ℕ) (it : Known) → member_in (body_of s.aggregates n) name ≡ Some it →
      BeginsIn starts None it.at
  pub own : (n i : ℕ) (it : Own) → slice_get (own_of s.aggregates n) i ≡ Some it → BeginsIn starts None it.at

-- of the skeletons of a world: no two instances of functions are at one place
pub record Settled (starts : List Start) (w : World) : Type 0 where
  pub knows : KnowsStarts w starts
  pub sites_differ : AreDifferent (site_places starts)
  pub members : MembersFit starts w.names
