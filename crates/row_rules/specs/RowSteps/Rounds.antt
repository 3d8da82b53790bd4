-- What is around an op of a tape: whether it is quiet there, and what the name of the next declarator is.
use Rattle.std.specs.Prelude.{ℕ, suc, Bool, true, false, List, [], ◌∷◌, Option, None}
use Rattle.tape_ops.specs.declared.op.Op.{Op}
use Rattle.tape_ops.specs.declared.op.Op.TheVariants as ops
use Rattle.tape_ops.specs.declared.form.FormOp.{FormOp}
use Rattle.tape_ops.specs.declared.form.FormOp.TheVariants as forms
use Rattle.tape_ops.specs.declared.specifier.SpecOp.{SpecOp}
use Rattle.tape_ops.specs.declared.specifier.SpecOp.TheVariants as specs
use Rattle.tape_ops.specs.declared.declarator.DeclrOp.{DeclrOp}
use Rattle.tape_ops.specs.declared.declarator.DeclrOp.TheVariants as declrs
use Rattle.tape_ops.specs.declared.statement.StmtOp.{StmtOp}
use Rattle.tape_ops.specs.declared.statement.StmtOp.TheVariants as stmts
use Rattle.name_rules.specs.ShapeSteps.State.{OpenDeclaration, declared_last, changed, without_innermost}

-- what the name of a declarator is, by the list or the body that it stands in: a declared name or a member, a parameter
-- of the function with a body whose name is at a token, with its number, or a parameter of another function
pub data Naming : Type 0 where
  a_name : Naming
  own_param : Option ℕ → ℕ → Naming
  other_param : Naming
  -- a parameter, by its identifier, of the function with a body whose name is at a token
  identified_param : Option ℕ → Naming

-- what is begun and not at its end: a scope, a body, a list of parameters, or what gives no constraint
pub record Round : Type 0 where
  pub naming : Naming
  pub is_quiet : Bool

-- what is begun, the innermost first, and the token of the name of the function whose body this is
pub record Rounds : Type 0 where
  pub around : List Round
  pub body : Option ℕ
  -- whether some lattice bounds accesses
  pub access : Bool

-- a unit begins with nothing around it
abbrev pub file : Bool → Rounds
file access = record { around = []; body = None; access = access }

-- what was begun last; where nothing is begun, names are declared and nothing is quiet
abbrev pub innermost : List Round → Round
innermost [] = record { naming = a_name; is_quiet = false }
innermost (it ∷ outer) = it

-- whether an op gives no constraint here, and nothing is fresh
abbrev pub is_quiet : Rounds → Bool
is_quiet r = (innermost r.around).is_quiet

-- what the name of the next declarator is here
abbrev pub naming : Rounds → Naming
naming r = (innermost r.around).naming

-- something begins, with what names are in it and whether it is quiet
abbrev pub with_round : Naming → Bool → Rounds → Rounds
with_round names quiet r = record r { around = record { naming = names; is_quiet = quiet } ∷ r.around }

-- a scope or a body begins: it is as quiet as its context
abbrev pub entered : Rounds → Rounds
entered r = with_round a_name (is_quiet r) r

-- what gives no constraint begins, such as the size of an array
abbrev pub silenced : Rounds → Rounds
silenced r = with_round a_name true r

-- what was begun last ends
abbrev pub left : Rounds → Rounds
left r = record r { around = without_innermost r.around }

-- the name that the open declaration has so far
abbrev pub name_so_far : List OpenDeclaration → Option ℕ
name_so_far [] = None
name_so_far (it ∷ outer) = it.name

-- what the first name in a list of parameters is, by whether these are a function's own
abbrev pub params_naming : Bool → List OpenDeclaration → Naming
params_naming true declarations = own_param (name_so_far declarations) 0
params_naming false declarations = other_param

-- what the name behind a parameter is: the next parameter
abbrev pub next_naming : Naming → Naming
next_naming a_name = a_name
next_naming (own_param f n) = own_param f (suc n)
next_naming other_param = other_param
next_naming (identified_param f) = identified_param f

-- what a parameter's name is where its list is one of identifiers
abbrev pub identified_naming : Naming → Naming
identified_naming a_name = a_name
identified_naming (own_param f n) = identified_param f
identified_naming other_param = other_param
identified_naming (identified_param f) = identified_param f

-- a list of parameters behind one of them
abbrev pub next_round : Round → Round
next_round it = record it { naming = next_naming it.naming }

-- a parameter of the innermost list ends
abbrev pub next_param : Rounds → Rounds
next_param r = record r { around = changed next_round r.around }

-- a list of parameters as one of identifiers
abbrev pub identified_round : Round → Round
identified_round it = record it { naming = identified_naming it.naming }

-- the innermost list is one of identifiers
abbrev pub identified : Rounds → Rounds
identified r = record r { around = changed identified_round r.around }

-- by the declarations that are open

-- the context behind an op of the forms with type names: at some of them what was quiet ends
abbrev pub form_round : Rounds → FormOp → Rounds
form_round r (forms.Cast token last) = r
form_round r (forms.Sizeof token) = left r
form_round r (forms.StmtExpr has_value token) = r
form_round r (forms.VaArg token last) = r
form_round r (forms.VaStart token last) = r
form_round r (forms.VaCopy token last) = r
form_round r (forms.OffsetMember token name) = r
form_round r (forms.OffsetIndex token) = r
form_round r (forms.Offset token) = left r
form_round r (forms.Compat token) = left r
form_round r forms.Control = left r
form_round r forms.NoType = r
form_round r (forms.Choose token) = r
form_round r (forms.Generic token count) = r

-- the context behind an op of specifiers: bodies of tags begin and end
abbrev pub spec_round : Rounds → SpecOp → Rounds
spec_round r (specs.Word token) = r
spec_round r (specs.Storage keyword) = r
spec_round r specs.Void = r
spec_round r (specs.Typedef token name) = r
spec_round r (specs.TagUse kind token name) = r
spec_round r (specs.TagAlone kind token name) = r
spec_round r (specs.TagBody kind token name) = entered r
spec_round r (specs.Untagged kind token) = entered r
spec_round r specs.BodyEnd = left r
spec_round r (specs.Enumerator token name) = r
spec_round r (specs.UnnamedMember token) = r
spec_round r specs.PartBegin = r
spec_round r (specs.TypeofEnd token) = r
spec_round r specs.TypeEnd = r
spec_round r specs.SpecsEnd = r

-- the context behind an op of declarators: lists of parameters begin, go on and end
abbrev pub declr_round : List OpenDeclaration → Rounds → DeclrOp → Rounds
declr_round ds r (declrs.DeclName token name) = r
declr_round ds r (declrs.ParamsBegin is_own) = with_round (params_naming is_own ds) (is_quiet r) r
declr_round ds r declrs.Param = next_param r
declr_round ds r declrs.ParamsEnd = left r
declr_round ds r declrs.Pointer = r
declr_round ds r declrs.Array = r
declr_round ds r (declrs.Function has_ellipsis) = r
declr_round ds r declrs.Declare = r
declr_round ds r declrs.AutoBegin = r
declr_round ds r (declrs.AutoEnd token) = r
declr_round ds r (declrs.Identifier token name) = identified r
declr_round ds r declrs.OldParam = r
declr_round ds r declrs.Member = r
declr_round ds r (declrs.TypeName first) = r
declr_round ds r declrs.DeclarationEnd = r

-- the context behind an op of statements: scopes, bodies of functions and what is quiet
abbrev pub stmt_round : List OpenDeclaration → Rounds → StmtOp → Rounds
stmt_round ds r stmts.Quiet = silenced r
stmt_round ds r stmts.Loud = left r
stmt_round ds r stmts.Pop = r
stmt_round ds r (stmts.Return token last) = r
stmt_round ds r stmts.Enter = entered r
stmt_round ds r stmts.Leave = left r
stmt_round ds r stmts.FunctionBody = record r { body = declared_last ds }
stmt_round ds r stmts.FunctionEnd = record r { body = None }

-- the context behind an op
abbrev pub round_step : List OpenDeclaration → Rounds → Op → Rounds
round_step ds r (ops.Expr op) = r
round_step ds r (ops.Form op) = form_round r op
round_step ds r (ops.Init op) = r
round_step ds r (ops.Spec op) = spec_round r op
round_step ds r (ops.Declr op) = declr_round ds r op
round_step ds r (ops.Stmt op) = stmt_round ds r op
