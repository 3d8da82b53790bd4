-- Along the tape of an item, own parameters and the body are those of the item's function.
use Rattle.std.specs.Prelude.{◌≡◌, ℕ, List, [], ◌∷◌, Option, None, ◌⊎◌}
use Rattle.tape_ops.specs.declared.op.Op.{Op}
use Rattle.tape_ops.specs.declared.op.Op.TheVariants as ops
use Rattle.tape_ops.specs.declared.statement.StmtOp.{StmtOp}
use Rattle.tape_ops.specs.declared.statement.StmtOp.TheVariants as stmts
use Rattle.c_tree.specs.Unit.{Item}
use Rattle.c_tape.specs.Tape.{item_tape}
use Rattle.name_rules.specs.ShapeSteps.State.{declared_last}
use Rattle.row_rules.specs.Worlds.{World}
use Rattle.row_rules.specs.RowSteps.Rounds.{Naming, a_name, own_param, other_param, identified_param, naming}
use Rattle.row_rules.specs.RowSteps.State.{State, nothing}
use Rattle.row_rules.specs.RowSteps.Steps.{step}
use Rattle.owned_laws.specs.TapeLaws.Marks.{function_token, DeclaresIts}

-- own parameters are those of the function whose name is at the token
abbrev pub NamingIsOf : Option ℕ → Naming → Type 0
NamingIsOf t a_name = Unit {0}
NamingIsOf t (own_param g n) = g ≡ t
NamingIsOf t other_param = Unit {0}
NamingIsOf t (identified_param g) = g ≡ t

-- a body is that of the function whose name is at the token
abbrev pub BodyIsOf : Option ℕ → Option ℕ → Type 0
BodyIsOf t body = (body ≡ None) ⊎ (body ≡ t)

-- the function whose body begins was declared last
abbrev pub StmtContext : Option ℕ → State → StmtOp → Type 0
StmtContext t st stmts.FunctionBody = declared_last st.declarations ≡ t
StmtContext t st op = Unit {0}

-- where a function's body begins, that function was declared last
abbrev pub BeginsIts : Option ℕ → State → Op → Type 0
BeginsIts t st (ops.Expr op) = Unit {0}
BeginsIts t st (ops.Form op) = Unit {0}
BeginsIts t st (ops.Init op) = Unit {0}
BeginsIts t st (ops.Spec op) = Unit {0}
BeginsIts t st (ops.Declr op) = Unit {0}
BeginsIts t st (ops.Stmt op) = StmtContext t st op

-- what holds before an op: own parameters and bodies are those of this function
pub record OpContext (t : Option ℕ) (st : State) (op : Op) : Type 0 where
  pub params : NamingIsOf t (naming st.rounds)
  pub body : BodyIsOf t st.rounds.body
  pub begins : BeginsIts t st op

-- along a tape: own parameters and bodies are those of the function whose name is at the token
abbrev pub ContextsAlong : World → Option ℕ → State → List Op → Type 0
ContextsAlong w t st [] = Unit {0}
ContextsAlong w t st (op ∷ tape) = OpContext t st op × ContextsAlong w t (step w st op) tape

-- the law: along the tape of an item own parameters and bodies are those of the item's function
abbrev pub ContextsAreIts : Type 0
ContextsAreIts =
    (w : World) (item : Item) → DeclaresIts item → ContextsAlong w (function_token item) nothing (item_tape item)
