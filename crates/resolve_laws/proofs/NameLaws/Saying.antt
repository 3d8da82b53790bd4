-- What parts of a tape say of names alone.
use Rattle.std.proofs.Common.{◌≡◌, ℕ, Bool, List, [], ◌++◌, refl, ap}
use Rattle.tape_ops.specs.declared.op.Op.{Op}
use Rattle.tape_ops.specs.declared.op.Op.TheVariants as ops
use Rattle.tape_ops.specs.declared.expression.ExprOp.{ExprOp}
use Rattle.tape_ops.specs.declared.expression.ExprOp.TheVariants as exprs
use Rattle.tape_ops.specs.declared.form.FormOp.{FormOp}
use Rattle.tape_ops.specs.declared.initialiser.InitOp.{InitOp}
use Rattle.tape_ops.specs.declared.statement.StmtOp.{StmtOp}
use Rattle.tape_ops.specs.declared.statement.StmtOp.TheVariants as stmts
use Rattle.name_rules.specs.Spellings.{Spelling}
use Rattle.name_rules.specs.Scopes.{Names, enter, leave}
use Rattle.name_rules.specs.Declaring.{used}
use Rattle.name_rules.specs.NameSteps.State.{State}
use Rattle.name_rules.specs.NameSteps.Steps.{expression_step, statement_step, passed_on}
use Rattle.c_tape.specs.Tape.{expr, form, init, stmt, quietly, in_scope}
use Rattle.resolve_laws.proofs.NameLaws.Running.{between, heard, Goes, ◌▸◌, one, stays}

-- between other parts, the steps of a tape change names, and nothing else
pub record Says (u : Spelling) (tape : List Op) (named : Names → Names) : Type 0 where
  pub goes : (st : State) (s : Names) → Goes u tape (between st s) (between st (named s))

infixl 20 ◌>>◌
pub ◌>>◌ : {u : Spelling} {xs ys : List Op} {f g : Names → Names} → Says u xs f → Says u ys g
    → Says u (xs ++ ys) (λ s. g (f s))
◌>>◌ {f = f} p q = record { goes = λ st s. p.goes st s ▸ q.goes st (f s) }

pub nothing : (u : Spelling) → Says u [] (λ s. s)
nothing u = record { goes = λ st s. stays u _ }

pub form_says : (u : Spelling) (op : FormOp) → Says u (form op) (λ s. s)
form_says u op = record { goes = λ st s. one u (ops.Form op) _ (λ passed. refl) }

pub init_says : (u : Spelling) (op : InitOp) → Says u (init op) (λ s. s)
init_says u op = record { goes = λ st s. one u (ops.Init op) _ (λ passed. refl) }

pub expr_says : (u : Spelling) (op : ExprOp) → ((st : State) → expression_step u st op ≡ st) → Says u (expr op) (λ s. s)
expr_says u op same = record {
  goes = λ st s. record { is = λ passed. ap (passed_on (ops.Expr op)) (same (heard passed (between st s))) };
}

pub name_says : (u : Spelling) (called : Bool) (token name : ℕ)
    → Says u (expr (exprs.Name called token name)) (used u called token name)
name_says u called token name =
    record { goes = λ st s. one u (ops.Expr (exprs.Name called token name)) _ (λ passed. refl) }

pub stmt_says : (u : Spelling) (op : StmtOp) → ((st : State) → statement_step u st op ≡ st) → Says u (stmt op) (λ s. s)
stmt_says u op same = record {
  goes = λ st s. record { is = λ passed. ap (passed_on (ops.Stmt op)) (same (heard passed (between st s))) };
}

pub enter_says : (u : Spelling) → Says u (stmt stmts.Enter) enter
enter_says u = record { goes = λ st s. one u (ops.Stmt stmts.Enter) _ (λ passed. refl) }

pub leave_says : (u : Spelling) → Says u (stmt stmts.Leave) leave
leave_says u = record { goes = λ st s. one u (ops.Stmt stmts.Leave) _ (λ passed. refl) }

pub in_scope_says : {u : Spelling} {tape : List Op} {f : Names → Names} → Says u tape f
    → Says u (in_scope tape) (λ s. leave (f (enter s)))
in_scope_says {u = u} p = enter_says u >> p >> leave_says u

pub quietly_says : {u : Spelling} {tape : List Op} {f : Names → Names} → Says u tape f → Says u (quietly tape) f
quietly_says {u = u} p = stmt_says u stmts.Quiet (λ st. refl) >> p >> stmt_says u stmts.Loud (λ st. refl)
