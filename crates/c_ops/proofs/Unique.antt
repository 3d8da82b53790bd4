-- A list has one tree at most: what reads the list from left to right makes any tree of it.
use Rattle.std.proofs.Common.{◌≡◌, ℕ, ◌≤◌, List, [], ◌∷◌, refl, sym, ◌∙◌, ap, arith}
use Rattle.c_tree.specs.Tree.{Expr, operation}
use Rattle.c_tree.specs.Levels.{IsOperator, expr_level, operator_level, left_level}
use Rattle.c_ops.specs.Operations.{Entry, Operations, joined, in_order, IsLevelled, IsTreeOf}
use Rattle.c_ops.specs.Joining.{Left, Stack, bottom, above, finished, Accepts, Settled, settle_of}
use Rattle.c_ops.proofs.Levels.{level_left, level_right, ends_right}
use Rattle.c_ops.proofs.Settling.{settle-kept, settle-joins}

abbrev fed_with : (Stack → Expr → Expr) → Entry → Settled → Expr
fed_with next x r = next (above r.below (record { tree = r.last; operator = x.operator; token = x.token })) x.operand

-- the tree that is made of a list behind a last operand
abbrev fed : List Entry → Stack → Expr → Expr
fed [] s e = finished s e
fed (x ∷ k) s e = fed_with (λ s e. fed k s e) x (settle_of (operator_level x.operator) s e)

abbrev fed_list : Stack → Operations → Expr
fed_list s o = fed o.rest s o.first

-- whether the list goes on with an operator that may have a tree of a level on its left
abbrev Follows : List Entry → ℕ → Type 0
Follows [] n = Unit {0}
Follows (x ∷ k) n = IsOperator x.operator × (left_level x.operator ≤ n)

accepts_more : (s : Stack) (n m : ℕ) → Accepts s n → n ≤ m → Accepts s m
accepts_more bottom n m h l = tt
accepts_more (above s x) n m h l = omega arith

follows_more : (k : List Entry) (n m : ℕ) → Follows k n → n ≤ m → Follows k m
follows_more [] n m h l = tt
follows_more (x ∷ k) n m h l = (h.0, omega (arith, h.1))

-- an operator joins its operands before what follows
joins_first : (k : List Entry) (s : Stack) (l : Left) (e : Expr) → Follows k (operator_level l.operator)
    → fed k (above s l) e ≡ fed k s (operation l.tree l.operator l.token e)
joins_first [] s l e h = refl
joins_first (x ∷ k) s l e h =
    let later : operator_level x.operator ≤ operator_level x.operator = omega arith in
    ap (fed_with (λ s e. fed k s e) x)
    (settle-joins (operator_level x.operator) s l e (ends_right l.operator x.operator h.0 h.1))

-- a list that is read from left to right makes of a levelled tree's entries the tree again
feeds : (e : Expr) (s : Stack) (k : List Entry) → IsLevelled e → Accepts s (expr_level e) → Follows k (expr_level e)
    → fed_list s (in_order e k) ≡ fed k s e
feeds (operation a op token b) s k h accepts follows =
    let o = in_order b k in
    feeds a s (joined op token o) h.0
    (accepts_more s (operator_level op) (expr_level a) accepts (omega (arith, level_left op, h.3))) (h.2, h.3)
    ∙ ap (fed_with (λ s e. fed o.rest s e) (record { operator = op; token = token; operand = o.first }))
    (settle-kept (operator_level op) s a accepts)
    ∙ feeds b (above s (record { tree = a; operator = op; token = token })) k h.1 h.4
    (follows_more k (operator_level op) (expr_level b) follows (omega (arith, level_right op, h.4)))
    ∙ joins_first k s (record { tree = a; operator = op; token = token }) b follows
feeds _ s k h accepts follows = refl

pub one_tree : (list : Operations) (e f : Expr) → IsTreeOf list e → IsTreeOf list f → e ≡ f
one_tree list e f h i =
    sym (feeds e bottom [] h.levelled tt tt) ∙ ap (fed_list bottom) (h.same ∙ sym i.same)
    ∙ feeds f bottom [] i.levelled tt tt
