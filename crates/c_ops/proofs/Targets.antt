-- The list of what waits, one more operator in it, and whether its target is one.
use Rattle.std.proofs.Common.{◌≡◌, ℕ, ◌≤◌, ◌<◌, Bool, true, false, List, [], ◌∷◌, ◌++◌, Option, None, Some, refl, sym, ◌∙◌, ap, arith}
use Rattle.std.specs.Prelude.{nat_le, ◌&&◌, not, if◌then◌else◌}
use Rattle.c_tree.specs.Tree.{Expr, operation, Operator, comma, assign, cond, binary}
use Rattle.c_tree.specs.Levels.{expr_level, operator_level, right_level}
use Rattle.c_ops.specs.Operations.{Entry, Operations, appended, joined, in_order, is_untargeted, begins_side, is_bad, first_bad, bad_target}
use Rattle.c_ops.specs.Joining.{Stack, bottom, above, finished, Settled, settle_of}
use Rattle.c_ops.specs.Lasts.{last_of, operator_before}
use Rattle.c_ops.proofs.Levels.{not_le, level_most, in_order-leaf}
use Rattle.c_ops.proofs.Settling.{settle-kept, settle-joins, settle_keeps}

-- the list of a tree before two lists is that before the first, and then the second
in_order-append : (e : Expr) (k m : List Entry) → in_order e (k ++ m) ≡ appended (in_order e k) m
in_order-append (operation a op token b) k m =
    ap (λ (o : Operations). in_order a (joined op token o)) (in_order-append b k m)
    ∙ in_order-append a (joined op token (in_order b k)) m
in_order-append _ k m = refl

-- a list behind what waits
abbrev behind : Stack → Operations → Operations
behind bottom o = o
behind (above s l) o = behind s (in_order l.tree (joined l.operator l.token o))

in_order-finished : (s : Stack) (e : Expr) (k : List Entry) → in_order (finished s e) k ≡ behind s (in_order e k)
in_order-finished bottom e k = refl
in_order-finished (above s l) e k = in_order-finished s (operation l.tree l.operator l.token e) k

-- one operator more, with its operand
pub in_order-pushed : (s : Stack) (e : Expr) (op : Operator) (token : ℕ) (operand : Expr) → 13 ≤ expr_level operand →
    in_order (finished (above s (record { tree = e; operator = op; token = token })) operand) []
    ≡ appended (in_order (finished s e) []) (record { operator = op; token = token; operand = operand } ∷ [])
in_order-pushed s e op token operand h =
    let x : Entry = record { operator = op; token = token; operand = operand } in
    in_order-finished s (operation e op token operand) []
    ∙ ap (λ (o : Operations). behind s (in_order e (joined op token o))) (in_order-leaf operand [] h)
    ∙ sym (in_order-finished s e (x ∷ []))
    ∙ in_order-append (finished s e) [] (x ∷ [])

record Ends (before : Option Operator) (o : Operations) (op : Option Operator) (e : Expr) : Type 0 where
  operator : operator_before before o.rest ≡ op
  operand : last_of o.first o.rest ≡ e

-- a list of a tree before an operator and others ends as those others do
ends_tree : (e : Expr) (before : Option Operator) (op : Operator) (token : ℕ) (o : Operations) →
    Ends before (in_order e (joined op token o)) (operator_before (Some op) o.rest) (last_of o.first o.rest)
ends_tree (operation a op2 token2 b) before op token o =
    let here = ends_tree b (Some op2) op token o in
    let first = ends_tree a before op2 token2 (in_order b (joined op token o)) in
    record { operator = first.operator ∙ here.operator; operand = first.operand ∙ here.operand }
ends_tree _ before op token o = record { operator = refl; operand = refl }

-- the newest operator that waits
abbrev pub newest : Stack → Option Operator
newest bottom = None
newest (above s l) = Some l.operator

-- a list behind what waits ends as the list does
ends_behind : (s : Stack) (o : Operations)
    → Ends None (behind s o) (operator_before (newest s) o.rest) (last_of o.first o.rest)
ends_behind bottom o = record { operator = refl; operand = refl }
ends_behind (above s l) o =
    let first = ends_behind s (in_order l.tree (joined l.operator l.token o)) in
    let here = ends_tree l.tree (newest s) l.operator l.token o in
    record { operator = first.operator ∙ here.operator; operand = first.operand ∙ here.operand }

abbrev or_else : Option ℕ → Option ℕ → Option ℕ
or_else (Some n) other = Some n
or_else None other = other

-- the first bad assignment with one entry more is that before it, or else its own
first_bad-append : (k : List Entry) (before : Option Operator) (e : Expr) (x : Entry) →
    first_bad before e (k ++ x ∷ []) ≡ or_else (first_bad before e k)
    (if is_bad (operator_before before k) (last_of e k) x.operator then Some x.token else None)
first_bad-append [] before e x = refl
first_bad-append (y ∷ k) before e x =
    by_test (is_bad before e y.operator) (first_bad-append k (Some y.operator) y.operand x)
  where
    by_test : (b : Bool) →
        first_bad (Some y.operator) y.operand (k ++ x ∷ []) ≡ or_else (first_bad (Some y.operator) y.operand k)
        (if is_bad (operator_before (Some y.operator) k) (last_of y.operand k) x.operator then Some x.token else None) →
        (if b then Some y.token else first_bad (Some y.operator) y.operand (k ++ x ∷ []))
        ≡ or_else (if b then Some y.token else first_bad (Some y.operator) y.operand k)
        (if is_bad (operator_before (Some y.operator) k) (last_of y.operand k) x.operator then Some x.token else None)
    by_test true rest = refl
    by_test false rest = rest

-- what stands on the left of an assignment is one unary form exactly where what is joined before it is one
target_is : (s : Stack) (e : Expr)
    → nat_le 14 (expr_level (settle_of 1 s e).last) ≡ (begins_side (newest s) && nat_le 14 (expr_level e))
target_is bottom e = refl
target_is (above s l) e = by_operator l.operator refl
  where
    joins : 1 < right_level l.operator → nat_le 14 (expr_level (settle_of 1 (above s l) e).last) ≡ false
    joins h =
        rw (settle-joins 1 s l e h)
        (not_le 14 (expr_level (settle_of 1 s (operation l.tree l.operator l.token e)).last)
        (let low = (settle_keeps 1 s (operation l.tree l.operator l.token e)).low (level_most l.operator) in
        omega (arith, low)))

    by_operator : (op : Operator) → l.operator ≡ op
        → nat_le 14 (expr_level (settle_of 1 (above s l) e).last) ≡ (begins_side (Some op) && nat_le 14 (expr_level e))
    by_operator comma is =
        ap (λ (r : Settled). nat_le 14 (expr_level r.last))
        (settle-kept 1 (above s l) e (omega (arith, ap right_level is)))
    by_operator (assign p) is =
        ap (λ (r : Settled). nat_le 14 (expr_level r.last))
        (settle-kept 1 (above s l) e (omega (arith, ap right_level is)))
    by_operator (cond m c) is = joins (omega (arith, ap right_level is))
    by_operator (binary p) is = joins (omega (arith, ap right_level is))

-- the first bad target, where one more operator comes
pub bad_target-pushed : (s : Stack) (e : Expr) (op : Operator) (token : ℕ) (operand : Expr) → 13 ≤ expr_level e →
    bad_target (appended (in_order (finished s e) []) (record { operator = op; token = token; operand = operand } ∷ []))
    ≡ or_else (bad_target (in_order (finished s e) []))
    (if is_untargeted op (settle_of (operator_level op) s e).last then Some token else None)
bad_target-pushed s e op token operand h =
    let o = in_order (finished s e) [] in
    let same : o ≡ behind s (record { first = e; rest = [] }) =
    in_order-finished s e [] ∙ ap (behind s) (in_order-leaf e [] h) in
    let ends = ends_behind s (record { first = e; rest = [] }) in
    let op_is : operator_before None o.rest ≡ newest s =
    ap (λ (o : Operations). operator_before None o.rest) same ∙ ends.operator in
    let e_is : last_of o.first o.rest ≡ e = ap (λ (o : Operations). last_of o.first o.rest) same ∙ ends.operand in
    first_bad-append o.rest None o.first (record { operator = op; token = token; operand = operand })
    ∙ rw (op_is, e_is) (ap (λ (b : Bool). or_else (bad_target o) (if b then Some token else None)) (by_operator op))
  where
    by_operator : (op : Operator) → is_bad (newest s) e op ≡ is_untargeted op (settle_of (operator_level op) s e).last
    by_operator comma = refl
    by_operator (assign p) = ap not (sym (target_is s e))
    by_operator (cond m c) = refl
    by_operator (binary p) = refl
