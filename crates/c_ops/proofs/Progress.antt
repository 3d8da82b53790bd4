-- What reading a list from left to right keeps.
use Rattle.std.proofs.Common.{◌≡◌, ℕ, ◌≤◌, Bool, true, false, List, [], ◌∷◌, ◌++◌, Option, None, Some, refl, sym, ◌∙◌, ap, arith, inl, inr, append_assoc}
use Rattle.std.specs.Prelude.{nat_le, if◌then◌else◌, ◌⊎◌}
use Rattle.std.proofs.lemmas.Bool.{leb-true, le-leb, not-false}
use Rattle.std.proofs.lemmas.List.{append-nil}
use Rattle.c_tree.specs.Tree.{Expr, operation, cast, Operator, comma, assign, cond, binary}
use Rattle.c_tree.specs.Levels.{IsOperator, expr_level, operator_level, left_level, right_level}
use Rattle.c_ops.specs.Operations.{Entry, Operations, appended, joined, in_order, IsLevelled, IsTreeOf, is_untargeted, begins_side, is_bad, first_bad, bad_target}
use Rattle.c_ops.specs.Joining.{Stack, bottom, above, finished, settle_of, AreOperators, IsStack}
use Rattle.c_ops.specs.Trees.{IsTheTreeOf, AreOperands, AllOperands, waits_after, tree_from, the_tree}
use Rattle.c_ops.proofs.Levels.{left_most, level_left, level_most, in_order-leaf, leaf_levelled}
use Rattle.c_ops.proofs.Settling.{settle_keeps, settle_all, accepts_leaf, finished_levelled}
use Rattle.c_ops.proofs.Targets.{in_order-pushed, bad_target-pushed}
use Rattle.c_ops.proofs.Unique.{one_tree}

pub record Progress (list : Operations) (s : Stack) (e : Expr) (k : List Entry) : Type 0 where
  pub same : appended (in_order (finished s e) []) k ≡ list
  pub good : IsStack s
  pub operand : 13 ≤ expr_level e
  pub clean : bad_target (in_order (finished s e) []) ≡ None

-- reading a list begins well with nothing that waits and its first operand
pub begins : (list : Operations) → 13 ≤ expr_level list.first → Progress list bottom list.first list.rest
begins list h = record {
  same = ap (λ (o : Operations). appended o list.rest) (in_order-leaf list.first [] h);
  good = tt;
  operand = h;
  clean = ap bad_target (in_order-leaf list.first [] h);
}

pub stack_operators : (s : Stack) → IsStack s → AreOperators s
stack_operators bottom i = tt
stack_operators (above s l) i = (stack_operators s i.0, i.2)

-- what an operator has on its left once it has joined what it ends has the level that it asks for
left_fits : (op : Operator) (s : Stack) (e : Expr) → AreOperators s → 13 ≤ expr_level e →
    is_untargeted op (settle_of (operator_level op) s e).last ≡ false
    → left_level op ≤ expr_level (settle_of (operator_level op) s e).last
left_fits comma s e ops h t = (settle_keeps 0 s e).left comma refl refl ops (omega (arith, h))
left_fits (assign p) s e ops h t =
    leb-true 14 (expr_level (settle_of 1 s e).last) (not-false (nat_le 14 (expr_level (settle_of 1 s e).last)) t)
left_fits (cond m c) s e ops h t = (settle_keeps 2 s e).left (cond m c) refl refl ops (omega (arith, h))
left_fits (binary p) s e ops h t =
    (settle_keeps (operator_level (binary p)) s e).left (binary p) refl refl ops
    (omega (arith, h, left_most (binary p) refl))

appended_twice : (o : Operations) (x : Entry) (k : List Entry) → appended (appended o (x ∷ [])) k ≡ appended o (x ∷ k)
appended_twice o x k = ap (λ (r : List Entry). record { first = o.first; rest = r }) (append_assoc o.rest (x ∷ []) k)

-- an operator and operand more are put behind the list of those that wait
pushed : (s : Stack) (e : Expr) (x : Entry) → 13 ≤ expr_level x.operand →
    in_order (finished (waits_after x (settle_of (operator_level x.operator) s e)) x.operand) []
    ≡ appended (in_order (finished s e) []) (x ∷ [])
pushed s e x h =
    let r = settle_of (operator_level x.operator) s e in
    in_order-pushed r.below r.last x.operator x.token x.operand h
    ∙ ap (λ (tree : Expr). appended (in_order tree []) (x ∷ [])) (settle_keeps (operator_level x.operator) s e).same

-- reading a list goes on well behind an operator that may have its left side, and its operand
pub goes_on : (list : Operations) (s : Stack) (e : Expr) (x : Entry) (k : List Entry) → Progress list s e (x ∷ k)
    → 13 ≤ expr_level x.operand → IsOperator x.operator →
    is_untargeted x.operator (settle_of (operator_level x.operator) s e).last ≡ false →
    Progress list (waits_after x (settle_of (operator_level x.operator) s e)) x.operand k
goes_on list s e x k p h i t =
    let r = settle_of (operator_level x.operator) s e in
    let kept = settle_keeps (operator_level x.operator) s e in
    let good = kept.good p.good (leaf_levelled e p.operand) (accepts_leaf s e p.operand) in
    let added = pushed s e x h in
    record {
      same = ap (λ (o : Operations). appended o k) added ∙ appended_twice (in_order (finished s e) []) x k ∙ p.same;
      good = (good.0, good.1, i, left_fits x.operator s e (stack_operators s p.good) p.operand t, kept.accepts);
      operand = h;
      clean = ap bad_target added ∙ bad_target-pushed s e x.operator x.token x.operand p.operand ∙ rw (p.clean, t) refl;
    }

-- the first bad assignment of a list is that of the list with more behind it
first_bad-more : (k m : List Entry) (before : Option Operator) (e : Expr) (n : ℕ) → first_bad before e k ≡ Some n
    → first_bad before e (k ++ m) ≡ Some n
first_bad-more [] m before e n h = absurd cc
first_bad-more (y ∷ k) m before e n h =
    by_test (λ h. first_bad-more k m (Some y.operator) y.operand n h) (is_bad before e y.operator) h
  where
    by_test : (first_bad (Some y.operator) y.operand k ≡ Some n
        → first_bad (Some y.operator) y.operand (k ++ m) ≡ Some n)
        → (b : Bool) →
        (if b then Some y.token else first_bad (Some y.operator) y.operand k) ≡ Some n →
        (if b then Some y.token else first_bad (Some y.operator) y.operand (k ++ m)) ≡ Some n
    by_test rest true h = h
    by_test rest false h = rest h

-- an assignment whose left side is no unary form is the bad one of the whole list
pub fails : (list : Operations) (s : Stack) (e : Expr) (x : Entry) (k : List Entry) → Progress list s e (x ∷ k) →
    is_untargeted x.operator (settle_of (operator_level x.operator) s e).last ≡ true → bad_target list ≡ Some x.token
fails list s e x k p t =
    let o = in_order (finished s e) [] in
    let here : bad_target (appended o (x ∷ [])) ≡ Some x.token =
    bad_target-pushed s e x.operator x.token x.operand p.operand ∙ rw (p.clean, t) refl in
    ap bad_target (sym (appended_twice o x k ∙ p.same)) ∙ first_bad-more (o.rest ++ x ∷ []) k None o.first x.token here

pub joined_all : (s : Stack) (e : Expr) → (settle_of 0 s e).last ≡ finished s e
joined_all s e =
    ap (λ (b : Stack). finished b (settle_of 0 s e).last) (sym (settle_all s e)) ∙ (settle_keeps 0 s e).same

-- a list that is read to its end has the finished tree, which no other is, and no bad assignment
pub ends : (list : Operations) (s : Stack) (e : Expr) → Progress list s e []
    → IsTheTreeOf list (finished s e) × (bad_target list ≡ None)
ends list s e p =
    let o = in_order (finished s e) [] in
    let same : o ≡ list =
    ap (λ (r : List Entry). record { first = o.first; rest = r }) (sym (append-nil o.rest)) ∙ p.same in
    let tree : IsTreeOf list (finished s e) = record {
      same = same;
      levelled = finished_levelled s e p.good (leaf_levelled e p.operand) (accepts_leaf s e p.operand);
    } in
    (record { tree_of = tree; only = λ f h. one_tree list f (finished s e) h tree }, ap bad_target (sym same) ∙ p.clean)

-- the last operator of a tree, or one before it, and its last operand
abbrev tree_operator : Option Operator → Expr → Option Operator
tree_operator before (operation a op token b) = tree_operator (Some op) b
tree_operator before _ = before

abbrev tree_operand : Expr → Expr
tree_operand (operation a op token b) = tree_operand b
tree_operand e = e

-- an expression of level 13 at least has no operator of its own, so the one before it stands
tree_operator-leaf : (before : Option Operator) (e : Expr) → 13 ≤ expr_level e → tree_operator before e ≡ before
tree_operator-leaf before (operation a op token b) h = absurd (omega (arith, level_most op))
tree_operator-leaf before (cast a b c d e) h = refl
tree_operator-leaf before _ h = refl

-- an expression of level 13 at least is its own last operand
tree_operand-leaf : (e : Expr) → 13 ≤ expr_level e → tree_operand e ≡ e
tree_operand-leaf (operation a op token b) h = absurd (omega (arith, level_most op))
tree_operand-leaf (cast a b c d e) h = refl
tree_operand-leaf _ h = refl

-- a tree may be a left side, or holds no assignment outside of parentheses
abbrev MayAssign : Option Operator → ℕ → Type 0
MayAssign before n = (begins_side before ≡ true) ⊎ (2 ≤ n)

-- an operator with the level it asks for on its left is no bad assignment, where an assignment may stand
assigns_well : (op : Operator) (before : Option Operator) (a : Expr) → left_level op ≤ expr_level a
    → MayAssign before (operator_level op) →
    is_bad (tree_operator before a) (tree_operand a) op ≡ false
assigns_well comma before a h m = refl
assigns_well (cond x c) before a h m = refl
assigns_well (binary p) before a h m = refl
assigns_well (assign p) before a h m =
    rw (
      tree_operator-leaf before a (omega (arith, h)),
      tree_operand-leaf a (omega (arith, h)),
      side m,
      le-leb 14 (expr_level a) h,
    ) refl
  where
    side : MayAssign before 1 → begins_side before ≡ true
    side (inl is) = is
    side (inr low) = absurd (omega (arith, low))

-- on the right of an operator an assignment may stand that has the level it asks for
right_assigns : (op : Operator) (b : Expr) → right_level op ≤ expr_level b → MayAssign (Some op) (expr_level b)
right_assigns comma b h = inl refl
right_assigns (assign p) b h = inl refl
right_assigns (cond m c) b h = inr h
right_assigns (binary p) b h = inr (omega (arith, h))

left_assigns : (op : Operator) (before : Option Operator) (a : Expr) → left_level op ≤ expr_level a
    → MayAssign before (operator_level op) → MayAssign before (expr_level a)
left_assigns op before a h (inl is) = inl is
left_assigns op before a h (inr low) = inr (omega (arith, h, low, level_left op))

-- the first bad assignment of a levelled tree before a list is one of that list, if any
targets_in : (e : Expr) (before : Option Operator) (k : List Entry) → IsLevelled e → MayAssign before (expr_level e) →
    first_bad before (in_order e k).first (in_order e k).rest ≡ first_bad (tree_operator before e) (tree_operand e) k
targets_in (operation a op token b) before k h m =
    let o = in_order b k in
    targets_in a before (joined op token o) h.0 (left_assigns op before a h.3 m)
    ∙ rw (assigns_well op before a h.3 m) refl
    ∙ targets_in b (Some op) k h.1 (right_assigns op b h.4)
targets_in _ before k h m = refl

-- what has a tree has no bad target
pub tree_targets : (list : Operations) (e : Expr) → IsTreeOf list e → bad_target list ≡ None
tree_targets list e h = ap bad_target (sym h.same) ∙ targets_in e None [] h.levelled (inl refl)

-- a list with a bad assignment has no tree
pub no_tree : (list : Operations) (n : ℕ) → bad_target list ≡ Some n → (e : Expr) → IsTreeOf list e → ⊥
no_tree list n is e h = none_is (sym (tree_targets list e h) ∙ is)
  where
    none_is : None ≡ Some n → ⊥
    none_is h = absurd cc

some_is : (n : ℕ) → Some n ≡ None → ⊥
some_is n h = absurd cc

-- the tree of what is left
pub made : (list : Operations) (k : List Entry) (s : Stack) (e : Expr) → Progress list s e k → AllOperands k
    → bad_target list ≡ None → IsTheTreeOf list (tree_from s e k)
made list [] s e p h is = (ends list s e p).0
made list (x ∷ k) s e p h is =
    by_test (λ p. made list k (waits_after x (settle_of (operator_level x.operator) s e)) x.operand p h.1 is)
    (is_untargeted x.operator (settle_of (operator_level x.operator) s e).last) refl
  where
    by_test : (Progress list (waits_after x (settle_of (operator_level x.operator) s e)) x.operand k
        → IsTheTreeOf list (tree_from s e (x ∷ k))) →
        (b : Bool) → is_untargeted x.operator (settle_of (operator_level x.operator) s e).last ≡ b
        → IsTheTreeOf list (tree_from s e (x ∷ k))
    by_test rest true t = absurd (some_is x.token (sym (fails list s e x k p t) ∙ is))
    by_test rest false t = rest (goes_on list s e x k p h.0.1 h.0.0 t)

pub has_tree : (list : Operations) → AreOperands list → bad_target list ≡ None → IsTheTreeOf list (the_tree list)
has_tree list h is = made list list.rest bottom list.first (begins list h.first) h.rest is
