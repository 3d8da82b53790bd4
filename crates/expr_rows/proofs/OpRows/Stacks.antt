-- What waits, the newest last.
use Rattle.std.proofs.Common.{◌≡◌, ℕ, ◌+◌, ◌-◌, ◌<◌, true, false, List, [], ◌∷◌, ◌++◌, length, take, Some, refl, sym, ◌∙◌, ap, subst, arith, inl, inr}
use Rattle.std.specs.Prelude.{slice_get, nat_le}
use Rattle.std.proofs.lemmas.Bool.{leb-true}
use Rattle.std.proofs.lemmas.Bool.Decides.{leb_tells}
use Rattle.c_tree.specs.Tree.{Expr}
use Rattle.c_tree.specs.Levels.{expr_level, right_level}
use Rattle.c_ops.specs.Joining.{Stack, bottom, above, finished, Accepts, Settled, settle_of}
use Rattle.c_ops.proofs.Levels.{not_le, level_most}
use Rattle.c_ops.proofs.Settling.{settle-kept, settle-joins, settle_keeps}
use Rattle.c_ops.proofs.Progress.{joined_all}
use Rattle.c_ops.proofs.Lasts.{with_last}
use Rattle.c_reading.specs.Expressing.{how_many}
use Rattle.expr_rows.specs.declared.op_rows.waiting.Waiting.{Waiting}
use Rattle.expr_rows.specs.OpRows.Rows.{operator, joined, left_of, stack_from, stack_of}

stack_from-push : (s : Stack) (ws : List Waiting) (w : Waiting)
    → stack_from s (ws ++ w ∷ []) ≡ above (stack_from s ws) (left_of w)
stack_from-push s [] w = refl
stack_from-push s (v ∷ ws) w = stack_from-push (above s (left_of v)) ws w

pub stack_of-push : (ws : List Waiting) (w : Waiting) → stack_of (ws ++ w ∷ []) ≡ above (stack_of ws) (left_of w)
stack_of-push ws w = stack_from-push bottom ws w

how_many_from : (s : Stack) (ws : List Waiting) → how_many (stack_from s ws) ≡ how_many s + length ws
how_many_from s [] = omega arith
how_many_from s (w ∷ ws) = how_many_from (above s (left_of w)) ws ∙ omega arith

pub how_many_wait : (ws : List Waiting) → how_many (stack_of ws) ≡ length ws
how_many_wait ws = how_many_from bottom ws ∙ omega arith

newest_is : (ws : List Waiting) (w : Waiting) → slice_get ws (length ws - 1) ≡ Some w
    → stack_of ws ≡ above (stack_of (take (length ws - 1) ws)) (left_of w)
newest_is ws w h = ap stack_of (with_last ws w h) ∙ stack_of-push (take (length ws - 1) ws) w

-- the newest goes on
pub accepts_newest : (ws : List Waiting) (w : Waiting) (level : ℕ) → slice_get ws (length ws - 1) ≡ Some w
    → nat_le (right_level (operator w.op)) level ≡ true → Accepts (stack_of ws) level
accepts_newest ws w level h is =
    let Q : Stack → Type 0 = λ s. Accepts s level in
    subst Q (sym (newest_is ws w h)) (leb-true (right_level (operator w.op)) level is)

-- joining so far
abbrev pub IsSettling : ℕ → List Waiting → Expr → List Waiting → Expr → Type 0
IsSettling level before e now f = settle_of level (stack_of now) f ≡ settle_of level (stack_of before) e

-- joining goes on behind one that waits, where its right operand ends before an operator of the level
pub settling_goes_on : (level : ℕ) (before : List Waiting) (e : Expr) (ws vs : List Waiting) (w : Waiting) (f g : Expr)
    → IsSettling level before e ws f →
    ws ≡ vs ++ w ∷ [] → level < right_level (operator w.op) → g ≡ joined w f → IsSettling level before e vs g
settling_goes_on level before e ws vs w f g h is lt made =
    ap (settle_of level (stack_of vs)) made
    ∙ sym (settle-joins level (stack_of vs) (left_of w) f lt)
    ∙ ap (λ (s : Stack). settle_of level s f) (sym (ap stack_of is ∙ stack_of-push vs w))
    ∙ h

ends_before : (a b : ℕ) → nat_le a b ≡ false → b < a
ends_before a b h = elim (leb_tells a b) [ inl t ↦ absurd cc | inr t ↦ t.1 ]

-- where the newest goes on with an operator, the last operand is what this finds on its left
pub kept_last : (ws : List Waiting) (e : Expr) (level : ℕ) → Accepts (stack_of ws) level
    → (settle_of level (stack_of ws) e).last ≡ e
kept_last ws e level h = ap (λ (r : Settled). r.last) (settle-kept level (stack_of ws) e h)

-- where it ends, that is no unary form
pub joined_last : (ws : List Waiting) (w : Waiting) (e : Expr) (level : ℕ) → slice_get ws (length ws - 1) ≡ Some w
    → nat_le (right_level (operator w.op)) level ≡ false →
    nat_le 14 (expr_level (settle_of level (stack_of ws) e).last) ≡ false
joined_last ws w e level h ends =
    let lt = ends_before (right_level (operator w.op)) level ends in
    let s = stack_of (take (length ws - 1) ws) in
    let made = joined w e in
    let low = (settle_keeps level s made).low (level_most (operator w.op)) in
    let is = ap (λ (t : Stack). settle_of level t e) (newest_is ws w h) ∙ settle-joins level s (left_of w) e lt in
    ap (λ (r : Settled). nat_le 14 (expr_level r.last)) is
    ∙ not_le 14 (expr_level (settle_of level s made).last) (omega (arith, low))

pub finished_all : (ws : List Waiting) (e : Expr) (r : Settled) → r ≡ settle_of 0 (stack_of ws) e
    → r.last ≡ finished (stack_of ws) e
finished_all ws e r is = ap (λ (s : Settled). s.last) is ∙ joined_all (stack_of ws) e
