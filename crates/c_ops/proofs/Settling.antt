-- What joining keeps.
use Rattle.std.proofs.Common.{◌≡◌, ℕ, ◌≤◌, ◌<◌, Bool, true, false, inl, inr, refl, arith}
use Rattle.std.specs.Prelude.{nat_le, if◌then◌else◌}
use Rattle.std.proofs.lemmas.Bool.{leb-true, le-leb}
use Rattle.std.proofs.lemmas.Bool.Decides.{leb_tells}
use Rattle.c_tree.specs.Tree.{Expr, operation, Operator}
use Rattle.c_tree.specs.Levels.{expr_level, operator_level, left_level, right_level}
use Rattle.c_ops.specs.Operations.{IsLevelled, is_assign}
use Rattle.c_ops.specs.Joining.{Left, Stack, bottom, above, finished, Accepts, Settled, settle_of, AreOperators, IsStack}
use Rattle.c_ops.proofs.Levels.{not_le, level_most, right_most, right_least, takes_left}

abbrev pub settled : Stack → Expr → Settled
settled s e = record { below = s; last = e }

pub settle-kept : (n : ℕ) (s : Stack) (e : Expr) → Accepts s n → settle_of n s e ≡ settled s e
settle-kept n bottom e h = refl
settle-kept n (above s l) e h = rw (le-leb (right_level l.operator) n h) refl

pub settle-joins : (n : ℕ) (s : Stack) (l : Left) (e : Expr) → n < right_level l.operator
    → settle_of n (above s l) e ≡ settle_of n s (operation l.tree l.operator l.token e)
settle-joins n s l e h = rw (not_le (right_level l.operator) n h) refl

pub record Keeps (n : ℕ) (s : Stack) (e : Expr) (r : Settled) : Type 0 where
  pub same : finished r.below r.last ≡ finished s e
  pub accepts : Accepts r.below n
  pub operators : AreOperators s → AreOperators r.below
  pub good : IsStack s → IsLevelled e → Accepts s (expr_level e)
      → IsStack r.below × IsLevelled r.last × Accepts r.below (expr_level r.last)
  pub left : (next : Operator) → is_assign next ≡ false → operator_level next ≡ n → AreOperators s
      → left_level next ≤ expr_level e → left_level next ≤ expr_level r.last
  pub low : expr_level e ≤ 12 → expr_level r.last ≤ 12

-- joining what an operator of a level ends keeps the list, the levels of what waits, and the left side fit
pub settle_keeps : (n : ℕ) (s : Stack) (e : Expr) → Keeps n s e (settle_of n s e)
settle_keeps n bottom e = record {
  same = refl;
  accepts = tt;
  operators = λ h. h;
  good = λ i l a. (i, l, a);
  left = λ next a is ops h. h;
  low = λ h. h;
}
settle_keeps n (above s l) e =
    by_test (settle_keeps n s (operation l.tree l.operator l.token e)) (nat_le (right_level l.operator) n) refl
  where
    by_test : Keeps n s (operation l.tree l.operator l.token e)
        (settle_of n s (operation l.tree l.operator l.token e)) →
        (b : Bool) → nat_le (right_level l.operator) n ≡ b →
        Keeps n (above s l) e
        (if b then settled (above s l) e else settle_of n s (operation l.tree l.operator l.token e))
    by_test all true is = record {
      same = refl;
      accepts = leb-true (right_level l.operator) n is;
      operators = λ h. h;
      good = λ i l a. (i, l, a);
      left = λ next a same ops h. h;
      low = λ h. h;
    }
    by_test all false is = record {
      same = all.same;
      accepts = all.accepts;
      operators = λ h. all.operators h.0;
      good = λ i lev a. all.good i.0 (i.1, lev, i.2, i.3, a) i.4;
      left = λ next a same ops h. all.left next a same ops.0 (takes_left l.operator next ops.1 a (ends next same));
      low = λ h. all.low (level_most l.operator);
    }
      where
        ends : (next : Operator) → operator_level next ≡ n → operator_level next < right_level l.operator
        ends next same =
            elim (leb_tells (right_level l.operator) n) [ inl t ↦ absurd cc | inr t ↦ omega (arith, same, t.1) ]

-- nothing waits below where all is joined
pub settle_all : (s : Stack) (e : Expr) → (settle_of 0 s e).below ≡ bottom
settle_all s e = of_stack (settle_of 0 s e).below (settle_keeps 0 s e).accepts
  where
    of_stack : (s : Stack) → Accepts s 0 → s ≡ bottom
    of_stack bottom h = refl
    of_stack (above s l) h = absurd (omega (arith, right_least l.operator))

pub accepts_leaf : (s : Stack) (e : Expr) → 13 ≤ expr_level e → Accepts s (expr_level e)
accepts_leaf bottom e h = tt
accepts_leaf (above s l) e h = omega (arith, right_most l.operator)

pub finished_levelled : (s : Stack) (e : Expr) → IsStack s → IsLevelled e → Accepts s (expr_level e)
    → IsLevelled (finished s e)
finished_levelled bottom e i l a = l
finished_levelled (above s l) e i lev a =
    finished_levelled s (operation l.tree l.operator l.token e) i.0 (i.1, lev, i.2, i.3, a) i.4
