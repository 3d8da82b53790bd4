-- Operands that wait with their operators: their text, rules, scopes and heights, before and behind what is joined.
use Rattle.std.proofs.Common.{◌≡◌, ℕ, suc, ◌<◌, ◌≤◌, Bool, true, false, List, Option, Some, None, refl, sym, ◌∙◌, subst, arith}
use Rattle.std.specs.Prelude.{◌+◌, max, nat_le}
use Rattle.std.proofs.lemmas.Bool.{leb-true, leb-false, le-leb}
use Rattle.c_tree.specs.declared.lexeme.Lexeme.{Lexeme}
use Rattle.c_tree.specs.Tree.{Expr, operation, Operator}
use Rattle.c_tree.specs.Text.{expr_text, operator_text}
use Rattle.c_tree.specs.Height.{expr_height, operator_height}
use Rattle.c_tree.specs.Levels.{IsOperator, expr_level, operator_level, left_level, right_level}
use Rattle.c_tree.specs.WellFormed.{IsExpr, IsMiddle}
use Rattle.c_ops.specs.Joining.{Left, Stack, bottom, above, Accepts, Settled, settle_of, finished}
use Rattle.c_ops.proofs.Levels.{right_most}
use Rattle.c_units.specs.HeldScopes.{HeldScopes}
use Rattle.c_units.specs.Scoping.{behind, expr_scopes, operator_scopes}
use Rattle.c_reading.specs.declared.kinds.Reach.{Reach}
use Rattle.c_reading.specs.Expressing.{how_many}
use Rattle.c_reading.proofs.Aims.{reach_level}

-- the tree of a left operand with its operator and a right one
abbrev pub joined_with : Left → Expr → Expr
joined_with l e = operation l.tree l.operator l.token e

-- where the newest ends before an operator of a level, and where it goes on
pub settle_stays : (n : ℕ) (w : Stack) (l : Left) (e : Expr) → right_level l.operator ≤ n
    → settle_of n (above w l) e ≡ record { below = above w l; last = e }
settle_stays n w l e h = rw (le-leb (right_level l.operator) n h) refl

pub settle_joins : (n : ℕ) (w : Stack) (l : Left) (e : Expr) → nat_le (right_level l.operator) n ≡ false
    → settle_of n (above w l) e ≡ settle_of n w (joined_with l e)
settle_joins n w l e h = rw h refl

pub accepts_cast : (w : Stack) (n : ℕ) → 13 ≤ n → Accepts w n
accepts_cast bottom n h = tt
accepts_cast (above w l) n h = let r : right_level l.operator ≤ 13 = right_most l.operator in omega (arith, r, h)

module _ (all : List Lexeme) where
  abbrev pub stack_text : Stack → List Lexeme → List Lexeme
  stack_text bottom k = k
  stack_text (above w l) k = stack_text w (expr_text all l.tree (operator_text all l.operator l.token k))

  -- each is well formed, and what it waits behind accepts it with its operator
  abbrev pub AreStack : Stack → Type 0
  AreStack bottom = Unit {0}
  AreStack (above w l) =
      AreStack w × IsExpr all l.tree × IsOperator l.operator × IsMiddle all l.operator
      × (left_level l.operator ≤ expr_level l.tree) × Accepts w (operator_level l.operator)

  abbrev pub stack_scopes : Stack → HeldScopes → Option HeldScopes
  stack_scopes bottom s = Some s
  stack_scopes (above w l) s = behind (behind (stack_scopes w s) (expr_scopes l.tree)) (operator_scopes l.operator)

  -- the i-th, from one, is at most as high as the room without i
  abbrev pub StackLow : ℕ → Stack → Type 0
  StackLow room bottom = Unit {0}
  StackLow room (above w l) =
      StackLow room w × (suc (how_many w) + expr_height l.tree ≤ room)
      × (suc (how_many w) + operator_height l.operator ≤ room)

  -- no operator of a level below that of the reach
  abbrev pub StackReach : Reach → Stack → Type 0
  StackReach reach bottom = Unit {0}
  StackReach reach (above w l) = StackReach reach w × (reach_level reach ≤ operator_level l.operator)

  pub finished_text : (w : Stack) (e : Expr) (k : List Lexeme)
      → expr_text all (finished w e) k ≡ stack_text w (expr_text all e k)
  finished_text bottom e k = refl
  finished_text (above w l) e k = finished_text w (joined_with l e) k

  pub finished_fits : (w : Stack) (e : Expr) → AreStack w → IsExpr all e → Accepts w (expr_level e)
      → IsExpr all (finished w e)
  finished_fits bottom e h f a = f
  finished_fits (above w l) e h f a = finished_fits w (joined_with l e) h.0 (h.1, f, h.2, h.3, h.4, a) h.5

  pub finished_scopes : (w : Stack) (e : Expr) (s : HeldScopes)
      → expr_scopes (finished w e) s ≡ behind (stack_scopes w s) (expr_scopes e)
  finished_scopes bottom e s = refl
  finished_scopes (above w l) e s = finished_scopes w (joined_with l e) s ∙ by_first (stack_scopes w s)
    where
      by_first : (r : Option HeldScopes)
          → behind r (expr_scopes (joined_with l e))
          ≡ behind (behind (behind r (expr_scopes l.tree)) (operator_scopes l.operator)) (expr_scopes e)
      by_first None = refl
      by_first (Some t) = refl

  one_more : (n h o k room : ℕ) → suc n + h ≤ room → suc n + o ≤ room → suc n + k ≤ room
      → n + (max h (max o k) + 1) ≤ room
  one_more n h o k room a b c = omega (arith, a, b, c)

  pub finished_low : (room : ℕ) (w : Stack) (e : Expr) → StackLow room w → how_many w + expr_height e ≤ room
      → expr_height (finished w e) ≤ room
  finished_low room bottom e h low = omega (arith, low)
  finished_low room (above w l) e h low =
      finished_low room w (joined_with l e) h.0
      (one_more (how_many w) (expr_height l.tree) (operator_height l.operator) (expr_height e) room h.1 h.2 low)

  pub finished_level : (reach : Reach) (w : Stack) (e : Expr) → StackReach reach w → reach_level reach ≤ expr_level e
      → reach_level reach ≤ expr_level (finished w e)
  finished_level reach bottom e h low = low
  finished_level reach (above w l) e h low = finished_level reach w (joined_with l e) h.0 h.1

  -- What is joined before an operator of a level: the same in all but that the newest that still waits accepts the
  -- level.
  pub record SettlesTo (room : ℕ) (reach : Reach) (n least : ℕ) (w : Stack) (e : Expr) (r : Settled) : Type 0 where
    pub same_text : (k : List Lexeme) → stack_text r.below (expr_text all r.last k) ≡ stack_text w (expr_text all e k)
    pub same_scopes : (s : HeldScopes)
        → behind (stack_scopes r.below s) (expr_scopes r.last) ≡ behind (stack_scopes w s) (expr_scopes e)
    pub stack : AreStack r.below
    pub fits : IsExpr all r.last
    pub accepts : Accepts r.below n
    pub level : least ≤ expr_level r.last
    pub reaches : StackReach reach r.below
    pub stack_low : StackLow room r.below
    pub low : how_many r.below + expr_height r.last ≤ room

  pub settles : (room : ℕ) (reach : Reach) (n least : ℕ)
      → ((op : Operator) → IsOperator op → n < right_level op → least ≤ operator_level op) → (w : Stack) (e : Expr)
      → AreStack w → IsExpr all e → Accepts w (expr_level e) →
      least ≤ expr_level e → StackReach reach w → StackLow room w → how_many w + expr_height e ≤ room
      → SettlesTo room reach n least w e (settle_of n w e)
  settles room reach n least rises bottom e h f a level reaches lows low =
      record {
        same_text = λ k. refl;
        same_scopes = λ s. refl;
        stack = tt;
        fits = f;
        accepts = tt;
        level = level;
        reaches = tt;
        stack_low = tt;
        low = low;
      }
  settles room reach n least rises (above w l) e h f a level reaches lows low =
      by_test (nat_le (right_level l.operator) n) refl (λ is.
      settles room reach n least rises w (joined_with l e) h.0 (h.1, f, h.2, h.3, h.4, a) h.5
      (rises l.operator h.2 (above_it is)) reaches.0 lows.0
      (one_more (how_many w) (expr_height l.tree) (operator_height l.operator) (expr_height e) room lows.1 lows.2 low))
    where
      above_it : nat_le (right_level l.operator) n ≡ false → n < right_level l.operator
      above_it is = leb-false (right_level l.operator) n is

      by_test : (b : Bool) → nat_le (right_level l.operator) n ≡ b
          → (nat_le (right_level l.operator) n ≡ false
          → SettlesTo room reach n least w (joined_with l e) (settle_of n w (joined_with l e))) →
          SettlesTo room reach n least (above w l) e (settle_of n (above w l) e)
      by_test true is rest =
          subst (SettlesTo room reach n least (above w l) e)
          (sym (settle_stays n w l e (leb-true (right_level l.operator) n is)))
          (record {
            same_text = λ k. refl;
            same_scopes = λ s. refl;
            stack = h;
            fits = f;
            accepts = leb-true (right_level l.operator) n is;
            level = level;
            reaches = reaches;
            stack_low = lows;
            low = low;
          })
      by_test false is rest =
          let t = rest is in
          subst (SettlesTo room reach n least (above w l) e) (sym (settle_joins n w l e is)) (record {
            same_text = t.same_text;
            same_scopes = λ s. t.same_scopes s ∙ by_first (stack_scopes w s);
            stack = t.stack;
            fits = t.fits;
            accepts = t.accepts;
            level = t.level;
            reaches = t.reaches;
            stack_low = t.stack_low;
            low = t.low;
          })
        where
          by_first : (r : Option HeldScopes)
              → behind r (expr_scopes (joined_with l e))
              ≡ behind (behind (behind r (expr_scopes l.tree)) (operator_scopes l.operator)) (expr_scopes e)
          by_first None = refl
          by_first (Some t) = refl
