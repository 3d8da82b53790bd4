-- Operands and operators in turn, and expressions of each reach.
use Rattle.std.proofs.Common.{◌≡◌, ℕ, suc, ◌<◌, ◌≤◌, Bool, true, false, List, [], ◌∷◌, length, ◌⊎◌, inl, inr, None, refl, ◌∙◌, ap, arith}
use Rattle.std.specs.Prelude.{◌+◌, ◌-◌, nat_le}
use Rattle.c_words.specs.declared.kinds.TokenKind.TheVariants as kinds
use Rattle.c_words.specs.declared.kinds.Punct.{Punct}
use Rattle.c_words.specs.declared.kinds.Punct.TheVariants as puncts
use Rattle.c_tree.specs.declared.lexeme.Lexeme.{Lexeme}
use Rattle.c_tree.specs.Tree.{Expr, prefix, number_use, name_use, Operator, comma, assign, cond, binary, SomeExpr, no_expr, some_expr}
use Rattle.c_tree.specs.Height.{expr_height}
use Rattle.c_tree.specs.Levels.{binary_level, expr_level}
use Rattle.c_ops.specs.Joining.{Settled, bottom, finished}
use Rattle.c_units.specs.HeldScopes.{HeldScopes, names_type}
use Rattle.c_reading.specs.declared.kinds.FaultKind.TheVariants.{BadTarget}
use Rattle.c_reading.specs.declared.kinds.Reach.{Reach}
use Rattle.c_reading.specs.declared.kinds.Reach.TheVariants.{Whole, Assigned, Conditional, Castable, Unary}
use Rattle.c_reading.specs.declared.kinds.Infix.{Infix}
use Rattle.c_reading.specs.declared.kinds.Infix.TheVariants as infixes
use Rattle.c_reading.specs.Reading.{Reader, ends, refuses, kind_at, take_one, token_at, and_then, run}
use Rattle.c_reading.specs.Tokens.{is_colon, is_end}
use Rattle.c_reading.specs.Parts.{Inner, Begun, nothing, extensions, star}
use Rattle.c_reading.specs.Expressing.{OperandRow, settled, depth_of, with_operand, extended, infix_of, takes_comma, takes_assign, unary_with, cast_with, operand_with, operation_with, middle_with, question_with, operation_by, operation_turn, row_with, expr_with}
use Rattle.c_reading.proofs.Binding.{found, done}
use Rattle.c_reading.proofs.Forms.{shrinks_falls}
use Rattle.c_reading.proofs.Aims.{Laws}
use Rattle.c_reading.proofs.KnotLaws.{none_tokens}
use Rattle.c_reading.proofs.ExprFalls.{cast_shrinks, operation_turn_shrinks}
use Rattle.c_reading.proofs.SpecsCompleteBodies.{expr_high}
use Rattle.reading_steps.specs.Steps.{first_kind, any, Good, Law}
use Rattle.reading_steps.specs.Stops.{stops_operand, stops_whole, stops_expr, begun_levels}
use Rattle.reading_steps.specs.InnerLaws.{InnerLaws, ExprPlaces}
use Rattle.reading_steps.proofs.Keeping.{kept_refl}
use Rattle.reading_steps.proofs.Steps.{behind, kind_same, refused_here, ends_good, if_good, fits_good, bind_good, take_behind, good_before, law_before, GoodTurn, run_good, run_stops}
use Rattle.reading_steps.proofs.Chains.{ends_falls, behind_shrinks, closed_law}
use Rattle.token_places.proofs.Single.{colon_end, mapped_law, mapped_good}
use Rattle.expr_places.proofs.Facts.{whole_operand, expr_operand, colon_whole, is_infix, infix_no_end, operand_infix, whole_infix}
use Rattle.expr_places.proofs.Unary.{unary_good, cast_law_good, number_unary, number_cast, name_unary, name_cast, opens_unary, opens_cast}

module _ (n : ℕ) (inner : Inner) (laws : Laws [] n inner) (places : InnerLaws n inner) where
  -- an operand behind an operator that waits
  cast_law : (room : ℕ) → room < suc n → 1 ≤ room → Law true (cast_with inner room) any stops_operand
  cast_law room less one = record {
    good = λ s ts. cast_law_good n inner laws places room less s ts;
    ready = λ s at. record {
      more = kinds.Number ∷ [];
      tree = number_use at;
      scopes = s;
      keeps = kept_refl true s;
      begins = λ k h. refl;
      reads = λ k h. number_cast n inner laws places room one s at k h;
    };
  }

  cast_stops : (reach : Reach) (room : ℕ) → room < suc n → 1 ≤ room
      → Law true (cast_with inner room) any (stops_expr reach)
  cast_stops reach room less one =
      law_before true (cast_with inner room) any any stops_operand (stops_expr reach) (expr_operand reach) (λ kind h. h)
      (cast_law room less one)

  operation_good : (reach : Reach) (op : Operator) (left : Settled) (room : ℕ) → room < suc n
      → (s : HeldScopes) (ts : List Lexeme) → is_end (kind_at ts) ≡ false
      → Good true (operation_with inner op left room) (stops_expr reach) s ts
  operation_good reach op left room less s ts known =
      fits_good true (depth_of left + expr_height left.last) room (behind take_one (λ token. behind
      (cast_with inner (room - depth_of left)) (λ e. ends (with_operand left op token e)))) (stops_expr reach) s ts
      (λ fit. take_behind true (λ token. behind (cast_with inner (room - depth_of left))
      (λ e. ends (with_operand left op token e))) (stops_expr reach)
      (λ token. mapped_law true (cast_with inner (room - depth_of left)) (with_operand left op token) any
      (stops_expr reach) (cast_stops reach (room - depth_of left) (omega (arith, less)) (below fit))) s ts known)
    where
      below : depth_of left + expr_height left.last ≤ room → 1 ≤ room - depth_of left
      below fit = let high : 1 ≤ expr_height left.last = expr_high left.last in omega (arith, fit, high)

  -- between `?` and `:` nothing has to stand
  middle_law : (room : ℕ) → room < n → Law true (middle_with inner room) any is_colon
  unfolding middle_with
  middle_law room less = record {
    good = λ s ts.
        if_good true (λ s. is_colon) (ends no_expr) (behind (inner.expr Whole nothing room) (λ e. ends (some_expr e)))
        is_colon s ts (λ is. ends_good true no_expr is_colon s ts)
        (λ is. mapped_good true (inner.expr Whole nothing room) some_expr is_colon s ts
        (good_before true (inner.expr Whole nothing room) stops_whole is_colon s ts colon_whole
        (places.exprs.good Whole nothing room less s ts)))
        (λ is. inr (λ kind h. h)) (λ is. inl (λ x e. behind_shrinks (inner.expr Whole nothing room)
        (λ e. ends (some_expr e)) (laws.exprs.shrinks Whole nothing room) (λ e. ends_falls (some_expr e)) s ts x e));
    ready = λ s at. record {
      more = [];
      tree = no_expr;
      scopes = s;
      keeps = kept_refl true s;
      begins = λ k h. refl;
      reads = λ k h. rw h refl;
    };
  }

  question_good : (reach : Reach) (left : Settled) (room : ℕ) → room < suc n → (s : HeldScopes) (ts : List Lexeme)
      → is_end (kind_at ts) ≡ false → Good true (question_with inner left room) (stops_expr reach) s ts
  question_good reach left room less s ts known =
      fits_good true (depth_of left + expr_height left.last) room (behind take_one all) (stops_expr reach) s ts
      (λ fit. take_behind true all (stops_expr reach) (all_law fit) s ts known)
    where
      last : ℕ → SomeExpr → ℕ → Reader OperandRow
      last token middle colon =
          behind (cast_with inner (room - depth_of left)) (λ e. ends (with_operand left (cond middle colon) token e))

      all : ℕ → Reader OperandRow
      all token =
          behind (middle_with inner (room - depth_of left)) (λ middle. behind (token_at is_colon) (last token middle))

      below : depth_of left + expr_height left.last ≤ room → 1 ≤ room - depth_of left
      below fit = let high : 1 ≤ expr_height left.last = expr_high left.last in omega (arith, fit, high)

      inside : depth_of left + expr_height left.last ≤ room → room - depth_of left < n
      inside fit = let high : 1 ≤ expr_height left.last = expr_high left.last in omega (arith, fit, high, less)

      all_law : depth_of left + expr_height left.last ≤ room → (token : ℕ) → Law true (all token) any (stops_expr reach)
      all_law fit token =
          closed_law true (middle_with inner (room - depth_of left)) is_colon (kinds.Punct puncts.Colon) any
          (stops_expr reach) (last token) (middle_law (room - depth_of left) (inside fit)) refl colon_end
          (λ middle colon.
          mapped_law true (cast_with inner (room - depth_of left)) (with_operand left (cond middle colon) token) any
          (stops_expr reach) (cast_stops reach (room - depth_of left) (omega (arith, less)) (below fit)))
          (λ middle colon. shrinks_falls (last token middle colon) (behind_shrinks
          (cast_with inner (room - depth_of left)) (λ e. ends (with_operand left (cond middle colon) token e))
          (cast_shrinks [] none_tokens n inner laws (room - depth_of left))
          (λ e. ends_falls (with_operand left (cond middle colon) token e))))

  operation_none : (reach : Reach) (room : ℕ) (row : OperandRow) (s : HeldScopes) (k : List Lexeme)
      → stops_expr reach (kind_at k) ≡ true → operation_turn inner reach room row s k ≡ None
  operation_none reach room row s k h = by_infix (operand_infix (kind_at k) (expr_operand reach (kind_at k) h))
    where
      no_comma : (reach : Reach) → stops_expr reach (kind_at k) ≡ true → infix_of (kind_at k) ≡ infixes.Comma
          → operation_by inner reach room infixes.Comma row s k ≡ None
      no_comma Whole h is = let other = whole_infix (kind_at k) h in absurd cc
      no_comma Assigned h is = refl
      no_comma Conditional h is = refl
      no_comma Castable h is = refl
      no_comma Unary h is = refl

      by_infix : (infix_of (kind_at k) ≡ infixes.Nothing) ⊎ (infix_of (kind_at k) ≡ infixes.Comma)
          → operation_turn inner reach room row s k ≡ None
      by_infix (inl is) = ap (λ (f : Infix). operation_by inner reach room f row s k) is
      by_infix (inr is) = ap (λ (f : Infix). operation_by inner reach room f row s k) is ∙ no_comma reach h is

  operation_step : (reach : Reach) (room : ℕ) → room < suc n → (row : OperandRow) (s : HeldScopes) (ts : List Lexeme)
      → GoodTurn true (operation_turn inner reach room) (stops_expr reach) row s ts
  operation_step reach room less row s ts = by_infix (infix_of (kind_at ts)) refl
    where
      to : (f : Infix) → infix_of (kind_at ts) ≡ f → (k : List Lexeme) → first_kind k ≡ first_kind ts
          → operation_turn inner reach room row s k ≡ operation_by inner reach room f row s k
      to f is k h = ap (λ (f : Infix). operation_by inner reach room f row s k) (ap infix_of (kind_same k ts h) ∙ is)

      known : (f : Infix) → infix_of (kind_at ts) ≡ f → is_infix f ≡ true → is_end (kind_at ts) ≡ false
      known f is some = infix_no_end (kind_at ts) (ap is_infix is ∙ some)

      by_comma : (b : Bool) → takes_comma reach ≡ b → infix_of (kind_at ts) ≡ infixes.Comma
          → GoodTurn true (operation_turn inner reach room) (stops_expr reach) row s ts
      by_comma false takes is = inl (λ k h. to infixes.Comma is k h ∙ rw takes refl)
      by_comma true takes is =
          inr (
            operation_with inner comma (settled row 0) room,
            (λ k h. to infixes.Comma is k h ∙ rw takes refl),
            operation_good reach comma (settled row 0) room less s ts (known infixes.Comma is refl),
          )

      by_assign : (p : Punct) (unary takes : Bool) → nat_le 14 (expr_level (settled row 1).last) ≡ unary
          → takes_assign reach ≡ takes → infix_of (kind_at ts) ≡ infixes.Assign p →
          GoodTurn true (operation_turn inner reach room) (stops_expr reach) row s ts
      by_assign p false takes level goes is =
          inr (
            (λ s ts. refuses BadTarget ts),
            (λ k h. to (infixes.Assign p) is k h ∙ rw level refl),
            refused_here true (λ s ts. refuses BadTarget ts) (stops_expr reach) s ts BadTarget (λ k h. refl),
          )
      by_assign p true false level goes is = inl (λ k h. to (infixes.Assign p) is k h ∙ rw (level, goes) refl)
      by_assign p true true level goes is =
          inr (
            operation_with inner (assign p) (settled row 1) room,
            (λ k h. to (infixes.Assign p) is k h ∙ rw (level, goes) refl),
            operation_good reach (assign p) (settled row 1) room less s ts (known (infixes.Assign p) is refl),
          )

      by_infix : (f : Infix) → infix_of (kind_at ts) ≡ f
          → GoodTurn true (operation_turn inner reach room) (stops_expr reach) row s ts
      by_infix infixes.Comma is = by_comma (takes_comma reach) refl is
      by_infix (infixes.Assign p) is =
          by_assign p (nat_le 14 (expr_level (settled row 1).last)) (takes_assign reach) refl refl is
      by_infix infixes.Question is =
          inr (
            question_with inner (settled row 2) room,
            to infixes.Question is,
            question_good reach (settled row 2) room less s ts (known infixes.Question is refl),
          )
      by_infix (infixes.Binary p) is =
          inr (
            operation_with inner (binary p) (settled row (binary_level p + 2)) room,
            to (infixes.Binary p) is,
            operation_good reach (binary p) (settled row (binary_level p + 2)) room less s ts
                (known (infixes.Binary p) is refl),
          )
      by_infix infixes.Nothing is = inl (to infixes.Nothing is)

  row_ends : (reach : Reach) (room : ℕ) (row : OperandRow) (s : HeldScopes) (k : List Lexeme)
      → stops_expr reach (kind_at k) ≡ true → run (operation_turn inner reach room) row s k ≡ done (found row s k)
  row_ends reach room row s k h =
      run_stops true (operation_turn inner reach room) (operation_turn_shrinks [] none_tokens n inner laws reach room)
      (stops_expr reach) (operation_none reach room) row s k h

  -- The first operand.

  operand_stops : (begun : Begun) (room : ℕ) → room < suc n → (s : HeldScopes) (ts : List Lexeme)
      → Good true (operand_with inner begun room) stops_operand s ts
  unfolding operand_with
  operand_stops nothing room less s ts = cast_law_good n inner laws places room less s ts
  operand_stops (extensions tokens) room less s ts =
      mapped_good true (cast_with inner (room - length tokens)) (extended tokens) stops_operand s ts
      (cast_law_good n inner laws places (room - length tokens) (omega (arith, less)) s ts)
  operand_stops (star token) room less s ts =
      mapped_good true (cast_with inner (room - 1)) (λ e. prefix token puncts.Star e) stops_operand s ts
      (cast_law_good n inner laws places (room - 1) (omega (arith, less)) s ts)

  operand_good : (reach : Reach) (begun : Begun) (room : ℕ) → room < suc n → (s : HeldScopes) (ts : List Lexeme)
      → Good true (operand_with inner begun room) (stops_expr reach) s ts
  operand_good reach begun room less s ts =
      good_before true (operand_with inner begun room) stops_operand (stops_expr reach) s ts (expr_operand reach)
      (operand_stops begun room less s ts)

  number_operand : (begun : Begun) (room : ℕ) → begun_levels begun < room → (s : HeldScopes) (at : ℕ)
      → (e : Expr) × ((k : List Lexeme) → stops_operand (kind_at k) ≡ true →
      operand_with inner begun room s (record { kind = kinds.Number; at = at } ∷ k) ≡ done (found e s k))
  unfolding operand_with and_then
  number_operand nothing room more s at =
      (number_use at, (λ k h. number_cast n inner laws places room (omega (arith, more)) s at k h))
  number_operand (extensions tokens) room more s at = (
    extended tokens (number_use at),
    (λ k h. rw (number_cast n inner laws places (room - length tokens) (omega (arith, more)) s at k h) refl),
  )
  number_operand (star token) room more s at = (
    prefix token puncts.Star (number_use at),
    (λ k h. rw (number_cast n inner laws places (room - 1) (omega (arith, more)) s at k h) refl),
  )

  -- Rows.

  abbrev row_rest : Reach → ℕ → Expr → Reader Expr
  row_rest reach room e =
      behind (run (operation_turn inner reach room) (record { waiting = bottom; last = e }))
      (λ row. ends (finished row.waiting row.last))

  row_rest_law : (reach : Reach) (room : ℕ) → room < suc n → (e : Expr)
      → Law true (row_rest reach room e) (stops_expr reach) (stops_expr reach)
  row_rest_law reach room less e =
      mapped_law true (run (operation_turn inner reach room) (record { waiting = bottom; last = e }))
      (λ row. finished row.waiting row.last) (stops_expr reach) (stops_expr reach) (record {
        good = λ s ts.
            run_good true (operation_turn inner reach room)
            (operation_turn_shrinks [] none_tokens n inner laws reach room) (stops_expr reach)
            (operation_none reach room) (operation_step reach room less)
            (record { waiting = bottom; last = e }) s ts;
        ready = λ s at. record {
          more = [];
          tree = record { waiting = bottom; last = e };
          scopes = s;
          keeps = kept_refl true s;
          begins = λ k h. h;
          reads = λ k h. row_ends reach room (record { waiting = bottom; last = e }) s k h;
        };
      })

  row_good : (reach : Reach) (begun : Begun) (room : ℕ) → room < suc n → (s : HeldScopes) (ts : List Lexeme)
      → Good true (row_with inner reach begun room) (stops_expr reach) s ts
  unfolding row_with
  row_good reach begun room less s ts =
      bind_good true (operand_with inner begun room) (row_rest reach room) (stops_expr reach) (stops_expr reach) s ts
      (λ e scopes gives at. (row_rest_law reach room less e).ready scopes at)
      (operand_good reach begun room less s ts) (λ x is. (row_rest_law reach room less x.tree).good x.scopes x.rest)
      (inr (λ kind h. h))

  -- an operand alone is a row
  row_is : (reach : Reach) (begun : Begun) (room : ℕ) (s : HeldScopes) (ts k : List Lexeme) (e : Expr)
      → operand_with inner begun room s ts ≡ done (found e s k) → stops_expr reach (kind_at k) ≡ true →
      row_with inner reach begun room s ts ≡ done (found e s k)
  unfolding row_with and_then
  row_is reach begun room s ts k e is h =
      rw (is, row_ends reach room (record { waiting = bottom; last = e }) s k h) refl

  -- Expressions of each reach.

  expr_good : (reach : Reach) (begun : Begun) (room : ℕ) → room < suc n → (s : HeldScopes) (ts : List Lexeme)
      → Good true (expr_with inner reach begun room) (stops_expr reach) s ts
  unfolding expr_with
  expr_good Whole begun room less s ts = row_good Whole begun room less s ts
  expr_good Assigned begun room less s ts = row_good Assigned begun room less s ts
  expr_good Conditional begun room less s ts = row_good Conditional begun room less s ts
  expr_good Castable begun room less s ts = operand_good Castable begun room less s ts
  expr_good Unary begun room less s ts = unary_good n inner laws places room less s ts

  -- what tokens are as an operand they are in each reach
  abbrev Reads : Reach → Begun → ℕ → HeldScopes → (List Lexeme → List Lexeme) → Type 0
  Reads reach begun room s tokens =
      (e : Expr) × ((k : List Lexeme) → stops_expr reach (kind_at k) ≡ true
      → expr_with inner reach begun room s (tokens k) ≡ done (found e s k))

  reads_of : (begun : Begun) (room : ℕ) (s : HeldScopes) (tokens : List Lexeme → List Lexeme)
      → ((e : Expr) × ((k : List Lexeme) → stops_operand (kind_at k) ≡ true
      → operand_with inner begun room s (tokens k) ≡ done (found e s k))) →
      ((e : Expr) × ((k : List Lexeme) → stops_operand (kind_at k) ≡ true
      → unary_with inner room s (tokens k) ≡ done (found e s k)))
      → (reach : Reach) → Reads reach begun room s tokens
  unfolding expr_with
  reads_of begun room s tokens operand unary Whole = (
    operand.0,
    (λ k h. row_is Whole begun room s (tokens k) k operand.0 (operand.1 k (whole_operand (kind_at k) h)) h),
  )
  reads_of begun room s tokens operand unary Assigned =
      (operand.0, (λ k h. row_is Assigned begun room s (tokens k) k operand.0 (operand.1 k h) h))
  reads_of begun room s tokens operand unary Conditional =
      (operand.0, (λ k h. row_is Conditional begun room s (tokens k) k operand.0 (operand.1 k h) h))
  reads_of begun room s tokens operand unary Castable = operand
  reads_of begun room s tokens operand unary Unary = unary

  number_reads : (reach : Reach) (begun : Begun) (room : ℕ) → begun_levels begun < room → (s : HeldScopes) (at : ℕ)
      → Reads reach begun room s (λ k. record { kind = kinds.Number; at = at } ∷ k)
  number_reads reach begun room more s at =
      reads_of begun room s (λ k. record { kind = kinds.Number; at = at } ∷ k) (number_operand begun room more s at)
      (number_use at, (λ k h. number_unary n inner laws places room (omega (arith, more)) s at k h)) reach

  named_reads : (reach : Reach) (room : ℕ) → 1 ≤ room → (s : HeldScopes) (name at : ℕ) → names_type s name ≡ false
      → Reads reach nothing room s (λ k. record { kind = kinds.Name name; at = at } ∷ k)
  unfolding operand_with
  named_reads reach room one s name at no_type =
      reads_of nothing room s (λ k. record { kind = kinds.Name name; at = at } ∷ k)
      (name_use at name, (λ k h. name_cast n inner laws places room one s name at no_type k h))
      (name_use at name, (λ k h. name_unary n inner laws places room one s name at no_type k h)) reach

  opens_reads : (reach : Reach) (room : ℕ) → room < suc n → 2 ≤ room → (s : HeldScopes) (one two three : ℕ) →
      Reads reach nothing room s (λ k. record { kind = kinds.Punct puncts.OpenParen; at = one }
      ∷ record { kind = kinds.Number; at = two } ∷ record { kind = kinds.Punct puncts.CloseParen; at = three } ∷ k)
  unfolding operand_with
  opens_reads reach room less least s one two three =
      reads_of nothing room s (λ k. record { kind = kinds.Punct puncts.OpenParen; at = one }
      ∷ record { kind = kinds.Number; at = two } ∷ record { kind = kinds.Punct puncts.CloseParen; at = three } ∷ k)
      (opens_cast n inner laws places room less least s one two three)
      (opens_unary n inner laws places room less least s one two three) reach

  pub expr_places : ExprPlaces (suc n) (expr_with inner)
  expr_places = record {
    good = expr_good;
    ready = λ reach begun room less more s at. record {
      more = kinds.Number ∷ [];
      tree = (number_reads reach begun room more s at).0;
      scopes = s;
      keeps = kept_refl true s;
      begins = λ k h. refl;
      reads = λ k h. (number_reads reach begun room more s at).1 k h;
    };
    number = λ reach begun room less more s at. number_reads reach begun room more s at;
    opens = opens_reads;
    named = λ reach room less one s name at no_type. named_reads reach room one s name at no_type;
  }
