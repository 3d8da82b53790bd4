-- What the readers of operands and operators take is spelled so and well formed.
use Rattle.std.proofs.Common.{◌≡◌, ℕ, ◌<◌, ◌≤◌, true, List, [], ◌∷◌, length, Some, refl, sym, ◌∙◌, ap, subst, arith}
use Rattle.std.specs.Prelude.{◌+◌, ◌-◌, nat_le}
use Rattle.std.proofs.lemmas.Bool.{leb-true}
use Rattle.c_words.specs.declared.kinds.TokenKind.TheVariants as kinds
use Rattle.c_words.specs.declared.kinds.Punct.{Punct}
use Rattle.c_words.specs.declared.kinds.Punct.TheVariants as puncts
use Rattle.c_tree.specs.declared.lexeme.Lexeme.{Lexeme}
use Rattle.c_tree.specs.Tree.{Expr, Operator, comma, assign, cond, binary, SomeExpr}
use Rattle.c_tree.specs.Text.{sign_text, extensions_text, expr_text, operator_text, some_expr_text, keyword_text}
use Rattle.c_tree.specs.Height.{expr_height, operator_height, some_expr_height}
use Rattle.c_tree.specs.Levels.{IsOperator, binary_level, expr_level, operator_level, left_level, right_level}
use Rattle.c_tree.specs.WellFormed.{IsExpr, IsMiddle, IsSomeExpr}
use Rattle.c_ops.specs.Joining.{bottom}
use Rattle.c_units.specs.HeldScopes.{HeldScopes}
use Rattle.c_units.specs.Scoping.{behind, expr_scopes, operator_scopes, some_expr_scopes}
use Rattle.c_reading.specs.declared.kinds.Reach.{Reach}
use Rattle.c_reading.specs.declared.kinds.Reach.TheVariants.{Whole, Assigned, Conditional, Castable, Unary}
use Rattle.c_reading.specs.declared.kinds.Infix.{Infix}
use Rattle.c_reading.specs.declared.kinds.Infix.TheVariants as infixes
use Rattle.c_reading.specs.Reading.{Found, kind_at, IsNumbered, IsTail}
use Rattle.c_reading.specs.Tokens.{is_colon}
use Rattle.c_reading.specs.Parts.{Inner, Begun, nothing, extensions, star}
use Rattle.c_reading.specs.Expressing.{infix_of, takes_comma, takes_assign, OperandRow, how_many, settled, depth_of, with_operand, extended, operand_with, operation_with, middle_with, question_with, operation_by, operation_turn, row_with, expr_with}
use Rattle.c_reading.proofs.Binding.{done, bind_ok, fits_ok, if_ok}
use Rattle.c_reading.proofs.Loops.{run-keep}
use Rattle.c_reading.proofs.Forms.{Form, Takes, IsSound, at_end, behind_is, through, took, took_token}
use Rattle.c_reading.proofs.KindFacts.{colon_kind}
use Rattle.c_reading.proofs.Aims.{reach_level, is_row, begun_text, expr_form, TakesBegun, TokenLaws, Laws}
use Rattle.c_reading.proofs.ExprFalls.{some_is}
use Rattle.c_reading.proofs.ExprKinds.{IsInfix, infix_is}
use Rattle.c_reading.proofs.ExprSoundForms.{cast_sound, unary_sound}
use Rattle.c_reading.proofs.ExprStacks.{accepts_cast, stack_text, AreStack, stack_scopes, StackLow, StackReach, SettlesTo, settles, finished_text, finished_fits, finished_scopes, finished_low, finished_level}
use Rattle.c_words.specs.declared.kinds.Keyword.TheVariants.{Extension}
use Rattle.c_ops.proofs.Levels.{right_most}
use Rattle.c_reading.proofs.SpecsCompleteBodies.{expr_high}

module _ (all : List Lexeme) where
  extended_text : (numbers : List ℕ) (e : Expr) (k : List Lexeme)
      → extensions_text numbers (expr_text all e k) ≡ expr_text all (extended numbers e) k
  extended_text [] e k = refl
  extended_text (token ∷ numbers) e k =
      ap (λ (k : List Lexeme). keyword_text Extension token k) (extended_text numbers e k)

  extended_fits : (numbers : List ℕ) (e : Expr) → IsExpr all e → 13 ≤ expr_level e
      → IsExpr all (extended numbers e) × (13 ≤ expr_level (extended numbers e))
  extended_fits [] e h l = (h, l)
  extended_fits (token ∷ numbers) e h l = (extended_fits numbers e h l, omega arith)

  extended_scopes : (numbers : List ℕ) (e : Expr) (s : HeldScopes)
      → expr_scopes (extended numbers e) s ≡ expr_scopes e s
  extended_scopes [] e s = refl
  extended_scopes (token ∷ numbers) e s = extended_scopes numbers e s

  extended_height : (numbers : List ℕ) (e : Expr) → expr_height (extended numbers e) ≡ length numbers + expr_height e
  extended_height [] e = omega arith
  extended_height (token ∷ numbers) e =
      let more : expr_height (extended numbers e) ≡ length numbers + expr_height e = extended_height numbers e in
      omega (arith, more)

  module _ (numbered : IsNumbered all) (tokens : TokenLaws all) (n : ℕ) (inner : Inner) (laws : Laws all n inner) where
    -- an operand whose first tokens were read already
    record TakesOperand (begun : Begun) (room : ℕ) (s : HeldScopes) (ts : List Lexeme) (x : Found Expr) : Type 0 where
      spelled : begun_text begun ts ≡ expr_text all x.tree x.rest
      fits : IsExpr all x.tree
      level : 13 ≤ expr_level x.tree
      named : expr_scopes x.tree s ≡ Some x.scopes
      low : expr_height x.tree ≤ room
      left : IsTail all x.rest

    sum_low : (n h h' room : ℕ) → h' ≡ n + h → h ≤ room - n → 1 ≤ h → h' ≤ room
    sum_low n h h' room a b c = omega (arith, a, b, c)

    operand_sound : (begun : Begun) (room : ℕ) (s : HeldScopes) (ts : List Lexeme) (x : Found Expr) → IsTail all ts
        → operand_with inner begun room s ts ≡ done x → TakesOperand begun room s ts x
    unfolding operand_with
    operand_sound nothing room s ts x tail e =
        let i = cast_sound all numbered tokens n inner laws room s ts x tail e in
        record { spelled = i.spelled; fits = i.fits.0; level = i.fits.1; named = i.named; low = i.low; left = i.left }
    operand_sound (extensions numbers) room s ts x tail e =
        let a = bind_ok e in
        let i = cast_sound all numbered tokens n inner laws (room - length numbers) s ts a.0 tail a.1 in
        at_end (TakesOperand (extensions numbers) room s ts) a.2 (record {
          spelled = ap (extensions_text numbers) i.spelled ∙ extended_text numbers a.0.tree a.0.rest;
          fits = (extended_fits numbers a.0.tree i.fits.0 i.fits.1).0;
          level = (extended_fits numbers a.0.tree i.fits.0 i.fits.1).1;
          named = extended_scopes numbers a.0.tree s ∙ i.named;
          low = sum_low (length numbers) (expr_height a.0.tree) (expr_height (extended numbers a.0.tree)) room
              (extended_height numbers a.0.tree) i.low (expr_high a.0.tree);
          left = i.left;
        })
    operand_sound (star token) room s ts x tail e =
        let a = bind_ok e in
        let i = cast_sound all numbered tokens n inner laws (room - 1) s ts a.0 tail a.1 in
        at_end (TakesOperand (star token) room s ts) a.2 (record {
          spelled = ap (sign_text puncts.Star token) i.spelled;
          fits = (i.fits.0, i.fits.1);
          level = omega arith;
          named = i.named;
          low =
              sum_low 1 (expr_height a.0.tree) (expr_height a.0.tree + 1) room (omega arith) i.low (expr_high a.0.tree);
          left = i.left;
        })

    -- the middle of a conditional
    abbrev middle_form : Form SomeExpr
    middle_form = record {
      text = some_expr_text all;
      Fits = IsSomeExpr all;
      scopes = some_expr_scopes;
      height = some_expr_height;
    }

    middle_sound : (room : ℕ) → IsSound all middle_form room (middle_with inner room)
    unfolding middle_with
    middle_sound room s ts x tail e =
        if_ok (is_colon (kind_at ts)) e (λ is e. at_end (Takes all middle_form room s ts) e
        (record { spelled = refl; fits = tt; named = refl; low = omega arith; left = tail })) (λ is e.
        let a = bind_ok e in
        let i = laws.exprs.sound Whole room s ts a.0 tail a.1 in
        at_end (Takes all middle_form room s ts) a.2
        (record { spelled = i.spelled; fits = i.fits.0; named = i.named; low = i.low; left = i.left }))

    -- What was read of a row: operands that wait, and the last one.
    record TakesRow (reach : Reach) (room : ℕ) (s : HeldScopes) (ts : List Lexeme) (row : OperandRow) (t : HeldScopes)
        (k : List Lexeme) : Type 0 where
      spelled : ts ≡ stack_text all row.waiting (expr_text all row.last k)
      stack : AreStack all row.waiting
      fits : IsExpr all row.last
      level : 13 ≤ expr_level row.last
      reaches : StackReach all reach row.waiting
      named : behind (stack_scopes all row.waiting s) (expr_scopes row.last) ≡ Some t
      stack_low : StackLow all room row.waiting
      low : how_many row.waiting + expr_height row.last ≤ room
      left : IsTail all k

    deeper : (d h room : ℕ) → 1 ≤ h → h ≤ room - d → d + h ≤ room
    deeper d h room a b = omega (arith, a, b)

    -- an operator and the operand behind it
    pushed : (reach : Reach) (room : ℕ) (s : HeldScopes) (ts : List Lexeme) (row : OperandRow) (t : HeldScopes)
        (k : List Lexeme)
        → TakesRow reach room s ts row t k →
        (op : Operator) (token : ℕ) (e : Expr) (u v : HeldScopes) (k' : List Lexeme)
        → SettlesTo all room reach (operator_level op) (left_level op) row.waiting row.last
        (settled row (operator_level op)) →
        IsOperator op → IsMiddle all op → reach_level reach ≤ operator_level op →
        depth_of (settled row (operator_level op)) + expr_height (settled row (operator_level op)).last ≤ room
        → depth_of (settled row (operator_level op)) + operator_height op ≤ room →
        k ≡ operator_text all op token (expr_text all e k') → operator_scopes op t ≡ Some u → expr_scopes e u ≡ Some v
        → IsExpr all e → 13 ≤ expr_level e →
        expr_height e ≤ room - depth_of (settled row (operator_level op)) → IsTail all k'
        → TakesRow reach room s ts (with_operand (settled row (operator_level op)) op token e) v k'
    pushed reach room s ts row t k h op token e u v k' settle is_op is_middle reached low low_middle spelled named
        named2 fits level high left = record {
          spelled = h.spelled ∙ sym (settle.same_text k) ∙ ap (λ (k : List Lexeme). stack_text all
              (settled row (operator_level op)).below (expr_text all (settled row (operator_level op)).last k)) spelled;
          stack = (settle.stack, settle.fits, is_op, is_middle, settle.level, settle.accepts);
          fits = fits;
          level = level;
          reaches = (settle.reaches, reached);
          named =
              behind_is (expr_scopes e) (behind_is (operator_scopes op) (settle.same_scopes s ∙ h.named) named) named2;
          stack_low = (settle.stack_low, low, low_middle);
          low = deeper (depth_of (settled row (operator_level op))) (expr_height e) room (expr_high e) high;
          left = left;
        }

    settled_row : (reach : Reach) (room : ℕ) (s : HeldScopes) (ts : List Lexeme) (row : OperandRow) (t : HeldScopes)
        (k : List Lexeme)
        → TakesRow reach room s ts row t k →
        (level least : ℕ) → ((op : Operator) → IsOperator op → level < right_level op → least ≤ operator_level op)
        → least ≤ 13 →
        SettlesTo all room reach level least row.waiting row.last (settled row level)
    settled_row reach room s ts row t k h level least rises small =
        settles all room reach level least rises row.waiting row.last h.stack h.fits
        (accepts_cast row.waiting (expr_level row.last) h.level)
        (at_least least (expr_level row.last) small h.level) h.reaches h.stack_low h.low
      where
        at_least : (a b : ℕ) → a ≤ 13 → 13 ≤ b → a ≤ b
        at_least a b p q = omega (arith, p, q)

    -- what is joined before a binary operator, a conditional, a comma is at least of the level that it asks for
    rises_binary : (p : Punct) (op : Operator) → IsOperator op → binary_level p + 2 < right_level op
        → binary_level p + 2 ≤ operator_level op
    rises_binary p comma i h = omega (arith, h)
    rises_binary p (assign q) i h = omega (arith, h)
    rises_binary p (cond middle colon) i h = omega (arith, h)
    rises_binary p (binary q) i h = omega (arith, h)

    rises_cond : (op : Operator) → IsOperator op → 2 < right_level op → 3 ≤ operator_level op
    rises_cond comma i h = omega (arith, h)
    rises_cond (assign q) i h = omega (arith, h)
    rises_cond (cond middle colon) i h = omega (arith, h)
    rises_cond (binary q) i h = omega (arith, h, i)

    rises_none : (n : ℕ) (op : Operator) → IsOperator op → n < right_level op → 0 ≤ operator_level op
    rises_none n op i h = omega arith

    no_middle : (d h room : ℕ) → d + h ≤ room → d + 0 ≤ room
    no_middle d h room a = omega (arith, a)

    -- one more operator without a middle
    operation_taken : (reach : Reach) (room : ℕ) (s : HeldScopes) (ts : List Lexeme) (row : OperandRow) (t : HeldScopes)
        (k : List Lexeme)
        → TakesRow reach room s ts row t k →
        (op : Operator) (p : Punct)
        → ((token : ℕ) (k : List Lexeme) → operator_text all op token k ≡ sign_text p token k) → operator_height op ≡ 0
        → ((s : HeldScopes) → operator_scopes op s ≡ Some s) →
        SettlesTo all room reach (operator_level op) (left_level op) row.waiting row.last
        (settled row (operator_level op)) → IsOperator op → IsMiddle all op → reach_level reach ≤ operator_level op →
        kind_at k ≡ kinds.Punct p → (x : Found OperandRow)
        → operation_with inner op (settled row (operator_level op)) room t k ≡ done x
        → TakesRow reach room s ts x.tree x.scopes x.rest
    operation_taken reach room s ts row t k h op p text high scopes settle is_op is_middle reached is x e =
        let r = fits_ok _ _ _ e in
        let a = bind_ok r.1 in
        let b = bind_ok a.2 in
        let o = took all (kinds.Punct p) t k a.0 h.left is a.1 in
        let i = cast_sound all numbered tokens n inner laws
        (room - depth_of (settled row (operator_level op))) a.0.scopes a.0.rest b.0 o.left b.1 in
        at_end (λ (x : Found OperandRow). TakesRow reach room s ts x.tree x.scopes x.rest) b.2
        (pushed reach room s ts row t k h op a.0.tree b.0.tree t b.0.scopes b.0.rest settle is_op is_middle reached r.0
        (subst (λ (m : ℕ). depth_of (settled row (operator_level op)) + m ≤ room) (sym high) (no_middle
        (depth_of (settled row (operator_level op))) (expr_height (settled row (operator_level op)).last) room r.0))
        (o.spelled ∙ ap (sign_text p a.0.tree) i.spelled ∙ sym (text a.0.tree (expr_text all b.0.tree b.0.rest)))
        (scopes t) (through (expr_scopes b.0.tree) o.same i.named refl) i.fits.0 i.fits.1 i.low i.left)

    question_taken : (reach : Reach) (room : ℕ) (s : HeldScopes) (ts : List Lexeme) (row : OperandRow) (t : HeldScopes)
        (k : List Lexeme)
        → TakesRow reach room s ts row t k → reach_level reach ≤ 2 →
        kind_at k ≡ kinds.Punct puncts.Question → (x : Found OperandRow)
        → question_with inner (settled row 2) room t k ≡ done x → TakesRow reach room s ts x.tree x.scopes x.rest
    question_taken reach room s ts row t k h reached is x e =
        let r = fits_ok _ _ _ e in
        let a = bind_ok r.1 in
        let b = bind_ok a.2 in
        let c = bind_ok b.2 in
        let d = bind_ok c.2 in
        let settle = settled_row reach room s ts row t k h 2 3 rises_cond (omega arith) in
        let o = took all (kinds.Punct puncts.Question) t k a.0 h.left is a.1 in
        let i = middle_sound (room - depth_of (settled row 2)) a.0.scopes a.0.rest b.0 o.left b.1 in
        let q = took_token all is_colon (kinds.Punct puncts.Colon) colon_kind b.0.scopes b.0.rest c.0 i.left c.1 in
        let j = cast_sound all numbered tokens n inner laws
        (room - depth_of (settled row 2)) c.0.scopes c.0.rest d.0 q.left d.1 in
        at_end (λ (x : Found OperandRow). TakesRow reach room s ts x.tree x.scopes x.rest) d.2
        (pushed reach room s ts row t k h
        (cond b.0.tree c.0.tree) a.0.tree d.0.tree c.0.scopes d.0.scopes d.0.rest settle tt i.fits reached r.0
        (middle_low (depth_of (settled row 2)) (some_expr_height b.0.tree)
        (expr_height (settled row 2).last) room r.0 i.low)
        (o.spelled ∙ ap (sign_text puncts.Question a.0.tree) (i.spelled
        ∙ ap (some_expr_text all b.0.tree) (q.spelled ∙ ap (sign_text puncts.Colon c.0.tree) j.spelled)))
        (through (some_expr_scopes b.0.tree) o.same i.named q.same) j.named j.fits.0 j.fits.1 j.low j.left)
      where
        middle_low : (d m h room : ℕ) → d + h ≤ room → m ≤ room - d → d + m ≤ room
        middle_low d m h room a b = omega (arith, a, b)

    row_reach : (reach : Reach) → is_row reach ≡ true → reach_level reach ≤ 2
    row_reach Whole is = omega arith
    row_reach Assigned is = omega arith
    row_reach Conditional is = omega arith
    row_reach Castable is = absurd cc
    row_reach Unary is = absurd cc

    comma_reach : (reach : Reach) → takes_comma reach ≡ true → reach_level reach ≤ 0
    comma_reach Whole is = omega arith
    comma_reach Assigned is = absurd cc
    comma_reach Conditional is = absurd cc
    comma_reach Castable is = absurd cc
    comma_reach Unary is = absurd cc

    assign_reach : (reach : Reach) → takes_assign reach ≡ true → reach_level reach ≤ 1
    assign_reach Whole is = omega arith
    assign_reach Assigned is = omega arith
    assign_reach Conditional is = absurd cc
    assign_reach Castable is = absurd cc
    assign_reach Unary is = absurd cc

    binary_reach : (m k : ℕ) → m ≤ 2 → m ≤ k + 2
    binary_reach m k h = omega (arith, h)

    -- one more operator
    operation_turn_taken : (reach : Reach) → is_row reach ≡ true
        → (room : ℕ) (s : HeldScopes) (ts : List Lexeme) (row : OperandRow) (t : HeldScopes) (k : List Lexeme)
        (x : Found OperandRow)
        → TakesRow reach room s ts row t k →
        operation_turn inner reach room row t k ≡ Some (done x) → TakesRow reach room s ts x.tree x.scopes x.rest
    operation_turn_taken reach rows room s ts row t k x h e = by_infix (infix_of (kind_at k)) (infix_is (kind_at k)) e
      where
        by_infix : (f : Infix) → IsInfix f (kind_at k) → operation_by inner reach room f row t k ≡ Some (done x)
            → TakesRow reach room s ts x.tree x.scopes x.rest
        by_infix infixes.Comma is e = if_ok (takes_comma reach) e (λ takes e.
            operation_taken reach room s ts row t k h comma puncts.Comma (λ token k. refl) refl (λ s. refl)
            (settled_row reach room s ts row t k h 0 0 (rises_none 0) (omega arith)) tt tt
            (comma_reach reach takes) is x (some_is all tokens n inner laws e)) (λ takes e. absurd cc)
        by_infix (infixes.Assign p) is e =
            if_ok (nat_le 14 (expr_level (settled row 1).last)) e (λ target e. if_ok (takes_assign reach) e (λ takes e.
            operation_taken reach room s ts row t k h (assign p) p (λ token k. refl) refl (λ s. refl)
            (with_target (settled_row reach room s ts row t k h 1 0 (rises_none 1) (omega arith))
            (leb-true 14 (expr_level (settled row 1).last) target)) is.1 tt (assign_reach reach takes) is.0 x
            (some_is all tokens n inner laws e)) (λ takes e. absurd cc)) (λ target e. absurd cc)
          where
            with_target : SettlesTo all room reach 1 0 row.waiting row.last (settled row 1)
                → 14 ≤ expr_level (settled row 1).last
                → SettlesTo all room reach 1 14 row.waiting row.last (settled row 1)
            with_target w target = record {
              same_text = w.same_text;
              same_scopes = w.same_scopes;
              stack = w.stack;
              fits = w.fits;
              accepts = w.accepts;
              level = target;
              reaches = w.reaches;
              stack_low = w.stack_low;
              low = w.low;
            }
        by_infix infixes.Question is e =
            question_taken reach room s ts row t k h (row_reach reach rows) is x (some_is all tokens n inner laws e)
        by_infix (infixes.Binary p) is e =
            operation_taken reach room s ts row t k h (binary p) p (λ token k. refl) refl (λ s. refl)
            (settled_row reach room s ts row t k h (binary_level p + 2) (binary_level p + 2) (rises_binary p)
            (small p)) is.1 tt (binary_reach (reach_level reach) (binary_level p) (row_reach reach rows)) is.0 x
            (some_is all tokens n inner laws e)
          where
            small : (p : Punct) → binary_level p + 2 ≤ 13
            small p = let r : right_level (binary p) ≤ 13 = right_most (binary p) in omega (arith, r)
        by_infix infixes.Nothing is e = absurd cc

    row_sound : (reach : Reach) (begun : Begun) (room : ℕ) → is_row reach ≡ true
        → (s : HeldScopes) (ts : List Lexeme) (x : Found Expr) → IsTail all ts
        → row_with inner reach begun room s ts ≡ done x →
        TakesBegun all reach begun room s ts x
    unfolding row_with
    row_sound reach begun room rows s ts x tail e =
        let a = bind_ok e in
        let b = bind_ok a.2 in
        let i = operand_sound begun room s ts a.0 tail a.1 in
        let r =
        run-keep (operation_turn inner reach room) (λ row t k. TakesRow reach room s (begun_text begun ts) row t k)
        (λ row t k x h e. operation_turn_taken reach rows room s (begun_text begun ts) row t k x h e)
        (record { waiting = bottom; last = a.0.tree }) a.0.scopes a.0.rest b.0
        (record {
          spelled = i.spelled;
          stack = tt;
          fits = i.fits;
          level = i.level;
          reaches = tt;
          named = i.named;
          stack_low = tt;
          low = from_zero (expr_height a.0.tree) room i.low;
          left = i.left;
        }) b.1 in
        at_end (TakesBegun all reach begun room s ts) b.2 (record {
          spelled = r.spelled ∙ sym (finished_text all b.0.tree.waiting b.0.tree.last b.0.rest);
          fits = (
            finished_fits all b.0.tree.waiting b.0.tree.last r.stack r.fits
                (accepts_cast b.0.tree.waiting (expr_level b.0.tree.last) r.level),
            finished_level all reach b.0.tree.waiting b.0.tree.last r.reaches
                (row_level (reach_level reach) (expr_level b.0.tree.last) (row_reach reach rows) r.level),
          );
          named = finished_scopes all b.0.tree.waiting b.0.tree.last s ∙ r.named;
          low = finished_low all room b.0.tree.waiting b.0.tree.last r.stack_low r.low;
          left = r.left;
        })
      where
        from_zero : (h room : ℕ) → h ≤ room → 0 + h ≤ room
        from_zero h room a = omega (arith, a)

        row_level : (m k : ℕ) → m ≤ 2 → 13 ≤ k → m ≤ k
        row_level m k a b = omega (arith, a, b)

    plain : (reach : Reach) (room : ℕ) (s : HeldScopes) (ts : List Lexeme) (x : Found Expr)
        → TakesBegun all reach nothing room s ts x → Takes all (expr_form all reach) room s ts x
    plain reach room s ts x h =
        record { spelled = h.spelled; fits = h.fits; named = h.named; low = h.low; left = h.left }

    pub expr_sound : (reach : Reach) (room : ℕ)
        → IsSound all (expr_form all reach) room (expr_with inner reach nothing room)
    unfolding expr_with operand_with
    expr_sound Whole room s ts x tail e = plain Whole room s ts x (row_sound Whole nothing room refl s ts x tail e)
    expr_sound Assigned room s ts x tail e =
        plain Assigned room s ts x (row_sound Assigned nothing room refl s ts x tail e)
    expr_sound Conditional room s ts x tail e =
        plain Conditional room s ts x (row_sound Conditional nothing room refl s ts x tail e)
    expr_sound Castable room s ts x tail e = cast_sound all numbered tokens n inner laws room s ts x tail e
    expr_sound Unary room s ts x tail e = unary_sound all numbered tokens n inner laws room s ts x tail e

    pub expr_begun_sound : (reach : Reach) (begun : Begun) (room : ℕ) → is_row reach ≡ true
        → (s : HeldScopes) (ts : List Lexeme) (x : Found Expr) → IsTail all ts
        → expr_with inner reach begun room s ts ≡ done x →
        TakesBegun all reach begun room s ts x
    unfolding expr_with
    expr_begun_sound Whole begun room rows s ts x tail e = row_sound Whole begun room refl s ts x tail e
    expr_begun_sound Assigned begun room rows s ts x tail e = row_sound Assigned begun room refl s ts x tail e
    expr_begun_sound Conditional begun room rows s ts x tail e = row_sound Conditional begun room refl s ts x tail e
    expr_begun_sound Castable begun room rows s ts x tail e = absurd cc
    expr_begun_sound Unary begun room rows s ts x tail e = absurd cc
