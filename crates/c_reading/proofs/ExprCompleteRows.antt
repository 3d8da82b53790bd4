-- Operands and operators are read from their text.
use Rattle.std.proofs.Common.{◌≡◌, ℕ, suc, ◌<◌, ◌≤◌, Bool, true, false, List, [], ◌∷◌, length, Option, Some, None, Result, Ok, Err, refl, sym, ◌∙◌, ap, subst, arith}
use Rattle.std.specs.Prelude.{◌+◌, ◌-◌, max, nat_le, if◌then◌else◌}
use Rattle.std.proofs.lemmas.Bool.{le-leb, leb-false, leb-true}
use Rattle.qual_base.proofs.Tests.{and_second, and_first}
use Rattle.c_words.specs.declared.kinds.TokenKind.TheVariants as kinds
use Rattle.c_words.specs.declared.kinds.Punct.{Punct}
use Rattle.c_words.specs.declared.kinds.Punct.TheVariants as puncts
use Rattle.c_tree.specs.declared.lexeme.Lexeme.{Lexeme}
use Rattle.c_tree.specs.Tree.{Expr, operation, prefix, extension, index, Operator, comma, assign, cond, binary, SomeExpr, no_expr, some_expr}
use Rattle.c_tree.specs.Text.{sign_text, expr_text, operator_text, some_expr_text}
use Rattle.c_tree.specs.Height.{expr_height, operator_height, some_expr_height}
use Rattle.c_tree.specs.Levels.{IsOperator, binary_level, is_assignment, expr_level, operator_level, left_level, right_level}
use Rattle.c_tree.specs.WellFormed.{IsExpr, IsMiddle, IsSomeExpr, prefix_level}
use Rattle.c_ops.specs.Joining.{Left, Stack, bottom, above, Accepts, Settled, settle_of, finished}
use Rattle.c_ops.proofs.Levels.{level_most, level_left, level_right}
use Rattle.c_units.specs.HeldScopes.{HeldScopes}
use Rattle.c_units.specs.Scoping.{behind, expr_scopes, operator_scopes, some_expr_scopes}
use Rattle.c_reading.specs.declared.kinds.Reach.{Reach}
use Rattle.c_reading.specs.declared.kinds.Reach.TheVariants.{Whole, Assigned, Conditional, Castable, Unary}
use Rattle.c_reading.specs.declared.kinds.Infix.{Infix}
use Rattle.c_reading.specs.declared.kinds.Infix.TheVariants as infixes
use Rattle.c_reading.specs.Reading.{Refusal, Found, Read, and_then, ends, kind_at, run, IsNumbered}
use Rattle.c_reading.specs.Parts.{Inner, Begun, nothing, extensions, star}
use Rattle.c_reading.specs.Expressing.{infix_of, binary_or_nothing, takes_comma, takes_assign, OperandRow, how_many, settled, with_operand, extended, cast_with, operand_with, operation_with, middle_with, question_with, operation_by, operation_turn, row_with, expr_with}
use Rattle.c_reading.proofs.Binding.{found, done, bind_is, fits_is}
use Rattle.c_reading.proofs.Loops.{run_is, run_ends, after}
use Rattle.c_reading.proofs.Forms.{IsComplete, behind_ok}
use Rattle.c_reading.proofs.KindFacts.{expr_no_colon}
use Rattle.c_reading.proofs.Aims.{reach_level, is_row, ends_before, ends_unary, ends_expr, expr_form, exts_begin, star_begins, IsBegun, behind_exts, behind_star, behind_begun, TokenLaws, FirstLaws, Laws}
use Rattle.c_reading.proofs.ExprFalls.{operation_turn_shrinks}
use Rattle.c_reading.proofs.ExprStacks.{settle_stays, settle_joins}
use Rattle.c_reading.proofs.ExprCompleteUnary.{cast_read, tight_unary}

-- the operands and operators of a tree behind others that wait
abbrev pub spread : Stack → Expr → OperandRow
spread w (operation e op token e2) = spread (above w (record { tree = e; operator = op; token = token })) e2
spread w e = record { waiting = w; last = e }

-- a tree spread into operands and operators that wait becomes the same when all are joined
pub spread_finished : (w : Stack) (e : Expr) → finished (spread w e).waiting (spread w e).last ≡ finished w e
spread_finished w (operation e op token e2) =
    spread_finished (above w (record { tree = e; operator = op; token = token })) e2
spread_finished w (index e opening e2 closing) = refl
spread_finished w e = refl

-- all operators on the right side of a tree end before one of a level
abbrev pub Tight : ℕ → Expr → Type 0
Tight n (operation e op token e2) = (n < right_level op) × Tight n e2
Tight n e = Unit {0}

-- a number that is greater than another is not at most that one
not_le : (a b : ℕ) → a < b → nat_le b a ≡ false
not_le a b h = by_test (nat_le b a) refl
  where
    by_test : (t : Bool) → nat_le b a ≡ t → nat_le b a ≡ false
    by_test false is = is
    by_test true is = absurd (let less : b ≤ a = leb-true b a is in omega (arith, h, less))

-- a spread tree whose right side ends before a level is joined again where what waits settles for that level
spread_settles : (n : ℕ) (w : Stack) (e : Expr) → Tight n e → settled (spread w e) n ≡ settle_of n w e
spread_settles n w (operation e op token e2) h =
    spread_settles n (above w (record { tree = e; operator = op; token = token })) e2 h.1
    ∙ settle_joins n w (record { tree = e; operator = op; token = token }) e2 (not_le n (right_level op) h.0)
spread_settles n w (index e opening e2 closing) h = refl
spread_settles n w e h = refl

settle_at : (n : ℕ) (w : Stack) (e : Expr) → Accepts w n → settle_of n w e ≡ record { below = w; last = e }
settle_at n bottom e h = refl
settle_at n (above w l) e h = settle_stays n w l e h

pub spread_back : (n : ℕ) (w : Stack) (e : Expr) → Tight n e → Accepts w n
    → settled (spread w e) n ≡ record { below = w; last = e }
spread_back n w e h a = spread_settles n w e h ∙ settle_at n w e a

module _ (all : List Lexeme) where
  -- what a right side asks for goes up along it
  tight_right : (n m : ℕ) (e : Expr) → IsExpr all e → m ≤ expr_level e → n < m → Tight n e
  tight_right n m (operation e op token e2) h l less =
      let up : operator_level op ≤ right_level op = level_right op in
      (omega (arith, l, less, up), tight_right n (right_level op) e2 h.1 h.5 (omega (arith, l, less, up)))
  tight_right n m (index e opening e2 closing) h l less = tt
  tight_right n m e h l less = tt

  -- the left side of an operator ends before it
  tight_left : (op : Operator) (e : Expr) → IsOperator op → IsExpr all e → left_level op ≤ expr_level e
      → Tight (operator_level op) e
  tight_left op (operation e op2 token e2) i h l =
      let more = above_left op op2 i h.2 l in
      (more, tight_right (operator_level op) (right_level op2) e2 h.1 h.5 more)
    where
      above_left : (op op2 : Operator) → IsOperator op → IsOperator op2 → left_level op ≤ operator_level op2
          → operator_level op < right_level op2
      above_left comma comma i j l = omega arith
      above_left comma (assign p) i j l = omega arith
      above_left comma (cond middle colon) i j l = omega arith
      above_left comma (binary p) i j l = omega arith
      above_left (assign p) op2 i j l = absurd (let t : operator_level op2 ≤ 12 = level_most op2 in omega (arith, t, l))
      above_left (cond middle colon) comma i j l = absurd (omega (arith, l))
      above_left (cond middle colon) (assign p) i j l = absurd (omega (arith, l))
      above_left (cond middle colon) (cond middle2 colon2) i j l = absurd (omega (arith, l))
      above_left (cond middle colon) (binary p) i j l = omega (arith, l)
      above_left (binary p) comma i j l = absurd (omega (arith, l))
      above_left (binary p) (assign q) i j l = absurd (omega (arith, l, i))
      above_left (binary p) (cond middle colon) i j l = absurd (omega (arith, l, i))
      above_left (binary p) (binary q) i j l = omega (arith, l)
  tight_left op (index e opening e2 closing) i h l = tt
  tight_left op e i h l = tt

accepts_up : (w : Stack) (n m : ℕ) → n ≤ m → Accepts w n → Accepts w m
accepts_up bottom n m h a = tt
accepts_up (above w l) n m h a = omega (arith, h, a)

-- the sign of an operator goes on with no operand
binary_ends : (p : Punct) → 1 ≤ binary_level p → ends_unary (kinds.Punct p) ≡ true
binary_ends puncts.OpenBracket h = absurd (omega (arith, h))
binary_ends puncts.OpenParen h = absurd (omega (arith, h))
binary_ends puncts.Dot h = absurd (omega (arith, h))
binary_ends puncts.Arrow h = absurd (omega (arith, h))
binary_ends puncts.PlusPlus h = absurd (omega (arith, h))
binary_ends puncts.MinusMinus h = absurd (omega (arith, h))
binary_ends puncts.OpenBrace h = absurd (omega (arith, h))
binary_ends p h = refl

-- an assignment sign ends a unary form
assign_ends : (p : Punct) → is_assignment p ≡ true → ends_unary (kinds.Punct p) ≡ true
assign_ends puncts.OpenBracket h = absurd cc
assign_ends puncts.OpenParen h = absurd cc
assign_ends puncts.Dot h = absurd cc
assign_ends puncts.Arrow h = absurd cc
assign_ends puncts.PlusPlus h = absurd cc
assign_ends puncts.MinusMinus h = absurd cc
assign_ends puncts.OpenBrace h = absurd cc
assign_ends p h = refl

-- what a sign is between two operands
binary_infix : (p : Punct) → 1 ≤ binary_level p → infix_of (kinds.Punct p) ≡ infixes.Binary p
binary_infix puncts.BarBar h = refl
binary_infix puncts.AmpersandAmpersand h = refl
binary_infix puncts.Bar h = refl
binary_infix puncts.Caret h = refl
binary_infix puncts.Ampersand h = refl
binary_infix puncts.EqualEqual h = refl
binary_infix puncts.BangEqual h = refl
binary_infix puncts.Less h = refl
binary_infix puncts.Greater h = refl
binary_infix puncts.LessEqual h = refl
binary_infix puncts.GreaterEqual h = refl
binary_infix puncts.ShiftLeft h = refl
binary_infix puncts.ShiftRight h = refl
binary_infix puncts.Plus h = refl
binary_infix puncts.Minus h = refl
binary_infix puncts.Star h = refl
binary_infix puncts.Slash h = refl
binary_infix puncts.Percent h = refl
binary_infix p h = absurd (omega (arith, h))

-- an assignment sign is an infix sign of assignment
assign_infix : (p : Punct) → is_assignment p ≡ true → infix_of (kinds.Punct p) ≡ infixes.Assign p
assign_infix puncts.Comma h = absurd cc
assign_infix puncts.Question h = absurd cc
assign_infix p h = by_test (is_assignment p) h
  where
    by_test : (b : Bool) → b ≡ true
        → (if b then infixes.Assign p else binary_or_nothing p (binary_level p)) ≡ infixes.Assign p
    by_test true e = refl
    by_test false e = absurd cc

-- steps behind steps
then_then : {B : Type 0} (r : Read Expr) (row : Expr → OperandRow) (g : Found OperandRow → Result B Refusal) →
    and_then (and_then r (λ e. ends (row e.tree) e.scopes e.rest)) g
    ≡ and_then r (λ e. g (found (row e.tree) e.scopes e.rest))
unfolding and_then
then_then (Ok x) row g = refl
then_then (Err d) row g = refl

then_done : {A B : Type 0} (x : A) (f : A → Result B Refusal) → and_then (done x) f ≡ f x
unfolding and_then
then_done x f = refl

then_all : (r : Read Expr) (f : Found Expr → Read OperandRow) (g : Found OperandRow → Read Expr)
    → and_then r (λ e. and_then (f e) g) ≡ and_then (and_then r f) g
unfolding and_then
then_all (Ok x) f g = refl
then_all (Err d) f g = refl

-- a reach of level 0 takes commas
takes_of_comma : (reach : Reach) → reach_level reach ≤ 0 → takes_comma reach ≡ true
takes_of_comma Whole h = refl
takes_of_comma Assigned h = absurd (omega (arith, h))
takes_of_comma Conditional h = absurd (omega (arith, h))
takes_of_comma Castable h = absurd (omega (arith, h))
takes_of_comma Unary h = absurd (omega (arith, h))

-- a reach of level 1 or lower takes assignments
takes_of_assign : (reach : Reach) → reach_level reach ≤ 1 → takes_assign reach ≡ true
takes_of_assign Whole h = refl
takes_of_assign Assigned h = refl
takes_of_assign Conditional h = absurd (omega (arith, h))
takes_of_assign Castable h = absurd (omega (arith, h))
takes_of_assign Unary h = absurd (omega (arith, h))

module _ (all : List Lexeme) (numbered : IsNumbered all) (tokens : TokenLaws all) (firsts : FirstLaws all) (n : ℕ)
    (inner : Inner) (laws : Laws all n inner) where
  operator_ends : (op : Operator) (token : ℕ) (k : List Lexeme) → IsOperator op
      → ends_unary (kind_at (operator_text all op token k)) ≡ true
  operator_ends comma token k h = refl
  operator_ends (assign p) token k h = assign_ends p h
  operator_ends (cond middle colon) token k h = refl
  operator_ends (binary p) token k h = binary_ends p h

  middle_read : (room : ℕ) → room < n → (e : SomeExpr) (s s' : HeldScopes) (colon : ℕ) (k : List Lexeme)
      → IsSomeExpr all e → some_expr_scopes e s ≡ Some s' → some_expr_height e ≤ room →
      middle_with inner room s (some_expr_text all e (sign_text puncts.Colon colon k))
      ≡ done (found e s' (sign_text puncts.Colon colon k))
  unfolding middle_with
  middle_read room less no_expr s s' colon k h named low =
      ap (λ (o : Option HeldScopes). done (found no_expr (from o) (sign_text puncts.Colon colon k))) named
    where
      from : Option HeldScopes → HeldScopes
      from None = s
      from (Some t) = t
  middle_read room less (some_expr e) s s' colon k h named low =
      let begun = firsts.expr_begins e s s' (sign_text puncts.Colon colon k) h named in
      rw (expr_no_colon s (kind_at (expr_text all e (sign_text puncts.Colon colon k))) begun)
      (bind_is _ (laws.exprs.complete Whole room less e s s' (sign_text puncts.Colon colon k)
      (h, omega arith) named low refl) refl)

  module _ (reach : Reach) (room : ℕ) where
    abbrev goes : OperandRow → HeldScopes → List Lexeme → Read OperandRow
    goes row s ts = run (operation_turn inner reach room) row s ts

    -- an operand behind those that wait, and all that goes on from there
    abbrev goes_from : Stack → HeldScopes → List Lexeme → Read OperandRow
    goes_from w s ts =
        and_then (cast_with inner (room - how_many w) s ts)
        (λ x. goes (record { waiting = w; last = x.tree }) x.scopes x.rest)

    some_goes : (row : OperandRow) (s : HeldScopes) (ts : List Lexeme) (read : Read OperandRow)
        → operation_turn inner reach room row s ts ≡ Some read
        → goes row s ts ≡ and_then read (λ x. goes x.tree x.scopes x.rest)
    some_goes row s ts read is =
        run_is (operation_turn inner reach room) (operation_turn_shrinks all tokens n inner laws reach room) row s ts
        ∙ ap (λ (o : Option (Read OperandRow)). after o row s ts (run (operation_turn inner reach room))) is

    -- an operator without a middle
    operation_goes : (op : Operator) (w : Stack) (a : Expr) (token : ℕ) (s : HeldScopes) (p : Punct) (k : List Lexeme)
        → suc (how_many w) + expr_height a ≤ room →
        and_then (operation_with inner op (record { below = w; last = a }) room s (sign_text p token k))
        (λ x. goes x.tree x.scopes x.rest) ≡ goes_from (above w (record { tree = a; operator = op; token = token })) s k
    operation_goes op w a token s p k low =
        ap (λ (r : Read OperandRow). and_then r (λ x. goes x.tree x.scopes x.rest))
        (fits_is (suc (how_many w) + expr_height a) room (sign_text p token k) _ low ∙
        then_done (found token s k) (λ t. and_then (cast_with inner (room - suc (how_many w)) t.scopes t.rest)
        (λ e. ends (with_operand (record { below = w; last = a }) op t.tree e.tree) e.scopes e.rest))) ∙
        then_then (cast_with inner (room - suc (how_many w)) s k)
        (λ e. with_operand (record { below = w; last = a }) op token e) (λ x. goes x.tree x.scopes x.rest)

    question_goes : (middle : SomeExpr) (colon : ℕ) (w : Stack) (a : Expr) (token : ℕ) (s t : HeldScopes)
        (k : List Lexeme)
        → suc (how_many w) + expr_height a ≤ room → IsSomeExpr all middle → some_expr_scopes middle s ≡ Some t →
        some_expr_height middle ≤ room - suc (how_many w) → room - suc (how_many w) < n →
        and_then (question_with inner (record { below = w; last = a }) room s (sign_text puncts.Question token
        (some_expr_text all middle (sign_text puncts.Colon colon k)))) (λ x. goes x.tree x.scopes x.rest) ≡
        goes_from (above w (record { tree = a; operator = cond middle colon; token = token })) t k
    question_goes middle colon w a token s t k low h named high less =
        ap (λ (r : Read OperandRow). and_then r (λ x. goes x.tree x.scopes x.rest))
        (fits_is (suc (how_many w) + expr_height a) room
        (sign_text puncts.Question token (some_expr_text all middle (sign_text puncts.Colon colon k))) _ low ∙
        bind_is _ refl (bind_is _ (middle_read (room - suc (how_many w)) less middle s t colon k h named high)
        (then_done (found colon t k) (λ c. and_then (cast_with inner (room - suc (how_many w)) c.scopes c.rest) (λ e.
        ends (with_operand (record { below = w; last = a }) (cond middle c.tree) token e.tree) e.scopes e.rest))))) ∙
        then_then (cast_with inner (room - suc (how_many w)) t k) (λ e. with_operand (record { below = w; last = a })
        (cond middle colon) token e) (λ x. goes x.tree x.scopes x.rest)

    -- behind a left side its operator is taken, and the right side is read next
    step_on : (op : Operator) (w : Stack) (a : Expr) (token : ℕ) (s t : HeldScopes) (k : List Lexeme) → IsOperator op
        → IsMiddle all op → IsExpr all a → left_level op ≤ expr_level a → Accepts w (operator_level op) →
        reach_level reach ≤ operator_level op → operator_scopes op s ≡ Some t → suc (how_many w) + expr_height a ≤ room
        → suc (how_many w) + operator_height op ≤ room → room ≤ n → 1 ≤ room →
        goes (spread w a) s (operator_text all op token k)
        ≡ goes_from (above w (record { tree = a; operator = op; token = token })) t k
    step_on comma w a token s t k i m h l acc reached named low high less some_room =
        let back = spread_back 0 w a (tight_left all comma a i h l) acc in
        some_goes (spread w a) s (sign_text puncts.Comma token k) (operation_with inner comma
        (settled (spread w a) 0) room s (sign_text puncts.Comma token k)) (rw (takes_of_comma reach reached) refl) ∙
        ap (λ (left : Settled). and_then (operation_with inner comma left room s (sign_text puncts.Comma token k))
        (λ x. goes x.tree x.scopes x.rest)) back ∙
        operation_goes comma w a token s puncts.Comma k low ∙ ap (λ (o : Option HeldScopes). goes_from
        (above w (record { tree = a; operator = comma; token = token })) (from o) k) named
      where
        from : Option HeldScopes → HeldScopes
        from None = s
        from (Some t) = t
    step_on (assign p) w a token s t k i m h l acc reached named low high less some_room =
        let back = spread_back 1 w a (tight_left all (assign p) a i h l) acc in
        some_goes (spread w a) s (sign_text p token k)
        (operation_with inner (assign p) (settled (spread w a) 1) room s (sign_text p token k))
        (ap (λ (f : Infix). operation_by inner reach room f (spread w a) s (sign_text p token k))
        (assign_infix p i) ∙ rw (
          ap (λ (left : Settled). nat_le 14 (expr_level left.last)) back ∙ le-leb 14 (expr_level a) l,
          takes_of_assign reach reached,
        ) refl) ∙
        ap (λ (left : Settled). and_then (operation_with inner (assign p) left room s (sign_text p token k))
        (λ x. goes x.tree x.scopes x.rest)) back ∙
        operation_goes (assign p) w a token s p k low ∙ ap (λ (o : Option HeldScopes). goes_from
        (above w (record { tree = a; operator = assign p; token = token })) (from o) k) named
      where
        from : Option HeldScopes → HeldScopes
        from None = s
        from (Some t) = t
    step_on (cond middle colon) w a token s t k i m h l acc reached named low high less some_room =
        let back = spread_back 2 w a (tight_left all (cond middle colon) a i h l) acc in
        some_goes (spread w a) s
        (sign_text puncts.Question token (some_expr_text all middle (sign_text puncts.Colon colon k)))
        (question_with inner (settled (spread w a) 2) room s
        (sign_text puncts.Question token (some_expr_text all middle (sign_text puncts.Colon colon k)))) refl ∙
        ap (λ (left : Settled). and_then (question_with inner left room s (sign_text puncts.Question token
        (some_expr_text all middle (sign_text puncts.Colon colon k)))) (λ x. goes x.tree x.scopes x.rest)) back ∙
        question_goes middle colon w a token s t k low m named
        (middle_low (how_many w) (some_expr_height middle) room high) (middle_less (how_many w) room n less some_room)
      where
        middle_low : (d h room : ℕ) → suc d + h ≤ room → h ≤ room - suc d
        middle_low d h room a = omega (arith, a)

        middle_less : (d room n : ℕ) → room ≤ n → 1 ≤ room → room - suc d < n
        middle_less d room n a b = omega (arith, a, b)
    step_on (binary p) w a token s t k i m h l acc reached named low high less some_room =
        let back = spread_back (binary_level p + 2) w a (tight_left all (binary p) a i h l) acc in
        some_goes (spread w a) s (sign_text p token k)
        (operation_with inner (binary p) (settled (spread w a) (binary_level p + 2)) room s (sign_text p token k))
        (ap (λ (f : Infix). operation_by inner reach room f (spread w a) s (sign_text p token k)) (binary_infix p i)) ∙
        ap (λ (left : Settled). and_then (operation_with inner (binary p) left room s (sign_text p token k))
        (λ x. goes x.tree x.scopes x.rest)) back ∙
        operation_goes (binary p) w a token s p k low ∙ ap (λ (o : Option HeldScopes). goes_from
        (above w (record { tree = a; operator = binary p; token = token })) (from o) k) named
      where
        from : Option HeldScopes → HeldScopes
        from None = s
        from (Some t) = t

    -- sums of heights
    left_low : (d a o b room : ℕ) → d + (max a (max o b) + 1) ≤ room → suc d + a ≤ room
    left_low d a o b room h = omega (arith, h)

    mid_low : (d a o b room : ℕ) → d + (max a (max o b) + 1) ≤ room → suc d + o ≤ room
    mid_low d a o b room h = omega (arith, h)

    right_low : (d a o b room : ℕ) → d + (max a (max o b) + 1) ≤ room → suc d + b ≤ room
    right_low d a o b room h = omega (arith, h)

    left_part : (d a o b room : ℕ) → d + (max a (max o b) + 1) ≤ room → d + a ≤ room
    left_part d a o b room h = omega (arith, h)

    some_low : (d a o b room : ℕ) → d + (max a (max o b) + 1) ≤ room → 1 ≤ room
    some_low d a o b room h = omega (arith, h)

    rest_low : (d h room : ℕ) → d + h ≤ room → h ≤ room - d
    rest_low d h room a = omega (arith, a)

    rest_less : (d room n : ℕ) → room ≤ n → room - d ≤ n
    rest_less d room n a = omega (arith, a)

    up_through : (a b c : ℕ) → a ≤ b → b ≤ c → a ≤ c
    up_through a b c p q = omega (arith, p, q)

    rows_read : room ≤ n → (e : Expr) (w : Stack) (s s' : HeldScopes) (k : List Lexeme) → IsExpr all e
        → expr_scopes e s ≡ Some s' → how_many w + expr_height e ≤ room → Accepts w (expr_level e)
        → reach_level reach ≤ expr_level e →
        reach_level reach ≤ 2 → ends_unary (kind_at k) ≡ true
        → goes_from w s (expr_text all e k) ≡ goes (spread w e) s' k
    rows_read less (operation a op token b) w s s' k h named low acc reached small ended =
        let p = behind_ok (behind (expr_scopes a s) (operator_scopes op)) (expr_scopes b) s' named in
        let q = behind_ok (expr_scopes a s) (operator_scopes op) p.0 p.1 in
        let l : Left = record { tree = a; operator = op; token = token } in
        rows_read less a w s q.0 (operator_text all op token (expr_text all b k)) h.0 q.1
        (left_part (how_many w) (expr_height a) (operator_height op) (expr_height b) room low)
        (accepts_up w (operator_level op) (expr_level a)
        (up_through (operator_level op) (left_level op) (expr_level a) (level_left op) h.4) acc)
        (up_through (reach_level reach) (operator_level op) (expr_level a) reached (up_through (operator_level op)
        (left_level op) (expr_level a) (level_left op) h.4)) small (operator_ends op token (expr_text all b k) h.2) ∙
        step_on op w a token q.0 p.0 (expr_text all b k) h.2 h.3 h.0 h.4 acc reached q.2
        (left_low (how_many w) (expr_height a) (operator_height op) (expr_height b) room low)
        (mid_low (how_many w) (expr_height a) (operator_height op) (expr_height b) room low) less
        (some_low (how_many w) (expr_height a) (operator_height op) (expr_height b) room low) ∙
        rows_read less b (above w l) p.0 s' k h.1 p.2
        (right_low (how_many w) (expr_height a) (operator_height op) (expr_height b) room low) h.5
        (up_through (reach_level reach) (operator_level op) (expr_level b) reached
        (up_through (operator_level op) (right_level op) (expr_level b) (level_right op) h.5)) small ended
    rows_read less (index e opening e2 closing) w s s' k h named low acc reached small ended =
        bind_is _ (cast_read all numbered tokens firsts n inner laws (room - how_many w)
        (rest_less (how_many w) room n less) (index e opening e2 closing) s s' k h (omega arith) named
        (rest_low (how_many w) (expr_height (index e opening e2 closing)) room low) ended) refl
    rows_read less e w s s' k h named low acc reached small ended =
        bind_is _ (cast_read all numbered tokens firsts n inner laws (room - how_many w)
        (rest_less (how_many w) room n less) e s s' k h (omega arith) named
        (rest_low (how_many w) (expr_height e) room low) ended) refl

    -- the loop ends before what does not go on with the reach
    goes_ends : (row : OperandRow) (s : HeldScopes) (k : List Lexeme) → is_row reach ≡ true
        → ends_before reach (infix_of (kind_at k)) ≡ true → goes row s k ≡ done (found row s k)
    goes_ends row s k rows ended =
        run_ends (operation_turn inner reach room) (operation_turn_shrinks all tokens n inner laws reach room) row s k
        (by_infix (infix_of (kind_at k)) reach rows ended)
      where
        by_infix : (f : Infix) (reach : Reach) → is_row reach ≡ true → ends_before reach f ≡ true
            → operation_by inner reach room f row s k ≡ None
        by_infix infixes.Nothing reach rows e = refl
        by_infix infixes.Comma Whole rows e = absurd cc
        by_infix infixes.Comma Assigned rows e = refl
        by_infix infixes.Comma Conditional rows e = refl
        by_infix infixes.Comma Castable rows e = absurd cc
        by_infix infixes.Comma Unary rows e = absurd cc
        by_infix (infixes.Assign p) Whole rows e = absurd cc
        by_infix (infixes.Assign p) Assigned rows e = absurd cc
        by_infix (infixes.Assign p) Conditional rows e = absurd cc
        by_infix (infixes.Assign p) Castable rows e = absurd cc
        by_infix (infixes.Assign p) Unary rows e = absurd cc
        by_infix infixes.Question Whole rows e = absurd cc
        by_infix infixes.Question Assigned rows e = absurd cc
        by_infix infixes.Question Conditional rows e = absurd cc
        by_infix infixes.Question Castable rows e = absurd cc
        by_infix infixes.Question Unary rows e = absurd cc
        by_infix (infixes.Binary p) Whole rows e = absurd cc
        by_infix (infixes.Binary p) Assigned rows e = absurd cc
        by_infix (infixes.Binary p) Conditional rows e = absurd cc
        by_infix (infixes.Binary p) Castable rows e = absurd cc
        by_infix (infixes.Binary p) Unary rows e = absurd cc

    -- a first operand of which `__extension__` was read already
    record IsExtended (numbers : List ℕ) (e : Expr) (s s' : HeldScopes) (k : List Lexeme) : Type 0 where
      inside : Expr
      is : extended numbers inside ≡ e
      same_text : behind_exts all numbers e k ≡ expr_text all inside k
      fits : IsExpr all inside
      level : 13 ≤ expr_level inside
      named : expr_scopes inside s ≡ Some s'
      high : expr_height e ≡ length numbers + expr_height inside

    extended_of : (numbers : List ℕ) (e : Expr) (s s' : HeldScopes) (k : List Lexeme) → exts_begin numbers e
        → IsExpr all e → 13 ≤ expr_level e → expr_scopes e s ≡ Some s' → IsExtended numbers e s s' k
    extended_of numbers (operation e op token e2) s s' k b h l named =
        absurd (let t : operator_level op ≤ 12 = level_most op in omega (arith, t, l))
    extended_of [] (extension keyword e) s s' k b h l named = record {
      inside = extension keyword e;
      is = refl;
      same_text = refl;
      fits = h;
      level = l;
      named = named;
      high = omega arith;
    }
    extended_of (token ∷ numbers) (extension keyword e) s s' k b h l named =
        let i = extended_of numbers e s s' k b.1 h.0 h.1 named in
        record {
          inside = i.inside;
          is = ap (λ (token : ℕ). extension token (extended numbers i.inside)) b.0 ∙ ap (extension keyword) i.is;
          same_text = i.same_text;
          fits = i.fits;
          level = i.level;
          named = i.named;
          high = sum_one (expr_height e) (length numbers) (expr_height i.inside) i.high;
        }
      where
        sum_one : (h n m : ℕ) → h ≡ n + m → h + 1 ≡ suc n + m
        sum_one h n m e = omega (arith, e)
    extended_of [] e s s' k b h l named =
        record { inside = e; is = refl; same_text = refl; fits = h; level = l; named = named; high = omega arith }
    extended_of (token ∷ numbers) e s s' k b h l named = absurd b

    -- a first operand of which a star was read already
    record IsStarred (token : ℕ) (e : Expr) (s s' : HeldScopes) (k : List Lexeme) : Type 0 where
      inside : Expr
      is : prefix token puncts.Star inside ≡ e
      same_text : behind_star all e k ≡ expr_text all inside k
      fits : IsExpr all inside
      level : 13 ≤ expr_level inside
      named : expr_scopes inside s ≡ Some s'
      high : expr_height e ≡ expr_height inside + 1

    starred_of : (token : ℕ) (e : Expr) (s s' : HeldScopes) (k : List Lexeme) → star_begins token e → IsExpr all e
        → 13 ≤ expr_level e → expr_scopes e s ≡ Some s' → IsStarred token e s s' k
    starred_of token (operation e op token2 e2) s s' k b h l named =
        absurd (let t : operator_level op ≤ 12 = level_most op in omega (arith, t, l))
    starred_of token (prefix token2 p e) s s' k b h l named =
        record {
          inside = e;
          is = ap (λ (token : ℕ). prefix token puncts.Star e) b.0 ∙ ap (λ (p : Punct). prefix token2 p e) (sym b.1);
          same_text = refl;
          fits = h.0;
          level = subst (λ (p : Punct). prefix_level p ≤ expr_level e) b.1 h.1;
          named = named;
          high = refl;
        }
    starred_of token e s s' k b h l named = absurd b

    -- what is left of a first operand is read, with all that was read of it
    operand_read : room ≤ n → (begun : Begun) (e : Expr) (s s' : HeldScopes) (k : List Lexeme) → IsBegun begun e
        → IsExpr all e → 13 ≤ expr_level e → expr_scopes e s ≡ Some s' → expr_height e ≤ room
        → ends_unary (kind_at k) ≡ true →
        operand_with inner begun room s (behind_begun all begun e k) ≡ done (found e s' k)
    unfolding operand_with
    operand_read less nothing e s s' k b h l named low ended =
        cast_read all numbered tokens firsts n inner laws room less e s s' k h l named low ended
    operand_read less (extensions numbers) e s s' k b h l named low ended =
        let i = extended_of numbers e s s' k b h l named in
        ap (λ (ts : List Lexeme). and_then (cast_with inner (room - length numbers) s ts)
        (λ x. ends (extended numbers x.tree) x.scopes x.rest)) i.same_text ∙
        bind_is _ (cast_read all numbered tokens firsts n inner laws (room - length numbers)
        (rest_less (length numbers) room n less) i.inside s s' k i.fits i.level i.named
        (part_low (expr_height e) (length numbers) (expr_height i.inside) room i.high low) ended)
        (ap (λ (f : Expr). done (found f s' k)) i.is)
      where
        part_low : (h n m room : ℕ) → h ≡ n + m → h ≤ room → m ≤ room - n
        part_low h n m room e a = omega (arith, e, a)
    operand_read less (star token) e s s' k b h l named low ended =
        let i = starred_of token e s s' k b h l named in
        ap (λ (ts : List Lexeme). and_then (cast_with inner (room - 1) s ts)
        (λ x. ends (prefix token puncts.Star x.tree) x.scopes x.rest)) i.same_text ∙
        bind_is _ (cast_read all numbered tokens firsts n inner laws (room - 1) (rest_less 1 room n less) i.inside s s'
        k i.fits i.level i.named (part_low (expr_height e) (expr_height i.inside) room i.high low) ended)
        (ap (λ (f : Expr). done (found f s' k)) i.is)
      where
        part_low : (h m room : ℕ) → h ≡ m + 1 → h ≤ room → m ≤ room - 1
        part_low h m room e a = omega (arith, e, a)

    abbrev begun_goes : Begun → HeldScopes → List Lexeme → Read OperandRow
    begun_goes begun s ts =
        and_then (operand_with inner begun room s ts)
        (λ x. goes (record { waiting = bottom; last = x.tree }) x.scopes x.rest)

    is_begun_left : (begun : Begun) (a b : Expr) (op : Operator) (token : ℕ) → IsBegun begun (operation a op token b)
        → IsBegun begun a
    is_begun_left nothing a b op token h = tt
    is_begun_left (extensions numbers) a b op token h = h
    is_begun_left (star token2) a b op token h = h

    begun_left : (begun : Begun) (a b : Expr) (op : Operator) (token : ℕ) (k : List Lexeme)
        → behind_begun all begun (operation a op token b) k
        ≡ behind_begun all begun a (operator_text all op token (expr_text all b k))
    begun_left nothing a b op token k = refl
    begun_left (extensions numbers) a b op token k = refl
    begun_left (star token2) a b op token k = refl

    begun_read : room ≤ n → (begun : Begun) (e : Expr) (s s' : HeldScopes) (k : List Lexeme) → IsBegun begun e
        → IsExpr all e → expr_scopes e s ≡ Some s' → expr_height e ≤ room → reach_level reach ≤ expr_level e
        → reach_level reach ≤ 2 →
        ends_unary (kind_at k) ≡ true → begun_goes begun s (behind_begun all begun e k) ≡ goes (spread bottom e) s' k
    begun_read less begun (operation a op token b) s s' k begins h named low reached small ended =
        let p = behind_ok (behind (expr_scopes a s) (operator_scopes op)) (expr_scopes b) s' named in
        let q = behind_ok (expr_scopes a s) (operator_scopes op) p.0 p.1 in
        let sum = from_zero (expr_height a) (operator_height op) (expr_height b) room low in
        ap (λ (ts : List Lexeme). begun_goes begun s ts) (begun_left begun a b op token k) ∙
        begun_read less begun a s q.0 (operator_text all op token (expr_text all b k))
        (is_begun_left begun a b op token begins) h.0 q.1
        (left_room (expr_height a) (operator_height op) (expr_height b) room low)
        (up_through (reach_level reach) (operator_level op) (expr_level a) reached (up_through (operator_level op)
        (left_level op) (expr_level a) (level_left op) h.4)) small (operator_ends op token (expr_text all b k) h.2) ∙
        step_on op bottom a token q.0 p.0 (expr_text all b k) h.2 h.3 h.0 h.4 tt reached q.2
        (left_low 0 (expr_height a) (operator_height op) (expr_height b) room sum)
        (mid_low 0 (expr_height a) (operator_height op) (expr_height b) room sum) less
        (some_low 0 (expr_height a) (operator_height op) (expr_height b) room sum) ∙
        rows_read less b (above bottom (record { tree = a; operator = op; token = token })) p.0 s' k h.1 p.2
        (right_low 0 (expr_height a) (operator_height op) (expr_height b) room sum) h.5
        (up_through (reach_level reach) (operator_level op) (expr_level b) reached
        (up_through (operator_level op) (right_level op) (expr_level b) (level_right op) h.5)) small ended
      where
        from_zero : (a o b room : ℕ) → max a (max o b) + 1 ≤ room → 0 + (max a (max o b) + 1) ≤ room
        from_zero a o b room h = omega (arith, h)

        left_room : (a o b room : ℕ) → max a (max o b) + 1 ≤ room → a ≤ room
        left_room a o b room h = omega (arith, h)
    begun_read less begun (index e opening e2 closing) s s' k begins h named low reached small ended =
        bind_is _
        (operand_read less begun (index e opening e2 closing) s s' k begins h (omega arith) named low ended) refl
    begun_read less begun e s s' k begins h named low reached small ended =
        bind_is _ (operand_read less begun e s s' k begins h (omega arith) named low ended) refl

    row_read : room ≤ n → is_row reach ≡ true → reach_level reach ≤ 2
        → (begun : Begun) (e : Expr) (s s' : HeldScopes) (k : List Lexeme) → IsBegun begun e → IsExpr all e
        → expr_scopes e s ≡ Some s' → expr_height e ≤ room →
        reach_level reach ≤ expr_level e → ends_expr reach (kind_at k) ≡ true
        → row_with inner reach begun room s (behind_begun all begun e k) ≡ done (found e s' k)
    unfolding row_with
    row_read less rows small begun e s s' k begins h named low reached ended =
        let unary_ended = and_first (ends_unary (kind_at k)) (ends_before reach (infix_of (kind_at k))) ended in
        let reach_ended = and_second (ends_unary (kind_at k)) (ends_before reach (infix_of (kind_at k))) ended in
        then_goes (operand_with inner begun room s (behind_begun all begun e k))
        (λ x. goes (record { waiting = bottom; last = x.tree }) x.scopes x.rest)
        (λ row. ends (finished row.tree.waiting row.tree.last) row.scopes row.rest)
        (found (spread bottom e) s' k) (begun_read less begun e s s' k begins h named low reached small unary_ended
        ∙ goes_ends (spread bottom e) s' k rows reach_ended) ∙
        ap (λ (f : Expr). done (found f s' k)) (spread_finished bottom e)
      where
        then_goes : (r : Read Expr) (f : Found Expr → Read OperandRow) (g : Found OperandRow → Read Expr)
            (x : Found OperandRow)
            → and_then r f ≡ done x → and_then r (λ e. and_then (f e) g) ≡ g x
        then_goes r f g x is = by_result r is
          where
            by_result : (r : Read Expr) → and_then r f ≡ done x → and_then r (λ e. and_then (f e) g) ≡ g x
            by_result r is = then_all r f g ∙ bind_is g is refl

  unary_reach : (e : Expr) → 14 ≤ expr_level e → 13 ≤ expr_level e
  unary_reach e h = omega (arith, h)

  -- expressions, of any reach
  pub expr_begun_read : (reach : Reach) (begun : Begun) (room : ℕ) → is_row reach ≡ true → room ≤ n
      → (e : Expr) (s s' : HeldScopes) (k : List Lexeme) → IsExpr all e → reach_level reach ≤ expr_level e
      → IsBegun begun e → expr_scopes e s ≡ Some s' →
      expr_height e ≤ room → ends_expr reach (kind_at k) ≡ true
      → expr_with inner reach begun room s (behind_begun all begun e k) ≡ done (found e s' k)
  unfolding expr_with
  expr_begun_read Whole begun room rows less e s s' k h l begins named low ended =
      row_read Whole room less refl (omega arith) begun e s s' k begins h named low l ended
  expr_begun_read Assigned begun room rows less e s s' k h l begins named low ended =
      row_read Assigned room less refl (omega arith) begun e s s' k begins h named low l ended
  expr_begun_read Conditional begun room rows less e s s' k h l begins named low ended =
      row_read Conditional room less refl (omega arith) begun e s s' k begins h named low l ended
  expr_begun_read Castable begun room rows less e s s' k h l begins named low ended = absurd cc
  expr_begun_read Unary begun room rows less e s s' k h l begins named low ended = absurd cc

  pub expr_read : (reach : Reach) (room : ℕ) → room ≤ n
      → IsComplete (expr_form all reach) (λ e. ends_expr reach) room (expr_with inner reach nothing room)
  unfolding expr_with operand_with
  expr_read Whole room less e s s' k h named low ended =
      row_read Whole room less refl (omega arith) nothing e s s' k tt h.0 named low h.1 ended
  expr_read Assigned room less e s s' k h named low ended =
      row_read Assigned room less refl (omega arith) nothing e s s' k tt h.0 named low h.1 ended
  expr_read Conditional room less e s s' k h named low ended =
      row_read Conditional room less refl (omega arith) nothing e s s' k tt h.0 named low h.1 ended
  expr_read Castable room less e s s' k h named low ended =
      cast_read all numbered tokens firsts n inner laws room less e s s' k h.0 h.1 named low
      (and_first (ends_unary (kind_at k)) (ends_before Castable (infix_of (kind_at k))) ended)
  expr_read Unary room less e s s' k h named low ended =
      tight_unary all numbered tokens firsts n inner laws false room less e s s' k h.0 h.1 named low
      (and_first (ends_unary (kind_at k)) (ends_before Unary (infix_of (kind_at k))) ended)
