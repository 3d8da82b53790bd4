-- Statements are read from their text, but for blocks.
use Rattle.std.proofs.Common.{◌≡◌, ℕ, ◌<◌, ◌≤◌, Bool, true, false, List, [], ◌∷◌, ◌++◌, Option, Some, refl, ◌∙◌, ap, arith}
use Rattle.std.specs.Prelude.{◌+◌, ◌-◌, max, not, ◌&&◌, All}
use Rattle.std.proofs.lemmas.Option.{same_Some}
use Rattle.qual_base.proofs.Tests.{and_false}
use Rattle.c_words.specs.declared.kinds.TokenKind.{TokenKind}
use Rattle.c_words.specs.declared.kinds.TokenKind.TheVariants as kinds
use Rattle.c_words.specs.declared.kinds.Punct.TheVariants as puncts
use Rattle.c_words.specs.declared.kinds.Keyword.{Keyword}
use Rattle.c_words.specs.declared.kinds.Keyword.TheVariants as keywords
use Rattle.c_tree.specs.declared.lexeme.Lexeme.{Lexeme}
use Rattle.c_syntax.specs.declared.parts.Attr.{Attr}
use Rattle.c_syntax.specs.declared.parts.Word.{Word}
use Rattle.c_syntax.specs.declared.parts.Group.{Group}
use Rattle.c_syntax.specs.declared.parts.Identifier.{Identifier}
use Rattle.c_tree.specs.Tree.{Expr, SomeExpr, no_expr, some_expr, Declaration, declaration, BlockItems, no_block_items, more_block_items, Stmt, block, case_range, goto_value, expr_stmt, attr_stmt, label, case_stmt, default_stmt, if_stmt, switch_stmt, while_stmt, do_stmt, for_stmt, goto_stmt, continue_stmt, break_stmt, return_stmt, asm_stmt, SomeElse, no_else, some_else, ForStart, start_declaration, start_value}
use Rattle.c_tree.specs.Text.{sign_text, keyword_text, group_text, expr_text, some_expr_text, spec_words_text, init_declrs_text, declaration_text, stmt_text, some_else_text, for_start_text}
use Rattle.c_tree.specs.Height.{attrs_height, expr_height, some_expr_height, specs_height, init_declrs_height, declaration_height, stmt_height, some_else_height, for_start_height}
use Rattle.c_tree.specs.Groups.{IsGroup}
use Rattle.c_tree.specs.WellFormed.{is_asm_word, AreAttrs, IsExpr, IsSomeExpr, IsDeclaration, IsStmt, IsNoAttrStmt, IsOther, IsStart, takes_else, other_takes_else}
use Rattle.c_units.specs.HeldScopes.{HeldScopes, is_wide, enter, leave}
use Rattle.c_units.specs.Scoping.{behind, where_true, in_own_scope, expr_scopes, some_expr_scopes, declared_kind, spec_words_scopes, init_declrs_scopes, declaration_scopes, stmt_scopes, some_else_scopes, for_start_scopes}
use Rattle.c_reading.specs.declared.kinds.Reach.TheVariants.{Whole, Conditional}
use Rattle.c_reading.specs.Reading.{Reader, kind_at, IsNumbered}
use Rattle.c_reading.specs.Tokens.{is_close_paren, is_semicolon, is_else, is_extension, is_attribute, is_made, asm_word_of}
use Rattle.c_reading.specs.Parts.{Inner, Begun, nothing, extensions}
use Rattle.c_reading.specs.Expressing.{begins_expr}
use Rattle.c_reading.specs.Stating.{in_own, range_behind, value_behind, goto_value_with, goto_name, expr_stmt_with, label_with, part_with, some_expr_with, case_with, default_with, some_else_with, if_inside, headed_inside, do_inside, start_value_with, extended_start, for_start_with, for_inside, goto_with, jump_with, return_with, asm_with, attr_stmt_with}
use Rattle.c_reading.proofs.Binding.{found, done, bind_is, fits_is}
use Rattle.c_reading.proofs.Forms.{behind_ok}
use Rattle.c_reading.proofs.KindFacts.{not_true, not_false, expr_no_attribute, expr_no_semicolon, expr_no_close_paren, expr_no_specs, specs_no_semicolon, specs_no_extension}
use Rattle.c_reading.proofs.Aims.{least_with, ends_expr, ends_stmt, IsBegun, behind_exts, behind_begun, TokenLaws, FirstLaws, Laws}
use Rattle.c_reading.proofs.DeclLists.{attrs_asks, block_some}
use Rattle.c_reading.proofs.DeclComplete.{declaration_read}
use Rattle.c_reading.proofs.BaseWords.{words_declrs_scopes}
use Rattle.c_reading.proofs.SpecsCompleteBodies.{expr_high}
use Rattle.c_specs.specs.Laws.{WholeAreMixes}
use Rattle.c_reading.proofs.StmtKinds.{lead_exts, IsLead, lead_of}
use Rattle.c_tree.specs.Levels.{expr_level}
use Rattle.c_reading.proofs.DeclrSoundParams.{specs_high}

-- rooms of parts
pub part_less : (h room n : ℕ) → room ≤ n → h + 1 ≤ room → room - 1 < n
part_less h room n a b = omega (arith, a, b)

pub part_low : (h room : ℕ) → h + 1 ≤ room → h ≤ room - 1
part_low h room a = omega (arith, a)

left_low : (h k room : ℕ) → max h k + 1 ≤ room → h ≤ room - 1
left_low h k room a = omega (arith, a)

right_low : (h k room : ℕ) → max h k + 1 ≤ room → k ≤ room - 1
right_low h k room a = omega (arith, a)

asks_two : (h room : ℕ) → 1 ≤ h → h + 1 ≤ room → 2 ≤ room
asks_two h room a b = omega (arith, a, b)

asks_right : (h k room : ℕ) → 1 ≤ k → max h k + 1 ≤ room → 2 ≤ room
asks_right h k room a b = omega (arith, a, b)

one_first : (h k l room : ℕ) → max h (max k l) + 1 ≤ room → h ≤ room - 1
one_first h k l room a = omega (arith, a)

one_second : (h k l room : ℕ) → max h (max k l) + 1 ≤ room → k ≤ room - 1
one_second h k l room a = omega (arith, a)

one_third : (h k l room : ℕ) → max h (max k l) + 1 ≤ room → l ≤ room - 1
one_third h k l room a = omega (arith, a)

four_first : (h k l m room : ℕ) → max h (max k (max l m)) + 1 ≤ room → h ≤ room - 1
four_first h k l m room a = omega (arith, a)

four_second : (h k l m room : ℕ) → max h (max k (max l m)) + 1 ≤ room → k ≤ room - 1
four_second h k l m room a = omega (arith, a)

four_third : (h k l m room : ℕ) → max h (max k (max l m)) + 1 ≤ room → l ≤ room - 1
four_third h k l m room a = omega (arith, a)

four_fourth : (h k l m room : ℕ) → max h (max k (max l m)) + 1 ≤ room → m ≤ room - 1
four_fourth h k l m room a = omega (arith, a)

some_asks : (h room : ℕ) → h + 1 ≤ room → 1 ≤ room
some_asks h room a = omega (arith, a)

-- no `else` stands behind
pub not_else : (t : Stmt) (kind : TokenKind) → is_else kind ≡ false → ends_stmt t kind ≡ true
not_else t kind h = rw (h, and_false (takes_else t)) refl

-- a scope of its own
pub own_ok : (f : HeldScopes → Option HeldScopes) (s s' : HeldScopes) → in_own_scope f s ≡ Some s'
    → (u : HeldScopes) × (f (enter s) ≡ Some u) × (leave u ≡ s')
own_ok f s s' e =
    let b = behind_ok (f (enter s)) (λ inner. Some (leave inner)) s' e in
    (b.0, b.1, same_Some (leave b.0) s' b.2)

pub in_own_read : {A : Type 0} (read : Reader A) (s u s' : HeldScopes) (ts k : List Lexeme) (a : A)
    → read (enter s) ts ≡ done (found a u k) → leave u ≡ s' → in_own read s ts ≡ done (found a s' k)
in_own_read read s u s' ts k a is same = bind_is _ is (ap (λ (t : HeldScopes). done (found a t k)) same)

where_is : (b : Bool) (t u : HeldScopes) → where_true b t ≡ Some u → (b ≡ true) × (t ≡ u)
where_is true t u e = (refl, cc)
where_is false t u e = absurd cc

module _ (all : List Lexeme) where
  -- a statement has a level at least
  pub stmt_high : (t : Stmt) → 1 ≤ stmt_height t
  stmt_high (block opening items closing) = block_some all items
  stmt_high t = omega arith

  -- an `else` behind a part
  before_else : (t : Stmt) (other : SomeElse) (k : List Lexeme) → IsOther all t other
      → not (other_takes_else other && is_else (kind_at k)) ≡ true
      → ends_stmt t (kind_at (some_else_text all other k)) ≡ true
  before_else t no_else k h ended = not_else t (kind_at k) (not_true ended)
  before_else t (some_else keyword u) k h ended = rw h.1 refl

module _ (all : List Lexeme) (numbered : IsNumbered all) (tokens : TokenLaws all) (firsts : FirstLaws all) (n : ℕ)
    (inner : Inner) (laws : Laws all n inner) (whole_are : WholeAreMixes) where
  -- an expression or none, before a token that none begins with
  some_expr_read : (test : TokenKind → Bool) (room : ℕ) → room < n
      → (e : SomeExpr) (s s' : HeldScopes) (k : List Lexeme) → IsSomeExpr all e → some_expr_scopes e s ≡ Some s'
      → some_expr_height e ≤ room →
      test (kind_at k) ≡ true → ends_expr Whole (kind_at k) ≡ true
      → ((kind : TokenKind) → begins_expr s kind ≡ true → test kind ≡ false)
      → some_expr_with inner test room s (some_expr_text all e k) ≡ done (found e s' k)
  unfolding some_expr_with
  some_expr_read test room less no_expr s s' k fit named low stops ended not_begun =
      rw stops (ap (λ (s : HeldScopes). done (found no_expr s k)) (same_Some s s' named))
  some_expr_read test room less (some_expr e) s s' k fit named low stops ended not_begun =
      rw (not_begun (kind_at (expr_text all e k)) (firsts.expr_begins e s s' k fit named))
      (bind_is _ (laws.exprs.complete Whole room less e s s' k (fit, omega arith) named low ended) refl)

  -- a direct part of a statement
  part_read : (room : ℕ) → room < n → (t : Stmt) (s s' : HeldScopes) (k : List Lexeme) → IsStmt all t
      → in_own_scope (stmt_scopes t) s ≡ Some s' → stmt_height t ≤ room → ends_stmt t (kind_at k) ≡ true →
      part_with inner room s (stmt_text all t k) ≡ done (found t s' k)
  part_read room less t s s' k fit named low ended =
      let b = own_ok (stmt_scopes t) s s' named in
      in_own_read (inner.stmt room) s b.0 s' (stmt_text all t k) k t
      (laws.stmts.complete room less t (enter s) b.0 k fit b.1 low ended) b.2

  pub expr_stmt_read : (begun : Begun) (room : ℕ) → room ≤ n
      → (e : Expr) (semi : ℕ) (s s' : HeldScopes) (k : List Lexeme) → IsExpr all e → IsBegun begun e
      → expr_scopes e s ≡ Some s' → expr_height e + 1 ≤ room →
      expr_stmt_with inner begun room s (behind_begun all begun e (sign_text puncts.Semicolon semi k))
      ≡ done (found (expr_stmt (some_expr e) semi) s' k)
  unfolding expr_stmt_with
  expr_stmt_read begun room less e semi s s' k fit is named low =
      bind_is _ (laws.exprs.begun_complete Whole begun (room - 1) refl (part_less (expr_height e) room n less low) e s
      s' (sign_text puncts.Semicolon semi k) fit (omega arith) is named (part_low (expr_height e) room low) refl)
      (bind_is _ refl refl)

  stmt_no_attr : (t : Stmt) (s s' : HeldScopes) (k : List Lexeme) → IsStmt all t → IsNoAttrStmt t
      → stmt_scopes t s ≡ Some s' → is_attribute (kind_at (stmt_text all t k)) ≡ false
  stmt_no_attr (attr_stmt attrs semi) s s' k fit other named = absurd other
  stmt_no_attr (expr_stmt no_expr semi) s s' k fit other named = refl
  stmt_no_attr (expr_stmt (some_expr e) semi) s s' k fit other named =
      expr_no_attribute s (kind_at (expr_text all e (sign_text puncts.Semicolon semi k)))
      (firsts.expr_begins e s s' (sign_text puncts.Semicolon semi k) fit named)
  stmt_no_attr t s s' k fit other named = refl

  pub label_read : (room : ℕ) → room ≤ n
      → (name : Identifier) (colon : ℕ) (attrs : List Attr) (t : Stmt) (s s' : HeldScopes) (k : List Lexeme)
      → AreAttrs all attrs × IsStmt all t × IsNoAttrStmt t → stmt_scopes t s ≡ Some s' →
      max (attrs_height attrs) (stmt_height t) + 1 ≤ room → ends_stmt t (kind_at k) ≡ true → label_with inner room s
      (stmt_text all (label name colon attrs t) k) ≡ done (found (label name colon attrs t) s' k)
  unfolding label_with
  label_read room less name colon attrs t s s' k fit named low ended =
      bind_is _ refl (bind_is _ refl
      (bind_is _ (tokens.attrs_complete room attrs s s (stmt_text all t k) fit.0 refl (attrs_asks attrs room
      (left_low (attrs_height attrs) (stmt_height t) room low)) (not_false (stmt_no_attr t s s' k fit.1 fit.2 named)))
      (bind_is _ (laws.stmts.complete (room - 1) (part_less (max (attrs_height attrs) (stmt_height t)) room n less low)
      t s s' k fit.1 named (right_low (attrs_height attrs) (stmt_height t) room low) ended) refl)))

  pub case_read : (room : ℕ) → room ≤ n
      → (keyword : ℕ) (e : Expr) (colon : ℕ) (t : Stmt) (s s' : HeldScopes) (k : List Lexeme)
      → IsExpr all e × (2 ≤ expr_level e) × IsStmt all t →
      behind (expr_scopes e s) (stmt_scopes t) ≡ Some s' → max (expr_height e) (stmt_height t) + 1 ≤ room
      → ends_stmt t (kind_at k) ≡ true →
      case_with inner room s (stmt_text all (case_stmt keyword e colon t) k)
      ≡ done (found (case_stmt keyword e colon t) s' k)
  unfolding case_with value_behind
  case_read room less keyword e colon t s s' k fit named low ended =
      let b = behind_ok (expr_scopes e s) (stmt_scopes t) s' named in
      let inside = part_less (max (expr_height e) (stmt_height t)) room n less low in
      fits_is 2 room (stmt_text all (case_stmt keyword e colon t) k) _
      (asks_right (expr_height e) (stmt_height t) room (stmt_high all t) low) ∙
      bind_is _ refl (bind_is _ (laws.exprs.complete Conditional (room - 1) inside e s b.0 (sign_text puncts.Colon colon
      (stmt_text all t k)) (fit.0, fit.1) b.1 (left_low (expr_height e) (stmt_height t) room low) refl)
      (rw (and_false (is_wide b.0)) (bind_is _ refl (bind_is _ (laws.stmts.complete
      (room - 1) inside t b.0 s' k fit.2 b.2 (right_low (expr_height e) (stmt_height t) room low) ended) refl))))

  -- a range of values
  pub range_read : (room : ℕ) → room ≤ n
      → (keyword : ℕ) (e : Expr) (dots : ℕ) (e2 : Expr) (colon : ℕ) (t : Stmt) (s s' : HeldScopes) (k : List Lexeme) →
      IsExpr all e × (2 ≤ expr_level e) × IsExpr all e2 × (2 ≤ expr_level e2) × IsStmt all t
      → stmt_scopes (case_range keyword e dots e2 colon t) s ≡ Some s' →
      max (max (expr_height e) (expr_height e2)) (stmt_height t) + 1 ≤ room → ends_stmt t (kind_at k) ≡ true →
      case_with inner room s (stmt_text all (case_range keyword e dots e2 colon t) k)
      ≡ done (found (case_range keyword e dots e2 colon t) s' k)
  unfolding case_with range_behind
  range_read room less keyword e dots e2 colon t s s' k fit named low ended =
      let b = behind_ok (behind (behind (expr_scopes e s) (λ u. where_true (is_wide u) u)) (expr_scopes e2))
      (stmt_scopes t) s' named in
      let c = behind_ok (behind (expr_scopes e s) (λ u. where_true (is_wide u) u)) (expr_scopes e2) b.0 b.1 in
      let d = behind_ok (expr_scopes e s) (λ u. where_true (is_wide u) u) c.0 c.1 in
      let wide = where_is (is_wide d.0) d.0 c.0 d.2 in
      let inside = part_less (max (max (expr_height e) (expr_height e2)) (stmt_height t)) room n less low in
      let first : expr_height e ≤ room - 1 = omega (arith, low) in
      let second : expr_height e2 ≤ room - 1 = omega (arith, low) in
      let third : stmt_height t ≤ room - 1 = omega (arith, low) in
      let named2 : expr_scopes e2 d.0 ≡ Some b.0 = ap (expr_scopes e2) wide.1 ∙ c.2 in
      let last = sign_text puncts.Colon colon (stmt_text all t k) in
      fits_is 2 room (stmt_text all (case_range keyword e dots e2 colon t) k) _
      (asks_right (max (expr_height e) (expr_height e2)) (stmt_height t) room (stmt_high all t) low) ∙
      bind_is _ refl (bind_is _ (laws.exprs.complete Conditional (room - 1) inside e s d.0
      (sign_text puncts.Ellipsis dots (expr_text all e2 last)) (fit.0, fit.1) d.1 first refl)
      (rw wide.0 (bind_is _ refl
      (bind_is _ (laws.exprs.complete Conditional (room - 1) inside e2 d.0 b.0 last (fit.2, fit.3) named2 second refl)
      (bind_is _ refl (bind_is _ (laws.stmts.complete (room - 1) inside t b.0 s' k fit.4 b.2 third ended) refl))))))

  pub default_read : (room : ℕ) → room ≤ n → (keyword colon : ℕ) (t : Stmt) (s s' : HeldScopes) (k : List Lexeme)
      → IsStmt all t → stmt_scopes t s ≡ Some s' → stmt_height t + 1 ≤ room → ends_stmt t (kind_at k) ≡ true →
      default_with inner room s (stmt_text all (default_stmt keyword colon t) k)
      ≡ done (found (default_stmt keyword colon t) s' k)
  unfolding default_with
  default_read room less keyword colon t s s' k fit named low ended =
      fits_is 2 room (stmt_text all (default_stmt keyword colon t) k) _
      (asks_two (stmt_height t) room (stmt_high all t) low) ∙
      bind_is _ refl (bind_is _ refl (bind_is _ (laws.stmts.complete (room - 1)
      (part_less (stmt_height t) room n less low) t s s' k fit named (part_low (stmt_height t) room low) ended) refl))

  some_else_read : (room : ℕ) → room < n → (before : Stmt) (other : SomeElse) (s s' : HeldScopes) (k : List Lexeme)
      → IsOther all before other → some_else_scopes other s ≡ Some s' → some_else_height other ≤ room →
      not (other_takes_else other && is_else (kind_at k)) ≡ true
      → some_else_with inner room s (some_else_text all other k) ≡ done (found other s' k)
  unfolding some_else_with
  some_else_read room less before no_else s s' k fit named low ended =
      rw (not_true ended) (ap (λ (s : HeldScopes). done (found no_else s k)) (same_Some s s' named))
  some_else_read room less before (some_else keyword t) s s' k fit named low ended =
      bind_is _ refl (bind_is _ (part_read room less t s s' k fit.0 named low ended) refl)

  pub if_read : (room : ℕ) → room ≤ n
      → (keyword opening : ℕ) (e : Expr) (closing : ℕ) (t : Stmt) (other : SomeElse) (s s' : HeldScopes)
      (k : List Lexeme)
      → IsExpr all e × IsStmt all t × IsOther all t other →
      behind (behind (expr_scopes e s) (in_own_scope (stmt_scopes t))) (some_else_scopes other) ≡ Some s'
      → max (expr_height e) (max (stmt_height t) (some_else_height other)) + 1 ≤ room →
      not (other_takes_else other && is_else (kind_at k)) ≡ true
      → if_inside inner room s (stmt_text all (if_stmt keyword opening e closing t other) k)
      ≡ done (found (if_stmt keyword opening e closing t other) s' k)
  unfolding if_inside
  if_read room less keyword opening e closing t other s s' k fit named low ended =
      let b = behind_ok (behind (expr_scopes e s) (in_own_scope (stmt_scopes t))) (some_else_scopes other) s' named in
      let c = behind_ok (expr_scopes e s) (in_own_scope (stmt_scopes t)) b.0 b.1 in
      let inside = part_less (max (expr_height e) (max (stmt_height t) (some_else_height other))) room n less low in
      bind_is _ refl (bind_is _ refl
      (bind_is _ (laws.exprs.complete Whole (room - 1) inside e s c.0
      (sign_text puncts.CloseParen closing (stmt_text all t (some_else_text all other k))) (fit.0, omega arith) c.1
      (one_first (expr_height e) (stmt_height t) (some_else_height other) room low) refl)
      (bind_is _ refl
      (bind_is _ (part_read (room - 1) inside t c.0 b.0 (some_else_text all other k) fit.1 c.2 (one_second
      (expr_height e) (stmt_height t) (some_else_height other) room low) (before_else all t other k fit.2 ended))
      (bind_is _ (some_else_read (room - 1) inside t other b.0 s' k fit.2 b.2
      (one_third (expr_height e) (stmt_height t) (some_else_height other) room low) ended) refl)))))

  pub headed_read : (make : ℕ → ℕ → Expr → ℕ → Stmt → Stmt) (word : Keyword) (room : ℕ) → room ≤ n
      → (keyword opening : ℕ) (e : Expr) (closing : ℕ) (t : Stmt) (s s' : HeldScopes) (k : List Lexeme)
      → IsExpr all e × IsStmt all t →
      behind (expr_scopes e s) (in_own_scope (stmt_scopes t)) ≡ Some s' → max (expr_height e) (stmt_height t) + 1 ≤ room
      → ends_stmt t (kind_at k) ≡ true →
      headed_inside inner make room s (keyword_text word keyword
      (sign_text puncts.OpenParen opening (expr_text all e (sign_text puncts.CloseParen closing (stmt_text all t k)))))
      ≡ done (found (make keyword opening e closing t) s' k)
  unfolding headed_inside
  headed_read make word room less keyword opening e closing t s s' k fit named low ended =
      let c = behind_ok (expr_scopes e s) (in_own_scope (stmt_scopes t)) s' named in
      let inside = part_less (max (expr_height e) (stmt_height t)) room n less low in
      bind_is _ refl (bind_is _ refl
      (bind_is _ (laws.exprs.complete Whole (room - 1) inside e s c.0 (sign_text puncts.CloseParen closing
      (stmt_text all t k)) (fit.0, omega arith) c.1 (left_low (expr_height e) (stmt_height t) room low) refl)
      (bind_is _ refl (bind_is _ (part_read (room - 1) inside t c.0 s' k fit.1 c.2
      (right_low (expr_height e) (stmt_height t) room low) ended) refl))))

  pub do_read : (room : ℕ) → room ≤ n
      → (keyword : ℕ) (t : Stmt) (keyword2 opening : ℕ) (e : Expr) (closing semi : ℕ) (s s' : HeldScopes)
      (k : List Lexeme)
      → IsStmt all t × IsExpr all e →
      behind (in_own_scope (stmt_scopes t) s) (expr_scopes e) ≡ Some s'
      → max (stmt_height t) (expr_height e) + 1 ≤ room →
      do_inside inner room s (stmt_text all (do_stmt keyword t keyword2 opening e closing semi) k)
      ≡ done (found (do_stmt keyword t keyword2 opening e closing semi) s' k)
  unfolding do_inside
  do_read room less keyword t keyword2 opening e closing semi s s' k fit named low =
      let c = behind_ok (in_own_scope (stmt_scopes t) s) (expr_scopes e) s' named in
      let inside = part_less (max (stmt_height t) (expr_height e)) room n less low in
      let end = sign_text puncts.CloseParen closing (sign_text puncts.Semicolon semi k) in
      bind_is _ refl
      (bind_is _ (part_read (room - 1) inside t s c.0
      (keyword_text keywords.While keyword2 (sign_text puncts.OpenParen opening (expr_text all e end))) fit.0 c.1
      (left_low (stmt_height t) (expr_height e) room low) (not_else t (kinds.Keyword keywords.While) refl))
      (bind_is _ refl (bind_is _ refl
      (bind_is _ (laws.exprs.complete Whole (room - 1) inside e c.0 s' end (fit.1, omega arith) c.2
      (right_low (stmt_height t) (expr_height e) room low) refl)
      (bind_is _ refl (bind_is _ refl refl))))))

  -- an expression that starts a `for`, behind what of its first operand was read already
  start_value_read : (begun : Begun) (room : ℕ) → room < n → (e : Expr) (semi : ℕ) (s s' : HeldScopes) (k : List Lexeme)
      → IsExpr all e → IsBegun begun e → expr_scopes e s ≡ Some s' → expr_height e ≤ room →
      start_value_with inner begun room s (behind_begun all begun e (sign_text puncts.Semicolon semi k))
      ≡ done (found (start_value (some_expr e) semi) s' k)
  unfolding start_value_with
  start_value_read begun room less e semi s s' k fit is named low =
      bind_is _ (laws.exprs.begun_complete Whole begun room refl less e s s' (sign_text puncts.Semicolon semi k) fit
      (omega arith) is named low refl) (bind_is _ refl refl)

  for_value_read : (room : ℕ) → room < n → (e : Expr) (semi : ℕ) (s s' : HeldScopes) (k : List Lexeme) → IsExpr all e
      → expr_scopes e s ≡ Some s' → expr_height e ≤ room →
      for_start_with inner room s (expr_text all e (sign_text puncts.Semicolon semi k))
      ≡ done (found (start_value (some_expr e) semi) s' k)
  unfolding for_start_with extended_start
  for_value_read room less e semi s s' k fit named low =
      by_exts (lead_exts e) (lead_of all firsts e s s' (sign_text puncts.Semicolon semi k) fit named)
    where
      by_exts : (exts : List ℕ) → IsLead all firsts e s (sign_text puncts.Semicolon semi k) exts
          → for_start_with inner room s (expr_text all e (sign_text puncts.Semicolon semi k))
          ≡ done (found (start_value (some_expr e) semi) s' k)
      by_exts [] l =
          let begun = firsts.expr_begins e s s' (sign_text puncts.Semicolon semi k) fit named in
          let kind = kind_at (expr_text all e (sign_text puncts.Semicolon semi k)) in
          let no_ext : is_extension kind ≡ false =
          ap (λ (ts : List Lexeme). is_extension (kind_at ts)) l.same ∙ l.ended in
          rw (expr_no_semicolon s kind begun, no_ext, expr_no_specs s kind begun)
          (start_value_read nothing room less e semi s s' k fit tt named low)
      by_exts (x ∷ exts) l =
          let rest = behind_exts all (x ∷ exts) e (sign_text puncts.Semicolon semi k) in
          ap (λ (ts : List Lexeme). for_start_with inner room s ts) l.same ∙
          bind_is _ (tokens.exts_complete room (x ∷ exts) s s rest tt refl (two_low (expr_height e) room l.low low)
          (not_false l.ended))
          (rw (expr_no_specs s (kind_at rest) l.begins)
          (start_value_read (extensions (x ∷ exts)) room less e semi s s' k fit l.begun named low))
        where
          two_low : (h room : ℕ) → 2 ≤ h → h ≤ room → 2 ≤ room
          two_low h room a b = omega (arith, a, b)

  for_declaration_read : (room : ℕ) → room < n → (d : Declaration) (s s' : HeldScopes) (k : List Lexeme)
      → IsDeclaration all d → declaration_scopes d s ≡ Some s' → declaration_height d ≤ room →
      for_start_with inner room s (declaration_text all d k) ≡ done (found (start_declaration d) s' k)
  unfolding for_start_with extended_start
  for_declaration_read room less (declaration [] words ds semi) s s' k fit named low =
      let b = behind_ok (spec_words_scopes words s) (words_declrs_scopes words ds) s' named in
      let begun =
      firsts.words_begin words s b.0 (init_declrs_text all ds (sign_text puncts.Semicolon semi k)) fit.0 fit.1 b.1 in
      let kind = kind_at (spec_words_text all words (init_declrs_text all ds (sign_text puncts.Semicolon semi k))) in
      rw (specs_no_semicolon s kind begun, specs_no_extension s kind begun, begun)
      (bind_is _ (declaration_read all numbered tokens firsts n inner laws whole_are [] room
      (within room n less) words ds semi s s' k fit.0 fit.1 fit.2 fit.3 fit.4 fit.5 named low) refl)
    where
      within : (room n : ℕ) → room < n → room ≤ n
      within room n a = omega (arith, a)
  for_declaration_read room less (declaration (x ∷ exts) words ds semi) s s' k fit named low =
      let b = behind_ok (spec_words_scopes words s) (words_declrs_scopes words ds) s' named in
      let begun =
      firsts.words_begin words s b.0 (init_declrs_text all ds (sign_text puncts.Semicolon semi k)) fit.0 fit.1 b.1 in
      let rest = spec_words_text all words (init_declrs_text all ds (sign_text puncts.Semicolon semi k)) in
      let d = declaration_read all numbered tokens firsts n inner laws whole_are (x ∷ exts) room
      (within room n less) words ds semi s s' k fit.0 fit.1 fit.2 fit.3 fit.4 fit.5 named low in
      bind_is _ (tokens.exts_complete room (x ∷ exts) s s rest tt refl (two_low (specs_height words)
      (init_declrs_height ds) room (specs_high words) low) (not_false (specs_no_extension s (kind_at rest) begun)))
      (rw begun (bind_is _ d refl))
    where
      within : (room n : ℕ) → room < n → room ≤ n
      within room n a = omega (arith, a)

      two_low : (h k room : ℕ) → 1 ≤ h → max h k + 1 ≤ room → 2 ≤ room
      two_low h k room a b = omega (arith, a, b)

  for_start_read : (room : ℕ) → room < n → (start : ForStart) (s s' : HeldScopes) (k : List Lexeme) → IsStart all start
      → for_start_scopes start s ≡ Some s' → for_start_height start ≤ room →
      for_start_with inner room s (for_start_text all start k) ≡ done (found start s' k)
  unfolding for_start_with
  for_start_read room less (start_declaration d) s s' k fit named low =
      for_declaration_read room less d s s' k fit named low
  for_start_read room less (start_value (some_expr e) semi) s s' k fit named low =
      for_value_read room less e semi s s' k fit named low
  for_start_read room less (start_value no_expr semi) s s' k fit named low =
      bind_is _ refl (ap (λ (s : HeldScopes). done (found (start_value no_expr semi) s k)) (same_Some s s' named))

  pub for_read : (room : ℕ) → room ≤ n
      → (keyword opening : ℕ) (start : ForStart) (e : SomeExpr) (semi : ℕ) (e2 : SomeExpr) (closing : ℕ) (t : Stmt)
      (s s' : HeldScopes) (k : List Lexeme) →
      IsStart all start × IsSomeExpr all e × IsSomeExpr all e2 × IsStmt all t
      → behind (behind (behind (for_start_scopes start s) (some_expr_scopes e)) (some_expr_scopes e2))
      (in_own_scope (stmt_scopes t)) ≡ Some s' →
      max (for_start_height start) (max (some_expr_height e) (max (some_expr_height e2) (stmt_height t))) + 1 ≤ room
      → ends_stmt t (kind_at k) ≡ true →
      for_inside inner room s (stmt_text all (for_stmt keyword opening start e semi e2 closing t) k)
      ≡ done (found (for_stmt keyword opening start e semi e2 closing t) s' k)
  unfolding for_inside
  for_read room less keyword opening start e semi e2 closing t s s' k fit named low ended =
      let b = behind_ok (behind (behind (for_start_scopes start s) (some_expr_scopes e)) (some_expr_scopes e2))
      (in_own_scope (stmt_scopes t)) s' named in
      let c = behind_ok (behind (for_start_scopes start s) (some_expr_scopes e)) (some_expr_scopes e2) b.0 b.1 in
      let d = behind_ok (for_start_scopes start s) (some_expr_scopes e) c.0 c.1 in
      let inside = part_less (max (for_start_height start)
      (max (some_expr_height e) (max (some_expr_height e2) (stmt_height t)))) room n less low in
      let last = sign_text puncts.CloseParen closing (stmt_text all t k) in
      let second = sign_text puncts.Semicolon semi (some_expr_text all e2 last) in
      bind_is _ refl (bind_is _ refl
      (bind_is _ (for_start_read (room - 1) inside start s d.0 (some_expr_text all e second) fit.0 d.1
      (four_first (for_start_height start) (some_expr_height e) (some_expr_height e2) (stmt_height t) room low))
      (bind_is _ (some_expr_read is_semicolon (room - 1) inside e d.0 c.0 second fit.1 d.2 (four_second
      (for_start_height start) (some_expr_height e) (some_expr_height e2) (stmt_height t) room low) refl refl
      (λ kind b. expr_no_semicolon d.0 kind b))
      (bind_is _ refl
      (bind_is _ (some_expr_read is_close_paren (room - 1) inside e2 c.0 b.0 last fit.2 c.2 (four_third
      (for_start_height start) (some_expr_height e) (some_expr_height e2) (stmt_height t) room low) refl refl
      (λ kind b. expr_no_close_paren c.0 kind b))
      (bind_is _ refl
      (bind_is _ (part_read (room - 1) inside t b.0 s' k fit.3 b.2 (four_fourth (for_start_height start)
      (some_expr_height e) (some_expr_height e2) (stmt_height t) room low) ended) refl)))))))

  pub goto_read : (room keyword : ℕ) (name : Identifier) (semi : ℕ) (s : HeldScopes) (k : List Lexeme) → 1 ≤ room
      → goto_with inner room s (stmt_text all (goto_stmt keyword name semi) k)
      ≡ done (found (goto_stmt keyword name semi) s k)
  unfolding goto_with goto_name
  goto_read room keyword name semi s k low =
      fits_is 1 room (stmt_text all (goto_stmt keyword name semi) k) _ low
      ∙ bind_is _ refl (rw (and_false (is_wide s)) (bind_is _ refl (bind_is _ refl refl)))

  -- to a value
  pub goto_value_read : (room : ℕ) → room ≤ n
      → (keyword star : ℕ) (e : Expr) (semi : ℕ) (s s' : HeldScopes) (k : List Lexeme) → IsExpr all e
      → behind (where_true (is_wide s) s) (expr_scopes e) ≡ Some s' →
      expr_height e + 1 ≤ room → goto_with inner room s (stmt_text all (goto_value keyword star e semi) k)
      ≡ done (found (goto_value keyword star e semi) s' k)
  unfolding goto_with goto_value_with
  goto_value_read room less keyword star e semi s s' k fit named low =
      let b = behind_ok (where_true (is_wide s) s) (expr_scopes e) s' named in
      let wide = where_is (is_wide s) s b.0 b.1 in
      let named2 : expr_scopes e s ≡ Some s' = ap (expr_scopes e) wide.1 ∙ b.2 in
      let two : 2 ≤ room = asks_two (expr_height e) room (expr_high e) low in
      fits_is 1 room (stmt_text all (goto_value keyword star e semi) k) _ (omega (arith, two))
      ∙ bind_is _ refl (rw wide.0
      (fits_is 2 room (sign_text puncts.Star star (expr_text all e (sign_text puncts.Semicolon semi k))) _ two
      ∙ bind_is _ refl
      (bind_is _ (laws.exprs.complete Whole (room - 1) (part_less (expr_height e) room n less low) e s s'
      (sign_text puncts.Semicolon semi k) (fit, omega arith) named2 (part_low (expr_height e) room low) refl)
      (bind_is _ refl refl))))

  pub jump_read : (make : ℕ → ℕ → Stmt) (word : Keyword) (room keyword semi : ℕ) (s : HeldScopes) (k : List Lexeme)
      → 1 ≤ room →
      jump_with inner make room s (keyword_text word keyword (sign_text puncts.Semicolon semi k))
      ≡ done (found (make keyword semi) s k)
  unfolding jump_with
  jump_read make word room keyword semi s k low =
      fits_is 1 room (keyword_text word keyword (sign_text puncts.Semicolon semi k)) _ low
      ∙ bind_is _ refl (bind_is _ refl refl)

  pub return_read : (room : ℕ) → room ≤ n
      → (keyword : ℕ) (e : SomeExpr) (semi : ℕ) (s s' : HeldScopes) (k : List Lexeme) → IsSomeExpr all e
      → some_expr_scopes e s ≡ Some s' → some_expr_height e + 1 ≤ room →
      return_with inner room s (stmt_text all (return_stmt keyword e semi) k)
      ≡ done (found (return_stmt keyword e semi) s' k)
  unfolding return_with
  return_read room less keyword e semi s s' k fit named low =
      fits_is 1 room (stmt_text all (return_stmt keyword e semi) k) _ (some_asks (some_expr_height e) room low) ∙
      bind_is _ refl (bind_is _ (some_expr_read is_semicolon (room - 1)
      (part_less (some_expr_height e) room n less low) e s s' (sign_text puncts.Semicolon semi k) fit named
      (part_low (some_expr_height e) room low) refl refl (λ kind b. expr_no_semicolon s kind b))
      (bind_is _ refl refl))

  pub asm_read : (room keyword : ℕ) (words : List Word) (group : Group) (semi : ℕ) (s : HeldScopes) (k : List Lexeme)
      → All (λ w. is_asm_word w.keyword ≡ true) words × IsGroup all group → 1 ≤ room →
      asm_with inner room s (stmt_text all (asm_stmt keyword words group semi) k)
      ≡ done (found (asm_stmt keyword words group semi) s k)
  unfolding asm_with
  asm_read room keyword words group semi s k fit low =
      fits_is 1 room (stmt_text all (asm_stmt keyword words group semi) k) _ low ∙
      bind_is _ refl (bind_is _ (tokens.asm_words_complete 0 words s s
      (group_text all group (sign_text puncts.Semicolon semi k)) fit.0 refl (omega arith)
      (ap (λ (ts : List Lexeme). not
      (is_made (asm_word_of (kind_at (ts ++ sign_text puncts.Semicolon semi k))))) fit.1.tokens))
      (bind_is _ (tokens.group_complete 0 group s s (sign_text puncts.Semicolon semi k) fit.1 refl (omega arith) refl)
      (bind_is _ refl refl)))

  pub attr_asks : (attrs : List Attr) (room : ℕ) → attrs_height attrs + 1 ≤ room → least_with attrs ≤ room
  attr_asks [] room h = omega arith
  attr_asks (a ∷ attrs) room h = omega (arith, h)

  pub attr_stmt_read : (room : ℕ) (attrs : List Attr) (semi : ℕ) (s : HeldScopes) (k : List Lexeme) → AreAttrs all attrs
      → attrs_height attrs + 1 ≤ room →
      attr_stmt_with inner room s (stmt_text all (attr_stmt attrs semi) k) ≡ done (found (attr_stmt attrs semi) s k)
  unfolding attr_stmt_with
  attr_stmt_read room attrs semi s k fit low =
      bind_is _ (tokens.attrs_complete room attrs s s (sign_text puncts.Semicolon semi k) fit refl
      (attr_asks attrs room low) refl) (bind_is _ refl refl)
