-- What the readers of statements take is spelled so and well formed, and no `else` stands behind a statement that takes
-- one.
use Rattle.std.proofs.Common.{◌≡◌, ◌≢◌, ℕ, ◌≤◌, Bool, true, false, List, [], Option, Some, refl, sym, ◌∙◌, ap, subst, arith}
use Rattle.std.specs.Prelude.{◌+◌, ◌-◌, ◌&&◌, max}
use Rattle.std.proofs.lemmas.Bool.{false_from_ne_true}
use Rattle.qual_base.proofs.Tests.{and_second, and_first}
use Rattle.c_words.specs.declared.kinds.TokenKind.TheVariants as kinds
use Rattle.c_words.specs.declared.kinds.Punct.TheVariants as puncts
use Rattle.c_words.specs.declared.kinds.Keyword.{Keyword}
use Rattle.c_words.specs.declared.kinds.Keyword.TheVariants as keywords
use Rattle.c_tree.specs.declared.lexeme.Lexeme.{Lexeme}
use Rattle.c_specs.specs.Laws.{MixesGoOn}
use Rattle.c_syntax.specs.declared.parts.Attr.{Attr}
use Rattle.c_tree.specs.Tree.{Expr, Declaration, Stmt, switch_stmt, while_stmt, continue_stmt, break_stmt, SomeElse, ForStart, start_declaration}
use Rattle.c_tree.specs.Text.{sign_text, keyword_text, identifier_text, words_text, group_text, attrs_text, extensions_text, expr_text, some_expr_text, stmt_text, some_else_text, for_start_text}
use Rattle.c_tree.specs.Height.{expr_height, some_expr_height, stmt_height, some_else_height, for_start_height}
use Rattle.c_tree.specs.Levels.{expr_level}
use Rattle.c_tree.specs.WellFormed.{IsExpr, IsStmt, IsOther, IsStart, takes_else, other_takes_else}
use Rattle.c_units.specs.HeldScopes.{HeldScopes, is_wide, names_type, enter, leave}
use Rattle.c_units.specs.Scoping.{behind, where_true, in_own_scope, expr_scopes, some_expr_scopes, declaration_scopes, stmt_scopes, some_else_scopes, for_start_scopes}
use Rattle.c_reading.specs.declared.kinds.Reach.TheVariants.{Whole, Conditional}
use Rattle.c_reading.specs.declared.kinds.StmtStart.{StmtStart}
use Rattle.c_reading.specs.declared.kinds.StmtStart.TheVariants as starts
use Rattle.c_reading.specs.Reading.{Found, Reader, kind_at, behind_first, IsNumbered, IsTail}
use Rattle.c_reading.specs.Tokens.{is_open_paren, is_close_paren, is_colon, is_semicolon, is_while, is_else, is_dots, is_star, is_extension, is_attribute}
use Rattle.c_reading.specs.Parts.{Inner, Begun, nothing, extensions}
use Rattle.c_reading.specs.Specifying.{begins_specs}
use Rattle.c_reading.specs.Expressing.{begins_expr}
use Rattle.c_reading.specs.Stating.{stmt_start, in_own, range_behind, value_behind, goto_value_with, goto_name, case_with, default_with, some_else_with, if_inside, headed_inside, do_inside, start_value_with, extended_start, for_start_with, for_inside, goto_with, jump_with, return_with, asm_with, attr_stmt_with, named_stmt, stmt_by, stmt_with}
use Rattle.c_reading.proofs.Binding.{found, done, bind_ok, fits_ok, if_ok}
use Rattle.c_reading.proofs.Forms.{Form, Takes, IsSound, at_end, behind_is, through, took, took_token, took_name, behind_token}
use Rattle.c_reading.proofs.KindFacts.{dots_kind, star_kind, open_paren_kind, close_paren_kind, colon_kind, semicolon_kind, while_kind, else_kind}
use Rattle.c_reading.proofs.Aims.{begun_text, declaration_form, stmt_form, TokenLaws, Laws}
use Rattle.c_reading.proofs.DeclSound.{declaration_sound}
use Rattle.c_reading.proofs.StmtSound.{IsStmtStart, stmt_start_is, one_up, two_up, three_up, four_up, some_room, attr_room, some_scopes, own_is, some_expr_sound, part_sound, part_ended, expr_stmt_sound, label_sound, attrs_end, block_sound}

-- scopes through parts between tokens
own_two : (f g : HeldScopes → Option HeldScopes) (s a b c d : HeldScopes) → a ≡ enter s → f a ≡ Some b → c ≡ b
    → g c ≡ Some d → in_own_scope (λ u. behind (f u) g) s ≡ Some (leave d)
own_two f g s a b c d p q same h =
    own_is (λ u. behind (f u) g) s d (behind_is g (through f p q same) h)

contra : {P : Type 0} (b : Bool) → b ≡ true → b ≡ false → P
contra true p q = absurd cc
contra false p q = absurd cc

range_up : (h k l room : ℕ) → 2 ≤ room → h ≤ room - 1 → k ≤ room - 1 → l ≤ room - 1 → max (max h k) l + 1 ≤ room
range_up h k l room a b c d = omega (arith, a, b, c, d)

wide_is : (s : HeldScopes) → is_wide s ≡ true → where_true (is_wide s) s ≡ Some s
wide_is s wide = rw wide refl

module _ (all : List Lexeme) (numbered : IsNumbered all) (tokens : TokenLaws all) (n : ℕ) (inner : Inner)
    (laws : Laws all n inner) (goes : MixesGoOn) where
  -- a value and what stands behind it, where `case` was taken
  value_sound : (keyword : ℕ) (value : Expr) (room : ℕ) (s u : HeldScopes) (ts : List Lexeme) (x : Found Stmt)
      → 2 ≤ room → IsTail all ts → IsExpr all value × (2 ≤ expr_level value) → expr_scopes value s ≡ Some u →
      expr_height value ≤ room - 1 → value_behind inner keyword value room u ts ≡ done x
      → Takes all (stmt_form all) room s (keyword_text keywords.Case keyword (expr_text all value ts)) x
  unfolding value_behind
  value_sound keyword value room s u ts x least tail fits named low e =
      let a = bind_ok e in
      let b = bind_ok a.2 in
      let p = took_token all is_colon (kinds.Punct puncts.Colon) colon_kind u ts a.0 tail a.1 in
      let j = laws.stmts.sound (room - 1) a.0.scopes a.0.rest b.0 p.left b.1 in
      at_end
      (Takes all (stmt_form all) room s (keyword_text keywords.Case keyword (expr_text all value ts))) b.2 (record {
        spelled = ap (λ (ts : List Lexeme). keyword_text keywords.Case keyword (expr_text all value ts))
            (p.spelled ∙ ap (sign_text puncts.Colon a.0.tree) j.spelled);
        fits = (fits.0, fits.1, j.fits);
        named = behind_is (stmt_scopes b.0.tree) (through (expr_scopes value) refl named p.same) j.named;
        low = two_up (expr_height value) (stmt_height b.0.tree) room least low j.low;
        left = j.left;
      })

  range_sound : (keyword : ℕ) (value : Expr) (room : ℕ) (s u : HeldScopes) (ts : List Lexeme) (x : Found Stmt)
      → 2 ≤ room → IsTail all ts → is_wide u ≡ true → is_dots (kind_at ts) ≡ true →
      IsExpr all value × (2 ≤ expr_level value) → expr_scopes value s ≡ Some u → expr_height value ≤ room - 1
      → range_behind inner keyword value room u ts ≡ done x →
      Takes all (stmt_form all) room s (keyword_text keywords.Case keyword (expr_text all value ts)) x
  unfolding range_behind
  range_sound keyword value room s u ts x least tail wide dots fits named low e =
      let a = bind_ok e in
      let b = bind_ok a.2 in
      let c = bind_ok b.2 in
      let d = bind_ok c.2 in
      let o = took all (kinds.Punct puncts.Ellipsis) u ts a.0 tail (dots_kind (kind_at ts) dots) a.1 in
      let i = laws.exprs.sound Conditional (room - 1) a.0.scopes a.0.rest b.0 o.left b.1 in
      let p = took_token all is_colon (kinds.Punct puncts.Colon) colon_kind b.0.scopes b.0.rest c.0 i.left c.1 in
      let j = laws.stmts.sound (room - 1) c.0.scopes c.0.rest d.0 p.left d.1 in
      at_end
      (Takes all (stmt_form all) room s (keyword_text keywords.Case keyword (expr_text all value ts))) d.2 (record {
        spelled = ap (λ (ts : List Lexeme). keyword_text keywords.Case keyword (expr_text all value ts))
            (o.spelled ∙ ap (sign_text puncts.Ellipsis a.0.tree) (i.spelled
            ∙ ap (expr_text all b.0.tree) (p.spelled ∙ ap (sign_text puncts.Colon c.0.tree) j.spelled)));
        fits = (fits.0, fits.1, i.fits.0, i.fits.1, j.fits);
        named = behind_is (stmt_scopes d.0.tree)
            (behind_is (expr_scopes b.0.tree) (behind_is (λ u. where_true (is_wide u) u) named (wide_is u wide))
            (through (expr_scopes b.0.tree) o.same i.named p.same)) j.named;
        low = range_up (expr_height value) (expr_height b.0.tree) (stmt_height d.0.tree) room least low i.low j.low;
        left = j.left;
      })

  case_sound : (room : ℕ) (s : HeldScopes) (ts : List Lexeme) (x : Found Stmt) → IsTail all ts
      → kind_at ts ≡ kinds.Keyword keywords.Case → case_with inner room s ts ≡ done x
      → Takes all (stmt_form all) room s ts x
  unfolding case_with
  case_sound room s ts x tail is e =
      let r = fits_ok _ _ _ e in
      let a = bind_ok r.1 in
      let b = bind_ok a.2 in
      let o = took all (kinds.Keyword keywords.Case) s ts a.0 tail is a.1 in
      let i = laws.exprs.sound Conditional (room - 1) a.0.scopes a.0.rest b.0 o.left b.1 in
      let t : Takes all (stmt_form all) room a.0.scopes
      (keyword_text keywords.Case a.0.tree (expr_text all b.0.tree b.0.rest)) x =
      if_ok (is_wide b.0.scopes && is_dots (kind_at b.0.rest)) b.2
      (λ is e. range_sound a.0.tree b.0.tree room a.0.scopes b.0.scopes b.0.rest x r.0 i.left
      (and_first (is_wide b.0.scopes) (is_dots (kind_at b.0.rest)) is)
      (and_second (is_wide b.0.scopes) (is_dots (kind_at b.0.rest)) is) i.fits i.named i.low e)
      (λ is e. value_sound a.0.tree b.0.tree room a.0.scopes b.0.scopes b.0.rest x r.0 i.left i.fits i.named i.low e) in
      record {
        spelled = o.spelled ∙ ap (keyword_text keywords.Case a.0.tree) i.spelled ∙ t.spelled;
        fits = t.fits;
        named = through (stmt_scopes x.tree) o.same t.named refl;
        low = t.low;
        left = t.left;
      }

  default_sound : (room : ℕ) (s : HeldScopes) (ts : List Lexeme) (x : Found Stmt) → IsTail all ts
      → kind_at ts ≡ kinds.Keyword keywords.Default → default_with inner room s ts ≡ done x
      → Takes all (stmt_form all) room s ts x
  unfolding default_with
  default_sound room s ts x tail is e =
      let r = fits_ok _ _ _ e in
      let a = bind_ok r.1 in
      let b = bind_ok a.2 in
      let c = bind_ok b.2 in
      let o = took all (kinds.Keyword keywords.Default) s ts a.0 tail is a.1 in
      let p = took_token all is_colon (kinds.Punct puncts.Colon) colon_kind a.0.scopes a.0.rest b.0 o.left b.1 in
      let j = laws.stmts.sound (room - 1) b.0.scopes b.0.rest c.0 p.left c.1 in
      at_end (Takes all (stmt_form all) room s ts) c.2 (record {
        spelled = o.spelled
            ∙ ap (keyword_text keywords.Default a.0.tree) (p.spelled ∙ ap (sign_text puncts.Colon b.0.tree) j.spelled);
        fits = j.fits;
        named = through (stmt_scopes c.0.tree) (p.same ∙ o.same) j.named refl;
        low = one_up (stmt_height c.0.tree) room (some_room room r.0) j.low;
        left = j.left;
      })

  -- [else stmt], behind a statement
  record TookElse (before : Stmt) (room : ℕ) (s : HeldScopes) (ts : List Lexeme) (x : Found SomeElse) : Type 0 where
    spelled : ts ≡ some_else_text all x.tree x.rest
    fits : IsOther all before x.tree
    named : some_else_scopes x.tree s ≡ Some x.scopes
    low : some_else_height x.tree ≤ room
    left : IsTail all x.rest
    ended : other_takes_else x.tree ≡ true → is_else (kind_at x.rest) ≡ false

  some_else_sound : (before : Stmt) (room : ℕ) (s : HeldScopes) (ts : List Lexeme) (x : Found SomeElse)
      → (takes_else before ≡ true → is_else (kind_at ts) ≡ false) → IsTail all ts
      → some_else_with inner room s ts ≡ done x → TookElse before room s ts x
  unfolding some_else_with
  some_else_sound before room s ts x ended tail e =
      if_ok (is_else (kind_at ts)) e (λ is e.
      let a = bind_ok e in
      let b = bind_ok a.2 in
      let o = took all (kinds.Keyword keywords.Else) s ts a.0 tail (else_kind (kind_at ts) is) a.1 in
      let j = part_sound all numbered tokens n inner laws goes room a.0.scopes a.0.rest b.0 o.left b.1 in
      at_end (TookElse before room s ts) b.2 (record {
        spelled = o.spelled ∙ ap (keyword_text keywords.Else a.0.tree) j.spelled;
        fits =
            (j.fits, false_from_ne_true (takes_else before) (λ takes. contra (is_else (kind_at ts)) is (ended takes)));
        named = through (in_own_scope (stmt_scopes b.0.tree)) o.same j.named refl;
        low = j.low;
        left = j.left;
        ended = part_ended all numbered tokens n inner laws goes room a.0.scopes a.0.rest b.0 b.1;
      })) (λ is e. at_end (TookElse before room s ts) e
      (record { spelled = refl; fits = tt; named = refl; low = omega arith; left = tail; ended = λ takes. is }))

  -- a statement in a scope of its own: what it takes, from that scope on
  record TookInside (room : ℕ) (s : HeldScopes) (ts : List Lexeme) (x : Found Stmt) : Type 0 where
    spelled : ts ≡ stmt_text all x.tree x.rest
    fits : IsStmt all x.tree
    named : (t : HeldScopes) → s ≡ enter t → stmt_scopes x.tree t ≡ Some (leave x.scopes)
    low : stmt_height x.tree ≤ room
    left : IsTail all x.rest

  inside_is : (room : ℕ) (s : HeldScopes) (ts : List Lexeme) (read : Reader Stmt) (x : Found Stmt)
      → ((y : Found Stmt) → read (enter s) ts ≡ done y → TookInside room (enter s) ts y) → in_own read s ts ≡ done x
      → Takes all (stmt_form all) room s ts x
  inside_is room s ts read x inside e =
      let a = bind_ok e in
      let i = inside a.0 a.1 in
      at_end (Takes all (stmt_form all) room s ts) a.2
      (record { spelled = i.spelled; fits = i.fits; named = i.named s refl; low = i.low; left = i.left })

  if_sound : (room : ℕ) (s : HeldScopes) (ts : List Lexeme) (x : Found Stmt) → 2 ≤ room → IsTail all ts
      → kind_at ts ≡ kinds.Keyword keywords.If → if_inside inner room s ts ≡ done x → TookInside room s ts x
  unfolding if_inside
  if_sound room s ts x least tail is e =
      let a = bind_ok e in
      let b = bind_ok a.2 in
      let c = bind_ok b.2 in
      let d = bind_ok c.2 in
      let f = bind_ok d.2 in
      let g = bind_ok f.2 in
      let o = took all (kinds.Keyword keywords.If) s ts a.0 tail is a.1 in
      let p =
      took_token all is_open_paren (kinds.Punct puncts.OpenParen) open_paren_kind a.0.scopes a.0.rest b.0 o.left b.1 in
      let i = laws.exprs.sound Whole (room - 1) b.0.scopes b.0.rest c.0 p.left c.1 in
      let q = took_token all is_close_paren
      (kinds.Punct puncts.CloseParen) close_paren_kind c.0.scopes c.0.rest d.0 i.left d.1 in
      let j = part_sound all numbered tokens n inner laws goes (room - 1) d.0.scopes d.0.rest f.0 q.left f.1 in
      let l = some_else_sound f.0.tree (room - 1) f.0.scopes f.0.rest g.0
      (part_ended all numbered tokens n inner laws goes (room - 1) d.0.scopes d.0.rest f.0 f.1) j.left g.1 in
      at_end (TookInside room s ts) g.2 (record {
        spelled = o.spelled ∙ ap (keyword_text keywords.If a.0.tree)
            (p.spelled ∙ ap (sign_text puncts.OpenParen b.0.tree) (i.spelled ∙ ap (expr_text all c.0.tree) (q.spelled
            ∙ ap (sign_text puncts.CloseParen d.0.tree) (j.spelled ∙ ap (stmt_text all f.0.tree) l.spelled))));
        fits = (i.fits.0, j.fits, l.fits);
        named = λ t same. own_is (λ u. behind (behind (expr_scopes c.0.tree u) (in_own_scope (stmt_scopes f.0.tree)))
            (some_else_scopes g.0.tree)) t g.0.scopes
            (behind_is (some_else_scopes g.0.tree) (behind_is (in_own_scope (stmt_scopes f.0.tree))
            (through (expr_scopes c.0.tree) (p.same ∙ o.same ∙ same) i.named q.same) j.named) l.named);
        low = three_up (expr_height c.0.tree) (stmt_height f.0.tree)
            (some_else_height g.0.tree) room least i.low j.low l.low;
        left = l.left;
      })

  -- `switch` and `while`
  headed_sound : (make : ℕ → ℕ → Expr → ℕ → Stmt → Stmt) (keyword : Keyword) →
      ((a b c : ℕ) (e : Expr) (t : Stmt) (k : List Lexeme) → keyword_text keyword a (sign_text puncts.OpenParen b
      (expr_text all e (sign_text puncts.CloseParen c (stmt_text all t k)))) ≡ stmt_text all (make a b e c t) k) →
      ((a b c : ℕ) (e : Expr) (t : Stmt) → IsExpr all e → IsStmt all t → IsStmt all (make a b e c t)) →
      ((a b c : ℕ) (e : Expr) (t : Stmt) (s : HeldScopes) → stmt_scopes (make a b e c t) s
      ≡ in_own_scope (λ u. behind (expr_scopes e u) (in_own_scope (stmt_scopes t))) s) →
      ((a b c : ℕ) (e : Expr) (t : Stmt) → stmt_height (make a b e c t) ≡ max (expr_height e) (stmt_height t) + 1) →
      (room : ℕ) (s : HeldScopes) (ts : List Lexeme) (x : Found Stmt) → 2 ≤ room → IsTail all ts
      → kind_at ts ≡ kinds.Keyword keyword → headed_inside inner make room s ts ≡ done x → TookInside room s ts x
  unfolding headed_inside
  headed_sound make keyword text fits scopes high room s ts x least tail is e =
      let a = bind_ok e in
      let b = bind_ok a.2 in
      let c = bind_ok b.2 in
      let d = bind_ok c.2 in
      let f = bind_ok d.2 in
      let o = took all (kinds.Keyword keyword) s ts a.0 tail is a.1 in
      let p =
      took_token all is_open_paren (kinds.Punct puncts.OpenParen) open_paren_kind a.0.scopes a.0.rest b.0 o.left b.1 in
      let i = laws.exprs.sound Whole (room - 1) b.0.scopes b.0.rest c.0 p.left c.1 in
      let q = took_token all is_close_paren
      (kinds.Punct puncts.CloseParen) close_paren_kind c.0.scopes c.0.rest d.0 i.left d.1 in
      let j = part_sound all numbered tokens n inner laws goes (room - 1) d.0.scopes d.0.rest f.0 q.left f.1 in
      at_end (TookInside room s ts) f.2 (record {
        spelled = (o.spelled
            ∙ ap (keyword_text keyword a.0.tree) (p.spelled ∙ ap (sign_text puncts.OpenParen b.0.tree) (i.spelled
            ∙ ap (expr_text all c.0.tree) (q.spelled ∙ ap (sign_text puncts.CloseParen d.0.tree) j.spelled)))) ∙
            text a.0.tree b.0.tree d.0.tree c.0.tree f.0.tree f.0.rest;
        fits = fits a.0.tree b.0.tree d.0.tree c.0.tree f.0.tree i.fits.0 j.fits;
        named = λ t same. scopes a.0.tree b.0.tree d.0.tree c.0.tree f.0.tree t ∙ own_two (expr_scopes c.0.tree)
            (in_own_scope (stmt_scopes f.0.tree)) t b.0.scopes c.0.scopes d.0.scopes f.0.scopes
            (p.same ∙ o.same ∙ same) i.named q.same j.named;
        low = subst (λ (h : ℕ). h ≤ room) (sym (high a.0.tree b.0.tree d.0.tree c.0.tree f.0.tree))
            (two_up (expr_height c.0.tree) (stmt_height f.0.tree) room least i.low j.low);
        left = j.left;
      })

  do_sound : (room : ℕ) (s : HeldScopes) (ts : List Lexeme) (x : Found Stmt) → 2 ≤ room → IsTail all ts
      → kind_at ts ≡ kinds.Keyword keywords.Do → do_inside inner room s ts ≡ done x → TookInside room s ts x
  unfolding do_inside
  do_sound room s ts x least tail is e =
      let a = bind_ok e in
      let b = bind_ok a.2 in
      let c = bind_ok b.2 in
      let d = bind_ok c.2 in
      let f = bind_ok d.2 in
      let g = bind_ok f.2 in
      let h = bind_ok g.2 in
      let o = took all (kinds.Keyword keywords.Do) s ts a.0 tail is a.1 in
      let j = part_sound all numbered tokens n inner laws goes (room - 1) a.0.scopes a.0.rest b.0 o.left b.1 in
      let l = took_token all is_while (kinds.Keyword keywords.While) while_kind b.0.scopes b.0.rest c.0 j.left c.1 in
      let p =
      took_token all is_open_paren (kinds.Punct puncts.OpenParen) open_paren_kind c.0.scopes c.0.rest d.0 l.left d.1 in
      let i = laws.exprs.sound Whole (room - 1) d.0.scopes d.0.rest f.0 p.left f.1 in
      let q = took_token all is_close_paren
      (kinds.Punct puncts.CloseParen) close_paren_kind f.0.scopes f.0.rest g.0 i.left g.1 in
      let m =
      took_token all is_semicolon (kinds.Punct puncts.Semicolon) semicolon_kind g.0.scopes g.0.rest h.0 q.left h.1 in
      at_end (TookInside room s ts) h.2 (record {
        spelled =
            o.spelled ∙ ap (keyword_text keywords.Do a.0.tree) (j.spelled ∙ ap (stmt_text all b.0.tree) (l.spelled ∙ ap
            (keyword_text keywords.While c.0.tree) (p.spelled ∙ ap (sign_text puncts.OpenParen d.0.tree) (i.spelled ∙
            ap (expr_text all f.0.tree) (q.spelled ∙ ap (sign_text puncts.CloseParen g.0.tree) m.spelled)))));
        fits = (j.fits, i.fits.0);
        named = λ t same. own_two (in_own_scope (stmt_scopes b.0.tree))
            (expr_scopes f.0.tree) t a.0.scopes b.0.scopes d.0.scopes h.0.scopes (o.same ∙ same) j.named
            (p.same ∙ l.same) (i.named ∙ ap Some (sym q.same ∙ sym m.same));
        low = two_up (stmt_height b.0.tree) (expr_height f.0.tree) room least j.low i.low;
        left = m.left;
      })

  abbrev for_start_form : Form ForStart
  for_start_form =
      record { text = for_start_text all; Fits = IsStart all; scopes = for_start_scopes; height = for_start_height }

  start_value_sound : (begun : Begun) (room : ℕ) (s : HeldScopes) (ts : List Lexeme) (x : Found ForStart)
      → IsTail all ts → start_value_with inner begun room s ts ≡ done x
      → Takes all for_start_form room s (begun_text begun ts) x
  unfolding start_value_with
  start_value_sound begun room s ts x tail e =
      let a = bind_ok e in
      let b = bind_ok a.2 in
      let i = laws.exprs.begun_sound Whole begun room refl s ts a.0 tail a.1 in
      let q =
      took_token all is_semicolon (kinds.Punct puncts.Semicolon) semicolon_kind a.0.scopes a.0.rest b.0 i.left b.1 in
      at_end (Takes all for_start_form room s (begun_text begun ts)) b.2 (record {
        spelled = i.spelled ∙ ap (expr_text all a.0.tree) q.spelled;
        fits = i.fits.0;
        named = i.named ∙ ap Some (sym q.same);
        low = i.low;
        left = q.left;
      })

  for_start_sound : (room : ℕ) → IsSound all for_start_form room (for_start_with inner room)
  unfolding for_start_with extended_start
  for_start_sound room s ts x tail e =
      if_ok (is_semicolon (kind_at ts)) e (λ is e.
      let a = bind_ok e in
      let o = took all (kinds.Punct puncts.Semicolon) s ts a.0 tail (semicolon_kind (kind_at ts) is) a.1 in
      at_end (Takes all for_start_form room s ts) a.2
      (record { spelled = o.spelled; fits = tt; named = ap Some (sym o.same); low = omega arith; left = o.left }))
      (λ is e.
      if_ok (is_extension (kind_at ts)) e (λ is e.
      let a = bind_ok e in
      let i = tokens.exts_sound room s ts a.0 tail a.1 in
      if_ok (begins_specs a.0.scopes (kind_at a.0.rest)) a.2 (λ begun e.
      let b = bind_ok e in
      at_end (Takes all for_start_form room s ts) b.2 (of_decl a.0.scopes
      (extensions_text a.0.tree a.0.rest) b.0 i.spelled (some_scopes s a.0.scopes i.named) (declaration_sound all
      numbered tokens n inner laws goes a.0.tree room a.0.scopes a.0.rest b.0 i.left b.1))) (λ begun e.
      let j = start_value_sound (extensions a.0.tree) room a.0.scopes a.0.rest x i.left e in
      record {
        spelled = i.spelled ∙ j.spelled;
        fits = j.fits;
        named = subst (λ (u : HeldScopes). for_start_scopes x.tree u ≡ Some x.scopes)
            (some_scopes s a.0.scopes i.named) j.named;
        low = j.low;
        left = j.left;
      })) (λ is e.
      if_ok (begins_specs s (kind_at ts)) e (λ begun e.
      let a = bind_ok e in
      at_end (Takes all for_start_form room s ts) a.2
      (of_decl s ts a.0 refl refl (declaration_sound all numbered tokens n inner laws goes [] room s ts a.0 tail a.1)))
      (λ begun e. start_value_sound nothing room s ts x tail e)))
    where
      of_decl : (t : HeldScopes) (us : List Lexeme) (y : Found Declaration) → ts ≡ us → t ≡ s
          → Takes all (declaration_form all) room t us y
          → Takes all for_start_form room s ts (found (start_declaration y.tree) y.scopes y.rest)
      of_decl t us y is same h = record {
        spelled = is ∙ h.spelled;
        fits = h.fits;
        named = subst (λ (u : HeldScopes). declaration_scopes y.tree u ≡ Some y.scopes) same h.named;
        low = h.low;
        left = h.left;
      }

  for_sound : (room : ℕ) (s : HeldScopes) (ts : List Lexeme) (x : Found Stmt) → 2 ≤ room → IsTail all ts
      → kind_at ts ≡ kinds.Keyword keywords.For → for_inside inner room s ts ≡ done x → TookInside room s ts x
  unfolding for_inside
  for_sound room s ts x least tail is e =
      let a = bind_ok e in
      let b = bind_ok a.2 in
      let c = bind_ok b.2 in
      let d = bind_ok c.2 in
      let f = bind_ok d.2 in
      let g = bind_ok f.2 in
      let h = bind_ok g.2 in
      let i = bind_ok h.2 in
      let o = took all (kinds.Keyword keywords.For) s ts a.0 tail is a.1 in
      let p =
      took_token all is_open_paren (kinds.Punct puncts.OpenParen) open_paren_kind a.0.scopes a.0.rest b.0 o.left b.1 in
      let j = for_start_sound (room - 1) b.0.scopes b.0.rest c.0 p.left c.1 in
      let l = some_expr_sound all numbered tokens n inner laws goes is_semicolon
      (room - 1) c.0.scopes c.0.rest d.0 j.left d.1 in
      let q =
      took_token all is_semicolon (kinds.Punct puncts.Semicolon) semicolon_kind d.0.scopes d.0.rest f.0 l.left f.1 in
      let m = some_expr_sound all numbered tokens n inner laws goes is_close_paren
      (room - 1) f.0.scopes f.0.rest g.0 q.left g.1 in
      let u = took_token all is_close_paren
      (kinds.Punct puncts.CloseParen) close_paren_kind g.0.scopes g.0.rest h.0 m.left h.1 in
      let v = part_sound all numbered tokens n inner laws goes (room - 1) h.0.scopes h.0.rest i.0 u.left i.1 in
      at_end (TookInside room s ts) i.2 (record {
        spelled =
            o.spelled ∙ ap (keyword_text keywords.For a.0.tree) (p.spelled ∙ ap (sign_text puncts.OpenParen b.0.tree)
            (j.spelled ∙ ap (for_start_text all c.0.tree) (l.spelled ∙ ap (some_expr_text all d.0.tree) (q.spelled ∙
            ap (sign_text puncts.Semicolon f.0.tree) (m.spelled
            ∙ ap (some_expr_text all g.0.tree) (u.spelled ∙ ap (sign_text puncts.CloseParen h.0.tree) v.spelled))))));
        fits = (j.fits, l.fits, m.fits, v.fits);
        named = λ t same. own_is (λ u. behind (behind (behind (for_start_scopes c.0.tree u) (some_expr_scopes d.0.tree))
            (some_expr_scopes g.0.tree)) (in_own_scope (stmt_scopes i.0.tree))) t i.0.scopes
            (behind_is (in_own_scope (stmt_scopes i.0.tree)) (behind_is (some_expr_scopes g.0.tree) (behind_is
            (some_expr_scopes d.0.tree) (through (for_start_scopes c.0.tree) (p.same ∙ o.same ∙ same) j.named refl)
            (through (some_expr_scopes d.0.tree) refl l.named q.same))
            (through (some_expr_scopes g.0.tree) refl m.named u.same)) v.named);
        low = four_up (for_start_height c.0.tree) (some_expr_height d.0.tree) (some_expr_height g.0.tree)
            (stmt_height i.0.tree) room least j.low l.low m.low v.low;
        left = v.left;
      })

  goto_name_sound : (keyword room : ℕ) (s : HeldScopes) (ts : List Lexeme) (x : Found Stmt) → 1 ≤ room → IsTail all ts
      → goto_name inner keyword s ts ≡ done x →
      Takes all (stmt_form all) room s (keyword_text keywords.Goto keyword ts) x
  unfolding goto_name
  goto_name_sound keyword room s ts x least tail e =
      let a = bind_ok e in
      let b = bind_ok a.2 in
      let p = took_name all s ts a.0 tail a.1 in
      let q =
      took_token all is_semicolon (kinds.Punct puncts.Semicolon) semicolon_kind a.0.scopes a.0.rest b.0 p.left b.1 in
      at_end (Takes all (stmt_form all) room s (keyword_text keywords.Goto keyword ts)) b.2 (record {
        spelled = ap (keyword_text keywords.Goto keyword) (p.spelled ∙ ap (identifier_text a.0.tree) q.spelled);
        fits = tt;
        named = ap Some (sym p.same ∙ sym q.same);
        low = least;
        left = q.left;
      })

  goto_value_sound : (keyword room : ℕ) (s : HeldScopes) (ts : List Lexeme) (x : Found Stmt) → IsTail all ts
      → is_wide s ≡ true → is_star (kind_at ts) ≡ true → goto_value_with inner keyword room s ts ≡ done x →
      Takes all (stmt_form all) room s (keyword_text keywords.Goto keyword ts) x
  unfolding goto_value_with
  goto_value_sound keyword room s ts x tail wide star e =
      let r = fits_ok _ _ _ e in
      let a = bind_ok r.1 in
      let b = bind_ok a.2 in
      let c = bind_ok b.2 in
      let o = took all (kinds.Punct puncts.Star) s ts a.0 tail (star_kind (kind_at ts) star) a.1 in
      let i = laws.exprs.sound Whole (room - 1) a.0.scopes a.0.rest b.0 o.left b.1 in
      let q =
      took_token all is_semicolon (kinds.Punct puncts.Semicolon) semicolon_kind b.0.scopes b.0.rest c.0 i.left c.1 in
      at_end (Takes all (stmt_form all) room s (keyword_text keywords.Goto keyword ts)) c.2 (record {
        spelled = ap (keyword_text keywords.Goto keyword)
            (o.spelled ∙ ap (sign_text puncts.Star a.0.tree) (i.spelled ∙ ap (expr_text all b.0.tree) q.spelled));
        fits = i.fits.0;
        named =
            behind_is (expr_scopes b.0.tree) (wide_is s wide) (through (expr_scopes b.0.tree) o.same i.named q.same);
        low = one_up (expr_height b.0.tree) room (omega (arith, r.0)) i.low;
        left = q.left;
      })

  goto_sound : (room : ℕ) (s : HeldScopes) (ts : List Lexeme) (x : Found Stmt) → IsTail all ts
      → kind_at ts ≡ kinds.Keyword keywords.Goto → goto_with inner room s ts ≡ done x
      → Takes all (stmt_form all) room s ts x
  unfolding goto_with
  goto_sound room s ts x tail is e =
      let r = fits_ok _ _ _ e in
      let a = bind_ok r.1 in
      let o = took all (kinds.Keyword keywords.Goto) s ts a.0 tail is a.1 in
      let t : Takes all (stmt_form all) room a.0.scopes (keyword_text keywords.Goto a.0.tree a.0.rest) x =
      if_ok (is_wide a.0.scopes && is_star (kind_at a.0.rest)) a.2
      (λ is e. goto_value_sound a.0.tree room a.0.scopes a.0.rest x o.left (and_first (is_wide a.0.scopes)
      (is_star (kind_at a.0.rest)) is) (and_second (is_wide a.0.scopes) (is_star (kind_at a.0.rest)) is) e)
      (λ is e. goto_name_sound a.0.tree room a.0.scopes a.0.rest x r.0 o.left e) in
      behind_token all (stmt_form all) room (kinds.Keyword keywords.Goto) s ts a.0 x o t

  jump_sound : (make : ℕ → ℕ → Stmt) (keyword : Keyword)
      → ((a b : ℕ) (k : List Lexeme)
      → keyword_text keyword a (sign_text puncts.Semicolon b k) ≡ stmt_text all (make a b) k)
      → ((a b : ℕ) → IsStmt all (make a b)) →
      ((a b : ℕ) (s : HeldScopes) → stmt_scopes (make a b) s ≡ Some s) → ((a b : ℕ) → stmt_height (make a b) ≡ 1) →
      (room : ℕ) (s : HeldScopes) (ts : List Lexeme) (x : Found Stmt) → IsTail all ts
      → kind_at ts ≡ kinds.Keyword keyword → jump_with inner make room s ts ≡ done x
      → Takes all (stmt_form all) room s ts x
  unfolding jump_with
  jump_sound make keyword text fits scopes high room s ts x tail is e =
      let r = fits_ok _ _ _ e in
      let a = bind_ok r.1 in
      let b = bind_ok a.2 in
      let o = took all (kinds.Keyword keyword) s ts a.0 tail is a.1 in
      let q =
      took_token all is_semicolon (kinds.Punct puncts.Semicolon) semicolon_kind a.0.scopes a.0.rest b.0 o.left b.1 in
      at_end (Takes all (stmt_form all) room s ts) b.2 (record {
        spelled = (o.spelled ∙ ap (keyword_text keyword a.0.tree) q.spelled) ∙ text a.0.tree b.0.tree b.0.rest;
        fits = fits a.0.tree b.0.tree;
        named = scopes a.0.tree b.0.tree s ∙ ap Some (sym o.same ∙ sym q.same);
        low = subst (λ (h : ℕ). h ≤ room) (sym (high a.0.tree b.0.tree)) r.0;
        left = q.left;
      })

  return_sound : (room : ℕ) (s : HeldScopes) (ts : List Lexeme) (x : Found Stmt) → IsTail all ts
      → kind_at ts ≡ kinds.Keyword keywords.Return → return_with inner room s ts ≡ done x
      → Takes all (stmt_form all) room s ts x
  unfolding return_with
  return_sound room s ts x tail is e =
      let r = fits_ok _ _ _ e in
      let a = bind_ok r.1 in
      let b = bind_ok a.2 in
      let c = bind_ok b.2 in
      let o = took all (kinds.Keyword keywords.Return) s ts a.0 tail is a.1 in
      let i = some_expr_sound all numbered tokens n inner laws goes is_semicolon
      (room - 1) a.0.scopes a.0.rest b.0 o.left b.1 in
      let q =
      took_token all is_semicolon (kinds.Punct puncts.Semicolon) semicolon_kind b.0.scopes b.0.rest c.0 i.left c.1 in
      at_end (Takes all (stmt_form all) room s ts) c.2 (record {
        spelled = o.spelled
            ∙ ap (keyword_text keywords.Return a.0.tree) (i.spelled ∙ ap (some_expr_text all b.0.tree) q.spelled);
        fits = i.fits;
        named = through (some_expr_scopes b.0.tree) o.same i.named q.same;
        low = one_up (some_expr_height b.0.tree) room r.0 i.low;
        left = q.left;
      })

  asm_sound : (room : ℕ) (s : HeldScopes) (ts : List Lexeme) (x : Found Stmt) → IsTail all ts
      → kind_at ts ≡ kinds.Keyword keywords.Asm → asm_with inner room s ts ≡ done x
      → Takes all (stmt_form all) room s ts x
  unfolding asm_with
  asm_sound room s ts x tail is e =
      let r = fits_ok _ _ _ e in
      let a = bind_ok r.1 in
      let b = bind_ok a.2 in
      let c = bind_ok b.2 in
      let d = bind_ok c.2 in
      let o = took all (kinds.Keyword keywords.Asm) s ts a.0 tail is a.1 in
      let i = tokens.asm_words_sound 0 a.0.scopes a.0.rest b.0 o.left b.1 in
      let j = tokens.group_sound 0 b.0.scopes b.0.rest c.0 i.left c.1 in
      let q =
      took_token all is_semicolon (kinds.Punct puncts.Semicolon) semicolon_kind c.0.scopes c.0.rest d.0 j.left d.1 in
      at_end (Takes all (stmt_form all) room s ts) d.2 (record {
        spelled = o.spelled ∙ ap (keyword_text keywords.Asm a.0.tree)
            (i.spelled ∙ ap (words_text b.0.tree) (j.spelled ∙ ap (group_text all c.0.tree) q.spelled));
        fits = (i.fits, j.fits);
        named = ap Some (sym o.same ∙ sym (some_scopes a.0.scopes b.0.scopes i.named)
            ∙ sym (some_scopes b.0.scopes c.0.scopes j.named) ∙ sym q.same);
        low = r.0;
        left = q.left;
      })

  attr_stmt_sound : (room : ℕ) (s : HeldScopes) (ts : List Lexeme) (x : Found Stmt) → IsTail all ts
      → kind_at ts ≡ kinds.Keyword keywords.Attribute → attr_stmt_with inner room s ts ≡ done x
      → Takes all (stmt_form all) room s ts x
  unfolding attr_stmt_with
  attr_stmt_sound room s ts x tail is e =
      let a = bind_ok e in
      let b = bind_ok a.2 in
      let i = tokens.attrs_sound room s ts a.0 tail a.1 in
      let q =
      took_token all is_semicolon (kinds.Punct puncts.Semicolon) semicolon_kind a.0.scopes a.0.rest b.0 i.left b.1 in
      let some : a.0.tree ≢ [] = λ none.
      contra (is_attribute (kind_at ts)) (ap is_attribute is) (ap (λ (k : List Lexeme). is_attribute (kind_at k))
      (i.spelled ∙ ap (λ (them : List Attr). attrs_text all them a.0.rest) none) ∙
      attrs_end all numbered tokens n inner laws goes room s ts a.0 a.1) in
      at_end (Takes all (stmt_form all) room s ts) b.2 (record {
        spelled = i.spelled ∙ ap (attrs_text all a.0.tree) q.spelled;
        fits = (some, i.fits);
        named = i.named ∙ ap Some (sym q.same);
        low = attr_room a.0.tree room some i.low;
        left = q.left;
      })

  named_stmt_sound : (name room : ℕ) (s : HeldScopes) (ts : List Lexeme) (x : Found Stmt) → IsTail all ts
      → named_stmt inner name room s ts ≡ done x → Takes all (stmt_form all) room s ts x
  unfolding named_stmt
  named_stmt_sound name room s ts x tail e =
      let r = fits_ok _ _ _ e in
      if_ok (is_colon (kind_at (behind_first ts))) r.1 (λ c e. label_sound all numbered tokens n inner laws goes
      (attrs_end all numbered tokens n inner laws goes) room s ts x r.0 tail e) (λ c e.
      if_ok (names_type s name) e (λ typed e. absurd cc) (λ typed e.
      expr_stmt_sound all numbered tokens n inner laws goes nothing room s ts x (some_room room r.0) tail e))

  stmt_by_sound : (start : StmtStart) (room : ℕ) (s : HeldScopes) (ts : List Lexeme) (x : Found Stmt) → IsTail all ts
      → IsStmtStart start (kind_at ts) → stmt_by inner start room s ts ≡ done x → Takes all (stmt_form all) room s ts x
  unfolding stmt_by
  stmt_by_sound starts.Block room s ts x tail is e =
      let a = bind_ok e in
      let i = block_sound all numbered tokens n inner laws goes room s ts a.0 tail a.1 in
      at_end (Takes all (stmt_form all) room s ts) a.2
      (record { spelled = i.spelled; fits = i.fits; named = i.named; low = i.low; left = i.left })
  stmt_by_sound starts.Semicolon room s ts x tail is e =
      let r = fits_ok _ _ _ e in
      let a = bind_ok r.1 in
      let o = took all (kinds.Punct puncts.Semicolon) s ts a.0 tail is a.1 in
      at_end (Takes all (stmt_form all) room s ts) a.2
      (record { spelled = o.spelled; fits = tt; named = ap Some (sym o.same); low = r.0; left = o.left })
  stmt_by_sound starts.Attribute room s ts x tail is e = attr_stmt_sound room s ts x tail is e
  stmt_by_sound (starts.Name name) room s ts x tail is e = named_stmt_sound name room s ts x tail e
  stmt_by_sound starts.Case room s ts x tail is e = case_sound room s ts x tail is e
  stmt_by_sound starts.Default room s ts x tail is e = default_sound room s ts x tail is e
  stmt_by_sound starts.If room s ts x tail is e =
      let r = fits_ok _ _ _ e in
      inside_is room s ts (if_inside inner room) x (λ y e. if_sound room (enter s) ts y r.0 tail is e) r.1
  stmt_by_sound starts.Switch room s ts x tail is e =
      let r = fits_ok _ _ _ e in
      inside_is room s ts (headed_inside inner switch_stmt room) x
      (λ y e. headed_sound switch_stmt keywords.Switch (λ a b c e t k. refl) (λ a b c e t h i. (h, i))
      (λ a b c e t s. refl) (λ a b c e t. refl) room (enter s) ts y r.0 tail is e) r.1
  stmt_by_sound starts.While room s ts x tail is e =
      let r = fits_ok _ _ _ e in
      inside_is room s ts (headed_inside inner while_stmt room) x
      (λ y e. headed_sound while_stmt keywords.While (λ a b c e t k. refl) (λ a b c e t h i. (h, i))
      (λ a b c e t s. refl) (λ a b c e t. refl) room (enter s) ts y r.0 tail is e) r.1
  stmt_by_sound starts.Do room s ts x tail is e =
      let r = fits_ok _ _ _ e in
      inside_is room s ts (do_inside inner room) x (λ y e. do_sound room (enter s) ts y r.0 tail is e) r.1
  stmt_by_sound starts.For room s ts x tail is e =
      let r = fits_ok _ _ _ e in
      inside_is room s ts (for_inside inner room) x (λ y e. for_sound room (enter s) ts y r.0 tail is e) r.1
  stmt_by_sound starts.Goto room s ts x tail is e = goto_sound room s ts x tail is e
  stmt_by_sound starts.Continue room s ts x tail is e =
      jump_sound continue_stmt keywords.Continue (λ a b k. refl) (λ a b. tt) (λ a b s. refl)
      (λ a b. refl) room s ts x tail is e
  stmt_by_sound starts.Break room s ts x tail is e =
      jump_sound break_stmt keywords.Break (λ a b k. refl) (λ a b. tt) (λ a b s. refl)
      (λ a b. refl) room s ts x tail is e
  stmt_by_sound starts.Return room s ts x tail is e = return_sound room s ts x tail is e
  stmt_by_sound starts.Asm room s ts x tail is e = asm_sound room s ts x tail is e
  stmt_by_sound starts.Value room s ts x tail is e =
      if_ok (begins_expr s (kind_at ts)) e (λ begun e. let r = fits_ok _ _ _ e in
      expr_stmt_sound all numbered tokens n inner laws goes nothing room s ts x (some_room room r.0) tail r.1)
      (λ begun e. absurd cc)

  pub stmt_sound : (room : ℕ) → IsSound all (stmt_form all) room (stmt_with inner room)
  unfolding stmt_with
  stmt_sound room s ts x tail e =
      stmt_by_sound (stmt_start (kind_at ts)) room s ts x tail (stmt_start_is (kind_at ts)) e
