-- The readers of declarations, blocks and statements take tokens.
use Rattle.std.proofs.Common.{◌≡◌, ℕ, ◌<◌, ◌≤◌, Bool, true, false, List, [], length, Option, Some, None, sym, arith}
use Rattle.std.specs.Prelude.{◌-◌, ◌&&◌, not}
use Rattle.c_words.specs.declared.kinds.TokenKind.{TokenKind}
use Rattle.c_tree.specs.declared.lexeme.Lexeme.{Lexeme}
use Rattle.c_syntax.specs.declared.parts.Attr.{Attr}
use Rattle.c_tree.specs.Tree.{Expr, SpecWords, Declr, SomeDeclr, no_declr, some_declr, Stmt, switch_stmt, while_stmt, continue_stmt, break_stmt}
use Rattle.c_units.specs.HeldScopes.{HeldScopes, is_wide, names_type}
use Rattle.c_units.specs.Scoping.{at_name, declared_kind, has_typedef_word}
use Rattle.typedef_scope.specs.declared.kind.Kind.{Kind}
use Rattle.typedef_scope.specs.declared.kind.Kind.TheVariants.{Value}
use Rattle.c_tree.specs.Specifiers.{storage_words}
use Rattle.c_tree.specs.WellFormed.{has_auto}
use Rattle.c_reading.specs.declared.kinds.Role.TheVariants.{Declaring}
use Rattle.c_reading.specs.Declaring.{name_held, next_name, names_list}
use Rattle.c_reading.specs.declared.kinds.StmtStart.{StmtStart}
use Rattle.c_reading.specs.declared.kinds.StmtStart.TheVariants as starts
use Rattle.c_reading.specs.Reading.{Found, Reader, kind_at, behind_first}
use Rattle.c_reading.specs.Tokens.{is_open_paren, is_close_paren, is_open_brace, is_close_brace, is_colon, is_semicolon, is_equal, is_asm, is_while, is_else, is_extension, is_attribute, is_static_assert, is_label_word, is_dots, is_star, is_base_word, name_at, spelled_name}
use Rattle.c_reading.specs.Parts.{Inner, Begun, nothing, Declared, DeclrItem}
use Rattle.c_reading.specs.Specifying.{begins_specs, present}
use Rattle.c_reading.specs.Expressing.{begins_expr}
use Rattle.c_reading.specs.Stating.{stmt_start, in_own, label_at, some_init_with, declr_behind, init_declr_with, next_init_declr, declrs_with, bare_declaration, auto_declr, auto_name, auto_declarator, auto_behind, declaration_behind, declaration_with, declaration_from, expr_stmt_with, label_with, named_item, extended_item, attr_item_by, attr_item, other_item, block_item_with, labels_with, range_behind, value_behind, goto_value_with, goto_name, block_body, block_with, part_with, some_expr_with, case_with, default_with, some_else_with, if_inside, headed_inside, do_inside, start_value_with, extended_start, for_start_with, for_inside, goto_with, jump_with, return_with, asm_with, attr_stmt_with, named_stmt, stmt_by, stmt_with}
use Rattle.c_reading.proofs.Binding.{done, bind_ok, fits_ok, if_ok, take_falls, token_falls, and_one, and_fewer, then_one, then_fewer, then_no_more}
use Rattle.c_reading.proofs.Forms.{Falls, Shrinks, shrinks_falls, name_falls}
use Rattle.c_reading.proofs.Rows.{repeated_falls}
use Rattle.c_reading.proofs.Commas.{listed_falls, listed_shrinks}
use Rattle.c_reading.proofs.Aims.{TokenLaws, Laws}
use Rattle.c_reading.proofs.Shared.{specs_here_shrinks, named_declr_shrinks, init_shrinks}
use Rattle.c_reading.proofs.ExprFalls.{left_is}

module _ (all : List Lexeme) (tokens : TokenLaws all) (n : ℕ) (inner : Inner) (laws : Laws all n inner) where
  label_falls : Falls label_at
  unfolding label_at
  label_falls s ts x e =
      if_ok (is_asm (kind_at ts)) e (λ is e.
      let a = bind_ok e in
      let b = bind_ok a.2 in
      omega (arith, take_falls _ _ _ a.1, tokens.group_shrinks _ _ _ b.1, left_is b.2))
      (λ is e. omega (arith, left_is e))

  pub some_init_falls : (room : ℕ) → Falls (some_init_with inner room)
  unfolding some_init_with
  some_init_falls room s ts x e =
      if_ok (is_equal (kind_at ts)) e (λ is e.
      let a = bind_ok e in
      let b = bind_ok a.2 in
      omega (arith, take_falls _ _ _ a.1, init_shrinks all n inner laws (room - 1) _ _ _ b.1, left_is b.2))
      (λ is e. omega (arith, left_is e))

  pub declr_behind_falls : (before : List Attr) (d : Declr) (room : ℕ) → Falls (declr_behind inner before d room)
  unfolding declr_behind
  declr_behind_falls before d room s ts x e =
      let a = bind_ok e in
      let b = bind_ok a.2 in
      let c = bind_ok b.2 in
      omega (arith, label_falls _ _ _ a.1, tokens.attrs_falls _ _ _ _ b.1, some_init_falls _ _ _ _ c.1, left_is c.2)

  pub init_declr_shrinks : (before : List Attr) (kind : Kind) (room : ℕ)
      → Shrinks (init_declr_with inner before kind room)
  unfolding init_declr_with
  init_declr_shrinks before kind room s ts x e =
      let a = bind_ok e in
      omega (arith, named_declr_shrinks all n inner laws _ _ _ _ _ a.1, declr_behind_falls _ _ _ _ _ _ a.2)

  pub next_declr_falls : (kind : Kind) (room token : ℕ) → Falls (next_init_declr inner kind room token)
  unfolding next_init_declr
  next_declr_falls kind room token s ts x e =
      let a = bind_ok e in
      let b = bind_ok a.2 in
      omega (arith, tokens.attrs_falls _ _ _ _ a.1, init_declr_shrinks _ _ _ _ _ _ b.1, left_is b.2)

  pub next_declr_shrinks : (kind : Kind) (room token : ℕ) → Shrinks (next_init_declr inner kind room token)
  unfolding next_init_declr
  next_declr_shrinks kind room token s ts x e =
      let a = bind_ok e in
      let b = bind_ok a.2 in
      omega (arith, tokens.attrs_falls _ _ _ _ a.1, init_declr_shrinks _ _ _ _ _ _ b.1, left_is b.2)

  pub declrs_shrinks : (exts : List ℕ) (words : SpecWords) (kind : Kind) (room : ℕ) (first : Reader DeclrItem)
      → Falls first → Shrinks (declrs_with inner exts words kind room first)
  unfolding declrs_with
  declrs_shrinks exts words kind room first falls s ts x e =
      let a = bind_ok e in
      let b = bind_ok a.2 in
      omega (
        arith,
        listed_falls first (next_init_declr inner kind (room - 1)) (next_declr_falls kind (room - 1)) falls _ _ _ a.1,
        token_falls is_semicolon _ _ _ b.1,
        left_is b.2,
      )

  pub bare_shrinks : (exts : List ℕ) (words : SpecWords) (room : ℕ) → Shrinks (bare_declaration inner exts words room)
  unfolding bare_declaration
  bare_shrinks exts words room s ts x e =
      let r = fits_ok _ _ _ e in
      let a = bind_ok r.1 in
      omega (arith, take_falls _ _ _ a.1, left_is a.2)

  -- a name that is held, whatever the scopes made of it
  name_held_shrinks : (name room : ℕ) (held : Option HeldScopes) (s : HeldScopes) (ts : List Lexeme)
      (x : Found Declared)
      → name_held name room held s ts ≡ done x → length x.rest < length ts
  name_held_shrinks name room None s ts x e = absurd cc
  name_held_shrinks name room (Some held) s ts x e =
      let r = fits_ok _ _ _ e in
      let a = bind_ok r.1 in
      omega (arith, take_falls _ _ _ a.1, left_is a.2)

  present_falls : (d : SomeDeclr) (s : HeldScopes) (ts : List Lexeme) (x : Found Declr) → present d s ts ≡ done x
      → length x.rest ≡ length ts
  present_falls no_declr s ts x e = absurd cc
  present_falls (some_declr d) s ts x e = sym (left_is e)

  auto_name_shrinks : (o : Option ℕ) (room : ℕ) → Shrinks (auto_name inner o room)
  auto_name_shrinks None room s ts x e = absurd cc
  auto_name_shrinks (Some name) room s ts x e =
      let a = bind_ok e in
      omega (
        arith,
        name_held_shrinks name room (at_name (Some Value) name s) s ts a.0 a.1,
        present_falls a.0.tree.declr a.0.scopes a.0.rest x a.2,
      )

  auto_declr_shrinks : (exts : List ℕ) (words : SpecWords) (d : Declr) (room : ℕ)
      → Shrinks (auto_declr inner exts words d room)
  unfolding auto_declr
  auto_declr_shrinks exts words d room s ts x e =
      let a = bind_ok e in
      let b = bind_ok a.2 in
      let c = bind_ok b.2 in
      let f = bind_ok c.2 in
      omega (
        arith,
        tokens.attrs_falls _ _ _ _ a.1,
        token_falls is_equal _ _ _ b.1,
        laws.exprs.shrinks _ _ _ _ _ _ c.1,
        token_falls is_semicolon _ _ _ f.1,
        left_is f.2,
      )

  auto_declarator_shrinks : (typed : Bool) (room : ℕ) → Shrinks (auto_declarator inner typed room)
  auto_declarator_shrinks false room s ts x e = auto_name_shrinks (spelled_name (kind_at ts)) room s ts x e
  auto_declarator_shrinks true room s ts x e =
      if_ok (is_base_word (kind_at ts)) e (λ is e.
      let r = fits_ok _ _ _ e in
      let a = bind_ok r.1 in
      omega (arith, take_falls _ _ _ a.1, left_is a.2)) (λ is e. absurd cc)

  pub auto_shrinks : (exts : List ℕ) (words : SpecWords) (room : ℕ) → Shrinks (auto_behind inner exts words room)
  unfolding auto_behind
  auto_shrinks exts words room s ts x e =
      let a = bind_ok e in
      omega (
        arith,
        auto_declarator_shrinks (has_typedef_word (storage_words words)) (room - 2) _ _ _ a.1,
        auto_declr_shrinks _ _ _ _ _ _ _ a.2,
      )

  pub declaration_behind_shrinks : (exts : List ℕ) (words : SpecWords) (room : ℕ)
      → Shrinks (declaration_behind inner exts words room)
  unfolding declaration_behind
  declaration_behind_shrinks exts words room s ts x e =
      if_ok (has_auto words) e (λ is e. auto_shrinks exts words room s ts x e) (λ is e.
      if_ok (is_semicolon (kind_at ts)) e (λ is e. bare_shrinks exts words room s ts x e) (λ is e.
      declrs_shrinks exts words (declared_kind words) room (init_declr_with inner [] (declared_kind words) (room - 1))
      (shrinks_falls _ (init_declr_shrinks [] (declared_kind words) (room - 1))) s ts x e))

  declaration_shrinks : (exts : List ℕ) (room : ℕ) → Shrinks (declaration_with inner exts room)
  unfolding declaration_with
  declaration_shrinks exts room s ts x e =
      let a = bind_ok e in
      omega
      (arith, specs_here_shrinks all n inner laws Declaring room _ _ _ a.1, declaration_behind_shrinks _ _ _ _ _ _ a.2)

  declaration_from_shrinks : (known : SpecWords) (room : ℕ) → Shrinks (declaration_from inner known room)
  unfolding declaration_from
  declaration_from_shrinks known room s ts x e =
      let a = bind_ok e in
      omega (arith, laws.words.falls _ _ _ _ _ _ a.1, declaration_behind_shrinks _ _ _ _ _ _ a.2)

  expr_stmt_shrinks : (begun : Begun) (room : ℕ) → Shrinks (expr_stmt_with inner begun room)
  unfolding expr_stmt_with
  expr_stmt_shrinks begun room s ts x e =
      let a = bind_ok e in
      let b = bind_ok a.2 in
      omega (arith, laws.exprs.shrinks _ _ _ _ _ _ a.1, token_falls is_semicolon _ _ _ b.1, left_is b.2)

  label_stmt_shrinks : (room : ℕ) → Shrinks (label_with inner room)
  unfolding label_with
  label_stmt_shrinks room s ts x e =
      let a = bind_ok e in
      let b = bind_ok a.2 in
      let c = bind_ok b.2 in
      let d = bind_ok c.2 in
      omega (
        arith,
        name_falls _ _ _ a.1,
        token_falls is_colon _ _ _ b.1,
        tokens.attrs_falls _ _ _ _ c.1,
        laws.stmts.shrinks _ _ _ _ d.1,
        left_is d.2,
      )

  as_is : {A B : Type 0} {x : Found B} {y : Found B} (z : Found A) (ts : List Lexeme) → length z.rest < length ts
      → done y ≡ done x → length y.rest ≡ length z.rest → length x.rest < length ts
  as_is z ts less e same = omega (arith, less, same, left_is e)

  named_item_shrinks : (name room : ℕ) → Shrinks (named_item inner name room)
  unfolding named_item
  named_item_shrinks name room s ts x e =
      if_ok (is_colon (kind_at (behind_first ts))) (fits_ok _ _ _ e).1 (λ is e.
      let a = bind_ok e in
      omega (arith, label_stmt_shrinks _ _ _ _ a.1, left_is a.2)) (λ is e.
      if_ok (names_type s name) e (λ is e.
      let a = bind_ok e in
      let b = bind_ok a.2 in
      omega (arith, take_falls _ _ _ a.1, declaration_from_shrinks _ _ _ _ _ b.1, left_is b.2)) (λ is e.
      let a = bind_ok e in
      omega (arith, expr_stmt_shrinks _ _ _ _ _ a.1, left_is a.2)))

  extended_item_shrinks : (room : ℕ) → Shrinks (extended_item inner room)
  unfolding extended_item
  extended_item_shrinks room s ts x e =
      let a = bind_ok e in
      if_ok (begins_specs a.0.scopes (kind_at a.0.rest)) a.2 (λ is e.
      let b = bind_ok e in
      omega (arith, tokens.exts_falls _ _ _ _ a.1, declaration_shrinks _ _ _ _ _ b.1, left_is b.2)) (λ is e.
      let b = bind_ok e in
      omega (arith, tokens.exts_falls _ _ _ _ a.1, expr_stmt_shrinks _ _ _ _ _ b.1, left_is b.2))

  attr_item_by_shrinks : (attrs : List Attr) (room : ℕ) → Shrinks (attr_item_by inner attrs room)
  unfolding attr_item_by
  attr_item_by_shrinks attrs room s ts x e =
      if_ok (is_semicolon (kind_at ts)) e (λ is e.
      let a = bind_ok e in
      omega (arith, take_falls _ _ _ a.1, left_is a.2)) (λ is e.
      if_ok (begins_specs s (kind_at ts)) e (λ is e.
      let a = bind_ok e in
      omega (arith, declaration_from_shrinks _ _ _ _ _ a.1, left_is a.2)) (λ is e. absurd cc))

  attr_item_shrinks : (room : ℕ) → Shrinks (attr_item inner room)
  unfolding attr_item
  attr_item_shrinks room s ts x e =
      let a = bind_ok e in
      omega (arith, tokens.attrs_falls _ _ _ _ a.1, attr_item_by_shrinks _ _ _ _ _ a.2)

  other_item_shrinks : (name : Option ℕ) (room : ℕ) → Shrinks (other_item inner name room)
  unfolding other_item
  other_item_shrinks (Some name) room s ts x e = named_item_shrinks name room s ts x e
  other_item_shrinks None room s ts x e =
      if_ok (begins_specs s (kind_at ts)) e (λ is e.
      let a = bind_ok e in
      omega (arith, declaration_shrinks _ _ _ _ _ a.1, left_is a.2)) (λ is e.
      let a = bind_ok e in
      omega (arith, laws.stmts.shrinks _ _ _ _ a.1, left_is a.2))

  pub block_item_shrinks : (room : ℕ) → Shrinks (block_item_with inner room)
  unfolding block_item_with
  block_item_shrinks room s ts x e =
      if_ok (is_static_assert (kind_at ts)) e (λ is e.
      let r = fits_ok _ _ _ e in
      let a = bind_ok r.1 in
      omega (arith, tokens.assert_shrinks _ _ _ a.1, left_is a.2)) (λ is e.
      if_ok (is_extension (kind_at ts)) e (λ is e. extended_item_shrinks room s ts x e) (λ is e.
      if_ok (is_attribute (kind_at ts)) e (λ is e. attr_item_shrinks room s ts x e)
      (λ is e. other_item_shrinks (spelled_name (kind_at ts)) room s ts x e)))

  next_name_falls : (separator : ℕ) → Falls (next_name name_at separator)
  next_name_falls separator s ts x e =
      let a = bind_ok e in
      omega (arith, name_falls _ _ _ a.1, left_is a.2)

  name_shrinks : Shrinks name_at
  name_shrinks s ts x e = omega (arith, name_falls s ts x e)

  pub labels_shrinks : (room : ℕ) → Shrinks (labels_with inner room)
  unfolding labels_with names_list
  labels_shrinks room s ts x e =
      let r = fits_ok _ _ _ e in
      let a = bind_ok r.1 in
      let b = bind_ok a.2 in
      let c = bind_ok b.2 in
      let l = bind_ok b.1 in
      omega (
        arith,
        take_falls _ _ _ a.1,
        listed_shrinks name_at (next_name name_at) next_name_falls name_shrinks _ _ _ l.1,
        left_is l.2,
        token_falls is_semicolon _ _ _ c.1,
        left_is c.2,
      )

  pub block_body_shrinks : (room : ℕ) → Shrinks (block_body inner room)
  unfolding block_body
  block_body_shrinks room s ts x e =
      let a = bind_ok e in
      let b = bind_ok a.2 in
      let c = bind_ok b.2 in
      let d = bind_ok c.2 in
      omega (
        arith,
        take_falls _ _ _ a.1,
        repeated_falls is_label_word (labels_with inner (room - 1)) (labels_shrinks (room - 1)) _ _ _ b.1,
        repeated_falls (λ kind. not (is_close_brace kind)) (block_item_with inner (room - 1))
            (block_item_shrinks (room - 1)) _ _ _ c.1,
        token_falls is_close_brace _ _ _ d.1,
        left_is d.2,
      )

  in_own_shrinks : {A : Type 0} (read : Reader A) → Shrinks read → Shrinks (in_own read)
  in_own_shrinks read shrinks s ts x e =
      let a = bind_ok e in
      omega (arith, shrinks _ _ _ a.1, left_is a.2)

  pub block_shrinks : (room : ℕ) → Shrinks (block_with inner room)
  unfolding block_with
  block_shrinks room s ts x e =
      if_ok (is_open_brace (kind_at ts)) e (λ is e. in_own_shrinks (block_body inner room)
      (block_body_shrinks room) s ts x (fits_ok _ _ _ e).1) (λ is e. absurd cc)

  part_shrinks : (room : ℕ) → Shrinks (part_with inner room)
  part_shrinks room s ts x e = in_own_shrinks (inner.stmt room) (laws.stmts.shrinks room) s ts x e

  some_expr_falls : (test : TokenKind → Bool) (room : ℕ) → Falls (some_expr_with inner test room)
  unfolding some_expr_with
  some_expr_falls test room s ts x e =
      if_ok (test (kind_at ts)) e (λ is e. omega (arith, left_is e)) (λ is e.
      let a = bind_ok e in
      omega (arith, laws.exprs.shrinks _ _ _ _ _ _ a.1, left_is a.2))

  range_shrinks : (keyword : ℕ) (first : Expr) (room : ℕ) → Shrinks (range_behind inner keyword first room)
  unfolding range_behind
  range_shrinks keyword first room s ts x e =
      let a = bind_ok e in
      let b = bind_ok a.2 in
      let c = bind_ok b.2 in
      let d = bind_ok c.2 in
      omega (
        arith,
        take_falls _ _ _ a.1,
        laws.exprs.shrinks _ _ _ _ _ _ b.1,
        token_falls is_colon _ _ _ c.1,
        laws.stmts.shrinks _ _ _ _ d.1,
        left_is d.2,
      )

  value_shrinks : (keyword : ℕ) (v : Expr) (room : ℕ) → Shrinks (value_behind inner keyword v room)
  unfolding value_behind
  value_shrinks keyword v room s ts x e =
      let a = bind_ok e in
      let b = bind_ok a.2 in
      omega (arith, token_falls is_colon _ _ _ a.1, laws.stmts.shrinks _ _ _ _ b.1, left_is b.2)

  case_shrinks : (room : ℕ) → Shrinks (case_with inner room)
  unfolding case_with
  case_shrinks room s ts x e =
      let r = fits_ok _ _ _ e in
      let a = bind_ok r.1 in
      let b = bind_ok a.2 in
      let rest : length x.rest < length b.0.rest = if_ok (is_wide b.0.scopes && is_dots (kind_at b.0.rest)) b.2
      (λ is e. range_shrinks a.0.tree b.0.tree room b.0.scopes b.0.rest x e)
      (λ is e. value_shrinks a.0.tree b.0.tree room b.0.scopes b.0.rest x e) in
      omega (arith, take_falls _ _ _ a.1, laws.exprs.shrinks _ _ _ _ _ _ b.1, rest)

  default_shrinks : (room : ℕ) → Shrinks (default_with inner room)
  unfolding default_with
  default_shrinks room s ts x e =
      let r = fits_ok _ _ _ e in
      let a = bind_ok r.1 in
      let b = bind_ok a.2 in
      let c = bind_ok b.2 in
      omega (arith, take_falls _ _ _ a.1, token_falls is_colon _ _ _ b.1, laws.stmts.shrinks _ _ _ _ c.1, left_is c.2)

  some_else_falls : (room : ℕ) → Falls (some_else_with inner room)
  unfolding some_else_with
  some_else_falls room s ts x e =
      if_ok (is_else (kind_at ts)) e (λ is e.
      let a = bind_ok e in
      let b = bind_ok a.2 in
      omega (arith, take_falls _ _ _ a.1, part_shrinks room a.0.scopes a.0.rest b.0 b.1, left_is b.2))
      (λ is e. omega (arith, left_is e))

  equal_falls : (a b : ℕ) → a ≡ b → b ≤ a
  equal_falls a b e = omega (arith, e)

  if_shrinks : (room : ℕ) → Shrinks (if_inside inner room)
  unfolding if_inside
  if_shrinks room s ts x e =
      let a = bind_ok e in
      let b = bind_ok a.2 in
      let c = bind_ok b.2 in
      let d = bind_ok c.2 in
      let f = bind_ok d.2 in
      let g = bind_ok f.2 in
      then_one _ _ _ (then_one _ _ _ (then_fewer _ _ _
      (then_one _ _ _ (and_fewer _ _ _ (le_le _ _ _ (equal_falls _ _ (left_is g.2)) (some_else_falls _ _ _ _ g.1))
      (part_shrinks (room - 1) d.0.scopes d.0.rest f.0 f.1)) (token_falls is_close_paren _ _ _ d.1))
      (laws.exprs.shrinks _ _ _ _ _ _ c.1)) (token_falls is_open_paren _ _ _ b.1)) (take_falls _ _ _ a.1)
    where
      le_le : (a b c : ℕ) → a ≤ b → b ≤ c → a ≤ c
      le_le a b c p q = omega (arith, p, q)

  headed_shrinks : (make : ℕ → ℕ → Expr → ℕ → Stmt → Stmt) (room : ℕ) → Shrinks (headed_inside inner make room)
  unfolding headed_inside
  headed_shrinks make room s ts x e =
      let a = bind_ok e in
      let b = bind_ok a.2 in
      let c = bind_ok b.2 in
      let d = bind_ok c.2 in
      let f = bind_ok d.2 in
      then_one _ _ _ (then_one _ _ _ (then_fewer _ _ _ (then_one _ _ _ (and_fewer _ _ _ (equal_falls _ _ (left_is f.2))
      (part_shrinks (room - 1) d.0.scopes d.0.rest f.0 f.1)) (token_falls is_close_paren _ _ _ d.1))
      (laws.exprs.shrinks _ _ _ _ _ _ c.1)) (token_falls is_open_paren _ _ _ b.1)) (take_falls _ _ _ a.1)

  do_shrinks : (room : ℕ) → Shrinks (do_inside inner room)
  unfolding do_inside
  do_shrinks room s ts x e =
      let a = bind_ok e in
      let b = bind_ok a.2 in
      let c = bind_ok b.2 in
      let d = bind_ok c.2 in
      let f = bind_ok d.2 in
      let g = bind_ok f.2 in
      let h = bind_ok g.2 in
      then_one _ _ _ (then_fewer _ _ _ (then_one _ _ _ (then_one _ _ _ (then_fewer _ _ _ (then_one _ _ _ (and_one _ _ _
      (equal_falls _ _ (left_is h.2)) (token_falls is_semicolon _ _ _ h.1)) (token_falls is_close_paren _ _ _ g.1))
      (laws.exprs.shrinks _ _ _ _ _ _ f.1)) (token_falls is_open_paren _ _ _ d.1)) (token_falls is_while _ _ _ c.1))
      (part_shrinks (room - 1) a.0.scopes a.0.rest b.0 b.1)) (take_falls _ _ _ a.1)

  start_value_shrinks : (begun : Begun) (room : ℕ) → Shrinks (start_value_with inner begun room)
  unfolding start_value_with
  start_value_shrinks begun room s ts x e =
      let a = bind_ok e in
      let b = bind_ok a.2 in
      omega (arith, laws.exprs.shrinks _ _ _ _ _ _ a.1, token_falls is_semicolon _ _ _ b.1, left_is b.2)

  extended_start_shrinks : (room : ℕ) → Shrinks (extended_start inner room)
  unfolding extended_start
  extended_start_shrinks room s ts x e =
      let a = bind_ok e in
      if_ok (begins_specs a.0.scopes (kind_at a.0.rest)) a.2 (λ is e.
      let b = bind_ok e in
      omega (arith, tokens.exts_falls _ _ _ _ a.1, declaration_shrinks _ _ _ _ _ b.1, left_is b.2)) (λ is e.
      omega (arith, tokens.exts_falls _ _ _ _ a.1, start_value_shrinks _ _ _ _ _ e))

  for_start_shrinks : (room : ℕ) → Shrinks (for_start_with inner room)
  unfolding for_start_with
  for_start_shrinks room s ts x e =
      if_ok (is_semicolon (kind_at ts)) e (λ is e.
      let a = bind_ok e in
      omega (arith, take_falls _ _ _ a.1, left_is a.2)) (λ is e.
      if_ok (is_extension (kind_at ts)) e (λ is e. extended_start_shrinks room s ts x e) (λ is e.
      if_ok (begins_specs s (kind_at ts)) e (λ is e.
      let a = bind_ok e in
      omega (arith, declaration_shrinks _ _ _ _ _ a.1, left_is a.2))
      (λ is e. start_value_shrinks nothing room s ts x e)))

  for_shrinks : (room : ℕ) → Shrinks (for_inside inner room)
  unfolding for_inside
  for_shrinks room s ts x e =
      let a = bind_ok e in
      let b = bind_ok a.2 in
      let c = bind_ok b.2 in
      let d = bind_ok c.2 in
      let f = bind_ok d.2 in
      let g = bind_ok f.2 in
      let h = bind_ok g.2 in
      let i = bind_ok h.2 in
      then_one _ _ _ (then_one _ _ _ (then_fewer _ _ _ (then_no_more _ _ _
      (then_one _ _ _ (then_no_more _ _ _ (then_one _ _ _ (and_fewer _ _ _ (equal_falls _ _ (left_is i.2))
      (part_shrinks (room - 1) h.0.scopes h.0.rest i.0 i.1)) (token_falls is_close_paren _ _ _ h.1))
      (some_expr_falls _ _ _ _ _ g.1)) (token_falls is_semicolon _ _ _ f.1)) (some_expr_falls _ _ _ _ _ d.1))
      (for_start_shrinks _ _ _ _ c.1)) (token_falls is_open_paren _ _ _ b.1)) (take_falls _ _ _ a.1)

  goto_value_shrinks : (keyword room : ℕ) → Shrinks (goto_value_with inner keyword room)
  unfolding goto_value_with
  goto_value_shrinks keyword room s ts x e =
      let r = fits_ok _ _ _ e in
      let a = bind_ok r.1 in
      let b = bind_ok a.2 in
      let c = bind_ok b.2 in
      omega
      (arith, take_falls _ _ _ a.1, laws.exprs.shrinks _ _ _ _ _ _ b.1, token_falls is_semicolon _ _ _ c.1, left_is c.2)

  goto_name_shrinks : (keyword : ℕ) → Shrinks (goto_name inner keyword)
  unfolding goto_name
  goto_name_shrinks keyword s ts x e =
      let a = bind_ok e in
      let b = bind_ok a.2 in
      omega (arith, name_falls _ _ _ a.1, token_falls is_semicolon _ _ _ b.1, left_is b.2)

  goto_shrinks : (room : ℕ) → Shrinks (goto_with inner room)
  unfolding goto_with
  goto_shrinks room s ts x e =
      let r = fits_ok _ _ _ e in
      let a = bind_ok r.1 in
      let rest : length x.rest < length a.0.rest = if_ok (is_wide a.0.scopes && is_star (kind_at a.0.rest)) a.2
      (λ is e. goto_value_shrinks a.0.tree room a.0.scopes a.0.rest x e)
      (λ is e. goto_name_shrinks a.0.tree a.0.scopes a.0.rest x e) in
      omega (arith, take_falls _ _ _ a.1, rest)

  jump_shrinks : (make : ℕ → ℕ → Stmt) (room : ℕ) → Shrinks (jump_with inner make room)
  unfolding jump_with
  jump_shrinks make room s ts x e =
      let r = fits_ok _ _ _ e in
      let a = bind_ok r.1 in
      let b = bind_ok a.2 in
      omega (arith, take_falls _ _ _ a.1, token_falls is_semicolon _ _ _ b.1, left_is b.2)

  return_shrinks : (room : ℕ) → Shrinks (return_with inner room)
  unfolding return_with
  return_shrinks room s ts x e =
      let r = fits_ok _ _ _ e in
      let a = bind_ok r.1 in
      let b = bind_ok a.2 in
      let c = bind_ok b.2 in
      omega
      (arith, take_falls _ _ _ a.1, some_expr_falls _ _ _ _ _ b.1, token_falls is_semicolon _ _ _ c.1, left_is c.2)

  asm_shrinks : (room : ℕ) → Shrinks (asm_with inner room)
  unfolding asm_with
  asm_shrinks room s ts x e =
      let r = fits_ok _ _ _ e in
      let a = bind_ok r.1 in
      let b = bind_ok a.2 in
      let c = bind_ok b.2 in
      let d = bind_ok c.2 in
      omega (
        arith,
        take_falls _ _ _ a.1,
        tokens.asm_words_falls _ _ _ b.1,
        tokens.group_shrinks _ _ _ c.1,
        token_falls is_semicolon _ _ _ d.1,
        left_is d.2,
      )

  attr_stmt_shrinks : (room : ℕ) → Shrinks (attr_stmt_with inner room)
  unfolding attr_stmt_with
  attr_stmt_shrinks room s ts x e =
      let a = bind_ok e in
      let b = bind_ok a.2 in
      omega (arith, tokens.attrs_falls _ _ _ _ a.1, token_falls is_semicolon _ _ _ b.1, left_is b.2)

  named_stmt_shrinks : (name room : ℕ) → Shrinks (named_stmt inner name room)
  unfolding named_stmt
  named_stmt_shrinks name room s ts x e =
      if_ok (is_colon (kind_at (behind_first ts))) (fits_ok _ _ _ e).1
      (λ is e. label_stmt_shrinks room s ts x e) (λ is e.
      if_ok (names_type s name) e (λ is e. absurd cc) (λ is e. expr_stmt_shrinks nothing room s ts x e))

  stmt_by_shrinks : (start : StmtStart) (room : ℕ) → Shrinks (stmt_by inner start room)
  unfolding stmt_by
  stmt_by_shrinks starts.Block room s ts x e =
      let a = bind_ok e in
      omega (arith, block_shrinks _ _ _ _ a.1, left_is a.2)
  stmt_by_shrinks starts.Semicolon room s ts x e =
      let r = fits_ok _ _ _ e in
      let a = bind_ok r.1 in
      omega (arith, take_falls _ _ _ a.1, left_is a.2)
  stmt_by_shrinks starts.Attribute room s ts x e = attr_stmt_shrinks room s ts x e
  stmt_by_shrinks (starts.Name name) room s ts x e = named_stmt_shrinks name room s ts x e
  stmt_by_shrinks starts.Case room s ts x e = case_shrinks room s ts x e
  stmt_by_shrinks starts.Default room s ts x e = default_shrinks room s ts x e
  stmt_by_shrinks starts.If room s ts x e =
      in_own_shrinks (if_inside inner room) (if_shrinks room) s ts x (fits_ok _ _ _ e).1
  stmt_by_shrinks starts.Switch room s ts x e =
      in_own_shrinks (headed_inside inner switch_stmt room) (headed_shrinks switch_stmt room) s ts x (fits_ok _ _ _ e).1
  stmt_by_shrinks starts.While room s ts x e =
      in_own_shrinks (headed_inside inner while_stmt room) (headed_shrinks while_stmt room) s ts x (fits_ok _ _ _ e).1
  stmt_by_shrinks starts.Do room s ts x e =
      in_own_shrinks (do_inside inner room) (do_shrinks room) s ts x (fits_ok _ _ _ e).1
  stmt_by_shrinks starts.For room s ts x e =
      in_own_shrinks (for_inside inner room) (for_shrinks room) s ts x (fits_ok _ _ _ e).1
  stmt_by_shrinks starts.Goto room s ts x e = goto_shrinks room s ts x e
  stmt_by_shrinks starts.Continue room s ts x e = jump_shrinks continue_stmt room s ts x e
  stmt_by_shrinks starts.Break room s ts x e = jump_shrinks break_stmt room s ts x e
  stmt_by_shrinks starts.Return room s ts x e = return_shrinks room s ts x e
  stmt_by_shrinks starts.Asm room s ts x e = asm_shrinks room s ts x e
  stmt_by_shrinks starts.Value room s ts x e =
      if_ok (begins_expr s (kind_at ts)) e (λ is e. expr_stmt_shrinks nothing room s ts x (fits_ok _ _ _ e).1)
      (λ is e. absurd cc)

  pub stmt_shrinks : (room : ℕ) → Shrinks (stmt_with inner room)
  unfolding stmt_with
  stmt_shrinks room s ts x e = stmt_by_shrinks (stmt_start (kind_at ts)) room s ts x e
