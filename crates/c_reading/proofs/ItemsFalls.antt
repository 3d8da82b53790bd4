-- The reader of items takes tokens.
use Rattle.std.proofs.Common.{◌≡◌, ℕ, ◌<◌, ◌≤◌, List, [], length, Option, Some, None, ap, arith}
use Rattle.std.specs.Prelude.{◌-◌, not}
use Rattle.c_tree.specs.declared.lexeme.Lexeme.{Lexeme}
use Rattle.c_syntax.specs.declared.parts.Attr.{Attr}
use Rattle.c_tree.specs.Tree.{SpecWords, Declr, Declaration}
use Rattle.c_tree.specs.Specifiers.{storage_words}
use Rattle.c_tree.specs.Unit.{Item}
use Rattle.typedef_scope.specs.declared.kind.Kind.TheVariants.{Value}
use Rattle.c_units.specs.HeldScopes.{HeldScope, enter, innermost, leave, reopen, release}
use Rattle.c_tree.specs.WellFormed.{has_auto, lists_identifiers}
use Rattle.c_reading.specs.declared.kinds.Role.TheVariants.{Declaring}
use Rattle.c_reading.proofs.Rows.{repeated_falls}
use Rattle.c_units.specs.Scoping.{has_typedef_word}
use Rattle.c_reading.specs.Reading.{Found, Read, kind_at}
use Rattle.c_reading.specs.Tokens.{is_semicolon, is_asm, is_open_brace, is_static_assert}
use Rattle.c_reading.specs.Parts.{Inner}
use Rattle.c_reading.specs.Stating.{declr_behind}
use Rattle.c_reading.specs.Items.{as_decl, goes_on_declared, function_with, attrs_behind, function_or_not, behind_function, behind_declr, old_declaration, old_function_with, first_declr, declared_item, asm_item_with, item_with}
use Rattle.c_reading.proofs.Binding.{done, bind_ok, fits_ok, if_ok, take_falls, token_falls}
use Rattle.c_reading.proofs.Forms.{Falls, Shrinks}
use Rattle.c_reading.proofs.Aims.{TokenLaws, Laws}
use Rattle.c_reading.proofs.ExprFalls.{left_is}
use Rattle.c_reading.proofs.Shared.{specs_here_shrinks, present_ok}
use Rattle.c_reading.proofs.StmtFalls.{declr_behind_falls, some_init_falls, declrs_shrinks, bare_shrinks, declaration_behind_shrinks, block_body_shrinks}

module _ (all : List Lexeme) (tokens : TokenLaws all) (n : ℕ) (inner : Inner) (laws : Laws all n inner) where
  as_decl_shrinks : (r : Read Declaration) (ts : List Lexeme) (x : Found Item)
      → ((d : Found Declaration) → r ≡ done d → length d.rest < length ts) → as_decl r ≡ done x
      → length x.rest < length ts
  as_decl_shrinks r ts x shrinks e =
      let a = bind_ok e in
      omega (arith, shrinks a.0 a.1, left_is a.2)

  function_shrinks : (exts : List ℕ) (words : SpecWords) (d : Declr) (attrs : List Attr) (closed : HeldScope) (room : ℕ)
      → Shrinks (function_with inner exts words d attrs closed room)
  unfolding function_with
  function_shrinks exts words d attrs closed room s ts x e =
      let a = bind_ok e in
      omega (arith, block_body_shrinks all tokens n inner laws (room - 1) _ _ _ a.1, left_is a.2)

  attrs_behind_falls : (d : Declr) (attrs : List Attr) (room : ℕ) → Falls (attrs_behind inner d attrs room)
  unfolding attrs_behind
  attrs_behind_falls d attrs room s ts x e =
      let a = bind_ok e in
      omega (arith, some_init_falls all tokens n inner laws room _ _ _ a.1, left_is a.2)

  function_or_not_shrinks : (exts : List ℕ) (words : SpecWords) (d : Declr) (attrs : List Attr)
      (closed : HeldScope) (room : ℕ)
      → Shrinks (function_or_not inner exts words d attrs closed room)
  unfolding function_or_not
  function_or_not_shrinks exts words d attrs closed room s ts x e =
      if_ok (is_open_brace (kind_at ts)) e (λ is e. function_shrinks exts words d attrs closed room s ts x e) (λ is e.
      if_ok (goes_on_declared (kind_at ts)) e (λ goes e.
      as_decl_shrinks _ ts x (λ a e. declrs_shrinks all tokens n inner laws exts words Value room
      (attrs_behind inner d attrs (room - 1)) (attrs_behind_falls d attrs (room - 1)) s ts a e) (fits_ok _ _ _ e).1)
      (λ goes e. absurd cc))

  behind_function_shrinks : (exts : List ℕ) (words : SpecWords) (d : Declr) (closed : HeldScope) (room : ℕ)
      → Shrinks (behind_function inner exts words d closed room)
  unfolding behind_function
  behind_function_shrinks exts words d closed room s ts x e =
      if_ok (is_asm (kind_at ts)) e (λ is e.
      as_decl_shrinks _ ts x (λ a e. declrs_shrinks all tokens n inner laws exts words Value room
      (declr_behind inner [] d (room - 1)) (declr_behind_falls all tokens n inner laws [] d (room - 1)) s ts a e)
      (fits_ok _ _ _ e).1) (λ is e.
      let a = bind_ok e in
      omega (arith, tokens.attrs_falls _ _ _ _ a.1, function_or_not_shrinks _ _ _ _ _ _ _ _ _ a.2))

  behind_declr_shrinks : (exts : List ℕ) (words : SpecWords) (d : Declr) (closed : Option HeldScope) (room : ℕ)
      → Shrinks (behind_declr inner exts words d closed room)
  behind_declr_shrinks exts words d None room s ts x e =
      as_decl_shrinks _ ts x (λ a e. declrs_shrinks all tokens n inner laws exts words Value room
      (declr_behind inner [] d (room - 1)) (declr_behind_falls all tokens n inner laws [] d (room - 1)) s ts a e) e
  behind_declr_shrinks exts words d (Some closed) room s ts x e =
      behind_function_shrinks exts words d closed room s ts x e

  pub old_declaration_shrinks : (room : ℕ) → Shrinks (old_declaration inner room)
  unfolding old_declaration
  old_declaration_shrinks room s ts x e =
      let a = bind_ok e in
      let b = bind_ok a.2 in
      omega (
        arith,
        tokens.exts_falls _ _ _ _ a.1,
        specs_here_shrinks all n inner laws Declaring room _ _ _ b.1,
        declaration_behind_shrinks all tokens n inner laws _ _ room _ _ x b.2,
      )

  -- a function with a list of identifiers
  old_function_shrinks : (exts : List ℕ) (words : SpecWords) (d : Declr) (room : ℕ)
      → Shrinks (old_function_with inner exts words d room)
  unfolding old_function_with
  old_function_shrinks exts words d room s ts x e =
      let a = bind_ok e in
      let b = bind_ok a.2 in
      let c = bind_ok b.2 in
      let rest : length b.0.rest ≤ length a.0.rest =
      repeated_falls (λ kind. not (is_open_brace kind)) (old_declaration inner (room - 1))
      (old_declaration_shrinks (room - 1)) (enter a.0.scopes) a.0.rest b.0 b.1 in
      let body : length c.0.rest < length b.0.rest = block_body_shrinks all tokens n inner laws (room - 1)
      (reopen (innermost b.0.scopes) (release Value (leave b.0.scopes))) b.0.rest c.0 c.1 in
      omega (arith, tokens.attrs_falls _ _ _ _ a.1, rest, body, left_is c.2)

  first_declr_shrinks : (exts : List ℕ) (words : SpecWords) (room : ℕ) → Shrinks (first_declr inner exts words room)
  unfolding first_declr
  first_declr_shrinks exts words room s ts x e =
      let a = bind_ok e in
      let b = bind_ok a.2 in
      let p = present_ok a.0.tree.declr a.0.scopes a.0.rest b.0 b.1 in
      let same : length a.0.rest ≡ length b.0.rest = ap (λ (x : Found Declr). length x.rest) p.1 in
      let rest : length x.rest < length b.0.rest = if_ok (lists_identifiers b.0.tree) b.2
      (λ is e. old_function_shrinks exts words b.0.tree room b.0.scopes b.0.rest x e)
      (λ is e. behind_declr_shrinks exts words b.0.tree a.0.tree.closed room (release Value b.0.scopes) b.0.rest x e) in
      omega (arith, laws.declrs.shrinks _ _ _ _ _ _ a.1, same, rest)

  declared_item_shrinks : (room : ℕ) → Shrinks (declared_item inner room)
  unfolding declared_item
  declared_item_shrinks room s ts x e =
      let a = bind_ok e in
      let b = bind_ok a.2 in
      if_ok (has_auto b.0.tree) b.2 (λ auto e.
      omega (
        arith,
        tokens.exts_falls _ _ _ _ a.1,
        specs_here_shrinks all n inner laws Declaring room _ _ _ b.1,
        as_decl_shrinks _ b.0.rest x (λ d e. declaration_behind_shrinks all tokens n inner laws _ _ room _ _ d e) e,
      )) (λ auto e.
      if_ok (is_semicolon (kind_at b.0.rest)) e (λ is e.
      omega (
        arith,
        tokens.exts_falls _ _ _ _ a.1,
        specs_here_shrinks all n inner laws Declaring room _ _ _ b.1,
        as_decl_shrinks _ b.0.rest x (λ d e. bare_shrinks all tokens n inner laws _ _ room _ _ d e) e,
      )) (λ is e.
      if_ok (has_typedef_word (storage_words b.0.tree)) e (λ is e.
      omega (
        arith,
        tokens.exts_falls _ _ _ _ a.1,
        specs_here_shrinks all n inner laws Declaring room _ _ _ b.1,
        as_decl_shrinks _ b.0.rest x (λ d e. declaration_behind_shrinks all tokens n inner laws _ _ room _ _ d e) e,
      )) (λ is e.
      omega (
        arith,
        tokens.exts_falls _ _ _ _ a.1,
        specs_here_shrinks all n inner laws Declaring room _ _ _ b.1,
        first_declr_shrinks _ _ _ _ _ _ e,
      ))))

  pub item_shrinks : (room : ℕ) → Shrinks (item_with inner room)
  unfolding item_with asm_item_with
  item_shrinks room s ts x e =
      if_ok (is_semicolon (kind_at ts)) e (λ is e.
      let a = bind_ok (fits_ok _ _ _ e).1 in
      omega (arith, take_falls _ _ _ a.1, left_is a.2)) (λ is e.
      if_ok (is_asm (kind_at ts)) e (λ is e.
      let a = bind_ok (fits_ok _ _ _ e).1 in
      let b = bind_ok a.2 in
      let c = bind_ok b.2 in
      omega
      (arith, take_falls _ _ _ a.1, tokens.group_shrinks _ _ _ b.1, token_falls is_semicolon _ _ _ c.1, left_is c.2))
      (λ is e.
      if_ok (is_static_assert (kind_at ts)) e (λ is e.
      let a = bind_ok (fits_ok _ _ _ e).1 in
      omega (arith, tokens.assert_shrinks _ _ _ a.1, left_is a.2)) (λ is e.
      declared_item_shrinks room s ts x e)))
