-- Bounds of the readers of the items of a unit.
use Rattle.std.proofs.Common.{ℕ, ◌+◌, true, if◌then◌else◌, List, [], length, Option, Some, None, refl, arith}
use Rattle.std.specs.Prelude.{◌*◌, ◌-◌, max, not}
use Rattle.c_syntax.specs.declared.parts.Attr.{Attr}
use Rattle.c_tree.specs.Tree.{SpecWords, Declr, decl_declaration, decl_assert}
use Rattle.c_tree.specs.Specifiers.{storage_words}
use Rattle.c_tree.specs.Height.{declr_height, attrs_height, declaration_height, some_declr_height, some_init_height, specs_height}
use Rattle.c_tree.specs.Unit.{decl_item, semi_item, item_height}
use Rattle.typedef_scope.specs.declared.kind.Kind.TheVariants.{Value}
use Rattle.c_units.specs.HeldScopes.{HeldScope, release, enter, HeldScopes}
use Rattle.c_units.specs.Scoping.{has_typedef_word}
use Rattle.c_reading.specs.declared.kinds.FaultKind.TheVariants.{Unexpected}
use Rattle.c_reading.specs.declared.kinds.Mode.TheVariants.{Named}
use Rattle.c_reading.specs.declared.kinds.Role.TheVariants.{Declaring}
use Rattle.c_tree.specs.WellFormed.{has_auto, lists_identifiers}
use Rattle.c_reading.specs.Reading.{Reader, ends, refuses, fits, kind_at, take_one, IsNumbered, and_then}
use Rattle.c_reading.specs.Tokens.{is_semicolon, is_asm, is_open_brace, is_end, is_static_assert, attrs_at, assert_at}
use Rattle.c_reading.specs.Stating.{declr_behind, declrs_with, bare_declaration, declaration_behind}
use Rattle.c_reading.specs.Parts.{Inner, DeclrItem}
use Rattle.c_reading.specs.Items.{old_declaration, old_function_with, goes_on_declared, as_decl, function_with, attrs_behind, function_or_not, behind_function, behind_declr, first_declr, declared_item, asm_item_with, item_with, items_with}
use Rattle.c_tree.specs.declared.lexeme.Lexeme.{Lexeme}
use Rattle.c_syntax.specs.declared.parts.Assert.{Assert}
use Rattle.c_syntax.specs.declared.parts.Group.{Group}
use Rattle.c_reading.proofs.Aims.{TokenLaws, Laws}
use Rattle.deep_places.proofs.Words.{attrs_low, b_group_at, b_assert_at, b_extensions_at, b_attrs_at}
use Rattle.c_reading.proofs.ItemsFalls.{item_shrinks, old_declaration_shrinks}
use Rattle.c_reading.proofs.SpecsSoundBodies.{declr_high}
use Rattle.deep_places.proofs.Heights.{low_declarations}
use Rattle.deep_places.proofs.Specs.{b_specs_here, b_present}
use Rattle.deep_places.proofs.Stmts.{b_declr_behind, b_some_init_with, b_declrs_with, b_bare_declaration, b_declaration_behind, b_block_body}
use Rattle.deep_places.specs.Bounds.{BoundAt, most_of, declared_height, block_tree_height, declr_item_height, InnerBounds}
use Rattle.deep_places.proofs.Bounding.{bound_ends, bound_weaker, bound_bind, bound_fits, bound_if, token_levels, no_levels, bound_take, bound_token, bound_repeated, known_by}

module _ (all : List Lexeme) (numbered : IsNumbered all) (tokens : TokenLaws all) (n : ℕ) (inner : Inner)
    (laws : Laws all n inner)
    (good : InnerBounds inner) where
  pub b_function_with : (exts : List ℕ) (words : SpecWords) (d : Declr) (attrs : List Attr) (closed : HeldScope)
      (room : ℕ) (s :
      HeldScopes) (ts : List Lexeme) → BoundAt item_height (specs_height words + declr_height d + 3) room (14) ts
      (function_with inner exts words d attrs closed room s ts)
  unfolding function_with
  b_function_with exts words d attrs closed room s ts =
      let g971 = attrs_low attrs in
      bound_bind block_tree_height _ (1) _ _ _ _ _ _ (bound_weaker _ (1) (room - 1) (13) _ _ _ _ _
      (omega arith) (omega arith) (b_block_body all numbered tokens n inner laws good (room - 1) _ _))
      (λ body b972 e973 l974.
      bound_ends _ _ _ _ _ _ _ (omega arith))

  pub b_attrs_behind : (d : Declr) (attrs : List Attr) (room : ℕ) (s : HeldScopes) (ts : List Lexeme)
      → BoundAt declr_item_height
      (declr_height d + 2) room (declr_height d + 10) ts (attrs_behind inner d attrs room s ts)
  unfolding attrs_behind
  b_attrs_behind d attrs room s ts =
      let g975 = attrs_low attrs in
      bound_bind some_init_height _ (1) _ _ _ _ _ _ (bound_weaker _ (1) room (10) _ _ _ _ _ (omega arith) (omega arith)
      (b_some_init_with all numbered tokens n inner laws good room _ _))
      (λ init b976 e977 l978. bound_ends _ _ _ _ _ _ _ (omega arith))

  -- behind the first declarator, whatever stands there
  declrs_item : (exts : List ℕ) (words : SpecWords) (d : Declr) (room : ℕ) (first : Reader DeclrItem) (s : HeldScopes)
      (ts : List Lexeme) →
      ((s : HeldScopes) (ts : List Lexeme)
      → BoundAt declr_item_height (declr_height d + 2) (room - 1) (declr_height d + 10) ts
      (first s ts)) →
      BoundAt item_height (specs_height words + declr_height d + 4) room (declr_height d + 17) ts
      (as_decl (declrs_with inner exts words Value room first s ts))
  declrs_item exts words d room first s ts item =
      bound_bind declaration_height item_height (specs_height words + (declr_height d + 2) + 1)
      (specs_height words + declr_height d + 4) room (declr_height d + 17) ts
      (declrs_with inner exts words Value room first s ts)
      (λ m. ends (decl_item (decl_declaration m.tree)) m.scopes m.rest)
      (bound_weaker declaration_height (specs_height words + (declr_height d + 2) + 1) room ((declr_height d + 2) + 15)
      (specs_height words + (declr_height d + 2) + 1) room (declr_height d + 17) ts
      (declrs_with inner exts words Value room first s ts) (omega arith) (omega arith) (b_declrs_with all numbered
      tokens n inner laws good exts words Value room first s ts (declr_height d + 2) (omega arith) (λ s8 ts8.
      bound_weaker declr_item_height (declr_height d + 2) (room - 1) (declr_height d + 10) (declr_height d + 2) room
      (declr_height d + 2 + 14) ts8 (first s8 ts8) (omega arith) (omega arith) (item s8 ts8))))
      (λ m b1 e1 l1. bound_ends item_height (8 * length b1 + (specs_height words + declr_height d + 4)) room
      (8 * length b1 + (declr_height d + 17)) (decl_item (decl_declaration m.tree)) m.scopes m.rest (omega arith))

  pub b_function_or_not : (exts : List ℕ) (words : SpecWords) (d : Declr) (attrs : List Attr) (closed : HeldScope)
      (room : ℕ) (s :
      HeldScopes) (ts : List Lexeme)
      → BoundAt item_height (specs_height words + declr_height d + 4) room (declr_height d + 17) ts
      (function_or_not inner exts words d attrs closed room s ts)
  unfolding function_or_not
  b_function_or_not exts words d attrs closed room s ts =
      bound_if item_height (specs_height words + declr_height d + 4) room (declr_height d + 17) ts
      (is_open_brace (kind_at ts)) (function_with inner exts words d attrs closed room s ts)
      (if goes_on_declared (kind_at ts) then fits (2 + declr_height d) room ts
      (as_decl (declrs_with inner exts words Value room (attrs_behind inner d attrs (room - 1)) s ts))
      else refuses Unexpected ts) (λ is. bound_weaker item_height (specs_height words + declr_height d + 3) room 14
      (specs_height words + declr_height d + 4) room (declr_height d + 17) ts
      (function_with inner exts words d attrs closed room s ts) (omega arith) (omega arith)
      (b_function_with exts words d attrs closed room s ts))
      (λ no. bound_if item_height (specs_height words + declr_height d + 4) room (declr_height d + 17) ts
      (goes_on_declared (kind_at ts)) (fits (2 + declr_height d) room ts
      (as_decl (declrs_with inner exts words Value room (attrs_behind inner d attrs (room - 1)) s ts)))
      (refuses Unexpected ts) (λ is. bound_fits item_height (specs_height words + declr_height d + 4) room
      (declr_height d + 17) (2 + declr_height d) room ts (as_decl (declrs_with inner exts words Value room
      (attrs_behind inner d attrs (room - 1)) s ts)) (known_by goes_on_declared refl (kind_at ts) is)
      (λ less. omega arith) (λ enough. declrs_item exts words d room (attrs_behind inner d attrs (room - 1)) s ts
      (λ s8 ts8. b_attrs_behind d attrs (room - 1) s8 ts8))) (λ is. record { held = λ e. absurd cc }))

  pub b_behind_function : (exts : List ℕ) (words : SpecWords) (d : Declr) (closed : HeldScope) (room : ℕ)
      (s : HeldScopes) (ts :
      List Lexeme) → BoundAt item_height (specs_height words + declr_height d + 4) room (declr_height d + 17) ts
      (behind_function inner exts words d closed room s ts)
  unfolding behind_function
  b_behind_function exts words d closed room s ts =
      bound_if item_height (specs_height words + declr_height d + 4) room (declr_height d + 17) ts (is_asm (kind_at ts))
      (fits (2 + declr_height d) room ts
      (as_decl (declrs_with inner exts words Value room (declr_behind inner [] d (room - 1)) s ts))) (and_then
      (attrs_at room s ts) (λ attrs. function_or_not inner exts words d attrs.tree closed room attrs.scopes attrs.rest))
      (λ is. bound_fits item_height (specs_height words + declr_height d + 4) room (declr_height d + 17)
      (2 + declr_height d) room ts (as_decl (declrs_with inner exts words Value room
      (declr_behind inner [] d (room - 1)) s ts)) (known_by is_asm refl (kind_at ts) is) (λ less. omega arith)
      (λ enough. declrs_item exts words d room (declr_behind inner [] d (room - 1)) s ts
      (λ s8 ts8. b_declr_behind all numbered tokens n inner laws good [] d (room - 1) s8 ts8))) (λ no.
      bound_bind attrs_height item_height 1 (specs_height words + declr_height d + 4) room (declr_height d + 17) ts
      (attrs_at room s ts) (λ attrs. function_or_not inner exts words d attrs.tree closed room attrs.scopes attrs.rest)
      (bound_weaker attrs_height 1 room 1 1 room (declr_height d + 17) ts (attrs_at room s ts) (omega arith)
      (omega arith) (b_attrs_at room s ts)) (λ attrs b1 e1 l1.
      bound_weaker item_height (specs_height words + declr_height d + 4) room (declr_height d + 17)
      (8 * length b1 + (specs_height words + declr_height d + 4)) room (8 * length b1 + (declr_height d + 17))
      attrs.rest (function_or_not inner exts words d attrs.tree closed room attrs.scopes attrs.rest) (omega arith)
      (omega arith) (b_function_or_not exts words d attrs.tree closed room attrs.scopes attrs.rest)))

  pub b_behind_declr : (exts : List ℕ) (words : SpecWords) (d : Declr) (closed : Option HeldScope) (room : ℕ)
      (s : HeldScopes) (ts :
      List Lexeme) → BoundAt item_height (specs_height words + declr_height d + 4) room (declr_height d + 17) ts
      (behind_declr inner exts words d closed room s ts)
  b_behind_declr exts words d (Some closed) room s ts = b_behind_function exts words d closed room s ts
  b_behind_declr exts words d None room s ts =
      declrs_item exts words d room (declr_behind inner [] d (room - 1)) s ts (λ s8 ts8.
      b_declr_behind all numbered tokens n inner laws good [] d (room - 1) s8 ts8)

  pub b_old_declaration : (room : ℕ) (s : HeldScopes) (ts : List Lexeme) → BoundAt declaration_height (6) room (20) ts
      (old_declaration inner room s ts)
  unfolding old_declaration
  b_old_declaration room s ts =
      bound_bind (λ (xs : List ℕ). length xs) _ (0) _ _ _ _ _ _ (bound_weaker _ (0) room (1) _ _ _ _ _ (omega arith)
      (omega arith) (b_extensions_at room _ _)) (λ exts p702 q702 r702.
      bound_bind specs_height _ (1) _ _ _ _ _ _ (bound_weaker _ (1) room (12) _ _ _ _ _ (omega arith) (omega arith)
      (b_specs_here all numbered tokens n inner laws good Declaring room _ _)) (λ words p701 q701 r701.
      bound_weaker _ (specs_height words.tree + 4) room (specs_height words.tree + 17) _ _ _ _ _ (omega arith)
      (omega arith) (b_declaration_behind all numbered tokens n inner laws good exts.tree words.tree room _ _)))

  pub b_old_function_with : (exts : List ℕ) (words : SpecWords) (d : Declr) (room : ℕ) (s : HeldScopes)
      (ts : List Lexeme) →
      BoundAt item_height (max (specs_height words + 1) (max (declr_height d + 1) 7)) room (21) ts
      (old_function_with inner exts words d room s ts)
  unfolding old_function_with
  b_old_function_with exts words d room s ts =
      bound_bind attrs_height _ (1) _ _ _ _ _ _
      (bound_weaker _ (1) room (1) _ _ _ _ _ (omega arith) (omega arith) (b_attrs_at room _ _)) (λ attrs p705 q705 r705.
      bound_bind (most_of declaration_height) _ (6) _ _ _ _ _ _ (bound_weaker _ (6) (room - 1) (20) _ _ _ _ _
      (omega arith) (omega arith) (bound_repeated (λ kind. not (is_open_brace kind)) (old_declaration inner (room - 1))
      declaration_height (6) (room - 1) (20) (old_declaration_shrinks all tokens n inner laws (room - 1)) (omega arith)
      (λ s9 ts9 is9. b_old_declaration (room - 1) _ _) (enter attrs.scopes) attrs.rest)) (λ ds p704 q704 r704.
      let low_ds =
      low_declarations ds.tree in
      bound_bind block_tree_height _ (1) _ _ _ _ _ _ (bound_weaker _ (1) (room - 1) (13) _ _ _ _ _
      (omega arith) (omega arith) (b_block_body all numbered tokens n inner laws good (room - 1) _ _))
      (λ body p703 q703 r703.
      bound_ends _ _ _ _ _ _ _ (omega arith))))

  pub b_first_declr : (exts : List ℕ) (words : SpecWords) (room : ℕ) (s : HeldScopes) (ts : List Lexeme)
      → BoundAt item_height
      (specs_height words + 4) room (17) ts (first_declr inner exts words room s ts)
  unfolding first_declr
  b_first_declr exts words room s ts =
      bound_bind declared_height _ (0) _ _ _ _ _ _ (bound_weaker _ (0) (room - 2) (10) _ _ _ _ _ (omega arith)
      (omega arith) (good.declr Named (Some Value) true (room - 2) _ _)) (λ d b979 e980 l981. bound_bind declr_height _
      (some_declr_height d.tree.declr) _ _ _ _ _ _ (bound_weaker _ (some_declr_height d.tree.declr) room (0) _ _ _ _ _
      (omega arith) (omega arith) (b_present all numbered tokens n inner laws good room d.tree.declr d.scopes d.rest))
      (λ known b982 e983 l984. bound_if _ _ _ _ _ (lists_identifiers known.tree)
      (old_function_with inner exts words known.tree room known.scopes known.rest)
      (behind_declr inner exts words known.tree d.tree.closed room (release Value known.scopes) known.rest)
      (λ on. let some = declr_high known.tree in bound_weaker _
      (max (specs_height words + 1) (max (declr_height known.tree + 1) 7)) room (21) _ _ _ _ _ (omega arith)
      (omega arith) (b_old_function_with exts words known.tree room known.scopes known.rest)) (λ off. bound_weaker _
      (specs_height words + declr_height known.tree + 4) room (declr_height known.tree + 17) _ _ _ _ _ (omega arith)
      (omega arith) (b_behind_declr exts words known.tree d.tree.closed room (release Value known.scopes) known.rest))))

  pub b_declared_item : (room : ℕ) (s : HeldScopes) (ts : List Lexeme)
      → BoundAt item_height (8) room (20) ts (declared_item inner
      room s ts)
  unfolding declared_item
  b_declared_item room s ts =
      bound_bind (λ (xs : List ℕ). length xs) _ (0) _ _ _ _ _ _
      (bound_weaker _ (0) room (1) _ _ _ _ _ (omega arith) (omega arith) (b_extensions_at room _ _))
      (λ exts b985 e986 l987. bound_bind specs_height _ (1) _ _ _ _ _ _ (bound_weaker _ (1) room (12) _ _ _ _ _
      (omega arith) (omega arith) (b_specs_here all numbered tokens n inner laws good Declaring room _ _))
      (λ words b988 e989 l990. bound_if _ _ _ _ _ (has_auto words.tree)
      (as_decl (declaration_behind inner exts.tree words.tree room words.scopes words.rest)) (if is_semicolon
      (kind_at words.rest) then as_decl (bare_declaration inner exts.tree words.tree room words.scopes words.rest)
      else if has_typedef_word (storage_words words.tree)
      then as_decl (declaration_behind inner exts.tree words.tree room words.scopes words.rest)
      else (first_declr inner exts.tree words.tree room words.scopes words.rest))
      (λ on. bound_bind declaration_height _ (specs_height words.tree + 4) _ _ _ _ _ _
      (bound_weaker _ (specs_height words.tree + 4) room (specs_height words.tree + 17) _ _ _ _ _ (omega arith)
      (omega arith) (b_declaration_behind all numbered tokens n inner laws good exts.tree words.tree room _ _))
      (λ m1010 b1011 e1012 l1013. bound_ends _ _ _ _ _ _ _ (omega arith))) (λ off.
      bound_if _ _ _ _ _ (is_semicolon (kind_at words.rest)) (and_then (bare_declaration inner exts.tree words.tree room
      words.scopes words.rest) (λ m992. (ends (decl_item (decl_declaration m992.tree)) m992.scopes m992.rest))) (if
      has_typedef_word (storage_words words.tree)
      then (and_then (declaration_behind inner exts.tree words.tree room words.scopes words.rest)
      (λ m993. (ends (decl_item (decl_declaration m993.tree)) m993.scopes m993.rest)))
      else (first_declr inner exts.tree words.tree room words.scopes words.rest))
      (λ is991. bound_bind declaration_height _ (specs_height words.tree + 1) _ _ _ _ _ _
      (bound_weaker _ (specs_height words.tree + 1) room (specs_height words.tree + 14) _ _ _ _ _ (omega arith)
      (omega arith) (b_bare_declaration all numbered tokens n inner laws good exts.tree words.tree room _ _
      (known_by (λ kind9. is_semicolon kind9) refl (kind_at words.rest) is991)))
      (λ m994 b995 e996 l997. bound_ends _ _ _ _ _ _ _ (omega arith)))
      (λ is991. bound_if _ _ _ _ _ (has_typedef_word (storage_words words.tree))
      (and_then (declaration_behind inner exts.tree words.tree room words.scopes words.rest)
      (λ m999. (ends (decl_item (decl_declaration m999.tree)) m999.scopes m999.rest)))
      (first_declr inner exts.tree words.tree room words.scopes words.rest)
      (λ is998. bound_bind declaration_height _ (specs_height words.tree + 4) _ _ _ _ _ _
      (bound_weaker _ (specs_height words.tree + 4) room (specs_height words.tree + 17) _ _ _ _ _ (omega arith)
      (omega arith) (b_declaration_behind all numbered tokens n inner laws good exts.tree words.tree room _ _))
      (λ m1000 b1001 e1002 l1003. bound_ends _ _ _ _ _ _ _ (omega arith))) (λ is998.
      bound_weaker _ (specs_height words.tree + 4) room (17) _ _ _ _ _ (omega arith) (omega arith)
      (b_first_declr exts.tree words.tree room _ _))))))

  pub b_asm_item_with : (room : ℕ) (s : HeldScopes) (ts : List Lexeme)
      → BoundAt item_height (8) room (0) ts (asm_item_with inner s ts)
  unfolding asm_item_with
  b_asm_item_with room s ts =
      bound_bind token_levels _ (0) _ _ _ _ _ _ (bound_take _ _ _ _) (λ keyword b1004 e1005 l1006.
      bound_bind (no_levels {A =
      Group}) _ (0) _ _ _ _ _ _ (bound_weaker _ (0) room (0) _ _ _ _ _ (omega arith) (omega arith)
      (b_group_at room _ _)) (λ group b1007 e1008 l1009. bound_bind token_levels _ (0) _ _ _ _ _ _
      (bound_token is_semicolon _ _ _ _) (λ semi b1010 e1011 l1012. bound_ends _ _ _ _ _ _ _ (omega arith))))

  pub b_item_with : (room : ℕ) (s : HeldScopes) (ts : List Lexeme)
      → BoundAt item_height (8) room (20) ts (item_with inner room s ts)
  unfolding item_with
  b_item_with room s ts =
      bound_if _ _ _ _ _ (is_semicolon (kind_at ts))
      (fits 1 room ts (and_then (take_one s ts) (λ semi. (ends (semi_item (record {
        token = semi.tree;
      })) semi.scopes semi.rest)))) (if is_asm (kind_at ts) then (fits 1 room ts (asm_item_with inner s ts))
      else (if is_static_assert (kind_at ts) then (fits 1 room ts (and_then (assert_at s ts)
      (λ it. (ends (decl_item (decl_assert it.tree)) it.scopes it.rest)))) else (declared_item inner room s ts)))
      (λ is1013. bound_fits _ _ _ _ _ _ _ _ (known_by (λ kind9. is_semicolon kind9) refl (kind_at ts) is1013)
      (λ less1014. omega arith) (λ less1014. bound_bind token_levels _ (0) _ _ _ _ _ _ (bound_take _ _ _ _)
      (λ semi b1015 e1016 l1017. bound_ends _ _ _ _ _ _ _ (omega arith))))
      (λ is1013. bound_if _ _ _ _ _ (is_asm (kind_at ts)) (fits 1 room ts (asm_item_with inner s ts))
      (if is_static_assert (kind_at ts) then (fits 1 room ts (and_then (assert_at s ts)
      (λ it. (ends (decl_item (decl_assert it.tree)) it.scopes it.rest)))) else (declared_item inner room s ts))
      (λ is1018. bound_fits _ _ _ _ _ _ _ _ (known_by (λ kind9. is_asm kind9) refl (kind_at ts) is1018)
      (λ less1019. omega arith) (λ less1019. bound_weaker _ (8) room (0) _ _ _ _ _ (omega arith) (omega arith)
      (b_asm_item_with room _ _))) (λ is1018. bound_if _ _ _ _ _ (is_static_assert (kind_at ts))
      (fits 1 room ts (and_then (assert_at s ts) (λ it. (ends (decl_item (decl_assert it.tree)) it.scopes it.rest))))
      (declared_item inner room s ts) (λ is1020. bound_fits _ _ _ _ _ _ _ _
      (known_by (λ kind9. is_static_assert kind9) refl (kind_at ts) is1020) (λ less1021. omega arith) (λ less1021.
      bound_bind (no_levels {A = Assert}) _ (0) _ _ _ _ _ _ (bound_weaker _ (0) room (0) _ _ _ _ _ (omega arith)
      (omega arith) (b_assert_at room _ _)) (λ it b1022 e1023 l1024. bound_ends _ _ _ _ _ _ _ (omega arith))))
      (λ is1020. bound_weaker _ (8) room (20) _ _ _ _ _ (omega arith) (omega arith) (b_declared_item room _ _))))

  pub b_items_with : (room : ℕ) (s : HeldScopes) (ts : List Lexeme)
      → BoundAt (most_of item_height) 8 room 20 ts (items_with inner
      room s ts)
  unfolding items_with
  b_items_with room s ts =
      bound_repeated (λ kind. not (is_end kind)) (item_with inner room) item_height 8 room 20 (item_shrinks all
      tokens n inner laws room) (omega arith) (λ s9 ts9 is9. b_item_with room s9 ts9) s ts
