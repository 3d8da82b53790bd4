-- The items of a unit. A first declarator with parameters around its name is completed by `{ }`, another by `;`.
use Rattle.std.proofs.Common.{◌≡◌, ℕ, ◌<◌, ◌≤◌, Bool, true, false, if◌then◌else◌, List, [], ◌∷◌, length, inl, inr, Option, Some, None, Ok, Err, refl, sym, ◌∙◌, ap, subst, arith}
use Rattle.std.specs.Prelude.{◌+◌, ◌-◌, not}
use Rattle.c_words.specs.declared.kinds.TokenKind.{TokenKind}
use Rattle.c_words.specs.declared.kinds.TokenKind.TheVariants as kinds
use Rattle.c_words.specs.declared.kinds.Punct.TheVariants as puncts
use Rattle.c_words.specs.declared.kinds.Keyword.TheVariants as keywords
use Rattle.c_tree.specs.declared.lexeme.Lexeme.{Lexeme}
use Rattle.c_syntax.specs.declared.parts.Attr.{Attr}
use Rattle.c_tree.specs.Tree.{SpecWords, Declr, SomeDeclr, no_declr, some_declr, Declaration, decl_declaration, decl_assert}
use Rattle.c_tree.specs.Specifiers.{storage_words}
use Rattle.c_tree.specs.Height.{declr_height}
use Rattle.c_tree.specs.WellFormed.{has_auto, lists_identifiers}
use Rattle.c_tree.specs.Unit.{Item, function_item, old_function_item, decl_item, asm_item, semi_item}
use Rattle.typedef_scope.specs.declared.kind.Kind.TheVariants.{Value}
use Rattle.c_units.specs.HeldScopes.{HeldScopes, HeldScope, is_wide, new_scope, innermost, enter, leave, reopen, release}
use Rattle.c_units.specs.Scoping.{has_typedef_word}
use Rattle.c_reading.specs.declared.kinds.FaultKind.TheVariants.{Unexpected}
use Rattle.c_reading.specs.declared.kinds.Mode.TheVariants.{Named}
use Rattle.c_reading.specs.declared.kinds.Role.TheVariants.{Declaring}
use Rattle.c_reading.specs.Reading.{Found, Read, Reader, ends, refuses, fits, kind_at, take_one, token_at, and_then, repeated, repeated_turn}
use Rattle.c_reading.specs.Tokens.{is_end, is_semicolon, is_asm, is_attribute, is_open_brace, is_static_assert, is_extension, attrs_at, group_at, assert_at, extensions_at}
use Rattle.c_reading.specs.Parts.{Inner, Block, Declared, DeclrItem}
use Rattle.c_reading.specs.Specifying.{present, specs_here}
use Rattle.c_reading.specs.Stating.{some_init_with, declr_behind, declrs_with, bare_declaration, declaration_behind, declaration_with, block_body}
use Rattle.c_reading.specs.Items.{goes_on_declared, as_decl, function_with, attrs_behind, function_or_not, behind_function, behind_declr, old_declaration, old_function_with, first_declr, declared_item, asm_item_with, item_with, items_with}
use Rattle.c_reading.proofs.Binding.{found, done, ok_is, bind_ok, fits_ok, if_ok}
use Rattle.c_reading.proofs.Forms.{Falls, Shrinks}
use Rattle.c_reading.proofs.KnotLaws.{none_tokens}
use Rattle.c_reading.proofs.Shared.{specs_here_shrinks, present_ok}
use Rattle.c_reading.proofs.StmtFalls.{some_init_falls, declr_behind_falls, declrs_shrinks, declaration_behind_shrinks, block_body_shrinks}
use Rattle.c_reading.proofs.ItemsFalls.{old_declaration_shrinks, item_shrinks}
use Rattle.c_reading.proofs.Rows.{repeated_falls, row_turn_shrinks}
use Rattle.c_reading.proofs.Loops.{run_stops}
use Rattle.c_reading.proofs.Aims.{Laws}
use Rattle.reading_steps.specs.Steps.{any, Good, Ready, Law}
use Rattle.reading_steps.specs.Stops.{is_int, is_name_kind, stops_specs, stops_named}
use Rattle.reading_steps.specs.InnerLaws.{InnerLaws}
use Rattle.reading_steps.proofs.Keeping.{release_kept}
use Rattle.reading_steps.proofs.Steps.{behind, in_scope, own_good, own_ready, kind_same, good_as, refused_here, if_good, fits_good, ready_as, ready_bind, ready_bind_by, bind_good_by, bind_good, bind_law, take_behind, ends_law, token_law, good_before, ready_before, good_weaker, ready_weaker, good_from, ready_from}
use Rattle.reading_steps.proofs.Lists.{repeated_law}
use Rattle.reading_steps.proofs.Chains.{falls_shrinks, good_choice}
use Rattle.token_places.proofs.Single.{semicolon_end, asm_end, open_brace_end, mapped_good, mapped_ready, mapped_law}
use Rattle.token_places.proofs.Groups.{group_anywhere, assert_law}
use Rattle.token_places.proofs.Rows.{attrs_law, extensions_law}
use Rattle.decl_places.proofs.Helping.{left_is}
use Rattle.decl_places.proofs.Members.{specs_here_good, specs_here_ready, exts_room}
use Rattle.stmt_places.proofs.Declared.{behind_words, behind_of, plain_behind_of, first_int, here_widen, name_words, name_semi, semi_named, some_init_law, declr_behind_law, declrs_high, declrs_ready, AutoRoom, specs_here_auto, declaration_good, declaration_ready, declaration_shrinks, declaration_behind_good, declaration_behind_ready}
use Rattle.stmt_places.proofs.Blocks.{block_body_good, block_body_ready}

brace_attribute : (kind : TokenKind) → is_open_brace kind ≡ true → is_attribute kind ≡ false
brace_attribute (kinds.Punct puncts.OpenBrace) h = refl
brace_attribute kind h = absurd cc

brace_asm : (kind : TokenKind) → is_open_brace kind ≡ true → is_asm kind ≡ false
brace_asm (kinds.Punct puncts.OpenBrace) h = refl
brace_asm kind h = absurd cc

brace_named : (kind : TokenKind) → is_open_brace kind ≡ true → stops_named kind ≡ true
brace_named (kinds.Punct puncts.OpenBrace) h = refl
brace_named kind h = absurd cc

int_extension : (kind : TokenKind) → is_int kind ≡ true → is_extension kind ≡ false
int_extension (kinds.Keyword keywords.Int) h = refl
int_extension kind h = absurd cc

not_end : (kind : TokenKind) → is_end kind ≡ true → not (is_end kind) ≡ false
not_end kind h = rw h refl

abbrev semi : Lexeme
semi = record { kind = kinds.Punct puncts.Semicolon; at = 0 }

abbrev of_declaration : Declaration → Item
of_declaration d = decl_item (decl_declaration d)

module _ (n : ℕ) (inner : Inner) (laws : Laws [] n inner) (places : InnerLaws n inner) (room : ℕ) (less : room < n)
    (high : 4 ≤ room) where
  as_decl_shrinks : (r : Read Declaration) (ts : List Lexeme) (x : Found Item)
      → ((d : Found Declaration) → r ≡ done d → length d.rest < length ts) → as_decl r ≡ done x
      → length x.rest < length ts
  as_decl_shrinks r ts x shrinks e =
      let a = bind_ok e in
      omega (arith, shrinks a.0 a.1, left_is a.2)

  -- Declarators that a first one goes on with, whose name is declared.

  abbrev declared_with : List ℕ → SpecWords → Reader DeclrItem → Reader Item
  declared_with exts words first = behind (declrs_with inner exts words Value room first) (λ d. ends (of_declaration d))

  declared_shrinks : (exts : List ℕ) (words : SpecWords) (first : Reader DeclrItem) → Falls first
      → Shrinks (declared_with exts words first)
  declared_shrinks exts words first falls s ts x e =
      as_decl_shrinks _ ts x
      (λ d e. declrs_shrinks [] none_tokens n inner laws exts words Value room first falls s ts d e) e

  declared_good : (exts : List ℕ) (words : SpecWords) (first : Reader DeclrItem)
      → Law false first is_semicolon is_semicolon → (s : HeldScopes) (ts : List Lexeme)
      → Good false (declared_with exts words first) any s ts
  declared_good exts words first l s ts =
      mapped_good false (declrs_with inner exts words Value room first) of_declaration any s ts
      (declrs_high n inner laws places exts words Value room first less (omega (arith, high)) s ts (l.good s ts))

  declared_ready : (exts : List ℕ) (words : SpecWords) (first : Reader DeclrItem)
      → Law false first is_semicolon is_semicolon → (s : HeldScopes) (at : ℕ)
      → Ready false (declared_with exts words first) is_semicolon any s at
  declared_ready exts words first l s at =
      mapped_ready false (declrs_with inner exts words Value room first) of_declaration is_semicolon any s at
      (declrs_ready n inner laws places exts words Value room first is_semicolon less (omega (arith, high)) s at
      (l.ready s at))

  abbrev plain_first : Declr → Reader DeclrItem
  plain_first d = declr_behind inner [] d (room - 1)

  plain_law : (d : Declr) → Law false (plain_first d) is_semicolon is_semicolon
  plain_law d = declr_behind_law n inner laws places [] d (room - 1) (omega (arith, less)) (omega (arith, high))

  plain_falls : (d : Declr) → Falls (plain_first d)
  plain_falls d = declr_behind_falls [] none_tokens n inner laws [] d (room - 1)

  attrs_first_law : (d : Declr) (attrs : List Attr)
      → Law false (attrs_behind inner d attrs (room - 1)) is_semicolon is_semicolon
  unfolding attrs_behind
  attrs_first_law d attrs =
      mapped_law false (some_init_with inner (room - 1))
      (λ init. record { before = []; declr = d; label = None; attrs = attrs; init = init }) is_semicolon is_semicolon
      (some_init_law n inner laws places (room - 1) (omega (arith, less)) (omega (arith, high)))

  attrs_first_falls : (d : Declr) (attrs : List Attr) → Falls (attrs_behind inner d attrs (room - 1))
  unfolding attrs_behind
  attrs_first_falls d attrs s ts x e =
      let a = bind_ok e in
      omega (arith, some_init_falls [] none_tokens n inner laws (room - 1) _ _ _ a.1, left_is a.2)

  -- Functions.

  abbrev function_of : List ℕ → SpecWords → Declr → List Attr → Block → HeldScopes → Item
  function_of exts words d attrs b t = function_item exts words d attrs b.opening b.items b.closing

  function_shrinks : (exts : List ℕ) (words : SpecWords) (d : Declr) (attrs : List Attr) (closed : HeldScope)
      → Shrinks (function_with inner exts words d attrs closed room)
  unfolding function_with
  function_shrinks exts words d attrs closed s ts x e =
      let a = bind_ok e in
      omega (arith, block_body_shrinks [] none_tokens n inner laws (room - 1) _ _ _ a.1, left_is a.2)

  function_good : (exts : List ℕ) (words : SpecWords) (d : Declr) (attrs : List Attr) (closed : HeldScope)
      (s : HeldScopes) (ts : List Lexeme)
      → is_open_brace (kind_at ts) ≡ true →
      Good false (function_with inner exts words d attrs closed room) any s ts
  unfolding function_with
  function_good exts words d attrs closed s ts is =
      good_weaker false (in_scope (λ s. closed) (block_body inner (room - 1)) (function_of exts words d attrs)) any s ts
      (own_good (λ s. closed) (block_body inner (room - 1)) (function_of exts words d attrs) any s ts (block_body_good n
      inner laws places (room - 1) (omega (arith, less)) (closed ∷ s) ts (open_brace_end (kind_at ts) is)))

  function_ready : (exts : List ℕ) (words : SpecWords) (d : Declr) (attrs : List Attr) (closed : HeldScope)
      (s : HeldScopes) (at : ℕ)
      → Ready false (function_with inner exts words d attrs closed room) is_open_brace any s at
  unfolding function_with
  function_ready exts words d attrs closed s at =
      ready_weaker false
      (in_scope (λ s. closed) (block_body inner (room - 1)) (function_of exts words d attrs)) is_open_brace any s at
      (own_ready (λ s. closed) (block_body inner (room - 1)) (function_of exts words d attrs) is_open_brace any s at
      (block_body_ready n inner laws places (room - 1) (omega (arith, less)) (closed ∷ s) at))

  abbrev goes_on : List ℕ → SpecWords → Declr → List Attr → Reader Item
  goes_on exts words d attrs s ts =
      if goes_on_declared (kind_at ts) then fits (2 + declr_height d) room ts
      (declared_with exts words (attrs_behind inner d attrs (room - 1)) s ts) else refuses Unexpected ts

  goes_on_shrinks : (exts : List ℕ) (words : SpecWords) (d : Declr) (attrs : List Attr)
      → Shrinks (goes_on exts words d attrs)
  goes_on_shrinks exts words d attrs s ts x e =
      if_ok (goes_on_declared (kind_at ts)) e
      (λ is e. declared_shrinks exts words (attrs_behind inner d attrs (room - 1)) (attrs_first_falls d attrs) s ts x
      (fits_ok (2 + declr_height d) room ts e).1) (λ is e. absurd cc)

  function_or_not_law : (exts : List ℕ) (words : SpecWords) (d : Declr) (attrs : List Attr) (closed : HeldScope)
      → Law false (function_or_not inner exts words d attrs closed room) is_open_brace any
  unfolding function_or_not
  function_or_not_law exts words d attrs closed = record {
    good = λ s ts.
        if_good false (λ s. is_open_brace) (function_with inner exts words d attrs closed room)
        (goes_on exts words d attrs) any s ts (λ is. function_good exts words d attrs closed s ts is)
        (λ is. if_good false (λ s. goes_on_declared) (λ s ts. fits (2 + declr_height d) room ts
        (declared_with exts words (attrs_behind inner d attrs (room - 1)) s ts))
        (λ s ts. refuses Unexpected ts) any s ts
        (λ is. fits_good false (2 + declr_height d) room
        (declared_with exts words (attrs_behind inner d attrs (room - 1))) any s ts (λ fit.
        declared_good exts words (attrs_behind inner d attrs (room - 1)) (attrs_first_law d attrs) s ts))
        (λ is. refused_here false (λ s ts. refuses Unexpected ts) any s ts Unexpected (λ k e. refl))
        (λ is. inl (λ x e. declared_shrinks exts words (attrs_behind inner d attrs (room - 1))
        (attrs_first_falls d attrs) s ts x (fits_ok (2 + declr_height d) room ts e).1)) (λ is. inl (λ x e. absurd cc)))
        (λ is. inl (λ x e. function_shrinks exts words d attrs closed s ts x e))
        (λ is. inl (λ x e. goes_on_shrinks exts words d attrs s ts x e));
    ready = λ s at.
        ready_as false (function_with inner exts words d attrs closed room)
        (function_or_not inner exts words d attrs closed room) is_open_brace any s at (λ k h. rw h refl)
        (function_ready exts words d attrs closed s at);
  }

  function_or_not_shrinks : (exts : List ℕ) (words : SpecWords) (d : Declr) (attrs : List Attr) (closed : HeldScope)
      → Shrinks (function_or_not inner exts words d attrs closed room)
  unfolding function_or_not
  function_or_not_shrinks exts words d attrs closed s ts x e =
      if_ok (is_open_brace (kind_at ts)) e (λ is e. function_shrinks exts words d attrs closed s ts x e)
      (λ is e. goes_on_shrinks exts words d attrs s ts x e)

  abbrev attrs_then : List ℕ → SpecWords → Declr → HeldScope → Reader Item
  attrs_then exts words d closed =
      behind (attrs_at room) (λ attrs. function_or_not inner exts words d attrs closed room)

  attrs_then_law : (exts : List ℕ) (words : SpecWords) (d : Declr) (closed : HeldScope)
      → Law false (attrs_then exts words d closed) is_open_brace any
  attrs_then_law exts words d closed =
      bind_law false (attrs_at room) (λ attrs. function_or_not inner exts words d attrs closed room) is_open_brace
      is_open_brace any (attrs_law false room is_open_brace is_open_brace ((λ kind h. h), brace_attribute))
      (λ attrs. function_or_not_law exts words d attrs closed)
      (inl (λ attrs s ts y e. function_or_not_shrinks exts words d attrs closed s ts y e))

  attrs_then_shrinks : (exts : List ℕ) (words : SpecWords) (d : Declr) (closed : HeldScope)
      → Shrinks (attrs_then exts words d closed)
  attrs_then_shrinks exts words d closed s ts x e =
      let a = bind_ok e in
      omega
      (arith, none_tokens.attrs_falls room _ _ _ a.1, function_or_not_shrinks exts words d a.0.tree closed _ _ _ a.2)

  -- behind a first declarator
  behind_declr_law : (exts : List ℕ) (words : SpecWords) (d : Declr) (closed : Option HeldScope)
      → Law false (behind_declr inner exts words d closed room) stops_named any
  unfolding behind_function
  behind_declr_law exts words d None = record {
    good = λ s ts. declared_good exts words (plain_first d) (plain_law d) s ts;
    ready = λ s at. ready_before false (declared_with exts words (plain_first d)) is_semicolon stops_named any any s at
        (λ kind h. h) semi_named (declared_ready exts words (plain_first d) (plain_law d) s at);
  }
  behind_declr_law exts words d (Some closed) = record {
    good = λ s ts.
        if_good false (λ s. is_asm) (λ s ts. fits (2 + declr_height d) room ts
        (declared_with exts words (plain_first d) s ts)) (attrs_then exts words d closed) any s ts
        (λ is. fits_good false (2 + declr_height d) room (declared_with exts words (plain_first d)) any s ts
        (λ fit. declared_good exts words (plain_first d) (plain_law d) s ts))
        (λ is. (attrs_then_law exts words d closed).good s ts)
        (λ is. inl (λ x e. declared_shrinks exts words (plain_first d) (plain_falls d) s ts x
        (fits_ok (2 + declr_height d) room ts e).1))
        (λ is. inl (λ x e. attrs_then_shrinks exts words d closed s ts x e));
    ready = λ s at.
        ready_before false (behind_function inner exts words d closed room) is_open_brace stops_named any any s at
        (λ kind h. h) brace_named
        (ready_as false (attrs_then exts words d closed) (behind_function inner exts words d closed room) is_open_brace
        any s at (λ k h. rw (brace_asm (kind_at k) h) refl) ((attrs_then_law exts words d closed).ready s at));
  }

  behind_declr_shrinks : (exts : List ℕ) (words : SpecWords) (d : Declr) (closed : Option HeldScope)
      → Shrinks (behind_declr inner exts words d closed room)
  unfolding behind_function
  behind_declr_shrinks exts words d None s ts x e = declared_shrinks exts words (plain_first d) (plain_falls d) s ts x e
  behind_declr_shrinks exts words d (Some closed) s ts x e =
      if_ok (is_asm (kind_at ts)) e (λ is e. declared_shrinks exts words (plain_first d) (plain_falls d) s ts x
      (fits_ok (2 + declr_height d) room ts e).1) (λ is e. attrs_then_shrinks exts words d closed s ts x e)

  -- Functions with a list of identifiers: declarations in the scope of the parameters, then the block, in which the
  -- function's name is declared. `{ }` completes them.

  not_open : (kind : TokenKind) → is_open_brace kind ≡ true → not (is_open_brace kind) ≡ false
  not_open kind h = rw h refl

  old_declaration_good : (s : HeldScopes) (ts : List Lexeme) → Good false (old_declaration inner (room - 1)) any s ts
  unfolding old_declaration declaration_with
  old_declaration_good s ts =
      bind_good false (extensions_at (room - 1)) (λ exts. declaration_with inner exts (room - 1)) is_int any s ts
      (λ exts scopes gives at. let h = gives.reads int_of refl in
      declaration_ready n inner laws places exts (room - 1) (omega (arith, less))
      (exts_room n inner places laws (room - 1) s h.0 (found exts scopes int_of) h.1 h.2) scopes at)
      ((extensions_law false (room - 1) is_int is_int ((λ kind h. h), int_extension)).good s ts)
      (λ x is. declaration_good n inner laws places x.tree (room - 1) (omega (arith, less)) x.scopes x.rest)
      (inl (λ x y is e. declaration_shrinks n inner laws places x.tree (room - 1) x.scopes x.rest y e))
    where
      int_of : List Lexeme
      int_of = record { kind = kinds.Keyword keywords.Int; at = 0 } ∷ []

  record Olds : Type 0 where
    ds : List Declaration
    closed : HeldScope

  abbrev olds_of : List Declaration → HeldScopes → Olds
  olds_of ds t = record { ds = ds; closed = innermost t }

  abbrev declarations : Reader (List Declaration)
  declarations = repeated (λ kind. not (is_open_brace kind)) (old_declaration inner (room - 1))

  abbrev olds : Reader Olds
  olds = in_scope (λ s. new_scope (is_wide s)) declarations olds_of

  declarations_law : Law false declarations is_open_brace is_open_brace
  declarations_law =
      repeated_law false (λ kind. not (is_open_brace kind)) (old_declaration inner (room - 1))
      (old_declaration_shrinks [] none_tokens n inner laws (room - 1)) is_open_brace is_open_brace
      (λ kind h. h) not_open
      (λ s ts is. good_before false (old_declaration inner (room - 1)) any is_open_brace s ts (λ kind h. refl)
      (old_declaration_good s ts))

  olds_law : Law false olds is_open_brace is_open_brace
  olds_law = record {
    good = λ s ts. good_weaker false olds is_open_brace s ts (own_good (λ s. new_scope (is_wide s)) declarations olds_of
        is_open_brace s ts (declarations_law.good (new_scope (is_wide s) ∷ s) ts));
    ready = λ s at. ready_weaker false olds is_open_brace is_open_brace s at (own_ready (λ s. new_scope (is_wide s))
        declarations olds_of is_open_brace is_open_brace s at (declarations_law.ready (new_scope (is_wide s) ∷ s) at));
  }

  abbrev old_made : List ℕ → SpecWords → Declr → List Attr → Olds → Block → HeldScopes → Item
  old_made exts words d attrs o b t = old_function_item exts words d attrs o.ds b.opening b.items b.closing

  abbrev old_block : List ℕ → SpecWords → Declr → List Attr → Olds → Reader Item
  old_block exts words d attrs o s ts =
      in_scope (λ s. o.closed) (block_body inner (room - 1)) (old_made exts words d attrs o) s ts

  abbrev old_body : List ℕ → SpecWords → Declr → List Attr → Olds → Reader Item
  old_body exts words d attrs o s ts = old_block exts words d attrs o (release Value s) ts

  old_block_shrinks : (exts : List ℕ) (words : SpecWords) (d : Declr) (attrs : List Attr) (o : Olds)
      → Shrinks (old_block exts words d attrs o)
  old_block_shrinks exts words d attrs o s ts x e =
      let a = bind_ok e in
      omega (arith, block_body_shrinks [] none_tokens n inner laws (room - 1) _ _ _ a.1, left_is a.2)

  old_body_good : (exts : List ℕ) (words : SpecWords) (d : Declr) (attrs : List Attr) (o : Olds) (s : HeldScopes)
      (ts : List Lexeme)
      → is_open_brace (kind_at ts) ≡ true → Good false (old_body exts words d attrs o) any s ts
  old_body_good exts words d attrs o s ts is =
      good_from false (old_block exts words d attrs o) (release Value) any s ts (release_kept Value s)
      (good_weaker false (old_block exts words d attrs o) any (release Value s) ts
      (own_good (λ s. o.closed) (block_body inner (room - 1)) (old_made exts words d attrs o) any (release Value s) ts
      (block_body_good n inner laws places (room - 1) (omega (arith, less)) (o.closed ∷ release Value s) ts
      (open_brace_end (kind_at ts) is))))

  old_body_ready : (exts : List ℕ) (words : SpecWords) (d : Declr) (attrs : List Attr) (o : Olds)
      (s : HeldScopes) (at : ℕ)
      → Ready false (old_body exts words d attrs o) is_open_brace any s at
  old_body_ready exts words d attrs o s at =
      ready_from false (old_block exts words d attrs o) (release Value) is_open_brace any s at (release_kept Value s)
      (ready_weaker false (old_block exts words d attrs o) is_open_brace any (release Value s) at
      (own_ready (λ s. o.closed) (block_body inner (room - 1)) (old_made exts words d attrs o) is_open_brace any
      (release Value s) at
      (block_body_ready n inner laws places (room - 1) (omega (arith, less)) (o.closed ∷ release Value s) at)))

  -- the declarations end at a brace alone
  olds_open : (s : HeldScopes) (ts : List Lexeme) (x : Found Olds) → olds s ts ≡ done x
      → is_open_brace (kind_at x.rest) ≡ true
  unfolding repeated
  olds_open s ts x e =
      let a = bind_ok e in
      let none = run_stops (repeated_turn (λ kind. not (is_open_brace kind)) (old_declaration inner (room - 1)))
      (row_turn_shrinks (λ kind. not (is_open_brace kind)) (old_declaration inner (room - 1))
      (old_declaration_shrinks [] none_tokens n inner laws (room - 1))) [] (enter s) ts a.0 a.1 in
      subst (λ (x : Found Olds). is_open_brace (kind_at x.rest) ≡ true) (ok_is a.2)
      (by_test (kind_at a.0.rest) _ (is_open_brace (kind_at a.0.rest)) refl none)
    where
      by_test : {A : Type 0} (k : TokenKind) (y : A) (b : Bool) → is_open_brace k ≡ b
          → (if not b then Some y else None) ≡ None → is_open_brace k ≡ true
      by_test k y true is e = is
      by_test k y false is e = absurd cc

  abbrev old_rest : List ℕ → SpecWords → Declr → List Attr → Reader Item
  old_rest exts words d attrs = behind olds (old_body exts words d attrs)

  olds_falls : Falls olds
  olds_falls s ts x e =
      let a = bind_ok e in
      let less : length a.0.rest ≤ length ts =
      repeated_falls (λ kind. not (is_open_brace kind)) (old_declaration inner (room - 1))
      (old_declaration_shrinks [] none_tokens n inner laws (room - 1)) (enter s) ts a.0 a.1 in
      omega (arith, less, left_is a.2)

  old_rest_shrinks : (exts : List ℕ) (words : SpecWords) (d : Declr) (attrs : List Attr)
      → Shrinks (old_rest exts words d attrs)
  old_rest_shrinks exts words d attrs =
      falls_shrinks olds (old_body exts words d attrs) olds_falls
      (λ o s ts x e. old_block_shrinks exts words d attrs o (release Value s) ts x e)

  abbrev old_all : List ℕ → SpecWords → Declr → Reader Item
  old_all exts words d = behind (attrs_at room) (old_rest exts words d)

  -- the reader of such functions, written as one of declarations with their scope, and one of the block
  old_is : (exts : List ℕ) (words : SpecWords) (d : Declr) (s : HeldScopes) (k : List Lexeme)
      → old_function_with inner exts words d room s k ≡ old_all exts words d s k
  unfolding old_function_with and_then
  old_is exts words d s k = by_attrs (attrs_at room s k)
    where
      by_declarations : (attrs : List Attr) (r : Read (List Declaration)) →
          and_then r (λ ds. and_then
          (block_body inner (room - 1) (reopen (innermost ds.scopes) (release Value (leave ds.scopes))) ds.rest)
          (λ body. ends (old_function_item exts words d attrs ds.tree body.tree.opening body.tree.items
          body.tree.closing) (leave body.scopes) body.rest)) ≡
          and_then (and_then r (λ x. ends (olds_of x.tree x.scopes) (leave x.scopes) x.rest))
          (λ o. old_body exts words d attrs o.tree o.scopes o.rest)
      by_declarations attrs (Ok ds) = refl
      by_declarations attrs (Err e) = refl

      by_attrs : (r : Read (List Attr)) →
          and_then r (λ attrs. and_then (declarations (enter attrs.scopes) attrs.rest)
          (λ ds. and_then
          (block_body inner (room - 1) (reopen (innermost ds.scopes) (release Value (leave ds.scopes))) ds.rest)
          (λ body. ends (old_function_item exts words d attrs.tree ds.tree body.tree.opening body.tree.items
          body.tree.closing) (leave body.scopes) body.rest))) ≡
          and_then r (λ attrs. old_rest exts words d attrs.tree attrs.scopes attrs.rest)
      by_attrs (Ok attrs) = by_declarations attrs.tree (declarations (enter attrs.scopes) attrs.rest)
      by_attrs (Err e) = refl

  old_law : (exts : List ℕ) (words : SpecWords) (d : Declr)
      → Law false (old_function_with inner exts words d room) is_open_brace any
  old_law exts words d = record {
    good = λ s ts. good_as false (old_all exts words d) (old_function_with inner exts words d room) any s ts
        (λ k e. old_is exts words d s k) (inr (λ k e. old_is exts words d s k)) (all_law.good s ts);
    ready = λ s at.
        ready_as false (old_all exts words d) (old_function_with inner exts words d room) is_open_brace any s at
        (λ k h. old_is exts words d s k) (all_law.ready s at);
  }
    where
      rest_law : (attrs : List Attr) → Law false (old_rest exts words d attrs) is_open_brace any
      rest_law attrs = record {
        good = λ s ts.
            bind_good false olds (old_body exts words d attrs) is_open_brace any s ts
            (λ o scopes gives at. old_body_ready exts words d attrs o scopes at) (olds_law.good s ts)
            (λ x is. old_body_good exts words d attrs x.tree x.scopes x.rest (olds_open s ts x is))
            (inl (λ x y is e. old_block_shrinks exts words d attrs x.tree (release Value x.scopes) x.rest y e));
        ready = λ s at. ready_bind false olds (old_body exts words d attrs) is_open_brace is_open_brace any s at
            (olds_law.ready s at) (λ o scopes gives at. old_body_ready exts words d attrs o scopes at);
      }

      all_law : Law false (old_all exts words d) is_open_brace any
      all_law =
          bind_law false (attrs_at room) (old_rest exts words d) is_open_brace is_open_brace any
          (attrs_law false room is_open_brace is_open_brace ((λ kind h. h), brace_attribute)) rest_law
          (inl (λ attrs s ts y e. old_rest_shrinks exts words d attrs s ts y e))

  old_shrinks : (exts : List ℕ) (words : SpecWords) (d : Declr) → Shrinks (old_function_with inner exts words d room)
  old_shrinks exts words d s ts x e =
      falls_shrinks (attrs_at room) (old_rest exts words d) (none_tokens.attrs_falls room)
      (old_rest_shrinks exts words d) s ts x (sym (old_is exts words d s ts) ∙ e)

  -- A first declarator, whose name is declared behind it.

  abbrev released_rest : List ℕ → SpecWords → Option HeldScope → Declr → Reader Item
  released_rest exts words closed d s ts = behind_declr inner exts words d closed room (release Value s) ts

  released_law : (exts : List ℕ) (words : SpecWords) (closed : Option HeldScope) (d : Declr)
      → Law false (released_rest exts words closed d) stops_named any
  released_law exts words closed d = record {
    good = λ s ts. good_from false (behind_declr inner exts words d closed room) (release Value) any s ts
        (release_kept Value s) ((behind_declr_law exts words d closed).good (release Value s) ts);
    ready = λ s at. ready_from false (behind_declr inner exts words d closed room) (release Value) stops_named any s at
        (release_kept Value s) ((behind_declr_law exts words d closed).ready (release Value s) at);
  }

  abbrev known_rest : List ℕ → SpecWords → Option HeldScope → Declr → Reader Item
  known_rest exts words closed d s ts =
      if lists_identifiers d then old_function_with inner exts words d room s ts
      else released_rest exts words closed d s ts

  known_shrinks : (exts : List ℕ) (words : SpecWords) (closed : Option HeldScope) (d : Declr)
      → Shrinks (known_rest exts words closed d)
  known_shrinks exts words closed d s ts x e =
      if_ok (lists_identifiers d) e (λ is e. old_shrinks exts words d s ts x e)
      (λ is e. behind_declr_shrinks exts words d closed (release Value s) ts x e)

  known_law : (exts : List ℕ) (words : SpecWords) (closed : Option HeldScope) (d : Declr)
      → Law false (known_rest exts words closed d) stops_named any
  known_law exts words closed d = by_list (lists_identifiers d) refl
    where
      by_list : (b : Bool) → lists_identifiers d ≡ b → Law false (known_rest exts words closed d) stops_named any
      by_list true is = record {
        good = λ s ts.
            good_as false (old_function_with inner exts words d room) (known_rest exts words closed d) any s ts
            (λ k e. rw is refl) (inr (λ k e. rw is refl)) ((old_law exts words d).good s ts);
        ready = λ s at.
            ready_before false (known_rest exts words closed d) is_open_brace stops_named any any s at
            (λ kind h. h) brace_named
            (ready_as false (old_function_with inner exts words d room) (known_rest exts words closed d) is_open_brace
            any s at (λ k h. rw is refl) ((old_law exts words d).ready s at));
      }
      by_list false is = record {
        good = λ s ts. good_as false (released_rest exts words closed d) (known_rest exts words closed d) any s ts
            (λ k e. rw is refl) (inr (λ k e. rw is refl)) ((released_law exts words closed d).good s ts);
        ready = λ s at.
            ready_as false (released_rest exts words closed d) (known_rest exts words closed d) stops_named any s at
            (λ k h. rw is refl) ((released_law exts words closed d).ready s at);
      }

  abbrev declr_rest : List ℕ → SpecWords → Declared → Reader Item
  declr_rest exts words d = behind (present d.declr) (known_rest exts words d.closed)

  declr_rest_good : (exts : List ℕ) (words : SpecWords) (d : SomeDeclr) (closed : Option HeldScope) (s : HeldScopes)
      (ts : List Lexeme)
      → Good false (declr_rest exts words (record { declr = d; closed = closed })) any s ts
  unfolding and_then
  declr_rest_good exts words no_declr closed s ts =
      refused_here false
      (declr_rest exts words (record { declr = no_declr; closed = closed })) any s ts Unexpected (λ k e. refl)
  declr_rest_good exts words (some_declr d) closed s ts = (known_law exts words closed d).good s ts

  declr_rest_ready : (exts : List ℕ) (words : SpecWords) (d : SomeDeclr) (closed : Option HeldScope) (it : Declr)
      → d ≡ some_declr it → (s : HeldScopes) (at : ℕ) →
      Ready false (declr_rest exts words (record { declr = d; closed = closed })) stops_named any s at
  unfolding and_then
  declr_rest_ready exts words no_declr closed it e s at = absurd cc
  declr_rest_ready exts words (some_declr d) closed it e s at = (known_law exts words closed d).ready s at

  declr_rest_shrinks : (exts : List ℕ) (words : SpecWords) (d : Declared) → Shrinks (declr_rest exts words d)
  declr_rest_shrinks exts words d s ts x e =
      let a = bind_ok e in
      let p = present_ok d.declr s ts a.0 a.1 in
      let same : length ts ≡ length a.0.rest = ap (λ (x : Found Declr). length x.rest) p.1 in
      let less : length x.rest < length a.0.rest =
      known_shrinks exts words d.closed a.0.tree a.0.scopes a.0.rest x a.2 in
      omega (arith, same, less)

  there : (s : HeldScopes) (ts : List Lexeme) (x : Found Declared)
      → inner.declr Named (Some Value) true (room - 2) s ts ≡ done x → (d : Declr) × (x.tree.declr ≡ some_declr d)
  there s ts x e =
      places.declrs.there Named (Some Value) true (room - 2) s ts x e
      (laws.declrs.shrinks (Some Value) true (room - 2) s ts x e)

  first_declr_good : (exts : List ℕ) (words : SpecWords) (s : HeldScopes) (ts : List Lexeme)
      → Good false (first_declr inner exts words room) any s ts
  unfolding first_declr
  first_declr_good exts words s ts =
      bind_good false (inner.declr Named (Some Value) true (room - 2)) (declr_rest exts words) stops_named any s ts
      (λ d scopes gives at. let h = gives.reads (semi ∷ []) refl in
      let it = there s h.0 (found d scopes (semi ∷ [])) h.1 in
      declr_rest_ready exts words d.declr d.closed it.0 it.1 scopes at)
      (places.declrs.good Named (Some Value) true (room - 2) (omega (arith, less, high)) s ts)
      (λ x is. declr_rest_good exts words x.tree.declr x.tree.closed x.scopes x.rest)
      (inl (λ x y is e. declr_rest_shrinks exts words x.tree x.scopes x.rest y e))

  first_declr_ready : (exts : List ℕ) (words : SpecWords) (s : HeldScopes) (at : ℕ)
      → Ready false (first_declr inner exts words room) is_name_kind any s at
  unfolding first_declr
  first_declr_ready exts words s at =
      ready_bind false (inner.declr Named (Some Value) true (room - 2))
      (declr_rest exts words) is_name_kind stops_named any s at
      (places.declrs.named (Some Value) true (room - 2) (omega (arith, less, high)) (omega (arith, high)) s at)
      (λ d scopes gives at. let h = gives.reads (semi ∷ []) refl in
      let it = there s h.0 (found d scopes (semi ∷ [])) h.1 in
      declr_rest_ready exts words d.declr d.closed it.0 it.1 scopes at)

  first_declr_shrinks : (exts : List ℕ) (words : SpecWords) → Shrinks (first_declr inner exts words room)
  unfolding first_declr
  first_declr_shrinks exts words s ts x e =
      let a = bind_ok e in
      let one : length a.0.rest < length ts = laws.declrs.shrinks (Some Value) true (room - 2) s ts a.0 a.1 in
      let less : length x.rest < length a.0.rest = declr_rest_shrinks exts words a.0.tree a.0.scopes a.0.rest x a.2 in
      omega (arith, one, less)

  -- Behind the words: a declaration without a declarator or with `typedef`, or a first declarator.

  abbrev whole_declaration : List ℕ → SpecWords → Reader Item
  whole_declaration exts words = behind (declaration_behind inner exts words room) (λ d. ends (of_declaration d))

  whole_shrinks : (exts : List ℕ) (words : SpecWords) → Shrinks (whole_declaration exts words)
  whole_shrinks exts words s ts x e =
      as_decl_shrinks _ ts x (λ d e. declaration_behind_shrinks [] none_tokens n inner laws exts words room s ts d e) e

  abbrev typedef_or_not : List ℕ → SpecWords → Reader Item
  typedef_or_not exts words s ts =
      if has_typedef_word (storage_words words) then whole_declaration exts words s ts
      else first_declr inner exts words room s ts

  abbrev plain_item : List ℕ → SpecWords → Reader Item
  plain_item exts words s ts =
      if is_semicolon (kind_at ts) then behind (bare_declaration inner exts words room)
      (λ d. ends (of_declaration d)) s ts else typedef_or_not exts words s ts

  abbrev item_rest : List ℕ → SpecWords → Reader Item
  item_rest exts words s ts = if has_auto words then whole_declaration exts words s ts else plain_item exts words s ts

  -- at a semicolon this is the declaration itself
  bare_is : (exts : List ℕ) (words : SpecWords) (s : HeldScopes) (k : List Lexeme) → has_auto words ≡ false
      → is_semicolon (kind_at k) ≡ true → plain_item exts words s k ≡ whole_declaration exts words s k
  unfolding declaration_behind
  bare_is exts words s k off h = rw (off, h) refl

  plain_item_shrinks : (exts : List ℕ) (words : SpecWords) → has_auto words ≡ false → Shrinks (plain_item exts words)
  plain_item_shrinks exts words off s ts x e = by_semi (is_semicolon (kind_at ts)) refl
    where
      by_typedef : (b : Bool)
          → (if b then whole_declaration exts words s ts else first_declr inner exts words room s ts) ≡ done x
          → length x.rest < length ts
      by_typedef true e = whole_shrinks exts words s ts x e
      by_typedef false e = first_declr_shrinks exts words s ts x e

      by_semi : (b : Bool) → is_semicolon (kind_at ts) ≡ b → length x.rest < length ts
      by_semi true is = whole_shrinks exts words s ts x (sym (bare_is exts words s ts off is) ∙ e)
      by_semi false is = by_typedef (has_typedef_word (storage_words words)) (rw is at e)

  item_rest_shrinks : (exts : List ℕ) (words : SpecWords) → Shrinks (item_rest exts words)
  item_rest_shrinks exts words s ts x e =
      if_ok (has_auto words) e (λ is e. whole_shrinks exts words s ts x e)
      (λ off e. plain_item_shrinks exts words off s ts x e)

  whole_good : (exts : List ℕ) (words : SpecWords) → AutoRoom n inner laws places words room
      → (s : HeldScopes) (ts : List Lexeme) → Good false (whole_declaration exts words) any s ts
  whole_good exts words auto s ts =
      mapped_good false (declaration_behind inner exts words room) of_declaration any s ts
      (declaration_behind_good n inner laws places exts words room less auto s ts)

  whole_ready : (exts : List ℕ) (words : SpecWords) → AutoRoom n inner laws places words room
      → (s : HeldScopes) (at : ℕ) → Ready false (whole_declaration exts words) (behind_of words) any s at
  whole_ready exts words auto s at =
      mapped_ready false (declaration_behind inner exts words room) of_declaration (behind_of words) any s at
      (declaration_behind_ready n inner laws places exts words room less auto (inl (omega (arith, high))) s at)

  plain_item_good : (exts : List ℕ) (words : SpecWords) → AutoRoom n inner laws places words room
      → has_auto words ≡ false → (s : HeldScopes) (ts : List Lexeme) → Good false (plain_item exts words) any s ts
  plain_item_good exts words auto plain s ts = by_semi (is_semicolon (kind_at ts)) refl
    where
      by_typedef : is_semicolon (kind_at ts) ≡ false → (b : Bool) → has_typedef_word (storage_words words) ≡ b
          → Good false (plain_item exts words) any s ts
      by_typedef off true is =
          good_choice false (whole_declaration exts words) (plain_item exts words) any s ts
          (λ k e. rw (kind_same k ts e, off, is) refl) (plain_item_shrinks exts words plain)
          (whole_good exts words auto s ts)
      by_typedef off false is =
          good_choice false (first_declr inner exts words room) (plain_item exts words) any s ts
          (λ k e. rw (kind_same k ts e, off, is) refl) (plain_item_shrinks exts words plain)
          (first_declr_good exts words s ts)

      by_semi : (b : Bool) → is_semicolon (kind_at ts) ≡ b → Good false (plain_item exts words) any s ts
      by_semi true is =
          good_choice false (whole_declaration exts words) (plain_item exts words) any s ts (λ k e.
          bare_is exts words s k plain (ap is_semicolon (kind_same k ts e) ∙ is)) (plain_item_shrinks exts words plain)
          (whole_good exts words auto s ts)
      by_semi false off = by_typedef off (has_typedef_word (storage_words words)) refl

  item_rest_good : (exts : List ℕ) (words : SpecWords) → AutoRoom n inner laws places words room
      → (s : HeldScopes) (ts : List Lexeme) → Good false (item_rest exts words) any s ts
  item_rest_good exts words auto s ts = by_auto (has_auto words) refl
    where
      by_auto : (b : Bool) → has_auto words ≡ b → Good false (item_rest exts words) any s ts
      by_auto true is =
          good_as false (whole_declaration exts words) (item_rest exts words) any s ts (λ k e. rw is refl)
          (inr (λ k e. rw is refl)) (whole_good exts words auto s ts)
      by_auto false is =
          good_as false (plain_item exts words) (item_rest exts words) any s ts (λ k e. rw is refl)
          (inr (λ k e. rw is refl)) (plain_item_good exts words auto is s ts)

  plain_item_ready : (exts : List ℕ) (words : SpecWords) → AutoRoom n inner laws places words room
      → has_auto words ≡ false → (s : HeldScopes) (at : ℕ)
      → Ready false (plain_item exts words) (behind_of words) any s at
  plain_item_ready exts words auto plain s at = by_typedef (has_typedef_word (storage_words words)) refl
    where
      typedef_is : has_typedef_word (storage_words words) ≡ true → (k : List Lexeme)
          → plain_item exts words s k ≡ whole_declaration exts words s k
      typedef_is is k = by_semi (is_semicolon (kind_at k)) refl
        where
          by_semi : (b : Bool) → is_semicolon (kind_at k) ≡ b
              → plain_item exts words s k ≡ whole_declaration exts words s k
          by_semi true h = bare_is exts words s k plain h
          by_semi false h = rw (h, is) refl

      by_typedef : (b : Bool) → has_typedef_word (storage_words words) ≡ b
          → Ready false (plain_item exts words) (behind_of words) any s at
      by_typedef true is =
          ready_as false (whole_declaration exts words) (plain_item exts words) (behind_of words) any s at
          (λ k h. typedef_is is k) (whole_ready exts words auto s at)
      by_typedef false is =
          ready_before false (plain_item exts words) is_name_kind (behind_of words) any any s at (λ kind h. h)
          (λ kind h. plain_behind_of words plain kind (name_words kind h))
          (ready_as false (first_declr inner exts words room) (plain_item exts words) is_name_kind any s at
          (λ k h. rw (name_semi (kind_at k) h, is) refl) (first_declr_ready exts words s at))

  item_rest_ready : (exts : List ℕ) (words : SpecWords) → AutoRoom n inner laws places words room
      → (s : HeldScopes) (at : ℕ) → Ready false (item_rest exts words) (behind_of words) any s at
  item_rest_ready exts words auto s at = by_auto (has_auto words) refl
    where
      by_auto : (b : Bool) → has_auto words ≡ b → Ready false (item_rest exts words) (behind_of words) any s at
      by_auto true is =
          ready_as false (whole_declaration exts words) (item_rest exts words) (behind_of words) any s at
          (λ k h. rw is refl) (whole_ready exts words auto s at)
      by_auto false is =
          ready_as false (plain_item exts words) (item_rest exts words) (behind_of words) any s at (λ k h. rw is refl)
          (plain_item_ready exts words auto is s at)

  -- words, and what stands behind them
  abbrev worded : List ℕ → Reader Item
  worded exts = behind (specs_here inner Declaring room) (item_rest exts)

  worded_good : (exts : List ℕ) (s : HeldScopes) (ts : List Lexeme) → Good false (worded exts) any s ts
  worded_good exts s ts =
      bind_good_by false (specs_here inner Declaring room) (item_rest exts) stops_specs any behind_of s ts
      (here_widen n inner laws places room (omega (arith, less)) s)
      (λ words scopes gives at. let h = gives.reads (semi ∷ []) refl in
      item_rest_ready exts words
      (specs_here_auto n inner laws places room s h.0 (found words scopes (semi ∷ [])) h.1) scopes at)
      (good_weaker false (specs_here inner Declaring room) stops_specs s ts
      (specs_here_good n inner places laws Declaring room (omega (arith, less)) s ts))
      (λ x is. item_rest_good exts x.tree (specs_here_auto n inner laws places room s ts x is) x.scopes x.rest)
      (inl (λ x y is e. item_rest_shrinks exts x.tree x.scopes x.rest y e))

  worded_law : (exts : List ℕ) → Law false (worded exts) is_int any
  worded_law exts = record {
    good = λ s ts. worded_good exts s ts;
    ready = λ s at.
        let r = ready_weaker false (specs_here inner Declaring room) is_int stops_specs s at
        (specs_here_ready n inner places laws Declaring room (omega (arith, less)) (omega (arith, high)) s at) in
        ready_bind_by false (specs_here inner Declaring room) (item_rest exts) is_int stops_specs any behind_of s at
        (here_widen n inner laws places room (omega (arith, less)) s) r
        (λ k h. first_int r.more at r.begins k)
        (λ words scopes gives at. let h = gives.reads (semi ∷ []) refl in
        item_rest_ready exts words
        (specs_here_auto n inner laws places room s h.0 (found words scopes (semi ∷ [])) h.1) scopes at);
  }

  worded_shrinks : (exts : List ℕ) → Shrinks (worded exts)
  worded_shrinks exts s ts x e =
      let a = bind_ok e in
      let one : length a.0.rest < length ts = specs_here_shrinks [] n inner laws Declaring room s ts a.0 a.1 in
      let rest : length x.rest < length a.0.rest = item_rest_shrinks exts a.0.tree a.0.scopes a.0.rest x a.2 in
      omega (arith, one, rest)

  declared_item_good : (s : HeldScopes) (ts : List Lexeme) → Good false (declared_item inner room) any s ts
  unfolding declared_item
  declared_item_good s ts =
      bind_good false (extensions_at room) worded is_int any s ts
      (λ exts scopes gives at. (worded_law exts).ready scopes at)
      ((extensions_law false room is_int is_int ((λ kind h. h), int_extension)).good s ts)
      (λ x is. (worded_law x.tree).good x.scopes x.rest) (inl (λ x y is e. worded_shrinks x.tree x.scopes x.rest y e))

  -- An item, by its first token.

  abbrev asm_rest : ℕ → Reader Item
  asm_rest keyword =
      behind group_at (λ group. behind (token_at is_semicolon) (λ semi. ends (asm_item keyword group semi)))

  asm_rest_law : (keyword : ℕ) → Law false (asm_rest keyword) any any
  asm_rest_law keyword =
      bind_law false group_at (λ group. behind (token_at is_semicolon)
      (λ semi. ends (asm_item keyword group semi))) any any any (group_anywhere false)
      (λ group. bind_law false (token_at is_semicolon) (λ semi. ends (asm_item keyword group semi)) any any any
      (token_law false is_semicolon (kinds.Punct puncts.Semicolon) any semicolon_end refl refl)
      (λ semi. ends_law false (asm_item keyword group semi) any any (λ kind h. h)) (inr (λ kind h. h)))
      (inr (λ kind h. h))

  pub item_good : (s : HeldScopes) (ts : List Lexeme) → Good false (item_with inner room) any s ts
  unfolding item_with asm_item_with
  item_good s ts = by_semi (is_semicolon (kind_at ts)) refl
    where
      shrinks : Shrinks (item_with inner room)
      shrinks = item_shrinks [] none_tokens n inner laws room

      by_assert : is_semicolon (kind_at ts) ≡ false → is_asm (kind_at ts) ≡ false → (c : Bool)
          → is_static_assert (kind_at ts) ≡ c → Good false (item_with inner room) any s ts
      by_assert a b true is =
          good_choice false (λ s ts. fits 1 room ts (behind assert_at (λ it. ends (decl_item (decl_assert it))) s ts))
          (item_with inner room) any s ts (λ k e. rw (kind_same k ts e, a, b, is) refl) shrinks
          (fits_good false 1 room (behind assert_at (λ it. ends (decl_item (decl_assert it)))) any s ts (λ fit.
          mapped_good false assert_at (λ it. decl_item (decl_assert it)) any s ts ((assert_law false).good s ts)))
      by_assert a b false is =
          good_choice false (declared_item inner room) (item_with inner room) any s ts
          (λ k e. rw (kind_same k ts e, a, b, is) refl) shrinks (declared_item_good s ts)

      by_asm : is_semicolon (kind_at ts) ≡ false → (b : Bool) → is_asm (kind_at ts) ≡ b
          → Good false (item_with inner room) any s ts
      by_asm a true is =
          good_choice false (λ s ts. fits 1 room ts (behind take_one asm_rest s ts)) (item_with inner room) any s ts
          (λ k e. rw (kind_same k ts e, a, is) refl) shrinks
          (fits_good false 1 room (behind take_one asm_rest) any s ts (λ fit.
          take_behind false asm_rest any asm_rest_law s ts (asm_end (kind_at ts) is)))
      by_asm a false is = by_assert a is (is_static_assert (kind_at ts)) refl

      by_semi : (a : Bool) → is_semicolon (kind_at ts) ≡ a → Good false (item_with inner room) any s ts
      by_semi true is =
          good_choice false
          (λ s ts. fits 1 room ts (behind take_one (λ semi. ends (semi_item (record { token = semi }))) s ts))
          (item_with inner room) any s ts (λ k e. rw (kind_same k ts e, is) refl) shrinks
          (fits_good false 1 room (behind take_one (λ semi. ends (semi_item (record { token = semi })))) any s ts
          (λ fit. take_behind false (λ semi. ends (semi_item (record { token = semi }))) any (λ semi. ends_law false
          (semi_item (record { token = semi })) any any (λ kind h. h)) s ts (semicolon_end (kind_at ts) is)))
      by_semi false is = by_asm is (is_asm (kind_at ts)) refl

  -- Items up to the end.
  pub items_law : Law false (items_with inner room) any is_end
  unfolding items_with
  items_law =
      repeated_law false (λ kind. not (is_end kind)) (item_with inner room)
      (item_shrinks [] none_tokens n inner laws room) any is_end (λ kind h. refl) not_end
      (λ s ts is. good_before false (item_with inner room) any is_end s ts (λ kind h. refl) (item_good s ts))
