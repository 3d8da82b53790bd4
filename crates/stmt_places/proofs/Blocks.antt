-- Blocks and their items: a name at the beginning of one is completed as a label, `__extension__` as a declaration.
use Rattle.std.proofs.Common.{◌≡◌, ℕ, suc, ◌<◌, ◌≤◌, Bool, true, false, if◌then◌else◌, List, [], ◌∷◌, ◌++◌, length, inl, inr, Option, Some, None, refl, ◌∙◌, ap, arith}
use Rattle.std.specs.Prelude.{◌-◌, not}
use Rattle.c_words.specs.declared.kinds.TokenKind.{TokenKind}
use Rattle.c_words.specs.declared.kinds.TokenKind.TheVariants as kinds
use Rattle.c_words.specs.declared.kinds.Punct.TheVariants as puncts
use Rattle.c_words.specs.declared.kinds.Keyword.TheVariants as keywords
use Rattle.c_tree.specs.declared.lexeme.Lexeme.{Lexeme}
use Rattle.c_syntax.specs.declared.parts.Identifier.{Identifier}
use Rattle.c_syntax.specs.declared.parts.Attr.{Attr}
use Rattle.c_tree.specs.Tree.{Expr, some_expr, SpecWords, no_words, more_words, typedef_name, Declaration, decl_declaration, decl_assert, BlockItem, block_decl, block_stmt, block_labels, Stmt, expr_stmt, attr_stmt, label}
use Rattle.c_tree.specs.WellFormed.{has_auto}
use Rattle.c_units.specs.HeldScopes.{HeldScopes, is_wide, names_type, new_scope, enter}
use Rattle.c_reading.specs.declared.kinds.FaultKind.TheVariants.{Unexpected}
use Rattle.c_reading.specs.declared.kinds.Reach.TheVariants.{Whole}
use Rattle.c_reading.specs.Reading.{Found, Reader, ends, refuses, fits, kind_at, behind_first, take_one, token_at, and_then, repeated, is_comma}
use Rattle.c_reading.specs.Tokens.{is_semicolon, is_colon, is_open_brace, is_close_brace, is_attribute, is_extension, is_static_assert, is_label_word, is_end, spelled_name, identifier_of, name_at, attrs_at, extensions_at, assert_at}
use Rattle.c_reading.specs.Parts.{Inner, Begun, nothing, extensions, Block, block_items_from}
use Rattle.c_reading.specs.Specifying.{begins_specs}
use Rattle.c_reading.specs.Declaring.{names_list, words_of_attrs}
use Rattle.c_reading.specs.Stating.{declaration_with, declaration_from, as_item, as_stmt, expr_stmt_with, label_with, named_item, extended_item, attr_item_by, attr_item, other_item, block_item_with, labels_with, block_body, block_with}
use Rattle.c_reading.proofs.Binding.{found, done, bind_ok, if_ok, token_falls}
use Rattle.c_reading.proofs.Forms.{Falls, Shrinks, shrinks_falls, name_falls}
use Rattle.c_reading.proofs.Rows.{repeated_falls}
use Rattle.c_reading.proofs.Aims.{Laws}
use Rattle.c_reading.proofs.KnotLaws.{none_tokens}
use Rattle.c_reading.proofs.StmtFalls.{block_item_shrinks, labels_shrinks, block_shrinks}
use Rattle.reading_steps.specs.Steps.{first_kind, any, Good, Ready, Law}
use Rattle.reading_steps.specs.Stops.{is_int, stops_whole, stops_stmt}
use Rattle.reading_steps.specs.InnerLaws.{InnerLaws, BlockPlaces}
use Rattle.reading_steps.proofs.Keeping.{kept_refl}
use Rattle.reading_steps.proofs.Steps.{behind, kind_same, refused_here, ends_law, if_good, fits_good, ready_fits, ready_as, ready_bind, ready_take, bind_good, bind_law, take_behind, good_as, good_before, ready_before, law_before, good_weaker, law_weaker, own_good, own_ready, in_scope, tail_good}
use Rattle.reading_steps.proofs.Lists.{repeated_law}
use Rattle.reading_steps.proofs.Chains.{ends_falls, behind_falls, behind_shrinks, falls_shrinks, token_shrinks, take_shrinks, good_choice, token_then, closed_law}
use Rattle.token_places.proofs.Single.{semicolon_end, colon_end, open_brace_end, close_brace_end, mapped_law, mapped_good, mapped_ready, name_law}
use Rattle.token_places.proofs.Groups.{assert_law}
use Rattle.token_places.proofs.Rows.{attrs_law, extensions_law}
use Rattle.token_places.proofs.Names.{names_law}
use Rattle.decl_places.proofs.Members.{exts_room}
use Rattle.expr_places.proofs.Facts.{semicolon_whole}
use Rattle.stmt_places.proofs.Declared.{semi_attribute, declaration_good, declaration_ready, declaration_shrinks, from_good, from_shrinks}

pub int_extension : (kind : TokenKind) → is_int kind ≡ true → is_extension kind ≡ false
int_extension (kinds.Keyword keywords.Int) h = refl
int_extension kind h = absurd cc

pub int_specs : (s : HeldScopes) (kind : TokenKind) → is_int kind ≡ true → begins_specs s kind ≡ true
int_specs s (kinds.Keyword keywords.Int) h = refl
int_specs s kind h = absurd cc

pub brace_stmt : (kind : TokenKind) → is_close_brace kind ≡ true → stops_stmt kind ≡ true
brace_stmt (kinds.Punct puncts.CloseBrace) h = refl
brace_stmt kind h = absurd cc

pub close_open : (kind : TokenKind) → is_close_brace kind ≡ true → not (is_close_brace kind) ≡ false
close_open kind h = rw h refl

pub name_is : (kind : TokenKind) (name : ℕ) → spelled_name kind ≡ Some name → kind ≡ kinds.Name name
name_is (kinds.Name n) name e = cc
name_is kind name e = absurd cc

-- no attribute is `__auto_type`
attrs_plain : (attrs : List Attr) → has_auto (words_of_attrs attrs) ≡ false
attrs_plain [] = refl
attrs_plain (a ∷ attrs) = attrs_plain attrs

close_label : (kind : TokenKind) → is_close_brace kind ≡ true → is_label_word kind ≡ false
close_label (kinds.Punct puncts.CloseBrace) h = refl
close_label kind h = absurd cc

label_word_end : (kind : TokenKind) → is_label_word kind ≡ true → is_end kind ≡ false
label_word_end kinds.End h = absurd cc
label_word_end kind h = refl

semi_comma : (kind : TokenKind) → is_semicolon kind ≡ true → is_comma kind ≡ false
semi_comma (kinds.Punct puncts.Semicolon) h = refl
semi_comma kind h = absurd cc

name_shrinks : Shrinks name_at
name_shrinks s ts x e = let one = name_falls s ts x e in omega (arith, one)

abbrev pub semi_of : Lexeme
semi_of = record { kind = kinds.Punct puncts.Semicolon; at = 0 }

module _ (n : ℕ) (inner : Inner) (laws : Laws [] n inner) (places : InnerLaws n inner) where
  -- expr ; behind what was begun
  pub expr_stmt_good : (begun : Begun) (room : ℕ) → room - 1 < n → (s : HeldScopes) (ts : List Lexeme)
      → Good true (expr_stmt_with inner begun room) any s ts
  unfolding expr_stmt_with
  expr_stmt_good begun room less s ts =
      bind_good true (inner.expr Whole begun (room - 1))
      (λ e. behind (token_at is_semicolon) (λ semi. ends (expr_stmt (some_expr e) semi))) is_semicolon any s ts
      (λ e scopes gives at. (rest e).ready scopes at) (good_before true (inner.expr Whole begun (room - 1)) stops_whole
      is_semicolon s ts semicolon_whole (places.exprs.good Whole begun (room - 1) less s ts))
      (λ x is. (rest x.tree).good x.scopes x.rest)
      (inl (λ x y is e. behind_shrinks (token_at is_semicolon) (λ semi. ends (expr_stmt (some_expr x.tree) semi))
      (token_shrinks is_semicolon) (λ semi. ends_falls (expr_stmt (some_expr x.tree) semi)) x.scopes x.rest y e))
    where
      rest : (e : Expr)
          → Law true (behind (token_at is_semicolon) (λ semi. ends (expr_stmt (some_expr e) semi))) is_semicolon any
      rest e =
          token_then true is_semicolon (kinds.Punct puncts.Semicolon) is_semicolon any
          (λ semi. ends (expr_stmt (some_expr e) semi)) refl refl semicolon_end
          (λ semi. ends_law true (expr_stmt (some_expr e) semi) any any (λ kind h. h))

  -- two tokens at least: the expression and the semicolon
  pub expr_stmt_two : (begun : Begun) (room : ℕ) (s : HeldScopes) (ts : List Lexeme) (x : Found Stmt)
      → expr_stmt_with inner begun room s ts ≡ done x → suc (length x.rest) < length ts
  unfolding expr_stmt_with
  expr_stmt_two begun room s ts x e =
      let a = bind_ok e in
      let b = bind_ok a.2 in
      let one : length a.0.rest < length ts = laws.exprs.shrinks Whole begun (room - 1) s ts a.0 a.1 in
      let two = token_falls is_semicolon a.0.scopes a.0.rest b.0 b.1 in
      let last = ends_falls (expr_stmt (some_expr a.0.tree) b.0.tree) b.0.scopes b.0.rest x b.2 in
      omega (arith, one, two, last)

  pub expr_stmt_shrinks : (begun : Begun) (room : ℕ) → Shrinks (expr_stmt_with inner begun room)
  expr_stmt_shrinks begun room s ts x e = let two = expr_stmt_two begun room s ts x e in omega (arith, two)

  -- a name that is no type's, and `;`
  pub expr_stmt_name : (room : ℕ) → room - 1 < n → 2 ≤ room → (s : HeldScopes) (name at : ℕ)
      → names_type s name ≡ false →
      (t : Stmt) × (expr_stmt_with inner nothing room s (record { kind = kinds.Name name; at = at } ∷ semi_of ∷ [])
      ≡ done (found t s []))
  unfolding expr_stmt_with and_then
  expr_stmt_name room less two s name at no_type =
      let o = places.exprs.named Whole (room - 1) less (omega (arith, two)) s name at no_type in
      (expr_stmt (some_expr o.0) 0, rw (o.1 (semi_of ∷ []) refl) refl)

  -- Labels, behind their name.

  abbrev pub label_rest : ℕ → Identifier → Reader Stmt
  label_rest room name =
      behind (token_at is_colon)
      (λ colon. behind (attrs_at room) (λ attrs. behind (inner.stmt (room - 1)) (λ t. ends (label name colon attrs t))))

  pub label_law : (room : ℕ) → room - 1 < n → 2 ≤ room → (name : Identifier)
      → Law true (label_rest room name) is_colon stops_stmt
  label_law room less two name =
      token_then true is_colon (kinds.Punct puncts.Colon) is_colon stops_stmt (λ colon. behind (attrs_at room)
      (λ attrs. behind (inner.stmt (room - 1)) (λ t. ends (label name colon attrs t)))) refl refl colon_end
      (λ colon. bind_law true (attrs_at room)
      (λ attrs. behind (inner.stmt (room - 1)) (λ t. ends (label name colon attrs t))) any is_semicolon stops_stmt
      (attrs_law true room any is_semicolon ((λ kind h. refl), semi_attribute))
      (λ attrs. mapped_law true (inner.stmt (room - 1)) (label name colon attrs) is_semicolon stops_stmt
      (record {
        good = places.stmts.good (room - 1) less;
        ready = places.stmts.ready (room - 1) less (omega (arith, two));
      }))
      (inl (λ attrs s ts y e. behind_shrinks (inner.stmt (room - 1)) (λ t. ends (label name colon attrs t))
      (laws.stmts.shrinks (room - 1)) (λ t. ends_falls (label name colon attrs t)) s ts y e)))

  pub label_shrinks : (room : ℕ) (name : Identifier) → Shrinks (label_rest room name)
  label_shrinks room name =
      behind_shrinks (token_at is_colon) (λ colon. behind (attrs_at room)
      (λ attrs. behind (inner.stmt (room - 1)) (λ t. ends (label name colon attrs t)))) (token_shrinks is_colon)
      (λ colon. behind_falls (attrs_at room)
      (λ attrs. behind (inner.stmt (room - 1)) (λ t. ends (label name colon attrs t))) (none_tokens.attrs_falls room)
      (λ attrs. behind_falls (inner.stmt (room - 1)) (λ t. ends (label name colon attrs t)) (shrinks_falls
      (inner.stmt (room - 1)) (laws.stmts.shrinks (room - 1))) (λ t. ends_falls (label name colon attrs t))))

  -- Items of blocks, as readers that what was read is made something of.

  abbrev of_decl : Declaration → BlockItem
  of_decl d = block_decl (decl_declaration d)

  from_item_good : (known : SpecWords) (room : ℕ) → has_auto known ≡ false → room < n
      → (stops : TokenKind → Bool) (s : HeldScopes) (ts : List Lexeme)
      → Good false (behind (declaration_from inner known room) (λ d. ends (of_decl d))) stops s ts
  from_item_good known room plain less stops s ts =
      mapped_good false (declaration_from inner known room) of_decl stops s ts
      (good_before false (declaration_from inner known room) any stops s ts (λ kind h. refl)
      (from_good n inner laws places known room plain less s ts))

  from_item_shrinks : (known : SpecWords) (room : ℕ)
      → Shrinks (behind (declaration_from inner known room) (λ d. ends (of_decl d)))
  from_item_shrinks known room =
      behind_shrinks (declaration_from inner known room) (λ d. ends (of_decl d))
      (from_shrinks n inner laws places known room) (λ d. ends_falls (of_decl d))

  with_item_good : (exts : List ℕ) (room : ℕ) → room < n
      → (stops : TokenKind → Bool) (s : HeldScopes) (ts : List Lexeme)
      → Good false (behind (declaration_with inner exts room) (λ d. ends (of_decl d))) stops s ts
  with_item_good exts room less stops s ts =
      mapped_good false (declaration_with inner exts room) of_decl stops s ts
      (good_before false (declaration_with inner exts room) any stops s ts (λ kind h. refl)
      (declaration_good n inner laws places exts room less s ts))

  with_item_shrinks : (exts : List ℕ) (room : ℕ)
      → Shrinks (behind (declaration_with inner exts room) (λ d. ends (of_decl d)))
  with_item_shrinks exts room =
      behind_shrinks (declaration_with inner exts room) (λ d. ends (of_decl d))
      (declaration_shrinks n inner laws places exts room) (λ d. ends_falls (of_decl d))

  stmt_item_good : (read : Reader Stmt) (wide stops : TokenKind → Bool)
      → ((kind : TokenKind) → stops kind ≡ true → wide kind ≡ true) → (s : HeldScopes) (ts : List Lexeme)
      → Good true read wide s ts →
      Good false (behind read (λ t. ends (block_stmt t))) stops s ts
  stmt_item_good read wide stops h s ts g =
      mapped_good false read block_stmt stops s ts
      (good_weaker false read stops s ts (good_before true read wide stops s ts h g))

  stmt_item_shrinks : (read : Reader Stmt) → Shrinks read → Shrinks (behind read (λ t. ends (block_stmt t)))
  stmt_item_shrinks read shrinks =
      behind_shrinks read (λ t. ends (block_stmt t)) shrinks (λ t. ends_falls (block_stmt t))

  -- A name: a label, a declaration or an expression, by the token behind it. What a name and a colon begin is completed
  -- by a statement, so a name alone is by these.
  module _ (name room : ℕ) (less : room < n) (two : 2 ≤ room) where
    abbrev name_token : ℕ → Lexeme
    name_token at = record { kind = kinds.Name name; at = at }

    abbrev known_name : ℕ → SpecWords
    known_name at = more_words (typedef_name (record { token = at; name = name })) no_words

    abbrev choice : ℕ → Reader BlockItem
    choice at s k =
        if is_colon (kind_at k) then behind (label_rest room (identifier_of at name)) (λ t. ends (block_stmt t)) s k
        else if names_type s name then behind (declaration_from inner (known_name at) room) (λ d. ends (of_decl d)) s k
        else behind (expr_stmt_with inner nothing room) (λ t. ends (block_stmt t)) s (name_token at ∷ k)

    abbrev other_choice : ℕ → Reader BlockItem
    other_choice at s k =
        if names_type s name then behind (declaration_from inner (known_name at) room) (λ d. ends (of_decl d)) s k
        else behind (expr_stmt_with inner nothing room) (λ t. ends (block_stmt t)) s (name_token at ∷ k)

    stmt_item_two : (s : HeldScopes) (ts : List Lexeme) (x : Found BlockItem)
        → behind (expr_stmt_with inner nothing room) (λ t. ends (block_stmt t)) s ts ≡ done x
        → suc (length x.rest) < length ts
    stmt_item_two s ts x e =
        let a = bind_ok e in
        let low = expr_stmt_two nothing room s ts a.0 a.1 in
        let last = ends_falls (block_stmt a.0.tree) a.0.scopes a.0.rest x a.2 in
        omega (arith, low, last)

    other_shrinks : (at : ℕ) → Shrinks (other_choice at)
    other_shrinks at s k x e =
        if_ok (names_type s name) e (λ is e. from_item_shrinks (known_name at) room s k x e)
        (λ is e. let low = stmt_item_two s (name_token at ∷ k) x e in omega (arith, low))

    other_good : (at : ℕ) (s : HeldScopes) (k : List Lexeme) → Good false (other_choice at) is_close_brace s k
    unfolding and_then
    other_good at s k = by_type (names_type s name) refl
      where
        by_type : (b : Bool) → names_type s name ≡ b → Good false (other_choice at) is_close_brace s k
        by_type true is =
            good_as false (behind (declaration_from inner (known_name at) room) (λ d. ends (of_decl d)))
            (other_choice at) is_close_brace s k (λ k e. rw is refl) (inr (λ k e. rw is refl))
            (from_item_good (known_name at) room refl less is_close_brace s k)
        by_type false is =
            let o = expr_stmt_name room (omega (arith, less)) two s name at is in
            good_as false (λ s k. behind (expr_stmt_with inner nothing room) (λ t. ends (block_stmt t)) s
            (name_token at ∷ k)) (other_choice at) is_close_brace s k (λ k e. rw is refl) (inr (λ k e. rw is refl))
            (tail_good false (behind (expr_stmt_with inner nothing room) (λ t. ends (block_stmt t))) is_close_brace s
            (name_token at) k (semi_of ∷ []) (found (block_stmt o.0) s []) (rw o.1 refl)
            (λ x e. let low = stmt_item_two s (name_token at ∷ k) x e in omega (arith, low))
            (stmt_item_good (expr_stmt_with inner nothing room) any is_close_brace (λ kind h. refl) s
            (name_token at ∷ k) (expr_stmt_good nothing room (omega (arith, less)) s (name_token at ∷ k))))

    label_item_law : (at : ℕ)
        → Law false
        (behind (label_rest room (identifier_of at name)) (λ t. ends (block_stmt t))) is_colon is_close_brace
    label_item_law at =
        mapped_law false (label_rest room (identifier_of at name)) block_stmt is_colon is_close_brace
        (law_weaker false (label_rest room (identifier_of at name)) is_colon is_close_brace
        (law_before true (label_rest room (identifier_of at name)) is_colon is_colon stops_stmt is_close_brace
        brace_stmt (λ kind h. h) (label_law room (omega (arith, less)) two (identifier_of at name))))

    choice_law : (at : ℕ) → Law false (choice at) any is_close_brace
    choice_law at = record {
      good = λ s k.
          if_good false (λ s. is_colon) (behind (label_rest room (identifier_of at name)) (λ t. ends (block_stmt t)))
          (other_choice at) is_close_brace s k (λ is. (label_item_law at).good s k) (λ is. other_good at s k)
          (λ is. inl (λ x e. stmt_item_shrinks (label_rest room (identifier_of at name))
          (label_shrinks room (identifier_of at name)) s k x e)) (λ is. inl (λ x e. other_shrinks at s k x e));
      ready = λ s here.
          ready_before false (choice at) is_colon any is_close_brace is_close_brace s here (λ kind h. h)
          (λ kind h. refl)
          (ready_as false (behind (label_rest room (identifier_of at name)) (λ t. ends (block_stmt t)))
          (choice at) is_colon is_close_brace s here (λ k h. rw h refl) ((label_item_law at).ready s here));
    }

    abbrev named_choice : Reader BlockItem
    named_choice s ts =
        if is_colon (kind_at (behind_first ts)) then as_stmt inner (label_with inner room s ts)
        else if names_type s name
        then (and_then (take_one s ts) (λ token. as_item inner (declaration_from inner (more_words
        (typedef_name (record { token = token.tree; name = name })) no_words) room token.scopes token.rest)))
        else as_stmt inner (expr_stmt_with inner nothing room s ts)

    named_same : (t : Lexeme) → t.kind ≡ kinds.Name name → (ts : List Lexeme) (s : HeldScopes) (k : List Lexeme)
        → first_kind k ≡ first_kind (t ∷ ts) → named_choice s k ≡ behind take_one choice s k
    unfolding label_with and_then
    named_same t is ts s [] e = absurd cc
    named_same t is ts s (u ∷ us) e =
        let same : u.kind ≡ t.kind = cc in
        ap (λ (u : Lexeme). named_choice s (u ∷ us))
        (ap (λ (kind : TokenKind). record { kind = kind; at = u.at }) (same ∙ is))

    pub named_good : (s : HeldScopes) (t : Lexeme) (ts : List Lexeme) → t.kind ≡ kinds.Name name
        → Good false named_choice is_close_brace s (t ∷ ts)
    named_good s t ts is =
        good_as false (behind take_one choice) named_choice is_close_brace s (t ∷ ts) (named_same t is ts s)
        (inl (λ x e. behind_shrinks take_one choice take_shrinks choice_falls s (t ∷ ts) x e))
        (take_behind false choice is_close_brace choice_law s (t ∷ ts) (ap is_end is))
      where
        choice_falls : (at : ℕ) → Falls (choice at)
        choice_falls at s k x e =
            if_ok (is_colon (kind_at k)) e (λ is e. shrinks_falls _ (stmt_item_shrinks
            (label_rest room (identifier_of at name)) (label_shrinks room (identifier_of at name))) s k x e)
            (λ is e. shrinks_falls (other_choice at) (other_shrinks at) s k x e)

  named_item_good : (name room : ℕ) → room < n → (s : HeldScopes) (ts : List Lexeme)
      → spelled_name (kind_at ts) ≡ Some name → Good false (named_item inner name room) is_close_brace s ts
  unfolding named_item
  named_item_good name room less s [] is = absurd cc
  named_item_good name room less s (t ∷ ts) is =
      fits_good false 2 room (λ s ts. if is_colon (kind_at (behind_first ts))
      then as_stmt inner (label_with inner room s ts)
      else if names_type s name
      then (and_then (take_one s ts) (λ token. as_item inner (declaration_from inner
      (more_words (typedef_name (record { token = token.tree; name = name })) no_words) room token.scopes token.rest)))
      else as_stmt inner (expr_stmt_with inner nothing room s ts)) is_close_brace s (t ∷ ts)
      (λ fit. named_good name room less fit s t ts (name_is t.kind name is))

  -- `__extension__` again and again: a declaration or an expression, by the token behind.
  abbrev extended_rest : ℕ → List ℕ → Reader BlockItem
  extended_rest room exts s k =
      if begins_specs s (kind_at k) then behind (declaration_with inner exts room) (λ d. ends (of_decl d)) s k
      else behind (expr_stmt_with inner (extensions exts) room) (λ t. ends (block_stmt t)) s k

  extended_rest_shrinks : (room : ℕ) (exts : List ℕ) → Shrinks (extended_rest room exts)
  extended_rest_shrinks room exts s k x e =
      if_ok (begins_specs s (kind_at k)) e (λ is e. with_item_shrinks exts room s k x e) (λ is e. stmt_item_shrinks
      (expr_stmt_with inner (extensions exts) room) (expr_stmt_shrinks (extensions exts) room) s k x e)

  extended_item_good : (room : ℕ) → room < n → (s : HeldScopes) (ts : List Lexeme)
      → Good false (extended_item inner room) is_close_brace s ts
  unfolding extended_item
  extended_item_good room less s ts =
      bind_good false (extensions_at room) (extended_rest room) is_int is_close_brace s ts
      (λ exts scopes gives at. let h = gives.reads int_of refl in
      ready_as false (behind (declaration_with inner exts room) (λ d. ends (of_decl d)))
      (extended_rest room exts) is_int is_close_brace scopes at (λ k h. rw (int_specs scopes (kind_at k) h) refl)
      (mapped_ready false (declaration_with inner exts room) of_decl is_int is_close_brace scopes at
      (ready_before false (declaration_with inner exts room) is_int is_int any is_close_brace scopes at
      (λ kind h. refl) (λ kind h. h)
      (declaration_ready n inner laws places exts room less
      (exts_room n inner places laws room s h.0 (found exts scopes int_of) h.1 h.2) scopes at))))
      ((extensions_law false room is_int is_int ((λ kind h. h), int_extension)).good s ts)
      (λ x is. if_good false begins_specs (behind (declaration_with inner x.tree room) (λ d. ends (of_decl d)))
      (behind (expr_stmt_with inner (extensions x.tree) room) (λ t. ends (block_stmt t))) is_close_brace x.scopes x.rest
      (λ is. with_item_good x.tree room less is_close_brace x.scopes x.rest)
      (λ is. stmt_item_good (expr_stmt_with inner (extensions x.tree) room) any is_close_brace
      (λ kind h. refl) x.scopes x.rest (expr_stmt_good (extensions x.tree) room (omega (arith, less)) x.scopes x.rest))
      (λ is. inl (λ y e. with_item_shrinks x.tree room x.scopes x.rest y e))
      (λ is. inl (λ y e. stmt_item_shrinks (expr_stmt_with inner (extensions x.tree) room)
      (expr_stmt_shrinks (extensions x.tree) room) x.scopes x.rest y e)))
      (inl (λ x y is e. extended_rest_shrinks room x.tree x.scopes x.rest y e))
    where
      int_of : List Lexeme
      int_of = record { kind = kinds.Keyword keywords.Int; at = 0 } ∷ []

  -- Attributes: a statement of their own, or the first words of a declaration.
  abbrev semi_item : List Attr → Reader BlockItem
  semi_item attrs = behind take_one (λ semi. ends (block_stmt (attr_stmt attrs semi)))

  semi_item_shrinks : (attrs : List Attr) → Shrinks (semi_item attrs)
  semi_item_shrinks attrs =
      behind_shrinks take_one (λ semi. ends (block_stmt (attr_stmt attrs semi))) take_shrinks
      (λ semi. ends_falls (block_stmt (attr_stmt attrs semi)))

  abbrev from_or_not : List Attr → ℕ → Reader BlockItem
  from_or_not attrs room s ts =
      if begins_specs s (kind_at ts) then behind (declaration_from inner (words_of_attrs attrs) room)
      (λ d. ends (of_decl d)) s ts else refuses Unexpected ts

  from_or_not_shrinks : (attrs : List Attr) (room : ℕ) → Shrinks (from_or_not attrs room)
  from_or_not_shrinks attrs room s ts x e =
      if_ok (begins_specs s (kind_at ts)) e (λ is e. from_item_shrinks (words_of_attrs attrs) room s ts x e)
      (λ is e. absurd cc)

  attr_item_law : (attrs : List Attr) (room : ℕ) → room < n
      → Law false (attr_item_by inner attrs room) is_semicolon is_close_brace
  unfolding attr_item_by and_then
  attr_item_law attrs room less = record {
    good = λ s ts.
        if_good false (λ s. is_semicolon) (semi_item attrs) (from_or_not attrs room) is_close_brace s ts
        (λ is. take_behind false (λ semi. ends (block_stmt (attr_stmt attrs semi))) is_close_brace
        (λ semi. ends_law false (block_stmt (attr_stmt attrs semi)) any is_close_brace (λ kind h. refl)) s ts
        (semicolon_end (kind_at ts) is))
        (λ is. if_good false begins_specs (behind (declaration_from inner (words_of_attrs attrs) room)
        (λ d. ends (of_decl d))) (λ s ts. refuses Unexpected ts) is_close_brace s ts
        (λ is. from_item_good (words_of_attrs attrs) room (attrs_plain attrs) less is_close_brace s ts)
        (λ is. refused_here false (λ s ts. refuses Unexpected ts) is_close_brace s ts Unexpected (λ k e. refl))
        (λ is. inl (λ x e. from_item_shrinks (words_of_attrs attrs) room s ts x e)) (λ is. inl (λ x e. absurd cc)))
        (λ is. inl (λ x e. semi_item_shrinks attrs s ts x e))
        (λ is. inl (λ x e. from_or_not_shrinks attrs room s ts x e));
    ready = λ s at. record {
      more = kinds.Punct puncts.Semicolon ∷ [];
      tree = block_stmt (attr_stmt attrs at);
      scopes = s;
      keeps = kept_refl false s;
      begins = λ k h. refl;
      reads = λ k h. refl;
    };
  }

  attr_item_shrinks : (attrs : List Attr) (room : ℕ) → Shrinks (attr_item_by inner attrs room)
  unfolding attr_item_by
  attr_item_shrinks attrs room s ts x e =
      if_ok (is_semicolon (kind_at ts)) e (λ is e. semi_item_shrinks attrs s ts x e)
      (λ is e. from_or_not_shrinks attrs room s ts x e)

  attr_item_good : (room : ℕ) → room < n → (s : HeldScopes) (ts : List Lexeme)
      → Good false (attr_item inner room) is_close_brace s ts
  unfolding attr_item
  attr_item_good room less s ts =
      bind_good false (attrs_at room) (λ attrs. attr_item_by inner attrs room) is_semicolon is_close_brace s ts
      (λ attrs scopes gives at. (attr_item_law attrs room less).ready scopes at)
      ((attrs_law false room is_semicolon is_semicolon ((λ kind h. h), semi_attribute)).good s ts)
      (λ x is. (attr_item_law x.tree room less).good x.scopes x.rest)
      (inl (λ x y is e. attr_item_shrinks x.tree room x.scopes x.rest y e))

  abbrev plain_item : ℕ → Reader BlockItem
  plain_item room s ts =
      if begins_specs s (kind_at ts) then behind (declaration_with inner [] room) (λ d. ends (of_decl d)) s ts
      else behind (inner.stmt room) (λ t. ends (block_stmt t)) s ts

  plain_item_good : (room : ℕ) → room < n → (s : HeldScopes) (ts : List Lexeme)
      → Good false (plain_item room) is_close_brace s ts
  plain_item_good room less s ts =
      if_good false begins_specs (behind (declaration_with inner [] room) (λ d. ends (of_decl d)))
      (behind (inner.stmt room) (λ t. ends (block_stmt t))) is_close_brace s ts
      (λ is. with_item_good [] room less is_close_brace s ts)
      (λ is. stmt_item_good (inner.stmt room) stops_stmt is_close_brace brace_stmt s ts
      (places.stmts.good room less s ts))
      (λ is. inl (λ x e. with_item_shrinks [] room s ts x e))
      (λ is. inl (λ x e. stmt_item_shrinks (inner.stmt room) (laws.stmts.shrinks room) s ts x e))

  assert_item_good : (room : ℕ) (s : HeldScopes) (ts : List Lexeme)
      → Good false
      (λ s ts. fits 1 room ts (behind assert_at (λ it. ends (block_decl (decl_assert it))) s ts)) is_close_brace s ts
  assert_item_good room s ts =
      fits_good false 1 room (behind assert_at (λ it. ends (block_decl (decl_assert it)))) is_close_brace s ts
      (λ fit. mapped_good false assert_at (λ it. block_decl (decl_assert it)) is_close_brace s ts
      (good_before false assert_at any is_close_brace s ts (λ kind h. refl) ((assert_law false).good s ts)))

  -- at a token that begins none of the others
  item_is_other : (room : ℕ) (s : HeldScopes) (ts k : List Lexeme) → first_kind k ≡ first_kind ts → (o : Option ℕ)
      → is_static_assert (kind_at ts) ≡ false → is_extension (kind_at ts) ≡ false → is_attribute (kind_at ts) ≡ false →
      spelled_name (kind_at ts) ≡ o → block_item_with inner room s k ≡ other_item inner o room s k
  unfolding block_item_with
  item_is_other room s ts k e o a b c is = rw (kind_same k ts e, a, b, c, is) refl

  pub block_item_good : (room : ℕ) → room < n → (s : HeldScopes) (ts : List Lexeme)
      → Good false (block_item_with inner room) is_close_brace s ts
  unfolding block_item_with other_item
  block_item_good room less s ts = by_assert (is_static_assert (kind_at ts)) refl
    where
      by_name : is_static_assert (kind_at ts) ≡ false → is_extension (kind_at ts) ≡ false
          → is_attribute (kind_at ts) ≡ false → (o : Option ℕ) → spelled_name (kind_at ts) ≡ o
          → Good false (block_item_with inner room) is_close_brace s ts
      by_name a b c (Some name) is =
          good_choice false (other_item inner (Some name) room) (block_item_with inner room) is_close_brace s ts
          (λ k e. item_is_other room s ts k e (Some name) a b c is)
          (block_item_shrinks [] none_tokens n inner laws room)
          (named_item_good name room less s ts is)
      by_name a b c None is =
          good_choice false (other_item inner None room) (block_item_with inner room) is_close_brace s ts
          (λ k e. item_is_other room s ts k e None a b c is) (block_item_shrinks [] none_tokens n inner laws room)
          (plain_item_good room less s ts)

      by_attribute : is_static_assert (kind_at ts) ≡ false → is_extension (kind_at ts) ≡ false → (c : Bool)
          → is_attribute (kind_at ts) ≡ c → Good false (block_item_with inner room) is_close_brace s ts
      by_attribute a b true is =
          good_choice false (attr_item inner room) (block_item_with inner room) is_close_brace s ts
          (λ k e. rw (kind_same k ts e, a, b, is) refl) (block_item_shrinks [] none_tokens n inner laws room)
          (attr_item_good room less s ts)
      by_attribute a b false is = by_name a b is (spelled_name (kind_at ts)) refl

      by_extension : is_static_assert (kind_at ts) ≡ false → (b : Bool) → is_extension (kind_at ts) ≡ b
          → Good false (block_item_with inner room) is_close_brace s ts
      by_extension a true is =
          good_choice false (extended_item inner room) (block_item_with inner room) is_close_brace s ts
          (λ k e. rw (kind_same k ts e, a, is) refl) (block_item_shrinks [] none_tokens n inner laws room)
          (extended_item_good room less s ts)
      by_extension a false is = by_attribute a is (is_attribute (kind_at ts)) refl

      by_assert : (a : Bool) → is_static_assert (kind_at ts) ≡ a
          → Good false (block_item_with inner room) is_close_brace s ts
      by_assert true is =
          good_choice false (λ s ts. fits 1 room ts (behind assert_at (λ it. ends (block_decl (decl_assert it))) s ts))
          (block_item_with inner room) is_close_brace s ts (λ k e. rw (kind_same k ts e, is) refl)
          (block_item_shrinks [] none_tokens n inner laws room) (assert_item_good room s ts)
      by_assert false is = by_extension is (is_extension (kind_at ts)) refl

  -- Blocks.

  -- `__label__` names ;
  labels_good : (room : ℕ) (stops : TokenKind → Bool) (s : HeldScopes) (ts : List Lexeme)
      → is_label_word (kind_at ts) ≡ true → Good false (labels_with inner room) stops s ts
  unfolding labels_with
  labels_good room stops s ts is =
      fits_good false 1 room (behind take_one listed_names) stops s ts
      (λ fit. take_behind false listed_names stops names_rest s ts (label_word_end (kind_at ts) is))
    where
      listed_names : ℕ → Reader BlockItem
      listed_names keyword =
          behind (names_list name_at)
          (λ names. behind (token_at is_semicolon) (λ semi. ends (block_labels keyword names semi)))

      names_rest : (keyword : ℕ) → Law false (listed_names keyword) any stops
      names_rest keyword =
          closed_law false (names_list name_at) is_semicolon (kinds.Punct puncts.Semicolon) any stops
          (λ names semi. ends (block_labels keyword names semi))
          (names_law false name_at name_shrinks any is_semicolon semi_comma
          (name_law false any any (λ name. refl))) refl semicolon_end
          (λ names semi. ends_law false (block_labels keyword names semi) any stops (λ kind h. refl))
          (λ names semi. ends_falls (block_labels keyword names semi))

  abbrev block_made : ℕ → List BlockItem → List BlockItem → ℕ → Block
  block_made opening labels items closing =
      record { opening = opening; items = block_items_from (labels ++ items); closing = closing }

  abbrev items_rest : ℕ → ℕ → List BlockItem → Reader Block
  items_rest room opening labels =
      behind (repeated (λ kind. not (is_close_brace kind)) (block_item_with inner (room - 1)))
      (λ items. behind (token_at is_close_brace) (λ closing. ends (block_made opening labels items closing)))

  items_rest_law : (room : ℕ) → room - 1 < n → (opening : ℕ) (labels : List BlockItem)
      → Law false (items_rest room opening labels) is_close_brace any
  items_rest_law room less opening labels =
      closed_law false (repeated (λ kind. not (is_close_brace kind)) (block_item_with inner (room - 1))) is_close_brace
      (kinds.Punct puncts.CloseBrace) is_close_brace any
      (λ items closing. ends (block_made opening labels items closing))
      (repeated_law false (λ kind. not (is_close_brace kind)) (block_item_with inner (room - 1))
      (block_item_shrinks [] none_tokens n inner laws (room - 1)) is_close_brace is_close_brace (λ kind h. h) close_open
      (λ s ts is. block_item_good (room - 1) less s ts)) refl close_brace_end
      (λ items closing. ends_law false (block_made opening labels items closing) any any (λ kind h. h))
      (λ items closing. ends_falls (block_made opening labels items closing))

  items_rest_shrinks : (room opening : ℕ) (labels : List BlockItem) → Shrinks (items_rest room opening labels)
  items_rest_shrinks room opening labels =
      falls_shrinks (repeated (λ kind. not (is_close_brace kind)) (block_item_with inner (room - 1)))
      (λ items. behind (token_at is_close_brace) (λ closing. ends (block_made opening labels items closing)))
      (repeated_falls (λ kind. not (is_close_brace kind)) (block_item_with inner (room - 1))
      (block_item_shrinks [] none_tokens n inner laws (room - 1)))
      (λ items. behind_shrinks (token_at is_close_brace) (λ closing. ends (block_made opening labels items closing))
      (token_shrinks is_close_brace) (λ closing. ends_falls (block_made opening labels items closing)))

  abbrev block_rest : ℕ → ℕ → Reader Block
  block_rest room opening = behind (repeated is_label_word (labels_with inner (room - 1))) (items_rest room opening)

  block_rest_law : (room : ℕ) → room - 1 < n → (opening : ℕ) → Law false (block_rest room opening) any any
  block_rest_law room less opening =
      bind_law false (repeated is_label_word (labels_with inner (room - 1)))
      (items_rest room opening) any is_close_brace any
      (repeated_law false is_label_word (labels_with inner (room - 1))
      (labels_shrinks [] none_tokens n inner laws (room - 1)) any is_close_brace (λ kind h. refl) close_label
      (λ s ts is. labels_good (room - 1) is_close_brace s ts is))
      (items_rest_law room less opening) (inl (λ labels s ts y e. items_rest_shrinks room opening labels s ts y e))

  pub block_body_good : (room : ℕ) → room - 1 < n → (s : HeldScopes) (ts : List Lexeme) → is_end (kind_at ts) ≡ false
      → Good false (block_body inner room) any s ts
  unfolding block_body
  block_body_good room less s ts known = take_behind false (block_rest room) any (block_rest_law room less) s ts known

  pub block_body_ready : (room : ℕ) → room - 1 < n → (s : HeldScopes) (at : ℕ)
      → Ready false (block_body inner room) is_open_brace any s at
  unfolding block_body
  block_body_ready room less s at =
      ready_bind false take_one (block_rest room) is_open_brace any any s at
      (ready_take false (kinds.Punct puncts.OpenBrace) is_open_brace any s at refl)
      (λ opening scopes given at. (block_rest_law room less opening).ready scopes at)

  same_block : Block → HeldScopes → Block
  same_block b t = b

  block_good : (room : ℕ) → room < suc n → (s : HeldScopes) (ts : List Lexeme)
      → Good true (block_with inner room) any s ts
  unfolding block_with same_block
  block_good room less s ts = by_brace (is_open_brace (kind_at ts)) refl
    where
      by_brace : (b : Bool) → is_open_brace (kind_at ts) ≡ b → Good true (block_with inner room) any s ts
      by_brace false is =
          refused_here true (block_with inner room) any s ts Unexpected (λ k e. rw (kind_same k ts e, is) refl)
      by_brace true is =
          good_choice true (λ s ts. fits 1 room ts (in_scope (λ s. new_scope (is_wide s))
          (block_body inner room) same_block s ts)) (block_with inner room) any s ts
          (λ k e. rw (kind_same k ts e, is) refl) (block_shrinks [] none_tokens n inner laws room)
          (fits_good true 1 room (in_scope (λ s. new_scope (is_wide s)) (block_body inner room) same_block) any s ts
          (λ fit. own_good (λ s. new_scope (is_wide s)) (block_body inner room) same_block any s ts
          (block_body_good room (omega (arith, less, fit)) (enter s) ts (open_brace_end (kind_at ts) is))))

  block_ready : (room : ℕ) → room < suc n → 1 ≤ room → (s : HeldScopes) (at : ℕ)
      → Ready true (block_with inner room) is_open_brace any s at
  unfolding block_with same_block
  block_ready room less one s at =
      ready_as true (λ s ts. fits 1 room ts (in_scope (λ s. new_scope (is_wide s))
      (block_body inner room) same_block s ts)) (block_with inner room) is_open_brace any s at (λ k h. rw h refl)
      (ready_fits true 1 room
      (in_scope (λ s. new_scope (is_wide s)) (block_body inner room) same_block) is_open_brace any s at one
      (own_ready (λ s. new_scope (is_wide s)) (block_body inner room) same_block is_open_brace any s at
      (block_body_ready room (omega (arith, less, one)) (enter s) at)))

  pub block_places : BlockPlaces (suc n) (block_with inner)
  block_places = record { good = block_good; ready = block_ready }
