-- Unary forms and casts are read from their text.
use Rattle.std.proofs.Common.{◌≡◌, ℕ, ◌<◌, ◌≤◌, Bool, true, false, List, [], ◌∷◌, Some, None, refl, sym, ◌∙◌, ap, subst, arith}
use Rattle.std.specs.Prelude.{◌+◌, ◌-◌, max, not}
use Rattle.std.proofs.lemmas.Option.{same_Some}
use Rattle.c_words.specs.declared.kinds.TokenKind.{TokenKind}
use Rattle.c_words.specs.declared.kinds.TokenKind.TheVariants as kinds
use Rattle.c_words.specs.declared.kinds.Punct.{Punct}
use Rattle.c_words.specs.declared.kinds.Punct.TheVariants as puncts
use Rattle.c_words.specs.declared.kinds.Keyword.{Keyword}
use Rattle.c_words.specs.declared.kinds.Keyword.TheVariants as keywords
use Rattle.c_tree.specs.declared.lexeme.Lexeme.{Lexeme}
use Rattle.c_syntax.specs.declared.parts.Word.{Word}
use Rattle.c_tree.specs.Tree.{Expr, operation, cast, prefix, sizeof_value, sizeof_type, extension, index, call, dot, arrow, post, compound, name_use, number_use, char_use, text_use, paren, statement_expr, va_arg, va_start, va_copy, offset, complex_part, label_use, compat, choose, generic, Assocs, no_assocs, more_assocs, Assoc, typed_assoc, default_assoc, SpecWords, SomeDeclr, Desigs, Desig, member_desig, index_desig, range_desig, old_desig, InitList, init_list, more_block_items, no_block_items, BlockItems}
use Rattle.c_tree.specs.Text.{separated, assoc_text, assocs_text, sign_text, keyword_text, plain_text, word_text, identifier_text, expr_text, spec_words_text, some_declr_text, init_list_text, block_items_text, texts_text, desig_text, desigs_text}
use Rattle.c_tree.specs.Height.{expr_height, assoc_height, assocs_height, specs_height, some_declr_height, init_list_height, block_height, steps_height, step_height}
use Rattle.c_tree.specs.Levels.{expr_level, operator_level}
use Rattle.c_tree.specs.Specifiers.{IsMix}
use Rattle.c_tree.specs.WellFormed.{IsExpr, AreAssocs, AreTypeWords, IsSomeAbstract, prefix_level, is_sizeof, IsInitList, AreSteps, IsStep}
use Rattle.c_ops.proofs.Levels.{level_most}
use Rattle.c_units.specs.HeldScopes.{HeldScopes, is_wide, names_type}
use Rattle.c_units.specs.Scoping.{behind, where_true, assocs_scopes, expr_scopes, spec_words_scopes, some_declr_scopes, init_list_scopes, desig_scopes, desigs_scopes}
use Rattle.c_reading.specs.declared.kinds.Reach.{Reach}
use Rattle.c_reading.specs.declared.kinds.Reach.TheVariants.{Whole, Assigned, Conditional, Castable, Unary}
use Rattle.c_reading.specs.declared.kinds.Opening.{Opening}
use Rattle.c_reading.specs.declared.kinds.Opening.TheVariants as openings
use Rattle.c_reading.specs.Reading.{Read, Reader, kind_at, behind_first, fits, IsNumbered, is_comma, listed, repeated}
use Rattle.c_reading.specs.Tokens.{is_open_paren, is_close_paren, is_text, is_open_brace}
use Rattle.c_reading.specs.Specifying.{begins_specs}
use Rattle.c_reading.specs.declared.kinds.Role.TheVariants.{Naming}
use Rattle.c_reading.specs.Parts.{Inner, type_name_height}
use Rattle.c_reading.specs.Expressing.{punct_opening, opening_of, begins_desig, postfixed, text_with, compound_with, cast_behind, typed_behind, typed_with, statement_with, paren_with, opened_by, opened_with, prefix_with, extension_with, sizeof_value_with, sizeof_typed, sizeof_type_with, sizeof_behind, sizeof_with, va_arg_with, va_two_with, step_with, offset_with, part_with, label_use_with, compat_with, choose_with, default_assoc_with, typed_assoc_with, assoc_with, next_assoc, generic_with, unary_by, unary_with, cast_with, primary_with}
use Rattle.c_reading.proofs.Binding.{found, done, bind_is, fits_is}
use Rattle.c_reading.proofs.Forms.{IsComplete, behind_ok}
use Rattle.c_reading.proofs.Rows.{repeated_complete}
use Rattle.c_reading.proofs.Commas.{no_ending, listed_complete}
use Rattle.c_reading.proofs.KindFacts.{specs_no_default, expr_no_specs, expr_no_open_brace, not_false}
use Rattle.c_reading.proofs.Aims.{ends_unary, ends_expr, assoc_form, step_form, TokenLaws, FirstLaws, Laws}
use Rattle.c_reading.proofs.ExprFalls.{step_shrinks, next_assoc_falls}
use Rattle.c_reading.proofs.ExprLists.{assocs_items, assocs_back, assocs_are, assocs_fit_back, assocs_named, assocs_high, desigs_items, desigs_back, steps_are, steps_fit_back, steps_named, steps_high}
use Rattle.c_reading.proofs.ExprCompleteForms.{level_sixteen, prefix_opens, prefix_no_paren, ends_castable, ends_unary_expr, ends_no_text, ends_no_brace, inside_less, inside_low, asks_two, max_left, max_right, postfix_ends, IsBase, base_of}
use Rattle.c_reading.proofs.SpecsCompleteBodies.{expr_high}
use Rattle.c_reading.proofs.DeclrSoundParams.{specs_high}

-- what a name in an expression is
name_parts : (s m : HeldScopes) (b : Bool) → where_true (not b) s ≡ Some m → (b ≡ false) × (s ≡ m)
name_parts s m true e = absurd cc
name_parts s m false e = (refl, cc)

-- what a form of wider C is
pub wide_parts : (s m : HeldScopes) (b : Bool) → where_true b s ≡ Some m → (b ≡ true) × (s ≡ m)
wide_parts s m false e = absurd cc
wide_parts s m true e = (refl, cc)

-- the prefixes go before unary forms or casts
prefix_ends : (p : Punct) (reach : Reach) → punct_opening p ≡ openings.Prefix p reach → (kind : TokenKind)
    → ends_unary kind ≡ true → ends_expr reach kind ≡ true
prefix_ends p Unary is kind h = ends_unary_expr kind h
prefix_ends p Castable is kind h = ends_castable kind h
prefix_ends p Whole is kind h = absurd (never p is)
  where
    never : (p : Punct) → punct_opening p ≡ openings.Prefix p Whole → ⊥
    never puncts.PlusPlus e = cc
    never puncts.MinusMinus e = cc
    never puncts.Ampersand e = cc
    never puncts.Star e = cc
    never puncts.Plus e = cc
    never puncts.Minus e = cc
    never puncts.Tilde e = cc
    never puncts.Bang e = cc
    never p e = cc
prefix_ends p Assigned is kind h = absurd (never p is)
  where
    never : (p : Punct) → punct_opening p ≡ openings.Prefix p Assigned → ⊥
    never puncts.PlusPlus e = cc
    never p e = cc
prefix_ends p Conditional is kind h = absurd (never p is)
  where
    never : (p : Punct) → punct_opening p ≡ openings.Prefix p Conditional → ⊥
    never puncts.PlusPlus e = cc
    never p e = cc

-- the words before an operand
sizeof_opens : (keyword : Keyword) → is_sizeof keyword ≡ true
    → opening_of (kinds.Keyword keyword) ≡ openings.Sizeof keyword
sizeof_opens keywords.Sizeof e = refl
sizeof_opens keywords.Alignof e = refl
sizeof_opens keyword e = absurd cc

three : (a d room : ℕ) → max a d + 1 + 1 ≤ room → 1 ≤ a → 3 ≤ room
three a d room h p = omega (arith, h, p)

module _ (all : List Lexeme) (numbered : IsNumbered all) (tokens : TokenLaws all) (firsts : FirstLaws all) (n : ℕ)
    (inner : Inner) (laws : Laws all n inner) where
  -- the reader of casts, or of unary forms alone
  abbrev pub tight : Bool → ℕ → Reader Expr
  tight true room s ts = cast_with inner room s ts
  tight false room s ts = unary_with inner room s ts

  opened_tight : (casts : Bool) (room : ℕ) (s : HeldScopes) (opening : ℕ) (k : List Lexeme)
      → tight casts room s (sign_text puncts.OpenParen opening k)
      ≡ opened_with inner casts room s (sign_text puncts.OpenParen opening k)
  unfolding cast_with unary_with unary_by
  opened_tight true room s opening k = refl
  opened_tight false room s opening k = refl

  other_tight : (casts : Bool) (room : ℕ) (s : HeldScopes) (t : Lexeme) (k : List Lexeme) → is_open_paren t.kind ≡ false
      → tight casts room s (t ∷ k) ≡ unary_by inner (opening_of t.kind) room s (t ∷ k)
  unfolding cast_with unary_with
  other_tight true room s t k is = rw is refl
  other_tight false room s t k is = refl

  opened_goes : (casts : Bool) (room : ℕ) (s : HeldScopes) (opening : ℕ) (k : List Lexeme) (y : Read Expr) → 2 ≤ room
      → opened_by inner casts opening room s k ≡ y → tight casts room s (sign_text puncts.OpenParen opening k) ≡ y
  unfolding opened_with
  opened_goes casts room s opening k y least is =
      opened_tight casts room s opening k ∙ fits_is 2 room (sign_text puncts.OpenParen opening k) _ least
      ∙ bind_is _ refl is

  -- a type's name in parentheses
  abbrev pub type_text : SpecWords → SomeDeclr → ℕ → List Lexeme → List Lexeme
  type_text ws d closing k = spec_words_text all ws (some_declr_text all d (sign_text puncts.CloseParen closing k))

  pub record TypedWell (room : ℕ) (s : HeldScopes) (ws : SpecWords) (d : SomeDeclr) (t : HeldScopes) : Type 0 where
    pub mix : IsMix ws
    pub words : AreTypeWords all ws
    pub declr : IsSomeAbstract all d
    pub named : behind (spec_words_scopes ws s) (some_declr_scopes None d) ≡ Some t
    pub low : max (specs_height ws) (some_declr_height d) + 1 ≤ room
    pub less : room < n

  typed_begins : (room : ℕ) (s : HeldScopes) (ws : SpecWords) (d : SomeDeclr) (t : HeldScopes) (closing : ℕ)
      (k : List Lexeme)
      → TypedWell room s ws d t → begins_specs s (kind_at (type_text ws d closing k)) ≡ true
  typed_begins room s ws d t closing k w =
      let b = behind_ok (spec_words_scopes ws s) (some_declr_scopes None d) t w.named in
      firsts.type_words_begin ws s b.0 (some_declr_text all d (sign_text puncts.CloseParen closing k)) w.mix w.words b.1

  typed_read : (room : ℕ) (s : HeldScopes) (ws : SpecWords) (d : SomeDeclr) (t : HeldScopes) (closing : ℕ)
      (k : List Lexeme)
      → TypedWell room s ws d t →
      inner.type_name room s (type_text ws d closing k)
      ≡ done (found (record { words = ws; declr = d }) t (sign_text puncts.CloseParen closing k))
  typed_read room s ws d t closing k w =
      laws.types.complete room w.less (record { words = ws; declr = d }) s t (sign_text puncts.CloseParen closing k)
      (w.mix, w.words, w.declr) w.named w.low refl

  typed_goes : (casts : Bool) (room : ℕ) (s : HeldScopes) (opening : ℕ) (ws : SpecWords) (d : SomeDeclr) (closing : ℕ)
      (t : HeldScopes) (k : List Lexeme) (y : Read Expr)
      → TypedWell (room - 1) s ws d t →
      typed_behind inner casts opening (record { words = ws; declr = d }) closing room t k ≡ y
      → opened_by inner casts opening room s (type_text ws d closing k) ≡ y
  unfolding opened_by typed_with
  typed_goes casts room s opening ws d closing t k y w is =
      rw (typed_begins (room - 1) s ws d t closing k w)
      (bind_is _ (typed_read (room - 1) s ws d t closing k w) (bind_is _ refl is))

  compound_read : (room : ℕ) (opening : ℕ) (ws : SpecWords) (d : SomeDeclr) (closing : ℕ) (list : InitList)
      (t m : HeldScopes) (k : List Lexeme)
      → IsInitList all list → init_list_scopes list t ≡ Some m →
      init_list_height list ≤ room - 1 → room - 1 < n
      → compound_with inner opening (record { words = ws; declr = d }) closing room t (init_list_text all list k)
      ≡ postfixed inner room (compound opening ws d closing list) m k
  unfolding compound_with
  compound_read room opening ws d closing list t m k h named low less =
      bind_is _ (laws.lists.complete (room - 1) less list t m k h named low refl) refl

  list_brace : (list : InitList) (k : List Lexeme) → is_open_brace (kind_at (init_list_text all list k)) ≡ true
  list_brace (init_list opening items last closing) k = refl

  plus_two : (h room : ℕ) → h + 1 + 1 ≤ room → 2 ≤ room
  plus_two h room a = omega (arith, a)

  inner_two : (a b room : ℕ) → max (a + 1) b + 1 ≤ room → 2 ≤ room
  inner_two a b room h = omega (arith, h)

  steps_read : (room : ℕ) → room - 1 < n → (ds : Desigs) (s s' : HeldScopes) (k : List Lexeme) → AreSteps all ds
      → desigs_scopes ds s ≡ Some s' → steps_height ds ≤ room - 1 →
      begins_desig (kind_at k) ≡ false
      → repeated begins_desig (step_with inner room) s (desigs_text all ds k) ≡ done (found (desigs_items ds) s' k)
  unfolding step_with
  steps_read room less ds s s' k h named low ended =
      ap (λ (ts : List Lexeme). repeated begins_desig (step_with inner room) s ts)
      (sym (steps_are all (desigs_items ds) k ∙ ap (λ (ds : Desigs). desigs_text all ds k) (desigs_back ds))) ∙
      repeated_complete begins_desig (step_with inner room) (step_form all) (λ x kind. true) (room - 1)
      (step_shrinks all tokens n inner laws room) one starts (λ x kind e. refl)
      (desigs_items ds) s s' k (steps_fit_back all ds h)
      (steps_named all (desigs_items ds) s ∙ ap (λ (ds : Desigs). desigs_scopes ds s) (desigs_back ds) ∙ named)
      (subst (λ (m : ℕ). m ≤ room - 1)
      (sym (steps_high all (desigs_items ds) ∙ ap steps_height (desigs_back ds))) low) ended (λ x. refl)
    where
      one : (x : Desig) (s t : HeldScopes) (k : List Lexeme) → IsStep all x → desig_scopes x s ≡ Some t
          → step_height x ≤ room - 1 → true ≡ true → step_with inner room s (desig_text all x k) ≡ done (found x t k)
      one (member_desig token name) s t k h named low e =
          bind_is _ refl
          (bind_is _ refl (ap (λ (t : HeldScopes). done (found (member_desig token name) t k)) (same_Some s t named)))
      one (index_desig opening e closing) s t k h named low is =
          bind_is _ refl (bind_is _ (laws.exprs.complete Whole (room - 1) less e s t
          (sign_text puncts.CloseBracket closing k) (h, omega arith) named low refl) (bind_is _ refl refl))
      one (range_desig opening e dots e2 closing) s t k h named low is = absurd h
      one (old_desig name colon) s t k h named low is = absurd h

      starts : (x : Desig) (s t : HeldScopes) (k : List Lexeme) → IsStep all x → desig_scopes x s ≡ Some t
          → begins_desig (kind_at (desig_text all x k)) ≡ true
      starts (member_desig token name) s t k h named = refl
      starts (index_desig opening e closing) s t k h named = refl
      starts (range_desig opening e dots e2 closing) s t k h named = absurd h
      starts (old_desig name colon) s t k h named = absurd h

  -- an association is read from its text
  assoc_read : (room : ℕ) → room ≤ n
      → IsComplete (assoc_form all) (λ x. ends_expr Assigned) room (assoc_with inner room)
  unfolding assoc_with default_assoc_with typed_assoc_with
  assoc_read room less (default_assoc keyword colon e) s s' k h named low ended =
      fits_is 2 room (keyword_text keywords.Default keyword (sign_text puncts.Colon colon (expr_text all e k))) _
      (asks_two (expr_height e) room low (expr_high e)) ∙
      bind_is _ refl (bind_is _ refl
      (bind_is _ (laws.exprs.complete Assigned (room - 1) (inside_less (expr_height e) room n less low) e s s' k
      (h.0, h.1) named (inside_low (expr_height e) room low) ended) refl))
  assoc_read room less (typed_assoc ws d colon e) s s' k h named low ended =
      let b = behind_ok (behind (spec_words_scopes ws s) (some_declr_scopes None d)) (expr_scopes e) s' named in
      let c = behind_ok (spec_words_scopes ws s) (some_declr_scopes None d) b.0 b.1 in
      let left = max_left (max (specs_height ws) (some_declr_height d) + 1) (expr_height e) room low in
      let right = max_right (max (specs_height ws) (some_declr_height d) + 1) (expr_height e) room low in
      let more = sign_text puncts.Colon colon (expr_text all e k) in
      let begun = firsts.type_words_begin ws s c.0 (some_declr_text all d more) h.0 h.1 c.1 in
      rw (
        specs_no_default s (kind_at (spec_words_text all ws (some_declr_text all d more))) begun,
        begun,
        firsts.words_stand Naming ws s c.0 (some_declr_text all d more) h.0 h.1 c.1,
      )
      (fits_is 3 room (spec_words_text all ws (some_declr_text all d more)) _
      (three (specs_height ws) (some_declr_height d) room left (specs_high ws)) ∙
      bind_is _
      (laws.types.complete (room - 1) (inside_less (max (specs_height ws) (some_declr_height d) + 1) room n less left)
      (record { words = ws; declr = d }) s b.0 more (h.0, h.1, h.2) b.1
      (inside_low (max (specs_height ws) (some_declr_height d) + 1) room left) refl) (bind_is _ refl
      (bind_is _ (laws.exprs.complete Assigned (room - 1) (inside_less (expr_height e) room n less right) e b.0 s' k
      (h.3, h.4) b.2 (inside_low (expr_height e) room right) ended) refl)))

  -- associations, the first of which stands behind a comma that was read
  assocs_read : (room : ℕ) → room ≤ n → (x : Assoc) (xs : Assocs) (s s' : HeldScopes) (k : List Lexeme)
      → AreAssocs all (more_assocs x xs) → assocs_scopes (more_assocs x xs) s ≡ Some s' →
      assocs_height (more_assocs x xs) ≤ room → is_close_paren (kind_at k) ≡ true →
      listed (assoc_with inner room) (next_assoc inner room) s (assoc_text all x (assocs_text all xs k))
      ≡ done (found (record { items = x ∷ assocs_items xs; ending = None }) s' k)
  unfolding next_assoc
  assocs_read room less x xs s s' k h named low ended =
      let whole = more_assocs x xs in
      ap (λ (ts : List Lexeme). listed (assoc_with inner room) (next_assoc inner room) s (assoc_text all x ts))
      (sym (assocs_are all (assocs_items xs) k ∙ ap (λ (xs : Assocs). assocs_text all xs k) (assocs_back xs))) ∙
      listed_complete (assoc_with inner room) (next_assoc inner room) (assoc_form all) no_ending
      (λ x. ends_expr Assigned) room (next_assoc_falls all tokens n inner laws room)
      (λ x s t k h n l ended. assoc_read room less x s t k h n l ended)
      (λ comma x s t k h n l ended. bind_is _ (assoc_read room less x s t k h n l ended) refl) (λ x. refl)
      (record { items = assocs_items whole; ending = None }) s s' k tt (assocs_fit_back all whole h)
      (assocs_named all (assocs_items whole) s ∙ ap (λ (xs : Assocs). assocs_scopes xs s) (assocs_back whole) ∙ named)
      (subst (λ (m : ℕ). m ≤ room)
      (sym (assocs_high all (assocs_items whole) ∙ ap assocs_height (assocs_back whole))) low)
      (close_comma (kind_at k) ended, λ x. close_ends (kind_at k) ended)
    where
      close_comma : (kind : TokenKind) → is_close_paren kind ≡ true → is_comma kind ≡ false
      close_comma (kinds.Punct puncts.CloseParen) e = refl
      close_comma kind e = absurd cc

      close_ends : (kind : TokenKind) → is_close_paren kind ≡ true → ends_expr Assigned kind ≡ true
      close_ends (kinds.Punct puncts.CloseParen) e = refl
      close_ends kind e = absurd cc

  one_token : (casts : Bool) (make : ℕ → Expr) (room : ℕ) (s : HeldScopes) (token : ℕ) (kind : TokenKind)
      (k : List Lexeme)
      → 1 ≤ room → is_open_paren kind ≡ false →
      unary_by inner (opening_of kind) room s (plain_text kind token k)
      ≡ primary_with inner make room s (plain_text kind token k) →
      tight casts room s (plain_text kind token k) ≡ postfixed inner room (make token) s k
  one_token casts make room s token kind k least no_paren is =
      other_tight casts room s (record { kind = kind; at = token }) k no_paren ∙ is
      ∙ fits_is 1 room (plain_text kind token k) _ least ∙ bind_is _ refl refl

  -- a primary expression or a compound literal is read, and then its postfix forms
  pub base_read : (casts : Bool) (room : ℕ) → room ≤ n → (b : Expr) (s m : HeldScopes) (k : List Lexeme)
      → IsBase all numbered tokens firsts n inner laws b → IsExpr all b → expr_scopes b s ≡ Some m
      → expr_height b ≤ room →
      is_text (kind_at k) ≡ false → tight casts room s (expr_text all b k) ≡ postfixed inner room b m k
  unfolding opened_by statement_with paren_with typed_behind text_with va_arg_with va_two_with offset_with compat_with
      choose_with generic_with unary_by
  base_read casts room less (operation e op token e2) s m k base h named low no_text = absurd base
  base_read casts room less (cast opening ws d closing e) s m k base h named low no_text = absurd base
  base_read casts room less (prefix token p e) s m k base h named low no_text = absurd base
  base_read casts room less (sizeof_value word e) s m k base h named low no_text = absurd base
  base_read casts room less (sizeof_type word opening ws d closing) s m k base h named low no_text = absurd base
  base_read casts room less (extension keyword e) s m k base h named low no_text = absurd base
  base_read casts room less (complex_part keyword e) s m k base h named low no_text = absurd base
  base_read casts room less (label_use token name) s m k base h named low no_text = absurd base
  base_read casts room less (index e opening e2 closing) s m k base h named low no_text = absurd base
  base_read casts room less (call e opening es closing) s m k base h named low no_text = absurd base
  base_read casts room less (dot e token name) s m k base h named low no_text = absurd base
  base_read casts room less (arrow e token name) s m k base h named low no_text = absurd base
  base_read casts room less (post e token p) s m k base h named low no_text = absurd base
  base_read casts room less (compound opening ws d closing list) s m k base h named low no_text =
      let b = behind_ok (behind (spec_words_scopes ws s) (some_declr_scopes None d)) (init_list_scopes list) m named in
      let left = max_left (max (specs_height ws) (some_declr_height d) + 1) (init_list_height list) room low in
      let right = max_right (max (specs_height ws) (some_declr_height d) + 1) (init_list_height list) room low in
      opened_goes casts room s opening (type_text ws d closing (init_list_text all list k)) _
      (plus_two (max (specs_height ws) (some_declr_height d)) room left)
      (typed_goes casts room s opening ws d closing b.0 (init_list_text all list k) _
      (record {
        mix = h.0;
        words = h.1;
        declr = h.2;
        named = b.1;
        low = inside_low (max (specs_height ws) (some_declr_height d) + 1) room left;
        less = inside_less (max (specs_height ws) (some_declr_height d) + 1) room n less left;
      })
      (rw (list_brace list k) (compound_read room opening ws d closing list b.0 m k h.3 b.2
      (inside_low (init_list_height list) room right) (inside_less (init_list_height list) room n less right))))
  base_read casts room less (name_use token name) s m k base h named low no_text =
      let p = name_parts s m (names_type s name) named in
      one_token casts (λ token. name_use token name) room s token (kinds.Name name) k low refl (rw p.0 refl)
      ∙ ap (λ (s : HeldScopes). postfixed inner room (name_use token name) s k) p.1
  base_read casts room less (number_use token) s m k base h named low no_text =
      one_token casts number_use room s token kinds.Number k low refl refl
      ∙ ap (λ (s : HeldScopes). postfixed inner room (number_use token) s k) (same_Some s m named)
  base_read casts room less (char_use token) s m k base h named low no_text =
      one_token casts char_use room s token kinds.Char k low refl refl
      ∙ ap (λ (s : HeldScopes). postfixed inner room (char_use token) s k) (same_Some s m named)
  base_read casts room less (text_use []) s m k base h named low no_text = absurd (h refl)
  base_read casts room less (text_use (token ∷ texts)) s m k base h named low no_text =
      other_tight casts room s (record { kind = kinds.Text; at = token }) (texts_text texts k) refl
      ∙ fits_is 1 room (plain_text kinds.Text token (texts_text texts k)) _ low ∙
      bind_is _ refl (bind_is _ (tokens.texts_complete room texts s s k tt refl (omega arith) (not_false no_text))
      (ap (λ (s : HeldScopes). postfixed inner room (text_use (token ∷ texts)) s k) (same_Some s m named)))
  base_read casts room less (paren opening e closing) s m k base h named low no_text =
      let begun = firsts.expr_begins e s m (sign_text puncts.CloseParen closing k) h named in
      opened_goes casts room s opening (expr_text all e (sign_text puncts.CloseParen closing k)) _
      (asks_two (expr_height e) room low (expr_high e))
      (rw (
        expr_no_specs s (kind_at (expr_text all e (sign_text puncts.CloseParen closing k))) begun,
        expr_no_open_brace s (kind_at (expr_text all e (sign_text puncts.CloseParen closing k))) begun,
      )
      (bind_is _ (laws.exprs.complete Whole (room - 1) (inside_less (expr_height e) room n less low) e s m
      (sign_text puncts.CloseParen closing k) (h, omega arith) named (inside_low (expr_height e) room low) refl)
      (bind_is _ refl refl)))
  base_read casts room less (statement_expr opening opening2 items closing closing2) s m k base h named low no_text =
      opened_goes casts room s opening (sign_text puncts.OpenBrace opening2 (block_items_text all items
      (sign_text puncts.CloseBrace closing (sign_text puncts.CloseParen closing2 k)))) _ (block_two items room low)
      (bind_is _ (laws.blocks.complete (room - 1) (inside_less (block_height items) room n less low)
      (record { opening = opening2; items = items; closing = closing }) s m
      (sign_text puncts.CloseParen closing2 k) h named
      (inside_low (block_height items) room low) refl) (bind_is _ refl refl))
    where
      block_two : (items : BlockItems) (room : ℕ) → block_height items + 1 ≤ room → 2 ≤ room
      block_two no_block_items room h = omega (arith, h)
      block_two (more_block_items item items) room h = omega (arith, h)
  base_read casts room less (va_arg keyword opening e separator ws d closing) s m k base h named low no_text =
      let b = behind_ok (behind (expr_scopes e s) (spec_words_scopes ws)) (some_declr_scopes None d) m named in
      let c = behind_ok (expr_scopes e s) (spec_words_scopes ws) b.0 b.1 in
      let left = max_left (expr_height e) (max (specs_height ws) (some_declr_height d) + 1) room low in
      let right = max_right (expr_height e) (max (specs_height ws) (some_declr_height d) + 1) room low in
      let typed : behind (spec_words_scopes ws c.0) (some_declr_scopes None d) ≡ Some m = rw c.2 b.2 in
      other_tight casts room s (record { kind = kinds.Keyword keywords.VaArg; at = keyword }) (sign_text
      puncts.OpenParen opening (expr_text all e (sign_text puncts.Comma separator (type_text ws d closing k)))) refl ∙
      fits_is 3 room (keyword_text keywords.VaArg keyword (sign_text puncts.OpenParen opening
      (expr_text all e (sign_text puncts.Comma separator (type_text ws d closing k))))) _
      (three (specs_height ws) (some_declr_height d) room right (specs_high ws)) ∙
      bind_is _ refl (bind_is _ refl (bind_is _ (laws.exprs.complete Assigned (room - 1)
      (inside_less (expr_height e) room n less left) e s c.0 (sign_text puncts.Comma separator
      (type_text ws d closing k)) (h.0, h.4) c.1 (inside_low (expr_height e) room left) refl)
      (bind_is _ refl (bind_is _ (typed_read (room - 1) c.0 ws d m closing k (record {
        mix = h.1;
        words = h.2;
        declr = h.3;
        named = typed;
        low = inside_low (max (specs_height ws) (some_declr_height d) + 1) room right;
        less = inside_less (max (specs_height ws) (some_declr_height d) + 1) room n less right;
      }))
      (bind_is _ refl refl)))))
  base_read casts room less (va_start keyword opening e separator e2 closing) s m k base h named low no_text =
      let c = behind_ok (expr_scopes e s) (expr_scopes e2) m named in
      let left = max_left (expr_height e) (expr_height e2) room low in
      let right = max_right (expr_height e) (expr_height e2) room low in
      other_tight casts room s (record { kind = kinds.Keyword keywords.VaStart; at = keyword })
      (sign_text puncts.OpenParen opening (expr_text all e
      (sign_text puncts.Comma separator (expr_text all e2 (sign_text puncts.CloseParen closing k))))) refl ∙
      fits_is 2 room (keyword_text keywords.VaStart keyword (sign_text puncts.OpenParen opening (expr_text all e
      (sign_text puncts.Comma separator (expr_text all e2 (sign_text puncts.CloseParen closing k)))))) _
      (asks_two (expr_height e) room left (expr_high e)) ∙
      bind_is _ refl (bind_is _ refl
      (bind_is _ (laws.exprs.complete Assigned (room - 1) (inside_less (expr_height e) room n less left) e s c.0
      (sign_text puncts.Comma separator (expr_text all e2 (sign_text puncts.CloseParen closing k))) (h.0, h.2) c.1
      (inside_low (expr_height e) room left) refl)
      (bind_is _ refl (bind_is _ (laws.exprs.complete Assigned (room - 1)
      (inside_less (expr_height e2) room n less right) e2 c.0 m (sign_text puncts.CloseParen closing k) (h.1, h.3) c.2
      (inside_low (expr_height e2) room right) refl) (bind_is _ refl refl)))))
  base_read casts room less (va_copy keyword opening e separator e2 closing) s m k base h named low no_text =
      let c = behind_ok (expr_scopes e s) (expr_scopes e2) m named in
      let left = max_left (expr_height e) (expr_height e2) room low in
      let right = max_right (expr_height e) (expr_height e2) room low in
      other_tight casts room s (record { kind = kinds.Keyword keywords.VaCopy; at = keyword })
      (sign_text puncts.OpenParen opening (expr_text all e
      (sign_text puncts.Comma separator (expr_text all e2 (sign_text puncts.CloseParen closing k))))) refl ∙
      fits_is 2 room (keyword_text keywords.VaCopy keyword (sign_text puncts.OpenParen opening (expr_text all e
      (sign_text puncts.Comma separator (expr_text all e2 (sign_text puncts.CloseParen closing k)))))) _
      (asks_two (expr_height e) room left (expr_high e)) ∙
      bind_is _ refl (bind_is _ refl
      (bind_is _ (laws.exprs.complete Assigned (room - 1) (inside_less (expr_height e) room n less left) e s c.0
      (sign_text puncts.Comma separator (expr_text all e2 (sign_text puncts.CloseParen closing k))) (h.0, h.2) c.1
      (inside_low (expr_height e) room left) refl)
      (bind_is _ refl (bind_is _ (laws.exprs.complete Assigned (room - 1)
      (inside_less (expr_height e2) room n less right) e2 c.0 m (sign_text puncts.CloseParen closing k) (h.1, h.3) c.2
      (inside_low (expr_height e2) room right) refl) (bind_is _ refl refl)))))
  base_read casts room less (offset keyword opening ws d separator name steps closing) s m k base h named low no_text =
      let b = behind_ok (behind (spec_words_scopes ws s) (some_declr_scopes None d)) (desigs_scopes steps) m named in
      let left = max_left (max (specs_height ws) (some_declr_height d) + 1) (steps_height steps) room low in
      let right = max_right (max (specs_height ws) (some_declr_height d) + 1) (steps_height steps) room low in
      let behind_type = sign_text puncts.Comma separator
      (identifier_text name (desigs_text all steps (sign_text puncts.CloseParen closing k))) in
      let typed : inner.type_name (room - 1) s (spec_words_text all ws (some_declr_text all d behind_type))
      ≡ done (found (record { words = ws; declr = d }) b.0 behind_type) =
      laws.types.complete (room - 1) (inside_less (max (specs_height ws) (some_declr_height d) + 1) room n less left)
      (record { words = ws; declr = d }) s b.0 behind_type (h.0, h.1, h.2) b.1
      (inside_low (max (specs_height ws) (some_declr_height d) + 1) room left) refl in
      other_tight casts room s (record { kind = kinds.Keyword keywords.Offsetof; at = keyword })
      (sign_text puncts.OpenParen opening (spec_words_text all ws (some_declr_text all d behind_type))) refl ∙
      fits_is 3 room (keyword_text keywords.Offsetof keyword
      (sign_text puncts.OpenParen opening (spec_words_text all ws (some_declr_text all d behind_type)))) _
      (three (specs_height ws) (some_declr_height d) room left (specs_high ws)) ∙
      bind_is _ refl (bind_is _ refl (bind_is _ typed (bind_is _ refl
      (bind_is _ refl (bind_is _ (steps_read room (inside_less (steps_height steps) room n less right) steps b.0 m
      (sign_text puncts.CloseParen closing k) h.3 b.2 (inside_low (steps_height steps) room right) refl)
      (bind_is _ refl (ap (λ (ds : Desigs). postfixed inner room
      (offset keyword opening ws d separator name ds closing) m k) (desigs_back steps))))))))
  base_read casts room less (compat keyword opening ws d separator ws2 d2 closing) s m k base h named low no_text =
      let b = behind_ok (behind (behind (spec_words_scopes ws s) (some_declr_scopes None d)) (spec_words_scopes ws2))
      (some_declr_scopes None d2) m named in
      let c = behind_ok (behind (spec_words_scopes ws s) (some_declr_scopes None d)) (spec_words_scopes ws2) b.0 b.1 in
      let left = max_left (max (specs_height ws) (some_declr_height d) + 1)
      (max (specs_height ws2) (some_declr_height d2) + 1) room low in
      let right = max_right (max (specs_height ws) (some_declr_height d) + 1)
      (max (specs_height ws2) (some_declr_height d2) + 1) room low in
      let typed2 : behind (spec_words_scopes ws2 c.0) (some_declr_scopes None d2) ≡ Some m = rw c.2 b.2 in
      let behind_type = sign_text puncts.Comma separator (type_text ws2 d2 closing k) in
      let typed : inner.type_name (room - 1) s (spec_words_text all ws (some_declr_text all d behind_type))
      ≡ done (found (record { words = ws; declr = d }) c.0 behind_type) =
      laws.types.complete (room - 1) (inside_less (max (specs_height ws) (some_declr_height d) + 1) room n less left)
      (record { words = ws; declr = d }) s c.0 behind_type (h.0, h.1, h.2) c.1
      (inside_low (max (specs_height ws) (some_declr_height d) + 1) room left) refl in
      other_tight casts room s (record { kind = kinds.Keyword keywords.Compatible; at = keyword })
      (sign_text puncts.OpenParen opening (spec_words_text all ws (some_declr_text all d behind_type))) refl ∙
      fits_is 3 room (keyword_text keywords.Compatible keyword
      (sign_text puncts.OpenParen opening (spec_words_text all ws (some_declr_text all d behind_type)))) _
      (three (specs_height ws) (some_declr_height d) room left (specs_high ws)) ∙
      bind_is _ refl (bind_is _ refl
      (bind_is _ typed (bind_is _ refl (bind_is _ (typed_read (room - 1) c.0 ws2 d2 m closing k (record {
        mix = h.3;
        words = h.4;
        declr = h.5;
        named = typed2;
        low = inside_low (max (specs_height ws2) (some_declr_height d2) + 1) room right;
        less = inside_less (max (specs_height ws2) (some_declr_height d2) + 1) room n less right;
      }))
      (bind_is _ refl refl)))))
  base_read casts room less
      (choose keyword opening e separator e2 separator2 e3 closing) s m k base h named low no_text =
      let b = behind_ok (behind (expr_scopes e s) (expr_scopes e2)) (expr_scopes e3) m named in
      let c = behind_ok (expr_scopes e s) (expr_scopes e2) b.0 b.1 in
      let left = max_left (expr_height e) (max (expr_height e2) (expr_height e3)) room low in
      let right = max_right (expr_height e) (max (expr_height e2) (expr_height e3)) room low in
      let second = max_left (expr_height e2) (expr_height e3) room right in
      let third = max_right (expr_height e2) (expr_height e3) room right in
      let k3 = sign_text puncts.CloseParen closing k in
      let k2 = sign_text puncts.Comma separator2 (expr_text all e3 k3) in
      let k1 = sign_text puncts.Comma separator (expr_text all e2 k2) in
      other_tight casts room s (record { kind = kinds.Keyword keywords.Choose; at = keyword })
      (sign_text puncts.OpenParen opening (expr_text all e k1)) refl ∙
      fits_is 2 room (keyword_text keywords.Choose keyword (sign_text puncts.OpenParen opening (expr_text all e k1))) _
      (asks_two (expr_height e) room left (expr_high e)) ∙
      bind_is _ refl (bind_is _ refl
      (bind_is _ (laws.exprs.complete Assigned (room - 1) (inside_less (expr_height e) room n less left) e s c.0 k1
      (h.0, h.3) c.1 (inside_low (expr_height e) room left) refl)
      (bind_is _ refl (bind_is _ (laws.exprs.complete Assigned (room - 1) (inside_less
      (expr_height e2) room n less second) e2 c.0 b.0 k2 (h.1, h.4) c.2 (inside_low (expr_height e2) room second) refl)
      (bind_is _ refl
      (bind_is _ (laws.exprs.complete Assigned (room - 1) (inside_less (expr_height e3) room n less third) e3 b.0 m k3
      (h.2, h.5) b.2 (inside_low (expr_height e3) room third) refl) (bind_is _ refl refl)))))))
  base_read casts room less (generic keyword opening e no_assocs closing) s m k base h named low no_text =
      absurd (h.2 refl)
  base_read casts room less (generic keyword opening e (more_assocs x xs) closing) s m k base h named low no_text =
      let c = behind_ok (expr_scopes e s) (assocs_scopes (more_assocs x xs)) m named in
      let left = max_left (expr_height e) (assocs_height (more_assocs x xs)) room low in
      let right = max_right (expr_height e) (assocs_height (more_assocs x xs)) room low in
      let more = separated (assoc_text all x (assocs_text all xs (sign_text puncts.CloseParen closing k))) in
      other_tight casts room s (record { kind = kinds.Keyword keywords.Generic; at = keyword })
      (sign_text puncts.OpenParen opening (expr_text all e more)) refl ∙
      fits_is 3 room (keyword_text keywords.Generic keyword (sign_text puncts.OpenParen opening (expr_text all e more)))
      _ (assoc_asks (assoc_height x) (assocs_height xs) (expr_height e) room low (assoc_two x)) ∙
      bind_is _ refl (bind_is _ refl
      (bind_is _ (laws.exprs.complete Assigned (room - 1) (inside_less (expr_height e) room n less left) e s c.0 more
      (h.0, h.1) c.1 (inside_low (expr_height e) room left) refl)
      (bind_is _ refl (bind_is _ (assocs_read (room - 1) (room_less room n less) x xs c.0 m
      (sign_text puncts.CloseParen closing k) h.3 c.2 (inside_low (assocs_height (more_assocs x xs)) room right) refl)
      (bind_is _ refl (ap (λ (xs : Assocs). postfixed inner room (generic keyword opening e xs closing) m k)
      (assocs_back (more_assocs x xs))))))))
    where
      assoc_two : (x : Assoc) → 2 ≤ assoc_height x
      assoc_two (typed_assoc ws d colon e) = let high : 1 ≤ expr_height e = expr_high e in omega (arith, high)
      assoc_two (default_assoc keyword colon e) = let high : 1 ≤ expr_height e = expr_high e in omega (arith, high)

      assoc_asks : (a b h room : ℕ) → max h (max a b) + 1 ≤ room → 2 ≤ a → 3 ≤ room
      assoc_asks a b h room p q = omega (arith, p, q)

      room_less : (room n : ℕ) → room ≤ n → room - 1 ≤ n
      room_less room n h = omega (arith, h)

  -- an operand with its postfix forms
  postfix_read : (casts : Bool) (room : ℕ) → room ≤ n → (e : Expr) (s s' : HeldScopes) (k : List Lexeme) → IsExpr all e
      → 15 ≤ expr_level e → expr_scopes e s ≡ Some s' → expr_height e ≤ room → ends_unary (kind_at k) ≡ true →
      tight casts room s (expr_text all e k) ≡ done (found e s' k)
  postfix_read casts room less e s s' k h l named low ended =
      let b = base_of all numbered tokens firsts n inner laws room less e s s' k h l named low
      (ends_no_text (kind_at k) ended) in
      ap (λ (ts : List Lexeme). tight casts room s ts) b.same_text
      ∙ base_read casts room less b.base s b.middle b.behind_base b.is_base b.fits b.named
      (lower_base (expr_height b.base) (expr_height e) room b.low low) b.no_text ∙
      b.goes_on ∙ postfix_ends all numbered tokens firsts n inner laws room e s' k ended
    where
      lower_base : (a b c : ℕ) → a ≤ b → b ≤ c → a ≤ c
      lower_base a b c p q = omega (arith, p, q)

  -- an operand of `sizeof` that is not taken for a type's name in parentheses
  value_read : (word : Word) (room : ℕ) → room ≤ n → (e : Expr) (s s' : HeldScopes) (k : List Lexeme) → IsExpr all e
      → 14 ≤ expr_level e → expr_scopes e s ≡ Some s' → expr_height e + 1 ≤ room → ends_unary (kind_at k) ≡ true →
      sizeof_value_with inner word room s (expr_text all e k) ≡ done (found (sizeof_value word e) s' k)
  unfolding sizeof_value_with
  value_read word room less e s s' k h l named low ended =
      bind_is _ (laws.exprs.complete Unary (room - 1) (inside_less (expr_height e) room n less low) e s s' k
      (h, l) named (inside_low (expr_height e) room low) (ends_unary_expr (kind_at k) ended)) refl

  without_paren : (word : Word) (room : ℕ) → room ≤ n → (e : Expr) (s s' : HeldScopes) (k : List Lexeme) → IsExpr all e
      → 14 ≤ expr_level e → expr_scopes e s ≡ Some s' → expr_height e + 1 ≤ room → ends_unary (kind_at k) ≡ true →
      is_open_paren (kind_at (expr_text all e k)) ≡ false
      → sizeof_behind inner word room s (expr_text all e k) ≡ done (found (sizeof_value word e) s' k)
  unfolding sizeof_behind
  without_paren word room less e s s' k h l named low ended is =
      rw is (value_read word room less e s s' k h l named low ended)

  with_value : (word : Word) (room : ℕ) → room ≤ n → (e : Expr) (s s' : HeldScopes) (k : List Lexeme) → IsExpr all e
      → 14 ≤ expr_level e → expr_scopes e s ≡ Some s' → expr_height e + 1 ≤ room → ends_unary (kind_at k) ≡ true →
      is_open_paren (kind_at (expr_text all e k)) ≡ true → begins_specs s (kind_at (behind_first (expr_text all e k)))
      ≡ false → 3 ≤ room → sizeof_behind inner word room s (expr_text all e k) ≡ done (found (sizeof_value word e) s' k)
  unfolding sizeof_behind
  with_value word room less e s s' k h l named low ended is no_type least =
      rw is (fits_is 3 room (expr_text all e k) _ least
      ∙ rw no_type (value_read word room less e s s' k h l named low ended))

  two_more : (a b room : ℕ) → a + 1 ≤ b → b + 1 ≤ room → 1 ≤ a → 3 ≤ room
  two_more a b room p q r = omega (arith, p, q, r)

  -- a compound literal behind `sizeof`
  with_compound : (word : Word) (room : ℕ) → room ≤ n
      → (e : Expr) (s m s' : HeldScopes) (k k' : List Lexeme) (opening : ℕ) (ws : SpecWords) (d : SomeDeclr)
      (closing : ℕ) (list : InitList) →
      IsExpr all (compound opening ws d closing list) → expr_scopes (compound opening ws d closing list) s ≡ Some m
      → expr_height (compound opening ws d closing list) + 1 ≤ room →
      postfixed inner (room - 1) (compound opening ws d closing list) m k' ≡ done (found e s' k) →
      sizeof_behind inner word room s (expr_text all (compound opening ws d closing list) k')
      ≡ done (found (sizeof_value word e) s' k)
  unfolding sizeof_behind sizeof_type_with sizeof_typed
  with_compound word room less e s m s' k k' opening ws d closing list h named low goes =
      let b = behind_ok (behind (spec_words_scopes ws s) (some_declr_scopes None d)) (init_list_scopes list) m named in
      let w : TypedWell (room - 1) s ws d b.0 = record {
        mix = h.0;
        words = h.1;
        declr = h.2;
        named = b.1;
        low = type_low (max (specs_height ws) (some_declr_height d) + 1) (init_list_height list) room low;
        less = type_less (max (specs_height ws) (some_declr_height d) + 1) (init_list_height list) room n low less;
      } in
      fits_is 3 room (sign_text puncts.OpenParen opening (type_text ws d closing (init_list_text all list k'))) _
      (type_three (specs_height ws) (some_declr_height d) (init_list_height list) room low (specs_high ws)) ∙
      rw (typed_begins (room - 1) s ws d b.0 closing (init_list_text all list k') w) (bind_is _ refl
      (bind_is _ (typed_read (room - 1) s ws d b.0 closing (init_list_text all list k') w) (bind_is _ refl
      (rw (list_brace list k')
      (fits_is (2 + type_name_height (record { words = ws; declr = d })) room (init_list_text all list k') _
      (type_asks (max (specs_height ws) (some_declr_height d) + 1) (init_list_height list) room low) ∙
      bind_is _ (compound_read (room - 1) opening ws d closing list b.0 m k' h.3 b.2
      (list_low (max (specs_height ws) (some_declr_height d) + 1) (init_list_height list) room low)
      (list_less (max (specs_height ws) (some_declr_height d) + 1) (init_list_height list) room n low less)
      ∙ goes) refl)))))
    where
      type_low : (a b room : ℕ) → max a b + 1 + 1 ≤ room → a ≤ room - 1
      type_low a b room h = omega (arith, h)

      type_less : (a b room n : ℕ) → max a b + 1 + 1 ≤ room → room ≤ n → room - 1 < n
      type_less a b room n h p = omega (arith, h, p)

      type_three : (a d b room : ℕ) → max (max a d + 1) b + 1 + 1 ≤ room → 1 ≤ a → 3 ≤ room
      type_three a d b room h p = omega (arith, h, p)

      type_asks : (a b room : ℕ) → max a b + 1 + 1 ≤ room → 2 + a ≤ room
      type_asks a b room h = omega (arith, h)

      list_low : (a b room : ℕ) → max a b + 1 + 1 ≤ room → b ≤ room - 1 - 1
      list_low a b room h = omega (arith, h)

      list_less : (a b room n : ℕ) → max a b + 1 + 1 ≤ room → room ≤ n → room - 1 - 1 < n
      list_less a b room n h p = omega (arith, h, p)

  sizeof_postfix : (word : Word) (room : ℕ) → room ≤ n → (e : Expr) (s s' : HeldScopes) (k : List Lexeme) → IsExpr all e
      → 15 ≤ expr_level e → expr_scopes e s ≡ Some s' → expr_height e + 1 ≤ room → ends_unary (kind_at k) ≡ true →
      sizeof_behind inner word room s (expr_text all e k) ≡ done (found (sizeof_value word e) s' k)
  sizeof_postfix word room less e s s' k h l named low ended =
      let b = base_of all numbered tokens firsts n inner laws (room - 1) (below (expr_height e) room n less low) e s s'
      k h l named (inside_low (expr_height e) room low) (ends_no_text (kind_at k) ended) in
      by_base b.base b.behind_base b.middle b.is_base b.same_text b.fits b.named b.low
      (b.goes_on ∙ postfix_ends all numbered tokens firsts n inner laws (room - 1) e s' k ended)
    where
      below : (h room n : ℕ) → room ≤ n → h + 1 ≤ room → room - 1 ≤ n
      below h room n a b = omega (arith, a, b)

      tighter : (a : ℕ) → 15 ≤ a → 14 ≤ a
      tighter a h = omega (arith, h)

      compound_low : (a b room : ℕ) → a ≤ b → b + 1 ≤ room → a + 1 ≤ room
      compound_low a b room p q = omega (arith, p, q)

      no_paren : is_open_paren (kind_at (expr_text all e k)) ≡ false
          → sizeof_behind inner word room s (expr_text all e k) ≡ done (found (sizeof_value word e) s' k)
      no_paren is = without_paren word room less e s s' k h (tighter (expr_level e) l) named low ended is

      by_base : (b : Expr) (k' : List Lexeme) (m : HeldScopes) → IsBase all numbered tokens firsts n inner laws b
          → expr_text all e k ≡ expr_text all b k' → IsExpr all b → expr_scopes b s ≡ Some m
          → expr_height b ≤ expr_height e →
          postfixed inner (room - 1) b m k' ≡ done (found e s' k)
          → sizeof_behind inner word room s (expr_text all e k) ≡ done (found (sizeof_value word e) s' k)
      by_base (compound opening ws d closing list) k' m base same fits named2 lower goes =
          ap (λ (ts : List Lexeme). sizeof_behind inner word room s ts) same
          ∙ with_compound word room less e s m s' k k' opening ws d closing list fits named2
          (compound_low (expr_height (compound opening ws d closing list)) (expr_height e) room lower low) goes
      by_base (name_use token name) k' m base same fits named2 lower goes = no_paren (rw same refl)
      by_base (number_use token) k' m base same fits named2 lower goes = no_paren (rw same refl)
      by_base (char_use token) k' m base same fits named2 lower goes = no_paren (rw same refl)
      by_base (text_use []) k' m base same fits named2 lower goes = absurd (fits refl)
      by_base (text_use (token ∷ texts)) k' m base same fits named2 lower goes = no_paren (rw same refl)
      by_base (paren opening f closing) k' m base same fits named2 lower goes =
          with_value word room less e s s' k h (tighter (expr_level e) l) named low ended (rw same refl)
          (rw same (expr_no_specs s (kind_at (expr_text all f (sign_text puncts.CloseParen closing k')))
          (firsts.expr_begins f s m (sign_text puncts.CloseParen closing k') fits named2)))
          (two_more (expr_height f) (expr_height e) room lower low (expr_high f))
      by_base (statement_expr opening opening2 items closing closing2) k' m base same fits named2 lower goes =
          with_value word room less e s s' k h (tighter (expr_level e) l) named low ended (rw same refl) (rw same refl)
          (two_more (block_height items) (expr_height e) room lower low (block_high items))
        where
          block_high : (items : BlockItems) → 1 ≤ block_height items
          block_high no_block_items = omega arith
          block_high (more_block_items item items) =
              let r : 1 ≤ block_height items = block_high items in
              omega (arith, r)
      by_base (va_arg keyword opening f separator ws d closing) k' m base same fits named2 lower goes =
          no_paren (rw same refl)
      by_base (va_start keyword opening f separator e2 closing) k' m base same fits named2 lower goes =
          no_paren (rw same refl)
      by_base (va_copy keyword opening f separator e2 closing) k' m base same fits named2 lower goes =
          no_paren (rw same refl)
      by_base (offset keyword opening ws d separator name steps closing) k' m base same fits named2 lower goes =
          no_paren (rw same refl)
      by_base (compat keyword opening ws d separator ws2 d2 closing) k' m base same fits named2 lower goes =
          no_paren (rw same refl)
      by_base (choose keyword opening f separator e2 separator2 e3 closing) k' m base same fits named2 lower goes =
          no_paren (rw same refl)
      by_base (generic keyword opening f xs closing) k' m base same fits named2 lower goes = no_paren (rw same refl)
      by_base b k' m base same fits named2 lower goes = absurd base

  -- the sign of a prefix is one
  prefix_small : (a b : ℕ) → a ≤ b → b ≤ 16 → a ≤ 16
  prefix_small a b p q = omega (arith, p, q)

  sizeof_operand : (word : Word) (room : ℕ) → room ≤ n → (e : Expr) (s s' : HeldScopes) (k : List Lexeme) → IsExpr all e
      → 14 ≤ expr_level e → expr_scopes e s ≡ Some s' → expr_height e + 1 ≤ room → ends_unary (kind_at k) ≡ true →
      sizeof_behind inner word room s (expr_text all e k) ≡ done (found (sizeof_value word e) s' k)
  sizeof_operand word room less (operation e op token e2) s s' k h l named low ended =
      absurd (let t : operator_level op ≤ 12 = level_most op in omega (arith, t, l))
  sizeof_operand word room less (cast opening ws d closing e) s s' k h l named low ended = absurd (omega (arith, l))
  sizeof_operand word room less (prefix token p e) s s' k h l named low ended =
      let o = prefix_opens p (prefix_small (prefix_level p) (expr_level e) h.1 (level_sixteen e)) in
      without_paren word room less (prefix token p e) s s' k h l named low ended (prefix_no_paren p o.0 o.1)
  sizeof_operand word room less (sizeof_value word2 e) s s' k h l named low ended =
      without_paren word room less (sizeof_value word2 e) s s' k h l named low ended refl
  sizeof_operand word room less (sizeof_type word2 opening ws d closing) s s' k h l named low ended =
      without_paren word room less (sizeof_type word2 opening ws d closing) s s' k h l named low ended refl
  sizeof_operand word room less (extension keyword e) s s' k h l named low ended =
      without_paren word room less (extension keyword e) s s' k h l named low ended refl
  sizeof_operand word room less (complex_part keyword e) s s' k h l named low ended =
      without_paren word room less (complex_part keyword e) s s' k h l named low ended refl
  sizeof_operand word room less (label_use token name) s s' k h l named low ended =
      without_paren word room less (label_use token name) s s' k h l named low ended refl
  sizeof_operand word room less (index e opening e2 closing) s s' k h l named low ended =
      sizeof_postfix word room less (index e opening e2 closing) s s' k h (omega arith) named low ended
  sizeof_operand word room less e s s' k h l named low ended =
      sizeof_postfix word room less e s s' k h (omega arith) named low ended

  -- a unary form is read whole
  pub tight_unary : (casts : Bool) (room : ℕ) → room ≤ n → (e : Expr) (s s' : HeldScopes) (k : List Lexeme)
      → IsExpr all e → 14 ≤ expr_level e → expr_scopes e s ≡ Some s' → expr_height e ≤ room
      → ends_unary (kind_at k) ≡ true →
      tight casts room s (expr_text all e k) ≡ done (found e s' k)
  unfolding unary_by prefix_with extension_with part_with label_use_with sizeof_with sizeof_behind
      sizeof_type_with sizeof_typed
  tight_unary casts room less (operation e op token e2) s s' k h l named low ended =
      absurd (let t : operator_level op ≤ 12 = level_most op in omega (arith, t, l))
  tight_unary casts room less (cast opening ws d closing e) s s' k h l named low ended = absurd (omega (arith, l))
  tight_unary casts room less (prefix token p e) s s' k h l named low ended =
      let o = prefix_opens p (prefix_small (prefix_level p) (expr_level e) h.1 (level_sixteen e)) in
      other_tight casts room s (record { kind = kinds.Punct p; at = token }) (expr_text all e k)
      (prefix_no_paren p o.0 o.1) ∙
      ap (λ (f : Opening). unary_by inner f room s (sign_text p token (expr_text all e k))) o.1
      ∙ fits_is 2 room (sign_text p token (expr_text all e k)) _ (asks_two (expr_height e) room low (expr_high e)) ∙
      bind_is _ refl (bind_is _ (laws.exprs.complete o.0 (room - 1) (inside_less (expr_height e) room n less low) e s s'
      k (h.0, rw (← o.2) h.1) named (inside_low (expr_height e) room low)
      (prefix_ends p o.0 o.1 (kind_at k) ended)) refl)
  tight_unary casts room less (sizeof_value word e) s s' k h l named low ended =
      other_tight casts room s (record { kind = kinds.Keyword word.keyword; at = word.token })
      (expr_text all e k) refl ∙
      ap (λ (f : Opening). unary_by inner f room s (word_text word (expr_text all e k))) (sizeof_opens word.keyword h.1)
      ∙ fits_is 2 room (word_text word (expr_text all e k)) _ (asks_two (expr_height e) room low (expr_high e)) ∙
      bind_is _ refl (sizeof_operand word room less e s s' k h.0 h.2 named low ended)
  tight_unary casts room less (sizeof_type word opening ws d closing) s s' k h l named low ended =
      let w : TypedWell (room - 1) s ws d s' = record {
        mix = h.0;
        words = h.1;
        declr = h.2;
        named = named;
        low = inside_low (max (specs_height ws) (some_declr_height d) + 1) room low;
        less = inside_less (max (specs_height ws) (some_declr_height d) + 1) room n less low;
      } in
      other_tight casts room s (record { kind = kinds.Keyword word.keyword; at = word.token })
      (sign_text puncts.OpenParen opening (type_text ws d closing k)) refl ∙
      ap (λ (f : Opening). unary_by inner f room s (word_text word
      (sign_text puncts.OpenParen opening (type_text ws d closing k)))) (sizeof_opens word.keyword h.3) ∙
      fits_is 2 room (word_text word (sign_text puncts.OpenParen opening (type_text ws d closing k))) _
      (plus_two (max (specs_height ws) (some_declr_height d)) room low) ∙
      bind_is _ refl (fits_is 3 room (sign_text puncts.OpenParen opening (type_text ws d closing k)) _
      (three (specs_height ws) (some_declr_height d) room low (specs_high ws)) ∙
      rw (typed_begins (room - 1) s ws d s' closing k w) (bind_is _ refl (bind_is _
      (typed_read (room - 1) s ws d s' closing k w) (bind_is _ refl (rw (ends_no_brace (kind_at k) ended) refl)))))
  tight_unary casts room less (extension keyword e) s s' k h l named low ended =
      other_tight casts room s (record { kind = kinds.Keyword keywords.Extension; at = keyword })
      (expr_text all e k) refl ∙
      fits_is 2 room (keyword_text keywords.Extension keyword (expr_text all e k)) _
      (asks_two (expr_height e) room low (expr_high e)) ∙
      bind_is _ refl (bind_is _ (laws.exprs.complete Castable (room - 1) (inside_less (expr_height e) room n less low) e
      s s' k (h.0, h.1) named (inside_low (expr_height e) room low) (ends_castable (kind_at k) ended)) refl)
  tight_unary casts room less (complex_part keyword e) s s' k h l named low ended =
      other_tight casts room s (record { kind = kinds.Keyword keywords.Part; at = keyword }) (expr_text all e k) refl ∙
      fits_is 2 room (keyword_text keywords.Part keyword (expr_text all e k)) _
      (asks_two (expr_height e) room low (expr_high e)) ∙
      bind_is _ refl (bind_is _ (laws.exprs.complete Castable (room - 1) (inside_less (expr_height e) room n less low) e
      s s' k (h.0, h.1) named (inside_low (expr_height e) room low) (ends_castable (kind_at k) ended)) refl)
  tight_unary casts room less (label_use token name) s s' k h l named low ended =
      let p = wide_parts s s' (is_wide s) named in
      other_tight casts room s (record { kind = kinds.Punct puncts.AmpersandAmpersand; at = token })
      (identifier_text name k) refl ∙
      rw p.0 (fits_is 1 room (sign_text puncts.AmpersandAmpersand token (identifier_text name k)) _ low ∙
      bind_is _ refl (bind_is _ refl (ap (λ (s : HeldScopes). done (found (label_use token name) s k)) p.1)))
  tight_unary casts room less (index e opening e2 closing) s s' k h l named low ended =
      postfix_read casts room less (index e opening e2 closing) s s' k h (omega arith) named low ended
  tight_unary casts room less e s s' k h l named low ended =
      postfix_read casts room less e s s' k h (omega arith) named low ended

  -- a cast is read whole
  pub cast_read : (room : ℕ) → room ≤ n → (e : Expr) (s s' : HeldScopes) (k : List Lexeme) → IsExpr all e
      → 13 ≤ expr_level e → expr_scopes e s ≡ Some s' → expr_height e ≤ room → ends_unary (kind_at k) ≡ true →
      cast_with inner room s (expr_text all e k) ≡ done (found e s' k)
  unfolding typed_behind cast_behind
  cast_read room less (operation e op token e2) s s' k h l named low ended =
      absurd (let t : operator_level op ≤ 12 = level_most op in omega (arith, t, l))
  cast_read room less (cast opening ws d closing e) s s' k h l named low ended =
      let b = behind_ok (behind (spec_words_scopes ws s) (some_declr_scopes None d)) (expr_scopes e) s' named in
      let left = max_left (max (specs_height ws) (some_declr_height d) + 1) (expr_height e) room low in
      let right = max_right (max (specs_height ws) (some_declr_height d) + 1) (expr_height e) room low in
      let begun = firsts.expr_begins e b.0 s' k h.3 b.2 in
      opened_goes true room s opening (type_text ws d closing (expr_text all e k)) _
      (plus_two (max (specs_height ws) (some_declr_height d)) room left)
      (typed_goes true room s opening ws d closing b.0 (expr_text all e k) _
      (record {
        mix = h.0;
        words = h.1;
        declr = h.2;
        named = b.1;
        low = inside_low (max (specs_height ws) (some_declr_height d) + 1) room left;
        less = inside_less (max (specs_height ws) (some_declr_height d) + 1) room n less left;
      })
      (rw (expr_no_open_brace b.0 (kind_at (expr_text all e k)) begun)
      (bind_is _ (laws.exprs.complete Castable (room - 1) (inside_less (expr_height e) room n less right) e b.0 s' k
      (h.3, h.4) b.2 (inside_low (expr_height e) room right)
      (ends_castable (kind_at k) ended)) refl)))
  cast_read room less (prefix token p e) s s' k h l named low ended =
      tight_unary true room less (prefix token p e) s s' k h (omega arith) named low ended
  cast_read room less e s s' k h l named low ended = tight_unary true room less e s s' k h (omega arith) named low ended
