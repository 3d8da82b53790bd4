-- Declarations are read from their text.
use Rattle.std.proofs.Common.{◌≡◌, ℕ, ◌<◌, ◌≤◌, Bool, true, false, if◌then◌else◌, List, [], ◌∷◌, Option, Some, None, inr, refl, sym, ◌∙◌, ap, subst, arith}
use Rattle.std.specs.Prelude.{◌+◌, ◌-◌, max, not, ◌&&◌}
use Rattle.std.proofs.lemmas.Option.{same_Some}
use Rattle.qual_base.proofs.Tests.{and_second, and_first}
use Rattle.c_words.specs.declared.kinds.TokenKind.{TokenKind}
use Rattle.c_words.specs.declared.kinds.TokenKind.TheVariants as kinds
use Rattle.c_words.specs.declared.kinds.Punct.TheVariants as puncts
use Rattle.c_words.specs.declared.kinds.Keyword.TheVariants as keywords
use Rattle.c_tree.specs.declared.lexeme.Lexeme.{Lexeme}
use Rattle.c_syntax.specs.declared.parts.Attr.{Attr}
use Rattle.c_syntax.specs.declared.parts.AsmLabel.{AsmLabel}
use Rattle.c_tree.specs.Tree.{Expr, SpecWords, Declr, declr_name, base_name, init_value, SomeInit, no_init, some_init, InitDeclrs, no_init_declrs, more_init_declrs, declaration}
use Rattle.c_tree.specs.Text.{sign_text, keyword_text, name_text, expr_text, attrs_text, label_text, declr_text, some_init_text, spec_words_text, init_declrs_text, other_init_declrs_text}
use Rattle.c_tree.specs.Height.{attrs_height, expr_height, label_height, declr_height, some_init_height, init_height, specs_height, init_declrs_height}
use Rattle.c_tree.specs.Specifiers.{IsMix, storage_words}
use Rattle.c_tree.specs.WellFormed.{IsExpr, AreSpecWords, AreAttrs, IsLabel, IsSomeInit, IsInitStart, AreInitDeclrs, has_auto, IsAutoDeclr, IsAutoWhere, IsBaseStart}
use Rattle.c_tree.specs.Levels.{expr_level}
use Rattle.c_specs.specs.Laws.{WholeAreMixes}
use Rattle.typedef_scope.specs.declared.kind.Kind.TheVariants.{Value}
use Rattle.c_reading.specs.Declaring.{name_held}
use Rattle.c_reading.proofs.BaseWords.{words_declrs_scopes, declrs_end, bare_words, typedef_among}
use Rattle.typedef_scope.specs.declared.kind.Kind.{Kind}
use Rattle.c_specs.specs.Reading.{append_words}
use Rattle.c_units.specs.HeldScopes.{HeldScopes, release}
use Rattle.c_units.specs.Scoping.{behind, at_name, is_base, has_typedef_word, expr_scopes, auto_declrs_scopes, declared_kind, spec_words_scopes, declr_scopes, some_init_scopes, init_declrs_scopes}
use Rattle.c_reading.specs.declared.kinds.Reach.TheVariants.{Assigned}
use Rattle.c_reading.specs.declared.kinds.Role.TheVariants.{Declaring}
use Rattle.c_reading.specs.Reading.{Reader, kind_at, one_more, IsNumbered}
use Rattle.c_reading.specs.Tokens.{is_equal, is_asm, is_attribute, is_semicolon}
use Rattle.c_reading.specs.Parts.{Inner, DeclrItem}
use Rattle.c_reading.specs.Stating.{label_at, some_init_with, declr_behind, init_declr_with, next_init_declr, declrs_with, bare_declaration, auto_declr, auto_name, auto_declarator, auto_behind, declaration_behind, declaration_with, declaration_from}
use Rattle.c_reading.proofs.Binding.{found, done, bind_is, fits_is}
use Rattle.c_reading.proofs.Forms.{behind_ok}
use Rattle.c_reading.proofs.Commas.{no_ending, others_text, listed_goes_on}
use Rattle.c_reading.proofs.KindFacts.{named_no_attribute, named_no_semicolon, not_true, not_false}
use Rattle.c_reading.proofs.Aims.{ends_expr, ends_suffix, ends_init_declr, declr_item_form, TokenLaws, FirstLaws, Laws}
use Rattle.c_reading.proofs.Shared.{specs_here_ended, named_declr_complete, init_complete}
use Rattle.c_reading.proofs.InitShown.{init_high}
use Rattle.c_reading.proofs.StmtFalls.{next_declr_falls}
use Rattle.c_reading.proofs.DeclLists.{declrs_items, declrs_back, declrs_fit_back, declrs_named, declrs_high, others_are, attrs_asks}

-- what ends an initialiser goes on with no declarator
ends_no_equal : (kind : TokenKind) → ends_expr Assigned kind ≡ true → is_equal kind ≡ false
ends_no_equal (kinds.Punct puncts.Equal) e = absurd cc
ends_no_equal kind e = refl

-- what ends an expression without commas is no suffix of a declarator
ends_no_suffix : (kind : TokenKind) → ends_expr Assigned kind ≡ true → ends_suffix kind ≡ true
ends_no_suffix (kinds.Punct puncts.OpenParen) e = absurd cc
ends_no_suffix (kinds.Punct puncts.OpenBracket) e = absurd cc
ends_no_suffix kind e = refl

-- the three tests of what ends a declarator with what stands behind it
pub ends_value : (kind : TokenKind) → ends_init_declr kind ≡ true → ends_expr Assigned kind ≡ true
ends_value kind e =
    and_first (ends_expr Assigned kind) (not (is_attribute kind))
    (and_first (ends_expr Assigned kind && not (is_attribute kind)) (not (is_asm kind)) e)

ends_attrs : (kind : TokenKind) → ends_init_declr kind ≡ true → is_attribute kind ≡ false
ends_attrs kind e =
    not_true (and_second (ends_expr Assigned kind) (not (is_attribute kind))
    (and_first (ends_expr Assigned kind && not (is_attribute kind)) (not (is_asm kind)) e))

ends_label : (kind : TokenKind) → ends_init_declr kind ≡ true → is_asm kind ≡ false
ends_label kind e = not_true (and_second (ends_expr Assigned kind && not (is_attribute kind)) (not (is_asm kind)) e)

-- rooms of parts
init_less : (h room n : ℕ) → room ≤ n → h ≤ room - 1 → 1 ≤ h → room - 1 < n
init_less h room n a b c = omega (arith, a, b, c)

part_less : (a d l b i room n : ℕ) → room ≤ n → max a (max d (max l (max b i))) + 1 ≤ room → room - 1 < n
part_less a d l b i room n p q = omega (arith, p, q)

before_low : (a d l b i room : ℕ) → max a (max d (max l (max b i))) + 1 ≤ room → a ≤ room - 1
before_low a d l b i room q = omega (arith, q)

declr_low : (a d l b i room : ℕ) → max a (max d (max l (max b i))) + 1 ≤ room → d ≤ room - 1
declr_low a d l b i room q = omega (arith, q)

attrs_low : (a d l b i room : ℕ) → max a (max d (max l (max b i))) + 1 ≤ room → b ≤ room - 1
attrs_low a d l b i room q = omega (arith, q)

init_low : (a d l b i room : ℕ) → max a (max d (max l (max b i))) + 1 ≤ room → i ≤ room - 1
init_low a d l b i room q = omega (arith, q)

one_less : (room n : ℕ) → room ≤ n → room - 1 ≤ n
one_less room n a = omega (arith, a)

bare_asks : (h room : ℕ) → max h 0 + 1 ≤ room → 1 + h ≤ room
bare_asks h room a = omega (arith, a)

first_low : (w a b room : ℕ) → max w (max a b) + 1 ≤ room → a ≤ room - 1
first_low w a b room h = omega (arith, h)

rest_low : (w a b room : ℕ) → max w (max a b) + 1 ≤ room → b ≤ room - 1
rest_low w a b room h = omega (arith, h)

words_low : (w d room : ℕ) → max w d + 1 ≤ room → w + 1 ≤ room
words_low w d room h = omega (arith, h)

words_less : (w d room n : ℕ) → room ≤ n → max w d + 1 ≤ room → room - 1 < n
words_less w d room n a h = omega (arith, a, h)

words_inside : (w d room : ℕ) → max w d + 1 ≤ room → w ≤ room - 1
words_inside w d room h = omega (arith, h)

module _ (all : List Lexeme) (numbered : IsNumbered all) (tokens : TokenLaws all) (firsts : FirstLaws all) (n : ℕ)
    (inner : Inner) (laws : Laws all n inner) where
  label_read : (l : Option AsmLabel) (s : HeldScopes) (k : List Lexeme) → IsLabel all l → is_asm (kind_at k) ≡ false
      → label_at s (label_text all l k) ≡ done (found l s k)
  unfolding label_at
  label_read None s k fit ended = rw ended refl
  label_read (Some l) s k fit ended =
      bind_is _ refl (bind_is _ (tokens.group_complete 0 l.group s s k fit refl (omega arith) refl) refl)

  pub some_init_read : (room : ℕ) → room ≤ n → (i : SomeInit) (s s' : HeldScopes) (k : List Lexeme) → IsSomeInit all i
      → some_init_scopes i s ≡ Some s' → some_init_height i ≤ room - 1 →
      ends_expr Assigned (kind_at k) ≡ true → some_init_with inner room s (some_init_text all i k) ≡ done (found i s' k)
  unfolding some_init_with
  some_init_read room less no_init s s' k fit named low ended =
      rw (ends_no_equal (kind_at k) ended) (ap (λ (o : Option HeldScopes). done (found no_init (from o) k)) named)
    where
      from : Option HeldScopes → HeldScopes
      from None = s
      from (Some t) = t
  some_init_read room less (some_init equal i) s s' k fit named low ended =
      bind_is _ refl (bind_is _ (init_complete all n inner laws firsts (room - 1)
      (init_less (init_height i) room n less low (init_high i)) i s s' k fit named low ended) refl)

  -- the first token of what stands behind a declarator
  pub init_no_attr : (i : SomeInit) (k : List Lexeme) → ends_init_declr (kind_at k) ≡ true
      → is_attribute (kind_at (some_init_text all i k)) ≡ false
  init_no_attr no_init k ended = ends_attrs (kind_at k) ended
  init_no_attr (some_init equal i) k ended = refl

  pub attrs_no_asm : (attrs : List Attr) (i : SomeInit) (k : List Lexeme) → ends_init_declr (kind_at k) ≡ true
      → is_asm (kind_at (attrs_text all attrs (some_init_text all i k))) ≡ false
  attrs_no_asm (a ∷ attrs) i k ended = refl
  attrs_no_asm [] no_init k ended = ends_label (kind_at k) ended
  attrs_no_asm [] (some_init equal i) k ended = refl

  pub label_no_suffix : (l : Option AsmLabel) (attrs : List Attr) (i : SomeInit) (k : List Lexeme)
      → ends_init_declr (kind_at k) ≡ true →
      ends_suffix (kind_at (label_text all l (attrs_text all attrs (some_init_text all i k)))) ≡ true
  label_no_suffix (Some l) attrs i k ended = refl
  label_no_suffix None (a ∷ attrs) i k ended = refl
  label_no_suffix None [] no_init k ended = ends_no_suffix (kind_at k) (ends_value (kind_at k) ended)
  label_no_suffix None [] (some_init equal i) k ended = refl

  -- what stands behind a declarator whose name is declared
  pub declr_behind_read : (room : ℕ) → room ≤ n → (x : DeclrItem) (s s' : HeldScopes) (k : List Lexeme)
      → IsLabel all x.label → AreAttrs all x.attrs → IsSomeInit all x.init → some_init_scopes x.init s ≡ Some s' →
      attrs_height x.attrs ≤ room - 1 → some_init_height x.init ≤ room - 1 → ends_init_declr (kind_at k) ≡ true →
      declr_behind inner x.before x.declr room s
      (label_text all x.label (attrs_text all x.attrs (some_init_text all x.init k))) ≡ done (found x s' k)
  unfolding declr_behind
  declr_behind_read room less x s s' k label_fit attrs_fit init_fit named a_low i_low ended =
      bind_is _ (label_read x.label s (attrs_text all x.attrs (some_init_text all x.init k)) label_fit
      (attrs_no_asm x.attrs x.init k ended))
      (bind_is _ (tokens.attrs_complete room x.attrs s s (some_init_text all x.init k) attrs_fit refl
      (attrs_asks x.attrs room a_low) (not_false (init_no_attr x.init k ended)))
      (bind_is _ (some_init_read room less x.init s s' k init_fit named i_low (ends_value (kind_at k) ended)) refl))

  -- a declarator with what stands behind it, behind its attributes
  pub init_declr_read : (kind : Kind) (room : ℕ) → room ≤ n → (x : DeclrItem) (s s' : HeldScopes) (k : List Lexeme)
      → (declr_item_form all kind).Fits x → (declr_item_form all kind).scopes x s ≡ Some s' →
      (declr_item_form all kind).height x ≤ room → ends_init_declr (kind_at k) ≡ true →
      init_declr_with inner x.before kind room s (declr_text all x.declr
      (label_text all x.label (attrs_text all x.attrs (some_init_text all x.init k)))) ≡ done (found x s' k)
  unfolding init_declr_with
  init_declr_read kind room less x s s' k fit named low ended =
      let b = behind_ok (declr_scopes (Some kind) x.declr s) (λ t. some_init_scopes x.init (release kind t)) s' named in
      bind_is _ (named_declr_complete all n inner laws (Some kind) (room - 1) (part_less (attrs_height x.before)
      (declr_height x.declr) (label_height x.label) (attrs_height x.attrs) (some_init_height x.init) room n less low)
      x.declr s b.0 (label_text all x.label (attrs_text all x.attrs (some_init_text all x.init k)))
      (fit.1, fit.2, fit.6) b.1 (declr_low (attrs_height x.before) (declr_height x.declr) (label_height x.label)
      (attrs_height x.attrs) (some_init_height x.init) room low) (label_no_suffix x.label x.attrs x.init k ended))
      (declr_behind_read room less x (release kind b.0) s' k fit.3 fit.4 fit.5 b.2 (attrs_low (attrs_height x.before)
      (declr_height x.declr) (label_height x.label) (attrs_height x.attrs) (some_init_height x.init) room low)
      (init_low (attrs_height x.before) (declr_height x.declr) (label_height x.label) (attrs_height x.attrs)
      (some_init_height x.init) room low) ended)

  next_declr_read : (kind : Kind) (room : ℕ) → room ≤ n
      → (token : ℕ) (x : DeclrItem) (s s' : HeldScopes) (k : List Lexeme) → (declr_item_form all kind).Fits x
      → (declr_item_form all kind).scopes x s ≡ Some s' →
      (declr_item_form all kind).height x ≤ room → ends_init_declr (kind_at k) ≡ true →
      next_init_declr inner kind room token s ((declr_item_form all kind).text x k) ≡ done (found (one_more x) s' k)
  unfolding next_init_declr
  next_declr_read kind room less token x s s' k fit named low ended =
      let more = label_text all x.label (attrs_text all x.attrs (some_init_text all x.init k)) in
      bind_is _ (tokens.attrs_complete room x.before s s (declr_text all x.declr more) fit.0 refl
      (attrs_asks x.before room (before_low (attrs_height x.before) (declr_height x.declr) (label_height x.label)
      (attrs_height x.attrs) (some_init_height x.init) room low))
      (not_false
      (named_no_attribute (kind_at (declr_text all x.declr more)) (firsts.named_begins x.declr more fit.1 fit.2))))
      (bind_is _ (init_declr_read kind room less x s s' k fit named low ended) refl)

  -- more declarators and the end, behind a first, whatever read it
  pub declrs_read : (exts : List ℕ) (words : SpecWords) (kind : Kind) (room : ℕ) → room ≤ n
      → (first : Reader DeclrItem) (x : DeclrItem) (ds : InitDeclrs) (semi : ℕ) (s₁ s t : HeldScopes)
      (ts₁ k : List Lexeme) →
      first s₁ ts₁ ≡ done (found x s (other_init_declrs_text all ds (sign_text puncts.Semicolon semi k)))
      → AreInitDeclrs all ds → init_declrs_scopes kind ds s ≡ Some t → init_declrs_height ds ≤ room - 1 →
      declrs_with inner exts words kind room first s₁ ts₁
      ≡ done (found (declaration exts words (more_init_declrs x.before x.declr x.label x.attrs x.init ds) semi) t k)
  unfolding declrs_with
  declrs_read exts words kind room less first x ds semi s₁ s t ts₁ k is fit named low =
      let end = sign_text puncts.Semicolon semi k in
      let same : other_init_declrs_text all ds end
      ≡ others_text (declr_item_form all kind) no_ending (declrs_items ds) end =
      ap (λ (ds : InitDeclrs). other_init_declrs_text all ds end) (sym (declrs_back ds))
      ∙ sym (others_are all kind (declrs_items ds) end) in
      bind_is _ (listed_goes_on first (next_init_declr inner kind (room - 1)) (declr_item_form all kind) no_ending
      (λ x. ends_init_declr) (room - 1) (next_declr_falls all tokens n inner laws kind (room - 1))
      (next_declr_read kind (room - 1) (one_less room n less)) (λ x. refl) x (declrs_items ds) None s₁ s t ts₁ end
      (is ∙ ap (λ (ts : List Lexeme). done (found x s ts)) same) (declrs_fit_back all kind ds fit)
      (declrs_named all kind (declrs_items ds) s
      ∙ ap (λ (ds : InitDeclrs). init_declrs_scopes kind ds s) (declrs_back ds) ∙ named)
      (subst (λ (h : ℕ). h ≤ room - 1)
      (sym (declrs_high all kind (declrs_items ds) ∙ ap init_declrs_height (declrs_back ds))) low) (refl, λ x. refl))
      (bind_is _ refl (ap (λ (ds : InitDeclrs). done (found (declaration exts words
      (more_init_declrs x.before x.declr x.label x.attrs x.init ds) semi) t k)) (declrs_back ds)))

  pub bare_read : (exts : List ℕ) (words : SpecWords) (room : ℕ) (s : HeldScopes) (semi : ℕ) (k : List Lexeme)
      → 1 + specs_height words ≤ room →
      bare_declaration inner exts words room s (sign_text puncts.Semicolon semi k)
      ≡ done (found (declaration exts words no_init_declrs semi) s k)
  unfolding bare_declaration
  bare_read exts words room s semi k low =
      fits_is (1 + specs_height words) room (sign_text puncts.Semicolon semi k) _ low ∙ bind_is _ refl refl

  pub others_end : (ds : InitDeclrs) (semi : ℕ) (k : List Lexeme)
      → ends_init_declr (kind_at (other_init_declrs_text all ds (sign_text puncts.Semicolon semi k))) ≡ true
  others_end no_init_declrs semi k = refl
  others_end (more_init_declrs attrs d l attrs2 i ds) semi k = refl

  -- the one name behind words with `__auto_type`
  auto_name_read : (name room : ℕ) (s t : HeldScopes) (token : ℕ) (k : List Lexeme) → 1 ≤ room
      → at_name (Some Value) name s ≡ Some t
      → auto_name inner (Some name) room s (name_text name token k) ≡ done (found (declr_name token name) t k)
  auto_name_read name room s t token k low named =
      bind_is _ (ap (λ (o : Option HeldScopes). name_held name room o s (name_text name token k)) named
      ∙ fits_is 1 room (name_text name token k) _ low ∙ bind_is _ refl refl) refl

  auto_room : (w d a h room : ℕ) → 1 ≤ d → max w (max (max 0 (max d (max 0 (max a h))) + 1) 0) + 1 ≤ room → 1 ≤ room - 2
  auto_room w d a h room q p = omega (arith, p, q)

  auto_attrs : (w d a h room : ℕ) → max w (max (max 0 (max d (max 0 (max a h))) + 1) 0) + 1 ≤ room → a ≤ room - 1 - 1
  auto_attrs w d a h room p = omega (arith, p)

  auto_value : (w d a h room : ℕ) → max w (max (max 0 (max d (max 0 (max a h))) + 1) 0) + 1 ≤ room → h ≤ room - 1 - 1
  auto_value w d a h room p = omega (arith, p)

  auto_less : (w d a h room n : ℕ) → room ≤ n → max w (max (max 0 (max d (max 0 (max a h))) + 1) 0) + 1 ≤ room
      → room - 1 - 1 < n
  auto_less w d a h room n q p = omega (arith, p, q)

  -- with what stands in the place of the name: a name, or a base word
  auto_read : (exts : List ℕ) (words : SpecWords) (room : ℕ) → room ≤ n → (d : Declr) → 1 ≤ declr_height d
      → (attrs : List Attr) (equal : ℕ) (e : Expr) (semi : ℕ) (s s' : HeldScopes) (k : List Lexeme) →
      ((t : HeldScopes) (k : List Lexeme) → 1 ≤ room - 2
      → (if is_base d then Some s else declr_scopes (Some Value) d s) ≡ Some t →
      auto_declarator inner (has_typedef_word (storage_words words)) (room - 2) s (declr_text all d k)
      ≡ done (found d t k)) → AreAttrs all attrs → IsExpr all e × (1 ≤ expr_level e) →
      auto_declrs_scopes
      (more_init_declrs [] d None attrs (some_init equal (init_value e)) no_init_declrs) s ≡ Some s' →
      max (specs_height words) (init_declrs_height
      (more_init_declrs [] d None attrs (some_init equal (init_value e)) no_init_declrs)) + 1 ≤ room →
      auto_behind inner exts words room s (declr_text all d
      (attrs_text all attrs (sign_text puncts.Equal equal (expr_text all e (sign_text puncts.Semicolon semi k))))) ≡
      done (found (declaration exts words
      (more_init_declrs [] d None attrs (some_init equal (init_value e)) no_init_declrs) semi) s' k)
  unfolding auto_behind auto_declr
  auto_read exts words room less d one attrs equal e semi s s' k read attrs_fit fit named low =
      let ds = more_init_declrs [] d None attrs (some_init equal (init_value e)) no_init_declrs in
      let held = if is_base d then Some s else declr_scopes (Some Value) d s in
      let a = behind_ok (behind (behind held (expr_scopes e)) (λ t. Some (release Value t)))
      (auto_declrs_scopes no_init_declrs) s' named in
      let b = behind_ok (behind held (expr_scopes e)) (λ t. Some (release Value t)) a.0 a.1 in
      let c = behind_ok held (expr_scopes e) b.0 b.1 in
      let w = specs_height words in
      let dh = declr_height d in
      let ah = attrs_height attrs in
      let h = expr_height e in
      let end = sign_text puncts.Semicolon semi k in
      let more = sign_text puncts.Equal equal (expr_text all e end) in
      let last : release Value b.0 ≡ s' = same_Some (release Value b.0) a.0 b.2 ∙ same_Some a.0 s' a.2 in
      bind_is _ (read c.0 (attrs_text all attrs more) (auto_room w dh ah h room one low) c.1)
      (bind_is _ (tokens.attrs_complete (room - 1) attrs c.0 c.0 more attrs_fit refl
      (attrs_asks attrs (room - 1) (auto_attrs w dh ah h room low)) refl)
      (bind_is _ refl (bind_is _ (laws.exprs.complete Assigned (room - 1 - 1)
      (auto_less w dh ah h room n less low) e c.0 b.0 end fit c.2 (auto_value w dh ah h room low) refl)
      (bind_is _ refl (ap (λ (t : HeldScopes). done (found (declaration exts words ds semi) t k)) last)))))

  -- a base word is taken as it stands
  auto_base_read : (room : ℕ) (s t : HeldScopes) (token : ℕ) (k : List Lexeme) → 1 ≤ room → Some s ≡ Some t
      → auto_declarator inner true room s (keyword_text keywords.BaseWord token k) ≡ done (found (base_name token) t k)
  auto_base_read room s t token k low same =
      fits_is 1 room (keyword_text keywords.BaseWord token k) _ low
      ∙ bind_is _ refl (ap (λ (s : HeldScopes). done (found (base_name token) s k)) (same_state s t same))
    where
      same_state : (s t : HeldScopes) → Some s ≡ Some t → s ≡ t
      same_state s t e = cc

  -- what stands behind words without `__auto_type`
  plain_read : (exts : List ℕ) (words : SpecWords) (room : ℕ) → room ≤ n
      → (ds : InitDeclrs) (semi : ℕ) (s s' : HeldScopes) (k : List Lexeme) → IsInitStart ds → AreInitDeclrs all ds →
      init_declrs_scopes (declared_kind words) ds s ≡ Some s'
      → max (specs_height words) (init_declrs_height ds) + 1 ≤ room →
      (if is_semicolon (kind_at (init_declrs_text all ds (sign_text puncts.Semicolon semi k)))
      then bare_declaration inner exts words room s (init_declrs_text all ds (sign_text puncts.Semicolon semi k))
      else declrs_with inner exts words (declared_kind words) room (init_declr_with inner [] (declared_kind words)
      (room - 1)) s (init_declrs_text all ds (sign_text puncts.Semicolon semi k))) ≡
      done (found (declaration exts words ds semi) s' k)
  plain_read exts words room less no_init_declrs semi s s' k start fit named low =
      bare_read exts words room s semi k (bare_asks (specs_height words) room low)
      ∙ ap (λ (o : Option HeldScopes). done (found (declaration exts words no_init_declrs semi) (from o) k)) named
    where
      from : Option HeldScopes → HeldScopes
      from None = s
      from (Some t) = t
  plain_read exts words room less (more_init_declrs (a ∷ attrs) d l attrs2 i ds) semi s s' k start fit named low =
      absurd cc
  plain_read exts words room less (more_init_declrs [] d l attrs2 i ds) semi s s' k start fit named low =
      let kind = declared_kind words in
      let end = other_init_declrs_text all ds (sign_text puncts.Semicolon semi k) in
      let more = label_text all l (attrs_text all attrs2 (some_init_text all i end)) in
      let x : DeclrItem = record { before = []; declr = d; label = l; attrs = attrs2; init = i } in
      let b = behind_ok ((declr_item_form all kind).scopes x s) (init_declrs_scopes kind ds) s' named in
      rw (named_no_semicolon (kind_at (declr_text all d more)) (firsts.named_begins d more fit.1 fit.2))
      (declrs_read exts words kind room less (init_declr_with inner [] kind (room - 1)) x ds semi s b.0 s'
      (declr_text all d more) k (init_declr_read kind (room - 1) (one_less room n less) x s b.0 end
      (fit.0, fit.1, fit.2, fit.3, fit.4, fit.5, fit.7) b.1 (first_low (specs_height words)
      ((declr_item_form all kind).height x) (init_declrs_height ds) room low) (others_end ds semi k)) fit.6 b.2
      (rest_low (specs_height words) ((declr_item_form all kind).height x) (init_declrs_height ds) room low))

  -- what stands behind the words
  pub behind_read : (exts : List ℕ) (words : SpecWords) (room : ℕ) → room ≤ n
      → (ds : InitDeclrs) (semi : ℕ) (s s' : HeldScopes) (k : List Lexeme) → IsInitStart ds → AreInitDeclrs all ds
      → IsAutoWhere (has_auto words) words ds →
      words_declrs_scopes words ds s ≡ Some s' → max (specs_height words) (init_declrs_height ds) + 1 ≤ room →
      declaration_behind inner exts words room s (init_declrs_text all ds (sign_text puncts.Semicolon semi k))
      ≡ done (found (declaration exts words ds semi) s' k)
  unfolding declaration_behind
  behind_read exts words room less ds semi s s' k start fit auto named low = by_auto (has_auto words) auto named
    where
      auto_declr_read : (ds : InitDeclrs) → IsAutoDeclr words ds → AreInitDeclrs all ds → IsInitStart ds
          → auto_declrs_scopes ds s ≡ Some s' → max (specs_height words) (init_declrs_height ds) + 1 ≤ room →
          auto_behind inner exts words room s (init_declrs_text all ds (sign_text puncts.Semicolon semi k))
          ≡ done (found (declaration exts words ds semi) s' k)
      auto_declr_read (more_init_declrs [] (declr_name token name) None attrs2
          (some_init equal (init_value e)) no_init_declrs) auto fit start named low =
          auto_read exts words room less (declr_name token name) (omega arith) attrs2 equal e semi s s' k
          (λ t k one held. rw (bare_words (storage_words words) auto)
          (auto_name_read name (room - 2) s t token k one held)) fit.4 fit.5 named low
      auto_declr_read (more_init_declrs [] (base_name token) None attrs2
          (some_init equal (init_value e)) no_init_declrs) auto fit start named low =
          auto_read exts words room less (base_name token) (omega arith) attrs2 equal e semi s s' k
          (λ t k one held. rw (typedef_among (storage_words words) auto)
          (auto_base_read (room - 2) s t token k one held)) fit.4 fit.5 named low
      auto_declr_read (more_init_declrs (a ∷ attrs) (declr_name token name) None attrs2
          (some_init equal (init_value e)) no_init_declrs) auto fit start named low =
          absurd cc
      auto_declr_read (more_init_declrs (a ∷ attrs) (base_name token) None attrs2
          (some_init equal (init_value e)) no_init_declrs) auto fit start named low =
          absurd cc
      auto_declr_read ds auto fit start named low = absurd auto

      by_auto : (b : Bool) → IsAutoWhere b words ds
          → (if b then auto_declrs_scopes ds else init_declrs_scopes (declared_kind words) ds) s ≡ Some s' →
          (if b then auto_behind inner exts words room s (init_declrs_text all ds (sign_text puncts.Semicolon semi k))
          else if is_semicolon (kind_at (init_declrs_text all ds (sign_text puncts.Semicolon semi k)))
          then bare_declaration inner exts words room s (init_declrs_text all ds (sign_text puncts.Semicolon semi k))
          else declrs_with inner exts words (declared_kind words) room (init_declr_with inner [] (declared_kind words)
          (room - 1)) s (init_declrs_text all ds (sign_text puncts.Semicolon semi k))) ≡
          done (found (declaration exts words ds semi) s' k)
      by_auto true auto named = auto_declr_read ds auto fit start named low
      by_auto false auto named = plain_read exts words room less ds semi s s' k start fit named low

  -- a declaration, behind `__extension__`
  pub declaration_read : (whole_are : WholeAreMixes) (exts : List ℕ) (room : ℕ) → room ≤ n
      → (words : SpecWords) (ds : InitDeclrs) (semi : ℕ) (s s' : HeldScopes) (k : List Lexeme) → IsMix words
      → AreSpecWords all words → IsInitStart ds →
      AreInitDeclrs all ds → IsAutoWhere (has_auto words) words ds → IsBaseStart words ds
      → behind (spec_words_scopes words s) (words_declrs_scopes words ds) ≡ Some s'
      → max (specs_height words) (init_declrs_height ds) + 1 ≤ room →
      declaration_with inner exts room s
      (spec_words_text all words (init_declrs_text all ds (sign_text puncts.Semicolon semi k)))
      ≡ done (found (declaration exts words ds semi) s' k)
  unfolding declaration_with
  declaration_read whole_are exts room less words ds semi s s' k mix fit start declrs_fit auto base named low =
      let b = behind_ok (spec_words_scopes words s) (words_declrs_scopes words ds) s' named in
      bind_is _ (specs_here_ended all n inner laws firsts Declaring room less words s b.0
      (init_declrs_text all ds (sign_text puncts.Semicolon semi k)) mix fit b.1
      (words_low (specs_height words) (init_declrs_height ds) room low)
      (declrs_end all whole_are firsts words ds semi b.0 s' k mix start declrs_fit auto base b.2))
      (behind_read exts words room less ds semi b.0 s' k start declrs_fit auto b.2 low)

  -- the same behind words that were read already
  pub declaration_from_read : (whole_are : WholeAreMixes) (known rest : SpecWords) (room : ℕ) → room ≤ n
      → (ds : InitDeclrs) (semi : ℕ) (s t s' : HeldScopes) (k : List Lexeme) → IsMix (append_words known rest)
      → AreSpecWords all rest →
      IsInitStart ds → AreInitDeclrs all ds
      → IsAutoWhere (has_auto (append_words known rest)) (append_words known rest) ds
      → IsBaseStart (append_words known rest) ds → spec_words_scopes rest s ≡ Some t →
      words_declrs_scopes (append_words known rest) ds t ≡ Some s'
      → max (specs_height (append_words known rest)) (init_declrs_height ds) + 1 ≤ room →
      declaration_from inner known room s
      (spec_words_text all rest (init_declrs_text all ds (sign_text puncts.Semicolon semi k)))
      ≡ done (found (declaration [] (append_words known rest) ds semi) s' k)
  unfolding declaration_from
  declaration_from_read whole_are known rest room less ds semi s t s' k mix fit start declrs_fit auto base words_named
      named low =
      bind_is _ (laws.words.complete Declaring known rest (room - 1)
      (words_less (specs_height (append_words known rest)) (init_declrs_height ds) room n less low) s t
      (init_declrs_text all ds (sign_text puncts.Semicolon semi k)) mix fit words_named
      (inr (words_inside (specs_height (append_words known rest)) (init_declrs_height ds) room low))
      (declrs_end all whole_are firsts (append_words known rest) ds semi t s' k mix start declrs_fit auto base named))
      (behind_read [] (append_words known rest) room less ds semi t s' k start declrs_fit auto named low)
