-- Blocks and statements are read from their text.
use Rattle.std.proofs.Common.{◌≡◌, ℕ, ◌<◌, ◌≤◌, Bool, true, false, if◌then◌else◌, List, [], ◌∷◌, ◌++◌, length, Option, Some, None, inl, inr, refl, sym, ◌∙◌, ap, subst, arith, append_assoc}
use Rattle.std.specs.Prelude.{◌+◌, ◌-◌, max, not, ◌⊎◌}
use Rattle.std.proofs.lemmas.List.Elements.{All-cons}
use Rattle.std.proofs.lemmas.List.{append-nil}
use Rattle.std.proofs.lemmas.Option.{same_Some}
use Rattle.c_words.specs.declared.kinds.TokenKind.{TokenKind}
use Rattle.c_words.specs.declared.kinds.TokenKind.TheVariants as kinds
use Rattle.c_words.specs.declared.kinds.Punct.TheVariants as puncts
use Rattle.c_words.specs.declared.kinds.Keyword.{Keyword}
use Rattle.c_words.specs.declared.kinds.Keyword.TheVariants as keywords
use Rattle.c_tree.specs.declared.lexeme.Lexeme.{Lexeme}
use Rattle.c_syntax.specs.declared.parts.Attr.{Attr}
use Rattle.c_syntax.specs.declared.parts.Qual.TheVariants as quals
use Rattle.c_syntax.specs.declared.specifier.TypedefName.{TypedefName}
use Rattle.c_tree.specs.Tree.{Expr, no_expr, some_expr, SpecWords, no_words, more_words, SpecWord, qualifier, typedef_name, attribute, typeof_type, InitDeclrs, no_init_declrs, more_init_declrs, block_labels, case_range, goto_value, declaration, decl_declaration, decl_assert, BlockItems, BlockItem, block_decl, block_stmt, block, expr_stmt, attr_stmt, label, case_stmt, default_stmt, if_stmt, switch_stmt, while_stmt, do_stmt, for_stmt, goto_stmt, continue_stmt, break_stmt, return_stmt, asm_stmt}
use Rattle.c_tree.specs.Text.{sign_text, attrs_text, label_text, some_init_text, extensions_text, expr_text, spec_word_text, spec_words_text, declr_text, init_declrs_text, other_init_declrs_text, block_items_text, block_item_text, stmt_text}
use Rattle.c_tree.specs.Height.{attrs_height, expr_height, specs_height, init_declrs_height, some_expr_height, block_height, block_item_height, stmt_height, some_else_height, for_start_height}
use Rattle.c_tree.specs.Groups.{IsGroup}
use Rattle.c_tree.specs.Specifiers.{IsMix}
use Rattle.c_tree.specs.WellFormed.{AreAttrs, AreSpecWords, IsExpr, IsInitStart, AreInitDeclrs, IsAutoWhere, IsBaseStart, has_auto, AreBlockItems, AreLabelsFirst, is_labels, IsBlockItem}
use Rattle.c_specs.specs.Reading.{append_words}
use Rattle.c_specs.specs.Laws.{MixesGoOn, WholeAreMixes}
use Rattle.c_units.specs.HeldScopes.{HeldScopes, names_type, enter}
use Rattle.c_units.specs.Scoping.{behind, in_own_scope, where_true, declared_kind, expr_scopes, spec_word_scopes, spec_words_scopes, init_declrs_scopes, block_items_scopes, block_item_scopes, stmt_scopes, some_expr_scopes, some_else_scopes, for_start_scopes}
use Rattle.c_reading.specs.declared.kinds.SpecStart.{SpecStart}
use Rattle.c_reading.specs.declared.kinds.SpecStart.TheVariants as spec_starts
use Rattle.c_reading.specs.declared.kinds.StmtStart.{StmtStart}
use Rattle.c_reading.specs.declared.kinds.StmtStart.TheVariants as starts
use Rattle.c_reading.specs.Reading.{and_then, ends, kind_at, run, repeated, repeated_turn, IsNumbered}
use Rattle.c_reading.specs.Tokens.{is_label_word, is_close_brace, is_colon, is_else, is_extension, is_attribute, spelled_name}
use Rattle.c_reading.specs.Parts.{Inner, nothing, extensions, block_items_from}
use Rattle.c_reading.specs.Specifying.{start_at, is_start, begins_specs}
use Rattle.c_reading.specs.Declaring.{words_of_attrs}
use Rattle.c_reading.specs.Expressing.{begins_expr}
use Rattle.c_reading.specs.Stating.{labels_with, stmt_start, stmt_by, stmt_with, named_item, extended_item, attr_item_by, attr_item, other_item, block_item_with, block_body, block_with, named_stmt, if_inside, headed_inside, do_inside, for_inside}
use Rattle.c_reading.proofs.Binding.{found, done, bind_ok, bind_is, fits_is}
use Rattle.c_reading.proofs.Loops.{TurnShrinks, run_on, run_ends}
use Rattle.c_reading.proofs.Forms.{IsComplete, always, behind_ok, name_kind}
use Rattle.c_reading.proofs.Rows.{repeated_complete, AllFit, row_text, row_scopes, row_height}
use Rattle.c_reading.proofs.KindFacts.{not_true, not_false, named_no_colon, expr_no_static_assert, expr_no_attribute, expr_no_close_brace, expr_no_else, expr_no_specs, specs_no_static_assert, specs_no_extension, specs_no_semicolon, specs_no_close_brace, specs_no_else}
use Rattle.c_reading.proofs.Aims.{least_with, ends_stmt, behind_exts, block_form, block_item_form, stmt_form, TokenLaws, FirstLaws, Laws}
use Rattle.c_reading.proofs.Firsts.{former_start, start_of, starts_some, where_holds, word_starts}
use Rattle.c_reading.proofs.ExprFalls.{left_is, some_is}
use Rattle.c_reading.proofs.DeclLists.{block_some}
use Rattle.c_reading.proofs.DeclComplete.{declaration_read, declaration_from_read}
use Rattle.c_reading.proofs.BaseWords.{words_declrs_scopes}
use Rattle.c_reading.proofs.LabelLists.{labels_form, plain_form, parted, Parted, items_text, scopes_parted, labels_low, others_low, labels_complete}
use Rattle.c_reading.proofs.StmtFalls.{labels_shrinks, block_item_shrinks}
use Rattle.c_reading.proofs.StmtKinds.{expr_starts, name_no_colon, lead_exts, IsLead, lead_of, lead_attrs, lead_words, lead_is, lead_words_text, lead_words_fit, lead_words_named, attrs_no_mix, word_no_colon}
use Rattle.c_reading.proofs.StmtCompleteForms.{range_read, goto_value_read, not_else, own_ok, in_own_read, stmt_high, attr_asks, expr_stmt_read, label_read, case_read, default_read, if_read, headed_read, do_read, for_read, goto_read, jump_read, return_read, asm_read, attr_stmt_read}
use Rattle.c_reading.proofs.SpecsCompleteBodies.{expr_high}
use Rattle.c_reading.proofs.DeclrSoundParams.{specs_high}

-- what a word begins with, that is no attribute, and no name besides
abbrev not_attr : SpecStart → Bool
not_attr spec_starts.Nothing = false
not_attr spec_starts.Attribute = false
not_attr start = true

-- whether a word of specifiers begins, and is neither an attribute nor a name
abbrev is_plain : SpecStart → Bool
is_plain spec_starts.Nothing = false
is_plain spec_starts.Attribute = false
is_plain (spec_starts.Name name) = false
is_plain start = true

-- a word's first token that is plain is no attribute
plain_not_attr : (start : SpecStart) → is_plain start ≡ true → not_attr start ≡ true
plain_not_attr spec_starts.Nothing e = absurd cc
plain_not_attr spec_starts.Attribute e = absurd cc
plain_not_attr start e = refl

start_no_attr : (s : HeldScopes) (kind : TokenKind) → not_attr (start_at s false kind) ≡ true
    → is_attribute kind ≡ false
start_no_attr s (kinds.Keyword keywords.Attribute) e = absurd cc
start_no_attr s kind e = refl

-- a token that begins a plain word spells no name
start_no_name : (s : HeldScopes) (kind : TokenKind) → is_plain (start_at s false kind) ≡ true → spelled_name kind ≡ None
start_no_name s (kinds.Name name) e = by_kind (names_type s name) refl
  where
    by_kind : (b : Bool) → names_type s name ≡ b → spelled_name (kinds.Name name) ≡ None
    by_kind true is = absurd (not_plain (rw is refl) e)
      where
        not_plain : {b : Bool} → b ≡ false → b ≡ true → ⊥
        not_plain p q = absurd cc
    by_kind false is = absurd (not_plain (rw is refl) e)
      where
        not_plain : {b : Bool} → b ≡ false → b ≡ true → ⊥
        not_plain p q = absurd cc
start_no_name s kind e = refl

former_no_attr : (keyword : Keyword) → not_attr (former_start keyword) ≡ true
former_no_attr keywords.AtomicType = refl
former_no_attr keyword = refl

former_plain : (keyword : Keyword) → is_plain (former_start keyword) ≡ true
former_plain keywords.AtomicType = refl
former_plain keyword = refl

-- the first of words behind attributes
abbrev no_attr_first : SpecWords → Bool
no_attr_first no_words = true
no_attr_first (more_words w ws) = not_attr (start_of w)

-- behind the attributes that words begin with no attribute comes first
lead_first : (ws : SpecWords) → no_attr_first (lead_words ws) ≡ true
lead_first no_words = refl
lead_first (more_words (attribute a) ws) = lead_first ws
lead_first (more_words (qualifier (quals.Word w)) ws) = refl
lead_first (more_words (qualifier (quals.Element token)) ws) = refl
lead_first (more_words (qualifier (quals.Index token)) ws) = refl
lead_first (more_words (typeof_type w opening us d closing) ws) = former_no_attr w.keyword
lead_first (more_words w ws) = refl

lead_attrs_fit : (all : List Lexeme) (ws : SpecWords) → AreSpecWords all ws → AreAttrs all (lead_attrs ws)
lead_attrs_fit all (more_words (attribute a) ws) h =
    All-cons (λ (a : Attr). IsGroup all a.group) a (lead_attrs ws) h.0 (lead_attrs_fit all ws h.1)
lead_attrs_fit all ws h = λ k d h. absurd (omega (arith, h))

attrs_alone : (attrs : List Attr) → append_words (words_of_attrs attrs) no_words ≡ words_of_attrs attrs
attrs_alone [] = refl
attrs_alone (a ∷ attrs) = ap (more_words (attribute a)) (attrs_alone attrs)

attrs_two : (attrs : List Attr) (rest : SpecWords) (d room : ℕ)
    → max (specs_height (append_words (words_of_attrs attrs) rest)) d + 1 ≤ room → least_with attrs ≤ room
attrs_two [] rest d room h = omega arith
attrs_two (a ∷ attrs) rest d room h = omega (arith, h)

exts_two : (h k room : ℕ) → 1 ≤ h → max h k + 1 ≤ room → 2 ≤ room
exts_two h k room a b = omega (arith, a, b)

typedef_two : (h k room : ℕ) → max (max (1 + 1) h) k + 1 ≤ room → 2 ≤ room
typedef_two h k room a = omega (arith, a)

asks_two : (h room : ℕ) → 1 ≤ h → h + 1 ≤ room → 2 ≤ room
asks_two h room a b = omega (arith, a, b)

asks_right : (h k room : ℕ) → 1 ≤ k → max h k + 1 ≤ room → 2 ≤ room
asks_right h k room a b = omega (arith, a, b)

expr_two : (h room : ℕ) → 2 ≤ h → h + 1 ≤ room → 2 ≤ room
expr_two h room a b = omega (arith, a, b)

within : (room n : ℕ) → room < n → room ≤ n
within room n a = omega (arith, a)

true_same : (b : Bool) (s t : HeldScopes) → where_true b s ≡ Some t → s ≡ t
true_same true s t e = cc
true_same false s t e = absurd cc

specs_no_label_word : (s : HeldScopes) (kind : TokenKind) → begins_specs s kind ≡ true → is_label_word kind ≡ false
specs_no_label_word s (kinds.Keyword keywords.LabelWord) e = absurd cc
specs_no_label_word s kind e = refl

expr_no_label_word : (s : HeldScopes) (kind : TokenKind) → begins_expr s kind ≡ true → is_label_word kind ≡ false
expr_no_label_word s (kinds.Keyword keywords.LabelWord) e = absurd cc
expr_no_label_word s kind e = refl

module _ (all : List Lexeme) (numbered : IsNumbered all) (tokens : TokenLaws all) (goes : MixesGoOn)
    (firsts : FirstLaws all) (n : ℕ) (inner : Inner) (laws : Laws all n inner) (whole_are : WholeAreMixes) where
  -- a declaration that begins with a word that is neither an attribute nor a name
  plain_read : (room : ℕ) → room < n
      → (w : SpecWord) (ws : SpecWords) (ds : InitDeclrs) (semi : ℕ) (s s' : HeldScopes) (k : List Lexeme)
      → is_plain (start_of w) ≡ true → IsMix (more_words w ws) → AreSpecWords all (more_words w ws) →
      IsInitStart ds → AreInitDeclrs all ds → IsAutoWhere (has_auto (more_words w ws)) (more_words w ws) ds
      → IsBaseStart (more_words w ws) ds
      → behind (spec_words_scopes (more_words w ws) s) (words_declrs_scopes (more_words w ws) ds) ≡ Some s'
      → max (specs_height (more_words w ws)) (init_declrs_height ds) + 1 ≤ room →
      block_item_with inner room s
      (spec_words_text all (more_words w ws) (init_declrs_text all ds (sign_text puncts.Semicolon semi k)))
      ≡ done (found (block_decl (decl_declaration (declaration [] (more_words w ws) ds semi))) s' k)
  unfolding block_item_with other_item
  plain_read room less w ws ds semi s s' k plain mix fit start declrs_fit auto base named low =
      let b = behind_ok (spec_words_scopes (more_words w ws) s) (words_declrs_scopes (more_words w ws) ds) s' named in
      let c = behind_ok (spec_word_scopes w s) (spec_words_scopes ws) b.0 b.1 in
      let end = init_declrs_text all ds (sign_text puncts.Semicolon semi k) in
      let kind = kind_at (spec_word_text all w (spec_words_text all ws end)) in
      let is : start_at s false kind ≡ start_of w = word_starts all numbered goes s c.0 false no_words w
      (spec_words_text all ws end) fit.0 c.1 (goes no_words w ws mix) (λ is. refl) in
      let begun : begins_specs s kind ≡ true = firsts.words_begin (more_words w ws) s b.0 end mix fit b.1 in
      let no_name : spelled_name kind ≡ None = start_no_name s kind (ap is_plain is ∙ plain) in
      let no_attr : is_attribute kind ≡ false =
      start_no_attr s kind (ap not_attr is ∙ plain_not_attr (start_of w) plain) in
      rw (specs_no_static_assert s kind begun, specs_no_extension s kind begun, no_attr, no_name, begun)
      (bind_is _ (declaration_read all numbered tokens firsts n inner laws whole_are [] room (within room n less)
      (more_words w ws) ds semi s s' k mix fit start declrs_fit auto base named low) refl)

  -- one that begins with attributes
  attr_read : (room : ℕ) → room < n
      → (attrs : List Attr) (rest : SpecWords) (ds : InitDeclrs) (semi : ℕ) (s t s' : HeldScopes) (k : List Lexeme)
      → no_attr_first rest ≡ true → IsMix (append_words (words_of_attrs attrs) rest) →
      AreAttrs all attrs → AreSpecWords all rest → IsInitStart ds → AreInitDeclrs all ds
      → IsAutoWhere (has_auto (append_words (words_of_attrs attrs) rest)) (append_words (words_of_attrs attrs) rest) ds
      → IsBaseStart (append_words (words_of_attrs attrs) rest) ds → spec_words_scopes rest s ≡ Some t
      → words_declrs_scopes (append_words (words_of_attrs attrs) rest) ds t ≡ Some s' →
      max (specs_height (append_words (words_of_attrs attrs) rest)) (init_declrs_height ds) + 1 ≤ room →
      attr_item inner room s
      (attrs_text all attrs (spec_words_text all rest (init_declrs_text all ds (sign_text puncts.Semicolon semi k)))) ≡
      done
      (found (block_decl (decl_declaration (declaration [] (append_words (words_of_attrs attrs) rest) ds semi))) s' k)
  unfolding attr_item attr_item_by
  attr_read room less attrs no_words ds semi s t s' k first mix attrs_fit fit start declrs_fit auto base words_named
      named low =
      absurd (attrs_no_mix attrs (subst IsMix (attrs_alone attrs) mix))
  attr_read room less attrs
      (more_words w ws) ds semi s t s' k first mix attrs_fit fit start declrs_fit auto base words_named named low =
      let c = behind_ok (spec_word_scopes w s) (spec_words_scopes ws) t words_named in
      let end = init_declrs_text all ds (sign_text puncts.Semicolon semi k) in
      let kind = kind_at (spec_word_text all w (spec_words_text all ws end)) in
      let is : start_at s false kind ≡ start_of w = word_starts all numbered goes s c.0 false (words_of_attrs attrs) w
      (spec_words_text all ws end) fit.0 c.1 (goes (words_of_attrs attrs) w ws mix) (λ is. refl) in
      let begun : begins_specs s kind ≡ true = ap is_start is ∙ starts_some w in
      let no_attr : is_attribute kind ≡ false = start_no_attr s kind (ap not_attr is ∙ first) in
      bind_is _ (tokens.attrs_complete room attrs s s (spec_words_text all (more_words w ws) end) attrs_fit refl
      (attrs_two attrs (more_words w ws) (init_declrs_height ds) room low) (not_false no_attr))
      (rw (specs_no_semicolon s kind begun, begun)
      (bind_is _ (declaration_from_read all numbered tokens firsts n inner laws whole_are (words_of_attrs attrs)
      (more_words w ws) room
      (within room n less) ds semi s t s' k mix fit start declrs_fit auto base words_named named low) refl))

  -- behind a typedef name that words begin with stands no colon
  words_no_colon : (ws : SpecWords) (ds : InitDeclrs) (semi : ℕ) (k : List Lexeme) → AreSpecWords all ws
      → IsInitStart ds → AreInitDeclrs all ds →
      is_colon (kind_at (spec_words_text all ws (init_declrs_text all ds (sign_text puncts.Semicolon semi k)))) ≡ false
  words_no_colon (more_words w ws) ds semi k fit start declrs_fit =
      word_no_colon all numbered w
      (spec_words_text all ws (init_declrs_text all ds (sign_text puncts.Semicolon semi k))) fit.0
  words_no_colon no_words no_init_declrs semi k fit start declrs_fit = refl
  words_no_colon no_words (more_init_declrs (a ∷ attrs) d l attrs2 i ds) semi k fit start declrs_fit = absurd cc
  words_no_colon no_words (more_init_declrs [] d l attrs2 i ds) semi k fit start declrs_fit =
      let more = label_text all l (attrs_text all attrs2
      (some_init_text all i (other_init_declrs_text all ds (sign_text puncts.Semicolon semi k)))) in
      named_no_colon (kind_at (declr_text all d more)) (firsts.named_begins d more declrs_fit.1 declrs_fit.2)

  -- one that begins with a typedef name
  typedef_read : (room : ℕ) → room < n
      → (name : TypedefName) (ws : SpecWords) (ds : InitDeclrs) (semi : ℕ) (s s' : HeldScopes) (k : List Lexeme)
      → IsMix (more_words (typedef_name name) ws) → AreSpecWords all (more_words (typedef_name name) ws) →
      IsInitStart ds → AreInitDeclrs all ds
      → IsAutoWhere (has_auto (more_words (typedef_name name) ws)) (more_words (typedef_name name) ws) ds
      → IsBaseStart (more_words (typedef_name name) ws) ds
      → behind (spec_words_scopes (more_words (typedef_name name) ws) s)
      (words_declrs_scopes (more_words (typedef_name name) ws) ds) ≡ Some s' →
      max (specs_height (more_words (typedef_name name) ws)) (init_declrs_height ds) + 1 ≤ room →
      block_item_with inner room s (spec_words_text all (more_words (typedef_name name) ws)
      (init_declrs_text all ds (sign_text puncts.Semicolon semi k))) ≡
      done (found (block_decl (decl_declaration (declaration [] (more_words (typedef_name name) ws) ds semi))) s' k)
  unfolding block_item_with other_item named_item
  typedef_read room less name ws ds semi s s' k mix fit start declrs_fit auto base named low =
      let b = behind_ok (spec_words_scopes (more_words (typedef_name name) ws) s)
      (words_declrs_scopes (more_words (typedef_name name) ws) ds) s' named in
      let c = behind_ok (where_true (names_type s name.name) s) (spec_words_scopes ws) b.0 b.1 in
      let end = init_declrs_text all ds (sign_text puncts.Semicolon semi k) in
      let rest_named : spec_words_scopes ws s ≡ Some b.0 =
      ap (spec_words_scopes ws) (true_same (names_type s name.name) s c.0 c.1) ∙ c.2 in
      fits_is 2 room (spec_words_text all (more_words (typedef_name name) ws) end) _
      (typedef_two (specs_height ws) (init_declrs_height ds) room low) ∙
      rw (words_no_colon ws ds semi k fit.1 start declrs_fit, where_holds (names_type s name.name) s c.0 c.1)
      (bind_is _ refl (bind_is _ (declaration_from_read all numbered tokens firsts n inner laws whole_are
      (more_words (typedef_name name) no_words) ws room
      (within room n less) ds semi s b.0 s' k mix fit.1 start declrs_fit auto base rest_named b.2 low) refl))

  -- a declaration, as an item of a block
  words_read : (room : ℕ) → room < n
      → (ws : SpecWords) (ds : InitDeclrs) (semi : ℕ) (s s' : HeldScopes) (k : List Lexeme) → IsMix ws
      → AreSpecWords all ws → IsInitStart ds → AreInitDeclrs all ds → IsAutoWhere (has_auto ws) ws ds
      → IsBaseStart ws ds →
      behind (spec_words_scopes ws s) (words_declrs_scopes ws ds) ≡ Some s'
      → max (specs_height ws) (init_declrs_height ds) + 1 ≤ room →
      block_item_with inner room s
      (spec_words_text all ws (init_declrs_text all ds (sign_text puncts.Semicolon semi k)))
      ≡ done (found (block_decl (decl_declaration (declaration [] ws ds semi))) s' k)
  unfolding block_item_with
  words_read room less no_words ds semi s s' k mix fit start declrs_fit auto base named low =
      absurd (attrs_no_mix [] mix)
  words_read room less (more_words (attribute a) ws) ds semi s s' k mix fit start declrs_fit auto base named low =
      let whole = more_words (attribute a) ws in
      let end = init_declrs_text all ds (sign_text puncts.Semicolon semi k) in
      let same : append_words (words_of_attrs (lead_attrs whole)) (lead_words whole) ≡ whole = lead_is whole in
      let b = behind_ok (spec_words_scopes whole s) (words_declrs_scopes whole ds) s' named in
      ap (λ (ts : List Lexeme). attr_item inner room s ts) (lead_words_text all whole end) ∙
      attr_read room less (lead_attrs whole) (lead_words whole) ds semi s b.0 s' k (lead_first whole)
      (subst IsMix (sym same) mix) (lead_attrs_fit all whole fit) (lead_words_fit all whole fit) start declrs_fit
      (subst (λ (ws : SpecWords). IsAutoWhere (has_auto ws) ws ds) (sym same) auto)
      (subst (λ (ws : SpecWords). IsBaseStart ws ds) (sym same) base)
      (lead_words_named whole s ∙ b.1) (ap (λ (ws : SpecWords). words_declrs_scopes ws ds b.0) same ∙ b.2)
      (subst (λ (ws : SpecWords). max (specs_height ws) (init_declrs_height ds) + 1 ≤ room) (sym same) low) ∙
      ap (λ (ws : SpecWords). done (found (block_decl (decl_declaration (declaration [] ws ds semi))) s' k)) same
  words_read room less (more_words (typedef_name name) ws) ds semi s s' k mix fit start declrs_fit auto base named low =
      typedef_read room less name ws ds semi s s' k mix fit start declrs_fit auto base named low
  words_read room less
      (more_words (qualifier (quals.Word w)) ws) ds semi s s' k mix fit start declrs_fit auto base named low =
      plain_read room less
      (qualifier (quals.Word w)) ws ds semi s s' k refl mix fit start declrs_fit auto base named low
  words_read room less
      (more_words (qualifier (quals.Element x)) ws) ds semi s s' k mix fit start declrs_fit auto base named low =
      plain_read room less
      (qualifier (quals.Element x)) ws ds semi s s' k refl mix fit start declrs_fit auto base named low
  words_read room less
      (more_words (qualifier (quals.Index x)) ws) ds semi s s' k mix fit start declrs_fit auto base named low =
      plain_read room less
      (qualifier (quals.Index x)) ws ds semi s s' k refl mix fit start declrs_fit auto base named low
  words_read room less
      (more_words (typeof_type w opening us d closing) ws) ds semi s s' k mix fit start declrs_fit auto base named low =
      plain_read room less (typeof_type w opening us d closing) ws ds semi s s' k
      (former_plain w.keyword) mix fit start declrs_fit auto base named low
  words_read room less (more_words w ws) ds semi s s' k mix fit start declrs_fit auto base named low =
      plain_read room less w ws ds semi s s' k refl mix fit start declrs_fit auto base named low

  -- behind `__extension__`
  extended_read : (room : ℕ) → room < n
      → (x : ℕ) (exts : List ℕ) (ws : SpecWords) (ds : InitDeclrs) (semi : ℕ) (s s' : HeldScopes) (k : List Lexeme)
      → IsMix ws → AreSpecWords all ws → IsInitStart ds → AreInitDeclrs all ds → IsAutoWhere (has_auto ws) ws ds
      → IsBaseStart ws ds →
      behind (spec_words_scopes ws s) (words_declrs_scopes ws ds) ≡ Some s'
      → max (specs_height ws) (init_declrs_height ds) + 1 ≤ room →
      block_item_with inner room s (extensions_text (x ∷ exts)
      (spec_words_text all ws (init_declrs_text all ds (sign_text puncts.Semicolon semi k))))
      ≡ done (found (block_decl (decl_declaration (declaration (x ∷ exts) ws ds semi))) s' k)
  unfolding block_item_with extended_item
  extended_read room less x exts ws ds semi s s' k mix fit start declrs_fit auto base named low =
      let b = behind_ok (spec_words_scopes ws s) (words_declrs_scopes ws ds) s' named in
      let end = init_declrs_text all ds (sign_text puncts.Semicolon semi k) in
      let rest = spec_words_text all ws end in
      let begun = firsts.words_begin ws s b.0 end mix fit b.1 in
      bind_is _ (tokens.exts_complete room (x ∷ exts) s s rest tt refl (exts_two (specs_height ws)
      (init_declrs_height ds) room (specs_high ws) low) (not_false (specs_no_extension s (kind_at rest) begun)))
      (rw begun (bind_is _ (declaration_read all numbered tokens firsts n inner laws whole_are (x ∷ exts) room
      (within room n less) ws ds semi s s' k mix fit start declrs_fit auto base named low) refl))

  -- an expression, as an item of a block
  value_read : (room : ℕ) → room < n → (e : Expr) (semi : ℕ) (s s' : HeldScopes) (k : List Lexeme) → IsExpr all e
      → expr_scopes e s ≡ Some s' → expr_height e + 1 ≤ room →
      block_item_with inner room s (expr_text all e (sign_text puncts.Semicolon semi k))
      ≡ done (found (block_stmt (expr_stmt (some_expr e) semi)) s' k)
  unfolding block_item_with extended_item other_item named_item
  value_read room less e semi s s' k fit named low = by_exts (lead_exts e) (lead_of all firsts e s s' end fit named)
    where
      end : List Lexeme
      end = sign_text puncts.Semicolon semi k

      kind : TokenKind
      kind = kind_at (expr_text all e end)

      begun : begins_expr s kind ≡ true
      begun = firsts.expr_begins e s s' end fit named

      by_name : (o : Option ℕ) → spelled_name kind ≡ o
          → other_item inner o room s (expr_text all e end)
          ≡ done (found (block_stmt (expr_stmt (some_expr e) semi)) s' k)
      by_name None is =
          rw (expr_no_specs s kind begun)
          (bind_is _ (laws.stmts.complete room less (expr_stmt (some_expr e) semi) s s' k fit named low refl) refl)
      by_name (Some name) is =
          let no_type : names_type s name ≡ false =
          not_true (subst (λ (kind : TokenKind). begins_expr s kind ≡ true) (name_kind all kind name is) begun) in
          fits_is 2 room (expr_text all e end) _ (asks_two (expr_height e) room (expr_high e) low) ∙
          rw (name_no_colon all e name end fit refl is, no_type) (bind_is _ (expr_stmt_read all numbered tokens firsts n
          inner laws whole_are nothing room (within room n less) e semi s s' k fit tt named low) refl)

      by_exts : (exts : List ℕ) → IsLead all firsts e s end exts
          → block_item_with inner room s (expr_text all e end)
          ≡ done (found (block_stmt (expr_stmt (some_expr e) semi)) s' k)
      by_exts [] l =
          let no_ext : is_extension kind ≡ false =
          ap (λ (ts : List Lexeme). is_extension (kind_at ts)) l.same ∙ l.ended in
          rw (expr_no_static_assert s kind begun, no_ext, expr_no_attribute s kind begun)
          (by_name (spelled_name kind) refl)
      by_exts (x ∷ exts) l =
          let rest = behind_exts all (x ∷ exts) e end in
          ap (λ (ts : List Lexeme). block_item_with inner room s ts) l.same ∙
          bind_is _ (tokens.exts_complete room (x ∷ exts) s s rest tt refl (expr_two (expr_height e) room l.low low)
          (not_false l.ended))
          (rw (expr_no_specs s (kind_at rest) l.begins)
          (bind_is _ (expr_stmt_read all numbered tokens firsts n inner laws whole_are (extensions (x ∷ exts)) room
          (within room n less) e semi s s' k fit l.begun named low) refl))

  pub block_item_read : (room : ℕ) → room < n → (x : BlockItem) (s s' : HeldScopes) (k : List Lexeme)
      → IsBlockItem all x → is_labels x ≡ false → block_item_scopes x s ≡ Some s' → block_item_height x ≤ room
      → is_else (kind_at k) ≡ false →
      block_item_with inner room s (block_item_text all x k) ≡ done (found x s' k)
  unfolding block_item_with attr_item attr_item_by other_item named_item
  block_item_read room less (block_decl (decl_assert it)) s s' k fit plain named low ended =
      fits_is 1 room (block_item_text all (block_decl (decl_assert it)) k) _ low
      ∙ bind_is _ (tokens.assert_complete 0 it s s k fit refl (omega arith) refl)
      (ap (λ (s : HeldScopes). done (found (block_decl (decl_assert it)) s k)) (same_Some s s' named))
  block_item_read room less
      (block_decl (decl_declaration (declaration [] ws ds semi))) s s' k fit plain named low ended =
      words_read room less ws ds semi s s' k fit.0 fit.1 fit.2 fit.3 fit.4 fit.5 named low
  block_item_read room less
      (block_decl (decl_declaration (declaration (x ∷ exts) ws ds semi))) s s' k fit plain named low ended =
      extended_read room less x exts ws ds semi s s' k fit.0 fit.1 fit.2 fit.3 fit.4 fit.5 named low
  block_item_read room less (block_stmt (label name colon attrs t)) s s' k fit plain named low ended =
      fits_is 2 room (stmt_text all (label name colon attrs t) k) _
      (asks_right (attrs_height attrs) (stmt_height t) room (stmt_high all t) low) ∙
      bind_is _ (label_read all numbered tokens firsts n inner laws whole_are room
      (within room n less) name colon attrs t s s' k fit named low (not_else t (kind_at k) ended)) refl
  block_item_read room less (block_stmt (expr_stmt (some_expr e) semi)) s s' k fit plain named low ended =
      value_read room less e semi s s' k fit named low
  block_item_read room less (block_stmt (attr_stmt [] semi)) s s' k fit plain named low ended = absurd (fit.0 refl)
  block_item_read room less (block_stmt (attr_stmt (a ∷ attrs) semi)) s s' k fit plain named low ended =
      bind_is _ (tokens.attrs_complete room (a ∷ attrs) s s (sign_text puncts.Semicolon semi k) fit.1 refl
      (attr_asks all numbered tokens firsts n inner laws whole_are (a ∷ attrs) room low) refl)
      (bind_is _ refl
      (ap (λ (s : HeldScopes). done (found (block_stmt (attr_stmt (a ∷ attrs) semi)) s k)) (same_Some s s' named)))
  block_item_read room less (block_labels keyword names semi) s s' k fit plain named low ended = absurd cc
  block_item_read room less (block_stmt t) s s' k fit plain named low ended =
      bind_is _ (laws.stmts.complete room less t s s' k fit named low (not_else t (kind_at k) ended)) refl

  -- what an item begins with
  item_begins : (x : BlockItem) (s s' : HeldScopes) (k : List Lexeme) → IsBlockItem all x → is_labels x ≡ false
      → block_item_scopes x s ≡ Some s' →
      (is_close_brace (kind_at (block_item_text all x k)) ≡ false)
      × (is_else (kind_at (block_item_text all x k)) ≡ false)
      × (is_label_word (kind_at (block_item_text all x k)) ≡ false)
  item_begins (block_decl (decl_declaration (declaration [] ws ds semi))) s s' k fit plain named =
      let b = behind_ok (spec_words_scopes ws s) (words_declrs_scopes ws ds) s' named in
      let end = init_declrs_text all ds (sign_text puncts.Semicolon semi k) in
      let begun = firsts.words_begin ws s b.0 end fit.0 fit.1 b.1 in (
        specs_no_close_brace s (kind_at (spec_words_text all ws end)) begun,
        specs_no_else s (kind_at (spec_words_text all ws end)) begun,
        specs_no_label_word s (kind_at (spec_words_text all ws end)) begun,
      )
  item_begins (block_stmt (expr_stmt (some_expr e) semi)) s s' k fit plain named =
      let end = sign_text puncts.Semicolon semi k in
      let begun = firsts.expr_begins e s s' end fit named in (
        expr_no_close_brace s (kind_at (expr_text all e end)) begun,
        expr_no_else s (kind_at (expr_text all e end)) begun,
        expr_no_label_word s (kind_at (expr_text all e end)) begun,
      )
  item_begins (block_stmt (attr_stmt [] semi)) s s' k fit plain named = absurd (fit.0 refl)
  item_begins (block_stmt (attr_stmt (a ∷ attrs) semi)) s s' k fit plain named = (refl, refl, refl)
  item_begins (block_decl (decl_declaration (declaration (x ∷ exts) ws ds semi))) s s' k fit plain named =
      (refl, refl, refl)
  item_begins (block_labels keyword names semi) s s' k fit plain named = absurd cc
  item_begins x s s' k fit plain named = (refl, refl, refl)

  abbrev goes_on : TokenKind → Bool
  goes_on kind = not (is_close_brace kind)

  item_turn_shrinks : (room : ℕ) → TurnShrinks (repeated_turn goes_on (block_item_with inner room))
  item_turn_shrinks room xs s ts x e = by_test (is_close_brace (kind_at ts)) e
    where
      by_test : (b : Bool)
          → (if not b then Some (and_then (block_item_with inner room s ts)
          (λ y. ends (xs ++ y.tree ∷ []) y.scopes y.rest)) else None) ≡ Some (done x)
          → length x.rest < length ts
      by_test true e = absurd cc
      by_test false e =
          let a = bind_ok (some_is all tokens n inner laws e) in
          omega (arith, block_item_shrinks all tokens n inner laws room s ts a.0 a.1, left_is a.2)

  -- items up to the brace that closes them
  items_read : (room : ℕ) → room < n → (xs known : List BlockItem) (s t : HeldScopes) (closing : ℕ) (k : List Lexeme)
      → AllFit (plain_form all) xs → row_scopes (plain_form all) xs s ≡ Some t → row_height (plain_form all) xs ≤ room →
      run (repeated_turn goes_on (block_item_with inner room)) known s
      (row_text (plain_form all) xs (sign_text puncts.CloseBrace closing k))
      ≡ done (found (known ++ xs) t (sign_text puncts.CloseBrace closing k))
  items_read room less [] known s t closing k h named low =
      run_ends (repeated_turn goes_on (block_item_with inner room)) (item_turn_shrinks room) known s
      (sign_text puncts.CloseBrace closing k) refl ∙
      ap (λ (s : HeldScopes). done (found known s (sign_text puncts.CloseBrace closing k))) (same_Some s t named)
      ∙ ap (λ (xs : List BlockItem). done (found xs t (sign_text puncts.CloseBrace closing k))) (sym (append-nil known))
  items_read room less (x ∷ xs) known s t closing k h named low =
      let b = behind_ok (block_item_scopes x s) (row_scopes (plain_form all) xs) t named in
      let end = sign_text puncts.CloseBrace closing k in
      let more = row_text (plain_form all) xs end in
      let is = block_item_read room less x s b.0 more h.0.0 h.0.1 b.1 (omega (arith, low)) (no_else xs b.0 h.1 b.2) in
      let rest = items_read room less xs (known ++ x ∷ []) b.0 t closing k h.1 b.2 (omega (arith, low)) in
      run_on (repeated_turn goes_on (block_item_with inner room)) (item_turn_shrinks room) known s
      (block_item_text all x more) (found (known ++ x ∷ []) b.0 more)
      (rw (item_begins x s b.0 more h.0.0 h.0.1 b.1).0 (ap Some (bind_is _ is refl))) ∙ rest
      ∙ ap (λ (ys : List BlockItem). done (found ys t end)) (append_assoc known (x ∷ []) xs)
    where
      no_else : (xs : List BlockItem) (s : HeldScopes) → AllFit (plain_form all) xs
          → row_scopes (plain_form all) xs s ≡ Some t
          → is_else (kind_at (row_text (plain_form all) xs (sign_text puncts.CloseBrace closing k))) ≡ false
      no_else [] s h named = refl
      no_else (y ∷ ys) s h named =
          let b = behind_ok (block_item_scopes y s) (row_scopes (plain_form all) ys) t named in
          (item_begins y s b.0 (row_text (plain_form all) ys (sign_text puncts.CloseBrace closing k)) h.0.0 h.0.1 b.1).1

  repeated_run : (room : ℕ) (s : HeldScopes) (ts : List Lexeme)
      → repeated goes_on (block_item_with inner room) s ts
      ≡ run (repeated_turn goes_on (block_item_with inner room)) [] s ts
  unfolding repeated
  repeated_run room s ts = refl

  -- declarations of labels end before the first other item
  labels_end : (ys : List BlockItem) (s t : HeldScopes) (closing : ℕ) (k : List Lexeme) → AllFit (plain_form all) ys
      → row_scopes (plain_form all) ys s ≡ Some t →
      is_label_word (kind_at (row_text (plain_form all) ys (sign_text puncts.CloseBrace closing k))) ≡ false
  labels_end [] s t closing k h named = refl
  labels_end (y ∷ ys) s t closing k h named =
      let b = behind_ok (block_item_scopes y s) (row_scopes (plain_form all) ys) t named in
      (item_begins y s b.0 (row_text (plain_form all) ys (sign_text puncts.CloseBrace closing k)) h.0.0 h.0.1 b.1).2

  labels_begin : (x : BlockItem) (k : List Lexeme) → is_labels x ≡ true
      → is_label_word (kind_at (block_item_text all x k)) ≡ true
  labels_begin (block_labels keyword names semi) k is = refl
  labels_begin (block_decl d) k is = absurd cc
  labels_begin (block_stmt t) k is = absurd cc

  labels_read : (room : ℕ) (xs : List BlockItem) (s t : HeldScopes) (k : List Lexeme) → AllFit (labels_form all) xs
      → row_scopes (labels_form all) xs s ≡ Some t → row_height (labels_form all) xs ≤ room →
      is_label_word (kind_at k) ≡ false
      → repeated is_label_word (labels_with inner room) s (row_text (labels_form all) xs k) ≡ done (found xs t k)
  labels_read room xs s t k h named low ended =
      repeated_complete is_label_word (labels_with inner room) (labels_form all) always room
      (labels_shrinks all tokens n inner laws room)
      (λ x s t k fit named low stops. labels_complete all numbered inner room x s t k fit.0 fit.1 named low)
      (λ x s t k fit named. labels_begin x k fit.1) (λ x kind e. refl) xs s t k h named low ended (λ x. refl)

  -- at the brace, in a scope that is open
  pub block_body_read : (room : ℕ) → room ≤ n
      → (opening : ℕ) (items : BlockItems) (closing : ℕ) (s s' : HeldScopes) (k : List Lexeme) → AreBlockItems all items
      → AreLabelsFirst items → block_items_scopes items s ≡ Some s' →
      block_height items ≤ room →
      block_body inner room s
      (sign_text puncts.OpenBrace opening (block_items_text all items (sign_text puncts.CloseBrace closing k)))
      ≡ done (found (record { opening = opening; items = items; closing = closing }) s' k)
  unfolding block_body
  block_body_read room less opening items closing s s' k fit first named low = by_parts (parted all items fit first)
    where
      end : List Lexeme
      end = sign_text puncts.CloseBrace closing k

      body_less : (h room n : ℕ) → room ≤ n → 1 ≤ h → h ≤ room → room - 1 < n
      body_less h room n a b c = omega (arith, a, b, c)

      by_parts : Parted all items
          → block_body inner room s (sign_text puncts.OpenBrace opening (block_items_text all items end))
          ≡ done (found (record { opening = opening; items = items; closing = closing }) s' k)
      by_parts p =
          let same : block_items_text all items end
          ≡ row_text (labels_form all) p.labels (row_text (plain_form all) p.others end) =
          ap (λ (items : BlockItems). block_items_text all items end) (sym p.are)
          ∙ sym (items_text all p.labels p.others end) in
          let low' : block_height (block_items_from (p.labels ++ p.others)) ≤ room =
          subst (λ (items : BlockItems). block_height items ≤ room) (sym p.are) low in
          let parts = scopes_parted all p.labels p.others s s'
          (ap (λ (items : BlockItems). block_items_scopes items s) p.are ∙ named) in
          let labels = labels_read (room - 1) p.labels s parts.0
          (row_text (plain_form all) p.others end) p.labels_fit parts.1 (labels_low all p.labels p.others room low')
          (labels_end p.others parts.0 s' closing k p.others_fit parts.2) in
          let others = items_read (room - 1) (body_less (block_height items) room n less (block_some all items) low)
          p.others [] parts.0 s' closing k p.others_fit parts.2 (others_low all p.labels p.others room low') in
          bind_is _ refl
          (bind_is _
          (ap (λ (ts : List Lexeme). repeated is_label_word (labels_with inner (room - 1)) s ts) same ∙ labels)
          (bind_is _ (repeated_run (room - 1) parts.0 (row_text (plain_form all) p.others end) ∙ others)
          (bind_is _ refl (ap (λ (items : BlockItems). done
          (found (record { opening = opening; items = items; closing = closing }) s' k)) p.are))))

  pub block_read : (room : ℕ) → room ≤ n → IsComplete (block_form all) always room (block_with inner room)
  unfolding block_with
  block_read room less b s s' k fit named low ended =
      let o = own_ok (block_items_scopes b.items) s s' named in
      let text =
      sign_text puncts.OpenBrace b.opening (block_items_text all b.items (sign_text puncts.CloseBrace b.closing k)) in
      fits_is 1 room text _ (one_room (block_height b.items) room (block_some all b.items) low) ∙
      in_own_read (block_body inner room) s o.0 s' text k b
      (block_body_read room less b.opening b.items b.closing (enter s) o.0 k fit.0 fit.1 o.1 low) o.2
    where
      one_room : (h room : ℕ) → 1 ≤ h → h ≤ room → 1 ≤ room
      one_room h room a b = omega (arith, a, b)

  -- an expression and its end
  stmt_value_read : (room : ℕ) → room ≤ n → (e : Expr) (semi : ℕ) (s s' : HeldScopes) (k : List Lexeme) → IsExpr all e
      → expr_scopes e s ≡ Some s' → expr_height e + 1 ≤ room →
      stmt_with inner room s (expr_text all e (sign_text puncts.Semicolon semi k))
      ≡ done (found (expr_stmt (some_expr e) semi) s' k)
  unfolding stmt_with stmt_by named_stmt
  stmt_value_read room less e semi s s' k fit named low = by_start (expr_starts s kind begun)
    where
      kind : TokenKind
      kind = kind_at (expr_text all e (sign_text puncts.Semicolon semi k))

      begun : begins_expr s kind ≡ true
      begun = firsts.expr_begins e s s' (sign_text puncts.Semicolon semi k) fit named

      by_start : (stmt_start kind ≡ starts.Value) ⊎ ((name : ℕ) × (kind ≡ kinds.Name name))
          → stmt_with inner room s (expr_text all e (sign_text puncts.Semicolon semi k))
          ≡ done (found (expr_stmt (some_expr e) semi) s' k)
      by_start (inl is) =
          ap
          (λ (start : StmtStart). stmt_by inner start room s (expr_text all e (sign_text puncts.Semicolon semi k))) is ∙
          rw begun (fits_is 2 room (expr_text all e (sign_text puncts.Semicolon semi k)) _
          (asks_two (expr_height e) room (expr_high e) low) ∙ expr_stmt_read all numbered tokens firsts n inner laws
          whole_are nothing room less e semi s s' k fit tt named low)
      by_start (inr is) =
          let no_type : names_type s is.0 ≡ false =
          not_true (subst (λ (kind : TokenKind). begins_expr s kind ≡ true) is.1 begun) in
          ap (λ (kind : TokenKind). stmt_by inner (stmt_start kind) room s
          (expr_text all e (sign_text puncts.Semicolon semi k))) is.1 ∙
          fits_is 2 room (expr_text all e (sign_text puncts.Semicolon semi k)) _
          (asks_two (expr_height e) room (expr_high e) low) ∙
          rw (name_no_colon all e is.0 (sign_text puncts.Semicolon semi k) fit refl (ap spelled_name is.1), no_type)
          (expr_stmt_read all numbered tokens firsts n inner laws whole_are nothing room less e semi s s' k
          fit tt named low)

  pub stmt_read : (room : ℕ) → room ≤ n → IsComplete (stmt_form all) ends_stmt room (stmt_with inner room)
  unfolding stmt_with stmt_by named_stmt
  stmt_read room less (block opening items closing) s s' k fit named low ended =
      bind_is _ (block_read room less
      (record { opening = opening; items = items; closing = closing }) s s' k fit named low refl) refl
  stmt_read room less (expr_stmt no_expr semi) s s' k fit named low ended =
      fits_is 1 room (stmt_text all (expr_stmt no_expr semi) k) _ low
      ∙ bind_is _ refl (ap (λ (s : HeldScopes). done (found (expr_stmt no_expr semi) s k)) (same_Some s s' named))
  stmt_read room less (expr_stmt (some_expr e) semi) s s' k fit named low ended =
      stmt_value_read room less e semi s s' k fit named low
  stmt_read room less (attr_stmt [] semi) s s' k fit named low ended = absurd (fit.0 refl)
  stmt_read room less (attr_stmt (a ∷ attrs) semi) s s' k fit named low ended =
      attr_stmt_read all numbered tokens firsts n inner laws whole_are room (a ∷ attrs) semi s k fit.1 low
      ∙ ap (λ (s : HeldScopes). done (found (attr_stmt (a ∷ attrs) semi) s k)) (same_Some s s' named)
  stmt_read room less (label name colon attrs t) s s' k fit named low ended =
      fits_is 2 room (stmt_text all (label name colon attrs t) k) _
      (asks_right (attrs_height attrs) (stmt_height t) room (stmt_high all t) low) ∙
      label_read all numbered tokens firsts n inner laws whole_are room less name colon attrs t s s' k fit
      named low ended
  stmt_read room less (case_stmt keyword e colon t) s s' k fit named low ended =
      case_read all numbered tokens firsts n inner laws whole_are room less keyword e colon t s s' k fit named low ended
  stmt_read room less (case_range keyword e dots e2 colon t) s s' k fit named low ended =
      range_read all numbered tokens firsts n inner laws whole_are room less keyword e dots e2 colon t s s' k fit
      named low ended
  stmt_read room less (goto_value keyword star e semi) s s' k fit named low ended =
      goto_value_read all numbered tokens firsts n inner laws whole_are room less keyword star e semi s s'
      k fit named low
  stmt_read room less (default_stmt keyword colon t) s s' k fit named low ended =
      default_read all numbered tokens firsts n inner laws whole_are room less keyword colon t s s' k fit
      named low ended
  stmt_read room less (if_stmt keyword opening e closing t other) s s' k fit named low ended =
      let whole = stmt_text all (if_stmt keyword opening e closing t other) k in
      let o = own_ok
      (λ u. behind (behind (expr_scopes e u) (in_own_scope (stmt_scopes t))) (some_else_scopes other)) s s' named in
      fits_is 2 room whole _
      (three_two (expr_height e) (stmt_height t) (some_else_height other) room (stmt_high all t) low) ∙
      in_own_read (if_inside inner room) s o.0 s' whole k (if_stmt keyword opening e closing t other)
      (if_read all numbered tokens firsts n inner laws whole_are room less keyword opening e closing t other
      (enter s) o.0 k fit o.1 low ended) o.2
    where
      three_two : (h k l room : ℕ) → 1 ≤ k → max h (max k l) + 1 ≤ room → 2 ≤ room
      three_two h k l room a b = omega (arith, a, b)
  stmt_read room less (switch_stmt keyword opening e closing t) s s' k fit named low ended =
      let whole = stmt_text all (switch_stmt keyword opening e closing t) k in
      let o = own_ok (λ u. behind (expr_scopes e u) (in_own_scope (stmt_scopes t))) s s' named in
      fits_is 2 room whole _ (asks_right (expr_height e) (stmt_height t) room (stmt_high all t) low) ∙
      in_own_read (headed_inside inner switch_stmt room) s o.0 s' whole k (switch_stmt keyword opening e closing t)
      (headed_read all numbered tokens firsts n inner laws whole_are switch_stmt keywords.Switch room less keyword
      opening e closing t (enter s) o.0 k fit o.1 low ended) o.2
  stmt_read room less (while_stmt keyword opening e closing t) s s' k fit named low ended =
      let whole = stmt_text all (while_stmt keyword opening e closing t) k in
      let o = own_ok (λ u. behind (expr_scopes e u) (in_own_scope (stmt_scopes t))) s s' named in
      fits_is 2 room whole _ (asks_right (expr_height e) (stmt_height t) room (stmt_high all t) low) ∙
      in_own_read (headed_inside inner while_stmt room) s o.0 s' whole k (while_stmt keyword opening e closing t)
      (headed_read all numbered tokens firsts n inner laws whole_are while_stmt keywords.While room less keyword opening
      e closing t (enter s) o.0 k fit o.1 low ended) o.2
  stmt_read room less (do_stmt keyword t keyword2 opening e closing semi) s s' k fit named low ended =
      let whole = stmt_text all (do_stmt keyword t keyword2 opening e closing semi) k in
      let o = own_ok (λ u. behind (in_own_scope (stmt_scopes t) u) (expr_scopes e)) s s' named in
      fits_is 2 room whole _ (asks_right (stmt_height t) (expr_height e) room (expr_high e) low) ∙
      in_own_read (do_inside inner room) s o.0 s' whole k (do_stmt keyword t keyword2 opening e closing semi)
      (do_read all numbered tokens firsts n inner laws whole_are room less keyword t keyword2 opening e closing semi
      (enter s) o.0 k fit o.1 low) o.2
  stmt_read room less (for_stmt keyword opening start e semi e2 closing t) s s' k fit named low ended =
      let whole = stmt_text all (for_stmt keyword opening start e semi e2 closing t) k in
      let o = own_ok (λ u. behind (behind (behind (for_start_scopes start u) (some_expr_scopes e))
      (some_expr_scopes e2)) (in_own_scope (stmt_scopes t))) s s' named in
      fits_is 2 room whole _ (four_two (for_start_height start) (some_expr_height e) (some_expr_height e2)
      (stmt_height t) room (stmt_high all t) low) ∙
      in_own_read (for_inside inner room) s o.0 s' whole k (for_stmt keyword opening start e semi e2 closing t)
      (for_read all numbered tokens firsts n inner laws whole_are room less keyword opening start e semi e2 closing t
      (enter s) o.0 k fit o.1 low ended) o.2
    where
      four_two : (h k l m room : ℕ) → 1 ≤ m → max h (max k (max l m)) + 1 ≤ room → 2 ≤ room
      four_two h k l m room a b = omega (arith, a, b)
  stmt_read room less (goto_stmt keyword name semi) s s' k fit named low ended =
      goto_read all numbered tokens firsts n inner laws whole_are room keyword name semi s k low
      ∙ ap (λ (s : HeldScopes). done (found (goto_stmt keyword name semi) s k)) (same_Some s s' named)
  stmt_read room less (continue_stmt keyword semi) s s' k fit named low ended =
      jump_read all numbered tokens firsts n inner laws whole_are continue_stmt keywords.Continue room keyword semi s k
      low ∙ ap (λ (s : HeldScopes). done (found (continue_stmt keyword semi) s k)) (same_Some s s' named)
  stmt_read room less (break_stmt keyword semi) s s' k fit named low ended =
      jump_read all numbered tokens firsts n inner laws whole_are break_stmt keywords.Break room keyword semi s k low
      ∙ ap (λ (s : HeldScopes). done (found (break_stmt keyword semi) s k)) (same_Some s s' named)
  stmt_read room less (return_stmt keyword e semi) s s' k fit named low ended =
      return_read all numbered tokens firsts n inner laws whole_are room less keyword e semi s s' k fit named low
  stmt_read room less (asm_stmt keyword words group semi) s s' k fit named low ended =
      asm_read all numbered tokens firsts n inner laws whole_are room keyword words group semi s k fit low
      ∙ ap (λ (s : HeldScopes). done (found (asm_stmt keyword words group semi) s k)) (same_Some s s' named)
