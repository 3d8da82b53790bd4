-- Items are read from their text.
use Rattle.std.proofs.Common.{inl, ◌≡◌, ℕ, suc, ◌<◌, ◌≤◌, Bool, true, false, List, [], ◌∷◌, Option, Some, None, refl, sym, ◌∙◌, ap, subst, arith}
use Rattle.std.specs.Prelude.{not, All, is_some, ◌+◌, ◌-◌, max, if◌then◌else◌, option_map}
use Rattle.c_words.specs.declared.kinds.TokenKind.{TokenKind}
use Rattle.std.proofs.lemmas.List.Elements.{All-head, All-tail}
use Rattle.c_words.specs.declared.kinds.TokenKind.TheVariants as kinds
use Rattle.c_words.specs.declared.kinds.Keyword.{Keyword}
use Rattle.c_words.specs.declared.kinds.Keyword.TheVariants as keywords
use Rattle.c_words.specs.declared.kinds.Punct.TheVariants as puncts
use Rattle.c_tree.specs.declared.lexeme.Lexeme.{Lexeme}
use Rattle.c_syntax.specs.declared.parts.Attr.{Attr}
use Rattle.c_syntax.specs.declared.parts.AsmLabel.{AsmLabel}
use Rattle.c_tree.specs.Tree.{SpecWord, SpecWords, attribute, qualifier, typeof_type, Declr, pointer, declr_name, declr_paren, array, params, abs_pointer, abs_paren, abs_array, abs_params, identifiers, base_name, some_declr, SomeInit, no_init, some_init, InitDeclrs, no_init_declrs, more_init_declrs, Declaration, declaration, decl_declaration, decl_assert, BlockItems, more_words, no_words}
use Rattle.c_tree.specs.Text.{spec_word_text, declaration_text, sign_text, attrs_text, label_text, declr_text, extensions_text, spec_words_text, init_declrs_text, other_init_declrs_text, block_items_text, some_init_text}
use Rattle.c_tree.specs.Height.{attrs_height, label_height, declr_height, specs_height, init_declrs_height, block_height, some_init_height}
use Rattle.c_tree.specs.Specifiers.{IsMix, storage_words}
use Rattle.c_tree.specs.WellFormed.{AreSpecWords, AreAttrs, IsDeclr, is_named, IsLabel, IsSomeInit, IsInitStart, IsSpecWord, IsDeclaration, is_bare_name, AreInitDeclrs, AreBlockItems, AreLabelsFirst, has_auto, lists_identifiers, IsAutoWhere}
use Rattle.c_tree.specs.Unit.{declarations_text, declarations_height, begins_attribute, Item, IsItem, item_text, item_height, function_item, old_function_item, decl_item, asm_item, semi_item, is_round_name, declares_function}
use Rattle.typedef_scope.specs.declared.kind.Kind.{Kind}
use Rattle.typedef_scope.specs.declared.kind.Kind.TheVariants.{Value}
use Rattle.c_units.specs.HeldScopes.{HeldScopes, HeldScope, enter, is_wide, innermost, reopen, release, leave}
use Rattle.c_units.specs.Scoping.{where_true, identifiers_scopes, some_size_scopes, in_own_scope, params_scopes, spec_word_scopes, declaration_scopes, behind, has_typedef_word, declared_kind, spec_words_scopes, declr_scopes, init_declrs_scopes, auto_declrs_scopes, some_init_scopes, block_items_scopes}
use Rattle.c_units.specs.Units.{declarations_scopes, bare_name, item_scopes, OwnParams, own_params, own_scope}
use Rattle.c_reading.specs.declared.kinds.Mode.TheVariants.{Named}
use Rattle.c_reading.specs.declared.kinds.Role.TheVariants.{Declaring}
use Rattle.c_specs.specs.Laws.{WholeAreMixes, MixesGoOn}
use Rattle.c_reading.proofs.BaseWords.{words_declrs_scopes, declrs_end, bare_words, not_base}
use Rattle.c_reading.specs.Reading.{Read, repeated, kind_at, IsNumbered}
use Rattle.c_reading.specs.Tokens.{is_attribute, is_semicolon, is_asm, is_open_brace, is_static_assert}
use Rattle.c_reading.specs.Parts.{Inner, DeclrItem}
use Rattle.c_reading.specs.Specifying.{begins_specs, start_at}
use Rattle.c_reading.specs.Stating.{declr_behind, declrs_with, block_body, declaration_behind, bare_declaration}
use Rattle.c_reading.specs.Items.{as_decl, goes_on_declared, function_with, attrs_behind, function_or_not, behind_function, behind_declr, first_declr, old_declaration, old_function_with, declared_item, asm_item_with, item_with}
use Rattle.c_reading.proofs.Binding.{found, done, bind_is, fits_is}
use Rattle.c_reading.proofs.Forms.{IsComplete, always, behind_ok}
use Rattle.c_reading.proofs.KindFacts.{attribute_kind, specs_no_open_brace, named_no_semicolon, named_ends_specs, specs_no_semicolon, specs_no_asm, specs_no_static_assert, specs_no_extension, not_false}
use Rattle.c_reading.proofs.Aims.{EndsWords, least_with, ends_suffix, declr_item_form, declaration_form, item_form, closed_of, declr_room, TokenLaws, FirstLaws, Laws, own_scope_in}
use Rattle.c_reading.proofs.Shared.{named_ends, specs_here_ended}
use Rattle.c_syntax.specs.declared.parts.Qual.TheVariants as quals
use Rattle.c_tree.proofs.NamedDeclarators.{lister_is_named, round_is_named}
use Rattle.c_reading.specs.declared.kinds.SpecStart.TheVariants as starts
use Rattle.c_specs.specs.Mix.{is_whole_mix}
use Rattle.c_reading.proofs.Rows.{AllFit, repeated_complete}
use Rattle.c_reading.proofs.Firsts.{former_start, start_of, word_starts}
use Rattle.c_reading.proofs.DeclrOwn.{closed_with_identifiers}
use Rattle.c_reading.proofs.ItemsFalls.{old_declaration_shrinks}
use Rattle.c_reading.proofs.ItemsSound.{rows_text, rows_scopes, rows_height}
use Rattle.c_reading.proofs.DeclLists.{attrs_asks}
use Rattle.c_reading.proofs.DeclComplete.{some_init_read, declr_behind_read, declrs_read, bare_read, behind_read, ends_value, init_no_attr, attrs_no_asm, label_no_suffix, others_end}
use Rattle.c_reading.proofs.SpecsSoundBodies.{declr_high}
use Rattle.c_reading.proofs.DeclrSoundParams.{specs_high}

-- and no list of identifiers
round_plain : (d : Declr) (above : Bool) → is_round_name d above ≡ true → lists_identifiers d ≡ false
round_plain (declr_name token name) above h = refl
round_plain (declr_paren opening attrs d closing) above h = round_plain d above h
round_plain (pointer star words d) above h = round_plain d false h
round_plain (array d opening words size closing) above h = round_plain d false h
round_plain (params d opening ps dots closing) above h = round_plain d true h
round_plain (abs_pointer star words d) above h = absurd cc
round_plain (abs_paren opening attrs d closing) above h = absurd cc
round_plain (abs_array d opening words size closing) above h = absurd cc
round_plain (abs_params d opening ps dots closing) above h = absurd cc
round_plain (identifiers d opening names closing) above h = absurd cc
round_plain (base_name token) above h = absurd cc

-- a first token of declarations and functions
abbrev IsOther : TokenKind → Type 0
IsOther kind = (is_semicolon kind ≡ false) × (is_asm kind ≡ false) × (is_static_assert kind ≡ false)

specs_other : (s : HeldScopes) (kind : TokenKind) → begins_specs s kind ≡ true → IsOther kind
specs_other s kind h = (specs_no_semicolon s kind h, specs_no_asm s kind h, specs_no_static_assert s kind h)

-- rooms
words_asks : (w d room : ℕ) → max w d + 1 ≤ room → w + 1 ≤ room
words_asks w d room h = omega (arith, h)

exts_asks : (exts : List ℕ) (h room : ℕ) → 1 ≤ h → h + 1 ≤ room → least_with exts ≤ room
exts_asks [] h room a b = omega arith
exts_asks (x ∷ exts) h room a b = omega (arith, a, b)

bare_asks : (h room : ℕ) → max h 0 + 1 ≤ room → 1 + h ≤ room
bare_asks h room a = omega (arith, a)

first_low : (w a d l b i r room : ℕ) → max w (max (max a (max d (max l (max b i))) + 1) r) + 1 ≤ room → d ≤ room - 2
first_low w a d l b i r room h = omega (arith, h)

first_asks : (w a d l b i r room : ℕ) → 1 ≤ d → max w (max (max a (max d (max l (max b i))) + 1) r) + 1 ≤ room
    → 2 + d ≤ room
first_asks w a d l b i r room o h = omega (arith, o, h)

first_number : (w a d l b i r room n : ℕ) → 1 ≤ d → room ≤ n
    → max w (max (max a (max d (max l (max b i))) + 1) r) + 1 ≤ room → suc (room - 2) < n
first_number w a d l b i r room n o less h = omega (arith, o, less, h)

attrs_low : (w a d l b i r room : ℕ) → max w (max (max a (max d (max l (max b i))) + 1) r) + 1 ≤ room
    → b ≤ (room - 1) - 1
attrs_low w a d l b i r room h = omega (arith, h)

init_low : (w a d l b i r room : ℕ) → max w (max (max a (max d (max l (max b i))) + 1) r) + 1 ≤ room
    → i ≤ (room - 1) - 1
init_low w a d l b i r room h = omega (arith, h)

rest_low : (w a b room : ℕ) → max w (max a b) + 1 ≤ room → b ≤ room - 1
rest_low w a b room h = omega (arith, h)

one_less : (room n : ℕ) → room ≤ n → room - 1 ≤ n
one_less room n a = omega (arith, a)

inside_inside : (h room : ℕ) → h ≤ (room - 1) - 1 → h ≤ room - 1
inside_inside h room a = omega (arith, a)

in_room : (closed : Option HeldScope) (h room : ℕ) → h ≤ room → h ≤ declr_room true closed room
in_room None h room a = a
in_room (Some scope) h room a = omega (arith, a)

fn_words : (w d a b room : ℕ) → max w (max d (max a b)) + 1 ≤ room → w + 1 ≤ room
fn_words w d a b room h = omega (arith, h)

fn_declr : (w d a b room : ℕ) → 1 ≤ w → max w (max d (max a b)) + 1 ≤ room → d ≤ suc (room - 2)
fn_declr w d a b room o h = omega (arith, o, h)

fn_attrs : (w d a b room : ℕ) → max w (max d (max a b)) + 1 ≤ room → a ≤ room - 1
fn_attrs w d a b room h = omega (arith, h)

fn_block : (w d a b room : ℕ) → max w (max d (max a b)) + 1 ≤ room → b ≤ room - 1
fn_block w d a b room h = omega (arith, h)

fn_number : (w d a b room n : ℕ) → 1 ≤ w → room ≤ n → max w (max d (max a b)) + 1 ≤ room → suc (room - 2) < n
fn_number w d a b room n o less h = omega (arith, o, less, h)

-- a tree found with two scopes that are equal as options is the same find
same_found : {A : Type 0} (x : A) (s s' : HeldScopes) (k : List Lexeme) → Some s ≡ Some s'
    → done (found x s k) ≡ done (found x s' k)
same_found x s s' k e = ap (λ (o : Option HeldScopes). done (found x (from o) k)) e
  where
    from : Option HeldScopes → HeldScopes
    from None = s
    from (Some t) = t

-- a declarator that is no more than a name, in parentheses or not, has one as its bare name
bare_back : (d : Declr) → is_bare_name d ≡ true → is_some (bare_name d) ≡ true
bare_back (declr_name token name) h = refl
bare_back (declr_paren opening attrs d closing) h = bare_back d h
bare_back (pointer star words d) h = absurd cc
bare_back (array d opening words size closing) h = absurd cc
bare_back (params d opening ps dots closing) h = absurd cc
bare_back (identifiers d opening names closing) h = absurd cc
bare_back (base_name token) h = absurd cc
bare_back (abs_pointer star words d) h = absurd cc
bare_back (abs_paren opening attrs d closing) h = absurd cc
bare_back (abs_array d opening words size closing) h = absurd cc
bare_back (abs_params d opening ps dots closing) h = absurd cc

-- a declarator with a list of identifiers is not a bare name
listed_not_bare : (d : Declr) → lists_identifiers d ≡ true → bare_name d ≡ None
listed_not_bare (declr_name token name) h = absurd cc
listed_not_bare (declr_paren opening attrs d closing) h = listed_not_bare d h
listed_not_bare (pointer star words d) h = refl
listed_not_bare (array d opening words size closing) h = refl
listed_not_bare (params d opening ps dots closing) h = refl
listed_not_bare (identifiers d opening names closing) h = refl
listed_not_bare (base_name token) h = refl
listed_not_bare (abs_pointer star words d) h = refl
listed_not_bare (abs_paren opening attrs d closing) h = refl
listed_not_bare (abs_array d opening words size closing) h = refl
listed_not_bare (abs_params d opening ps dots closing) h = refl

-- a declarator with a list of identifiers closes a scope of its parameters
listed_closed : (all : List Lexeme) (d : Declr) (s t : HeldScopes) → IsDeclr all d → lists_identifiers d ≡ true
    → declr_scopes (Some Value) d s ≡ Some t → is_some (closed_of (Some Value) (some_declr d) s) ≡ true
listed_closed all (identifiers d opening names closing) s t fit h named =
    let b = behind_ok (declr_scopes (Some Value) d s)
    (λ t. behind (where_true (is_wide t) t) (identifiers_scopes names)) t named in
    ap is_some (sym (closed_with_identifiers (Some Value) d opening names closing s b.0 (bare_back d fit.1) b.1))
listed_closed all (declr_paren opening attrs d closing) s t fit h named = listed_closed all d s t fit.1 h named
listed_closed all (pointer star words d) s t fit h named = listed_closed all d s t fit.1 h named
listed_closed all (array d opening words size closing) s t fit h named =
    let b = behind_ok (declr_scopes (Some Value) d s) (some_size_scopes size) t named in
    listed_closed all d s b.0 fit.0 h b.1
listed_closed all (params d opening ps dots closing) s t fit h named =
    let b = behind_ok (declr_scopes (Some Value) d s) (in_own_scope (params_scopes ps)) t named in
    rw (listed_not_bare d h) (listed_closed all d s b.0 fit.0 h b.1)
listed_closed all (declr_name token name) s t fit h named = absurd cc
listed_closed all (base_name token) s t fit h named = absurd cc
listed_closed all (abs_pointer star words d) s t fit h named = absurd cc
listed_closed all (abs_paren opening attrs d closing) s t fit h named = absurd cc
listed_closed all (abs_array d opening words size closing) s t fit h named = absurd cc
listed_closed all (abs_params d opening ps dots closing) s t fit h named = absurd cc

some_room : (closed : Option HeldScope) (h room : ℕ) → is_some closed ≡ true → h ≤ suc room
    → h ≤ declr_room true closed room
some_room None h room e l = absurd cc
some_room (Some scope) h room e l = l

-- first tokens of declarations
specs_suffix : (s : HeldScopes) (kind : TokenKind) → begins_specs s kind ≡ true → ends_suffix kind ≡ true
specs_suffix s (kinds.Punct puncts.OpenParen) e = absurd cc
specs_suffix s (kinds.Punct puncts.OpenBracket) e = absurd cc
specs_suffix s kind e = refl

old_words : (w d a ds b room : ℕ) → max w (max d (max a (max ds b))) + 1 ≤ room → w + 1 ≤ room
old_words w d a ds b room h = omega (arith, h)

old_declr : (w d a ds b room : ℕ) → 1 ≤ w → max w (max d (max a (max ds b))) + 1 ≤ room → d ≤ suc (room - 2)
old_declr w d a ds b room o h = omega (arith, o, h)

old_attrs : (w d a ds b room : ℕ) → max w (max d (max a (max ds b))) + 1 ≤ room → a ≤ room - 1
old_attrs w d a ds b room h = omega (arith, h)

old_declarations : (w d a ds b room : ℕ) → max w (max d (max a (max ds b))) + 1 ≤ room → ds ≤ room - 1
old_declarations w d a ds b room h = omega (arith, h)

old_block : (w d a ds b room : ℕ) → max w (max d (max a (max ds b))) + 1 ≤ room → b ≤ room - 1
old_block w d a ds b room h = omega (arith, h)

old_number : (w d a ds b room n : ℕ) → 1 ≤ w → room ≤ n → max w (max d (max a (max ds b))) + 1 ≤ room
    → suc (room - 2) < n
old_number w d a ds b room n o less h = omega (arith, o, less, h)

-- the block of a function, in the scope of its parameters
abbrev pub BodyRead : (all : List Lexeme) → ℕ → Inner → Type 0
BodyRead all n inner =
    (room : ℕ) → room ≤ n → (opening : ℕ) (items : BlockItems) (closing : ℕ) (s s' : HeldScopes) (k : List Lexeme)
    → AreBlockItems all items → AreLabelsFirst items → block_items_scopes items s ≡ Some s'
    → block_height items ≤ room →
    block_body inner room s
    (sign_text puncts.OpenBrace opening (block_items_text all items (sign_text puncts.CloseBrace closing k)))
    ≡ done (found (record { opening = opening; items = items; closing = closing }) s' k)

module _ (all : List Lexeme) (numbered : IsNumbered all) (tokens : TokenLaws all) (firsts : FirstLaws all) (n : ℕ)
    (inner : Inner) (laws : Laws all n inner) (whole_are : WholeAreMixes) (goes : MixesGoOn) where
  as_decl_read : (r : Read Declaration) (d : Declaration) (s : HeldScopes) (k : List Lexeme) → r ≡ done (found d s k)
      → as_decl r ≡ done (found (decl_item (decl_declaration d)) s k)
  as_decl_read r d s k is = bind_is _ is refl

  -- behind a function's declarator and attributes goes on a declaration
  goes_on : (i : SomeInit) (ds : InitDeclrs) (semi : ℕ) (k : List Lexeme) →
      (is_open_brace
      (kind_at (some_init_text all i (other_init_declrs_text all ds (sign_text puncts.Semicolon semi k)))) ≡ false) ×
      (goes_on_declared
      (kind_at (some_init_text all i (other_init_declrs_text all ds (sign_text puncts.Semicolon semi k)))) ≡ true)
  goes_on (some_init equal i) ds semi k = (refl, refl)
  goes_on no_init no_init_declrs semi k = (refl, refl)
  goes_on no_init (more_init_declrs attrs d l attrs2 i ds) semi k = (refl, refl)

  -- the first declarator of a declaration with all that goes in there
  record Goes (exts : List ℕ) (words : SpecWords) (room : ℕ) (d : Declr) (l : Option AsmLabel) (attrs : List Attr)
      (i : SomeInit) (ds : InitDeclrs) (u v s' : HeldScopes) : Type 0 where
    label_fit : IsLabel all l
    attrs_fit : AreAttrs all attrs
    init_fit : IsSomeInit all i
    rest_fit : AreInitDeclrs all ds
    init_named : some_init_scopes i (release Value u) ≡ Some v
    rest_named : init_declrs_scopes Value ds v ≡ Some s'
    asks : 2 + declr_height d ≤ room
    attrs_low : attrs_height attrs ≤ (room - 1) - 1
    init_low : some_init_height i ≤ (room - 1) - 1
    rest_low : init_declrs_height ds ≤ room - 1

  declr_goes : (exts : List ℕ) (words : SpecWords) (room : ℕ) → room ≤ n
      → (d : Declr) (l : Option AsmLabel) (attrs : List Attr) (i : SomeInit) (ds : InitDeclrs) (semi : ℕ)
      (u v s' : HeldScopes) (k : List Lexeme)
      → Goes exts words room d l attrs i ds u v s' →
      as_decl (declrs_with inner exts words Value room (declr_behind inner [] d (room - 1)) (release Value u)
      (label_text all l (attrs_text all attrs
      (some_init_text all i (other_init_declrs_text all ds (sign_text puncts.Semicolon semi k)))))) ≡
      done
      (found (decl_item (decl_declaration (declaration exts words (more_init_declrs [] d l attrs i ds) semi))) s' k)
  declr_goes exts words room less d l attrs i ds semi u v s' k g =
      as_decl_read _ (declaration exts words (more_init_declrs [] d l attrs i ds) semi) s' k
      (declrs_read all numbered tokens firsts n inner laws exts words Value room less
      (declr_behind inner [] d (room - 1)) (record { before = []; declr = d; label = l; attrs = attrs; init = i }) ds
      semi (release Value u) v s' (label_text all l (attrs_text all attrs
      (some_init_text all i (other_init_declrs_text all ds (sign_text puncts.Semicolon semi k))))) k
      (declr_behind_read all numbered tokens firsts n inner laws (room - 1) (one_less room n less)
      (record { before = []; declr = d; label = l; attrs = attrs; init = i }) (release Value u) v
      (other_init_declrs_text all ds (sign_text puncts.Semicolon semi k)) g.label_fit g.attrs_fit g.init_fit
      g.init_named g.attrs_low g.init_low
      (others_end all numbered tokens firsts n inner laws ds semi k)) g.rest_fit g.rest_named g.rest_low)

  attrs_goes : (exts : List ℕ) (words : SpecWords) (room : ℕ) → room ≤ n
      → (d : Declr) (attrs : List Attr) (i : SomeInit) (ds : InitDeclrs) (semi : ℕ) (u v s' : HeldScopes)
      (k : List Lexeme)
      → Goes exts words room d None attrs i ds u v s' →
      as_decl (declrs_with inner exts words Value room (attrs_behind inner d attrs (room - 1)) (release Value u)
      (some_init_text all i (other_init_declrs_text all ds (sign_text puncts.Semicolon semi k)))) ≡
      done
      (found (decl_item (decl_declaration (declaration exts words (more_init_declrs [] d None attrs i ds) semi))) s' k)
  unfolding attrs_behind
  attrs_goes exts words room less d attrs i ds semi u v s' k g =
      as_decl_read _ (declaration exts words (more_init_declrs [] d None attrs i ds) semi) s' k (declrs_read all
      numbered tokens firsts n inner laws exts words Value room less (attrs_behind inner d attrs (room - 1))
      (record { before = []; declr = d; label = None; attrs = attrs; init = i }) ds semi (release Value u) v s'
      (some_init_text all i (other_init_declrs_text all ds (sign_text puncts.Semicolon semi k))) k (bind_is _
      (some_init_read all numbered tokens firsts n inner laws (room - 1) (one_less room n less) i (release Value u) v
      (other_init_declrs_text all ds (sign_text puncts.Semicolon semi k)) g.init_fit g.init_named g.init_low
      (ends_value (kind_at (other_init_declrs_text all ds (sign_text puncts.Semicolon semi k)))
      (others_end all numbered tokens firsts n inner laws ds semi k))) refl) g.rest_fit g.rest_named g.rest_low)

  behind_goes : (exts : List ℕ) (words : SpecWords) (room : ℕ) → room ≤ n
      → (d : Declr) (closed : Option HeldScope) (l : Option AsmLabel) (attrs : List Attr) (i : SomeInit)
      (ds : InitDeclrs) (semi : ℕ) (u v s' : HeldScopes) (k : List Lexeme) →
      Goes exts words room d l attrs i ds u v s' →
      behind_declr inner exts words d closed room (release Value u) (label_text all l (attrs_text all attrs
      (some_init_text all i (other_init_declrs_text all ds (sign_text puncts.Semicolon semi k))))) ≡
      done
      (found (decl_item (decl_declaration (declaration exts words (more_init_declrs [] d l attrs i ds) semi))) s' k)
  unfolding behind_function function_or_not
  behind_goes exts words room less d None l attrs i ds semi u v s' k g =
      declr_goes exts words room less d l attrs i ds semi u v s' k g
  behind_goes exts words room less d (Some closed) (Some l) attrs i ds semi u v s' k g =
      fits_is (2 + declr_height d) room _ _ g.asks
      ∙ declr_goes exts words room less d (Some l) attrs i ds semi u v s' k g
  behind_goes exts words room less d (Some closed) None attrs i ds semi u v s' k g =
      let more = some_init_text all i (other_init_declrs_text all ds (sign_text puncts.Semicolon semi k)) in
      let end = others_end all numbered tokens firsts n inner laws ds semi k in
      let o = goes_on i ds semi k in
      rw (attrs_no_asm all numbered tokens firsts n inner laws attrs i
      (other_init_declrs_text all ds (sign_text puncts.Semicolon semi k)) end)
      (bind_is _ (tokens.attrs_complete room attrs (release Value u) (release Value u) more g.attrs_fit refl
      (attrs_asks attrs room (inside_inside (attrs_height attrs) room g.attrs_low))
      (not_false (init_no_attr all numbered tokens firsts n inner laws i
      (other_init_declrs_text all ds (sign_text puncts.Semicolon semi k)) end)))
      (rw o.0 (rw o.1 (fits_is (2 + declr_height d) room more _ g.asks
      ∙ attrs_goes exts words room less d attrs i ds semi u v s' k g))))

  -- a declaration without `typedef`, behind its words
  first_declr_goes : (exts : List ℕ) (words : SpecWords) (room : ℕ) → room ≤ n
      → (d : Declr) (l : Option AsmLabel) (attrs : List Attr) (i : SomeInit) (ds : InitDeclrs) (semi : ℕ)
      (s u v s' : HeldScopes) (k : List Lexeme) →
      IsDeclr all d → is_named d ≡ true → lists_identifiers d ≡ false → declr_scopes (Some Value) d s ≡ Some u
      → declr_height d ≤ room - 2 → suc (room - 2) < n → Goes exts words room d l attrs i ds u v s' →
      first_declr inner exts words room s (declr_text all d (label_text all l (attrs_text all attrs
      (some_init_text all i (other_init_declrs_text all ds (sign_text puncts.Semicolon semi k)))))) ≡
      done
      (found (decl_item (decl_declaration (declaration exts words (more_init_declrs [] d l attrs i ds) semi))) s' k)
  unfolding first_declr
  first_declr_goes exts words room less d l attrs i ds semi s u v s' k fit name plain named low number g =
      let end = other_init_declrs_text all ds (sign_text puncts.Semicolon semi k) in
      let more = label_text all l (attrs_text all attrs (some_init_text all i end)) in
      bind_is _ (laws.declrs.complete Named (Some Value) true (room - 2) number tt (some_declr d) s u more (fit, name)
      (inl refl) named (in_room (closed_of (Some Value) (some_declr d) s) (declr_height d) (room - 2) low)
      (rw (named_ends all d fit name) (label_no_suffix all numbered tokens firsts n inner laws l attrs i end
      (others_end all numbered tokens firsts n inner laws ds semi k))))
      (bind_is _ refl (rw plain
      (behind_goes exts words room less d (closed_of (Some Value) (some_declr d) s) l attrs i ds semi u v s' k g)))

  -- what is read behind the words
  abbrev behind_words : List ℕ → SpecWords → ℕ → HeldScopes → List Lexeme → Read Item
  behind_words exts words room t ts =
      if has_auto words then as_decl (declaration_behind inner exts words room t ts)
      else if is_semicolon (kind_at ts) then as_decl (bare_declaration inner exts words room t ts)
      else if has_typedef_word (storage_words words) then as_decl (declaration_behind inner exts words room t ts)
      else first_declr inner exts words room t ts

  -- a declaration behind its words, by its first token and by `typedef`
  plain_goes : (exts : List ℕ) (words : SpecWords) (room : ℕ) → room ≤ n
      → (ds : InitDeclrs) (semi : ℕ) (s s' : HeldScopes) (k : List Lexeme) → IsInitStart ds → AreInitDeclrs all ds
      → IsAutoWhere false words ds → has_auto words ≡ false → init_declrs_scopes (declared_kind words) ds s ≡ Some s' →
      max (specs_height words) (init_declrs_height ds) + 1 ≤ room →
      (if is_semicolon (kind_at (init_declrs_text all ds (sign_text puncts.Semicolon semi k))) then as_decl
      (bare_declaration inner exts words room s (init_declrs_text all ds (sign_text puncts.Semicolon semi k)))
      else if has_typedef_word (storage_words words) then as_decl
      (declaration_behind inner exts words room s (init_declrs_text all ds (sign_text puncts.Semicolon semi k)))
      else first_declr inner exts words room s (init_declrs_text all ds (sign_text puncts.Semicolon semi k)))
      ≡ done (found (decl_item (decl_declaration (declaration exts words ds semi))) s' k)
  plain_goes exts words room less no_init_declrs semi s s' k start fit auto plain named low =
      as_decl_read _ (declaration exts words no_init_declrs semi) s k (bare_read all numbered tokens firsts n inner laws
      exts words room s semi k (bare_asks (specs_height words) room low)) ∙ same_found _ s s' k named
  plain_goes exts words room less
      (more_init_declrs (a ∷ attrs) d l attrs2 i ds) semi s s' k start fit auto plain named low =
      absurd cc
  plain_goes exts words room less (more_init_declrs [] d l attrs2 i ds) semi s s' k start fit auto plain named low =
      let more = label_text all l (attrs_text all attrs2
      (some_init_text all i (other_init_declrs_text all ds (sign_text puncts.Semicolon semi k)))) in
      rw (named_no_semicolon (kind_at (declr_text all d more)) (firsts.named_begins d more fit.1 fit.2))
      (by_word (has_typedef_word (storage_words words)) refl)
    where
      value_kind : has_typedef_word (storage_words words) ≡ false → declared_kind words ≡ Value
      value_kind h = rw h refl

      high : 1 ≤ declr_height d
      high = declr_high d

      by_value : init_declrs_scopes Value (more_init_declrs [] d l attrs2 i ds) s ≡ Some s'
          → first_declr inner exts words room s
          (init_declrs_text all (more_init_declrs [] d l attrs2 i ds) (sign_text puncts.Semicolon semi k)) ≡
          done (found
          (decl_item (decl_declaration (declaration exts words (more_init_declrs [] d l attrs2 i ds) semi))) s' k)
      by_value named =
          let x : DeclrItem = record { before = []; declr = d; label = l; attrs = attrs2; init = i } in
          let b = behind_ok ((declr_item_form all Value).scopes x s) (init_declrs_scopes Value ds) s' named in
          let c = behind_ok (declr_scopes (Some Value) d s) (λ t. some_init_scopes i (release Value t)) b.0 b.1 in
          first_declr_goes exts words room less d l attrs2 i ds semi s c.0 b.0 s' k fit.1 fit.2 fit.7 c.1
          (first_low (specs_height words) 0 (declr_height d) (label_height l) (attrs_height attrs2) (some_init_height i)
          (init_declrs_height ds) room low)
          (first_number (specs_height words) 0 (declr_height d) (label_height l) (attrs_height attrs2)
          (some_init_height i) (init_declrs_height ds) room n high less low)
          (record {
            label_fit = fit.3;
            attrs_fit = fit.4;
            init_fit = fit.5;
            rest_fit = fit.6;
            init_named = c.2;
            rest_named = b.2;
            asks = first_asks (specs_height words) 0 (declr_height d) (label_height l) (attrs_height attrs2)
                (some_init_height i) (init_declrs_height ds) room high low;
            attrs_low = attrs_low (specs_height words) 0 (declr_height d) (label_height l) (attrs_height attrs2)
                (some_init_height i) (init_declrs_height ds) room low;
            init_low = init_low (specs_height words) 0 (declr_height d) (label_height l) (attrs_height attrs2)
                (some_init_height i) (init_declrs_height ds) room low;
            rest_low =
                rest_low (specs_height words) ((declr_item_form all Value).height x) (init_declrs_height ds) room low;
          })

      by_word : (b : Bool) → has_typedef_word (storage_words words) ≡ b →
          (if b then as_decl (declaration_behind inner exts words room s
          (init_declrs_text all (more_init_declrs [] d l attrs2 i ds) (sign_text puncts.Semicolon semi k)))
          else first_declr inner exts words room s (init_declrs_text all (more_init_declrs [] d l attrs2 i ds)
          (sign_text puncts.Semicolon semi k))) ≡ done (found
          (decl_item (decl_declaration (declaration exts words (more_init_declrs [] d l attrs2 i ds) semi))) s' k)
      by_word true is =
          as_decl_read _ (declaration exts words (more_init_declrs [] d l attrs2 i ds) semi) s' k
          (behind_read all numbered tokens firsts n inner laws exts words room less
          (more_init_declrs [] d l attrs2 i ds) semi s s' k start fit
          (rw plain auto) (rw plain named) low)
      by_word false is =
          by_value (subst (λ (kind : Kind). init_declrs_scopes kind (more_init_declrs [] d l attrs2 i ds) s ≡ Some s')
          (value_kind is) named)

  declaration_goes : (exts : List ℕ) (words : SpecWords) (room : ℕ) → room ≤ n
      → (ds : InitDeclrs) (semi : ℕ) (s s' : HeldScopes) (k : List Lexeme) → IsInitStart ds → AreInitDeclrs all ds
      → IsAutoWhere (has_auto words) words ds →
      words_declrs_scopes words ds s ≡ Some s' → max (specs_height words) (init_declrs_height ds) + 1 ≤ room →
      behind_words exts words room s (init_declrs_text all ds (sign_text puncts.Semicolon semi k))
      ≡ done (found (decl_item (decl_declaration (declaration exts words ds semi))) s' k)
  declaration_goes exts words room less ds semi s s' k start fit auto named low =
      by_auto (has_auto words) refl auto named
    where
      by_auto : (b : Bool) → has_auto words ≡ b → IsAutoWhere b words ds
          → (if b then auto_declrs_scopes ds else init_declrs_scopes (declared_kind words) ds) s ≡ Some s' →
          (if b then as_decl
          (declaration_behind inner exts words room s (init_declrs_text all ds (sign_text puncts.Semicolon semi k)))
          else if is_semicolon (kind_at (init_declrs_text all ds (sign_text puncts.Semicolon semi k))) then as_decl
          (bare_declaration inner exts words room s (init_declrs_text all ds (sign_text puncts.Semicolon semi k)))
          else if has_typedef_word (storage_words words) then as_decl
          (declaration_behind inner exts words room s (init_declrs_text all ds (sign_text puncts.Semicolon semi k)))
          else first_declr inner exts words room s (init_declrs_text all ds (sign_text puncts.Semicolon semi k)))
          ≡ done (found (decl_item (decl_declaration (declaration exts words ds semi))) s' k)
      by_auto true is a m =
          as_decl_read _ (declaration exts words ds semi) s' k (behind_read all numbered tokens firsts n inner laws exts
          words room less ds semi s s' k start fit auto named low)
      by_auto false is a m = plain_goes exts words room less ds semi s s' k start fit a is m low

  -- `__extension__` and words, at the start of an item
  declared_goes : (exts : List ℕ) (words : SpecWords) (room : ℕ) → room ≤ n
      → (s t s' : HeldScopes) (ts k : List Lexeme) (x : Item) → IsMix words → AreSpecWords all words
      → spec_words_scopes words s ≡ Some t → specs_height words + 1 ≤ room →
      EndsWords t words (kind_at ts) →
      behind_words exts words room t ts ≡ done (found x s' k)
      → item_with inner room s (extensions_text exts (spec_words_text all words ts)) ≡ done (found x s' k)
  unfolding item_with declared_item
  declared_goes exts words room less s t s' ts k x mix fit named low ended on =
      let begun = firsts.words_begin words s t ts mix fit named in
      let o = other_first exts (specs_other s (kind_at (spec_words_text all words ts)) begun) in
      rw o.0 (rw o.1 (rw o.2
      (bind_is _ (tokens.exts_complete room exts s s (spec_words_text all words ts) tt refl
      (exts_asks exts (specs_height words) room (specs_high words) low)
      (not_false (specs_no_extension s (kind_at (spec_words_text all words ts)) begun)))
      (bind_is _
      (specs_here_ended all n inner laws firsts Declaring room less words s t ts mix fit named low ended) on))))
    where
      other_first : (exts : List ℕ) → IsOther (kind_at (spec_words_text all words ts))
          → IsOther (kind_at (extensions_text exts (spec_words_text all words ts)))
      other_first [] h = h
      other_first (e ∷ exts) h = (refl, refl, refl)

  -- the block of a function, behind the declarator and attributes
  fn_goes : (body : BodyRead all n inner) (exts : List ℕ) (words : SpecWords) (d : Declr) (attrs : List Attr)
      (opening : ℕ) (items : BlockItems) (closing : ℕ) (closed : HeldScope) (room : ℕ)
      → room ≤ n → (u v : HeldScopes) (k : List Lexeme) →
      AreAttrs all attrs → AreBlockItems all items → AreLabelsFirst items → attrs_height attrs ≤ room - 1
      → block_height items ≤ room - 1 → block_items_scopes items (reopen closed (release Value u)) ≡ Some v →
      behind_function inner exts words d closed room (release Value u) (attrs_text all attrs
      (sign_text puncts.OpenBrace opening (block_items_text all items (sign_text puncts.CloseBrace closing k)))) ≡
      done (found (function_item exts words d attrs opening items closing) (leave v) k)
  unfolding behind_function function_or_not function_with
  fn_goes body exts words d attrs opening items closing closed room less u v k attrs_fit items_fit first attrs_low
      items_low named =
      let more =
      sign_text puncts.OpenBrace opening (block_items_text all items (sign_text puncts.CloseBrace closing k)) in
      rw (no_asm attrs) (bind_is _ (tokens.attrs_complete room attrs (release Value u)
      (release Value u) more attrs_fit refl (attrs_asks attrs room attrs_low) refl)
      (bind_is _ (body (room - 1) (one_less room n less) opening items closing
      (reopen closed (release Value u)) v k items_fit first named items_low) refl))
    where
      no_asm : (attrs : List Attr)
          → is_asm (kind_at (attrs_text all attrs (sign_text puncts.OpenBrace opening
          (block_items_text all items (sign_text puncts.CloseBrace closing k))))) ≡ false
      no_asm [] = refl
      no_asm (a ∷ attrs) = refl

  -- the scope of a function's own parameters
  record OwnScope (d : Declr) (t w : HeldScopes) : Type 0 where
    closed : closed_of (Some Value) (some_declr d) t ≡ Some (innermost w)

  own_closed : (d : Declr) (t w : HeldScopes) → own_scope (own_params d) t ≡ Some w → OwnScope d t w
  own_closed d t w h = record { closed = by_own (own_params d) h }
    where
      by_own : (o : Option OwnParams) → own_scope o t ≡ Some w
          → option_map innermost (own_scope_in (Some Value) o t) ≡ Some (innermost w)
      by_own None h = absurd cc
      by_own (Some p) h = ap (option_map innermost) h

  -- a function behind its words
  function_goes : (body : BodyRead all n inner) (exts : List ℕ) (words : SpecWords) (d : Declr) (attrs : List Attr)
      (opening : ℕ) (items : BlockItems) (closing : ℕ) (room : ℕ)
      → room ≤ n → (t u w v : HeldScopes) (k : List Lexeme) →
      has_auto words ≡ false → has_typedef_word (storage_words words) ≡ false → IsDeclr all d
      → declares_function d ≡ true → AreAttrs all attrs → AreBlockItems all items → AreLabelsFirst items
      → declr_scopes (Some Value) d t ≡ Some u →
      own_scope (own_params d) t ≡ Some w →
      block_items_scopes items (reopen (innermost w) (release Value u)) ≡ Some v
      → max (specs_height words) (max (declr_height d) (max (attrs_height attrs) (block_height items))) + 1 ≤ room →
      behind_words exts words room t (declr_text all d (attrs_text all attrs
      (sign_text puncts.OpenBrace opening (block_items_text all items (sign_text puncts.CloseBrace closing k))))) ≡
      done (found (function_item exts words d attrs opening items closing) (leave v) k)
  unfolding first_declr
  function_goes body exts words d attrs opening items closing room less t u w v k plain bare fit round attrs_fit
      items_fit first named own inside low =
      let more = attrs_text all attrs
      (sign_text puncts.OpenBrace opening (block_items_text all items (sign_text puncts.CloseBrace closing k))) in
      let name = round_is_named d false round in
      let high = specs_high words in
      let wh = specs_height words in
      let dh = declr_height d in
      let ah = attrs_height attrs in
      let bh = block_height items in
      let is = (own_closed d t w own).closed in
      rw plain (rw (named_no_semicolon (kind_at (declr_text all d more)) (firsts.named_begins d more fit name)) (rw bare
      (bind_is _ (laws.declrs.complete Named (Some Value) true (room - 2)
      (fn_number wh dh ah bh room n high less low) tt (some_declr d) t u more (fit, name) (inl refl) named
      (rw is (fn_declr wh dh ah bh room high low)) (rw (named_ends all d fit name) (suffix attrs)))
      (bind_is _ refl
      (rw (round_plain d false round) (rw is (fn_goes body exts words d attrs opening items closing (innermost w) room
      less u v k attrs_fit items_fit first (fn_attrs wh dh ah bh room low) (fn_block wh dh ah bh room low) inside)))))))
    where
      suffix : (attrs : List Attr)
          → ends_suffix (kind_at (attrs_text all attrs (sign_text puncts.OpenBrace opening
          (block_items_text all items (sign_text puncts.CloseBrace closing k))))) ≡ true
      suffix [] = refl
      suffix (a ∷ attrs) = refl

  -- the declarations behind a list of identifiers
  rows_fit_back : (ds : List Declaration) → All (IsDeclaration all) ds → AllFit (declaration_form all) ds
  rows_fit_back [] h = tt
  rows_fit_back (d ∷ ds) h =
      (All-head (IsDeclaration all) d ds h, rows_fit_back ds (All-tail (IsDeclaration all) d ds h))

  old_declaration_read : (room : ℕ) → room ≤ n
      → IsComplete (declaration_form all) always room (old_declaration inner room)
  unfolding old_declaration
  old_declaration_read room less (declaration exts words ds semi) s s' k fit named low ended =
      let b = behind_ok (spec_words_scopes words s) (words_declrs_scopes words ds) s' named in
      let ts = init_declrs_text all ds (sign_text puncts.Semicolon semi k) in
      let begun = firsts.words_begin words s b.0 ts fit.0 fit.1 b.1 in
      let words_low = words_asks (specs_height words) (init_declrs_height ds) room low in
      bind_is _ (tokens.exts_complete room exts s s (spec_words_text all words ts) tt refl
      (exts_asks exts (specs_height words) room (specs_high words) words_low)
      (not_false (specs_no_extension s (kind_at (spec_words_text all words ts)) begun)))
      (bind_is _ (specs_here_ended all n inner laws firsts Declaring room less words s b.0 ts fit.0 fit.1 b.1 words_low
      (declrs_end all whole_are firsts words ds semi b.0 s' k fit.0 fit.2 fit.3 fit.4 fit.5 b.2))
      (behind_read all numbered tokens firsts n inner laws exts words room less ds semi b.0 s' k fit.2 fit.3
      fit.4 b.2 low))

  old_starts : (d : Declaration) (s t : HeldScopes) (k : List Lexeme) → IsDeclaration all d
      → declaration_scopes d s ≡ Some t → not (is_open_brace (kind_at (declaration_text all d k))) ≡ true
  old_starts (declaration (x ∷ exts) words ds semi) s t k fit named = refl
  old_starts (declaration [] words ds semi) s t k fit named =
      let b = behind_ok (spec_words_scopes words s) (words_declrs_scopes words ds) t named in
      let ts = init_declrs_text all ds (sign_text puncts.Semicolon semi k) in
      not_false (specs_no_open_brace s (kind_at (spec_words_text all words ts))
      (firsts.words_begin words s b.0 ts fit.0 fit.1 b.1))

  former_no_attribute : (w : Keyword) → former_start w ≡ starts.Attribute → ⊥
  former_no_attribute keywords.Typeof e = absurd cc
  former_no_attribute w e = absurd cc

  attribute_word : (w : SpecWord) → start_of w ≡ starts.Attribute → (a : Attr) × (w ≡ attribute a)
  attribute_word (attribute a) e = (a, refl)
  attribute_word (qualifier (quals.Word w)) e = absurd cc
  attribute_word (qualifier (quals.Element token)) e = absurd cc
  attribute_word (qualifier (quals.Index token)) e = absurd cc
  attribute_word (typeof_type w opening ws d closing) e = absurd (former_no_attribute w.keyword e)
  attribute_word w e = absurd cc

  word_no_attribute : (s t : HeldScopes) (w : SpecWord) (words : SpecWords) (k : List Lexeme)
      → IsMix (more_words w words) → IsSpecWord all w → spec_word_scopes w s ≡ Some t
      → ((a : Attr) → w ≡ attribute a → ⊥) → is_attribute (kind_at (spec_word_text all w k)) ≡ false
  word_no_attribute s t w words k mix fit named other = by_test (is_attribute (kind_at (spec_word_text all w k))) refl
    where
      start : start_at s false (kind_at (spec_word_text all w k)) ≡ start_of w
      start = word_starts all numbered goes s t false no_words w k fit named (goes no_words w words mix) (λ is. refl)

      by_test : (b : Bool) → is_attribute (kind_at (spec_word_text all w k)) ≡ b
          → is_attribute (kind_at (spec_word_text all w k)) ≡ false
      by_test false is = is
      by_test true is =
          let p =
          attribute_word w (sym start ∙ ap (start_at s false) (attribute_kind (kind_at (spec_word_text all w k)) is)) in
          absurd (other p.0 p.1)

  -- the first token of the declarations and the block
  record Starts (ds : List Declaration) (k : List Lexeme) : Type 0 where
    no_attribute : is_attribute (kind_at (declarations_text all ds k)) ≡ false
    suffix : ends_suffix (kind_at (declarations_text all ds k)) ≡ true

  declarations_start : (ds : List Declaration) (opening : ℕ) (k : List Lexeme) (s t : HeldScopes)
      → All (IsDeclaration all) ds → begins_attribute ds ≡ false → declarations_scopes ds s ≡ Some t
      → Starts ds (sign_text puncts.OpenBrace opening k)
  declarations_start [] opening k s t fit none named = record { no_attribute = refl; suffix = refl }
  declarations_start (declaration (x ∷ exts) words is semi ∷ ds) opening k s t fit none named =
      record { no_attribute = refl; suffix = refl }
  declarations_start (declaration [] no_words is semi ∷ ds) opening k s t fit none named =
      let whole : is_whole_mix no_words ≡ true =
      (whole_are no_words).1 (All-head (IsDeclaration all) (declaration [] no_words is semi) ds fit).0 in
      absurd cc
  declarations_start (declaration [] (more_words w words) is semi ∷ ds) opening k s t fit none named =
      let d = declaration [] (more_words w words) is semi in
      let one = All-head (IsDeclaration all) d ds fit in
      let a = behind_ok (declaration_scopes d s) (declarations_scopes ds) t named in
      let b =
      behind_ok (spec_words_scopes (more_words w words) s) (words_declrs_scopes (more_words w words) is) a.0 a.1 in
      let c = behind_ok (spec_word_scopes w s) (spec_words_scopes words) b.0 b.1 in
      let more = declarations_text all ds (sign_text puncts.OpenBrace opening k) in
      let ts = init_declrs_text all is (sign_text puncts.Semicolon semi more) in
      record {
        no_attribute = word_no_attribute s c.0 w words (spec_words_text all words ts) one.0 one.1.0 c.1 (other w none);
        suffix = specs_suffix s (kind_at (spec_words_text all (more_words w words) ts))
            (firsts.words_begin (more_words w words) s b.0 ts one.0 one.1 b.1);
      }
    where
      other : (w : SpecWord) → begins_attribute (declaration [] (more_words w words) is semi ∷ ds) ≡ false → (a : Attr)
          → w ≡ attribute a → ⊥
      other (attribute b) none a e = absurd cc
      other w none a e = cc

  old_body : (body : BodyRead all n inner) (exts : List ℕ) (words : SpecWords) (d : Declr) (attrs : List Attr)
      (ds : List Declaration) (opening : ℕ) (items : BlockItems) (closing : ℕ) (room : ℕ)
      → room ≤ n → (u w v : HeldScopes) (k : List Lexeme) →
      AreAttrs all attrs → All (IsDeclaration all) ds → begins_attribute ds ≡ false → AreBlockItems all items
      → AreLabelsFirst items → attrs_height attrs ≤ room - 1 → declarations_height ds ≤ room - 1
      → block_height items ≤ room - 1 →
      declarations_scopes ds (enter u) ≡ Some w
      → block_items_scopes items (reopen (innermost w) (release Value (leave w))) ≡ Some v →
      old_function_with inner exts words d room u (attrs_text all attrs (declarations_text all ds
      (sign_text puncts.OpenBrace opening (block_items_text all items (sign_text puncts.CloseBrace closing k))))) ≡
      done (found (old_function_item exts words d attrs ds opening items closing) (leave v) k)
  unfolding old_function_with
  old_body body exts words d attrs ds opening items closing room less u w v k attrs_fit ds_fit none items_fit first
      attrs_low ds_low items_low named inside =
      let inner_text = block_items_text all items (sign_text puncts.CloseBrace closing k) in
      let end = sign_text puncts.OpenBrace opening inner_text in
      let st = declarations_start ds opening inner_text (enter u) w ds_fit none named in
      bind_is _ (tokens.attrs_complete room attrs u u (declarations_text all ds end) attrs_fit refl
      (attrs_asks attrs room attrs_low) (not_false st.no_attribute))
      (bind_is _ (ap (repeated (λ kind. not (is_open_brace kind)) (old_declaration inner (room - 1)) (enter u))
      (sym (rows_text all numbered tokens n inner laws goes ds end)) ∙
      repeated_complete (λ kind. not (is_open_brace kind)) (old_declaration inner (room - 1))
      (declaration_form all) always (room - 1) (old_declaration_shrinks all tokens n inner laws (room - 1))
      (old_declaration_read (room - 1) (one_less room n less)) old_starts (λ x kind e. refl) ds (enter u) w end
      (rows_fit_back ds ds_fit) (rows_scopes all numbered tokens n inner laws goes ds (enter u) ∙ named)
      (subst (λ (h : ℕ). h ≤ room - 1)
      (sym (rows_height all numbered tokens n inner laws goes ds)) ds_low) refl (λ x. refl))
      (bind_is _ (body (room - 1) (one_less room n less) opening items closing
      (reopen (innermost w) (release Value (leave w))) v k items_fit first inside items_low) refl))

  old_first : (body : BodyRead all n inner) (exts : List ℕ) (words : SpecWords) (d : Declr) (attrs : List Attr)
      (ds : List Declaration) (opening : ℕ) (items : BlockItems) (closing : ℕ) (room : ℕ)
      → room ≤ n → (t u w v : HeldScopes) (k : List Lexeme) →
      IsItem all (old_function_item exts words d attrs ds opening items closing)
      → declr_scopes (Some Value) d t ≡ Some u → declarations_scopes ds (enter u) ≡ Some w →
      block_items_scopes items (reopen (innermost w) (release Value (leave w))) ≡ Some v
      → item_height (old_function_item exts words d attrs ds opening items closing) ≤ room →
      behind_words exts words room t (declr_text all d (attrs_text all attrs (declarations_text all ds
      (sign_text puncts.OpenBrace opening (block_items_text all items (sign_text puncts.CloseBrace closing k)))))) ≡
      done (found (old_function_item exts words d attrs ds opening items closing) (leave v) k)
  unfolding first_declr
  old_first body exts words d attrs ds opening items closing room less t u w v k fit named declared inside low =
      let inner_text = block_items_text all items (sign_text puncts.CloseBrace closing k) in
      let more = attrs_text all attrs (declarations_text all ds (sign_text puncts.OpenBrace opening inner_text)) in
      let name = lister_is_named d fit.5 in
      let high = specs_high words in
      let wh = specs_height words in
      let dh = declr_height d in
      let ah = attrs_height attrs in
      let sh = declarations_height ds in
      let bh = block_height items in
      let st = declarations_start ds opening inner_text (enter u) w fit.7 fit.10 declared in
      rw fit.2 (rw (named_no_semicolon (kind_at (declr_text all d more)) (firsts.named_begins d more fit.4 name))
      (rw (bare_words (storage_words words) fit.3)
      (bind_is _ (laws.declrs.complete Named (Some Value) true (room - 2)
      (old_number wh dh ah sh bh room n high less low) tt (some_declr d) t u more (fit.4, name) (inl refl) named
      (some_room (closed_of (Some Value) (some_declr d) t) dh (room - 2) (listed_closed all d t u fit.4 fit.5 named)
      (old_declr wh dh ah sh bh room high low)) (rw (named_ends all d fit.4 name) (suffix attrs st.suffix)))
      (bind_is _ refl (rw fit.5 (old_body body exts words d attrs ds opening items closing room less u w v k fit.6 fit.7
      fit.10 fit.8 fit.9 (old_attrs wh dh ah sh bh room low) (old_declarations wh dh ah sh bh room low)
      (old_block wh dh ah sh bh room low) declared inside))))))
    where
      suffix : (attrs : List Attr)
          → ends_suffix (kind_at (declarations_text all ds (sign_text puncts.OpenBrace opening
          (block_items_text all items (sign_text puncts.CloseBrace closing k))))) ≡ true →
          ends_suffix (kind_at (attrs_text all attrs (declarations_text all ds (sign_text puncts.OpenBrace opening
          (block_items_text all items (sign_text puncts.CloseBrace closing k)))))) ≡ true
      suffix [] h = h
      suffix (a ∷ attrs) h = refl

  old_function_goes : (body : BodyRead all n inner) (exts : List ℕ) (words : SpecWords) (d : Declr) (attrs : List Attr)
      (ds : List Declaration) (opening : ℕ) (items : BlockItems) (closing : ℕ) (room : ℕ)
      → room ≤ n → (s s' : HeldScopes) (k : List Lexeme) →
      IsItem all (old_function_item exts words d attrs ds opening items closing)
      → item_scopes (old_function_item exts words d attrs ds opening items closing) s ≡ Some s' →
      item_height (old_function_item exts words d attrs ds opening items closing) ≤ room →
      item_with inner room s (item_text all (old_function_item exts words d attrs ds opening items closing) k)
      ≡ done (found (old_function_item exts words d attrs ds opening items closing) s' k)
  old_function_goes body exts words d attrs ds opening items closing room less s s' k fit named low =
      let a = behind_ok (spec_words_scopes words s) (λ t.
      behind (declr_scopes (Some Value) d t) (λ u. behind (declarations_scopes ds (enter u))
      (λ w. behind (block_items_scopes items (reopen (innermost w) (release Value (leave w))))
      (λ inner. Some (leave inner))))) s' named in
      let b = behind_ok (declr_scopes (Some Value) d a.0) (λ u. behind (declarations_scopes ds (enter u))
      (λ w. behind (block_items_scopes items (reopen (innermost w) (release Value (leave w))))
      (λ inner. Some (leave inner)))) s' a.2 in
      let c = behind_ok (declarations_scopes ds (enter b.0)) (λ w. behind (block_items_scopes items
      (reopen (innermost w) (release Value (leave w)))) (λ inner. Some (leave inner))) s' b.2 in
      let e = behind_ok (block_items_scopes items (reopen (innermost c.0) (release Value (leave c.0))))
      (λ inner. Some (leave inner)) s' c.2 in
      let more = attrs_text all attrs (declarations_text all ds
      (sign_text puncts.OpenBrace opening (block_items_text all items (sign_text puncts.CloseBrace closing k)))) in
      let name = lister_is_named d fit.5 in
      declared_goes exts words room less s a.0 s' (declr_text all d more) k
      (old_function_item exts words d attrs ds opening items closing) fit.0 fit.1 a.1
      (old_words (specs_height words) (declr_height d) (attrs_height attrs) (declarations_height ds)
      (block_height items) room low)
      (inl (named_ends_specs (kind_at (declr_text all d more)) (firsts.named_begins d more fit.4 name)
      (firsts.named_base d more fit.4 name ∙ not_base (Some Value) d a.0 b.0 refl b.1)))
      (old_first body exts words d attrs ds opening items closing room less a.0 b.0 c.0 e.0 k fit b.1 c.1 e.1 low
      ∙ same_found _ (leave e.0) s' k e.2)

  pub item_complete : (body : BodyRead all n inner) (room : ℕ) → room ≤ n
      → IsComplete (item_form all) always room (item_with inner room)
  unfolding item_with asm_item_with
  item_complete body room less (semi_item semi) s s' k fit named low ended =
      fits_is 1 room _ _ low ∙ bind_is _ refl (same_found (semi_item semi) s s' k named)
  item_complete body room less (asm_item keyword group semi) s s' k fit named low ended =
      fits_is 1 room _ _ low ∙ bind_is _ refl
      (bind_is _ (tokens.group_complete 0 group s s (sign_text puncts.Semicolon semi k) fit refl (omega arith) refl)
      (bind_is _ refl (same_found (asm_item keyword group semi) s s' k named)))
  item_complete body room less (decl_item (decl_assert it)) s s' k fit named low ended =
      fits_is 1 room _ _ low ∙ bind_is _ (tokens.assert_complete room it s s k fit refl (omega arith) refl)
      (same_found (decl_item (decl_assert it)) s s' k named)
  item_complete body room less
      (decl_item (decl_declaration (declaration exts words ds semi))) s s' k fit named low ended =
      let b = behind_ok (spec_words_scopes words s) (words_declrs_scopes words ds) s' named in
      declared_goes exts words room less s b.0 s' (init_declrs_text all ds (sign_text puncts.Semicolon semi k)) k
      (decl_item (decl_declaration (declaration exts words ds semi))) fit.0 fit.1 b.1
      (words_asks (specs_height words) (init_declrs_height ds) room low)
      (declrs_end all whole_are firsts words ds semi b.0 s' k fit.0 fit.2 fit.3 fit.4 fit.5 b.2)
      (declaration_goes exts words room less ds semi b.0 s' k fit.2 fit.3 fit.4 b.2 low)
  item_complete body room less (function_item exts words d attrs opening items closing) s s' k fit named low ended =
      let a = behind_ok (spec_words_scopes words s)
      (λ t. behind (declr_scopes (Some Value) d t) (λ u. behind (own_scope (own_params d) t) (λ w. behind
      (block_items_scopes items (reopen (innermost w) (release Value u))) (λ inner. Some (leave inner))))) s' named in
      let b = behind_ok (declr_scopes (Some Value) d a.0) (λ u. behind (own_scope (own_params d) a.0) (λ w. behind
      (block_items_scopes items (reopen (innermost w) (release Value u))) (λ inner. Some (leave inner)))) s' a.2 in
      let c = behind_ok (own_scope (own_params d) a.0) (λ w. behind
      (block_items_scopes items (reopen (innermost w) (release Value b.0))) (λ inner. Some (leave inner))) s' b.2 in
      let e = behind_ok (block_items_scopes items (reopen (innermost c.0) (release Value b.0)))
      (λ inner. Some (leave inner)) s' c.2 in
      let more = attrs_text all attrs
      (sign_text puncts.OpenBrace opening (block_items_text all items (sign_text puncts.CloseBrace closing k))) in
      let name = round_is_named d false fit.5 in
      declared_goes exts words room less s a.0 s' (declr_text all d more) k
      (function_item exts words d attrs opening items closing) fit.0 fit.1 a.1
      (fn_words (specs_height words) (declr_height d) (attrs_height attrs) (block_height items) room low)
      (inl (named_ends_specs (kind_at (declr_text all d more)) (firsts.named_begins d more fit.4 name)
      (firsts.named_base d more fit.4 name ∙ not_base (Some Value) d a.0 b.0 refl b.1)))
      (function_goes body exts words d attrs opening items closing room less a.0 b.0 c.0 e.0 k fit.2
      (bare_words (storage_words words) fit.3) fit.4 fit.5 fit.6 fit.7 fit.8 b.1 c.1 e.1 low
      ∙ same_found _ (leave e.0) s' k e.2)
  item_complete body room less
      (old_function_item exts words d attrs ds opening items closing) s s' k fit named low ended =
      old_function_goes body exts words d attrs ds opening items closing room less s s' k fit named low
