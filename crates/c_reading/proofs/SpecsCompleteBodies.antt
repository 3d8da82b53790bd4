-- Bodies of structs are read from their text.
use Rattle.std.proofs.Common.{◌≡◌, ℕ, ◌<◌, ◌≤◌, Bool, true, false, List, [], ◌∷◌, Option, Some, None, refl, sym, ◌∙◌, ap, subst, arith}
use Rattle.std.specs.Prelude.{◌+◌, ◌-◌, max, not, ◌&&◌}
use Rattle.std.proofs.lemmas.List.Elements.{All-nil}
use Rattle.qual_base.proofs.Tests.{and_second, and_first}
use Rattle.c_words.specs.declared.kinds.TokenKind.{TokenKind}
use Rattle.c_words.specs.declared.kinds.TokenKind.TheVariants as kinds
use Rattle.c_words.specs.declared.kinds.Punct.{Punct}
use Rattle.c_words.specs.declared.kinds.Punct.TheVariants as puncts
use Rattle.c_words.specs.declared.kinds.Keyword.TheVariants as keywords
use Rattle.c_tree.specs.declared.lexeme.Lexeme.{Lexeme}
use Rattle.c_syntax.specs.declared.parts.Identifier.{Identifier}
use Rattle.c_syntax.specs.declared.parts.Attr.{Attr}
use Rattle.c_syntax.specs.declared.parts.Word.{Word}
use Rattle.c_tree.specs.Tree.{Expr, operation, cast, prefix, sizeof_value, sizeof_type, extension, index, call, dot, arrow, post, compound, name_use, number_use, char_use, text_use, paren, statement_expr, va_arg, va_start, va_copy, offset, complex_part, label_use, compat, choose, generic, SpecWords, struct_type, SomeBody, no_body, some_body, StructItems, StructItem, member, member_semi, member_assert, MemDeclrs, no_mem_declrs, more_mem_declrs, MemDeclr, named, unnamed, SomeValue, no_value, some_value, Declr}
use Rattle.c_tree.specs.Text.{sign_text, tag_text, attrs_text, extensions_text, expr_text, spec_words_text, spec_word_text, some_body_text, struct_items_text, struct_item_text, mem_declrs_text, other_mem_declrs_text, mem_declr_text, some_value_text, declr_text, assert_text}
use Rattle.c_tree.specs.Height.{attrs_height, expr_height, specs_height, some_body_height, struct_items_height, struct_item_height, mem_declrs_height, mem_declr_height, some_value_height, declr_height}
use Rattle.c_tree.specs.Groups.{IsGroup}
use Rattle.c_tree.specs.Specifiers.{IsMix}
use Rattle.c_tree.specs.WellFormed.{AreAttrs, AreSpecWords, IsSomeValue, IsStructItem, AreStructItems, IsBody, HasTagOrBody, IsMemStart, IsMemDeclr, AreMemDeclrs}
use Rattle.c_units.specs.HeldScopes.{HeldScopes}
use Rattle.c_units.specs.Scoping.{expr_scopes, spec_words_scopes, some_body_scopes, struct_item_scopes, struct_items_scopes, mem_declr_scopes, mem_declrs_scopes, some_value_scopes, declr_scopes}
use Rattle.c_reading.specs.declared.kinds.Reach.TheVariants.{Conditional}
use Rattle.c_reading.specs.declared.kinds.Role.TheVariants.{Typed}
use Rattle.c_reading.specs.Reading.{Reader, ◌>>=◌, ends, kind_at, listed, repeated, Next, one_more, IsNumbered}
use Rattle.c_reading.specs.Tokens.{is_semicolon, is_colon, is_open_brace, is_close_brace, is_static_assert, is_attribute, attrs_at, tag_at}
use Rattle.c_reading.specs.Parts.{Inner, MemberItem, struct_items_from, mem_declrs_from}
use Rattle.c_reading.specs.Specifying.{begins_specs, value_with, width_with, field_with, mem_declr_with, first_member, next_member, mem_declrs_with, member_with, struct_item_with, members_with, body_with, struct_with}
use Rattle.c_reading.proofs.Binding.{found, done, bind_is, fits_is}
use Rattle.c_reading.proofs.Forms.{IsComplete, always, behind_ok}
use Rattle.c_reading.proofs.Rows.{repeated_complete}
use Rattle.c_reading.proofs.Commas.{commas_text, listed_complete}
use Rattle.c_reading.proofs.KindFacts.{named_no_colon, named_no_semicolon, named_no_attribute, named_ends_specs, specs_no_extension, specs_no_semicolon, specs_no_static_assert, specs_no_close_brace, not_true, not_false}
use Rattle.c_reading.proofs.Shared.{no_base, specs_here_complete, named_declr_complete}
use Rattle.c_reading.proofs.SpecsFalls.{struct_item_shrinks, next_member_falls}
use Rattle.c_reading.proofs.SpecsSoundBodies.{declr_high}
use Rattle.c_reading.proofs.SpecsLists.{struct_items, struct_items_back, mem_items, mem_items_back, items_are, items_fit_back, items_named, items_high, member_ending, declrs_are, declrs_fit_back, declrs_named, declrs_high}
use Rattle.c_reading.proofs.Aims.{struct_item_form, member_form, mem_declr_form, least_with, ends_unary, ends_expr, ends_suffix, ends_specs, ends_member, TokenLaws, FirstLaws, Laws}
use Rattle.c_reading.proofs.DeclrSoundParams.{specs_high}

-- heights

pub attrs_room : (attrs : List Attr) (room : ℕ) → attrs_height attrs + 1 ≤ room → least_with attrs ≤ room
attrs_room [] room h = omega arith
attrs_room (a ∷ attrs) room h = omega (arith, h)

pub attrs_more : (attrs : List Attr) (room : ℕ) → attrs_height attrs ≤ room → 2 ≤ room → least_with attrs ≤ room
attrs_more [] room h two = omega arith
attrs_more (a ∷ attrs) room h two = two

exts_room : (exts : List ℕ) (room : ℕ) → 2 ≤ room → least_with exts ≤ room
exts_room [] room h = omega arith
exts_room (x ∷ xs) room h = h

-- an expression is at least 1 high
pub expr_high : (e : Expr) → 1 ≤ expr_height e
expr_high (operation e op token e2) = omega arith
expr_high (cast opening ws d closing e) = omega arith
expr_high (prefix token p e) = omega arith
expr_high (sizeof_value word e) = omega arith
expr_high (sizeof_type word opening ws d closing) = omega arith
expr_high (extension keyword e) = omega arith
expr_high (index e opening e2 closing) = omega arith
expr_high (call e opening es closing) = omega arith
expr_high (dot e token name) = omega arith
expr_high (arrow e token name) = omega arith
expr_high (post e token p) = omega arith
expr_high (compound opening ws d closing list) = omega arith
expr_high (name_use token name) = omega arith
expr_high (number_use token) = omega arith
expr_high (char_use token) = omega arith
expr_high (text_use texts) = omega arith
expr_high (paren opening e closing) = omega arith
expr_high (statement_expr opening opening2 items closing closing2) = omega arith
expr_high (va_arg keyword opening e separator ws d closing) = omega arith
expr_high (va_start keyword opening e separator e2 closing) = omega arith
expr_high (va_copy keyword opening e separator e2 closing) = omega arith
expr_high (offset keyword opening ws d separator name steps closing) = omega arith
expr_high (complex_part token e) = omega arith
expr_high (label_use token name) = omega arith
expr_high (compat keyword opening ws d separator ws2 d2 closing) = omega arith
expr_high (choose keyword opening e separator e2 separator2 e3 closing) = omega arith
expr_high (generic keyword opening e items closing) = omega arith

mem_declr_high : (d : MemDeclr) → 2 ≤ mem_declr_height d
mem_declr_high (named d width attrs) = let high : 1 ≤ declr_height d = declr_high d in omega (arith, high)
mem_declr_high (unnamed colon e attrs) = let high : 1 ≤ expr_height e = expr_high e in omega (arith, high)

pub left_of_two : (a b room : ℕ) → max a b + 1 ≤ room → a + 1 ≤ room
left_of_two a b room h = omega (arith, h)

pub right_of_two : (a b room : ℕ) → max a b + 1 ≤ room → b + 1 ≤ room
right_of_two a b room h = omega (arith, h)

pub inside_low : (h room : ℕ) → h + 1 ≤ room → h ≤ room - 1
inside_low h room a = omega (arith, a)

pub inside_less : (room n : ℕ) → room < n → room - 1 < n
inside_less room n h = omega (arith, h)

asks_two : (h room : ℕ) → 1 ≤ h → h ≤ room - 1 → 2 ≤ room
asks_two h room one a = omega (arith, one, a)

less_least : (room n : ℕ) → room < n → room ≤ n
less_least room n h = omega (arith, h)

more_two : (a b room : ℕ) → 2 ≤ a → max b a ≤ room → 2 ≤ room
more_two a b room two h = omega (arith, two, h)

left_low : (a b room : ℕ) → max a b ≤ room → a ≤ room
left_low a b room h = omega (arith, h)

right_low : (a b room : ℕ) → max a b ≤ room → b ≤ room
right_low a b room h = omega (arith, h)

two_of_one : (a room : ℕ) → 1 ≤ a → a + 1 ≤ room → 2 ≤ room
two_of_one a room one h = omega (arith, one, h)

-- kinds

-- an expression goes on with a parenthesis and a bracket
unary_ends_suffix : (kind : TokenKind) → ends_unary kind ≡ true → ends_suffix kind ≡ true
unary_ends_suffix (kinds.Punct puncts.OpenParen) e = absurd cc
unary_ends_suffix (kinds.Punct puncts.OpenBracket) e = absurd cc
unary_ends_suffix kind e = refl

-- a test passes behind attributes
pub attrs_then : (all : List Lexeme) (test : TokenKind → Bool) → test (kinds.Keyword keywords.Attribute) ≡ true
    → (attrs : List Attr) (k : List Lexeme) → test (kind_at k) ≡ true →
    test (kind_at (attrs_text all attrs k)) ≡ true
attrs_then all test is [] k e = e
attrs_then all test is (a ∷ attrs) k e = is

member_ends_expr : (kind : TokenKind) → ends_member kind ≡ true → ends_expr Conditional kind ≡ true
member_ends_expr kind e =
    and_first (ends_expr Conditional kind) (not (is_attribute kind))
    (and_first (ends_expr Conditional kind && not (is_attribute kind)) (not (is_colon kind)) e)

member_no_attribute : (kind : TokenKind) → ends_member kind ≡ true → not (is_attribute kind) ≡ true
member_no_attribute kind e =
    and_second (ends_expr Conditional kind) (not (is_attribute kind))
    (and_first (ends_expr Conditional kind && not (is_attribute kind)) (not (is_colon kind)) e)

member_no_colon : (kind : TokenKind) → ends_member kind ≡ true → not (is_colon kind) ≡ true
member_no_colon kind e = and_second (ends_expr Conditional kind && not (is_attribute kind)) (not (is_colon kind)) e

pub expr_ends_unary : (kind : TokenKind) → ends_expr Conditional kind ≡ true → ends_unary kind ≡ true
expr_ends_unary kind e = and_first (ends_unary kind) _ e

pub some_same : {s t : HeldScopes} → Some s ≡ Some t → s ≡ t
some_same e = cc

module _ (all : List Lexeme) (numbered : IsNumbered all) (tokens : TokenLaws all) (firsts : FirstLaws all) (n : ℕ)
    (inner : Inner) (laws : Laws all n inner) where
  -- attributes leave the scopes as they are
  pub attrs_read : (attrs : List Attr) (room : ℕ) (s : HeldScopes) (k : List Lexeme) → AreAttrs all attrs
      → least_with attrs ≤ room → not (is_attribute (kind_at k)) ≡ true →
      attrs_at room s (attrs_text all attrs k) ≡ done (found attrs s k)
  attrs_read attrs room s k fits low ended = tokens.attrs_complete room attrs s s k fits refl low ended

  -- a value, where no mark follows that there is none
  pub value_complete : (test : TokenKind → Bool) (mark : Punct) → test (kinds.Punct mark) ≡ true → (room : ℕ) → room < n
      → (v : SomeValue) (s s' : HeldScopes) (k : List Lexeme) → IsSomeValue all v →
      some_value_scopes v s ≡ Some s' → some_value_height v ≤ room - 1 → ends_expr Conditional (kind_at k) ≡ true
      → not (test (kind_at k)) ≡ true →
      value_with inner test room s (some_value_text all mark v k) ≡ done (found v s' k)
  unfolding value_with
  value_complete test mark is room less no_value s s' k fits scopes low ended none =
      rw (not_true none) (ap (λ (s : HeldScopes). done (found no_value s k)) (some_same scopes))
  value_complete test mark is room less (some_value token e) s s' k fits scopes low ended none =
      rw is (fits_is 2 room (sign_text mark token (expr_text all e k)) _
      (asks_two (expr_height e) room (expr_high e) low) ∙ bind_is _ refl
      (bind_is _
      (laws.exprs.complete Conditional (room - 1) (inside_less room n less) e s s' k fits scopes low ended) refl))

  width_complete : (colon : ℕ) (e : Expr) (attrs : List Attr) (room : ℕ) → room < n
      → (s s' : HeldScopes) (k : List Lexeme) → IsMemDeclr all (unnamed colon e attrs) → expr_scopes e s ≡ Some s' →
      max (expr_height e) (attrs_height attrs) + 1 ≤ room → ends_member (kind_at k) ≡ true → width_with inner room s
      (mem_declr_text all (unnamed colon e attrs) k) ≡ done (found (unnamed colon e attrs) s' k)
  unfolding width_with
  width_complete colon e attrs room less s s' k fits scopes low ended =
      let high : expr_height e ≤ room - 1 =
      inside_low (expr_height e) room (left_of_two (expr_height e) (attrs_height attrs) room low) in
      fits_is 2 room (sign_text puncts.Colon colon (expr_text all e (attrs_text all attrs k))) _
      (asks_two (expr_height e) room (expr_high e) high) ∙ bind_is _ refl
      (bind_is _ (laws.exprs.complete Conditional (room - 1) (inside_less room n less) e s s' (attrs_text all attrs k)
      (fits.0, fits.1) scopes high
      (attrs_then all (ends_expr Conditional) refl attrs k (member_ends_expr (kind_at k) ended)))
      (bind_is _ (attrs_read attrs room s' k fits.2 (attrs_room attrs room
      (right_of_two (expr_height e) (attrs_height attrs) room low)) (member_no_attribute (kind_at k) ended)) refl))

  -- behind a declarator
  suffix_ends : (width : SomeValue) (attrs : List Attr) (k : List Lexeme) → ends_member (kind_at k) ≡ true
      → ends_suffix (kind_at (some_value_text all puncts.Colon width (attrs_text all attrs k))) ≡ true
  suffix_ends no_value attrs k ended =
      attrs_then all ends_suffix refl attrs k
      (unary_ends_suffix (kind_at k) (expr_ends_unary (kind_at k) (member_ends_expr (kind_at k) ended)))
  suffix_ends (some_value token e) attrs k ended = refl

  field_complete : (d : Declr) (width : SomeValue) (attrs : List Attr) (room : ℕ) → room < n
      → (s s' : HeldScopes) (k : List Lexeme) → IsMemDeclr all (named d width attrs) →
      mem_declr_scopes (named d width attrs) s ≡ Some s' → mem_declr_height (named d width attrs) ≤ room
      → ends_member (kind_at k) ≡ true →
      field_with inner room s (mem_declr_text all (named d width attrs) k) ≡ done (found (named d width attrs) s' k)
  unfolding field_with
  field_complete d width attrs room less s s' k fits scopes low ended =
      let b = behind_ok (declr_scopes None d s) (some_value_scopes width) s' scopes in
      let rest : max (some_value_height width) (attrs_height attrs) + 1 ≤ room =
      right_of_two (declr_height d) (max (some_value_height width) (attrs_height attrs)) room low in
      bind_is _ (named_declr_complete all n inner laws None (room - 1) (inside_less room n less) d s b.0
      (some_value_text all puncts.Colon width (attrs_text all attrs k)) (fits.0, fits.1, fits.4) b.1
      (inside_low (declr_height d) room (left_of_two (declr_height d)
      (max (some_value_height width) (attrs_height attrs)) room low)) (suffix_ends width attrs k ended))
      (bind_is _ (value_complete is_colon puncts.Colon refl room less width b.0 s' (attrs_text all attrs k) fits.2 b.2
      (inside_low (some_value_height width) room (left_of_two (some_value_height width) (attrs_height attrs) room rest))
      (attrs_then all (ends_expr Conditional) refl attrs k (member_ends_expr (kind_at k) ended))
      (attrs_then all (λ kind. not (is_colon kind)) refl attrs k (member_no_colon (kind_at k) ended)))
      (bind_is _ (attrs_read attrs room s' k fits.3 (attrs_room attrs room (right_of_two (some_value_height width)
      (attrs_height attrs) room rest)) (member_no_attribute (kind_at k) ended)) refl))

  mem_declr_complete : (room : ℕ) → room < n
      → IsComplete (mem_declr_form all) (λ d. ends_member) room (mem_declr_with inner room)
  unfolding mem_declr_with
  mem_declr_complete room less (named d width attrs) s s' k fits scopes low ended =
      rw (named_no_colon (kind_at (declr_text all d (some_value_text all puncts.Colon width (attrs_text all attrs k))))
      (firsts.named_begins d (some_value_text all puncts.Colon width (attrs_text all attrs k)) fits.0 fits.1))
      (field_complete d width attrs room less s s' k fits scopes low ended)
  mem_declr_complete room less (unnamed colon e attrs) s s' k fits scopes low ended =
      width_complete colon e attrs room less s s' k fits scopes low ended

  -- what a declarator of a member begins with
  declr_no_attribute : (d : MemDeclr) (k : List Lexeme) → IsMemDeclr all d
      → not (is_attribute (kind_at (mem_declr_text all d k))) ≡ true
  declr_no_attribute (named d width attrs) k fits =
      not_false
      (named_no_attribute (kind_at (declr_text all d (some_value_text all puncts.Colon width (attrs_text all attrs k))))
      (firsts.named_begins d (some_value_text all puncts.Colon width (attrs_text all attrs k)) fits.0 fits.1))
  declr_no_attribute (unnamed colon e attrs) k fits = refl

  declr_no_semicolon : (d : MemDeclr) (k : List Lexeme) → IsMemDeclr all d
      → is_semicolon (kind_at (mem_declr_text all d k)) ≡ false
  declr_no_semicolon (named d width attrs) k fits =
      named_no_semicolon (kind_at (declr_text all d (some_value_text all puncts.Colon width (attrs_text all attrs k))))
      (firsts.named_begins d (some_value_text all puncts.Colon width (attrs_text all attrs k)) fits.0 fits.1)
  declr_no_semicolon (unnamed colon e attrs) k fits = refl

  declr_ends_specs : (d : MemDeclr) (s s' : HeldScopes) (k : List Lexeme) → IsMemDeclr all d
      → mem_declr_scopes d s ≡ Some s' → ends_specs (kind_at (mem_declr_text all d k)) ≡ true
  declr_ends_specs (named d width attrs) s s' k fits scopes =
      let more = some_value_text all puncts.Colon width (attrs_text all attrs k) in
      let b = behind_ok (declr_scopes None d s) (some_value_scopes width) s' scopes in
      named_ends_specs (kind_at (declr_text all d more)) (firsts.named_begins d more fits.0 fits.1)
      (firsts.named_base d more fits.0 fits.1 ∙ no_base None refl d s b.0 b.1)
  declr_ends_specs (unnamed colon e attrs) s s' k fits scopes = refl

  -- a declarator with attributes before it, which the first has none of
  abbrev some_member : ℕ → Reader MemberItem
  some_member room s ts =
      attrs_at room s ts >>= λ attrs. mem_declr_with inner room attrs.scopes attrs.rest >>= λ d.
      ends (record { attrs = attrs.tree; declr = d.tree }) d.scopes d.rest

  some_member_complete : (room : ℕ) → room < n → IsComplete (member_form all) (λ x. ends_member) room (some_member room)
  some_member_complete room less x s s' k fits scopes low ended =
      let declr : mem_declr_height x.declr ≤ room =
      right_low (attrs_height x.attrs) (mem_declr_height x.declr) room low in
      let two : 2 ≤ room =
      more_two (mem_declr_height x.declr) (attrs_height x.attrs) room (mem_declr_high x.declr) low in
      bind_is _ (attrs_read x.attrs room s (mem_declr_text all x.declr k) fits.0 (attrs_more x.attrs room
      (left_low (attrs_height x.attrs) (mem_declr_height x.declr) room low) two) (declr_no_attribute x.declr k fits.1))
      (bind_is _ (mem_declr_complete room less x.declr s s' k fits.1 scopes declr ended) refl)

  next_member_complete : (room : ℕ) → room < n → (comma : ℕ) (x : MemberItem) (s s' : HeldScopes) (k : List Lexeme)
      → (member_form all).Fits x → (member_form all).scopes x s ≡ Some s' → (member_form all).height x ≤ room →
      ends_member (kind_at k) ≡ true
      → next_member inner room comma s ((member_form all).text x k) ≡ done (found (one_more x) s' k)
  unfolding next_member
  next_member_complete room less comma x s s' k fits scopes low ended =
      let declr : mem_declr_height x.declr ≤ room =
      right_low (attrs_height x.attrs) (mem_declr_height x.declr) room low in
      let two : 2 ≤ room =
      more_two (mem_declr_height x.declr) (attrs_height x.attrs) room (mem_declr_high x.declr) low in
      bind_is _ (attrs_read x.attrs room s (mem_declr_text all x.declr k) fits.0 (attrs_more x.attrs room
      (left_low (attrs_height x.attrs) (mem_declr_height x.declr) room low) two) (declr_no_attribute x.declr k fits.1))
      (bind_is _ (mem_declr_complete room less x.declr s s' k fits.1 scopes declr ended) refl)

  -- where no attributes stand, it is the first
  first_same : (room : ℕ) (s : HeldScopes) (ts : List Lexeme) → not (is_attribute (kind_at ts)) ≡ true
      → some_member room s ts ≡ first_member inner room s ts
  unfolding first_member
  first_same room s ts is =
      bind_is _ (attrs_read [] room s ts (All-nil (λ (a : Attr). IsGroup all a.group)) (omega arith) is) refl

  listed_same : {T E : Type 0} (first other : Reader T) (next : ℕ → Reader (Next T E)) (s : HeldScopes)
      (ts : List Lexeme)
      → other s ts ≡ first s ts → listed other next s ts ≡ listed first next s ts
  unfolding listed
  listed_same first other next s ts e = rw e refl

  mem_declrs_complete : (ds : MemDeclrs) (room : ℕ) → room < n → (s s' : HeldScopes) (semi : ℕ) (k : List Lexeme)
      → IsMemStart ds → AreMemDeclrs all ds → mem_declrs_scopes ds s ≡ Some s' → mem_declrs_height ds ≤ room →
      mem_declrs_with inner room s (mem_declrs_text all ds (sign_text puncts.Semicolon semi k))
      ≡ done (found (mem_items ds) s' (sign_text puncts.Semicolon semi k))
  unfolding mem_declrs_with
  mem_declrs_complete no_mem_declrs room less s s' semi k start fits scopes low =
      ap (λ (s : HeldScopes). done (found [] s (sign_text puncts.Semicolon semi k))) (some_same scopes)
  mem_declrs_complete (more_mem_declrs (a ∷ attrs) d ds) room less s s' semi k start fits scopes low = absurd cc
  mem_declrs_complete (more_mem_declrs [] d ds) room less s s' semi k start fits scopes low =
      let items = mem_items (more_mem_declrs [] d ds) in
      let back : mem_declrs_from items ≡ more_mem_declrs [] d ds = mem_items_back (more_mem_declrs [] d ds) in
      let text : mem_declrs_text all (more_mem_declrs [] d ds) (sign_text puncts.Semicolon semi k)
      ≡ commas_text (member_form all) member_ending items (sign_text puncts.Semicolon semi k) =
      ap (λ (ds : MemDeclrs). mem_declrs_text all ds (sign_text puncts.Semicolon semi k)) (sym back)
      ∙ sym (declrs_are all items (sign_text puncts.Semicolon semi k)) in
      let list = listed_complete (some_member room) (next_member inner room) (member_form all) member_ending
      (λ x. ends_member) room (next_member_falls all tokens n inner laws room)
      (some_member_complete room less) (next_member_complete room less) (λ x. refl)
      (record { items = items; ending = None }) s s' (sign_text puncts.Semicolon semi k) tt
      (declrs_fit_back all (more_mem_declrs [] d ds) fits)
      (declrs_named all items s ∙ ap (λ (ds : MemDeclrs). mem_declrs_scopes ds s) back ∙ scopes)
      (subst (λ (h : ℕ). h ≤ room) (sym (declrs_high all items ∙ ap mem_declrs_height back)) low) (refl, λ x. refl) in
      rw (declr_no_semicolon d (other_mem_declrs_text all ds (sign_text puncts.Semicolon semi k)) fits.1)
      (bind_is _ (sym (listed_same (first_member inner room) (some_member room) (next_member inner room) s
      (mem_declrs_text all (more_mem_declrs [] d ds) (sign_text puncts.Semicolon semi k))
      (first_same room s (mem_declrs_text all (more_mem_declrs [] d ds) (sign_text puncts.Semicolon semi k))
      (declr_no_attribute d (other_mem_declrs_text all ds (sign_text puncts.Semicolon semi k)) fits.1))) ∙
      ap (listed (some_member room) (next_member inner room) s) text ∙ list) refl)

  declrs_end_specs : (ds : MemDeclrs) (s s' : HeldScopes) (semi : ℕ) (k : List Lexeme) → IsMemStart ds
      → AreMemDeclrs all ds → mem_declrs_scopes ds s ≡ Some s' →
      ends_specs (kind_at (mem_declrs_text all ds (sign_text puncts.Semicolon semi k))) ≡ true
  declrs_end_specs no_mem_declrs s s' semi k start fits scopes = refl
  declrs_end_specs (more_mem_declrs (a ∷ attrs) d ds) s s' semi k start fits scopes = absurd cc
  declrs_end_specs (more_mem_declrs [] d ds) s s' semi k start fits scopes =
      let b = behind_ok (mem_declr_scopes d s) (mem_declrs_scopes ds) s' scopes in
      declr_ends_specs d s b.0 (other_mem_declrs_text all ds (sign_text puncts.Semicolon semi k)) fits.1 b.1

  member_complete : (exts : List ℕ) (ws : SpecWords) (ds : MemDeclrs) (semi : ℕ) (room : ℕ) → room < n
      → (s s' : HeldScopes) (k : List Lexeme) → IsStructItem all (member exts ws ds semi) →
      struct_item_scopes (member exts ws ds semi) s ≡ Some s' → struct_item_height (member exts ws ds semi) ≤ room →
      member_with inner room s (struct_item_text all (member exts ws ds semi) k)
      ≡ done (found (member exts ws ds semi) s' k)
  unfolding member_with
  member_complete exts ws ds semi room less s s' k fits scopes low =
      let b = behind_ok (spec_words_scopes ws s) (mem_declrs_scopes ds) s' scopes in
      let words : specs_height ws + 1 ≤ room = left_of_two (specs_height ws) (mem_declrs_height ds) room low in
      let declrs : mem_declrs_height ds ≤ room - 1 =
      inside_low (mem_declrs_height ds) room (right_of_two (specs_height ws) (mem_declrs_height ds) room low) in
      let tail = mem_declrs_text all ds (sign_text puncts.Semicolon semi k) in
      let begun = firsts.words_begin ws s b.0 tail fits.0 fits.1 b.1 in
      bind_is _ (tokens.exts_complete room exts s s (spec_words_text all ws tail) tt refl
      (exts_room exts room (two_of_one (specs_height ws) room (specs_high ws) words))
      (not_false (specs_no_extension s (kind_at (spec_words_text all ws tail)) begun)))
      (bind_is _ (specs_here_complete all n inner laws firsts Typed room (less_least room n less) ws s b.0 tail
      (fits.0, (fits.1, fits.2)) b.1 words (declrs_end_specs ds b.0 s' semi k fits.3 fits.4 b.2))
      (bind_is _ (mem_declrs_complete ds (room - 1) (inside_less room n less) b.0 s' semi k fits.3 fits.4 b.2 declrs)
      (bind_is _ refl (ap (λ (ds : MemDeclrs). done (found (member exts ws ds semi) s' k)) (mem_items_back ds)))))

  -- what a member begins with
  member_begins : (test : TokenKind → Bool) (exts : List ℕ) (ws : SpecWords) (s s' : HeldScopes) (k : List Lexeme)
      → ((kind : TokenKind) → begins_specs s kind ≡ true → test kind ≡ false) →
      test (kinds.Keyword keywords.Extension) ≡ false → IsMix ws → AreSpecWords all ws
      → spec_words_scopes ws s ≡ Some s' → test (kind_at (extensions_text exts (spec_words_text all ws k))) ≡ false
  member_begins test [] ws s s' k free ext mix fits scopes =
      free (kind_at (spec_words_text all ws k)) (firsts.words_begin ws s s' k mix fits scopes)
  member_begins test (x ∷ xs) ws s s' k free ext mix fits scopes = ext

  struct_item_complete : (room : ℕ) → room < n
      → IsComplete (struct_item_form all) always room (struct_item_with inner room)
  unfolding struct_item_with
  struct_item_complete room less (member exts ws ds semi) s s' k fits scopes low ended =
      let b = behind_ok (spec_words_scopes ws s) (mem_declrs_scopes ds) s' scopes in
      rw (
        member_begins is_semicolon exts ws s b.0 (mem_declrs_text all ds (sign_text puncts.Semicolon semi k))
            (specs_no_semicolon s) refl fits.0 fits.1 b.1,
        member_begins is_static_assert exts ws s b.0 (mem_declrs_text all ds (sign_text puncts.Semicolon semi k))
            (specs_no_static_assert s) refl fits.0 fits.1 b.1,
      )
      (member_complete exts ws ds semi room less s s' k fits scopes low)
  struct_item_complete room less (member_semi semi) s s' k fits scopes low ended =
      fits_is 1 room (sign_text puncts.Semicolon semi.token k) _ low
      ∙ bind_is _ refl (ap (λ (s : HeldScopes). done (found (member_semi semi) s k)) (some_same scopes))
  struct_item_complete room less (member_assert it) s s' k fits scopes low ended =
      fits_is 1 room (assert_text all it k) _ low
      ∙ bind_is _ (tokens.assert_complete room it s s' k fits scopes (omega arith) refl) refl

  item_begins : (x : StructItem) (s s' : HeldScopes) (k : List Lexeme) → IsStructItem all x
      → struct_item_scopes x s ≡ Some s' → not (is_close_brace (kind_at (struct_item_text all x k))) ≡ true
  item_begins (member exts ws ds semi) s s' k fits scopes =
      let b = behind_ok (spec_words_scopes ws s) (mem_declrs_scopes ds) s' scopes in
      not_false (member_begins is_close_brace exts ws s b.0 (mem_declrs_text all ds (sign_text puncts.Semicolon semi k))
      (specs_no_close_brace s) refl fits.0 fits.1 b.1)
  item_begins (member_semi semi) s s' k fits scopes = refl
  item_begins (member_assert it) s s' k fits scopes = refl

  items_complete : (items : StructItems) (room : ℕ) → room < n → (s s' : HeldScopes) (closing : ℕ) (k : List Lexeme)
      → AreStructItems all items → struct_items_scopes items s ≡ Some s' → struct_items_height items ≤ room →
      repeated (λ kind. not (is_close_brace kind)) (struct_item_with inner room) s
      (struct_items_text all items (sign_text puncts.CloseBrace closing k))
      ≡ done (found (struct_items items) s' (sign_text puncts.CloseBrace closing k))
  items_complete items room less s s' closing k fits scopes low =
      let back : struct_items_from (struct_items items) ≡ items = struct_items_back items in
      ap (repeated (λ kind. not (is_close_brace kind)) (struct_item_with inner room) s)
      (ap (λ (items : StructItems). struct_items_text all items (sign_text puncts.CloseBrace closing k)) (sym back)
      ∙ sym (items_are all (struct_items items) (sign_text puncts.CloseBrace closing k))) ∙
      repeated_complete (λ kind. not (is_close_brace kind)) (struct_item_with inner room)
      (struct_item_form all) always room (struct_item_shrinks all tokens n inner laws room)
      (struct_item_complete room less) item_begins (λ x kind e. refl) (struct_items items) s s'
      (sign_text puncts.CloseBrace closing k) (items_fit_back all items fits)
      (items_named all (struct_items items) s ∙ ap (λ (items : StructItems). struct_items_scopes items s) back ∙ scopes)
      (subst (λ (h : ℕ). h ≤ room)
      (sym (items_high all (struct_items items) ∙ ap struct_items_height back)) low) refl (λ x. refl)

  members_complete : (opening : ℕ) (items : StructItems) (closing : ℕ) (room : ℕ) → room < n
      → (s s' : HeldScopes) (k : List Lexeme) → AreStructItems all items → struct_items_scopes items s ≡ Some s' →
      struct_items_height items ≤ room - 1 → members_with inner room s
      (some_body_text all (some_body opening items closing) k) ≡ done (found (some_body opening items closing) s' k)
  unfolding members_with
  members_complete opening items closing room less s s' k fits scopes low =
      bind_is _ refl
      (bind_is _ (items_complete items (room - 1) (inside_less room n less) s s' closing k fits scopes low)
      (bind_is _ refl
      (ap (λ (items : StructItems). done (found (some_body opening items closing) s' k)) (struct_items_back items))))

  body_complete : (tag : Option Identifier) (body : SomeBody) (room : ℕ) → room < n
      → (s s' : HeldScopes) (k : List Lexeme) → HasTagOrBody tag body → IsBody all body
      → some_body_scopes body s ≡ Some s' →
      some_body_height body ≤ room - 1 → is_open_brace (kind_at k) ≡ false
      → body_with inner tag room s (some_body_text all body k) ≡ done (found body s' k)
  unfolding body_with
  body_complete None no_body room less s s' k has fits scopes low no_brace = absurd has
  body_complete (Some tag) no_body room less s s' k has fits scopes low no_brace =
      rw no_brace (ap (λ (s : HeldScopes). done (found no_body s k)) (some_same scopes))
  body_complete tag (some_body opening items closing) room less s s' k has fits scopes low no_brace =
      members_complete opening items closing room less s s' k fits scopes low

  -- behind the word and its attributes
  tag_begins : (tag : Option Identifier) (body : SomeBody) (k : List Lexeme) → HasTagOrBody tag body
      → not (is_attribute (kind_at (tag_text tag (some_body_text all body k)))) ≡ true
  tag_begins None no_body k has = absurd has
  tag_begins None (some_body opening items closing) k has = refl
  tag_begins (Some tag) body k has = refl

  tag_complete : (tag : Option Identifier) (body : SomeBody) (s : HeldScopes) (k : List Lexeme)
      → HasTagOrBody tag body →
      tag_at s (tag_text tag (some_body_text all body k)) ≡ done (found tag s (some_body_text all body k))
  tag_complete None no_body s k has = absurd has
  tag_complete None (some_body opening items closing) s k has = refl
  tag_complete (Some tag) body s k has = refl

  pub struct_complete : (word : Word) (attrs : List Attr) (tag : Option Identifier) (body : SomeBody) (room : ℕ)
      → room < n → (s s' : HeldScopes) (k : List Lexeme) → AreAttrs all attrs → HasTagOrBody tag body
      → IsBody all body →
      some_body_scopes body s ≡ Some s' → max (attrs_height attrs) (some_body_height body) + 1 ≤ room
      → is_open_brace (kind_at k) ≡ false →
      struct_with inner word.keyword room s (spec_word_text all (struct_type word attrs tag body) k)
      ≡ done (found (struct_type word attrs tag body) s' k)
  unfolding struct_with
  struct_complete word attrs tag body room less s s' k attrs_fit has fits scopes low no_brace =
      bind_is _ refl
      (bind_is _ (attrs_read attrs room s (tag_text tag (some_body_text all body k)) attrs_fit (attrs_room attrs room
      (left_of_two (attrs_height attrs) (some_body_height body) room low)) (tag_begins tag body k has))
      (bind_is _ (tag_complete tag body s k has)
      (bind_is _ (body_complete tag body room less s s' k has fits scopes (inside_low (some_body_height body) room
      (right_of_two (attrs_height attrs) (some_body_height body) room low)) no_brace) refl)))
