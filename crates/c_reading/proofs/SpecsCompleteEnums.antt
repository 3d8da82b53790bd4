-- Enums are read from their text.
use Rattle.std.proofs.Common.{◌≡◌, ◌≢◌, ℕ, ◌<◌, ◌≤◌, Bool, true, false, List, ◌∷◌, Option, Some, None, refl, sym, ◌∙◌, ap, subst, arith}
use Rattle.std.specs.Prelude.{◌+◌, ◌-◌, max, not, if◌then◌else◌}
use Rattle.qual_base.proofs.Tests.{and_second, and_first}
use Rattle.c_words.specs.declared.kinds.TokenKind.{TokenKind}
use Rattle.c_words.specs.declared.kinds.TokenKind.TheVariants as kinds
use Rattle.c_words.specs.declared.kinds.Punct.TheVariants as puncts
use Rattle.c_tree.specs.declared.lexeme.Lexeme.{Lexeme}
use Rattle.c_syntax.specs.declared.parts.Identifier.{Identifier}
use Rattle.c_syntax.specs.declared.parts.Attr.{Attr}
use Rattle.c_tree.specs.Tree.{enum_type, enum_of, SomeValue, no_value, some_value, SomeEnumBody, no_enum_body, some_enum_body, Enumerators, no_enumerators, more_enumerators}
use Rattle.c_tree.specs.Text.{sign_text, tag_text, attrs_text, some_value_text, enumerators_text, some_sign_text, some_enum_body_text, spec_word_text}
use Rattle.c_tree.specs.Height.{attrs_height, some_value_height, some_enum_body_height, enumerators_height}
use Rattle.c_tree.specs.WellFormed.{AreAttrs, IsSomeValue, IsEnumBody, AreEnumerators, HasTagOrEnumBody}
use Rattle.typedef_scope.specs.declared.kind.Kind.TheVariants.{Constant}
use Rattle.c_units.specs.HeldScopes.{HeldScopes, innermost, leave, may_declare, is_name, declare, with_name}
use Rattle.c_units.specs.Scoping.{behind, some_value_scopes, some_enum_body_scopes, enumerators_scopes}
use Rattle.c_reading.specs.declared.kinds.Reach.TheVariants.{Conditional}
use Rattle.c_reading.specs.Reading.{kind_at, listed, one_more, IsNumbered}
use Rattle.c_reading.specs.Tokens.{is_equal, is_open_brace, is_attribute, tag_at}
use Rattle.c_reading.specs.Parts.{Inner, EnumItem, enumerators_from}
use Rattle.c_reading.specs.Specifying.{declared, enumerator_behind, enumerator_named, enumerator_with, next_enumerator, enumerators_with, enum_body_with, enum_with}
use Rattle.c_reading.proofs.Binding.{found, done, bind_is, fits_is}
use Rattle.c_reading.proofs.Forms.{IsComplete, behind_ok}
use Rattle.c_reading.proofs.Commas.{commas_text, ending_text, listed_complete, IsListEnd}
use Rattle.c_reading.proofs.KindFacts.{not_false}
use Rattle.c_reading.proofs.SpecsFalls.{next_enumerator_falls}
use Rattle.c_reading.proofs.SpecsLists.{enum_items, enum_items_back, comma_ending, enumerators_are, comma_ending_is, enumerators_fit_back, some_enumerators_back, enumerators_named, enumerators_high}
use Rattle.c_reading.proofs.SpecsCompleteBodies.{attrs_room, left_of_two, right_of_two, inside_low, inside_less, some_same, attrs_read, value_complete}
use Rattle.c_reading.proofs.Aims.{enumerator_form, ends_expr, ends_enumerator, TokenLaws, FirstLaws, Laws}

-- a name that was declared
declare_parts : (name : ℕ) (s t : HeldScopes) → declare name Constant s ≡ Some t
    → (may_declare (innermost s) name Constant ≡ true) × (is_name (innermost s).held name ≡ false)
declare_parts name s t e =
    by_held (is_name (innermost s).held name) (may_declare (innermost s) name Constant) refl refl e
  where
    by_held : (a b : Bool) → is_name (innermost s).held name ≡ a → may_declare (innermost s) name Constant ≡ b →
        (if a then None else if b then Some (with_name (innermost s) name Constant ∷ leave s) else None) ≡ Some t
        → (may_declare (innermost s) name Constant ≡ true) × (is_name (innermost s).held name ≡ false)
    by_held true b held may e = absurd cc
    by_held false true held may e = (may, held)
    by_held false false held may e = absurd cc

-- an expression goes on with `=`, which it cannot have
expr_no_equal : (kind : TokenKind) → ends_expr Conditional kind ≡ true → is_equal kind ≡ false
expr_no_equal (kinds.Punct puncts.Equal) e = absurd cc
expr_no_equal kind e = refl

one_of_more : (a room : ℕ) → a + 1 ≤ room → 1 ≤ room
one_of_more a room h = omega (arith, h)

two_of_items : (a room : ℕ) → 1 ≤ a → a ≤ room - 1 → 2 ≤ room
two_of_items a room one h = omega (arith, one, h)

enumerators_some : (es : Enumerators) → es ≢ no_enumerators → 1 ≤ enumerators_height es
enumerators_some no_enumerators h = absurd (h refl)
enumerators_some (more_enumerators name attrs value es) h = omega arith

module _ (all : List Lexeme) (numbered : IsNumbered all) (tokens : TokenLaws all) (firsts : FirstLaws all) (n : ℕ)
    (inner : Inner) (laws : Laws all n inner) where
  enumerator_no_attribute : (kind : TokenKind) → ends_enumerator kind ≡ true → not (is_attribute kind) ≡ true
  enumerator_no_attribute kind e = and_second (ends_expr Conditional kind) (not (is_attribute kind)) e

  value_no_attribute : (value : SomeValue) (k : List Lexeme) → ends_enumerator (kind_at k) ≡ true
      → not (is_attribute (kind_at (some_value_text all puncts.Equal value k))) ≡ true
  value_no_attribute no_value k ended = enumerator_no_attribute (kind_at k) ended
  value_no_attribute (some_value token e) k ended = refl

  behind_complete : (x : EnumItem) (room : ℕ) → room < n → (s t s' : HeldScopes) (k : List Lexeme)
      → AreAttrs all x.attrs → IsSomeValue all x.value → some_value_scopes x.value s ≡ Some t
      → declare x.name.name Constant t ≡ Some s' →
      max (attrs_height x.attrs) (some_value_height x.value) + 1 ≤ room → ends_enumerator (kind_at k) ≡ true →
      enumerator_behind inner x.name room s (attrs_text all x.attrs (some_value_text all puncts.Equal x.value k))
      ≡ done (found x s' k)
  unfolding enumerator_behind
  behind_complete x room less s t s' k attrs_fit value_fits named is_declared low ended =
      let expr_ends : ends_expr Conditional (kind_at k) ≡ true =
      and_first (ends_expr Conditional (kind_at k)) (not (is_attribute (kind_at k))) ended in
      bind_is _ (attrs_read all numbered tokens firsts n inner laws x.attrs room s
      (some_value_text all puncts.Equal x.value k) attrs_fit
      (attrs_room x.attrs room (left_of_two (attrs_height x.attrs) (some_value_height x.value) room low))
      (value_no_attribute x.value k ended))
      (bind_is _ (value_complete all numbered tokens firsts n inner laws is_equal puncts.Equal refl room less x.value s
      t k value_fits named
      (inside_low (some_value_height x.value) room
      (right_of_two (attrs_height x.attrs) (some_value_height x.value) room low)) expr_ends
      (not_false (expr_no_equal (kind_at k) expr_ends)))
      (ap (λ (o : Option HeldScopes). declared x o k) is_declared))

  named_complete : (x : EnumItem) (room : ℕ) → room < n → (at : List Lexeme) (s s' : HeldScopes) (k : List Lexeme)
      → (enumerator_form all).Fits x → (enumerator_form all).scopes x s ≡ Some s'
      → (enumerator_form all).height x ≤ room →
      ends_enumerator (kind_at k) ≡ true → enumerator_named inner x.name room at s
      (attrs_text all x.attrs (some_value_text all puncts.Equal x.value k)) ≡ done (found x s' k)
  unfolding enumerator_named
  named_complete x room less at s s' k fits scopes low ended =
      let b = behind_ok (declare x.name.name Constant s)
      (λ t. behind (some_value_scopes x.value s) (declare x.name.name Constant)) s' scopes in
      let c = behind_ok (some_value_scopes x.value s) (declare x.name.name Constant) s' b.2 in
      let d = declare_parts x.name.name s b.0 b.1 in
      rw (d.0, d.1)
      (fits_is 1 room at _ (one_of_more (max (attrs_height x.attrs) (some_value_height x.value)) room low) ∙
      behind_complete x room less s c.0 s' k fits.0 fits.1 c.1 c.2 low ended)

  enumerator_complete : (room : ℕ) → room < n
      → IsComplete (enumerator_form all) (λ x. ends_enumerator) room (enumerator_with inner room)
  unfolding enumerator_with
  enumerator_complete room less x s s' k fits scopes low ended =
      bind_is _ refl (named_complete x room less ((enumerator_form all).text x k) s s' k fits scopes low ended)

  next_enumerator_complete : (room : ℕ) → room < n → (comma : ℕ) (x : EnumItem) (s s' : HeldScopes) (k : List Lexeme)
      → (enumerator_form all).Fits x → (enumerator_form all).scopes x s ≡ Some s'
      → (enumerator_form all).height x ≤ room →
      ends_enumerator (kind_at k) ≡ true
      → next_enumerator inner room comma s ((enumerator_form all).text x k) ≡ done (found (one_more x) s' k)
  unfolding next_enumerator
  next_enumerator_complete room less comma x s s' k fits scopes low ended =
      bind_is _ (enumerator_complete room less x s s' k fits scopes low ended) refl

  -- what may end the list
  list_ends : (room : ℕ) (less : room < n) (last : Option ℕ) (s : HeldScopes) (closing : ℕ) (k : List Lexeme) →
      IsListEnd (enumerator_with inner room) (next_enumerator inner room) (enumerator_form all) comma_ending
      (λ x. ends_enumerator) room (next_enumerator_falls all tokens n inner laws room)
      (enumerator_complete room less) (next_enumerator_complete room less) (λ x. refl) last s
      (sign_text puncts.CloseBrace closing k)
  unfolding next_enumerator
  list_ends room less None s closing k = (refl, λ x. refl)
  list_ends room less (Some comma) s closing k = (comma, sign_text puncts.CloseBrace closing k, refl, refl)

  items_complete : (es : Enumerators) (last : Option ℕ) (room : ℕ) → room < n
      → (s s' : HeldScopes) (closing : ℕ) (k : List Lexeme) → es ≢ no_enumerators → AreEnumerators all es
      → enumerators_scopes es s ≡ Some s' →
      enumerators_height es ≤ room → listed (enumerator_with inner room) (next_enumerator inner room) s
      (enumerators_text all es (some_sign_text puncts.Comma last (sign_text puncts.CloseBrace closing k))) ≡
      done (found (record { items = enum_items es; ending = last }) s' (sign_text puncts.CloseBrace closing k))
  items_complete es last room less s s' closing k some fits scopes low =
      let items = enum_items es in
      let back : enumerators_from items ≡ es = enum_items_back es in
      let more = sign_text puncts.CloseBrace closing k in
      let text : enumerators_text all es (some_sign_text puncts.Comma last more) ≡ commas_text
      (enumerator_form all) comma_ending items (ending_text (enumerator_form all) comma_ending last more) =
      ap (enumerators_text all es) (sym (comma_ending_is all last more)) ∙
      ap (λ (es : Enumerators). enumerators_text all es
      (ending_text (enumerator_form all) comma_ending last more)) (sym back) ∙
      sym (enumerators_are all items (ending_text (enumerator_form all) comma_ending last more)) in
      ap (listed (enumerator_with inner room) (next_enumerator inner room) s) text ∙
      listed_complete (enumerator_with inner room) (next_enumerator inner room) (enumerator_form all) comma_ending
      (λ x. ends_enumerator) room (next_enumerator_falls all tokens n inner laws room)
      (enumerator_complete room less) (next_enumerator_complete room less) (λ x. refl)
      (record { items = items; ending = last }) s s' more
      (some_enumerators_back all es some) (enumerators_fit_back all es fits)
      (enumerators_named all items s ∙ ap (λ (es : Enumerators). enumerators_scopes es s) back ∙ scopes)
      (subst (λ (h : ℕ). h ≤ room) (sym (enumerators_high all items ∙ ap enumerators_height back)) low)
      (list_ends room less last s' closing k)

  enumerators_complete : (opening : ℕ) (es : Enumerators) (last : Option ℕ) (closing : ℕ) (room : ℕ) → room < n
      → (s s' : HeldScopes) (k : List Lexeme) → es ≢ no_enumerators → AreEnumerators all es →
      enumerators_scopes es s ≡ Some s' → enumerators_height es ≤ room - 1 →
      enumerators_with inner room s (some_enum_body_text all (some_enum_body opening es last closing) k)
      ≡ done (found (some_enum_body opening es last closing) s' k)
  unfolding enumerators_with
  enumerators_complete opening es last closing room less s s' k some fits scopes low =
      fits_is 2 room (some_enum_body_text all (some_enum_body opening es last closing) k) _
      (two_of_items (enumerators_height es) room (enumerators_some es some) low) ∙
      bind_is _ refl
      (bind_is _ (items_complete es last (room - 1) (inside_less room n less) s s' closing k some fits scopes low)
      (bind_is _ refl
      (ap (λ (es : Enumerators). done (found (some_enum_body opening es last closing) s' k)) (enum_items_back es))))

  enum_body_complete : (tag : Option Identifier) (body : SomeEnumBody) (room : ℕ) → room < n
      → (s s' : HeldScopes) (k : List Lexeme) → HasTagOrEnumBody tag body → IsEnumBody all body
      → some_enum_body_scopes body s ≡ Some s' →
      some_enum_body_height body ≤ room - 1 → is_open_brace (kind_at k) ≡ false
      → enum_body_with inner tag room s (some_enum_body_text all body k) ≡ done (found body s' k)
  unfolding enum_body_with
  enum_body_complete None no_enum_body room less s s' k has fits scopes low no_brace = absurd has
  enum_body_complete (Some tag) no_enum_body room less s s' k has fits scopes low no_brace =
      rw no_brace (ap (λ (s : HeldScopes). done (found no_enum_body s k)) (some_same scopes))
  enum_body_complete tag (some_enum_body opening es last closing) room less s s' k has fits scopes low no_brace =
      enumerators_complete opening es last closing room less s s' k fits.0 fits.1 scopes low

  tag_begins : (tag : Option Identifier) (body : SomeEnumBody) (k : List Lexeme) → HasTagOrEnumBody tag body
      → not (is_attribute (kind_at (tag_text tag (some_enum_body_text all body k)))) ≡ true
  tag_begins None no_enum_body k has = absurd has
  tag_begins None (some_enum_body opening es last closing) k has = refl
  tag_begins (Some tag) body k has = refl

  tag_complete : (tag : Option Identifier) (body : SomeEnumBody) (s : HeldScopes) (k : List Lexeme)
      → HasTagOrEnumBody tag body
      → tag_at s (tag_text tag (some_enum_body_text all body k)) ≡ done (found tag s (some_enum_body_text all body k))
  tag_complete None no_enum_body s k has = absurd has
  tag_complete None (some_enum_body opening es last closing) s k has = refl
  tag_complete (Some tag) body s k has = refl

  pub enum_complete : (keyword : ℕ) (attrs : List Attr) (tag : Option Identifier) (body : SomeEnumBody) (room : ℕ)
      → room < n → (s s' : HeldScopes) (k : List Lexeme) → AreAttrs all attrs → HasTagOrEnumBody tag body
      → IsEnumBody all body →
      some_enum_body_scopes body s ≡ Some s' → max (attrs_height attrs) (some_enum_body_height body) + 1 ≤ room
      → is_open_brace (kind_at k) ≡ false →
      enum_with inner room s (spec_word_text all (enum_type (enum_of keyword attrs tag body)) k)
      ≡ done (found (enum_type (enum_of keyword attrs tag body)) s' k)
  unfolding enum_with
  enum_complete keyword attrs tag body room less s s' k attrs_fit has fits scopes low no_brace =
      bind_is _ refl
      (bind_is _ (attrs_read all numbered tokens firsts n inner laws attrs room s
      (tag_text tag (some_enum_body_text all body k)) attrs_fit
      (attrs_room attrs room (left_of_two (attrs_height attrs) (some_enum_body_height body) room low))
      (tag_begins tag body k has))
      (bind_is _ (tag_complete tag body s k has)
      (bind_is _ (enum_body_complete tag body room less s s' k has fits scopes (inside_low (some_enum_body_height body)
      room (right_of_two (attrs_height attrs) (some_enum_body_height body) room low)) no_brace) refl)))
