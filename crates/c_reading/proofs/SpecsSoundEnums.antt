-- What the readers of enums take is spelled so and well formed.
use Rattle.std.proofs.Common.{◌≡◌, ℕ, ◌≤◌, true, false, List, ◌∷◌, Option, Some, None, refl, sym, ◌∙◌, ap, subst, arith}
use Rattle.std.specs.Prelude.{◌+◌, ◌-◌, max}
use Rattle.c_words.specs.declared.kinds.TokenKind.TheVariants as kinds
use Rattle.c_words.specs.declared.kinds.Punct.TheVariants as puncts
use Rattle.c_words.specs.declared.kinds.Keyword.TheVariants as keywords
use Rattle.c_tree.specs.declared.lexeme.Lexeme.{Lexeme}
use Rattle.c_syntax.specs.declared.parts.Identifier.{Identifier}
use Rattle.c_tree.specs.Tree.{SpecWord, SomeEnumBody, no_enum_body, some_enum_body, Enumerators}
use Rattle.c_tree.specs.Text.{sign_text, keyword_text, tag_text, identifier_text, attrs_text, some_value_text, enumerators_text, some_sign_text, some_enum_body_text}
use Rattle.c_tree.specs.Height.{attrs_height, some_value_height, some_enum_body_height}
use Rattle.c_tree.specs.WellFormed.{AreAttrs, IsSomeValue, IsEnumBody, HasTagOrEnumBody}
use Rattle.typedef_scope.specs.declared.kind.Kind.TheVariants.{Constant}
use Rattle.c_units.specs.HeldScopes.{HeldScopes, innermost, leave, may_declare, is_name, declare, with_name}
use Rattle.c_units.specs.Scoping.{behind, some_value_scopes, some_enum_body_scopes, enumerators_scopes}
use Rattle.c_reading.specs.Reading.{Found, kind_at, Next, IsNumbered, IsTail}
use Rattle.c_reading.specs.Tokens.{is_equal, is_open_brace, is_close_brace}
use Rattle.c_reading.specs.Parts.{Inner, EnumItem, enumerators_from}
use Rattle.c_reading.specs.Specifying.{declared, enumerator_behind, enumerator_named, enumerator_with, next_enumerator, enumerators_with, enum_body_with, enum_with, without_body}
use Rattle.c_reading.proofs.Binding.{found, done, ok_is, bind_ok, fits_ok, if_ok}
use Rattle.c_reading.proofs.Forms.{Form, Takes, IsSound, at_end, behind_is, through, took, took_token, took_name, took_tag}
use Rattle.c_reading.proofs.Commas.{NextTakes, listed_sound, ending_text}
use Rattle.c_reading.proofs.KindFacts.{equal_kind, open_brace_kind, close_brace_kind}
use Rattle.c_reading.proofs.SpecsFalls.{enumerator_shrinks}
use Rattle.c_reading.proofs.SpecsLists.{comma_ending, enumerators_are, comma_ending_is, enumerators_fit, some_enumerators, enumerators_named, enumerators_high}
use Rattle.c_reading.proofs.SpecsSoundBodies.{attrs_low, two_low, same_scopes, value_sound, word_form}
use Rattle.c_reading.proofs.Aims.{enumerator_form, TokenLaws, Laws}

-- a name that may be declared
pub declare_is : (name : ℕ) (s : HeldScopes) → may_declare (innermost s) name Constant ≡ true
    → is_name (innermost s).held name ≡ false
    → declare name Constant s ≡ Some (with_name (innermost s) name Constant ∷ leave s)
declare_is name s may free = rw (free, may) refl

declared_ok : {A : Type 0} (a : A) (o : Option HeldScopes) (ts : List Lexeme) (x : Found A) → declared a o ts ≡ done x
    → (t : HeldScopes) × (o ≡ Some t) × (found a t ts ≡ x)
declared_ok a None ts x e = absurd cc
declared_ok a (Some t) ts x e = (t, refl, ok_is e)

module _ (all : List Lexeme) where
  abbrev pub enum_body_form : Option Identifier → Form SomeEnumBody
  enum_body_form tag = record {
    text = some_enum_body_text all;
    Fits = λ b. HasTagOrEnumBody tag b × IsEnumBody all b;
    scopes = some_enum_body_scopes;
    height = some_enum_body_height;
  }

  module _ (numbered : IsNumbered all) (tokens : TokenLaws all) (n : ℕ) (inner : Inner) (laws : Laws all n inner) where
    -- an enumerator behind its name, where this was declared before its value
    record Behind (name : Identifier) (room : ℕ) (s : HeldScopes) (ts : List Lexeme) (x : Found EnumItem) : Type 0 where
      pub name_is : x.tree.name ≡ name
      pub spelled : ts ≡ attrs_text all x.tree.attrs (some_value_text all puncts.Equal x.tree.value x.rest)
      pub fits : AreAttrs all x.tree.attrs × IsSomeValue all x.tree.value
      pub named : behind (some_value_scopes x.tree.value s) (declare name.name Constant) ≡ Some x.scopes
      pub low : max (attrs_height x.tree.attrs) (some_value_height x.tree.value) + 1 ≤ room
      pub left : IsTail all x.rest

    behind_sound : (name : Identifier) (room : ℕ) (s : HeldScopes) (ts : List Lexeme) (x : Found EnumItem)
        → IsTail all ts → 1 ≤ room → enumerator_behind inner name room s ts ≡ done x → Behind name room s ts x
    unfolding enumerator_behind
    behind_sound name room s ts x tail one e =
        let a = bind_ok e in
        let b = bind_ok a.2 in
        let d = declared_ok _ (declare name.name Constant b.0.scopes) b.0.rest x b.2 in
        let q = tokens.attrs_sound room s ts a.0 tail a.1 in
        let v = value_sound all numbered tokens n inner laws is_equal puncts.Equal equal_kind room a.0.scopes a.0.rest
        b.0 q.left b.1 in
        subst (Behind name room s ts) d.2 (record {
          name_is = refl;
          spelled = q.spelled ∙ ap (attrs_text all a.0.tree) v.spelled;
          fits = (q.fits, v.fits);
          named = behind_is (declare name.name Constant)
              (through (some_value_scopes b.0.tree) (same_scopes q.named) v.named refl) d.1;
          low = two_low (attrs_height a.0.tree) (some_value_height b.0.tree) room one
              (attrs_low a.0.tree room q.low) v.low;
          left = v.left;
        })

    -- a name that may be declared, and what stands behind it
    named_sound : (name : Identifier) (room : ℕ) (at : List Lexeme) (s : HeldScopes) (ts : List Lexeme)
        (x : Found EnumItem)
        → IsTail all ts → enumerator_named inner name room at s ts ≡ done x →
        (t : HeldScopes) × (declare name.name Constant s ≡ Some t) × Behind name room s ts x
    unfolding enumerator_named
    named_sound name room at s ts x tail e =
        if_ok (may_declare (innermost s) name.name Constant) e
        (λ may e. if_ok (is_name (innermost s).held name.name) e
        (λ held e. absurd cc)
        (λ free e. let r = fits_ok 1 room at e in (
          with_name (innermost s) name.name Constant ∷ leave s,
          declare_is name.name s may free,
          behind_sound name room s ts x tail r.0 r.1,
        )))
        (λ may e. absurd cc)

    enumerator_sound : (room : ℕ) → IsSound all (enumerator_form all) room (enumerator_with inner room)
    unfolding enumerator_with
    enumerator_sound room s ts x tail e =
        let a = bind_ok e in
        let o = took_name all s ts a.0 tail a.1 in
        let i = named_sound a.0.tree room ts a.0.scopes a.0.rest x o.left a.2 in
        takes a.0 o.spelled o.same i.0 i.1 i.2
      where
        takes : (y : Found Identifier) → ts ≡ identifier_text y.tree y.rest → y.scopes ≡ s → (t : HeldScopes)
            → declare y.tree.name Constant y.scopes ≡ Some t → Behind y.tree room y.scopes y.rest x →
            Takes all (enumerator_form all) room s ts x
        takes y spelled same t declared i = record {
          spelled = spelled ∙ ap (identifier_text y.tree) i.spelled ∙ ap (λ (name : Identifier). identifier_text name
              (attrs_text all x.tree.attrs (some_value_text all puncts.Equal x.tree.value x.rest))) (sym i.name_is);
          fits = i.fits;
          named = ap (λ (name : Identifier). behind (declare name.name Constant s)
              (λ t. behind (some_value_scopes x.tree.value s) (declare name.name Constant))) i.name_is ∙
              behind_is (λ (t : HeldScopes). behind (some_value_scopes x.tree.value s) (declare y.tree.name Constant))
              (subst (λ (s : HeldScopes). declare y.tree.name Constant s ≡ Some t) same declared)
              (subst (λ (s : HeldScopes). behind (some_value_scopes x.tree.value s) (declare y.tree.name Constant)
              ≡ Some x.scopes) same i.named);
          low = i.low;
          left = i.left;
        }

    next_enumerator_sound : (room comma : ℕ) (s : HeldScopes) (ts : List Lexeme) (x : Found (Next EnumItem ℕ))
        → IsTail all ts → next_enumerator inner room comma s ts ≡ done x →
        NextTakes all (enumerator_form all) comma_ending room comma s ts x.tree x.scopes x.rest
    unfolding next_enumerator
    next_enumerator_sound room comma s ts x tail e =
        if_ok (is_close_brace (kind_at ts)) e
        (λ is e. at_end (λ (x : Found (Next EnumItem ℕ)). NextTakes all
        (enumerator_form all) comma_ending room comma s ts x.tree x.scopes x.rest) e (refl, tt, refl, tail))
        (λ is e. let a = bind_ok e in
        at_end (λ (x : Found (Next EnumItem ℕ)). NextTakes all
        (enumerator_form all) comma_ending room comma s ts x.tree x.scopes x.rest) a.2
        (enumerator_sound room s ts a.0 tail a.1, enumerator_shrinks all tokens n inner laws room s ts a.0 a.1))

    enumerators_sound : (tag : Option Identifier) (room : ℕ) (s : HeldScopes) (ts : List Lexeme)
        (x : Found SomeEnumBody)
        → IsTail all ts → is_open_brace (kind_at ts) ≡ true → enumerators_with inner room s ts ≡ done x →
        Takes all (enum_body_form tag) (room - 1) s ts x
    unfolding enumerators_with
    enumerators_sound tag room s ts x tail is e =
        let r = fits_ok 2 room ts e in
        let a = bind_ok r.1 in
        let b = bind_ok a.2 in
        let c = bind_ok b.2 in
        let o = took all (kinds.Punct puncts.OpenBrace) s ts a.0 tail (open_brace_kind (kind_at ts) is) a.1 in
        let i = listed_sound (enumerator_with inner (room - 1)) (next_enumerator inner (room - 1)) all numbered
        (enumerator_form all) comma_ending (room - 1)
        (enumerator_sound (room - 1)) (next_enumerator_sound (room - 1)) a.0.scopes a.0.rest b.0 o.left b.1 in
        let q = took_token all is_close_brace
        (kinds.Punct puncts.CloseBrace) close_brace_kind b.0.scopes b.0.rest c.0 i.left c.1 in
        at_end (Takes all (enum_body_form tag) (room - 1) s ts) c.2 (record {
          spelled = o.spelled ∙ ap (sign_text puncts.OpenBrace a.0.tree) (i.spelled ∙ enumerators_are all b.0.tree.items
              (ending_text (enumerator_form all) comma_ending b.0.tree.ending b.0.rest) ∙
              ap (enumerators_text all (enumerators_from b.0.tree.items)) (comma_ending_is all b.0.tree.ending b.0.rest
              ∙ ap (some_sign_text puncts.Comma b.0.tree.ending) q.spelled));
          fits = (
            has tag a.0.tree (enumerators_from b.0.tree.items) b.0.tree.ending c.0.tree,
            (some_enumerators all b.0.tree.items i.fits.0, enumerators_fit all b.0.tree.items i.fits.1),
          );
          named = through (enumerators_scopes (enumerators_from b.0.tree.items)) o.same
              (sym (enumerators_named all b.0.tree.items a.0.scopes) ∙ i.named) q.same;
          low = subst (λ (h : ℕ). h ≤ room - 1) (enumerators_high all b.0.tree.items) i.low;
          left = q.left;
        })
      where
        has : (tag : Option Identifier) (opening : ℕ) (es : Enumerators) (last : Option ℕ) (closing : ℕ)
            → HasTagOrEnumBody tag (some_enum_body opening es last closing)
        has None opening es last closing = tt
        has (Some tag) opening es last closing = tt

    without_enum_sound : (tag : Option Identifier) (room : ℕ)
        → IsSound all (enum_body_form tag) room (without_body tag no_enum_body)
    without_enum_sound None room s ts x tail e = absurd cc
    without_enum_sound (Some tag) room s ts x tail e =
        at_end (Takes all (enum_body_form (Some tag)) room s ts) e
        (record { spelled = refl; fits = (tt, tt); named = refl; low = omega arith; left = tail })

    enum_body_sound : (tag : Option Identifier) (room : ℕ)
        → IsSound all (enum_body_form tag) (room - 1) (enum_body_with inner tag room)
    unfolding enum_body_with
    enum_body_sound tag room s ts x tail e =
        if_ok (is_open_brace (kind_at ts)) e (λ is e. enumerators_sound tag room s ts x tail is e)
        (λ is e. without_enum_sound tag (room - 1) s ts x tail e)

    pub enum_sound : (room : ℕ) (s : HeldScopes) (ts : List Lexeme) (x : Found SpecWord) → IsTail all ts
        → kind_at ts ≡ kinds.Keyword keywords.Enum → 1 ≤ room → enum_with inner room s ts ≡ done x →
        Takes all (word_form all) room s ts x
    unfolding enum_with
    enum_sound room s ts x tail is one e =
        let a = bind_ok e in
        let b = bind_ok a.2 in
        let c = bind_ok b.2 in
        let d = bind_ok c.2 in
        let o = took all (kinds.Keyword keywords.Enum) s ts a.0 tail is a.1 in
        let q = tokens.attrs_sound room a.0.scopes a.0.rest b.0 o.left b.1 in
        let t = took_tag all b.0.scopes b.0.rest c.0 q.left c.1 in
        let i = enum_body_sound c.0.tree room c.0.scopes c.0.rest d.0 t.left d.1 in
        at_end (Takes all (word_form all) room s ts) d.2 (record {
          spelled = o.spelled ∙ ap (keyword_text keywords.Enum a.0.tree)
              (q.spelled ∙ ap (attrs_text all b.0.tree) (t.spelled ∙ ap (tag_text c.0.tree) i.spelled));
          fits = (q.fits, i.fits.0, i.fits.1);
          named = through (some_enum_body_scopes d.0.tree) (t.same ∙ same_scopes q.named ∙ o.same) i.named refl;
          low = two_low (attrs_height b.0.tree) (some_enum_body_height d.0.tree) room one
              (attrs_low b.0.tree room q.low) i.low;
          left = i.left;
        })
