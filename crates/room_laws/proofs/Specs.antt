-- Specifiers, declarators and names of types with more room.
use Rattle.std.proofs.Common.{◌≡◌, ℕ, suc, ◌<◌, ◌≤◌, Bool, true, false, List, [], ◌∷◌, ◌++◌, ◌⊎◌, inl, inr, Option, None, Ok, refl, sym, ◌∙◌, ap, arith}
use Rattle.std.specs.Prelude.{◌-◌, max, not}
use Rattle.c_words.specs.declared.kinds.TokenKind.{TokenKind}
use Rattle.c_words.specs.declared.kinds.Keyword.{Keyword}
use Rattle.c_tree.specs.declared.lexeme.Lexeme.{Lexeme}
use Rattle.c_syntax.specs.declared.parts.Identifier.{Identifier}
use Rattle.c_syntax.specs.declared.parts.Attr.{Attr}
use Rattle.c_tree.specs.Tree.{SpecWords, no_words}
use Rattle.c_tree.specs.Height.{specs_height}
use Rattle.c_specs.specs.Mix.{goes_on, is_typed}
use Rattle.typedef_scope.specs.declared.kind.Kind.{Kind}
use Rattle.typedef_scope.specs.declared.kind.Kind.TheVariants.{Constant}
use Rattle.c_units.specs.HeldScopes.{HeldScopes, innermost, may_declare, is_name}
use Rattle.c_reading.specs.declared.kinds.Reach.TheVariants.{Conditional, Whole}
use Rattle.c_reading.specs.declared.kinds.Role.{Role}
use Rattle.c_reading.specs.declared.kinds.Role.TheVariants.{Typed}
use Rattle.c_reading.specs.declared.kinds.Mode.TheVariants.{Named}
use Rattle.c_reading.specs.declared.kinds.SpecStart.{SpecStart}
use Rattle.c_reading.specs.declared.kinds.SpecStart.TheVariants as starts
use Rattle.c_reading.specs.Reading.{Found, Reader, ends, take_one, kind_at, fits, run, repeated, repeated_turn, and_then, token_at}
use Rattle.c_reading.specs.Tokens.{is_open_brace, is_close_brace, is_semicolon, is_colon, is_equal, is_static_assert, is_attribute, is_extension, begins_pointer_word, name_at, tag_at, attr_at, attrs_at, extensions_at, pointer_word_at, pointer_words_at, is_open_paren, align_at}
use Rattle.c_reading.specs.Parts.{Inner, nothing}
use Rattle.c_reading.specs.Specifying.{begins_specs, is_start, start_at, class_of_start, may_stand, least_of, specs_here, value_with, named_declr, width_with, field_with, mem_declr_with, first_member, next_member, mem_declrs_with, member_with, struct_item_with, members_with, body_with, struct_with, enumerator_behind, enumerator_named, enumerator_with, next_enumerator, enumerators_with, enum_body_with, enum_with, word_by, word_with, word_turn, specs_with, ends_before, typed_word_with, typeof_value_with, typeof_with, atomic_with, begins_role}
use Rattle.c_reading.specs.Declaring.{are_none}
use Rattle.c_reading.proofs.Binding.{found, done, ok_is, bind_ok, fits_ok, if_ok}
use Rattle.c_reading.proofs.Loops.{after, run_is}
use Rattle.c_reading.proofs.Forms.{Shrinks}
use Rattle.c_reading.proofs.Rows.{row_turn_shrinks}
use Rattle.c_reading.proofs.KnotLaws.{none_tokens}
use Rattle.room_laws.specs.Rooms.{More, InnerMore}
use Rattle.room_laws.proofs.More.{more_same, more_bind, more_behind, more_fits, more_if, more_guarded, more_run, more_repeated, more_listed, more_unless}

module _ (room wide : ℕ) (wider : room ≤ wide) where
  pub attrs_more : (s : HeldScopes) (ts : List Lexeme) → More (attrs_at room s ts) (attrs_at wide s ts)
  unfolding attrs_at
  attrs_more s ts =
      more_repeated is_attribute _ _ (λ s ts. more_fits 2 room wide ts _ _ wider (λ two. more_same (attr_at s ts))) s ts

  pub exts_more : (s : HeldScopes) (ts : List Lexeme) → More (extensions_at room s ts) (extensions_at wide s ts)
  unfolding extensions_at
  exts_more s ts =
      more_repeated is_extension _ _
      (λ s ts. more_fits 2 room wide ts _ _ wider (λ two. more_same (take_one s ts))) s ts

  pub pointer_words_more : (s : HeldScopes) (ts : List Lexeme)
      → More (pointer_words_at room s ts) (pointer_words_at wide s ts)
  unfolding pointer_words_at pointer_word_at
  pointer_words_more s ts =
      more_repeated begins_pointer_word (pointer_word_at room) (pointer_word_at wide)
      (λ s ts. more_if (is_attribute (kind_at ts)) _ _ _ _ (more_fits 2 room wide ts _ _ wider (λ two. more_same _))
      (more_same _)) s ts

-- some attributes, for which there was room
pub attrs_lead : (room : ℕ) (s : HeldScopes) (ts : List Lexeme) (x : Found (List Attr)) → attrs_at room s ts ≡ Ok x
    → (are_none x.tree ≡ true) ⊎ (1 ≤ room - 1)
unfolding attrs_at repeated
attrs_lead room s ts x e = by_test (is_attribute (kind_at ts)) refl
  where
    item : Reader Attr
    item s ts = fits 2 room ts (attr_at s ts)

    item_shrinks : Shrinks item
    item_shrinks s ts x e = none_tokens.attr_shrinks s ts x (fits_ok 2 room ts e).1

    now : after (repeated_turn is_attribute item [] s ts) [] s ts (run (repeated_turn is_attribute item)) ≡ done x
    now = sym (run_is (repeated_turn is_attribute item) (row_turn_shrinks is_attribute item item_shrinks) [] s ts) ∙ e

    by_test : (b : Bool) → is_attribute (kind_at ts) ≡ b → (are_none x.tree ≡ true) ⊎ (1 ≤ room - 1)
    by_test false is =
        let same : done (found [] s ts) ≡ done x = rw is at now in
        inl (sym (ap (λ (x : Found (List Attr)). are_none x.tree) (ok_is same)))
    by_test true is =
        let on : and_then (and_then (item s ts) (λ x. ends ([] ++ x.tree ∷ []) x.scopes x.rest))
        (λ x. run (repeated_turn is_attribute item) x.tree x.scopes x.rest) ≡ done x = rw is at now in
        let a = bind_ok on in
        let b = bind_ok a.1 in
        let two = (fits_ok 2 room ts b.1).0 in
        inr (omega (arith, two))

module _ (n : ℕ) (inner other : Inner) (m : InnerMore n inner other) where
  module _ (room wide : ℕ) (less : room < suc n) (wider : room ≤ wide) where
    pub specs_here_more : (role : Role) (s : HeldScopes) (ts : List Lexeme)
        → More (specs_here inner role room s ts) (specs_here other role wide s ts)
    unfolding specs_here
    specs_here_more role s ts =
        more_if (begins_role role s (kind_at ts)) _ _ _ _ (more_fits 2 room wide ts _ _ wider (λ two.
        m.words role no_words (room - 1) (wide - 1) (omega (arith, less, two)) (omega (arith, wider)) s ts)) (inr refl)

    pub value_more : (test : TokenKind → Bool) (s : HeldScopes) (ts : List Lexeme)
        → More (value_with inner test room s ts) (value_with other test wide s ts)
    unfolding value_with
    value_more test s ts =
        more_if (test (kind_at ts)) _ _ _ _
        (more_fits 2 room wide ts _ _ wider (λ two. more_bind _ _ _ _ (more_same (take_one s ts))
        (λ token. more_bind _ _ _ _ (m.exprs Conditional nothing (room - 1) (wide - 1) (omega (arith, less, two))
        (omega (arith, wider)) token.scopes token.rest) (λ e. refl)))) refl

    width_more : (s : HeldScopes) (ts : List Lexeme) → More (width_with inner room s ts) (width_with other wide s ts)
    unfolding width_with
    width_more s ts =
        more_fits 2 room wide ts _ _ wider (λ two. more_bind _ _ _ _ (more_same (take_one s ts))
        (λ colon. more_bind _ _ _ _ (m.exprs Conditional nothing (room - 1) (wide - 1) (omega (arith, less, two))
        (omega (arith, wider)) colon.scopes colon.rest)
        (λ e. more_bind _ _ _ _ (attrs_more room wide wider e.scopes e.rest) (λ attrs. refl))))

  pub named_declr_more : (wanted : Option Kind) (room wide : ℕ) → room < n → room ≤ wide
      → (s : HeldScopes) (ts : List Lexeme)
      → More (named_declr inner wanted room s ts) (named_declr other wanted wide s ts)
  unfolding named_declr
  named_declr_more wanted room wide less wider s ts =
      more_bind _ _ _ _ (m.declrs Named wanted false room wide less wider s ts) (λ d. more_same _)

  module _ (room wide : ℕ) (less : room < suc n) (one : 1 ≤ room) (wider : room ≤ wide) where
    mem_declr_more : (s : HeldScopes) (ts : List Lexeme)
        → More (mem_declr_with inner room s ts) (mem_declr_with other wide s ts)
    unfolding mem_declr_with field_with
    mem_declr_more s ts =
        more_if (is_colon (kind_at ts)) _ _ _ _ (width_more room wide less wider s ts)
        (more_bind _ _ _ _
        (named_declr_more None (room - 1) (wide - 1) (omega (arith, less, one)) (omega (arith, wider)) s ts)
        (λ d. more_bind _ _ _ _ (value_more room wide less wider is_colon d.scopes d.rest) (λ width.
        more_bind _ _ _ _ (attrs_more room wide wider width.scopes width.rest) (λ attrs. refl))))

    mem_declrs_more : (s : HeldScopes) (ts : List Lexeme)
        → More (mem_declrs_with inner room s ts) (mem_declrs_with other wide s ts)
    unfolding mem_declrs_with first_member next_member
    mem_declrs_more s ts =
        more_if (is_semicolon (kind_at ts)) _ _ _ _ refl
        (more_bind _ _ _ _ (more_listed (first_member inner room) (first_member other wide) (next_member inner room)
        (next_member other wide) s ts (more_bind _ _ _ _ (mem_declr_more s ts) (λ d. refl))
        (λ x is comma s ts. more_bind _ _ _ _ (attrs_more room wide wider s ts)
        (λ attrs. more_bind _ _ _ _ (mem_declr_more attrs.scopes attrs.rest) (λ d. refl)))) (λ ds. refl))

  -- specifiers that were read had room for two levels
  pub specs_two : (role : Role) (room : ℕ) (s : HeldScopes) (ts : List Lexeme) (x : Found SpecWords)
      → specs_here inner role room s ts ≡ Ok x → 2 ≤ room
  unfolding specs_here
  specs_two role room s ts x e =
      if_ok (begins_role role s (kind_at ts)) e (λ is e. (fits_ok 2 room ts e).0) (λ is e. absurd cc)

  module _ (room wide : ℕ) (less : room < suc n) (wider : room ≤ wide) where
    struct_item_more : (s : HeldScopes) (ts : List Lexeme)
        → More (struct_item_with inner room s ts) (struct_item_with other wide s ts)
    unfolding struct_item_with member_with
    struct_item_more s ts =
        more_if (is_semicolon (kind_at ts)) _ _ _ _ (more_fits 1 room wide ts _ _ wider (λ fit. more_same _))
        (more_if (is_static_assert (kind_at ts)) _ _ _ _ (more_fits 1 room wide ts _ _ wider (λ fit. more_same _))
        (more_bind _ _ _ _ (exts_more room wide wider s ts) (λ exts.
        more_behind _ _ _ _ (specs_here_more room wide less wider Typed exts.scopes exts.rest)
        (λ words is. let two = specs_two Typed room exts.scopes exts.rest words is in
        more_bind _ _ _ _ (mem_declrs_more (room - 1) (wide - 1) (omega (arith, less)) (omega (arith, two))
        (omega (arith, wider)) words.scopes words.rest) (λ ds. more_same _)))))

  module _ (room wide : ℕ) (less : room < suc n) (wider : room ≤ wide) where
    body_more : (tag : Option Identifier) → 1 ≤ room → (s : HeldScopes) (ts : List Lexeme)
        → More (body_with inner tag room s ts) (body_with other tag wide s ts)
    unfolding body_with members_with
    body_more tag one s ts =
        more_if (is_open_brace (kind_at ts)) _ _ _ _
        (more_bind _ _ _ _ (more_same (take_one s ts)) (λ opening. more_bind _ _ _ _ (more_repeated
        (λ kind. not (is_close_brace kind)) (struct_item_with inner (room - 1)) (struct_item_with other (wide - 1))
        (struct_item_more (room - 1) (wide - 1) (omega (arith, less))
        (omega (arith, wider))) opening.scopes opening.rest) (λ items. more_same _)))
        (more_same _)

    struct_more : (keyword : Keyword) → 1 ≤ room → (s : HeldScopes) (ts : List Lexeme)
        → More (struct_with inner keyword room s ts) (struct_with other keyword wide s ts)
    unfolding struct_with
    struct_more keyword one s ts =
        more_bind _ _ _ _ (more_same (take_one s ts)) (λ token.
        more_bind _ _ _ _ (attrs_more room wide wider token.scopes token.rest) (λ attrs.
        more_bind _ _ _ _ (more_same (tag_at attrs.scopes attrs.rest))
        (λ tag. more_bind _ _ _ _ (body_more tag.tree one tag.scopes tag.rest) (λ body. refl))))

    enumerator_more : (s : HeldScopes) (ts : List Lexeme)
        → More (enumerator_with inner room s ts) (enumerator_with other wide s ts)
    unfolding enumerator_with enumerator_named enumerator_behind
    enumerator_more s ts =
        more_bind _ _ _ _ (more_same (name_at s ts)) (λ name.
        more_if (may_declare (innermost name.scopes) name.tree.name Constant) _ _ _ _
        (more_if (is_name (innermost name.scopes).held name.tree.name) _ _ _ _ (inr refl)
        (more_fits 1 room wide ts _ _ wider (λ fit.
        more_bind _ _ _ _ (attrs_more room wide wider name.scopes name.rest) (λ attrs.
        more_bind _ _ _ _ (value_more room wide less wider is_equal attrs.scopes attrs.rest) (λ value. more_same _)))))
        (inr refl))

  module _ (room wide : ℕ) (less : room < suc n) (wider : room ≤ wide) where
    enum_body_more : (tag : Option Identifier) (s : HeldScopes) (ts : List Lexeme)
        → More (enum_body_with inner tag room s ts) (enum_body_with other tag wide s ts)
    unfolding enum_body_with enumerators_with next_enumerator
    enum_body_more tag s ts =
        more_if (is_open_brace (kind_at ts)) _ _ _ _
        (more_fits 2 room wide ts _ _ wider (λ two. more_bind _ _ _ _ (more_same (take_one s ts))
        (λ opening. more_bind _ _ _ _ (more_listed (enumerator_with inner (room - 1)) (enumerator_with other (wide - 1))
        (next_enumerator inner (room - 1)) (next_enumerator other (wide - 1)) opening.scopes opening.rest
        (enumerator_more (room - 1) (wide - 1) (omega (arith, less)) (omega (arith, wider)) opening.scopes opening.rest)
        (λ x is comma s ts. more_if (is_close_brace (kind_at ts)) _ _ _ _ refl (more_bind _ _ _ _
        (enumerator_more (room - 1) (wide - 1) (omega (arith, less)) (omega (arith, wider)) s ts) (λ x. refl))))
        (λ es. more_same _))))
        (more_same _)

    enum_more : (s : HeldScopes) (ts : List Lexeme) → More (enum_with inner room s ts) (enum_with other wide s ts)
    unfolding enum_with
    enum_more s ts =
        more_bind _ _ _ _ (more_same (take_one s ts)) (λ token.
        more_bind _ _ _ _ (attrs_more room wide wider token.scopes token.rest) (λ attrs.
        more_bind _ _ _ _ (more_same (tag_at attrs.scopes attrs.rest))
        (λ tag. more_bind _ _ _ _ (enum_body_more tag.tree tag.scopes tag.rest) (λ body. refl))))

  module _ (room wide : ℕ) (less : room < suc n) (wider : room ≤ wide) where
    -- types of values and types in parentheses

    typed_word_more : (keyword : Keyword) (token opening : ℕ) → 2 ≤ room → (s : HeldScopes) (ts : List Lexeme) →
        More (typed_word_with inner keyword token opening room s ts)
        (typed_word_with other keyword token opening wide s ts)
    unfolding typed_word_with
    typed_word_more keyword token opening two s ts =
        more_bind _ _ _ _ (m.types (room - 1) (wide - 1) (omega (arith, less, two)) (omega (arith, two))
        (omega (arith, wider)) s ts) (λ t. more_same _)

    typeof_more : 2 ≤ room → (s : HeldScopes) (ts : List Lexeme)
        → More (typeof_with inner room s ts) (typeof_with other wide s ts)
    unfolding typeof_with typeof_value_with
    typeof_more two s ts =
        more_bind _ _ _ _ (more_same (take_one s ts)) (λ keyword.
        more_bind _ _ _ _ (more_same (token_at is_open_paren keyword.scopes keyword.rest))
        (λ opening. more_if (begins_specs opening.scopes (kind_at opening.rest)) _ _ _ _
        (typed_word_more _ keyword.tree opening.tree two opening.scopes opening.rest)
        (more_bind _ _ _ _ (m.exprs Whole nothing (room - 1) (wide - 1) (omega (arith, less, two))
        (omega (arith, wider)) opening.scopes opening.rest) (λ e. more_same _))))

    atomic_more : 2 ≤ room → (s : HeldScopes) (ts : List Lexeme)
        → More (atomic_with inner room s ts) (atomic_with other wide s ts)
    unfolding atomic_with
    atomic_more two s ts =
        more_bind _ _ _ _ (more_same (take_one s ts)) (λ keyword.
        more_bind _ _ _ _ (more_same (token_at is_open_paren keyword.scopes keyword.rest))
        (λ opening. typed_word_more _ keyword.tree opening.tree two opening.scopes opening.rest))

  module _ (room wide : ℕ) (less : room < suc n) (wider : room ≤ wide) where
    word_by_more : (start : SpecStart) → least_of start ≤ room → (s : HeldScopes) (ts : List Lexeme)
        → More (word_by inner start room s ts) (word_by other start wide s ts)
    unfolding word_by
    word_by_more (starts.Storage keyword) fit s ts = more_same _
    word_by_more starts.Thread fit s ts = more_same _
    word_by_more starts.Inline fit s ts = more_same _
    word_by_more starts.Noreturn fit s ts = more_same _
    word_by_more (starts.Word keyword) fit s ts = more_same _
    word_by_more starts.Element fit s ts = more_same _
    word_by_more starts.Index fit s ts = more_same _
    word_by_more (starts.Basic keyword) fit s ts = more_same _
    word_by_more (starts.Struct keyword) fit s ts =
        struct_more (room - 1) (wide - 1) (omega (arith, less)) (omega (arith, wider)) keyword (omega (arith, fit)) s ts
    word_by_more starts.Enum fit s ts =
        enum_more (room - 1) (wide - 1) (omega (arith, less)) (omega (arith, wider)) s ts
    word_by_more starts.Attribute fit s ts = more_same _
    word_by_more (starts.Name name) fit s ts = more_same _
    word_by_more starts.Typeof fit s ts =
        typeof_more (room - 1) (wide - 1) (omega (arith, less)) (omega (arith, wider)) (omega (arith, fit)) s ts
    word_by_more starts.Atomic fit s ts =
        atomic_more (room - 1) (wide - 1) (omega (arith, less)) (omega (arith, wider)) (omega (arith, fit)) s ts
    word_by_more starts.Align fit s ts = more_same _
    word_by_more starts.Auto fit s ts = more_same _
    word_by_more starts.Nothing fit s ts = inr refl

    pub specs_more : (role : Role) (words : SpecWords) (s : HeldScopes) (ts : List Lexeme)
        → More (specs_with inner role words room s ts) (specs_with other role words wide s ts)
    unfolding specs_with word_with
    specs_more role words s ts =
        more_bind _ _ _ _ (more_run (word_turn inner role room) (word_turn other role wide) (λ words s ts.
        more_unless (ends_before s words (start_at s (is_typed words) (kind_at ts))) _ _
        (more_guarded (is_start (start_at s (is_typed words) (kind_at ts))) _ _ (more_bind _ _ _ _
        (more_if (may_stand role (start_at s (is_typed words) (kind_at ts))) _ _ _ _
        (more_if (goes_on words (class_of_start (start_at s (is_typed words) (kind_at ts)))) _ _ _ _
        (more_fits (max (least_of (start_at s (is_typed words) (kind_at ts))) (specs_height words)) room wide ts _ _
        wider (λ fit. word_by_more (start_at s (is_typed words) (kind_at ts)) (omega (arith, fit)) s ts))
        (inr refl)) (inr refl))
        (λ word. refl)))) words s ts) (λ all. more_same _)
