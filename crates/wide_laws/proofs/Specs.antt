-- Specifiers with more room, and what they do at their first token.
use Rattle.std.proofs.Common.{◌≡◌, ℕ, suc, if◌then◌else◌, ◌<◌, ◌≤◌, Bool, true, false, List, [], ◌∷◌, inr, Option, Some, None, Ok, refl, arith}
use Rattle.std.specs.Prelude.{◌-◌, max, not, ◌&&◌, ◌||◌}
use Rattle.c_words.specs.declared.kinds.TokenKind.{TokenKind}
use Rattle.c_words.specs.declared.kinds.TokenKind.TheVariants as kinds
use Rattle.c_words.specs.declared.kinds.Keyword.{Keyword}
use Rattle.c_words.specs.declared.kinds.Keyword.TheVariants as keywords
use Rattle.c_tree.specs.declared.lexeme.Lexeme.{Lexeme}
use Rattle.c_syntax.specs.declared.parts.Identifier.{Identifier}
use Rattle.c_tree.specs.Tree.{SpecWords, no_words, SomeDeclr, no_declr, some_declr, struct_type, enum_type, enum_of}
use Rattle.c_tree.specs.Height.{specs_height}
use Rattle.c_specs.specs.Mix.{goes_on, is_typed, is_whole_mix}
use Rattle.c_specs.specs.Reading.{pushed}
use Rattle.typedef_scope.specs.declared.kind.Kind.{Kind}
use Rattle.typedef_scope.specs.declared.kind.Kind.TheVariants.{Constant}
use Rattle.c_units.specs.HeldScopes.{HeldScopes, innermost, may_declare, is_name, names_type, is_wide}
use Rattle.c_reading.specs.declared.kinds.Reach.TheVariants.{Conditional, Whole}
use Rattle.c_reading.specs.declared.kinds.Role.{Role}
use Rattle.c_reading.specs.declared.kinds.Role.TheVariants.{Declaring, Typed}
use Rattle.c_reading.specs.declared.kinds.Mode.TheVariants.{Named}
use Rattle.c_reading.specs.declared.kinds.SpecStart.{SpecStart}
use Rattle.c_reading.specs.declared.kinds.SpecStart.TheVariants as starts
use Rattle.c_reading.specs.Reading.{Found, ends, kind_at, behind_first, run, and_then}
use Rattle.c_reading.specs.Tokens.{word_of, name_by, spelled_name, is_open_brace, is_close_brace, is_semicolon, is_colon, is_equal, is_static_assert, is_attribute, name_at, tag_at, attrs_at, is_open_paren, is_close_paren}
use Rattle.c_reading.specs.Parts.{Inner, nothing}
use Rattle.c_reading.specs.Specifying.{present, without_body, declared, whole, keyword_start, typed_start, begins_specs, is_start, start_at, class_of_start, may_stand, least_of, specs_here, value_with, named_declr, width_with, field_with, mem_declr_with, first_member, next_member, mem_declrs_with, member_with, struct_item_with, members_with, body_with, struct_with, enumerator_behind, enumerator_named, enumerator_with, next_enumerator, enumerators_with, enum_body_with, enum_with, word_by, word_with, word_turn, specs_with, begins_role, ends_before, is_base_start, typed_word_with, typeof_value_with, typeof_with, atomic_with}
use Rattle.c_reading.proofs.Binding.{fits_ok, if_ok}
use Rattle.wide_laws.specs.Wide.{Near, Late, Both, InnerBoth, Ahead}
use Rattle.wide_laws.proofs.Both.{BothTurn, past_run, all_left, higher, late_bind, late_refused, late_if, late_take, late_fits, past_take, ready, refused, when, both_same, both_bind, both_behind, both_then, both_fits, both_asks, both_if, both_choice, both_guarded, both_run, both_repeated, both_listed, ahead_take, both_unless}
use Rattle.wide_laws.proofs.Words.{late_token, late_tag, late_attr, past_attr, assert_both, attrs_both, exts_both, late_align, past_align}

pub late_present : (d : SomeDeclr) (s : HeldScopes) (ts : List Lexeme) → Late ts (present d s ts)
late_present no_declr s ts = inr (late_refused ts)
late_present (some_declr d) s ts = all_left ts

late_without : {A : Type 0} (tag : Option Identifier) (a : A) (s : HeldScopes) (ts : List Lexeme)
    → Late ts (without_body tag a s ts)
late_without None a s ts = inr (late_refused ts)
late_without (Some tag) a s ts = all_left ts

late_declared : {A : Type 0} (a : A) (o : Option HeldScopes) (ts : List Lexeme) → Late ts (declared a o ts)
late_declared a None ts = inr (late_refused ts)
late_declared a (Some s) ts = all_left ts

-- only the word `attribute` begins an attribute
attribute_at : (s : HeldScopes) (typed : Bool) (kind : TokenKind) → start_at s typed kind ≡ starts.Attribute
    → is_attribute kind ≡ true
attribute_at s typed (kinds.Keyword keyword) is = by_word keyword is
  where
    by_word : (keyword : Keyword) → typed_start s typed (keyword_start keyword) ≡ starts.Attribute
        → is_attribute (kinds.Keyword keyword) ≡ true
    by_word keywords.Attribute is = refl
    by_word keyword is = absurd cc
attribute_at s typed (kinds.Name name) is = by_test (names_type s name && not typed) is
  where
    by_test : (b : Bool) → (if b then starts.Name name else starts.Nothing) ≡ starts.Attribute
        → is_attribute (kinds.Name name) ≡ true
    by_test true is = absurd cc
    by_test false is = absurd cc
attribute_at s typed (kinds.Qual lattice elem) is = absurd cc
attribute_at s typed kinds.Index is = absurd cc
attribute_at s typed kind is = absurd cc

-- any word may come first
first_goes : (s : HeldScopes) (kind : TokenKind) → is_start (start_at s false kind) ≡ true
    → goes_on no_words (class_of_start (start_at s false kind)) ≡ true
first_goes s (kinds.Name name) is = by_test (names_type s name && not false) is
  where
    by_test : (b : Bool) → is_start (if b then starts.Name name else starts.Nothing) ≡ true
        → goes_on no_words (class_of_start (if b then starts.Name name else starts.Nothing)) ≡ true
    by_test true is = refl
    by_test false is = absurd cc
first_goes s (kinds.Qual lattice elem) is = refl
first_goes s kinds.Index is = refl
first_goes s (kinds.Keyword keywords.Typedef) is = refl
first_goes s (kinds.Keyword keywords.Extern) is = refl
first_goes s (kinds.Keyword keywords.Static) is = refl
first_goes s (kinds.Keyword keywords.Auto) is = refl
first_goes s (kinds.Keyword keywords.Register) is = refl
first_goes s (kinds.Keyword keywords.Thread) is = refl
first_goes s (kinds.Keyword keywords.Inline) is = refl
first_goes s (kinds.Keyword keywords.Noreturn) is = refl
first_goes s (kinds.Keyword keywords.Const) is = refl
first_goes s (kinds.Keyword keywords.Volatile) is = refl
first_goes s (kinds.Keyword keywords.Restrict) is = refl
first_goes s (kinds.Keyword keywords.Void) is = refl
first_goes s (kinds.Keyword keywords.Char) is = refl
first_goes s (kinds.Keyword keywords.Short) is = refl
first_goes s (kinds.Keyword keywords.Int) is = refl
first_goes s (kinds.Keyword keywords.Long) is = refl
first_goes s (kinds.Keyword keywords.Float) is = refl
first_goes s (kinds.Keyword keywords.Double) is = refl
first_goes s (kinds.Keyword keywords.Signed) is = refl
first_goes s (kinds.Keyword keywords.Unsigned) is = refl
first_goes s (kinds.Keyword keywords.Bool) is = refl
first_goes s (kinds.Keyword keywords.Complex) is = refl
first_goes s (kinds.Keyword keywords.BaseWord) is = refl
first_goes s (kinds.Keyword keywords.Int128) is = refl
first_goes s (kinds.Keyword keywords.Atomic) is = refl
first_goes s (kinds.Keyword keywords.AtomicType) is = refl
first_goes s (kinds.Keyword keywords.Seg) is = refl
first_goes s (kinds.Keyword keywords.Typeof) is = refl
first_goes s (kinds.Keyword keywords.Alignas) is = refl
first_goes s (kinds.Keyword keywords.AutoType) is = refl
first_goes s (kinds.Keyword keywords.AnyComplex) is = refl
first_goes s (kinds.Keyword keywords.Struct) is = refl
first_goes s (kinds.Keyword keywords.Union) is = refl
first_goes s (kinds.Keyword keywords.Enum) is = refl
first_goes s (kinds.Keyword keywords.Attribute) is = refl
first_goes s (kinds.Keyword keyword) is = absurd cc
first_goes s kind is = absurd cc

module _ {S : Type 0} (n gap : ℕ) (inner other : Inner) (m : InnerBoth S n gap inner other) where
  module _ (room wide : ℕ) (less : room < suc n) (wider : Near gap room wide) where
    pub specs_here_both : {D : Type 0} (role : Role) (s : HeldScopes) (ts : List Lexeme)
        → Both S D ts (specs_here inner role room s ts) (specs_here other role wide s ts)
    unfolding specs_here
    specs_here_both role s ts =
        both_choice (begins_role role s (kind_at ts)) _ _ _ _
        (λ is. both_fits 2 room wide ts _ _ wider.0
        (λ strict. m.words_first strict role (wide - 1) (omega (arith, less, wider)) s ts is) (when
        (λ two. omega (arith, less, two)) (m.words role no_words (room - 1) (wide - 1) (omega (arith, wider)) s ts)))
        (λ off. refused _ ts)

    pub value_both : {D : Type 0} (test : TokenKind → Bool) (s : HeldScopes) (ts : List Lexeme)
        → Both S D ts (value_with inner test room s ts) (value_with other test wide s ts)
    unfolding value_with
    value_both test s ts =
        both_if (test (kind_at ts)) _ _ _ _
        (both_asks 2 room wide s ts _ _ wider.0 (λ token. both_bind _ _ _ _ (when (λ two. omega (arith, less, two))
        (m.exprs Conditional nothing (room - 1) (wide - 1) (omega (arith, wider)) token.scopes token.rest))
        (λ e. ready _))) (ready _)

    width_both : {D : Type 0} (s : HeldScopes) (ts : List Lexeme)
        → Both S D ts (width_with inner room s ts) (width_with other wide s ts)
    unfolding width_with
    width_both s ts =
        both_asks 2 room wide s ts _ _ wider.0 (λ colon. both_bind _ _ _ _ (when (λ two. omega (arith, less, two))
        (m.exprs Conditional nothing (room - 1) (wide - 1) (omega (arith, wider)) colon.scopes colon.rest))
        (λ e. both_bind _ _ _ _ (attrs_both room wide wider.0 e.scopes e.rest) (λ attrs. ready _)))

  pub named_declr_both : (wanted : Option Kind) (room wide : ℕ) → Near gap room wide
      → (s : HeldScopes) (ts : List Lexeme)
      → Both S (room < n) ts (named_declr inner wanted room s ts) (named_declr other wanted wide s ts)
  unfolding named_declr
  named_declr_both wanted room wide wider s ts =
      both_bind _ _ _ _ (m.declrs Named wanted false room wide wider s ts)
      (λ d. both_same _ (late_present d.tree.declr d.scopes d.rest))

  module _ (room wide : ℕ) (less : room < suc n) (wider : Near gap room wide) where
    mem_declr_both : (s : HeldScopes) (ts : List Lexeme)
        → Both S (1 ≤ room) ts (mem_declr_with inner room s ts) (mem_declr_with other wide s ts)
    unfolding mem_declr_with field_with
    mem_declr_both s ts =
        both_if (is_colon (kind_at ts)) _ _ _ _ (width_both room wide less wider s ts)
        (both_bind _ _ _ _ (when (λ one. omega (arith, less, one))
        (named_declr_both None (room - 1) (wide - 1) (omega (arith, wider)) s ts))
        (λ d. both_bind _ _ _ _ (value_both room wide less wider is_colon d.scopes d.rest) (λ width.
        both_bind _ _ _ _ (attrs_both room wide wider.0 width.scopes width.rest) (λ attrs. ready _))))

    mem_declrs_both : (s : HeldScopes) (ts : List Lexeme)
        → Both S (1 ≤ room) ts (mem_declrs_with inner room s ts) (mem_declrs_with other wide s ts)
    unfolding mem_declrs_with first_member next_member
    mem_declrs_both s ts =
        both_if (is_semicolon (kind_at ts)) _ _ _ _ (ready _)
        (both_bind _ _ _ _ (both_listed (first_member inner room) (first_member other wide) (next_member inner room)
        (next_member other wide) s ts (both_bind _ _ _ _ (mem_declr_both s ts) (λ d. ready _)) (λ x one is. one)
        (λ comma s ts. both_bind _ _ _ _ (attrs_both room wide wider.0 s ts)
        (λ attrs. both_bind _ _ _ _ (mem_declr_both attrs.scopes attrs.rest) (λ d. ready _)))) (λ ds. ready _))

  -- specifiers that were read had room for two levels
  pub specs_two : (role : Role) (room : ℕ) (s : HeldScopes) (ts : List Lexeme) (x : Found SpecWords)
      → specs_here inner role room s ts ≡ Ok x → 2 ≤ room
  unfolding specs_here
  specs_two role room s ts x e =
      if_ok (begins_role role s (kind_at ts)) e (λ is e. (fits_ok 2 room ts e).0) (λ is e. absurd cc)

  module _ (room wide : ℕ) (less : room < suc n) (wider : Near gap room wide) where
    struct_item_both : {D : Type 0} (s : HeldScopes) (ts : List Lexeme)
        → Both S D ts (struct_item_with inner room s ts) (struct_item_with other wide s ts)
    unfolding struct_item_with member_with
    struct_item_both s ts =
        both_if (is_semicolon (kind_at ts)) _ _ _ _ (both_asks 1 room wide s ts _ _ wider.0 (λ semi. ready _))
        (both_choice (is_static_assert (kind_at ts)) _ _ _ _
        (λ is. assert_both room wide wider.0 s ts _ is (λ it. all_left it.rest))
        (λ off. both_bind _ _ _ _ (exts_both room wide wider.0 s ts) (λ exts.
        both_behind _ _ _ _ (specs_here_both room wide less wider Typed exts.scopes exts.rest)
        (λ words. both_bind _ _ _ _
        (when (λ d. let two = specs_two Typed room exts.scopes exts.rest words d.1 in omega (arith, two))
        (mem_declrs_both (room - 1) (wide - 1) (omega (arith, less)) (omega (arith, wider)) words.scopes words.rest))
        (λ ds. both_then _ _ _ (late_token is_semicolon ds.scopes ds.rest) (λ semi. ready _))))))

  module _ (room wide : ℕ) (less : room < suc n) (wider : Near gap room wide) where
    body_both : {D : Type 0} (tag : Option Identifier) (s : HeldScopes) (ts : List Lexeme)
        → Both S D ts (body_with inner tag room s ts) (body_with other tag wide s ts)
    unfolding body_with members_with
    body_both tag s ts =
        both_if (is_open_brace (kind_at ts)) _ _ _ _
        (both_then _ _ _ (late_take s ts) (λ opening. both_bind _ _ _ _ (both_repeated
        (λ kind. not (is_close_brace kind)) (struct_item_with inner (room - 1)) (struct_item_with other (wide - 1))
        (λ s ts is. struct_item_both (room - 1) (wide - 1) (omega (arith, less))
        (omega (arith, wider)) s ts) opening.scopes opening.rest)
        (λ items. both_then _ _ _ (late_token is_close_brace items.scopes items.rest) (λ closing. ready _))))
        (both_same _ (late_without tag _ s ts))

    -- behind the word
    struct_behind : {D : Type 0} (token : Found ℕ) (keyword : Keyword) → Both S D token.rest
        (and_then (attrs_at room token.scopes token.rest) (λ attrs.
        and_then (tag_at attrs.scopes attrs.rest) (λ tag. and_then (body_with inner tag.tree room tag.scopes tag.rest)
        (λ body. ends (struct_type (word_of keyword token.tree) attrs.tree tag.tree body.tree) body.scopes body.rest))))
        (and_then (attrs_at wide token.scopes token.rest) (λ attrs.
        and_then (tag_at attrs.scopes attrs.rest) (λ tag. and_then (body_with other tag.tree wide tag.scopes tag.rest)
        (λ body. ends (struct_type (word_of keyword token.tree) attrs.tree tag.tree body.tree) body.scopes body.rest))))
    struct_behind token keyword =
        both_bind _ _ _ _ (attrs_both room wide wider.0 token.scopes token.rest) (λ attrs.
        both_then _ _ _ (late_tag attrs.scopes attrs.rest)
        (λ tag. both_bind _ _ _ _ (body_both tag.tree tag.scopes tag.rest) (λ body. ready _)))

    enumerator_behind_both : {D : Type 0} (name : Identifier) (s : HeldScopes) (ts : List Lexeme)
        → Both S D ts (enumerator_behind inner name room s ts) (enumerator_behind other name wide s ts)
    unfolding enumerator_behind
    enumerator_behind_both name s ts =
        both_bind _ _ _ _ (attrs_both room wide wider.0 s ts)
        (λ attrs. both_bind _ _ _ _ (value_both room wide less wider is_equal attrs.scopes attrs.rest)
        (λ value. both_same _ (late_declared _ _ value.rest)))

    enumerator_both : {D : Type 0} (s : HeldScopes) (ts : List Lexeme)
        → Both S D ts (enumerator_with inner room s ts) (enumerator_with other wide s ts)
    unfolding enumerator_with and_then enumerator_named
    enumerator_both {D} s ts = by_tokens ts
      where
        by_name : (o : Option ℕ) (t : Lexeme) (ts : List Lexeme)
            → Both S D (t ∷ ts)
            (and_then (name_by o t s ts) (λ name. enumerator_named inner name.tree room (t ∷ ts) name.scopes name.rest))
            (and_then (name_by o t s ts) (λ name. enumerator_named other name.tree wide (t ∷ ts) name.scopes name.rest))
        by_name None t ts = refused _ (t ∷ ts)
        by_name (Some name) t ts =
            both_if (may_declare (innermost s) name Constant) _ _ _ _
            (both_if (is_name (innermost s).held name) _ _ _ _ (refused _ (t ∷ ts))
            (both_fits 1 room wide (t ∷ ts) _ _ wider.0 (λ strict. (enumerator_behind_both {D = ⊥} _ s ts).late)
            (higher t ts _ _ (enumerator_behind_both _ s ts))))
            (refused _ (t ∷ ts))

        by_tokens : (ts : List Lexeme)
            → Both S D ts
            (and_then (name_at s ts) (λ name. enumerator_named inner name.tree room ts name.scopes name.rest))
            (and_then (name_at s ts) (λ name. enumerator_named other name.tree wide ts name.scopes name.rest))
        by_tokens [] = refused _ []
        by_tokens (t ∷ ts) = by_name (spelled_name t.kind) t ts

  module _ (room wide : ℕ) (less : room < suc n) (wider : Near gap room wide) where
    enum_body_both : {D : Type 0} (tag : Option Identifier) (s : HeldScopes) (ts : List Lexeme)
        → Both S D ts (enum_body_with inner tag room s ts) (enum_body_with other tag wide s ts)
    unfolding enum_body_with enumerators_with next_enumerator
    enum_body_both tag s ts =
        both_if (is_open_brace (kind_at ts)) _ _ _ _
        (both_asks 2 room wide s ts _ _ wider.0
        (λ opening. both_bind _ _ _ _ (both_listed (enumerator_with inner (room - 1)) (enumerator_with other (wide - 1))
        (next_enumerator inner (room - 1)) (next_enumerator other (wide - 1)) opening.scopes opening.rest
        (enumerator_both (room - 1) (wide - 1) (omega (arith, less)) (omega (arith, wider)) opening.scopes opening.rest)
        (λ x two is. two)
        (λ comma s ts. both_if (is_close_brace (kind_at ts)) _ _ _ _ (ready _) (both_bind _ _ _ _
        (enumerator_both (room - 1) (wide - 1) (omega (arith, less)) (omega (arith, wider)) s ts) (λ x. ready _))))
        (λ es. both_then _ _ _ (late_token is_close_brace es.scopes es.rest) (λ closing. ready _))))
        (both_same _ (late_without tag _ s ts))

    enum_behind : {D : Type 0} (token : Found ℕ) → Both S D token.rest
        (and_then (attrs_at room token.scopes token.rest) (λ attrs. and_then (tag_at attrs.scopes attrs.rest) (λ tag.
        and_then (enum_body_with inner tag.tree room tag.scopes tag.rest) (λ body.
        ends (enum_type (enum_of token.tree attrs.tree tag.tree body.tree)) body.scopes body.rest))))
        (and_then (attrs_at wide token.scopes token.rest) (λ attrs. and_then (tag_at attrs.scopes attrs.rest) (λ tag.
        and_then (enum_body_with other tag.tree wide tag.scopes tag.rest) (λ body.
        ends (enum_type (enum_of token.tree attrs.tree tag.tree body.tree)) body.scopes body.rest))))
    enum_behind token =
        both_bind _ _ _ _ (attrs_both room wide wider.0 token.scopes token.rest) (λ attrs.
        both_then _ _ _ (late_tag attrs.scopes attrs.rest)
        (λ tag. both_bind _ _ _ _ (enum_body_both tag.tree tag.scopes tag.rest) (λ body. ready _)))

  module _ (room wide : ℕ) (less : room < suc n) (wider : Near gap room wide) where
    -- types of values and types in parentheses, behind the word

    typed_word_both : (keyword : Keyword) (token opening : ℕ) (s : HeldScopes) (ts : List Lexeme)
        → Both S (2 ≤ room) ts (typed_word_with inner keyword token opening room s ts)
        (typed_word_with other keyword token opening wide s ts)
    unfolding typed_word_with
    typed_word_both keyword token opening s ts =
        both_bind _ _ _ _ (when (λ two. (omega (arith, less, two), omega (arith, two)))
        (m.types (room - 1) (wide - 1) (omega (arith, wider)) s ts))
        (λ t. both_then _ _ _ (late_token is_close_paren t.scopes t.rest) (λ closing. ready _))

    typeof_both : (s : HeldScopes) (ts : List Lexeme)
        → Ahead S (2 ≤ room) ts (typeof_with inner room s ts) (typeof_with other wide s ts)
    unfolding typeof_with typeof_value_with
    typeof_both s ts =
        ahead_take s ts _ _ (λ keyword. both_then _ _ _ (late_token is_open_paren keyword.scopes keyword.rest)
        (λ opening. both_if (begins_specs opening.scopes (kind_at opening.rest)) _ _ _ _
        (typed_word_both _ keyword.tree opening.tree opening.scopes opening.rest)
        (both_bind _ _ _ _ (when (λ two. omega (arith, less, two))
        (m.exprs Whole nothing (room - 1) (wide - 1) (omega (arith, wider)) opening.scopes opening.rest))
        (λ e. both_then _ _ _ (late_token is_close_paren e.scopes e.rest) (λ closing. ready _)))))

    atomic_both : (s : HeldScopes) (ts : List Lexeme)
        → Ahead S (2 ≤ room) ts (atomic_with inner room s ts) (atomic_with other wide s ts)
    unfolding atomic_with
    atomic_both s ts =
        ahead_take s ts _ _ (λ keyword. both_then _ _ _ (late_token is_open_paren keyword.scopes keyword.rest)
        (λ opening. typed_word_both _ keyword.tree opening.tree opening.scopes opening.rest))

  module _ (room wide : ℕ) (less : room < suc n) (wider : Near gap room wide) where
    word_by_both : (start : SpecStart) (s : HeldScopes) (ts : List Lexeme)
        → Both S (least_of start ≤ room) ts (word_by inner start room s ts) (word_by other start wide s ts)
    unfolding word_by struct_with enum_with
    word_by_both (starts.Storage keyword) s ts = both_then _ _ _ (late_take s ts) (λ token. ready _)
    word_by_both starts.Thread s ts = both_then _ _ _ (late_take s ts) (λ token. ready _)
    word_by_both starts.Inline s ts = both_then _ _ _ (late_take s ts) (λ token. ready _)
    word_by_both starts.Noreturn s ts = both_then _ _ _ (late_take s ts) (λ token. ready _)
    word_by_both (starts.Word keyword) s ts = both_then _ _ _ (late_take s ts) (λ token. ready _)
    word_by_both starts.Element s ts = both_then _ _ _ (late_take s ts) (λ token. ready _)
    word_by_both starts.Index s ts = both_then _ _ _ (late_take s ts) (λ token. ready _)
    word_by_both (starts.Basic keyword) s ts = both_then _ _ _ (late_take s ts) (λ token. ready _)
    word_by_both (starts.Struct keyword) s ts =
        both_then _ _ _ (late_take s ts)
        (λ token. struct_behind (room - 1) (wide - 1) (omega (arith, less)) (omega (arith, wider)) token keyword)
    word_by_both starts.Enum s ts =
        both_then _ _ _ (late_take s ts)
        (λ token. enum_behind (room - 1) (wide - 1) (omega (arith, less)) (omega (arith, wider)) token)
    word_by_both starts.Attribute s ts = both_then _ _ _ (late_attr s ts) (λ attr. ready _)
    word_by_both (starts.Name name) s ts = both_then _ _ _ (late_take s ts) (λ token. ready _)
    word_by_both starts.Typeof s ts =
        when (λ fit. omega (arith, fit))
        (typeof_both (room - 1) (wide - 1) (omega (arith, less)) (omega (arith, wider)) s ts).both
    word_by_both starts.Atomic s ts =
        when (λ fit. omega (arith, fit))
        (atomic_both (room - 1) (wide - 1) (omega (arith, less)) (omega (arith, wider)) s ts).both
    word_by_both starts.Align s ts = both_then _ _ _ (late_align s ts) (λ attr. ready _)
    word_by_both starts.Auto s ts = both_then _ _ _ (late_take s ts) (λ token. ready _)
    word_by_both starts.Nothing s ts = refused _ ts

    -- a word takes the token that begins it
    word_by_past : (kind : TokenKind) (start : SpecStart) (s : HeldScopes) (ts : List Lexeme) → is_start start ≡ true
        → (start ≡ starts.Attribute → is_attribute (kind_at ts) ≡ true)
        → Late (behind_first ts) (word_by other start wide s ts)
    unfolding word_by struct_with enum_with
    word_by_past kind (starts.Storage keyword) s ts is at = past_take s ts _ (λ token. all_left token.rest)
    word_by_past kind starts.Thread s ts is at = past_take s ts _ (λ token. all_left token.rest)
    word_by_past kind starts.Inline s ts is at = past_take s ts _ (λ token. all_left token.rest)
    word_by_past kind starts.Noreturn s ts is at = past_take s ts _ (λ token. all_left token.rest)
    word_by_past kind (starts.Word keyword) s ts is at = past_take s ts _ (λ token. all_left token.rest)
    word_by_past kind starts.Element s ts is at = past_take s ts _ (λ token. all_left token.rest)
    word_by_past kind starts.Index s ts is at = past_take s ts _ (λ token. all_left token.rest)
    word_by_past kind (starts.Basic keyword) s ts is at = past_take s ts _ (λ token. all_left token.rest)
    word_by_past kind (starts.Struct keyword) s ts is at =
        past_take s ts _ (λ token.
        (struct_behind (room - 1) (wide - 1) (omega (arith, less)) (omega (arith, wider)) {D = ⊥} token keyword).late)
    word_by_past kind starts.Enum s ts is at =
        past_take s ts _
        (λ token. (enum_behind (room - 1) (wide - 1) (omega (arith, less)) (omega (arith, wider)) {D = ⊥} token).late)
    word_by_past kind starts.Attribute s ts is at =
        late_bind (behind_first ts) _ _ (past_attr s ts (at refl)) (λ attr. all_left attr.rest)
    word_by_past kind (starts.Name name) s ts is at = past_take s ts _ (λ token. all_left token.rest)
    word_by_past kind starts.Typeof s ts is at =
        (typeof_both (room - 1) (wide - 1) (omega (arith, less)) (omega (arith, wider)) s ts).past
    word_by_past kind starts.Atomic s ts is at =
        (atomic_both (room - 1) (wide - 1) (omega (arith, less)) (omega (arith, wider)) s ts).past
    word_by_past kind starts.Align s ts is at =
        late_bind (behind_first ts) _ _ (past_align s ts) (λ attr. all_left attr.rest)
    word_by_past kind starts.Auto s ts is at = past_take s ts _ (λ token. all_left token.rest)
    word_by_past kind starts.Nothing s ts is at = absurd cc

    -- one turn, and those behind it
    turn_both : {D : Type 0} (role : Role) (words : SpecWords) (start : SpecStart) (s : HeldScopes) (ts : List Lexeme)
        → (is_start start ≡ true) → (start ≡ starts.Attribute → is_attribute (kind_at ts) ≡ true) →
        Both S D ts (and_then (word_with inner role words start room s ts)
        (λ word. ends (pushed words word.tree) word.scopes word.rest)) (and_then
        (word_with other role words start wide s ts) (λ word. ends (pushed words word.tree) word.scopes word.rest))
    unfolding word_with
    turn_both role words start s ts is at =
        both_bind _ _ _ _
        (both_if (may_stand role start) _ _ _ _ (both_if (goes_on words (class_of_start start)) _ _ _ _
        (both_fits (max (least_of start) (specs_height words)) room wide ts _ _ wider.0
        (λ strict. word_by_past (kind_at ts) start s ts is at)
        (when (λ fit. omega (arith, fit)) (word_by_both start s ts))) (refused _ ts)) (refused _ ts))
        (λ word. ready _)

    words_both : {D : Type 0} (role : Role) (words : SpecWords) (s : HeldScopes) (ts : List Lexeme)
        → Both S D ts (run (word_turn inner role room) words s ts) (run (word_turn other role wide) words s ts)
    words_both {D} role words s ts =
        both_run (word_turn inner role room) (word_turn other role wide)
        (λ words s ts. both_unless S D ts (ends_before s words (start_at s (is_typed words) (kind_at ts))) _ _
        (both_guarded (is_start (start_at s (is_typed words) (kind_at ts))) _ _ (λ is. turn_both role words
        (start_at s (is_typed words) (kind_at ts)) s ts is (attribute_at s (is_typed words) (kind_at ts))))) words s ts

    late_whole : (words : SpecWords) (s : HeldScopes) (ts : List Lexeme) → Late ts (whole other words s ts)
    late_whole words s ts = late_if ts (is_whole_mix words) _ _ (λ is. all_left ts) (λ is. inr (late_refused ts))

    pub specs_both : {D : Type 0} (role : Role) (words : SpecWords) (s : HeldScopes) (ts : List Lexeme)
        → Both S D ts (specs_with inner role words room s ts) (specs_with other role words wide s ts)
    unfolding specs_with
    specs_both role words s ts =
        both_bind _ _ _ _ (words_both role words s ts) (λ all. both_same _ (late_whole all.tree all.scopes all.rest))

    -- specifiers take the token that begins them, which may stand there
    first_word_past : (role : Role) (s : HeldScopes) (ts : List Lexeme) → begins_specs s (kind_at ts) ≡ true
        → may_stand role (start_at s false (kind_at ts)) ≡ true →
        Late (behind_first ts) (word_with other role no_words (start_at s false (kind_at ts)) wide s ts)
    unfolding word_with
    first_word_past role s ts is stands =
        late_if (behind_first ts) (may_stand role (start_at s false (kind_at ts))) _ _
        (λ on. late_if (behind_first ts) (goes_on no_words (class_of_start (start_at s false (kind_at ts)))) _ _
        (λ on. late_fits (max (least_of (start_at s false (kind_at ts))) (specs_height no_words)) wide ts
        (behind_first ts) _
        (word_by_past (kind_at ts) (start_at s false (kind_at ts)) s ts is (attribute_at s false (kind_at ts))))
        (λ off. absurd (both_ways (goes_on no_words (class_of_start (start_at s false (kind_at ts))))
        (first_goes s (kind_at ts) is) off)))
        (λ off. absurd (both_ways (may_stand role (start_at s false (kind_at ts))) stands off))
      where
        both_ways : (b : Bool) → b ≡ true → b ≡ false → ⊥
        both_ways true h k = cc
        both_ways false h k = cc

    pub specs_past : (role : Role) (s : HeldScopes) (ts : List Lexeme) → begins_role role s (kind_at ts) ≡ true
        → Late (behind_first ts) (specs_with other role no_words wide s ts)
    unfolding specs_with
    specs_past role s ts both =
        late_bind (behind_first ts) _ _
        (past_run (word_turn other role wide) (λ words s ts. turn_late words s ts) (behind_first ts) no_words s ts
        (and_then (word_with other role no_words (start_at s false (kind_at ts)) wide s ts)
        (λ word. ends (pushed no_words word.tree) word.scopes word.rest))
        (guarded (ends_before s no_words (start_at s false (kind_at ts))) (is_start (start_at s false (kind_at ts)))
        (none_end s (start_at s false (kind_at ts))) (front is_one))
        (late_bind (behind_first ts) _ _ (first_word_past role s ts (front is_one) (back is_one))
        (λ word. all_left word.rest)))
        (λ all. late_whole all.tree all.scopes all.rest)
      where
        is_one : (begins_specs s (kind_at ts) ≡ true) × (may_stand role (start_at s false (kind_at ts)) ≡ true)
        is_one = by (begins_specs s (kind_at ts)) (may_stand role (start_at s false (kind_at ts))) both
          where
            by : (b c : Bool) → b && c ≡ true → (b ≡ true) × (c ≡ true)
            by true true h = (refl, refl)
            by true false h = absurd cc
            by false c h = absurd cc

        front : (begins_specs s (kind_at ts) ≡ true) × (may_stand role (start_at s false (kind_at ts)) ≡ true)
            → begins_specs s (kind_at ts) ≡ true
        front h = h.0

        back : (begins_specs s (kind_at ts) ≡ true) × (may_stand role (start_at s false (kind_at ts)) ≡ true)
            → may_stand role (start_at s false (kind_at ts)) ≡ true
        back h = h.1

        -- no words before: they do not end here
        none_end : (s : HeldScopes) (start : SpecStart) → ends_before s no_words start ≡ false
        none_end s start = by ((is_wide s || false) && is_base_start start)
          where
            by : (b : Bool)
                → b && false && is_whole_mix no_words && not (goes_on no_words (class_of_start start)) ≡ false
            by true = refl
            by false = refl

        guarded : (a b : Bool) → a ≡ false → b ≡ true →
            (if a then None else if b
            then Some (and_then (word_with other role no_words (start_at s false (kind_at ts)) wide s ts)
            (λ word. ends (pushed no_words word.tree) word.scopes word.rest)) else None)
            ≡ Some (and_then (word_with other role no_words (start_at s false (kind_at ts)) wide s ts)
            (λ word. ends (pushed no_words word.tree) word.scopes word.rest))
        guarded false true g h = refl
        guarded false false g h = absurd cc
        guarded true b g h = absurd cc

        turn_late : (words : SpecWords) (s : HeldScopes) (ts : List Lexeme)
            → BothTurn ⊥ ⊥ ts (word_turn other role wide words s ts) (word_turn other role wide words s ts)
        turn_late words s ts =
            both_unless ⊥ ⊥ ts (ends_before s words (start_at s (is_typed words) (kind_at ts))) _ _
            (both_guarded (is_start (start_at s (is_typed words) (kind_at ts))) _ _
            (λ is. both_same _ (turn_both {D = ⊥} role words (start_at s (is_typed words) (kind_at ts)) s ts is
            (attribute_at s (is_typed words) (kind_at ts))).late))
