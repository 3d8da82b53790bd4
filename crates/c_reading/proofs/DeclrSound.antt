-- What the reader of declarators takes is spelled so and well formed.
use Rattle.std.proofs.Common.{◌≡◌, ℕ, suc, ◌≤◌, Bool, true, false, List, [], ◌∷◌, Option, Some, None, inl, inr, refl, sym, ◌∙◌, ap, subst, arith}
use Rattle.std.specs.Prelude.{◌+◌, ◌-◌, max, not, ◌&&◌, ◌||◌, ◌⊎◌, All, is_some, option_map, if◌then◌else◌}
use Rattle.c_words.specs.declared.kinds.TokenKind.{TokenKind}
use Rattle.c_words.specs.declared.kinds.TokenKind.TheVariants as kinds
use Rattle.c_words.specs.declared.kinds.Punct.TheVariants as puncts
use Rattle.c_words.specs.declared.kinds.Keyword.TheVariants as keywords
use Rattle.c_tree.specs.declared.lexeme.Lexeme.{Lexeme}
use Rattle.c_syntax.specs.declared.parts.Attr.{Attr}
use Rattle.c_syntax.specs.declared.parts.Identifier.{Identifier}
use Rattle.c_syntax.specs.declared.parts.PointerWord.{PointerWord}
use Rattle.c_syntax.specs.declared.parts.PointerWord.TheVariants as pointer_words
use Rattle.c_syntax.specs.declared.parts.ArrayWord.{ArrayWord}
use Rattle.c_tree.specs.Tree.{Dots, Declr, pointer, declr_name, declr_paren, array, params, abs_pointer, abs_paren, abs_array, abs_params, identifiers, base_name, SomeDeclr, no_declr, some_declr, SomeSize, some_size, size_value, Params}
use Rattle.c_tree.specs.Text.{sign_text, attrs_text, pointer_words_text, array_words_text, declr_text, some_declr_text, some_size_text, params_text, dots_text, names_text}
use Rattle.c_tree.specs.Height.{attrs_height, pointer_words_height, declr_height, some_declr_height, some_size_height, params_height}
use Rattle.c_tree.specs.WellFormed.{AreAttrs, AreParams, IsPointerWord, IsArrayWord, IsEllipsis, IsDeclr, IsSomeDeclr, IsSize, is_named, is_direct, lists_identifiers, some_lists_identifiers}
use Rattle.typedef_scope.specs.declared.kind.Kind.{Kind}
use Rattle.typedef_scope.specs.declared.kind.Kind.TheVariants.{Typedef, Value, Constant}
use Rattle.c_units.specs.HeldScopes.{HeldScopes, HeldScope, is_wide, enter, leave, innermost, names_type}
use Rattle.c_units.specs.Scoping.{behind, where_true, identifiers_scopes, in_own_scope, at_name, first_name, begins_with_type, shows_no_type, some_shows_no_type, declr_scopes, some_declr_scopes, some_size_scopes, params_scopes}
use Rattle.c_units.specs.Units.{OwnParams, bare_name}
use Rattle.c_reading.specs.declared.kinds.Reach.TheVariants.{Assigned}
use Rattle.c_reading.specs.declared.kinds.Mode.{Mode}
use Rattle.c_reading.specs.declared.kinds.Mode.TheVariants.{Named, Abstract, Either}
use Rattle.c_reading.specs.Reading.{IsNumbered, IsTail, Found, fits, kind_at, token_at, run}
use Rattle.c_reading.specs.Tokens.{is_open_paren, is_close_paren, is_open_bracket, is_close_bracket, is_star, is_base_word, spelled_name}
use Rattle.c_reading.specs.Parts.{Inner, star as begun_star, Declared, params_from}
use Rattle.c_reading.specs.Specifying.{begins_specs}
use Rattle.c_reading.specs.Declaring.{is_identifier, begins_identifiers, identifier_at, identifiers_of, identifiers_with, list_behind, names_base, base_named, takes_name, least_pointer, with_pointer, with_paren, with_array, with_params, is_bare, closed_by, room_at, are_none, opens_params, opens_declr, absent, name_held, star_size, size_with, array_with, prototype_with, params_behind, suffix_turn, paren_with, named_paren, opened_by, opened_with, some_paren, name_or_none, core_with, direct_with, pointer_with, declr_with}
use Rattle.c_reading.proofs.Binding.{found, done, bind_ok, fits_ok, if_ok}
use Rattle.c_reading.proofs.Loops.{run-keep}
use Rattle.c_reading.proofs.Forms.{IsSound, Took, TookName, at_end, behind_is, behind_same, took, took_token, took_name, name_kind}
use Rattle.c_reading.proofs.Rows.{row_scopes}
use Rattle.c_reading.proofs.NameLists.{name_form, names_sound}
use Rattle.c_reading.proofs.KindFacts.{open_paren_kind, close_paren_kind, open_bracket_kind, close_bracket_kind, star_kind}
use Rattle.c_reading.proofs.Shared.{present_ok}
use Rattle.c_reading.proofs.DeclrFalls.{identifier_shrinks}
use Rattle.c_reading.proofs.DeclrSoundParams.{params_sound}
use Rattle.c_reading.proofs.Aims.{least_with, least_pointer_words, own_scope_in, closed_of, declr_room, FitsMode, TakesDeclr, TokenLaws, Laws}
use Rattle.c_reading.proofs.DeclrOwn.{bare_is, bare_named, closed_with_identifiers, own_pointer, own_paren, own_array, closed_with_params}
use Rattle.std.proofs.lemmas.List.Elements.{All-nil}
use Rattle.qual_base.proofs.Tests.{and_second, and_first}
use Rattle.c_tree.specs.Groups.{IsGroup}

some_scopes : {s t : HeldScopes} → Some s ≡ Some t → s ≡ t
some_scopes e = cc

-- a pointer's words are lower than the greater of 1 and their least height
low_pointer_words : (words : List PointerWord) → pointer_words_height words + 1 ≤ max 1 (least_pointer_words words)
low_pointer_words [] = omega arith
low_pointer_words (pointer_words.Qual q ∷ words) = low_pointer_words words
low_pointer_words (pointer_words.Attr a ∷ words) = omega arith

low_attrs : (attrs : List Attr) → attrs_height attrs + 1 ≤ max 1 (least_with attrs)
low_attrs [] = omega arith
low_attrs (a ∷ attrs) = omega arith

-- a declarator one higher has one level more of room
more_room : (flag : Bool) (closed : Option HeldScope) (room h w : ℕ) → h ≤ declr_room flag closed (room - 1)
    → w + 1 ≤ room → max w h + 1 ≤ declr_room flag closed room
more_room true (Some scope) room h w low least = omega (arith, low, least)
more_room true None room h w low least = omega (arith, low, least)
more_room false closed room h w low least = omega (arith, low, least)

-- a list of identifiers stands behind a name
pub unnamed_plain : (d : Declr) → is_named d ≡ false → lists_identifiers d ≡ false
unnamed_plain (pointer sign words d) e = absurd cc
unnamed_plain (declr_name token name) e = absurd cc
unnamed_plain (declr_paren opening attrs d closing) e = absurd cc
unnamed_plain (array d opening words size closing) e = absurd cc
unnamed_plain (params d opening ps dots closing) e = absurd cc
unnamed_plain (identifiers d opening names closing) e = absurd cc
unnamed_plain (base_name token) e = absurd cc
unnamed_plain (abs_pointer sign words d) e = refl
unnamed_plain (abs_paren opening attrs d closing) e = refl
unnamed_plain (abs_array d opening words size closing) e = refl
unnamed_plain (abs_params d opening ps dots closing) e = refl

abbrev pub some_named : SomeDeclr → Bool
some_named no_declr = false
some_named (some_declr d) = is_named d

module _ (all : List Lexeme) where
  -- a declarator that brackets and parameters may stand behind, or none
  abbrev pub IsDirectSome : SomeDeclr → Type 0
  IsDirectSome no_declr = Unit {0}
  IsDirectSome (some_declr d) = IsDeclr all d × (is_direct d ≡ true)

  -- a made declarator: its text, its rules, and that it has a name where its part has one
  pub record Whole (d : SomeDeclr) (made : Declr) (text : List Lexeme → List Lexeme)
      (scopes : Option Kind → HeldScopes → Option HeldScopes) (height : ℕ) : Type 0 where
    pub spelled : (k : List Lexeme) → declr_text all made k ≡ text k
    pub fits : IsDeclr all made
    pub name : is_named made ≡ some_named d
    pub named : (wanted : Option Kind) (s : HeldScopes) → declr_scopes wanted made s ≡ scopes wanted s
    pub low : declr_height made ≡ height
    pub shows : (s : HeldScopes) → some_shows_no_type s d ≡ true → shows_no_type s made ≡ true
    pub lists : lists_identifiers made ≡ some_lists_identifiers d

  pointer_whole : (token : ℕ) (words : List PointerWord) (d : SomeDeclr) → All (IsPointerWord all) words
      → IsSomeDeclr all d →
      Whole d (with_pointer token words d) (λ k. sign_text puncts.Star token
      (pointer_words_text all words (some_declr_text all d k))) (λ wanted. some_declr_scopes wanted d)
      (max (pointer_words_height words) (some_declr_height d) + 1)
  pointer_whole token words no_declr w h = record {
    spelled = λ k. refl;
    fits = (w, tt);
    name = refl;
    named = λ wanted s. refl;
    low = refl;
    shows = λ s e. refl;
    lists = refl;
  }
  pointer_whole token words (some_declr d) w h = either (is_named d) refl
    where
      either : (b : Bool) → is_named d ≡ b
          → Whole (some_declr d) (if b then pointer token words d else abs_pointer token words (some_declr d))
          (λ k. sign_text puncts.Star token (pointer_words_text all words (declr_text all d k)))
          (λ wanted. declr_scopes wanted d) (max (pointer_words_height words) (declr_height d) + 1)
      either true is = record {
        spelled = λ k. refl;
        fits = (w, h, is);
        name = sym is;
        named = λ wanted s. refl;
        low = refl;
        shows = λ s e. e;
        lists = refl;
      }
      either false is = record {
        spelled = λ k. refl;
        fits = (w, (h, is));
        name = sym is;
        named = λ wanted s. refl;
        low = refl;
        shows = λ s e. e;
        lists = sym (unnamed_plain d is);
      }

  array_whole : (d : SomeDeclr) (opening : ℕ) (words : List ArrayWord) (size : SomeSize) (closing : ℕ) → IsDirectSome d
      → All (IsArrayWord all) words → IsSize all size →
      Whole d (with_array d opening words size closing)
      (λ k. some_declr_text all d (sign_text puncts.OpenBracket opening
      (array_words_text all words (some_size_text all size (sign_text puncts.CloseBracket closing k)))))
      (λ wanted s. behind (some_declr_scopes wanted d s) (some_size_scopes size))
      (max (some_declr_height d) (some_size_height size) + 1)
  array_whole no_declr opening words size closing h w z = record {
    spelled = λ k. refl;
    fits = (tt, w, z);
    name = refl;
    named = λ wanted s. refl;
    low = refl;
    shows = λ s e. refl;
    lists = refl;
  }
  array_whole (some_declr d) opening words size closing h w z = either (is_named d) refl
    where
      either : (b : Bool) → is_named d ≡ b
          → Whole (some_declr d)
          (if b then array d opening words size closing else abs_array (some_declr d) opening words size closing)
          (λ k. declr_text all d (sign_text puncts.OpenBracket opening
          (array_words_text all words (some_size_text all size (sign_text puncts.CloseBracket closing k)))))
          (λ wanted s. behind (declr_scopes wanted d s) (some_size_scopes size))
          (max (declr_height d) (some_size_height size) + 1)
      either true is = record {
        spelled = λ k. refl;
        fits = (h.0, is, h.1, w, z);
        name = sym is;
        named = λ wanted s. refl;
        low = refl;
        shows = λ s e. e;
        lists = refl;
      }
      either false is = record {
        spelled = λ k. refl;
        fits = ((h.0, is, h.1), w, z);
        name = sym is;
        named = λ wanted s. refl;
        low = refl;
        shows = λ s e. e;
        lists = sym (unnamed_plain d is);
      }

  params_whole : (d : SomeDeclr) (opening : ℕ) (ps : Params) (dots : Option Dots) (closing : ℕ) → IsDirectSome d
      → AreParams all ps → IsEllipsis all ps dots →
      Whole d (with_params d opening ps dots closing)
      (λ k. some_declr_text all d (sign_text puncts.OpenParen opening
      (params_text all ps (dots_text all dots (sign_text puncts.CloseParen closing k)))))
      (λ wanted s. behind (some_declr_scopes wanted d s) (in_own_scope (params_scopes ps)))
      (max (some_declr_height d) (params_height ps) + 1)
  params_whole no_declr opening ps dots closing h p e = record {
    spelled = λ k. refl;
    fits = (tt, p, e);
    name = refl;
    named = λ wanted s. refl;
    low = refl;
    shows = λ s e. refl;
    lists = refl;
  }
  params_whole (some_declr d) opening ps dots closing h p e = either (is_named d) refl
    where
      either : (b : Bool) → is_named d ≡ b
          → Whole (some_declr d)
          (if b then params d opening ps dots closing else abs_params (some_declr d) opening ps dots closing)
          (λ k. declr_text all d (sign_text puncts.OpenParen opening
          (params_text all ps (dots_text all dots (sign_text puncts.CloseParen closing k)))))
          (λ wanted s. behind (declr_scopes wanted d s) (in_own_scope (params_scopes ps)))
          (max (declr_height d) (params_height ps) + 1)
      either true is = record {
        spelled = λ k. refl;
        fits = (h.0, is, h.1, p, e);
        name = sym is;
        named = λ wanted s. refl;
        low = refl;
        shows = λ s e. e;
        lists = refl;
      }
      either false is = record {
        spelled = λ k. refl;
        fits = ((h.0, is, h.1), p, e);
        name = sym is;
        named = λ wanted s. refl;
        low = refl;
        shows = λ s e. e;
        lists = sym (unnamed_plain d is);
      }

  direct_made : (d : SomeDeclr) (opening : ℕ) (words : List ArrayWord) (size : SomeSize) (closing : ℕ)
      → is_direct (with_array d opening words size closing) ≡ true
  direct_made no_declr opening words size closing = refl
  direct_made (some_declr d) opening words size closing = either (is_named d)
    where
      either : (b : Bool)
          → is_direct
          (if b then array d opening words size closing else abs_array (some_declr d) opening words size closing) ≡ true
      either true = refl
      either false = refl

  direct_params : (d : SomeDeclr) (opening : ℕ) (ps : Params) (dots : Option Dots) (closing : ℕ)
      → is_direct (with_params d opening ps dots closing) ≡ true
  direct_params no_declr opening ps dots closing = refl
  direct_params (some_declr d) opening ps dots closing = either (is_named d)
    where
      either : (b : Bool)
          → is_direct
          (if b then params d opening ps dots closing else abs_params (some_declr d) opening ps dots closing) ≡ true
      either true = refl
      either false = refl

  direct_paren : (opening : ℕ) (attrs : List Attr) (d : Declr) (closing : ℕ)
      → is_direct (with_paren opening attrs d closing) ≡ true
  direct_paren opening attrs d closing = either (is_named d)
    where
      either : (b : Bool)
          → is_direct (if b then declr_paren opening attrs d closing else abs_paren opening attrs d closing) ≡ true
      either true = refl
      either false = refl

  -- in parentheses no typedef name may be first where a parameter's declarator stands
  paren_shows : (opening : ℕ) (attrs : List Attr) (d : Declr) (closing : ℕ) (s : HeldScopes) → shows_no_type s d ≡ true
      → begins_with_type s (first_name d) ≡ false → shows_no_type s (with_paren opening attrs d closing) ≡ true
  paren_shows opening attrs d closing s h none = either (is_named d)
    where
      either : (b : Bool)
          → shows_no_type s
          (if b then declr_paren opening attrs d closing else abs_paren opening attrs d closing) ≡ true
      either true = rw (none, h) refl
      either false = h

  pub record WholeParen (opening : ℕ) (attrs : List Attr) (d : Declr) (closing : ℕ) : Type 0 where
    pub spelled : (k : List Lexeme)
        → declr_text all (with_paren opening attrs d closing) k ≡ sign_text puncts.OpenParen opening
        (attrs_text all attrs (declr_text all d (sign_text puncts.CloseParen closing k)))
    pub fits : IsDeclr all (with_paren opening attrs d closing)
    pub name : is_named (with_paren opening attrs d closing) ≡ is_named d
    pub named : (wanted : Option Kind) (s : HeldScopes)
        → declr_scopes wanted (with_paren opening attrs d closing) s ≡ declr_scopes wanted d s
    pub low : declr_height (with_paren opening attrs d closing) ≡ max (attrs_height attrs) (declr_height d) + 1
    pub lists : lists_identifiers (with_paren opening attrs d closing) ≡ lists_identifiers d

  paren_whole : (opening : ℕ) (attrs : List Attr) (d : Declr) (closing : ℕ) → AreAttrs all attrs → IsDeclr all d
      → WholeParen opening attrs d closing
  paren_whole opening attrs d closing a h = either (is_named d) refl
    where
      either : (b : Bool) → is_named d ≡ b → WholeParen opening attrs d closing
      either true is = record {
        spelled = λ k. rw is refl;
        fits = rw is (a, h, is);
        name = rw is refl;
        named = λ wanted s. rw is refl;
        low = rw is refl;
        lists = rw is refl;
      }
      either false is = record {
        spelled = λ k. rw is refl;
        fits = rw is (a, h, is);
        name = rw is refl;
        named = λ wanted s. rw is refl;
        low = rw is refl;
        lists = rw is (sym (unnamed_plain d is));
      }

  -- the first name of a declarator is its first token
  first_name_is : (d : Declr) (name : ℕ) (k : List Lexeme) → first_name d ≡ Some name
      → kind_at (declr_text all d k) ≡ kinds.Name name
  first_name_is (pointer sign words d) name k e = absurd cc
  first_name_is (declr_name token m) name k e = ap (λ (m : ℕ). kinds.Name m) (some_same m name e)
    where
      some_same : (a b : ℕ) → Some a ≡ Some b → a ≡ b
      some_same a b e = cc
  first_name_is (declr_paren opening attrs d closing) name k e = absurd cc
  first_name_is (array d opening words size closing) name k e = first_name_is d name _ e
  first_name_is (params d opening ps dots closing) name k e = first_name_is d name _ e
  first_name_is (identifiers d opening names closing) name k e = first_name_is d name _ e
  first_name_is (base_name token) name k e = absurd cc
  first_name_is (abs_pointer sign words d) name k e = absurd cc
  first_name_is (abs_paren opening attrs d closing) name k e = absurd cc
  first_name_is (abs_array d opening words size closing) name k e = absurd cc
  first_name_is (abs_params d opening ps dots closing) name k e = absurd cc

  -- what does not begin specifiers begins no typedef name
  no_type_first : (d : Declr) (s : HeldScopes) (k : List Lexeme) → begins_specs s (kind_at (declr_text all d k)) ≡ false
      → begins_with_type s (first_name d) ≡ false
  no_type_first d s k e = by_name (first_name d) refl
    where
      name_begins : (s : HeldScopes) (name : ℕ) → begins_specs s (kinds.Name name) ≡ false → names_type s name ≡ false
      name_begins s name e = either (names_type s name) refl
        where
          either : (b : Bool) → names_type s name ≡ b → b ≡ false
          either false is = refl
          either true is = let wrong : true ≡ false = sym (rw is refl) ∙ e in absurd cc

      by_name : (o : Option ℕ) → first_name d ≡ o → begins_with_type s o ≡ false
      by_name None is = refl
      by_name (Some name) is = name_begins s name (ap (begins_specs s) (sym (first_name_is d name k is)) ∙ e)

-- what an identifier asks of the scopes
abbrev pub identifier_scopes : Identifier → HeldScopes → Option HeldScopes
identifier_scopes it s = where_true (not (names_type s it.name)) s

pub identifiers_are : (names : List Identifier) (s : HeldScopes)
    → row_scopes (name_form identifier_scopes) names s ≡ identifiers_scopes names s
identifiers_are [] s = refl
identifiers_are (it ∷ names) s = behind_same (identifier_scopes it s) _ _ (λ t. identifiers_are names t)

-- where wider C is read, a list of identifiers asks of the scopes what its names ask
pub wide_names : (names : List Identifier) (s : HeldScopes) (r : Option HeldScopes) → is_wide s ≡ true
    → identifiers_scopes names s ≡ r →
    behind (where_true (is_wide s) s) (identifiers_scopes names) ≡ r
wide_names names s r wide e = rw wide e

-- a declarator is given at most one level more than its room
room_most : (room : ℕ) (d : Declared) (kind : TokenKind) → room_at true room d kind ≤ suc room
room_most room d kind = by_test (is_some d.closed || (is_open_paren kind && is_bare d.declr))
  where
    by_test : (b : Bool) → (if b then suc room else room) ≤ suc room
    by_test true = omega arith
    by_test false = omega arith

module _ (all : List Lexeme) (numbered : IsNumbered all) (tokens : TokenLaws all) (n : ℕ) (inner : Inner)
    (laws : Laws all n inner) where
  -- a size, or none
  record TookSize (room : ℕ) (s : HeldScopes) (ts : List Lexeme) (x : Found SomeSize) : Type 0 where
    spelled : ts ≡ some_size_text all x.tree x.rest
    fits : IsSize all x.tree
    named : some_size_scopes x.tree s ≡ Some x.scopes
    low : some_size_height x.tree ≤ room - 1
    left : IsTail all x.rest

  star_size_sound : (room : ℕ) (s : HeldScopes) (ts : List Lexeme) (x : Found SomeSize) → IsTail all ts
      → is_star (kind_at ts) ≡ true → star_size inner room s ts ≡ done x → TookSize room s ts x
  unfolding star_size
  star_size_sound room s ts x tail is e =
      let a = bind_ok e in
      let t = took all (kinds.Punct puncts.Star) s ts a.0 tail (star_kind (kind_at ts) is) a.1 in
      if_ok (is_close_bracket (kind_at a.0.rest)) a.2
      (λ c e. at_end (TookSize room s ts) e
      (record { spelled = t.spelled; fits = tt; named = ap Some (sym t.same); low = omega arith; left = t.left }))
      (λ c e. let b = bind_ok e in
      let i =
      laws.exprs.begun_sound Assigned (begun_star a.0.tree) (room - 1) refl a.0.scopes a.0.rest b.0 t.left b.1 in
      at_end (TookSize room s ts) b.2 (record {
        spelled = t.spelled ∙ i.spelled;
        fits = i.fits;
        named = ap (λ (u : HeldScopes). some_size_scopes (some_size (size_value b.0.tree)) u) (sym t.same) ∙ i.named;
        low = i.low;
        left = i.left;
      }))

  size_sound : (room : ℕ) (s : HeldScopes) (ts : List Lexeme) (x : Found SomeSize) → IsTail all ts
      → size_with inner room s ts ≡ done x → TookSize room s ts x
  unfolding size_with
  size_sound room s ts x tail e =
      if_ok (is_close_bracket (kind_at ts)) e
      (λ is e. at_end (TookSize room s ts) e
      (record { spelled = refl; fits = tt; named = refl; low = omega arith; left = tail }))
      (λ is e. if_ok (is_star (kind_at ts)) e
      (λ is e. star_size_sound room s ts x tail is e)
      (λ is e. let b = bind_ok e in
      let i = laws.exprs.sound Assigned (room - 1) s ts b.0 tail b.1 in
      at_end (TookSize room s ts) b.2
      (record { spelled = i.spelled; fits = i.fits; named = i.named; low = i.low; left = i.left })))

  -- what stands so far of a declarator whose text began at some tokens and scopes
  pub record State (wanted : Option Kind) (flag : Bool) (room : ℕ) (s : HeldScopes) (ts : List Lexeme)
      (x : Found Declared) : Type 0 where
    pub spelled : ts ≡ some_declr_text all x.tree.declr x.rest
    pub fits : IsDirectSome all x.tree.declr
    pub named : some_declr_scopes wanted x.tree.declr s ≡ Some x.scopes
    pub closed : x.tree.closed ≡ closed_of wanted x.tree.declr s
    pub low : some_declr_height x.tree.declr ≤ declr_room flag x.tree.closed room
    pub plain : flag ≡ false → some_lists_identifiers x.tree.declr ≡ false
    pub left : IsTail all x.rest

  -- brackets behind a declarator
  record TookArray (d : Declared) (r : ℕ) (wanted : Option Kind) (s0 : HeldScopes) (ts0 : List Lexeme)
      (x : Found Declared) : Type 0 where
    spelled : ts0 ≡ some_declr_text all x.tree.declr x.rest
    fits : IsDirectSome all x.tree.declr
    named : some_declr_scopes wanted x.tree.declr s0 ≡ Some x.scopes
    closed : closed_of wanted x.tree.declr s0 ≡ closed_of wanted d.declr s0
    kept : x.tree.closed ≡ d.closed
    low : some_declr_height x.tree.declr ≤ r
    name : some_named x.tree.declr ≡ some_named d.declr
    shows : some_shows_no_type s0 d.declr ≡ true → some_shows_no_type s0 x.tree.declr ≡ true
    lists : some_lists_identifiers x.tree.declr ≡ some_lists_identifiers d.declr
    left : IsTail all x.rest

  array_sound : (d : Declared) (r : ℕ) (wanted : Option Kind) (s0 s : HeldScopes) (ts0 ts : List Lexeme)
      (x : Found Declared)
      → IsTail all ts → is_open_bracket (kind_at ts) ≡ true → suc (some_declr_height d.declr) ≤ r →
      ts0 ≡ some_declr_text all d.declr ts → IsDirectSome all d.declr → some_declr_scopes wanted d.declr s0 ≡ Some s
      → array_with inner d r s ts ≡ done x → TookArray d r wanted s0 ts0 x
  unfolding array_with
  array_sound d r wanted s0 s ts0 ts x tail is least spelled fits named e =
      let a = bind_ok e in
      let b = bind_ok a.2 in
      let c = bind_ok b.2 in
      let f = bind_ok c.2 in
      let o = took all (kinds.Punct puncts.OpenBracket) s ts a.0 tail (open_bracket_kind (kind_at ts) is) a.1 in
      let w = tokens.array_words_sound r a.0.scopes a.0.rest b.0 o.left b.1 in
      let z = size_sound r b.0.scopes b.0.rest c.0 w.left c.1 in
      let g = took_token all is_close_bracket
      (kinds.Punct puncts.CloseBracket) close_bracket_kind c.0.scopes c.0.rest f.0 z.left f.1 in
      let m = array_whole all d.declr a.0.tree b.0.tree c.0.tree f.0.tree fits w.fits z.fits in
      let flat : a.0.scopes ≡ b.0.scopes = some_scopes w.named in
      let same : b.0.scopes ≡ s = sym flat ∙ o.same in
      let inside : some_size_scopes c.0.tree s ≡ Some f.0.scopes =
      ap (some_size_scopes c.0.tree) (sym same) ∙ z.named ∙ ap Some (sym g.same) in
      let size_low : some_size_height c.0.tree ≤ r - 1 = z.low in
      at_end (TookArray d r wanted s0 ts0) f.2 (record {
        spelled = spelled ∙ ap (some_declr_text all d.declr) (o.spelled ∙ ap (sign_text puncts.OpenBracket a.0.tree)
            (w.spelled ∙ ap (array_words_text all b.0.tree) (z.spelled ∙ ap (some_size_text all c.0.tree) g.spelled)))
            ∙ sym (m.spelled f.0.rest);
        fits = (m.fits, direct_made all d.declr a.0.tree b.0.tree c.0.tree f.0.tree);
        named = m.named wanted s0 ∙ behind_is (some_size_scopes c.0.tree) named inside;
        closed = ap (λ (o : Option OwnParams). option_map innermost (own_scope_in wanted o s0))
            (own_array d.declr a.0.tree b.0.tree c.0.tree f.0.tree);
        kept = refl;
        low = subst (λ (h : ℕ). h ≤ r) (sym m.low) (omega (arith, least, size_low));
        name = m.name;
        shows = m.shows s0;
        lists = m.lists;
        left = g.left;
      })

  -- parameters behind a declarator, behind the parenthesis and attributes of the first
  record TookParens (d : Declared) (lead : List Attr) (opening : ℕ) (r : ℕ) (wanted : Option Kind) (s0 : HeldScopes)
      (ts : List Lexeme) (x : Found Declared) : Type 0 where
    ps : Params
    dots : Option Dots
    closing : ℕ
    scope : HeldScope
    made : x.tree.declr ≡ some_declr (with_params d.declr opening ps dots closing)
    spelled : attrs_text all lead ts
        ≡ params_text all ps (dots_text all dots (sign_text puncts.CloseParen closing x.rest))
    are : AreParams all ps
    ended : IsEllipsis all ps dots
    named : some_declr_scopes wanted x.tree.declr s0 ≡ Some x.scopes
    closed : x.tree.closed ≡ closed_of wanted x.tree.declr s0
    closed_is : x.tree.closed ≡ closed_by d.declr scope d.closed
    low : params_height ps ≤ r - 1
    left : IsTail all x.rest

  prototype_sound : (d : Declared) (opening : ℕ) (lead : List Attr) (r : ℕ) (wanted : Option Kind) (s0 s : HeldScopes)
      (ts : List Lexeme) (x : Found Declared)
      → IsTail all ts → AreAttrs all lead → IsDirectSome all d.declr →
      some_declr_scopes wanted d.declr s0 ≡ Some s → d.closed ≡ closed_of wanted d.declr s0
      → prototype_with inner d opening lead r s ts ≡ done x → TookParens d lead opening r wanted s0 ts x
  unfolding prototype_with
  prototype_sound d opening lead r wanted s0 s ts x tail leads fits named closed e =
      let a = bind_ok e in
      let b = bind_ok a.2 in
      let p = params_sound all numbered tokens n inner laws lead (r - 1) (enter s) ts a.0 tail leads a.1 in
      let g = took_token all is_close_paren
      (kinds.Punct puncts.CloseParen) close_paren_kind a.0.scopes a.0.rest b.0 p.left b.1 in
      let ps : Params = params_from a.0.tree.items in
      let dots : Option Dots = a.0.tree.ending in
      let inside : params_scopes ps (enter s) ≡ Some b.0.scopes = p.named ∙ ap Some (sym g.same) in
      let w = params_whole all d.declr opening ps dots b.0.tree fits p.fits p.ended in
      at_end (TookParens d lead opening r wanted s0 ts) b.2 (record {
        ps = ps;
        dots = dots;
        closing = b.0.tree;
        scope = innermost b.0.scopes;
        made = refl;
        spelled = p.spelled ∙ ap (λ (k : List Lexeme). params_text all ps (dots_text all dots k)) g.spelled;
        are = p.fits;
        ended = p.ended;
        named = w.named wanted s0 ∙ behind_is (in_own_scope (params_scopes ps)) named
            (behind_is (λ (inner : HeldScopes). Some (leave inner)) inside refl);
        closed = ap (closed_by d.declr (innermost b.0.scopes)) closed
            ∙ closed_with_params wanted d.declr opening ps dots b.0.tree s0 s b.0.scopes named inside;
        closed_is = refl;
        low = p.low;
        left = g.left;
      })

  -- the room of brackets and parameters

  pub array_room : (flag : Bool) (room : ℕ) (d : Declared) (kind : TokenKind) → is_open_paren kind ≡ false
      → room_at flag room d kind ≡ declr_room flag d.closed room
  array_room true room d kind is_no = by_closed d.closed refl
    where
      by_closed : (o : Option HeldScope) → d.closed ≡ o
          → (if is_some o || (is_open_paren kind && is_bare d.declr) then suc room else room) ≡ declr_room true o room
      by_closed (Some scope) is = refl
      by_closed None is = rw is_no refl
  array_room false room d kind is_no = refl

  pub params_room : (flag : Bool) (room : ℕ) (d : Declared) (kind : TokenKind) (scope : HeldScope)
      → is_open_paren kind ≡ true → room_at flag room d kind ≡ declr_room flag (closed_by d.declr scope d.closed) room
  params_room true room d kind scope is_yes = by_bare (is_bare d.declr) refl
    where
      by_closed : (o : Option HeldScope)
          → (if is_some o || (is_open_paren kind && false) then suc room else room) ≡ declr_room true o room
      by_closed (Some scope) = refl
      by_closed None = rw is_yes refl

      by_bare : (b : Bool) → is_bare d.declr ≡ b
          → (if is_some d.closed || (is_open_paren kind && b) then suc room else room)
          ≡ declr_room true (if b then Some scope else d.closed) room
      by_bare true is = always_true d.closed
        where
          always_true : (o : Option HeldScope)
              → (if is_some o || (is_open_paren kind && true) then suc room else room) ≡ suc room
          always_true (Some scope) = refl
          always_true None = rw is_yes refl
      by_bare false is = by_closed d.closed
  params_room false room d kind scope is_yes = refl

  pub open_bracket_no_paren : (kind : TokenKind) → is_open_bracket kind ≡ true → is_open_paren kind ≡ false
  open_bracket_no_paren (kinds.Punct puncts.OpenBracket) e = refl
  open_bracket_no_paren kind e = absurd cc

  -- what stays of the mode of a declarator when brackets or parameters come behind it
  pub record Keeps (s : HeldScopes) (d made : SomeDeclr) : Type 0 where
    pub name : some_named made ≡ some_named d
    pub shows : some_shows_no_type s d ≡ true → some_shows_no_type s made ≡ true

  pub record Going (wanted : Option Kind) (flag : Bool) (room : ℕ) (s : HeldScopes) (ts : List Lexeme)
      (core : SomeDeclr) (x : Found Declared) : Type 0 where
    pub state : State wanted flag room s ts x
    pub keeps : Keeps s core x.tree.declr

  one_bracket : (wanted : Option Kind) (flag : Bool) (room : ℕ) (s0 : HeldScopes) (ts0 : List Lexeme) (core : SomeDeclr)
      (d : Declared) (s : HeldScopes) (ts : List Lexeme) (x : Found Declared)
      → Going wanted flag room s0 ts0 core (found d s ts) →
      is_open_bracket (kind_at ts) ≡ true → fits (suc (some_declr_height d.declr)) (room_at flag room d (kind_at ts)) ts
      (array_with inner d (room_at flag room d (kind_at ts)) s ts) ≡ done x → Going wanted flag room s0 ts0 core x
  one_bracket wanted flag room s0 ts0 core d s ts x h is e =
      let r = fits_ok (suc (some_declr_height d.declr)) (room_at flag room d (kind_at ts)) ts e in
      let a = array_sound d (room_at flag room d (kind_at ts)) wanted s0 s ts0 ts x h.state.left is r.0 h.state.spelled
      h.state.fits h.state.named r.1 in
      let room_is = array_room flag room d (kind_at ts) (open_bracket_no_paren (kind_at ts) is) in
      record {
        state = record {
          spelled = a.spelled;
          fits = a.fits;
          named = a.named;
          closed = a.kept ∙ h.state.closed ∙ sym a.closed;
          low = subst (λ (c : Option HeldScope). some_declr_height x.tree.declr ≤ declr_room flag c room) (sym a.kept)
              (subst (λ (m : ℕ). some_declr_height x.tree.declr ≤ m) room_is a.low);
          plain = λ no. a.lists ∙ h.state.plain no;
          left = a.left;
        };
        keeps = record { name = a.name ∙ h.keeps.name; shows = λ e. a.shows (h.keeps.shows e) };
      }

  -- parameters behind a declarator, whose parenthesis was taken
  one_prototype : (wanted : Option Kind) (flag : Bool) (room : ℕ) (s0 : HeldScopes) (ts0 : List Lexeme)
      (core : SomeDeclr) (d : Declared) (s : HeldScopes) (ts : List Lexeme) (x : Found Declared) (o : Found ℕ) →
      Going wanted flag room s0 ts0 core (found d s ts) → is_open_paren (kind_at ts) ≡ true
      → suc (some_declr_height d.declr) ≤ room_at flag room d (kind_at ts)
      → Took all (kinds.Punct puncts.OpenParen) s ts o →
      prototype_with inner d o.tree [] (room_at flag room d (kind_at ts)) o.scopes o.rest ≡ done x
      → Going wanted flag room s0 ts0 core x
  one_prototype wanted flag room s0 ts0 core d s ts x a h is least o e =
      let named : some_declr_scopes wanted d.declr s0 ≡ Some a.scopes = h.state.named ∙ ap Some (sym o.same) in
      let p = prototype_sound d a.tree [] (room_at flag room d (kind_at ts)) wanted s0 a.scopes a.rest x o.left no_attrs
      h.state.fits named h.state.closed e in
      let w = params_whole all d.declr a.tree p.ps p.dots p.closing h.state.fits p.are p.ended in
      let room_is = params_room flag room d (kind_at ts) p.scope is in
      let params_low : params_height p.ps ≤ room_at flag room d (kind_at ts) - 1 = p.low in
      let low : declr_height (with_params d.declr a.tree p.ps p.dots p.closing) ≤ room_at flag room d (kind_at ts) =
      subst (λ (m : ℕ). m ≤ room_at flag room d (kind_at ts)) (sym w.low) (omega (arith, least, params_low)) in
      let closed_low : some_declr_height
      (some_declr (with_params d.declr a.tree p.ps p.dots p.closing)) ≤ declr_room flag x.tree.closed room =
      subst (λ (c : Option HeldScope). declr_height
      (with_params d.declr a.tree p.ps p.dots p.closing) ≤ declr_room flag c room) (sym p.closed_is)
      (subst (λ (m : ℕ). declr_height (with_params d.declr a.tree p.ps p.dots p.closing) ≤ m) room_is low) in
      record {
        state = record {
          spelled = h.state.spelled ∙ ap (some_declr_text all d.declr)
              (o.spelled ∙ ap (sign_text puncts.OpenParen a.tree) p.spelled) ∙ sym (w.spelled x.rest)
              ∙ ap (λ (d : SomeDeclr). some_declr_text all d x.rest) (sym p.made);
          fits = subst (IsDirectSome all) (sym p.made) (w.fits, direct_params all d.declr a.tree p.ps p.dots p.closing);
          named = p.named;
          closed = p.closed;
          low = subst (λ (d : SomeDeclr). some_declr_height d ≤ declr_room flag x.tree.closed room)
              (sym p.made) closed_low;
          plain = λ no. ap some_lists_identifiers p.made ∙ w.lists ∙ h.state.plain no;
          left = p.left;
        };
        keeps = record {
          name = ap some_named p.made ∙ w.name ∙ h.keeps.name;
          shows = λ e.
              subst (λ (d : SomeDeclr). some_shows_no_type s0 d ≡ true) (sym p.made) (w.shows s0 (h.keeps.shows e));
        };
      }
    where
      no_attrs : AreAttrs all []
      no_attrs = All-nil (λ (a : Attr). IsGroup all a.group)

  -- an identifier that was read is no typedef name
  identifier_sound : IsSound all (name_form identifier_scopes) 0 identifier_at
  identifier_sound s ts x tail e =
      if_ok (is_identifier s (spelled_name (kind_at ts))) e
      (λ is e. let t = took_name all s ts x tail e in
      record {
        spelled = t.spelled;
        fits = tt;
        named = free (spelled_name (kind_at ts)) refl is t;
        low = omega arith;
        left = t.left;
      })
      (λ is e. absurd cc)
    where
      free : (o : Option ℕ) → spelled_name (kind_at ts) ≡ o → is_identifier s o ≡ true → TookName all s ts x
          → identifier_scopes x.tree s ≡ Some x.scopes
      free None spelled is t = absurd cc
      free (Some name) spelled is t =
          let same : Some name ≡ Some x.tree.name =
          sym spelled ∙ ap (λ (ts : List Lexeme). spelled_name (kind_at ts)) t.spelled in
          rw (ap (λ (o : Option ℕ). is_identifier s o) (sym same) ∙ is) (ap Some (sym t.same))

  -- identifiers behind a declarator, whose parenthesis was taken
  one_identifiers : (wanted : Option Kind) (room : ℕ) (s0 : HeldScopes) (ts0 : List Lexeme) (core : SomeDeclr)
      (d : Declared) (inside : Declr) (s : HeldScopes) (ts : List Lexeme) (x : Found Declared) (o : Found ℕ) →
      Going wanted true room s0 ts0 core (found d s ts) → d.declr ≡ some_declr inside
      → is_some (bare_name inside) ≡ true → is_wide o.scopes ≡ true →
      suc (some_declr_height d.declr) ≤ room_at true room d (kind_at ts)
      → Took all (kinds.Punct puncts.OpenParen) s ts o →
      identifiers_with inner inside o.tree o.scopes o.rest ≡ done x → Going wanted true room s0 ts0 core x
  unfolding identifiers_with
  one_identifiers wanted room s0 ts0 core d inside s ts x a h is bare wide least o e =
      let b = bind_ok e in
      let c = bind_ok b.2 in
      let n = names_sound identifier_scopes identifier_at identifier_shrinks all numbered identifier_sound a.scopes
      a.rest b.0 o.left b.1 in
      let g = took_token all is_close_paren
      (kinds.Punct puncts.CloseParen) close_paren_kind b.0.scopes b.0.rest c.0 n.left c.1 in
      let spelled : ts0 ≡ declr_text all inside ts =
      h.state.spelled ∙ ap (λ (d : SomeDeclr). some_declr_text all d ts) is in
      let fits : IsDirectSome all (some_declr inside) = subst (IsDirectSome all) is h.state.fits in
      let named : declr_scopes wanted inside s0 ≡ Some a.scopes =
      ap (λ (d : SomeDeclr). some_declr_scopes wanted d s0) (sym is) ∙ h.state.named ∙ ap Some (sym o.same) in
      let high : declr_height inside + 1 ≤ suc room = subst (λ (d : SomeDeclr). some_declr_height d + 1 ≤ suc room) is
      (omega (arith, least, room_most room d (kind_at ts))) in
      at_end (Going wanted true room s0 ts0 core) c.2 (record {
        state = record {
          spelled = spelled ∙ ap (declr_text all inside)
              (o.spelled ∙ ap (sign_text puncts.OpenParen a.tree) (n.spelled ∙ ap (names_text b.0.tree) g.spelled));
          fits = ((fits.0, bare_is inside bare, n.some), refl);
          named = behind_is (λ t. behind (where_true (is_wide t) t) (identifiers_scopes b.0.tree)) named
              (wide_names b.0.tree a.scopes (Some c.0.scopes) wide
              (sym (identifiers_are b.0.tree a.scopes) ∙ n.named ∙ ap Some (sym g.same)));
          closed = closed_with_identifiers wanted inside a.tree b.0.tree c.0.tree s0 a.scopes bare named;
          low = high;
          plain = λ no. absurd cc;
          left = g.left;
        };
        keeps = record {
          name = sym (bare_named inside bare) ∙ ap some_named (sym is) ∙ h.keeps.name;
          shows = λ e. subst (λ (d : SomeDeclr). some_shows_no_type s0 d ≡ true) is (h.keeps.shows e);
        };
      })

  one_list : (wanted : Option Kind) (flag : Bool) (room : ℕ) (s0 : HeldScopes) (ts0 : List Lexeme) (core : SomeDeclr)
      (d : Declared) (s : HeldScopes) (ts : List Lexeme) (x : Found Declared)
      → Going wanted flag room s0 ts0 core (found d s ts) →
      is_open_paren (kind_at ts) ≡ true → fits (suc (some_declr_height d.declr)) (room_at flag room d (kind_at ts)) ts
      (params_behind inner flag d (room_at flag room d (kind_at ts)) s ts) ≡ done x
      → Going wanted flag room s0 ts0 core x
  one_list wanted flag room s0 ts0 core d s ts x h is e =
      let r = fits_ok (suc (some_declr_height d.declr)) (room_at flag room d (kind_at ts)) ts e in
      let a = bind_ok r.1 in
      let o = took all (kinds.Punct puncts.OpenParen) s ts a.0 h.state.left (open_paren_kind (kind_at ts) is) a.1 in
      by_list flag (is_bare d.declr) (begins_identifiers a.0.scopes (kind_at a.0.rest)) refl h a.0 refl r.0 o a.2
    where
      by_declr : (inside : SomeDeclr) → d.declr ≡ inside → is_bare inside ≡ true
          → Going wanted true room s0 ts0 core (found d s ts) → (a : Found ℕ) → is_wide a.scopes ≡ true
          → suc (some_declr_height d.declr) ≤ room_at true room d (kind_at ts) →
          Took all (kinds.Punct puncts.OpenParen) s ts a →
          identifiers_of inside (λ inside. identifiers_with inner inside a.tree a.scopes a.rest)
          (prototype_with inner d a.tree [] (room_at true room d (kind_at ts)) a.scopes a.rest) ≡ done x →
          Going wanted true room s0 ts0 core x
      by_declr no_declr same bare h a wide least o e = absurd cc
      by_declr (some_declr inside) same bare h a wide least o e =
          one_identifiers wanted room s0 ts0 core d inside s ts x a h same bare wide least o e

      by_list : (flag b c : Bool) → is_bare d.declr ≡ b → Going wanted flag room s0 ts0 core (found d s ts)
          → (a : Found ℕ) → begins_identifiers a.scopes (kind_at a.rest) ≡ c
          → suc (some_declr_height d.declr) ≤ room_at flag room d (kind_at ts) →
          Took all (kinds.Punct puncts.OpenParen) s ts a
          → list_behind inner (flag && b && c) d a.tree (room_at flag room d (kind_at ts)) a.scopes a.rest ≡ done x
          → Going wanted flag room s0 ts0 core x
      by_list true true true bare h a begins least o e =
          by_declr d.declr refl bare h a
          (and_first (is_wide a.scopes) (is_identifier a.scopes (spelled_name (kind_at a.rest))) begins) least o e
      by_list true true false bare h a begins least o e =
          one_prototype wanted true room s0 ts0 core d s ts x a h is least o e
      by_list true false c bare h a begins least o e =
          one_prototype wanted true room s0 ts0 core d s ts x a h is least o e
      by_list false b c bare h a begins least o e =
          one_prototype wanted false room s0 ts0 core d s ts x a h is least o e

  suffix_sound : (wanted : Option Kind) (flag : Bool) (room : ℕ) (s0 : HeldScopes) (ts0 : List Lexeme)
      (core : SomeDeclr) (d : Declared) (s : HeldScopes) (ts : List Lexeme) (x : Found Declared)
      → Going wanted flag room s0 ts0 core (found d s ts) →
      suffix_turn inner flag room d s ts ≡ Some (done x) → Going wanted flag room s0 ts0 core x
  suffix_sound wanted flag room s0 ts0 core d s ts x h e = by_bracket (is_open_bracket (kind_at ts)) refl e
    where
      some_done : {A : Type 0} {a b : A} → Some a ≡ Some b → a ≡ b
      some_done e = cc

      by_paren : (b : Bool) → is_open_paren (kind_at ts) ≡ b
          → (if b then Some (fits (suc (some_declr_height d.declr)) (room_at flag room d (kind_at ts)) ts
          (params_behind inner flag d (room_at flag room d (kind_at ts)) s ts)) else None) ≡ Some (done x) →
          Going wanted flag room s0 ts0 core x
      by_paren true is e = one_list wanted flag room s0 ts0 core d s ts x h is (some_done e)
      by_paren false is e = absurd cc

      by_bracket : (b : Bool) → is_open_bracket (kind_at ts) ≡ b
          → (if b then Some (fits (suc (some_declr_height d.declr)) (room_at flag room d (kind_at ts)) ts
          (array_with inner d (room_at flag room d (kind_at ts)) s ts))
          else if is_open_paren (kind_at ts) then Some (fits (suc (some_declr_height d.declr))
          (room_at flag room d (kind_at ts)) ts (params_behind inner flag d (room_at flag room d (kind_at ts)) s ts))
          else None) ≡ Some (done x) →
          Going wanted flag room s0 ts0 core x
      by_bracket true is e = one_bracket wanted flag room s0 ts0 core d s ts x h is (some_done e)
      by_bracket false is e = by_paren (is_open_paren (kind_at ts)) refl e

  suffixes_sound : (wanted : Option Kind) (flag : Bool) (room : ℕ) (s0 : HeldScopes) (ts0 : List Lexeme)
      (core : Found Declared) (x : Found Declared)
      → State wanted flag room s0 ts0 core →
      run (suffix_turn inner flag room) core.tree core.scopes core.rest ≡ done x
      → Going wanted flag room s0 ts0 core.tree.declr x
  suffixes_sound wanted flag room s0 ts0 core x h e =
      run-keep (suffix_turn inner flag room) (λ d s k. Going wanted flag room s0 ts0 core.tree.declr (found d s k))
      (λ d s k x h e. suffix_sound wanted flag room s0 ts0 core.tree.declr d s k x h e) core.tree
      core.scopes core.rest x
      (record { state = h; keeps = record { name = refl; shows = λ e. e } }) e

  -- no name need come
  abbrev pub takes_none : Mode → Type 0
  takes_none Named = ⊥
  takes_none Abstract = Unit {0}
  takes_none Either = Unit {0}

  -- a declarator without a name stands where none need come
  fits_alone : (mode : Mode) (made : Declr) (s : HeldScopes) → takes_none mode → IsDeclr all made
      → is_named made ≡ false → shows_no_type s made ≡ true → FitsMode all mode (some_declr made) s
  fits_alone Named made s none fits name shows = absurd none
  fits_alone Abstract made s none fits name shows = (fits, name)
  fits_alone Either made s none fits name shows = (fits, shows)

  -- what may stand before brackets and parameters: a name, something in parentheses, or nothing

  pub record Core (mode : Mode) (wanted : Option Kind) (flag : Bool) (room : ℕ) (s : HeldScopes) (ts : List Lexeme)
      (x : Found Declared) : Type 0 where
    pub state : State wanted flag room s ts x
    pub fits : FitsMode all mode x.tree.declr s

  -- the declarator inside parentheses or behind a star, in its mode
  fits_some : (mode : Mode) (d : SomeDeclr) (s : HeldScopes) → FitsMode all mode d s → IsSomeDeclr all d
  fits_some Named no_declr s h = absurd h
  fits_some Named (some_declr d) s h = h.0
  fits_some Abstract no_declr s h = tt
  fits_some Abstract (some_declr d) s h = h.0
  fits_some Either d s h = h.0

  -- a declarator made of another fits the mode that this fits
  fits_made : (mode : Mode) (d made : SomeDeclr) (s : HeldScopes) → FitsMode all mode d s → IsSomeDeclr all made
      → (some_named made ≡ some_named d) → (some_shows_no_type s d ≡ true → some_shows_no_type s made ≡ true) →
      FitsMode all mode made s
  fits_made Named no_declr made s h fits name shows = absurd h
  fits_made Named (some_declr d) no_declr s h fits name shows = let wrong : false ≡ true = name ∙ h.1 in absurd cc
  fits_made Named (some_declr d) (some_declr e) s h fits name shows = (fits, name ∙ h.1)
  fits_made Abstract no_declr no_declr s h fits name shows = tt
  fits_made Abstract no_declr (some_declr e) s h fits name shows = (fits, name)
  fits_made Abstract (some_declr d) no_declr s h fits name shows = tt
  fits_made Abstract (some_declr d) (some_declr e) s h fits name shows = (fits, name ∙ h.1)
  fits_made Either d made s h fits name shows = (fits, shows h.1)

  -- behind the parenthesis and attributes
  record TookParen (mode : Mode) (wanted : Option Kind) (flag : Bool) (room : ℕ) (opening : ℕ) (attrs : List Attr)
      (s : HeldScopes) (ts : List Lexeme) (x : Found Declared) : Type 0 where
    spelled : sign_text puncts.OpenParen opening (attrs_text all attrs ts) ≡ some_declr_text all x.tree.declr x.rest
    fits : FitsMode all mode x.tree.declr s
    direct : IsDirectSome all x.tree.declr
    named : some_declr_scopes wanted x.tree.declr s ≡ Some x.scopes
    closed : x.tree.closed ≡ closed_of wanted x.tree.declr s
    low : some_declr_height x.tree.declr ≤ declr_room flag x.tree.closed room
    plain : flag ≡ false → some_lists_identifiers x.tree.declr ≡ false
    left : IsTail all x.rest

  paren_sound : (mode : Mode) (wanted : Option Kind) (flag : Bool) (opening : ℕ) (attrs : List Attr) (room : ℕ)
      (s : HeldScopes) (ts : List Lexeme) (x : Found Declared)
      → IsTail all ts → AreAttrs all attrs → max 1 (least_with attrs) ≤ room →
      (mode ≡ Named) ⊎ (begins_specs s (kind_at ts) ≡ false)
      → paren_with inner mode wanted flag opening attrs room s ts ≡ done x
      → TookParen mode wanted flag room opening attrs s ts x
  unfolding paren_with
  paren_sound mode wanted flag opening attrs room s ts x tail a_fits least choice e =
      let a = bind_ok e in
      let b = bind_ok a.2 in
      let c = bind_ok b.2 in
      let d = laws.declrs.sound mode wanted flag (room - 1) s ts a.0 tail a.1 in
      let p = present_ok a.0.tree.declr a.0.scopes a.0.rest b.0 b.1 in
      by_declr a.0 b.0 c.0 d p.0 p.1 c.1 c.2
    where
      by_declr : (a : Found Declared) (b : Found Declr) (c : Found ℕ)
          → TakesDeclr all mode wanted flag (room - 1) s ts a → a.tree.declr ≡ some_declr b.tree
          → found b.tree a.scopes a.rest ≡ b →
          token_at is_close_paren b.scopes b.rest ≡ done c
          → done (found (record { declr = some_declr (with_paren opening attrs b.tree c.tree); closed = a.tree.closed })
          c.scopes c.rest) ≡ done x →
          TookParen mode wanted flag room opening attrs s ts x
      by_declr a b c d is same closes end =
          let rest_is : a.rest ≡ b.rest = ap (λ (b : Found Declr). b.rest) same in
          let scopes_are : a.scopes ≡ b.scopes = ap (λ (b : Found Declr). b.scopes) same in
          let g = took_token all is_close_paren (kinds.Punct puncts.CloseParen) close_paren_kind b.scopes b.rest c
          (subst (IsTail all) rest_is d.left) closes in
          let fits : FitsMode all mode (some_declr b.tree) s =
          subst (λ (d : SomeDeclr). FitsMode all mode d s) is d.fits in
          let declr_fits : IsDeclr all b.tree = fits_some mode (some_declr b.tree) s fits in
          let w = paren_whole all opening attrs b.tree c.tree a_fits declr_fits in
          let text_is : ts ≡ declr_text all b.tree b.rest =
          d.spelled ∙ ap (λ (d : SomeDeclr). some_declr_text all d a.rest) is ∙ ap (declr_text all b.tree) rest_is in
          let low : declr_height b.tree ≤ declr_room flag a.tree.closed (room - 1) =
          subst (λ (d : SomeDeclr). some_declr_height d ≤ declr_room flag a.tree.closed (room - 1)) is d.low in
          at_end (TookParen mode wanted flag room opening attrs s ts) end (record {
            spelled = ap (λ (k : List Lexeme). sign_text puncts.OpenParen opening (attrs_text all attrs k))
                (text_is ∙ ap (declr_text all b.tree) g.spelled) ∙ sym (w.spelled c.rest);
            fits = fits_by choice b.tree fits w.fits w.name (ap (λ (k : List Lexeme). kind_at k) text_is);
            direct = (w.fits, direct_paren all opening attrs b.tree c.tree);
            named = w.named wanted s ∙ ap (λ (d : SomeDeclr). some_declr_scopes wanted d s) (sym is) ∙ d.named
                ∙ ap Some (scopes_are ∙ sym g.same);
            closed = d.closed ∙ ap (λ (d : SomeDeclr). closed_of wanted d s) is
                ∙ ap (λ (o : Option OwnParams). option_map innermost (own_scope_in wanted o s))
                (sym (own_paren opening attrs b.tree c.tree));
            low = subst (λ (m : ℕ). m ≤ declr_room flag a.tree.closed room) (sym w.low) (more_room flag a.tree.closed
                room (declr_height b.tree) (attrs_height attrs) low (omega (arith, low_attrs attrs, least)));
            plain = λ no. w.lists ∙ ap some_lists_identifiers (sym is) ∙ d.plain no;
            left = g.left;
          })
        where
          fits_by : (mode ≡ Named) ⊎ (begins_specs s (kind_at ts) ≡ false) → (e : Declr)
              → FitsMode all mode (some_declr e) s → IsDeclr all (with_paren opening attrs e c.tree)
              → is_named (with_paren opening attrs e c.tree) ≡ is_named e →
              kind_at ts ≡ kind_at (declr_text all e b.rest)
              → FitsMode all mode (some_declr (with_paren opening attrs e c.tree)) s
          fits_by (inl is) e fits whole name kind =
              let f : FitsMode all Named (some_declr e) s =
              subst (λ (m : Mode). FitsMode all m (some_declr e) s) is fits in
              subst (λ (m : Mode). FitsMode all m (some_declr (with_paren opening attrs e c.tree)) s) (sym is)
              (whole, name ∙ f.1)
          fits_by (inr none) e fits whole name kind =
              fits_made mode (some_declr e) (some_declr (with_paren opening attrs e c.tree)) s fits whole name
              (λ h. paren_shows all opening attrs e c.tree s h
              (no_type_first all e s b.rest (ap (begins_specs s) (sym kind) ∙ none)))

  -- a parenthesis, attributes, and what stands behind them

  attrs_least : (attrs : List Attr) (least room : ℕ) → least ≤ room → 1 ≤ least → least_with attrs ≤ room
      → max 1 (least_with attrs) ≤ room
  attrs_least attrs least room h one low = omega (arith, h, one, low)

  from_paren : (mode : Mode) (wanted : Option Kind) (flag : Bool) (room opening : ℕ) (attrs : List Attr)
      (s : HeldScopes) (ts0 ts : List Lexeme) (x : Found Declared)
      → ts0 ≡ sign_text puncts.OpenParen opening (attrs_text all attrs ts) →
      TookParen mode wanted flag room opening attrs s ts x → Core mode wanted flag room s ts0 x
  from_paren mode wanted flag room opening attrs s ts0 ts x is t = record {
    state = record {
      spelled = is ∙ t.spelled;
      fits = t.direct;
      named = t.named;
      closed = t.closed;
      low = t.low;
      plain = t.plain;
      left = t.left;
    };
    fits = t.fits;
  }

  named_paren_sound : (wanted : Option Kind) (flag : Bool) (room : ℕ) (s : HeldScopes) (ts : List Lexeme)
      (x : Found Declared)
      → IsTail all ts → is_open_paren (kind_at ts) ≡ true → named_paren inner wanted flag room s ts ≡ done x →
      Core Named wanted flag room s ts x
  unfolding named_paren
  named_paren_sound wanted flag room s ts x tail is e =
      let r = fits_ok 2 room ts e in
      let a = bind_ok r.1 in
      let b = bind_ok a.2 in
      let o = took all (kinds.Punct puncts.OpenParen) s ts a.0 tail (open_paren_kind (kind_at ts) is) a.1 in
      let w = tokens.attrs_sound room a.0.scopes a.0.rest b.0 o.left b.1 in
      let flat : a.0.scopes ≡ b.0.scopes = some_scopes w.named in
      let same : b.0.scopes ≡ s = sym flat ∙ o.same in
      let p = paren_sound Named wanted flag a.0.tree b.0.tree room b.0.scopes b.0.rest x w.left w.fits
      (attrs_least b.0.tree 2 room r.0 (omega arith) w.low) (inl refl) b.2 in
      let core = from_paren Named wanted flag room a.0.tree b.0.tree b.0.scopes ts b.0.rest x
      (o.spelled ∙ ap (sign_text puncts.OpenParen a.0.tree) w.spelled) p in
      subst (λ (u : HeldScopes). Core Named wanted flag room u ts x) same core

  -- parameters without a declarator before them
  alone_sound : (mode : Mode) (wanted : Option Kind) (flag : Bool) (room opening : ℕ) (attrs : List Attr)
      (s : HeldScopes) (ts : List Lexeme) (x : Found Declared)
      → takes_none mode → IsTail all ts → AreAttrs all attrs → 1 ≤ room →
      prototype_with inner (record { declr = no_declr; closed = None }) opening attrs room s ts ≡ done x
      → TookParen mode wanted flag room opening attrs s ts x
  alone_sound mode wanted flag room opening attrs s ts x none tail fits least e =
      let p = prototype_sound
      (record { declr = no_declr; closed = None }) opening attrs room wanted s s ts x tail fits tt refl refl e in
      let w = params_whole all no_declr opening p.ps p.dots p.closing tt p.are p.ended in
      let params_low : params_height p.ps ≤ room - 1 = p.low in
      let low : declr_height (with_params no_declr opening p.ps p.dots p.closing) ≤ room =
      subst (λ (m : ℕ). m ≤ room) (sym w.low) (omega (arith, least, params_low)) in
      record {
        spelled = ap (sign_text puncts.OpenParen opening) p.spelled ∙ sym (w.spelled x.rest)
            ∙ ap (λ (d : SomeDeclr). some_declr_text all d x.rest) (sym p.made);
        fits = subst (λ (d : SomeDeclr). FitsMode all mode d s) (sym p.made) (fits_alone mode
            (with_params no_declr opening p.ps p.dots p.closing) s none w.fits w.name (w.shows s refl));
        direct =
            subst (IsDirectSome all) (sym p.made) (w.fits, direct_params all no_declr opening p.ps p.dots p.closing);
        named = p.named;
        closed = p.closed;
        low = subst (λ (d : SomeDeclr). some_declr_height d ≤ declr_room flag x.tree.closed room) (sym p.made)
            (subst (λ (c : Option HeldScope). declr_height (with_params no_declr opening p.ps p.dots p.closing)
            ≤ declr_room flag c room) (sym p.closed_is) (subst (λ (m : ℕ). declr_height
            (with_params no_declr opening p.ps p.dots p.closing) ≤ m) (sym (no_closed flag)) low));
        plain = λ no. ap some_lists_identifiers p.made;
        left = p.left;
      }
    where
      no_closed : (flag : Bool) → declr_room flag None room ≡ room
      no_closed true = refl
      no_closed false = refl

  opened_by_sound : (mode : Mode) (wanted : Option Kind) (flag : Bool) (room opening : ℕ) (attrs : List Attr)
      (s : HeldScopes) (ts : List Lexeme) (x : Found Declared)
      → takes_none mode → IsTail all ts → AreAttrs all attrs → max 1 (least_with attrs) ≤ room →
      opened_by inner mode wanted flag opening attrs room s ts ≡ done x
      → TookParen mode wanted flag room opening attrs s ts x
  unfolding opened_by
  opened_by_sound mode wanted flag room opening attrs s ts x none tail fits least e =
      if_ok (opens_params attrs s (kind_at ts)) e
      (λ is e. alone_sound mode wanted flag room opening attrs s ts x none tail fits (omega (arith, least)) e)
      (λ is e. if_ok (opens_declr mode (kind_at ts)) e
      (λ goes e. paren_sound mode wanted flag opening attrs room s ts x tail fits least
      (inr (no_specs (are_none attrs && is_close_paren (kind_at ts)) (begins_specs s (kind_at ts)) is)) e)
      (λ goes e. absurd cc))
    where
      no_specs : (a b : Bool) → (a || b) ≡ false → b ≡ false
      no_specs true b e = absurd cc
      no_specs false b e = e

  opened_sound : (mode : Mode) (wanted : Option Kind) (flag : Bool) (room : ℕ) (s : HeldScopes) (ts : List Lexeme)
      (x : Found Declared)
      → takes_none mode → IsTail all ts → is_open_paren (kind_at ts) ≡ true
      → opened_with inner mode wanted flag room s ts ≡ done x →
      Core mode wanted flag room s ts x
  unfolding opened_with
  opened_sound mode wanted flag room s ts x none tail is e =
      let r = fits_ok 1 room ts e in
      let a = bind_ok r.1 in
      let b = bind_ok a.2 in
      let o = took all (kinds.Punct puncts.OpenParen) s ts a.0 tail (open_paren_kind (kind_at ts) is) a.1 in
      let w = tokens.attrs_sound room a.0.scopes a.0.rest b.0 o.left b.1 in
      let flat : a.0.scopes ≡ b.0.scopes = some_scopes w.named in
      let same : b.0.scopes ≡ s = sym flat ∙ o.same in
      let p = opened_by_sound mode wanted flag room a.0.tree b.0.tree b.0.scopes b.0.rest x none w.left w.fits
      (attrs_least b.0.tree 1 room r.0 (omega arith) w.low) b.2 in
      let core = from_paren mode wanted flag room a.0.tree b.0.tree b.0.scopes ts b.0.rest x
      (o.spelled ∙ ap (sign_text puncts.OpenParen a.0.tree) w.spelled) p in
      subst (λ (u : HeldScopes). Core mode wanted flag room u ts x) same core

  -- a name, or nothing

  absent_sound : (mode : Mode) (wanted : Option Kind) (flag : Bool) (room : ℕ) (s : HeldScopes) (ts : List Lexeme)
      (x : Found Declared)
      → IsTail all ts → absent mode s ts ≡ done x → Core mode wanted flag room s ts x
  absent_sound Named wanted flag room s ts x tail e = absurd cc
  absent_sound Abstract wanted flag room s ts x tail e =
      at_end (Core Abstract wanted flag room s ts) e (record {
        state = record {
          spelled = refl;
          fits = tt;
          named = refl;
          closed = refl;
          low = omega arith;
          plain = λ no. refl;
          left = tail;
        };
        fits = tt;
      })
  absent_sound Either wanted flag room s ts x tail e =
      at_end (Core Either wanted flag room s ts) e (record {
        state = record {
          spelled = refl;
          fits = tt;
          named = refl;
          closed = refl;
          low = omega arith;
          plain = λ no. refl;
          left = tail;
        };
        fits = (tt, refl);
      })

  name_fits : (mode : Mode) (token name : ℕ) (s : HeldScopes) → takes_name mode ≡ true
      → FitsMode all mode (some_declr (declr_name token name)) s
  name_fits Named token name s e = (tt, refl)
  name_fits Abstract token name s e = absurd cc
  name_fits Either token name s e = (tt, refl)

  low_name : (flag : Bool) (room : ℕ) → 1 ≤ room → 1 ≤ declr_room flag None room
  low_name true room h = h
  low_name false room h = h

  held_sound : (mode : Mode) (wanted : Option Kind) (flag : Bool) (name room : ℕ) (s : HeldScopes) (ts : List Lexeme)
      (o : Option HeldScopes) (x : Found Declared)
      → IsTail all ts → takes_name mode ≡ true → kind_at ts ≡ kinds.Name name →
      at_name wanted name s ≡ o → name_held name room o s ts ≡ done x → Core mode wanted flag room s ts x
  held_sound mode wanted flag name room s ts None x tail takes kind is e = absurd cc
  held_sound mode wanted flag name room s ts (Some held) x tail takes kind is e =
      let r = fits_ok 1 room ts e in
      let a = bind_ok r.1 in
      let t = took all (kinds.Name name) s ts a.0 tail kind a.1 in
      at_end (Core mode wanted flag room s ts) a.2 (record {
        state = record {
          spelled = t.spelled;
          fits = (tt, refl);
          named = is;
          closed = refl;
          low = low_name flag room r.0;
          plain = λ no. refl;
          left = t.left;
        };
        fits = name_fits mode a.0.tree name s takes;
      })

  name_sound : (mode : Mode) (wanted : Option Kind) (flag : Bool) (room : ℕ) (s : HeldScopes) (ts : List Lexeme)
      (o : Option ℕ) (x : Found Declared)
      → IsTail all ts → spelled_name (kind_at ts) ≡ o → name_or_none inner mode wanted o room s ts ≡ done x →
      Core mode wanted flag room s ts x
  name_sound mode wanted flag room s ts None x tail is e = absent_sound mode wanted flag room s ts x tail e
  name_sound mode wanted flag room s ts (Some name) x tail is e =
      if_ok (takes_name mode) e
      (λ takes e. held_sound mode wanted flag name room s ts (at_name wanted name s) x tail takes
      (name_kind all (kind_at ts) name is) refl e)
      (λ takes e. absent_sound mode wanted flag room s ts x tail e)

  some_paren_sound : (mode : Mode) (wanted : Option Kind) (flag : Bool) (room : ℕ) (s : HeldScopes) (ts : List Lexeme)
      (x : Found Declared)
      → IsTail all ts → is_open_paren (kind_at ts) ≡ true → some_paren inner mode wanted flag room s ts ≡ done x →
      Core mode wanted flag room s ts x
  some_paren_sound Named wanted flag room s ts x tail is e = named_paren_sound wanted flag room s ts x tail is e
  some_paren_sound Abstract wanted flag room s ts x tail is e =
      opened_sound Abstract wanted flag room s ts x tt tail is e
  some_paren_sound Either wanted flag room s ts x tail is e = opened_sound Either wanted flag room s ts x tt tail is e

  base_kind : (kind : TokenKind) → is_base_word kind ≡ true → kind ≡ kinds.Keyword keywords.BaseWord
  base_kind (kinds.Keyword keywords.BaseWord) e = refl
  base_kind kind e = absurd cc

  -- a base word that names a typedef
  base_sound : (mode : Mode) (wanted : Option Kind) (flag : Bool) (room : ℕ) (s : HeldScopes) (ts : List Lexeme)
      (x : Found Declared)
      → IsTail all ts → names_base s mode wanted (kind_at ts) ≡ true → base_named room s ts ≡ done x →
      Core mode wanted flag room s ts x
  base_sound Named (Some Typedef) flag room s ts x tail is e =
      let r = fits_ok 1 room ts e in
      let a = bind_ok r.1 in
      let t = took all (kinds.Keyword keywords.BaseWord) s ts a.0 tail
      (base_kind (kind_at ts) (and_second (is_wide s) (is_base_word (kind_at ts)) is)) a.1 in
      at_end (Core Named (Some Typedef) flag room s ts) a.2 (record {
        state = record {
          spelled = t.spelled;
          fits = (tt, refl);
          named = rw (and_first (is_wide s) (is_base_word (kind_at ts)) is) (ap Some (sym t.same));
          closed = refl;
          low = low_name flag room r.0;
          plain = λ no. refl;
          left = t.left;
        };
        fits = (tt, refl);
      })
  base_sound Named (Some Value) flag room s ts x tail is e = absurd cc
  base_sound Named (Some Constant) flag room s ts x tail is e = absurd cc
  base_sound Named None flag room s ts x tail is e = absurd cc
  base_sound Abstract wanted flag room s ts x tail is e = absurd cc
  base_sound Either wanted flag room s ts x tail is e = absurd cc

  core_sound : (mode : Mode) (wanted : Option Kind) (flag : Bool) (room : ℕ) (s : HeldScopes) (ts : List Lexeme)
      (x : Found Declared)
      → IsTail all ts → core_with inner mode wanted flag room s ts ≡ done x → Core mode wanted flag room s ts x
  unfolding core_with
  core_sound mode wanted flag room s ts x tail e =
      if_ok (is_open_paren (kind_at ts)) e
      (λ is e. some_paren_sound mode wanted flag room s ts x tail is e)
      (λ is e. if_ok (names_base s mode wanted (kind_at ts)) e
      (λ is e. base_sound mode wanted flag room s ts x tail is e)
      (λ is e. name_sound mode wanted flag room s ts (spelled_name (kind_at ts)) x tail refl e))

  direct_some : (d : SomeDeclr) → IsDirectSome all d → IsSomeDeclr all d
  direct_some no_declr h = tt
  direct_some (some_declr d) h = h.0

  direct_sound : (mode : Mode) (wanted : Option Kind) (flag : Bool) (room : ℕ) (s : HeldScopes) (ts : List Lexeme)
      (x : Found Declared)
      → IsTail all ts → direct_with inner mode wanted flag room s ts ≡ done x
      → TakesDeclr all mode wanted flag room s ts x
  unfolding direct_with
  direct_sound mode wanted flag room s ts x tail e =
      let a = bind_ok e in
      let c = core_sound mode wanted flag room s ts a.0 tail a.1 in
      let g = suffixes_sound wanted flag room s ts a.0 x c.state a.2 in
      record {
        spelled = g.state.spelled;
        fits = fits_made mode a.0.tree.declr x.tree.declr s c.fits
            (direct_some x.tree.declr g.state.fits) g.keeps.name g.keeps.shows;
        named = g.state.named;
        closed = g.state.closed;
        plain = g.state.plain;
        low = g.state.low;
        left = g.state.left;
      }

  least_one : (mode : Mode) (room : ℕ) → least_pointer mode ≤ room → 1 ≤ room
  least_one Named room h = omega (arith, h)
  least_one Abstract room h = h
  least_one Either room h = h

  pointer_sound : (mode : Mode) (wanted : Option Kind) (flag : Bool) (room : ℕ) (s : HeldScopes) (ts : List Lexeme)
      (x : Found Declared)
      → IsTail all ts → is_star (kind_at ts) ≡ true → pointer_with inner mode wanted flag room s ts ≡ done x →
      TakesDeclr all mode wanted flag room s ts x
  unfolding pointer_with
  pointer_sound mode wanted flag room s ts x tail is e =
      let r = fits_ok (least_pointer mode) room ts e in
      let a = bind_ok r.1 in
      let b = bind_ok a.2 in
      let c = bind_ok b.2 in
      let o = took all (kinds.Punct puncts.Star) s ts a.0 tail (star_kind (kind_at ts) is) a.1 in
      let w = tokens.pointer_words_sound room a.0.scopes a.0.rest b.0 o.left b.1 in
      let flat : a.0.scopes ≡ b.0.scopes = some_scopes w.named in
      let same : b.0.scopes ≡ s = sym flat ∙ o.same in
      let d = laws.declrs.sound mode wanted flag (room - 1) b.0.scopes b.0.rest c.0 w.left c.1 in
      at_end (TakesDeclr all mode wanted flag room s ts) c.2
      (subst (λ (u : HeldScopes). TakesDeclr all mode wanted flag room u ts
      (found (record { declr = some_declr (with_pointer a.0.tree b.0.tree c.0.tree.declr); closed = c.0.tree.closed })
      c.0.scopes c.0.rest)) same
      (made a.0.tree b.0.tree c.0 b.0.scopes b.0.rest (least_one mode room r.0)
      (o.spelled ∙ ap (sign_text puncts.Star a.0.tree) w.spelled) w.fits w.low d))
    where
      made : (token : ℕ) (words : List PointerWord) (d : Found Declared) (u : HeldScopes) (k : List Lexeme) → 1 ≤ room
          → ts ≡ sign_text puncts.Star token (pointer_words_text all words k) → All (IsPointerWord all) words
          → least_pointer_words words ≤ room →
          TakesDeclr all mode wanted flag (room - 1) u k d → TakesDeclr all mode wanted flag room u ts
          (found (record { declr = some_declr (with_pointer token words d.tree.declr); closed = d.tree.closed })
          d.scopes d.rest)
      made token words d u k least text fits low t =
          let inside : IsSomeDeclr all d.tree.declr = fits_some mode d.tree.declr u t.fits in
          let w = pointer_whole all token words d.tree.declr fits inside in
          record {
            spelled =
                text ∙ ap (λ (k : List Lexeme). sign_text puncts.Star token (pointer_words_text all words k)) t.spelled
                ∙ sym (w.spelled d.rest);
            fits = fits_made mode d.tree.declr
                (some_declr (with_pointer token words d.tree.declr)) u t.fits w.fits w.name (w.shows u);
            named = w.named wanted u ∙ t.named;
            closed = t.closed ∙ ap (λ (o : Option OwnParams). option_map innermost (own_scope_in wanted o u))
                (sym (own_pointer token words d.tree.declr));
            low = subst (λ (m : ℕ). m ≤ declr_room flag d.tree.closed room) (sym w.low)
                (more_room flag d.tree.closed room (some_declr_height d.tree.declr) (pointer_words_height words) t.low
                (omega (arith, low_pointer_words words, least, low)));
            plain = λ no. w.lists ∙ t.plain no;
            left = t.left;
          }

  pub declr_sound : (mode : Mode) (wanted : Option Kind) (flag : Bool) (room : ℕ) (s : HeldScopes) (ts : List Lexeme)
      (x : Found Declared)
      → IsTail all ts → declr_with inner mode wanted flag room s ts ≡ done x
      → TakesDeclr all mode wanted flag room s ts x
  unfolding declr_with
  declr_sound mode wanted flag room s ts x tail e =
      if_ok (is_star (kind_at ts)) e
      (λ is e. pointer_sound mode wanted flag room s ts x tail is e)
      (λ is e. direct_sound mode wanted flag room s ts x tail e)
