-- The text of a declarator that fits is read as this.
use Rattle.std.proofs.Common.{◌≡◌, ℕ, suc, ◌<◌, ◌≤◌, ◌≢◌, Bool, true, false, List, [], ◌∷◌, Option, Some, None, inl, inr, refl, sym, ◌∙◌, ap, subst, arith}
use Rattle.std.specs.Prelude.{◌+◌, ◌-◌, max, not, ◌&&◌, ◌||◌, ◌⊎◌, All, is_some, option_map, if◌then◌else◌}
use Rattle.c_words.specs.declared.kinds.TokenKind.{TokenKind}
use Rattle.c_words.specs.declared.kinds.TokenKind.TheVariants as kinds
use Rattle.c_words.specs.declared.kinds.Keyword.TheVariants as keywords
use Rattle.c_words.specs.declared.kinds.Punct.TheVariants as puncts
use Rattle.c_tree.specs.declared.lexeme.Lexeme.{Lexeme}
use Rattle.c_syntax.specs.declared.parts.Attr.{Attr}
use Rattle.c_syntax.specs.declared.parts.Identifier.{Identifier}
use Rattle.c_syntax.specs.declared.parts.PointerWord.{PointerWord}
use Rattle.c_syntax.specs.declared.parts.PointerWord.TheVariants as pointer_words
use Rattle.c_syntax.specs.declared.parts.ArrayWord.{ArrayWord}
use Rattle.c_tree.specs.Tree.{Dots, Declr, pointer, declr_name, declr_paren, array, params, abs_pointer, abs_paren, abs_array, abs_params, identifiers, base_name, SomeDeclr, no_declr, some_declr, SomeSize, Params, no_params, more_params, size_value, some_size, size_star, no_size}
use Rattle.c_tree.specs.Text.{sign_text, attrs_text, pointer_words_text, array_words_text, spec_words_text, declr_text, some_declr_text, some_size_text, identifier_text, names_text, params_text, other_params_text, dots_text, expr_text}
use Rattle.c_tree.specs.Height.{attrs_height, specs_height, pointer_words_height, declr_height, some_declr_height, some_size_height, params_height}
use Rattle.c_tree.specs.WellFormed.{AreAttrs, AreParams, IsArrayWord, IsEllipsis, IsDeclr, IsSize, is_named, is_bare_name, is_direct, ends_starred, begins_base, lists_identifiers}
use Rattle.c_specs.specs.Laws.{MixesGoOn}
use Rattle.typedef_scope.specs.declared.kind.Kind.{Kind}
use Rattle.c_units.specs.HeldScopes.{HeldScopes, HeldScope, is_wide, names_type, new_scope, enter, leave, innermost}
use Rattle.c_units.specs.Scoping.{behind, identifiers_scopes, in_own_scope, at_name, first_name, begins_with_type, shows_no_type, some_shows_no_type, declr_scopes, some_declr_scopes, some_size_scopes, params_scopes, spec_words_scopes, where_true}
use Rattle.c_units.specs.Units.{OwnParams, own_params, bare_name}
use Rattle.c_reading.specs.declared.kinds.Mode.{Mode}
use Rattle.c_reading.specs.declared.kinds.Mode.TheVariants.{Named, Abstract, Either}
use Rattle.c_reading.specs.Reading.{IsNumbered, fits, kind_at, run}
use Rattle.c_reading.specs.Tokens.{is_base_word, is_open_paren, is_close_paren, is_open_bracket, is_star, is_attribute, is_made, qual_of, spelled_name, begins_pointer_word, array_word_of, attrs_at}
use Rattle.c_reading.specs.Parts.{Inner, Declared}
use Rattle.c_reading.specs.declared.kinds.SpecStart.TheVariants as starts
use Rattle.c_reading.specs.Specifying.{begins_specs, is_start}
use Rattle.c_reading.specs.Declaring.{begins_identifiers, identifier_at, identifiers_with, list_behind, names_base, takes_name, least_pointer, with_pointer, with_paren, with_array, with_params, is_bare, closed_by, room_at, are_none, words_of_attrs, opens_params, opens_declr, array_with, prototype_with, params_behind, suffix_turn, paren_with, named_paren, opened_by, opened_with, core_with, direct_with, pointer_with, declr_with, params_with}
use Rattle.c_reading.proofs.Binding.{found, done, bind_is, fits_is}
use Rattle.c_reading.proofs.Loops.{run_on}
use Rattle.c_reading.proofs.Forms.{behind_ok}
use Rattle.c_reading.proofs.KindFacts.{not_true, not_false, named_no_attribute, abstract_no_attribute, named_no_close_paren, abstract_no_close_paren, name_begins_not, open_paren_kind}
use Rattle.c_reading.proofs.Firsts.{where_holds, first_laws}
use Rattle.c_reading.proofs.Shared.{no_base}
use Rattle.c_reading.proofs.NameLists.{names_complete}
use Rattle.c_reading.proofs.DeclrFalls.{identifier_shrinks, suffix_shrinks}
use Rattle.c_reading.proofs.DeclrLists.{params_items, params_back}
use Rattle.c_reading.proofs.DeclrSoundParams.{specs_high}
use Rattle.c_reading.proofs.DeclrOwn.{closed_with_identifiers, own_none, own_paren, own_array, closed_with_params}
use Rattle.c_reading.proofs.DeclrSound.{identifier_scopes, identifiers_are, unnamed_plain, array_room, params_room}
use Rattle.c_reading.proofs.DeclrCompleteParams.{lead_attrs, behind_attrs, whole_split, attrs_split, lead_attrs_fit, lead_attrs_spelled, lead_attrs_end, no_params_complete, params_complete}
use Rattle.c_reading.proofs.DeclrCompleteSizes.{size_complete}
use Rattle.c_reading.proofs.Aims.{least_with, least_pointer_words, ends_suffix, ends_star, ends_declr, begins_named, begins_abstract, own_scope_in, closed_of, declared_as, declr_room, declr_number, FitsMode, MayName, TokenLaws, FirstLaws, Laws}
use Rattle.typedef_scope.specs.declared.kind.Kind.TheVariants.{Typedef, Value, Constant}
use Rattle.std.proofs.lemmas.List.Elements.{All-nil}
use Rattle.qual_base.proofs.Tests.{and_second, and_first, and_false}
use Rattle.c_reading.specs.Expressing.{begins_expr}
use Rattle.c_tree.specs.Groups.{IsGroup}
use Rattle.c_reading.proofs.SpecsSoundBodies.{declr_high}

-- first tokens of declarators

-- what begins a declarator with a name begins no word of a pointer
pub named_no_pointer_word : (kind : TokenKind) → begins_named kind ≡ true → begins_pointer_word kind ≡ false
named_no_pointer_word (kinds.Punct puncts.Star) e = refl
named_no_pointer_word (kinds.Punct puncts.OpenParen) e = refl
named_no_pointer_word (kinds.Name name) e = refl
named_no_pointer_word (kinds.Keyword keywords.BaseWord) e = refl
named_no_pointer_word kind e = absurd cc

-- what begins a declarator without a name begins no word of a pointer
pub abstract_no_pointer_word : (kind : TokenKind) → begins_abstract kind ≡ true → begins_pointer_word kind ≡ false
abstract_no_pointer_word (kinds.Punct puncts.Star) e = refl
abstract_no_pointer_word (kinds.Punct puncts.OpenParen) e = refl
abstract_no_pointer_word (kinds.Punct puncts.OpenBracket) e = refl
abstract_no_pointer_word kind e = absurd cc

-- what begins a declarator without a name begins no specifiers
abstract_no_specs : (s : HeldScopes) (kind : TokenKind) → begins_abstract kind ≡ true → begins_specs s kind ≡ false
abstract_no_specs s (kinds.Punct puncts.Star) e = refl
abstract_no_specs s (kinds.Punct puncts.OpenParen) e = refl
abstract_no_specs s (kinds.Punct puncts.OpenBracket) e = refl
abstract_no_specs s kind e = absurd cc

-- what begins a declarator without a name may stand behind a `(` in each mode
abstract_opens : (mode : Mode) (kind : TokenKind) → begins_abstract kind ≡ true → opens_declr mode kind ≡ true
abstract_opens mode (kinds.Punct puncts.Star) e = refl
abstract_opens mode (kinds.Punct puncts.OpenParen) e = refl
abstract_opens mode (kinds.Punct puncts.OpenBracket) e = refl
abstract_opens mode kind e = absurd cc

-- what begins a declarator with a name, but a base word, may stand behind a `(` in each mode that takes names
named_opens : (mode : Mode) (kind : TokenKind) → takes_name mode ≡ true → begins_named kind ≡ true
    → is_base_word kind ≡ false → opens_declr mode kind ≡ true
named_opens mode (kinds.Punct puncts.Star) takes e base = refl
named_opens mode (kinds.Punct puncts.OpenParen) takes e base = refl
named_opens mode (kinds.Name name) takes e base = rw takes refl
named_opens mode (kinds.Keyword keywords.BaseWord) takes e base = absurd cc
named_opens mode kind takes e base = absurd cc

-- a base word is a name only where one must come
names_base_no : (s : HeldScopes) (mode : Mode) (wanted : Option Kind) (kind : TokenKind) → is_base_word kind ≡ false
    → names_base s mode wanted kind ≡ false
names_base_no s Named (Some Typedef) kind e = rw e (and_false (is_wide s))
names_base_no s Named (Some Value) kind e = refl
names_base_no s Named (Some Constant) kind e = refl
names_base_no s Named None kind e = refl
names_base_no s Abstract wanted kind e = refl
names_base_no s Either wanted kind e = refl

-- what begins specifiers begins no list of identifiers
specs_no_identifier : (s : HeldScopes) (kind : TokenKind) → begins_specs s kind ≡ true
    → begins_identifiers s kind ≡ false
specs_no_identifier s (kinds.Name name) e = by_type (names_type s name) e
  where
    by_type : (b : Bool) → is_start (if b && true then starts.Name name else starts.Nothing) ≡ true
        → (is_wide s && not b) ≡ false
    by_type true e = and_false (is_wide s)
    by_type false e = absurd cc
specs_no_identifier s (kinds.Keyword keyword) e = and_false (is_wide s)
specs_no_identifier s (kinds.Qual lattice elem) e = and_false (is_wide s)
specs_no_identifier s kinds.Index e = and_false (is_wide s)
specs_no_identifier s kind e = and_false (is_wide s)

-- a declarator with parameters around its name is two high
own_high : (d : Declr) → is_some (own_params d) ≡ true → 2 ≤ declr_height d
own_high (pointer star words d) e = let h = own_high d e in omega (arith, h)
own_high (declr_name token name) e = absurd cc
own_high (declr_paren opening attrs d closing) e = let h = own_high d e in omega (arith, h)
own_high (array d opening words size closing) e = let h = own_high d e in omega (arith, h)
own_high (params d opening ps dots closing) e = let h = declr_high d in omega (arith, h)
own_high (identifiers d opening names closing) e = let h = declr_high d in omega (arith, h)
own_high (base_name token) e = absurd cc
own_high (abs_pointer star words d) e = absurd cc
own_high (abs_paren opening attrs d closing) e = absurd cc
own_high (abs_array d opening words size closing) e = absurd cc
own_high (abs_params d opening ps dots closing) e = absurd cc

-- a scope is closed where parameters are around the name
closed_high : (wanted : Option Kind) (d : Declr) (s : HeldScopes) (scope : HeldScope)
    → closed_of wanted (some_declr d) s ≡ Some scope → 2 ≤ declr_height d
closed_high wanted d s scope e = by_own (own_params d) refl e
  where
    by_own : (o : Option OwnParams) → own_params d ≡ o → option_map innermost (own_scope_in wanted o s) ≡ Some scope
        → 2 ≤ declr_height d
    by_own None is e = absurd cc
    by_own (Some own) is e = own_high d (ap is_some is)

-- a declarator that is not direct alone ends with a star
pub direct_ends : (d : Declr) → is_direct d ≡ true → ends_starred d ≡ false
direct_ends (pointer star words d) e = absurd cc
direct_ends (declr_name token name) e = refl
direct_ends (declr_paren opening attrs d closing) e = refl
direct_ends (array d opening words size closing) e = refl
direct_ends (params d opening ps dots closing) e = refl
direct_ends (identifiers d opening names closing) e = refl
direct_ends (base_name token) e = refl
direct_ends (abs_pointer star words d) e = absurd cc
direct_ends (abs_paren opening attrs d closing) e = refl
direct_ends (abs_array d opening words size closing) e = refl
direct_ends (abs_params d opening ps dots closing) e = refl

-- whether a declarator with or without a name stands in a mode, and what its names may be there
abbrev pub Suits : Mode → Bool → Type 0
Suits Named true = Unit {0}
Suits Named false = ⊥
Suits Abstract true = ⊥
Suits Abstract false = Unit {0}
Suits Either named = Unit {0}

-- in a mode where a name may be left out, the declarator shows no type name
abbrev pub Shows : Mode → HeldScopes → Declr → Type 0
Shows Named s d = Unit {0}
Shows Abstract s d = Unit {0}
Shows Either s d = shows_no_type s d ≡ true

-- what a mode and a flag leave of the room for what is inside
pub inner_room : (flag : Bool) (closed : Option HeldScope) (room h w : ℕ) → max w h + 1 ≤ declr_room flag closed room
    → 1 ≤ room → h ≤ declr_room flag closed (room - 1)
inner_room true (Some scope) room h w low least = omega (arith, low, least)
inner_room true None room h w low least = omega (arith, low, least)
inner_room false closed room h w low least = omega (arith, low, least)

pub inner_number : (flag : Bool) (room n : ℕ) → declr_number flag room < suc n → 1 ≤ room
    → declr_number flag (room - 1) < n
inner_number true room n less least = omega (arith, less, least)
inner_number false room n less least = omega (arith, less, least)

-- the room of a declarator, one more where its parameters are a function's, is below the reader's number
pub room_most : (flag : Bool) (closed : Option HeldScope) (room n : ℕ) → declr_number flag room < suc n
    → declr_room flag closed room ≤ n
room_most true (Some scope) room n less = omega (arith, less)
room_most true None room n less = omega (arith, less)
room_most false closed room n less = omega (arith, less)

pub room_fits : (flag : Bool) (room n : ℕ) → declr_number flag room < suc n → room ≤ n
room_fits true room n less = omega (arith, less)
room_fits false room n less = omega (arith, less)

-- room at least, where a scope that is closed makes a declarator two higher
pub least_room : (flag : Bool) (closed : Option HeldScope) (room h m : ℕ)
    → ((scope : HeldScope) → closed ≡ Some scope → suc m ≤ h) → m ≤ h → h ≤ declr_room flag closed room → m ≤ room
least_room true (Some scope) room h m some none low = let more : suc m ≤ h = some scope refl in omega (arith, more, low)
least_room true None room h m some none low = omega (arith, none, low)
least_room false closed room h m some none low = omega (arith, none, low)

-- with less, whatever was closed
fewer_room : (flag : Bool) (closed closed' : Option HeldScope) (room h m : ℕ) → suc h ≤ m
    → m ≤ declr_room flag closed room → h ≤ declr_room flag closed' room
fewer_room true (Some scope) (Some scope') room h m less low = omega (arith, less, low)
fewer_room true (Some scope) None room h m less low = omega (arith, less, low)
fewer_room true None (Some scope') room h m less low = omega (arith, less, low)
fewer_room true None None room h m less low = omega (arith, less, low)
fewer_room false closed closed' room h m less low = omega (arith, less, low)

-- the closing parenthesis ends any declarator
close_ends : (mode : Mode) (d : Declr) → ends_declr mode (some_declr d) (kinds.Punct puncts.CloseParen) ≡ true
close_ends mode d = by_star (ends_starred d)
  where
    star : (mode : Mode) → ends_star mode (kinds.Punct puncts.CloseParen) ≡ true
    star Named = refl
    star Abstract = refl
    star Either = refl

    by_star : (b : Bool)
        → (if b then ends_star mode (kinds.Punct puncts.CloseParen)
        else ends_suffix (kinds.Punct puncts.CloseParen)) ≡ true
    by_star true = star mode
    by_star false = refl

-- what a mode shows of a declarator, it shows of its part
shows_same : (mode : Mode) (s : HeldScopes) (d e : Declr) → (shows_no_type s d ≡ true → shows_no_type s e ≡ true)
    → Shows mode s d → Shows mode s e
shows_same Named s d e h shows = tt
shows_same Abstract s d e h shows = tt
shows_same Either s d e h shows = h shows

-- in parentheses, where a name may come but need not, it is no typedef name
shows_free : (mode : Mode) (s : HeldScopes) (opening : ℕ) (attrs : List Attr) (d : Declr) (closing : ℕ)
    → Shows mode s (declr_paren opening attrs d closing) → takes_name mode ≡ true
    → begins_with_type s (first_name d) ≡ false ⊎ (mode ≡ Named)
shows_free Named s opening attrs d closing shows takes = inr refl
shows_free Abstract s opening attrs d closing shows takes = absurd cc
shows_free Either s opening attrs d closing shows takes =
    inl (not_true (and_first (not (begins_with_type s (first_name d))) (shows_no_type s d) shows))

closed_none : (wanted : Option Kind) (d : Declr) (s : HeldScopes) → is_named d ≡ false
    → closed_of wanted (some_declr d) s ≡ None
closed_none wanted d s is =
    ap (λ (o : Option OwnParams). option_map innermost (own_scope_in wanted o s)) (own_none d is)

pub some_closed_high : (wanted : Option Kind) (d : SomeDeclr) (s : HeldScopes) (scope : HeldScope)
    → closed_of wanted d s ≡ Some scope → 2 ≤ some_declr_height d
some_closed_high wanted no_declr s scope e = absurd cc
some_closed_high wanted (some_declr d) s scope e = closed_high wanted d s scope e

-- the least height for a pointer's words is at most one above their height
pub words_least : (words : List PointerWord) → least_pointer_words words ≤ pointer_words_height words + 1
words_least [] = omega arith
words_least (pointer_words.Qual q ∷ words) = words_least words
words_least (pointer_words.Attr a ∷ words) = omega arith

-- the least height for a pointer's words is at most 2
pub words_two : (words : List PointerWord) → least_pointer_words words ≤ 2
words_two [] = omega arith
words_two (pointer_words.Qual q ∷ words) = words_two words
words_two (pointer_words.Attr a ∷ words) = omega arith

-- three tests that hold together hold each
pub all_three : (a b c : Bool) → (a && b && c) ≡ true → (a ≡ true) × (b ≡ true) × (c ≡ true)
all_three true true true e = (refl, refl, refl)
all_three true true false e = absurd cc
all_three true false c e = absurd cc
all_three false b c e = absurd cc

or_true : (b : Bool) → (b || true) ≡ true
or_true true = refl
or_true false = refl

-- a mode in which a declarator with a name stands takes names
named_takes : (mode : Mode) → Suits mode true → takes_name mode ≡ true
named_takes Named suits = refl
named_takes Abstract suits = absurd suits
named_takes Either suits = refl

module _ (all : List Lexeme) where
  -- a declarator fits a mode
  pub fits_mode : (mode : Mode) (d : Declr) (s : HeldScopes) (b : Bool) → is_named d ≡ b → IsDeclr all d → Suits mode b
      → Shows mode s d → FitsMode all mode (some_declr d) s
  fits_mode Named d s true is fits suits shows = (fits, is)
  fits_mode Named d s false is fits suits shows = absurd suits
  fits_mode Abstract d s true is fits suits shows = absurd suits
  fits_mode Abstract d s false is fits suits shows = (fits, is)
  fits_mode Either d s b is fits suits shows = (fits, shows)

  pub mode_fits : (mode : Mode) (d : Declr) (s : HeldScopes) → FitsMode all mode (some_declr d) s
      → IsDeclr all d × Suits mode (is_named d) × Shows mode s d
  mode_fits Named d s h = (h.0, rw h.1 tt, tt)
  mode_fits Abstract d s h = (h.0, rw h.1 tt, tt)
  mode_fits Either d s h = (h.0, tt, h.1)

  -- a name, parentheses aside: its forms
  pub bare_has_name : (d : Declr) → is_bare_name d ≡ true → is_named d ≡ true
  bare_has_name (declr_name token name) e = refl
  bare_has_name (declr_paren opening attrs d closing) e = refl
  bare_has_name (pointer star words d) e = refl
  bare_has_name (array d opening words size closing) e = refl
  bare_has_name (params d opening ps dots closing) e = refl
  bare_has_name (identifiers d opening names closing) e = refl
  bare_has_name (base_name token) e = refl
  bare_has_name (abs_pointer star words d) e = absurd cc
  bare_has_name (abs_paren opening attrs d closing) e = absurd cc
  bare_has_name (abs_array d opening words size closing) e = absurd cc
  bare_has_name (abs_params d opening ps dots closing) e = absurd cc

  pub bare_direct : (d : Declr) → is_bare_name d ≡ true → is_direct d ≡ true
  bare_direct (declr_name token name) e = refl
  bare_direct (declr_paren opening attrs d closing) e = refl
  bare_direct (pointer star words d) e = absurd cc
  bare_direct (array d opening words size closing) e = refl
  bare_direct (params d opening ps dots closing) e = refl
  bare_direct (identifiers d opening names closing) e = refl
  bare_direct (base_name token) e = refl
  bare_direct (abs_pointer star words d) e = absurd cc
  bare_direct (abs_paren opening attrs d closing) e = refl
  bare_direct (abs_array d opening words size closing) e = refl
  bare_direct (abs_params d opening ps dots closing) e = refl

  pub bare_back : (d : Declr) → is_bare_name d ≡ true → is_some (bare_name d) ≡ true
  bare_back (declr_name token name) e = refl
  bare_back (declr_paren opening attrs d closing) e = bare_back d e
  bare_back (pointer star words d) e = absurd cc
  bare_back (array d opening words size closing) e = absurd cc
  bare_back (params d opening ps dots closing) e = absurd cc
  bare_back (identifiers d opening names closing) e = absurd cc
  bare_back (base_name token) e = absurd cc
  bare_back (abs_pointer star words d) e = absurd cc
  bare_back (abs_paren opening attrs d closing) e = absurd cc
  bare_back (abs_array d opening words size closing) e = absurd cc
  bare_back (abs_params d opening ps dots closing) e = absurd cc

  -- the first token of a declarator with a name that is no typedef name begins no specifiers
  first_no_specs : (d : Declr) (s : HeldScopes) (k : List Lexeme) → IsDeclr all d → is_named d ≡ true
      → begins_base d ≡ false → begins_with_type s (first_name d) ≡ false
      → begins_specs s (kind_at (declr_text all d k)) ≡ false
  first_no_specs (pointer star words d) s k fits is base free = refl
  first_no_specs (declr_name token name) s k fits is base free = name_begins_not s name free
  first_no_specs (declr_paren opening attrs d closing) s k fits is base free = refl
  first_no_specs (array d opening words size closing) s k fits is base free =
      first_no_specs d s _ fits.0 fits.1 base free
  first_no_specs (params d opening ps dots closing) s k fits is base free = first_no_specs d s _ fits.0 fits.1 base free
  first_no_specs (identifiers d opening names closing) s k fits is base free =
      first_no_specs d s _ fits.0 (bare_has_name d fits.1) base free
  first_no_specs (base_name token) s k fits is base free = absurd cc
  first_no_specs (abs_pointer star words d) s k fits is base free = absurd cc
  first_no_specs (abs_paren opening attrs d closing) s k fits is base free = absurd cc
  first_no_specs (abs_array d opening words size closing) s k fits is base free = absurd cc
  first_no_specs (abs_params d opening ps dots closing) s k fits is base free = absurd cc

module _ (all : List Lexeme) (numbered : IsNumbered all) (tokens : TokenLaws all) (goes : MixesGoOn) (n : ℕ)
    (inner : Inner) (laws : Laws all n inner) where
  firsts : FirstLaws all
  firsts = first_laws goes all numbered

  -- brackets behind a declarator, or none
  array_on : (wanted : Option Kind) (flag : Bool) (room : ℕ) → declr_number flag room < suc n
      → (d : SomeDeclr) (opening : ℕ) (words : List ArrayWord) (size : SomeSize) (closing : ℕ) (s s1 s2 : HeldScopes)
      (k : List Lexeme) →
      All (IsArrayWord all) words → IsSize all size → some_size_scopes size s1 ≡ Some s2
      → max (some_declr_height d) (some_size_height size) + 1 ≤ declr_room flag (closed_of wanted d s) room →
      run (suffix_turn inner flag room) (declared_as wanted d s) s1 (sign_text puncts.OpenBracket opening
      (array_words_text all words (some_size_text all size (sign_text puncts.CloseBracket closing k)))) ≡
      run (suffix_turn inner flag room)
      (declared_as wanted (some_declr (with_array d opening words size closing)) s) s2 k
  unfolding array_with
  array_on wanted flag room less d opening words size closing s s1 s2 k words_fit size_fits named low =
      run_on (suffix_turn inner flag room) (suffix_shrinks all tokens n inner laws flag room) (declared_as wanted d s)
      s1 text (found (declared_as wanted (some_declr (with_array d opening words size closing)) s) s2 k)
      (ap Some (rw (array_room all numbered tokens n inner laws flag room (declared_as wanted d s)
      (kinds.Punct puncts.OpenBracket) refl)
      (fits_is (suc (some_declr_height d)) r text _ (omega (arith, low)) ∙ read
      ∙ ap (λ (o : Option OwnParams). done (found (record {
        declr = some_declr (with_array d opening words size closing);
        closed = option_map innermost (own_scope_in wanted o s);
      }) s2 k)) (sym (own_array d opening words size closing)))))
    where
      r : ℕ
      r = declr_room flag (closed_of wanted d s) room

      text : List Lexeme
      text = sign_text puncts.OpenBracket opening
          (array_words_text all words (some_size_text all size (sign_text puncts.CloseBracket closing k)))

      most : r ≤ n
      most = room_most flag (closed_of wanted d s) room n less

      words_end : (size : SomeSize) (s1 s2 : HeldScopes) → IsSize all size → some_size_scopes size s1 ≡ Some s2
          → not (is_made (array_word_of (kind_at (some_size_text all size (sign_text puncts.CloseBracket closing k)))))
          ≡ true
      words_end no_size s1 s2 fits named = refl
      words_end (some_size (size_star token)) s1 s2 fits named = refl
      words_end (some_size (size_value e)) s1 s2 fits named =
          expr_no_array_word s1 (kind_at (expr_text all e (sign_text puncts.CloseBracket closing k)))
          (firsts.expr_begins e s1 s2 (sign_text puncts.CloseBracket closing k) fits.0 named)
        where
          expr_no_array_word : (s : HeldScopes) (kind : TokenKind) → begins_expr s kind ≡ true
              → not (is_made (array_word_of kind)) ≡ true
          expr_no_array_word s (kinds.Keyword keywords.Const) e = absurd cc
          expr_no_array_word s (kinds.Keyword keywords.Volatile) e = absurd cc
          expr_no_array_word s (kinds.Keyword keywords.Restrict) e = absurd cc
          expr_no_array_word s (kinds.Keyword keywords.Static) e = absurd cc
          expr_no_array_word s (kinds.Keyword keywords.Atomic) e = absurd cc
          expr_no_array_word s (kinds.Keyword keywords.AtomicType) e = absurd cc
          expr_no_array_word s (kinds.Keyword keywords.Seg) e = absurd cc
          expr_no_array_word s (kinds.Qual lattice elem) e = absurd cc
          expr_no_array_word s kinds.Index e = absurd cc
          expr_no_array_word s kind e = refl

      read : array_with inner (declared_as wanted d s) r s1 text ≡ done (found
          (record { declr = some_declr (with_array d opening words size closing); closed = closed_of wanted d s }) s2 k)
      read =
          let w = tokens.array_words_complete r words s1 s1
          (some_size_text all size (sign_text puncts.CloseBracket closing k)) words_fit refl (omega arith)
          (words_end size s1 s2 size_fits named) in
          let z = size_complete all firsts n inner laws size r most (omega (arith, low)) s1 s2 closing k size_fits named
          (omega (arith, low)) in
          bind_is _ refl (bind_is _ w (bind_is _ z (bind_is _ refl refl)))

  -- parameters and their closing parenthesis, where the parameters are read
  prototype_is : (d : Declared) (opening : ℕ) (lead : List Attr) (ps : Params) (dots : Option Dots) (room : ℕ)
      (s u : HeldScopes) (closing : ℕ) (k ts : List Lexeme) →
      params_with inner lead (room - 1) (enter s) ts
      ≡ done (found (record { items = params_items ps; ending = dots }) u (sign_text puncts.CloseParen closing k)) →
      prototype_with inner d opening lead room s ts ≡ done (found (record {
        declr = some_declr (with_params d.declr opening ps dots closing);
        closed = closed_by d.declr (innermost u) d.closed;
      }) (leave u) k)
  unfolding prototype_with
  prototype_is d opening lead ps dots room s u closing k ts read =
      bind_is _ read (bind_is _ refl (ap (λ (qs : Params). done (found (record {
        declr = some_declr (with_params d.declr opening qs dots closing);
        closed = closed_by d.declr (innermost u) d.closed;
      }) (leave u) k)) (params_back ps)))

  list_read : (ps : Params) (dots : Option Dots) (room : ℕ) → room ≤ n
      → (s u : HeldScopes) (closing : ℕ) (k : List Lexeme) → AreParams all ps → IsEllipsis all ps dots
      → params_scopes ps s ≡ Some u → params_height ps ≤ room →
      params_with inner [] room s (params_text all ps (dots_text all dots (sign_text puncts.CloseParen closing k)))
      ≡ done (found (record { items = params_items ps; ending = dots }) u (sign_text puncts.CloseParen closing k))
  list_read no_params None room less s u closing k fits ended named low =
      no_params_complete all numbered tokens goes n inner laws room s closing k ∙ ap (λ (o : Option HeldScopes). done
      (found (record { items = []; ending = None }) (from o) (sign_text puncts.CloseParen closing k))) named
    where
      from : Option HeldScopes → HeldScopes
      from None = s
      from (Some t) = t
  list_read no_params (Some dots) room less s u closing k fits ended named low = absurd ended
  list_read (more_params ws d attrs ps) dots room less s u closing k fits ended named low =
      params_complete all numbered tokens goes n inner laws [] ws ws d attrs ps dots room less
      (whole_split all ws) s u closing k fits ended named low

  -- parameters behind a declarator
  params_on : (wanted : Option Kind) (flag : Bool) (room : ℕ) → declr_number flag room < suc n
      → (d : SomeDeclr) (opening : ℕ) (ps : Params) (dots : Option Dots) (closing : ℕ) (s s1 u : HeldScopes)
      (k : List Lexeme) →
      AreParams all ps → IsEllipsis all ps dots → some_declr_scopes wanted d s ≡ Some s1
      → params_scopes ps (enter s1) ≡ Some u →
      max (some_declr_height d) (params_height ps) + 1 ≤ declr_room flag
      (closed_of wanted (some_declr (with_params d opening ps dots closing)) s) room →
      run (suffix_turn inner flag room) (declared_as wanted d s) s1 (sign_text puncts.OpenParen opening
      (params_text all ps (dots_text all dots (sign_text puncts.CloseParen closing k)))) ≡
      run (suffix_turn inner flag room)
      (declared_as wanted (some_declr (with_params d opening ps dots closing)) s) (leave u) k
  params_on wanted flag room less d opening ps dots closing s s1 u k fits ended named inside low =
      run_on (suffix_turn inner flag room) (suffix_shrinks all tokens n inner laws flag room) (declared_as wanted d s)
      s1 text (found (declared_as wanted (some_declr (with_params d opening ps dots closing)) s) (leave u) k)
      (ap Some (rw room_is (fits_is (suc (some_declr_height d)) r text _ (omega (arith, low)) ∙ read)))
    where
      c : Option HeldScope
      c = closed_of wanted (some_declr (with_params d opening ps dots closing)) s

      r : ℕ
      r = declr_room flag c room

      text : List Lexeme
      text = sign_text puncts.OpenParen opening
          (params_text all ps (dots_text all dots (sign_text puncts.CloseParen closing k)))

      most : r ≤ n
      most = room_most flag c room n less

      closed_is : closed_by d (innermost u) (closed_of wanted d s) ≡ c
      closed_is = closed_with_params wanted d opening ps dots closing s s1 u named inside

      room_is : room_at flag room (declared_as wanted d s) (kinds.Punct puncts.OpenParen) ≡ r
      room_is =
          params_room all numbered tokens n inner laws flag room (declared_as wanted d s) (kinds.Punct puncts.OpenParen)
          (innermost u) refl ∙ ap (λ (c : Option HeldScope). declr_room flag c room) closed_is

      -- no list of identifiers begins there
      no_names : (ps : Params) (dots : Option Dots) → AreParams all ps → IsEllipsis all ps dots
          → params_scopes ps (enter s1) ≡ Some u →
          begins_identifiers s1
          (kind_at (params_text all ps (dots_text all dots (sign_text puncts.CloseParen closing k)))) ≡ false
      no_names no_params None fits ended inside = and_false (is_wide s1)
      no_names no_params (Some dots) fits ended inside = absurd ended
      no_names (more_params ws d attrs ps) dots fits ended inside =
          let a = behind_ok (behind (behind (spec_words_scopes ws (enter s1))
          (λ t. where_true (some_shows_no_type t d) t)) (some_declr_scopes (Some Value) d)) _ u inside in
          let b = behind_ok (behind (spec_words_scopes ws (enter s1)) (λ t. where_true (some_shows_no_type t d) t))
          (some_declr_scopes (Some Value) d) a.0 a.1 in
          let c = behind_ok (spec_words_scopes ws (enter s1)) (λ t. where_true (some_shows_no_type t d) t) b.0 b.1 in
          let more = some_declr_text all d (attrs_text all attrs
          (other_params_text all ps (dots_text all dots (sign_text puncts.CloseParen closing k)))) in
          specs_no_identifier s1 (kind_at (spec_words_text all ws more))
          (firsts.words_begin ws (enter s1) c.0 more fits.0 fits.1 c.1)

      as_list : (flag b : Bool)
          → list_behind inner (flag && b && begins_identifiers s1 (kind_at (params_text all ps
          (dots_text all dots (sign_text puncts.CloseParen closing k))))) (declared_as wanted d s) opening r s1
          (params_text all ps (dots_text all dots (sign_text puncts.CloseParen closing k))) ≡
          prototype_with inner (declared_as wanted d s) opening [] r s1
          (params_text all ps (dots_text all dots (sign_text puncts.CloseParen closing k)))
      as_list true true = rw (no_names ps dots fits ended inside) refl
      as_list true false = refl
      as_list false b = refl

      read : params_behind inner flag (declared_as wanted d s) r s1 text
          ≡ done (found (declared_as wanted (some_declr (with_params d opening ps dots closing)) s) (leave u) k)
      read =
          let p = prototype_is (declared_as wanted d s) opening [] ps dots r s1 u closing k
          (params_text all ps (dots_text all dots (sign_text puncts.CloseParen closing k)))
          (list_read ps dots (r - 1) (omega (arith, most)) (enter s1) u closing k fits ended inside
          (omega (arith, low))) in
          bind_is _ refl (as_list flag (is_bare d) ∙ p ∙ ap (λ (c : Option HeldScope). done (found
          (record { declr = some_declr (with_params d opening ps dots closing); closed = c }) (leave u) k)) closed_is)

  -- a name that is no typedef name is read
  identifier_complete : (x : Identifier) (s t : HeldScopes) (k : List Lexeme) → identifier_scopes x s ≡ Some t
      → identifier_at s (identifier_text x k) ≡ done (found x t k)
  identifier_complete x s t k named = by_type (names_type s x.name) refl named
    where
      by_type : (b : Bool) → names_type s x.name ≡ b → where_true (not b) s ≡ Some t
          → identifier_at s (identifier_text x k) ≡ done (found x t k)
      by_type true is named = absurd cc
      by_type false is named =
          let same : s ≡ t = cc in
          rw is (ap (λ (t : HeldScopes). done (found x t k)) same)

  -- identifiers behind a name
  identifiers_on : (wanted : Option Kind) (room : ℕ) (d : Declr) (opening : ℕ) (names : List Identifier) (closing : ℕ)
      (s s1 s2 : HeldScopes) (k : List Lexeme) →
      is_some (bare_name d) ≡ true → names ≢ [] → declr_scopes wanted d s ≡ Some s1 → is_wide s1 ≡ true
      → identifiers_scopes names s1 ≡ Some s2 →
      declr_height d + 1 ≤ declr_room true
      (closed_of wanted (some_declr (identifiers d opening names closing)) s) room →
      run (suffix_turn inner true room) (declared_as wanted (some_declr d) s) s1
      (sign_text puncts.OpenParen opening (names_text names (sign_text puncts.CloseParen closing k))) ≡
      run (suffix_turn inner true room) (declared_as wanted (some_declr (identifiers d opening names closing)) s) s2 k
  unfolding identifiers_with
  identifiers_on wanted room d opening names closing s s1 s2 k bare some named wide inside low =
      run_on (suffix_turn inner true room) (suffix_shrinks all tokens n inner laws true room)
      (declared_as wanted (some_declr d) s) s1 text
      (found (declared_as wanted (some_declr (identifiers d opening names closing)) s) s2 k)
      (ap Some (rw room_is (fits_is (suc (declr_height d)) r text _ (omega (arith, low))
      ∙ bind_is _ refl (as_list (is_bare (some_declr d)) bare (begins names some inside) ∙ read))))
    where
      c : Option HeldScope
      c = closed_of wanted (some_declr (identifiers d opening names closing)) s

      r : ℕ
      r = declr_room true c room

      tail : List Lexeme
      tail = sign_text puncts.CloseParen closing k

      text : List Lexeme
      text = sign_text puncts.OpenParen opening (names_text names tail)

      closed_is : Some (new_scope (is_wide s1)) ≡ c
      closed_is = closed_with_identifiers wanted d opening names closing s s1 bare named

      room_is : room_at true room (declared_as wanted (some_declr d) s) (kinds.Punct puncts.OpenParen) ≡ r
      room_is =
          params_room all numbered tokens n inner laws true room (declared_as wanted (some_declr d) s)
          (kinds.Punct puncts.OpenParen) (new_scope (is_wide s1)) refl
          ∙ ap (λ (c : Option HeldScope). declr_room true c room) (rw bare closed_is)

      begins : (names : List Identifier) → names ≢ [] → identifiers_scopes names s1 ≡ Some s2
          → begins_identifiers s1 (kind_at (names_text names tail)) ≡ true
      begins [] some inside = absurd (some refl)
      begins (x ∷ names) some inside =
          let a = behind_ok (where_true (not (names_type s1 x.name)) s1) (identifiers_scopes names) s2 inside in
          rw (wide, where_holds (not (names_type s1 x.name)) s1 a.0 a.1) refl

      as_list : (b : Bool) → b ≡ true → begins_identifiers s1 (kind_at (names_text names tail)) ≡ true →
          list_behind inner (true && b && begins_identifiers s1 (kind_at (names_text names tail)))
          (declared_as wanted (some_declr d) s) opening r s1 (names_text names tail) ≡
          identifiers_with inner d opening s1 (names_text names tail)
      as_list true is e = rw e refl
      as_list false is e = absurd cc

      read : identifiers_with inner d opening s1 (names_text names tail)
          ≡ done (found (declared_as wanted (some_declr (identifiers d opening names closing)) s) s2 k)
      read =
          let l = names_complete identifier_scopes identifier_at identifier_shrinks identifier_complete names s1 s2 tail
          some (identifiers_are names s1 ∙ inside) refl in
          bind_is _ l (bind_is _ refl (ap (λ (c : Option HeldScope). done
          (found (record { declr = some_declr (identifiers d opening names closing); closed = c }) s2 k)) closed_is))

  -- a declarator in parentheses, behind the parenthesis and its attributes
  inside_paren : (mode : Mode) (wanted : Option Kind) (flag : Bool) (opening : ℕ) (attrs : List Attr) (room : ℕ)
      → declr_number flag (room - 1) < n → MayName all mode wanted
      → (d : Declr) (s s' : HeldScopes) (closing : ℕ) (k : List Lexeme) → FitsMode all mode (some_declr d) s
      → (flag ≡ true) ⊎ (lists_identifiers d ≡ false) →
      declr_scopes wanted d s ≡ Some s'
      → declr_height d ≤ declr_room flag (closed_of wanted (some_declr d) s) (room - 1) →
      paren_with inner mode wanted flag opening attrs room s (declr_text all d (sign_text puncts.CloseParen closing k))
      ≡ done (found (declared_as wanted (some_declr (with_paren opening attrs d closing)) s) s' k)
  unfolding paren_with
  inside_paren mode wanted flag opening attrs room less may d s s' closing k fits plain named low =
      bind_is _ (laws.declrs.complete mode wanted flag (room - 1) less may (some_declr d) s s'
      (sign_text puncts.CloseParen closing k) fits plain named low (close_ends mode d))
      (bind_is _ refl (bind_is _ refl (ap (λ (o : Option OwnParams). done (found (record {
        declr = some_declr (with_paren opening attrs d closing);
        closed = option_map innermost (own_scope_in wanted o s);
      }) s' k)) (sym (own_paren opening attrs d closing)))))

  -- the room of a declarator in parentheses
  record ParenRoom (flag : Bool) (attrs : List Attr) (room least : ℕ) (closed : Option HeldScope) (h : ℕ) : Type 0 where
    enough : least ≤ room
    lead : least_with attrs ≤ room
    number : declr_number flag (room - 1) < n
    low : h ≤ declr_room flag closed (room - 1)

  paren_room : (wanted : Option Kind) (flag : Bool) (attrs : List Attr) (room : ℕ) → declr_number flag room < suc n
      → (d : Declr) (s : HeldScopes)
      → max (attrs_height attrs) (declr_height d) + 1 ≤ declr_room flag (closed_of wanted (some_declr d) s) room →
      ParenRoom flag attrs room 2 (closed_of wanted (some_declr d) s) (declr_height d)
  paren_room wanted flag attrs room less d s low =
      let high : 1 ≤ declr_height d = declr_high d in
      let enough : 2 ≤ room = least_room flag (closed_of wanted (some_declr d) s) room
      (max (attrs_height attrs) (declr_height d) + 1) 2 (λ scope is. let more : 2 ≤ declr_height d =
      closed_high wanted d s scope is in omega (arith, more)) (omega (arith, high)) low in
      record {
        enough = enough;
        lead = lead_low attrs enough;
        number = inner_number flag room n less (omega (arith, enough));
        low = inner_room flag (closed_of wanted (some_declr d) s) room (declr_height d) (attrs_height attrs) low
            (omega (arith, enough));
      }
    where
      lead_low : (attrs : List Attr) → 2 ≤ room → least_with attrs ≤ room
      lead_low [] h = omega arith
      lead_low (a ∷ attrs) h = h

  -- what stands first inside parentheses where no name must come
  record Inside (mode : Mode) (attrs : List Attr) (s : HeldScopes) (kind : TokenKind) : Type 0 where
    attrs_end : not (is_attribute kind) ≡ true
    opens_no_params : opens_params attrs s kind ≡ false
    opens : opens_declr mode kind ≡ true

  inside_is : (mode : Mode) (attrs : List Attr) (s : HeldScopes) (d : Declr) (k : List Lexeme) (b : Bool)
      → is_named d ≡ b → IsDeclr all d → Suits mode b → (b ≡ true → begins_base d ≡ false)
      → (b ≡ true → begins_with_type s (first_name d) ≡ false) → Inside mode attrs s (kind_at (declr_text all d k))
  inside_is mode attrs s d k true is fits suits base free =
      let begun = firsts.named_begins d k fits is in
      record {
        attrs_end = not_false (named_no_attribute (kind_at (declr_text all d k)) begun);
        opens_no_params = rw (
          named_no_close_paren (kind_at (declr_text all d k)) begun,
          and_false (are_none attrs),
          first_no_specs all d s k fits is (base refl) (free refl),
        ) refl;
        opens = named_opens mode (kind_at (declr_text all d k)) (named_takes mode suits) begun
            (firsts.named_base d k fits is ∙ base refl);
      }
  inside_is mode attrs s d k false is fits suits base free =
      let begun = firsts.abstract_begins d k fits is in
      record {
        attrs_end = not_false (abstract_no_attribute (kind_at (declr_text all d k)) begun);
        opens_no_params = rw (
          abstract_no_close_paren (kind_at (declr_text all d k)) begun,
          and_false (are_none attrs),
          abstract_no_specs s (kind_at (declr_text all d k)) begun,
        ) refl;
        opens = abstract_opens mode (kind_at (declr_text all d k)) begun;
      }

  -- a declarator in parentheses
  paren_text : ℕ → List Attr → Declr → ℕ → List Lexeme → List Lexeme
  paren_text opening attrs d closing k =
      sign_text puncts.OpenParen opening
      (attrs_text all attrs (declr_text all d (sign_text puncts.CloseParen closing k)))

  opened_complete : (mode : Mode) (wanted : Option Kind) (flag : Bool) (room : ℕ) → declr_number flag room < suc n
      → MayName all mode wanted
      → (opening : ℕ) (attrs : List Attr) (d : Declr) (closing : ℕ) (s s' : HeldScopes) (k : List Lexeme)
      → AreAttrs all attrs →
      FitsMode all mode (some_declr d) s → (flag ≡ true) ⊎ (lists_identifiers d ≡ false)
      → declr_scopes wanted d s ≡ Some s'
      → max (attrs_height attrs) (declr_height d) + 1 ≤ declr_room flag (closed_of wanted (some_declr d) s) room →
      Inside mode attrs s (kind_at (declr_text all d (sign_text puncts.CloseParen closing k))) →
      opened_with inner mode wanted flag room s (paren_text opening attrs d closing k)
      ≡ done (found (declared_as wanted (some_declr (with_paren opening attrs d closing)) s) s' k)
  unfolding opened_with opened_by paren_text
  opened_complete mode wanted flag room less may opening attrs d closing s s' k attrs_fit fits plain named low first =
      let r = paren_room wanted flag attrs room less d s low in
      let a = tokens.attrs_complete room attrs s s
      (declr_text all d (sign_text puncts.CloseParen closing k)) attrs_fit refl r.lead first.attrs_end in
      fits_is 1 room (paren_text opening attrs d closing k) _ (omega (arith, r.enough))
      ∙ bind_is _ refl (bind_is _ a (rw (first.opens_no_params, first.opens)
      (inside_paren mode wanted flag opening attrs room r.number may d s s' closing k fits plain named r.low)))

  named_complete : (wanted : Option Kind) (flag : Bool) (room : ℕ) → declr_number flag room < suc n
      → (opening : ℕ) (attrs : List Attr) (d : Declr) (closing : ℕ) (s s' : HeldScopes) (k : List Lexeme)
      → AreAttrs all attrs →
      FitsMode all Named (some_declr d) s → (flag ≡ true) ⊎ (lists_identifiers d ≡ false)
      → declr_scopes wanted d s ≡ Some s'
      → max (attrs_height attrs) (declr_height d) + 1 ≤ declr_room flag (closed_of wanted (some_declr d) s) room →
      named_paren inner wanted flag room s (paren_text opening attrs d closing k)
      ≡ done (found (declared_as wanted (some_declr (with_paren opening attrs d closing)) s) s' k)
  unfolding named_paren paren_text
  named_complete wanted flag room less opening attrs d closing s s' k attrs_fit fits plain named low =
      let r = paren_room wanted flag attrs room less d s low in
      let begun = firsts.named_begins d (sign_text puncts.CloseParen closing k) fits.0 fits.1 in
      let a = tokens.attrs_complete room attrs s s
      (declr_text all d (sign_text puncts.CloseParen closing k)) attrs_fit refl r.lead
      (not_false (named_no_attribute (kind_at (declr_text all d (sign_text puncts.CloseParen closing k))) begun)) in
      fits_is 2 room (paren_text opening attrs d closing k) _ r.enough ∙ bind_is _ refl (bind_is _ a
      (inside_paren Named wanted flag opening attrs room r.number tt d s s' closing k fits plain named r.low))

  paren_core : (mode : Mode) (wanted : Option Kind) (flag : Bool) (room : ℕ) → declr_number flag room < suc n
      → MayName all mode wanted
      → (opening : ℕ) (attrs : List Attr) (d : Declr) (closing : ℕ) (s s' : HeldScopes) (k : List Lexeme)
      → AreAttrs all attrs → IsDeclr all d →
      Suits mode (is_named d) → Shows mode s d
      → (takes_name mode ≡ true → is_named d ≡ true → begins_with_type s (first_name d) ≡ false ⊎ (mode ≡ Named))
      → (flag ≡ true) ⊎ (lists_identifiers d ≡ false) → declr_scopes wanted d s ≡ Some s' →
      max (attrs_height attrs) (declr_height d) + 1 ≤ declr_room flag (closed_of wanted (some_declr d) s) room →
      core_with inner mode wanted flag room s (paren_text opening attrs d closing k)
      ≡ done (found (declared_as wanted (some_declr (with_paren opening attrs d closing)) s) s' k)
  unfolding core_with paren_text
  paren_core Named wanted flag room less may opening attrs d closing s s' k attrs_fit fits suits shows free plain named
      low =
      named_complete wanted flag room less opening attrs d closing s s' k attrs_fit
      (fits_mode all Named d s (is_named d) refl fits suits shows) plain named low
  paren_core Abstract wanted flag room less may opening attrs d closing s s' k attrs_fit fits suits shows free plain
      named low =
      opened_complete Abstract wanted flag room less may opening attrs d closing s s' k attrs_fit
      (fits_mode all Abstract d s (is_named d) refl fits suits shows) plain named low
      (inside_is Abstract attrs s d (sign_text puncts.CloseParen closing k) (is_named d) refl fits suits
      (λ is. no_base wanted may d s s' named) (λ is. absurd (rw is at suits)))
  paren_core Either wanted flag room less may opening attrs d closing s s' k attrs_fit fits suits shows free plain named
      low =
      opened_complete Either wanted flag room less may opening attrs d closing s s' k attrs_fit
      (fits_mode all Either d s (is_named d) refl fits suits shows) plain named low
      (inside_is Either attrs s d (sign_text puncts.CloseParen closing k) (is_named d) refl fits suits
      (λ is. no_base wanted may d s s' named) (λ is. by_free (free refl is)))
    where
      by_free : begins_with_type s (first_name d) ≡ false ⊎ (Either ≡ Named) → begins_with_type s (first_name d) ≡ false
      by_free (inl h) = h
      by_free (inr h) = absurd cc

  -- parameters without a declarator before them

  enter_begins : (s : HeldScopes) (kind : TokenKind) → begins_specs (enter s) kind ≡ begins_specs s kind
  enter_begins s kind = refl

  alone_declared : Declared
  alone_declared = record { declr = no_declr; closed = None }

  alone_core : (mode : Mode) (wanted : Option Kind) (flag : Bool) (room : ℕ) → declr_number flag room < suc n
      → (opening : ℕ) (ps : Params) (dots : Option Dots) (closing : ℕ) (s u : HeldScopes) (k : List Lexeme)
      → AreParams all ps → IsEllipsis all ps dots →
      params_scopes ps (enter s) ≡ Some u → params_height ps + 1 ≤ room →
      opened_with inner mode wanted flag room s (sign_text puncts.OpenParen opening
      (params_text all ps (dots_text all dots (sign_text puncts.CloseParen closing k)))) ≡
      done
      (found (record { declr = some_declr (abs_params no_declr opening ps dots closing); closed = None }) (leave u) k)
  unfolding opened_with opened_by alone_declared
  alone_core mode wanted flag room less opening no_params None closing s u k fits ended named low =
      let a = tokens.attrs_complete room [] s s (sign_text puncts.CloseParen closing k)
      (All-nil (λ (a : Attr). IsGroup all a.group)) refl (omega arith) refl in
      let most : room ≤ n = room_fits flag room n less in
      fits_is 1 room (sign_text puncts.OpenParen opening (sign_text puncts.CloseParen closing k)) _ (omega (arith, low))
      ∙ bind_is _ refl (bind_is _ a
      (prototype_is alone_declared opening [] no_params None room s u closing k (sign_text puncts.CloseParen closing k)
      (list_read no_params None (room - 1) (omega (arith, most)) (enter s) u closing k fits ended named (omega arith))))
  alone_core mode wanted flag room less opening no_params (Some dots) closing s u k fits ended named low = absurd ended
  alone_core mode wanted flag room less opening (more_params ws d attrs ps) dots closing s u k fits ended named low =
      fits_is 1 room (sign_text puncts.OpenParen opening (spec_words_text all ws more)) _ (omega (arith, low))
      ∙ bind_is _ refl (rw (lead_attrs_spelled all ws more)
      (bind_is _ lead (rw (
        begun,
        or_true (are_none (lead_attrs ws) && is_close_paren (kind_at (spec_words_text all (behind_attrs ws) more))),
      ) read)))
    where
      more : List Lexeme
      more = some_declr_text all d
          (attrs_text all attrs (other_params_text all ps (dots_text all dots (sign_text puncts.CloseParen closing k))))

      most : room ≤ n
      most = room_fits flag room n less

      words_named : (t : HeldScopes) × (spec_words_scopes ws (enter s) ≡ Some t)
      words_named =
          let a = behind_ok (behind (behind (spec_words_scopes ws (enter s))
          (λ t. where_true (some_shows_no_type t d) t)) (some_declr_scopes (Some Value) d)) _ u named in
          let b = behind_ok (behind (spec_words_scopes ws (enter s)) (λ t. where_true (some_shows_no_type t d) t))
          (some_declr_scopes (Some Value) d) a.0 a.1 in
          let c = behind_ok (spec_words_scopes ws (enter s)) (λ t. where_true (some_shows_no_type t d) t) b.0 b.1 in
          (c.0, c.1)

      high : 1 ≤ specs_height ws
      high = specs_high ws

      lead_low : (lead : List Attr) → least_with lead ≤ room
      lead_low [] = omega arith
      lead_low (a ∷ lead) = omega (arith, low, high)

      lead : attrs_at room s (attrs_text all (lead_attrs ws) (spec_words_text all (behind_attrs ws) more))
          ≡ done (found (lead_attrs ws) s (spec_words_text all (behind_attrs ws) more))
      lead = tokens.attrs_complete room (lead_attrs ws) s s (spec_words_text all (behind_attrs ws) more)
          (lead_attrs_fit all ws fits.1) refl (lead_low (lead_attrs ws))
          (not_false (lead_attrs_end all numbered goes ws (enter s) words_named.0 more fits.0 fits.1 words_named.1))

      begun : begins_specs s (kind_at (spec_words_text all (behind_attrs ws) more)) ≡ true
      begun =
          let split = attrs_split all ws in
          sym (enter_begins s (kind_at (spec_words_text all (behind_attrs ws) more)))
          ∙ firsts.words_begin (behind_attrs ws) (enter s) words_named.0 more (split.mix fits.0) (split.fits fits.1)
          (split.named (enter s) ∙ words_named.1)

      read : prototype_with inner alone_declared opening (lead_attrs ws) room s
          (spec_words_text all (behind_attrs ws) more) ≡
          done (found (record {
            declr = some_declr (abs_params no_declr opening (more_params ws d attrs ps) dots closing);
            closed = None;
          }) (leave u) k)
      read = prototype_is alone_declared opening (lead_attrs ws) (more_params ws d attrs ps) dots room s u closing k
          (spec_words_text all (behind_attrs ws) more)
          (params_complete all numbered tokens goes n inner laws (lead_attrs ws) (behind_attrs ws) ws d attrs ps dots
          (room - 1) (omega (arith, most)) (attrs_split all ws) (enter s) u closing k fits ended named
          (omega (arith, low)))

  -- a direct declarator before any tokens leaves the loop of brackets and parameters with it

  name_core : (mode : Mode) (wanted : Option Kind) (flag : Bool) (room token name : ℕ) (s s' : HeldScopes)
      (k : List Lexeme)
      → Suits mode true → at_name wanted name s ≡ Some s' → 1 ≤ declr_room flag None room →
      core_with inner mode wanted flag room s (declr_text all (declr_name token name) k)
      ≡ done (found (declared_as wanted (some_declr (declr_name token name)) s) s' k)
  unfolding core_with
  name_core mode wanted flag room token name s s' k suits named low =
      rw (names_base_no s mode wanted (kinds.Name name) refl, named_takes mode suits, named)
      (fits_is 1 room (declr_text all (declr_name token name) k) _ (low_room flag low) ∙ bind_is _ refl refl)
    where
      low_room : (flag : Bool) → 1 ≤ declr_room flag None room → 1 ≤ room
      low_room true h = h
      low_room false h = h

  -- a base word that names a typedef
  base_core : (mode : Mode) (wanted : Option Kind) (flag : Bool) (room token : ℕ) → MayName all mode wanted
      → (s s' : HeldScopes) (k : List Lexeme) → declr_scopes wanted (base_name token) s ≡ Some s'
      → 1 ≤ declr_room flag None room →
      core_with inner mode wanted flag room s (declr_text all (base_name token) k)
      ≡ done (found (declared_as wanted (some_declr (base_name token)) s) s' k)
  unfolding core_with
  base_core mode wanted flag room token may s s' k named low = by_kind mode wanted may named
    where
      low_room : (flag : Bool) → 1 ≤ declr_room flag None room → 1 ≤ room
      low_room true h = h
      low_room false h = h

      no_wide : (b : Bool) → where_true (b && false) s ≡ Some s' → ⊥
      no_wide true e = absurd cc
      no_wide false e = absurd cc

      wide_is : (b : Bool) → where_true (b && true) s ≡ Some s' → (b ≡ true) × (s ≡ s')
      wide_is true e = (refl, cc)
      wide_is false e = absurd cc

      by_kind : (mode : Mode) (wanted : Option Kind) → MayName all mode wanted
          → declr_scopes wanted (base_name token) s ≡ Some s' →
          core_with inner mode wanted flag room s (declr_text all (base_name token) k)
          ≡ done (found (declared_as wanted (some_declr (base_name token)) s) s' k)
      by_kind Named (Some Typedef) may named =
          let w = wide_is (is_wide s) named in
          rw w.0 (fits_is 1 room (declr_text all (base_name token) k) _ (low_room flag low) ∙ bind_is _ refl
          (ap (λ (t : HeldScopes). done (found (declared_as (Some Typedef) (some_declr (base_name token)) s) t k)) w.1))
      by_kind Named (Some Value) may named = absurd (no_wide (is_wide s) named)
      by_kind Named (Some Constant) may named = absurd (no_wide (is_wide s) named)
      by_kind Named None may named = absurd (no_wide (is_wide s) named)
      by_kind Abstract (Some Typedef) may named = absurd cc
      by_kind Abstract (Some Value) may named = absurd (no_wide (is_wide s) named)
      by_kind Abstract (Some Constant) may named = absurd (no_wide (is_wide s) named)
      by_kind Abstract None may named = absurd (no_wide (is_wide s) named)
      by_kind Either (Some Typedef) may named = absurd cc
      by_kind Either (Some Value) may named = absurd (no_wide (is_wide s) named)
      by_kind Either (Some Constant) may named = absurd (no_wide (is_wide s) named)
      by_kind Either None may named = absurd (no_wide (is_wide s) named)

  bracket_core : (mode : Mode) (wanted : Option Kind) (flag : Bool) (room opening : ℕ) (s : HeldScopes)
      (k : List Lexeme)
      → Suits mode false →
      core_with inner mode wanted flag room s (sign_text puncts.OpenBracket opening k)
      ≡ done (found (declared_as wanted no_declr s) s (sign_text puncts.OpenBracket opening k))
  unfolding core_with
  bracket_core Named wanted flag room opening s k suits = absurd suits
  bracket_core Abstract wanted flag room opening s k suits = refl
  bracket_core Either wanted flag room opening s k suits = refl

  alone_paren : (mode : Mode) (wanted : Option Kind) (flag : Bool) (room : ℕ) → declr_number flag room < suc n
      → (opening : ℕ) (ps : Params) (dots : Option Dots) (closing : ℕ) (s u : HeldScopes) (k : List Lexeme)
      → Suits mode false → AreParams all ps → IsEllipsis all ps dots →
      params_scopes ps (enter s) ≡ Some u → params_height ps + 1 ≤ declr_room flag None room →
      core_with inner mode wanted flag room s (declr_text all (abs_params no_declr opening ps dots closing) k)
      ≡ done (found (declared_as wanted (some_declr (abs_params no_declr opening ps dots closing)) s) (leave u) k)
  unfolding core_with
  alone_paren Named wanted flag room less opening ps dots closing s u k suits fits ended named low = absurd suits
  alone_paren Abstract wanted flag room less opening ps dots closing s u k suits fits ended named low =
      alone_core Abstract wanted flag room less opening ps dots closing s u k fits ended named (low_room flag low)
    where
      low_room : (flag : Bool) → params_height ps + 1 ≤ declr_room flag None room → params_height ps + 1 ≤ room
      low_room true h = h
      low_room false h = h
  alone_paren Either wanted flag room less opening ps dots closing s u k suits fits ended named low =
      alone_core Either wanted flag room less opening ps dots closing s u k fits ended named (low_room flag low)
    where
      low_room : (flag : Bool) → params_height ps + 1 ≤ declr_room flag None room → params_height ps + 1 ≤ room
      low_room true h = h
      low_room false h = h

  where_is : (b : Bool) (t u : HeldScopes) → where_true b t ≡ Some u → (b ≡ true) × (t ≡ u)
  where_is true t u e = (refl, cc)
  where_is false t u e = absurd cc

  in_own : (ps : Params) (s s' : HeldScopes) → in_own_scope (params_scopes ps) s ≡ Some s'
      → (u : HeldScopes) × (params_scopes ps (enter s) ≡ Some u) × (leave u ≡ s')
  in_own ps s s' e =
      let a = behind_ok (params_scopes ps (enter s)) (λ inner. Some (leave inner)) s' e in
      let same : leave a.0 ≡ s' = some_same a.2 in
      (a.0, a.1, same)
    where
      some_same : {t u : HeldScopes} → Some t ≡ Some u → t ≡ u
      some_same e = cc

  abbrev pub LoopOf : Mode → Option Kind → Bool → ℕ → Declr → HeldScopes → HeldScopes → List Lexeme → Type 0
  LoopOf mode wanted flag room d s s' k =
      direct_with inner mode wanted flag room s (declr_text all d k)
      ≡ run (suffix_turn inner flag room) (declared_as wanted (some_declr d) s) s' k

  pub direct_on : (mode : Mode) (wanted : Option Kind) (flag : Bool) (room : ℕ) → declr_number flag room < suc n
      → MayName all mode wanted → (d : Declr) (s s' : HeldScopes) (k : List Lexeme) → IsDeclr all d → is_direct d ≡ true
      → Suits mode (is_named d) → Shows mode s d → (flag ≡ true) ⊎ (lists_identifiers d ≡ false) →
      declr_scopes wanted d s ≡ Some s' → declr_height d ≤ declr_room flag (closed_of wanted (some_declr d) s) room
      → LoopOf mode wanted flag room d s s' k
  unfolding direct_with paren_text
  direct_on mode wanted flag room less may (pointer star words d) s s' k fits direct suits shows plain named low =
      absurd cc
  direct_on mode wanted flag room less may (abs_pointer star words d) s s' k fits direct suits shows plain named low =
      absurd cc
  direct_on mode wanted flag room less may (declr_name token name) s s' k fits direct suits shows plain named low =
      bind_is _ (name_core mode wanted flag room token name s s' k suits named low) refl
  direct_on mode wanted flag room less may
      (declr_paren opening attrs d closing) s s' k fits direct suits shows plain named low =
      let low' : max (attrs_height attrs) (declr_height d) + 1 ≤ declr_room flag
      (closed_of wanted (some_declr d) s) room = low in
      let core = paren_core mode wanted flag room less may opening attrs d closing s s' k fits.0 fits.1
      (subst (Suits mode) (sym fits.2) suits)
      (shows_same mode s (declr_paren opening attrs d closing) d
      (and_second (not (begins_with_type s (first_name d))) (shows_no_type s d)) shows)
      (λ takes is. shows_free mode s opening attrs d closing shows takes) plain named low' in
      let made : with_paren opening attrs d closing ≡ declr_paren opening attrs d closing = rw fits.2 refl in
      bind_is _ (core ∙ ap (λ (e : Declr). done (found (declared_as wanted (some_declr e) s) s' k)) made) refl
  direct_on mode wanted flag room less may
      (abs_paren opening attrs d closing) s s' k fits direct suits shows plain named low =
      let low' : max (attrs_height attrs) (declr_height d) + 1 ≤ declr_room flag
      (closed_of wanted (some_declr d) s) room = rw (closed_none wanted d s fits.2) low in
      let core = paren_core mode wanted flag room less may opening attrs d closing s s' k fits.0 fits.1
      (subst (Suits mode) (sym fits.2) suits)
      (shows_same mode s (abs_paren opening attrs d closing) d (λ e. e) shows) (λ takes is. no_name fits.2 is)
      (inr (unnamed_plain d fits.2)) named low' in
      let made : with_paren opening attrs d closing ≡ abs_paren opening attrs d closing = rw fits.2 refl in
      bind_is _ (core ∙ ap (λ (e : Declr). done (found (declared_as wanted (some_declr e) s) s' k)) made) refl
    where
      no_name : {P : Type 0} → is_named d ≡ false → is_named d ≡ true → P
      no_name not_named is = let wrong : true ≡ false = sym is ∙ not_named in absurd cc
  direct_on mode wanted flag room less may
      (array d opening words size closing) s s' k fits direct suits shows plain named low =
      let a = behind_ok (declr_scopes wanted d s) (some_size_scopes size) s' named in
      let low' : max (declr_height d) (some_size_height size) + 1 ≤ declr_room flag
      (closed_of wanted (some_declr d) s) room = low in
      let first =
      direct_on mode wanted flag room less may d s a.0 _ fits.0 fits.2 (subst (Suits mode) (sym fits.1) suits)
      (shows_same mode s (array d opening words size closing) d (λ e. e) shows) plain a.1 (omega (arith, low')) in
      let made : with_array (some_declr d) opening words size closing ≡ array d opening words size closing =
      rw fits.1 refl in
      first ∙ array_on wanted flag room less (some_declr d) opening words size closing s a.0 s' k fits.3 fits.4 a.2 low'
      ∙ ap (λ (e : Declr). run (suffix_turn inner flag room) (declared_as wanted (some_declr e) s) s' k) made
  direct_on mode wanted flag room less may
      (params d opening ps dots closing) s s' k fits direct suits shows plain named low =
      let a = behind_ok (declr_scopes wanted d s) (in_own_scope (params_scopes ps)) s' named in
      let b = in_own ps a.0 s' a.2 in
      let made : with_params (some_declr d) opening ps dots closing ≡ params d opening ps dots closing =
      rw fits.1 refl in
      let low' : declr_height d ≤ declr_room flag (closed_of wanted (some_declr d) s) room =
      fewer_room flag (closed_of wanted (some_declr (params d opening ps dots closing)) s)
      (closed_of wanted (some_declr d) s) room (declr_height d) (max (declr_height d) (params_height ps) + 1)
      (omega arith) low in
      let first =
      direct_on mode wanted flag room less may d s a.0 _ fits.0 fits.2 (subst (Suits mode) (sym fits.1) suits)
      (shows_same mode s (params d opening ps dots closing) d (λ e. e) shows) plain a.1 low' in
      first ∙ params_on wanted flag room less (some_declr d) opening ps dots closing s a.0 b.0 k fits.3 fits.4 a.1 b.1
      (subst (λ (e : Declr). max (declr_height d) (params_height ps) + 1 ≤ declr_room flag
      (closed_of wanted (some_declr e) s) room) (sym made) low)
      ∙ ap (λ (e : Declr). run (suffix_turn inner flag room) (declared_as wanted (some_declr e) s) (leave b.0) k) made
      ∙ ap (λ (t : HeldScopes). run (suffix_turn inner flag room)
      (declared_as wanted (some_declr (params d opening ps dots closing)) s) t k) b.2
  direct_on mode wanted flag room less may (base_name token) s s' k fits direct suits shows plain named low =
      bind_is _ (base_core mode wanted flag room token may s s' k named low) refl
  direct_on mode wanted false room less may (identifiers d opening names closing) s s' k fits direct suits shows
      (inl flagged) named low =
      absurd cc
  direct_on mode wanted flag room less may (identifiers d opening names closing) s s' k fits direct suits shows
      (inr plain) named low =
      absurd cc
  direct_on mode wanted true room less may (identifiers d opening names closing) s s' k fits direct suits shows
      (inl flagged) named low =
      let a = behind_ok (declr_scopes wanted d s)
      (λ t. behind (where_true (is_wide t) t) (identifiers_scopes names)) s' named in
      let b = behind_ok (where_true (is_wide a.0) a.0) (identifiers_scopes names) s' a.2 in
      let wide = where_is (is_wide a.0) a.0 b.0 b.1 in
      let low' : declr_height d ≤ declr_room true (closed_of wanted (some_declr d) s) room =
      fewer_room true (closed_of wanted (some_declr (identifiers d opening names closing)) s)
      (closed_of wanted (some_declr d) s) room (declr_height d) (declr_height d + 1) (omega arith) low in
      let first = direct_on mode wanted true room less may d s a.0 _ fits.0 (bare_direct all d fits.1)
      (subst (Suits mode) (sym (bare_has_name all d fits.1)) suits)
      (shows_same mode s (identifiers d opening names closing) d (λ e. e) shows) (inl refl) a.1 low' in
      first ∙ identifiers_on wanted room d opening names closing s a.0 s' k (bare_back all d fits.1) fits.2 a.1 wide.0
      (ap (identifiers_scopes names) wide.1 ∙ b.2) low
  direct_on mode wanted flag room less may
      (abs_array no_declr opening words size closing) s s' k fits direct suits shows plain named low =
      bind_is _ (bracket_core mode wanted flag room opening s _ suits)
      (array_on wanted flag room less no_declr opening words size closing s s s' k fits.1 fits.2 named low)
  direct_on mode wanted flag room less may
      (abs_array (some_declr d) opening words size closing) s s' k fits direct suits shows plain named low =
      let a = behind_ok (declr_scopes wanted d s) (some_size_scopes size) s' named in
      let low' : max (declr_height d) (some_size_height size) + 1 ≤ declr_room flag
      (closed_of wanted (some_declr d) s) room = rw (closed_none wanted d s fits.0.1) low in
      let first =
      direct_on mode wanted flag room less may d s a.0 _ fits.0.0 fits.0.2 (subst (Suits mode) (sym fits.0.1) suits)
      (shows_same mode s (abs_array (some_declr d) opening words size closing) d (λ e. e) shows)
      (inr (unnamed_plain d fits.0.1)) a.1 (omega (arith, low')) in
      let made : with_array (some_declr d) opening words size closing
      ≡ abs_array (some_declr d) opening words size closing = rw fits.0.1 refl in
      first ∙ array_on wanted flag room less (some_declr d) opening words size closing s a.0 s' k fits.1 fits.2 a.2 low'
      ∙ ap (λ (e : Declr). run (suffix_turn inner flag room) (declared_as wanted (some_declr e) s) s' k) made
  direct_on mode wanted flag room less may
      (abs_params no_declr opening ps dots closing) s s' k fits direct suits shows plain named low =
      let b = in_own ps s s' named in
      bind_is _ (alone_paren mode wanted flag room less opening ps dots closing s b.0 k suits fits.1 fits.2 b.1
      (omega (arith, low)))
      (ap (λ (t : HeldScopes). run (suffix_turn inner flag room)
      (declared_as wanted (some_declr (abs_params no_declr opening ps dots closing)) s) t k) b.2)
  direct_on mode wanted flag room less may
      (abs_params (some_declr d) opening ps dots closing) s s' k fits direct suits shows plain named low =
      let a = behind_ok (declr_scopes wanted d s) (in_own_scope (params_scopes ps)) s' named in
      let b = in_own ps a.0 s' a.2 in
      let made : with_params (some_declr d) opening ps dots closing
      ≡ abs_params (some_declr d) opening ps dots closing = rw fits.0.1 refl in
      let low' : declr_height d ≤ declr_room flag (closed_of wanted (some_declr d) s) room =
      fewer_room flag (closed_of wanted (some_declr (abs_params (some_declr d) opening ps dots closing)) s)
      (closed_of wanted (some_declr d) s) room (declr_height d) (max (declr_height d) (params_height ps) + 1)
      (omega arith) low in
      let first = direct_on mode wanted flag room less may d s a.0 _ fits.0.0 fits.0.2
      (subst (Suits mode) (sym fits.0.1) suits) (shows_same mode s (abs_params (some_declr d) opening ps dots closing) d
      (λ e. e) shows) (inr (unnamed_plain d fits.0.1)) a.1 low' in
      first ∙ params_on wanted flag room less (some_declr d) opening ps dots closing s a.0 b.0 k fits.1 fits.2 a.1 b.1
      (subst (λ (e : Declr). max (declr_height d) (params_height ps) + 1 ≤ declr_room flag
      (closed_of wanted (some_declr e) s) room) (sym made) low)
      ∙ ap (λ (e : Declr). run (suffix_turn inner flag room) (declared_as wanted (some_declr e) s) (leave b.0) k) made
      ∙ ap (λ (t : HeldScopes). run (suffix_turn inner flag room)
      (declared_as wanted (some_declr (abs_params (some_declr d) opening ps dots closing)) s) t k) b.2
