-- Readers of declarators, parameters and type names (C99, 6.7.5 and 6.7.6), over readers of the parts inside.
use Rattle.std.specs.Prelude.{ℕ, suc, ◌-◌, Bool, true, false, ◌&&◌, ◌||◌, not, List, [], ◌∷◌, Option, None, Some, is_some, if◌then◌else◌}
use Rattle.c_words.specs.declared.kinds.TokenKind.{TokenKind}
use Rattle.c_tree.specs.declared.lexeme.Lexeme.{Lexeme}
use Rattle.c_syntax.specs.declared.parts.Attr.{Attr}
use Rattle.c_syntax.specs.declared.parts.Identifier.{Identifier}
use Rattle.c_syntax.specs.declared.parts.Qual.{Qual}
use Rattle.c_syntax.specs.declared.parts.PointerWord.{PointerWord}
use Rattle.c_syntax.specs.declared.parts.ArrayWord.{ArrayWord}
use Rattle.c_tree.specs.Tree.{SpecWords, no_words, more_words, qualifier, attribute, Declr, pointer, declr_name, declr_paren, array, params, abs_pointer, abs_paren, abs_array, abs_params, SomeDeclr, no_declr, some_declr, SomeSize, no_size, some_size, size_value, size_star, Params, Dots, identifiers, base_name}
use Rattle.c_tree.specs.Height.{some_declr_height}
use Rattle.c_tree.specs.WellFormed.{is_named, ends_starred_some}
use Rattle.typedef_scope.specs.declared.kind.Kind.{Kind}
use Rattle.typedef_scope.specs.declared.kind.Kind.TheVariants.{Typedef, Value}
use Rattle.c_units.specs.HeldScopes.{HeldScopes, HeldScope, is_wide, new_scope, names_type, enter, leave, innermost, release}
use Rattle.c_units.specs.Scoping.{at_name}
use Rattle.c_units.specs.Units.{bare_name}
use Rattle.c_reading.specs.declared.kinds.FaultKind.TheVariants.{Unexpected, Redeclared}
use Rattle.c_reading.specs.declared.kinds.Reach.TheVariants.{Assigned}
use Rattle.c_reading.specs.declared.kinds.Role.TheVariants.{Typed, Naming}
use Rattle.c_reading.specs.declared.kinds.Mode.{Mode}
use Rattle.c_reading.specs.declared.kinds.Mode.TheVariants.{Named, Abstract, Either}
use Rattle.c_reading.specs.Reading.{Reader, Read, Turn, ◌>>=◌, ends, refuses, fits, kind_at, take_one, token_at, run, listed, Next, one_more, list_end, CommaList}
use Rattle.c_reading.specs.Tokens.{is_open_paren, is_close_paren, is_open_bracket, is_close_bracket, is_star, is_dots, is_base_word, spelled_name, name_at, quals_at, array_words_at, pointer_words_at, attrs_at}
use Rattle.c_reading.specs.Specifying.{begins_specs, present, specs_here}
use Rattle.c_reading.specs.Parts.{Inner, nothing, star, TypeName, Declared, ParamItem, params_from}

-- whether a declarator of a mode may have a name
abbrev pub takes_name : Mode → Bool
takes_name Named = true
takes_name Abstract = false
takes_name Either = true

-- the least height of a declarator that begins with a star
abbrev pub least_pointer : Mode → ℕ
least_pointer Named = 2
least_pointer Abstract = 1
least_pointer Either = 1

-- a star before a declarator, which makes a pointer with a name or an abstract one, as that declarator has a name or
-- not
abbrev pub with_pointer : ℕ → List PointerWord → SomeDeclr → Declr
with_pointer token words no_declr = abs_pointer token words no_declr
with_pointer token words (some_declr d) =
    if is_named d then pointer token words d else abs_pointer token words (some_declr d)

-- parentheses around a declarator, with a name or abstract as that is
abbrev pub with_paren : ℕ → List Attr → Declr → ℕ → Declr
with_paren opening attrs d closing =
    if is_named d then declr_paren opening attrs d closing else abs_paren opening attrs d closing

-- brackets behind a declarator, with a name or abstract as that is; behind none, an abstract one
abbrev pub with_array : SomeDeclr → ℕ → List ArrayWord → SomeSize → ℕ → Declr
with_array no_declr opening words size closing = abs_array no_declr opening words size closing
with_array (some_declr d) opening words size closing =
    if is_named d then array d opening words size closing else abs_array (some_declr d) opening words size closing

-- parameters behind a declarator, with a name or abstract as that is; behind none, an abstract one
abbrev pub with_params : SomeDeclr → ℕ → Params → Option Dots → ℕ → Declr
with_params no_declr opening ps dots closing = abs_params no_declr opening ps dots closing
with_params (some_declr d) opening ps dots closing =
    if is_named d then params d opening ps dots closing else abs_params (some_declr d) opening ps dots closing

-- the name alone, parentheses aside
abbrev pub is_bare : SomeDeclr → Bool
is_bare no_declr = false
is_bare (some_declr d) = is_some (bare_name d)

-- the scope of the parameters directly around the name, where these are such
abbrev pub closed_by : SomeDeclr → HeldScope → Option HeldScope → Option HeldScope
closed_by d scope closed = if is_bare d then Some scope else closed

-- A declarator that may be a function's has room for one level more from the parameters directly around its name on.
abbrev pub room_at : Bool → ℕ → Declared → TokenKind → ℕ
room_at flag room d kind = if flag && (is_some d.closed || (is_open_paren kind && is_bare d.declr)) then suc room else room

-- qualifiers as the first words of specifiers
abbrev pub words_of_quals : List Qual → SpecWords
words_of_quals [] = no_words
words_of_quals (qual ∷ quals) = more_words (qualifier qual) (words_of_quals quals)

-- attributes as the first words of specifiers
abbrev pub words_of_attrs : List Attr → SpecWords
words_of_attrs [] = no_words
words_of_attrs (attr ∷ attrs) = more_words (attribute attr) (words_of_attrs attrs)

-- whether a list is empty
abbrev pub are_none : {A : Type 0} → List A → Bool
are_none [] = true
are_none (x ∷ xs) = false

-- whether what stands behind a parenthesis and attributes makes it that of parameters, where no name must come
abbrev pub opens_params : List Attr → HeldScopes → TokenKind → Bool
opens_params attrs s kind = (are_none attrs && is_close_paren kind) || begins_specs s kind

-- whether a declarator goes on so, where no name must come
abbrev pub opens_declr : Mode → TokenKind → Bool
opens_declr mode kind =
    is_star kind || is_open_paren kind || is_open_bracket kind || (takes_name mode && is_some (spelled_name kind))

-- a parameter takes the attributes behind its declarator, where there is one that takes none itself
abbrev pub takes_attrs : SomeDeclr → Bool
takes_attrs no_declr = false
takes_attrs (some_declr d) = not (ends_starred_some (some_declr d))

-- whether a name may stand in a list of identifiers: one that is no typedef name
abbrev pub is_identifier : HeldScopes → Option ℕ → Bool
is_identifier s None = false
is_identifier s (Some name) = not (names_type s name)

-- whether a list of identifiers begins, as it may in wider C: with a name that is no typedef name
abbrev pub begins_identifiers : HeldScopes → TokenKind → Bool
begins_identifiers s kind = is_wide s && is_identifier s (spelled_name kind)

-- an identifier of a list, which is no typedef name
abbrev pub identifier_at : Reader Identifier
identifier_at s ts = if is_identifier s (spelled_name (kind_at ts)) then name_at s ts else refuses Unexpected ts

-- a further name, behind a comma
abbrev pub next_name : Reader Identifier → ℕ → Reader (Next Identifier ⊥)
next_name name token s ts = name s ts >>= λ x. ends (one_more x.tree) x.scopes x.rest

-- names with a comma between two
unfoldable pub names_list : Reader Identifier → Reader (List Identifier)
names_list name s ts = listed name (next_name name) s ts >>= λ xs. ends xs.tree.items xs.scopes xs.rest

-- what is done behind a declarator with it, and what is done where there is none
abbrev pub identifiers_of : SomeDeclr → (Declr → Read Declared) → Read Declared → Read Declared
identifiers_of no_declr here other = other
identifiers_of (some_declr d) here other = here d

-- in wider C a base word names a typedef, and declares nothing
abbrev pub names_base : HeldScopes → Mode → Option Kind → TokenKind → Bool
names_base s Named (Some Typedef) kind = is_wide s && is_base_word kind
names_base s mode wanted kind = false

-- a base word in the place of a declarator's name
abbrev pub base_named : ℕ → Reader Declared
base_named room s ts =
    fits 1 room ts (take_one s ts >>= λ token.
    ends (record { declr = some_declr (base_name token.tree); closed = None }) token.scopes token.rest)

-- nothing stands where a declarator may: refused where it must have a name
abbrev pub absent : Mode → Reader Declared
absent Named s ts = refuses Unexpected ts
absent Abstract s ts = ends (record { declr = no_declr; closed = None }) s ts
absent Either s ts = ends (record { declr = no_declr; closed = None }) s ts

-- a name, which is held where a kind is wanted
abbrev pub name_held : ℕ → ℕ → Option HeldScopes → HeldScopes → List Lexeme → Read Declared
name_held name room None s ts = refuses Redeclared ts
name_held name room (Some held) s ts =
    fits 1 room ts (take_one s ts >>= λ token.
    ends (record { declr = some_declr (declr_name token.tree name); closed = None }) held token.rest)

module _ (inner : Inner) where
  -- a size that begins with a star
  unfoldable pub star_size : ℕ → Reader SomeSize
  star_size room s ts = do
    token ← take_one s ts
    if is_close_bracket (kind_at token.rest) then ends (some_size (size_star token.tree)) token.scopes token.rest
        else inner.expr Assigned (star token.tree) (room - 1) token.scopes token.rest >>= λ e.
        ends (some_size (size_value e.tree)) e.scopes e.rest

  -- [assign | *]
  unfoldable pub size_with : ℕ → Reader SomeSize
  size_with room s ts =
      if is_close_bracket (kind_at ts) then ends no_size s ts
      else if is_star (kind_at ts) then star_size room s ts
      else inner.expr Assigned nothing (room - 1) s ts >>= λ e. ends (some_size (size_value e.tree)) e.scopes e.rest

  -- [ (static | qual)* [assign | *] ], behind a declarator or none
  unfoldable pub array_with : Declared → ℕ → Reader Declared
  array_with d room s ts = do
    opening ← take_one s ts
    words ← array_words_at opening.scopes opening.rest
    size ← size_with room words.scopes words.rest
    closing ← token_at is_close_bracket size.scopes size.rest
    ends (record {
      declr = some_declr (with_array d.declr opening.tree words.tree size.tree closing.tree);
      closed = d.closed;
    }) closing.scopes closing.rest

  -- the specifiers of a parameter, of which these were read already
  abbrev pub param_words : SpecWords → ℕ → Reader SpecWords
  param_words no_words room s ts = specs_here inner Typed room s ts
  param_words (more_words w ws) room s ts = inner.specs Typed (more_words w ws) (room - 1) s ts

  -- the attributes behind a parameter's declarator, where they are not the declarator's own
  abbrev pub param_attrs : SomeDeclr → ℕ → Reader (List Attr)
  param_attrs d room s ts = if takes_attrs d then attrs_at room s ts else ends [] s ts

  -- Param = Specs [declr | absdeclr] Attr*, behind words that were read already
  unfoldable pub param_with : SpecWords → ℕ → Reader ParamItem
  param_with known room s ts = do
    words ← param_words known room s ts
    d ← inner.declr Either (Some Value) false (room - 1) words.scopes words.rest
    attrs ← param_attrs d.tree.declr room (release Value d.scopes) d.rest
    ends (record { words = words.tree; declr = d.tree.declr; attrs = attrs.tree }) attrs.scopes attrs.rest

  -- qual* ... or a Param that begins with the qualifiers, behind a comma
  unfoldable pub next_param : ℕ → ℕ → Reader (Next ParamItem Dots)
  next_param room comma s ts = do
    quals ← quals_at s ts
    if is_dots (kind_at quals.rest)
        then (take_one quals.scopes quals.rest >>= λ dots.
        ends (list_end (record { comma = comma; quals = quals.tree; dots = dots.tree })) dots.scopes dots.rest)
        else param_with (words_of_quals quals.tree) room quals.scopes quals.rest >>= λ p.
        ends (one_more p.tree) p.scopes p.rest

  -- [Param (, Param)* [, qual* ...]], behind attributes of the first
  unfoldable pub params_with : List Attr → ℕ → Reader (CommaList ParamItem Dots)
  params_with lead room s ts =
      if are_none lead && is_close_paren (kind_at ts) then ends (record { items = []; ending = None }) s ts
      else listed (param_with (words_of_attrs lead) room) (next_param room) s ts

  -- ( [Param (, Param)* [, qual* ...]] ), behind a declarator or none, the parenthesis and attributes of the first
  unfoldable pub prototype_with : Declared → ℕ → List Attr → ℕ → Reader Declared
  prototype_with d opening lead room s ts = do
    ps ← params_with lead (room - 1) (enter s) ts
    closing ← token_at is_close_paren ps.scopes ps.rest
    ends (record {
      declr = some_declr (with_params d.declr opening (params_from ps.tree.items) ps.tree.ending closing.tree);
      closed = closed_by d.declr (innermost closing.scopes) d.closed;
    }) (leave closing.scopes) closing.rest

  -- Params = direct ( Name (, Name)* ), behind the parenthesis; the scope of the declarations behind it has no names
  -- yet
  unfoldable pub identifiers_with : Declr → ℕ → Reader Declared
  identifiers_with d opening s ts = do
    names ← names_list identifier_at s ts
    closing ← token_at is_close_paren names.scopes names.rest
    ends (record {
      declr = some_declr (identifiers d opening names.tree closing.tree);
      closed = Some (new_scope (is_wide s));
    }) closing.scopes closing.rest

  -- a list of identifiers behind a declarator, or else parameters, by whether identifiers begin
  abbrev pub list_behind : Bool → Declared → ℕ → ℕ → Reader Declared
  list_behind true d opening room s ts =
      identifiers_of d.declr (λ inside. identifiers_with inside opening s ts) (prototype_with d opening [] room s ts)
  list_behind false d opening room s ts = prototype_with d opening [] room s ts

  -- a parenthesis behind a declarator, with a list of identifiers where one may stand and begins, and else parameters
  abbrev pub params_behind : Bool → Declared → ℕ → Reader Declared
  params_behind flag d room s ts =
      take_one s ts >>= λ opening. list_behind (flag && is_bare d.declr
      && begins_identifiers opening.scopes (kind_at opening.rest)) d opening.tree room opening.scopes opening.rest

  -- brackets and parameters behind a declarator
  abbrev pub suffix_turn : Bool → ℕ → Turn Declared
  suffix_turn flag room d s ts =
      if is_open_bracket (kind_at ts) then Some (fits (suc (some_declr_height d.declr))
      (room_at flag room d (kind_at ts)) ts (array_with d (room_at flag room d (kind_at ts)) s ts))
      else if is_open_paren (kind_at ts) then Some (fits (suc (some_declr_height d.declr)) (room_at flag room d (kind_at ts)) ts (params_behind flag d (room_at flag room d (kind_at ts)) s ts))
      else None

  -- Attr* declr ), behind the parenthesis and the attributes
  unfoldable pub paren_with : Mode → Option Kind → Bool → ℕ → List Attr → ℕ → Reader Declared
  paren_with mode wanted flag opening attrs room s ts = do
    d ← inner.declr mode wanted flag (room - 1) s ts
    known ← present d.tree.declr d.scopes d.rest
    closing ← token_at is_close_paren known.scopes known.rest
    ends (record { declr = some_declr (with_paren opening attrs known.tree closing.tree); closed = d.tree.closed })
        closing.scopes closing.rest

  -- a declarator in parentheses, where a name must come
  unfoldable pub named_paren : Option Kind → Bool → ℕ → Reader Declared
  named_paren wanted flag room s ts = fits 2 room ts (do
    opening ← take_one s ts
    attrs ← attrs_at room opening.scopes opening.rest
    paren_with Named wanted flag opening.tree attrs.tree room attrs.scopes attrs.rest)

  -- parameters or a declarator in parentheses, by the token behind the parenthesis and attributes
  unfoldable pub opened_by : Mode → Option Kind → Bool → ℕ → List Attr → ℕ → Reader Declared
  opened_by mode wanted flag opening attrs room s ts =
      if opens_params attrs s (kind_at ts)
      then prototype_with (record { declr = no_declr; closed = None }) opening attrs room s ts
      else if opens_declr mode (kind_at ts) then paren_with mode wanted flag opening attrs room s ts
      else refuses Unexpected ts

  -- parameters or a declarator in parentheses, where no name must come
  unfoldable pub opened_with : Mode → Option Kind → Bool → ℕ → Reader Declared
  opened_with mode wanted flag room s ts = fits 1 room ts (do
    opening ← take_one s ts
    attrs ← attrs_at room opening.scopes opening.rest
    opened_by mode wanted flag opening.tree attrs.tree room attrs.scopes attrs.rest)

  -- a parenthesis at the begin of a declarator: around a declarator where a name must come, and else around that or
  -- parameters
  abbrev pub some_paren : Mode → Option Kind → Bool → ℕ → Reader Declared
  some_paren Named wanted flag room s ts = named_paren wanted flag room s ts
  some_paren Abstract wanted flag room s ts = opened_with Abstract wanted flag room s ts
  some_paren Either wanted flag room s ts = opened_with Either wanted flag room s ts

  -- a name, where the mode takes one and it stands there, or else no declarator
  abbrev pub name_or_none : Mode → Option Kind → Option ℕ → ℕ → Reader Declared
  name_or_none mode wanted None room s ts = absent mode s ts
  name_or_none mode wanted (Some name) room s ts =
      if takes_name mode then name_held name room (at_name wanted name s) s ts else absent mode s ts

  -- what stands before brackets and parameters: a name, something in parentheses, or nothing
  unfoldable pub core_with : Mode → Option Kind → Bool → ℕ → Reader Declared
  core_with mode wanted flag room s ts =
      if is_open_paren (kind_at ts) then some_paren mode wanted flag room s ts
      else if names_base s mode wanted (kind_at ts) then base_named room s ts
      else name_or_none mode wanted (spelled_name (kind_at ts)) room s ts

  -- direct = (Name | ( Attr* declr )) and brackets and parameters behind it, or the same without a name
  unfoldable pub direct_with : Mode → Option Kind → Bool → ℕ → Reader Declared
  direct_with mode wanted flag room s ts = do
    core ← core_with mode wanted flag room s ts
    run (suffix_turn flag room) core.tree core.scopes core.rest

  -- Pointer = * (qual | Attr)* declr, AbsPointer = * (qual | Attr)* [absdeclr]
  unfoldable pub pointer_with : Mode → Option Kind → Bool → ℕ → Reader Declared
  pointer_with mode wanted flag room s ts = fits (least_pointer mode) room ts (do
    token ← take_one s ts
    words ← pointer_words_at room token.scopes token.rest
    d ← inner.declr mode wanted flag (room - 1) words.scopes words.rest
    ends (record { declr = some_declr (with_pointer token.tree words.tree d.tree.declr); closed = d.tree.closed })
        d.scopes d.rest)

  -- declr = Pointer | direct, absdeclr = AbsPointer | absdirect, or none where none must stand
  unfoldable pub declr_with : Mode → Option Kind → Bool → ℕ → Reader Declared
  declr_with mode wanted flag room s ts =
      if is_star (kind_at ts) then pointer_with mode wanted flag room s ts else direct_with mode wanted flag room s ts

  -- TypeName = Specs [absdeclr]
  unfoldable pub type_name_with : ℕ → Reader TypeName
  type_name_with room s ts = do
    words ← inner.specs Naming no_words (room - 1) s ts
    d ← inner.declr Abstract None false (room - 1) words.scopes words.rest
    ends (record { words = words.tree; declr = d.tree.declr }) d.scopes d.rest
