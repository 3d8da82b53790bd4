-- Readers of the items of a unit (C99, 6.9), over readers of the parts inside.
use Rattle.std.specs.Prelude.{ℕ, ◌+◌, ◌-◌, Bool, true, not, List, [], Option, None, Some, if◌then◌else◌}
use Rattle.c_words.specs.declared.kinds.TokenKind.{TokenKind}
use Rattle.c_syntax.specs.declared.parts.Attr.{Attr}
use Rattle.c_tree.specs.Tree.{SpecWords, Declr, Declaration, decl_declaration, decl_assert}
use Rattle.c_tree.specs.Specifiers.{storage_words}
use Rattle.c_tree.specs.Height.{declr_height}
use Rattle.c_tree.specs.WellFormed.{has_auto, lists_identifiers}
use Rattle.c_reading.specs.declared.kinds.Role.TheVariants.{Declaring}
use Rattle.c_tree.specs.Unit.{Item, function_item, old_function_item, decl_item, asm_item, semi_item}
use Rattle.typedef_scope.specs.declared.kind.Kind.TheVariants.{Value}
use Rattle.c_units.specs.HeldScopes.{HeldScope, enter, innermost, leave, reopen, release}
use Rattle.c_units.specs.Scoping.{has_typedef_word}
use Rattle.c_reading.specs.declared.kinds.FaultKind.TheVariants.{Unexpected}
use Rattle.c_reading.specs.declared.kinds.Mode.TheVariants.{Named}
use Rattle.c_reading.specs.Reading.{Reader, Read, ◌>>=◌, ends, refuses, fits, kind_at, take_one, token_at, repeated}
use Rattle.c_reading.specs.Tokens.{is_comma, is_equal, is_semicolon, is_asm, is_open_brace, is_end, is_static_assert, extensions_at, attrs_at, group_at, assert_at}
use Rattle.c_reading.specs.Specifying.{present, specs_here}
use Rattle.c_reading.specs.Stating.{declr_behind, some_init_with, declrs_with, bare_declaration, declaration_behind, block_body}
use Rattle.c_reading.specs.Parts.{Inner, DeclrItem}

-- a declaration goes on so behind a declarator and attributes
abbrev pub goes_on_declared : TokenKind → Bool
goes_on_declared kind = if is_equal kind then true else if is_comma kind then true else is_semicolon kind

-- a declaration as an item of a unit
abbrev pub as_decl : Read Declaration → Read Item
as_decl read = read >>= λ d. ends (decl_item (decl_declaration d.tree)) d.scopes d.rest

module _ (inner : Inner) where
  -- Block, behind the declarator and attributes of a function, in the scope of its parameters
  unfoldable pub function_with : List ℕ → SpecWords → Declr → List Attr → HeldScope → ℕ → Reader Item
  function_with exts words d attrs closed room s ts = do
    body ← block_body inner (room - 1) (reopen closed s) ts
    ends (function_item exts words d attrs body.tree.opening body.tree.items body.tree.closing)
        (leave body.scopes) body.rest

  -- [= init], behind a declarator and attributes
  unfoldable pub attrs_behind : Declr → List Attr → ℕ → Reader DeclrItem
  attrs_behind d attrs room s ts = do
    init ← some_init_with inner room s ts
    ends (record { before = []; declr = d; label = None; attrs = attrs; init = init.tree }) init.scopes init.rest

  -- behind the declarator of a function and attributes: its block, or a declaration that goes on, for which there must
  -- be room
  unfoldable pub function_or_not : List ℕ → SpecWords → Declr → List Attr → HeldScope → ℕ → Reader Item
  function_or_not exts words d attrs closed room s ts =
      if is_open_brace (kind_at ts) then function_with exts words d attrs closed room s ts
      else if goes_on_declared (kind_at ts)
      then fits (2 + declr_height d) room ts
      (as_decl (declrs_with inner exts words Value room (attrs_behind d attrs (room - 1)) s ts))
      else refuses Unexpected ts

  -- behind a declarator with parameters directly around its name
  unfoldable pub behind_function : List ℕ → SpecWords → Declr → HeldScope → ℕ → Reader Item
  behind_function exts words d closed room s ts =
      if is_asm (kind_at ts)
      then fits (2 + declr_height d) room ts
      (as_decl (declrs_with inner exts words Value room (declr_behind inner [] d (room - 1)) s ts))
      else attrs_at room s ts >>= λ attrs. function_or_not exts words d attrs.tree closed room attrs.scopes attrs.rest

  -- behind the first declarator of an item: a function's body may come where parameters stand around its name
  abbrev pub behind_declr : List ℕ → SpecWords → Declr → Option HeldScope → ℕ → Reader Item
  behind_declr exts words d (Some closed) room s ts = behind_function exts words d closed room s ts
  behind_declr exts words d None room s ts = as_decl (declrs_with inner exts words Value room (declr_behind inner [] d (room - 1)) s ts)

  -- Declaration = ext* Specs [InitDeclr (, Attr* InitDeclr)*] ;  behind a list of identifiers
  unfoldable pub old_declaration : ℕ → Reader Declaration
  old_declaration room s ts = do
    exts ← extensions_at room s ts
    words ← specs_here inner Declaring room exts.scopes exts.rest
    declaration_behind inner exts.tree words.tree room words.scopes words.rest

  -- Attr* Declaration* Block, behind a declarator with a list of identifiers, whose name is held: the declarations
  -- stand in the scope of the parameters, and the name is declared behind the last
  unfoldable pub old_function_with : List ℕ → SpecWords → Declr → ℕ → Reader Item
  old_function_with exts words d room s ts = do
    attrs ← attrs_at room s ts
    ds ← repeated (λ kind. not (is_open_brace kind)) (old_declaration (room - 1)) (enter attrs.scopes) attrs.rest
    body ← block_body inner (room - 1) (reopen (innermost ds.scopes) (release Value (leave ds.scopes))) ds.rest
    ends (old_function_item exts words d attrs.tree ds.tree body.tree.opening body.tree.items body.tree.closing)
        (leave body.scopes) body.rest

  -- a Function or a Declaration, behind the words without `typedef`
  unfoldable pub first_declr : List ℕ → SpecWords → ℕ → Reader Item
  first_declr exts words room s ts = do
    d ← inner.declr Named (Some Value) true (room - 2) s ts
    known ← present d.tree.declr d.scopes d.rest
    if lists_identifiers known.tree then old_function_with exts words known.tree room known.scopes known.rest
        else behind_declr exts words known.tree d.tree.closed room (release Value known.scopes) known.rest

  -- Function = ext* Specs declr Attr* Block, or Declaration
  unfoldable pub declared_item : ℕ → Reader Item
  declared_item room s ts = do
    exts ← extensions_at room s ts
    words ← specs_here inner Declaring room exts.scopes exts.rest
    if has_auto words.tree then as_decl (declaration_behind inner exts.tree words.tree room words.scopes words.rest)
        else if is_semicolon (kind_at words.rest)
        then as_decl (bare_declaration inner exts.tree words.tree room words.scopes words.rest)
        else if has_typedef_word (storage_words words.tree) then as_decl (declaration_behind inner exts.tree words.tree room words.scopes words.rest)
        else first_declr exts.tree words.tree room words.scopes words.rest

  -- AsmDecl = asm bal ;
  unfoldable pub asm_item_with : Reader Item
  asm_item_with s ts = do
    keyword ← take_one s ts
    group ← group_at keyword.scopes keyword.rest
    semi ← token_at is_semicolon group.scopes group.rest
    ends (asm_item keyword.tree group.tree semi.tree) semi.scopes semi.rest

  -- item = Function | decl | AsmDecl | Semi
  unfoldable pub item_with : ℕ → Reader Item
  item_with room s ts =
      if is_semicolon (kind_at ts) then fits 1 room ts
      (take_one s ts >>= λ semi. ends (semi_item (record { token = semi.tree })) semi.scopes semi.rest)
      else if is_asm (kind_at ts) then fits 1 room ts (asm_item_with s ts)
      else if is_static_assert (kind_at ts)
      then fits 1 room ts (assert_at s ts >>= λ it. ends (decl_item (decl_assert it.tree)) it.scopes it.rest)
      else declared_item room s ts

  -- Unit = item*, up to the end
  unfoldable pub items_with : ℕ → Reader (List Item)
  items_with room s ts = repeated (λ kind. not (is_end kind)) (item_with room) s ts
