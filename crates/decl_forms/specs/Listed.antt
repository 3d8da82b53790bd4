-- Declarators of a declaration as the readers of token lists see them.
use Rattle.std.specs.Prelude.{ℕ, ◌-◌, List, [], ◌∷◌, map, None, Option, Result}
use Rattle.typedef_scope.specs.declared.kind.Kind.{Kind}
use Rattle.typedef_scope.specs.declared.kind.Kind.TheVariants.{Value}
use Rattle.c_syntax.specs.declared.declaration.InitDeclr.{InitDeclr}
use Rattle.c_syntax.specs.declared.parts.Attr.{Attr}
use Rattle.c_syntax.specs.declared.parts.Listed.{Listed}
use Rattle.c_nodes.specs.declared.sized.SizedDeclaration.{SizedDeclaration}
use Rattle.c_nodes.specs.declared.sized.SizedInitDeclr.{SizedInitDeclr}
use Rattle.c_nodes.specs.declared.sized.SizedInitDeclrs.{SizedInitDeclrs}
use Rattle.c_nodes.specs.declared.sized.SizedSomeInit.{SizedSomeInit}
use Rattle.c_tree.specs.Lists.{some_init_from}
use Rattle.c_tree.specs.Tree as trees
use Rattle.c_tree.specs.View.{declr_of, declaration_of}
use Rattle.c_reading.specs.Parts.{DeclrItem, init_declrs_from}
use Rattle.c_reading.specs.Reading.{Reader, Turn, CommaList, ◌>>=◌, ends, token_at, run, comma_turn, listed}
use Rattle.c_reading.specs.Tokens.{is_semicolon}
use Rattle.c_reading.specs.Stating.{next_init_declr, init_declr_with}
use Rattle.c_reading.specs.Knot.{knot}
use Rattle.reader_base.specs.declared.fault.ReadError.{ReadError}
use Rattle.reader_base.specs.declared.cursor.Cursor.{Cursor}
use Rattle.reader_base.specs.Gives.{Reads}

-- a declarator of a declaration, as it stands in the list
abbrev pub item_tree : Listed InitDeclr → DeclrItem
item_tree x = record {
  before = x.attrs.items;
  declr = declr_of x.item.declr.value;
  label = x.item.label;
  attrs = x.item.attrs.items;
  init = some_init_from x.item.init;
}

-- a declarator of a declaration, as it is read
abbrev pub sized_item : SizedInitDeclr → DeclrItem
sized_item x = record {
  before = x.before.items;
  declr = declr_of x.declr.value;
  label = x.label;
  attrs = x.attrs.items;
  init = some_init_from x.init;
}

-- the declarators of a declaration so far
abbrev pub listing : SizedInitDeclrs → CommaList DeclrItem ⊥
listing known = record { items = map item_tree known.items.items; ending = None }

-- one declarator alone
abbrev pub only : SizedInitDeclr → CommaList DeclrItem ⊥
only first = record { items = sized_item first ∷ []; ending = None }

-- a declarator more behind a comma
unfoldable pub declrs_turn : ℕ → Kind → ℕ → Turn (CommaList DeclrItem ⊥)
declrs_turn depth kind room known s ts = comma_turn (next_init_declr (knot depth) kind room) known s ts

-- declarators behind the words, the first without attributes
abbrev pub declrs_at : ℕ → Kind → ℕ → Reader (CommaList DeclrItem ⊥)
declrs_at depth kind room s ts =
    listed (init_declr_with (knot depth) [] kind room) (next_init_declr (knot depth) kind room) s ts

-- declarators behind the first of a declaration of values, and its end
abbrev pub declaration_on : ℕ → List ℕ → trees.SpecWords → DeclrItem → ℕ → Reader trees.Declaration
declaration_on depth exts words first room s ts =
    run (declrs_turn depth Value (room - 1)) (record { items = first ∷ []; ending = None }) s ts >>= λ ds.
    token_at is_semicolon ds.scopes ds.rest >>= λ semi.
    ends (trees.declaration exts words (init_declrs_from ds.tree.items) semi.tree) semi.scopes semi.rest

-- the initialiser of a declarator, if any, is read as the reader of lists gives it
abbrev pub ReadsSomeInit : Cursor → Cursor → Result SizedSomeInit ReadError → Reader trees.SomeInit → Type 0
ReadsSomeInit before after result reader = Reads (λ x. some_init_from x.init) before after result reader

-- a declarator of a declaration is read so
abbrev pub ReadsItem : Cursor → Cursor → Result SizedInitDeclr ReadError → Reader DeclrItem → Type 0
ReadsItem before after result reader = Reads sized_item before after result reader

-- the declarators of a declaration are read so
abbrev pub ReadsListing : Cursor → Cursor → Result SizedInitDeclrs ReadError → Reader (CommaList DeclrItem ⊥) → Type 0
ReadsListing before after result reader = Reads listing before after result reader

-- a declaration is read so
abbrev pub ReadsDeclaration : Cursor → Cursor → Result SizedDeclaration ReadError → Reader trees.Declaration → Type 0
ReadsDeclaration before after result reader = Reads (λ x. declaration_of x.tree.value) before after result reader
