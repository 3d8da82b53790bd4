-- The declarations behind a list of identifiers as the readers of token lists see them.
use Rattle.std.specs.Prelude.{ℕ, not, List, map, Result}
use Rattle.c_syntax.specs.declared.declaration.Declaration as rust_declaration
use Rattle.c_tree.specs.Tree.{Declaration}
use Rattle.c_tree.specs.View.{declaration_of}
use Rattle.c_reading.specs.Items.{old_declaration}
use Rattle.c_reading.specs.Knot.{knot}
use Rattle.c_reading.specs.Reading.{Reader, Turn, repeated_turn}
use Rattle.c_reading.specs.Tokens.{is_open_brace}
use Rattle.reader_base.specs.declared.fault.ReadError.{ReadError}
use Rattle.reader_base.specs.declared.cursor.Cursor.{Cursor}
use Rattle.reader_base.specs.Gives.{Reads}
use Rattle.std.specs.Global.{Vec}

-- the declarations so far, as the state of the loop over them
abbrev pub known_declarations : List rust_declaration.Declaration → List Declaration
known_declarations ds = map declaration_of ds

-- the declarations behind a list of identifiers are read as the reader of lists gives them
abbrev pub ReadsDeclarations : Cursor → Cursor → Result (Vec rust_declaration.Declaration) ReadError
    → Reader (List Declaration) → Type 0
ReadsDeclarations before after result reader = Reads (λ ds. known_declarations ds.items) before after result reader

-- one more declaration behind a list of identifiers, up to `{`
abbrev pub old_turn : ℕ → ℕ → Turn (List Declaration)
old_turn depth room = repeated_turn (λ kind. not (is_open_brace kind)) (old_declaration (knot depth) room)
