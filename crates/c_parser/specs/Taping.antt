-- The tape of a unit, read item by item: the readers of lists with the ops of an item in the place of its tree.
use Rattle.std.specs.Prelude.{◌≡◌, ℕ, ◌-◌, List, [], ◌∷◌, ◌++◌, Some, None, if◌then◌else◌, Bool}
use Rattle.tape_ops.specs.declared.op.Op.{Op}
use Rattle.c_lexer.specs.Tokens.{Lexed}
use Rattle.c_tree.specs.declared.lexeme.Lexeme.{Lexeme}
use Rattle.c_tree.specs.Unit.{Item}
use Rattle.c_tape.specs.Tape.{item_tape, tape_of}
use Rattle.c_units.specs.HeldScopes.{file_scope}
use Rattle.c_units.specs.Units.{IsWellFormed}
use Rattle.c_reading.specs.declared.kinds.FaultKind.TheVariants.{Unexpected}
use Rattle.c_reading.specs.Items.{item_with}
use Rattle.c_reading.specs.Knot.{knot, most}
use Rattle.c_reading.specs.Reading.{Found, Read, Reader, Turn, ◌>>=◌, ends, refuses, token_at, kind_at, run}
use Rattle.c_reading.specs.Tokens.{is_end}
use Rattle.c_reading.specs.Turns.{no_end}
use Rattle.c_parser.specs.Parsing.{lexemes_of}

-- an item more, behind the ops of those before it
abbrev pub tape_turn : ℕ → ℕ → Turn (List Op)
tape_turn depth room ops s ts =
    if no_end (kind_at ts)
    then Some (item_with (knot depth) room s ts >>= λ x. ends (ops ++ item_tape x.tree) x.scopes x.rest) else None

-- the ops of the items of a unit, up to the end
unfoldable pub tapes_at : ℕ → ℕ → Reader (List Op)
tapes_at depth room s ts = run (tape_turn depth room) [] s ts

-- nothing stands behind the end
abbrev pub tape_alone : Bool → List Op → List Lexeme → Read (List Op)
tape_alone wide ops [] = ends ops (file_scope wide) []
tape_alone wide ops (t ∷ ts) = refuses Unexpected (t ∷ ts)

-- the ops of the unit whose tokens these are
unfoldable pub tape_at : Bool → List Lexeme → Read (List Op)
tape_at wide all = do
  ops ← tapes_at most (most - 1) (file_scope wide) all
  last ← token_at is_end ops.scopes ops.rest
  tape_alone wide ops.tree last.rest

-- the ops of a whole unit: nothing stands behind them
abbrev pub tape_found : Bool → List Op → Found (List Op)
tape_found wide ops = record { tree = ops; scopes = file_scope wide; rest = [] }

-- the tape of the well-formed unit that has these tokens
pub record IsTapeOf (tokens : Lexed) (ops : List Op) : Type 0 where
  pub items : List Item
  pub formed : IsWellFormed tokens.wide (lexemes_of tokens) items
  pub taped : ops ≡ tape_of items
