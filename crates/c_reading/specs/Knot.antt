-- The readers of all nonterminals, each over the readers of lower trees.
--
-- Readers of number n read trees with a room of at most n, for each part inside has at most one less. At room 0 no
-- reader goes inside, so those of number 0 stand over readers that none calls.
use Rattle.std.specs.Prelude.{ℕ, zero, suc, ◌-◌, List, [], ◌∷◌, Bool}
use Rattle.c_tree.specs.declared.lexeme.Lexeme.{Lexeme}
use Rattle.c_tree.specs.Unit.{Item}
use Rattle.c_units.specs.HeldScopes.{file_scope}
use Rattle.c_reading.specs.declared.kinds.FaultKind.TheVariants.{Unexpected}
use Rattle.c_reading.specs.Reading.{Read, ◌>>=◌, ends, refuses, token_at}
use Rattle.c_reading.specs.Tokens.{is_end}
use Rattle.c_reading.specs.Specifying.{specs_with}
use Rattle.c_reading.specs.Declaring.{declr_with, type_name_with}
use Rattle.c_reading.specs.Expressing.{expr_with}
use Rattle.c_reading.specs.Initialising.{init_list_with}
use Rattle.c_reading.specs.Stating.{block_with, stmt_with}
use Rattle.c_reading.specs.Items.{items_with}
use Rattle.c_reading.specs.Parts.{Inner, never}

-- the readers over those of the parts inside
abbrev pub tied : Inner → Inner
tied inner = record {
  expr = expr_with inner;
  type_name = type_name_with inner;
  specs = specs_with inner;
  declr = declr_with inner;
  init_list = init_list_with inner;
  block = block_with inner;
  stmt = stmt_with inner;
}

-- the readers of a number, which read trees with a room of at most so much
unfoldable pub knot : ℕ → Inner
knot zero = tied never
knot (suc n) = tied (knot n)

-- the greatest height of a unit
abbrev pub most : ℕ
most = 500

-- nothing stands behind the end
abbrev pub alone : Bool → List Item → List Lexeme → Read (List Item)
alone wide items [] = ends items (file_scope wide) []
alone wide items (t ∷ ts) = refuses Unexpected (t ∷ ts)

-- the items of a unit whose tokens these are
unfoldable pub unit_at : Bool → List Lexeme → Read (List Item)
unit_at wide all = do
  items ← items_with (knot most) (most - 1) (file_scope wide) all
  last ← token_at is_end items.scopes items.rest
  alone wide items.tree last.rest
