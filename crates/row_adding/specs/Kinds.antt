-- Rows of declared names.
use Rattle.std.specs.Prelude.{ℕ, List, []}
use Rattle.flow_graph.specs.declared.constraint.Constraint.{Constraint}
use Rattle.type_table.specs.Types.{pointer}
use Rattle.name_rules.specs.Scopes.{Declared}
use Rattle.qual_types.specs.Skel.{Skel}
use Rattle.row_rules.specs.Indexing.{indexing}
use Rattle.row_rules.specs.Rows as rows
use Rattle.row_rules.specs.Worlds.{World, skeleton}
use Rattle.row_adding.specs.declared.naming.RowKind.{RowKind}
use Rattle.row_adding.specs.declared.naming.RowKind.TheVariants as kinds

-- a kind of rows, with a skeleton in place of its number
abbrev pub kind_of : (ℕ → Skel) → RowKind → rows.RowKind
kind_of t kinds.Nothing = rows.no_row
kind_of t kinds.Name = rows.row_of_name
kind_of t (kinds.Parameter own i) = rows.row_of_param (t own) i

-- what the index words of a declared name say
abbrev pub index_row : World → Declared → List Constraint
index_row w d = indexing w (pointer [] d.type) (skeleton w d.at)
