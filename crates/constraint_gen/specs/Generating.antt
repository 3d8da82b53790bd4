-- What is made of a program: its system, and a table in which each variable stands where the program says.
use Rattle.std.specs.Prelude.{◌≡◌, ℕ, All, List, length, map, slice_get, Some}
use Rattle.qual_types.specs.Positions.{PositionView}
use Rattle.qual_types.specs.Table.{Stands}
use Rattle.c_lexer.specs.Tokens.{Lexed}
use Rattle.resolve_laws.specs.NameLaws.NameLaws.{tape_of_source}
use Rattle.type_rules.specs.Program.{names_of}
use Rattle.row_laws.specs.KeyLaws.Differing.{IsRead, UnitsDiffer}
use Rattle.unit_shapes.specs.Views.{names_in}
use Rattle.unit_types.specs.Resolved.{Resolved, tapes_of}
use Rattle.c_types.specs.Sources.{UnitRead, lexed_of, sources_in}
use Rattle.constraint_rules.specs.Systems.{Program, starts_of, system_of}
use Rattle.unit_system.specs.Systems.{AreNumbered}
use Rattle.constraint_gen.specs.declared.generating.Generated.{Generated}
use Rattle.constraint_gen.specs.Programs.{positions_in, listed_in}
use Rattle.row_rules.specs.Annotations.{has_access}

-- The units of which some tokens and a program are left: each is well formed of its tokens and no two have one number,
-- and the names and the tapes are theirs.
pub record IsProgramOf (all : List UnitRead) (units : List Lexed) (it : Resolved) : Type 0 where
  pub lexed : units ≡ lexed_of all
  pub read : All IsRead (sources_in all)
  pub differ : UnitsDiffer (sources_in all)
  pub named : names_in it.rows it.names ≡ names_of (sources_in all)
  pub taped : tapes_of it.units ≡ map tape_of_source (sources_in all)

-- A graph is the system of a program, and each variable of a table stands where the program says; the skeleton at a
-- place is the first that begins there.
pub record IsGenerated (units : List UnitRead) (p : Program) (it : Generated) : Type 0 where
  pub system : it.graph ≡ system_of p
  pub count : length it.skeletons.vars ≡ length (positions_in p)
  pub stand : (q : PositionView) (v : ℕ) → Stands it.skeletons.vars q v → slice_get (positions_in p) v ≡ Some q
  pub skeletons : AreNumbered (starts_of (has_access p.lattices) p.sources) it.skeletons
  pub listed : it.listed.items ≡ listed_in units p
