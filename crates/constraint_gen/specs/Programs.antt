-- The program that some units are, where its variables stand, and which of them a report lists.
use Rattle.std.specs.Prelude.{ℕ, List}
use Rattle.lattice_core.specs.View.{LatticeView}
use Rattle.qual_types.specs.Positions.{PositionView}
use Rattle.unit_system.specs.SourceMarks.Marks.{mark_among}
use Rattle.type_rules.specs.Program.{names_of}
use Rattle.unit_starts.specs.PositionLaws.Positions.{positions_of}
use Rattle.c_types.specs.Sources.{UnitRead, lexed_of, sources_in}
use Rattle.index_words.specs.Marks.{IndexMark, index_in}
use Rattle.constraint_rules.specs.Systems.{Program, starts_of}
use Rattle.constraint_gen.specs.Listing.{is_listed, listed_at}
use Rattle.row_rules.specs.Annotations.{has_access}

-- units in their order over lattices, with what the index words of the prelude say
abbrev pub program_in : List LatticeView → List IndexMark → List UnitRead → Program
program_in lattices marks units = record {
  sources = sources_in units;
  lattices = lattices;
  mark = mark_among (lexed_of units);
  index = index_in marks;
}

-- where the variables of a program stand, in the order of their numbers
abbrev pub positions_in : Program → List PositionView
positions_in p = positions_of (starts_of (has_access p.lattices) p.sources)

-- the variables that a report lists, ascending: those that stand where a source declares a name
abbrev pub listed_in : List UnitRead → Program → List ℕ
listed_in units p = listed_at (is_listed (lexed_of units) (names_of p.sources)) 0 (positions_in p)
