-- The constants and bounds of the system of a program of well-formed units name elements of its lattices.
use Rattle.std.specs.Prelude.{All}
use Rattle.lattice_core.specs.View.{AreSized, orders_of}
use Rattle.flow_graph.specs.Unfolding.{NamesElements}
use Rattle.row_laws.specs.Laws.{IsSound}
use Rattle.constraint_rules.specs.Systems.{AreNamed, Program, system_of}

-- the law: in each lattice the constants and bounds of a program's system name elements of it
abbrev pub ElementsAreNamed : Type 0
ElementsAreNamed = (p : Program) → All IsSound p.sources → AreSized p.lattices → AreNamed p.lattices (system_of p)

-- the law: each constant and bound of a program's system names a lattice that is there, and an element of it
abbrev pub LatticesAreNamed : Type 0
LatticesAreNamed =
    (p : Program) → All IsSound p.sources → AreSized p.lattices → NamesElements (system_of p) (orders_of p.lattices)
