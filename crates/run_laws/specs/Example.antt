-- A program with its constraints, in the lattice where 0, untainted, is below 1, tainted:
--
--     $tainted int a;
--     $untainted int b;
--     void f(void) { b = a; }
use Rattle.std.specs.Prelude.{ℕ, zero, suc, List, [], ◌∷◌, None}
use Rattle.qual_base.specs.declared.places.Owner.{Owner}
use Rattle.qual_base.specs.declared.places.Owner.TheVariants.{Nobody, Function}
use Rattle.lattice_core.specs.Order.{Order}
use Rattle.flow_graph.specs.declared.constraint.Link.{Link}
use Rattle.flow_graph.specs.declared.constraint.Link.TheVariants.{Le, Const, Bound}
use Rattle.flow_graph.specs.declared.constraint.Constraint.{Constraint}
use Rattle.flow_graph.specs.System.{System}
use Rattle.qual_types.specs.declared.look.Kind.TheVariants.{Base, Void}
use Rattle.qual_types.specs.Skel.{Skel, flat, ref, fun, no_skels}
use Rattle.run_laws.specs.Programs.{Instr, shared, move, load, store, Program}
use Rattle.run_laws.specs.Runs.{Object, World}

-- the lattice: 0 is below 1
abbrev pub order : Order
order = record { above = 3 ∷ 2 ∷ [] }

-- a constraint of this lattice, from a token that does not matter
abbrev pub constraint : Link → Constraint
constraint link = record { link = link; lattices = 1; span = record { unit = 0; from = 0; to = 0 } }

-- The system, with an element as the bound of b, 0 above. Variables 0 and 2 are of the places of a and b, 1 and 3 of
-- what they hold, all of nobody.
abbrev pub sys : ℕ → System
sys limit = record {
  constraints = constraint (Const 0 1 1) ∷ constraint (Le 1 3) ∷ constraint (Bound 3 0 limit) ∷ [];
  sites = [];
  owners = [];
}

-- the registers of f: the places of a and b, what was read of a, what is written to b, and, unused, what f returns
abbrev pub skel : ℕ → Skel
skel zero = ref 0 (flat 1 Base)
skel (suc zero) = flat 1 Base
skel (suc (suc zero)) = ref 2 (flat 3 Base)
skel (suc (suc (suc zero))) = flat 3 Base
skel (suc (suc (suc (suc r)))) = flat 6 Void

-- the steps of f: the cell of a is read, and what was read is written to the cell of b
abbrev pub code : Owner → List Instr
code Nobody = []
code (Function zero) = shared 0 ∷ load 1 0 ∷ move 3 1 ∷ shared 2 ∷ store 2 3 ∷ []
code (Function (suc g)) = []

-- the program: f alone, which has no parameters
abbrev pub program : Program
program = record {
  skel = λ owner r. skel r;
  signature = λ g. ref 4 (fun 5 no_skels (flat 6 Void) None);
  param = λ g k. 4;
  outcome = λ g. 4;
  code = code;
}

-- the objects of a run: the first is declared as a, the others as b
abbrev pub object : ℕ → Object
object zero = record { skel = flat 1 Base; sites = [] }
object (suc o) = record { skel = flat 3 Base; sites = [] }

-- what the calls and objects of a run are: all calls are of f, and in its one copy
abbrev pub world : World
world = record { frame = λ i. record { owner = Function 0; sites = [] }; object = object }
