-- What comes of a library that is accepted: the lines of its functions, or the first function that has no signature.
use Rattle.std.specs.Prelude.{◌≡◌, ℕ, List, None, Some}
use Rattle.std.specs.List.{flat_map}
use Rattle.lattice_core.specs.View.{LatticeView}
use Rattle.flow_graph.specs.System.{System}
use Rattle.sig_writer.specs.declared.lines.SigFault.{SigFault}
use Rattle.sig_writer.specs.declared.lines.SigFault.TheVariants.{Unwritable, NoSign, NoMemory}
use Rattle.sig_writer.specs.Found.{IsFoundAt}
use Rattle.sig_writer.specs.Parts.{Serves}
use Rattle.sig_writer.specs.Signatures.{External, Found, Refusal, NoPlace, NoWord, first_refusal, lines_of, nodes_of}

-- what is right of all nodes
abbrev pub IsFoundIn : System → LatticeView → List External → Found → Type 0
IsFoundIn sys lattice functions it = IsFoundAt sys 0 lattice.order (flat_map nodes_of functions) it

-- the lines, which serve every client as the library does
pub record IsWritten (sys : System) (lattice : LatticeView) (functions : List External) (text : List ℕ) : Type 0 where
  pub it : Found
  pub found : IsFoundIn sys lattice functions it
  pub none : first_refusal it lattice functions ≡ None
  pub is : text ≡ lines_of it lattice functions
  pub serves : Serves sys lattice.order it functions

-- a function of a library has no signature, for this reason and as the first such one
pub record IsRefused (sys : System) (lattice : LatticeView) (functions : List External)
    (refusal : Refusal) : Type 0 where
  pub it : Found
  pub found : IsFoundIn sys lattice functions it
  pub some : first_refusal it lattice functions ≡ Some refusal

-- a fault is that refusal, or want of memory
abbrev pub IsFault : System → LatticeView → List External → SigFault → Type 0
IsFault sys lattice functions (Unwritable p) = IsRefused sys lattice functions (NoPlace p)
IsFault sys lattice functions (NoSign p) = IsRefused sys lattice functions (NoWord p)
IsFault sys lattice functions NoMemory = Unit {0}
