-- Programs as steps over registers, and the constraints that a system has of them.
--
-- An expression is taken apart into steps. A register has a skeleton and holds a value: a variable's register holds the
-- address of its cell, at the skeleton of its place, and each expression has a register at the skeleton of its value.
use Rattle.std.specs.Prelude.{◌≡◌, ◌⊎◌, ℕ, true, false, List, [], ◌∷◌, Option, Some, slice_get}
use Rattle.qual_base.specs.declared.places.Owner.{Owner}
use Rattle.qual_base.specs.declared.places.Owner.TheVariants.{Nobody, Function}
use Rattle.flow_graph.specs.declared.constraint.Link.{Link}
use Rattle.flow_graph.specs.declared.constraint.Link.TheVariants.{Le}
use Rattle.flow_graph.specs.declared.constraint.Site.{Site}
use Rattle.flow_graph.specs.System.{System, Stands, owner_of}
use Rattle.qual_types.specs.Skel.{Skel, ref, fun, Skels, root, param_at}
use Rattle.flow_rules.specs.declared.arrow.Arrow.TheVariants.{Flow}
use Rattle.flow_rules.specs.Lists.{flow, cross}
use Rattle.flow_rules.specs.Owners.{Stays}
use Rattle.run_laws.specs.Shapes.{Belongs, IsEven, IsAlike, IsTurned}

-- The register that a step writes stands first, that of `store` and `pass` aside.
pub data Instr : Type 0 where
  -- a number without labels: a literal, a comparison, what a cell holds at first
  number : ℕ → Instr
  -- the address of a local variable, or of what was allocated here
  local : ℕ → Instr
  -- the address of a global variable, or of a member of some struct
  shared : ℕ → Instr
  -- a function by its name, at a site: the register, the site, the function
  name : ℕ → ℕ → ℕ → Instr
  -- one value into another register: a cast, an argument, what is returned
  move : ℕ → ℕ → Instr
  -- a number made from two others
  compute : ℕ → ℕ → ℕ → Instr
  -- an address in the same object, or another number with the same labels: what `p + 1`, `p[i]` and `x++` make
  shift : ℕ → ℕ → Instr
  -- what the cell at an address holds, and a value into the cell at an address
  load : ℕ → ℕ → Instr
  store : ℕ → ℕ → Instr
  -- an argument by its number into a call of what a register holds, and the result of such a call
  pass : ℕ → ℕ → ℕ → Instr
  take : ℕ → ℕ → Instr

-- Registers and their skeletons, by the function or by nobody, whose are the initialisers at file scope; of each
-- function the skeleton of its first declaration and the registers of its parameters and of its result; the steps of
-- each, in no order.
pub record Program : Type 0 where
  pub skel : Owner → ℕ → Skel
  pub signature : ℕ → Skel
  pub param : ℕ → ℕ → ℕ
  pub outcome : ℕ → ℕ
  pub code : Owner → List Instr

-- a step is one of these
abbrev pub IsAmong : Instr → List Instr → Type 0
IsAmong instr [] = ⊥
IsAmong instr (x ∷ xs) = (instr ≡ x) ⊎ IsAmong instr xs

-- something holds of each of these links
abbrev pub AllAre : (Link → Type 0) → List Link → Type 0
AllAre is [] = Unit {0}
AllAre is (link ∷ links) = is link × AllAre is links

-- some constraint of the lattice is this link
abbrev pub IsThere : System → ℕ → Link → Type 0
IsThere sys lattice link = (n : ℕ) × Stands sys lattice n link

-- some constraint of the lattice is this link, a flow that stays in one function
abbrev pub IsFlow : System → ℕ → Owner → Link → Type 0
IsFlow sys lattice owner link = IsThere sys lattice link × Stays (owner_of sys) owner link

-- the flow of one skeleton into another stands
pub record Flows (sys : System) (lattice : ℕ) (owner : Owner) (a b : Skel) : Type 0 where
  pub there : AllAre (IsFlow sys lattice owner) (flow Flow true a b)
  pub even : IsEven true a b ⊎ IsTurned a b

-- a value of one skeleton may be put where another is: that is the same one, or its flow stands
abbrev pub Goes : System → ℕ → Owner → Skel → Skel → Type 0
Goes sys lattice owner a b = (a ≡ b) ⊎ Flows sys lattice owner a b

-- the labels of a number may go from one variable to another: they are the same one, or a flow leads there
abbrev pub LabelsGo : System → ℕ → Owner → ℕ → ℕ → Type 0
LabelsGo sys lattice owner u v = (u ≡ v) ⊎ IsFlow sys lattice owner (Le u v)

-- the skeleton of an address
pub record AtRef (s : Skel) : Type 0 where
  pub var : ℕ
  pub inside : Skel
  pub is : s ≡ ref var inside

-- the skeleton of a function's address
pub record AtFun (s : Skel) : Type 0 where
  pub var : ℕ
  pub node : ℕ
  pub params : Skels
  pub result : Skel
  pub ellipsis : Option ℕ
  pub is : s ≡ ref var (fun node params result ellipsis)

-- A function's name at a site of the function where it stands: the calls and returns between its signature and the
-- instance.
pub record NameAsks (sys : System) (lattice : ℕ) (owner : Owner) (s : ℕ) (signature instance : Skel) : Type 0 where
  pub site : Site
  pub there : slice_get sys.sites s ≡ Some site
  pub owner_is : site.owner ≡ owner
  pub crosses : AllAre (IsThere sys lattice) (cross s signature instance)
  pub even : IsAlike false signature instance
  pub at : AtFun instance

-- what a step asks of the skeletons of its registers and of the system
abbrev pub Asks : System → ℕ → Program → Owner → Instr → Type 0
Asks sys lattice p owner (number r) = Unit {0}
Asks sys lattice p owner (local r) = AtRef (p.skel owner r)
Asks sys lattice p owner (shared r) = (place : AtRef (p.skel owner r)) × Belongs (owner_of sys) Nobody place.inside
Asks sys lattice p owner (name r s g) = NameAsks sys lattice owner s (p.signature g) (p.skel owner r)
Asks sys lattice p owner (move r a) = Goes sys lattice owner (p.skel owner a) (p.skel owner r)
Asks sys lattice p owner (compute r a b) = LabelsGo sys lattice owner (root (p.skel owner a)) (root (p.skel owner r))
    × LabelsGo sys lattice owner (root (p.skel owner b)) (root (p.skel owner r))
Asks sys lattice p owner (shift r a) = p.skel owner r ≡ p.skel owner a
Asks sys lattice p owner (load r a) = (v : ℕ) × (p.skel owner a ≡ ref v (p.skel owner r))
Asks sys lattice p owner (store a b) = (v : ℕ) × (p.skel owner a ≡ ref v (p.skel owner b))
Asks sys lattice p owner (pass f k a) =
    (callee : AtFun (p.skel owner f)) × (param_at callee.params k ≡ Some (p.skel owner a))
Asks sys lattice p owner (take r f) = (callee : AtFun (p.skel owner f)) × (callee.result ≡ p.skel owner r)

-- a function's parameters and result are at the skeletons of its first declaration
pub record IsDeclared (p : Program) (g : ℕ) : Type 0 where
  pub at : AtFun (p.signature g)
  pub param_is : (k : ℕ) (s : Skel) → param_at at.params k ≡ Some s → s ≡ p.skel (Function g) (p.param g k)
  pub result_is : at.result ≡ p.skel (Function g) (p.outcome g)

-- The system has the constraints of the program in a lattice.
pub record IsSystemOf (sys : System) (lattice : ℕ) (p : Program) : Type 0 where
  pub asks : (owner : Owner) (instr : Instr) → IsAmong instr (p.code owner) → Asks sys lattice p owner instr
  pub belongs : (owner : Owner) (r : ℕ) → Belongs (owner_of sys) owner (p.skel owner r)
  pub declared : (g : ℕ) → IsDeclared p g
