-- Runs of a program over values with labels, and what a violation is.
use Rattle.std.specs.Prelude.{◌≡◌, ◌⊎◌, ℕ, false, ◌&&◌, nat_eq, List, [], ◌∷◌, ◌++◌, if◌then◌else◌}
use Rattle.qual_base.specs.declared.places.Owner.{Owner}
use Rattle.qual_base.specs.declared.places.Owner.TheVariants.{Nobody, Function}
use Rattle.lattice_core.specs.Order.{Order, leq}
use Rattle.flow_graph.specs.declared.constraint.Link.TheVariants.{Const, Bound}
use Rattle.flow_graph.specs.System.{System, Stands}
use Rattle.flow_graph.specs.CallStrings.{IsCallString}
use Rattle.qual_types.specs.Skel.{Skel, flat, ref, fun, root}
use Rattle.run_laws.specs.Programs.{Instr, number, local, shared, name, move, compute, shift, load, store, pass, take, Program, IsAmong, AtRef}

-- a number, a place in an object, or a function in one of its copies
pub data Raw : Type 0 where
  num : ℕ → Raw
  ptr : ℕ → ℕ → Raw
  code : ℕ → List ℕ → Raw

-- a value, with the elements of the constants that it came from
pub record Value : Type 0 where
  pub labels : List ℕ
  pub raw : Raw

-- a value without labels
abbrev pub plain : Raw → Value
plain raw = record { labels = []; raw = raw }

-- a value with one label more
abbrev pub labelled : ℕ → Value → Value
labelled e x = record { labels = e ∷ x.labels; raw = x.raw }

-- a call of a run: the function, and the sites of the calls that are open, which tell the copy
pub record Frame : Type 0 where
  pub owner : Owner
  pub sites : List ℕ

-- an object of a run: the skeleton of what it holds, and the sites of the copy that it belongs to
pub record Object : Type 0 where
  pub skel : Skel
  pub sites : List ℕ

-- Which copy of which function each call of the run is of, and what each object of the run is declared as, in which
-- copy.
pub record World : Type 0 where
  pub frame : ℕ → Frame
  pub object : ℕ → Object

-- registers by their call, and cells by their object
pub record State : Type 0 where
  pub regs : ℕ → ℕ → Value
  pub cells : ℕ → ℕ → Value

-- one register or cell holds this value, and the others what they held
abbrev pub put : (ℕ → ℕ → Value) → ℕ → ℕ → Value → ℕ → ℕ → Value
put held i k x j l = if nat_eq i j && nat_eq k l then x else held j l

-- a register of a call holds this value from here on
abbrev pub puts_reg : State → ℕ → ℕ → Value → State
puts_reg st i r x = record st { regs = put st.regs i r x }

-- a cell of an object holds this value from here on
abbrev pub puts_cell : State → ℕ → ℕ → Value → State
puts_cell st o k x = record st { cells = put st.cells o k x }

-- the skeleton of a register of a call
abbrev pub skel_at : Program → World → ℕ → ℕ → Skel
skel_at p w i r = p.skel (w.frame i).owner r

-- what a value may become by a sum with an integer
abbrev pub IsBeside : Raw → Raw → Type 0
IsBeside (num n) raw = (m : ℕ) × (raw ≡ num m)
IsBeside (ptr o k) raw = (l : ℕ) × (raw ≡ ptr o l)
IsBeside (code g sites) raw = raw ≡ code g sites

-- a value of a skeleton: where that is no reference, it is a number
abbrev pub IsAt : Skel → Raw → Type 0
IsAt (flat v k) (num n) = Unit {0}
IsAt (flat v k) (ptr o l) = ⊥
IsAt (flat v k) (code g sites) = ⊥
IsAt (ref v s) raw = Unit {0}
IsAt (fun v ps r e) raw = ⊥

-- what a value is at another skeleton: an address that is made a number is some number
abbrev pub IsMoved : Skel → Raw → Raw → Type 0
IsMoved (flat v k) old raw = (n : ℕ) × (raw ≡ num n)
IsMoved (ref v s) old raw = raw ≡ old
IsMoved (fun v ps r e) old raw = raw ≡ old

-- One step of a call. A call's frame, and a new object, may be any that is declared so: how numbers are given out, and
-- in which order the steps of all calls are taken, is left open.
abbrev pub Does : Program → World → ℕ → Instr → State → State → Type 0
Does p w i (number r) old new = (n : ℕ) × (new ≡ puts_reg old i r (plain (num n)))
Does p w i (local r) old new = (o k : ℕ) × (place : AtRef (skel_at p w i r))
    × (w.object o ≡ record { skel = place.inside; sites = (w.frame i).sites })
    × (new ≡ puts_reg old i r (plain (ptr o k)))
Does p w i (shared r) old new = (o k : ℕ) × (place : AtRef (skel_at p w i r))
    × (w.object o ≡ record { skel = place.inside; sites = [] }) × (new ≡ puts_reg old i r (plain (ptr o k)))
Does p w i (name r s g) old new = new ≡ puts_reg old i r (plain (code g (s ∷ (w.frame i).sites)))
Does p w i (move r a) old new = (raw : Raw) × IsMoved (skel_at p w i r) (old.regs i a).raw raw
    × (new ≡ puts_reg old i r (record { labels = (old.regs i a).labels; raw = raw }))
Does p w i (compute r a b) old new = (n : ℕ)
    × (new ≡ puts_reg old i r (record { labels = (old.regs i a).labels ++ (old.regs i b).labels; raw = num n }))
Does p w i (shift r a) old new = (raw : Raw) × IsBeside (old.regs i a).raw raw
    × (new ≡ puts_reg old i r (record { labels = (old.regs i a).labels; raw = raw }))
Does p w i (load r a) old new = (o k : ℕ) × ((old.regs i a).raw ≡ ptr o k) × IsAt (skel_at p w i r) (old.cells o k).raw
    × (new ≡ puts_reg old i r (old.cells o k))
Does p w i (store a b) old new = (o k : ℕ) × ((old.regs i a).raw ≡ ptr o k) × (new ≡ puts_cell old o k (old.regs i b))
Does p w i (pass f n a) old new = (g j : ℕ) × (sites : List ℕ) × ((old.regs i f).raw ≡ code g sites)
    × (w.frame j ≡ record { owner = Function g; sites = sites }) × (new ≡ puts_reg old j (p.param g n) (old.regs i a))
Does p w i (take r f) old new = (g j : ℕ) × (sites : List ℕ) × ((old.regs i f).raw ≡ code g sites)
    × (w.frame j ≡ record { owner = Function g; sites = sites }) × (new ≡ puts_reg old i r (old.regs j (p.outcome g)))

-- A value at a skeleton is the address of a cell at a part of it, or leads to that through cells.
abbrev pub Reaches : State → Value → Skel → ℕ → ℕ → Skel → Type 0
Reaches st x (flat u m) o k t = ⊥
Reaches st x (fun u ps r e) o k t = ⊥
Reaches st x (ref u s) o k t = (a b : ℕ) × (x.raw ≡ ptr a b)
    × (((a ≡ o) × (b ≡ k) × (s ≡ t)) ⊎ Reaches st (st.cells a b) s o k t)

-- no address and no label anywhere
abbrev pub IsBlank : State → Type 0
IsBlank st = ((i r : ℕ) → st.regs i r ≡ plain (num 0)) × ((o k : ℕ) → st.cells o k ≡ plain (num 0))

-- The states of the runs in a lattice. A value may at any time take the label of a constant at whose variable it is, in
-- a register or in a cell that a register leads to.
pub data Run (sys : System) (lattice : ℕ) (p : Program) (w : World) : State → Type 0 where
  begins : (st : State) → IsBlank st → Run sys lattice p w st
  steps : (old new : State) (i : ℕ) (instr : Instr) → Run sys lattice p w old
      → IsAmong instr (p.code (w.frame i).owner) →
      Does p w i instr old new → Run sys lattice p w new
  marks : (old new : State) (i r n e : ℕ) → Run sys lattice p w old →
      Stands sys lattice n (Const lattice e (root (skel_at p w i r))) →
      new ≡ puts_reg old i r (labelled e (old.regs i r)) → Run sys lattice p w new
  marks_cell : (old new : State) (i r o k n e : ℕ) (t : Skel) → Run sys lattice p w old →
      Reaches old (old.regs i r) (skel_at p w i r) o k t →
      Stands sys lattice n (Const lattice e (root t)) → new ≡ puts_cell old o k (labelled e (old.cells o k))
      → Run sys lattice p w new

-- an element is one of these
abbrev pub IsOneOf : ℕ → List ℕ → Type 0
IsOneOf e [] = ⊥
IsOneOf e (x ∷ xs) = (e ≡ x) ⊎ IsOneOf e xs

-- some label of the value is not at or below the element
abbrev pub Exceeds : Order → Value → ℕ → Type 0
Exceeds order x e = (l : ℕ) × IsOneOf l x.labels × (leq order l e ≡ false)

-- A value in a register is at the variable of a bound, with a label that is not at or below it.
pub record IsOverIn (sys : System) (lattice : ℕ) (order : Order) (p : Program) (w : World) (st : State) : Type 0 where
  pub frame : ℕ
  pub reg : ℕ
  pub n : ℕ
  pub e : ℕ
  pub bound : Stands sys lattice n (Bound (root (skel_at p w frame reg)) lattice e)
  pub over : Exceeds order (st.regs frame reg) e

-- A value in a cell that a register leads to is at the variable of a bound, with a label that is not at or below it.
pub record IsOverAt (sys : System) (lattice : ℕ) (order : Order) (p : Program) (w : World) (st : State) : Type 0 where
  pub frame : ℕ
  pub reg : ℕ
  pub object : ℕ
  pub offset : ℕ
  pub part : Skel
  pub there : Reaches st (st.regs frame reg) (skel_at p w frame reg) object offset part
  pub n : ℕ
  pub e : ℕ
  pub bound : Stands sys lattice n (Bound (root part) lattice e)
  pub over : Exceeds order (st.cells object offset) e

-- a state is a violation: in a register, or in a cell that a register leads to
abbrev pub IsViolated : System → ℕ → Order → Program → World → State → Type 0
IsViolated sys lattice order p w st = IsOverIn sys lattice order p w st ⊎ IsOverAt sys lattice order p w st

-- Each call of a run is in a copy of its function, of whatever depth, and the initialisers at file scope are in the one
-- copy.
abbrev pub IsSomeCopy : System → Owner → List ℕ → Type 0
IsSomeCopy sys Nobody sites = sites ≡ []
IsSomeCopy sys (Function f) sites = IsCallString sys (Function f) sites

-- each call of a run is in some copy of its function
abbrev pub IsWorld : System → World → Type 0
IsWorld sys w = (i : ℕ) → IsSomeCopy sys (w.frame i).owner (w.frame i).sites
