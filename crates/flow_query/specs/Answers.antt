-- Who reaches a name: for each variable where it is declared, the constants that lead to it and the bounds that it
-- leads to, each with a walk.
use Rattle.std.specs.Prelude.{◌≡◌, ℕ, ◌+◌, Bool, false, List, [], ◌∷◌, ◌++◌, length, slice_get, Option, Some, None, codes}
use Rattle.std.specs.List.{filter}
use Rattle.std.specs.Fmt.{decimal}
use Rattle.std.specs.Str.{bytes_eq}
use Rattle.flow_graph.specs.declared.constraint.Link.TheVariants.{Const, Bound}
use Rattle.flow_graph.specs.declared.proof.PathStep.TheVariants.{Take}
use Rattle.flow_graph.specs.declared.proof.Walk.{Walk}
use Rattle.flow_graph.specs.System.{System, Stands}
use Rattle.flow_graph.specs.PathProofs.{steps_of, AreApart}
use Rattle.flow_graph.specs.Leading.{Leads}
use Rattle.flow_graph.specs.Walks.{WalkHolds}
use Rattle.qual_types.specs.Positions.{PositionView}
use Rattle.annotate.specs.Texts.{Scene, bytes_in, line, proof_text, unit_in, var_text}

-- ---- which variables are asked of

-- a variable stands where a name of these bytes is declared
abbrev pub spells : Scene → List ℕ → Option PositionView → Bool
spells scene name (Some position) = bytes_eq (bytes_in (unit_in scene.units position.unit) position.token) name
spells scene name None = false

-- whether a variable stands where a name of these bytes is declared
abbrev pub is_of_name : Scene → List ℕ → ℕ → Bool
is_of_name scene name var = spells scene name (slice_get scene.positions var)

-- the variables of the declared names with this spelling, in the order of the report
abbrev pub asked_in : Scene → List ℕ → List ℕ
asked_in scene name = filter (is_of_name scene name) scene.listed

-- ---- what is written

-- a walk from one variable to another, which holds, and whose sub-paths differ in their ends
pub record IsWalkTo (sys : System) (lattice from to : ℕ) (walk : Walk) : Type 0 where
  pub holds : WalkHolds sys lattice from to walk
  pub apart : AreApart sys (steps_of walk.subs.items)

-- the lines of a constant and of a walk from it
abbrev pub from_text : Scene → System → ℕ → Walk → List ℕ
from_text scene sys number walk =
    line (codes "from " ++ decimal number)
    ++ proof_text scene sys (steps_of walk.subs.items) (Take number 0 ∷ walk.steps.items)

-- the lines of a walk to a bound and of that
abbrev pub to_text : Scene → System → ℕ → Walk → List ℕ
to_text scene sys number walk =
    line (codes "to " ++ decimal number)
    ++ proof_text scene sys (steps_of walk.subs.items) (walk.steps.items ++ Take number 0 ∷ [])

-- a constraint is a constant of the lattice that leads to the variable
pub record IsFrom (sys : System) (lattice var number : ℕ) : Type 0 where
  pub elem : ℕ
  pub at : ℕ
  pub constant : Stands sys lattice number (Const lattice elem at)
  pub leads : Leads sys lattice at var

-- a constraint is a bound of the lattice to which the variable leads
pub record IsTo (sys : System) (lattice var number : ℕ) : Type 0 where
  pub elem : ℕ
  pub at : ℕ
  pub bound : Stands sys lattice number (Bound at lattice elem)
  pub leads : Leads sys lattice var at

-- what is written of one constraint before a variable
pub data FromText (scene : Scene) (sys : System) (lattice var number : ℕ) : List ℕ → Type 0 where
  NoFrom : (IsFrom sys lattice var number → ⊥) → FromText scene sys lattice var number []
  OneFrom : (is : IsFrom sys lattice var number) (walk : Walk) → IsWalkTo sys lattice is.at var walk →
      FromText scene sys lattice var number (from_text scene sys number walk)

-- what is written of one constraint behind a variable
pub data ToText (scene : Scene) (sys : System) (lattice var number : ℕ) : List ℕ → Type 0 where
  NoTo : (IsTo sys lattice var number → ⊥) → ToText scene sys lattice var number []
  OneTo : (is : IsTo sys lattice var number) (walk : Walk) → IsWalkTo sys lattice var is.at walk →
      ToText scene sys lattice var number (to_text scene sys number walk)

-- what is written of each number below one, in order
pub data EachBelow (Is : ℕ → List ℕ → Type 0) : ℕ → List ℕ → Type 0 where
  NoneBelow : EachBelow Is 0 []
  NextBelow : (number : ℕ) (text here : List ℕ) → EachBelow Is number text → Is number here
      → EachBelow Is (number + 1) (text ++ here)

-- what is written of all constants that lead to a variable
abbrev pub FromsText : Scene → System → ℕ → ℕ → List ℕ → Type 0
FromsText scene sys lattice var text = EachBelow (FromText scene sys lattice var) (length sys.constraints) text

-- what is written of all bounds to which a variable leads
abbrev pub TosText : Scene → System → ℕ → ℕ → List ℕ → Type 0
TosText scene sys lattice var text = EachBelow (ToText scene sys lattice var) (length sys.constraints) text

-- lattices count from 1 in the text; nothing is written where nothing is listed
abbrev pub headed : Scene → ℕ → ℕ → List ℕ → List ℕ
headed scene lattice var [] = []
headed scene lattice var (b ∷ text) =
    line (codes "at " ++ var_text scene var ++ codes " lattice " ++ decimal (lattice + 1)) ++ b ∷ text

-- what is written of a variable in a lattice
pub record SectionText (scene : Scene) (sys : System) (var lattice : ℕ) (text : List ℕ) : Type 0 where
  pub froms : List ℕ
  pub tos : List ℕ
  pub from : FromsText scene sys lattice var froms
  pub to : TosText scene sys lattice var tos
  pub is : text ≡ headed scene lattice var (froms ++ tos)

-- of a variable, in each lattice in order
abbrev pub VarText : Scene → System → ℕ → List ℕ → Type 0
VarText scene sys var text = EachBelow (SectionText scene sys var) (length scene.lattices) text

-- of variables, in order
pub data VarsText (scene : Scene) (sys : System) : List ℕ → List ℕ → Type 0 where
  NoVar : VarsText scene sys [] []
  NextVar : (vars : List ℕ) (var : ℕ) (text here : List ℕ) → VarsText scene sys vars text → VarText scene sys var here →
      VarsText scene sys (vars ++ var ∷ []) (text ++ here)

-- The whole text for a name, or none where no declared name of the sources is spelled so.
pub data IsWho (scene : Scene) (sys : System) (name : List ℕ) : Option (List ℕ) → Type 0 where
  Named : (var : ℕ) (vars text : List ℕ) → asked_in scene name ≡ var ∷ vars
      → VarsText scene sys (asked_in scene name) text →
      IsWho scene sys name (Some (line (codes "who") ++ text))
  NotNamed : asked_in scene name ≡ [] → IsWho scene sys name None
