-- Where the variables of a program stand, in the order of their numbers.
use Rattle.std.specs.Prelude.{◌≡◌, ℕ, suc, List, [], ◌∷◌, ◌++◌, length, slice_get, Option, None, Some}
use Rattle.type_table.specs.Types.{CType, base, void, struct, pointer, function, CTypes, no_types, more_types, Words}
use Rattle.qual_types.specs.declared.position.Step.{Step}
use Rattle.qual_types.specs.declared.position.Step.TheVariants as steps
use Rattle.qual_types.specs.declared.row.VarRow.{VarRow}
use Rattle.qual_types.specs.Positions.{PositionView}
use Rattle.qual_types.specs.Skel.{numbered}
use Rattle.qual_types.specs.Rows.{skel_of}
use Rattle.qual_types.specs.Table.{mark_of, Stands}
use Rattle.name_rules.specs.Spellings.{Place}
use Rattle.row_rules.specs.Starting.{Start}
use Rattle.row_rules.specs.Sites.{variables_among}
use Rattle.row_rules.specs.Worlds.{Numbered, numbered_from}

-- one step more before each of some paths
abbrev pub behind : Step → List (List Step) → List (List Step)
behind step [] = []
behind step (p ∷ ps) = (step ∷ p) ∷ behind step ps

-- the path to the further arguments of a function, where it takes some
abbrev pub ellipsis_paths : Option Words → List (List Step)
ellipsis_paths None = []
ellipsis_paths (Some ws) = (steps.Ellipsis ∷ []) ∷ []

-- the paths to the constructors of a type, in pre-order: a function before its parameters, its result, its ellipsis
abbrev mutual
  pub paths : CType → List (List Step)
  paths (base ws) = [] ∷ []
  paths (void ws) = [] ∷ []
  paths (struct ws n) = [] ∷ []
  paths (pointer ws t) = [] ∷ behind steps.Inside (paths t)
  paths (function ws ps r e) = [] ∷ param_paths 0 ps ++ (behind steps.Result (paths r) ++ ellipsis_paths e)

  -- of parameters, the first of which has this number
  pub param_paths : ℕ → CTypes → List (List Step)
  param_paths i no_types = []
  param_paths i (more_types t ts) = behind (steps.Param i) (paths t) ++ param_paths (suc i) ts

-- the positions of a skeleton that begins at a place, by the paths inside it
abbrev pub positions_at : Place → List (List Step) → List PositionView
positions_at at [] = []
positions_at at (p ∷ ps) = record { unit = at.0; token = at.1; path = p } ∷ positions_at at ps

-- the positions of all variables, of skeletons one behind the other
abbrev pub positions_of : List Start → List PositionView
positions_of [] = []
positions_of (start ∷ starts) = positions_at start.at (paths start.type) ++ positions_of starts

-- a skeleton of a table is one of these
pub record IsOneOf (rows : List VarRow) (all : List Numbered) (n : ℕ) (mark : ℕ × ℕ) : Type 0 where
  pub index : ℕ
  pub one : Numbered
  pub there : slice_get all index ≡ Some one
  pub first : one.first ≡ n
  pub at : one.start.at ≡ mark
  pub skeleton : skel_of rows n ≡ numbered one.start.type n

-- each skeleton of a table is one of those that begin so
abbrev pub AreThose : List VarRow → List Start → Type 0
AreThose rows starts =
    (n : ℕ) (mark : ℕ × ℕ) → mark_of rows n ≡ Some mark → IsOneOf rows (numbered_from 0 starts) n mark

-- the law: where a position of a table of variables leads to a variable, it stands under that number in the list of
-- positions
abbrev pub PositionsStand : Type 0
PositionsStand =
    (rows : List VarRow) (starts : List Start) → AreThose rows starts
    → (p : PositionView) (v : ℕ) → Stands rows p v → slice_get (positions_of starts) v ≡ Some p

-- the law: there is a position for each variable
abbrev pub PositionsAreCounted : Type 0
PositionsAreCounted = (starts : List Start) → length (positions_of starts) ≡ variables_among starts
