-- Sub-paths of which a part is written, from their ends towards their beginnings.
use Rattle.std.specs.Prelude.{◌≡◌, ℕ, ◌+◌, ◌<◌, ◌⊎◌, List, [], ◌∷◌, ◌&&◌, ◌==◌, if◌then◌else◌, None, reverse}
use Rattle.std.specs.List.{Contains}
use Rattle.qual_base.specs.declared.places.Owner.TheVariants.{Function}
use Rattle.flow_graph.specs.declared.constraint.Link.TheVariants.{Enter, Leave}
use Rattle.flow_graph.specs.declared.proof.PathStep.{PathStep}
use Rattle.flow_graph.specs.System.{System, owner_of, Stands}
use Rattle.flow_graph.specs.Parts.{Part, Inside}
use Rattle.match_summary.specs.declared.reason.Summary.{Summary}
use Rattle.match_summary.specs.Summary.{HasPair, AreOfOne}
use Rattle.error_path.specs.declared.steps.Pair.{Pair}
use Rattle.error_path.specs.declared.sub_paths.Draft.{Draft}
use Rattle.error_path.specs.declared.sub_paths.SubPaths.{SubPaths}
use Rattle.error_path.specs.Made.{place_of, Fronts}

-- how many summaries stand before the first one of a pair
abbrev pub rank : List Summary → ℕ → ℕ → ℕ
rank [] u v = 0
rank (row ∷ rows) u v = if (row.from == u) && (row.to == v) then 0 else rank rows u v + 1

-- The steps of a draft are parts inside one function, to the last variable of a pair that a summary joins; another
-- joins the pair's first variable to their beginning.
pub record IsDraft (sys : System) (lattice : ℕ) (rows : List Summary) (subs : List (List PathStep))
    (draft : Draft) : Type 0 where
  pub whole : HasPair rows draft.pair.from draft.pair.to
  pub joined : HasPair rows draft.pair.from draft.at
  pub inside : (f : ℕ) → owner_of sys draft.pair.from ≡ Function f
      → Inside sys lattice subs f draft.at draft.pair.to (reverse draft.steps.items)

-- each of these is a draft of a sub-path
abbrev pub AreDrafts : System → ℕ → List Summary → List (List PathStep) → List Draft → Type 0
AreDrafts sys lattice rows subs drafts = (draft : Draft) → Contains drafts draft → IsDraft sys lattice rows subs draft

-- what waits in the end waited before
abbrev pub StayDrafts : List Draft → List Draft → Type 0
StayDrafts old new =
    (sys : System) (lattice : ℕ) (rows : List Summary) (subs : List (List PathStep))
    → AreDrafts sys lattice rows subs old →
    AreDrafts sys lattice rows subs new

-- it is one of these drafts, or a draft of the pair
abbrev pub IsDraftAfter : List Draft → Pair → Draft → Type 0
IsDraftAfter drafts pair draft =
    (sys : System) (lattice : ℕ) (rows : List Summary) (subs : List (List PathStep))
    → AreDrafts sys lattice rows subs drafts →
    HasPair rows pair.from pair.to → IsDraft sys lattice rows subs draft

-- One more part was written, to a variable that the pair's first one is or to which an earlier summary joins it.
pub record IsWritten (sys : System) (lattice : ℕ) (rows : List Summary) (subs : List (List PathStep))
    (old new : Draft) : Type 0 where
  pub front : List PathStep
  pub part : Part sys lattice subs new.at old.at front
  pub fronts : Fronts front old.steps.items new.steps.items
  pub one : AreOfOne sys old.pair.from old.at
  pub before : (old.pair.from ≡ new.at)
      ⊎ (HasPair rows old.pair.from new.at × (rank rows old.pair.from new.at < rank rows old.pair.from old.at))

-- an earlier summary joins a pair that has no sub-path
pub record IsMissing (rows : List Summary) (made : SubPaths) (draft : Draft) (pair : Pair) : Type 0 where
  pub joined : HasPair rows pair.from pair.to
  pub free : place_of made pair.from pair.to ≡ None
  pub less : rank rows pair.from pair.to < rank rows draft.pair.from draft.at

-- the group of two constraints was written in front of steps
abbrev pub AddsGroup : System → ℕ → List (List PathStep) → ℕ → ℕ → List PathStep → List PathStep → Type 0
AddsGroup sys lattice subs enter leave old new =
    (s u a b v : ℕ) → Stands sys lattice enter (Enter s u a) → Stands sys lattice leave (Leave s b v) →
    (front : List PathStep) × Part sys lattice subs u v front × Fronts front old new
