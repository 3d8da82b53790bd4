-- What is asked of each constraint, that a system is well owned: a flow stays in one function, a call or a return of a
-- site leads from its owner to its target or back.
use Rattle.std.specs.Prelude.{◌≡◌, ℕ, List, [], ◌∷◌, ◌++◌, slice_get, Option, None, Some, if◌then◌else◌}
use Rattle.qual_base.specs.declared.places.Owner.{Owner}
use Rattle.qual_base.specs.declared.places.Owner.TheVariants.{Function}
use Rattle.qual_base.specs.declared.places.Span.{Span}
use Rattle.flow_graph.specs.declared.constraint.Link.{Link}
use Rattle.flow_graph.specs.declared.constraint.Link.TheVariants.{Le, Const, Bound, Enter, Leave}
use Rattle.flow_graph.specs.declared.constraint.Constraint.{Constraint}
use Rattle.flow_graph.specs.declared.constraint.Site.{Site}
use Rattle.flow_graph.specs.System.{System, owner_of, Calls, IsWellOwned}
use Rattle.qual_types.specs.Skel.{Skel, nodes, param_at}
use Rattle.flow_rules.specs.Owners.{IsIn, AllIn, AllStay, AllOwned, AllLead}
use Rattle.name_rules.specs.Spellings.{Place}
use Rattle.name_rules.specs.Scopes.{is_place}
use Rattle.row_rules.specs.Starting.{Start}
use Rattle.row_rules.specs.Worlds.{numbered_from, skeleton_among, constraints}
use Rattle.row_rules.specs.Sites.{owner_by}
use Rattle.row_rules.specs.Annotations.{parameters}
use Rattle.row_rules.specs.Vals.{contents, read, result}
use Rattle.owned_laws.specs.OwnerLaws.Laws.{owner_among}

-- some owner has both variables, but for those of nobody
pub record IsWithin (sys : System) (u v : ℕ) : Type 0 where
  pub owner : Owner
  pub from : IsIn (owner_of sys) owner u
  pub to : IsIn (owner_of sys) owner v

-- what is asked of one constraint, that a system is well owned; constants and bounds always fit
abbrev pub Fits : System → Link → Type 0
Fits sys (Le u v) = IsWithin sys u v
Fits sys (Const l e v) = Unit {0}
Fits sys (Bound v l e) = Unit {0}
Fits sys (Enter s u v) = Calls sys s (owner_of sys u) (owner_of sys v)
Fits sys (Leave s u v) = Calls sys s (owner_of sys v) (owner_of sys u)

-- each of these constraints fits
abbrev pub AllFit : System → List Constraint → Type 0
AllFit sys [] = Unit {0}
AllFit sys (it ∷ others) = Fits sys it.link × AllFit sys others

-- the law: a system whose constraints all fit is well owned
abbrev pub FittingIsWellOwned : Type 0
FittingIsWellOwned = (sys : System) → AllFit sys sys.constraints → IsWellOwned sys

-- the law: where the constraints of two lists fit, so do those of both together
abbrev pub ListsFit : Type 0
ListsFit = (sys : System) (cs ds : List Constraint) → AllFit sys cs → AllFit sys ds → AllFit sys (cs ++ ds)

-- flows that stay in one function fit
abbrev pub StayingFits : Type 0
StayingFits =
    (sys : System) (owner : Owner) (lattices : ℕ) (where_ : Span) (links : List Link)
    → AllStay (owner_of sys) owner links → AllFit sys (constraints lattices where_ links)

-- calls and returns of a site fit
abbrev pub LeadingFits : Type 0
LeadingFits =
    (sys : System) (site : ℕ) (it : Site) (lattices : ℕ) (where_ : Span) (links : List Link)
    → slice_get sys.sites site ≡ Some it
    → AllLead (owner_of sys) it.owner (Function it.target) site links → AllFit sys (constraints lattices where_ links)

-- the skeleton that begins first at a place
abbrev pub start_at : List Start → Place → Option Start
start_at [] p = None
start_at (start ∷ starts) p = if is_place start.at p then Some start else start_at starts p

-- all variables of the skeleton at a place belong to its owner
abbrev pub SkeletonsAtAreOwned : Type 0
SkeletonsAtAreOwned =
    (functions : List Place) (starts : List Start) (p : Place) (start : Start) → start_at starts p ≡ Some start
    → AllOwned (owner_among functions starts) (owner_by functions start.owner)
    (nodes (skeleton_among (numbered_from 0 starts) p))

-- what is in a skeleton belongs where all of it does
pub record PartsStay (own : ℕ → Owner) (owner : Owner) (s : Skel) : Type 0 where
  pub contents_in : AllIn own owner (nodes (contents s))
  pub read_in : AllIn own owner (nodes (read s))
  pub result_in : AllIn own owner (nodes (result s))
  pub param_in : (n : ℕ) (q : Skel) → param_at (parameters s) n ≡ Some q → AllIn own owner (nodes q)

-- the law: where all variables of a skeleton are of an owner or of nobody, so are those of its parts
abbrev pub AllPartsStay : Type 0
AllPartsStay =
    (own : ℕ → Owner) (owner : Owner) (s : Skel) → AllIn own owner (nodes s) → PartsStay own owner s
