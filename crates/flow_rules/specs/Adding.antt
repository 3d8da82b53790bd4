-- Lists of constraints that are added to a system.
use Rattle.std.specs.Prelude.{◌≡◌, ◌↔◌, ℕ, ◌<◌, List, [], ◌∷◌, ◌++◌, length, take}
use Rattle.qual_base.specs.declared.places.Span.{Span}
use Rattle.flow_graph.specs.declared.constraint.Link.{Link}
use Rattle.flow_graph.specs.declared.constraint.Constraint.{Constraint}
use Rattle.flow_graph.specs.declared.graph.GraphFault.{GraphFault}
use Rattle.flow_graph.specs.declared.graph.GraphFault.TheVariants.{TooMany}
use Rattle.flow_graph.specs.System.{System, most_constraints}
use Rattle.qual_types.specs.Table.{IsLink, IsSomeVar}
use Rattle.flow_rules.specs.declared.arrow.Parts.{Parts}
use Rattle.flow_rules.specs.declared.arrow.Style.{Style}
use Rattle.flow_rules.specs.declared.arrow.Arrow.{Arrow}
use Rattle.flow_rules.specs.declared.arrow.Arrow.TheVariants.{Flow, Cross}

-- links in these lattices, from these tokens
abbrev pub marked : ℕ → Span → List Link → List Constraint
marked lattices span [] = []
marked lattices span (link ∷ links) =
    record { link = link; lattices = lattices; span = span } ∷ marked lattices span links

-- the system with a list of constraints behind those that it has
abbrev pub with : System → List Constraint → System
with sys list = record sys { constraints = sys.constraints ++ list }

-- An adding that stopped: some constraints of the list were added, from the first on, and the next one was refused;
-- TooMany says that there was no place for it.
pub record Stops (old new : System) (fault : GraphFault) (list : List Constraint) : Type 0 where
  pub added : ℕ
  pub some_left : added < length list
  pub part : new ≡ with old (take added list)
  pub cause : (fault ≡ TooMany) ↔ (length new.constraints ≡ most_constraints)

-- the constraints of these links, in the style's lattices and from its tokens, stand behind what the system had
abbrev pub Gains : System → System → Style → List Link → Type 0
Gains old new style links = new ≡ with old (marked style.lattices style.span links)

-- the adding of these links in a style stopped
abbrev pub StopsIn : System → System → Style → List Link → GraphFault → Type 0
StopsIn old new style links fault = Stops old new fault (marked style.lattices style.span links)

-- a site that a graph has
abbrev pub IsArrow : ℕ → Arrow → Type 0
IsArrow sites Flow = Unit {0}
IsArrow sites (Cross s) = s < sites

-- parts of a function have higher numbers than it
abbrev pub AreParts : ℕ → ℕ → Parts → Type 0
AreParts count of parts = IsLink count of parts.first × IsLink count of parts.back × IsSomeVar parts.ellipsis
