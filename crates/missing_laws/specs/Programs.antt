-- Programs whose units are well formed and without faults, each of whose declarations, uses of names and skeletons is
-- at a place of its own, and in which what has a skeleton was first declared as what has one.
use Rattle.std.specs.Prelude.{◌≡◌, List, [], ◌∷◌, Bool}
use Rattle.c_tree.specs.declared.lexeme.Lexeme.{Lexeme}
use Rattle.c_tree.specs.Unit.{IsUnit}
use Rattle.name_rules.specs.Spellings.{Place}
use Rattle.name_rules.specs.Scopes.{Declared, NameUse}
use Rattle.type_rules.specs.Program.{HasNoFault, Source, names_of}
use Rattle.row_rules.specs.Sites.{AreDifferent}
use Rattle.row_rules.specs.Starting.{Start, Selection}
use Rattle.row_rules.specs.Worlds.{Numbered}
use Rattle.constraint_rules.specs.Demands.{items_demand}
use Rattle.constraint_rules.specs.Systems.{Program, selections_among, starts_of, world_of}
use Rattle.first_laws.specs.Firsts.{FirstsHaveSkeletons}
use Rattle.missing_laws.specs.Everywhere.{ItemsHave}
use Rattle.missing_laws.specs.Finding.{FirstIsMet, RoleHasSkeleton, TokenBegins, more}
use Rattle.missing_laws.specs.Laws.{AreSettled, HasOne}

-- where names are declared
abbrev pub declared_places : List Declared → List Place
declared_places [] = []
declared_places (d ∷ ds) = d.at ∷ declared_places ds

-- where names are used
abbrev pub use_places : List NameUse → List Place
use_places [] = []
use_places (it ∷ uses) = it.at ∷ use_places uses

-- where skeletons begin
abbrev pub start_places : List Start → List Place
start_places [] = []
start_places (start ∷ starts) = start.at ∷ start_places starts

-- where selections by a type stand
abbrev pub selection_places : List Selection → List Place
selection_places [] = []
selection_places (it ∷ selections) = it.at ∷ selection_places selections

-- each token declares one name at most, is one use of a name at most, one skeleton at most begins at it, and one
-- selection by a type
pub record PlacesDiffer (sources : List Source) : Type 0 where
  pub declared : AreDifferent (declared_places (names_of sources).declared)
  pub uses : AreDifferent (use_places (names_of sources).uses)
  pub starts : (access : Bool) → AreDifferent (start_places (starts_of access sources))
  pub selections : AreDifferent (selection_places (selections_among (names_of sources) sources))

-- each unit is well formed of some tokens
abbrev pub AreFormed : List Source → Type 0
AreFormed [] = Unit {0}
AreFormed (it ∷ sources) = ((all : List Lexeme) × IsUnit all it.items) × AreFormed sources

-- units well formed and without faults, whose declarations, uses, skeletons and selections are at places of their
-- own, and where what has a skeleton was first declared as what has one
abbrev pub IsAccepted : Program → Type 0
IsAccepted p =
    AreFormed p.sources × HasNoFault p.sources × PlacesDiffer p.sources
    × FirstsHaveSkeletons (names_of p.sources).declared

-- what each of these sources looks up is there
abbrev pub EachSettled : Program → List Source → Type 0
EachSettled p [] = Unit {0}
EachSettled p (it ∷ sources) = AreSettled (world_of p it) it.items × EachSettled p sources

-- in these sources each expression whose constraints count has a skeleton of its type, and what has a skeleton was
-- first declared where one begins
abbrev pub EachHasSkeletons : Program → List Source → Type 0
EachHasSkeletons p [] = Unit {0}
EachHasSkeletons p (it ∷ sources) =
    ItemsHave (HasOne (world_of p it)) (TokenBegins (world_of p it)) (FirstIsMet (world_of p it))
    (RoleHasSkeleton (world_of p it)) it.items
    × EachHasSkeletons p sources

-- other skeletons and call sites would change no constraint of these sources
abbrev pub EachMissesNothing : Program → List Source → Type 0
EachMissesNothing p [] = Unit {0}
EachMissesNothing p (it ∷ sources) =
    ((skeletons : List Numbered) (sites : List Place) →
    items_demand (more (world_of p it) skeletons sites) it.items ≡ items_demand (world_of p it) it.items)
    × EachMissesNothing p sources

-- what each unit of an accepted program looks up is there
abbrev pub ProgramsAreSettled : Type 0
ProgramsAreSettled = (p : Program) → IsAccepted p → EachSettled p p.sources

-- each expression of an accepted program whose constraints count has a skeleton of its type
abbrev pub ProgramsHaveSkeletons : Type 0
ProgramsHaveSkeletons = (p : Program) → IsAccepted p → EachHasSkeletons p p.sources

-- no constraint of an accepted program stands on what is missing
abbrev pub ProgramsMissNothing : Type 0
ProgramsMissNothing = (p : Program) → IsAccepted p → EachMissesNothing p p.sources
