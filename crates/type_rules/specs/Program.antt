-- Names, types and faults of a prelude and sources, or of one of them alone: units in their order.
use Rattle.std.specs.Prelude.{◌≡◌, List, [], ◌∷◌, ◌++◌}
use Rattle.c_tree.specs.Unit.{Item}
use Rattle.name_rules.specs.Spellings.{Spelling}
use Rattle.name_rules.specs.Faults.{Fault, IsFirst}
use Rattle.name_rules.specs.Scopes.{Names}
use Rattle.name_rules.specs.Units.{no_names, unit_begun}
use Rattle.name_rules.specs.Linking.{body_faults}
use Rattle.type_rules.specs.Naming.{items_named}
use Rattle.type_rules.specs.Judging.{items_faults_of}

-- a unit, and what is read from its tokens
pub record Source : Type 0 where
  pub spelling : Spelling
  pub items : List Item

-- what is known of names behind units, by what is known before them
abbrev pub sources_named : List Source → Names → Names
sources_named [] s = s
sources_named (it ∷ sources) s =
    sources_named sources (items_named it.spelling it.items (unit_begun it.spelling.unit s))

-- what is known behind all units
abbrev pub names_of : List Source → Names
names_of sources = sources_named sources no_names

-- the faults of expressions and initialisers in units, by the names that are known behind all of them
abbrev pub judged : List Source → Names → List Fault
judged [] s = []
judged (it ∷ sources) s = items_faults_of it.spelling s it.items ++ judged sources s

-- all faults: of names, then of bodies in several units, and then of expressions, which see also what is declared
-- behind them
abbrev pub faults_of : List Source → List Fault
faults_of sources =
    (names_of sources).faults ++ (body_faults (names_of sources) ++ judged sources (names_of sources))

-- the names and types of a program have no fault
abbrev pub HasNoFault : List Source → Type 0
HasNoFault sources = faults_of sources ≡ []

-- this is the first fault of a program's names and types
abbrev pub IsFirstFault : List Source → Fault → Type 0
IsFirstFault sources fault = IsFirst fault (faults_of sources)
