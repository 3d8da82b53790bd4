-- Sources, as the rules of names and types see them.
use Rattle.std.specs.Prelude.{List, [], ◌∷◌, ◌++◌, map, IfSome}
use Rattle.c_lexer.specs.Tokens.{Lexed}
use Rattle.c_tree.specs.Unit.{Item, items_of}
use Rattle.type_rules.specs.Program as rules
use Rattle.unit_types.specs.declared.fault.ShapeFault.{ShapeFault}
use Rattle.unit_types.specs.Faults.{fault_in}
use Rattle.c_types.specs.SourceSpelling.Tokens.{spelling_behind}
use Rattle.c_types.specs.declared.source.Source.{Source}

-- a unit with its tokens
pub record UnitRead : Type 0 where
  pub lexed : Lexed
  pub items : List Item

-- the tokens and the items of a source
abbrev pub unit_of : Source → UnitRead
unit_of it = record { lexed = it.tokens; items = items_of it.unit }

-- the tokens and the items of each source
abbrev pub units_of : List Source → List UnitRead
units_of sources = map unit_of sources

-- the tokens of each unit
abbrev pub lexed_of : List UnitRead → List Lexed
lexed_of units = map (λ (it : UnitRead). it.lexed) units

-- a unit behind others
abbrev pub source_behind : List Lexed → UnitRead → rules.Source
source_behind earlier it = record { spelling = spelling_behind earlier it.lexed; items = it.items }

-- units in their order, the number of each name's spelling the same in all of them
abbrev pub sources_behind : List Lexed → List UnitRead → List rules.Source
sources_behind earlier [] = []
sources_behind earlier (it ∷ units) = source_behind earlier it ∷ sources_behind (earlier ++ it.lexed ∷ []) units

-- units as the rules see them, the first of all with none before it
abbrev pub sources_in : List UnitRead → List rules.Source
sources_in units = sources_behind [] units

-- sources as the rules see them
abbrev pub sources_of : List Source → List rules.Source
sources_of sources = sources_in (units_of sources)

-- memory was wanting, or it is the first fault of some sources
abbrev pub IsFirstFaultUnlessMemory : ShapeFault → List rules.Source → Type 0
IsFirstFaultUnlessMemory fault sources = IfSome (fault_in fault) (λ f. rules.IsFirstFault sources f)
