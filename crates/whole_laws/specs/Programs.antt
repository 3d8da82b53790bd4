-- Programs that are read: their units are well formed of differently numbered tokens, and have different numbers.
use Rattle.std.specs.Prelude.{All, List}
use Rattle.c_tree.specs.declared.lexeme.Lexeme.{Lexeme}
use Rattle.c_units.specs.Units.{IsWellFormed}
use Rattle.type_rules.specs.Program.{HasNoFault, Source}
use Rattle.constraint_rules.specs.Systems.{Program}
use Rattle.row_laws.specs.KeyLaws.Differing.{AreNumbered, IsRead, UnitsDiffer}
use Rattle.first_laws.specs.Firsts.{NamesDiffer}
use Rattle.missing_laws.specs.Programs.{EachHasSkeletons, EachMissesNothing, PlacesDiffer}

-- A unit as it is read from text, as wider C or not: it is what is well formed of some tokens, scopes of names
-- included. No two tokens have one number, and no two names have one number in all units.
pub record IsParsed (it : Source) : Type 0 where
  pub all : List Lexeme
  pub formed : IsWellFormed it.spelling.wide all it.items
  pub numbers : AreNumbered all
  pub names : NamesDiffer it.spelling all

-- no two declarations, uses of names or skeletons of units that were read are at one place
abbrev pub PlacesOfReadDiffer : Type 0
PlacesOfReadDiffer = (sources : List Source) → All IsRead sources → UnitsDiffer sources → PlacesDiffer sources

-- each expression whose constraints count has a skeleton of its type, in a program that was read and has no fault
abbrev pub ReadProgramsHaveSkeletons : Type 0
ReadProgramsHaveSkeletons =
    (p : Program) → All IsParsed p.sources → UnitsDiffer p.sources → HasNoFault p.sources → EachHasSkeletons p p.sources

-- no constraint of a program that was read and has no fault stands on what is missing
abbrev pub ReadProgramsMissNothing : Type 0
ReadProgramsMissNothing =
    (p : Program) → All IsParsed p.sources → UnitsDiffer p.sources → HasNoFault p.sources
    → EachMissesNothing p p.sources
