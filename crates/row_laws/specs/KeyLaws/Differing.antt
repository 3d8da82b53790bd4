-- Each token is that of one op of a tape at most, and each place that of one op of a program.
use Rattle.std.specs.Prelude.{◌≡◌, ℕ, nat_eq, Bool, true, false, All, List, [], ◌∷◌, ◌++◌, if◌then◌else◌}
use Rattle.c_tree.specs.declared.lexeme.Lexeme.{Lexeme}
use Rattle.c_tree.specs.Unit.{AreTokensOf, IsUnit}
use Rattle.c_tape.specs.Tape.{tape_of}
use Rattle.name_rules.specs.Spellings.{Place}
use Rattle.type_rules.specs.Program.{Source}
use Rattle.row_rules.specs.Sites.{AreDifferent}
use Rattle.row_laws.specs.KeyLaws.Keys.{key_places}

-- whether one of some tokens has this number
abbrev pub has_number : ℕ → List Lexeme → Bool
has_number n [] = false
has_number n (it ∷ others) = if nat_eq it.at n then true else has_number n others

-- no two tokens have one number
abbrev pub AreNumbered : List Lexeme → Type 0
AreNumbered [] = Unit {0}
AreNumbered (it ∷ others) = (has_number it.at others ≡ false) × AreNumbered others

-- a unit is what is well formed of some tokens, scopes of names aside, no two of one number
pub record IsRead (it : Source) : Type 0 where
  pub all : List Lexeme
  pub tokens : AreTokensOf all it.items
  pub rules : IsUnit all it.items
  pub numbers : AreNumbered all

-- whether one of some units has this number
abbrev pub has_unit : ℕ → List Source → Bool
has_unit n [] = false
has_unit n (it ∷ sources) = if nat_eq it.spelling.unit n then true else has_unit n sources

-- no two units have one number
abbrev pub UnitsDiffer : List Source → Type 0
UnitsDiffer [] = Unit {0}
UnitsDiffer (it ∷ sources) = (has_unit it.spelling.unit sources ≡ false) × UnitsDiffer sources

-- the places at which skeletons may begin and names are declared along the tapes of units, each op's once
abbrev pub keys_among : List Source → List Place
keys_among [] = []
keys_among (it ∷ sources) = key_places it.spelling (tape_of it.items) ++ keys_among sources

-- the law: where no two tokens of a unit and no two units have one number, each of these places is that of one op alone
abbrev pub KeysDiffer : Type 0
KeysDiffer = (sources : List Source) → All IsRead sources → UnitsDiffer sources → AreDifferent (keys_among sources)
