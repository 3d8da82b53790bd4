-- Each span of a constraint, each call site and each fault of a program has its tokens: numbers of tokens of one of its
-- sources.
--
-- The sources are well formed of some tokens, scopes of names aside, and these are numbered by their places, as the
-- tokens that a lexer gives are. So they are read in the sense of `IsRead` (`row_laws/specs/KeyLaws/Differing.antt`),
-- and a little more: that asks that no two tokens have one number, and a tree has of a `$` word only its place
-- (`c_tree/specs/Text.antt`, `qual_text`), which need then be no token's number. Where the units of the sources differ
-- too, a span names its source.
--
-- So what the tool says of a span or a fault where there is no such unit or no such token
-- (`cqual_tool/specs/Syntax.antt`, `token_line`; `cqual_tool/specs/Shapes.antt`, `in_unit`) is never met for sources
-- that were read.
use Rattle.std.specs.Prelude.{◌≡◌, ℕ, suc, Contains, List, [], ◌∷◌, slice_get, Some, ◌⊎◌}
use Rattle.qual_base.specs.declared.places.Span.{Span}
use Rattle.flow_graph.specs.declared.constraint.Constraint.{Constraint}
use Rattle.flow_graph.specs.declared.constraint.Site.{Site}
use Rattle.c_tree.specs.declared.lexeme.Lexeme.{Lexeme}
use Rattle.c_tree.specs.Unit.{AreTokensOf, IsUnit}
use Rattle.name_rules.specs.Faults.{Fault}
use Rattle.type_rules.specs.Program.{Source, faults_of}
use Rattle.row_rules.specs.Worlds.{word_span}
use Rattle.row_laws.specs.KeyLaws.Differing.{IsRead}
use Rattle.constraint_rules.specs.Systems.{Program, system_of}

-- tokens are numbered by their places, the first by this number
abbrev pub AreCounted : ℕ → List Lexeme → Type 0
AreCounted n [] = Unit {0}
AreCounted n (it ∷ others) = (it.at ≡ n) × AreCounted (suc n) others

-- a unit is what is well formed of these tokens, scopes of names aside
pub record IsReadFrom (it : Source) (all : List Lexeme) : Type 0 where
  pub tokens : AreTokensOf all it.items
  pub rules : IsUnit all it.items
  pub counted : AreCounted 0 all

-- each source of the tokens of its own
abbrev pub AreReadFrom : List Source → List (List Lexeme) → Type 0
AreReadFrom [] [] = Unit {0}
AreReadFrom [] (all ∷ texts) = ⊥
AreReadFrom (it ∷ sources) [] = ⊥
AreReadFrom (it ∷ sources) (all ∷ texts) = IsReadFrom it all × AreReadFrom sources texts

-- so the unit is read
abbrev pub CountedAreRead : Type 0
CountedAreRead = (it : Source) (all : List Lexeme) → IsReadFrom it all → IsRead it

-- one of these tokens stands at this place among them and has it as its number
pub record IsTokenOf (n : ℕ) (all : List Lexeme) : Type 0 where
  pub token : Lexeme
  pub there : slice_get all n ≡ Some token
  pub numbered : token.at ≡ n

-- a span of this source, from a token of it to a token of it
pub record StandsAt (it : Source) (all : List Lexeme) (where_ : Span) : Type 0 where
  pub unit : where_.unit ≡ it.spelling.unit
  pub first : IsTokenOf where_.from all
  pub last : IsTokenOf where_.to all

-- of one of these sources
abbrev pub StandsIn : List Source → List (List Lexeme) → Span → Type 0
StandsIn [] texts where_ = ⊥
StandsIn (it ∷ sources) [] where_ = ⊥
StandsIn (it ∷ sources) (all ∷ texts) where_ = StandsAt it all where_ ⊎ StandsIn sources texts where_

-- the span of each constraint of a program is from a token to a token of one of its sources
abbrev pub SpansHaveTokens : Type 0
SpansHaveTokens =
    (p : Program) (texts : List (List Lexeme)) → AreReadFrom p.sources texts
    → (c : Constraint) → Contains (system_of p).constraints c → StandsIn p.sources texts c.span

-- each call site of a program is at a token of one of its sources
abbrev pub SitesHaveTokens : Type 0
SitesHaveTokens =
    (p : Program) (texts : List (List Lexeme)) → AreReadFrom p.sources texts
    → (site : Site) → Contains (system_of p).sites site → StandsIn p.sources texts (word_span (site.unit, site.token))

-- each fault of the names and types of sources is at a token of one of them
abbrev pub FaultsHaveTokens : Type 0
FaultsHaveTokens =
    (sources : List Source) (texts : List (List Lexeme)) → AreReadFrom sources texts
    → (f : Fault) → Contains (faults_of sources) f → StandsIn sources texts (word_span f.at)
