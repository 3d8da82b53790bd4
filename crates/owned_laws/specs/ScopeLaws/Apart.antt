-- Declarations are at different places, and at no token of an expression.
use Rattle.std.specs.Prelude.{All, List, [], ◌∷◌}
use Rattle.c_tape.specs.Tape.{tape_of}
use Rattle.name_rules.specs.Scopes.{Names}
use Rattle.type_rules.specs.Program.{Source, names_of}
use Rattle.row_rules.specs.Sites.{AreDifferent}
use Rattle.resolve_laws.specs.NameLaws.NameLaws.{IsSound}
use Rattle.name_rules.specs.MeaningLaws.Meanings.{Differ}
use Rattle.row_laws.specs.KeyLaws.Keys.{KeysAreApart}
use Rattle.row_laws.specs.KeyLaws.Differing.{keys_among}

-- no name is declared at the token of an expression, in any of the units
abbrev pub AllApart : Names → List Source → Type 0
AllApart s [] = Unit {0}
AllApart s (it ∷ sources) = KeysAreApart it.spelling s (tape_of it.items) × AllApart s sources

-- the law: no two declarations of well-formed units are at one place, where each place is that of one op alone
abbrev pub DeclarationsDiffer : Type 0
DeclarationsDiffer =
    (sources : List Source) → All IsSound sources → AreDifferent (keys_among sources)
    → Differ (names_of sources).declared

-- the law: no name is declared at the token of an expression, where each place is that of one op alone
abbrev pub NamesAreApart : Type 0
NamesAreApart =
    (sources : List Source) → All IsSound sources → AreDifferent (keys_among sources)
    → AllApart (names_of sources) sources
