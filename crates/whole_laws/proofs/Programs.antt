-- Programs that are read and have no fault are accepted.
use Rattle.std.proofs.Common.{All, List, [], ◌∷◌}
use Rattle.std.proofs.lemmas.List.Elements.{All-nil, All-cons, All-head, All-tail}
use Rattle.type_rules.specs.Program.{HasNoFault, Source, names_of}
use Rattle.constraint_rules.specs.Systems.{Program}
use Rattle.row_laws.specs.KeyLaws.Differing.{IsRead, UnitsDiffer}
use Rattle.first_laws.specs.Firsts.{FirstsOfScopedHaveSkeletons, IsScoped}
use Rattle.missing_laws.specs.Programs.{AreFormed, IsAccepted, ProgramsHaveSkeletons, ProgramsMissNothing}
use Rattle.missing_laws.proofs.Places.{declared_differ}
use Rattle.whole_laws.specs.Programs.{IsParsed, PlacesOfReadDiffer, ReadProgramsHaveSkeletons, ReadProgramsMissNothing}

-- sources that are parsed are formed
formed : (sources : List Source) → All IsParsed sources → AreFormed sources
formed [] h = tt
formed (it ∷ sources) h =
    let parsed = All-head IsParsed it sources h in
    ((parsed.all, parsed.formed.rules), formed sources (All-tail IsParsed it sources h))

-- sources that are parsed are read
read : (sources : List Source) → All IsParsed sources → All IsRead sources
read [] h = All-nil IsRead
read (it ∷ sources) h =
    let parsed = All-head IsParsed it sources h in
    All-cons IsRead it sources (record {
      all = parsed.all;
      tokens = parsed.formed.tokens;
      rules = parsed.formed.rules;
      numbers = parsed.numbers;
    }) (read sources (All-tail IsParsed it sources h))

-- sources that are parsed are scoped
scoped : (sources : List Source) → All IsParsed sources → All IsScoped sources
scoped [] h = All-nil IsScoped
scoped (it ∷ sources) h =
    let parsed = All-head IsParsed it sources h in
    All-cons IsScoped it sources (record { all = parsed.all; formed = parsed.formed; names = parsed.names })
    (scoped sources (All-tail IsParsed it sources h))

-- a program that was parsed, whose units differ in number and have no fault, is accepted
accepted : PlacesOfReadDiffer → FirstsOfScopedHaveSkeletons → (p : Program) → All IsParsed p.sources →
    UnitsDiffer p.sources → HasNoFault p.sources → IsAccepted p
accepted places firsts p parsed units none =
    let differ = places p.sources (read p.sources parsed) units in (
      formed p.sources parsed,
      none,
      differ,
      firsts p.sources (scoped p.sources parsed) (declared_differ (names_of p.sources).declared differ.declared),
    )

pub have_skeletons : PlacesOfReadDiffer → FirstsOfScopedHaveSkeletons → ProgramsHaveSkeletons
    → ReadProgramsHaveSkeletons
have_skeletons places firsts law p parsed units none = law p (accepted places firsts p parsed units none)

pub miss_nothing : PlacesOfReadDiffer → FirstsOfScopedHaveSkeletons → ProgramsMissNothing → ReadProgramsMissNothing
miss_nothing places firsts law p parsed units none = law p (accepted places firsts p parsed units none)
