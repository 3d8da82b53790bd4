-- Which files are started, and what was read before them.
use Rattle.std.proofs.Common.{◌≡◌, arith, ℕ, Bool, suc, ◌+◌, ◌-◌, ◌<◌, ◌≤◌, List, [], ◌∷◌, ◌++◌, length, take, refl, sym, ap, subst, append_assoc}
use Rattle.outside.specs.Readings.{Reading}
use Rattle.lattice_core.specs.View.{LatticeView}
use Rattle.c_types.specs.Sources.{UnitRead}
use Rattle.index_words.specs.Marks.{IndexMark}
use Rattle.cqual_tool.specs.Words.{FileNames}
use Rattle.cqual_tool.specs.declared.status.Status.{Status}
use Rattle.cqual_tool.specs.Programs.{Judging, judging_of}
use Rattle.cqual_tool.specs.Inputs.{Inputs, behind_first, first_of}
use Rattle.cqual_tool.specs.Outcome.{AreBefore, AreCounted, LatticesRead, Later, LatticeAlone, NoSource, NotCounted, NotParsed, OfSources, OneSource, SourceParses, SourcesParse, SourcesRead, Starts, ThenPrelude, ThenSaved, ThenSource, UnitsRefused, limit_in, named_one, total_limit}
use Rattle.cqual_tool.specs.Preparing.{AreRead, EndStarts, NoneSaved, NoUnit, NoneLeft, OneSaved, PreludeAlone, SavedBehind, SavedToo, SomeStart, SourceToo, SourcesStart, UnitsStart}

-- what holds of a name holds of the name of the reading
pub at_name : (Is : List (List ℕ) → Type 0) (r : Reading) (name : List ℕ) (names : List (List ℕ)) → r.name ≡ name
    → Is (name ∷ names) → Is (r.name ∷ names)
at_name Is r name names same is = subst (λ (n : List ℕ). Is (n ∷ names)) (sym same) is

-- the parts behind the first source
abbrev pub rest_of : Inputs → Inputs
rest_of inputs = record {
  lattice = inputs.lattice;
  prelude = inputs.prelude;
  sources = behind_first inputs.sources;
  saved = inputs.saved;
}

-- one more source in front

-- a source within the limit that parses, before sources that parse, gives sources that parse
pub one_more : (wide : Bool) (lattices : List LatticeView) (number left : ℕ) (file bytes content : List ℕ)
    (more : List (List ℕ × List ℕ)) (unit : UnitRead)
    (units : List UnitRead) → content ≡ bytes → length bytes ≤ limit_in left
    → SourceParses wide lattices number bytes unit
    → SourcesParse wide lattices (number + 1) (left - length bytes) more units
    → SourcesParse wide lattices number left ((file, content) ∷ more) (unit ∷ units)
one_more wide lattices number left file bytes content more unit units same within parses rest =
    subst (λ (b : List ℕ). SourcesParse wide lattices number left ((file, b) ∷ more) (unit ∷ units)) (sym same)
    (OneSource number left (file, bytes) more unit units within parses rest)

behind_one : (before : List UnitRead) (unit : UnitRead) (units : List UnitRead) (P : List UnitRead → Type 0)
    → P ((before ++ unit ∷ []) ++ units)
    → P (before ++ unit ∷ units)
behind_one before unit units P is = subst P (append_assoc before (unit ∷ []) units) is

module _ (named : FileNames) (lattices : List LatticeView) where
  -- behind all sources
  pub end_starts : (before : List UnitRead) (marks : List IndexMark) (number left : ℕ) (Given : Inputs → Type 0)
      (started : List (List ℕ))
      → EndStarts named started
      → ((inputs : Inputs) → Given inputs → AreRead named lattices before marks number left [])
      → SourcesStart named lattices before marks number left [] Given started
  end_starts before marks number left Given _ NoneSaved read = NoneLeft refl
  end_starts before marks number left Given _ (OneSaved file is) read = SavedBehind file is read

  -- a source that is the unit, and what is behind it
  module _ (before : List UnitRead) (marks : List IndexMark) (number left : ℕ) (file bytes : List ℕ) (unit : UnitRead)
      (within : length bytes ≤ limit_in left) (parses : SourceParses named.wide lattices number bytes unit) where
    pub one_starts : (names : List (List ℕ)) (Given Rest : Inputs → Type 0) (started : List (List ℕ))
        → ((inputs : Inputs) → Given inputs → (first_of inputs.sources ≡ bytes) × Rest (rest_of inputs))
        → SourcesStart named lattices (before ++ unit ∷ []) marks (number + 1) (left - length bytes) names Rest started
        → SourcesStart named lattices before marks number left (file ∷ names) Given (file ∷ started)
    one_starts names Given Rest _ is (NoneLeft none) =
        SomeStart 0 (omega arith) (λ inputs given. ([], NoSource number left))
    one_starts names Given Rest _ is (SomeStart count lt parsed) =
        SomeStart (suc count) (omega (arith, lt)) (λ inputs given.
        let all = is inputs given in let rest = parsed (rest_of inputs) all.1 in (
          unit ∷ rest.0,
          one_more named.wide lattices number left file bytes
              (first_of inputs.sources) _ unit rest.0 all.0 within parses rest.1,
        ))
    one_starts names Given Rest _ is (SavedBehind report asked read) =
        SavedBehind report asked (λ inputs given.
        let all = is inputs given in let rest = read (rest_of inputs) all.1 in (
          unit ∷ rest.0,
          one_more named.wide lattices number left file bytes
              (first_of inputs.sources) _ unit rest.0 all.0 within parses rest.1,
          behind_one before unit rest.0 (AreCounted named lattices marks) rest.2,
        ))

    pub one_of : (Ends : Judging → Status → List ℕ → Type 0) (more : List (List ℕ × List ℕ)) (status : Status)
        (text : List ℕ)
        → OfSources named lattices (before ++ unit ∷ []) marks Ends (number + 1) (left - length bytes) more status text
        → OfSources named lattices before marks Ends number left ((file, bytes) ∷ more) status text
    one_of Ends more _ _ (NotParsed text fails) =
        NotParsed text (Later number left (file, bytes) more unit text within parses fails)
    one_of Ends more _ _ (NotCounted units text parse refused) =
        NotCounted (unit ∷ units) text (OneSource number left (file, bytes) more unit units within parses parse)
        (behind_one before unit units (λ all. UnitsRefused named lattices marks all text) refused)
    one_of Ends more _ _ (SourcesRead units status text parse counted ends) =
        SourcesRead (unit ∷ units) status text (OneSource number left (file, bytes) more unit units within parses parse)
        (behind_one before unit units (AreCounted named lattices marks) counted)
        (behind_one before unit units (λ all. Ends (judging_of named lattices marks all) status text) ends)

  -- the sources behind what was read before them: o is the prelude, where one is named
  pub units_start : (Given Sources : Inputs → Type 0) (before : List UnitRead) (marks : List IndexMark)
      (names o : List (List ℕ))
      → named_one named.prelude ≡ o → 1 ≤ length named.sources
      → ((inputs : Inputs) → Given inputs → Sources inputs)
      → ((inputs : Inputs) → Given inputs → AreBefore named inputs lattices before marks)
      → SourcesStart named lattices before marks 1 total_limit named.sources Sources names
      → UnitsStart named lattices Given (o ++ names)
  units_start Given Sources before marks _ o same some source are (NoneLeft none) =
      let e = ap (λ (names : List (List ℕ)). length names) none in absurd (omega (arith, e, some))
  units_start Given Sources before marks _ o same some source are (SomeStart count lt parsed) =
      subst (λ (first : List (List ℕ)). UnitsStart named lattices Given (first ++ take (suc count) named.sources)) same
      (SourceToo count lt (λ inputs given. record {
        before = before;
        marks = marks;
        are = are inputs given;
        parsed = parsed inputs (source inputs given);
      }))
  units_start Given Sources before marks _ o same some source are (SavedBehind file is read) =
      subst (UnitsStart named lattices Given) (append_assoc o named.sources (file ∷ []))
      (subst (λ (first : List (List ℕ)). UnitsStart named lattices Given (first ++ named.sources ++ file ∷ [])) same
      (SavedToo file is (λ inputs given. record {
        before = before;
        marks = marks;
        are = are inputs given;
        read = read inputs (source inputs given);
      })))

  -- all files behind the lattice file
  pub all_start : (Given Units : Inputs → Type 0) (names : List (List ℕ))
      → ((inputs : Inputs) → Given inputs → Units inputs)
      → ((inputs : Inputs) → Given inputs → LatticesRead named.wide inputs.lattice lattices)
      → UnitsStart named lattices Units names
      → Starts named Given (named.lattice ∷ names)
  all_start Given Units _ units read NoUnit = LatticeAlone
  all_start Given Units _ units read (PreludeAlone file is) =
      ThenPrelude file is (λ inputs given. record { lattices = lattices; read = read inputs given })
  all_start Given Units _ units read (SourceToo count lt are) =
      ThenSource count lt (λ inputs given. let is = are inputs (units inputs given) in record {
        lattices = lattices;
        read = read inputs given;
        before = is.before;
        marks = is.marks;
        are = is.are;
        units = is.parsed.0;
        parse = is.parsed.1;
      })
  all_start Given Units _ units read (SavedToo file report are) =
      ThenSaved file report (λ inputs given. let is = are inputs (units inputs given) in record {
        lattices = lattices;
        read = read inputs given;
        before = is.before;
        marks = is.marks;
        are = is.are;
        units = is.read.0;
        parse = is.read.1;
        counted = is.read.2;
      })
