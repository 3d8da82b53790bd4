-- The system of files that are read.
use Rattle.std.proofs.Common.{◌≡◌, ℕ, Bool, zero, suc, ◌+◌, ◌-◌, List, [], ◌∷◌, ◌++◌, length, Some, slice_get, sym, subst, ap, ◌∙◌, append-nil, append_assoc}
use Rattle.std.specs.Prelude.{All}
use Rattle.lattice_core.specs.Order.{size, IsLattice}
use Rattle.lattice_core.specs.View.{LatticeView, AreSized, AreLattices}
use Rattle.lattice_file.specs.Blocks.{BlockView, AreAllBuilt}
use Rattle.owned_laws.specs.Programs.{SystemsAreOwned}
use Rattle.owned_laws.specs.ElementLaws.Naming.{LatticesAreNamed}
use Rattle.c_types.specs.Sources.{UnitRead}
use Rattle.index_words.specs.Marks.{IndexMark}
use Rattle.constraint_gen.specs.Programs.{program_in}
use Rattle.row_laws.specs.Laws.{IsSound}
use Rattle.row_laws.proofs.KeyLaws.Sound.{sound_of}
use Rattle.cqual_tool.specs.Inputs.{Inputs}
use Rattle.cqual_tool.specs.Words.{FileNames}
use Rattle.cqual_tool.specs.Outcome.{AreBefore, NoPrelude, OnePrelude, NoSource, OneSource, SourcesParse, sources_of, total_limit, ProgramIsRead}
use Rattle.cqual_tool.specs.Preparing.{AreEarlier}
use Rattle.cqual_tool.proofs.Joining.{nothing_earlier, one_more_may, prelude_alone, read_all}
use Rattle.answer_laws.specs.Laws.{ProgramsAreOwned}

-- each lattice that blocks build has as many entries as its order has elements
pub built_sized : (blocks : List BlockView) (lattices : List LatticeView) → AreAllBuilt blocks lattices
    → AreSized lattices
built_sized [] [] built = λ n view there. absurd cc
built_sized [] (lattice ∷ lattices) built = absurd built
built_sized (block ∷ blocks) [] built = absurd built
built_sized (block ∷ blocks) (lattice ∷ lattices) built = at (built_sized blocks lattices built.1)
  where
    first_is : (view : LatticeView) → Some lattice ≡ Some view → lattice ≡ view
    first_is view e = cc

    own : size lattice.order ≡ length lattice.entries
    own = built.0.built.closure.elements ∙ ap length (sym built.0.built.same)

    at : AreSized lattices → (n : ℕ) (view : LatticeView) → slice_get (lattice ∷ lattices) n ≡ Some view
        → size view.order ≡ length view.entries
    at rest zero view there = subst (λ (v : LatticeView). size v.order ≡ length v.entries) (first_is view there) own
    at rest (suc n) view there = rest n view there

-- units that stand before the sources
pub before_is : (named : FileNames) (inputs : Inputs) (lattices : List LatticeView) (before : List UnitRead)
    (marks : List IndexMark)
    → AreBefore named inputs lattices before marks → AreEarlier 1 before
before_is named inputs lattices before marks (NoPrelude none) = nothing_earlier 1
before_is named inputs lattices before marks (OnePrelude file unit _ there reads) =
    prelude_alone unit reads.is.parses.lexes.unit reads.is.parses.formed

-- and the sources behind them
sources_may : (wide : Bool) (lattices : List LatticeView) (number left : ℕ) (sources : List (List ℕ × List ℕ))
    (before units : List UnitRead)
    → AreEarlier number before
    → SourcesParse wide lattices number left sources units → (n : ℕ) × AreEarlier n (before ++ units)
sources_may wide lattices _ _ _ before _ may (NoSource number left) =
    (number, subst (AreEarlier number) (sym (append-nil before)) may)
sources_may wide lattices _ _ _ before _ may (OneSource number left source more unit units within parses rest) =
    let all = sources_may wide lattices (number + 1) (left - length source.1) more (before ++ unit ∷ []) units
    (one_more_may number before unit may parses.lexes.unit parses.formed) rest in
    (all.0, subst (AreEarlier all.0) (append_assoc before (unit ∷ []) units) all.1)

-- the units of a program that is read are well formed
pub units_sound : (names : FileNames) (inputs : Inputs) (it : ProgramIsRead names inputs)
    → All IsSound (program_in it.lattices it.marks (it.before ++ it.units)).sources
units_sound names inputs it =
    let units = it.before ++ it.units in
    let before = before_is names inputs it.lattices it.before it.marks it.are in
    let may =
    (sources_may names.wide it.lattices 1 total_limit (sources_of names inputs) it.before it.units before it.parse).1 in
    sound_of (program_in it.lattices it.marks units).sources (read_all units may.formed)

-- the constraints of files that are read are well owned, and name elements of their lattices
pub programs_are_owned : SystemsAreOwned → LatticesAreNamed → ProgramsAreOwned
programs_are_owned owned named names inputs it =
    let units = it.before ++ it.units in
    let p = program_in it.lattices it.marks units in
    let before = before_is names inputs it.lattices it.before it.marks it.are in
    let may =
    (sources_may names.wide it.lattices 1 total_limit (sources_of names inputs) it.before it.units before it.parse).1 in (
      owned p (read_all units may.formed) may.differ,
      named p (units_sound names inputs it) (built_sized it.read.read.blocks it.lattices it.read.read.built),
    )
