-- What is judged of units depends on what index words say, and not on the list that says it.
use Rattle.std.proofs.Common.{◌≡◌, ℕ, List, ap, ◌∙◌}
use Rattle.lattice_core.specs.View.{LatticeView}
use Rattle.c_types.specs.Sources.{UnitRead, lexed_of, sources_in}
use Rattle.unit_system.specs.SourceMarks.Marks.{mark_among}
use Rattle.index_words.specs.Marks.{IndexMark, index_in}
use Rattle.constraint_rules.specs.Systems.{Program, system_of}
use Rattle.constraint_gen.specs.Programs.{program_in, positions_in, listed_in}
use Rattle.sig_writer.specs.Functions.{externals_in}
use Rattle.cqual_tool.specs.Words.{FileNames}
use Rattle.cqual_tool.specs.Programs.{Judging, judging_of, texts_of}

abbrev pub SameIndices : List IndexMark → List IndexMark → Type 0
SameIndices marks said = (p : ℕ × ℕ) → index_in marks p ≡ index_in said p

module _ (named : FileNames) (lattices : List LatticeView) where
  program_same : (marks said : List IndexMark) (units : List UnitRead) → SameIndices marks said →
      program_in lattices marks units ≡ program_in lattices said units
  program_same marks said units same = λ i. record {
    sources = sources_in units;
    lattices = lattices;
    mark = mark_among (lexed_of units);
    index = λ p. same p i;
  }

  abbrev judging_in : List UnitRead → Program → Judging
  judging_in units p = record {
    scene = record {
      units = texts_of named (lexed_of units);
      lattices = lattices;
      positions = positions_in p;
      listed = listed_in units p;
    };
    system = system_of p;
    externals = externals_in (texts_of named (lexed_of units)) p;
  }

  pub judged_same : (marks said : List IndexMark) (units others : List UnitRead) → SameIndices marks said
      → units ≡ others →
      judging_of named lattices marks units ≡ judging_of named lattices said others
  judged_same marks said units others same e =
      ap (judging_in units) (program_same marks said units same)
      ∙ ap (λ (us : List UnitRead). judging_of named lattices said us) e
