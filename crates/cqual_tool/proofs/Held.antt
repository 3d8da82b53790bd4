-- The external functions of a program that was read, and what is asked before its signatures are written.
use Rattle.std.proofs.Common.{◌≡◌, ◌≤◌, All, List, length, map, sym, ◌∙◌, ap, subst, arith}
use Rattle.lattice_core.specs.View.{LatticeView}
use Rattle.index_words.specs.Marks.{IndexMark}
use Rattle.c_lexer.specs.Tokens.{Lexed}
use Rattle.c_types.specs.Sources.{UnitRead, lexed_of, sources_in}
use Rattle.row_laws.specs.KeyLaws.Differing.{IsRead, UnitsDiffer}
use Rattle.flow_graph.specs.System.{System, most_variables}
use Rattle.type_rules.specs.Program.{names_of}
use Rattle.row_rules.specs.Annotations.{has_access}
use Rattle.row_rules.specs.Worlds.{numbered_from}
use Rattle.constraint_rules.specs.Systems.{starts_of, system_of}
use Rattle.constraint_gen.specs.Programs.{positions_in, program_in}
use Rattle.constraint_gen.specs.Generating.{IsGenerated}
use Rattle.annotate.specs.Texts.{UnitText}
use Rattle.annotate.specs.Scenes.{AreApart}
use Rattle.sig_writer.specs.Functions.{externals_in, functions_in}
use Rattle.sig_writer.specs.Laws.{ExternalsAreHeld, OwnedApart}
use Rattle.sig_writer.specs.Library.{external_at}
use Rattle.sig_writer.specs.Nodes.{SkeletonsAreInOrder}
use Rattle.sig_writer.specs.Parts.{AreOwnedApart}
use Rattle.sig_writer.specs.Signatures.{External}
use Rattle.cqual_tool.specs.declared.preparing.Ready.{Ready}
use Rattle.cqual_tool.specs.Programs.{texts_of}
use Rattle.cqual_tool.specs.Signing.{MaySign, externals_held}
use Rattle.cqual_tool.proofs.Joining.{texts_apart}

module _ (lattices : List LatticeView) (marks : List IndexMark) (units : List UnitRead) (it : Ready)
    (are : it.tokens.items ≡ lexed_of units)
    (functions : it.functions.items ≡ functions_in (names_of (sources_in units)))
    (made : IsGenerated units (program_in lattices marks units) it.made)
    (few : length (positions_in (program_in lattices marks units)) ≤ most_variables) where
  -- the external functions of the program
  pub held : ExternalsAreHeld → (texts : List UnitText)
      → externals_in texts (program_in lattices marks units) ≡ externals_held texts it
  held law texts =
      law texts it.made.skeletons (numbered_from 0 (starts_of (has_access lattices) (sources_in units)))
      (functions_in (names_of (sources_in units)))
      (let count = made.count in omega (arith, count, few)) made.skeletons.found
      ∙ ap (map (external_at texts it.made.skeletons)) (sym functions)

  pub may_sign : All IsRead (sources_in units) → UnitsDiffer (sources_in units) → SkeletonsAreInOrder → OwnedApart
      → ExternalsAreHeld →
      MaySign it
  may_sign read differ order apart law = record {
    units = λ named.
        subst (λ (lexed : List Lexed). AreApart (texts_of named lexed)) (sym are) (texts_apart named units differ);
    skeletons = order it.made.skeletons
        (numbered_from 0 (starts_of (has_access lattices) (sources_in units))) made.skeletons.found;
    apart = λ texts.
        subst (λ (sys : System). AreOwnedApart sys (externals_held texts it)) (sym made.system)
        (subst (λ (es : List External). AreOwnedApart (system_of (program_in lattices marks units)) es) (held law texts)
        (apart texts (program_in lattices marks units) read differ));
  }
