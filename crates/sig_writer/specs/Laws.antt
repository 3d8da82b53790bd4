-- What is written of a library is one: whatever is right of its nodes gives one refusal and one text.
use Rattle.std.specs.Prelude.{◌≡◌, ◌≤◌, ◌^◌, All, List, length, map}
use Rattle.std.specs.List.{flat_map}
use Rattle.lattice_core.specs.Order.{IsLattice}
use Rattle.lattice_core.specs.View.{LatticeView}
use Rattle.flow_graph.specs.System.{System}
use Rattle.constraint_rules.specs.Systems.{Program, system_of}
use Rattle.row_laws.specs.KeyLaws.Differing.{IsRead, UnitsDiffer}
use Rattle.annotate.specs.Texts.{UnitText}
use Rattle.name_rules.specs.Spellings.{Place}
use Rattle.qual_types.specs.Rows.{skel_of}
use Rattle.row_rules.specs.Worlds.{Numbered, skeleton_among}
use Rattle.unit_starts.specs.declared.unit_skeletons.skeletons.Skeletons.{Skeletons}
use Rattle.sig_writer.specs.Functions.{external_in, externals_in}
use Rattle.sig_writer.specs.Library.{external_at}
use Rattle.sig_writer.specs.Nodes.{root_in}
use Rattle.sig_writer.specs.Parts.{AreOwnedApart}
use Rattle.sig_writer.specs.Signatures.{External, Found, first_refusal, lines_of, nodes_of}
use Rattle.sig_writer.specs.Found.{IsFoundAt}

-- whatever is right of the nodes of a library gives one refusal and one text
abbrev pub OneText : Type 0
OneText =
    (sys : System) (lattice : LatticeView) (functions : List External) (one other : Found) → IsLattice lattice.order →
    IsFoundAt sys 0 lattice.order (flat_map nodes_of functions) one
    → IsFoundAt sys 0 lattice.order (flat_map nodes_of functions) other →
    (first_refusal one lattice functions ≡ first_refusal other lattice functions)
    × (lines_of one lattice functions ≡ lines_of other lattice functions)

-- No function owns nodes of two external ones, in programs of units that were read.
abbrev pub OwnedApart : Type 0
OwnedApart = (units : List UnitText) (p : Program) → All IsRead p.sources → UnitsDiffer p.sources →
    AreOwnedApart (system_of p) (externals_in units p)

-- The external functions at some places are those that the code holds, where its skeletons are the first that begin at
-- places.
abbrev pub ExternalsAreHeld : Type 0
ExternalsAreHeld =
    (units : List UnitText) (it : Skeletons) (all : List Numbered) (places : List Place) → length it.vars ≤ 2 ^ 24 →
    ((p : Place) → skel_of it.vars (root_in it p) ≡ skeleton_among all p) →
    map (external_in units all) places ≡ map (external_at units it) places
