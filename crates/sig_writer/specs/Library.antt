-- The external functions of a library, as the code holds them.
use Rattle.std.specs.Prelude.{◌≡◌, ℕ, Bool, true, false, List, [], ◌++◌, map, Option, None, Some, codes}
use Rattle.name_rules.specs.Spellings.{Place}
use Rattle.name_tables.specs.PlaceMap.Values.{number_at}
use Rattle.annotate.specs.Texts.{UnitText, bytes_in, line, unit_in}
use Rattle.unit_starts.specs.declared.unit_skeletons.skeletons.Skeletons.{Skeletons}
use Rattle.annotate.specs.Scenes.{units_of}
use Rattle.sig_writer.specs.declared.lines.Library.{Library}
use Rattle.sig_writer.specs.Nodes.{skel_by}
use Rattle.sig_writer.specs.declared.lines.SigFault.{SigFault}
use Rattle.sig_writer.specs.declared.lines.SigFault.TheVariants.{Unwritable, NoSign, NoMemory}
use Rattle.sig_writer.specs.Signatures.{External, Refusal, NoPlace, NoWord}

-- an external function by where it was first declared, of these units and skeletons
abbrev pub external_at : List UnitText → Skeletons → Place → External
external_at units skeletons p = record {
  place = p;
  name = bytes_in (unit_in units p.0) p.1;
  skel = skel_by skeletons (number_at skeletons.starts p);
}

-- an external function of a library
abbrev pub external_by : Library → Place → External
external_by it = external_at (units_of it.units.now) it.skeletons.now

-- all external functions of a library
abbrev pub externals_by : Library → List External
externals_by it = map (external_by it) it.functions.now

-- a line, where there is one
abbrev pub line_by : Bool → List ℕ → List ℕ
line_by true text = line (text ++ codes ";")
line_by false text = []

-- what a fault says of a function; want of memory says nothing
abbrev pub some_fault : SigFault → Option Refusal
some_fault (Unwritable p) = Some (NoPlace p)
some_fault (NoSign p) = Some (NoWord p)
some_fault NoMemory = None

-- a fault is this refusal, or want of memory
abbrev pub FaultOr : SigFault → Option Refusal → Type 0
FaultOr (Unwritable p) refusal = refusal ≡ Some (NoPlace p)
FaultOr (NoSign p) refusal = refusal ≡ Some (NoWord p)
FaultOr NoMemory refusal = Unit {0}
