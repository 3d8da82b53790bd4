use Rattle.std.proofs.Common.{◌≡◌, ℕ, drop}
use Rattle.type_table.specs.Types.{CType}
use Rattle.name_state.specs.NameTypes.Known.{Knows}
use Rattle.name_rules.specs.NameSteps.Units.{tapes_named}
use Rattle.name_state.specs.UnitNames.Shown.{names_of}
use Rattle.c_names.specs.Shown.{AreShown}
use Rattle.unit_shapes.specs.Views.{AreImplicit}
use Rattle.unit_types.specs.Resolved.{tapes_of, names_on}
use Rattle.unit_types.proofs.resolve.name_units.Given as goal

-- the names so far are shown by the table; the tapes of the units left lead from them to the names on all tapes
abbrev pub invariant-loop-unit : goal.invariant-loop-unit
invariant-loop-unit l =
    record {
      shown : AreShown l.types l.names;
      implicit : AreImplicit l.types l.implicit;
      named : (t : ℕ → CType) → Knows t l.types
          → tapes_named (tapes_of (drop l.unit-index l.units)) (names_of t l.names) ≡ names_on (tapes_of l.units);
    }
