use Rattle.std.proofs.Common.{◌≡◌, ℕ, [], drop, take}
use Rattle.type_table.specs.Types.{CType}
use Rattle.name_state.specs.NameTypes.Known.{Knows, Grows}
use Rattle.name_rules.specs.NameSteps.Steps.{run}
use Rattle.name_tables.specs.UnitSpelling.Spelled.{spelling_of}
use Rattle.unit_shapes.specs.Views.{AreImplicit}
use Rattle.c_names.specs.Shown.{state_of, IsShown}
use Rattle.c_names.proofs.state.State.run.Given as goal

-- ops are counted, the state is shown by a table grown from the first, and the ops left lead where all do
abbrev pub invariant-loop-op : goal.invariant-loop-op
invariant-loop-op l =
    record {
      counted : l.at ≡ l.op-index;
      shown : IsShown l.types l.self;
      implicit : AreImplicit l.types l.implicit;
      grown : Grows l.initial.types l.types;
      runs : (t : ℕ → CType) → Knows t l.types
          → run (spelling_of l.spelling) (drop l.op-index l.tape) (state_of t (take l.op-index l.tape) l.self)
          ≡ run (spelling_of l.spelling) l.tape (state_of t [] l.initial.self);
    }
