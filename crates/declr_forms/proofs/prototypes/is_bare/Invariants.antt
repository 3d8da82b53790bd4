use Rattle.std.proofs.Common.{◌≡◌}
use Rattle.c_tree.specs.View.{declr_of}
use Rattle.c_units.specs.Units.{bare_name}
use Rattle.declr_forms.proofs.prototypes.is_bare.Given as goal

abbrev pub invariant-loop-part : goal.invariant-loop-part
invariant-loop-part l = bare_name (declr_of l.part) ≡ bare_name (declr_of l.declr)
