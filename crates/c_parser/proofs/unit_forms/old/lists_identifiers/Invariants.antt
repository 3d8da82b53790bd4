use Rattle.std.proofs.Common.{◌≡◌}
use Rattle.c_tree.specs.View.{declr_of}
use Rattle.c_tree.specs.WellFormed.{lists_identifiers}
use Rattle.c_parser.proofs.unit_forms.old.lists_identifiers.Given as goal

abbrev pub invariant-loop-part : goal.invariant-loop-part
invariant-loop-part l = lists_identifiers (declr_of l.part) ≡ lists_identifiers (declr_of l.declr)
