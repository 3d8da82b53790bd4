use Rattle.std.proofs.Common.{◌≡◌}
use Rattle.c_tree.specs.View.{declr_of}
use Rattle.c_tree.specs.WellFormed.{ends_starred}
use Rattle.declr_forms.proofs.parameters.ends_starred.Given as goal

abbrev pub invariant-loop-part : goal.invariant-loop-part
invariant-loop-part l = ends_starred (declr_of l.part) ≡ ends_starred (declr_of l.declr)
