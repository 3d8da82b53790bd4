use Rattle.std.proofs.Common.{◌≡◌, ◌≤◌, Some, All, take}
use Rattle.path_checker.specs.Lines.{number_behind}
use Rattle.certificate_reader.proofs.fronts.numeral.Given as goal

abbrev pub invariant-loop-at : goal.invariant-loop-at
invariant-loop-at l =
    record { writes : number_behind 0 (take l.at l.text) ≡ Some l.number; bare : All (λ b. 48 ≤ b) (take l.at l.text) }
