use Rattle.std.proofs.Common.{◌≡◌, ◌<◌, ◌^◌, option_map, drop}
use Rattle.path_checker.specs.Lines.{capped, number_behind}
use Rattle.path_checker.proofs.lines.number_behind.Given as goal

abbrev pub invariant-loop-digit : goal.invariant-loop-digit
invariant-loop-digit l =
    (l.number < 2 ^ 32) × (option_map capped (number_behind l.number (drop l.digit-index l.digits))
    ≡ option_map capped (number_behind 0 l.digits))
