use Rattle.std.proofs.Common.{◌≡◌, ◌-◌}
use Rattle.sig_writer.specs.Nodes.{numbers}
use Rattle.sig_writer.specs.Saying.{some_says}
use Rattle.sig_writer.proofs.lines.says_some.Given as goal

-- what is left says something where all do
abbrev pub invariant-loop-n : goal.invariant-loop-n
invariant-loop-n l =
    some_says l.said (numbers (l.n-end - l.n) l.n) ≡ some_says l.said (numbers (l.n-end - l.initial.n) l.initial.n)
