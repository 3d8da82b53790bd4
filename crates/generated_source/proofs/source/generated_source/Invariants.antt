use Rattle.std.proofs.Common.{◌≡◌}
use Rattle.generated_source.specs.Source.{functions_text}
use Rattle.generated_source.proofs.source.generated_source.Given as goal

abbrev pub invariant-loop-called : goal.invariant-loop-called
invariant-loop-called l = l.text.items ≡ functions_text l.called
