use Rattle.std.proofs.Common.{◌≡◌, ◌++◌}
use Rattle.certificate_text.proofs.Setting.{sets_from}
use Rattle.certificate_text.proofs.text.put_sets.Given as goal

abbrev pub invariant-ends : goal.invariant-ends
invariant-ends l = l.out.items ++ sets_from l.graph l.part l.end ≡ l.fn.out.items ++ sets_from l.graph l.part 0
